-- Lists to which the names in a map's expressions are added.
use Rattle.std.specs.Prelude.{◌≡◌, ◌++◌, List, [], ◌∷◌, map}
use Rattle.std.specs.Borrow.{Bor}
use Rattle.std.specs.Prelude.{ℕ}
use Rattle.wb_values.specs.Value.{Name}
use Rattle.model_meaning.specs.Model.{Model}
use Rattle.verilog_trees.specs.Syntax.{Expression}
use Rattle.verilog_designs.specs.Names.{names_in}
use Rattle.map_files.specs.Written.{Text, InstructionEntry}
use Rattle.map_rules.specs.Case.{is_memory_named}
use Rattle.map_rules.specs.Expressions.{ReadsAs}
use Rattle.map_rules.specs.Accepted.{IsStateRead}
use Rattle.map_trees.specs.declared.tokens.TextTokens.{TextTokens}
use Rattle.map_trees.specs.declared.tokens.StateTokens.{StateTokens}
use Rattle.map_trees.specs.declared.tokens.EntryTokens.{EntryTokens}
use Rattle.map_trees.specs.declared.tokens.InstructionTokens.{InstructionTokens}
use Rattle.map_trees.specs.Tokens.{IsTokens, IsStateEntry, IsInputEntry, IsInstructionEntry}

-- the names that texts of the code are
abbrev pub names_of_texts : List (Bor (List ℕ)) → List Name
names_of_texts texts = map (λ t. t.now) texts

-- These are the names in the expression that a text with these tokens is read as,
abbrev pub AreNamesInText : TextTokens → List Name → Type 0
AreNamesInText x names = (t : Text) (e : Expression) → IsTokens x t → ReadsAs t e → names ≡ names_in e

-- that a state's entry is read as, of a memory its path,
abbrev pub AreNamesInState : StateTokens → List Name → Type 0
AreNamesInState x names =
    (m : Model) (entry : Name × Text) (e : Expression) → IsStateEntry (is_memory_named m) x entry → IsStateRead m entry.0 entry.1 e → names ≡ names_in e

-- that an input's entry is read as,
abbrev pub AreNamesInInput : EntryTokens → List Name → Type 0
AreNamesInInput x names = (entry : Name × Text) (e : Expression) → IsInputEntry x entry → ReadsAs entry.1 e → names ≡ names_in e

-- that the commit of an instruction's entry is read as.
abbrev pub AreNamesInCommit : InstructionTokens → List Name → Type 0
AreNamesInCommit x names = (entry : InstructionEntry) (e : Expression) → IsInstructionEntry x entry → ReadsAs entry.commit e → names ≡ names_in e

-- the names in each element of a list, one after the other
abbrev pub AreNamesInAll : {A : Type 0} → (A → List Name → Type 0) → List A → List Name → Type 0
AreNamesInAll AreNamesIn [] names = names ≡ []
AreNamesInAll AreNamesIn (x ∷ xs) names =
    (own : List Name) × (rest : List Name) × AreNamesIn x own × AreNamesInAll AreNamesIn xs rest × (names ≡ own ++ rest)

-- A list is what it was, and then such names.
pub record HasAdded (AreSuch : List Name → Type 0) (old new : List (Bor (List ℕ))) : Type 0 where
  pub names : List Name
  pub are_such : AreSuch names
  pub are_added : names_of_texts new ≡ names_of_texts old ++ names
