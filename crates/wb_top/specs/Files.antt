-- The files of a command: how long they may be, what they are for a check, and by which kind Verilog files are refused.
use Rattle.std.specs.Prelude.{◌≡◌, ℕ, suc, Bool, cond, nat_le, List, [], ◌∷◌, length, map, Option, Some, None, Result, Ok, Err, IfSome}
use Rattle.wb_values.specs.Value.{Name}
use Rattle.verilog_text.specs.Token.{Token}
use Rattle.verilog_text.specs.Text.{Refusal}
use Rattle.verilog_trees.specs.Syntax.{Source}
use Rattle.verilog_text.specs.Grammar.{IsSource}
use Rattle.refinement.specs.Map.{Setting}
use Rattle.check_cases.specs.Kinds.{text_kind, tree_kind}
use Rattle.check_cases.specs.Files.{IsSettingOf, IsKindOfFiles}

-- a file has at most so many bytes
abbrev pub most_bytes : ℕ
most_bytes = 4194304

unfoldable pub has_fitting_length : List ℕ → Bool
has_fitting_length bytes = nat_le (length bytes) most_bytes

-- the number of the first file that is too long, where they are numbered from k on
abbrev pub first_long : (k : ℕ) → List (List ℕ) → Option ℕ
first_long k [] = None
first_long k (bytes ∷ files) = cond (has_fitting_length bytes) (first_long (suc k) files) (Some k)

-- The files of a check, in their order, stand for a setting: a model, a source of Verilog, and a map.
abbrev pub StandFor : List (List ℕ) → Setting → Type 0
StandFor (m ∷ p ∷ ds) s = IsSettingOf m p ds s
StandFor _ s = ⊥

-- The first kind that refuses the files of a check.
abbrev pub AreRefusedBy : List (List ℕ) → (kind : List ℕ) → Type 0
AreRefusedBy (m ∷ p ∷ ds) kind = IsKindOfFiles m p ds (Some kind)
AreRefusedBy _ kind = ⊥

-- The kind by which Verilog files are refused before their design is looked at, if there is one: they have no tokens, or their tokens have
-- no tree.
abbrev pub IsKindOfText : Result (List Token) Refusal → Option (List ℕ) → Type 0
IsKindOfText (Err r) kind = kind ≡ Some (text_kind r)
IsKindOfText (Ok tokens) (Some kind) = (kind ≡ tree_kind) × ((ms : Source) → ¬ IsSource ms tokens)
IsKindOfText (Ok tokens) None = (ms : Source) × IsSource ms tokens

-- These are the bytes under these names, where it is told what is held.
abbrev pub AreHeld : Option (Name → Option (List ℕ)) → List Name → List (List ℕ) → Type 0
AreHeld held names contents = IfSome held (λ files. map files names ≡ map Some contents)
