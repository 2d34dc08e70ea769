-- Which of a map's expressions is the first that uses an input of the top.
use Rattle.std.specs.Prelude.{◌≡◌, ◌<◌, ℕ, Bool, true, false, List, slice_get, Option, Some, None}
use Rattle.verilog_trees.specs.Syntax.{Source}
use Rattle.verilog_meaning.specs.Expression.{Scope}
use Rattle.verilog_meaning.specs.Settled.{Design}
use Rattle.verilog_rules.specs.Expression.{anywhere, broken}
use Rattle.map_rules.specs.Inputs.{UsesInput}
use Rattle.v_places.specs.Below.{Spot}
use Rattle.map_judged.specs.declared.expression.MapExpression.{MapExpression}
use Rattle.map_judged.specs.declared.known.KnownNames.{KnownNames}
use Rattle.map_judged.specs.Asked.{Asked, asked_list, names_asked, AreNamed}
use Rattle.map_judged.specs.Flaws.{IsFirstFlaw}
use Rattle.map_judged.specs.Known.{StandsAt, AreKnown}

-- the flag with this number is set
abbrev pub IsMarked : List Bool → ℕ → Type 0
IsMarked marks k = slice_get marks k ≡ Some true

-- The first of the marked expressions that uses an input of the top, by its number; or none of them uses one.
abbrev pub IsFirstUser : Design → List Asked → (marks : List Bool) → Option ℕ → Type 0
IsFirstUser d xs marks None = (k : ℕ) (x : Asked) → slice_get xs k ≡ Some x → IsMarked marks k → ¬ UsesInput d x.tree
IsFirstUser d xs marks (Some i) =
    ((x : Asked) × (slice_get xs i ≡ Some x) × IsMarked marks i × UsesInput d x.tree)
    × ((k : ℕ) (x : Asked) → k < i → slice_get xs k ≡ Some x → IsMarked marks k → ¬ UsesInput d x.tree)

-- In each tree numbers fit their widths, and parts have bits. In the tree of a text it is so.
abbrev pub AreOfTexts : List Asked → Type 0
AreOfTexts xs = (k : ℕ) (x : Asked) (s : Scope) → slice_get xs k ≡ Some x → (broken s anywhere x.tree).misshapen ≡ false

-- The design has this source and stands at these places, what the names in the expressions mean in it is known, the expressions are of
-- texts, and none of them has a flaw.
pub record AreFlawlessIn (d : Design) (source : Source) (spots : List Spot) (xs : List MapExpression) (names : KnownNames) : Type 0 where
  pub stands : StandsAt d spots
  pub is_source : d.source ≡ source
  pub known : AreKnown d (names_asked (asked_list xs)) names
  pub named : AreNamed xs
  pub of_texts : AreOfTexts (asked_list xs)
  pub flawless : IsFirstFlaw d (asked_list xs) None
