-- The rules on names and bounds of a map, which that of an emitted design does not break.
use Rattle.std.specs.Prelude.{◌≤◌, ⊤, List, [], ◌∷◌}
use Rattle.model_meaning.specs.Model.{Model}
use Rattle.model_meaning.specs.Invariant.{IsModel}
use Rattle.verilog_trees.specs.Syntax.{Source}
use Rattle.map_files.specs.Meaning.{MapRule, UnknownState, StateUnmapped, UnknownInput, InputUnmapped, UnknownInstruction, BoundMissing, BadBound}
use Rattle.map_rules.specs.Case.{MapCase}
use Rattle.map_rules.specs.Accepted.{BreaksMapRule, case_of}
use Rattle.emitted_designs.specs.Bounds.{greatest_bound, most_cycles}
use Rattle.emitted_designs.specs.Map.{written_map}

abbrev pub rules_on_names : List MapRule
rules_on_names = UnknownState ∷ StateUnmapped ∷ UnknownInput ∷ InputUnmapped ∷ UnknownInstruction ∷ BoundMissing ∷ BadBound ∷ []

abbrev pub BreaksNone : MapCase → List MapRule → Type 0
BreaksNone c [] = ⊤
BreaksNone c (rule ∷ rules) = (¬ BreaksMapRule c rule) × BreaksNone c rules

-- Whatever the source, the written map of an emitted design breaks none of them, where a map may state the bounds.
abbrev pub EmittedMapsNameAll : Type 0
EmittedMapsNameAll = (m : Model) (s : Source) → IsModel m → greatest_bound m ≤ most_cycles → BreaksNone (case_of (written_map m) m s) rules_on_names
