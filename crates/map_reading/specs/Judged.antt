-- What is told of a written map for a model and a design: the map that it stands for, or the first rule that it breaks.
use Rattle.std.specs.Prelude.{◌≡◌, ◌⊎◌, ⊤, List, [], ◌∷◌, Option, Some, None, Result, Ok, Err}
use Rattle.map_files.specs.Meaning.{MapRule, UnknownState, StateUnmapped, UnknownInput, InputUnmapped, BadExpression, WidthMismatch, MapUsesInput, MemoryMismatch, UnknownInstruction, BoundMissing, BadBound}
use Rattle.map_file.specs.Rule.{rule_view}
use Rattle.map_file.specs.declared.stop.MapStop.{MapStop}
use Rattle.map_file.specs.declared.stop.MapStop.TheVariants.{Refused, NoMemory}
use Rattle.map_rules.specs.Case.{MapCase}
use Rattle.map_rules.specs.Accepted.{BreaksMapRule, IsMapRefusedBy, IsMapAccepted, StandsForMap}
use Rattle.map_trees.specs.declared.trees.RefinementMap.{RefinementMap}
use Rattle.map_trees.specs.View.{tree_map_view}

-- the rules on names of states and inputs; those on expressions, which ask for the design; and those on instructions and bounds
abbrev pub name_rules : List MapRule
name_rules = UnknownState ∷ StateUnmapped ∷ UnknownInput ∷ InputUnmapped ∷ []

abbrev pub expression_rules : List MapRule
expression_rules = BadExpression ∷ WidthMismatch ∷ MapUsesInput ∷ MemoryMismatch ∷ []

abbrev pub entry_rules : List MapRule
entry_rules = UnknownInstruction ∷ BoundMissing ∷ BadBound ∷ []

-- The first of these rules that the map breaks, or it breaks none of them.
abbrev pub IsFirstRule : MapCase → List MapRule → Option MapRule → Type 0
IsFirstRule c [] o = o ≡ None
IsFirstRule c (r ∷ rs) o = (BreaksMapRule c r × (o ≡ Some r)) ⊎ ((¬ BreaksMapRule c r) × IsFirstRule c rs o)

-- The refusal is by the first of these rules that is broken.
abbrev pub IsStopped : MapCase → List MapRule → MapStop → Type 0
IsStopped c rs (Refused f) = IsFirstRule c rs (Some (rule_view f.rule))
IsStopped c rs NoMemory = ⊤

-- None of these rules is broken, or the refusal is by the first that is.
abbrev pub IsPassed : MapCase → List MapRule → {A : Type 0} → Result A MapStop → Type 0
IsPassed c rs (Ok x) = IsFirstRule c rs None
IsPassed c rs (Err s) = IsStopped c rs s

-- The map is accepted, and this is the map that it stands for; or it is refused by the first rule that it breaks.
abbrev pub IsMapJudged : MapCase → Result RefinementMap MapStop → Type 0
IsMapJudged c (Ok r) = IsMapAccepted c × StandsForMap c.model c.written (tree_map_view r)
IsMapJudged c (Err (Refused f)) = IsMapRefusedBy c (rule_view f.rule)
IsMapJudged c (Err NoMemory) = ⊤
