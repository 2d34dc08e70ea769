-- The expressions of a whole map in their order, and what is told of them.
use Rattle.std.specs.Prelude.{◌↔◌, ◌⊎◌, cond, not, List, [], ◌∷◌, ◌++◌, map, Option, None, is_some, IsTrue, ℕ}
use Rattle.wb_values.specs.Value.{Sort, Entries}
use Rattle.model_meaning.specs.Model.{Model}
use Rattle.verilog_trees.specs.Syntax.{Expression}
use Rattle.refinement.specs.Map.{Map}
use Rattle.map_rules.specs.Case.{MapCase, case_design, state_sort, input_sort, is_memory_named}
use Rattle.map_rules.specs.Expressions.{HasBadExpression, is_reset}
use Rattle.map_rules.specs.Mapped.{wanted_width, HasWidthMismatch}
use Rattle.map_rules.specs.Accepted.{StandsForMap}
use Rattle.map_judged.specs.declared.flaw.FirstFlaw.{FirstFlaw}
use Rattle.map_judged.specs.Asked.{Asked}
use Rattle.map_judged.specs.Flaws.{IsFirstFlaw, IsFirstMismatch}

-- a condition, of which no width is wanted
abbrev pub condition : Expression → Asked
condition e = record { tree = e; wanted = None }

-- what a state or an input of this sort is mapped to
abbrev pub valued : Option Sort → Expression → Asked
valued s e = record { tree = e; wanted = wanted_width s }

-- the states that are no memories
abbrev pub state_values : Model → Entries Expression → List Asked
state_values m [] = []
state_values m (e ∷ es) = cond (is_memory_named m e.0) (state_values m es) (valued (state_sort m e.0) e.1 ∷ state_values m es)

abbrev pub input_values : Model → Entries Expression → List Asked
input_values m es = map (λ e. valued (input_sort m e.0) e.1) es

-- All expressions of a map, in the order of its keys: each but the paths of memories, with the width that is wanted of it.
abbrev pub asked_in : Model → Map → List Asked
asked_in m p =
    map condition p.assume ++ (map condition p.invariants ++ condition p.start
    ∷ (state_values m p.states ++ (input_values m p.inputs ++ map (λ i. condition i.commit) p.instructions)))

-- The written map breaks the rule on expressions exactly where one of its expressions has a flaw, or the reset is none.
abbrev pub FlawsAreBadExpressions : Type 0
FlawsAreBadExpressions =
    (c : MapCase) (p : Map) (o : Option FirstFlaw) → StandsForMap c.model c.written p → IsFirstFlaw (case_design c) (asked_in c.model p) o
    → HasBadExpression c ↔ (IsTrue (is_some o) ⊎ IsTrue (not (is_reset (case_design c) c.written.reset.signal)))

-- It breaks the rule on widths exactly where one of its expressions has another width than is wanted.
abbrev pub MismatchesAreWidthMismatches : Type 0
MismatchesAreWidthMismatches =
    (c : MapCase) (p : Map) (o : Option ℕ) → StandsForMap c.model c.written p → IsFirstMismatch (case_design c) (asked_in c.model p) o
    → HasWidthMismatch c ↔ IsTrue (is_some o)
