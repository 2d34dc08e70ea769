-- What the code's lines stand for.
use Rattle.std.specs.Prelude.{Bool, List, map, Option, Some, None}
use Rattle.scripts.specs.Script as meaning
use Rattle.scripts.specs.Script.{Settables, state_line, input_line}
use Rattle.ila_sim.specs.declared.line.Line.{Line}
use Rattle.ila_sim.specs.declared.line.Line.TheVariants.{State, Input}
use Rattle.ila_sim.specs.declared.line.Found.{Found}
use Rattle.ila_sim.specs.declared.set.Set.{Set}
use Rattle.ila_sim.specs.Names.{settable_of}
use Rattle.ila_sim.specs.Sets.{set_at, are_right}

abbrev pub found_view : Found → Settables
found_view n = record { states = map settable_of n.states.settables.now; inputs = map settable_of n.inputs.settables.now }

abbrev pub sets_view : List meaning.Settable → List Set → List meaning.Set
sets_view ss = map (set_at ss)

abbrev pub line_view : Settables → Line → meaning.Line
line_view n (State s) = state_line (sets_view n.states s.items)
line_view n (Input s) = input_line (sets_view n.inputs s.items)

-- what an input line sets
abbrev pub input_of : Option meaning.Line → Option (List meaning.Set)
input_of (Some (input_line ss)) = Some ss
input_of (Some (state_line ss)) = None
input_of None = None

-- The settings of the line are of these names.
abbrev pub is_line_within : Settables → Line → Bool
is_line_within n (State s) = are_right n.states s.items
is_line_within n (Input s) = are_right n.inputs s.items
