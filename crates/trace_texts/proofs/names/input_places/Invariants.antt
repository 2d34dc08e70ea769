use Rattle.std.proofs.Common.{◌≡◌, ◌-◌, length, []}
use Rattle.v_design.specs.Parts.{inputs_of}
use Rattle.v_design.specs.Seen.{parts_of}
use Rattle.trace_texts.specs.Numbers.{numbers_in}
use Rattle.trace_texts.specs.Order.{in_name_order, input_name, is_any}
use Rattle.trace_texts.proofs.names.input_places.Given as goal

abbrev pub invariant-loop-place : goal.invariant-loop-place
invariant-loop-place l =
    let d = parts_of l.design in
    in_name_order (input_name d) is_any l.place (length (inputs_of d) - l.place) (numbers_in l.names.entries)
    ≡ in_name_order (input_name d) is_any 0 (length (inputs_of d)) []
