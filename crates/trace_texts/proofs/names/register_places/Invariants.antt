use Rattle.std.proofs.Common.{◌≡◌, ◌-◌, length, []}
use Rattle.v_design.specs.Parts.{registers_of}
use Rattle.v_design.specs.Seen.{parts_of}
use Rattle.trace_texts.specs.Numbers.{numbers_in}
use Rattle.trace_texts.specs.Order.{in_name_order, register_name, is_traced}
use Rattle.trace_texts.proofs.names.register_places.Given as goal

abbrev pub invariant-loop-place : goal.invariant-loop-place
invariant-loop-place l =
    let d = parts_of l.design in
    in_name_order (register_name d) (is_traced d) l.place (length (registers_of d) - l.place) (numbers_in l.names.entries)
    ≡ in_name_order (register_name d) (is_traced d) 0 (length (registers_of d)) []
