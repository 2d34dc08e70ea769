-- What was elaborated under the names of one scope, as parts of a design with these names.
use Rattle.std.specs.Prelude.{map, string_bytes}
use Rattle.v_lower.specs.Table.{images_at}
use Rattle.v_design.specs.Bits.{counted_bits}
use Rattle.v_design.specs.Parts.{Parts}
use Rattle.v_elab.specs.declared.elements.Elements.{Elements}

abbrev pub elements_of : Elements → Parts
elements_of x = record {
  graph = x.terms;
  register_count = x.register_count;
  next = map (λ id. id.0) x.next.items;
  bits = map counted_bits x.bits.items;
  settled = images_at x.table;
  outputs = map string_bytes x.outputs.items;
}
