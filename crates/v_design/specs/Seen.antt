-- What the code's records of a design, of registers and of inputs stand for.
use Rattle.std.specs.Prelude.{List, map, string_bytes}
use Rattle.wb_values.specs.Value.{Value, number}
use Rattle.wb_terms.specs.Environment.{as_value}
use Rattle.v_design.specs.declared.design.Design.{Design}
use Rattle.v_design.specs.declared.values.Registers.{Registers}
use Rattle.v_design.specs.declared.values.Inputs.{Inputs}
use Rattle.v_design.specs.Table.{terms_at}
use Rattle.v_design.specs.Bits.{counted_bits}
use Rattle.v_design.specs.Parts.{Parts}

abbrev pub parts_of : Design → Parts
parts_of d = record {
  graph = d.terms;
  register_count = d.register_count;
  next = map (λ id. id.0) d.next.items;
  bits = map counted_bits d.bits.items;
  settled = terms_at d.settled.items;
  outputs = map string_bytes d.outputs.items;
}

abbrev pub register_values : Registers → List Value
register_values r = map as_value r.values.items

abbrev pub input_values : Inputs → List Value
input_values i = map number i.numbers.items
