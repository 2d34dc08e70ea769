-- Spans by their names, and the bits that they stand for.
use Rattle.std.specs.Prelude.{ℕ, List, [], Option, Some, None}
use Rattle.std.specs.Borrow.{Bor}
use Rattle.std.specs.Global.{Global}
use Rattle.std.specs.declared.vec.Vec.{Vec}
use Rattle.std.specs.BTreeMap.{BTreeMap}
use Rattle.wb_values.specs.Value.{Name}
use Rattle.verilog_designs.specs.Reads.{BitSet}
use Rattle.v_flow.specs.declared.span.Span.{Span}
use Rattle.v_flow.specs.Spans.{bits_in}
use Rattle.v_hier.specs.Tables.{under_name}

abbrev pub items_of : Option (Vec Span Global) → List Span
items_of None = []
items_of (Some v) = v.items

abbrev pub spans_under : BTreeMap (Bor (List ℕ)) (Vec Span Global) → Name → List Span
spans_under t n = items_of (under_name t n)

-- the bits of all spans of the table
abbrev pub bits_under : BTreeMap (Bor (List ℕ)) (Vec Span Global) → BitSet
bits_under t n k b = bits_in (spans_under t n) n k b
