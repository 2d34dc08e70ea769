-- Spans under the new names of their names.
use Rattle.std.specs.Prelude.{◌↔◌, List}
use Rattle.wb_values.specs.Value.{Name}
use Rattle.verilog_designs.specs.Reads.{BitSet}
use Rattle.v_flow.specs.declared.span.Span.{Span}
use Rattle.v_flow.specs.Spans.{bits_of, bits_in}
use Rattle.v_depend.specs.Resting.{OneIsUnsettled}
use Rattle.map_inputs.specs.Bits.{OneIsMarked}

-- The second span has the bits of the first under its new name: one of its bits is marked where one of those is.
abbrev pub IsRenamedSpan : (Name → Name) → Span → Span → Type 0
IsRenamedSpan f x y = (p : BitSet) → OneIsUnsettled p (bits_of y) ↔ OneIsMarked f p (bits_of x)

-- So do the spans of the second list.
abbrev pub AreRenamedSpans : (Name → Name) → List Span → List Span → Type 0
AreRenamedSpans f xs ys = (p : BitSet) → OneIsUnsettled p (bits_in ys) ↔ OneIsMarked f p (bits_in xs)
