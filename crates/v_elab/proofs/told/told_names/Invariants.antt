use Rattle.std.proofs.Common.{◌≡◌, false, length, map, take}
use Rattle.std.specs.String.{string_bytes}
use Rattle.verilog_meaning.specs.Settled.{Design}
use Rattle.v_places.specs.Views.{spots_of}
use Rattle.v_flat.specs.Numbered.{numbered}
use Rattle.v_flat.specs.Whole.{IsPlacing}
use Rattle.v_elab.specs.Told.{AreToldBy}
use Rattle.v_elab.proofs.told.told_names.Given as goal

abbrev pub invariant-loop-name : goal.invariant-loop-name
invariant-loop-name l = record {
  count : length l.list.items ≡ l.name-index;
  told : (d : Design) → IsPlacing d (spots_of l.places)
      → AreToldBy d (numbered false (spots_of l.places)) (map (λ n. n.now) (take l.name-index l.names)) (map string_bytes l.list.items);
}
