use Rattle.std.proofs.Common.{◌≡◌, false, drop, map}
use Rattle.std.specs.List.{list_any}
use Rattle.verilog_meaning.specs.Register.{clocked_blocks}
use Rattle.verilog_designs.specs.Paths.{has_blocking}
use Rattle.wb_terms.specs.Graph.{Graph}
use Rattle.v_syntax.specs.Source.{item_of}
use Rattle.v_value.specs.Scope.{scope_at}
use Rattle.v_operators.specs.Meaning.{Grows}
use Rattle.v_lower.specs.Lowered.{Images, HasImages}
use Rattle.v_lower.specs.Table.{images_at}
use Rattle.v_edge.specs.Edge.{AreSound, AreUpdated}
use Rattle.v_edge.proofs.edge.lower_items.Given as goal

abbrev pub invariant-loop-item : goal.invariant-loop-item
invariant-loop-item l = record {
  grows : Grows l.initial.terms l.terms;
  known : HasImages (scope_at l.scope) (images_at l.table) l.terms;
  known_next : HasImages (scope_at l.scope) (images_at l.next) l.terms;
  sound : AreSound (scope_at l.scope) (clocked_blocks (map item_of (drop l.item-index l.items)));
  waits : list_any has_blocking (clocked_blocks (map item_of (drop l.item-index l.items))) ≡ false;
  left : (b m : Images) (h : Graph) → AreUpdated (scope_at l.scope) (images_at l.table) (images_at l.next) l.terms (clocked_blocks (map item_of (drop l.item-index l.items))) b m h
      → AreUpdated (scope_at l.scope) (images_at l.initial.table) (images_at l.initial.next) l.initial.terms (clocked_blocks (map item_of l.items)) b m h;
}
