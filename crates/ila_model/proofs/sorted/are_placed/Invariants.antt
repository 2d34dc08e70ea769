use Rattle.std.proofs.Common.{◌≡◌, ◌≤◌, drop}
use Rattle.ila_model.specs.Sorted.{are_placed}
use Rattle.ila_model.proofs.sorted.are_placed.Given as goal

abbrev pub invariant-loop-child : goal.invariant-loop-child
invariant-loop-child l = record {
  within : l.next ≤ l.total;
  rest : are_placed l.from l.total l.children ≡ are_placed l.next l.total (drop l.child-index l.children);
}
