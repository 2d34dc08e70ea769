use Rattle.flat_designs.proofs.Edge.{edge_leaves_the_same, modules_in_turn_are_in_order}
use Rattle.flat_designs.proofs.laws.the_edge_leaves_the_same.Goals as goal

pub returns : goal.returns
returns c = record { edge = edge_leaves_the_same; in_turn = modules_in_turn_are_in_order }
