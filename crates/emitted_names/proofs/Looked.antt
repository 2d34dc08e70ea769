-- What a look at a node tells of it.
use Rattle.std.proofs.Common.{◌≡◌, ℕ, ◌≤◌, false, List, [], ◌∷◌, Some, slice_get, sym, arith}
use Rattle.std.proofs.lemmas.Option.{get_or_from_slice_get}
use Rattle.wb_terms.specs.declared.nodes.Node.{Node}
use Rattle.wb_terms.specs.declared.nodes.Node.TheVariants.{Truth}
use Rattle.wb_terms.specs.Graph.{Graph, AllBelow}
use Rattle.emitted_modules.specs.Nodes.{node_at}

pub node_is : (g : Graph) (k : ℕ) (n : Node) → slice_get g.nodes k ≡ Some n → n ≡ node_at g k
node_is g k n e = sym (get_or_from_slice_get g.nodes k n (Truth false) e)

pub below_more : (n m : ℕ) (ks : List ℕ) → n ≤ m → AllBelow n ks → AllBelow m ks
below_more n m [] l h = tt
below_more n m (k ∷ ks) l h = (omega (arith, h.0, l), below_more n m ks l h.1)
