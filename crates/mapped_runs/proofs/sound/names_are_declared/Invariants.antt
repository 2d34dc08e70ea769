use Rattle.std.proofs.Common.{ℕ, ◌<◌, length, slice_index_or}
use Rattle.wb_terms.specs.declared.nodes.Node.{Node}
use Rattle.wb_terms.specs.Graph.{AllBelow, names_of}
use Rattle.mapped_runs.proofs.sound.names_are_declared.Given as goal

abbrev pub invariant-loop-k : goal.invariant-loop-k
invariant-loop-k l = (j : ℕ) (d : Node) → j < l.k → AllBelow (length l.terms.names) (names_of (slice_index_or l.terms.nodes j d))
