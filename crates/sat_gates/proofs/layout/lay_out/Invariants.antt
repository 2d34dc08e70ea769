use Rattle.std.proofs.Common.{ℕ, length}
use Rattle.std.specs.Ordering.{nat_cmp}
use Rattle.std.specs.BTreeMap.{get}
use Rattle.sat_gates.proofs.Laying.{IsLaying, among}
use Rattle.sat_gates.proofs.layout.lay_out.Given as goal

abbrev pub invariant-loop-name : goal.invariant-loop-name
invariant-loop-name l = (b : ℕ) × IsLaying l.terms.names (among l.fn.used.keys) l.used.keys (get nat_cmp l.firsts) l.inputs b

abbrev pub decreases-loop-name : goal.decreases-loop-name
decreases-loop-name l = length l.used.keys
