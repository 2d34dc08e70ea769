use Rattle.std.proofs.Common.{◌≡◌, ◌≤◌, ◌-◌, ◌++◌, take, drop}
use Rattle.run_terms.specs.Names.{numbered}
use Rattle.run_terms.proofs.naming.declare_part.Given as goal

abbrev pub invariant-loop-place : goal.invariant-loop-place
invariant-loop-place l = (l.first ≤ l.place) × (l.terms.names ≡ numbered 0 (l.fn.terms.names ++ take (l.place - l.first) (drop l.first l.source.names)))
