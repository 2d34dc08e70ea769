use Rattle.std.proofs.Common.{◌++◌, List}
use Rattle.model_terms.proofs.Starting.{IsStarting}
use Rattle.model_terms.proofs.starts.start.Given as goal

abbrev pub invariant-loop-place : goal.invariant-loop-place
invariant-loop-place l = IsStarting l.fn.terms l.terms l.model.parts.terms.names (l.states ++ l.inputs) l.point.items l.place
