use Rattle.v_design.specs.Seen.{parts_of}
use Rattle.run_terms.proofs.Cycles.{IsUnrolledTo}
use Rattle.run_terms.proofs.unrolling.run_terms.Given as goal

abbrev pub invariant-loop-cycle : goal.invariant-loop-cycle
invariant-loop-cycle l =
    IsUnrolledTo (parts_of l.design) l.cycles l.cycle l.terms l.first.items l.zeros.items l.registers.items l.read.items l.shown.items
