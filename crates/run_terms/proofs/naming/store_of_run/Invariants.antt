use Rattle.std.proofs.Common.{◌≡◌, ◌++◌}
use Rattle.v_design.specs.Seen.{parts_of}
use Rattle.v_design.specs.Parts.{registers_of, inputs_of}
use Rattle.run_terms.specs.Names.{numbered, repeated}
use Rattle.run_terms.proofs.naming.store_of_run.Given as goal

abbrev pub invariant-loop-cycle : goal.invariant-loop-cycle
invariant-loop-cycle l = l.terms.names ≡ numbered 0 (registers_of (parts_of l.design) ++ repeated l._cycle (inputs_of (parts_of l.design)))
