use Rattle.v_print.specs.Links.{test_openings_before}
use Rattle.v_print.proofs.Loops.{IsLoop}
use Rattle.v_print.proofs.expression.open_tests.Given as goal

abbrev pub invariant-loop-link : goal.invariant-loop-link
invariant-loop-link l = IsLoop test_openings_before l.links l.link-index l.level l.initial.out l.out (test_openings_before l.fn.first l.links)
