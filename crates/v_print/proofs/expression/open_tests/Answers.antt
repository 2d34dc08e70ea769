use Rattle.std.proofs.Common.{refl}
use Rattle.std.specs.Prelude.{nat_lt}
use Rattle.v_print.specs.Spelled.{opened}
use Rattle.v_print.specs.Links.{test_openings_before}
use Rattle.v_print.proofs.Arms.{one_test_opening}
use Rattle.v_print.proofs.Loops.{loop_begins, loop_goes_on, loop_ends}
use Rattle.v_print.proofs.expression.open_tests.Goals as goal

pub loop-link-init : goal.loop-link-init
loop-link-init c = loop_begins test_openings_before c.args.links.now c.args.first c.args.out.now

pub loop-link-preserved : goal.loop-link-preserved
loop-link-preserved c = loop_goes_on test_openings_before c.args.links.now c.loop-link.link-index c.link-item.result c.loop-link.level c.test_level-own.result (λ r. opened (nat_lt c.loop-link.level c.test_level-own.result) r) c.loop-link-test.true c.link-item.is (one_test_opening c.loop-link.level c.test_level-own.result c.link-item.result c.test_level-own.ensures) c.loop-link.invariant c.in_ok-open_if.ensures

pub returns : goal.returns
returns c = loop_ends test_openings_before c.args.links.now c.loop-link.link-index c.loop-link.level c.loop-link-test.false (λ r. refl) c.loop-link.invariant
