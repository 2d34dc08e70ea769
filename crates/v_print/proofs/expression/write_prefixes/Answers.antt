use Rattle.std.proofs.Common.{true, false, refl, ◌∷◌}
use Rattle.std.proofs.lemmas.List.{get_or_default}
use Rattle.verilog_text.specs.Token.{mark}
use Rattle.v_token.specs.View.{mark_of}
use Rattle.v_print.proofs.Arms.{prefixes_front, one_prefix}
use Rattle.v_print.proofs.Loops.{loop_begins, loop_goes_on, loop_ends}
use Rattle.v_print.proofs.Written.{then}
use Rattle.v_print.proofs.expression.write_prefixes.Goals as goal

pub loop-operator-init : goal.loop-operator-init
loop-operator-init c = loop_begins prefixes_front c.args.operators.now false c.args.out.now

pub loop-operator-preserved : goal.loop-operator-preserved
loop-operator-preserved c = loop_goes_on prefixes_front c.args.operators.now c.loop-operator.operator-index _ c.loop-operator.started true (λ r. mark (mark_of c.prefix_mark.result) ∷ r) c.loop-operator-test.true (get_or_default c.args.operators.now c.loop-operator.operator-index _ _ c.loop-operator-test.true) (one_prefix c.loop-operator.started (mark_of c.prefix_mark.result) _ c.prefix_mark.ensures) c.loop-operator.invariant (then c.in_ok-blank_if.ensures c.in_ok-mark.ensures)

pub returns : goal.returns
returns c = loop_ends prefixes_front c.args.operators.now c.loop-operator.operator-index c.loop-operator.started c.loop-operator-test.false (λ r. refl) c.loop-operator.invariant
