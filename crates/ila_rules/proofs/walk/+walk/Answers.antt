use Rattle.ila_rules.specs.View.{flaws_view}
use Rattle.ila_rules.proofs.Walks.{with_child, without_child, machine_all}
use Rattle.ila_rules.proofs.walk.+walk.Goals as goal

pub judge_instruction-returns-in_ok-judge_child-in-Some-clause-flaws :
    goal.judge_instruction-returns-in_ok-judge_child-in-Some-clause-flaws
judge_instruction-returns-in_ok-judge_child-in-Some-clause-flaws t c =
    with_child c.args.frames.now.items c.deref-2.result.now c.args.last.now c.args.index c.args.instruction.now c.deref.result.now c.in-Some.child c.deref-in-Some.result.now (flaws_view c.args.findings.now) (flaws_view c.judge_own.new.findings) (flaws_view c.judge_child.new.findings)
    c.deref.ensures.value c.deref-2.ensures.value c.in-Some.is c.deref-in-Some.ensures c.in_ok-judge_own.ensures c.in_ok-judge_child-in-Some.ensures.flaws

pub judge_instruction-returns-in-None-clause-flaws :
    goal.judge_instruction-returns-in-None-clause-flaws
judge_instruction-returns-in-None-clause-flaws t c =
    without_child c.args.frames.now.items c.deref-2.result.now c.args.last.now c.args.index c.args.instruction.now c.deref.result.now (flaws_view c.args.findings.now) (flaws_view c.judge_own.new.findings)
    c.deref.ensures.value c.deref-2.ensures.value c.in-None.is c.in_ok-judge_own.ensures

pub judge_machine-returns-clause-flaws : goal.judge_machine-returns-clause-flaws
judge_machine-returns-clause-flaws t c =
    machine_all c.args.frames.now.items c.enter.new.frames.items c.in_ok-last.last c.args.machine.now c.deref.result.now c.deref-2.result.now c.deref-instruction-items.result.now c.loop-index.index (flaws_view c.args.findings.now) (flaws_view c.enter.new.findings) (flaws_view c.loop-index.findings)
    c.deref.ensures.value c.deref-2.ensures.value c.deref-instruction-items.ensures.value
    c.in_ok-last.ensures.flaws c.in_ok-last.ensures.inner c.in_ok-last.ensures.look c.in_ok-last.ensures.states c.loop-index-test.false c.loop-index.invariant.flaws
