use Rattle.ila_file.specs.View.{machine_view}
use Rattle.ila_rules.specs.View.{flaws_view}
use Rattle.ila_rules.proofs.Walks.{whole}
use Rattle.ila_rules.proofs.judge.judge_parts.Goals as goal

pub returns : goal.returns
returns c =
    whole c.deref.result.now c.args.model.now.inputs.items c.new-frames.result.items c.push.new.self.items c.in_ok-inputs.inputs (machine_view c.args.model.now.machine)
    (flaws_view c.new-findings.result) (flaws_view c.input_frame.new.findings) (flaws_view c.judge_machine.new.findings)
    c.deref.ensures.value c.new-frames.ensures.items c.in_ok-push.ensures.items c.new-findings.ensures c.in_ok-inputs.ensures.flaws c.in_ok-inputs.ensures.look c.in_ok-inputs.ensures.states
    c.in_ok-judge_machine.ensures.flaws
