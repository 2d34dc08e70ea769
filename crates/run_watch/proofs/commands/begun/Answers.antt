use Rattle.ila_model.specs.Model.{model_of}
use Rattle.run_watch.proofs.Starting.{none_begun, no_state}
use Rattle.run_watch.proofs.commands.begun.Goals as goal

pub returns-in-None-2 : goal.returns-in-None-2
returns-in-None-2 c =
    none_begun (model_of c.args.model.now) c.args.q.now c.args.inputs.now c.args.other.now c.in-Some.other c.in_ok-instruction-in-Some.field-0 c.in-Some.is
    c.in_ok-instruction-in-Some.ensures c.in-None-2.is

pub returns-in_default : goal.returns-in_default
returns-in_default c = λ x. no_state (model_of c.args.model.now) c.args.q.now c.args.inputs.now c.in_ok-stepped.stepped c.in_ok-stepped.ensures c.in_default.not-Next x.1
