use Rattle.std.proofs.Common.{IfOk, sym, subst}
use Rattle.ila_model.specs.Model.{model_of}
use Rattle.ila_child.specs.State.{state_valuation, input_valuation}
use Rattle.run_watch.specs.Turns.{IsStart}
use Rattle.run_watch.proofs.Starting.{next_start, stuck_start, long_start, no_start}
use Rattle.run_watch.proofs.commands.starting.Goals as goal
use Rattle.run_watch.proofs.commands.starting.Goals.{in-Next, in-ChildStuck+in_ok-found-in-ChildStuck, in-ChildTooLong+in_ok-found-in-ChildTooLong, in_default}

pub returns : goal.returns
returns c =
    let m = model_of c.args.model.now in
    let q = c.args.state.now in
    let ws = c.args.inputs.now in
    let a = c.in_ok-stepped.stepped in
    elim c.match-stepped.branch [
      | in-Next w ↦
          subst (λ r. IfOk r (IsStart m (state_valuation m q) (input_valuation m ws))) (sym w.result-is) (next_start m q ws a _ _ c.in_ok-stepped.ensures w.in-Next.is)
      | in-ChildStuck+in_ok-found-in-ChildStuck w ↦
          subst (λ r. IfOk r (IsStart m (state_valuation m q) (input_valuation m ws))) (sym w.result-is)
          (stuck_start m q ws a _ _ w.in_ok-found-in-ChildStuck.found c.in_ok-stepped.ensures w.in-ChildStuck.is w.in_ok-found-in-ChildStuck.ensures)
      | in-ChildTooLong+in_ok-found-in-ChildTooLong w ↦
          subst (λ r. IfOk r (IsStart m (state_valuation m q) (input_valuation m ws))) (sym w.result-is)
          (long_start m q ws a _ w.in_ok-found-in-ChildTooLong.found c.in_ok-stepped.ensures w.in-ChildTooLong.is w.in_ok-found-in-ChildTooLong.ensures)
      | in_default w ↦
          subst (λ r. IfOk r (IsStart m (state_valuation m q) (input_valuation m ws))) (sym w.result-is)
          (no_start m q ws a c.in_ok-stepped.ensures w.in_default.not-Next w.in_default.not-ChildStuck w.in_default.not-ChildTooLong)
    ]
