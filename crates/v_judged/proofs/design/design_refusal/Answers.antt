use Rattle.std.proofs.Common.{sym, subst}
use Rattle.std.specs.Prelude.{IfOk}
use Rattle.verilog_meaning.specs.Settled.{Design}
use Rattle.v_syntax.specs.Source.{source_of}
use Rattle.v_judged.specs.Refusal.{IsJudged, IsDesignRefusal}
use Rattle.v_judged.proofs.design.design_refusal.Goals as goal
use Rattle.v_judged.proofs.design.design_refusal.Goals.{in-Refused, in-Accepted}

pub returns : goal.returns
returns c =
    let d : Design = record { source = source_of c.args.tree.now; top = c.args.top.now; clock = c.args.clock.now } in
    elim c.match-told.branch [
      | in-Refused w ↦ subst (λ r. IfOk r (IsDesignRefusal d)) (sym w.result-is) (subst (IsJudged d) w.in-Refused.is c.in_ok-told.ensures)
      | in-Accepted w ↦ subst (λ r. IfOk r (IsDesignRefusal d)) (sym w.result-is) ((subst (IsJudged d) w.in-Accepted.is c.in_ok-told.ensures).0)
    ]
