-- Values that break an obligation, and runs that falsify it.
use Rattle.std.proofs.Common.{subst}
use Rattle.refinement.specs.Map.{design_of}
use Rattle.mapped_designs.specs.Runs.{IsRestZero}
use Rattle.mapped_runs.specs.Breaking.{BreakingRestsOnItsCycles, FalsifyingRunsBreak}
use Rattle.mapped_runs.proofs.Agreeing.{shown, shown_all, other_way}
use Rattle.mapped_runs.proofs.Facts.{shows, shows_all}
use Rattle.mapped_runs.proofs.ValuesOfRuns.{rest_is_zero}

pub breaking_rests : BreakingRestsOnItsCycles
breaking_rests m e x y o within agree h =
    record {
      rest = subst (IsRestZero e.parts) agree.first h.rest;
      hypotheses = shown_all m e o.cycles x y agree o.hypotheses within.hypotheses h.hypotheses;
      fails = λ c. h.fails (shown m e o.cycles y x (other_way o.cycles x y agree) o.claim within.claim c);
    }

pub falsifying_breaks : FalsifyingRunsBreak
falsifying_breaks s e run o x mapped sound within h has =
    record {
      rest = subst (IsRestZero e.parts) has.first (rest_is_zero (design_of s) e.parts mapped.design sound (run.registers 0) h.is_run.first);
      hypotheses = (shows_all s e run o.cycles x mapped sound h.is_run has o.hypotheses within.hypotheses).0 h.hypotheses;
      fails = λ c. h.fails ((shows s e run o.cycles x mapped sound h.is_run has o.claim within.claim).1 c);
    }
