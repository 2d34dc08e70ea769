use Rattle.std.proofs.Common.{true, ◌∙◌, refl, arith, None}
use Rattle.std.proofs.lemmas.Option.{slice_get-get_or}
use Rattle.sat_solve.proofs.walk.walk_all.Goals as goal

pub loop-k-preserved : goal.loop-k-preserved
loop-k-preserved c =
    let trail = c.args.trail.now.entries in
    let at = slice_get-get_or trail c.loop-k.k record { lit = record { var = 0; negative = true }; reason = None } (omega (arith, c.loop-k-test.true, c.len-k-end.ensures.value)) in
    record {
      walked = c.in_ok-step.ensures.walked;
      lits = c.in_ok-step.ensures.implied _ at (c.requires.undecided c.loop-k.k _ (omega arith) (omega (arith, c.loop-k-test.true, c.len-k-end.ensures.value)) at) refl ∙ c.loop-k.invariant.lits;
    }
