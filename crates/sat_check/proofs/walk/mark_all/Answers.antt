use Rattle.std.proofs.Common.{◌+◌, Bool, List, true, length, map, take, get_or, subst, sym, ap, ◌∙◌}
use Rattle.std.proofs.Math.ListN.{length-set}
use Rattle.sat_check.specs.Walk.{Represents}
use Rattle.sat_check.proofs.Walks.{Represents-push}
use Rattle.sat_check.proofs.walk.mark_all.Goals as goal

pub loop-literal-preserved : goal.loop-literal-preserved
loop-literal-preserved c =
    let i = c.loop-literal.literal-index in
    let invariant = c.loop-literal.invariant in (
      ap (λ (m : List Bool). length m) c.insert.ensures ∙ length-set c.loop-literal.marks (get_or c.args.literals.now i 0) true ∙ invariant.0,
      λ at numbering.
          subst (λ (m : List Bool). Represents at m (map at (take (i + 1) c.args.literals.now))) (sym c.insert.ensures)
          (Represents-push at c.args.marks.now numbering c.loop-literal.marks c.args.literals.now i invariant.0 c.loop-literal-test.true c.requires.range
          (invariant.1 at numbering)),
    )
