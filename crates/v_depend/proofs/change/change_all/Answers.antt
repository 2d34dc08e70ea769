use Rattle.std.proofs.Common.{◌∙◌, arith, sym}
use Rattle.std.proofs.lemmas.List.{at_drop_all}
use Rattle.v_masks.specs.Masks.{masked}
use Rattle.v_depend.specs.Tables.{all_changed}
use Rattle.v_depend.proofs.Changes.{changes-turn}
use Rattle.v_depend.proofs.change.change_all.Goals as goal

pub loop-one-preserved : goal.loop-one-preserved
loop-one-preserved c = changes-turn c.args.changes.now c.loop-one.one-index _ _ _ _ (omega arith) c.in_ok-make_change.ensures c.loop-one.invariant

pub returns : goal.returns
returns c =
    sym (c.loop-one.invariant ∙ at_drop_all (λ ys. all_changed ys (masked c.loop-one.table)) c.args.changes.now c.loop-one.one-index c.loop-one-test.false)
