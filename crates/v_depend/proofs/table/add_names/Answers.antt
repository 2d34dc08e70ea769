use Rattle.std.proofs.Common.{arith, drop}
use Rattle.std.proofs.lemmas.List.{at_drop_all}
use Rattle.v_masks.specs.Masks.{masked}
use Rattle.v_depend.proofs.Uniting.{names-turn, names-ended}
use Rattle.v_depend.proofs.table.add_names.Goals as goal

pub loop-entry-preserved : goal.loop-entry-preserved
loop-entry-preserved c = names-turn (masked c.args.from.now) c.args.entries.now c.loop-entry.entry-index _ _ _ _ (omega arith) c.in_ok-add_name.ensures c.loop-entry.invariant

pub returns : goal.returns
returns c =
    names-ended _ _ (drop c.loop-entry.entry-index c.args.entries.now) (masked c.args.from.now)
    (at_drop_all (λ ys. ys) c.args.entries.now c.loop-entry.entry-index c.loop-entry-test.false) c.loop-entry.invariant
