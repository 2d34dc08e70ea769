use Rattle.std.proofs.Common.{sym, ◌∙◌, arith}
use Rattle.map_names.specs.Texts.{texts}
use Rattle.map_names.proofs.Outside.{outside_turn, outside_stop}
use Rattle.map_names.proofs.sets.first_outside.Goals as goal

pub returns-then-not-contains : goal.returns-then-not-contains
returns-then-not-contains c =
    outside_stop (texts c.args.those.now) c.args.these.now c.loop-name.name-index _ _ (omega arith)
    (sym (c.in_ok-set.ensures _) ∙ (sym c.contains.ensures ∙ c.if-not-contains.true)) c.loop-name.invariant

pub loop-name-preserved : goal.loop-name-preserved
loop-name-preserved c =
    outside_turn (texts c.args.those.now) c.args.these.now c.loop-name.name-index _ _ (omega arith)
    (sym (c.in_ok-set.ensures _) ∙ (sym c.contains.ensures ∙ c.if-not-contains.false)) c.loop-name.invariant
