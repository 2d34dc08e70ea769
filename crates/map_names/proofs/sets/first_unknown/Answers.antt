use Rattle.std.proofs.Common.{◌∙◌, Some, ap, arith}
use Rattle.map_names.specs.Texts.{texts}
use Rattle.map_names.proofs.Outside.{search_start, entry_passed, entry_stopped}
use Rattle.map_names.proofs.sets.first_unknown.Goals as goal

pub loop-index-init : goal.loop-index-init
loop-index-init c = search_start (texts c.args.known.now) c.args.names.now c.new-before.result c.new-before.ensures.empty

pub loop-index-preserved : goal.loop-index-preserved
loop-index-preserved c =
    entry_passed (texts c.args.known.now) c.args.names.now c.loop-index.index _ _ c.loop-index.before c.insert.new.self _ _ _ (omega arith)
    c.in_ok-is_new.ensures.updates (c.contains.ensures ∙ c.in_ok-set.ensures _) c.in_ok-is_new.ensures.added c.both.ensures c.if-not-both.false
    c.loop-index.invariant

pub returns-then-not-both : goal.returns-then-not-both
returns-then-not-both c =
    ap Some c.item.ensures
    ∙ entry_stopped (texts c.args.known.now) c.args.names.now c.loop-index.index _ _ c.loop-index.before _ _ _ (omega arith)
    (c.contains.ensures ∙ c.in_ok-set.ensures _) c.in_ok-is_new.ensures.added c.both.ensures c.if-not-both.true c.loop-index.invariant
