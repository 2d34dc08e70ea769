use Rattle.std.proofs.Common.{◌<◌, length, arith}
use Rattle.shown_facts.proofs.Telling.{as_told, row_at}
use Rattle.shown_facts.proofs.conditions.is_start.Goals as goal

pub index-requires : goal.index-requires
index-requires c = omega (arith, c.requires.cycle, c.requires.shown.count)

pub returns : goal.returns
returns c =
    let lt : c.args.cycle < length c.args.shown.now.rows.items = omega (arith, c.requires.cycle, c.requires.shown.count) in
    as_told c.index.result.now.start _ (row_at c.args.given.now c.args.shown.now c.args.cycle c.index.result.now c.requires.shown lt c.index.ensures).start_is
