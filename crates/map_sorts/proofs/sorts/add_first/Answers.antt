use Rattle.std.proofs.Common.{sym, ◌∙◌}
use Rattle.map_sorts.proofs.First.{sort_added}
use Rattle.map_sorts.proofs.sorts.add_first.Goals as goal

pub returns-in_ok-insert : goal.returns-in_ok-insert
returns-in_ok-insert c = λ q.
    sort_added c.args.table.now c.insert.new.self c.args.name c.args.sort c.in_ok-insert.ensures.updates (sym c.contains_key.ensures ∙ c.if-not-contains_key.true) q
