use Rattle.std.proofs.Common.{sym, ◌∙◌}
use Rattle.ila_sim.proofs.UnderNames.{first_added}
use Rattle.ila_sim.proofs.index.add_first.Goals as goal

pub returns-in_ok-insert : goal.returns-in_ok-insert
returns-in_ok-insert c = λ q. first_added c.args.table.now c.insert.new.self c.args.name c.args.place c.in_ok-insert.ensures.updates (sym c.contains_key.ensures ∙ c.if-not-contains_key.true) q
