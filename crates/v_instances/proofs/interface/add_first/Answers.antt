use Rattle.std.proofs.Common.{◌∙◌, sym}
use Rattle.v_instances.proofs.Names.{first_added, first_kept}
use Rattle.v_instances.proofs.interface.add_first.Goals as goal

pub returns-in_ok-insert : goal.returns-in_ok-insert
returns-in_ok-insert c = λ q. first_added c.args.directions.now c.insert.new.self c.args.name c.args.direction c.in_ok-insert.ensures.updates (sym c.contains_key.ensures ∙ c.if-not-contains_key.true) q

pub returns-else-not-contains_key : goal.returns-else-not-contains_key
returns-else-not-contains_key c = λ q. first_kept c.args.directions.now c.args.name.now c.args.direction (sym c.contains_key.ensures ∙ c.if-not-contains_key.false) q
