use Rattle.ila_rules.proofs.Frames.{member_more}
use Rattle.ila_rules.proofs.declared_names.add_member.Goals as goal

pub returns-clause-set : goal.returns-clause-set
returns-clause-set c = λ i q. member_more c.args.set.now c.insert.new.self c.args.name c.in_ok-added.ensures.updates q i
