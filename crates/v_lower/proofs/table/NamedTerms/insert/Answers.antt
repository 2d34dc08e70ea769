use Rattle.v_lower.proofs.Inserted.{id_added}
use Rattle.v_lower.proofs.table.NamedTerms.insert.Goals as goal

pub returns : goal.returns
returns c = λ n. id_added c.args.self.now.ids c.insert.new.self c.as_bytes.result c.args.name.now c.args.id c.as_bytes.ensures.value c.in_ok-insert.ensures.updates n
