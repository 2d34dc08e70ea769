use Rattle.v_hier.proofs.Mentions.{read-item}
use Rattle.v_hier.proofs.reading.is_item_known.Goals as goal

pub returns-in_default : goal.returns-in_default
returns-in_default c = read-item c.args.names.now c.args.item.now c.is_text_known.result c.in_default.not-Parameter c.is_text_known.ensures
