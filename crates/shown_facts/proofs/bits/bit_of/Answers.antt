use Rattle.v_design.specs.Seen.{parts_of}
use Rattle.shown_facts.proofs.Noting.{here}
use Rattle.shown_facts.proofs.bits.bit_of.Goals as goal

pub returns : goal.returns
returns c = here (parts_of c.args.mapped.now.design) c.args.cycle.now.env c.args.id.0 c.holds_in.result c.holds_in.ensures
