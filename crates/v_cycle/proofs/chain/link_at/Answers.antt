use Rattle.v_cycle.proofs.Links.{store_link, name_link}
use Rattle.v_cycle.proofs.chain.link_at.Goals as goal

pub returns-in-Store : goal.returns-in-Store
returns-in-Store c =
    let arm = c.in-Store in
    store_link c.args.terms.now c.args.env.now _ c.args.id.0 c.node.result.now arm.memory arm.place arm.x
    (record { address = c.number-address.result; number = c.number-number.result }) c.requires.holds c.requires.id
    c.node.ensures.tree arm.is c.node.ensures.over c.node.ensures.sorted c.number-address.ensures.value c.number-number.ensures.value

pub returns-in-Name : goal.returns-in-Name
returns-in-Name c =
    name_link c.args.terms.now c.args.env.now c.args.id.0 c.node.result.now c.in-Name.name c.node.ensures.tree c.in-Name.is
    c.node.ensures.over c.name_count.ensures.distinct c.requires.fits
