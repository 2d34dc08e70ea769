use Rattle.map_scope.proofs.Kept.{got_some, got_none}
use Rattle.map_uses.proofs.Turning.{marked_some, marked_none}
use Rattle.map_uses.proofs.asking.is_asked.Goals as goal

pub returns-in-Some : goal.returns-in-Some
returns-in-Some c =
    marked_some c.args.asked.now c.args.number c.in-Some.mark.now (got_some c.args.asked.now c.args.number c.get.result c.in-Some.mark c.in-Some.is c.get.ensures.lookup.3)

pub returns-in-None : goal.returns-in-None
returns-in-None c = marked_none c.args.asked.now c.args.number (got_none c.args.asked.now c.args.number c.get.result c.in-None.is c.get.ensures.lookup.3)
