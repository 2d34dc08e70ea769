use Rattle.v_syntax.specs.Tree.{selects_of}
use Rattle.v_value.specs.Scope.{scope_at}
use Rattle.v_lower.specs.Table.{images_at}
use Rattle.v_settle.proofs.Placed.{net_term, place_written}
use Rattle.v_settle.proofs.writing.write_part.Goals as goal

pub returns-clause-written : goal.returns-clause-written
returns-clause-written c =
    let s = scope_at c.args.scope.now in
    let a = images_at c.args.table.now in
    place_written s a (images_at c.insert.new.self) c.args.terms.now c.changed.new.terms c.args.name.now c.in_ok-id.id.0 c.in_ok-id.ensures.grows c.requires.known
    (net_term s a c.args.terms.now c.args.name.now c.requires.known c.requires.net) c.in_ok-insert.ensures (selects_of c.args.selects.now) c.args.number.0 c.requires.net
    c.requires.one c.in_ok-id.ensures.changed
