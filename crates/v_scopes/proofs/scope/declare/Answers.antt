use Rattle.std.proofs.Common.{sym}
use Rattle.v_scopes.proofs.Tabled.{join_other}
use Rattle.v_scopes.proofs.scope.declare.Goals as goal

pub returns-in_ok-insert-in-Some : goal.returns-in_ok-insert-in-Some
returns-in_ok-insert-in-Some c = λ q.
    join_other c.args.declared q c.args.table.now.hashed c.args.table.now.others c.insert.new.self c.in-Some.first c.both.result c.in-Some.ensures c.both.ensures
    c.in_ok-insert-in-Some.ensures.updates

pub add-requires : goal.add-requires
add-requires c = sym c.in-None.ensures
