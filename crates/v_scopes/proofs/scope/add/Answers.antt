use Rattle.std.proofs.Common.{◌∙◌, sym}
use Rattle.v_scopes.proofs.Tabled.{put_first, join_hashed, put_other}
use Rattle.v_scopes.proofs.scope.add.Goals as goal

pub returns-in-None : goal.returns-in-None
returns-in-None c = λ q.
    put_first c.args.declared q c.args.table.now.hashed c.insert.new.self c.args.table.now.others c.hash_of-hash.result c.hash_of-hash.ensures c.requires
    (sym c.in-None.is ∙ c.in_ok-insert.ensures.old) c.in_ok-insert.ensures.updates

pub returns-then-eq : goal.returns-then-eq
returns-then-eq c = λ q.
    join_hashed c.args.declared q c.in-Some.first c.args.table.now.hashed c.insert.new.self c.insert-then-eq.new.self c.hash_of-hash.result c.hash_of-hash.ensures
    c.in_ok-insert.ensures.updates (sym c.in-Some.is ∙ c.in_ok-insert.ensures.old) c.args.table.now.others c.requires c.both.result c.both.ensures
    (sym c.eq.ensures ∙ c.if-eq.true) c.in_ok-insert-in-Some.ensures.updates

pub returns-in_ok-insert-in-Some-3 : goal.returns-in_ok-insert-in-Some-3
returns-in_ok-insert-in-Some-3 c = λ q.
    put_other c.args.declared q c.in-Some.first c.args.table.now.hashed c.insert.new.self c.insert-in-Some.new.self c.hash_of-hash.result c.hash_of-hash.ensures
    c.in_ok-insert.ensures.updates (sym c.in-Some.is ∙ c.in_ok-insert.ensures.old) c.args.table.now.others c.requires c.insert-in-Some-2.new.self
    (sym c.eq.ensures ∙ c.if-eq.false) c.in_ok-insert-in-Some-2.ensures.updates c.in_ok-insert-in-Some-3.ensures.updates
