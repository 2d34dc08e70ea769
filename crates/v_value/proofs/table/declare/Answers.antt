use Rattle.std.proofs.Common.{◌∙◌, ap, sym, option_map}
use Rattle.v_value.specs.Objects.{object_of}
use Rattle.v_value.proofs.Objects.{put_other}
use Rattle.v_value.proofs.table.declare.Goals as goal

pub returns-in_ok-insert-in-Some-2-2 : goal.returns-in_ok-insert-in-Some-2-2
returns-in_ok-insert-in-Some-2-2 c = λ q.
    let old = c.args.table.now in
    put_other c.args.declaration q old.hashed c.insert.new.self c.insert-in-Some-2.new.self c.hash_of-hash.result c.in-Some-2.first c.hash_of-hash.ensures
    c.in_ok-insert.ensures.updates (sym c.in-Some-2.is ∙ c.in_ok-insert.ensures.old) c.in_ok-insert-in-Some-2.ensures.updates old.others c.insert-in-Some-2-2.new.self
    (ap (option_map object_of) (sym c.in-None.ensures.value)) (sym c.eq.ensures ∙ c.if-eq.false) c.in_ok-insert-in-Some-2-2.ensures.updates
