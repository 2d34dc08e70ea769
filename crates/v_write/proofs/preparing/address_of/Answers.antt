use Rattle.v_value.specs.Scope.{scope_at}
use Rattle.v_lower.specs.Table.{images_at}
use Rattle.v_write.proofs.Indexed.{an_index, index_sound}
use Rattle.v_write.proofs.preparing.address_of.Goals as goal

pub lowered_alone-requires-clause-sound : goal.lowered_alone-requires-clause-sound
lowered_alone-requires-clause-sound c = index_sound (scope_at c.args.scope.now) c.args.select.now c.requires.sound c.in-Index.index c.in-Index.is c.deref.result.now c.deref.ensures

pub returns-clause-index : goal.returns-clause-index
returns-clause-index c =
    an_index (scope_at c.args.scope.now) (images_at c.args.table.now) c.lowered_alone.new.terms c.args.select.now c.in-Index.index c.in-Index.is c.deref.result.now c.deref.ensures c.in_ok-own-in-Index.own c.in_ok-own-in-Index.ensures.lowered c.in_ok-own-in-Index.ensures.sign
