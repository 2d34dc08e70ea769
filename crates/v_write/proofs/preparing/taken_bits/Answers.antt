use Rattle.v_syntax.specs.Tree.{select_of}
use Rattle.v_value.specs.Scope.{object_of, scope_at}
use Rattle.v_lower.specs.Table.{images_at}
use Rattle.std.proofs.Common.{◌≤◌, ◌∙◌, ap, sym, subst}
use Rattle.verilog_meaning.specs.Expression.{Bits, no_values}
use Rattle.v_value.specs.Narrow.{IsWidth}
use Rattle.v_value.proofs.Selected.{count-is}
use Rattle.v_operators.proofs.Growing.{Grows-refl}
use Rattle.v_lower.proofs.Chosen.{index-sound, up-sound, up-narrow, up-count, down-sound, down-narrow, down-count}
use Rattle.v_write.proofs.Indexed.{index_taken, up_taken, down_taken, known_taken}
use Rattle.v_write.proofs.preparing.taken_bits.Goals as goal

pub lowered_alone-requires-clause-sound : goal.lowered_alone-requires-clause-sound
lowered_alone-requires-clause-sound c = index-sound (scope_at c.args.scope.now) c.args.select.now c.requires.sound c.in-Index.index c.in-Index.is c.deref.result.now c.deref.ensures

pub returns-in_ok-own-in-Index-clause-taken : goal.returns-in_ok-own-in-Index-clause-taken
returns-in_ok-own-in-Index-clause-taken c =
    index_taken (scope_at c.args.scope.now) (images_at c.args.table.now) c.lowered_alone.new.terms c.args.object c.args.select.now c.deref.result.now c.in_ok-own-in-Index.own c.one_bit.result.bits c.one_bit.result.count c.in_ok-own-in-Index.ensures.lowered c.in_ok-own-in-Index.ensures.sign
    c.in-Index.index c.in-Index.is c.deref.ensures c.one_bit.ensures.bits c.one_bit.ensures.count

pub select_bits-span-requires-clause-count : goal.select_bits-span-requires-clause-count
select_bits-span-requires-clause-count c = subst IsWidth (sym (count-is (scope_at c.args.scope.now) no_values (object_of c.args.object) (select_of c.args.select.now))) c.requires.sound.width

pub returns-in-Part-clause-grows : goal.returns-in-Part-clause-grows
returns-in-Part-clause-grows c = Grows-refl c.args.terms.now

pub returns-in-Part-clause-taken : goal.returns-in-Part-clause-taken
returns-in-Part-clause-taken c =
    known_taken (scope_at c.args.scope.now) (images_at c.args.table.now) c.args.terms.now (object_of c.args.object) c.args.select.now c.in-Part.field-0 c.in-Part.field-1 c.select_bits-span.result c.known_bits.result.bits c.known_bits.result.count c.in-Part.is c.select_bits-span.ensures
    (subst IsWidth (sym (ap (λ (b : Bits). b.count) c.select_bits-span.ensures ∙ count-is (scope_at c.args.scope.now) no_values (object_of c.args.object) (select_of c.args.select.now))) c.requires.sound.width) c.known_bits.ensures.bits c.known_bits.ensures.count

pub lowered_alone-requires-in-PartUp-clause-sound : goal.lowered_alone-requires-in-PartUp-clause-sound
lowered_alone-requires-in-PartUp-clause-sound c = up-sound (scope_at c.args.scope.now) c.args.select.now c.requires.sound c.in-PartUp.base c.in-PartUp.count c.in-PartUp.is c.deref-in-PartUp.result.now c.deref-in-PartUp.ensures

pub count_of-most-requires-clause-narrow : goal.count_of-most-requires-clause-narrow
count_of-most-requires-clause-narrow c = up-narrow (scope_at c.args.scope.now) c.args.select.now c.requires.sound c.in-PartUp.base c.in-PartUp.count c.in-PartUp.is c.deref-in-PartUp-2.result.now c.deref-in-PartUp-2.ensures

pub count_of-most-requires-clause-at_most_128 : goal.count_of-most-requires-clause-at_most_128
count_of-most-requires-clause-at_most_128 c = (up-count (scope_at c.args.scope.now) c.args.select.now c.requires.sound c.in-PartUp.base c.in-PartUp.count c.in-PartUp.is c.deref-in-PartUp-2.result.now c.deref-in-PartUp-2.ensures).1

pub upward-requires : goal.upward-requires
upward-requires c = subst (λ k. 1 ≤ k) (sym c.count_of-most.ensures) (up-count (scope_at c.args.scope.now) c.args.select.now c.requires.sound c.in-PartUp.base c.in-PartUp.count c.in-PartUp.is c.deref-in-PartUp-2.result.now c.deref-in-PartUp-2.ensures).0

pub returns-in_ok-own-in-PartUp-clause-taken : goal.returns-in_ok-own-in-PartUp-clause-taken
returns-in_ok-own-in-PartUp-clause-taken c =
    up_taken (scope_at c.args.scope.now) (images_at c.args.table.now) c.lowered_alone-in-PartUp.new.terms c.args.object c.args.select.now c.deref-in-PartUp.result.now c.in_ok-own-in-PartUp.own c.upward.result.bits c.upward.result.count c.in_ok-own-in-PartUp.ensures.lowered c.in_ok-own-in-PartUp.ensures.sign
    c.in-PartUp.base c.in-PartUp.count c.in-PartUp.is c.deref-in-PartUp.ensures c.deref-in-PartUp-2.result.now c.deref-in-PartUp-2.ensures c.count_of-most.result c.count_of-most.ensures
    (subst IsWidth (sym c.count_of-most.ensures) (up-count (scope_at c.args.scope.now) c.args.select.now c.requires.sound c.in-PartUp.base c.in-PartUp.count c.in-PartUp.is c.deref-in-PartUp-2.result.now c.deref-in-PartUp-2.ensures)) c.upward.ensures.bits c.upward.ensures.count

pub lowered_alone-requires-in-PartDown-clause-sound : goal.lowered_alone-requires-in-PartDown-clause-sound
lowered_alone-requires-in-PartDown-clause-sound c = down-sound (scope_at c.args.scope.now) c.args.select.now c.requires.sound c.in-PartDown.base c.in-PartDown.count c.in-PartDown.is c.deref-in-PartDown.result.now c.deref-in-PartDown.ensures

pub count_of-most-requires-in-PartDown-clause-narrow : goal.count_of-most-requires-in-PartDown-clause-narrow
count_of-most-requires-in-PartDown-clause-narrow c = down-narrow (scope_at c.args.scope.now) c.args.select.now c.requires.sound c.in-PartDown.base c.in-PartDown.count c.in-PartDown.is c.deref-in-PartDown-2.result.now c.deref-in-PartDown-2.ensures

pub count_of-most-requires-in-PartDown-clause-at_most_128 : goal.count_of-most-requires-in-PartDown-clause-at_most_128
count_of-most-requires-in-PartDown-clause-at_most_128 c = (down-count (scope_at c.args.scope.now) c.args.select.now c.requires.sound c.in-PartDown.base c.in-PartDown.count c.in-PartDown.is c.deref-in-PartDown-2.result.now c.deref-in-PartDown-2.ensures).1

pub downward-requires : goal.downward-requires
downward-requires c = subst (λ k. 1 ≤ k) (sym c.count_of-most-in-PartDown.ensures) (down-count (scope_at c.args.scope.now) c.args.select.now c.requires.sound c.in-PartDown.base c.in-PartDown.count c.in-PartDown.is c.deref-in-PartDown-2.result.now c.deref-in-PartDown-2.ensures).0

pub returns-in_ok-own-in-PartDown-clause-taken : goal.returns-in_ok-own-in-PartDown-clause-taken
returns-in_ok-own-in-PartDown-clause-taken c =
    down_taken (scope_at c.args.scope.now) (images_at c.args.table.now) c.lowered_alone-in-PartDown.new.terms c.args.object c.args.select.now c.deref-in-PartDown.result.now c.in_ok-own-in-PartDown.own c.downward.result.bits c.downward.result.count c.in_ok-own-in-PartDown.ensures.lowered c.in_ok-own-in-PartDown.ensures.sign
    c.in-PartDown.base c.in-PartDown.count c.in-PartDown.is c.deref-in-PartDown.ensures c.deref-in-PartDown-2.result.now c.deref-in-PartDown-2.ensures c.count_of-most-in-PartDown.result c.count_of-most-in-PartDown.ensures
    (subst IsWidth (sym c.count_of-most-in-PartDown.ensures) (down-count (scope_at c.args.scope.now) c.args.select.now c.requires.sound c.in-PartDown.base c.in-PartDown.count c.in-PartDown.is c.deref-in-PartDown-2.result.now c.deref-in-PartDown-2.ensures)) c.downward.ensures.bits c.downward.ensures.count
