use Rattle.v_syntax.specs.Tree.{select_of}
use Rattle.v_value.specs.Scope.{object_of, scope_at}
use Rattle.v_lower.specs.Table.{images_at}
use Rattle.std.proofs.Common.{◌≤◌, ◌∙◌, ap, sym, subst}
use Rattle.verilog_meaning.specs.Expression.{is_memory, object_width}
use Rattle.v_lower.proofs.Chosen.{one-word, one-bits}
use Rattle.v_write.proofs.Replaced.{sort_width}
use Rattle.v_write.proofs.Indexed.{word_selected, bits_selected}
use Rattle.v_write.proofs.preparing.selected_by_one.Goals as goal

pub address_of-requires-clause-single : goal.address_of-requires-clause-single
address_of-requires-clause-single c = (one-word (scope_at c.args.scope.now) c.args.name.now (select_of c.args.select.now) c.requires.sound (sym (ap is_memory c.requires.object) ∙ (sym c.is_some.ensures ∙ c.if-is_some.true))).index

pub address_of-requires-clause-sound : goal.address_of-requires-clause-sound
address_of-requires-clause-sound c = (one-word (scope_at c.args.scope.now) c.args.name.now (select_of c.args.select.now) c.requires.sound (sym (ap is_memory c.requires.object) ∙ (sym c.is_some.ensures ∙ c.if-is_some.true))).sound

pub object_width-count-requires : goal.object_width-count-requires
object_width-count-requires c = subst (λ o. object_width o ≤ 128) (sym c.requires.object) (sort_width ((scope_at c.args.scope.now) c.args.name.now) c.requires.sound.sort)

pub returns-then-is_some-clause-selected : goal.returns-then-is_some-clause-selected
returns-then-is_some-clause-selected c =
    word_selected (scope_at c.args.scope.now) (images_at c.args.table.now) c.args.name.now c.address_of.new.terms (select_of c.args.select.now) c.in_ok-address.address c.object_width-count.result c.requires.sound (sym (ap is_memory c.requires.object) ∙ (sym c.is_some.ensures ∙ c.if-is_some.true)) c.in_ok-address.ensures.index (c.object_width-count.ensures ∙ ap object_width c.requires.object)

pub taken_bits-requires-clause-sound : goal.taken_bits-requires-clause-sound
taken_bits-requires-clause-sound c = one-bits (scope_at c.args.scope.now) c.args.name.now (select_of c.args.select.now) c.requires.sound (sym (ap is_memory c.requires.object) ∙ (sym c.is_some.ensures ∙ c.if-is_some.false))

pub returns-clause-selected : goal.returns-clause-selected
returns-clause-selected c =
    bits_selected (scope_at c.args.scope.now) (images_at c.args.table.now) c.args.name.now c.taken_bits.new.terms (select_of c.args.select.now) (object_of c.args.object) c.in_ok-taken.taken.bits c.in_ok-taken.taken.count c.requires.object (sym (ap is_memory c.requires.object) ∙ (sym c.is_some.ensures ∙ c.if-is_some.false)) c.in_ok-taken.ensures.taken
