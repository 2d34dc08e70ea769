use Rattle.v_syntax.specs.Tree.{selects_of}
use Rattle.v_value.specs.Scope.{object_of, scope_at}
use Rattle.v_lower.specs.Table.{images_at}
use Rattle.std.proofs.Common.{◌≤◌, ◌∙◌, ap, sym, subst}
use Rattle.verilog_meaning.specs.Expression.{object_width}
use Rattle.v_operators.proofs.Growing.{Grows-refl}
use Rattle.v_lower.proofs.Lowering.{images_kept}
use Rattle.v_lower.proofs.Chosen.{one-of, two-word, two-bits}
use Rattle.v_write.specs.Selecting.{IsSelectedBy}
use Rattle.v_write.proofs.Replaced.{sort_width}
use Rattle.v_write.proofs.Indexed.{whole_selected, both_selected}
use Rattle.v_write.proofs.preparing.selected.Goals as goal

pub object_width-count-requires : goal.object_width-count-requires
object_width-count-requires c = subst (λ o. object_width o ≤ 128) (sym c.requires.object) (sort_width ((scope_at c.args.scope.now) c.args.name.now) c.requires.sound.sort)

pub returns-in-Whole-clause-grows : goal.returns-in-Whole-clause-grows
returns-in-Whole-clause-grows c = Grows-refl c.args.terms.now

pub returns-in-Whole-clause-selected : goal.returns-in-Whole-clause-selected
returns-in-Whole-clause-selected c =
    whole_selected (scope_at c.args.scope.now) (images_at c.args.table.now) c.args.name.now c.args.terms.now c.args.selects.now c.object_width-count.result c.in-Whole.is c.requires.sound (c.object_width-count.ensures ∙ ap object_width c.requires.object)

pub selected_by_one-requires-clause-sound : goal.selected_by_one-requires-clause-sound
selected_by_one-requires-clause-sound c = one-of (scope_at c.args.scope.now) c.args.name.now c.args.selects.now c.requires.sound c.in-One.select c.in-One.is

pub returns-in_ok-one-in-One-clause-selected : goal.returns-in_ok-one-in-One-clause-selected
returns-in_ok-one-in-One-clause-selected c =
    subst (λ x. IsSelectedBy (scope_at c.args.scope.now) (images_at c.args.table.now) c.selected_by_one.new.terms c.args.name.now (selects_of x) c.in_ok-one-in-One.one.address c.in_ok-one-in-One.one.bits c.in_ok-one-in-One.one.count) (sym c.in-One.is) c.in_ok-one-in-One.ensures.selected

pub address_of-requires-clause-single : goal.address_of-requires-clause-single
address_of-requires-clause-single c = (two-word (scope_at c.args.scope.now) c.args.name.now c.args.selects.now c.requires.sound c.in-Two.index c.in-Two.select c.in-Two.is).index

pub address_of-requires-clause-sound : goal.address_of-requires-clause-sound
address_of-requires-clause-sound c = (two-word (scope_at c.args.scope.now) c.args.name.now c.args.selects.now c.requires.sound c.in-Two.index c.in-Two.select c.in-Two.is).sound

pub taken_bits-requires-clause-known : goal.taken_bits-requires-clause-known
taken_bits-requires-clause-known c = images_kept (scope_at c.args.scope.now) (images_at c.args.table.now) c.args.terms.now c.address_of.new.terms c.in_ok-address-in-Two.ensures.grows c.requires.known

pub taken_bits-requires-clause-sound : goal.taken_bits-requires-clause-sound
taken_bits-requires-clause-sound c = two-bits (scope_at c.args.scope.now) c.args.name.now c.args.selects.now c.requires.sound c.in-Two.index c.in-Two.select c.in-Two.is

pub returns-in_ok-taken-in-Two-clause-selected : goal.returns-in_ok-taken-in-Two-clause-selected
returns-in_ok-taken-in-Two-clause-selected c =
    both_selected (scope_at c.args.scope.now) (images_at c.args.table.now) c.args.name.now c.address_of.new.terms c.taken_bits.new.terms c.args.selects.now c.in-Two.index c.in-Two.select (object_of c.args.object) c.in_ok-address-in-Two.address c.in_ok-taken-in-Two.taken.bits c.in_ok-taken-in-Two.taken.count
    c.in-Two.is c.requires.sound c.requires.object (images_kept (scope_at c.args.scope.now) (images_at c.args.table.now) c.args.terms.now c.address_of.new.terms c.in_ok-address-in-Two.ensures.grows c.requires.known) c.in_ok-taken-in-Two.ensures.grows c.in_ok-address-in-Two.ensures.index c.in_ok-taken-in-Two.ensures.taken
