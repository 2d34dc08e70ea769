use Rattle.std.proofs.Common.{sym, ap, ◌∙◌, ◌≤◌, subst, arith}
use Rattle.verilog_meaning.specs.Expression.{object_width}
use Rattle.v_value.specs.Scope.{object_of, scope_at}
use Rattle.v_value.specs.Narrow.{IsNarrowObject}
use Rattle.v_operators.proofs.Growing.{Grows-refl}
use Rattle.v_lower.specs.Table.{images_at}
use Rattle.v_lower.proofs.Named.{number_read, image_read, number_fits, without_number}
use Rattle.v_lower.proofs.names.lower_whole.Goals as goal

pub object_width-width-requires : goal.object_width-width-requires
object_width-width-requires c = (subst IsNarrowObject (sym c.object-object.ensures) (c.args.names.narrow c.args.name.now)).0

pub constant-requires-clause-some_bits : goal.constant-requires-clause-some_bits
constant-requires-clause-some_bits c = omega (arith, c.object_width-width.ensures)

pub constant-requires-clause-at_most_128 : goal.constant-requires-clause-at_most_128
constant-requires-clause-at_most_128 c = subst (λ k. k ≤ 128) (sym c.object_width-width.ensures) (subst IsNarrowObject (sym c.object-object.ensures) (c.args.names.narrow c.args.name.now)).0

pub constant-requires-clause-fits : goal.constant-requires-clause-fits
constant-requires-clause-fits c =
    number_fits (object_of c.object-object.result) c.in-Some.number (subst IsNarrowObject (sym c.object-object.ensures) (c.args.names.narrow c.args.name.now)).1 c.in-Some.is c.object_width-width.result c.object_width-width.ensures

pub named-id-requires-clause-no_number : goal.named-id-requires-clause-no_number
named-id-requires-clause-no_number c = without_number (scope_at c.args.names.scope.now c.args.name.now) (sym (ap (λ o. o.constant) c.object-object.ensures) ∙ c.in-None.is)

pub returns-in_ok-id-in-Some-clause-read : goal.returns-in_ok-id-in-Some-clause-read
returns-in_ok-id-in-Some-clause-read c =
    number_read (scope_at c.args.names.scope.now) (images_at c.args.names.table.now) c.constant.new.terms c.args.name.now c.object_width-width.result c.in_ok-id-in-Some.id.0 c.in-Some.number
    (sym (ap (λ o. o.constant) c.object-object.ensures) ∙ c.in-Some.is) (c.object_width-width.ensures ∙ ap object_width c.object-object.ensures) c.in_ok-id-in-Some.ensures.of_sort c.in_ok-id-in-Some.ensures.value

pub returns-in-None-clause-read : goal.returns-in-None-clause-read
returns-in-None-clause-read c =
    image_read (scope_at c.args.names.scope.now) (images_at c.args.names.table.now) c.args.terms.now c.args.name.now c.object_width-width.result c.named-id.result.0 c.requires.known c.requires.no_memory
    (sym (ap (λ o. o.constant) c.object-object.ensures) ∙ c.in-None.is) c.named-id.ensures (c.object_width-width.ensures ∙ ap object_width c.object-object.ensures)

pub returns-in-None-clause-grows : goal.returns-in-None-clause-grows
returns-in-None-clause-grows c = Grows-refl c.args.terms.now
