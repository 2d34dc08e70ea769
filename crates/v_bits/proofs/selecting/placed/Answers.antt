use Rattle.std.proofs.Common.{◌+◌, ap, ◌∙◌, refl, subst}
use Rattle.wb_values.specs.Number.{word_sub}
use Rattle.v_operators.specs.Meaning.{Makes}
use Rattle.v_value.specs.Scope.{object_of}
use Rattle.v_bits.proofs.AtIndexes.{placed_down, placed_up}
use Rattle.v_bits.proofs.selecting.placed.Goals as goal

pub returns-then-object-clause-made : goal.returns-then-object-clause-made
returns-then-object-clause-made c =
    placed_down c.args.terms.now c.less_by.new.terms c.args.index.0 c.in_ok-id.id.0 c.args.object.left c.args.object.right c.args.back (object_of c.args.object) refl refl c.if-object.true
    (subst (λ r. Makes c.args.terms.now c.less_by.new.terms c.args.index.0 64 c.in_ok-id.id.0 64 (λ a. word_sub 64 a r)) (ap (λ k. k + c.natural-steps.result) c.natural-right.ensures.same ∙ ap (λ k. c.args.object.right + k) c.natural-steps.ensures.same) c.in_ok-id.ensures.made)

pub returns-clause-made : goal.returns-clause-made
returns-clause-made c =
    placed_up c.args.terms.now c.less_from.new.terms c.less_by-2.new.terms c.args.index.0 c.in_ok-place.place.0 c.in_ok-id-2.id.0 c.args.object.left c.args.object.right c.args.back (object_of c.args.object) refl refl c.if-object.false
    (subst (λ r. Makes c.args.terms.now c.less_from.new.terms c.args.index.0 64 c.in_ok-place.place.0 64 (λ a. word_sub 64 r a)) c.natural-right.ensures.same c.in_ok-place.ensures.made)
    (subst (λ r. Makes c.less_from.new.terms c.less_by-2.new.terms c.in_ok-place.place.0 64 c.in_ok-id-2.id.0 64 (λ a. word_sub 64 a r)) c.natural-steps.ensures.same c.in_ok-id-2.ensures.made)
