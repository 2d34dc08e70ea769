use Rattle.std.proofs.Common.{◌∙◌, sym, arith}
use Rattle.std.proofs.lemmas.Bool.{false≢true}
use Rattle.v_syntax.specs.Tree.{selects_of}
use Rattle.v_value.specs.Scope.{object_of, scope_at}
use Rattle.test_paths.proofs.Parts.{narrow-place}
use Rattle.test_paths.proofs.fit.place_fits.Goals as goal

pub returns-in_default : goal.returns-in_default
returns-in_default c = λ t. absurd (false≢true t)

pub returns-then-width-eq0 : goal.returns-then-width-eq0
returns-then-width-eq0 c = λ t. absurd (false≢true t)

pub returns-then-width-gt128 : goal.returns-then-width-gt128
returns-then-width-gt128 c = λ t. absurd (false≢true t)

pub returns : goal.returns
returns c = λ t.
    narrow-place (scope_at c.args.names.scope.now) c.args.name.now (object_of c.object.result) (selects_of c.args.selects.now) _ _ c.object.ensures
    (sym c.in-Some.is ∙ c.place_in-place.ensures.width) c.if-width-eq0.false (omega (arith, c.if-width-gt128.false)) (c.selects_fit.ensures t)
