use Rattle.std.proofs.Common.{ap, length, arith}
use Rattle.v_value.specs.Scope.{scope_at}
use Rattle.v_operators.proofs.Growing.{Grows-refl, Grows-trans}
use Rattle.v_lower.specs.Table.{images_at}
use Rattle.path_terms.proofs.Filling.{same_count, placed_so, none_filled, turned, all_filled}
use Rattle.path_terms.proofs.naming.named_terms.Goals as goal

pub loop-place-init : goal.loop-place-init
loop-place-init c =
    record {
      grows = Grows-refl c.args.terms.now;
      filled = λ e g origins. none_filled (scope_at c.args.scope.now) e c.args.scope.now.declarations.items c.args.terms.now (images_at c.new-table.result) c.new-table.ensures;
    }

pub bounds-origins-place : goal.bounds-origins-place
bounds-origins-place c =
    let same = same_count (scope_at c.args.scope.now) c.requires.0 c.args.scope.now.declarations.items c.args.origins.now c.requires.3 in
    let is = ap length c.declarations-declarations.ensures in
    omega (arith, same, is)

pub enter-requires : goal.enter-requires
enter-requires c =
    let is = ap length c.declarations-declarations.ensures in
    placed_so (scope_at c.args.scope.now) c.requires.0 c.args.scope.now.declarations.items c.args.origins.now c.loop-place.place c.args.terms.now c.loop-place.terms _
    c.requires.1 c.requires.2 c.requires.3 c.loop-place.invariant.grows (omega (arith, is))

pub loop-place-preserved : goal.loop-place-preserved
loop-place-preserved c =
    let is = ap length c.declarations-declarations.ensures in
    record {
      grows = Grows-trans c.loop-place.invariant.grows c.enter.ensures.grows;
      filled = λ e g origins.
          turned (scope_at c.args.scope.now) c.args.scope.now.declarations.items c.declarations-declarations.result.now c.args.origins.now c.loop-place.place c.loop-place.terms c.enter.new.terms
          (images_at c.loop-place.table) (images_at c.enter.new.table) _ _ e (omega (arith, is)) origins c.enter.ensures.grows (c.loop-place.invariant.filled e g origins)
          c.declarations-declarations.ensures c.in_ok-enter.ensures.given;
    }

pub returns-clause-terms : goal.returns-clause-terms
returns-clause-terms c = λ e g origins.
    let is = ap length c.declarations-declarations.ensures in
    all_filled e c.args.scope.now.declarations.items c.loop-place.place c.loop-place.terms (images_at c.loop-place.table) (omega (arith, is))
    (c.loop-place.invariant.filled e g origins)
