use Rattle.std.proofs.Common.{◌≡◌, ◌∙◌, refl, sym, subst, true, arith}
use Rattle.v_paths.specs.Cases.{has_number, all_below}
use Rattle.v_paths.proofs.Labels.{below-more, below-lacks}
use Rattle.v_paths.proofs.full.has_all_below.Goals as goal

pub loop-value-init : goal.loop-value-init
loop-value-init c = refl

pub loop-value-preserved : goal.loop-value-preserved
loop-value-preserved c =
    below-more (has_number c.args.values.now) c.loop-value.value _ (omega arith) (sym c.has_value.ensures ∙ c.if-not-has_value.false) c.loop-value.invariant

pub returns-then-not-has_value : goal.returns-then-not-has_value
returns-then-not-has_value c =
    sym (below-lacks (has_number c.args.values.now) c.loop-value.value c.args.count (omega arith) (sym c.has_value.ensures ∙ c.if-not-has_value.true))

pub returns : goal.returns
returns c =
    let e : c.loop-value.value ≡ c.args.count = omega arith in
    sym (subst (λ n. all_below (has_number c.args.values.now) n ≡ true) e c.loop-value.invariant)
