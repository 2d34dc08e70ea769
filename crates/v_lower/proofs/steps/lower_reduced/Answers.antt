use Rattle.std.proofs.Common.{◌≡◌, true, sym, subst, drop}
use Rattle.std.proofs.lemmas.List.{take_rest}
use Rattle.v_syntax.specs.Tree.{all_prefixed}
use Rattle.v_lower.specs.Lowered.{IsLowered, IsLoweredAlone}
use Rattle.v_lower.specs.Walking.{begins_with_reduction}
use Rattle.v_lower.proofs.Lowering.{images_kept}
use Rattle.v_lower.proofs.Stepping.{run_bit}
use Rattle.v_lower.proofs.Turns.{split_at}
use Rattle.v_lower.proofs.steps.lower_reduced.Goals as goal

pub returns-clause-lowered : goal.returns-clause-lowered
returns-clause-lowered c s im x t known l =
    let os = c.args.operators.now in
    let n = c.first_reduction-place.result in
    let one = c.in_ok-inner.ensures.one (subst (λ xs. begins_with_reduction xs ≡ true) (sym (take_rest os n)) c.first_reduction-place.ensures.reduces) in
    let alone = subst (λ xs. IsLoweredAlone s im c.lower_run.new.terms (all_prefixed xs x) c.in_ok-inner.inner.width c.in_ok-inner.inner.id.0) (take_rest os n) (c.in_ok-inner.ensures.lowered s im x known l) in
    let bit = run_bit s im c.lower_run.new.terms (drop n os) x c.in_ok-inner.inner.width c.in_ok-inner.inner.id.0 c.first_reduction-place.ensures.reduces one alone in
    let known1 = images_kept s im c.args.terms.now c.lower_run.new.terms c.in_ok-inner.ensures.grows known in
    let known2 = images_kept s im c.lower_run.new.terms c.lower_bit.new.terms c.in_ok-wide.ensures.grows known1 in
    subst (λ e. IsLowered s im c.lower_kept.new.terms e c.args.width t c.in_ok-id.id.0) (sym (split_at os n x))
    (c.in_ok-id.ensures.lowered s im (all_prefixed (drop n os) x) t known2 (c.in_ok-wide.ensures.lowered s im (all_prefixed (drop n os) x) t known1 bit))
