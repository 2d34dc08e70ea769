use Rattle.std.proofs.Common.{◌≡◌, ◌∙◌, sym, subst, drop, true, rules, arith}
use Rattle.v_syntax.specs.Tree.{all_prefixed}
use Rattle.v_operators.proofs.Growing.{Grows-refl, Grows-trans}
use Rattle.v_lower.specs.Lowered.{IsLoweredAlone}
use Rattle.v_lower.specs.Walking.{begins_with_reduction}
use Rattle.v_lower.proofs.Lowering.{images_kept}
use Rattle.v_lower.proofs.Turns.{prefixed_more, begins_so, begins_none, run_none}
use Rattle.v_lower.proofs.steps.lower_run.Goals as goal

pub loop-i-init : goal.loop-i-init
loop-i-init c =
    record {
      grows = Grows-refl c.args.terms.now;
      of_sort = c.requires.operand;
      one = λ e. begins_none c.args.operators.now _ (omega arith) e;
      lowered = λ s im x known k. run_none s im c.args.terms.now c.args.operators.now _ (omega arith) x c.args.operand.width c.args.operand.id.0 k;
    }

pub loop-i-preserved : goal.loop-i-preserved
loop-i-preserved c =
    let l = c.loop-i in
    record {
      grows = Grows-trans l.invariant.grows c.in_ok-all.ensures.grows;
      of_sort = c.in_ok-all.ensures.of_sort;
      one = λ e. c.in_ok-all.ensures.one (sym (begins_so c.args.operators.now l.i _ c.loop-i-test.true c.loop-i.auto.i) ∙ e);
      lowered = λ s im x known k.
          subst (λ z. IsLoweredAlone s im c.lower_one.new.terms z c.in_ok-all.all.width c.in_ok-all.all.id.0) (sym (prefixed_more c.args.operators.now l.i _ x c.loop-i-test.true c.loop-i.auto.i))
          (c.in_ok-all.ensures.lowered s im (all_prefixed (drop l.i c.args.operators.now) x) (images_kept s im c.args.terms.now l.terms l.invariant.grows known) (l.invariant.lowered s im x known k));
    }

pub returns-clause-one : goal.returns-clause-one
returns-clause-one c e =
    let z : c.loop-i.i ≡ 0 = first_of (search rules, omega arith) in
    c.loop-i.invariant.one (subst (λ n. begins_with_reduction (drop n c.args.operators.now) ≡ true) (sym z) e)

pub returns-clause-lowered : goal.returns-clause-lowered
returns-clause-lowered c s im x known k =
    let e : c.loop-i.i ≡ 0 = first_of (search rules, omega arith) in
    subst (λ n. IsLoweredAlone s im c.loop-i.terms (all_prefixed (drop n c.args.operators.now) x) c.loop-i.all.width c.loop-i.all.id.0) e (c.loop-i.invariant.lowered s im x known k)
