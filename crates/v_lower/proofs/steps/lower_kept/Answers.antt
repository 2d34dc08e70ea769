use Rattle.std.proofs.Common.{◌≡◌, ◌-◌, sym, subst, drop, rules, arith}
use Rattle.v_syntax.specs.Tree.{all_prefixed}
use Rattle.v_operators.proofs.Growing.{Grows-refl, Grows-trans}
use Rattle.v_lower.specs.Lowered.{IsLowered}
use Rattle.v_lower.proofs.Lowering.{images_kept}
use Rattle.v_lower.proofs.Stepping.{keeping_kind}
use Rattle.v_lower.proofs.Turns.{kept_at, prefixed_more, kept_none}
use Rattle.v_lower.proofs.steps.lower_kept.Goals as goal

pub lower_prefix-requires-clause-operator : goal.lower_prefix-requires-clause-operator
lower_prefix-requires-clause-operator c = keeping_kind _ (kept_at c.args.operators.now (c.loop-i.i - 1) _ c.requires.kept (omega (arith, c.loop-i-test.true, c.loop-i.auto.i)))

pub loop-i-init : goal.loop-i-init
loop-i-init c =
    record {
      grows = Grows-refl c.args.terms.now;
      of_sort = c.requires.operand;
      lowered = λ s im x t known k. kept_none s im c.args.terms.now c.args.width t c.args.operators.now _ (omega arith) x c.args.operand.0 k;
    }

pub loop-i-preserved : goal.loop-i-preserved
loop-i-preserved c =
    let l = c.loop-i in
    record {
      grows = Grows-trans l.invariant.grows c.in_ok-all.ensures.grows;
      of_sort = c.in_ok-all.ensures.of_sort;
      lowered = λ s im x t known k.
          subst (λ z. IsLowered s im c.lower_prefix.new.terms z c.args.width t c.in_ok-all.all.0) (sym (prefixed_more c.args.operators.now l.i _ x c.loop-i-test.true c.loop-i.auto.i))
          (c.in_ok-all.ensures.lowered s im (all_prefixed (drop l.i c.args.operators.now) x) t (images_kept s im c.args.terms.now l.terms l.invariant.grows known) (l.invariant.lowered s im x t known k));
    }

pub returns-clause-lowered : goal.returns-clause-lowered
returns-clause-lowered c s im x t known k =
    let e : c.loop-i.i ≡ 0 = first_of (search rules, omega arith) in
    subst (λ n. IsLowered s im c.loop-i.terms (all_prefixed (drop n c.args.operators.now) x) c.args.width t c.loop-i.all.0) e (c.loop-i.invariant.lowered s im x t known k)
