use Rattle.std.proofs.Common.{sym, subst, ◌∙◌, false}
use Rattle.wb_values.specs.Value.{word}
use Rattle.v_operators.specs.Meaning.{IsOfSort}
use Rattle.v_lower.specs.Lowered.{IsLowered}
use Rattle.v_lower.proofs.Stepping.{tested_bit, alone_by, logical_left, logical_right, compared_left}
use Rattle.v_lower.proofs.steps.lower_tested.Goals as goal

pub lower_comparison-requires-clause-right : goal.lower_comparison-requires-clause-right
lower_comparison-requires-clause-right c =
    subst (λ k. IsOfSort c.args.terms.now c.args.right.0 (word k.width)) (sym (c.requires.one (sym c.is_logical.ensures ∙ c.if-is_logical.false))) c.requires.right

pub returns-then-is_logical-clause-bit : goal.returns-then-is_logical-clause-bit
returns-then-is_logical-clause-bit c s im x y known k l r =
    let e = sym c.is_logical.ensures ∙ c.if-is_logical.true in
    let a = logical_left s c.args.operator x y c.args.contexts e k in
    let b = logical_right s c.args.operator x y c.args.contexts e k in
    tested_bit s im c.lower_logical.new.terms c.args.operator x y c.in_ok-id.id.0
    (c.in_ok-id.ensures.lowered s im x y false known
    (alone_by s im c.args.terms.now x c.args.contexts.left.width c.args.left.0 c.args.contexts.left.signed a.0 a.1 l)
    (alone_by s im c.args.terms.now y c.args.contexts.right.width c.args.right.0 c.args.contexts.right.signed b.0 b.1 r))

pub returns-clause-bit : goal.returns-clause-bit
returns-clause-bit c s im x y known k l r =
    let e = sym c.is_logical.ensures ∙ c.if-is_logical.false in
    let a = compared_left s c.args.operator x y c.args.contexts e k in
    tested_bit s im c.lower_comparison.new.terms c.args.operator x y c.in_ok-id-2.id.0
    (c.in_ok-id-2.ensures.lowered s im x y false known a.0 a.1 l
    (subst (λ q. IsLowered s im c.args.terms.now y q.width q.signed c.args.right.0) (sym (c.requires.one e)) r))
