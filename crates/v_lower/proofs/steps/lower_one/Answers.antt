use Rattle.std.proofs.Common.{sym, ◌∙◌}
use Rattle.verilog_meaning.specs.Expression.{sign_of}
use Rattle.v_syntax.specs.Tree.{prefixed}
use Rattle.v_operators.proofs.Testing.{at_most_128}
use Rattle.v_lower.proofs.Stepping.{reduction_kind, keeping_kind, alone_reduced, alone_kept}
use Rattle.v_lower.proofs.steps.lower_one.Goals as goal

pub lower_reduction-requires-clause-operator : goal.lower_reduction-requires-clause-operator
lower_reduction-requires-clause-operator c = reduction_kind c.args.operator (sym c.is_reduction.ensures ∙ c.if-is_reduction.true)

pub lower_reduction-requires-clause-own_at_most_128 : goal.lower_reduction-requires-clause-own_at_most_128
lower_reduction-requires-clause-own_at_most_128 c = at_most_128 c.args.terms.now c.args.operand.id.0 c.args.operand.width c.requires.operand

pub lower_prefix-requires-clause-operator : goal.lower_prefix-requires-clause-operator
lower_prefix-requires-clause-operator c = keeping_kind c.args.operator (sym c.is_reduction.ensures ∙ c.if-is_reduction.false)

pub returns-then-is_reduction-clause-lowered : goal.returns-then-is_reduction-clause-lowered
returns-then-is_reduction-clause-lowered c s im x known l =
    alone_reduced s im c.lower_reduction.new.terms c.args.operator x c.in_ok-id.id.0 (sym c.is_reduction.ensures ∙ c.if-is_reduction.true)
    (c.in_ok-id.ensures.lowered s im x (sign_of s (prefixed c.args.operator x)) known l)

pub returns-clause-lowered : goal.returns-clause-lowered
returns-clause-lowered c s im x known l =
    alone_kept s im c.args.terms.now c.lower_prefix.new.terms c.args.operator x c.args.operand.width c.args.operand.id.0 c.in_ok-id-2.id.0 (sym c.is_reduction.ensures ∙ c.if-is_reduction.false) l
    (c.in_ok-id-2.ensures.lowered s im x (sign_of s x) known)
