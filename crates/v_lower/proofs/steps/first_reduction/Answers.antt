use Rattle.std.proofs.Common.{◌∙◌, sym, arith}
use Rattle.std.proofs.lemmas.Bool.{false≢true}
use Rattle.v_lower.proofs.Turns.{kept_more, begins_at, all_kept}
use Rattle.v_lower.proofs.steps.first_reduction.Goals as goal

pub loop-i-preserved : goal.loop-i-preserved
loop-i-preserved c = kept_more c.args.operators.now c.loop-i.i _ (omega arith) c.loop-i.invariant (sym c.is_reduction.ensures ∙ c.if-is_reduction.false)

pub returns-then-is_reduction-clause-reduces : goal.returns-then-is_reduction-clause-reduces
returns-then-is_reduction-clause-reduces c = begins_at c.args.operators.now c.loop-i.i _ (omega arith) (sym c.is_reduction.ensures ∙ c.if-is_reduction.true)

pub unreachable-requires : goal.unreachable-requires
unreachable-requires c = false≢true (sym (all_kept c.args.operators.now c.loop-i.i (omega arith) c.loop-i.invariant) ∙ c.requires)
