use Rattle.std.proofs.Common.{sym, subst}
use Rattle.gate_words.specs.declared.operators.Operator.{Operator}
use Rattle.gate_words.specs.Words.{applied, WritesWord}
use Rattle.gate_words.proofs.Moving.{shifted_up, shifted_down, shifted_signed}
use Rattle.gate_words.proofs.operators.operated.Goals as goal

pub returns-in_ok-word-in-Shl-clause-word : goal.returns-in_ok-word-in-Shl-clause-word
returns-in_ok-word-in-Shl-clause-word c =
    subst (λ (o : Operator). WritesWord c.shifted.new.circuit (applied o) c.args.xs.now c.args.ys.now c.in_ok-word-in-Shl.word.items) (sym c.in-Shl.is)
    (shifted_up c.shifted.new.circuit c.args.xs.now c.args.ys.now c.in_ok-word-in-Shl.word.items c.in_ok-word-in-Shl.ensures.shifted)

pub returns-in_ok-word-in-Lshr-clause-word : goal.returns-in_ok-word-in-Lshr-clause-word
returns-in_ok-word-in-Lshr-clause-word c =
    subst (λ (o : Operator). WritesWord c.shifted-in-Lshr.new.circuit (applied o) c.args.xs.now c.args.ys.now c.in_ok-word-in-Lshr.word.items) (sym c.in-Lshr.is)
    (shifted_down c.shifted-in-Lshr.new.circuit c.args.xs.now c.args.ys.now c.in_ok-word-in-Lshr.word.items c.in_ok-word-in-Lshr.ensures.shifted)

pub returns-in_ok-word-in-Ashr-clause-word : goal.returns-in_ok-word-in-Ashr-clause-word
returns-in_ok-word-in-Ashr-clause-word c =
    subst (λ (o : Operator). WritesWord c.shifted-in-Ashr.new.circuit (applied o) c.args.xs.now c.args.ys.now c.in_ok-word-in-Ashr.word.items) (sym c.in-Ashr.is)
    (shifted_signed c.shifted-in-Ashr.new.circuit c.sign_of.result c.args.xs.now c.args.ys.now c.in_ok-word-in-Ashr.word.items c.sign_of.ensures.value c.in_ok-word-in-Ashr.ensures.shifted)
