use Rattle.std.proofs.Common.{◌∙◌, ◌++◌, ◌∷◌, [], ap, sym}
use Rattle.std.proofs.lemmas.List.{append-nil}
use Rattle.verilog_trees.specs.Syntax.{binary, bitwise_and, unary, complement}
use Rattle.emitted_modules.specs.Nodes.{operand}
use Rattle.emitted_names.proofs.Turns.{ap2}
use Rattle.verilog_meaning.specs.Settled.{whole_name}
use Rattle.emitted_modules.specs.Stores.{if_so}
use Rattle.emitted_trees.specs.Words.{any_so_far}
use Rattle.emitted_trees.proofs.ways.with_other.Goals as goal

pub returns-then-not-is_way : goal.returns-then-not-is_way
returns-then-not-is_way c = λ es e.
    e
    ∙ ap any_so_far (sym (append-nil es))
    ∙ ap (λ b. any_so_far (es ++ if_so b (binary bitwise_and (whole_name c.args.name.now) (unary complement (operand c.args.wires.terms.now c.args.condition.0))))) (sym c.if-not-is_way.true)

pub returns : goal.returns
returns c = λ es e.
    c.in_ok-more.ensures es e
    ∙ ap (λ x. any_so_far (es ++ x ∷ [])) (c.in_ok-way.ensures ∙ ap2 (binary bitwise_and) c.whole.ensures c.in_ok-not.ensures) ∙ ap (λ b. any_so_far (es ++ if_so b (binary bitwise_and (whole_name c.args.name.now) (unary complement (operand c.args.wires.terms.now c.args.condition.0))))) (sym c.if-not-is_way.false)
