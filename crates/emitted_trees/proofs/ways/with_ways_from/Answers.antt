use Rattle.std.proofs.Common.{◌∙◌, ◌++◌, ap, sym, append_assoc}
use Rattle.std.proofs.lemmas.List.{append-nil}
use Rattle.verilog_trees.specs.Syntax.{binary, bitwise_and, unary, complement}
use Rattle.verilog_meaning.specs.Settled.{whole_name}
use Rattle.emitted_modules.specs.Nodes.{operand}
use Rattle.emitted_modules.specs.Stores.{if_so, via, ways_from}
use Rattle.emitted_names.proofs.Turns.{ap2}
use Rattle.emitted_trees.specs.Words.{any_so_far}
use Rattle.emitted_trees.proofs.Leaves.{no_ways}
use Rattle.emitted_trees.proofs.ways.with_ways_from.Goals as goal

pub returns-in_ok-more-in-Store : goal.returns-in_ok-more-in-Store
returns-in_ok-more-in-Store c = λ u es named e.
    let g = c.args.wires.terms.now in
    let k = c.args.part.now.id.0 in
    c.in_ok-more-in-Store.ensures es e
    ∙ ap2 (λ b n. any_so_far (es ++ if_so b (whole_name n))) c.is_same-is_way.ensures (c.as_str.ensures.value ∙ named)
    ∙ ap (λ n. any_so_far (es ++ ways_from g u k c.args.to.0 n)) (sym c.in-Store.is ∙ c.node_of.ensures.node)

pub returns-in_ok-more-in-Ite : goal.returns-in_ok-more-in-Ite
returns-in_ok-more-in-Ite c = λ u es named e.
    let g = c.args.wires.terms.now in
    let k = c.args.part.now.id.0 in
    let called = c.as_str-name.ensures.value ∙ named in
    let x = operand g c.in-Ite.condition.0 in
    let first = c.in_ok-first-in-Ite.ensures es e in
    c.in_ok-more-in-Ite.ensures (es ++ if_so c.is_same-is_first.result (binary bitwise_and (whole_name c.as_str-name.result.now) x)) first
    ∙ ap any_so_far (append_assoc es (if_so c.is_same-is_first.result (binary bitwise_and (whole_name c.as_str-name.result.now) x))
    (if_so c.is_same-is_second.result (binary bitwise_and (whole_name c.as_str-name.result.now) (unary complement x))))
    ∙ ap (λ n. any_so_far (es ++ (if_so c.is_same-is_first.result (binary bitwise_and (whole_name n) x) ++ if_so c.is_same-is_second.result (binary bitwise_and (whole_name n) (unary complement x))))) called
    ∙ ap2 (λ a b. any_so_far (es ++ (if_so a (binary bitwise_and (via u k) x) ++ if_so b (binary bitwise_and (via u k) (unary complement x))))) c.is_same-is_first.ensures c.is_same-is_second.ensures
    ∙ ap (λ n. any_so_far (es ++ ways_from g u k c.args.to.0 n)) (sym c.in-Ite.is ∙ c.node_of.ensures.node)

pub returns-in_default : goal.returns-in_default
returns-in_default c = λ u es named e.
    let g = c.args.wires.terms.now in
    let k = c.args.part.now.id.0 in
    e
    ∙ ap any_so_far (sym (append-nil es))
    ∙ ap (λ xs. any_so_far (es ++ xs)) (sym (no_ways g u k c.args.to.0 c.node_of.result c.in_default.not-Store c.in_default.not-Ite) ∙ ap (ways_from g u k c.args.to.0) c.node_of.ensures.node)
