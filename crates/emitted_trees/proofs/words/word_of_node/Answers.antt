use Rattle.std.proofs.Common.{◌∙◌, ap, length, subst, sym}
use Rattle.wb_terms.specs.declared.nodes.Node.{Node}
use Rattle.wb_terms.specs.Graph.{AllBelow, operands_of}
use Rattle.verilog_trees.specs.Syntax.{conditional, comparison, equal}
use Rattle.emitted_modules.specs.Nodes.{operand, memories_of, word_of_node}
use Rattle.emitted_names.proofs.Turns.{ap2}
use Rattle.emitted_trees.specs.Words.{HaveWords}
use Rattle.emitted_trees.proofs.Leaves.{no_word}
use Rattle.emitted_trees.proofs.words.word_of_node.Goals as goal

pub word_of-requires : goal.word_of-requires
word_of-requires c =
    let g = c.args.wires.terms.now in
    let b = subst (λ (n : Node). AllBelow (length g.nodes) (operands_of n)) c.in-Store.is c.requires.operands in
    let h = subst (λ (n : Node). HaveWords g c.args.row.now (memories_of n)) c.in-Store.is c.requires.there in
    record { address = c.requires.address; memory = b.0; named = c.requires.named; row = c.requires.row; there = h.0 }

pub returns-in_ok-made-in-Store : goal.returns-in_ok-made-in-Store
returns-in_ok-made-in-Store c =
    let g = c.args.wires.terms.now in
    let e = operand g c.args.address.0 in
    c.in_ok-made-in-Store.ensures
    ∙ ap (conditional (comparison equal e (operand g c.in-Store.at.0)) (operand g c.in-Store.value.0)) c.in_ok-rest-in-Store.ensures
    ∙ sym (ap (word_of_node g c.args.load.0 e) c.in-Store.is)

pub word_of-requires-in-Ite : goal.word_of-requires-in-Ite
word_of-requires-in-Ite c =
    let g = c.args.wires.terms.now in
    let b = subst (λ (n : Node). AllBelow (length g.nodes) (operands_of n)) c.in-Ite.is c.requires.operands in
    let h = subst (λ (n : Node). HaveWords g c.args.row.now (memories_of n)) c.in-Ite.is c.requires.there in
    record { address = c.requires.address; memory = b.1.0; named = c.requires.named; row = c.requires.row; there = h.0 }

pub word_of-requires-in-Ite-2 : goal.word_of-requires-in-Ite-2
word_of-requires-in-Ite-2 c =
    let g = c.args.wires.terms.now in
    let b = subst (λ (n : Node). AllBelow (length g.nodes) (operands_of n)) c.in-Ite.is c.requires.operands in
    let h = subst (λ (n : Node). HaveWords g c.args.row.now (memories_of n)) c.in-Ite.is c.requires.there in
    record { address = c.requires.address; memory = b.1.1.0; named = c.requires.named; row = c.requires.row; there = h.1.0 }

pub returns-in_ok-made-in-Ite : goal.returns-in_ok-made-in-Ite
returns-in_ok-made-in-Ite c =
    let g = c.args.wires.terms.now in
    let e = operand g c.args.address.0 in
    c.in_ok-made-in-Ite.ensures
    ∙ ap2 (conditional (operand g c.in-Ite.condition.0)) c.in_ok-first-in-Ite.ensures c.in_ok-second-in-Ite.ensures
    ∙ sym (ap (word_of_node g c.args.load.0 e) c.in-Ite.is)

pub returns-in_default : goal.returns-in_default
returns-in_default c =
    let g = c.args.wires.terms.now in
    c.sized.ensures ∙ sym (no_word g c.args.load.0 (operand g c.args.address.0) c.args.node c.in_default.not-Store c.in_default.not-Ite)
