use Rattle.std.proofs.Common.{◌∙◌, ap, sym}
use Rattle.wb_terms.specs.declared.nodes.NameId.{NameId}
use Rattle.verilog_meaning.specs.Settled.{whole_name}
use Rattle.term_expressions.specs.Expressions.{word_at}
use Rattle.emitted_modules.specs.Nodes.{operand, word_name, word_or_wire}
use Rattle.emitted_trees.proofs.Leaves.{other_word}
use Rattle.emitted_trees.proofs.nodes.word_of.Goals as goal

pub returns-in_ok-made-in-Name : goal.returns-in_ok-made-in-Name
returns-in_ok-made-in-Name c =
    let g = c.args.wires.terms.now in
    let e = operand g c.args.address.0 in
    c.in_ok-made-in-Name.ensures
    ∙ ap (λ n. word_at n e) c.name.ensures
    ∙ ap (word_or_wire g.names c.args.load.0 e c.args.memory.0) (sym c.in-Name.is ∙ c.node_of.ensures.node)

pub part_name-requires : goal.part_name-requires
part_name-requires c = c.requires.there (λ n e. c.in_default.not-Name n (c.node_of.ensures.node ∙ e))

pub returns-in_default : goal.returns-in_default
returns-in_default c =
    let g = c.args.wires.terms.now in
    let e = operand g c.args.address.0 in
    c.whole.ensures
    ∙ ap whole_name (c.part_name.ensures (word_name c.args.load.0) _ c.requires.row)
    ∙ sym (ap (word_or_wire g.names c.args.load.0 e c.args.memory.0) (sym c.node_of.ensures.node)
    ∙ other_word g.names c.args.load.0 e c.args.memory.0 c.node_of.result c.in_default.not-Name)
