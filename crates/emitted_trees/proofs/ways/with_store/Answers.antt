use Rattle.std.proofs.Common.{◌∙◌, ◌++◌, ◌∷◌, [], ap, map, sym}
use Rattle.std.proofs.lemmas.List.{append-nil}
use Rattle.verilog_trees.specs.Syntax.{if_then}
use Rattle.verilog_meaning.specs.Settled.{whole_name}
use Rattle.v_syntax.specs.Tree.{statement_of}
use Rattle.emitted_modules.specs.Rtl.{writes}
use Rattle.emitted_modules.specs.Nodes.{operand}
use Rattle.emitted_modules.specs.Stores.{stores_at}
use Rattle.emitted_names.proofs.Turns.{ap2}
use Rattle.emitted_trees.specs.Items.{stored}
use Rattle.emitted_trees.proofs.Leaves.{no_store}
use Rattle.emitted_trees.proofs.ways.with_store.Goals as goal

pub returns-in_ok-all-in-Store : goal.returns-in_ok-all-in-Store
returns-in_ok-all-in-Store c = λ u named of.
    let g = c.args.wires.terms.now in
    let front = map statement_of c.args.statements.items in
    c.in_ok-all-in-Store.ensures
    ∙ ap (λ x. front ++ x ∷ [])
    (c.in_ok-made-in-Store.ensures
    ∙ ap2 (λ n m. if_then (whole_name n) (stored m (operand g c.in-Store.address.0) (operand g c.in-Store.value.0))) (c.as_str-name.ensures.value ∙ named) of)
    ∙ ap (λ n. front ++ map writes (stores_at g u c.args.part.now.id.0 n)) (sym c.in-Store.is ∙ c.node_of.ensures.node)

pub returns-in_default : goal.returns-in_default
returns-in_default c = λ u named of.
    let g = c.args.wires.terms.now in
    let front = map statement_of c.args.statements.items in
    sym (append-nil front)
    ∙ ap (λ ws. front ++ map writes ws) (sym (no_store g u c.args.part.now.id.0 c.node_of.result c.in_default.not-Store) ∙ ap (stores_at g u c.args.part.now.id.0) c.node_of.ensures.node)
