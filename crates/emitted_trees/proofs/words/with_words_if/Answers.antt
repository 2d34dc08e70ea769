use Rattle.std.proofs.Common.{◌∙◌, ◌++◌, ap, map, sym}
use Rattle.std.proofs.lemmas.List.{append-nil}
use Rattle.v_syntax.specs.Source.{item_of}
use Rattle.emitted_modules.specs.Rtl.{wire_item}
use Rattle.emitted_modules.specs.Nodes.{words_for}
use Rattle.emitted_trees.proofs.Leaves.{no_loaded}
use Rattle.emitted_trees.proofs.words.with_words_if.Goals as goal

pub with_words-requires : goal.with_words-requires
with_words-requires c = record {
  ordered = c.requires.ordered;
  load = c.requires.id;
  is = sym c.node_of.ensures.node ∙ c.in-Load.is;
  named = c.requires.named;
  row = c.requires.row;
}

pub returns-in_ok-all-in-Load : goal.returns-in_ok-all-in-Load
returns-in_ok-all-in-Load c =
    c.in_ok-all-in-Load.ensures
    ∙ ap (λ n. map item_of c.args.items.items ++ map wire_item (words_for c.args.wires.terms.now c.args.id.0 n)) (sym c.in-Load.is ∙ c.node_of.ensures.node)

pub returns-in_default : goal.returns-in_default
returns-in_default c =
    let front = map item_of c.args.items.items in
    let g = c.args.wires.terms.now in
    sym (append-nil front)
    ∙ ap (λ ws. front ++ map wire_item ws) (sym (no_loaded g c.args.id.0 c.node_of.result c.in_default.not-Load) ∙ ap (words_for g c.args.id.0) c.node_of.ensures.node)
