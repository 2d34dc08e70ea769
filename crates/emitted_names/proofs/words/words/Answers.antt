use Rattle.std.proofs.Common.{◌∙◌, ap, sym, subst, arith}
use Rattle.wb_terms.specs.declared.nodes.Node.{Node}
use Rattle.wb_terms.specs.Graph.{AllBelow, operands_of}
use Rattle.emitted_modules.specs.Nodes.{word_name}
use Rattle.emitted_names.specs.Ids.{ids_of}
use Rattle.emitted_names.specs.Parts.{named_by, parts_named, words_at}
use Rattle.emitted_names.proofs.PartLists.{no_words}
use Rattle.emitted_names.proofs.words.words.Goals as goal

pub parts-requires : goal.parts-requires
parts-requires c =
    let b = subst (λ (n : Node). AllBelow c.args.id.0 (operands_of n)) c.in-Load.is c.node_of.ensures.before in
    record { ordered = c.requires.ordered; memory = b.0; few = omega (arith, c.requires.id) }

pub returns-in_ok-parts-in-Load : goal.returns-in_ok-parts-in-Load
returns-in_ok-parts-in-Load c =
    let named = named_by (word_name c.args.id.0) in
    c.in_ok-parts-in-Load.ensures
    ∙ ap named (ap ids_of c.as_slice.ensures.value ∙ c.in_ok-ids-in-Load.ensures)
    ∙ ap (λ n. named (words_at c.args.terms.now c.args.id.0 n)) (sym c.in-Load.is ∙ c.node_of.ensures.node)

pub returns-in_default : goal.returns-in_default
returns-in_default c =
    let named = named_by (word_name c.args.id.0) in
    ap parts_named c.new.ensures.items
    ∙ sym (ap (λ n. named (words_at c.args.terms.now c.args.id.0 n)) (sym c.node_of.ensures.node)
    ∙ ap named (no_words c.args.terms.now c.args.id.0 c.node_of.result c.in_default.not-Load))
