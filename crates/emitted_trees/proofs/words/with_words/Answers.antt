use Rattle.std.proofs.Common.{◌∙◌, ◌<◌, List, ap, map, refl, subst, length, arith, ◌++◌}
use Rattle.wb_terms.specs.Graph.{AllBelow, operands_of}
use Rattle.v_syntax.specs.Source.{item_of}
use Rattle.emitted_modules.specs.Nodes.{operand, word_name, word_wire}
use Rattle.emitted_names.specs.declared.words.PartName.{PartName}
use Rattle.emitted_names.proofs.Turns.{onward_by, ended_by}
use Rattle.emitted_trees.specs.Words.{all_at, wires_at}
use Rattle.emitted_trees.proofs.Held.{part_in, by_parts, words_there}
use Rattle.emitted_trees.proofs.Loops.{part_ids, all_words}
use Rattle.emitted_trees.proofs.words.with_words.Goals as goal

pub with_word-requires : goal.with_word-requires
with_word-requires c =
    let g = c.args.wires.terms.now in
    let l = c.args.load.0 in
    let named = by_parts g c.requires.ordered l c.args.memory c.args.address c.args.row.now c.requires.load c.requires.is c.requires.row in
    let p = part_in g c.args.memory.0 l (word_name l) c.args.row.now c.loop-place.place c.part_at.result.now named c.part_at.ensures in
    let low = p.below in
    let below = subst (λ n. AllBelow l (operands_of n)) c.requires.is (c.requires.ordered l c.requires.load) in
    record {
      load = c.requires.load;
      address = omega (arith, below.1.0, c.requires.load);
      part = omega (arith, low, c.requires.load);
      named = c.requires.named;
      row = c.requires.row;
      there = words_there g c.requires.ordered l c.args.memory c.args.address c.args.row.now c.requires.load c.requires.is c.requires.row c.part_at.result.now.id.0 p.below p.part;
      name = p.called;
    }

pub loop-place-preserved : goal.loop-place-preserved
loop-place-preserved c =
    let g = c.args.wires.terms.now in
    let f = wires_at g (word_wire g c.args.load.0 (operand g c.args.address.0)) in
    onward_by (λ (ps : List PartName). all_at f (part_ids ps)) (λ (p : PartName). f p.id.0) (λ p ps. refl) c.args.row.now c.loop-place.place c.part_at.result.now _
    (map item_of c.loop-place.all.items) _ c.part_at.ensures c.loop-place.invariant c.in_ok-all.ensures

pub returns : goal.returns
returns c =
    let g = c.args.wires.terms.now in
    let l = c.args.load.0 in
    let f = wires_at g (word_wire g l (operand g c.args.address.0)) in
    let front = map item_of c.args.items.items in
    ended_by (λ (ps : List PartName). all_at f (part_ids ps)) refl c.args.row.now c.loop-place.place (front ++ all_at f (part_ids c.args.row.now)) (map item_of c.loop-place.all.items)
    (omega (arith, c.loop-place-test.false)) c.loop-place.invariant
    ∙ ap (λ xs. front ++ xs) (all_words g l c.args.memory c.args.address (word_name l) c.args.row.now
    (by_parts g c.requires.ordered l c.args.memory c.args.address c.args.row.now c.requires.load c.requires.is c.requires.row))
