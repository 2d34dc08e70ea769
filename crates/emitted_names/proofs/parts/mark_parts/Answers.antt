use Rattle.std.proofs.Common.{◌∙◌, ◌-◌, ◌<◌, Vec, Global, Bool, length, ap, refl, arith}
use Rattle.wb_terms.specs.Graph.{operands_of}
use Rattle.wanted_terms.proofs.Marks.{read_mark}
use Rattle.emitted_names.proofs.Looked.{below_more}
use Rattle.emitted_names.proofs.PartMarks.{marking_start, marking_more, marking_pass, marking_end}
use Rattle.emitted_names.proofs.parts.mark_parts.Goals.{then-index, else-index}
use Rattle.emitted_names.proofs.parts.mark_parts.Goals as goal

pub loop-done-init : goal.loop-done-init
loop-done-init c = marking_start c.args.terms.now c.requires.ordered c.args.memory.0 c.args.count c.requires.few c.args.marks.now.items c.requires.room c.requires.own

pub mark_memories-requires : goal.mark_memories-requires
mark_memories-requires c =
    below_more (c.args.count - 1 - c.loop-done.done) (length c.loop-done.marks.items) (operands_of c.node_of.result)
    (omega (arith, c.loop-done-test.true, c.loop-done.invariant.room)) c.node_of.ensures.before

pub loop-done-preserved : goal.loop-done-preserved
loop-done-preserved c =
    let g = c.args.terms.now in
    let n = c.args.count in
    let m = c.args.memory.0 in
    let ms = c.loop-done.marks.items in
    let place = n - 1 - c.loop-done.done in
    let within : c.loop-done.done < n = omega (arith, c.loop-done-test.true) in
    let low : place < length ms = omega (arith, within, c.loop-done.invariant.room) in
    elim c.if-index.branch [
      | then-index w ↦ marking_more g c.requires.ordered m n c.requires.few ms c.if-index.marks.items place c.loop-done.done w.node_of.result c.requires.memory refl within
          w.node_of.ensures.node (ap (λ (v : Vec Bool Global). v.items) w.marks-is ∙ w.mark_memories.ensures)
          (read_mark ms place c.index.result.now low c.index.ensures ∙ w.if-index.true) c.loop-done.invariant
      | else-index w ↦ marking_pass g c.requires.ordered m n c.requires.few ms c.if-index.marks.items place c.loop-done.done refl within
          (ap (λ (v : Vec Bool Global). v.items) w.marks-is) (read_mark ms place c.index.result.now low c.index.ensures ∙ w.if-index.false) c.loop-done.invariant
    ]

pub returns : goal.returns
returns c =
    marking_end c.args.terms.now c.requires.ordered c.args.memory.0 c.args.count c.requires.few c.loop-done.marks.items c.loop-done.done c.requires.memory
    (omega (arith, c.loop-done-test.false)) c.loop-done.invariant
