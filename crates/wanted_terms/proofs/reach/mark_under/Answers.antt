use Rattle.std.proofs.Common.{◌≡◌, ◌∙◌, ◌-◌, ◌<◌, ◌≤◌, Vec, Global, Bool, length, ap, sym, arith}
use Rattle.wanted_terms.proofs.Marks.{read_mark, marking_start, marking_more, marking_pass, marking_end}
use Rattle.wanted_terms.proofs.reach.mark_under.Goals.{then-index, else-index}
use Rattle.wanted_terms.proofs.reach.mark_under.Goals as goal

pub loop-done-init : goal.loop-done-init
loop-done-init c = marking_start c.args.terms.now c.args.roots.now c.args.marks.now.items c.requires.room c.requires.roots

pub loop-done-preserved : goal.loop-done-preserved
loop-done-preserved c =
    let g = c.args.terms.now in
    let ms = c.loop-done.marks.items in
    let place = c.len.result - 1 - c.loop-done.done in
    let z : place ≡ length ms - 1 - c.loop-done.done = ap (λ n. n - 1 - c.loop-done.done) (c.len.ensures ∙ c.loop-done.marks.ok.0) in
    let within : c.loop-done.done < length ms = omega (arith, c.loop-done-test.true, c.len-done-end.ensures, c.args.marks.now.ok.0, c.requires.room, c.loop-done.invariant.room) in
    elim c.if-index.branch [
      | then-index w ↦ marking_more g c.args.roots.now ms c.if-index.marks.items place c.loop-done.done w.node_of.result z within w.node_of.ensures.put w.node_of.ensures.over.operands
          (ap (λ (v : Vec Bool Global). v.items) w.marks-is ∙ w.mark_operands.ensures) c.loop-done.invariant
      | else-index w ↦ marking_pass g c.args.roots.now ms c.if-index.marks.items place c.loop-done.done z within
          (read_mark ms place c.index.result.now (omega (arith, z, within)) c.index.ensures ∙ w.if-index.false)
          (ap (λ (v : Vec Bool Global). v.items) w.marks-is) c.loop-done.invariant
    ]

pub returns : goal.returns
returns c =
    let a = c.loop-done.invariant in
    let over : length c.loop-done.marks.items ≤ c.loop-done.done = omega (arith, a.room, c.requires.room, c.loop-done-test.false, c.len-done-end.ensures, c.args.marks.now.ok.0) in
    record {
      marked = a.marked;
      under = marking_end c.args.terms.now c.args.roots.now c.loop-done.marks.items c.loop-done.done over a;
      length = a.room ∙ sym c.requires.room;
    }
