use Rattle.std.proofs.Common.{◌≡◌, ◌-◌, suc, List, sym, subst, arith}
use Rattle.sparse_memories.specs.declared.copies.Copied.{Copied}
use Rattle.sparse_memories.specs.Nodes.{Nodes, KeepsTrees}
use Rattle.sparse_memories.specs.Copying.{AreCopies}
use Rattle.sparse_memories.proofs.Storing.{halves_of}
use Rattle.sparse_memories.proofs.CopyLaws.{copies_kept, copy_noted, copied_words, copied_tree}
use Rattle.sparse_memories.proofs.pool.Pool.+copied.Goals as goal

pub put_leaf-requires-clause-link : goal.put_leaf-requires-clause-link
put_leaf-requires-clause-link t c = c.zeros-zeros.ensures.memory 0

pub returns-then-level-eq0-clause-copies : goal.returns-then-level-eq0-clause-copies
returns-then-level-eq0-clause-copies t c =
    copies_kept c.args.copies.now c.args.from.now.nodes c.args.self.now.nodes c.put_leaf.new.self.nodes c.requires.copies
    (subst (λ (x : Nodes). KeepsTrees x c.put_leaf.new.self.nodes) c.in_ok-reserve.ensures.nodes c.put_leaf.ensures.keeps)

pub put_branch-place-requires-clause-link : goal.put_branch-place-requires-clause-link
put_branch-place-requires-clause-link t c = (c.zeros-zeros-2.ensures.memory 1).0

pub note-requires : goal.note-requires
note-requires t c =
    let e : c.args.level ≡ suc (c.args.level - 1) = omega arith in
    let below = (halves_of c.args.from.now.nodes c.branch-branch.result c.args.level (c.args.level - 1) c.args.link c.branch-branch.ensures e c.requires.tree).0 in
    omega (arith, below, c.in_ok-upper.ensures.copies.0)

pub returns-clause-copies : goal.returns-clause-copies
returns-clause-copies t c =
    let e : c.args.level ≡ suc (c.args.level - 1) = omega arith in
    let p = c.args.from.now.nodes in
    let n = c.put_branch-place.new.self.nodes in
    let below = (halves_of p c.branch-branch.result c.args.level (c.args.level - 1) c.args.link c.branch-branch.ensures e c.requires.tree).0 in
    let kept = subst (λ (x : Nodes). KeepsTrees x n) c.in_ok-reserve-2.ensures.nodes c.put_branch-place.ensures.keeps in
    subst (λ (x : List Copied). AreCopies x p n) (sym c.note.ensures)
    (copy_noted c.copied-2.new.copies p n c.args.link c.args.level c.put_branch-place.result below
    (copies_kept c.copied-2.new.copies p c.copied-2.new.self.nodes n c.in_ok-upper.ensures.copies kept)
    (copied_tree c.copied.new.self.nodes c.copied-2.new.self.nodes c.reserve-2.new.self.nodes n c.args.level (c.args.level - 1) c.in_ok-lower.lower c.in_ok-upper.upper c.put_branch-place.result
    e c.in_ok-lower.ensures.tree c.in_ok-upper.ensures.keeps c.in_ok-upper.ensures.tree c.in_ok-reserve-2.ensures.nodes c.put_branch-place.ensures.tree)
    (copied_words p c.copied.new.self.nodes c.copied-2.new.self.nodes c.reserve-2.new.self.nodes n c.branch-branch.result c.args.level (c.args.level - 1) c.args.link c.in_ok-lower.lower c.in_ok-upper.upper c.put_branch-place.result
    c.branch-branch.ensures e c.in_ok-lower.ensures.tree c.in_ok-lower.ensures.words c.in_ok-upper.ensures.keeps c.in_ok-upper.ensures.tree c.in_ok-upper.ensures.words c.in_ok-reserve-2.ensures.nodes c.put_branch-place.ensures.words))
