use Rattle.std.proofs.lemmas.Bool.{false≢true}
use Rattle.term_evaluation.proofs.SlotLemmas.{same_depth, other_depth, same_from, same_to}
use Rattle.term_evaluation.proofs.slots.is_same_memory.Goals as goal

pub returns-then-depth-other_depth : goal.returns-then-depth-other_depth
returns-then-depth-other_depth c =
    (λ h. absurd (false≢true h), λ h. absurd (c.if-depth-other_depth.true (same_depth c.args.pool.now c.args.other.now c.args.depth c.args.other_depth c.args.memory c.args.other_memory h)))

pub is_same_as-requires-clause-second : goal.is_same_as-requires-clause-second
is_same_as-requires-clause-second c = other_depth c.args.other.now c.args.depth c.args.other_depth c.args.other_memory c.if-depth-other_depth.false c.requires.other_memory

pub returns : goal.returns
returns c =
    let p = c.args.pool.now in
    let q = c.args.other.now in
    let e = c.if-depth-other_depth.false in (
      λ h. same_from p q c.args.depth c.args.other_depth c.args.memory c.args.other_memory e (c.is_same_as.ensures.0 h),
      λ h. c.is_same_as.ensures.1 (same_to p q c.args.depth c.args.other_depth c.args.memory c.args.other_memory e h),
    )
