use Rattle.std.proofs.Common.{rules}
use Rattle.sparse_memories.proofs.CopyLaws.{no_copies}
use Rattle.sparse_memories.proofs.copies.Copies.new.Goals as goal

pub returns : goal.returns
returns c to =
    no_copies c.in_ok-branches.branches.items c.branch_count.result c.args.from.now.nodes to
    (c.in_ok-branches.ensures.items_if_clones_equal (λ y same. search rules)) c.branch_count.ensures
