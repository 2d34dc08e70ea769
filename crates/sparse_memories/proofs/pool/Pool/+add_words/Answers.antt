use Rattle.std.proofs.Common.{◌≡◌, ◌-◌, suc, arith}
use Rattle.sparse_memories.proofs.Storing.{added_halves}
use Rattle.sparse_memories.proofs.pool.Pool.+add_words.Goals as goal

pub returns : goal.returns
returns t c =
    let e : c.args.level ≡ suc (c.args.level - 1) = omega arith in
    added_halves c.args.self.now.nodes c.branch-branch.result c.args.level (c.args.level - 1) c.args.link c.args.words.now.items c.add_words.new.words.items c.add_words-2.new.words.items
    c.branch-branch.ensures e c.in_ok-add_words.ensures c.in_ok-add_words-2.ensures
