use Rattle.std.proofs.Common.{◌≡◌, ◌-◌, ◌+◌, suc, refl, arith}
use Rattle.sparse_memories.proofs.Trees.{doubled}
use Rattle.sparse_memories.proofs.Storing.{halves_of}
use Rattle.sparse_memories.proofs.Finding.{listed_zeros, listed_halves}
use Rattle.sparse_memories.proofs.pool.Pool.+add_set_words.Goals as goal

pub returns-then-link-zeros : goal.returns-then-link-zeros
returns-then-link-zeros t c =
    listed_zeros c.args.self.now.nodes c.args.level c.args.link c.zeros.result.0 c.args.first c.args.found.now.items c.if-link-zeros.true (c.zeros.ensures.words c.args.level)

pub add_set_words-requires : goal.add_set_words-requires
add_set_words-requires t c =
    let e : c.args.level ≡ suc (c.args.level - 1) = omega arith in
    let twice = doubled c.args.level (c.args.level - 1) e in
    (omega arith, ((halves_of c.args.self.now.nodes c.branch-branch.result c.args.level (c.args.level - 1) c.args.link c.branch-branch.ensures e c.requires.tree).1, (omega (arith, twice), omega arith)))

pub add_set_words-requires-2 : goal.add_set_words-requires-2
add_set_words-requires-2 t c =
    let e : c.args.level ≡ suc (c.args.level - 1) = omega arith in
    let twice = doubled c.args.level (c.args.level - 1) e in
    (omega arith, ((halves_of c.args.self.now.nodes c.branch-branch.result c.args.level (c.args.level - 1) c.args.link c.branch-branch.ensures e c.requires.tree).2, (omega (arith, twice), omega arith)))

pub returns : goal.returns
returns t c =
    let e : c.args.level ≡ suc (c.args.level - 1) = omega arith in
    listed_halves c.args.self.now.nodes c.branch-branch.result c.args.level (c.args.level - 1) c.args.link c.args.first c.power_of_two-half.result (c.args.first + c.power_of_two-half.result) c.args.found.now.items c.add_set_words.new.found.items c.add_set_words-2.new.found.items
    c.branch-branch.ensures e c.power_of_two-half.ensures refl c.in_ok-add_set_words.ensures c.in_ok-add_set_words-2.ensures
