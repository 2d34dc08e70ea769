use Rattle.std.proofs.Common.{◌≡◌, ◌∙◌, ◌-◌, ◌^◌, ◌<◌, ◌≤◌, ℕ, suc, get_or, sym, ap, arith}
use Rattle.sparse_memories.specs.Nodes.{words_at}
use Rattle.sparse_memories.proofs.Trees.{doubled}
use Rattle.sparse_memories.proofs.Storing.{halves_of, read_lower, read_upper}
use Rattle.sparse_memories.proofs.pool.Pool.+word_at.Goals as goal

pub returns-then-address-half : goal.returns-then-address-half
returns-then-address-half t c =
    let e : c.args.level ≡ suc (c.args.level - 1) = omega arith in
    let below : c.args.address < 2 ^ (c.args.level - 1) = omega arith in
    c.word_at.ensures ∙ sym (read_lower c.args.self.now.nodes c.branch-branch.result c.args.level (c.args.level - 1) c.args.link c.args.address c.branch-branch.ensures e below)

pub word_at-requires-2 : goal.word_at-requires-2
word_at-requires-2 t c =
    let e : c.args.level ≡ suc (c.args.level - 1) = omega arith in
    let twice = doubled c.args.level (c.args.level - 1) e in
    (omega arith, (omega arith, ((halves_of c.args.self.now.nodes c.branch-branch.result c.args.level (c.args.level - 1) c.args.link c.branch-branch.ensures e c.requires.tree).2, omega (arith, twice))))

pub returns : goal.returns
returns t c =
    let e : c.args.level ≡ suc (c.args.level - 1) = omega arith in
    let above : 2 ^ (c.args.level - 1) ≤ c.args.address = omega arith in
    let half = c.power_of_two-half.ensures in
    c.word_at-2.ensures
    ∙ ap (λ (x : ℕ). get_or (words_at c.args.self.now.nodes (c.args.level - 1) c.branch-branch.result.upper) (c.args.address - x) 0) half
    ∙ sym (read_upper c.args.self.now.nodes c.branch-branch.result c.args.level (c.args.level - 1) c.args.link c.args.address c.branch-branch.ensures e above)
