use Rattle.std.proofs.Common.{◌≡◌, ◌∙◌, ◌-◌, ◌^◌, ◌<◌, ◌≤◌, ℕ, suc, get_or, set, ap, arith}
use Rattle.sparse_memories.specs.Nodes.{words_at}
use Rattle.sparse_memories.proofs.Trees.{doubled}
use Rattle.sparse_memories.proofs.Storing.{halves_of, lower_words, upper_words, same_lower, same_upper}
use Rattle.sparse_memories.proofs.pool.Pool.+stored.Goals as goal

pub returns-then-address-half-clause-words : goal.returns-then-address-half-clause-words
returns-then-address-half-clause-words t c =
    let e : c.args.level ≡ suc (c.args.level - 1) = omega arith in
    let below : c.args.address < 2 ^ (c.args.level - 1) = omega arith in
    lower_words c.args.self.now.nodes c.stored-lower.new.self.nodes c.put_branch.new.self.nodes c.branch-branch.result c.args.level (c.args.level - 1) c.args.link c.stored-lower.result c.put_branch.result c.args.address c.args.word
    c.branch-branch.ensures e below c.requires.tree c.stored-lower.ensures.keeps c.stored-lower.ensures.tree c.stored-lower.ensures.words c.put_branch.ensures.words

pub returns-then-address-half-clause-same : goal.returns-then-address-half-clause-same
returns-then-address-half-clause-same t c =
    let e : c.args.level ≡ suc (c.args.level - 1) = omega arith in
    let below : c.args.address < 2 ^ (c.args.level - 1) = omega arith in
    same_lower c.args.self.now c.stored-lower.new.self c.put_branch.new.self c.branch-branch.result c.args.level (c.args.level - 1) c.args.link c.stored-lower.result c.put_branch.result c.args.address c.args.word
    c.branch-branch.ensures e below c.stored-lower.ensures.same c.put_branch.ensures.same

pub stored-upper-requires : goal.stored-upper-requires
stored-upper-requires t c =
    let e : c.args.level ≡ suc (c.args.level - 1) = omega arith in
    let twice = doubled c.args.level (c.args.level - 1) e in
    (omega arith, (omega arith, ((halves_of c.args.self.now.nodes c.branch-branch.result c.args.level (c.args.level - 1) c.args.link c.branch-branch.ensures e c.requires.tree).2, (omega (arith, twice), omega arith))))

pub returns-clause-words : goal.returns-clause-words
returns-clause-words t c =
    let e : c.args.level ≡ suc (c.args.level - 1) = omega arith in
    let above : 2 ^ (c.args.level - 1) ≤ c.args.address = omega arith in
    let half = c.power_of_two-half.ensures in
    upper_words c.args.self.now.nodes c.stored-upper.new.self.nodes c.put_branch-2.new.self.nodes c.branch-branch.result c.args.level (c.args.level - 1) c.args.link c.stored-upper.result c.put_branch-2.result c.args.address c.args.word
    c.branch-branch.ensures e above c.requires.tree c.stored-upper.ensures.keeps c.stored-upper.ensures.tree
    (c.stored-upper.ensures.words ∙ ap (λ (x : ℕ). set (words_at c.args.self.now.nodes (c.args.level - 1) c.branch-branch.result.upper) (c.args.address - x) c.args.word) half) c.put_branch-2.ensures.words

pub returns-clause-same : goal.returns-clause-same
returns-clause-same t c =
    let e : c.args.level ≡ suc (c.args.level - 1) = omega arith in
    let above : 2 ^ (c.args.level - 1) ≤ c.args.address = omega arith in
    let half = c.power_of_two-half.ensures in
    same_upper c.args.self.now c.stored-upper.new.self c.put_branch-2.new.self c.branch-branch.result c.args.level (c.args.level - 1) c.args.link c.stored-upper.result c.put_branch-2.result c.args.address c.args.word
    c.branch-branch.ensures e above
    (λ q. c.stored-upper.ensures.same (ap (λ (x : ℕ). get_or (words_at c.args.self.now.nodes (c.args.level - 1) c.branch-branch.result.upper) (c.args.address - x) 0) half ∙ q)) c.put_branch-2.ensures.same
