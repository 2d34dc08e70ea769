use Rattle.std.proofs.Common.{◌≡◌, ◌∙◌, ◌-◌, ◌<◌, ℕ, suc, length, sym, subst, ap, arith}
use Rattle.sparse_memories.specs.Nodes.{Content}
use Rattle.sparse_memories.proofs.Trees.{doubled, front_zeros, back_zeros, put_zeros}
use Rattle.sparse_memories.proofs.pool.Pool.+built.Goals as goal

pub put_leaf-requires-clause-link : goal.put_leaf-requires-clause-link
put_leaf-requires-clause-link t c = subst (λ (k : ℕ). k < length c.reserve.new.self.nodes.leaves) (sym c.zero_link-zero.ensures.link) c.zero_link-zero.ensures.zeros.leaf

pub split_at-requires : goal.split_at-requires
split_at-requires t c =
    let e : c.args.level ≡ suc (c.args.level - 1) = omega arith in
    omega (arith, doubled c.args.level (c.args.level - 1) e)

pub built-requires-2 : goal.built-requires-2
built-requires-2 t c =
    let e : c.args.level ≡ suc (c.args.level - 1) = omega arith in
    (omega arith, (omega arith, omega (arith, doubled c.args.level (c.args.level - 1) e, c.split_at.ensures.back_len)))

pub put_branch-requires-clause-link : goal.put_branch-requires-clause-link
put_branch-requires-clause-link t c = subst (λ (k : ℕ). k < length c.reserve-2.new.self.nodes.branches) (sym c.zero_link-zero-2.ensures.link) c.zero_link-zero-2.ensures.zeros.branch

pub returns-in_err-upper-clause-zeros : goal.returns-in_err-upper-clause-zeros
returns-in_err-upper-clause-zeros t c q =
    let e : c.args.level ≡ suc (c.args.level - 1) = omega arith in
    c.in_err-upper.ensures.zeros (back_zeros c.args.words.now c.split_at.result.1.now c.args.level (c.args.level - 1) c.power_of_two-half.result e c.power_of_two-half.ensures c.split_at.ensures.back q)
    ∙ c.in_ok-lower.ensures.zeros (front_zeros c.args.words.now c.split_at.result.0.now c.args.level (c.args.level - 1) c.power_of_two-half.result e c.power_of_two-half.ensures c.split_at.ensures.front q)

pub returns-in_err-reserve-2-clause-zeros : goal.returns-in_err-reserve-2-clause-zeros
returns-in_err-reserve-2-clause-zeros t c q =
    let e : c.args.level ≡ suc (c.args.level - 1) = omega arith in
    c.in_err-reserve-2.ensures.nodes
    ∙ c.in_ok-upper.ensures.zeros (back_zeros c.args.words.now c.split_at.result.1.now c.args.level (c.args.level - 1) c.power_of_two-half.result e c.power_of_two-half.ensures c.split_at.ensures.back q)
    ∙ c.in_ok-lower.ensures.zeros (front_zeros c.args.words.now c.split_at.result.0.now c.args.level (c.args.level - 1) c.power_of_two-half.result e c.power_of_two-half.ensures c.split_at.ensures.front q)

pub returns-clause-zeros : goal.returns-clause-zeros
returns-clause-zeros t c q =
    let e : c.args.level ≡ suc (c.args.level - 1) = omega arith in
    let put = put_zeros c.reserve-2.new.self c.put_branch.new.self c.zero_link-zero-2.result c.in_ok-lower.lower c.in_ok-upper.upper c.put_branch.result c.zero_link-zero-2.ensures.link c.zero_link-zero-2.ensures.zeros
    (c.in_ok-lower.ensures.zero (front_zeros c.args.words.now c.split_at.result.0.now c.args.level (c.args.level - 1) c.power_of_two-half.result e c.power_of_two-half.ensures c.split_at.ensures.front q))
    (c.in_ok-upper.ensures.zero (back_zeros c.args.words.now c.split_at.result.1.now c.args.level (c.args.level - 1) c.power_of_two-half.result e c.power_of_two-half.ensures c.split_at.ensures.back q)) c.put_branch.ensures.same in
    ap (λ (x : Content). x.nodes) put.1
    ∙ c.in_ok-reserve-2.ensures.nodes
    ∙ c.in_ok-upper.ensures.zeros (back_zeros c.args.words.now c.split_at.result.1.now c.args.level (c.args.level - 1) c.power_of_two-half.result e c.power_of_two-half.ensures c.split_at.ensures.back q)
    ∙ c.in_ok-lower.ensures.zeros (front_zeros c.args.words.now c.split_at.result.0.now c.args.level (c.args.level - 1) c.power_of_two-half.result e c.power_of_two-half.ensures c.split_at.ensures.front q)

pub returns-clause-zero : goal.returns-clause-zero
returns-clause-zero t c q =
    let e : c.args.level ≡ suc (c.args.level - 1) = omega arith in
    (put_zeros c.reserve-2.new.self c.put_branch.new.self c.zero_link-zero-2.result c.in_ok-lower.lower c.in_ok-upper.upper c.put_branch.result c.zero_link-zero-2.ensures.link c.zero_link-zero-2.ensures.zeros
    (c.in_ok-lower.ensures.zero (front_zeros c.args.words.now c.split_at.result.0.now c.args.level (c.args.level - 1) c.power_of_two-half.result e c.power_of_two-half.ensures c.split_at.ensures.front q))
    (c.in_ok-upper.ensures.zero (back_zeros c.args.words.now c.split_at.result.1.now c.args.level (c.args.level - 1) c.power_of_two-half.result e c.power_of_two-half.ensures c.split_at.ensures.back q)) c.put_branch.ensures.same).0
