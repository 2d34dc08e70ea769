use Rattle.std.proofs.Common.{◌≡◌, ◌-◌, suc, refl, arith}
use Rattle.std.proofs.lemmas.Bool.{false≢true}
use Rattle.sparse_memories.proofs.Comparing.{same_from_halves, same_lower_halves, same_upper_halves}
use Rattle.sparse_memories.proofs.pool.Pool.+are_same.Goals as goal

pub returns-then-not-are_same : goal.returns-then-not-are_same
returns-then-not-are_same t c =
    let e : c.args.level ≡ suc (c.args.level - 1) = omega arith in (
      λ h. absurd (false≢true h),
      λ s. c.if-not-are_same.ensures.1 (same_lower_halves c.args.self.now.nodes c.args.self.now.nodes c.branch-x.result c.branch-y.result c.args.level (c.args.level - 1) c.args.first c.args.second c.branch-x.ensures c.branch-y.ensures e s),
    )

pub returns : goal.returns
returns t c =
    let e : c.args.level ≡ suc (c.args.level - 1) = omega arith in (
      λ h. same_from_halves c.args.self.now.nodes c.args.self.now.nodes c.branch-x.result c.branch-y.result c.args.level (c.args.level - 1) c.args.first c.args.second c.branch-x.ensures c.branch-y.ensures e (c.if-not-are_same.ensures.0 refl) (c.are_same-2.ensures.0 h),
      λ s. c.are_same-2.ensures.1 (same_upper_halves c.args.self.now.nodes c.args.self.now.nodes c.branch-x.result c.branch-y.result c.args.level (c.args.level - 1) c.args.first c.args.second c.branch-x.ensures c.branch-y.ensures e s),
    )
