use Rattle.std.proofs.Common.{◌≡◌, ◌<◌, length, true, false, get_or, arith, ap, sym, ◌∙◌}
use Rattle.std.proofs.lemmas.List.{get_or_read}
use Rattle.sat_solve.proofs.Members.{member_count-remove}
use Rattle.sat_solve.proofs.marks.Marks.remove.Goals as goal
use Rattle.sat_solve.proofs.marks.Marks.remove.Goals.{Then-index}

in_range : (c : Then-index) → c.args.var < length c.self.inside.marked.items
in_range c = omega (arith, c.requires, ap length c.self.view_is)

present : (c : Then-index) → get_or c.self.inside.marked.items c.args.var false ≡ true
present c = sym (get_or_read c.self.inside.marked.items c.args.var c.index.result.now (in_range c) c.index.ensures false) ∙ c.if-index.true

pub overflow_sub-self : goal.overflow_sub-self
overflow_sub-self c =
    let here = (goal.at.overflow_sub-self c).Then-index in
    omega (arith, c.self.invariant, member_count-remove c.self.inside.marked.items c.args.var (in_range here) (present here))

pub invariant_of-self : goal.invariant_of-self
invariant_of-self c =
    let here = (goal.at.invariant_of-self c).Then-index in
    omega (arith, c.self.invariant, member_count-remove c.self.inside.marked.items c.args.var (in_range here) (present here))
