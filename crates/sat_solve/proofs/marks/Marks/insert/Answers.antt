use Rattle.std.proofs.Common.{◌≡◌, ◌<◌, length, Bool, false, get_or, arith, ap, sym, subst}
use Rattle.sat_solve.proofs.Members.{member_count-insert, member_count-le}
use Rattle.sat_solve.proofs.marks.Marks.insert.Goals as goal
use Rattle.sat_solve.proofs.marks.Marks.insert.Goals.{Then-not-index}

in_range : (c : Then-not-index) → c.args.var < length c.self.inside.marked.items
in_range c = omega (arith, c.requires, ap length c.self.view_is)

absent : (c : Then-not-index) → get_or c.self.inside.marked.items c.args.var false ≡ false
absent c = sym (subst (λ (b : Bool). b ≡ get_or c.self.inside.marked.items c.args.var b) c.if-not-index.true c.index.ensures)

pub overflow_add-self : goal.overflow_add-self
overflow_add-self c =
    let here = (goal.at.overflow_add-self c).Then-not-index in
    omega (arith, c.self.invariant, c.self.inside.marked.ok.0, c.self.inside.marked.small, member_count-le c.self.inside.marked.items, in_range here)

pub invariant_of-self : goal.invariant_of-self
invariant_of-self c =
    let here = (goal.at.invariant_of-self c).Then-not-index in
    omega (arith, c.self.invariant, member_count-insert c.self.inside.marked.items c.args.var (in_range here) (absent here))
