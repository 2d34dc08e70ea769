use Rattle.std.proofs.Common.{arith, ap, length, ◌<◌, Bool, false, get_or, ◌≡◌, sym, subst}
use Rattle.sat_check.proofs.Members.{member_count-below, ListsMembers-insert}
use Rattle.sat_check.proofs.marks.Marks.insert.Goals as goal
use Rattle.sat_check.proofs.marks.Marks.insert.Goals.{Then-not-index}

-- the number is in range
in_range : (c : Then-not-index) → c.args.number < length c.self.inside.marked.items
in_range c = omega (arith, c.requires, ap length c.self.view_is)

-- and it is not a member
absent : (c : Then-not-index) → get_or c.self.inside.marked.items c.args.number false ≡ false
absent c =
    sym (subst (λ (b : Bool). b ≡ get_or c.self.inside.marked.items c.args.number b) c.if-not-index.true c.index.ensures)

pub index_mut-requires-then-not-index : goal.index_mut-requires-then-not-index
index_mut-requires-then-not-index c =
    let here = (goal.at.index_mut-requires-then-not-index c).Then-not-index in
    omega (
      arith,
      c.self.invariant.room,
      c.self.invariant.all,
      c.self.inside.members.ok.0,
      member_count-below c.self.inside.marked.items c.args.number (in_range here) (absent here),
    )

pub overflow_add-self : goal.overflow_add-self
overflow_add-self c =
    let here = (goal.at.overflow_add-self c).Then-not-index in
    omega (
      arith,
      c.self.invariant.room,
      c.self.invariant.all,
      c.self.inside.members.ok.0,
      c.self.inside.members.small,
      member_count-below c.self.inside.marked.items c.args.number (in_range here) (absent here),
    )

pub invariant_of-self : goal.invariant_of-self
invariant_of-self c =
    let here = (goal.at.invariant_of-self c).Then-not-index in
    ListsMembers-insert c.self.inside.marked.items c.self.inside.members.items c.self.inside.count c.args.number c.self.invariant
    (in_range here) (absent here)
