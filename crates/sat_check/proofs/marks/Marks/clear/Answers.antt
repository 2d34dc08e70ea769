use Rattle.std.proofs.Common.{arith, length, ap, ◌∙◌, replicate, false, List, Bool}
use Rattle.std.proofs.lemmas.List.{get_or_read}
use Rattle.sat_check.proofs.Members.{IsEmptying-from, IsEmptying-step, IsEmptying-end, ListsMembers-end}
use Rattle.sat_check.proofs.marks.Marks.clear.Goals as goal

pub loop-self-init : goal.loop-self-init
loop-self-init c = IsEmptying-from _ _ _ c.self.invariant

pub invariant_of-self : goal.invariant_of-self
invariant_of-self c = ListsMembers-end _ _ _ _ c.loop-self.invariant (omega (arith, c.loop-self-test.false))

pub loop-self-preserved : goal.loop-self-preserved
loop-self-preserved c =
    IsEmptying-step _ _ _ _ _ _ c.loop-self.invariant (omega (arith, c.loop-self-test.true))
    (get_or_read c.loop-self.self-inside.members.items _ _ (omega (arith, c.loop-self.invariant.within, c.loop-self-test.true)) c.index.ensures 0)

pub returns : goal.returns
returns c =
    IsEmptying-end _ _ _ _ c.loop-self.invariant (omega (arith, c.loop-self-test.false))
    ∙ ap (λ (m : List Bool). replicate (length m) false) c.self.view_is
