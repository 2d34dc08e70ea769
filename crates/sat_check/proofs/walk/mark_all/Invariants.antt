use Rattle.std.proofs.Common.{◌≡◌, ℕ, length, map, take}
use Rattle.sat_base.specs.declared.literals.Lit.{Lit}
use Rattle.sat_check.specs.Numbering.{IsNumbering}
use Rattle.sat_check.specs.Walk.{Represents}
use Rattle.sat_check.proofs.walk.mark_all.Given as goal

abbrev pub invariant-loop-literal : goal.invariant-loop-literal
invariant-loop-literal l =
    (length l.marks ≡ length l.initial.marks)
    × ((at : ℕ → Lit) → IsNumbering (length l.initial.marks) at → Represents at l.marks (map at (take l.literal-index l.literals)))
