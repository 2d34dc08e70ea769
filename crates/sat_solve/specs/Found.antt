-- A clause that unit propagation has found to be false.
use Rattle.std.specs.Prelude.{◌≡◌, ℕ, List, slice_get, Some}
use Rattle.sat_base.specs.declared.literals.Lit.{Lit}
use Rattle.sat_solve.specs.declared.trail.Entry.{Entry}
use Rattle.sat_solve.specs.Trail.{IsConflict}

-- the clause of this number is falsified
abbrev pub IsConflictAt : List (List Lit) → List Entry → ℕ → Type 0
IsConflictAt clauses trail number =
    (c : List Lit) × (slice_get clauses number ≡ Some c) × IsConflict trail c
