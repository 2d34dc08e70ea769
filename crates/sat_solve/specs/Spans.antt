-- A clause in a buffer of codes.
use Rattle.std.specs.Prelude.{ℕ, List, map, slice_range}
use Rattle.sat_base.specs.declared.literals.Lit.{Lit}
use Rattle.sat_base.specs.Codes.{literal_of}
use Rattle.sat_solve.specs.declared.arena.Span.{Span}

abbrev pub lits_in : List ℕ → Span → List Lit
lits_in codes s = map literal_of (slice_range codes s.start s.end)
