use Rattle.std.proofs.Common.{◌≡◌, ◌≤◌, ◌++◌, length, map, take}
use Rattle.sat_base.specs.Codes.{code_of}
use Rattle.sat_solve.proofs.arena.push_codes.Given as goal

abbrev pub invariant-loop-lit : goal.invariant-loop-lit
invariant-loop-lit l = record {
  codes : l.codes.items ≡ l.initial.codes.items ++ map code_of (take l.lit-index l.lits);
  longer : length l.initial.codes.items ≤ length l.codes.items;
}
