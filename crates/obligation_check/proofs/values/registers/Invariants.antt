-- The values so far, then those of the names that are left.
use Rattle.std.proofs.Common.{◌≡◌, ◌+◌, ◌≤◌, ◌++◌, map, drop, take, length, vec_len}
use Rattle.wb_terms.specs.Environment.{as_value}
use Rattle.obligation_check.specs.Gathered.{gathered_values, words_in}
use Rattle.obligation_check.proofs.values.registers.Given as goal

abbrev pub invariant-loop-place : goal.invariant-loop-place
invariant-loop-place l =
    (map as_value l.list.items ++ gathered_values l.values l.place l.start (drop l.place (take l.count l.terms.names))
    ≡ gathered_values l.values 0 (length l.terms.names) (take l.count l.terms.names))
    × (l.start + words_in (drop l.place (take l.count l.terms.names)) ≤ vec_len l.values.values)
