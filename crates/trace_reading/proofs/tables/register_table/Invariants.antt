use Rattle.std.proofs.Common.{◌≡◌, ℕ, List}
use Rattle.v_design.specs.Parts.{registers_of}
use Rattle.v_design.specs.Seen.{parts_of}
use Rattle.trace_reading.specs.Fitting.{place_before}
use Rattle.trace_reading.specs.Tables.{place_under}
use Rattle.trace_reading.proofs.tables.register_table.Given as goal

abbrev pub invariant-loop-place : goal.invariant-loop-place
invariant-loop-place l = (n : List ℕ) → place_under l.table n ≡ place_before (registers_of (parts_of l.design)) l.place n
