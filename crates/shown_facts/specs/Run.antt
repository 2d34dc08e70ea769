-- A simulated design that was run through the first cycles, with a row for each.
use Rattle.std.specs.Prelude.{◌≡◌, ℕ, List, length}
use Rattle.v_cycle.specs.declared.cycle.Cycle.{Cycle}
use Rattle.v_cycle.specs.Running.{IsCycleOf, registers_in}
use Rattle.mapped_designs.specs.Mapped.{Mapped}
use Rattle.mapped_designs.specs.Runs.{Values, registers_at}
use Rattle.shown_facts.specs.declared.rows.Row.{Row}
use Rattle.shown_facts.specs.Noted.{AreRows}

pub record IsRunTo (e : Mapped) (x : Values) (c : Cycle) (rows : List Row) (t : ℕ) : Type 0 where
  pub made : IsCycleOf e.parts c
  pub reaches : registers_in c ≡ registers_at e.parts x t
  pub rows_are : AreRows e x rows
  pub count : length rows ≡ t
