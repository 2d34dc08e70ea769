use Rattle.std.proofs.Common.{◌≡◌, drop}
use Rattle.verilog_designs.specs.Reads.{or_in}
use Rattle.v_masks.specs.Masks.{masked}
use Rattle.v_depend.specs.Running.{of_names}
use Rattle.v_depend.proofs.table.add_names.Given as goal

abbrev pub invariant-loop-entry : goal.invariant-loop-entry
invariant-loop-entry l = or_in (masked l.initial.to) (of_names l.entries (masked l.from)) ≡ or_in (masked l.to) (of_names (drop l.entry-index l.entries) (masked l.from))
