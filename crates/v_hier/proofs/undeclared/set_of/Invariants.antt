use Rattle.std.proofs.Common.{◌≡◌, ℕ, List, ◌||◌, drop}
use Rattle.verilog_designs.specs.Names.{is_among}
use Rattle.v_hier.specs.Tables.{has_name}
use Rattle.v_hier.specs.Entries.{entries_of, entry_names}
use Rattle.v_hier.proofs.undeclared.set_of.Given as goal

abbrev pub invariant-loop-entry : goal.invariant-loop-entry
invariant-loop-entry l = (q : List ℕ) → (has_name l.set q || is_among (entry_names (entries_of (drop l.entry-index l.entries))) q) ≡ is_among (entry_names (entries_of l.entries)) q
