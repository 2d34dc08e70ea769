use Rattle.std.proofs.Common.{◌≡◌, ◌||◌, ℕ, List, drop}
use Rattle.verilog_designs.specs.Names.{is_among}
use Rattle.v_hier.specs.Tables.{has_name}
use Rattle.v_instances.specs.Texts.{texts}
use Rattle.v_instances.proofs.listing.set_of.Given as goal

abbrev pub invariant-loop-name : goal.invariant-loop-name
invariant-loop-name l = (q : List ℕ) → (has_name l.set q || is_among (texts (drop l.name-index l.names)) q) ≡ is_among (texts l.names) q
