use Rattle.verilog_renamed.proofs.KnownNames.{known_target_bits, known_statement_bits, known_items, known_full, known_reached, known_block_bits}
use Rattle.verilog_renamed.proofs.known_names.known_trees_have_the_same_bits.Goals as goal

pub returns : goal.returns
returns c = record { targets = known_target_bits; statements = known_statement_bits; items = known_items; full = known_full; assignments = known_reached; blocks = known_block_bits }
