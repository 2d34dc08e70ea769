use Rattle.verilog_order.proofs.Turns.{blocks_settle, blocks_keep, blocks_keep_values}
use Rattle.verilog_order.proofs.laws.a_block_settles_after_what_it_depends_on.Goals as goal

pub returns : goal.returns
returns c = record { blocks = blocks_settle; others = blocks_keep; values = blocks_keep_values }
