use Rattle.verilog_renamed.proofs.Meaning.{targets_name_the_same, writes_change_the_same, updates_change_the_same, runs_do_the_same}
use Rattle.verilog_renamed.proofs.laws.a_renamed_statement_does_the_same.Goals as goal

pub returns : goal.returns
returns c = record { targets = targets_name_the_same; writes = writes_change_the_same; updates = updates_change_the_same; runs = runs_do_the_same }
