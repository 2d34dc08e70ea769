use Rattle.v_write.proofs.Unbroken.{statement_sound}
use Rattle.v_write.proofs.laws.unbroken_statements_are_sound.Goals as goal

pub returns : goal.returns
returns c s is_clocked_block x objects unbroken free = statement_sound s is_clocked_block x objects unbroken free
