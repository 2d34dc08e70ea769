use Rattle.v_settle.proofs.Alone.{settles-from-outside}
use Rattle.v_settle.proofs.Back.{settles-with-its-module}
use Rattle.v_settle.proofs.laws.a_design_of_one_module_settles_from_outside.Goals as goal

pub returns : goal.returns
returns c = record { there = settles-from-outside; back = settles-with-its-module }
