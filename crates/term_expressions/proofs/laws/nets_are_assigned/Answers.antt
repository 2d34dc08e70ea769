use Rattle.term_expressions.proofs.Shifts.{standing_is_assigned, signed_is_sext}
use Rattle.term_expressions.proofs.Assigned.{assigned_net_has_its_number}
use Rattle.term_expressions.proofs.laws.nets_are_assigned.Goals as goal

pub returns : goal.returns
returns c = record { same = standing_is_assigned; widened = signed_is_sext; held = assigned_net_has_its_number }
