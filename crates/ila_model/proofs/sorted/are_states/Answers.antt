use Rattle.std.proofs.Common.{sym, arith, drop}
use Rattle.std.proofs.lemmas.List.{length-drop}
use Rattle.ila_model.proofs.Declarations.{are_states-short}
use Rattle.ila_model.proofs.sorted.are_states.Goals as goal

pub returns-then-saturating_sub-initial_values : goal.returns-then-saturating_sub-initial_values
returns-then-saturating_sub-initial_values c =
    sym (are_states-short c.args.private (drop c.args.first c.args.terms.now.names) c.args.initial_values.now (omega (arith, length-drop c.args.first c.args.terms.now.names)))
