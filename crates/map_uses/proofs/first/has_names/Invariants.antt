use Rattle.map_uses.proofs.Told.{NoNamesBefore}
use Rattle.map_uses.proofs.first.has_names.Given as goal

abbrev pub invariant-loop-number : goal.invariant-loop-number
invariant-loop-number l = NoNamesBefore l.expressions l.asked l.number
