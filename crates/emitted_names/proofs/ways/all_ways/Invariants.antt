use Rattle.emitted_names.specs.Parts.{AreWaysTo}
use Rattle.emitted_names.proofs.ways.all_ways.Given as goal

abbrev pub invariant-loop-number : goal.invariant-loop-number
invariant-loop-number l = AreWaysTo l.terms l.instructions l.number l.rows.items
