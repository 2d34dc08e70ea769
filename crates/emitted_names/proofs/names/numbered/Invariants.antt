use Rattle.emitted_names.specs.Named.{AreNumbered}
use Rattle.emitted_names.proofs.names.numbered.Given as goal

abbrev pub invariant-loop-number : goal.invariant-loop-number
invariant-loop-number l = AreNumbered l.text l.number l.names.items
