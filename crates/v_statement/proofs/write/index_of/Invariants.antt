use Rattle.std.proofs.Common.{◌≡◌, drop}
use Rattle.v_statement.specs.Places.{index_from}
use Rattle.v_statement.proofs.write.index_of.Given as goal

abbrev pub invariant-loop-index : goal.invariant-loop-index
invariant-loop-index l = index_from 0 l.entries l.name ≡ index_from l.index (drop l.index l.entries) l.name
