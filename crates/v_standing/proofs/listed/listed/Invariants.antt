use Rattle.std.proofs.Common.{◌≡◌, ◌++◌, drop, map, length}
use Rattle.v_syntax.specs.Source.{module_of}
use Rattle.v_standing.specs.Standing.{modules_of, numbered, AreBelow}
use Rattle.v_standing.proofs.listed.listed.Given as goal

abbrev pub invariant-loop-number : goal.invariant-loop-number
invariant-loop-number l =
    AreBelow (length l.modules) l.numbers
    → AreBelow (length l.modules) (drop l.number-index l.numbers)
    × (modules_of l.list.items ++ numbered (map module_of l.modules) (drop l.number-index l.numbers) ≡ numbered (map module_of l.modules) l.numbers)
