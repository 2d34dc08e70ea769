use Rattle.std.proofs.Common.{◌≡◌, drop}
use Rattle.v_value.specs.Hash.{hash_from}
use Rattle.v_value.proofs.hash.hash_of.Given as goal

abbrev pub invariant-loop-byte : goal.invariant-loop-byte
invariant-loop-byte l = hash_from 0 l.name ≡ hash_from l.hash (drop l.byte-index l.name)
