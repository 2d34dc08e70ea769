use Rattle.std.proofs.Common.{◌≡◌, map, take}
use Rattle.sat_base.specs.Codes.{literal_of}
use Rattle.sat_base.proofs.logs.decode_all.Given as goal

abbrev pub invariant-loop-code : goal.invariant-loop-code
invariant-loop-code l = l.lits.items ≡ map literal_of (take l.code-index l.codes)
