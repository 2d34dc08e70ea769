use Rattle.std.proofs.Common.{◌≡◌, map, take}
use Rattle.term_copies.specs.Copies.{copy_of}
use Rattle.obligation_terms.proofs.first.terms_at.Given as goal

abbrev pub invariant-loop-id : goal.invariant-loop-id
invariant-loop-id l = l.found.items ≡ map (copy_of l.row) (take l.id-index l.ids)
