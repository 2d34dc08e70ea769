use Rattle.std.proofs.Common.{◌≡◌, [], length}
use denote.Text.{Utf8}
use denote.Shadow.{shadow}
use Rattle.v_design.specs.Table.{term_from, terms_at}
use Rattle.v_design.proofs.table.term_at.Given as goal

abbrev pub invariant-instances : goal.invariant-instances
invariant-instances l = (terms_at l.places l.path ≡ term_from l.places l.place [] l.rest) × shadow (Utf8 l.rest)

abbrev pub decreases-instances : goal.decreases-instances
decreases-instances l = length l.rest
