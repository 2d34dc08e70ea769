use Rattle.emitted_names.specs.Ids.{kept_by}
use Rattle.emitted_names.proofs.Listing.{AreListedTo}
use Rattle.emitted_names.proofs.ids.kept_ids.Given as goal

abbrev pub invariant-loop-place : goal.invariant-loop-place
invariant-loop-place l = AreListedTo (kept_by l.keep) l.terms l.place l.ids.items
