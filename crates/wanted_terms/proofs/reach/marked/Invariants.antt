use Rattle.wanted_terms.proofs.Listing.{IsListing}
use Rattle.wanted_terms.proofs.reach.marked.Given as goal

abbrev pub invariant-loop-place : goal.invariant-loop-place
invariant-loop-place l = IsListing l.terms l.marks l.place l.ids.items
