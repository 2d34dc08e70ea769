use Rattle.term_copies.specs.Copies.{IsExtended}
use Rattle.wanted_terms.specs.Wanted.{AreCopied}
use Rattle.wanted_terms.proofs.copying.put_each.Given as goal

abbrev pub invariant-loop-place : goal.invariant-loop-place
invariant-loop-place l = record {
  extended : IsExtended l.fn.terms l.terms;
  copied : AreCopied l.terms l.source l.leaves l.wanted l.place l.copies.items;
}
