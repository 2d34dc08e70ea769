use Rattle.std.specs.Prelude.{◌≡◌, length}
use Rattle.term_copies.specs.Copies.{IsExtended}
use Rattle.fixed_terms.specs.Fixed.{AreSame}
use Rattle.fixed_terms.proofs.copying.put_values.Given as goal

abbrev pub invariant-loop-place : goal.invariant-loop-place
invariant-loop-place l = record {
  extended : IsExtended l.fn.terms l.terms;
  same : AreSame l.terms l.fixes l.copies.items;
  room : length l.copies.items ≡ length l.fn.copies.items;
}
