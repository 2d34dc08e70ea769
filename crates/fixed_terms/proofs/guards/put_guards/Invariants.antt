use Rattle.std.specs.Prelude.{◌-◌, length}
use Rattle.term_copies.specs.Copies.{IsExtended}
use Rattle.fixed_terms.specs.Fixed.{IsGuarded}
use Rattle.fixed_terms.proofs.guards.put_guards.Given as goal

abbrev pub invariant-loop-done : goal.invariant-loop-done
invariant-loop-done l = record {
  extended : IsExtended l.fn.terms l.terms;
  guarded : IsGuarded l.terms l.fixes (length l.fixes - l.done) l.fn.copy.0 l.all.0;
}
