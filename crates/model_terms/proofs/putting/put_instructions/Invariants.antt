use Rattle.std.proofs.Common.{take}
use Rattle.term_copies.specs.Copies.{IsExtended}
use Rattle.model_terms.specs.Puts.{ArePut}
use Rattle.model_terms.proofs.putting.put_instructions.Given as goal

abbrev pub invariant-loop-place : goal.invariant-loop-place
invariant-loop-place l = record {
  extended : IsExtended l.fn.terms l.terms;
  put : ArePut l.fn.terms l.terms l.model.parts l.point (take l.place l.model.parts.instructions.items) l.all.items;
}
