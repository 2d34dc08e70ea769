use Rattle.std.proofs.Common.{◌∙◌, sym}
use Rattle.std.proofs.lemmas.Slice.Eq.{bytes_eq-Decides}
use Rattle.v_judged.proofs.scopes.is_like.Goals as goal

pub returns-then-has_none : goal.returns-then-has_none
returns-then-has_none c = λ t. (
  (bytes_eq-Decides _ _).0 (sym c.eq.ensures ∙ c.if-eq.true),
  c.has_none.ensures c.if-has_none.true ∙ sym (c.has_none-then-has_none.ensures t),
)
