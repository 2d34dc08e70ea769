use Rattle.std.proofs.Common.{◌≡◌, ◌<◌, ◌∙◌, IsTrue, All, length, List, subst, sym, ap, refl, slice_index_or}
use Rattle.std.proofs.lemmas.List.Elements.{All-more}
use Rattle.std.proofs.lemmas.List.{take_all}
use Rattle.sat_base.specs.declared.literals.Lit.{Lit}
use Rattle.sat_base.specs.Formula.{SatisfiesClause}
use Rattle.sat_base.proofs.formulas.Assignment.satisfies.Goals as goal

pub returns-then-not-satisfies_clause : goal.returns-then-not-satisfies_clause
returns-then-not-satisfies_clause c =
    let clauses = c.clauses-clause-items.result.now in
    let formula = c.args.formula.now.clauses in
    let i = c.loop-clause.clause-index in
    let same : clauses ≡ formula = c.clauses-clause-items.ensures.clauses in
    let below : i < length formula = rw (← same) c.loop-clause-test.true in
    let read : slice_index_or formula i c.clause-item.result ≡ c.as_slice.result.now =
    ap (λ (xs : List (List Lit)). slice_index_or xs i c.clause-item.result) (sym same) ∙ sym c.clause-item.is ∙ sym c.as_slice.ensures in (
      λ no. cc,
      λ all. sym c.if-not-satisfies_clause.true
          ∙ c.satisfies_clause.ensures.1 (subst (SatisfiesClause c.args.self.now) read (all i c.clause-item.result below)),
    )

pub loop-clause-preserved : goal.loop-clause-preserved
loop-clause-preserved c =
    let clauses = c.clauses-clause-items.result.now in
    let i = c.loop-clause.clause-index in
    let read : c.as_slice.result.now ≡ slice_index_or clauses i c.clause-item.result = c.as_slice.ensures ∙ c.clause-item.is in
    let holds : IsTrue c.satisfies_clause.result = c.if-not-satisfies_clause.false in
    All-more (SatisfiesClause c.args.self.now) clauses i c.clause-item.result c.loop-clause-test.true c.loop-clause.invariant
    (subst (SatisfiesClause c.args.self.now) read (c.satisfies_clause.ensures.0 holds))

pub returns : goal.returns
returns c =
    let clauses = c.clauses-clause-items.result.now in (
      λ _. subst (All (SatisfiesClause c.args.self.now))
          (take_all _ clauses c.loop-clause-test.false ∙ c.clauses-clause-items.ensures.clauses) c.loop-clause.invariant,
      λ _. refl,
    )
