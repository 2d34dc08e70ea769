use Rattle.std.proofs.Common.{◌≡◌, ◌∙◌, ◌++◌, ◌∷◌, [], List, ℕ, take, sym, ap, subst, All, Contains}
use Rattle.std.proofs.lemmas.List.{take_more}
use Rattle.sat_base.specs.declared.literals.Lit.{Lit}
use Rattle.sat_check.specs.Numbering.{AddsNumbered, Numbers}
use Rattle.sat_check.proofs.Numberings.{AddsNumbered-push}
use Rattle.sat_check.proofs.numbering.add_clauses.Goals as goal

pub number_all-requires-clause-known : goal.number_all-requires-clause-known
number_all-requires-clause-known c =
    subst (All (λ (l : Lit). Contains c.args.variables.now l.var)) (sym c.clause-item.is ∙ sym c.as_slice.ensures)
    (c.requires.known c.loop-clause.clause-index c.clause-item.result c.loop-clause-test.true)

pub loop-clause-preserved : goal.loop-clause-preserved
loop-clause-preserved c =
    let variables = c.args.variables.now in
    let clauses = c.args.clauses.now in
    let i = c.loop-clause.clause-index in
    let stand : Numbers variables c.number_all.new.numbers.items c.clause-item.result =
    subst (Numbers variables c.number_all.new.numbers.items) c.as_slice.ensures c.in_ok-number_all.ensures in
    let pushed : c.push.new.self ≡ c.loop-clause.arena ++ (c.number_all.new.numbers.items ∷ []) =
    c.in_ok-push.ensures.ok ∙ ap (λ (x : List ℕ). c.loop-clause.arena ++ (x ∷ [])) c.as_slice-in-loop-clause.ensures.value in
    subst (AddsNumbered variables c.args.arena.now c.push.new.self)
    (ap (λ (lits : List Lit). take i clauses ++ (lits ∷ [])) c.clause-item.is ∙ sym (take_more clauses i c.clause-item.result c.loop-clause-test.true))
    (AddsNumbered-push variables c.args.arena.now c.loop-clause.arena c.push.new.self (take i clauses) c.number_all.new.numbers.items c.clause-item.result
    c.loop-clause.invariant stand pushed)
