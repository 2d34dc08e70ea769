use Rattle.std.proofs.Common.{◌≡◌, ◌+◌, Bool, ◌∷◌, [], ◌++◌, false, length, List, get_or, sym, ap, ◌∙◌, subst}
use Rattle.std.proofs.lemmas.List.{length-set, get_or-set_other}
use Rattle.sat_base.specs.declared.literals.Lit.{Lit}
use Rattle.sat_base.specs.Literal.{negation}
use Rattle.sat_solve.specs.State.{known_clauses}
use Rattle.sat_solve.specs.Walk.{IsWalked}
use Rattle.sat_solve.proofs.Walks.{IsWalked-kept}
use Rattle.sat_solve.proofs.walk.keep.Goals as goal

pub returns-clause-walked : goal.returns-clause-walked
returns-clause-walked c =
    let clauses = known_clauses c.args.cnf.now c.args.log.now in
    let trail = c.args.trail.now in
    let e = c.newest.result in
    let old = c.args.walk.now in
    let less = c.remove.new.self in
    let pushed : c.push.new.self.items ≡ old.lits.items ++ negation e.lit ∷ [] = c.in_ok-push.ensures.items ∙ ap (λ (l : Lit). old.lits.items ++ l ∷ []) c.negated.ensures in
    subst (λ ls. IsWalked clauses trail.entries trail.vars (c.args.k + 1) less ls old.numbers.items) (sym pushed)
    (IsWalked-kept clauses trail.entries trail.vars c.args.k e c.requires.state.sound c.newest.ensures.value old.marks less old.lits.items old.numbers.items
    (ap (λ (m : List Bool). length m) c.remove.ensures ∙ length-set old.marks e.lit.var false)
    c.newest.ensures.known
    (λ v differs m. ap (λ ms. get_or ms v false) c.remove.ensures ∙ get_or-set_other old.marks e.lit.var v false false differs ∙ m)
    c.requires.walked)
