use Rattle.std.proofs.Common.{◌≡◌, ◌≢◌, ℕ, ◌+◌, Bool, true, false, length, map, List, get_or, Some, sym, ap, ◌∙◌, subst, arith}
use Rattle.std.proofs.lemmas.List.{length-set, get_or-set_other}
use Rattle.std.proofs.lemmas.Option.{slice_get_within}
use Rattle.sat_solve.specs.declared.trail.Entry.{Entry}
use Rattle.sat_solve.specs.State.{known_clauses}
use Rattle.sat_base.specs.Codes.{literal_of}
use Rattle.sat_solve.specs.Walk.{is_marked, IsWalked}
use Rattle.sat_solve.proofs.Places.{reason_within}
use Rattle.sat_base.proofs.CodeLemmas.{codes_all}
use Rattle.sat_solve.proofs.StateLemmas.{code_over}
use Rattle.sat_solve.proofs.Walks.{IsWalked-expanded}
use Rattle.sat_solve.proofs.walk.expand.Goals as goal

pub clause-codes-requires-clause-number : goal.clause-codes-requires-clause-number
clause-codes-requires-clause-number c = reason_within (known_clauses c.args.cnf.now c.args.log.now) c.args.trail.now.entries c.args.k c.requires.reason.0 c.args.reason c.requires.state.sound c.requires.reason.1 c.requires.reason.2

pub mark-requires : goal.mark-requires
mark-requires c = λ k l. omega (arith, code_over c.args.cnf.now c.args.log.now c.args.trail.now c.args.reason c.clause-codes.result.now c.requires.state c.clause-codes.ensures k l, c.requires.walked.sized)

pub newest-requires : goal.newest-requires
newest-requires c = slice_get_within c.args.trail.now.entries c.args.k c.requires.reason.0 c.requires.reason.1

pub returns-clause-walked : goal.returns-clause-walked
returns-clause-walked c =
    let clauses = known_clauses c.args.cnf.now c.args.log.now in
    let trail = c.args.trail.now in
    let e = c.newest.result in
    let old = c.args.walk.now in
    let marked = c.mark.new.marks in
    let same : c.requires.reason.0 ≡ e = let both : Some c.requires.reason.0 ≡ Some e = sym c.requires.reason.1 ∙ c.newest.ensures.value in cc in
    let reason : e.reason ≡ Some c.args.reason = ap (λ (y : Entry). y.reason) (sym same) ∙ c.requires.reason.2 in
    let less : (v : ℕ) → v ≢ e.lit.var → get_or marked v false ≡ true → get_or c.remove.new.self v false ≡ true =
    λ v differs m. ap (λ ms. get_or ms v false) c.remove.ensures ∙ get_or-set_other marked e.lit.var v false false differs ∙ m in
    subst (λ ns. IsWalked clauses trail.entries trail.vars (c.args.k + 1) c.remove.new.self old.lits.items ns) (sym c.in_ok-push.ensures.items)
    (IsWalked-expanded clauses trail.entries trail.vars c.args.k e c.requires.state.sound c.newest.ensures.value old.marks c.remove.new.self c.args.reason (map literal_of c.clause-codes.result.now) old.lits.items old.numbers.items
    (ap (λ (m : List Bool). length m) c.remove.ensures ∙ length-set marked e.lit.var false ∙ c.in_ok-mark.ensures.sized)
    reason c.clause-codes.ensures
    (λ v differs m. less v differs (c.in_ok-mark.ensures.kept v m))
    (λ x among differs. less x.var differs (codes_all c.clause-codes.result.now (λ v. is_marked marked v ≡ true) c.in_ok-mark.ensures.all x among))
    c.requires.walked)
