use Rattle.std.proofs.Common.{◌≡◌, true, [], None, Some, ap, sym, subst}
use Rattle.ila_file.specs.View.{term_view, fetch_view}
use Rattle.std.specs.Prelude.{Err}
use Rattle.ila_build.specs.Standing.{seen_by, term_by}
use Rattle.ila_build.specs.Building.{IsFetched}
use Rattle.ila_build.proofs.MachineLemmas.{no_fetch, fetch_put, fetch_in_store}
use Rattle.std.proofs.lemmas.Result.{err_from_is_err_and}
use Rattle.model_files.specs.Scope.{of_fetch, placed, placed_fetch}
use Rattle.ila_build.specs.Knowing.{are_right}
use Rattle.ila_build.specs.Refusing.{IsNoRefusal, IsDue}
use Rattle.ila_build.proofs.Definitions.{first_right}
use Rattle.ila_build.proofs.LeavingLemmas.{fetch_added, grown_of}
use Rattle.ila_build.proofs.Unrefused.{term_lost}
use Rattle.ila_build.proofs.machine.put_fetch.Goals as goal

pub returns-in_ok-id-in-Some-clause-in_store : goal.returns-in_ok-id-in-Some-clause-in_store
returns-in_ok-id-in-Some-clause-in_store c = fetch_in_store c.args.terms.now c.put_term.new.terms c.args.known.now c.in_ok-id-in-Some.id c.in_ok-id-in-Some.ensures.put.0 c.in_ok-id-in-Some.ensures.put.1 c.requires

pub returns-in_ok-id-in-Some-clause-fetched : goal.returns-in_ok-id-in-Some-clause-fetched
returns-in_ok-id-in-Some-clause-fetched c =
    subst (λ w. IsFetched c.args.terms.now c.args.known.now c.put_term.new.terms w (Some c.in_ok-id-in-Some.id)) (sym (ap fetch_view c.in-Some.is))
    (fetch_put c.args.terms.now c.put_term.new.terms c.args.known.now (term_view c.in-Some.term) c.in_ok-id-in-Some.id c.in_ok-id-in-Some.ensures.put)

pub returns-in-None-clause-fetched : goal.returns-in-None-clause-fetched
returns-in-None-clause-fetched c =
    subst (λ w. IsFetched c.args.terms.now c.args.known.now c.args.terms.now w None) (sym (ap fetch_view c.in-None.is)) (no_fetch c.args.terms.now c.args.known.now)

pub returns-in_err-id-in-Some-clause-unrefused : goal.returns-in_err-id-in-Some-clause-unrefused
returns-in_err-id-in-Some-clause-unrefused c =
    let p = err_from_is_err_and c.from_residual.result c.from_residual.ensures.1 in
    let e = term_view c.in-Some.term in
    let s = c.in_err-id-in-Some.field-0.0 in
    rw (p.1, p.2) (subst (λ w. IsNoRefusal s (IsDue c.args.terms.now c.args.known.now None (λ names ss. are_right (placed_fetch names w) ≡ true))) (sym (ap fetch_view c.in-Some.is))
    (term_lost c.args.terms.now c.put_term.new.terms c.args.known.now None e (λ ss. of_fetch) (λ names ss. are_right (placed_fetch names (Some e)) ≡ true) s (λ names ss r. (first_right (placed names e of_fetch) [] r).0) c.in_err-id-in-Some.ensures.put))

pub returns-in_err-id-in-Some-clause-grown : goal.returns-in_err-id-in-Some-clause-grown
returns-in_err-id-in-Some-clause-grown c = grown_of c.args.terms.now c.put_term.new.terms (Err c.in_err-id-in-Some.field-0.0) (term_by (seen_by c.args.terms.now c.args.known.now None) (term_view c.in-Some.term)) c.in_err-id-in-Some.ensures.put

pub returns-in_err-id-in-Some-clause-added : goal.returns-in_err-id-in-Some-clause-added
returns-in_err-id-in-Some-clause-added c = fetch_added _ _ _ (term_view c.in-Some.term) (fetch_view c.args.fetch.now) (ap fetch_view c.in-Some.is) c.in_err-id-in-Some.ensures.added

pub returns-in_ok-id-in-Some-clause-added : goal.returns-in_ok-id-in-Some-clause-added
returns-in_ok-id-in-Some-clause-added c = fetch_added _ _ _ (term_view c.in-Some.term) (fetch_view c.args.fetch.now) (ap fetch_view c.in-Some.is) c.in_ok-id-in-Some.ensures.added
