use Rattle.std.proofs.Common.{rules, ap, subst}
use Rattle.std.specs.Prelude.{Ok}
use Rattle.std.proofs.lemmas.Result.{err_from_is_err_and}
use Rattle.model_meaning.specs.Term as terms
use Rattle.model_files.specs.Scope.{binary_term}
use Rattle.ila_file.specs.View.{term_view, binary_view}
use Rattle.ila_file.specs.declared.written.WrittenTerm.{the_lemmas}
use Rattle.ila_build.specs.Standing.{IsPut, seen_by, term_by}
use Rattle.ila_build.proofs.Growing.{onward, are_in-grown}
use Rattle.ila_build.proofs.Refused.{second-none, ite-second, ite-third, store-second, store-third}
use Rattle.ila_build.proofs.Arms.{is_in, name-done, later, lost_later, two-done, three-done}
use Rattle.ila_build.proofs.putting.+put.Goals as goal

pub put_name-requires : goal.put_name-requires
put_name-requires t c = is_in c.args.terms.now c.args.known.now c.args.fetch c.in-Name.name.now c.found.result c.requires c.found.ensures

pub returns-in-Name-clause-put : goal.returns-in-Name-clause-put
returns-in-Name-clause-put t c =
    name-done c.args.terms.now c.put_name.new.terms c.args.known.now c.args.fetch c.in-Name.name.now (term_view c.args.term.now) c.found.result c.put_name.result (ap term_view c.in-Name.is) c.found.ensures c.put_name.ensures.put

pub put_term-requires-in-Binary-2 : goal.put_term-requires-in-Binary-2
put_term-requires-in-Binary-2 t c = (search (rules, the_lemmas), are_in-grown c.args.terms.now c.put_term-in-Binary.new.terms c.args.known.now c.args.fetch c.in_ok-x-in-Binary.ensures.put.0 c.requires)

pub returns-in_err-y-in-Binary-clause-put : goal.returns-in_err-y-in-Binary-clause-put
returns-in_err-y-in-Binary-clause-put t c =
    let p = err_from_is_err_and c.from_residual-in_err-y-in-Binary.result c.from_residual-in_err-y-in-Binary.ensures.1 in
    let e = ap (λ w. term_by (seen_by c.args.terms.now c.args.known.now c.args.fetch) (term_view w)) c.in-Binary.is in
    let v = later c.args.terms.now c.put_term-in-Binary.new.terms c.args.known.now c.args.fetch (term_view c.deref-in-Binary-2.result.now) (term_view c.in-Binary.y.value) c.requires c.in_ok-x-in-Binary.ensures.put.0 (ap term_view c.deref-in-Binary-2.ensures) in
    rw (p.1, p.2, e) (lost_later c.args.terms.now c.put_term-in-Binary.new.terms c.put_term-in-Binary-2.new.terms c.in_err-y-in-Binary.field-0.0 _ _ _ c.in_ok-x-in-Binary.ensures.put.0 v (second-none (binary_view c.in-Binary.operator) _ _) c.in_err-y-in-Binary.ensures.put)

pub put_term-requires-in-Ite-2 : goal.put_term-requires-in-Ite-2
put_term-requires-in-Ite-2 t c = (search (rules, the_lemmas), are_in-grown c.args.terms.now c.put_term-in-Ite.new.terms c.args.known.now c.args.fetch c.in_ok-condition-in-Ite.ensures.put.0 c.requires)

pub returns-in_err-x-in-Ite-clause-put : goal.returns-in_err-x-in-Ite-clause-put
returns-in_err-x-in-Ite-clause-put t c =
    let p = err_from_is_err_and c.from_residual-in_err-x-in-Ite.result c.from_residual-in_err-x-in-Ite.ensures.1 in
    let e = ap (λ w. term_by (seen_by c.args.terms.now c.args.known.now c.args.fetch) (term_view w)) c.in-Ite.is in
    let v = later c.args.terms.now c.put_term-in-Ite.new.terms c.args.known.now c.args.fetch (term_view c.deref-in-Ite-2.result.now) (term_view c.in-Ite.x.value) c.requires c.in_ok-condition-in-Ite.ensures.put.0 (ap term_view c.deref-in-Ite-2.ensures) in
    rw (p.1, p.2, e) (lost_later c.args.terms.now c.put_term-in-Ite.new.terms c.put_term-in-Ite-2.new.terms c.in_err-x-in-Ite.field-0.0 _ _ _ c.in_ok-condition-in-Ite.ensures.put.0 v (ite-second (term_by (seen_by c.args.terms.now c.args.known.now c.args.fetch) (term_view c.in-Ite.condition.value)) (term_by (seen_by c.args.terms.now c.args.known.now c.args.fetch) (term_view c.in-Ite.x.value)) (term_by (seen_by c.args.terms.now c.args.known.now c.args.fetch) (term_view c.in-Ite.y.value))) c.in_err-x-in-Ite.ensures.put)

pub put_term-requires-in-Store-2 : goal.put_term-requires-in-Store-2
put_term-requires-in-Store-2 t c = (search (rules, the_lemmas), are_in-grown c.args.terms.now c.put_term-in-Store.new.terms c.args.known.now c.args.fetch c.in_ok-memory-in-Store.ensures.put.0 c.requires)

pub returns-in_err-address-in-Store-clause-put : goal.returns-in_err-address-in-Store-clause-put
returns-in_err-address-in-Store-clause-put t c =
    let p = err_from_is_err_and c.from_residual-in_err-address-in-Store.result c.from_residual-in_err-address-in-Store.ensures.1 in
    let e = ap (λ w. term_by (seen_by c.args.terms.now c.args.known.now c.args.fetch) (term_view w)) c.in-Store.is in
    let v = later c.args.terms.now c.put_term-in-Store.new.terms c.args.known.now c.args.fetch (term_view c.deref-in-Store-2.result.now) (term_view c.in-Store.address.value) c.requires c.in_ok-memory-in-Store.ensures.put.0 (ap term_view c.deref-in-Store-2.ensures) in
    rw (p.1, p.2, e) (lost_later c.args.terms.now c.put_term-in-Store.new.terms c.put_term-in-Store-2.new.terms c.in_err-address-in-Store.field-0.0 _ _ _ c.in_ok-memory-in-Store.ensures.put.0 v (store-second (term_by (seen_by c.args.terms.now c.args.known.now c.args.fetch) (term_view c.in-Store.memory.value)) (term_by (seen_by c.args.terms.now c.args.known.now c.args.fetch) (term_view c.in-Store.address.value)) (term_by (seen_by c.args.terms.now c.args.known.now c.args.fetch) (term_view c.in-Store.x.value))) c.in_err-address-in-Store.ensures.put)

pub returns-in_ok-y-in-Binary-clause-put : goal.returns-in_ok-y-in-Binary-clause-put
returns-in_ok-y-in-Binary-clause-put t c =
    let e = ap (λ w. term_by (seen_by c.args.terms.now c.args.known.now c.args.fetch) (term_view w)) c.in-Binary.is in
    two-done c.args.terms.now c.put_term-in-Binary.new.terms c.put_term-in-Binary-2.new.terms c.put_binary.new.terms (binary_term (binary_view c.in-Binary.operator)) c.in_ok-x-in-Binary.x c.in_ok-y-in-Binary.y _ _ _ c.put_binary.result e
    (subst (λ w. IsPut c.args.terms.now c.put_term-in-Binary.new.terms (Ok c.in_ok-x-in-Binary.x) (term_by (seen_by c.args.terms.now c.args.known.now c.args.fetch) (term_view w))) c.deref-in-Binary.ensures c.in_ok-x-in-Binary.ensures.put)
    (subst (IsPut c.put_term-in-Binary.new.terms c.put_term-in-Binary-2.new.terms (Ok c.in_ok-y-in-Binary.y)) (later c.args.terms.now c.put_term-in-Binary.new.terms c.args.known.now c.args.fetch (term_view c.deref-in-Binary-2.result.now) (term_view c.in-Binary.y.value) c.requires c.in_ok-x-in-Binary.ensures.put.0 (ap term_view c.deref-in-Binary-2.ensures)) c.in_ok-y-in-Binary.ensures.put)
    c.put_binary.ensures.put

pub put_term-requires-in-Ite-3 : goal.put_term-requires-in-Ite-3
put_term-requires-in-Ite-3 t c = (search (rules, the_lemmas), are_in-grown c.args.terms.now c.put_term-in-Ite-2.new.terms c.args.known.now c.args.fetch (onward c.in_ok-condition-in-Ite.ensures.put.0 c.in_ok-x-in-Ite.ensures.put.0) c.requires)

pub returns-in_err-y-in-Ite-clause-put : goal.returns-in_err-y-in-Ite-clause-put
returns-in_err-y-in-Ite-clause-put t c =
    let p = err_from_is_err_and c.from_residual-in_err-y-in-Ite.result c.from_residual-in_err-y-in-Ite.ensures.1 in
    let e = ap (λ w. term_by (seen_by c.args.terms.now c.args.known.now c.args.fetch) (term_view w)) c.in-Ite.is in
    let v = later c.args.terms.now c.put_term-in-Ite-2.new.terms c.args.known.now c.args.fetch (term_view c.deref-in-Ite-3.result.now) (term_view c.in-Ite.y.value) c.requires (onward c.in_ok-condition-in-Ite.ensures.put.0 c.in_ok-x-in-Ite.ensures.put.0) (ap term_view c.deref-in-Ite-3.ensures) in
    rw (p.1, p.2, e) (lost_later c.args.terms.now c.put_term-in-Ite-2.new.terms c.put_term-in-Ite-3.new.terms c.in_err-y-in-Ite.field-0.0 _ _ _ (onward c.in_ok-condition-in-Ite.ensures.put.0 c.in_ok-x-in-Ite.ensures.put.0) v (ite-third (term_by (seen_by c.args.terms.now c.args.known.now c.args.fetch) (term_view c.in-Ite.condition.value)) (term_by (seen_by c.args.terms.now c.args.known.now c.args.fetch) (term_view c.in-Ite.x.value)) (term_by (seen_by c.args.terms.now c.args.known.now c.args.fetch) (term_view c.in-Ite.y.value))) c.in_err-y-in-Ite.ensures.put)

pub returns-in_ok-y-in-Ite-clause-put : goal.returns-in_ok-y-in-Ite-clause-put
returns-in_ok-y-in-Ite-clause-put t c =
    let e = ap (λ w. term_by (seen_by c.args.terms.now c.args.known.now c.args.fetch) (term_view w)) c.in-Ite.is in
    three-done c.args.terms.now c.put_term-in-Ite.new.terms c.put_term-in-Ite-2.new.terms c.put_term-in-Ite-3.new.terms c.put_node-in-Ite.new.terms terms.ite c.in_ok-condition-in-Ite.condition c.in_ok-x-in-Ite.x c.in_ok-y-in-Ite.y _ _ _ _ c.put_node-in-Ite.result e
    (subst (λ w. IsPut c.args.terms.now c.put_term-in-Ite.new.terms (Ok c.in_ok-condition-in-Ite.condition) (term_by (seen_by c.args.terms.now c.args.known.now c.args.fetch) (term_view w))) c.deref-in-Ite.ensures c.in_ok-condition-in-Ite.ensures.put)
    (subst (IsPut c.put_term-in-Ite.new.terms c.put_term-in-Ite-2.new.terms (Ok c.in_ok-x-in-Ite.x)) (later c.args.terms.now c.put_term-in-Ite.new.terms c.args.known.now c.args.fetch (term_view c.deref-in-Ite-2.result.now) (term_view c.in-Ite.x.value) c.requires c.in_ok-condition-in-Ite.ensures.put.0 (ap term_view c.deref-in-Ite-2.ensures)) c.in_ok-x-in-Ite.ensures.put)
    (subst (IsPut c.put_term-in-Ite-2.new.terms c.put_term-in-Ite-3.new.terms (Ok c.in_ok-y-in-Ite.y)) (later c.args.terms.now c.put_term-in-Ite-2.new.terms c.args.known.now c.args.fetch (term_view c.deref-in-Ite-3.result.now) (term_view c.in-Ite.y.value) c.requires (onward c.in_ok-condition-in-Ite.ensures.put.0 c.in_ok-x-in-Ite.ensures.put.0) (ap term_view c.deref-in-Ite-3.ensures)) c.in_ok-y-in-Ite.ensures.put)
    c.put_node-in-Ite.ensures.put

pub put_term-requires-in-Store-3 : goal.put_term-requires-in-Store-3
put_term-requires-in-Store-3 t c = (search (rules, the_lemmas), are_in-grown c.args.terms.now c.put_term-in-Store-2.new.terms c.args.known.now c.args.fetch (onward c.in_ok-memory-in-Store.ensures.put.0 c.in_ok-address-in-Store.ensures.put.0) c.requires)

pub returns-in_err-x-in-Store-clause-put : goal.returns-in_err-x-in-Store-clause-put
returns-in_err-x-in-Store-clause-put t c =
    let p = err_from_is_err_and c.from_residual-in_err-x-in-Store.result c.from_residual-in_err-x-in-Store.ensures.1 in
    let e = ap (λ w. term_by (seen_by c.args.terms.now c.args.known.now c.args.fetch) (term_view w)) c.in-Store.is in
    let v = later c.args.terms.now c.put_term-in-Store-2.new.terms c.args.known.now c.args.fetch (term_view c.deref-in-Store-3.result.now) (term_view c.in-Store.x.value) c.requires (onward c.in_ok-memory-in-Store.ensures.put.0 c.in_ok-address-in-Store.ensures.put.0) (ap term_view c.deref-in-Store-3.ensures) in
    rw (p.1, p.2, e) (lost_later c.args.terms.now c.put_term-in-Store-2.new.terms c.put_term-in-Store-3.new.terms c.in_err-x-in-Store.field-0.0 _ _ _ (onward c.in_ok-memory-in-Store.ensures.put.0 c.in_ok-address-in-Store.ensures.put.0) v (store-third (term_by (seen_by c.args.terms.now c.args.known.now c.args.fetch) (term_view c.in-Store.memory.value)) (term_by (seen_by c.args.terms.now c.args.known.now c.args.fetch) (term_view c.in-Store.address.value)) (term_by (seen_by c.args.terms.now c.args.known.now c.args.fetch) (term_view c.in-Store.x.value))) c.in_err-x-in-Store.ensures.put)

pub returns-in_ok-x-in-Store-clause-put : goal.returns-in_ok-x-in-Store-clause-put
returns-in_ok-x-in-Store-clause-put t c =
    let e = ap (λ w. term_by (seen_by c.args.terms.now c.args.known.now c.args.fetch) (term_view w)) c.in-Store.is in
    three-done c.args.terms.now c.put_term-in-Store.new.terms c.put_term-in-Store-2.new.terms c.put_term-in-Store-3.new.terms c.put_node-in-Store.new.terms terms.store c.in_ok-memory-in-Store.memory c.in_ok-address-in-Store.address c.in_ok-x-in-Store.x _ _ _ _ c.put_node-in-Store.result e
    (subst (λ w. IsPut c.args.terms.now c.put_term-in-Store.new.terms (Ok c.in_ok-memory-in-Store.memory) (term_by (seen_by c.args.terms.now c.args.known.now c.args.fetch) (term_view w))) c.deref-in-Store.ensures c.in_ok-memory-in-Store.ensures.put)
    (subst (IsPut c.put_term-in-Store.new.terms c.put_term-in-Store-2.new.terms (Ok c.in_ok-address-in-Store.address)) (later c.args.terms.now c.put_term-in-Store.new.terms c.args.known.now c.args.fetch (term_view c.deref-in-Store-2.result.now) (term_view c.in-Store.address.value) c.requires c.in_ok-memory-in-Store.ensures.put.0 (ap term_view c.deref-in-Store-2.ensures)) c.in_ok-address-in-Store.ensures.put)
    (subst (IsPut c.put_term-in-Store-2.new.terms c.put_term-in-Store-3.new.terms (Ok c.in_ok-x-in-Store.x)) (later c.args.terms.now c.put_term-in-Store-2.new.terms c.args.known.now c.args.fetch (term_view c.deref-in-Store-3.result.now) (term_view c.in-Store.x.value) c.requires (onward c.in_ok-memory-in-Store.ensures.put.0 c.in_ok-address-in-Store.ensures.put.0) (ap term_view c.deref-in-Store-3.ensures)) c.in_ok-x-in-Store.ensures.put)
    c.put_node-in-Store.ensures.put
