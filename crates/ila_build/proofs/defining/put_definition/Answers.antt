use Rattle.std.proofs.Common.{◌∙◌, [], ◌∷◌, None, not, ap, sym}
use Rattle.std.specs.Prelude.{Err, is_some}
use Rattle.std.proofs.lemmas.Result.{err_from_is_err_and}
use Rattle.ila_file.specs.View.{term_view, definition_view}
use Rattle.ila_build.specs.Sizes.{size_of}
use Rattle.ila_build.specs.Standing.{seen_by, term_by, under_name}
use Rattle.ila_build.proofs.Growing.{same, wider, are_in-grown}
use Rattle.ila_build.proofs.Definitions.{on_ok, one_lost, one_out, one_defined, none_of, aside, one_twice}
use Rattle.ila_build.proofs.LeavingLemmas.{sized, left_same, left_grown, left_named, grown_of}
use Rattle.ila_build.proofs.defining.put_definition.Goals as goal

pub returns-in_err-term-clause-defined : goal.returns-in_err-term-clause-defined
returns-in_err-term-clause-defined c =
    let p = err_from_is_err_and c.from_residual.result c.from_residual.ensures.1 in
    rw (p.1, p.2) (one_lost c.args.terms.now c.put_term.new.terms c.args.known.now c.args.known.now c.args.definition.now.name.now (term_view c.args.definition.now.term) c.in_err-term.field-0.0 c.in_err-term.ensures.put)

pub returns-then-is_err-clause-defined : goal.returns-then-is_err-clause-defined
returns-then-is_err-clause-defined c = one_out c.args.terms.now c.put_term.new.terms c.args.known.now c.remember.new.known (definition_view c.args.definition.now ∷ [])

pub returns-clause-defined : goal.returns-clause-defined
returns-clause-defined c =
    let ok = c.is_err.ensures.negation ∙ ap not c.if-is_err.false in
    let new = on_ok c.remember.result _ ok c.remember.ensures.ok in
    one_defined c.args.terms.now c.put_term.new.terms c.args.known.now c.remember.new.known c.args.definition.now.name.now (term_view c.args.definition.now.term) c.in_ok-term.term c.in_ok-term.ensures.put new

pub returns-clause-aside : goal.returns-clause-aside
returns-clause-aside c =
    let ok = c.is_err.ensures.negation ∙ ap not c.if-is_err.false in
    let new = on_ok c.remember.result _ ok c.remember.ensures.ok in
    aside c.args.known.now c.remember.new.known c.args.definition.now.name.now c.in_ok-term.term new

pub returns-then-is_some-clause-defined : goal.returns-then-is_some-clause-defined
returns-then-is_some-clause-defined c =
    one_twice c.args.terms.now c.args.known.now c.args.definition.now.name.now (term_view c.args.definition.now.term) (ap is_some (sym c.under_name.ensures) ∙ (sym c.is_some.ensures ∙ c.if-is_some.true))

pub returns-then-is_some-clause-grown : goal.returns-then-is_some-clause-grown
returns-then-is_some-clause-grown c = same c.args.terms.now

pub returns-in_err-term-clause-grown : goal.returns-in_err-term-clause-grown
returns-in_err-term-clause-grown c = grown_of c.args.terms.now c.put_term.new.terms (Err c.in_err-term.field-0.0) (term_by (seen_by c.args.terms.now c.args.known.now None) (term_view c.args.definition.now.term)) c.in_err-term.ensures.put

pub returns-then-is_err-clause-grown : goal.returns-then-is_err-clause-grown
returns-then-is_err-clause-grown c = c.in_ok-term.ensures.put.0

pub returns-then-is_some-clause-left : goal.returns-then-is_some-clause-left
returns-then-is_some-clause-left c = left_same c.args.terms.now c.args.known.now _ _ c.requires

pub returns-in_err-term-clause-left : goal.returns-in_err-term-clause-left
returns-in_err-term-clause-left c = left_grown c.args.terms.now c.put_term.new.terms c.args.known.now _ _ c.requires (returns-in_err-term-clause-grown c) (sized _ _ _ (term_view c.args.definition.now.term) c.in_err-term.ensures.added)

pub returns-then-is_err-clause-left : goal.returns-then-is_err-clause-left
returns-then-is_err-clause-left c =
    let absent = none_of (under_name c.args.known.now c.args.definition.now.name.now) (ap is_some (sym c.under_name.ensures) ∙ (sym c.is_some.ensures ∙ c.if-is_some.false)) in
    let b = c.in_ok-term.ensures.put.0 in
    left_named c.args.terms.now c.put_term.new.terms c.args.known.now c.remember.new.known c.args.definition.now.name.now (size_of (term_view c.args.definition.now.term)) (wider b) (c.remember.ensures.kept absent) c.remember.ensures.aside
    (c.remember.ensures.in_store c.put_term.new.terms (are_in-grown c.args.terms.now c.put_term.new.terms c.args.known.now None b c.requires) c.in_ok-term.ensures.put.1)
    (sized _ _ _ (term_view c.args.definition.now.term) c.in_ok-term.ensures.added)

pub returns-clause-left : goal.returns-clause-left
returns-clause-left c =
    let absent = none_of (under_name c.args.known.now c.args.definition.now.name.now) (ap is_some (sym c.under_name.ensures) ∙ (sym c.is_some.ensures ∙ c.if-is_some.false)) in
    let b = c.in_ok-term.ensures.put.0 in
    left_named c.args.terms.now c.put_term.new.terms c.args.known.now c.remember.new.known c.args.definition.now.name.now (size_of (term_view c.args.definition.now.term)) (wider b) (c.remember.ensures.kept absent) c.remember.ensures.aside
    (c.remember.ensures.in_store c.put_term.new.terms (are_in-grown c.args.terms.now c.put_term.new.terms c.args.known.now None b c.requires) c.in_ok-term.ensures.put.1)
    (sized _ _ _ (term_view c.args.definition.now.term) c.in_ok-term.ensures.added)
