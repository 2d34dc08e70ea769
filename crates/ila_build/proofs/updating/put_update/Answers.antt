use Rattle.std.proofs.Common.{◌≡◌, ◌∙◌, true, not, ap, arith}
use Rattle.std.specs.Prelude.{Err}
use Rattle.ila_file.specs.View.{update_view}
use Rattle.ila_build.specs.Standing.{seen_by, term_by}
use Rattle.ila_build.proofs.Growing.{same}
use Rattle.ila_build.proofs.LeavingLemmas.{sized, grown_of}
use Rattle.ila_build.proofs.Definitions.{on_ok}
use Rattle.ila_build.proofs.Declared.{in_table}
use Rattle.ila_build.proofs.Chosen.{one_updated}
use Rattle.std.proofs.lemmas.Result.{err_from_is_err_and}
use Rattle.model_meaning.specs.Model.{state_named}
use Rattle.model_files.specs.Scope.{of_update, placed}
use Rattle.ila_build.specs.Knowing.{is_right}
use Rattle.ila_build.proofs.Unrefused.{no_leaf, term_lost}
use Rattle.ila_build.proofs.updating.put_update.Goals as goal

pub declared_id-requires : goal.declared_id-requires
declared_id-requires c = in_table c.args.terms.now c.args.known.now c.requires.table

pub returns-clause-chosen : goal.returns-clause-chosen
returns-clause-chosen c =
    let ok = c.is_err.ensures.negation ∙ ap not c.if-is_err.false in
    let new = on_ok c.choose.result _ ok c.choose.ensures in
    one_updated c.args.terms.now c.put_term.new.terms c.args.known.now c.args.fetch c.args.table.now c.choose.new.table (update_view c.args.update.now) c.in-Some.state c.in_ok-term.term
    c.name_count-names.ensures.distinct c.requires.table c.in-Some.ensures.leaf c.in_ok-term.ensures.put new

pub returns-in_default-clause-unrefused : goal.returns-in_default-clause-unrefused
returns-in_default-clause-unrefused c = no_leaf c.args.terms.now c.args.known.now c.args.fetch (update_view c.args.update.now) c.requires.table (c.declared_id.ensures.none c.in_default.is)

pub returns-in_err-term-clause-unrefused : goal.returns-in_err-term-clause-unrefused
returns-in_err-term-clause-unrefused c =
    let p = err_from_is_err_and c.from_residual.result c.from_residual.ensures.1 in
    let u = update_view c.args.update.now in
    rw (p.1, p.2) (term_lost c.args.terms.now c.put_term.new.terms c.args.known.now c.args.fetch u.1 (λ ss. of_update u.0 (state_named ss u.0)) (λ names ss. is_right (placed names u.1 (of_update u.0 (state_named ss u.0))) ≡ true) c.in_err-term.field-0.0 (λ names ss r. r) c.in_err-term.ensures.put)

pub returns-in_default-clause-grown : goal.returns-in_default-clause-grown
returns-in_default-clause-grown c = same c.args.terms.now

pub returns-in_err-term-clause-grown : goal.returns-in_err-term-clause-grown
returns-in_err-term-clause-grown c = grown_of c.args.terms.now c.put_term.new.terms (Err c.in_err-term.field-0.0) (term_by (seen_by c.args.terms.now c.args.known.now c.args.fetch) (update_view c.args.update.now).1) c.in_err-term.ensures.put

pub returns-then-is_err-clause-grown : goal.returns-then-is_err-clause-grown
returns-then-is_err-clause-grown c = c.in_ok-term.ensures.put.0

pub returns-in_default-clause-added : goal.returns-in_default-clause-added
returns-in_default-clause-added c = omega arith

pub returns-in_err-term-clause-added : goal.returns-in_err-term-clause-added
returns-in_err-term-clause-added c = sized _ _ _ (update_view c.args.update.now).1 c.in_err-term.ensures.added

pub returns-then-is_err-clause-added : goal.returns-then-is_err-clause-added
returns-then-is_err-clause-added c = sized _ _ _ (update_view c.args.update.now).1 c.in_ok-term.ensures.added

pub returns-clause-added : goal.returns-clause-added
returns-clause-added c = sized _ _ _ (update_view c.args.update.now).1 c.in_ok-term.ensures.added
