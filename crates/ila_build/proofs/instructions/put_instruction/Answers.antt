use Rattle.std.proofs.Common.{◌≡◌, ◌∙◌, true, map, None, refl, subst, arith}
use Rattle.ila_file.specs.View.{instruction_view, term_view, update_view}
use Rattle.std.specs.Prelude.{Err}
use Rattle.ila_build.proofs.Growing.{same, onward, wider, are_in-grown}
use Rattle.ila_build.proofs.Definitions.{kept_same}
use Rattle.ila_build.proofs.LeavingLemmas.{decode_added, updates_added, grown_of}
use Rattle.ila_build.proofs.Declared.{in_table, table_grown}
use Rattle.ila_build.proofs.InstructionLemmas.{instruction_put}
use Rattle.std.proofs.lemmas.Result.{err_from_is_err_and}
use Rattle.model_files.specs.Scope.{of_condition, placed, placed_updates}
use Rattle.ila_build.specs.Standing.{IsPut, seen_by, term_by}
use Rattle.ila_build.specs.Knowing.{are_right}
use Rattle.ila_build.specs.Building.{decode_in, update_in, own_terms}
use Rattle.ila_build.specs.Refusing.{IsNoRefusal, IsDue}
use Rattle.ila_build.proofs.Definitions.{first_right}
use Rattle.ila_build.proofs.Fresh.{unrefused_by}
use Rattle.ila_build.proofs.Unrefused.{term_lost, due_grown}
use Rattle.ila_build.proofs.instructions.put_instruction.Goals as goal

pub put_updates-requires-clause-table : goal.put_updates-requires-clause-table
put_updates-requires-clause-table c =
    let b = c.in_ok-decode.ensures.put.0 in
    table_grown c.args.terms.now c.put_term.new.terms c.args.known.now c.args.known.now (wider b) b.names (kept_same c.args.known.now) (are_in-grown c.args.terms.now c.put_term.new.terms c.args.known.now None b (in_table c.args.terms.now c.args.known.now c.requires.table)) c.requires.table

pub put_updates-requires-clause-in_store : goal.put_updates-requires-clause-in_store
put_updates-requires-clause-in_store c = are_in-grown c.args.terms.now c.put_term.new.terms c.args.known.now c.args.fetch c.in_ok-decode.ensures.put.0 c.requires.in_store

pub returns-clause-put : goal.returns-clause-put
returns-clause-put c =
    instruction_put c.args.terms.now c.put_term.new.terms c.put_updates.new.terms c.args.known.now c.args.fetch c.args.link (instruction_view c.args.instruction.now) (term_view c.decode_of.result.now) (map update_view c.updates_of.result.now) c.in_ok-decode.decode c.in_ok-pairs.pairs.items _
    c.decode_of.ensures c.updates_of.ensures c.in_ok-decode.ensures.put c.in_ok-pairs.ensures.grown c.in_ok-pairs.ensures.updates (c.in-Ok.ensures.ok ∙ c.name_of.ensures) refl (c.in-Ok-as_updates.ensures ∙ c.deref.ensures.value) refl

pub returns-in_err-decode-clause-unrefused : goal.returns-in_err-decode-clause-unrefused
returns-in_err-decode-clause-unrefused c =
    let p = err_from_is_err_and c.from_residual.result c.from_residual.ensures.1 in
    let w = instruction_view c.args.instruction.now in
    rw (p.1, p.2) (term_lost c.args.terms.now c.put_term.new.terms c.args.known.now c.args.fetch (decode_in w) (λ ss. of_condition) (λ names ss. are_right (own_terms names ss w) ≡ true) c.in_err-decode.field-0.0
    (λ names ss r. (first_right (placed names (decode_in w) of_condition) (placed_updates names ss (update_in w)) r).0)
    (subst (λ e. IsPut c.args.terms.now c.put_term.new.terms (Err c.in_err-decode.field-0.0) (term_by (seen_by c.args.terms.now c.args.known.now c.args.fetch) e)) c.decode_of.ensures c.in_err-decode.ensures.put))

pub returns-in_err-pairs-clause-unrefused : goal.returns-in_err-pairs-clause-unrefused
returns-in_err-pairs-clause-unrefused c =
    let p = err_from_is_err_and c.from_residual-in_err-pairs.result c.from_residual-in_err-pairs.ensures.1 in
    let w = instruction_view c.args.instruction.now in
    let lost = subst (λ us. IsNoRefusal c.in_err-pairs.field-0.0 (IsDue c.put_term.new.terms c.args.known.now c.args.fetch (λ names ss. are_right (placed_updates names ss us) ≡ true))) c.updates_of.ensures c.in_err-pairs.ensures.unrefused in
    rw (p.1, p.2) (unrefused_by _ (IsDue c.args.terms.now c.args.known.now c.args.fetch (λ names ss. are_right (own_terms names ss w) ≡ true)) c.in_err-pairs.field-0.0
    (due_grown c.args.terms.now c.put_term.new.terms c.args.known.now c.args.fetch (λ names ss. are_right (own_terms names ss w) ≡ true) (λ names ss. are_right (placed_updates names ss (update_in w)) ≡ true) c.in_ok-decode.ensures.put.0
    (λ names ss r. (first_right (placed names (decode_in w) of_condition) (placed_updates names ss (update_in w)) r).1)) lost)

pub returns-in_default-clause-grown : goal.returns-in_default-clause-grown
returns-in_default-clause-grown c = same c.args.terms.now

pub returns-in_default-clause-added : goal.returns-in_default-clause-added
returns-in_default-clause-added c = omega arith

pub returns-in_err-decode-clause-grown : goal.returns-in_err-decode-clause-grown
returns-in_err-decode-clause-grown c = grown_of c.args.terms.now c.put_term.new.terms (Err c.in_err-decode.field-0.0) (term_by (seen_by c.args.terms.now c.args.known.now c.args.fetch) (term_view c.decode_of.result.now)) c.in_err-decode.ensures.put

pub returns-in_err-decode-clause-added : goal.returns-in_err-decode-clause-added
returns-in_err-decode-clause-added c = decode_added _ _ (instruction_view c.args.instruction.now) _ (term_view c.decode_of.result.now) c.decode_of.ensures c.in_err-decode.ensures.added

pub returns-in_err-pairs-clause-grown : goal.returns-in_err-pairs-clause-grown
returns-in_err-pairs-clause-grown c = onward c.in_ok-decode.ensures.put.0 c.in_err-pairs.ensures.grown

pub returns-in_err-pairs-clause-added : goal.returns-in_err-pairs-clause-added
returns-in_err-pairs-clause-added c = updates_added _ _ _ (instruction_view c.args.instruction.now) _ (term_view c.decode_of.result.now) (map update_view c.updates_of.result.now) c.decode_of.ensures c.updates_of.ensures c.in_ok-decode.ensures.added c.in_err-pairs.ensures.added

pub returns-clause-added : goal.returns-clause-added
returns-clause-added c = updates_added _ _ _ (instruction_view c.args.instruction.now) _ (term_view c.decode_of.result.now) (map update_view c.updates_of.result.now) c.decode_of.ensures c.updates_of.ensures c.in_ok-decode.ensures.added c.in_ok-pairs.ensures.added

pub returns-in_default-as_updates-clause-added : goal.returns-in_default-as_updates-clause-added
returns-in_default-as_updates-clause-added c = updates_added _ _ _ (instruction_view c.args.instruction.now) _ (term_view c.decode_of.result.now) (map update_view c.updates_of.result.now) c.decode_of.ensures c.updates_of.ensures c.in_ok-decode.ensures.added c.in_ok-pairs.ensures.added
