use Rattle.std.proofs.Common.{◌≡◌, ◌∙◌, ◌+◌, ◌-◌, ◌<◌, ◌≤◌, ◌++◌, ◌∷◌, ◌&&◌, [], List, Vec, Global, Option, Some, None, true, false, cond, suc, length, take, drop, get_or, refl, sym, ap, subst, arith}
use Rattle.std.proofs.lemmas.Bool.{and_parts}
use Rattle.std.specs.String.{string_bytes}
use Rattle.wb_values.specs.Value.{Valuation}
use Rattle.model_meaning.specs.Model.{point_of, holds}
use Rattle.wb_terms.specs.declared.nodes.TermId.{TermId}
use Rattle.wb_terms.specs.Graph.{tree}
use Rattle.ila_model.specs.declared.parts.Instruction.{Instruction}
use Rattle.ila_model.specs.Sorted.{is_condition}
use Rattle.ila_model.specs.Meaning.{model_from}
use Rattle.ila_model.proofs.Declarations.{sorted}
use Rattle.ila_child.specs.Running.{point_at}
use Rattle.term_copies.specs.Copies.{AreLeaves, IsCopy}
use Rattle.term_copies.proofs.Extending.{extended_refl, extended_trans}
use Rattle.term_copies.proofs.Copying.{leaves_kept, copy_kept}
use Rattle.wanted_terms.specs.Wanted.{AreBelow, IsClosed, AreListed}
use Rattle.model_terms.specs.declared.putting.InstructionTerms.{InstructionTerms}
use Rattle.model_terms.specs.Symbolic.{sees, is_true}
use Rattle.model_terms.specs.Copied.{terms_of_instructions}
use Rattle.model_terms.specs.Puts.{ArePut, AreDecodes, exactly_one}
use Rattle.model_terms.specs.Terms.{state_under, inputs_under}
use Rattle.model_terms.proofs.Choosing.{test_kept, true_kept}
use Rattle.model_terms.proofs.Pointing.{has_copies_kept}
use Rattle.model_terms.proofs.Programming.{machine_below, condition_sort, first_copy, copy_condition, instructions_copied}
use Rattle.model_terms.proofs.Turning.{worths_leaves}
use Rattle.model_terms.proofs.Starting.{states_leaves, inputs_leaves, leaves_length, inputs_length, start_sees}
use Rattle.model_terms.proofs.Telling.{bools, decode_holds, are_decodes, are_put_same, are_put_kept, started_read, model_terms}
use Rattle.model_terms.proofs.putting.put_all.Goals as goal

pub start-requires-clause-states : goal.start-requires-clause-states
start-requires-clause-states c = states_leaves c.args.terms.now c.args.model.now.parts c.args.states.now c.requires.states

pub start-requires-clause-inputs : goal.start-requires-clause-inputs
start-requires-clause-inputs c = inputs_leaves c.args.terms.now c.args.model.now.parts c.args.inputs.now c.requires.inputs

pub closed-requires : goal.closed-requires
closed-requires c =
    let p = c.args.model.now.parts in
    let s = sorted p c.args.model.now.well_sorted in
    let is = p.instructions.items in
    let all = c.in_ok-listed.ensures ∙ ap (λ (js : List Instruction). p.valid ∷ terms_of_instructions js) c.deref.ensures.value in
    let cond_is = (and_parts (is_condition p None p.valid.0) _ s.top).0 in
    subst (λ (ids : List TermId). AreBelow (length p.terms.nodes) ids) (sym (c.deref-2.ensures.value ∙ all)) (machine_below p None p.valid is s.top)

pub put_copies_of-requires-clause-leaves : goal.put_copies_of-requires-clause-leaves
put_copies_of-requires-clause-leaves c = subst (λ (ids : List TermId). AreLeaves c.start.new.terms c.args.model.now.parts.terms.names ids) (sym c.deref-3.ensures.value) c.in_ok-point.ensures.leaves

pub put_copies_of-requires-clause-wanted : goal.put_copies_of-requires-clause-wanted
put_copies_of-requires-clause-wanted c = subst (λ (ids : List TermId). IsClosed c.args.model.now.parts.terms ids) (sym c.deref-4.ensures.value) c.in_ok-wanted.ensures.closed

pub put_copies_of-requires-clause-listed : goal.put_copies_of-requires-clause-listed
put_copies_of-requires-clause-listed c =
    subst (λ (ids : List TermId). AreListed ids c.deref-5.result.now) (sym c.deref-4.ensures.value)
    (subst (λ (ids : List TermId). AreListed c.in_ok-wanted.wanted.items ids) (c.deref-2.ensures.value ∙ sym c.deref-5.ensures.value) c.in_ok-wanted.ensures.roots)

pub copy_of-copy-requires : goal.copy_of-copy-requires
copy_of-copy-requires c =
    let p = c.args.model.now.parts in
    let s = sorted p c.args.model.now.well_sorted in
    let is = p.instructions.items in
    let all = c.in_ok-listed.ensures ∙ ap (λ (js : List Instruction). p.valid ∷ terms_of_instructions js) c.deref.ensures.value in
    let cond_is = (and_parts (is_condition p None p.valid.0) _ s.top).0 in
    let below = (machine_below p None p.valid is s.top).0 in
    omega (arith, below, c.in_ok-copies.ensures.room, ap (λ (ids : List TermId). length ids) c.deref-6.ensures.value)

pub put_condition-requires : goal.put_condition-requires
put_condition-requires c =
    let p = c.args.model.now.parts in
    let s = sorted p c.args.model.now.well_sorted in
    let is = p.instructions.items in
    let all = c.in_ok-listed.ensures ∙ ap (λ (js : List Instruction). p.valid ∷ terms_of_instructions js) c.deref.ensures.value in
    let cond_is = (and_parts (is_condition p None p.valid.0) _ s.top).0 in
    record {
      condition = copy_condition c.put_copies_of.new.terms p.terms c.deref-3.result.now c.in_ok-copies.copies.items c.deref-6.result.now c.deref-5.result.now (terms_of_instructions is) p.valid c.copy_of-copy.result
          c.deref-6.ensures.value (c.deref-5.ensures.value ∙ all) c.in_ok-copies.ensures.copies c.copy_of-copy.ensures (condition_sort p None p.valid.0 cond_is);
    }

pub put_instructions-requires-clause-leaves : goal.put_instructions-requires-clause-leaves
put_instructions-requires-clause-leaves c =
    let names = c.args.model.now.parts.terms.names in
    subst (λ (ids : List TermId). AreLeaves c.put_condition.new.terms names ids) (sym c.deref-8.ensures.value) (leaves_kept names c.in_ok-point.point.items (extended_trans c.in_ok-copies.ensures.extended c.in_ok-valid.ensures.extended) c.in_ok-point.ensures.leaves)

pub put_instructions-requires-clause-room : goal.put_instructions-requires-clause-room
put_instructions-requires-clause-room c = ap (λ (ids : List TermId). length ids) c.deref-7.ensures.value ∙ c.in_ok-copies.ensures.room

pub put_instructions-requires-clause-copies : goal.put_instructions-requires-clause-copies
put_instructions-requires-clause-copies c =
    let p = c.args.model.now.parts in
    let s = sorted p c.args.model.now.well_sorted in
    let is = p.instructions.items in
    let all = c.in_ok-listed.ensures ∙ ap (λ (js : List Instruction). p.valid ∷ terms_of_instructions js) c.deref.ensures.value in
    let cond_is = (and_parts (is_condition p None p.valid.0) _ s.top).0 in
    let g = c.put_copies_of.new.terms in
    let point = c.in_ok-point.point.items in
    let has = instructions_copied g p.terms c.deref-3.result.now c.deref-8.result.now c.in_ok-copies.copies.items c.deref-7.result.now c.deref-5.result.now p.valid is is (c.deref-5.ensures.value ∙ all)
    (c.deref-3.ensures.value ∙ sym c.deref-8.ensures.value) c.deref-7.ensures.value refl c.in_ok-copies.ensures.copies in
    has_copies_kept p.terms c.deref-8.result.now c.deref-7.result.now (terms_of_instructions is) c.in_ok-valid.ensures.extended
    (subst (λ (ids : List TermId). AreLeaves g p.terms.names ids) (sym c.deref-8.ensures.value) (leaves_kept p.terms.names point c.in_ok-copies.ensures.extended c.in_ok-point.ensures.leaves)) has

pub put_started-requires-clause-valid : goal.put_started-requires-clause-valid
put_started-requires-clause-valid c = test_kept c.in_ok-valid.valid.0 c.in_ok-instructions.ensures.extended c.in_ok-valid.ensures.test

pub put_started-requires-clause-decodes : goal.put_started-requires-clause-decodes
put_started-requires-clause-decodes c =
    let p = c.args.model.now.parts in
    subst (λ (ts : List InstructionTerms). AreDecodes c.put_instructions.new.terms ts) (sym c.deref-9.ensures.value)
    (are_decodes c.put_condition.new.terms c.put_instructions.new.terms p c.deref-8.result.now p.instructions.items c.in_ok-instructions.instructions.items c.in_ok-instructions.ensures.put)

pub returns-in_err-copies-clause-extended : goal.returns-in_err-copies-clause-extended
returns-in_err-copies-clause-extended c = extended_trans c.in_ok-point.ensures.extended c.put_copies_of.ensures.extended

pub returns-in_err-valid-clause-extended : goal.returns-in_err-valid-clause-extended
returns-in_err-valid-clause-extended c = extended_trans c.in_ok-point.ensures.extended (extended_trans c.in_ok-copies.ensures.extended c.put_condition.ensures.extended)

pub returns-in_err-instructions-clause-extended : goal.returns-in_err-instructions-clause-extended
returns-in_err-instructions-clause-extended c = extended_trans c.in_ok-point.ensures.extended (extended_trans c.in_ok-copies.ensures.extended (extended_trans c.in_ok-valid.ensures.extended c.put_instructions.ensures.extended))

pub returns-in_err-started-clause-extended : goal.returns-in_err-started-clause-extended
returns-in_err-started-clause-extended c =
    extended_trans c.in_ok-point.ensures.extended (extended_trans c.in_ok-copies.ensures.extended (extended_trans c.in_ok-valid.ensures.extended (extended_trans c.in_ok-instructions.ensures.extended c.put_started.ensures.extended)))

pub returns-clause-extended : goal.returns-clause-extended
returns-clause-extended c =
    extended_trans c.in_ok-point.ensures.extended (extended_trans c.in_ok-copies.ensures.extended (extended_trans c.in_ok-valid.ensures.extended (extended_trans c.in_ok-instructions.ensures.extended c.in_ok-started.ensures.extended)))

pub returns-clause-meaning : goal.returns-clause-meaning
returns-clause-meaning c =
    let p = c.args.model.now.parts in
    let s = sorted p c.args.model.now.well_sorted in
    let is = p.instructions.items in
    let all = c.in_ok-listed.ensures ∙ ap (λ (js : List Instruction). p.valid ∷ terms_of_instructions js) c.deref.ensures.value in
    let cond_is = (and_parts (is_condition p None p.valid.0) _ s.top).0 in
    let name = string_bytes c.args.model.now.name in
    let m = model_from name p in
    let states = c.args.states.now in
    let inputs = c.args.inputs.now in
    let point = c.in_ok-point.point.items in
    let first = c.in_ok-point.ensures.first in
    let g2 = c.put_copies_of.new.terms in
    let g3 = c.put_condition.new.terms in
    let g4 = c.put_instructions.new.terms in
    let h = c.put_started.new.terms in
    let e12 = c.in_ok-copies.ensures.extended in
    let e23 = c.in_ok-valid.ensures.extended in
    let e34 = c.in_ok-instructions.ensures.extended in
    let e45 = c.in_ok-started.ensures.extended in
    let e35 = extended_trans e34 e45 in
    let leaves2 = leaves_kept p.terms.names point e12 c.in_ok-point.ensures.leaves in
    let leaves3 = leaves_kept p.terms.names point e23 leaves2 in
    let leaves5 = leaves_kept p.terms.names point e35 leaves3 in
    let n = leaves_length c.args.terms.now (length p.initial_values.items) p.terms.names states s.declared.states_within (states_leaves c.args.terms.now p states c.requires.states) in
    let k = inputs_length c.args.terms.now p s inputs (inputs_leaves c.args.terms.now p inputs c.requires.inputs) in
    let X : (v : Valuation) → sees g3 p None point v ≡ point_of m (state_under m h states v) (inputs_under m h inputs v) = λ v.
    sym (ap (point_at p None) (worths_leaves p.terms.names point v e35 leaves3)) ∙ start_sees h p s name states inputs first.0 point v n k leaves5 first.1 in
    let copied = subst (λ (ids : List TermId). IsCopy g2 p.terms ids c.copy_of-copy.result.0 p.valid.0) c.deref-3.ensures.value
    (first_copy g2 p.terms c.deref-3.result.now c.in_ok-copies.copies.items c.deref-6.result.now c.deref-5.result.now (terms_of_instructions is) p.valid c.copy_of-copy.result c.deref-6.ensures.value (c.deref-5.ensures.value ∙ all)
    c.in_ok-copies.ensures.copies c.copy_of-copy.ensures) in
    let copied3 = copy_kept p.terms point c.copy_of-copy.result.0 p.valid.0 e23 leaves2 copied in
    let valid : (v : Valuation) → is_true h c.in_ok-valid.valid.0 v ≡ holds (tree p.terms p.valid.0) (sees g3 p None point v) = λ v.
    true_kept c.in_ok-valid.valid.0 v e35 c.in_ok-valid.ensures.test.below ∙ c.in_ok-valid.ensures.value v ∙ sym (true_kept c.copy_of-copy.result.0 v e23 copied.below)
    ∙ decode_holds p s point c.copy_of-copy.result.0 p.valid.0 v (extended_refl g3) cond_is leaves3 copied3 in
    let ts = c.in_ok-instructions.instructions.items in
    let put = are_put_same g3 g4 p c.deref-8.result.now point is ts c.deref-8.ensures.value c.in_ok-instructions.ensures.put in
    let put5 = are_put_kept g3 g4 h p point is ts e45 put in
    model_terms g3 h p s name states inputs point (record { valid = c.in_ok-valid.valid; started = c.in_ok-started.started; instructions = c.in_ok-instructions.instructions }) X
    (test_kept c.in_ok-valid.valid.0 e35 c.in_ok-valid.ensures.test) valid c.in_ok-started.ensures.test
    (λ v. started_read g3 g4 h p point is ts c.deref-9.result.now c.in_ok-started.started.0 c.in_ok-valid.valid.0 v e45 c.deref-9.ensures.value (test_kept c.in_ok-valid.valid.0 e34 c.in_ok-valid.ensures.test).below put (c.in_ok-started.ensures.value v))
    put5
