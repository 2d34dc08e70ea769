use Rattle.std.proofs.Common.{◌≡◌, ◌∙◌, ◌+◌, ◌-◌, ◌<◌, ◌≤◌, ◌++◌, ◌∷◌, ◌&&◌, [], List, Vec, Global, Option, Some, None, true, false, cond, suc, length, take, drop, get_or, refl, sym, ap, subst, arith}
use Rattle.wb_terms.specs.declared.nodes.TermId.{TermId}
use Rattle.wb_values.specs.Value.{truth}
use Rattle.ila_model.proofs.Declarations.{sorted}
use Rattle.ila_child.specs.Updating.{are_updates_of}
use Rattle.ila_child.proofs.Updates.{are_updates-of}
use Rattle.term_copies.specs.Copies.{AreLeaves, IsCopy, copy_of}
use Rattle.term_copies.proofs.Extending.{extended_trans}
use Rattle.term_copies.proofs.Copying.{leaves_kept, copy_kept}
use Rattle.model_terms.specs.Symbolic.{sees, is_true, IsCondition}
use Rattle.model_terms.specs.Copied.{with_copies}
use Rattle.model_terms.proofs.Choosing.{test_kept, true_kept}
use Rattle.model_terms.proofs.Pointing.{updated_leaves, condition_copy}
use Rattle.model_terms.proofs.Programming.{read_below}
use Rattle.model_terms.proofs.Turning.{reached_kept}
use Rattle.model_results.specs.Results.{result_of}
use Rattle.ila_child.specs.Start.{started}
use Rattle.model_terms.proofs.Telling.{put_reached, decode_holds}
use Rattle.model_terms.proofs.putting.put_instruction.Goals as goal

pub updated-requires-clause-updates : goal.updated-requires-clause-updates
updated-requires-clause-updates c =
    let p = c.args.model.now.parts in
    subst (λ us. are_updates_of p.terms 0 us ≡ true) (sym c.deref.ensures.value) (are_updates-of p None 0 c.args.instruction.now.updates.items c.requires.updates)

pub put_program-requires-clause-depth : goal.put_program-requires-clause-depth
put_program-requires-clause-depth c = tt

pub put_program-requires-clause-linked : goal.put_program-requires-clause-linked
put_program-requires-clause-linked c = c.requires.linked

pub put_program-requires-clause-leaves : goal.put_program-requires-clause-leaves
put_program-requires-clause-leaves c =
    let p = c.args.model.now.parts in
    let us = c.args.instruction.now.updates.items in
    let made = c.in_ok-after.ensures ∙ ap (λ us. with_copies c.args.copies.now us c.args.point.now) c.deref.ensures.value in
    subst (λ (ids : List TermId). AreLeaves c.args.terms.now p.terms.names ids) (sym made)
    (updated_leaves c.args.terms.now p.terms c.args.point.now c.args.copies.now 0 us c.args.point.now (are_updates-of p None 0 us c.requires.updates) c.requires.copies.1 c.requires.leaves)

pub copy_of-copy-requires : goal.copy_of-copy-requires
copy_of-copy-requires c = let below = read_below c.args.model.now.parts None truth c.args.instruction.now.decode.0 c.requires.decode in omega (arith, below, c.requires.room)

pub put_condition-requires : goal.put_condition-requires
put_condition-requires c =
    let p = c.args.model.now.parts in
    let k = c.args.instruction.now.decode in
    let id = copy_of c.args.copies.now k in
    let g = c.put_program.new.terms in
    record {
      condition = subst (λ (x : TermId). IsCondition g x.0) (sym c.copy_of-copy.ensures)
          (condition_copy p None g c.args.point.now id.0 k.0 c.requires.decode (copy_kept p.terms c.args.point.now id.0 k.0 c.in_ok-reached.ensures.extended c.requires.leaves c.requires.copies.0));
    }

pub returns-clause-put : goal.returns-clause-put
returns-clause-put c =
    let p = c.args.model.now.parts in
    let s = sorted p c.args.model.now.well_sorted in
    let i = c.args.instruction.now in
    let point = c.args.point.now in
    let g = c.args.terms.now in
    let mid = c.put_program.new.terms in
    let id = copy_of c.args.copies.now i.decode in
    let r = c.in_ok-reached.reached in
    let made = c.in_ok-after.ensures ∙ ap (λ us. with_copies c.args.copies.now us point) c.deref.ensures.value in
    record {
      decode_test = c.in_ok-decode.ensures.test;
      decode_value = λ v. c.in_ok-decode.ensures.value v ∙ ap (λ (x : TermId). is_true mid x.0 v) c.copy_of-copy.ensures ∙ decode_holds p s point id.0 i.decode.0 v c.in_ok-reached.ensures.extended c.requires.decode c.requires.leaves c.requires.copies.0;
      ids = r.point.items;
      first = c.truncate.ensures.items ∙ ap (λ k. take k r.point.items) c.state_count.ensures.place;
      reached = reached_kept p None r.ended.0 r.point.items (λ v. result_of (started p i) (sees g p None point v)) c.in_ok-decode.ensures.extended
          (put_reached p s i point c.args.copies.now c.in_ok-after.after.items r.point.items r.ended.0 c.requires.updates c.requires.leaves c.requires.copies made c.in_ok-reached.ensures.reached);
    }

pub returns-in_err-decode-clause-extended : goal.returns-in_err-decode-clause-extended
returns-in_err-decode-clause-extended c = extended_trans c.in_ok-reached.ensures.extended c.put_condition.ensures.extended

pub returns-clause-extended : goal.returns-clause-extended
returns-clause-extended c = extended_trans c.in_ok-reached.ensures.extended c.in_ok-decode.ensures.extended
