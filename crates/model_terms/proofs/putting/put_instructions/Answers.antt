use Rattle.std.proofs.Common.{◌≡◌, ◌∙◌, ◌+◌, ◌-◌, ◌<◌, ◌≤◌, ◌++◌, ◌∷◌, ◌&&◌, [], List, Vec, Global, Option, Some, None, true, false, cond, suc, length, take, drop, get_or, refl, sym, ap, subst, arith}
use Rattle.std.proofs.lemmas.Bool.{and_parts}
use Rattle.ila_model.specs.declared.parts.Instruction.{Instruction}
use Rattle.ila_model.specs.Sorted.{is_condition}
use Rattle.ila_model.proofs.Declarations.{sorted}
use Rattle.ila_child.proofs.Machines.{IsSorted, sorted_at}
use Rattle.term_copies.proofs.Extending.{extended_refl, extended_trans}
use Rattle.term_copies.proofs.Copying.{leaves_kept}
use Rattle.model_terms.specs.declared.putting.InstructionTerms.{InstructionTerms}
use Rattle.model_terms.specs.Copied.{HasCopies, terms_of_instruction}
use Rattle.model_terms.specs.Puts.{ArePut}
use Rattle.model_terms.proofs.Pointing.{has_copies_kept}
use Rattle.model_terms.proofs.Programming.{has_at, decode_at}
use Rattle.model_terms.proofs.Telling.{put_before, are_put_more, are_put_end}
use Rattle.model_terms.proofs.putting.put_instructions.Goals as goal

pub loop-place-init : goal.loop-place-init
loop-place-init c =
    let g = c.args.terms.now in
    record {
      extended = extended_refl g;
      put = subst (λ (ts : List InstructionTerms). ArePut g g c.args.model.now.parts c.args.point.now [] ts) (sym c.new-all.ensures.items) tt;
    }

pub put_instruction-requires-clause-decode : goal.put_instruction-requires-clause-decode
put_instruction-requires-clause-decode c =
    let p = c.args.model.now.parts in
    let s = sorted p c.args.model.now.well_sorted in
    let is = p.instructions.items in
    let l = c.loop-place in
    let i = c.index-instruction.result.now in
    let within : l.place < length is = omega (arith, c.loop-place-test.true, c.len-place-end.ensures) in
    let are = (and_parts (is_condition p None p.valid.0) _ s.top).1 in
    subst (λ (x : Instruction). is_condition p None x.decode.0 ≡ true) (sym c.index-instruction.ensures) (decode_at p None 0 is l.place i are within)

pub put_instruction-requires-clause-updates : goal.put_instruction-requires-clause-updates
put_instruction-requires-clause-updates c =
    let p = c.args.model.now.parts in
    let s = sorted p c.args.model.now.well_sorted in
    let is = p.instructions.items in
    let l = c.loop-place in
    let i = c.index-instruction.result.now in
    let within : l.place < length is = omega (arith, c.loop-place-test.true, c.len-place-end.ensures) in
    let are = (and_parts (is_condition p None p.valid.0) _ s.top).1 in
    (subst (IsSorted p None) (sym c.index-instruction.ensures) (sorted_at p None 0 is l.place i are within)).updates

pub put_instruction-requires-clause-linked : goal.put_instruction-requires-clause-linked
put_instruction-requires-clause-linked c =
    let p = c.args.model.now.parts in
    let s = sorted p c.args.model.now.well_sorted in
    let is = p.instructions.items in
    let l = c.loop-place in
    let i = c.index-instruction.result.now in
    let within : l.place < length is = omega (arith, c.loop-place-test.true, c.len-place-end.ensures) in
    let are = (and_parts (is_condition p None p.valid.0) _ s.top).1 in
    (subst (IsSorted p None) (sym c.index-instruction.ensures) (sorted_at p None 0 is l.place i are within)).linked

pub put_instruction-requires-clause-leaves : goal.put_instruction-requires-clause-leaves
put_instruction-requires-clause-leaves c = leaves_kept c.args.model.now.parts.terms.names c.args.point.now c.loop-place.invariant.extended c.requires.leaves

pub put_instruction-requires-clause-copies : goal.put_instruction-requires-clause-copies
put_instruction-requires-clause-copies c =
    let p = c.args.model.now.parts in
    let s = sorted p c.args.model.now.well_sorted in
    let is = p.instructions.items in
    let l = c.loop-place in
    let i = c.index-instruction.result.now in
    let within : l.place < length is = omega (arith, c.loop-place-test.true, c.len-place-end.ensures) in
    let are = (and_parts (is_condition p None p.valid.0) _ s.top).1 in
    let g = c.args.terms.now in
    has_copies_kept p.terms c.args.point.now c.args.copies.now (terms_of_instruction i) l.invariant.extended c.requires.leaves
    (subst (λ (x : Instruction). HasCopies g p.terms c.args.point.now c.args.copies.now (terms_of_instruction x)) (sym c.index-instruction.ensures) (has_at g p.terms c.args.point.now c.args.copies.now is l.place i c.requires.copies within))

pub loop-place-preserved : goal.loop-place-preserved
loop-place-preserved c =
    let p = c.args.model.now.parts in
    let s = sorted p c.args.model.now.well_sorted in
    let is = p.instructions.items in
    let l = c.loop-place in
    let i = c.index-instruction.result.now in
    let within : l.place < length is = omega (arith, c.loop-place-test.true, c.len-place-end.ensures) in
    let are = (and_parts (is_condition p None p.valid.0) _ s.top).1 in
    let g = c.args.terms.now in
    let t = c.in_ok-one.one in
    let point = c.args.point.now in
    record {
      extended = extended_trans l.invariant.extended c.in_ok-one.ensures.extended;
      put = subst (λ (ts : List InstructionTerms). ArePut g c.put_instruction.new.terms p point (take (l.place + 1) is) ts) (sym c.in_ok-push.ensures.items)
          (are_put_more p point is l.place i l.all.items t within c.index-instruction.ensures c.in_ok-one.ensures.extended l.invariant.put (put_before p point i t l.invariant.extended c.requires.leaves c.in_ok-one.ensures.put));
    }

pub returns-in_err-one-clause-extended : goal.returns-in_err-one-clause-extended
returns-in_err-one-clause-extended c = extended_trans c.loop-place.invariant.extended c.put_instruction.ensures.extended

pub returns-in_err-push-clause-extended : goal.returns-in_err-push-clause-extended
returns-in_err-push-clause-extended c = extended_trans c.loop-place.invariant.extended c.put_instruction.ensures.extended

pub returns-clause-put : goal.returns-clause-put
returns-clause-put c =
    let p = c.args.model.now.parts in
    are_put_end c.args.terms.now c.loop-place.terms p c.args.point.now p.instructions.items c.loop-place.place c.loop-place.all.items (omega (arith, c.loop-place-test.false, c.len-place-end.ensures)) c.loop-place.invariant.put
