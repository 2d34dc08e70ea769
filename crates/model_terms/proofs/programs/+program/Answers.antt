use Rattle.std.proofs.Common.{◌≡◌, ◌∙◌, ◌+◌, ◌-◌, ◌*◌, ◌<◌, ◌≤◌, ◌∷◌, suc, List, Some, None, Option, length, drop, true, Vec, Global, refl, sym, ap, subst, arith}
use Rattle.std.proofs.Math.Numerals.{add-one}
use Rattle.std.proofs.lemmas.Bool.{and_parts}
use Rattle.wb_values.specs.Value.{truth}
use Rattle.model_meaning.specs.Model.{entered}
use Rattle.model_results.specs.Results.{child_result, iterated}
use Rattle.wb_terms.specs.declared.nodes.TermId.{TermId}
use Rattle.ila_model.specs.declared.parts.ChildId.{ChildId}
use Rattle.ila_model.specs.declared.parts.Instruction.{Instruction}
use Rattle.ila_model.specs.Sorted.{is_condition, are_states, are_instructions}
use Rattle.ila_model.specs.Meaning.{privates_of}
use Rattle.ila_model.proofs.Declarations.{sorted}
use Rattle.ila_child.specs.Running.{HasDepth, IsLinked, program_in}
use Rattle.ila_child.proofs.Programs.{sorted_child, low_enough}
use Rattle.ila_child.proofs.Machines.{IsSorted, sorted_at}
use Rattle.term_copies.specs.Copies.{AreLeaves, IsCopy, copy_of}
use Rattle.term_copies.proofs.Extending.{extended_refl, extended_trans}
use Rattle.term_copies.proofs.Copying.{leaves_kept, copy_kept}
use Rattle.wanted_terms.specs.Wanted.{AreBelow, IsClosed, AreListed}
use Rattle.ila_child.specs.Updating.{are_updates_of, with_initial}
use Rattle.ila_child.proofs.Updates.{are_updates-of}
use Rattle.model_terms.proofs.Choosing.{test_kept}
use Rattle.model_terms.specs.Symbolic.{sees, worths, IsCondition, IsReached}
use Rattle.model_terms.specs.Copied.{HasCopies, terms_of_instruction, terms_of_instructions, with_copies}
use Rattle.model_terms.specs.Programs.{IsTaken}
use Rattle.model_terms.proofs.Turning.{step_at, turned}
use Rattle.model_terms.proofs.Pointing.{update_terms, updated_leaves, condition_copy, has_copies_kept}
use Rattle.model_terms.proofs.Programming.{machine_below, read_below, condition_sort, has_at, decode_at, instructions_copied, taken_read, first_copy, nothing_reached, start_reached, end_reached}
use Rattle.model_terms.proofs.Cycling.{taken_start, taken_turn}
use Rattle.model_terms.proofs.programs.+program.Goals as goal

pub put_taken-loop-done-init : goal.put_taken-loop-done-init
put_taken-loop-done-init t c =
    let p = c.args.model.now.parts in
    record {
      extended = c.in_ok-taken.ensures.extended;
      taken = taken_start p c.args.at c.args.depth c.args.instructions.now c.args.point.now c.in_ok-taken.taken.point.items c.in_ok-taken.taken.none.0 c.in_ok-taken.taken.ended.0
          (λ v. sees c.args.terms.now p c.args.at c.args.point.now v) c.in_ok-taken.ensures.extended c.requires.leaves c.in_ok-taken.ensures.point
          c.in_ok-taken.ensures.none_test c.in_ok-taken.ensures.ended_test c.in_ok-taken.ensures.none c.in_ok-taken.ensures.ended;
    }

pub put_taken-returns-clause-taken : goal.put_taken-returns-clause-taken
put_taken-returns-clause-taken t c =
    let is = c.args.instructions.now in
    let z : length is - c.loop-done.done ≡ 0 = omega (arith, c.loop-done-test.false) in
    subst (λ m. IsTaken c.loop-done.terms c.args.model.now.parts c.args.at c.args.depth (drop m is) c.loop-done.taken.none.0 c.loop-done.taken.ended.0 c.loop-done.taken.point.items (λ v. sees c.args.terms.now c.args.model.now.parts c.args.at c.args.point.now v)) z c.loop-done.invariant.taken

pub put_taken-updated-requires-clause-updates : goal.put_taken-updated-requires-clause-updates
put_taken-updated-requires-clause-updates t c =
    let p = c.args.model.now.parts in
    let s = sorted p c.args.model.now.well_sorted in
    let at = c.args.at in
    let d = c.args.depth in
    let is = c.args.instructions.now in
    let l = c.loop-done in
    let i = c.index-instructions-instructions.result in
    let k = length is - 1 - l.done in
    let within : k < length is = omega (arith, c.loop-done-test.true) in
    let low = low_enough d c.requires.low in
    let srt = subst (IsSorted p at) (sym c.index-instructions-instructions.is) (sorted_at p at 0 is k i c.requires.instructions within) in
    subst (λ us. are_updates_of p.terms 0 us ≡ true) (sym c.deref.ensures.value) (are_updates-of p at 0 i.updates.items srt.updates)

pub put_taken-put_program-requires : goal.put_taken-put_program-requires
put_taken-put_program-requires t c =
    let p = c.args.model.now.parts in
    let s = sorted p c.args.model.now.well_sorted in
    let at = c.args.at in
    let d = c.args.depth in
    let is = c.args.instructions.now in
    let l = c.loop-done in
    let i = c.index-instructions-instructions.result in
    let k = length is - 1 - l.done in
    let within : k < length is = omega (arith, c.loop-done-test.true) in
    let srt = subst (IsSorted p at) (sym c.index-instructions-instructions.is) (sorted_at p at 0 is k i c.requires.instructions within) in
    let has = subst (λ (x : Instruction). HasCopies c.args.terms.now p.terms c.args.point.now c.args.copies.now (terms_of_instruction x)) (sym c.index-instructions-instructions.is) (has_at c.args.terms.now p.terms c.args.point.now c.args.copies.now is k i c.requires.copies within) in
    let kept = has_copies_kept p.terms c.args.point.now c.args.copies.now (update_terms i.updates.items) l.invariant.extended c.requires.leaves has.1 in
    let after = updated_leaves l.terms p.terms c.args.point.now c.args.copies.now 0 i.updates.items c.args.point.now (are_updates-of p at 0 i.updates.items srt.updates) kept (leaves_kept p.terms.names c.args.point.now l.invariant.extended c.requires.leaves) in
    let made = c.in_ok-after.ensures ∙ ap (λ us. with_copies c.args.copies.now us c.args.point.now) c.deref.ensures.value in
    let smaller : 2 * (4 - d) < t = omega (arith, c.decreases) in
    (smaller, (c.requires.depth, (srt.linked, subst (λ (ids : List TermId). AreLeaves l.terms p.terms.names ids) (sym made) after)))

pub put_taken-copy_of-decode-requires : goal.put_taken-copy_of-decode-requires
put_taken-copy_of-decode-requires t c =
    let p = c.args.model.now.parts in
    let s = sorted p c.args.model.now.well_sorted in
    let at = c.args.at in
    let d = c.args.depth in
    let is = c.args.instructions.now in
    let l = c.loop-done in
    let i = c.index-instructions-instructions.result in
    let k = length is - 1 - l.done in
    let within : k < length is = omega (arith, c.loop-done-test.true) in
    let cond_is = subst (λ (x : Instruction). is_condition p at x.decode.0 ≡ true) (sym c.index-instructions-instructions.is) (decode_at p at 0 is k i c.requires.instructions within) in
    let below = read_below p at truth i.decode.0 cond_is in
    omega (arith, below, c.requires.room)

pub put_taken-put_before-requires-clause-decode : goal.put_taken-put_before-requires-clause-decode
put_taken-put_before-requires-clause-decode t c =
    let p = c.args.model.now.parts in
    let s = sorted p c.args.model.now.well_sorted in
    let at = c.args.at in
    let d = c.args.depth in
    let is = c.args.instructions.now in
    let l = c.loop-done in
    let i = c.index-instructions-instructions.result in
    let k = length is - 1 - l.done in
    let within : k < length is = omega (arith, c.loop-done-test.true) in
    let cond_is = subst (λ (x : Instruction). is_condition p at x.decode.0 ≡ true) (sym c.index-instructions-instructions.is) (decode_at p at 0 is k i c.requires.instructions within) in
    let has = subst (λ (x : Instruction). HasCopies c.args.terms.now p.terms c.args.point.now c.args.copies.now (terms_of_instruction x)) (sym c.index-instructions-instructions.is) (has_at c.args.terms.now p.terms c.args.point.now c.args.copies.now is k i c.requires.copies within) in
    let id = copy_of c.args.copies.now i.decode in
    let g = c.put_program.new.terms in
    subst (λ (x : TermId). IsCondition g x.0) (sym c.copy_of-decode.ensures)
    (condition_copy p at g c.args.point.now id.0 i.decode.0 cond_is (copy_kept p.terms c.args.point.now id.0 i.decode.0 (extended_trans l.invariant.extended c.in_ok-reached.ensures.extended) c.requires.leaves has.0))

pub put_taken-put_before-requires-clause-none_test : goal.put_taken-put_before-requires-clause-none_test
put_taken-put_before-requires-clause-none_test t c = test_kept c.loop-done.taken.none.0 c.in_ok-reached.ensures.extended c.loop-done.invariant.taken.none_test

pub put_taken-put_before-requires-clause-rest_test : goal.put_taken-put_before-requires-clause-rest_test
put_taken-put_before-requires-clause-rest_test t c = test_kept c.loop-done.taken.ended.0 c.in_ok-reached.ensures.extended c.loop-done.invariant.taken.reached.test

pub put_taken-put_before-requires-clause-rest_point : goal.put_taken-put_before-requires-clause-rest_point
put_taken-put_before-requires-clause-rest_point t c = leaves_kept c.args.model.now.parts.terms.names c.loop-done.taken.point.items c.in_ok-reached.ensures.extended c.loop-done.invariant.taken.reached.leaves

pub put_taken-put_before-requires-clause-one_test : goal.put_taken-put_before-requires-clause-one_test
put_taken-put_before-requires-clause-one_test t c = c.in_ok-reached.ensures.reached.test

pub put_taken-put_before-requires-clause-one_point : goal.put_taken-put_before-requires-clause-one_point
put_taken-put_before-requires-clause-one_point t c = c.in_ok-reached.ensures.reached.leaves

pub put_taken-loop-done-preserved : goal.put_taken-loop-done-preserved
put_taken-loop-done-preserved t c =
    let p = c.args.model.now.parts in
    let s = sorted p c.args.model.now.well_sorted in
    let at = c.args.at in
    let d = c.args.depth in
    let is = c.args.instructions.now in
    let l = c.loop-done in
    let i = c.index-instructions-instructions.result in
    let k = length is - 1 - l.done in
    let within : k < length is = omega (arith, c.loop-done-test.true) in
    let low = low_enough d c.requires.low in
    let srt = subst (IsSorted p at) (sym c.index-instructions-instructions.is) (sorted_at p at 0 is k i c.requires.instructions within) in
    record {
      extended = extended_trans l.invariant.extended (extended_trans c.in_ok-reached.ensures.extended c.in_ok-taken-2.ensures.extended);
      taken = taken_turn p s at d k l.done is i c.args.point.now c.args.copies.now c.in_ok-after.after.items c.copy_of-decode.result
          (record { none = 0; ended = c.in_ok-reached.reached.ended.0; point = c.in_ok-reached.reached.point.items })
          (record { none = l.taken.none.0; ended = l.taken.ended.0; point = l.taken.point.items })
          (record { none = c.in_ok-taken-2.taken.none.0; ended = c.in_ok-taken-2.taken.ended.0; point = c.in_ok-taken-2.taken.point.items })
          refl c.loop-done-test.true c.index-instructions-instructions.is c.requires.depth low c.requires.instructions c.requires.leaves c.requires.copies l.invariant.extended c.in_ok-reached.ensures.extended
          l.invariant.taken (c.in_ok-after.ensures ∙ ap (λ us. with_copies c.args.copies.now us c.args.point.now) c.deref.ensures.value) c.in_ok-reached.ensures.reached c.copy_of-decode.ensures c.in_ok-taken-2.ensures.added;
    }

pub put_program-returns-in_default-clause-reached : goal.put_program-returns-in_default-clause-reached
put_program-returns-in_default-clause-reached t c =
    let none : c.args.program ≡ None = c.in_default.is in
    let e = c.in_ok-nothing.ensures in
    nothing_reached c.args.model.now.parts c.args.at c.args.depth c.args.program c.in_ok-nothing.nothing.ended.0 c.args.point.items c.in_ok-nothing.nothing.point.items none e.extended c.requires.leaves (ap (λ (xs : Vec TermId Global). xs.items) e.point) e.test e.ended

pub put_program-closed-requires : goal.put_program-closed-requires
put_program-closed-requires t c =
    let p = c.args.model.now.parts in
    let s = sorted p c.args.model.now.well_sorted in
    let at = c.args.at in
    let d = c.args.depth in
    let i = c.in-Some.id in
    let x = c.index-child.result.now in
    let linked = subst (IsLinked p.children.items at) c.in-Some.is c.requires.linked in
    let sc = sorted_child p s at i.0 d x c.requires.depth linked.0 linked.1 c.index-child.ensures in
    let below = machine_below p (Some i.0) x.valid x.instructions.items sc.machine in
    subst (λ (ids : List TermId). AreBelow (length p.terms.nodes) ids) (sym (c.deref-2.ensures.value ∙ c.in_ok-listed.ensures ∙ ap (λ (js : List Instruction). x.valid ∷ terms_of_instructions js) c.deref.ensures.value)) below

pub put_program-put_start-requires-clause-states : goal.put_program-put_start-requires-clause-states
put_program-put_start-requires-clause-states t c =
    let p = c.args.model.now.parts in
    let s = sorted p c.args.model.now.well_sorted in
    let at = c.args.at in
    let d = c.args.depth in
    let i = c.in-Some.id in
    let x = c.index-child.result.now in
    let linked = subst (IsLinked p.children.items at) c.in-Some.is c.requires.linked in
    let sc = sorted_child p s at i.0 d x c.requires.depth linked.0 linked.1 c.index-child.ensures in
    subst (λ js. are_states true (drop x.first.0 p.terms.names) js ≡ true) (sym c.deref-3.ensures.value) sc.states

pub put_program-put_start-requires-clause-within : goal.put_program-put_start-requires-clause-within
put_program-put_start-requires-clause-within t c =
    let p = c.args.model.now.parts in
    let s = sorted p c.args.model.now.well_sorted in
    let at = c.args.at in
    let d = c.args.depth in
    let i = c.in-Some.id in
    let x = c.index-child.result.now in
    let linked = subst (IsLinked p.children.items at) c.in-Some.is c.requires.linked in
    let sc = sorted_child p s at i.0 d x c.requires.depth linked.0 linked.1 c.index-child.ensures in
    subst (λ js. x.first.0 + length js ≤ length p.terms.names) (sym c.deref-3.ensures.value) sc.places

pub put_program-loop-turn-init : goal.put_program-loop-turn-init
put_program-loop-turn-init t c =
    let p = c.args.model.now.parts in
    let s = sorted p c.args.model.now.well_sorted in
    let at = c.args.at in
    let d = c.args.depth in
    let i = c.in-Some.id in
    let x = c.index-child.result.now in
    let linked = subst (IsLinked p.children.items at) c.in-Some.is c.requires.linked in
    let sc = sorted_child p s at i.0 d x c.requires.depth linked.0 linked.1 c.index-child.ensures in
    let r = c.in_ok-run.run' in
    record {
      extended = c.in_ok-run.ensures.extended;
      reached = start_reached p s at i.0 d x r.ended.0 c.args.point.items r.point.items linked.1 sc c.requires.leaves c.in_ok-run.ensures.leaves c.in_ok-run.ensures.test c.in_ok-run.ensures.ended
          (λ v. c.in_ok-run.ensures.values v ∙ ap (λ js. with_initial p.terms.names x.first.0 js (worths c.args.terms.now c.args.point.items v)) c.deref-3.ensures.value);
    }

pub put_program-put_copies_of-requires-clause-leaves : goal.put_program-put_copies_of-requires-clause-leaves
put_program-put_copies_of-requires-clause-leaves t c =
    subst (λ (ids : List TermId). AreLeaves c.loop-turn.terms c.args.model.now.parts.terms.names ids) (sym c.deref-in-loop-turn.ensures.value) c.loop-turn.invariant.reached.leaves

pub put_program-put_copies_of-requires-clause-wanted : goal.put_program-put_copies_of-requires-clause-wanted
put_program-put_copies_of-requires-clause-wanted t c =
    subst (λ (ids : List TermId). IsClosed c.args.model.now.parts.terms ids) (sym c.deref-in-loop-turn-2.ensures.value) c.in_ok-wanted.ensures.closed

pub put_program-put_copies_of-requires-clause-listed : goal.put_program-put_copies_of-requires-clause-listed
put_program-put_copies_of-requires-clause-listed t c =
    subst (λ (ids : List TermId). AreListed ids c.deref-in-loop-turn-3.result.now) (sym c.deref-in-loop-turn-2.ensures.value)
    (subst (λ (ids : List TermId). AreListed c.in_ok-wanted.wanted.items ids) (c.deref-2.ensures.value ∙ sym c.deref-in-loop-turn-3.ensures.value) c.in_ok-wanted.ensures.roots)

pub put_program-put_taken-requires : goal.put_program-put_taken-requires
put_program-put_taken-requires t c =
    let p = c.args.model.now.parts in
    let s = sorted p c.args.model.now.well_sorted in
    let at = c.args.at in
    let d = c.args.depth in
    let i = c.in-Some.id in
    let x = c.index-child.result.now in
    let linked = subst (IsLinked p.children.items at) c.in-Some.is c.requires.linked in
    let sc = sorted_child p s at i.0 d x c.requires.depth linked.0 linked.1 c.index-child.ensures in
    let run = c.loop-turn.run in
    let smaller : 2 * (4 - (d + 1)) + 1 < t = omega (arith, c.decreases, sc.low) in
    let low : d + 1 ≤ 3 = omega (arith, sc.low) in
    let deep = subst (λ k. HasDepth p.children.items k (Some i.0)) (sym (add-one d)) sc.inside.deep in
    let machine = and_parts (is_condition p (Some i.0) x.valid.0) _ sc.machine in
    let are = subst (λ js. are_instructions p (Some i.0) 0 js ≡ true) (sym c.deref-in-loop-turn-4.ensures.value) machine.1 in
    let leaves = subst (λ (ids : List TermId). AreLeaves c.put_copies_of.new.terms p.terms.names ids) (sym c.deref-in-loop-turn-6.ensures.value) (leaves_kept p.terms.names run.point.items c.in_ok-copies.ensures.extended c.loop-turn.invariant.reached.leaves) in
    let room = ap (λ (ids : List TermId). length ids) c.deref-in-loop-turn-5.ensures.value ∙ c.in_ok-copies.ensures.room in
    let has = instructions_copied c.put_copies_of.new.terms p.terms c.deref-in-loop-turn.result.now c.deref-in-loop-turn-6.result.now c.in_ok-copies.copies.items c.deref-in-loop-turn-5.result.now c.deref-in-loop-turn-3.result.now x.valid x.instructions.items c.deref-in-loop-turn-4.result.now
    (c.deref-in-loop-turn-3.ensures.value ∙ c.in_ok-listed.ensures ∙ ap (λ (js : List Instruction). x.valid ∷ terms_of_instructions js) c.deref.ensures.value)
    (c.deref-in-loop-turn.ensures.value ∙ sym c.deref-in-loop-turn-6.ensures.value) c.deref-in-loop-turn-5.ensures.value c.deref-in-loop-turn-4.ensures.value c.in_ok-copies.ensures.copies in
    (smaller, (deep, (low, (are, (leaves, (room, has))))))

pub put_program-overflow_add-depth : goal.put_program-overflow_add-depth
put_program-overflow_add-depth t c =
    let p = c.args.model.now.parts in
    let s = sorted p c.args.model.now.well_sorted in
    let at = c.args.at in
    let d = c.args.depth in
    let i = c.in-Some.id in
    let x = c.index-child.result.now in
    let linked = subst (IsLinked p.children.items at) c.in-Some.is c.requires.linked in
    let sc = sorted_child p s at i.0 d x c.requires.depth linked.0 linked.1 c.index-child.ensures in
    let low = sc.low in
    omega arith

pub put_program-copy_of-valid-requires : goal.put_program-copy_of-valid-requires
put_program-copy_of-valid-requires t c =
    let p = c.args.model.now.parts in
    let s = sorted p c.args.model.now.well_sorted in
    let at = c.args.at in
    let d = c.args.depth in
    let i = c.in-Some.id in
    let x = c.index-child.result.now in
    let linked = subst (IsLinked p.children.items at) c.in-Some.is c.requires.linked in
    let sc = sorted_child p s at i.0 d x c.requires.depth linked.0 linked.1 c.index-child.ensures in
    let below = (machine_below p (Some i.0) x.valid x.instructions.items sc.machine).0 in
    let room = ap (λ (ids : List TermId). length ids) c.deref-in-loop-turn-7.ensures.value ∙ c.in_ok-copies.ensures.room in
    omega (arith, below, room)

pub put_program-put_turn-requires-clause-valid : goal.put_program-put_turn-requires-clause-valid
put_program-put_turn-requires-clause-valid t c =
    let p = c.args.model.now.parts in
    let s = sorted p c.args.model.now.well_sorted in
    let at = c.args.at in
    let d = c.args.depth in
    let i = c.in-Some.id in
    let x = c.index-child.result.now in
    let linked = subst (IsLinked p.children.items at) c.in-Some.is c.requires.linked in
    let sc = sorted_child p s at i.0 d x c.requires.depth linked.0 linked.1 c.index-child.ensures in
    let run = c.loop-turn.run in
    let cond_is = (and_parts (is_condition p (Some i.0) x.valid.0) _ sc.machine).0 in
    let copied = subst (λ (ids : List TermId). IsCopy c.put_copies_of.new.terms p.terms ids c.copy_of-valid.result.0 x.valid.0) c.deref-in-loop-turn.ensures.value
    (first_copy c.put_copies_of.new.terms p.terms c.deref-in-loop-turn.result.now c.in_ok-copies.copies.items c.deref-in-loop-turn-7.result.now c.deref-in-loop-turn-3.result.now (terms_of_instructions x.instructions.items) x.valid c.copy_of-valid.result c.deref-in-loop-turn-7.ensures.value
    (c.deref-in-loop-turn-3.ensures.value ∙ c.in_ok-listed.ensures ∙ ap (λ (js : List Instruction). x.valid ∷ terms_of_instructions js) c.deref.ensures.value)
    c.in_ok-copies.ensures.copies c.copy_of-valid.ensures) in
    let leaves = leaves_kept p.terms.names run.point.items c.in_ok-copies.ensures.extended c.loop-turn.invariant.reached.leaves in
    condition_copy p (Some i.0) c.put_taken.new.terms run.point.items c.copy_of-valid.result.0 x.valid.0 cond_is (copy_kept p.terms run.point.items c.copy_of-valid.result.0 x.valid.0 c.in_ok-taken.ensures.extended leaves copied)

pub put_program-put_turn-requires-clause-before_test : goal.put_program-put_turn-requires-clause-before_test
put_program-put_turn-requires-clause-before_test t c = test_kept c.loop-turn.run.ended.0 (extended_trans c.in_ok-copies.ensures.extended c.in_ok-taken.ensures.extended) c.loop-turn.invariant.reached.test

pub put_program-put_turn-requires-clause-before_point : goal.put_program-put_turn-requires-clause-before_point
put_program-put_turn-requires-clause-before_point t c = leaves_kept c.args.model.now.parts.terms.names c.loop-turn.run.point.items (extended_trans c.in_ok-copies.ensures.extended c.in_ok-taken.ensures.extended) c.loop-turn.invariant.reached.leaves

pub put_program-put_turn-requires-clause-taken_test : goal.put_program-put_turn-requires-clause-taken_test
put_program-put_turn-requires-clause-taken_test t c = c.in_ok-taken.ensures.taken.reached.test

pub put_program-put_turn-requires-clause-taken_point : goal.put_program-put_turn-requires-clause-taken_point
put_program-put_turn-requires-clause-taken_point t c = c.in_ok-taken.ensures.taken.reached.leaves

pub put_program-loop-turn-preserved : goal.put_program-loop-turn-preserved
put_program-loop-turn-preserved t c =
    let p = c.args.model.now.parts in
    let s = sorted p c.args.model.now.well_sorted in
    let at = c.args.at in
    let d = c.args.depth in
    let i = c.in-Some.id in
    let x = c.index-child.result.now in
    let linked = subst (IsLinked p.children.items at) c.in-Some.is c.requires.linked in
    let sc = sorted_child p s at i.0 d x c.requires.depth linked.0 linked.1 c.index-child.ensures in
    let run = c.loop-turn.run in
    let cond_is = (and_parts (is_condition p (Some i.0) x.valid.0) _ sc.machine).0 in
    let copied = subst (λ (ids : List TermId). IsCopy c.put_copies_of.new.terms p.terms ids c.copy_of-valid.result.0 x.valid.0) c.deref-in-loop-turn.ensures.value
    (first_copy c.put_copies_of.new.terms p.terms c.deref-in-loop-turn.result.now c.in_ok-copies.copies.items c.deref-in-loop-turn-7.result.now c.deref-in-loop-turn-3.result.now (terms_of_instructions x.instructions.items) x.valid c.copy_of-valid.result c.deref-in-loop-turn-7.ensures.value
    (c.deref-in-loop-turn-3.ensures.value ∙ c.in_ok-listed.ensures ∙ ap (λ (js : List Instruction). x.valid ∷ terms_of_instructions js) c.deref.ensures.value)
    c.in_ok-copies.ensures.copies c.copy_of-valid.ensures) in
    let took = taken_read c.put_copies_of.new.terms c.put_taken.new.terms p (Some i.0) (suc d) (d + 1) x.instructions.items c.deref-in-loop-turn-4.result.now c.in_ok-taken.taken.none.0 c.in_ok-taken.taken.ended.0 c.in_ok-taken.taken.point.items run.point.items c.deref-in-loop-turn-6.result.now
    (add-one d) c.deref-in-loop-turn-4.ensures.value c.deref-in-loop-turn-6.ensures.value c.in_ok-taken.ensures.taken in
    let reached = took.reached in
    record {
      extended = extended_trans c.loop-turn.invariant.extended (extended_trans c.in_ok-copies.ensures.extended (extended_trans c.in_ok-taken.ensures.extended c.in_ok-run-2.ensures.extended));
      reached = turned p s (Some i.0) (suc d) x.valid.0 c.loop-turn.turn x.instructions.items c.copy_of-valid.result.0
          (record { none = 0; ended = c.in_ok-taken.taken.ended.0; point = c.in_ok-taken.taken.point.items })
          (record { none = 0; ended = run.ended.0; point = run.point.items })
          (record { none = 0; ended = c.in_ok-run-2.run'.ended.0; point = c.in_ok-run-2.run'.point.items })
          (λ v. entered (privates_of p.terms x) (sees c.args.terms.now p at c.args.point.items v))
          sc.inside.deep (low_enough (suc d) sc.low) cond_is c.in_ok-copies.ensures.extended c.in_ok-taken.ensures.extended c.loop-turn.invariant.reached copied reached c.in_ok-run-2.ensures.turned;
    }

pub put_program-put_ending-requires-clause-wanted : goal.put_program-put_ending-requires-clause-wanted
put_program-put_ending-requires-clause-wanted t c =
    subst (λ (ids : List TermId). IsClosed c.args.model.now.parts.terms ids) (sym c.deref-4.ensures.value) c.in_ok-wanted.ensures.closed

pub put_program-put_ending-requires-clause-listed : goal.put_program-put_ending-requires-clause-listed
put_program-put_ending-requires-clause-listed t c =
    subst (λ (ids : List TermId). AreListed ids c.deref-5.result.now) (sym c.deref-4.ensures.value)
    (subst (λ (ids : List TermId). AreListed c.in_ok-wanted.wanted.items ids) (c.deref-2.ensures.value ∙ sym c.deref-5.ensures.value) c.in_ok-wanted.ensures.roots)

pub put_program-put_ending-requires-clause-first : goal.put_program-put_ending-requires-clause-first
put_program-put_ending-requires-clause-first t c =
    let x = c.index-child.result.now in
    (terms_of_instructions x.instructions.items, c.deref-5.ensures.value ∙ c.in_ok-listed.ensures ∙ ap (λ (js : List Instruction). x.valid ∷ terms_of_instructions js) c.deref.ensures.value)

pub put_program-put_ending-requires-clause-valid : goal.put_program-put_ending-requires-clause-valid
put_program-put_ending-requires-clause-valid t c =
    let p = c.args.model.now.parts in
    let s = sorted p c.args.model.now.well_sorted in
    let at = c.args.at in
    let d = c.args.depth in
    let i = c.in-Some.id in
    let x = c.index-child.result.now in
    let linked = subst (IsLinked p.children.items at) c.in-Some.is c.requires.linked in
    let sc = sorted_child p s at i.0 d x c.requires.depth linked.0 linked.1 c.index-child.ensures in
    (machine_below p (Some i.0) x.valid x.instructions.items sc.machine).0

pub put_program-put_ending-requires-clause-sort : goal.put_program-put_ending-requires-clause-sort
put_program-put_ending-requires-clause-sort t c =
    let p = c.args.model.now.parts in
    let s = sorted p c.args.model.now.well_sorted in
    let at = c.args.at in
    let d = c.args.depth in
    let i = c.in-Some.id in
    let x = c.index-child.result.now in
    let linked = subst (IsLinked p.children.items at) c.in-Some.is c.requires.linked in
    let sc = sorted_child p s at i.0 d x c.requires.depth linked.0 linked.1 c.index-child.ensures in
    condition_sort p (Some i.0) x.valid.0 (and_parts (is_condition p (Some i.0) x.valid.0) _ sc.machine).0

pub put_program-put_ending-requires-clause-test : goal.put_program-put_ending-requires-clause-test
put_program-put_ending-requires-clause-test t c = c.loop-turn.invariant.reached.test

pub put_program-put_ending-requires-clause-leaves : goal.put_program-put_ending-requires-clause-leaves
put_program-put_ending-requires-clause-leaves t c = c.loop-turn.invariant.reached.leaves

pub put_program-returns-clause-reached : goal.put_program-returns-clause-reached
put_program-returns-clause-reached t c =
    let p = c.args.model.now.parts in
    let s = sorted p c.args.model.now.well_sorted in
    let at = c.args.at in
    let d = c.args.depth in
    let i = c.in-Some.id in
    let x = c.index-child.result.now in
    let linked = subst (IsLinked p.children.items at) c.in-Some.is c.requires.linked in
    let sc = sorted_child p s at i.0 d x c.requires.depth linked.0 linked.1 c.index-child.ensures in
    let l = c.loop-turn in
    let e = c.in_ok-ended.ensures.ending in
    let r = c.in_ok-ended.ended in
    let cond_is = (and_parts (is_condition p (Some i.0) x.valid.0) _ sc.machine).0 in
    let steps : l.turn ≡ x.steps = omega (arith, c.loop-turn-test.false, l.auto.turn-end) in
    subst (λ o. IsReached c.put_ending.new.terms p at r.ended.0 r.point.items (λ v. child_result (program_in p d o) (sees c.args.terms.now p at c.args.point.items v))) (sym c.in-Some.is)
    (end_reached p s at i d l.turn x e.copy l.run.ended.0 r.ended.0 c.args.point.items l.run.point.items r.point.items linked.1 sc steps cond_is sc.inside.deep (low_enough (suc d) sc.low) c.requires.leaves l.invariant.reached e.first e.copied e.second e.same e.test e.value)

pub put_program-returns-in_err-copies-clause-extended : goal.put_program-returns-in_err-copies-clause-extended
put_program-returns-in_err-copies-clause-extended t c =
    extended_trans c.loop-turn.invariant.extended c.put_copies_of.ensures.extended

pub put_program-returns-in_err-taken-clause-extended : goal.put_program-returns-in_err-taken-clause-extended
put_program-returns-in_err-taken-clause-extended t c =
    extended_trans c.loop-turn.invariant.extended (extended_trans c.put_copies_of.ensures.extended c.put_taken.ensures.extended)

pub put_program-returns-in_err-run-2-clause-extended : goal.put_program-returns-in_err-run-2-clause-extended
put_program-returns-in_err-run-2-clause-extended t c =
    extended_trans c.loop-turn.invariant.extended (extended_trans c.put_copies_of.ensures.extended (extended_trans c.put_taken.ensures.extended c.put_turn.ensures.extended))

pub put_program-returns-in_err-ended-clause-extended : goal.put_program-returns-in_err-ended-clause-extended
put_program-returns-in_err-ended-clause-extended t c =
    extended_trans c.loop-turn.invariant.extended c.put_ending.ensures.extended

pub put_program-returns-clause-extended : goal.put_program-returns-clause-extended
put_program-returns-clause-extended t c =
    extended_trans c.loop-turn.invariant.extended c.put_ending.ensures.extended

pub put_taken-returns-in_err-reached-clause-extended : goal.put_taken-returns-in_err-reached-clause-extended
put_taken-returns-in_err-reached-clause-extended t c =
    extended_trans c.loop-done.invariant.extended c.put_program.ensures.extended

pub put_taken-returns-in_err-taken-2-clause-extended : goal.put_taken-returns-in_err-taken-2-clause-extended
put_taken-returns-in_err-taken-2-clause-extended t c =
    extended_trans c.loop-done.invariant.extended (extended_trans c.put_program.ensures.extended c.put_before.ensures.extended)
