use Rattle.std.proofs.Common.{◌≡◌, ◌∙◌, ◌+◌, ◌-◌, ◌*◌, ◌<◌, ◌≤◌, ◌∷◌, suc, List, Some, None, Option, length, drop, true, refl, sym, ap, subst, arith}
use Rattle.std.specs.Prelude.{max}
use Rattle.std.proofs.Math.Numerals.{add-one}
use Rattle.std.proofs.lemmas.Bool.{and_parts}
use Rattle.model_results.specs.Results.{unrolled_child}
use Rattle.ila_model.specs.declared.parts.Instruction.{Instruction}
use Rattle.ila_model.specs.Sorted.{is_condition, are_instructions}
use Rattle.ila_model.proofs.Declarations.{sorted}
use Rattle.ila_child.specs.Running.{HasDepth, IsLinked, program_in}
use Rattle.ila_child.proofs.Programs.{sorted_child}
use Rattle.ila_child.proofs.Machines.{IsSorted, sorted_at}
use Rattle.model_terms.specs.Unrolled.{most_at}
use Rattle.model_terms.proofs.Counting.{nothing_unrolled, most_small, one_most, child_limit, most_start, most_turn, max_below, most_end, product_below}
use Rattle.model_terms.proofs.unrolled.+unrolled_program.Goals as goal

pub returns-in_default-clause-value : goal.returns-in_default-clause-value
returns-in_default-clause-value t c = sym (nothing_unrolled c.args.model.now.parts c.args.depth c.args.program c.in_default.is)

pub loop-done-init : goal.loop-done-init
loop-done-init t c =
    let p = c.args.model.now.parts in
    let s = sorted p c.args.model.now.well_sorted in
    let at = c.args.at in
    let d = c.args.depth in
    let i = c.in-Some.id in
    let x = c.index-child.result.now in
    let linked = subst (IsLinked p.children.items at) c.in-Some.is c.requires.linked in
    let sc = sorted_child p s at i.0 d x c.requires.depth linked.0 linked.1 c.index-child.ensures in
    record {
      value = most_start p (suc d) x.instructions.items;
      bound = one_most (3 - suc d);
    }

pub unrolled_program-inner-requires : goal.unrolled_program-inner-requires
unrolled_program-inner-requires t c =
    let p = c.args.model.now.parts in
    let s = sorted p c.args.model.now.well_sorted in
    let at = c.args.at in
    let d = c.args.depth in
    let i = c.in-Some.id in
    let x = c.index-child.result.now in
    let linked = subst (IsLinked p.children.items at) c.in-Some.is c.requires.linked in
    let sc = sorted_child p s at i.0 d x c.requires.depth linked.0 linked.1 c.index-child.ensures in
    let is = x.instructions.items in
    let e = c.index-instruction.result.now in
    let k = c.len.result - 1 - c.loop-done.done in
    let within : k < length is = omega (arith, c.loop-done-test.true, c.len-done-end.ensures, c.len.ensures) in
    let are = (and_parts (is_condition p (Some i.0) x.valid.0) _ sc.machine).1 in
    let srt = subst (IsSorted p (Some i.0)) (sym c.index-instruction.ensures) (sorted_at p (Some i.0) 0 is k e are within) in
    let smaller : 4 - (d + 1) < t = omega (arith, c.decreases, sc.low) in
    let low : d + 1 ≤ 3 = omega (arith, sc.low) in
    (smaller, (subst (λ m. HasDepth p.children.items m (Some i.0)) (sym (add-one d)) sc.inside.deep, (low, srt.linked)))

pub overflow_add-depth : goal.overflow_add-depth
overflow_add-depth t c =
    let p = c.args.model.now.parts in
    let s = sorted p c.args.model.now.well_sorted in
    let at = c.args.at in
    let d = c.args.depth in
    let i = c.in-Some.id in
    let x = c.index-child.result.now in
    let linked = subst (IsLinked p.children.items at) c.in-Some.is c.requires.linked in
    let sc = sorted_child p s at i.0 d x c.requires.depth linked.0 linked.1 c.index-child.ensures in
    let low = sc.low in
    omega arith

pub loop-done-preserved : goal.loop-done-preserved
loop-done-preserved t c =
    let p = c.args.model.now.parts in
    let s = sorted p c.args.model.now.well_sorted in
    let at = c.args.at in
    let d = c.args.depth in
    let i = c.in-Some.id in
    let x = c.index-child.result.now in
    let linked = subst (IsLinked p.children.items at) c.in-Some.is c.requires.linked in
    let sc = sorted_child p s at i.0 d x c.requires.depth linked.0 linked.1 c.index-child.ensures in
    let is = x.instructions.items in
    let e = c.index-instruction.result.now in
    let l = c.loop-done in
    let k = c.len.result - 1 - l.done in
    let there : k ≡ length is - 1 - l.done = omega (arith, c.len.ensures) in
    let z : l.done < length is = omega (arith, c.loop-done-test.true, c.len-done-end.ensures) in
    let inner = c.unrolled_program-inner.result in
    let is_inner = subst (λ m. inner ≡ unrolled_child (program_in p m e.child)) (add-one d) c.unrolled_program-inner.ensures.value in
    let low = subst (λ m. inner ≤ most_at (3 - m)) (add-one d) c.unrolled_program-inner.ensures.bound in
    record {
      value = most_turn p (suc d) k l.done is e l.most inner c.max-most.result there z c.index-instruction.ensures l.invariant.value is_inner c.max-most.ensures;
      bound = subst (λ m. m ≤ most_at (3 - suc d)) (sym c.max-most.ensures) (max_below inner l.most (most_at (3 - suc d)) low l.invariant.bound);
    }

pub overflow_mul-result : goal.overflow_mul-result
overflow_mul-result t c =
    let p = c.args.model.now.parts in
    let s = sorted p c.args.model.now.well_sorted in
    let at = c.args.at in
    let d = c.args.depth in
    let i = c.in-Some.id in
    let x = c.index-child.result.now in
    let linked = subst (IsLinked p.children.items at) c.in-Some.is c.requires.linked in
    let sc = sorted_child p s at i.0 d x c.requires.depth linked.0 linked.1 c.index-child.ensures in
    let product = product_below d x.steps c.loop-done.most sc.low (child_limit p s i.0 x linked.0 c.index-child.ensures) c.loop-done.invariant.bound in
    let small = most_small (3 - d) (omega arith) in
    omega (arith, product, small)

pub returns-clause-value : goal.returns-clause-value
returns-clause-value t c =
    let p = c.args.model.now.parts in
    let s = sorted p c.args.model.now.well_sorted in
    let at = c.args.at in
    let d = c.args.depth in
    let i = c.in-Some.id in
    let x = c.index-child.result.now in
    let linked = subst (IsLinked p.children.items at) c.in-Some.is c.requires.linked in
    let sc = sorted_child p s at i.0 d x c.requires.depth linked.0 linked.1 c.index-child.ensures in
    let steps : length x.instructions.items ≤ c.loop-done.done = omega (arith, c.loop-done-test.false, c.len-done-end.ensures) in
    most_end p i d c.loop-done.done x c.args.program c.loop-done.most c.in-Some.is sc steps c.loop-done.invariant.value

pub returns-clause-bound : goal.returns-clause-bound
returns-clause-bound t c =
    let p = c.args.model.now.parts in
    let s = sorted p c.args.model.now.well_sorted in
    let at = c.args.at in
    let d = c.args.depth in
    let i = c.in-Some.id in
    let x = c.index-child.result.now in
    let linked = subst (IsLinked p.children.items at) c.in-Some.is c.requires.linked in
    let sc = sorted_child p s at i.0 d x c.requires.depth linked.0 linked.1 c.index-child.ensures in
    product_below d x.steps c.loop-done.most sc.low (child_limit p s i.0 x linked.0 c.index-child.ensures) c.loop-done.invariant.bound
