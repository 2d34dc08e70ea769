use Rattle.std.proofs.Common.{◌+◌, ◌-◌, ◌*◌, ◌≤◌, sym, ap, ◌∙◌, subst, arith, List}
use Rattle.emitted_designs.specs.Bounds.{child_bound, bound_among}
use Rattle.ila_model.specs.declared.parts.Instruction.{Instruction}
use Rattle.emitted_maps.specs.Programs.{instructions_within, most_within}
use Rattle.emitted_maps.proofs.Children.{bound_start, bound_turn, bound_end, most_small, one_most, product_limit, max_below}
use Rattle.emitted_maps.proofs.bounds.+bound.Goals as goal

pub child_bound-bound_among-greatest-requires : goal.child_bound-bound_among-greatest-requires
child_bound-bound_among-greatest-requires t c = (omega (arith, c.decreases, c.in-Some.ensures.level), omega (arith, c.requires))

pub child_bound-overflow_mul-result : goal.child_bound-overflow_mul-result
child_bound-overflow_mul-result t c =
    let total = product_limit c.args.model.now.parts c.args.levels c.args.child c.in-Some.program.now c.bound_among-greatest.result c.in-Some.ensures c.bound_among-greatest.ensures.within in
    let small = most_small c.args.levels c.requires in
    omega (arith, total, small)

pub child_bound-overflow_add-result : goal.child_bound-overflow_add-result
child_bound-overflow_add-result t c =
    let total = product_limit c.args.model.now.parts c.args.levels c.args.child c.in-Some.program.now c.bound_among-greatest.result c.in-Some.ensures c.bound_among-greatest.ensures.within in
    let small = most_small c.args.levels c.requires in
    omega (arith, total, small)

pub child_bound-returns-in-Some-clause-value : goal.child_bound-returns-in-Some-clause-value
child_bound-returns-in-Some-clause-value t c =
    let x = c.in-Some.program.now in
    let p = c.args.model.now.parts in
    ap (λ g. 2 + x.steps * g)
    (c.bound_among-greatest.ensures.value ∙ ap (λ (is : List Instruction). bound_among (instructions_within p (c.args.levels - 1) is)) c.deref.ensures.value)
    ∙ sym (ap child_bound c.in-Some.ensures.is_program)

pub child_bound-returns-in-Some-clause-within : goal.child_bound-returns-in-Some-clause-within
child_bound-returns-in-Some-clause-within t c =
    product_limit c.args.model.now.parts c.args.levels c.args.child c.in-Some.program.now c.bound_among-greatest.result c.in-Some.ensures c.bound_among-greatest.ensures.within

pub child_bound-returns-in-None-clause-value : goal.child_bound-returns-in-None-clause-value
child_bound-returns-in-None-clause-value t c = sym (ap child_bound c.in-None.ensures)

pub child_bound-returns-in-None-clause-within : goal.child_bound-returns-in-None-clause-within
child_bound-returns-in-None-clause-within t c = one_most c.args.levels

pub bound_among-child_bound-bound-requires : goal.bound_among-child_bound-bound-requires
bound_among-child_bound-bound-requires t c = (omega (arith, c.decreases), c.requires)

pub bound_among-loop-instruction-init : goal.bound_among-loop-instruction-init
bound_among-loop-instruction-init t c = record {
  value = bound_start c.args.model.now.parts c.args.levels c.args.instructions.now;
  some = omega arith;
  within = one_most c.args.levels;
}

pub bound_among-loop-instruction-preserved : goal.bound_among-loop-instruction-preserved
bound_among-loop-instruction-preserved t c =
    let l = c.loop-instruction in
    let new = c.max-greatest.ensures in
    record {
      value =
          bound_turn c.args.model.now.parts c.args.levels l.instruction-index c.args.instructions.now c.instruction-item.result l.greatest c.child_bound-bound.result
          c.max-greatest.result c.loop-instruction-test.true c.instruction-item.is c.child_bound-bound.ensures.value new
          ∙ l.invariant.value;
      some = omega (arith, new, l.invariant.some);
      within = subst (λ m. m ≤ most_within c.args.levels) (sym new) (max_below _ _ (most_within c.args.levels) c.child_bound-bound.ensures.within l.invariant.within);
    }

pub bound_among-returns-clause-value : goal.bound_among-returns-clause-value
bound_among-returns-clause-value t c =
    let l = c.loop-instruction in
    bound_end c.args.model.now.parts c.args.levels l.instruction-index c.args.instructions.now l.greatest (omega (arith, c.loop-instruction-test.false)) l.invariant.some
    l.invariant.value
