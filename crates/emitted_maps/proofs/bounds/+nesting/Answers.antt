use Rattle.std.proofs.Common.{◌-◌, ◌≤◌, sym, ap, ◌∙◌, subst, arith, List}
use Rattle.emitted_designs.specs.Bounds.{nesting_of_child, nesting_among}
use Rattle.ila_model.specs.declared.parts.Instruction.{Instruction}
use Rattle.emitted_maps.specs.Programs.{instructions_within}
use Rattle.emitted_maps.proofs.Children.{nesting_start, nesting_turn, nesting_end, max_below, one_deeper}
use Rattle.emitted_maps.proofs.bounds.+nesting.Goals as goal

pub nesting_of_child-nesting_among-inner-requires : goal.nesting_of_child-nesting_among-inner-requires
nesting_of_child-nesting_among-inner-requires t c = (omega (arith, c.decreases, c.in-Some.ensures.level), tt)

pub nesting_of_child-returns-in-Some-clause-value : goal.nesting_of_child-returns-in-Some-clause-value
nesting_of_child-returns-in-Some-clause-value t c =
    let p = c.args.model.now.parts in
    one_deeper c.nesting_among-inner.result _
    (c.nesting_among-inner.ensures.value ∙ ap (λ (is : List Instruction). nesting_among (instructions_within p (c.args.levels - 1) is)) c.deref.ensures.value)
    ∙ sym (ap nesting_of_child c.in-Some.ensures.is_program)

pub nesting_of_child-returns-in-Some-clause-within : goal.nesting_of_child-returns-in-Some-clause-within
nesting_of_child-returns-in-Some-clause-within t c = omega (arith, c.in-Some.ensures.level, c.nesting_among-inner.ensures.within)

pub nesting_of_child-returns-in-None-clause-value : goal.nesting_of_child-returns-in-None-clause-value
nesting_of_child-returns-in-None-clause-value t c = sym (ap nesting_of_child c.in-None.ensures)

pub nesting_among-loop-instruction-init : goal.nesting_among-loop-instruction-init
nesting_among-loop-instruction-init t c = record {
  value = nesting_start c.args.model.now.parts c.args.levels c.args.instructions.now;
  within = omega arith;
}

pub nesting_among-loop-instruction-preserved : goal.nesting_among-loop-instruction-preserved
nesting_among-loop-instruction-preserved t c =
    let l = c.loop-instruction in
    let new = c.max-deepest.ensures in
    record {
      value =
          nesting_turn c.args.model.now.parts c.args.levels l.instruction-index c.args.instructions.now c.instruction-item.result l.deepest c.nesting_of_child-depth.result
          c.max-deepest.result c.loop-instruction-test.true c.instruction-item.is c.nesting_of_child-depth.ensures.value new
          ∙ l.invariant.value;
      within = subst (λ m. m ≤ c.args.levels) (sym new) (max_below _ _ c.args.levels c.nesting_of_child-depth.ensures.within l.invariant.within);
    }

pub nesting_among-returns-clause-value : goal.nesting_among-returns-clause-value
nesting_among-returns-clause-value t c =
    let l = c.loop-instruction in
    nesting_end c.args.model.now.parts c.args.levels l.instruction-index c.args.instructions.now l.deepest (omega (arith, c.loop-instruction-test.false)) l.invariant.value
