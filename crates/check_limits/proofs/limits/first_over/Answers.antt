use Rattle.std.proofs.Common.{arith}
use Rattle.model_meaning.specs.Model.{instructions_in}
use Rattle.ila_model.specs.Scope.{nesting}
use Rattle.ila_model.specs.Meaning.{program_of}
use Rattle.ila_model.specs.Model.{model_of}
use Rattle.check_limits.proofs.Summing.{instructions_counted, one_within, first_found, none_over}
use Rattle.check_limits.proofs.limits.first_over.Goals as goal

pub loop-number-init : goal.loop-number-init
loop-number-init c = λ k i b. absurd (omega (arith, b))

pub unrolled_steps-steps-requires : goal.unrolled_steps-steps-requires
unrolled_steps-steps-requires c =
    let p = c.args.model.now.parts in
    omega (arith, c.loop-number-test.true, c.len-number-end.ensures, p.instructions.ok, instructions_counted p.terms (program_of p.terms p.children.items nesting) p.instructions.items)

pub returns-then-steps-gt-MOST_UNROLLED_STEPS : goal.returns-then-steps-gt-MOST_UNROLLED_STEPS
returns-then-steps-gt-MOST_UNROLLED_STEPS c =
    let p = c.args.model.now.parts in
    first_found (instructions_in (model_of c.args.model.now).top) c.loop-number.number c.unrolled_steps-steps.result
    (omega (arith, c.loop-number-test.true, c.len-number-end.ensures, p.instructions.ok, instructions_counted p.terms (program_of p.terms p.children.items nesting) p.instructions.items))
    c.unrolled_steps-steps.ensures c.if-steps-gt-MOST_UNROLLED_STEPS.true c.loop-number.invariant

pub loop-number-preserved : goal.loop-number-preserved
loop-number-preserved c =
    one_within (instructions_in (model_of c.args.model.now).top) c.loop-number.number c.unrolled_steps-steps.result c.unrolled_steps-steps.ensures c.if-steps-gt-MOST_UNROLLED_STEPS.false c.loop-number.invariant

pub returns : goal.returns
returns c =
    let p = c.args.model.now.parts in
    none_over (instructions_in (model_of c.args.model.now).top) c.loop-number.number
    (omega (arith, c.loop-number-test.false, c.len-number-end.ensures, p.instructions.ok, instructions_counted p.terms (program_of p.terms p.children.items nesting) p.instructions.items)) c.loop-number.invariant
