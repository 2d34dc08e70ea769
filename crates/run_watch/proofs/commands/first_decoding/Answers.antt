use Rattle.std.proofs.Common.{◌≡◌, ◌∙◌, ◌+◌, ◌<◌, inl, inr, sym, subst, arith}
use Rattle.std.proofs.lemmas.Bool.{cases_eq, false≢true}
use Rattle.model_meaning.specs.Instruction.{IsInstruction, DecodesAt}
use Rattle.ila_model.specs.Model.{model_of}
use Rattle.ila_child.specs.State.{state_valuation, input_valuation}
use Rattle.ila_model.specs.Scope.{nesting}
use Rattle.ila_model.specs.Meaning.{program_of}
use Rattle.run_watch.proofs.Lists.{some_same}
use Rattle.run_watch.proofs.Starting.{instruction_there}
use Rattle.run_watch.proofs.commands.first_decoding.Goals as goal

pub returns : goal.returns
returns c k i at decodes =
    let p = c.args.model.now.parts in
    let there = instruction_there p.terms (program_of p.terms p.children.items nesting) p.instructions.items k i at in
    c.loop-k.invariant k i (omega (arith, there, c.loop-k-test.false, c.len-k-end.ensures)) at decodes

pub loop-k-preserved : goal.loop-k-preserved
loop-k-preserved c j i less at decodes =
    let m = model_of c.args.model.now in
    let k = c.loop-k.k in
    let e = c.in_ok-applied.ensures in
    elim (cases_eq j k) [
      | inl q ↦
          let same = some_same (sym e.is_j ∙ subst (λ n. IsInstruction m n i) q at) in
          false≢true (sym c.if-applied.false ∙ e.decodes ∙ subst (DecodesAt m (state_valuation m c.args.state.now) (input_valuation m c.args.inputs.now)) (sym same) decodes)
      | inr q ↦ c.loop-k.invariant j i (omega (arith, less, q)) at decodes
    ]
