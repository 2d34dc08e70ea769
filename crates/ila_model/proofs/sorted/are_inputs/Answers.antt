use Rattle.std.proofs.Common.{◌∙◌, sym, ap, arith, ◌&&◌, ◌+◌, ◌-◌, drop}
use Rattle.std.proofs.lemmas.Bool.{and_left}
use Rattle.std.proofs.lemmas.List.{length-drop}
use Rattle.ila_model.specs.Sorted.{is_input_sort, are_inputs}
use Rattle.ila_model.proofs.Declarations.{are_inputs-short, are_inputs-turn}
use Rattle.ila_model.proofs.sorted.are_inputs.Goals as goal

pub returns-then-saturating_sub-count : goal.returns-then-saturating_sub-count
returns-then-saturating_sub-count c =
    sym (are_inputs-short c.args.count (drop c.args.first c.args.terms.now.names) (omega (arith, length-drop c.args.first c.args.terms.now.names)))

pub returns-then-not-is_input_sort : goal.returns-then-not-is_input_sort
returns-then-not-is_input_sort c =
    let ns = c.args.terms.now.names in
    let at = ap is_input_sort (sym c.name_sort.ensures.sort) ∙ sym c.is_input_sort.ensures ∙ c.if-not-is_input_sort.true in
    sym (c.loop-place.invariant ∙ are_inputs-turn ns c.loop-place.place (c.args.first + c.args.count) (omega arith) (omega arith) ∙ and_left _ _ at)

pub loop-place-preserved : goal.loop-place-preserved
loop-place-preserved c =
    let ns = c.args.terms.now.names in
    let k = c.loop-place.place in
    let end = c.args.first + c.args.count in
    let at = ap is_input_sort (sym c.name_sort.ensures.sort) ∙ sym c.is_input_sort.ensures ∙ c.if-not-is_input_sort.false in
    c.loop-place.invariant ∙ are_inputs-turn ns k end (omega arith) (omega arith)
    ∙ ap (λ b. b && are_inputs (end - (k + 1)) (drop (k + 1) ns)) at
