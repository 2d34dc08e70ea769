use Rattle.std.proofs.Common.{◌∙◌, ap}
use Rattle.std.specs.Prelude.{map}
use Rattle.v_syntax.specs.Source.{item_of}
use Rattle.v_value.specs.Scope.{scope_at}
use Rattle.v_flow.specs.Spans.{bits_in}
use Rattle.v_masks.specs.Masks.{masked, spread}
use Rattle.map_inputs.specs.Bits.{input_bits}
use Rattle.map_inputs.proofs.InputBits.{inputs-free, table-free, by-table}
use Rattle.map_inputs.proofs.inputs.comes_from_inputs.Goals as goal

pub mark_dependents-requires-clause-fit : goal.mark_dependents-requires-clause-fit
mark_dependents-requires-clause-fit c = c.requires.fit

pub mark_dependents-requires-clause-variables : goal.mark_dependents-requires-clause-variables
mark_dependents-requires-clause-variables c =
    let s = scope_at c.args.scope.now in
    let names = map (λ n. n.now) c.args.inputs.now in
    table-free s (input_bits s names) (masked c.in_ok-marked.marked)
    (c.in_ok-marked.ensures ∙ ap spread (ap bits_in c.deref.ensures.value ∙ c.in_ok-spans.ensures)) (inputs-free s names)

pub returns : goal.returns
returns c =
    let s = scope_at c.args.scope.now in
    let names = map (λ n. n.now) c.args.inputs.now in
    by-table s (map item_of c.args.items.now) (input_bits s names) (masked c.in_ok-marked.marked)
    (c.in_ok-marked.ensures ∙ ap spread (ap bits_in c.deref.ensures.value ∙ c.in_ok-spans.ensures)) (inputs-free s names)
    (masked c.mark_dependents.new.marked) c.in_ok-mark_dependents.ensures
