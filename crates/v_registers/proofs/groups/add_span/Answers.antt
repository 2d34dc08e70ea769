use Rattle.std.proofs.Common.{◌∙◌, ◌++◌, ◌∷◌, [], ap}
use Rattle.v_registers.proofs.ByNames.{span_added}
use Rattle.v_registers.proofs.groups.add_span.Goals as goal

pub returns : goal.returns
returns c =
    span_added c.args.table.now c.taken-spans.new.table c.insert.new.self c.args.span c.push.new.self
    (c.in_ok-push.ensures.items ∙ ap (λ xs. xs ++ c.args.span ∷ []) c.taken-spans.ensures.spans) c.taken-spans.ensures.others c.in_ok-insert.ensures.updates
