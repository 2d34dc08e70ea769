use Rattle.std.proofs.Common.{List, ap, ◌∙◌}
use Rattle.emitted_designs.specs.Bounds.{nesting_among}
use Rattle.ila_model.specs.declared.parts.Instruction.{Instruction}
use Rattle.ila_model.specs.Scope.{nesting}
use Rattle.emitted_maps.specs.Programs.{instructions_within}
use Rattle.emitted_maps.proofs.bounds.nesting_of.Goals as goal

pub returns : goal.returns
unfolding nesting
returns c =
    c.nesting_among.ensures.value ∙ ap (λ (is : List Instruction). nesting_among (instructions_within c.args.model.now.parts 3 is)) c.deref.ensures.value
