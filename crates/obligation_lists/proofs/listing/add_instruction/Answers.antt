use Rattle.std.proofs.Common.{◌++◌, ◌∷◌, string_bytes, ap}
use Rattle.model_meaning.specs.Model.{child_program}
use Rattle.refinement.specs.Obligation.{for_each, child_obligations, bound_obligation, commit_obligations}
use Rattle.ila_model.specs.Model.{model_of}
use Rattle.obligation_lists.specs.Parts.{top_instruction}
use Rattle.obligation_lists.proofs.Growing.{next, read_as}
use Rattle.obligation_lists.proofs.listing.add_instruction.Goals as goal

pub returns : goal.returns
returns c =
    let m = model_of c.args.model.now in
    let i = c.args.instruction.now in
    let j = c.args.place in
    let counts = c.args.counts in
    read_as m counts _ _ _ _
    (next m counts _ _ _ _ _ (c.in_ok-add_child.ensures counts)
    (next m counts _ _ _ _ _ (c.in_ok-add_bound.ensures m counts c.requires.there) c.in_ok-add_commits.ensures))
    (λ p h. ap (λ n. child_obligations p j (string_bytes i.name) (child_program (top_instruction c.args.model.now i))
    ++ bound_obligation p j n c.args.bound ∷ for_each (commit_obligations m p j n) 0 c.args.bound) c.as_str-name.ensures.value)
