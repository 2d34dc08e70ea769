use Rattle.std.proofs.Common.{◌∙◌, ap, map}
use Rattle.wb_values.specs.Choice.{some_if}
use Rattle.ila_sim.specs.Names.{settable_of}
use Rattle.ila_sim.specs.Sets.{set_at, key_of, are_distinct_numbers}
use Rattle.ila_sim.proofs.Apart.{distinct_found}
use Rattle.ila_sim.proofs.sets.sets_in.Goals as goal

pub returns-then-not-branch-clause-sets : goal.returns-then-not-branch-clause-sets
returns-then-not-branch-clause-sets c =
    distinct_found c.args.index.now.settables.now c.in_ok-sets.sets.items _ c.in_ok-are_distinct.field-0 c.in_ok-sets.ensures.sets
    (c.in_ok-are_distinct.ensures ∙ ap (λ s. are_distinct_numbers (map key_of s)) c.deref.ensures.value) c.args.index.now.apart c.in_ok-sets.ensures.right
    ∙ ap (λ t. some_if t (map (set_at (map settable_of c.args.index.now.settables.now)) c.in_ok-sets.sets.items)) c.if-not-branch.true

pub returns-clause-sets : goal.returns-clause-sets
returns-clause-sets c =
    distinct_found c.args.index.now.settables.now c.in_ok-sets.sets.items _ c.in_ok-are_distinct.field-0 c.in_ok-sets.ensures.sets
    (c.in_ok-are_distinct.ensures ∙ ap (λ s. are_distinct_numbers (map key_of s)) c.deref.ensures.value) c.args.index.now.apart c.in_ok-sets.ensures.right
    ∙ ap (λ t. some_if t (map (set_at (map settable_of c.args.index.now.settables.now)) c.in_ok-sets.sets.items)) c.if-not-branch.false
