use Rattle.std.proofs.Common.{◌<◌, ◌≤◌, ◌++◌, length, take, sym, ap, subst, ◌∙◌, arith}
use Rattle.std.proofs.lemmas.List.{take_all}
use Rattle.model_meaning.specs.Model.{instruction_name, instructions_in}
use Rattle.refinement.specs.Obligation.{bound_named, instruction_obligations, all_instruction_obligations}
use Rattle.ila_model.specs.Scope.{nesting}
use Rattle.ila_model.specs.Sorted.{IsChildBelow}
use Rattle.ila_model.specs.Meaning.{instruction_of, program_of}
use Rattle.ila_model.specs.Model.{model_of}
use Rattle.obligation_lists.proofs.Growing.{next, read_as, at_next}
use Rattle.obligation_lists.proofs.Instructions.{linked_at, same_length, same_there, all_more, bound_at, with_bound}
use Rattle.obligation_lists.proofs.listing.add_instructions.Goals as goal

pub add_instruction-requires-clause-linked : goal.add_instruction-requires-clause-linked
add_instruction-requires-clause-linked c =
    let parts = c.args.model.now.parts in
    let here : c.loop-place.place < length parts.instructions.items = omega (arith, c.loop-place-test.true, c.len-place-end.ensures) in
    subst (λ i. IsChildBelow (length parts.children.items) i.child) (sym c.index-instruction.ensures)
    (linked_at parts c.loop-place.place c.index-instruction.result.now c.args.model.now.well_sorted here)

pub bound_of-bound-requires : goal.bound_of-bound-requires
bound_of-bound-requires c =
    let parts = c.args.model.now.parts in
    omega (arith, c.loop-place-test.true, c.len-place-end.ensures, c.requires, same_length parts.terms (program_of parts.terms parts.children.items nesting) parts.instructions.items)

pub add_instruction-requires-clause-there : goal.add_instruction-requires-clause-there
add_instruction-requires-clause-there c =
    let parts = c.args.model.now.parts in
    omega (arith, c.loop-place-test.true, c.len-place-end.ensures, same_length parts.terms (program_of parts.terms parts.children.items nesting) parts.instructions.items)

pub loop-place-preserved : goal.loop-place-preserved
loop-place-preserved c =
    let m = model_of c.args.model.now in
    let parts = c.args.model.now.parts in
    let counts = c.args.counts in
    let inner = program_of parts.terms parts.children.items nesting in
    let is = instructions_in m.top in
    let k = c.loop-place.place in
    let there : k < length parts.instructions.items = omega (arith, c.loop-place-test.true, c.len-place-end.ensures) in
    let here : k < length is = omega (arith, there, same_length parts.terms inner parts.instructions.items) in
    let r = at_next is k here in
    let same = same_there parts.terms inner parts.instructions.items k c.index-instruction.result.now r.0 there c.index-instruction.ensures r.1 in
    read_as m counts _ _ _ _ (next m counts _ _ _ _ _ c.loop-place.invariant c.in_ok-add_instruction.ensures)
    (λ p h. ap (λ os. all_instruction_obligations m p 0 (take k is) ++ os)
    (with_bound m p k c.bound_of-bound.result (instruction_of parts.terms inner c.index-instruction.result.now) (bound_at p is c.args.counts.bounds.now k c.bound_of-bound.result 0 r.0 h.bounds here r.1 c.bound_of-bound.ensures ∙ ap (λ i. bound_named p (instruction_name i)) (sym same)) ∙ ap (instruction_obligations m p k) same)
    ∙ all_more m p is k r.0 here r.2)

pub returns : goal.returns
returns c =
    let m = model_of c.args.model.now in
    let parts = c.args.model.now.parts in
    let is = instructions_in m.top in
    let end : length is ≤ c.loop-place.place = omega (arith, c.loop-place-test.false, c.len-place-end.ensures, same_length parts.terms (program_of parts.terms parts.children.items nesting) parts.instructions.items) in
    read_as m c.args.counts _ _ _ _ c.loop-place.invariant
    (λ p h. ap (all_instruction_obligations m p 0) (take_all c.loop-place.place is end))
