use Rattle.std.proofs.Common.{◌≡◌, ◌∙◌, ◌-◌, ◌<◌, ◌≤◌, List, Some, None, length, get_or, true, refl, sym, ap, subst, arith}
use Rattle.std.proofs.lemmas.Bool.{and_parts}
use Rattle.model_results.specs.Results.{unrolled_child}
use Rattle.ila_model.specs.declared.parts.Instruction.{Instruction}
use Rattle.ila_model.specs.Scope.{nesting}
use Rattle.ila_model.specs.Sorted.{is_condition}
use Rattle.ila_model.specs.Meaning.{program_of}
use Rattle.ila_model.proofs.Declarations.{sorted}
use Rattle.ila_child.specs.Running.{program_in}
use Rattle.ila_child.proofs.Machines.{IsSorted, sorted_at}
use Rattle.model_terms.proofs.Telling.{top_level}
use Rattle.model_terms.proofs.Counting.{unrolled_at, count_at}
use Rattle.model_terms.proofs.unrolled.unrolled_steps.Goals as goal

pub index-instruction-requires : goal.index-instruction-requires
index-instruction-requires c =
    let p = c.args.model.now.parts in
    let s = sorted p c.args.model.now.well_sorted in
    let is = p.instructions.items in
    let inner = program_of p.terms p.children.items nesting in
    let within : c.args.number < length is = omega (arith, c.requires, count_at p.terms inner is) in
    omega (arith, within)

pub unrolled_program-requires-clause-linked : goal.unrolled_program-requires-clause-linked
unrolled_program-requires-clause-linked c =
    let p = c.args.model.now.parts in
    let s = sorted p c.args.model.now.well_sorted in
    let is = p.instructions.items in
    let inner = program_of p.terms p.children.items nesting in
    let within : c.args.number < length is = omega (arith, c.requires, count_at p.terms inner is) in
    let e = c.index-instruction.result.now in
    let are = (and_parts (is_condition p None p.valid.0) _ s.top).1 in
    (subst (IsSorted p None) (sym c.index-instruction.ensures) (sorted_at p None 0 is c.args.number e are within)).linked

pub returns : goal.returns
returns c =
    let p = c.args.model.now.parts in
    let s = sorted p c.args.model.now.well_sorted in
    let is = p.instructions.items in
    let inner = program_of p.terms p.children.items nesting in
    let within : c.args.number < length is = omega (arith, c.requires, count_at p.terms inner is) in
    let e = c.index-instruction.result.now in
    unrolled_at p.terms inner is c.args.number e within
    ∙ ap (λ (x : Instruction). Some (unrolled_child (inner x.child))) (sym c.index-instruction.ensures)
    ∙ ap (λ m. Some m) (sym (c.unrolled_program.ensures.value ∙ ap unrolled_child (top_level p e.child)))
