use Rattle.std.proofs.Common.{◌<◌, Some, length, ap, sym, ◌∙◌, arith}
use Rattle.ila_model.specs.Scope.{nesting}
use Rattle.emitted_maps.specs.Programs.{program_within}
use Rattle.emitted_maps.proofs.Children.{bound_at, count_at}
use Rattle.emitted_maps.proofs.bounds.instruction_bound.Goals as goal

pub index-requires : goal.index-requires
index-requires c =
    let p = c.args.model.now.parts in
    let many = count_at p.terms (program_within p nesting) p.instructions.items in
    omega (arith, c.requires, many, p.instructions.ok.0)

pub returns : goal.returns
returns c =
    let p = c.args.model.now.parts in
    let many = count_at p.terms (program_within p nesting) p.instructions.items in
    let inside : c.args.place < length p.instructions.items = omega (arith, c.requires, many) in
    bound_at p.terms (program_within p nesting) p.instructions.items c.args.place c.index.result.now inside c.index.ensures ∙ ap (λ b. Some b) (sym c.bound_of.ensures)
