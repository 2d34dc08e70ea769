use Rattle.std.proofs.Common.{◌++◌, sym, ap, ◌∙◌, arith, append-nil}
use Rattle.std.specs.String.{string_bytes}
use Rattle.ila_model.specs.declared.parts.Instruction.{Instruction}
use Rattle.ila_model.specs.Meaning.{program_of}
use Rattle.ila_model.specs.Scope.{nesting}
use Rattle.ila_sim.proofs.Declared.{name_there, name_nowhere}
use Rattle.ila_sim.proofs.text.append_name.Goals as goal

pub returns-in_ok-extend_from_slice : goal.returns-in_ok-extend_from_slice
returns-in_ok-extend_from_slice c =
    let p = c.args.model.now.parts in
    let there = name_there p.terms (program_of p.terms p.children.items nesting) p.instructions.items c.args.place c.index.result.now (omega (arith, c.if-place-len.true, c.len.ensures)) in
    c.in_ok-extend_from_slice.ensures.items
    ∙ ap (λ t. c.args.out.now.items ++ t) (c.as_bytes.ensures.value ∙ (ap (λ (i : Instruction). string_bytes i.name) c.index.ensures ∙ sym there))

pub returns-else-place-len : goal.returns-else-place-len
returns-else-place-len c =
    let p = c.args.model.now.parts in
    let nowhere = name_nowhere p.terms (program_of p.terms p.children.items nesting) p.instructions.items c.args.place (omega (arith, c.if-place-len.false, c.len.ensures)) in
    sym (ap (λ t. c.args.out.now.items ++ t) nowhere ∙ append-nil c.args.out.now.items)
