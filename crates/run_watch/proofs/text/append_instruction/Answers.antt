use Rattle.std.proofs.Common.{◌∙◌, ◌++◌, sym, ap, arith, append-nil}
use Rattle.std.specs.String.{string_bytes}
use Rattle.ila_model.specs.declared.parts.Instruction.{Instruction}
use Rattle.ila_model.specs.Meaning.{program_of}
use Rattle.ila_model.specs.Scope.{nesting}
use Rattle.run_watch.proofs.Telling.{name_there, name_nowhere}
use Rattle.run_watch.proofs.text.append_instruction.Goals as goal

pub returns-in_ok-push_str : goal.returns-in_ok-push_str
returns-in_ok-push_str c =
    let p = c.args.model.now.parts in
    let there = name_there p.terms (program_of p.terms p.children.items nesting) p.instructions.items c.args.place c.index.result.now (omega (arith, c.if-place-len.true, c.len.ensures)) in
    c.in_ok-push_str.ensures.bytes
    ∙ ap (λ t. string_bytes c.args.text.now ++ t) (c.as_str.ensures.value ∙ (ap (λ (i : Instruction). string_bytes i.name) c.index.ensures ∙ sym there))

pub returns-else-place-len : goal.returns-else-place-len
returns-else-place-len c =
    let p = c.args.model.now.parts in
    let nowhere = name_nowhere p.terms (program_of p.terms p.children.items nesting) p.instructions.items c.args.place (omega (arith, c.if-place-len.false, c.len.ensures)) in
    sym (ap (λ t. string_bytes c.args.text.now ++ t) nowhere ∙ append-nil (string_bytes c.args.text.now))
