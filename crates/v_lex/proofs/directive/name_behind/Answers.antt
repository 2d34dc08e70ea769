use Rattle.std.proofs.Common.{sym, ◌∙◌}
use Rattle.v_lex.proofs.Texts.{named_there}
use Rattle.v_lex.proofs.directive.name_behind.Goals as goal

pub returns-then-begins_with_letter : goal.returns-then-begins_with_letter
returns-then-begins_with_letter c =
    named_there c.args.text.now c.split_run.result.1.now _ _ c.split_run.ensures.rest (sym c.begins_with_letter.ensures ∙ c.if-begins_with_letter.true)
    c.split_run-then-begins_with_letter.ensures.run c.split_run-then-begins_with_letter.ensures.rest
