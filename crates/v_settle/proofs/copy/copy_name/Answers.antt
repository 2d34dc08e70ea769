use Rattle.std.proofs.Common.{◌∙◌, ap, sym, is_some}
use Rattle.std.specs.Prelude.{option_map}
use Rattle.std.proofs.lemmas.Bool.{false≢true}
use Rattle.v_lower.specs.Table.{images_at}
use Rattle.v_settle.proofs.Copying.{name-within, name-kept, name-there}
use Rattle.v_settle.proofs.copy.copy_name.Goals as goal

pub returns-in_ok-insert-in-Some-clause-within : goal.returns-in_ok-insert-in-Some-clause-within
returns-in_ok-insert-in-Some-clause-within c =
    name-within (images_at c.args.table.now) (images_at c.args.copy.now) (images_at c.insert.new.self) c.args.name.now c.in-Some.id.0
    (sym c.term.ensures ∙ ap (option_map (λ k. k.0)) c.in-Some.is) c.in_ok-insert-in-Some.ensures

pub returns-in_ok-insert-in-Some-clause-kept : goal.returns-in_ok-insert-in-Some-clause-kept
returns-in_ok-insert-in-Some-clause-kept c =
    name-kept (images_at c.args.table.now) (images_at c.args.copy.now) (images_at c.insert.new.self) c.args.name.now c.in-Some.id.0
    (sym c.term.ensures ∙ ap (option_map (λ k. k.0)) c.in-Some.is) c.in_ok-insert-in-Some.ensures

pub returns-in_ok-insert-in-Some-clause-there : goal.returns-in_ok-insert-in-Some-clause-there
returns-in_ok-insert-in-Some-clause-there c =
    λ h. name-there (images_at c.args.table.now) (images_at c.args.copy.now) (images_at c.insert.new.self) c.args.name.now c.in-Some.id.0
    (sym c.term.ensures ∙ ap (option_map (λ k. k.0)) c.in-Some.is) c.in_ok-insert-in-Some.ensures

pub returns-in-None-clause-within : goal.returns-in-None-clause-within
returns-in-None-clause-within c = λ f. f

pub returns-in-None-clause-kept : goal.returns-in-None-clause-kept
returns-in-None-clause-kept c = λ n h. h

pub returns-in-None-clause-there : goal.returns-in-None-clause-there
returns-in-None-clause-there c =
    λ h. absurd (false≢true (sym (ap is_some (sym c.term.ensures ∙ ap (option_map (λ k. k.0)) c.in-None.is)) ∙ h))
