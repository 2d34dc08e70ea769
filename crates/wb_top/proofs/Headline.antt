-- From a check that ends well to the claim about every run.
use Rattle.std.proofs.Common.{◌≡◌, ◌≢◌, ◌∙◌, ℕ, List, ap, sym, subst, Some, None}
use Rattle.std.specs.declared.option.Option.{Option}
use Rattle.wb_values.specs.Value.{Name}
use Rattle.refinement.specs.Map.{Setting}
use Rattle.refinement.specs.Soundness.{EveryRunRefines}
use Rattle.check_limits.specs.Limits as limits
use Rattle.wb_top.specs.declared.status.Status.{Status}
use Rattle.wb_top.specs.declared.status.Status.TheVariants.{Done, WriteFault, Limit}
use Rattle.wb_top.specs.Words.{Command, check}
use Rattle.wb_top.specs.Files.{first_long}
use Rattle.wb_top.specs.Outcome.{Told, IsCheckedWithin, IsWithin, IsAnswer, IsCallOutcome, AskForCheck, Headline}

done_is_no_limit : ◌≡◌ {A = Status} Done Limit → ⊥
done_is_no_limit h = subst is_done h tt
  where
    is_done : Status → Type 0
    is_done Done = Unit {0}
    is_done _ = ⊥

same_command : (a b : Command) → ◌≡◌ {A = Option Command} (Some a) (Some b) → a ≡ b
same_command a b h = ap (λ o. value_or a o) h
  where
    value_or : Command → Option Command → Command
    value_or z None = z
    value_or z (Some w) = w

refines : (s : Setting) (limit : Option limits.Limit) (budget : ℕ) (text : Told) → IsCheckedWithin limit s budget Done text → EveryRunRefines s
refines s None budget text checked = checked.1
refines s (Some limit) budget text checked = absurd (done_is_no_limit checked.0)

pub headline_of : (held : Option (Name → Option (List ℕ))) (words : List Name) (text : Told) → IsCallOutcome held words Done text → AskForCheck words → Headline held words
headline_of held words text (c, is, contents, are, answer) (d, is_check, budget, verb) =
    within (first_long 0 contents) (subst (λ v. IsAnswer v contents Done text) (ap (λ e. e.verb) (same_command c d (sym is ∙ is_check)) ∙ verb) answer)
  where
    within : (o : Option ℕ) → IsWithin o (check budget) contents Done text → Headline held words
    within None (s, stand, checked) = (c, is, contents, are, s, stand, refines s checked.0 budget text checked.2)
    within (Some k) long = absurd (done_is_no_limit long.0)

done_is_no_fault : ◌≡◌ {A = Status} Done WriteFault → ⊥
done_is_no_fault h = subst is_done h tt
  where
    is_done : Status → Type 0
    is_done Done = Unit {0}
    is_done _ = ⊥

-- the same from what was answered, which is the outcome's status where the write did not fail
pub headline_at : (held : Option (Name → Option (List ℕ))) (words : List Name) (status answered : Status) (text : Told) → IsCallOutcome held words status text
    → (answered ≢ WriteFault → answered ≡ status) → AskForCheck words → answered ≡ Done → Headline held words
headline_at held words status answered text outcome same asks done =
    let no_fault : answered ≢ WriteFault = λ h. done_is_no_fault (sym done ∙ h) in
    headline_of held words text (subst (λ s. IsCallOutcome held words s text) (sym (same no_fault) ∙ done) outcome) asks
