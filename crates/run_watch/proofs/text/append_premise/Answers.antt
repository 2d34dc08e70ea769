use Rattle.std.proofs.Common.{◌∙◌, ◌++◌, sym, ap}
use Rattle.std.specs.Prelude.{codes, decimal}
use Rattle.std.specs.String.{string_bytes}
use Rattle.watched_runs.specs.Watched.{premise_text}
use Rattle.run_watch.specs.declared.answers.Premise.{Premise}
use Rattle.run_watch.specs.View.{premise_of}
use Rattle.run_watch.proofs.Telling.{two_parts}
use Rattle.run_watch.proofs.text.append_premise.Goals as goal

pub returns-in_ok-push_str-in-Reset : goal.returns-in_ok-push_str-in-Reset
returns-in_ok-push_str-in-Reset c =
    c.in_ok-push_str-in-Reset.ensures.bytes ∙ ap (λ (p : Premise). string_bytes c.args.text.now ++ premise_text (premise_of p)) (sym c.in-Reset.is)

pub returns-in_ok-append_number-in-Assume : goal.returns-in_ok-append_number-in-Assume
returns-in_ok-append_number-in-Assume c =
    two_parts (string_bytes c.args.text.now) (string_bytes c.push_str-in-Assume.new.self) (string_bytes c.append_number.new.text) (codes "assume ") (decimal c.in-Assume.k)
    c.in_ok-push_str-in-Assume.ensures.bytes c.in_ok-append_number-in-Assume.ensures
    ∙ ap (λ (p : Premise). string_bytes c.args.text.now ++ premise_text (premise_of p)) (sym c.in-Assume.is)

pub returns-in_ok-push_str-in-Flight : goal.returns-in_ok-push_str-in-Flight
returns-in_ok-push_str-in-Flight c =
    c.in_ok-push_str-in-Flight.ensures.bytes ∙ ap (λ (p : Premise). string_bytes c.args.text.now ++ premise_text (premise_of p)) (sym c.in-Flight.is)
