use Rattle.std.proofs.Common.{◌≡◌, List, ℕ, Option, Some, None, option_map, ap, ◌∙◌, subst, sym, refl}
use Rattle.model_files.specs.Meaning.{ModelRule}
use Rattle.ila_file.specs.View.{model_view}
use Rattle.ila_file.specs.Places.{found_text}
use Rattle.ila_rules.specs.Limits.{deeper_note, limit_note}
use Rattle.ila_rules.specs.Refusals.{refusal_view, IsNotedIn}
use Rattle.ila_rules.specs.Rule.{rule_view}
use Rattle.ila_rules.specs.View.{names_view, flaws_view}
use Rattle.ila_rules.specs.declared.rule.ModelRefusal.{ModelRefusal}
use Rattle.ila_rules.proofs.Ordered.{IsFoundIn, rule_found, note_found}
use Rattle.ila_rules.proofs.judge.broken_rule.Goals as goal

rules_of : (o : Option ModelRefusal) → option_map (λ r. rule_view r.rule) o ≡ option_map (λ r. r.0) (option_map refusal_view o)
rules_of None = refl
rules_of (Some r) = refl

pub returns-clause-rule : goal.returns-clause-rule
returns-clause-rule c =
    let m = model_view c.args.model.now in
    let names = names_view c.in_ok-names.names in
    let flaws = flaws_view c.in_ok-findings.findings in
    let deep = found_text c.in_ok-deep.deep in
    let steps = found_text c.in_ok-steps.steps in
    let found : IsFoundIn m names flaws deep steps = record {
      named = c.in_ok-names.ensures;
      judged = c.in_ok-findings.ensures;
      nested = c.in_ok-deep.ensures.note ∙ ap (λ w. deeper_note w 3 m.top) c.top.ensures;
      limited = c.in_ok-steps.ensures.note ∙ ap (λ w. limit_note w m.top) c.top-2.ensures;
    } in
    rules_of c.in_order.result ∙ (ap (λ (o : Option (ModelRule × List ℕ)). option_map (λ r. r.0) o) c.in_order.ensures ∙ rule_found m names flaws deep steps found)

pub returns-clause-note : goal.returns-clause-note
returns-clause-note c =
    let m = model_view c.args.model.now in
    let names = names_view c.in_ok-names.names in
    let flaws = flaws_view c.in_ok-findings.findings in
    let deep = found_text c.in_ok-deep.deep in
    let steps = found_text c.in_ok-steps.steps in
    let found : IsFoundIn m names flaws deep steps = record {
      named = c.in_ok-names.ensures;
      judged = c.in_ok-findings.ensures;
      nested = c.in_ok-deep.ensures.note ∙ ap (λ w. deeper_note w 3 m.top) c.top.ensures;
      limited = c.in_ok-steps.ensures.note ∙ ap (λ w. limit_note w m.top) c.top-2.ensures;
    } in
    subst (IsNotedIn m) (sym c.in_order.ensures) (note_found m names flaws deep steps found)
