use Rattle.std.proofs.Common.{◌∙◌}
use Rattle.sat_base.proofs.StepLemmas.{IsGrown-refl, step_written}
use Rattle.sat_base.proofs.logs.write.Goals as goal

pub returns-in_err-push_codes-clause-hints : goal.returns-in_err-push_codes-clause-hints
returns-in_err-push_codes-clause-hints c = IsGrown-refl c.args.hints.now.items

pub returns-clause-step : goal.returns-clause-step
returns-clause-step c =
    let is = c.in_ok-step.ensures in
    step_written c.args.codes.now.items c.push_codes.new.codes.items c.args.hints.now.items c.push_numbers.new.hints.items c.args.lits.now c.args.numbers.now c.in_ok-step.step c.in_ok-push_codes.ensures.codes c.in_ok-push_numbers.ensures.numbers
    (is.0 ∙ c.len-start.ensures ∙ c.args.codes.now.ok.0)
    (is.1 ∙ c.len.ensures ∙ c.push_codes.new.codes.ok.0)
    (is.2 ∙ c.len-first_hint.ensures ∙ c.args.hints.now.ok.0)
    (is.3 ∙ c.len-2.ensures ∙ c.push_numbers.new.hints.ok.0)
