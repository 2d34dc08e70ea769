use Rattle.std.proofs.Common.{◌∙◌, sym, ap, ⊎_elim}
use Rattle.std.specs.Prelude.{option_and_then}
use Rattle.std.specs.Str.Parse.{ParsesUnsigned, ExplainsUnsignedError, HasUnsignedDigitsIfOk}
use Rattle.clap.specs.Words.{found_of}
use Rattle.wb_words.proofs.matches.budget.Goals as goal
use Rattle.wb_words.proofs.Readings.{budget_read, within, within_high, within_low, within_yes}

pub returns-in_err-budget-clause-value : goal.returns-in_err-budget-clause-value
returns-in_err-budget-clause-value c =
    c.from_residual.ensures ∙ ap (option_and_then within) (sym c.in_err-budget.was)
    ∙ budget_read _ (λ t r. ParsesUnsigned 64 10 t r × ExplainsUnsignedError 10 t r × HasUnsignedDigitsIfOk t r) (λ t x g. g.0) (found_of c.args.matches.now) c.get_one.result c.get_one.ensures.none c.get_one.ensures.value

pub returns-then-budget-le1000000000-clause-value : goal.returns-then-budget-le1000000000-clause-value
returns-then-budget-le1000000000-clause-value c =
    within_yes c.in_ok-budget.budget c.if-budget-ge1.true c.if-budget-le1000000000.true ∙ ap (option_and_then within) (sym c.in_ok-budget.was)
    ∙ budget_read _ (λ t r. ParsesUnsigned 64 10 t r × ExplainsUnsignedError 10 t r × HasUnsignedDigitsIfOk t r) (λ t x g. g.0) (found_of c.args.matches.now) c.get_one.result c.get_one.ensures.none c.get_one.ensures.value

pub returns-else-budget-ge1-clause-value : goal.returns-else-budget-ge1-clause-value
returns-else-budget-ge1-clause-value c =
    ⊎_elim (λ h. within_high c.in_ok-budget.budget h.0 h.1) (λ h. within_low c.in_ok-budget.budget h) c.else-budget-ge1.either ∙ ap (option_and_then within) (sym c.in_ok-budget.was)
    ∙ budget_read _ (λ t r. ParsesUnsigned 64 10 t r × ExplainsUnsignedError 10 t r × HasUnsignedDigitsIfOk t r) (λ t x g. g.0) (found_of c.args.matches.now) c.get_one.result c.get_one.ensures.none c.get_one.ensures.value
