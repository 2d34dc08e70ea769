use Rattle.std.proofs.Common.{◌∙◌, List, sym, ap}
use Rattle.v_token.specs.View.{token_of}
use Rattle.v_place.specs.View.{symbol_of, after_of, expected_of, first_in}
use Rattle.v_place.specs.declared.symbols.Symbol.{Symbol}
use Rattle.v_place.proofs.Taken.{nothing_expected, taken, passed, refused}
use Rattle.v_place.proofs.step.take.Goals as goal

pub returns-in-Some-after_token : goal.returns-in-Some-after_token
returns-in-Some-after_token c =
    c.loop-symbol.invariant
    ∙ taken (expected_of c.loop-symbol.expected.items) (symbol_of c.in-Some.symbol) (expected_of c.leave.new.stack.items) (token_of c.args.token) (after_of c.in-Some-after_token.after)
    (expected_of c.enter_after.new.stack.items) (c.in-Some.ensures ∙ ap (λ (xs : List Symbol). first_in (expected_of xs)) c.deref.ensures.value) c.leave.ensures
    c.in-Some-after_token.ensures c.in_ok-enter_after.ensures

pub returns-then-not-is_optional : goal.returns-then-not-is_optional
returns-then-not-is_optional c =
    c.loop-symbol.invariant
    ∙ refused (expected_of c.loop-symbol.expected.items) (symbol_of c.in-Some.symbol) (token_of c.args.token)
    (c.in-Some.ensures ∙ ap (λ (xs : List Symbol). first_in (expected_of xs)) c.deref.ensures.value) c.in_default-after_token.ensures
    (sym c.is_optional.ensures ∙ c.if-not-is_optional.true)

pub loop-symbol-preserved : goal.loop-symbol-preserved
loop-symbol-preserved c =
    c.loop-symbol.invariant
    ∙ passed (expected_of c.loop-symbol.expected.items) (symbol_of c.in-Some.symbol) (expected_of c.leave.new.stack.items) (token_of c.args.token)
    (c.in-Some.ensures ∙ ap (λ (xs : List Symbol). first_in (expected_of xs)) c.deref.ensures.value) c.leave.ensures c.in_default-after_token.ensures
    (sym c.is_optional.ensures ∙ c.if-not-is_optional.false)

pub returns : goal.returns
returns c =
    c.loop-symbol.invariant
    ∙ nothing_expected (expected_of c.loop-symbol.expected.items) (token_of c.args.token) (c.in_default.ensures ∙ ap (λ (xs : List Symbol). first_in (expected_of xs)) c.deref.ensures.value)
