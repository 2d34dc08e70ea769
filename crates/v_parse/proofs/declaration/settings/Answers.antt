use Rattle.std.proofs.Common.{map}
use Rattle.std.proofs.lemmas.Result.{err_from_is_err_and}
use Rattle.v_token.specs.View.{tokens_of}
use Rattle.v_parse.specs.Lists.{before_name}
use Rattle.v_parse.specs.Reading.{setting_at, settings_at}
use Rattle.v_parse.specs.View.{setting_of}
use Rattle.v_parse.proofs.Lists.{keeps, list_begins, list_is_none, list_goes_on, list_shrinks, list_ends, list_fails}
use Rattle.verilog_text.specs.Grammar.{IsSetting}
use Rattle.v_parse.proofs.Spelled.{before_name_advances, setting_read}
use Rattle.v_expr.proofs.Flat.{each-one, each-pushed}
use Rattle.v_parse.specs.Flat.{IsFlatSetting}
use Rattle.v_parse.proofs.declaration.settings.Goals as goal

pub returns-in_err-first-clause-read : goal.returns-in_err-first-clause-read
unfolding settings_at
returns-in_err-first-clause-read c =
    let p = err_from_is_err_and c.from_residual.result c.from_residual.ensures.1 in
    rw (p.1, p.2) (list_is_none before_name setting_at c.in_err-first.field-0.0 (tokens_of c.args.tokens.now) c.in_err-first.ensures.read)

pub loop-values-init : goal.loop-values-init
unfolding settings_at
loop-values-init c = (
  (list_begins setting_of before_name setting_at (tokens_of c.args.tokens.now) c.in_ok-first.first (tokens_of c.in_ok-first.rest.now) c.in_ok-values.values.items c.in_ok-values.ensures c.in_ok-first.ensures.read),
  each-one IsFlatSetting c.in_ok-first.first c.in_ok-values.values.items c.in_ok-values.ensures c.in_ok-first.ensures.flat,
)

pub returns-in-None-clause-read : goal.returns-in-None-clause-read
returns-in-None-clause-read c = list_ends before_name setting_at (map setting_of c.loop-values.values.items) (tokens_of c.loop-values.rest.now) (settings_at (tokens_of c.args.tokens.now)) c.in-None.ensures c.loop-values.invariant.0

pub returns-in_err-next-in-Some-clause-read : goal.returns-in_err-next-in-Some-clause-read
returns-in_err-next-in-Some-clause-read c =
    let p = err_from_is_err_and c.from_residual-in_err-next-in-Some.result c.from_residual-in_err-next-in-Some.ensures.1 in
    rw (p.1, p.2) (list_fails before_name setting_at c.in_err-next-in-Some.field-0.0 (map setting_of c.loop-values.values.items) (tokens_of c.loop-values.rest.now) (tokens_of c.in-Some.more.now) (settings_at (tokens_of c.args.tokens.now)) c.in-Some.ensures c.in_err-next-in-Some.ensures.read c.loop-values.invariant.0)

pub loop-values-smaller : goal.loop-values-smaller
loop-values-smaller c =
    list_shrinks before_name setting_at before_name_advances (keeps IsSetting setting_read) (tokens_of c.loop-values.rest.now) (tokens_of c.in-Some.more.now) _ (tokens_of c.in_ok-next-in-Some.after.now) c.in-Some.ensures c.in_ok-next-in-Some.ensures.read

pub loop-values-preserved : goal.loop-values-preserved
loop-values-preserved c = (
  (list_goes_on setting_of before_name setting_at before_name_advances (keeps IsSetting setting_read) c.loop-values.values.items c.push.new.self.items (tokens_of c.loop-values.rest.now) (tokens_of c.in-Some.more.now) c.in_ok-next-in-Some.next (tokens_of c.in_ok-next-in-Some.after.now)
      (settings_at (tokens_of c.args.tokens.now)) c.in_ok-push-in-Some.ensures.items c.in-Some.ensures c.in_ok-next-in-Some.ensures.read c.loop-values.invariant.0),
  each-pushed IsFlatSetting c.loop-values.values.items c.in_ok-next-in-Some.next c.push.new.self.items c.in_ok-push-in-Some.ensures.items c.loop-values.invariant.1 c.in_ok-next-in-Some.ensures.flat,
)
