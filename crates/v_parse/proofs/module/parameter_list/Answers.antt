use Rattle.std.proofs.Common.{map}
use Rattle.std.proofs.lemmas.Result.{err_from_is_err_and}
use Rattle.v_token.specs.View.{tokens_of}
use Rattle.verilog_text.specs.Token.{comma}
use Rattle.v_expr.specs.Reading.{after_mark}
use Rattle.v_parse.specs.Reading.{header_parameter_at, parameter_list_at}
use Rattle.v_syntax.specs.Source.{parameter_of}
use Rattle.v_parse.proofs.Lists.{keeps, list_begins, list_is_none, list_goes_on, list_shrinks, list_ends, list_fails}
use Rattle.verilog_text.specs.Grammar.{IsHeaderParameter}
use Rattle.v_parse.proofs.Spelled.{comma_advances}
use Rattle.v_parse.proofs.SpelledItems.{header_parameter_read}
use Rattle.v_expr.proofs.Flat.{each-one, each-pushed}
use Rattle.v_parse.specs.Flat.{IsFlatParameter}
use Rattle.v_parse.proofs.module.parameter_list.Goals as goal

pub returns-in_err-first-clause-read : goal.returns-in_err-first-clause-read
unfolding parameter_list_at
returns-in_err-first-clause-read c =
    let p = err_from_is_err_and c.from_residual.result c.from_residual.ensures.1 in
    rw (p.1, p.2) (list_is_none (after_mark comma) header_parameter_at c.in_err-first.field-0.0 (tokens_of c.args.tokens.now) c.in_err-first.ensures.read)

pub loop-parameters-init : goal.loop-parameters-init
unfolding parameter_list_at
loop-parameters-init c = (
  (list_begins parameter_of (after_mark comma) header_parameter_at (tokens_of c.args.tokens.now) c.in_ok-first.first (tokens_of c.in_ok-first.rest.now) c.in_ok-parameters.parameters.items c.in_ok-parameters.ensures c.in_ok-first.ensures.read),
  each-one IsFlatParameter c.in_ok-first.first c.in_ok-parameters.parameters.items c.in_ok-parameters.ensures c.in_ok-first.ensures.flat,
)

pub returns-in-None-clause-read : goal.returns-in-None-clause-read
returns-in-None-clause-read c = list_ends (after_mark comma) header_parameter_at (map parameter_of c.loop-parameters.parameters.items) (tokens_of c.loop-parameters.rest.now) (parameter_list_at (tokens_of c.args.tokens.now)) c.in-None.ensures c.loop-parameters.invariant.0

pub returns-in_err-next-in-Some-clause-read : goal.returns-in_err-next-in-Some-clause-read
returns-in_err-next-in-Some-clause-read c =
    let p = err_from_is_err_and c.from_residual-in_err-next-in-Some.result c.from_residual-in_err-next-in-Some.ensures.1 in
    rw (p.1, p.2) (list_fails (after_mark comma) header_parameter_at c.in_err-next-in-Some.field-0.0 (map parameter_of c.loop-parameters.parameters.items) (tokens_of c.loop-parameters.rest.now) (tokens_of c.in-Some.more.now) (parameter_list_at (tokens_of c.args.tokens.now)) c.in-Some.ensures c.in_err-next-in-Some.ensures.read c.loop-parameters.invariant.0)

pub loop-parameters-smaller : goal.loop-parameters-smaller
loop-parameters-smaller c =
    list_shrinks (after_mark comma) header_parameter_at comma_advances (keeps IsHeaderParameter header_parameter_read) (tokens_of c.loop-parameters.rest.now) (tokens_of c.in-Some.more.now) _ (tokens_of c.in_ok-next-in-Some.after.now) c.in-Some.ensures c.in_ok-next-in-Some.ensures.read

pub loop-parameters-preserved : goal.loop-parameters-preserved
loop-parameters-preserved c = (
  (list_goes_on parameter_of (after_mark comma) header_parameter_at comma_advances (keeps IsHeaderParameter header_parameter_read) c.loop-parameters.parameters.items c.push.new.self.items (tokens_of c.loop-parameters.rest.now) (tokens_of c.in-Some.more.now) c.in_ok-next-in-Some.next (tokens_of c.in_ok-next-in-Some.after.now)
      (parameter_list_at (tokens_of c.args.tokens.now)) c.in_ok-push-in-Some.ensures.items c.in-Some.ensures c.in_ok-next-in-Some.ensures.read c.loop-parameters.invariant.0),
  each-pushed IsFlatParameter c.loop-parameters.parameters.items c.in_ok-next-in-Some.next c.push.new.self.items c.in_ok-push-in-Some.ensures.items c.loop-parameters.invariant.1 c.in_ok-next-in-Some.ensures.flat,
)
