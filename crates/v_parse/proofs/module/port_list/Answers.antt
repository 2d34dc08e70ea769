use Rattle.std.proofs.Common.{map}
use Rattle.std.proofs.lemmas.Result.{err_from_is_err_and}
use Rattle.v_token.specs.View.{tokens_of}
use Rattle.verilog_text.specs.Token.{comma}
use Rattle.v_expr.specs.Reading.{after_mark}
use Rattle.v_parse.specs.Reading.{port_at, port_list_at}
use Rattle.v_syntax.specs.Source.{port_of}
use Rattle.v_parse.proofs.Lists.{list_begins, list_is_none, list_goes_on, list_shrinks, list_ends, list_fails}
use Rattle.v_parse.proofs.Spelled.{comma_advances, port_keeps}
use Rattle.v_expr.proofs.Flat.{each-one, each-pushed}
use Rattle.v_parse.specs.Flat.{IsFlatPort}
use Rattle.v_parse.proofs.module.port_list.Goals as goal

pub returns-in_err-first-clause-read : goal.returns-in_err-first-clause-read
unfolding port_list_at
returns-in_err-first-clause-read c =
    let p = err_from_is_err_and c.from_residual.result c.from_residual.ensures.1 in
    rw (p.1, p.2) (list_is_none (after_mark comma) port_at c.in_err-first.field-0.0 (tokens_of c.args.tokens.now) c.in_err-first.ensures.read)

pub loop-ports-init : goal.loop-ports-init
unfolding port_list_at
loop-ports-init c = (
  (list_begins port_of (after_mark comma) port_at (tokens_of c.args.tokens.now) c.in_ok-first.first (tokens_of c.in_ok-first.rest.now) c.in_ok-ports.ports.items c.in_ok-ports.ensures c.in_ok-first.ensures.read),
  each-one IsFlatPort c.in_ok-first.first c.in_ok-ports.ports.items c.in_ok-ports.ensures c.in_ok-first.ensures.flat,
)

pub returns-in-None-clause-read : goal.returns-in-None-clause-read
returns-in-None-clause-read c = list_ends (after_mark comma) port_at (map port_of c.loop-ports.ports.items) (tokens_of c.loop-ports.rest.now) (port_list_at (tokens_of c.args.tokens.now)) c.in-None.ensures c.loop-ports.invariant.0

pub returns-in_err-next-in-Some-clause-read : goal.returns-in_err-next-in-Some-clause-read
returns-in_err-next-in-Some-clause-read c =
    let p = err_from_is_err_and c.from_residual-in_err-next-in-Some.result c.from_residual-in_err-next-in-Some.ensures.1 in
    rw (p.1, p.2) (list_fails (after_mark comma) port_at c.in_err-next-in-Some.field-0.0 (map port_of c.loop-ports.ports.items) (tokens_of c.loop-ports.rest.now) (tokens_of c.in-Some.more.now) (port_list_at (tokens_of c.args.tokens.now)) c.in-Some.ensures c.in_err-next-in-Some.ensures.read c.loop-ports.invariant.0)

pub loop-ports-smaller : goal.loop-ports-smaller
loop-ports-smaller c =
    list_shrinks (after_mark comma) port_at comma_advances port_keeps (tokens_of c.loop-ports.rest.now) (tokens_of c.in-Some.more.now) _ (tokens_of c.in_ok-next-in-Some.after.now) c.in-Some.ensures c.in_ok-next-in-Some.ensures.read

pub loop-ports-preserved : goal.loop-ports-preserved
loop-ports-preserved c = (
  (list_goes_on port_of (after_mark comma) port_at comma_advances port_keeps c.loop-ports.ports.items c.push.new.self.items (tokens_of c.loop-ports.rest.now) (tokens_of c.in-Some.more.now) c.in_ok-next-in-Some.next (tokens_of c.in_ok-next-in-Some.after.now)
      (port_list_at (tokens_of c.args.tokens.now)) c.in_ok-push-in-Some.ensures.items c.in-Some.ensures c.in_ok-next-in-Some.ensures.read c.loop-ports.invariant.0),
  each-pushed IsFlatPort c.loop-ports.ports.items c.in_ok-next-in-Some.next c.push.new.self.items c.in_ok-push-in-Some.ensures.items c.loop-ports.invariant.1 c.in_ok-next-in-Some.ensures.flat,
)
