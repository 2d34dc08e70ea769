use Rattle.std.proofs.Common.{map}
use Rattle.std.proofs.lemmas.Result.{err_from_is_err_and}
use Rattle.v_token.specs.View.{tokens_of}
use Rattle.verilog_text.specs.Token.{comma}
use Rattle.v_expr.specs.Reading.{after_mark}
use Rattle.v_parse.specs.Reading.{wire_at, wires_at}
use Rattle.v_parse.specs.View.{wire_of}
use Rattle.v_parse.proofs.Lists.{keeps, list_begins, list_is_none, list_goes_on, list_shrinks, list_ends, list_fails}
use Rattle.verilog_text.specs.Grammar.{IsWire}
use Rattle.v_parse.proofs.Spelled.{comma_advances, wire_read}
use Rattle.v_expr.proofs.Flat.{each-one, each-pushed}
use Rattle.v_parse.specs.Flat.{IsFlatWire}
use Rattle.v_parse.proofs.declaration.wires.Goals as goal

pub returns-in_err-first-clause-read : goal.returns-in_err-first-clause-read
unfolding wires_at
returns-in_err-first-clause-read c =
    let p = err_from_is_err_and c.from_residual.result c.from_residual.ensures.1 in
    rw (p.1, p.2) (list_is_none (after_mark comma) wire_at c.in_err-first.field-0.0 (tokens_of c.args.tokens.now) c.in_err-first.ensures.read)

pub loop-wires-init : goal.loop-wires-init
unfolding wires_at
loop-wires-init c = (
  (list_begins wire_of (after_mark comma) wire_at (tokens_of c.args.tokens.now) c.in_ok-first.first (tokens_of c.in_ok-first.rest.now) c.in_ok-wires.wires.items c.in_ok-wires.ensures c.in_ok-first.ensures.read),
  each-one IsFlatWire c.in_ok-first.first c.in_ok-wires.wires.items c.in_ok-wires.ensures c.in_ok-first.ensures.flat,
)

pub returns-in-None-clause-read : goal.returns-in-None-clause-read
returns-in-None-clause-read c = list_ends (after_mark comma) wire_at (map wire_of c.loop-wires.wires.items) (tokens_of c.loop-wires.rest.now) (wires_at (tokens_of c.args.tokens.now)) c.in-None.ensures c.loop-wires.invariant.0

pub returns-in_err-next-in-Some-clause-read : goal.returns-in_err-next-in-Some-clause-read
returns-in_err-next-in-Some-clause-read c =
    let p = err_from_is_err_and c.from_residual-in_err-next-in-Some.result c.from_residual-in_err-next-in-Some.ensures.1 in
    rw (p.1, p.2) (list_fails (after_mark comma) wire_at c.in_err-next-in-Some.field-0.0 (map wire_of c.loop-wires.wires.items) (tokens_of c.loop-wires.rest.now) (tokens_of c.in-Some.more.now) (wires_at (tokens_of c.args.tokens.now)) c.in-Some.ensures c.in_err-next-in-Some.ensures.read c.loop-wires.invariant.0)

pub loop-wires-smaller : goal.loop-wires-smaller
loop-wires-smaller c =
    list_shrinks (after_mark comma) wire_at comma_advances (keeps IsWire wire_read) (tokens_of c.loop-wires.rest.now) (tokens_of c.in-Some.more.now) _ (tokens_of c.in_ok-next-in-Some.after.now) c.in-Some.ensures c.in_ok-next-in-Some.ensures.read

pub loop-wires-preserved : goal.loop-wires-preserved
loop-wires-preserved c = (
  (list_goes_on wire_of (after_mark comma) wire_at comma_advances (keeps IsWire wire_read) c.loop-wires.wires.items c.push.new.self.items (tokens_of c.loop-wires.rest.now) (tokens_of c.in-Some.more.now) c.in_ok-next-in-Some.next (tokens_of c.in_ok-next-in-Some.after.now)
      (wires_at (tokens_of c.args.tokens.now)) c.in_ok-push-in-Some.ensures.items c.in-Some.ensures c.in_ok-next-in-Some.ensures.read c.loop-wires.invariant.0),
  each-pushed IsFlatWire c.loop-wires.wires.items c.in_ok-next-in-Some.next c.push.new.self.items c.in_ok-push-in-Some.ensures.items c.loop-wires.invariant.1 c.in_ok-next-in-Some.ensures.flat,
)
