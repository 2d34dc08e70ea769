use Rattle.std.proofs.Common.{map}
use Rattle.std.proofs.lemmas.Result.{err_from_is_err_and}
use Rattle.v_token.specs.View.{tokens_of}
use Rattle.verilog_text.specs.Token.{comma, equals}
use Rattle.v_expr.specs.Reading.{after_mark}
use Rattle.v_body.specs.Targets.{assignment_at}
use Rattle.v_parse.specs.View.{assignment_of}
use Rattle.v_parse.specs.Reading.{assignments_at}
use Rattle.v_parse.proofs.Lists.{keeps, list_begins, list_is_none, list_goes_on, list_shrinks, list_ends, list_fails}
use Rattle.verilog_text.specs.Grammar.{IsAssignment}
use Rattle.v_parse.proofs.Spelled.{comma_advances, assignment_read}
use Rattle.v_expr.proofs.Flat.{each-one, each-pushed}
use Rattle.v_parse.specs.Flat.{IsFlatAssignment}
use Rattle.v_parse.proofs.item.assignments.Goals as goal

pub returns-in_err-first-clause-read : goal.returns-in_err-first-clause-read
unfolding assignments_at
returns-in_err-first-clause-read c =
    let p = err_from_is_err_and c.from_residual.result c.from_residual.ensures.1 in
    rw (p.1, p.2) (list_is_none (after_mark comma) (assignment_at equals) c.in_err-first.field-0.0 (tokens_of c.args.tokens.now) c.in_err-first.ensures.read)

pub loop-assignments-init : goal.loop-assignments-init
unfolding assignments_at
loop-assignments-init c = (
  (list_begins assignment_of (after_mark comma) (assignment_at equals) (tokens_of c.args.tokens.now) c.in_ok-first.first (tokens_of c.in_ok-first.rest.now) c.in_ok-assignments.assignments.items c.in_ok-assignments.ensures c.in_ok-first.ensures.read),
  each-one IsFlatAssignment c.in_ok-first.first c.in_ok-assignments.assignments.items c.in_ok-assignments.ensures c.in_ok-first.ensures.flat,
)

pub returns-in-None-clause-read : goal.returns-in-None-clause-read
returns-in-None-clause-read c = list_ends (after_mark comma) (assignment_at equals) (map assignment_of c.loop-assignments.assignments.items) (tokens_of c.loop-assignments.rest.now) (assignments_at (tokens_of c.args.tokens.now)) c.in-None.ensures c.loop-assignments.invariant.0

pub returns-in_err-next-in-Some-clause-read : goal.returns-in_err-next-in-Some-clause-read
returns-in_err-next-in-Some-clause-read c =
    let p = err_from_is_err_and c.from_residual-in_err-next-in-Some.result c.from_residual-in_err-next-in-Some.ensures.1 in
    rw (p.1, p.2) (list_fails (after_mark comma) (assignment_at equals) c.in_err-next-in-Some.field-0.0 (map assignment_of c.loop-assignments.assignments.items) (tokens_of c.loop-assignments.rest.now) (tokens_of c.in-Some.more.now) (assignments_at (tokens_of c.args.tokens.now)) c.in-Some.ensures c.in_err-next-in-Some.ensures.read c.loop-assignments.invariant.0)

pub loop-assignments-smaller : goal.loop-assignments-smaller
loop-assignments-smaller c =
    list_shrinks (after_mark comma) (assignment_at equals) comma_advances (keeps (IsAssignment equals) assignment_read) (tokens_of c.loop-assignments.rest.now) (tokens_of c.in-Some.more.now) _ (tokens_of c.in_ok-next-in-Some.after.now) c.in-Some.ensures c.in_ok-next-in-Some.ensures.read

pub loop-assignments-preserved : goal.loop-assignments-preserved
loop-assignments-preserved c = (
  (list_goes_on assignment_of (after_mark comma) (assignment_at equals) comma_advances (keeps (IsAssignment equals) assignment_read) c.loop-assignments.assignments.items c.push.new.self.items (tokens_of c.loop-assignments.rest.now) (tokens_of c.in-Some.more.now) c.in_ok-next-in-Some.next (tokens_of c.in_ok-next-in-Some.after.now)
      (assignments_at (tokens_of c.args.tokens.now)) c.in_ok-push-in-Some.ensures.items c.in-Some.ensures c.in_ok-next-in-Some.ensures.read c.loop-assignments.invariant.0),
  each-pushed IsFlatAssignment c.loop-assignments.assignments.items c.in_ok-next-in-Some.next c.push.new.self.items c.in_ok-push-in-Some.ensures.items c.loop-assignments.invariant.1 c.in_ok-next-in-Some.ensures.flat,
)
