use Rattle.std.proofs.Common.{map}
use Rattle.std.proofs.lemmas.Result.{err_from_is_err_and}
use Rattle.v_token.specs.View.{tokens_of}
use Rattle.verilog_text.specs.Token.{comma}
use Rattle.v_expr.specs.Reading.{after_mark}
use Rattle.v_parse.specs.Reading.{instance_at, instances_at}
use Rattle.v_parse.specs.View.{instance_of}
use Rattle.v_parse.proofs.Lists.{keeps, list_begins, list_is_none, list_goes_on, list_shrinks, list_ends, list_fails}
use Rattle.verilog_text.specs.Grammar.{IsInstance}
use Rattle.v_parse.proofs.Spelled.{comma_advances, instance_read}
use Rattle.v_expr.proofs.Flat.{each-one, each-pushed}
use Rattle.v_parse.specs.Flat.{IsFlatInstance}
use Rattle.v_parse.proofs.instance.instances.Goals as goal

pub returns-in_err-first-clause-read : goal.returns-in_err-first-clause-read
unfolding instances_at
returns-in_err-first-clause-read c =
    let p = err_from_is_err_and c.from_residual.result c.from_residual.ensures.1 in
    rw (p.1, p.2) (list_is_none (after_mark comma) instance_at c.in_err-first.field-0.0 (tokens_of c.args.tokens.now) c.in_err-first.ensures.read)

pub loop-instances-init : goal.loop-instances-init
unfolding instances_at
loop-instances-init c = (
  (list_begins instance_of (after_mark comma) instance_at (tokens_of c.args.tokens.now) c.in_ok-first.first (tokens_of c.in_ok-first.rest.now) c.in_ok-instances.instances.items c.in_ok-instances.ensures c.in_ok-first.ensures.read),
  each-one IsFlatInstance c.in_ok-first.first c.in_ok-instances.instances.items c.in_ok-instances.ensures c.in_ok-first.ensures.flat,
)

pub returns-in-None-clause-read : goal.returns-in-None-clause-read
returns-in-None-clause-read c = list_ends (after_mark comma) instance_at (map instance_of c.loop-instances.instances.items) (tokens_of c.loop-instances.rest.now) (instances_at (tokens_of c.args.tokens.now)) c.in-None.ensures c.loop-instances.invariant.0

pub returns-in_err-next-in-Some-clause-read : goal.returns-in_err-next-in-Some-clause-read
returns-in_err-next-in-Some-clause-read c =
    let p = err_from_is_err_and c.from_residual-in_err-next-in-Some.result c.from_residual-in_err-next-in-Some.ensures.1 in
    rw (p.1, p.2) (list_fails (after_mark comma) instance_at c.in_err-next-in-Some.field-0.0 (map instance_of c.loop-instances.instances.items) (tokens_of c.loop-instances.rest.now) (tokens_of c.in-Some.more.now) (instances_at (tokens_of c.args.tokens.now)) c.in-Some.ensures c.in_err-next-in-Some.ensures.read c.loop-instances.invariant.0)

pub loop-instances-smaller : goal.loop-instances-smaller
loop-instances-smaller c =
    list_shrinks (after_mark comma) instance_at comma_advances (keeps IsInstance instance_read) (tokens_of c.loop-instances.rest.now) (tokens_of c.in-Some.more.now) _ (tokens_of c.in_ok-next-in-Some.after.now) c.in-Some.ensures c.in_ok-next-in-Some.ensures.read

pub loop-instances-preserved : goal.loop-instances-preserved
loop-instances-preserved c = (
  (list_goes_on instance_of (after_mark comma) instance_at comma_advances (keeps IsInstance instance_read) c.loop-instances.instances.items c.push.new.self.items (tokens_of c.loop-instances.rest.now) (tokens_of c.in-Some.more.now) c.in_ok-next-in-Some.next (tokens_of c.in_ok-next-in-Some.after.now)
      (instances_at (tokens_of c.args.tokens.now)) c.in_ok-push-in-Some.ensures.items c.in-Some.ensures c.in_ok-next-in-Some.ensures.read c.loop-instances.invariant.0),
  each-pushed IsFlatInstance c.loop-instances.instances.items c.in_ok-next-in-Some.next c.push.new.self.items c.in_ok-push-in-Some.ensures.items c.loop-instances.invariant.1 c.in_ok-next-in-Some.ensures.flat,
)
