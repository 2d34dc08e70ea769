use Rattle.std.proofs.Common.{map}
use Rattle.std.proofs.lemmas.Result.{err_from_is_err_and}
use Rattle.v_token.specs.View.{tokens_of}
use Rattle.verilog_text.specs.Token.{comma}
use Rattle.v_expr.specs.Reading.{after_mark}
use Rattle.v_parse.specs.Reading.{entry_at, entries_at}
use Rattle.v_syntax.specs.Source.{optional_tree_of}
use Rattle.v_parse.proofs.Lists.{keeps, list_begins, list_is_none, list_goes_on, list_shrinks, list_ends, list_fails}
use Rattle.verilog_text.specs.Grammar.{IsEntry}
use Rattle.v_parse.proofs.Spelled.{comma_advances, entry_read}
use Rattle.v_expr.proofs.Flat.{each-one, each-pushed}
use Rattle.v_parse.specs.Flat.{IsFlatOptional}
use Rattle.v_parse.proofs.instance.entries.Goals as goal

pub returns-in_err-first-clause-read : goal.returns-in_err-first-clause-read
unfolding entries_at
returns-in_err-first-clause-read c =
    let p = err_from_is_err_and c.from_residual.result c.from_residual.ensures.1 in
    rw (p.1, p.2) (list_is_none (after_mark comma) entry_at c.in_err-first.field-0.0 (tokens_of c.args.tokens.now) c.in_err-first.ensures.read)

pub loop-entries-init : goal.loop-entries-init
unfolding entries_at
loop-entries-init c = (
  (list_begins optional_tree_of (after_mark comma) entry_at (tokens_of c.args.tokens.now) c.in_ok-first.first (tokens_of c.in_ok-first.rest.now) c.in_ok-entries.entries.items c.in_ok-entries.ensures c.in_ok-first.ensures.read),
  each-one IsFlatOptional c.in_ok-first.first c.in_ok-entries.entries.items c.in_ok-entries.ensures c.in_ok-first.ensures.flat,
)

pub returns-in-None-clause-read : goal.returns-in-None-clause-read
returns-in-None-clause-read c = list_ends (after_mark comma) entry_at (map optional_tree_of c.loop-entries.entries.items) (tokens_of c.loop-entries.rest.now) (entries_at (tokens_of c.args.tokens.now)) c.in-None.ensures c.loop-entries.invariant.0

pub returns-in_err-next-in-Some-clause-read : goal.returns-in_err-next-in-Some-clause-read
returns-in_err-next-in-Some-clause-read c =
    let p = err_from_is_err_and c.from_residual-in_err-next-in-Some.result c.from_residual-in_err-next-in-Some.ensures.1 in
    rw (p.1, p.2) (list_fails (after_mark comma) entry_at c.in_err-next-in-Some.field-0.0 (map optional_tree_of c.loop-entries.entries.items) (tokens_of c.loop-entries.rest.now) (tokens_of c.in-Some.more.now) (entries_at (tokens_of c.args.tokens.now)) c.in-Some.ensures c.in_err-next-in-Some.ensures.read c.loop-entries.invariant.0)

pub loop-entries-smaller : goal.loop-entries-smaller
loop-entries-smaller c =
    list_shrinks (after_mark comma) entry_at comma_advances (keeps IsEntry entry_read) (tokens_of c.loop-entries.rest.now) (tokens_of c.in-Some.more.now) _ (tokens_of c.in_ok-next-in-Some.after.now) c.in-Some.ensures c.in_ok-next-in-Some.ensures.read

pub loop-entries-preserved : goal.loop-entries-preserved
loop-entries-preserved c = (
  (list_goes_on optional_tree_of (after_mark comma) entry_at comma_advances (keeps IsEntry entry_read) c.loop-entries.entries.items c.push.new.self.items (tokens_of c.loop-entries.rest.now) (tokens_of c.in-Some.more.now) c.in_ok-next-in-Some.next (tokens_of c.in_ok-next-in-Some.after.now)
      (entries_at (tokens_of c.args.tokens.now)) c.in_ok-push-in-Some.ensures.items c.in-Some.ensures c.in_ok-next-in-Some.ensures.read c.loop-entries.invariant.0),
  each-pushed IsFlatOptional c.loop-entries.entries.items c.in_ok-next-in-Some.next c.push.new.self.items c.in_ok-push-in-Some.ensures.items c.loop-entries.invariant.1 c.in_ok-next-in-Some.ensures.flat,
)
