use Rattle.std.proofs.Common.{map, ap, sym}
use Rattle.std.proofs.lemmas.Result.{err_from_is_err_and}
use Rattle.std.specs.Prelude.{codes}
use Rattle.v_body.specs.Words.{after_word}
use Rattle.verilog_text.specs.Grammar.{IsItem}
use Rattle.v_token.specs.View.{tokens_of}
use Rattle.v_syntax.specs.Source.{item_of}
use Rattle.v_parse.specs.Reading.{item_at, items_at}
use Rattle.v_parse.proofs.Lists.{row_fails, shrinking}
use Rattle.v_parse.proofs.Turns.{row_begins, row_goes_on, row_ends}
use Rattle.v_parse.proofs.SpelledItems.{item_read}
use Rattle.v_expr.proofs.Flat.{each-none, each-pushed}
use Rattle.v_parse.specs.Flat.{IsFlatItem}
use Rattle.v_parse.proofs.module.items.Goals as goal

pub loop-after-init : goal.loop-after-init
unfolding items_at
loop-after-init c = (
  (row_begins item_of (after_word (codes "endmodule")) item_at (tokens_of c.args.tokens.now) (tokens_of c.in_ok-rest.rest.now) c.new-items.result.items c.new-items.ensures.items (ap tokens_of c.in_ok-rest.ensures.same)),
  each-none IsFlatItem c.new-items.result.items c.new-items.ensures.items,
)

pub returns-in-Some-clause-read : goal.returns-in-Some-clause-read
returns-in-Some-clause-read c =
    row_ends (after_word (codes "endmodule")) item_at (map item_of c.loop-after.items.items) (tokens_of c.loop-after.rest.now) (tokens_of c.in-Some.after.now) (items_at (tokens_of c.args.tokens.now)) c.in-Some.ensures c.loop-after.invariant.0

pub returns-in_err-next-in-None-clause-read : goal.returns-in_err-next-in-None-clause-read
returns-in_err-next-in-None-clause-read c =
    let p = err_from_is_err_and c.from_residual-in_err-next-in-None.result c.from_residual-in_err-next-in-None.ensures.1 in
    rw (p.1, p.2) (row_fails (after_word (codes "endmodule")) item_at c.in_err-next-in-None.field-0.0 (map item_of c.loop-after.items.items) (tokens_of c.loop-after.rest.now) (items_at (tokens_of c.args.tokens.now)) (sym c.in-None.ensures) c.in_err-next-in-None.ensures.read c.loop-after.invariant.0)

pub loop-after-smaller : goal.loop-after-smaller
loop-after-smaller c = shrinking IsItem item_read (tokens_of c.loop-after.rest.now) (item_of c.in_ok-next-in-None.next) (tokens_of c.in_ok-next-in-None.after.now) c.in_ok-next-in-None.ensures.read

pub loop-after-preserved : goal.loop-after-preserved
loop-after-preserved c = (
  (row_goes_on item_of (after_word (codes "endmodule")) item_at (shrinking IsItem item_read) c.loop-after.items.items c.push.new.self.items (tokens_of c.loop-after.rest.now) c.in_ok-next-in-None.next (tokens_of c.in_ok-next-in-None.after.now)
      (items_at (tokens_of c.args.tokens.now)) c.in_ok-push-in-None.ensures.items c.in-None.ensures c.in_ok-next-in-None.ensures.read c.loop-after.invariant.0),
  each-pushed IsFlatItem c.loop-after.items.items c.in_ok-next-in-None.next c.push.new.self.items c.in_ok-push-in-None.ensures.items c.loop-after.invariant.1 c.in_ok-next-in-None.ensures.flat,
)
