use Rattle.std.proofs.Common.{map, ap, sym}
use Rattle.std.proofs.lemmas.Result.{err_from_is_err_and}
use Rattle.v_parse.specs.Lists.{at_end}
use Rattle.verilog_text.specs.Grammar.{IsModule}
use Rattle.v_token.specs.View.{tokens_of}
use Rattle.v_syntax.specs.Source.{module_of}
use Rattle.v_parse.specs.Reading.{module_at, modules_at}
use Rattle.v_parse.proofs.Lists.{row_fails, shrinking}
use Rattle.v_parse.proofs.Turns.{row_begins, row_goes_on, row_ends}
use Rattle.v_parse.proofs.SpelledItems.{module_read}
use Rattle.v_expr.proofs.Flat.{each-none, each-pushed}
use Rattle.v_parse.specs.Flat.{IsFlatModule}
use Rattle.v_parse.proofs.module.modules.Goals as goal

pub loop-after-init : goal.loop-after-init
unfolding modules_at
loop-after-init c = (
  (row_begins module_of at_end module_at (tokens_of c.args.tokens.now) (tokens_of c.in_ok-rest.rest.now) c.new-modules.result.items c.new-modules.ensures.items (ap tokens_of c.in_ok-rest.ensures.same)),
  each-none IsFlatModule c.new-modules.result.items c.new-modules.ensures.items,
)

pub returns-in-Some-clause-read : goal.returns-in-Some-clause-read
returns-in-Some-clause-read c =
    row_ends at_end module_at (map module_of c.loop-after.modules.items) (tokens_of c.loop-after.rest.now) (tokens_of c.in-Some.after.now) (modules_at (tokens_of c.args.tokens.now)) c.in-Some.ensures c.loop-after.invariant.0

pub returns-in_err-next-in-None-clause-read : goal.returns-in_err-next-in-None-clause-read
returns-in_err-next-in-None-clause-read c =
    let p = err_from_is_err_and c.from_residual-in_err-next-in-None.result c.from_residual-in_err-next-in-None.ensures.1 in
    rw (p.1, p.2) (row_fails at_end module_at c.in_err-next-in-None.field-0.0 (map module_of c.loop-after.modules.items) (tokens_of c.loop-after.rest.now) (modules_at (tokens_of c.args.tokens.now)) (sym c.in-None.ensures) c.in_err-next-in-None.ensures.read c.loop-after.invariant.0)

pub loop-after-smaller : goal.loop-after-smaller
loop-after-smaller c = shrinking IsModule module_read (tokens_of c.loop-after.rest.now) (module_of c.in_ok-next-in-None.next) (tokens_of c.in_ok-next-in-None.after.now) c.in_ok-next-in-None.ensures.read

pub loop-after-preserved : goal.loop-after-preserved
loop-after-preserved c = (
  (row_goes_on module_of at_end module_at (shrinking IsModule module_read) c.loop-after.modules.items c.push.new.self.items (tokens_of c.loop-after.rest.now) c.in_ok-next-in-None.next (tokens_of c.in_ok-next-in-None.after.now)
      (modules_at (tokens_of c.args.tokens.now)) c.in_ok-push-in-None.ensures.items c.in-None.ensures c.in_ok-next-in-None.ensures.read c.loop-after.invariant.0),
  each-pushed IsFlatModule c.loop-after.modules.items c.in_ok-next-in-None.next c.push.new.self.items c.in_ok-push-in-None.ensures.items c.loop-after.invariant.1 c.in_ok-next-in-None.ensures.flat,
)
