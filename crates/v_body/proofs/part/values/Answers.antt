use Rattle.std.proofs.Common.{◌≡◌, ◌++◌, ◌∷◌, [], map, sym}
use Rattle.std.proofs.lemmas.Result.{err_from_is_err_and}
use Rattle.std.proofs.lemmas.List.{map_push}
use Rattle.verilog_text.specs.Token.{colon}
use Rattle.v_token.specs.View.{tokens_of}
use Rattle.v_syntax.specs.Tree.{tree_of}
use Rattle.v_expr.specs.Reading.{after_mark}
use Rattle.v_expr.specs.Whole.{whole_at}
use Rattle.v_expr.proofs.Repeat.{goes_on, is_over}
use Rattle.v_expr.proofs.Whole.{whole_shrinks}
use Rattle.v_body.specs.Words.{behind_comma, listed_at}
use Rattle.v_body.proofs.Lists.{comma_shrinks}
use Rattle.v_body.proofs.Turns.{fails}
use Rattle.v_expr.specs.Flat.{IsFlat}
use Rattle.v_expr.proofs.Flat.{each-pushed}
use Rattle.v_body.proofs.part.values.Goals as goal

pub returns-in-Some-clause-read : goal.returns-in-Some-clause-read
returns-in-Some-clause-read c =
    is_over (after_mark colon) (behind_comma whole_at) (map tree_of c.loop-after.values.items) (tokens_of c.loop-after.rest.now) (tokens_of c.in-Some.after.now) (listed_at colon whole_at (tokens_of c.args.tokens.now))
    (sym c.in-Some.ensures) c.loop-after.invariant.0

pub returns-in_err-value-in-None-clause-read : goal.returns-in_err-value-in-None-clause-read
returns-in_err-value-in-None-clause-read c =
    let p = err_from_is_err_and c.from_residual-in_err-value-in-None.result c.from_residual-in_err-value-in-None.ensures.1 in
    rw (p.1, p.2)
    (fails (after_mark colon) (behind_comma whole_at) c.in_err-value-in-None.field-0.0 (map tree_of c.loop-after.values.items) (tokens_of c.loop-after.rest.now) (listed_at colon whole_at (tokens_of c.args.tokens.now))
    (sym c.in-None.ensures) c.in_err-value-in-None.ensures.read c.loop-after.invariant.0)

pub loop-after-smaller : goal.loop-after-smaller
loop-after-smaller c =
    comma_shrinks whole_at whole_shrinks (tokens_of c.loop-after.rest.now) (tree_of c.in_ok-value-in-None.value) (tokens_of c.in_ok-value-in-None.after.now) c.in_ok-value-in-None.ensures.read

pub loop-after-preserved : goal.loop-after-preserved
loop-after-preserved c =
    let e : map tree_of c.push-in-None.new.self.items ≡ map tree_of c.loop-after.values.items ++ tree_of c.in_ok-value-in-None.value ∷ [] =
    rw c.in_ok-push-in-None.ensures.items (map_push _ c.loop-after.values.items c.in_ok-value-in-None.value) in (
      (rw e
          (goes_on (after_mark colon) (behind_comma whole_at) (comma_shrinks whole_at whole_shrinks) (map tree_of c.loop-after.values.items) (tokens_of c.loop-after.rest.now)
          (tree_of c.in_ok-value-in-None.value) (tokens_of c.in_ok-value-in-None.after.now) (listed_at colon whole_at (tokens_of c.args.tokens.now)) (sym c.in-None.ensures) c.in_ok-value-in-None.ensures.read c.loop-after.invariant.0)),
      each-pushed IsFlat c.loop-after.values.items c.in_ok-value-in-None.value c.push-in-None.new.self.items c.in_ok-push-in-None.ensures.items c.loop-after.invariant.1 c.in_ok-value-in-None.ensures.flat,
    )
