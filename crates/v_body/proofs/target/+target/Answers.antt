use Rattle.std.proofs.Common.{◌≡◌, ◌∙◌, ◌<◌, ◌++◌, ◌∷◌, [], map, sym, arith}
use Rattle.std.proofs.lemmas.Result.{err_from_is_err_and}
use Rattle.std.proofs.lemmas.List.{map_push}
use Rattle.verilog_text.specs.Token.{right_brace}
use Rattle.v_token.specs.View.{tokens_of}
use Rattle.v_syntax.specs.Tree.{target_of}
use Rattle.v_expr.specs.Reading.{after_mark}
use Rattle.v_expr.proofs.Repeat.{goes_on, is_over}
use Rattle.v_body.specs.Words.{behind_comma, listed_at}
use Rattle.v_body.specs.Targets.{target_in}
use Rattle.v_body.proofs.Lists.{comma_shrinks}
use Rattle.v_body.proofs.Longer.{target_in_shrinks}
use Rattle.v_body.proofs.Trees.{joined_read}
use Rattle.v_body.proofs.Turns.{fails, no_target_level, target_level, target_level_fails}
use Rattle.v_expr.proofs.Flat.{each-pushed}
use Rattle.v_body.specs.Flat.{IsFlatTarget}
use Rattle.v_body.proofs.Flat.{flat-Joined}
use Rattle.v_body.proofs.target.+target.Goals as goal

pub nested-returns-then-levels-eq0-clause-read : goal.nested-returns-then-levels-eq0-clause-read
nested-returns-then-levels-eq0-clause-read t c = no_target_level c.args.levels (tokens_of c.args.tokens.now) c.if-levels-eq0.true

pub nested-returns-in_err-target-clause-read : goal.nested-returns-in_err-target-clause-read
nested-returns-in_err-target-clause-read t c =
    let h : 0 < c.args.levels = omega arith in
    let p = err_from_is_err_and c.from_residual.result c.from_residual.ensures.1 in
    rw (p.1, p.2) (target_level_fails c.in_err-target.field-0.0 c.args.levels (tokens_of c.args.tokens.now) h c.in_err-target.ensures.read)

pub nested-returns-clause-read : goal.nested-returns-clause-read
nested-returns-clause-read t c =
    let h : 0 < c.args.levels = omega arith in
    target_level c.args.levels (tokens_of c.args.tokens.now) h ∙ c.in_ok-target.ensures.read

pub outer-returns-in-Some-clause-read : goal.outer-returns-in-Some-clause-read
outer-returns-in-Some-clause-read t c =
    joined_read (target_in c.args.levels) (tokens_of c.args.tokens.now) (tokens_of c.in-Some.inside.now) c.in_ok-targets.targets (tokens_of c.in_ok-targets.rest.now) (sym c.in-Some.ensures) c.in_ok-targets.ensures.read

pub parts-returns-in-Some-clause-read : goal.parts-returns-in-Some-clause-read
parts-returns-in-Some-clause-read t c =
    is_over (after_mark right_brace) (behind_comma (target_in c.args.levels)) (map target_of c.loop-after.targets.items) (tokens_of c.loop-after.rest.now) (tokens_of c.in-Some.after.now) (listed_at right_brace (target_in c.args.levels) (tokens_of c.args.tokens.now))
    (sym c.in-Some.ensures) c.loop-after.invariant.0

pub parts-returns-in_err-target-in-None-clause-read : goal.parts-returns-in_err-target-in-None-clause-read
parts-returns-in_err-target-in-None-clause-read t c =
    let p = err_from_is_err_and c.from_residual-in_err-target-in-None.result c.from_residual-in_err-target-in-None.ensures.1 in
    rw (p.1, p.2)
    (fails (after_mark right_brace) (behind_comma (target_in c.args.levels)) c.in_err-target-in-None.field-0.0 (map target_of c.loop-after.targets.items) (tokens_of c.loop-after.rest.now) (listed_at right_brace (target_in c.args.levels) (tokens_of c.args.tokens.now))
    (sym c.in-None.ensures) c.in_err-target-in-None.ensures.read c.loop-after.invariant.0)

pub parts-loop-after-smaller : goal.parts-loop-after-smaller
parts-loop-after-smaller t c =
    comma_shrinks (target_in c.args.levels) (target_in_shrinks c.args.levels) (tokens_of c.loop-after.rest.now) (target_of c.in_ok-target-in-None.target) (tokens_of c.in_ok-target-in-None.after.now) c.in_ok-target-in-None.ensures.read

pub parts-loop-after-preserved : goal.parts-loop-after-preserved
parts-loop-after-preserved t c =
    let e : map target_of c.push-in-None.new.self.items ≡ map target_of c.loop-after.targets.items ++ target_of c.in_ok-target-in-None.target ∷ [] =
    rw c.in_ok-push-in-None.ensures.items (map_push _ c.loop-after.targets.items c.in_ok-target-in-None.target) in (
      (rw e
          (goes_on (after_mark right_brace) (behind_comma (target_in c.args.levels)) (comma_shrinks (target_in c.args.levels) (target_in_shrinks c.args.levels)) (map target_of c.loop-after.targets.items) (tokens_of c.loop-after.rest.now)
          (target_of c.in_ok-target-in-None.target) (tokens_of c.in_ok-target-in-None.after.now) (listed_at right_brace (target_in c.args.levels) (tokens_of c.args.tokens.now)) (sym c.in-None.ensures) c.in_ok-target-in-None.ensures.read c.loop-after.invariant.0)),
      each-pushed IsFlatTarget c.loop-after.targets.items c.in_ok-target-in-None.target c.push-in-None.new.self.items c.in_ok-push-in-None.ensures.items c.loop-after.invariant.1 c.in_ok-target-in-None.ensures.flat,
    )

pub outer-returns-in-Some-clause-flat : goal.outer-returns-in-Some-clause-flat
outer-returns-in-Some-clause-flat t c = flat-Joined c.in_ok-targets.targets c.in_ok-targets.ensures.flat
