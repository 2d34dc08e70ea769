use Rattle.std.proofs.Common.{drop, map, arith}
use Rattle.std.proofs.lemmas.List.{at_drop_all}
use Rattle.v_value.specs.Scope.{scope_at}
use Rattle.v_lower.specs.Table.{images_at}
use Rattle.v_operators.proofs.Growing.{Grows-refl, Grows-trans}
use Rattle.v_elab.specs.Tables.{input_rows}
use Rattle.v_elab.proofs.Entering.{so_far_start, so_far_end, input_turn, entry_now, plain_now, plain_rest, stored_below}
use Rattle.v_elab.proofs.tables.enter_inputs.Goals as goal

pub loop-place-init : goal.loop-place-init
loop-place-init c =
    record {
      so_far = so_far_start (scope_at c.args.scope.now) (input_rows c.args.first (map (λ n. n.now) (drop c.args.first c.args.stored.now))) (images_at c.args.table.now) (images_at c.args.next.now)
          c.args.terms.now;
      grows = Grows-refl c.args.terms.now;
      plain = c.requires.plain;
    }

pub enter_input-requires-clause-place : goal.enter_input-requires-clause-place
enter_input-requires-clause-place c =
    stored_below (scope_at c.args.scope.now) c.args.stored.now c.args.terms.now c.loop-place.terms c.loop-place.place c.requires.entries c.loop-place.invariant.grows (omega arith)

pub enter_input-requires-clause-sort : goal.enter_input-requires-clause-sort
enter_input-requires-clause-sort c =
    entry_now (scope_at c.args.scope.now) c.args.stored.now c.args.terms.now c.loop-place.terms c.loop-place.place _ c.requires.entries c.loop-place.invariant.grows (omega arith)

pub enter_input-requires-clause-plain : goal.enter_input-requires-clause-plain
enter_input-requires-clause-plain c =
    (plain_now (scope_at c.args.scope.now) c.args.stored.now c.loop-place.place _ (omega arith) c.loop-place.invariant.plain).0

pub loop-place-preserved : goal.loop-place-preserved
loop-place-preserved c =
    record {
      so_far = input_turn (scope_at c.args.scope.now) _ c.loop-place.place c.args.stored.now _ _ _ _ _ _ _ _ _ _ (omega arith) c.loop-place.invariant.so_far c.in_ok-enter_input.ensures;
      grows = Grows-trans c.loop-place.invariant.grows c.in_ok-enter_input.ensures.grows;
      plain = plain_rest (scope_at c.args.scope.now) c.args.stored.now c.loop-place.place (omega arith) c.loop-place.invariant.plain;
    }

pub returns : goal.returns
returns c =
    so_far_end (scope_at c.args.scope.now) _ _ _ _ _ _ _ _ (at_drop_all (λ ys. input_rows c.loop-place.place (map (λ n. n.now) ys)) c.args.stored.now c.loop-place.place c.loop-place-test.false)
    c.loop-place.invariant.so_far
