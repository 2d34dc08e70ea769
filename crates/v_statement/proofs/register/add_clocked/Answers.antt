use Rattle.std.proofs.Common.{◌∙◌, ◌++◌, ◌∷◌, [], ◌+◌, ap, subst, map, drop, arith}
use Rattle.verilog_meaning.specs.Register.{clocked_blocks, updates_of_blocks}
use Rattle.v_value.specs.Scope.{scope_at, valuation_at}
use Rattle.v_syntax.specs.Source.{item_of}
use Rattle.v_statement.specs.Places.{updates_of}
use Rattle.v_statement.specs.Registers.{AreNarrowBlocks}
use Rattle.v_statement.proofs.Runs.{rest_is}
use Rattle.v_statement.proofs.Edges.{clocked-more, narrow-first, item-turn}
use Rattle.v_statement.proofs.register.add_clocked.Goals as goal

pub add_item-requires-clause-narrow : goal.add_item-requires-clause-narrow
add_item-requires-clause-narrow c =
    let s = scope_at c.args.scope.now in
    let r = c.item-item.result in
    let i = c.loop-item.item-index in
    let rest = rest_is c.args.items.now i r (omega arith) c.item-item.is in
    let later = map item_of (drop (i + 1) c.args.items.now) in
    (narrow-first s (clocked_blocks (item_of r ∷ [])) (clocked_blocks later)
    (subst (AreNarrowBlocks s) (ap (λ is. clocked_blocks (map item_of is)) rest ∙ clocked-more (item_of r) later) c.loop-item.invariant.narrow)).0

pub loop-item-preserved : goal.loop-item-preserved
loop-item-preserved c =
    let s = scope_at c.args.scope.now in
    let v = valuation_at c.args.values.now in
    let r = c.item-item.result in
    let i = c.loop-item.item-index in
    let us = updates_of c.loop-item.updates.items in
    let rest = rest_is c.args.items.now i r (omega arith) c.item-item.is in
    let later = map item_of (drop (i + 1) c.args.items.now) in
    record {
      same = c.loop-item.invariant.same
          ∙ ap (λ is. us ++ updates_of_blocks s v (clocked_blocks (map item_of is))) rest
          ∙ item-turn s v us (updates_of c.add_item.new.updates.items) (item_of r) later c.in_ok-add_item.ensures;
      narrow = (narrow-first s (clocked_blocks (item_of r ∷ [])) (clocked_blocks later)
          (subst (AreNarrowBlocks s) (ap (λ is. clocked_blocks (map item_of is)) rest ∙ clocked-more (item_of r) later) c.loop-item.invariant.narrow)).1;
    }
