use Rattle.std.proofs.Common.{◌∙◌, ◌+◌, ◌++◌, [], ◌∷◌, drop, ap, subst, arith}
use Rattle.std.specs.Prelude.{map}
use Rattle.std.proofs.lemmas.List.{at_drop_all, map-append}
use Rattle.verilog_meaning.specs.Register.{combinational_blocks}
use Rattle.v_value.specs.Scope.{scope_at}
use Rattle.v_syntax.specs.Source.{item_of}
use Rattle.v_statement.proofs.Runs.{rest_is}
use Rattle.v_drivers.specs.Sets.{assigned_by, blocks_drivers}
use Rattle.v_drivers.specs.Premises.{AreNarrowBlocks}
use Rattle.v_drivers.specs.Lists.{sets_in}
use Rattle.v_drivers.proofs.Driving.{turn, end, narrow-blocks-append, combinational-of-items}
use Rattle.v_drivers.proofs.block.add_combinational.Goals as goal

pub add_if_combinational-requires-clause-narrow : goal.add_if_combinational-requires-clause-narrow
add_if_combinational-requires-clause-narrow c =
    let s = (scope_at c.args.scope.now) in
    let xs = c.args.items.now in
    let i = c.loop-item.item-index in
    let r = c.item-item.result in
    let more = map item_of (drop (i + 1) xs) in
    let rest = ap (λ ys. combinational_blocks (map item_of ys)) (rest_is xs i r (omega arith) c.item-item.is) ∙ combinational-of-items (item_of r) more in
    (narrow-blocks-append s (combinational_blocks (item_of r ∷ [])) (combinational_blocks more) (subst (AreNarrowBlocks s) rest c.loop-item.invariant.narrow)).0

pub loop-item-preserved : goal.loop-item-preserved
loop-item-preserved c =
    let s = (scope_at c.args.scope.now) in
    let xs = c.args.items.now in
    let i = c.loop-item.item-index in
    let r = c.item-item.result in
    let more = map item_of (drop (i + 1) xs) in
    let rest = ap (λ ys. combinational_blocks (map item_of ys)) (rest_is xs i r (omega arith) c.item-item.is) ∙ combinational-of-items (item_of r) more in
    record {
      same = turn _ _ _ _ _
          (c.loop-item.invariant.same
          ∙ ap (λ z. sets_in c.loop-item.drivers.items ++ z) (ap (blocks_drivers s) rest ∙ map-append (assigned_by s) (combinational_blocks (item_of r ∷ [])) (combinational_blocks more)))
          c.in_ok-add_if_combinational.ensures;
      narrow = (narrow-blocks-append s (combinational_blocks (item_of r ∷ [])) (combinational_blocks more) (subst (AreNarrowBlocks s) rest c.loop-item.invariant.narrow)).1;
    }

pub returns : goal.returns
returns c =
    let s = (scope_at c.args.scope.now) in
    end _ _ _ c.loop-item.invariant.same
    (at_drop_all (λ ys. blocks_drivers s (combinational_blocks (map item_of ys))) c.args.items.now c.loop-item.item-index c.loop-item-test.false)
