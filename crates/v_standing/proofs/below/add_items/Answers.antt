use Rattle.std.proofs.Common.{refl, subst, ◌∙◌, arith}
use Rattle.v_syntax.specs.Source.{item_of}
use Rattle.v_standing.specs.Standing.{left_in, numbered, IsBelow, AreAdded}
use Rattle.v_standing.proofs.Adding.{with_rest, no_rest}
use Rattle.v_standing.proofs.below.add_items.Goals as goal

pub loop-item-init : goal.loop-item-init
loop-item-init c = record { added = λ source r os x. x; within = λ n h. h; size = refl }

pub loop-item-preserved : goal.loop-item-preserved
loop-item-preserved c =
    record {
      added = λ source r os y. c.loop-item.invariant.added source r os
          (with_rest source c.args.items.now c.loop-item.item-index c.item-item.result (left_in source c.loop-item.left) (left_in source c.add_item.new.left) r (numbered source c.loop-item.found.items)
          (numbered source c.add_item.new.found.items) os (omega arith)
          (subst (λ i. AreAdded source (IsBelow source (item_of i)) (left_in source c.loop-item.left) (numbered source c.loop-item.found.items) (left_in source c.add_item.new.left) (numbered source c.add_item.new.found.items))
          c.item-item.is (c.in_ok-add_item.ensures.added source)) y);
      within = λ n h. c.in_ok-add_item.ensures.within n (c.loop-item.invariant.within n h);
      size = c.in_ok-add_item.ensures.size ∙ c.loop-item.invariant.size;
    }

pub returns-clause-added : goal.returns-clause-added
returns-clause-added c = λ source.
    c.loop-item.invariant.added source _ _ (no_rest source c.args.items.now c.loop-item.item-index _ _ (omega (arith, c.loop-item-test.false)))
