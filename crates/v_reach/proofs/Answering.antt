-- Where nothing is left to be marked, the marked bits are those that come from the first ones.
use Rattle.std.proofs.Common.{◌≡◌, true, List}
use Rattle.std.specs.Prelude.{IsTrue, ◌↔◌}
use Rattle.verilog_trees.specs.Syntax.{Statement, Item}
use Rattle.verilog_meaning.specs.Expression.{Scope}
use Rattle.verilog_unique.proofs.Descent.{IsAmong, contains_among}
use Rattle.std.proofs.Common.{subst}
use Rattle.verilog_designs.specs.Reads.{BitSet}
use Rattle.verilog_designs.specs.Dependence.{Bit, is_in}
use Rattle.v_masks.specs.Masks.{spread}
use Rattle.v_paths.specs.Premises.{HasNoMemory}
use Rattle.v_depend.specs.Resting.{IsThere}
use Rattle.v_loops.specs.OneModule.{DependsIn, DependsFarIn}
use Rattle.v_loops.specs.Turns.{AreOf}
use Rattle.v_loops.proofs.Steps.{RestsWhereItDepends, there-spread, to-there}
use Rattle.v_loops.proofs.Listed.{by-driver}
use Rattle.v_reach.specs.Coming.{ComesFrom, itself, through}
use Rattle.v_reach.specs.Marking.{IsSpread, IsClosed}

module _ (law : RestsWhereItDepends) (s : Scope) (items : List Item) (xs : List Statement) (o : AreOf s items xs) (before after : BitSet) (none : HasNoMemory s before)
    (f : IsSpread s xs before after) (closed : IsClosed after s xs) where
  step-marked : (u y : Bit) → DependsIn s items u y → is_in after y ≡ true → is_in after u ≡ true
  step-marked u y d h =
      let b = by-driver s items u y d in
      closed b.driver u (contains_among xs b.driver (subst (λ (zs : List Statement). IsAmong zs b.driver) o.same b.stands))
      (b.there, b.assigns, (law (spread after) s b.driver u b.there).1 (y, there-spread s after y (f.free none) (to-there s items u y d) h, b.after))

  far-marked : (u y : Bit) → DependsFarIn s items u y → is_in after y ≡ true → is_in after u ≡ true
  far-marked _ _ (DependsFarIn.step u y d) h = step-marked u y d h
  far-marked _ _ (DependsFarIn.further u x y d g) h = step-marked u x d (far-marked x y g h)

  back : (u : Bit) → ComesFrom s items before u → IsTrue (is_in after u)
  back u (itself h) = f.more u.of_name u.word u.place h
  back u (through y d h) = far-marked u y d (f.more y.of_name y.word y.place h)

  pub marked-comes : (u : Bit) → IsThere s u → IsTrue (is_in after u) ↔ ComesFrom s items before u
  marked-comes u there = (f.come items before o none (λ z t h. itself h) u there, back u)
