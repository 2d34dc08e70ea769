-- What the list of places says of a design.
use Rattle.std.proofs.Common.{◌≡◌, ℕ, suc, ◌<◌, ◌≤◌, Bool, true, false, cond, List, [], ◌∷◌, length, take, refl, sym, ap, subst, Option, Some, None, arith}
use Rattle.verilog_trees.specs.Syntax.{Module, Source}
use Rattle.verilog_meaning.specs.Hierarchy.{module_named}
use Rattle.verilog_meaning.specs.Settled.{Design}
use Rattle.verilog_designs.specs.Accepted.{HasDuplicateName, HasBadHierarchy}
use Rattle.v_places.specs.Below.{Spot, top_spot}
use Rattle.v_places.specs.Walk.{IsWalked, IsWalk}
use Rattle.v_places.specs.Whole.{AreAllPlaces}
use Rattle.v_places.proofs.Walked.{are_places}
use Rattle.v_places.proofs.Bounds.{crowded, not_bad}

take_whole : (xs : List Spot) → take (length xs) xs ≡ xs
take_whole [] = refl
take_whole (x ∷ xs) = ap (λ ys. x ∷ ys) (take_whole xs)

pub all_places : (d : Design) (source : Source) (top : Module) (b : Bool) (spots : List Spot) → d.source ≡ source → module_named d.source d.top ≡ Some top
    → ¬ HasDuplicateName d → IsWalk source top b spots → AreAllPlaces d (cond b (Some spots) None)
all_places d source top b spots e t u w = by_answer b (subst (λ s. IsWalk s top b spots) (sym e) w)
  where
    by_answer : (c : Bool) → IsWalk d.source top c spots → AreAllPlaces d (cond c (Some spots) None)
    by_answer true f =
        let long : length spots ≡ suc (length f.0.rest) = ap length f.0.is in
        let most : length spots ≤ 65537 = f.1 in (
          are_places d top t u (length spots) spots f.0 (take_whole spots),
          not_bad d top t u (length spots) spots f.0 (take_whole spots) (length f.0.rest) (sym long) (omega (arith, long, most)),
        )
    by_answer false f =
        let long : length f.1 ≡ suc (length f.2.rest) = ap length f.2.is in
        let more : 65537 < length f.1 = f.3 in
        let c = crowded d top t u f.0 f.1 f.2 65536 (length f.2.rest) (sym long) (omega (arith, long, more)) in
        HasBadHierarchy.crowded c.0 c.1 c.2
