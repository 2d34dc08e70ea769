-- What is so of a list is so of it in another order: what is among it, what is made of it, and that two sets of it meet.
use Rattle.std.proofs.Common.{List, ◌++◌, map, inl, inr}
use Rattle.verilog_meaning.specs.Expression.{Scope}
use Rattle.verilog_designs.specs.Reads.{BitSet}
use Rattle.verilog_unique.proofs.Descent.{IsAmong}
use Rattle.v_drivers.specs.Sets.{OneMeets, TwoMeet}
use Rattle.v_drivers.proofs.Meeting.{turned}
use Rattle.v_flat.specs.Reordered.{AreReordered, none, kept, exchanged, in_turn}
use Rattle.v_flat.proofs.Reordering.{same_order, behind_same, exchanged_lists, all_of}

module _ {A : Type 0} where
  pub turned_order : (xs ys : List A) → AreReordered A xs ys → AreReordered A ys xs
  turned_order _ _ none = none
  turned_order _ _ (kept x xs ys r) = kept x ys xs (turned_order xs ys r)
  turned_order _ _ (exchanged x y xs) = exchanged y x xs
  turned_order _ _ (in_turn xs ys zs r t) = in_turn zs ys xs (turned_order ys zs t) (turned_order xs ys r)

  -- the same with other elements behind them
  pub before_same : (zs xs ys : List A) → AreReordered A xs ys → AreReordered A (xs ++ zs) (ys ++ zs)
  before_same zs _ _ none = same_order zs
  before_same zs _ _ (kept x xs ys r) = kept x (xs ++ zs) (ys ++ zs) (before_same zs xs ys r)
  before_same zs _ _ (exchanged x y xs) = exchanged x y (xs ++ zs)
  before_same zs _ _ (in_turn xs ys us r t) = in_turn (xs ++ zs) (ys ++ zs) (us ++ zs) (before_same zs xs ys r) (before_same zs ys us t)

  pub among_reordered : (xs ys : List A) → AreReordered A xs ys → (z : A) → IsAmong xs z → IsAmong ys z
  among_reordered _ _ none z h = h
  among_reordered _ _ (kept x xs ys r) z (inl e) = inl e
  among_reordered _ _ (kept x xs ys r) z (inr h) = inr (among_reordered xs ys r z h)
  among_reordered _ _ (exchanged x y xs) z (inl e) = inr (inl e)
  among_reordered _ _ (exchanged x y xs) z (inr (inl e)) = inl e
  among_reordered _ _ (exchanged x y xs) z (inr (inr h)) = inr (inr h)
  among_reordered _ _ (in_turn xs ys us r t) z h = among_reordered ys us t z (among_reordered xs ys r z h)

module _ {A B : Type 0} where
  pub map_reordered : (f : A → B) (xs ys : List A) → AreReordered A xs ys → AreReordered B (map f xs) (map f ys)
  map_reordered f _ _ none = none
  map_reordered f _ _ (kept x xs ys r) = kept (f x) (map f xs) (map f ys) (map_reordered f xs ys r)
  map_reordered f _ _ (exchanged x y xs) = exchanged (f x) (f y) (map f xs)
  map_reordered f _ _ (in_turn xs ys zs r t) = in_turn (map f xs) (map f ys) (map f zs) (map_reordered f xs ys r) (map_reordered f ys zs t)

  pub all_reordered : (g : A → List B) (xs ys : List A) → AreReordered A xs ys → AreReordered B (all_of g xs) (all_of g ys)
  all_reordered g _ _ none = none
  all_reordered g _ _ (kept x xs ys r) = behind_same (g x) (all_of g xs) (all_of g ys) (all_reordered g xs ys r)
  all_reordered g _ _ (exchanged x y xs) = exchanged_lists (g x) (g y) (all_of g xs)
  all_reordered g _ _ (in_turn xs ys zs r t) = in_turn (all_of g xs) (all_of g ys) (all_of g zs) (all_reordered g xs ys r) (all_reordered g ys zs t)

-- ---- sets that meet

module _ (s : Scope) where
  one_reordered : (p : BitSet) (xs ys : List BitSet) → AreReordered BitSet xs ys → OneMeets s p xs → OneMeets s p ys
  one_reordered p _ _ none h = h
  one_reordered p _ _ (kept x xs ys r) (inl m) = inl m
  one_reordered p _ _ (kept x xs ys r) (inr h) = inr (one_reordered p xs ys r h)
  one_reordered p _ _ (exchanged x y xs) (inl m) = inr (inl m)
  one_reordered p _ _ (exchanged x y xs) (inr (inl m)) = inl m
  one_reordered p _ _ (exchanged x y xs) (inr (inr h)) = inr (inr h)
  one_reordered p _ _ (in_turn xs ys zs r t) h = one_reordered p ys zs t (one_reordered p xs ys r h)

  pub two_reordered : (xs ys : List BitSet) → AreReordered BitSet xs ys → TwoMeet s xs → TwoMeet s ys
  two_reordered _ _ none h = h
  two_reordered _ _ (kept x xs ys r) (inl h) = inl (one_reordered x xs ys r h)
  two_reordered _ _ (kept x xs ys r) (inr h) = inr (two_reordered xs ys r h)
  two_reordered _ _ (exchanged x y xs) (inl (inl m)) = inl (inl (turned s x y m))
  two_reordered _ _ (exchanged x y xs) (inl (inr h)) = inr (inl h)
  two_reordered _ _ (exchanged x y xs) (inr (inl h)) = inl (inr h)
  two_reordered _ _ (exchanged x y xs) (inr (inr h)) = inr (inr h)
  two_reordered _ _ (in_turn xs ys zs r t) h = two_reordered ys zs t (two_reordered xs ys r h)
