-- When all modules of the list were gone through, they are those that stand in the design.
use Rattle.std.proofs.Common.{◌≡◌, ◌∙◌, refl, ap, sym, subst, ℕ, zero, suc, ◌+◌, ◌<◌, ◌≤◌, List, [], ◌∷◌, ◌++◌, ◌⊎◌, inl, inr, Contains, add-one, length, get_or, Option, Some, None, arith}
use Rattle.wb_values.specs.Value.{Name}
use Rattle.verilog_trees.specs.Syntax.{Connections, Item, instances, Module, Source}
use Rattle.verilog_meaning.specs.Hierarchy.{module_named}
use Rattle.verilog_meaning.specs.Settled.{Design}
use Rattle.verilog_designs.specs.Accepted.{StandsIn, at_top, below as stands_below}
use Rattle.v_standing.specs.Standing.{numbered, module_at, AreStanding, IsAmong, IsBelow, IsBelowOne, AreLeft, AreAdded}
use Rattle.v_standing.proofs.Adding.{among_left, among_either}

-- the first elements of a list
abbrev pub front : ℕ → List Module → List Module
front zero xs = []
front (suc k) [] = []
front (suc k) (x ∷ xs) = x ∷ front k xs

front_more : (source : Source) (ns : List ℕ) (ys : List Module) (k d : ℕ) → k < length ns
    → front (suc k) (numbered source ns ++ ys) ≡ front k (numbered source ns) ++ module_at source (get_or ns k d) ∷ []
front_more source [] ys k d h = absurd (omega (arith, h))
front_more source (n ∷ ns) ys zero d h = refl
front_more source (n ∷ ns) ys (suc k) d h = ap (λ z. module_at source n ∷ z) (front_more source ns ys k d (omega (arith, h)))

front_all : (source : Source) (ns : List ℕ) (k : ℕ) → length ns ≤ k → front k (numbered source ns) ≡ numbered source ns
front_all source [] zero h = refl
front_all source [] (suc k) h = refl
front_all source (n ∷ ns) zero h = absurd (omega (arith, h))
front_all source (n ∷ ns) (suc k) h = ap (λ z. module_at source n ∷ z) (front_all source ns k (omega (arith, h)))

-- The modules of the list stand in the design, its top is among them, and so is what stands directly below the first k of them.
pub record AreReached (d : Design) (left : Name → Option Module) (ms : List Module) (k : ℕ) : Type 0 where
  pub is_left : AreLeft d.source left ms
  pub stand : (m : Module) → IsAmong ms m → StandsIn d m
  pub top : (m : Module) → module_named d.source d.top ≡ Some m → IsAmong ms m
  pub below : (m n : Module) → IsAmong (front k ms) m → IsBelowOne d.source m.items n → IsAmong ms n

-- at the start, with the top alone
pub begun : (d : Design) (all left : Name → Option Module) (ms : List Module) → ((q : Name) → all q ≡ module_named d.source q)
    → AreAdded d.source (λ n. module_named d.source d.top ≡ Some n) all [] left ms → AreReached d left ms 0
begun d all left ms e x =
    record {
      is_left = x.keeps start;
      stand = λ m h. at_top m (x.are_so start m (subst (λ z. IsAmong z m) x.behind h));
      top = λ m h. x.all start m h;
      below = λ m n h. absurd h;
    }
  where
    never : (k : Name) (n : Module) → all k ≡ None → module_named d.source k ≡ Some n → IsAmong [] n
    never k n h w = none_is (sym h ∙ (e k ∙ w))
      where
        none_is : None ≡ Some n → IsAmong [] n
        none_is f = subst (λ o. is o) f tt
          where
            is : Option Module → Type 0
            is None = Unit {0}
            is (Some y) = ⊥

    start : AreLeft d.source all []
    start = record { left_are = λ k n h. sym (e k) ∙ h; found_are = never }

-- what stands below by an item
by_item : (d : Design) (m n : Module) (items : List Item) → StandsIn d m → ((i : Item) → Contains items i → Contains m.items i) → IsBelowOne d.source items n → StandsIn d n
by_item d m n [] s f h = absurd h
by_item d m n (i ∷ items) s f (inl h) = one i (f i (0, omega arith, refl)) h
  where
    one : (j : Item) → Contains m.items j → IsBelow d.source j n → StandsIn d n
    one (instances k given is) c h = stands_below m n k given is s c h
    one _ c h = absurd h
by_item d m n (i ∷ items) s f (inr h) = by_item d m n items s (λ j c. f j (suc c.0, omega (arith, c.1), c.2)) h

-- The next module was gone through.
pub stepped : (d : Design) (ms ns : List ℕ) (k e : ℕ) (l r : Name → Option Module) → k < length ms
    → AreReached d l (numbered d.source ms) k → AreAdded d.source (IsBelowOne d.source (module_at d.source (get_or ms k e)).items) l (numbered d.source ms) r (numbered d.source ns)
    → AreReached d r (numbered d.source ns) (k + 1)
stepped d ms ns k e l r h a x =
    record {
      is_left = x.keeps a.is_left;
      stand = λ m g. stands m (among_either (numbered d.source ms) x.added m (subst (λ z. IsAmong z m) x.behind g));
      top = λ m g. old m (a.top m g);
      below = λ m n g b. below m n (among_either (front k (numbered d.source ms)) (this ∷ []) m (subst (λ z. IsAmong z m) fronts g)) b;
    }
  where
    this : Module
    this = module_at d.source (get_or ms k e)

    old : (m : Module) → IsAmong (numbered d.source ms) m → IsAmong (numbered d.source ns) m
    old m g = subst (λ z. IsAmong z m) (sym x.behind) (among_left (numbered d.source ms) x.added m g)

    this_among : (xs : List ℕ) (j : ℕ) → j < length xs → IsAmong (numbered d.source xs) (module_at d.source (get_or xs j e))
    this_among [] j i = absurd (omega (arith, i))
    this_among (y ∷ xs) zero i = inl refl
    this_among (y ∷ xs) (suc j) i = inr (this_among xs j (omega (arith, i)))

    stands : (m : Module) → IsAmong (numbered d.source ms) m ⊎ IsAmong x.added m → StandsIn d m
    stands m (inl g) = a.stand m g
    stands m (inr g) = by_item d this m this.items (a.stand this (this_among ms k h)) (λ i c. c) (x.are_so a.is_left m g)

    fronts : front (k + 1) (numbered d.source ns) ≡ front k (numbered d.source ms) ++ this ∷ []
    fronts = ap (λ j. front j (numbered d.source ns)) (add-one k) ∙ (ap (front (suc k)) x.behind ∙ front_more d.source ms x.added k e h)

    below : (m n : Module) → IsAmong (front k (numbered d.source ms)) m ⊎ IsAmong (this ∷ []) m → IsBelowOne d.source m.items n → IsAmong (numbered d.source ns) n
    below m n (inl g) b = old n (a.below m n g b)
    below m n (inr (inl p)) b = x.all a.is_left n (subst (λ y. IsBelowOne d.source y.items n) (sym p) b)
    below m n (inr (inr g)) b = absurd g

contained : (ms : List Module) (m : Module) → IsAmong ms m → Contains ms m
contained [] m h = absurd h
contained (x ∷ ms) m (inl e) = (0, omega arith, e)
contained (x ∷ ms) m (inr h) = let c : Contains ms m = contained ms m h in (suc c.0, omega (arith, c.1), c.2)

among : (ms : List Module) (m : Module) → Contains ms m → IsAmong ms m
among [] m c = absurd (omega (arith, c.1))
among (x ∷ ms) m c = at (λ z. among ms m z) c.0 c.1 c.2
  where
    at : (Contains ms m → IsAmong ms m) → (k : ℕ) → k < length (x ∷ ms) → get_or (x ∷ ms) k m ≡ m → IsAmong (x ∷ ms) m
    at f zero l e = inl e
    at f (suc k) l e = inr (f (k, omega (arith, l), e))

by_contained : (source : Source) (items : List Item) (n : Module) (k : Name) (given : Connections) (is : List (Name × Connections)) → Contains items (instances k given is)
    → module_named source k ≡ Some n → IsBelowOne source items n
by_contained source [] n k given is c h = absurd (omega (arith, c.1))
by_contained source (i ∷ items) n k given is c h = at (λ z. by_contained source items n k given is z h) c.0 c.1 c.2
  where
    at : (Contains items (instances k given is) → IsBelowOne source items n) → (j : ℕ) → j < length (i ∷ items)
        → get_or (i ∷ items) j (instances k given is) ≡ instances k given is → IsBelowOne source (i ∷ items) n
    at f zero l e = inl (subst (λ x. IsBelow source x n) (sym e) h)
    at f (suc j) l e = inr (f (j, omega (arith, l), e))

pub finished : (d : Design) (left : Name → Option Module) (ns : List ℕ) (k : ℕ) → length ns ≤ k → AreReached d left (numbered d.source ns) k → AreStanding d (numbered d.source ns)
finished d left ns k h a = record { standing = λ m c. a.stand m (among (numbered d.source ns) m c); all = λ m s. contained (numbered d.source ns) m (each m s) }
  where
    each : (m : Module) → StandsIn d m → IsAmong (numbered d.source ns) m
    each m (at_top _ e) = a.top m e
    each m (stands_below o _ q given is s c e) =
        a.below o m (subst (λ z. IsAmong z o) (sym (front_all d.source ns k h)) (each o s)) (by_contained d.source o.items m q given is c e)
