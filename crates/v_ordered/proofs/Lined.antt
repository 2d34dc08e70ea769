-- A list of names for each place, made of those of the places that stand in it.
use Rattle.std.proofs.Common.{◌≡◌, ◌∙◌, ◌<◌, ◌≤◌, ◌+◌, ◌-◌, ℕ, zero, suc, refl, ap, sym, arith, List, [], ◌∷◌, ◌++◌, map, length, get_or, Option, Some, None, Bor}
use Rattle.std.specs.BTreeMap.{BTreeMap}
use Rattle.std.proofs.lemmas.List.{append_assoc, append-nil, length-map}
use Rattle.wb_values.specs.Value.{Name}
use Rattle.verilog_registers.specs.Order.{Member, net, instance, members_in}
use Rattle.v_hier.specs.Tables.{under_name}
use Rattle.v_syntax.specs.Source.{module_of}
use Rattle.v_places.specs.declared.place.Place.{Place}
use Rattle.v_places.specs.Below.{Spot, nowhere}
use Rattle.v_places.specs.Views.{spot_of, spots_of}
use Rattle.v_ordered.specs.Lines.{list_at, one_name, line, AreBelow}
use Rattle.v_ordered.specs.Tables.{text_under, text_at, number_at, members_at, line_at}

-- ---- the names of members

pub line_append : (f : Name → Option Name) (child : Name → Option ℕ) (lists : ℕ → List Name) (xs ys : List Member)
    → line f child lists (xs ++ ys) ≡ line f child lists xs ++ line f child lists ys
line_append f child lists [] ys = refl
line_append f child lists (net n ∷ xs) ys =
    ap (λ ns. one_name (f n) ++ ns) (line_append f child lists xs ys) ∙ sym (append_assoc (one_name (f n)) (line f child lists xs) (line f child lists ys))
line_append f child lists (instance u ∷ xs) ys =
    ap (λ ns. list_at lists (child u) ++ ns) (line_append f child lists xs ys)
    ∙ sym (append_assoc (list_at lists (child u)) (line f child lists xs) (line f child lists ys))

-- they rest on the lists of the places below alone
line_same : (f : Name → Option Name) (child : Name → Option ℕ) (l m : ℕ → List Name) → ((u : Name) (c : ℕ) → child u ≡ Some c → l c ≡ m c) → (xs : List Member)
    → line f child l xs ≡ line f child m xs
line_same f child l m h [] = refl
line_same f child l m h (net n ∷ xs) = ap (λ ns. one_name (f n) ++ ns) (line_same f child l m h xs)
line_same f child l m h (instance u ∷ xs) =
    ap (λ ns. ns ++ line f child l xs) (by (child u) refl) ∙ ap (λ ns. list_at m (child u) ++ ns) (line_same f child l m h xs)
  where
    by : (o : Option ℕ) → child u ≡ o → list_at l o ≡ list_at m o
    by None e = refl
    by (Some c) e = h u c e

-- ---- the list of a place: these first, and then the names of its module

module _ (front : List Name) (f : ℕ → Name → Option Name) (child : ℕ → Name → Option ℕ) (members : ℕ → List Member) where
  -- where so many places are left, from this one on
  abbrev pub list_within : ℕ → ℕ → List Name
  list_within zero k = front
  list_within (suc n) k = front ++ line (f k) (child k) (list_within n) (members k)

  -- where there are so many places
  abbrev pub list_of : ℕ → ℕ → List Name
  list_of count k = list_within (count - k) k

  module _ (count : ℕ) (later : (k : ℕ) (u : Name) (c : ℕ) → child k u ≡ Some c → k < c) (past : (k : ℕ) → count ≤ k → members k ≡ []) where
    same_within : (n m k : ℕ) → count ≤ n + k → count ≤ m + k → list_within n k ≡ list_within m k
    same_within zero zero k l w = refl
    same_within zero (suc m) k l w =
        sym (append-nil front) ∙ ap (λ xs. front ++ line (f k) (child k) (list_within m) xs) (sym (past k (omega (arith, l))))
    same_within (suc n) zero k l w = ap (λ xs. front ++ line (f k) (child k) (list_within n) xs) (past k (omega (arith, w))) ∙ append-nil front
    same_within (suc n) (suc m) k l w =
        ap (λ ns. front ++ ns)
        (line_same (f k) (child k) (list_within n) (list_within m)
        (λ u c e. let b = later k u c e in same_within n m c (omega (arith, l, b)) (omega (arith, w, b))) (members k))

    pub list_is : (k : ℕ) → list_of count k ≡ front ++ line (f k) (child k) (list_of count) (members k)
    list_is k =
        same_within (count - k) (suc (count - k)) k (omega arith) (omega arith)
        ∙ ap (λ ns. front ++ ns)
        (line_same (f k) (child k) (list_within (count - k)) (list_of count)
        (λ u c e. let b = later k u c e in same_within (count - k) (count - c) c (omega (arith, b)) (omega arith)) (members k))

-- ---- the same by the code's tables

none_past : (spots : List Spot) (k : ℕ) → length spots ≤ k → members_at spots k ≡ []
none_past [] k l = refl
none_past (x ∷ spots) zero l = absurd (omega (arith, l))
none_past (x ∷ spots) (suc k) l = none_past spots k (omega (arith, l))

abbrev pub listed : List Name → List Spot → List (BTreeMap (Bor (List ℕ)) (Bor (List ℕ))) → List (BTreeMap (Bor (List ℕ)) ℕ) → ℕ → List Name
listed front spots ts bs = list_of front (text_at ts) (number_at bs) (members_at spots) (length spots)

pub listed_is : (front : List Name) (spots : List Spot) (ts : List (BTreeMap (Bor (List ℕ)) (Bor (List ℕ)))) (bs : List (BTreeMap (Bor (List ℕ)) ℕ))
    → ((k : ℕ) → AreBelow spots k (number_at bs k)) → (k : ℕ) → listed front spots ts bs k ≡ front ++ line_at spots ts bs (listed front spots ts bs) k
listed_is front spots ts bs below k =
    list_is front (text_at ts) (number_at bs) (members_at spots) (length spots) (λ j u c e. let b = (below j).each u c e in b.3) (none_past spots) k

-- what stands at a number
there : {A B : Type 0} (f : A → B) (xs : List A) (i : ℕ) (d : A) (e : B) → i < length xs → get_or (map f xs) i e ≡ f (get_or xs i d)
there f [] i d e l = absurd (omega (arith, l))
there f (x ∷ xs) zero d e l = refl
there f (x ∷ xs) (suc i) d e l = there f xs i d e (omega (arith, l))

module _ (ps : List Place) (ts : List (BTreeMap (Bor (List ℕ)) (Bor (List ℕ)))) (bs : List (BTreeMap (Bor (List ℕ)) ℕ)) (names : length ts ≡ length ps)
    (numbers : length bs ≡ length ps) (lists : ℕ → List Name) (k : ℕ) where
  -- past the end stands nothing
  pub no_line : length ps ≤ k → line_at (spots_of ps) ts bs lists k ≡ []
  no_line l =
      let same = length-map ps spot_of in
      ap (λ xs. line (text_at ts k) (number_at bs k) lists xs) (none_past (spots_of ps) k (omega (arith, l, same)))

  pub line_there : (d : Place) (t e : BTreeMap (Bor (List ℕ)) (Bor (List ℕ))) (b g : BTreeMap (Bor (List ℕ)) ℕ) → k < length ps → t ≡ get_or ts k e → b ≡ get_or bs k g
      → line (text_under t) (under_name b) lists (members_in (module_of (get_or ps k d).within.now)) ≡ line_at (spots_of ps) ts bs lists k
  line_there d t e b g l ist isb =
      ap (λ n. line n (under_name b) lists (members_in (module_of (get_or ps k d).within.now)))
      (ap text_under ist ∙ sym (there text_under ts k e (λ n. None) (omega (arith, names, l))))
      ∙ ap (λ n. line (text_at ts k) n lists (members_in (module_of (get_or ps k d).within.now)))
      (ap under_name isb ∙ sym (there under_name bs k g (λ n. None) (omega (arith, numbers, l))))
      ∙ ap (λ (x : Spot). line (text_at ts k) (number_at bs k) lists (members_in x.of_module)) (sym (there spot_of ps k d nowhere l))
