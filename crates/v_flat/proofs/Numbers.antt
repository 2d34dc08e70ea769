-- Names by the numbers of their modules are a naming.
use Rattle.std.proofs.Common.{◌≡◌, ℕ, zero, suc, ◌+◌, ◌<◌, ◌^◌, Bool, true, false, ◌&&◌, cond, List, [], ◌∷◌, ◌++◌, length, ◌⊎◌, inl, inr, refl, sym, ap, ◌∙◌, subst, Some, arith}
use Rattle.std.specs.Prelude.{◌==◌, slice_get, IsTrue}
use Rattle.std.specs.Fmt.{decimal, digits}
use Rattle.std.specs.Str.Parse.{AllDigits}
use Rattle.std.proofs.lemmas.Bool.{cases_Bool, false≢true, or_cases, and_parts, eqb-true}
use Rattle.std.proofs.lemmas.List.{append_assoc, append-nil}
use Rattle.std.proofs.lemmas.Str.Parse.{digit_from_value}
use Rattle.std.proofs.lemmas.Fmt.{decimal_injective, decimal_is_IsNumeral}
use Rattle.wb_values.specs.Value.{Name, same_name}
use Rattle.verilog_meaning.specs.Hierarchy.{all_parameters, declarations, PathStep, Placed}
use Rattle.verilog_meaning.specs.Settled.{Design, IsPlacedIn}
use Rattle.verilog_designs.specs.Names.{is_among, parameter_names, all_instance_names, names_where, declared_names}
use Rattle.verilog_unique.proofs.Fitting.{module_name_of}
use Rattle.verilog_unique.proofs.Options.{same_is, is_same, not_true}
use Rattle.verilog_unique.proofs.Descent.{IsAmong, among_left, among_right, contains_among}
use Rattle.verilog_exists.proofs.Dots.{Plain, dots_tell}
use Rattle.verilog_exists.specs.Exists.{NamesHaveNoDots}
use Rattle.verilog_exists.proofs.Spots.{plain_declared, plain_path}
use Rattle.flat_designs.specs.Flat.{IsNameOf, Naming, IsNaming}
use Rattle.v_places.specs.Below.{Spot}
use Rattle.v_places.specs.Places.{placed_by}
use Rattle.v_places.proofs.Spots.{get_within, same_some}
use Rattle.v_flat.specs.Paths.{front_of, paths_of}
use Rattle.v_flat.specs.Entries.{SpotNames, spot_names, names_at_paths, names_of}
use Rattle.v_flat.specs.Numbered.{number_front, number_among, numbered, numbered_from}
use Rattle.v_flat.specs.Whole.{IsPlacing, AreCalled}
use Rattle.v_flat.proofs.Places.{at_number, at_path_number, paths_length}
use Rattle.v_flat.proofs.Named.{front_apart}
use Rattle.v_flat.proofs.Whole.{Stands, listed, found, one_number}

-- ---- numbers in text

plain_digits : (ds : List ℕ) → AllDigits 10 ds → Plain ds
plain_digits [] d h = absurd h
plain_digits (c ∷ cs) d (inl e) = let f = digit_from_value c d.0 in absurd (omega (arith, f, e))
plain_digits (c ∷ cs) d (inr h) = plain_digits cs d.1 h

pub plain_decimal : (k : ℕ) → k < 2 ^ 64 → Plain (decimal k)
plain_decimal k l = plain_digits (decimal k) (decimal_is_IsNumeral k l).0.1

-- what stands before the first dot
at_dot : (xs ys more other : List ℕ) → Plain xs → Plain ys → xs ++ 46 ∷ more ≡ ys ++ 46 ∷ other → (xs ≡ ys) × (more ≡ other)
at_dot [] [] more other p q e = (refl, cc)
at_dot [] (y ∷ ys) more other p q e = absurd (q (inl cc))
at_dot (x ∷ xs) [] more other p q e = absurd (p (inl cc))
at_dot (x ∷ xs) (y ∷ ys) more other p q e =
    let same : x ≡ y = cc in
    let r = at_dot xs ys more other (λ h. p (inr h)) (λ h. q (inr h)) cc in
    ((λ i. same i ∷ r.0 i), r.1)

-- ---- names have no dots

listed_among : (ns : List Name) (n : Name) → IsTrue (is_among ns n) → IsAmong ns n
listed_among [] n h = absurd (false≢true h)
listed_among (m ∷ ns) n h =
    elim (or_cases (same_name m n) (is_among ns n) h) as (λ _. IsAmong (m ∷ ns) n) [ inl e ↦ inl (same_is m n e) | inr e ↦ inr (listed_among ns n e) ]

plain_name : (d : Design) → NamesHaveNoDots d.source → (p : Placed) (n : Name) → IsPlacedIn d p → IsNameOf p n → Plain n
plain_name d dotless p n at (inl h) k = plain_declared d dotless p n at h k
plain_name d dotless p n at (inr h) k =
    let f = module_name_of d p.path p at in
    dotless f.0 p.of_module n f.1
    (contains_among (declared_names p.of_module) n
    (among_left (names_where (λ e. true) (declarations p.of_module) ++ parameter_names (all_parameters p.of_module)) (all_instance_names p.of_module.items) n
    (among_right (names_where (λ e. true) (declarations p.of_module)) (parameter_names (all_parameters p.of_module)) n
    (listed_among (parameter_names (all_parameters p.of_module)) n h))))
    (contains_among n 46 k)

-- ---- what stands before names tells the number

-- nothing stands before the names of the module with this number
abbrev is_bare : Bool → ℕ → Bool
is_bare b k = b && k == 0

bare_zero : (b : Bool) (k : ℕ) → is_bare b k ≡ true → k ≡ 0
bare_zero b k e = let z = (and_parts b (k == 0) e).1 in eqb-true k 0 z

bare_front : (b : Bool) (k : ℕ) → is_bare b k ≡ true → number_front b k ≡ []
bare_front b k e = ap (λ t. cond t [] (decimal k ++ 46 ∷ [])) e

other_front : (b : Bool) (k : ℕ) → is_bare b k ≡ false → number_front b k ≡ decimal k ++ 46 ∷ []
other_front b k e = ap (λ t. cond t [] (decimal k ++ 46 ∷ [])) e

pub with_dot : (b : Bool) (k : ℕ) (n : Name) → is_bare b k ≡ false → number_front b k ++ n ≡ decimal k ++ 46 ∷ n
with_dot b k n e = ap (λ f. f ++ n) (other_front b k e) ∙ append_assoc (decimal k) (46 ∷ []) n

has_dot : (b : Bool) (k : ℕ) (n m : Name) → is_bare b k ≡ false → n ≡ number_front b k ++ m → IsAmong n 46
has_dot b k n m e h = subst (λ z. IsAmong z 46) (sym (h ∙ with_dot b k m e)) (among_right (decimal k) (46 ∷ m) 46 (inl refl))

front_tells : (b : Bool) (i j : ℕ) (n m : Name) → i < 2 ^ 64 → j < 2 ^ 64 → Plain n → Plain m → number_front b i ++ n ≡ number_front b j ++ m → (i ≡ j) × (n ≡ m)
front_tells b i j n m low_i low_j p q e = by (cases_Bool (is_bare b i)) (cases_Bool (is_bare b j))
  where
    by : (is_bare b i ≡ true) ⊎ (is_bare b i ≡ false) → (is_bare b j ≡ true) ⊎ (is_bare b j ≡ false) → (i ≡ j) × (n ≡ m)
    by (inl g) (inl h) = (bare_zero b i g ∙ sym (bare_zero b j h), ap (λ f. f ++ n) (sym (bare_front b i g)) ∙ e ∙ ap (λ f. f ++ m) (bare_front b j h))
    by (inl g) (inr h) = absurd (p (has_dot b j n m h (ap (λ f. f ++ n) (sym (bare_front b i g)) ∙ e)))
    by (inr g) (inl h) = absurd (q (has_dot b i m n g (ap (λ f. f ++ m) (sym (bare_front b j h)) ∙ sym e)))
    by (inr g) (inr h) =
        let r = at_dot (decimal i) (decimal j) n m (plain_decimal i low_i) (plain_decimal j low_j) (sym (with_dot b i n g) ∙ e ∙ with_dot b j m h) in
        (decimal_injective i j low_i low_j r.0, r.1)

-- ---- the number of a path

first_at : (ps : List (List PathStep)) (k : ℕ) (q : List PathStep) → slice_get ps k ≡ Some q
    → ((j : ℕ) (r : List PathStep) → slice_get ps j ≡ Some r → front_of r ≡ front_of q → j ≡ k) → number_among ps q ≡ k
first_at [] k q e only = cc
first_at (p ∷ ps) zero q e only =
    ap (λ b. cond b 0 (suc (number_among ps q)))
    (subst (λ z. same_name (front_of z) (front_of q) ≡ true) (sym (same_some p q e)) (is_same (front_of q)))
first_at (p ∷ ps) (suc k) q e only =
    ap (λ b. cond b 0 (suc (number_among ps q)))
    (not_true (same_name (front_of p) (front_of q)) (λ t. let z = only 0 p refl (same_is (front_of p) (front_of q) t) in absurd (omega (arith, z))))
    ∙ ap suc (first_at ps k q e (λ j r g i. let z = only (suc j) r g i in omega (arith, z)))

zero_first : (ps : List (List PathStep)) → slice_get ps 0 ≡ Some [] → number_among ps [] ≡ 0
zero_first [] e = refl
zero_first (p ∷ ps) e = ap (λ (z : List PathStep). cond (same_name (front_of z) []) 0 (suc (number_among ps []))) (same_some p [] e)

-- the names of the modules from a number on are those of a naming that puts their numbers before them
numbered_turn : (b : Bool) (called : Naming) (qs : List (List PathStep)) (xs : List Spot) (k : ℕ) → length qs ≡ length xs
    → ((j : ℕ) (q : List PathStep) → slice_get qs j ≡ Some q → called q [] ≡ number_front b (k + j)) → numbered_from b k xs ≡ names_at_paths called qs xs
numbered_turn b called [] [] k l h = refl
numbered_turn b called [] (x ∷ xs) k l h = absurd (omega (arith, l))
numbered_turn b called (q ∷ qs) [] k l h = absurd (omega (arith, l))
numbered_turn b called (q ∷ qs) (x ∷ xs) k l h =
    let none : k + 0 ≡ k = omega arith in
    let front : number_front b k ≡ called q [] = ap (number_front b) (sym none) ∙ sym (h 0 q refl) in
    let rest = numbered_turn b called qs xs (k + 1) (omega (arith, l))
    (λ j r e. let one : k + suc j ≡ k + 1 + j = omega arith in h (suc j) r e ∙ ap (number_front b) one) in
    λ i. spot_names (front i) x ∷ rest i

module _ (b : Bool) (d : Design) (spots : List Spot) (h : IsPlacing d spots) (few : length spots < 2 ^ 64) where
  -- a path has the number of its place
  pub number_is : (k : ℕ) (x : Spot) (q : List PathStep) → Stands d spots k x q → number_among (paths_of spots) q ≡ k
  number_is k x q s =
      first_at (paths_of spots) k q s.is_at.is_there
      (λ j r e g.
      let f = at_path_number spots j r e in
      let t : Stands d spots j f.0 r = listed d spots h j f.0 r f.1 in
      let same = dots_tell r q [] [] (plain_path d h.no_dots r (placed_by r f.0) t.in_design) (plain_path d h.no_dots q (placed_by q x) s.in_design)
      (λ z. absurd z) (λ z. absurd z) g in
      one_number d spots h j k f.0 x r q t s same.0)

  pub number_of_placed : (p : Placed) (at : IsPlacedIn d p) → number_among (paths_of spots) p.path ≡ (found d spots h p at).number
  number_of_placed p at =
      let f = found d spots h p at in
      ap (λ (z : Placed). number_among (paths_of spots) z.path) (sym f.is_placed) ∙ number_is f.number f.spot f.path f.stands

  pub below_all : (p : Placed) (at : IsPlacedIn d p) → number_among (paths_of spots) p.path < 2 ^ 64
  below_all p at =
      let f = found d spots h p at in
      let l = get_within spots f.number f.spot f.stands.is_at.is_spot in
      let e = number_of_placed p at in
      omega (arith, l, e, few)

  numbers_tell : (p q : Placed) (n m : Name) → IsPlacedIn d p → IsPlacedIn d q → IsNameOf p n → IsNameOf q m → numbered b spots p.path n ≡ numbered b spots q.path m
      → (p.path ≡ q.path) × (n ≡ m)
  numbers_tell p q n m at_p at_q is_n is_m e =
      let r = front_tells b (number_among (paths_of spots) p.path) (number_among (paths_of spots) q.path) n m (below_all p at_p) (below_all q at_q)
      (plain_name d h.no_dots p n at_p is_n) (plain_name d h.no_dots q m at_q is_m) e in
      let f = found d spots h p at_p in
      let g = found d spots h q at_q in
      let number : f.number ≡ g.number = sym (number_of_placed p at_p) ∙ r.0 ∙ number_of_placed q at_q in
      let there : slice_get (paths_of spots) g.number ≡ Some f.path
      = subst (λ k. slice_get (paths_of spots) k ≡ Some f.path) number f.stands.is_at.is_there in
      let same : f.path ≡ g.path = same_some f.path g.path (sym there ∙ g.stands.is_at.is_there) in
      (ap (λ (z : Placed). z.path) (sym f.is_placed) ∙ same ∙ ap (λ (z : Placed). z.path) g.is_placed, r.1)

  numbers_are_naming : IsNaming d (numbered b spots)
  numbers_are_naming =
      record { apart = λ p at. front_apart (number_front b (number_among (paths_of spots) p.path)); tells = numbers_tell }

  names_are : numbered_from b 0 spots ≡ names_of (numbered b spots) spots
  names_are =
      let many : length (paths_of spots) ≡ 0 + length spots = paths_length [] spots in
      numbered_turn b (numbered b spots) (paths_of spots) spots 0 (omega (arith, many))
      (λ j q e.
      let f = at_path_number spots j q e in
      let none : 0 + j ≡ j = omega arith in
      append-nil (number_front b (number_among (paths_of spots) q)) ∙ ap (number_front b) (number_is j f.0 q (listed d spots h j f.0 q f.1) ∙ sym none))

-- the top has the number 0
top_is_first : (spots : List Spot) (x : Spot) → slice_get spots 0 ≡ Some x → number_among (paths_of spots) [] ≡ 0
top_is_first [] x e = cc
top_is_first (y ∷ ys) x e =
    let f = at_number (y ∷ ys) 0 y refl in
    let path : f.path ≡ [] = elim f.is_at.is_path as (λ _. f.path ≡ []) [ inl i ↦ (let b : y.parent < 0 = i.before in absurd (omega (arith, b))) | inr i ↦ i.is_path ] in
    zero_first (paths_of (y ∷ ys)) (subst (λ q. slice_get (paths_of (y ∷ ys)) 0 ≡ Some q) path f.is_at.is_there)

pub top_is_plain : (spots : List Spot) (n : Name) → numbered true spots [] n ≡ n
top_is_plain [] n = refl
top_is_plain (x ∷ xs) n = ap (λ k. number_front true k ++ n) (top_is_first (x ∷ xs) x refl)

pub top_number : (spots : List Spot) (x : Spot) → slice_get spots 0 ≡ Some x → numbered false spots [] [] ≡ 48 ∷ 46 ∷ []
unfolding digits
top_number spots x e = ap (λ k. number_front false k ++ []) (top_is_first spots x e)

pub front_numbered : (b : Bool) (spots : List Spot) (q : List PathStep) (n : Name) → numbered b spots q [] ++ n ≡ numbered b spots q n
front_numbered b spots q n = ap (λ f. f ++ n) (append-nil (number_front b (number_among (paths_of spots) q)))

pub numbered_are_called : (b : Bool) (spots : List Spot) (ns : List SpotNames) → length spots < 2 ^ 64 → ns ≡ numbered_from b 0 spots → (d : Design)
    → IsPlacing d spots → AreCalled d (numbered b spots) spots ns
numbered_are_called b spots ns few e d h =
    record {
      naming = numbers_are_naming b d spots h few;
      fronts = front_numbered b spots;
      names = e ∙ names_are b d spots h few;
    }
