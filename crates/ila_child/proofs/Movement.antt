-- Lemmas on a model that takes one step after another: the values of its names before a step, and after it.
use Rattle.std.proofs.Common.{◌≡◌, ℕ, zero, suc, ◌+◌, ◌-◌, ◌<◌, ◌≤◌, List, [], ◌∷◌, ◌++◌, length, get_or, set, take, drop, Option, Some, None, refl, sym, ap, ◌∙◌, subst, arith, append_assoc}
use Rattle.std.proofs.lemmas.Bool.{and_parts}
use Rattle.std.proofs.lemmas.List.{get_or-take, get_or-drop, get_or-set_same, drop_more, length-set, length-take, take_at}
use Rattle.wb_values.specs.Value as meaning
use Rattle.wb_values.specs.Value.{Name, Sort, truth, number, Entries, Valuation, HasSort}
use Rattle.model_meaning.specs.Instruction.{DoesChild, ChildTrouble}
use Rattle.wb_terms.specs.Environment.{AreOfSorts}
use Rattle.term_evaluation.specs.Links.{valuation_at}
use Rattle.ila_model.specs.declared.parts.Instruction.{Instruction}
use Rattle.ila_model.specs.declared.parts.Parts.{Parts}
use Rattle.ila_model.specs.Scope.{nesting}
use Rattle.ila_model.specs.Sorted.{sort_at, is_condition}
use Rattle.term_evaluation.specs.Slots.{zero_of as zero_in}
use Rattle.ila_model.specs.Meaning.{zero_of, program_of}
use Rattle.ila_model.proofs.Declarations.{AreSorted}
use Rattle.ila_child.specs.declared.running.Trouble.{Trouble}
use Rattle.ila_child.specs.declared.running.Trouble.TheVariants.{Stuck, TooLong}
use Rattle.ila_child.specs.Running.{seen, point_at, trouble_of, IsRun}
use Rattle.ila_child.specs.Start.{zeros_of, IsPointOf, IsTroubledAt, IsStart, IsGoingOn, stop_of}
use Rattle.ila_child.specs.Updating.{value_at, with_updates}
use Rattle.ila_child.specs.Runs.{stepped_of, Stays, with_values}
use Rattle.ila_child.proofs.Updates.{AreOfSorts-length, AreOfSorts-at, AreOfSorts-set}
use Rattle.ila_child.proofs.Points.{updated_point}
use Rattle.ila_child.proofs.Machines.{IsSorted, sorted_at}
use Rattle.ila_child.proofs.Initial.{same_zero}
use Rattle.ila_child.proofs.Effects.{found_at}
use Rattle.ila_child.proofs.Starts.{AreOfSorts-append, zeros_sorted, whole, first_values}

append_nothing : (vs : List meaning.Value) → vs ++ [] ≡ vs
append_nothing [] = refl
append_nothing (v ∷ vs) = ap (λ (ws : List meaning.Value). v ∷ ws) (append_nothing vs)

take_set : (xs : List meaning.Value) (n k : ℕ) (w : meaning.Value) → n ≤ k → take n (set xs k w) ≡ take n xs
take_set xs zero k w h = refl
take_set [] (suc n) k w h = refl
take_set (x ∷ xs) (suc n) zero w h = absurd (omega arith)
take_set (x ∷ xs) (suc n) (suc k) w h = ap (λ (ys : List meaning.Value). x ∷ ys) (take_set xs n k w (omega arith))

-- values from a place on leave those before it
pub with_values-front : (k : ℕ) (ws xs : List meaning.Value) (n : ℕ) → n ≤ k → take n (with_values k ws xs) ≡ take n xs
with_values-front k [] xs n h = refl
with_values-front k (w ∷ ws) xs n h = with_values-front (suc k) ws (set xs k w) n (omega arith) ∙ take_set xs n k w h

pub length-with_values : (k : ℕ) (ws xs : List meaning.Value) → length (with_values k ws xs) ≡ length xs
length-with_values k [] xs = refl
length-with_values k (w ∷ ws) xs = length-with_values (suc k) ws (set xs k w) ∙ length-set xs k w

below_stays : (k j : ℕ) (ws xs : List meaning.Value) → j < k → value_at (with_values k ws xs) j ≡ value_at xs j
below_stays k j [] xs h = refl
below_stays k j (w ∷ ws) xs h = below_stays (suc k) j ws (set xs k w) (omega arith) ∙ other xs k j w h
  where
    other : (ys : List meaning.Value) (i l : ℕ) (v : meaning.Value) → l < i → value_at (set ys i v) l ≡ value_at ys l
    other [] i l v b = refl
    other (y ∷ ys) zero l v b = absurd (omega arith)
    other (y ∷ ys) (suc i) zero v b = refl
    other (y ∷ ys) (suc i) (suc l) v b = other ys i l v (omega arith)

-- and they are there
pub with_values-there : (k : ℕ) (ws xs : List meaning.Value) → k + length ws ≤ length xs → take (length ws) (drop k (with_values k ws xs)) ≡ ws
with_values-there k [] xs h = refl
with_values-there k (w ∷ ws) xs h =
    let ys = with_values (suc k) ws (set xs k w) in
    let b : k < length ys = omega (arith, h, length-with_values (suc k) ws (set xs k w), length-set xs k w) in
    let s : k < length xs = omega (arith, h) in
    let e : k + 1 ≡ suc k = omega arith in
    ap (take (suc (length ws))) (drop_more ys k (number 0) b)
    ∙ ap (λ (v : meaning.Value). v ∷ take (length ws) (drop (k + 1) ys)) (below_stays (suc k) k ws (set xs k w) (omega arith) ∙ get_or-set_same xs k w (number 0) s)
    ∙ ap (λ (j : ℕ). w ∷ take (length ws) (drop j ys)) e
    ∙ ap (λ (vs : List meaning.Value). w ∷ vs) (with_values-there (suc k) ws (set xs k w) (omega (arith, h, length-set xs k w)))

-- they fit the names
pub with_values-sorted : (ns : Entries Sort) (k : ℕ) (ws xs : List meaning.Value) → ((j : ℕ) → j < length ws → HasSort (value_at ws j) (sort_at ns (k + j))) → AreOfSorts ns xs → AreOfSorts ns (with_values k ws xs)
with_values-sorted ns k [] xs f h = h
with_values-sorted ns k (w ∷ ws) xs f h =
    let z : k + 0 ≡ k = omega arith in
    with_values-sorted ns (suc k) ws (set xs k w)
    (λ j b. let e : k + suc j ≡ suc k + j = omega arith in subst (λ (i : ℕ). HasSort (value_at ws j) (sort_at ns i)) e (f (suc j) (omega arith)))
    (AreOfSorts-set ns xs k w h (subst (λ (i : ℕ). HasSort w (sort_at ns i)) z (f 0 (omega arith))))

-- each input is of the sort of its name
pub input_sort : (ns : Entries Sort) (n m : ℕ) (ws : List meaning.Value) (k : ℕ) → AreOfSorts (take m (drop n ns)) ws → k < length ws → HasSort (value_at ws k) (sort_at ns (n + k))
input_sort ns n m ws k a h =
    let xs = take m (drop n ns) in
    let long = AreOfSorts-length xs ws a in
    let there : k < length xs = omega (arith, h, long) in
    let low : k < m = omega (arith, there, length-take m (drop n ns)) in
    let same : get_or xs k ([], truth) ≡ get_or ns (n + k) ([], truth) = get_or-take m (drop n ns) k ([], truth) low ∙ get_or-drop n ns k ([], truth) in
    subst (λ (e : Name × Sort). HasSort (value_at ws k) e.1) same (AreOfSorts-at xs ws k a there)

pub AreOfSorts-short : (ns : Entries Sort) (n m : ℕ) (ws : List meaning.Value) → AreOfSorts (take m (drop n ns)) ws → length ws ≤ m
AreOfSorts-short ns n m ws a = omega (arith, AreOfSorts-length (take m (drop n ns)) ws a, length-take m (drop n ns))

-- none is left to be given
pub values_left : (j k : ℕ) (ws xs : List meaning.Value) → length ws ≤ k → xs ≡ with_values j (drop k ws) xs
values_left j zero [] xs h = refl
values_left j (suc k) [] xs h = refl
values_left j zero (w ∷ ws) xs h = absurd (omega arith)
values_left j (suc k) (w ∷ ws) xs h = values_left j k ws xs (omega arith)

-- one value is given
pub with_values-turn : (first k : ℕ) (ws xs : List meaning.Value) (d : meaning.Value) → k < length ws → with_values (first + (k + 1)) (drop (k + 1) ws) (set xs (first + k) (get_or ws k d)) ≡ with_values (first + k) (drop k ws) xs
with_values-turn first k ws xs d h =
    let e : first + (k + 1) ≡ suc (first + k) = omega arith in
    ap (λ (j : ℕ). with_values j (drop (k + 1) ws) (set xs (first + k) (get_or ws k d))) e
    ∙ sym (ap (λ (vs : List meaning.Value). with_values (first + k) vs xs) (drop_more ws k d h))

-- the values with which a model begins, all but its state zeros
pub first_fits : (ns : Entries Sort) (n : ℕ) (q : List meaning.Value) → n ≤ length ns → AreOfSorts (take n ns) q → AreOfSorts ns (q ++ zeros_of (drop (length q) ns))
first_fits ns n q w h =
    let l : length q ≡ n = omega (arith, AreOfSorts-length (take n ns) q h, length-take n ns) in
    let front = subst (λ (k : ℕ). AreOfSorts (take k ns) q) (sym l) h in
    subst (λ (t : Entries Sort). AreOfSorts t (q ++ zeros_of (drop (length q) ns))) (whole (length q) ns)
    (AreOfSorts-append (take (length q) ns) (drop (length q) ns) q (zeros_of (drop (length q) ns)) front (zeros_sorted (drop (length q) ns)))

-- the first values of one list before the others of a second one
pub mixed_fits : (ns : Entries Sort) (n : ℕ) (xs ys : List meaning.Value) → AreOfSorts ns xs → AreOfSorts ns ys → AreOfSorts ns (take n xs ++ drop n ys)
mixed_fits ns zero xs ys a b = b
mixed_fits [] (suc n) [] [] a b = tt
mixed_fits [] (suc n) [] (y ∷ ys) a b = absurd b
mixed_fits [] (suc n) (x ∷ xs) ys a b = absurd a
mixed_fits (m ∷ ns) (suc n) [] ys a b = absurd a
mixed_fits (m ∷ ns) (suc n) (x ∷ xs) [] a b = absurd b
mixed_fits (m ∷ ns) (suc n) (x ∷ xs) (y ∷ ys) a b = (a.0, mixed_fits ns n xs ys a.1 b.1)

pub put_back-turn : (kept xs : List meaning.Value) (k : ℕ) → k < length kept → k < length xs → set (take k kept ++ drop k xs) k (get_or kept k (number 0)) ≡ take (k + 1) kept ++ drop (k + 1) xs
put_back-turn [] xs k a b = absurd (omega arith)
put_back-turn (v ∷ kept) [] k a b = absurd (omega arith)
put_back-turn (v ∷ kept) (x ∷ xs) zero a b = refl
put_back-turn (v ∷ kept) (x ∷ xs) (suc k) a b =
    let e : suc (k + 1) ≡ suc k + 1 = omega arith in
    ap (λ (ys : List meaning.Value). v ∷ ys) (put_back-turn kept xs k (omega arith) (omega arith))
    ∙ ap (λ (j : ℕ). take j (v ∷ kept) ++ drop j (x ∷ xs)) e

-- what the program of an instruction does after its updates is what the instruction does
pub gone_on : (p : Parts) (s : AreSorted p) (k : ℕ) (x : Instruction) (e f h : List meaning.Value) (o : Option Trouble) → k < length p.instructions.items → x ≡ get_or p.instructions.items k x
    → AreOfSorts p.terms.names e → f ≡ with_updates p.terms (valuation_at p.terms e) x.updates.items e → AreOfSorts p.terms.names h → IsRun p None 0 x.child f h o
    → IsGoingOn p (seen p None e) k h o
gone_on p s k x e f h None b here fits made sorted ran =
    let top = and_parts (is_condition p None p.valid.0) _ s.top in
    let this = subst (IsSorted p None) (sym here) (sorted_at p None 0 p.instructions.items k x top.1 b) in
    let low : 0 ≤ nesting = omega arith in
    let moved = updated_point p s None 0 x.updates.items e tt low this.updates (AreOfSorts-length p.terms.names e fits) ∙ ap (point_at p None) (sym made) in
    let level : nesting - 0 ≡ nesting = omega arith in
    let full = subst (λ l. DoesChild (program_of p.terms p.children.items l x.child) (seen p None f) (seen p None h)) level ran in
    let does = subst (λ v. DoesChild (program_of p.terms p.children.items nesting x.child) v (seen p None h)) (sym moved) full in
    (x, seen p None h, found_at p.instructions.items k x b here, does, first_values p s h sorted)
gone_on p s k x e f h (Some t) b here fits made sorted ran =
    let top = and_parts (is_condition p None p.valid.0) _ s.top in
    let this = subst (IsSorted p None) (sym here) (sorted_at p None 0 p.instructions.items k x top.1 b) in
    let low : 0 ≤ nesting = omega arith in
    let moved = updated_point p s None 0 x.updates.items e tt low this.updates (AreOfSorts-length p.terms.names e fits) ∙ ap (point_at p None) (sym made) in
    let level : nesting - 0 ≡ nesting = omega arith in
    let full = subst (λ l. ChildTrouble (program_of p.terms p.children.items l x.child) (seen p None f) 1 (trouble_of t)) level ran in
    let troubled = subst (λ v. ChildTrouble (program_of p.terms p.children.items nesting x.child) v 1 (trouble_of t)) (sym moved) full in
    (x, found_at p.instructions.items k x b here, troubled)

-- the answer where a child has trouble, whatever the state after it
pub stopped_start : (p : Parts) (v : Valuation) (k : ℕ) (t : Trouble) (q : List meaning.Value) → IsTroubledAt p v k (trouble_of t) → IsStart p v k (stepped_of (stop_of t) q)
stopped_start p v k (Stuck d n) q h = h
stopped_start p v k (TooLong d) q h = h

pub stopped_stays : (t : Trouble) (q r : List meaning.Value) → r ≡ q → Stays (stop_of t) q r
stopped_stays (Stuck d n) q r e = e
stopped_stays (TooLong d) q r e = e

-- the point at which a step begins: the state that there was, and the inputs that were set
pub point_set : (p : Parts) (s : AreSorted p) (w xs ys : List meaning.Value) → AreOfSorts p.terms.names xs → AreOfSorts p.terms.names ys → length w ≡ p.inputs
    → ys ≡ with_values (length p.initial_values.items) w xs → IsPointOf p (take (length p.initial_values.items) xs) w ys
point_set p s w xs ys a b l e =
    let n = length p.initial_values.items in
    let within = s.declared.within in
    let long = AreOfSorts-length p.terms.names xs a in
    record {
      fits = b;
      state = ap (take n) e ∙ with_values-front n w xs n (omega arith);
      inputs = ap (λ (j : ℕ). take j (drop n ys)) (sym l) ∙ ap (λ (zs : List meaning.Value). take (length w) (drop n zs)) e ∙ with_values-there n w xs (omega (arith, l, long));
    }

-- the first values that were put aside are those of the state
pub put_back_values : (n : ℕ) (xs aside ys zs : List meaning.Value) → aside ≡ take n xs → zs ≡ take n aside ++ drop n ys → zs ≡ take n xs ++ drop n ys
put_back_values n xs aside ys zs e f = f ∙ ap (λ (vs : List meaning.Value). vs ++ drop n ys) (ap (take n) e ∙ take_take n xs)
  where
    take_take : (m : ℕ) (vs : List meaning.Value) → take m (take m vs) ≡ take m vs
    take_take zero vs = refl
    take_take (suc m) [] = refl
    take_take (suc m) (v ∷ vs) = ap (λ (ws : List meaning.Value). v ∷ ws) (take_take m vs)

pub put_back_state : (n : ℕ) (xs aside ys zs : List meaning.Value) → n ≤ length xs → aside ≡ take n xs → zs ≡ take n aside ++ drop n ys → take n zs ≡ take n xs
put_back_state n xs aside ys zs h e f =
    ap (take n) (put_back_values n xs aside ys zs e f) ∙ take_at (take n xs) (drop n ys) n (omega (arith, h, length-take n xs))

-- the zero of one name more
pub zeros-turn : (ns : Entries Sort) (xs ys : List meaning.Value) (k : ℕ) (s : Sort) → k < length ns → s ≡ sort_at ns k → ys ≡ xs ++ zero_in s ∷ [] → ys ++ zeros_of (drop (k + 1) ns) ≡ xs ++ zeros_of (drop k ns)
zeros-turn ns xs ys k s h e f =
    let v : zero_in s ≡ zero_of (sort_at ns k) = same_zero s ∙ ap zero_of e in
    ap (λ (vs : List meaning.Value). vs ++ zeros_of (drop (k + 1) ns)) f
    ∙ append_assoc xs (zero_in s ∷ []) (zeros_of (drop (k + 1) ns))
    ∙ ap (λ (x : meaning.Value). xs ++ (x ∷ zeros_of (drop (k + 1) ns))) v
    ∙ sym (ap (λ (ms : Entries Sort). xs ++ zeros_of ms) (drop_more ns k ([], truth) h))

-- no name is left
pub zeros_left : (ns : Entries Sort) (xs : List meaning.Value) (k : ℕ) → length ns ≤ k → xs ++ zeros_of (drop k ns) ≡ xs
zeros_left [] xs zero h = append_nothing xs
zeros_left [] xs (suc k) h = append_nothing xs
zeros_left (n ∷ ns) xs zero h = absurd (omega arith)
zeros_left (n ∷ ns) xs (suc k) h = zeros_left ns xs k (omega arith)
