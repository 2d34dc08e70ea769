-- What outputs of instances drive, added list by list.
use Rattle.std.proofs.Common.{◌≡◌, ◌∙◌, ◌<◌, ◌≤◌, ◌+◌, ℕ, zero, suc, cond, refl, ap, sym, List, [], ◌∷◌, ◌++◌, map, length, drop, set, get_or, eq-eqb, ne_eqb, Vec, Global, arith}
use Rattle.std.specs.Prelude.{◌≢◌}
use Rattle.std.proofs.lemmas.List.{append_assoc, append-nil, map-set, get_or-map, length-map, drop_more}
use Rattle.wb_values.specs.Value.{Name}
use Rattle.verilog_trees.specs.Syntax.{Item, assign}
use Rattle.v_syntax.specs.declared.module.Item.{Item as CodeItem}
use Rattle.v_places.specs.Below.{Spot}
use Rattle.v_flat.specs.Items.{own_items}
use Rattle.v_flat.specs.Outputs.{same_names, outputs_of, outputs_in, with_outputs_from, with_outputs, own_lists, added_at, added_outputs, all_added}
use Rattle.v_flat.specs.Views.{items_of, lists_of}

-- ---- a list with more behind it

pub set_added : (ls : List (List Item)) (k : ℕ) (more : List Item) → k < length ls → set ls k (get_or ls k [] ++ more) ≡ added_at k more ls
set_added [] k more l = absurd (omega (arith, l))
set_added (x ∷ ls) zero more l = refl
set_added (x ∷ ls) (suc k) more l = ap (λ zs. x ∷ zs) (set_added ls k more (omega (arith, l)))

pub past_added : (ls : List (List Item)) (k : ℕ) (more : List Item) → length ls ≤ k → added_at k more ls ≡ ls
past_added [] k more l = refl
past_added (x ∷ ls) zero more l = absurd (omega (arith, l))
past_added (x ∷ ls) (suc k) more l = ap (λ zs. x ∷ zs) (past_added ls k more (omega (arith, l)))

-- one item more in one of the code's lists
pub pushed_there : (vs : List (Vec CodeItem Global)) (k : ℕ) (v new : Vec CodeItem Global) (d : Vec CodeItem Global) (i : Item) → k < length vs → v ≡ get_or vs k d
    → items_of new ≡ items_of v ++ i ∷ [] → lists_of (set vs k new) ≡ added_at k (i ∷ []) (lists_of vs)
pushed_there vs k v new d i l e p =
    let within : k < length (lists_of vs) = omega (arith, l, length-map vs items_of) in
    map-set items_of vs k new
    ∙ ap (set (lists_of vs) k) (p ∙ ap (λ is. is ++ i ∷ []) (ap items_of e ∙ sym (get_or-map items_of vs k d [] l)))
    ∙ set_added (lists_of vs) k (i ∷ []) within

-- ---- all of them

-- behind each list, of which the first has this number, what outputs drive there
plus_from : ℕ → List Spot → List (List Item) → List (List Item)
plus_from k xs [] = []
plus_from k xs (l ∷ ls) = (l ++ outputs_in k xs) ∷ plus_from (k + 1) xs ls

plus_none : (k : ℕ) (ls : List (List Item)) → plus_from k [] ls ≡ ls
unfolding plus_from
plus_none k [] = refl
plus_none k (l ∷ ls) = λ i. append-nil l i ∷ plus_none (k + 1) ls i

other_number : (x : Spot) (xs : List Spot) (k : ℕ) → x.parent ≢ k → outputs_in k (x ∷ xs) ≡ outputs_in k xs
other_number x xs k h = ap (λ b. cond b (assign (outputs_of x) ∷ []) [] ++ outputs_in k xs) (ne_eqb x.parent k h)

own_number : (x : Spot) (xs : List Spot) (k : ℕ) → x.parent ≡ k → outputs_in k (x ∷ xs) ≡ assign (outputs_of x) ∷ outputs_in k xs
own_number x xs k h = ap (λ b. cond b (assign (outputs_of x) ∷ []) [] ++ outputs_in k xs) (eq-eqb x.parent k h)

-- past its number an instance adds nothing
plus_past : (k : ℕ) (x : Spot) (xs : List Spot) (ls : List (List Item)) → x.parent < k → plus_from k (x ∷ xs) ls ≡ plus_from k xs ls
unfolding plus_from
plus_past k x xs [] h = refl
plus_past k x xs (l ∷ ls) h =
    let other : x.parent ≢ k = λ e. omega (arith, h, e) in
    let past = plus_past (k + 1) x xs ls (omega (arith, h)) in
    λ i. (l ++ other_number x xs k other i) ∷ past i

plus_one : (k j : ℕ) (x : Spot) (xs : List Spot) (ls : List (List Item)) → x.parent ≡ k + j
    → plus_from k xs (added_at j (assign (outputs_of x) ∷ []) ls) ≡ plus_from k (x ∷ xs) ls
unfolding plus_from
plus_one k j x xs [] e = refl
plus_one k zero x xs (l ∷ ls) e =
    let own : x.parent ≡ k = omega (arith, e) in
    let past = plus_past (k + 1) x xs ls (omega (arith, e)) in
    let here : (l ++ assign (outputs_of x) ∷ []) ++ outputs_in k xs ≡ l ++ outputs_in k (x ∷ xs)
    = append_assoc l (assign (outputs_of x) ∷ []) (outputs_in k xs) ∙ ap (λ zs. l ++ zs) (sym (own_number x xs k own)) in
    λ i. here i ∷ sym past i
plus_one k (suc j) x xs (l ∷ ls) e =
    let other : x.parent ≢ k = λ h. omega (arith, h, e) in
    let rest = plus_one (k + 1) j x xs ls (omega (arith, e)) in
    λ i. (l ++ sym (other_number x xs k other) i) ∷ rest i

plus_all : (xs : List Spot) (ls : List (List Item)) → all_added same_names xs ls ≡ plus_from 0 xs ls
plus_all [] ls = sym (plus_none 0 ls)
plus_all (x ∷ xs) ls =
    plus_all xs (added_at x.parent (assign (outputs_of x) ∷ []) ls) ∙ plus_one 0 x.parent x xs ls (omega arith)

plus_own : (all : List Spot) (k : ℕ) (xs : List Spot) → plus_from k all (own_lists same_names xs) ≡ with_outputs_from all k xs
unfolding plus_from
plus_own all k [] = refl
plus_own all k (x ∷ xs) = ap (λ zs. (own_items same_names x.of_module.items ++ outputs_in k all) ∷ zs) (plus_own all (k + 1) xs)

pub all_with_outputs : (spots : List Spot) → all_added same_names spots (own_lists same_names spots) ≡ with_outputs spots
all_with_outputs spots = plus_all spots (own_lists same_names spots) ∙ plus_own spots 0 spots

-- a turn that adds what the outputs of one more drive
pub added_turn : {A : Type 0} (view : A → Spot) (f : Name → Name) (xs : List A) (i : ℕ) (d : A) (now new whole : List (List Item)) → i < length xs
    → all_added f (map view (drop i xs)) now ≡ whole → new ≡ added_outputs f (view (get_or xs i d)) now → all_added f (map view (drop (i + 1) xs)) new ≡ whole
added_turn view f xs i d now new whole l h e =
    ap (all_added f (map view (drop (i + 1) xs))) e ∙ ap (λ ys. all_added f (map view ys) now) (sym (drop_more xs i d l)) ∙ h
