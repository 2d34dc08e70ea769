-- The names of the terms of a cone, by ascending ids.
use Rattle.std.proofs.Common.{◌≡◌, ◌∙◌, ℕ, zero, suc, ◌+◌, ◌<◌, ◌≤◌, Bool, true, false, List, [], ◌∷◌, ◌++◌, length, get_or, Option, Some, None, Contains, ◌⊎◌, arith, refl, sym, ap, subst, inl, inr}
use Rattle.std.specs.Prelude.{slice_get}
use Rattle.std.specs.List.{All}
use Rattle.std.specs.Ordering.{nat_cmp}
use Rattle.std.specs.Cmp.{nat_cmp_total}
use Rattle.std.specs.BTreeSet.{BTreeSet}
use Rattle.std.specs.BTreeSet as set
use Rattle.std.proofs.lemmas.List.{get_or_past}
use Rattle.std.proofs.lemmas.List.Elements.{Contains-append_cases, All-from_get_or, Contains-get_or}
use Rattle.std.proofs.lemmas.Map.Lookups.{exact_unsigned}
use Rattle.std.proofs.lemmas.Map.Views.{btree_set_contains_iff}
use Rattle.std.proofs.lemmas.Bool.{cases_eq, cases_lt, false≢true}
use Rattle.wb_values.specs.Value.{Name, Sort, Entries}
use Rattle.model_meaning.specs.Term.{Term}
use Rattle.wb_terms.specs.declared.nodes.Node.{Node}
use Rattle.wb_terms.specs.declared.nodes.Node.TheVariants.{Name as NameNode, Truth, Const, Not, And, Or, Xor, Neg, Add, Sub, Mul, Shl, Lshr, Ashr, Eq, Ult, Ule, Slt, Sle, Concat, Extract, Zext, Sext, Ite, Load, Store}
use Rattle.wb_terms.specs.Graph.{Graph, tree, tree_at, tree_of, trees_of, tree_of_node, operands_of, names_of, AllBelow, IsOver}
use Rattle.sat_gates.specs.Names.{names_in}
use Rattle.sat_gates.specs.Cone.{StandsOn, IsCone, AreParts, with_keys}
use Rattle.sat_gates.specs.Used.{entry_at, listed, flags_of, IsMarked, IsUsed, AreUsed}
use Rattle.sat_gates.proofs.Members.{none_contained, contained_cons, from_keys, into_keys_old, into_keys_new}
use Rattle.sat_gates.proofs.Reached.{AreDone, AreAll, all_of, all_below_contained, operands_done, done_more, root_done, reached_at}

-- each name of the term has the property
abbrev HaveAll : (Name → Sort → Type 0) → Term → Type 0
HaveAll P t = (n : Name) (s : Sort) → Contains (names_in t) (n, s) → P n s

abbrev HaveOperands : (Name → Sort → Type 0) → List Term → List ℕ → Type 0
HaveOperands P ts ks = AreAll (λ k. HaveAll P (tree_at ts k)) ks

abbrev HaveLeaves : (Name → Sort → Type 0) → Entries Sort → List ℕ → Type 0
HaveLeaves P ns js = AreAll (λ j. P (entry_at ns j).0 (entry_at ns j).1) js

pub of_two : (P : Name → Sort → Type 0) (xs ys : Entries Sort) → ((n : Name) (s : Sort) → Contains xs (n, s) → P n s) → ((n : Name) (s : Sort) → Contains ys (n, s) → P n s)
    → (n : Name) (s : Sort) → Contains (xs ++ ys) (n, s) → P n s
of_two P xs ys f g n s h = elim (Contains-append_cases xs ys (n, s) h) [ inl i ↦ f n s i | inr i ↦ g n s i ]

pub of_none : (P : Name → Sort → Type 0) (n : Name) (s : Sort) → Contains {X = Name × Sort} [] (n, s) → P n s
of_none P n s (k, below, e) = absurd (omega (arith, below))

pub of_one : (P : Name → Sort → Type 0) (e : Name × Sort) → P e.0 e.1 → (n : Name) (s : Sort) → Contains (e ∷ []) (n, s) → P n s
of_one P e p n s (k, below, same) = elim (cases_eq k 0) [
  | inl z ↦ let h : e ≡ (n, s) = subst (λ x. get_or (e ∷ []) x (n, s) ≡ (n, s)) z same in subst (λ (x : Name × Sort). P x.0 x.1) h p
  | inr z ↦ absurd (omega (arith, below, z))
]

node_names : (P : Name → Sort → Type 0) (ns : Entries Sort) (ts : List Term) (n : Node) → HaveOperands P ts (operands_of n) → HaveLeaves P ns (names_of n) → HaveAll P (tree_of ns ts n)
node_names P ns ts (NameNode j) h l = of_one P (entry_at ns j.0) l.0
node_names P ns ts (Truth b) h l = of_none P
node_names P ns ts (Const w x) h l = of_none P
node_names P ns ts (Not x) h l = h.0
node_names P ns ts (Neg x) h l = h.0
node_names P ns ts (Extract i j x) h l = h.0
node_names P ns ts (Zext w x) h l = h.0
node_names P ns ts (Sext w x) h l = h.0
node_names P ns ts (And x y) h l = of_two P _ _ h.0 h.1.0
node_names P ns ts (Or x y) h l = of_two P _ _ h.0 h.1.0
node_names P ns ts (Xor x y) h l = of_two P _ _ h.0 h.1.0
node_names P ns ts (Add x y) h l = of_two P _ _ h.0 h.1.0
node_names P ns ts (Sub x y) h l = of_two P _ _ h.0 h.1.0
node_names P ns ts (Mul x y) h l = of_two P _ _ h.0 h.1.0
node_names P ns ts (Shl x y) h l = of_two P _ _ h.0 h.1.0
node_names P ns ts (Lshr x y) h l = of_two P _ _ h.0 h.1.0
node_names P ns ts (Ashr x y) h l = of_two P _ _ h.0 h.1.0
node_names P ns ts (Eq x y) h l = of_two P _ _ h.0 h.1.0
node_names P ns ts (Ult x y) h l = of_two P _ _ h.0 h.1.0
node_names P ns ts (Ule x y) h l = of_two P _ _ h.0 h.1.0
node_names P ns ts (Slt x y) h l = of_two P _ _ h.0 h.1.0
node_names P ns ts (Sle x y) h l = of_two P _ _ h.0 h.1.0
node_names P ns ts (Concat x y) h l = of_two P _ _ h.0 h.1.0
node_names P ns ts (Load x y) h l = of_two P _ _ h.0 h.1.0
node_names P ns ts (Ite x y z) h l = of_two P _ _ h.0 (of_two P _ _ h.1.0 h.1.1.0)
node_names P ns ts (Store x y z) h l = of_two P _ _ h.0 (of_two P _ _ h.1.0 h.1.1.0)

-- it is the declared name at one of the places
abbrev pub IsAmong : Entries Sort → List ℕ → Name → Sort → Type 0
IsAmong es keys n s = (j : ℕ) × (j < length es) × (entry_at es j ≡ (n, s)) × Contains keys j

-- the names of the first terms of a cone are there, and none but names of the term
pub record IsUsing (g : Graph) (id : ℕ) (ids : List ℕ) (place : ℕ) (keys : List ℕ) : Type 0 where
  pub below : (j : ℕ) → Contains keys j → j < length g.names
  pub earlier : AreDone (λ k. HaveAll (IsAmong g.names keys) (tree g k)) ids place
  pub none_else : (j : ℕ) → Contains keys j → Contains (names_in (tree g id)) (entry_at g.names j)

pub using_start : (g : Graph) (id : ℕ) (ids keys : List ℕ) → keys ≡ [] → IsUsing g id ids 0 keys
using_start g id ids keys e = rw e (record {
  below = λ j h. absurd (none_contained j h);
  earlier = λ p i. absurd (omega (arith, i));
  none_else = λ j h. absurd (none_contained j h);
})

leaf_named : (ns : Entries Sort) (ts : List Term) (n : Node) (j : ℕ) → Contains (names_of n) j → Contains (names_in (tree_of ns ts n)) (entry_at ns j)
leaf_named ns ts (NameNode m) j h = elim (contained_cons m.0 [] j h) [
  | inl e ↦ subst (λ i. Contains (names_in (tree_of ns ts (NameNode m))) (entry_at ns i)) e (0, omega arith, refl)
  | inr r ↦ absurd (none_contained j r)
]
leaf_named ns ts _ j h = absurd (none_contained j h)

still_among : (es : Entries Sort) (ks keys new : List ℕ) → new ≡ with_keys ks keys → (n : Name) (s : Sort) → IsAmong es keys n s → IsAmong es new n s
still_among es ks keys new is n s (j, below, e, c) = (j, below, e, subst (λ xs. Contains xs j) (sym is) (into_keys_old ks keys j c))

weaker : (P Q : Name → Sort → Type 0) (ts : List Term) (ks : List ℕ) → ((n : Name) (s : Sort) → P n s → Q n s) → HaveOperands P ts ks → HaveOperands Q ts ks
weaker P Q ts [] f h = tt
weaker P Q ts (k ∷ ks) f h = ((λ n s c. f n s (h.0 n s c)), weaker P Q ts ks f h.1)

pub using_turn : (g : Graph) (id : ℕ) (ids : List ℕ) (place k : ℕ) (keys new : List ℕ) (n : Node) → IsCone g id ids → AreParts g id → place < length ids → k ≡ get_or ids place 0
    → slice_get g.nodes k ≡ Some n → tree g k ≡ tree_of_node g n → IsOver g k n → new ≡ with_keys (names_of n) keys
    → IsUsing g id ids place keys → IsUsing g id ids (place + 1) new
using_turn g id ids place k keys new n cone parts i e found same over is h = record {
  below = λ j c. elim (from_keys (names_of n) keys j (subst (λ xs. Contains xs j) is c)) [
    | inl old ↦ h.below j old
    | inr leaf ↦ all_below_contained (length g.names) (names_of n) j over.names leaf
  ];
  earlier = done_more (λ x. HaveAll (IsAmong g.names new) (tree g x)) ids place k e here (λ p b x s c. still_among g.names (names_of n) keys new is x s (h.earlier p b x s c));
  none_else = λ j c. elim (from_keys (names_of n) keys j (subst (λ xs. Contains xs j) is c)) [
    | inl old ↦ h.none_else j old
    | inr leaf ↦
        let en = entry_at g.names j in
        let there : Contains (names_in (tree g k)) (en.0, en.1) = subst (λ t. Contains (names_in t) (en.0, en.1)) (sym same) (leaf_named g.names (trees_of g) n j leaf) in
        (parts k (reached_at g id ids place k cone i e)).1.names en.0 en.1 there
  ];
}
  where
    leaves : HaveLeaves (IsAmong g.names new) g.names (names_of n)
    leaves = all_of (λ j. IsAmong g.names new (entry_at g.names j).0 (entry_at g.names j).1) (names_of n)
        (λ j c. (j, all_below_contained (length g.names) (names_of n) j over.names c, refl, subst (λ xs. Contains xs j) (sym is) (into_keys_new (names_of n) keys j c)))

    operands : HaveOperands (IsAmong g.names new) (trees_of g) (operands_of n)
    operands = weaker (IsAmong g.names keys) (IsAmong g.names new) (trees_of g) (operands_of n) (still_among g.names (names_of n) keys new is)
        (operands_done (λ x. HaveAll (IsAmong g.names keys) (tree g x)) g id ids place k n cone i e found over.operands h.earlier)

    here : HaveAll (IsAmong g.names new) (tree g k)
    here = subst (HaveAll (IsAmong g.names new)) (sym same) (node_names (IsAmong g.names new) g.names (trees_of g) n operands leaves)

-- what is listed
pub length-listed : {X : Type 0} (f : ℕ → X) (first count : ℕ) → length (listed f first count) ≡ count
length-listed f first zero = refl
length-listed f first (suc n) = ap suc (length-listed f (suc first) n)

pub get-listed : {X : Type 0} (f : ℕ → X) (first count j : ℕ) (d : X) → j < count → get_or (listed f first count) j d ≡ f (first + j)
get-listed f first zero j d i = absurd (omega (arith, i))
get-listed f first (suc n) zero d i = ap f (omega arith)
get-listed f first (suc n) (suc j) d i = get-listed f (suc first) n j d (omega (arith, i)) ∙ ap f (omega arith)

-- what is found at a place
pub first_found : (f : ℕ → Option ℕ) (n j : ℕ) (r s : Option ℕ) → j < n → r ≡ s → s ≡ f j → r ≡ get_or (listed f 0 n) j None
first_found f n j r s i e h = e ∙ (h ∙ (ap f (omega arith) ∙ sym (get-listed f 0 n j None i)))

flag_at : (has : ℕ → Bool) (es : Entries Sort) (j : ℕ) → j < length es → get_or (flags_of has es) j false ≡ has j
flag_at has es j i = get-listed has 0 (length es) j false i ∙ ap has (omega arith)

within_marks : (marks : List Bool) (k : ℕ) → IsMarked marks k → k < length marks
within_marks marks k h = elim (cases_lt k (length marks)) [
  | inl i ↦ i
  | inr i ↦ absurd (false≢true (sym (get_or_past marks k false i) ∙ h))
]

pub using_end : (g : Graph) (id : ℕ) (ids : List ℕ) (place : ℕ) (used : BTreeSet ℕ) → IsCone g id ids → length ids ≤ place → IsUsing g id ids place used.keys
    → AreUsed g id (flags_of (set.contains nat_cmp used) g.names)
using_end g id ids place used cone end h = record {
  room = length-listed (set.contains nat_cmp used) 0 (length g.names);
  all = λ n s c.
      let u = root_done (λ k. HaveAll (IsAmong g.names used.keys) (tree g k)) g id ids place cone end h.earlier n s c in
      (u.0, u.1, u.2, flag_at (set.contains nat_cmp used) g.names u.0 u.1 ∙ (btree_set_contains_iff nat_cmp_total exact_unsigned used u.0).1 u.3);
  none_else = λ j m.
      let b : j < length g.names = (let w = within_marks (flags_of (set.contains nat_cmp used) g.names) j m in omega (arith, w, length-listed (set.contains nat_cmp used) 0 (length g.names))) in
      h.none_else j ((btree_set_contains_iff nat_cmp_total exact_unsigned used j).0 (sym (flag_at (set.contains nat_cmp used) g.names j b) ∙ m));
}

pub using_below : (g : Graph) (id : ℕ) (ids : List ℕ) (place : ℕ) (keys : List ℕ) → IsUsing g id ids place keys → All (λ j. j < length g.names) keys
using_below g id ids place keys h = All-from_get_or (λ j. j < length g.names) keys 0 (λ p i. h.below (get_or keys p 0) (Contains-get_or keys p 0 i))

abbrev pub IsLeaf : Entries Sort → List Term → Node → ℕ → Type 0
IsLeaf ns ts n j = (names_of n ≡ j ∷ []) × (operands_of n ≡ []) × (names_in (tree_of ns ts n) ≡ entry_at ns j ∷ [])

pub leaf_or_not : (ns : Entries Sort) (ts : List Term) (n : Node) → (names_of n ≡ []) ⊎ ((j : ℕ) × IsLeaf ns ts n j)
leaf_or_not ns ts (NameNode j) = inr (j.0, (refl, refl, refl))
leaf_or_not ns ts _ = inl refl

pub names_below : (m j : ℕ) (js : List ℕ) → js ≡ j ∷ [] → AllBelow m js → j < m
names_below m j js e b = let h = subst (AllBelow m) e b in h.0
