-- From a term down to what it stands on, by descending ids, and up again.
use Rattle.std.proofs.Common.{◌≡◌, ◌∙◌, ℕ, zero, suc, ◌+◌, ◌<◌, ◌≤◌, List, [], ◌∷◌, ◌++◌, length, get_or, map, Option, Some, None, Contains, ◌⊎◌, arith, refl, sym, ap, subst, inl, inr}
use Rattle.std.specs.Prelude.{slice_get}
use Rattle.std.specs.List.{All, AllPairs}
use Rattle.std.specs.List.Sorted.{IsStrictlyIncreasing}
use Rattle.std.specs.Ordering.{nat_cmp}
use Rattle.std.specs.BTreeMap.Range.{IsLtBy}
use Rattle.std.specs.BTreeSet.{insert_key}
use Rattle.std.proofs.lemmas.Bool.{cases_lt, cases_eq}
use Rattle.std.proofs.lemmas.List.{get_or_default, get_or-map, length-map}
use Rattle.std.proofs.lemmas.List.Elements.{All-contains, All-from_get_or, Contains-get_or, Contains-push_cases, Contains-append_left, Contains-push}
use Rattle.std.proofs.lemmas.List.Kept.{AllPairs-cons, AllPairs-from_increasing}
use Rattle.wb_terms.specs.declared.nodes.Node.{Node}
use Rattle.wb_terms.specs.declared.nodes.TermId.{TermId}
use Rattle.wb_terms.specs.Graph.{Graph, tree, trees_of, tree_of_node, operands_of, AllBelow}
use Rattle.sat_gates.specs.Cone.{StandsOn, IsCone, IsPart, AreParts, places, with_keys}
use Rattle.sat_gates.proofs.Members.{none_contained, contained_cons, first_contained, rest_contained, less, from_keys, into_keys_old, into_keys_new}
use Rattle.sat_gates.proofs.Parts.{itself, within, operand_part}

-- the term at a place is one on which a term stands
abbrev pub IsReached : Graph → (id k : ℕ) → Type 0
IsReached g id k = StandsOn g id k × ((k < length g.nodes) × IsPart (tree g id) (tree g k))

-- the least one that is done, or what is above all that may come
abbrev pub least : ℕ → List ℕ → ℕ
least id [] = id + 1
least id (k ∷ ks) = k

-- some terms are still to come, and those above them are done, which stand by ascending ids
pub record IsWalk (g : Graph) (id : ℕ) (waiting done : List ℕ) : Type 0 where
  pub to_come : (k : ℕ) → Contains waiting k → IsReached g id k
  pub taken : (k : ℕ) → Contains done k → IsReached g id k
  pub root : Contains waiting id ⊎ Contains done id
  pub closed : (j k : ℕ) (n : Node) → Contains done j → slice_get g.nodes j ≡ Some n → Contains (operands_of n) k → Contains waiting k ⊎ Contains done k
  pub below : (k j : ℕ) → Contains waiting k → Contains done j → k < j
  pub lower : (k : ℕ) → Contains waiting k → k < least id done
  pub ascending : AllPairs (λ x y. x < y) done

pub walk_start : (g : Graph) (id : ℕ) (waiting : List ℕ) → id < length g.nodes → waiting ≡ id ∷ [] → IsWalk g id waiting []
walk_start g id waiting i e = rw e (record {
  to_come = λ k h. elim (contained_cons id [] k h) [
    | inl s ↦ subst (IsReached g id) s (StandsOn.itself, (i, itself (tree g id)))
    | inr r ↦ absurd (none_contained k r)
  ];
  taken = λ k h. absurd (none_contained k h);
  root = inl (first_contained id []);
  closed = λ j k n h s c. absurd (none_contained j h);
  below = λ k j h d. absurd (none_contained j d);
  lower = λ k h. elim (contained_cons id [] k h) [
    | inl s ↦ omega (arith, s)
    | inr r ↦ absurd (none_contained k r)
  ];
  ascending = λ a b d i j. absurd (omega (arith, j));
})

pub all_below_contained : (p : ℕ) (ks : List ℕ) (k : ℕ) → AllBelow p ks → Contains ks k → k < p
all_below_contained p [] k b h = absurd (none_contained k h)
all_below_contained p (j ∷ js) k b h = elim (contained_cons j js k h) [
  | inl e ↦ subst (λ i. i < p) e b.0
  | inr r ↦ all_below_contained p js k b.1 r
]

below_place : (rest ks new : List ℕ) (place k : ℕ) → All (λ q. IsLtBy nat_cmp q place) rest → AllBelow place ks → new ≡ with_keys ks rest → Contains new k → k < place
below_place rest ks new place k low below e h = elim (from_keys ks rest k (subst (λ xs. Contains xs k) e h)) [
  | inl r ↦ less k place (All-contains (λ q. IsLtBy nat_cmp q place) rest k low r)
  | inr o ↦ all_below_contained place ks k below o
]

next_reached : (g : Graph) (id place k : ℕ) (n : Node) → IsReached g id place → slice_get g.nodes place ≡ Some n → tree g place ≡ tree_of_node g n → AllBelow place (operands_of n)
    → Contains (operands_of n) k → IsReached g id k
next_reached g id place k n h found same below o =
    let i = all_below_contained place (operands_of n) k below o in (
      StandsOn.operand place k n h.0 found o,
      (
        omega (arith, i, h.1.0),
        within (tree g id) (tree g place) (tree g k) h.1.1 (subst (λ t. IsPart t (tree g k)) (sym same) (operand_part g.names (trees_of g) n k o)),
      ),
    )

pub walk_turn : (g : Graph) (id place : ℕ) (waiting rest new done more : List ℕ) (n : Node) → waiting ≡ rest ++ place ∷ [] → All (λ q. IsLtBy nat_cmp q place) rest
    → slice_get g.nodes place ≡ Some n → tree g place ≡ tree_of_node g n → AllBelow place (operands_of n) → new ≡ with_keys (operands_of n) rest → more ≡ place ∷ done
    → IsWalk g id waiting done → IsWalk g id new more
walk_turn g id place waiting rest new done more n e low found same below is onto h = rw onto (record {
  to_come = λ k c. elim (from_keys (operands_of n) rest k (subst (λ xs. Contains xs k) is c)) [
    | inl r ↦ h.to_come k (was k r)
    | inr o ↦ next_reached g id place k n here found same below o
  ];
  taken = λ k c. elim (contained_cons place done k c) [
    | inl s ↦ subst (IsReached g id) s here
    | inr r ↦ h.taken k r
  ];
  root = elim h.root [
    | inl w ↦ still id w
    | inr d ↦ inr (rest_contained place done id d)
  ];
  closed = λ j k m c s o. elim (contained_cons place done j c) [
    | inl q ↦
        let twice : Some m ≡ Some n = sym s ∙ (ap (slice_get g.nodes) (sym q) ∙ found) in
        inl (subst (λ xs. Contains xs k) (sym is) (into_keys_new (operands_of n) rest k (subst (λ x. Contains (operands_of x) k) (same_node m n twice) o)))
    | inr r ↦ (elim (h.closed j k m r s o) [
      | inl w ↦ still k w
      | inr d ↦ inr (rest_contained place done k d)
    ])
  ];
  below = λ k j w d.
      let i = below_place rest (operands_of n) new place k low below is w in
      elim (contained_cons place done j d) [
        | inl q ↦ subst (λ x. k < x) q i
        | inr r ↦ let b = h.below place j last r in omega (arith, i, b)
      ];
  lower = λ k w. below_place rest (operands_of n) new place k low below is w;
  ascending = AllPairs-cons (λ x y. x < y) place done (All-from_get_or (λ y. place < y) done 0 (λ k i. h.below place (get_or done k 0) last (Contains-get_or done k 0 i))) h.ascending;
})
  where
    last : Contains waiting place
    last = subst (λ xs. Contains xs place) (sym e) (Contains-push rest place)

    here : IsReached g id place
    here = h.to_come place last

    was : (k : ℕ) → Contains rest k → Contains waiting k
    was k r = subst (λ xs. Contains xs k) (sym e) (Contains-append_left rest (place ∷ []) k r)

    still : (k : ℕ) → Contains waiting k → Contains new k ⊎ Contains (place ∷ done) k
    still k w = elim (Contains-push_cases rest place k (subst (λ xs. Contains xs k) e w)) [
      | inl r ↦ inl (subst (λ xs. Contains xs k) (sym is) (into_keys_old (operands_of n) rest k r))
      | inr q ↦ inr (subst (Contains (place ∷ done)) q (first_contained place done))
    ]

    same_node : (x y : Node) → Some x ≡ Some y → x ≡ y
    same_node x y p = ap (or_node x) p
      where
        or_node : Node → Option Node → Node
        or_node d None = d
        or_node d (Some z) = z

all_done : (g : Graph) (id : ℕ) (waiting done : List ℕ) → waiting ≡ [] → IsWalk g id waiting done → (k : ℕ) → StandsOn g id k → Contains done k
all_done g id waiting done e h _ StandsOn.itself = elim h.root [
  | inl w ↦ absurd (none_contained id (subst (λ xs. Contains xs id) e w))
  | inr d ↦ d
]
all_done g id waiting done e h _ (StandsOn.operand j k n s found o) = elim (h.closed j k n (all_done g id waiting done e h j s) found o) [
  | inl w ↦ absurd (none_contained k (subst (λ xs. Contains xs k) e w))
  | inr d ↦ d
]

pub walk_end : (g : Graph) (id : ℕ) (waiting done ids : List ℕ) → waiting ≡ [] → ids ≡ done → IsWalk g id waiting done → IsCone g id ids
walk_end g id waiting done ids e is h = rw is (record {
  ascending = λ k i. h.ascending k (k + 1) 0 (omega arith) i;
  exact = λ k. (λ c. (h.taken k c).0, λ s. all_done g id waiting done e h k s);
})

pub walk_parts : (g : Graph) (id : ℕ) (waiting done : List ℕ) → waiting ≡ [] → IsWalk g id waiting done → AreParts g id
walk_parts g id waiting done e h = λ k s. (h.taken k (all_done g id waiting done e h k s)).1

-- ---- up again: what holds of the earlier terms of a cone holds of the operands

-- it holds of the first ones
abbrev pub AreDone : (ℕ → Type 0) → List ℕ → ℕ → Type 0
AreDone P ids n = (p : ℕ) → p < n → P (get_or ids p 0)

abbrev pub AreAll : (ℕ → Type 0) → List ℕ → Type 0
AreAll P [] = Unit {0}
AreAll P (k ∷ ks) = P k × AreAll P ks

pub all_of : (P : ℕ → Type 0) (ks : List ℕ) → ((k : ℕ) → Contains ks k → P k) → AreAll P ks
all_of P [] h = tt
all_of P (k ∷ ks) h = (h k (first_contained k ks), all_of P ks (λ j c. h j (rest_contained k ks j c)))

earlier : (P : ℕ → Type 0) (ids : List ℕ) (place k : ℕ) → IsStrictlyIncreasing ids → place < length ids → AreDone P ids place → Contains ids k → k < get_or ids place 0 → P k
earlier P ids place k up i done c low = elim (cases_lt c.0 place) [
  | inl b ↦ subst P (at c) (done c.0 b)
  | inr b ↦ elim (cases_eq c.0 place) [
    | inl e ↦ absurd (let q : get_or ids place 0 ≡ k = ap (λ p. get_or ids p 0) (sym e) ∙ at c in omega (arith, q, low))
    | inr d ↦ absurd (let s = AllPairs-from_increasing ids up place c.0 0 (omega (arith, b, d)) c.1 in omega (arith, s, at c, low))
  ]
]
  where
    at : (h : Contains ids k) → get_or ids h.0 0 ≡ k
    at h = get_or_default ids h.0 0 k h.1 ∙ h.2

pub operands_done : (P : ℕ → Type 0) (g : Graph) (id : ℕ) (ids : List ℕ) (place k : ℕ) (n : Node) → IsCone g id ids → place < length ids → k ≡ get_or ids place 0
    → slice_get g.nodes k ≡ Some n → AllBelow k (operands_of n) → AreDone P ids place → AreAll P (operands_of n)
operands_done P g id ids place k n cone i e found below done =
    let reached = (cone.exact k).0 (subst (Contains ids) (sym e) (Contains-get_or ids place 0 i)) in
    all_of P (operands_of n) (λ j o. earlier P ids place j cone.ascending i done ((cone.exact j).1 (StandsOn.operand k j n reached found o))
    (subst (λ x. j < x) e (all_below_contained k (operands_of n) j below o)))

-- one more
pub done_more : (P : ℕ → Type 0) (ids : List ℕ) (place k : ℕ) → k ≡ get_or ids place 0 → P k → AreDone P ids place → AreDone P ids (place + 1)
done_more P ids place k e new h = λ p i. elim (cases_lt p place) [
  | inl b ↦ h p b
  | inr b ↦ (let q : place ≡ p = omega (arith, i, b) in subst (λ x. P (get_or ids x 0)) q (subst P e new))
]

-- all are done, and the term among them
pub root_done : (P : ℕ → Type 0) (g : Graph) (id : ℕ) (ids : List ℕ) (place : ℕ) → IsCone g id ids → length ids ≤ place → AreDone P ids place → P id
root_done P g id ids place cone end h =
    let c = (cone.exact id).1 StandsOn.itself in
    subst P (get_or_default ids c.0 0 id c.1 ∙ c.2) (h c.0 (omega (arith, c.1, end)))

-- the term that a call reads
pub place_at : (ids : List TermId) (k : ℕ) (x : TermId) → k < length ids → x ≡ get_or ids k x → x.0 ≡ get_or (places ids) k 0
place_at ids k x i e = ap (λ (y : TermId). y.0) e ∙ sym (get_or-map (λ (id : TermId). id.0) ids k x 0 i)

pub reached_at : (g : Graph) (id : ℕ) (ids : List ℕ) (place k : ℕ) → IsCone g id ids → place < length ids → k ≡ get_or ids place 0 → StandsOn g id k
reached_at g id ids place k cone i e = (cone.exact k).0 (subst (Contains ids) (sym e) (Contains-get_or ids place 0 i))

pub place_below : (ids : List TermId) (k : ℕ) → k < length ids → k < length (places ids)
place_below ids k i = omega (arith, i, length-map ids (λ (id : TermId). id.0))

pub term_at : (g : Graph) (id : ℕ) (ids : List TermId) (place : ℕ) (x : TermId) → IsCone g id (places ids) → place < length ids → x ≡ get_or ids place x → StandsOn g id x.0
term_at g id ids place x cone i e = reached_at g id (places ids) place x.0 cone (place_below ids place i) (place_at ids place x i e)

pub places_end : (ids : List TermId) (k : ℕ) → length ids ≤ k → length (places ids) ≤ k
places_end ids k i = omega (arith, i, length-map ids (λ (id : TermId). id.0))

-- the next term is one of the store
pub walk_next : (g : Graph) (id place : ℕ) (waiting rest done : List ℕ) → waiting ≡ rest ++ place ∷ [] → IsWalk g id waiting done → place < length g.nodes
walk_next g id place waiting rest done e h = (h.to_come place (subst (λ xs. Contains xs place) (sym e) (Contains-push rest place))).1.0

pub walk_lower : (g : Graph) (id place : ℕ) (waiting rest done : List ℕ) → waiting ≡ rest ++ place ∷ [] → IsWalk g id waiting done → place < least id done
walk_lower g id place waiting rest done e h = h.lower place (subst (λ xs. Contains xs place) (sym e) (Contains-push rest place))

pub nothing_done : (P : ℕ → Type 0) (ids : List ℕ) → AreDone P ids 0
nothing_done P ids p i = absurd (omega (arith, i))
