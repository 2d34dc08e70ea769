-- Updates: what was chosen for each state, listed by ascending states, is what the definition lists by the states' order.
use Rattle.std.proofs.Common.{◌≡◌, ℕ, zero, suc, ◌<◌, ◌≤◌, Bool, true, false, cond, not, ◌||◌, List, [], ◌∷◌, length, Bor, Option, Some, None, inl, inr, refl, sym, ap, ◌∙◌, subst, arith}
use Rattle.std.specs.Prelude.{Ok, is_none, nat_lt, ◌==◌, ◌⊎◌, ⊤}
use Rattle.std.specs.Ordering.{nat_cmp, is_eq}
use Rattle.std.specs.declared.cmp.Ordering.TheVariants.{Less, Equal, Greater}
use Rattle.std.specs.List.Sorted.{IsStrictlySortedBy}
use Rattle.std.specs.BTreeMap.{BTreeMap, is_at, IsOrdered}
use Rattle.std.specs.Map.{lookup, keys_of}
use Rattle.std.proofs.lemmas.Bool.{false≢true, and_parts, eq-eqb, ne_eqb, eqb-true, ltb-true}
use Rattle.std.proofs.lemmas.Slice.Eq.{bytes_eq-Decides}
use Rattle.wb_values.specs.Value.{Name, Sort, same_name, Entries, entry_of}
use Rattle.model_meaning.specs.Term as terms
use Rattle.model_meaning.specs.Term.{Term}
use Rattle.model_meaning.specs.Model.{StateDeclaration, state_named}
use Rattle.wb_values.specs.Choice.{first_of}
use Rattle.model_files.specs.Written.{WrittenTerm}
use Rattle.model_files.specs.Scope.{Visible, declared, of_update, placed, term_of, placed_updates}
use Rattle.model_files.specs.Rules.{uses_unknown_name, updates_no_state}
use Rattle.model_files.specs.Meaning.{with_own_update, updates_for_states}
use Rattle.wb_terms.specs.declared.nodes.NameId.{NameId}
use Rattle.wb_terms.specs.declared.nodes.TermId.{TermId}
use Rattle.wb_terms.specs.Graph.{Graph, tree, HasDistinctNames}
use Rattle.ila_build.specs.Standing.{under_name, seen_by, term_by, StandsFor, StandAll, IsTable, IsGrown, IsPut}
use Rattle.ila_build.specs.Knowing.{Knows, is_right, are_right}
use Rattle.ila_build.specs.Updating.{entry_at, chosen, IsLeafOf, StandAt, AreUpdates, IsChosen, AreChosen, ChoosesOne, AreUpdated}
use Rattle.ila_build.proofs.Sorting.{or_parts}
use Rattle.ila_build.proofs.Growing.{wider}
use Rattle.ila_build.proofs.Definitions.{knows_grown, right_put, IsTermOf, not_true}

-- ---- places of a table with distinct names

entry_there : (ns : Entries Sort) (n : Name) (k : ℕ) → entry_of ns n ≡ None → k < length ns → (entry_at ns k).0 ≡ n → ⊥
entry_there [] n k e h s = omega (arith, h)
entry_there (m ∷ ns) n k e h s = by_test k h s (same_name m.0 n) refl (λ j i t x. entry_there ns n j x i t) where
  by_test : (k : ℕ) → k < length (m ∷ ns) → (entry_at (m ∷ ns) k).0 ≡ n → (b : Bool) → same_name m.0 n ≡ b → ((j : ℕ) → j < length ns → (entry_at ns j).0 ≡ n → entry_of ns n ≡ None → ⊥) → ⊥
  by_test k h s true t rest = some_none (ap (λ b. cond b (Some m.1) (entry_of ns n)) (sym t) ∙ e) where
    some_none : {A : Type 0} {x : A} → Some x ≡ None → ⊥
    some_none p = cc
  by_test zero h s false t rest = false≢true (sym t ∙ (bytes_eq-Decides m.0 n).1 s)
  by_test (suc k) h s false t rest = rest k (omega (arith, h)) s (ap (λ b. cond b (Some m.1) (entry_of ns n)) (sym t) ∙ e)

pub places_same : (ns : Entries Sort) (i k : ℕ) → HasDistinctNames ns → i < length ns → k < length ns → (entry_at ns i).0 ≡ (entry_at ns k).0 → i ≡ k
places_same [] i k d h j e = absurd (omega (arith, h))
places_same (n ∷ ns) zero zero d h j e = refl
places_same (n ∷ ns) zero (suc k) d h j e = absurd (entry_there ns n.0 k d.0 (omega (arith, j)) (sym e))
places_same (n ∷ ns) (suc i) zero d h j e = absurd (entry_there ns n.0 i d.0 (omega (arith, h)) e)
places_same (n ∷ ns) (suc i) (suc k) d h j e = ap suc (places_same ns i k d.1 (omega (arith, h)) (omega (arith, j)) e)

pub stand_at : (g : Graph) (t : BTreeMap (Bor (List ℕ)) TermId) (ns : Entries Sort) (k : ℕ) → StandAll g t ns → k < length ns
    → StandsFor g (declared (entry_at ns k).0 (entry_at ns k).1) (under_name t (entry_at ns k).0)
stand_at g t [] k s h = absurd (omega (arith, h))
stand_at g t (n ∷ ns) zero s h = s.0
stand_at g t (n ∷ ns) (suc k) s h = stand_at g t ns k s.1 (omega (arith, h))

-- ---- a state by its name

abbrev pub IsAmong : ℕ → List ℕ → Type 0
IsAmong k [] = ⊥
IsAmong k (j ∷ js) = (k ≡ j) ⊎ IsAmong k js

pub record IsPlaced (g : Graph) (ks : List ℕ) (n : Name) : Type 0 where
  pub place : ℕ
  pub among : IsAmong place ks
  pub within : place < length g.names
  pub sort : Sort
  pub entry : entry_at g.names place ≡ (n, sort)

pub named_at : (g : Graph) (from : ℕ) (ks : List ℕ) (ss : List StateDeclaration) (n : Name) → StandAt g from ks ss → is_none (state_named ss n) ≡ false → IsPlaced g ks n
named_at g from [] [] n s h = absurd (false≢true (sym h))
named_at g from [] (x ∷ ss) n s h = absurd s
named_at g from (k ∷ ks) [] n s h = absurd s
named_at g from (k ∷ ks) (x ∷ ss) n s h = by_test (same_name x.state_name n) refl (λ e. named_at g (suc k) ks ss n s.3 e) where
  by_test : (b : Bool) → same_name x.state_name n ≡ b → (is_none (state_named ss n) ≡ false → IsPlaced g ks n) → IsPlaced g (k ∷ ks) n
  by_test true t rest = record { place = k; among = inl refl; within = s.1; sort = x.sort; entry = s.2 ∙ ap (λ m. (m, x.sort)) ((bytes_eq-Decides x.state_name n).0 t) }
  by_test false t rest =
      let r = rest (ap (λ b. is_none (cond b (Some x) (state_named ss n))) (sym t) ∙ h) in
      record { place = r.place; among = inr r.among; within = r.within; sort = r.sort; entry = r.entry }

-- ---- what was chosen so far

abbrev name_of_name : Term → Name
name_of_name (terms.name n s) = n
name_of_name _ = []

-- an update of a visible state is one of the state that its name's term is
leaf_name : (g : Graph) (t : BTreeMap (Bor (List ℕ)) TermId) (n : Name) (s : Sort) (i : NameId) (o : Option TermId) → StandsFor g (declared n s) o → IsLeafOf g i o → (entry_at g.names i.0).0 ≡ n
leaf_name g t n s i None a b = absurd a
leaf_name g t n s i (Some id) a b = ap name_of_name (sym b.1 ∙ a.1)

pub updated_place : (g : Graph) (t : BTreeMap (Bor (List ℕ)) TermId) (ks : List ℕ) (ss : List StateDeclaration) (n : Name) (i : NameId)
    → IsTable g t → StandAt g 0 ks ss → is_none (state_named ss n) ≡ false → IsLeafOf g i (under_name t n) → (entry_at g.names i.0).0 ≡ n
unfolding IsTable
updated_place g t ks ss n i a s h l =
    let p = named_at g 0 ks ss n s h in
    let there = subst (λ (x : Name × Sort). StandsFor g (declared x.0 x.1) (under_name t x.0)) p.entry (stand_at g t g.names p.place a.1 p.within) in
    leaf_name g t n p.sort i (under_name t n) there l

leaf_within : (g : Graph) (i : NameId) (o : Option TermId) → IsLeafOf g i o → i.0 < length g.names
leaf_within g i None l = absurd l
leaf_within g i (Some id) l = l.0

-- one more update was put
one_chosen : (ns : Entries Sort) (g h : Graph) (names : Entries Visible) (us rest : Entries WrittenTerm) (n : Name) (e : WrittenTerm) (i k : ℕ) (id : TermId) (o : Option TermId)
    → HasDistinctNames ns → IsGrown g h → i < length ns → (entry_at ns i).0 ≡ n → id.0 < length h.nodes → tree h id.0 ≡ term_of names e
    → IsChosen ns g names us ((n, e) ∷ rest) k o → IsChosen ns h names us rest k (first_of o (cond (k == i) (Some id) None))
one_chosen ns g h names us rest n e i k id (Some x) d b w q v t c = (c.0, omega (arith, c.1, b.longer), (c.2.0, c.2.1, b.trees x.0 c.1 ∙ c.2.2))
one_chosen ns g h names us rest n e i k id None d b w q v t c = by_test (k == i) refl where
  by_test : (z : Bool) → (k == i) ≡ z → IsChosen ns h names us rest k (first_of None (cond z (Some id) None))
  by_test true z =
      let same : k ≡ i = eqb-true k i z in
      let there : (entry_at ns k).0 ≡ n = ap (λ j. (entry_at ns j).0) same ∙ q in
      let test : same_name n (entry_at ns k).0 ≡ true = (bytes_eq-Decides n (entry_at ns k).0).1 (sym there) in
      (omega (arith, same, w), v, (e, c (omega (arith, same, w)) ∙ ap (λ b. cond b (Some e) (entry_of rest (entry_at ns k).0)) test, t))
  by_test false z = λ j. c j ∙ ap (λ b. cond b (Some e) (entry_of rest (entry_at ns k).0)) (other j (same_name n (entry_at ns k).0) refl) where
    other : k < length ns → (b : Bool) → same_name n (entry_at ns k).0 ≡ b → b ≡ false
    other j false y = refl
    other j true y =
        let same : k ≡ i = places_same ns k i d j w (sym ((bytes_eq-Decides n (entry_at ns k).0).0 y) ∙ sym q) in
        absurd (false≢true (sym z ∙ eq-eqb k i same))

pub more_chosen : (g h : Graph) (t : BTreeMap (Bor (List ℕ)) TermId) (f : Option TermId) (names : Entries Visible) (ks : List ℕ) (ss : List StateDeclaration) (us rest : Entries WrittenTerm) (n : Name) (e : WrittenTerm) (i : NameId) (id : TermId) (m w : BTreeMap ℕ TermId)
    → HasDistinctNames g.names → IsTable g t → Knows g t f names → StandAt g 0 ks ss → is_right (placed names e (of_update n (state_named ss n))) ≡ true
    → IsLeafOf g i (under_name t n) → IsPut g h (Ok id) (term_by (seen_by g t f) e)
    → ((k : ℕ) → chosen w k ≡ first_of (chosen m k) (cond (k == i.0) (Some id) None))
    → AreChosen g.names g names us ((n, e) ∷ rest) m → AreChosen g.names h names us rest w
unfolding AreChosen is_right
more_chosen g h t f names ks ss us rest n e i id m w d a k s r l p c all j =
    let parts = and_parts (not (uses_unknown_name names e || updates_no_state (of_update n (state_named ss n)))) _ r in
    let u = or_parts (uses_unknown_name names e) (is_none (state_named ss n)) (not_true _ parts.0) in
    let it : IsTermOf h id names e = right_put g h t f names e (of_update n (state_named ss n)) (Ok id) k r p in
    subst (IsChosen g.names h names us rest j) (sym (c j))
    (one_chosen g.names g h names us rest n e i.0 j id (chosen m j) d p.0 (leaf_within g i (under_name t n) l) (updated_place g t ks ss n i a s u.1 l) it.within it.tree (all j))

-- ---- the list of what was chosen

abbrev picked : Option TermId → ℕ → List (ℕ × TermId) → List (ℕ × TermId)
picked None k r = r
picked (Some t) k r = (k, t) ∷ r

abbrev picks : (ℕ → Option TermId) → List ℕ → List (ℕ × TermId)
picks at [] = []
picks at (k ∷ ks) = picked (at k) k (picks at ks)

abbrev Ascends : ℕ → List (ℕ × TermId) → Type 0
Ascends from [] = ⊤
Ascends from (e ∷ es) = (from ≤ e.0) × Ascends (suc e.0) es

abbrev Ascending : ℕ → List ℕ → Type 0
Ascending from [] = ⊤
Ascending from (k ∷ ks) = (from ≤ k) × Ascending (suc k) ks

less_than : (x y : ℕ) → nat_cmp x y ≡ Less → x < y
less_than x y h = by_test (nat_lt x y) (x == y) refl h where
  by_test : (a b : Bool) → nat_lt x y ≡ a → cond a Less (cond b Equal Greater) ≡ Less → x < y
  by_test true b e k = ltb-true x y e
  by_test false true e k = cc
  by_test false false e k = cc

ascends_after : (x : ℕ) (es : List (ℕ × TermId)) → IsStrictlySortedBy nat_cmp (x ∷ keys_of es) → Ascends (suc x) es
unfolding IsStrictlySortedBy
ascends_after x [] s = tt
ascends_after x (e ∷ es) s = (omega (arith, less_than x e.0 s.0.0), ascends_after e.0 es s.1)

ascends : (es : List (ℕ × TermId)) → IsStrictlySortedBy nat_cmp (keys_of es) → Ascends 0 es
ascends [] s = tt
ascends (e ∷ es) s = (omega arith, ascends_after e.0 es s)

at_same : (k j : ℕ) → k ≡ j → is_eq (nat_cmp k j) ≡ true
at_same k j e = by_test (nat_lt k j) (k == j) refl (eq-eqb k j e) where
  by_test : (a b : Bool) → nat_lt k j ≡ a → b ≡ true → is_eq (cond a Less (cond b Equal Greater)) ≡ true
  by_test true b h i = absurd (omega (arith, ltb-true k j h, e))
  by_test false true h i = refl
  by_test false false h i = absurd (false≢true i)

at_other : (k j : ℕ) → (k ≡ j → ⊥) → is_eq (nat_cmp k j) ≡ false
at_other k j n = by_test (nat_lt k j) (k == j) (ne_eqb k j n) where
  by_test : (a b : Bool) → b ≡ false → is_eq (cond a Less (cond b Equal Greater)) ≡ false
  by_test true b i = refl
  by_test false true i = absurd (false≢true (sym i))
  by_test false false i = refl

abbrev find : List (ℕ × TermId) → ℕ → Option TermId
find es k = lookup (is_at (nat_cmp k)) es

find_here : (e : ℕ × TermId) (es : List (ℕ × TermId)) (k : ℕ) → k ≡ e.0 → find (e ∷ es) k ≡ Some e.1
find_here e es k h = ap (λ b. cond b (Some e.1) (find es k)) (at_same k e.0 h)

find_there : (e : ℕ × TermId) (es : List (ℕ × TermId)) (k : ℕ) → (k ≡ e.0 → ⊥) → find (e ∷ es) k ≡ find es k
find_there e es k h = ap (λ b. cond b (Some e.1) (find es k)) (at_other k e.0 h)

find_low : (es : List (ℕ × TermId)) (from k : ℕ) → Ascends from es → k < from → find es k ≡ None
find_low [] from k a h = refl
find_low (e ∷ es) from k a h = find_there e es k (λ q. omega (arith, a.0, h, q)) ∙ find_low es (suc e.0) k a.1 (omega (arith, a.0, h))

among_from : (ks : List ℕ) (from k : ℕ) → Ascending from ks → IsAmong k ks → from ≤ k
among_from [] from k a i = absurd i
among_from (j ∷ js) from k a (inl e) = omega (arith, a.0, e)
among_from (j ∷ js) from k a (inr i) = omega (arith, a.0, among_from js (suc j) k a.1 i)

some_none : {A : Type 0} {x : A} → Some x ≡ None → ⊥
some_none p = cc

listed : (at : ℕ → Option TermId) (ks : List ℕ) (es : List (ℕ × TermId)) (from : ℕ) → Ascends from es → Ascending from ks
    → ((k : ℕ) → from ≤ k → find es k ≡ at k) → ((k : ℕ) (id : TermId) → from ≤ k → at k ≡ Some id → IsAmong k ks) → es ≡ picks at ks
listed at [] [] from a b f m = refl
listed at [] (e ∷ es) from a b f m = absurd (m e.0 e.1 a.0 (sym (f e.0 a.0) ∙ find_here e es e.0 refl))
listed at (k ∷ ks) es from a b f m = by_pick (λ xs p q r. listed at ks xs (suc k) p b.1 q r) (at k) refl where
  none_low : (es : List (ℕ × TermId)) → Ascends from es → ((j : ℕ) → from ≤ j → find es j ≡ at j) → at k ≡ None → Ascends (suc k) es
  none_low [] a f o = tt
  none_low (e ∷ es) a f o = (later (m e.0 e.1 a.0 (sym (f e.0 a.0) ∙ find_here e es e.0 refl)), a.1) where
    later : IsAmong e.0 (k ∷ ks) → suc k ≤ e.0
    later (inl q) = absurd (some_none (sym (find_here e es e.0 refl) ∙ (f e.0 a.0 ∙ (ap at q ∙ o))))
    later (inr i) = among_from ks (suc k) e.0 b.1 i

  behind : (j : ℕ) (id : TermId) → suc k ≤ j → at j ≡ Some id → IsAmong j ks
  behind j id h o = rest (m j id (omega (arith, h, b.0)) o) where
    rest : IsAmong j (k ∷ ks) → IsAmong j ks
    rest (inl q) = absurd (omega (arith, h, q))
    rest (inr i) = i

  first : (es : List (ℕ × TermId)) (t : TermId) → Ascends from es → ((j : ℕ) → from ≤ j → find es j ≡ at j) → at k ≡ Some t → ((es : List (ℕ × TermId)) → Ascends (suc k) es → ((j : ℕ) → suc k ≤ j → find es j ≡ at j) → es ≡ picks at ks) → es ≡ (k, t) ∷ picks at ks
  first [] t a f o go = absurd (some_none (sym o ∙ sym (f k b.0)))
  first (e ∷ es) t a f o go = here (m e.0 e.1 a.0 (sym (f e.0 a.0) ∙ find_here e es e.0 refl)) where
    here : IsAmong e.0 (k ∷ ks) → e ∷ es ≡ (k, t) ∷ picks at ks
    here (inl q) =
        let v : Some e.1 ≡ Some t = sym (find_here e es k (sym q)) ∙ (f k b.0 ∙ o) in
        let w : e.1 ≡ t = cc in
        ap (λ x. (x, e.1) ∷ es) q ∙ (ap (λ x. (k, x) ∷ es) w ∙ ap (λ x. (k, t) ∷ x) (go es (subst (λ x. Ascends (suc x) es) q a.1) (λ j h. sym (find_there e es j (λ z. omega (arith, h, z, q))) ∙ f j (omega (arith, h, b.0)))))
    here (inr i) = absurd (some_none (sym o ∙ (sym (f k b.0) ∙ find_low (e ∷ es) (suc k) k (among_from ks (suc k) e.0 b.1 i, a.1) (omega arith))))

  by_pick : ((xs : List (ℕ × TermId)) → Ascends (suc k) xs → ((j : ℕ) → suc k ≤ j → find xs j ≡ at j) → ((j : ℕ) (id : TermId) → suc k ≤ j → at j ≡ Some id → IsAmong j ks) → xs ≡ picks at ks) → (o : Option TermId) → at k ≡ o → es ≡ picked o k (picks at ks)
  by_pick go None o = go es (none_low es a f o) (λ j h. f j (omega (arith, h, b.0))) behind
  by_pick go (Some t) o = first es t a f o (λ xs p q. go xs p q behind)

-- ---- the list against the definition

rule_of : (names : Entries Visible) (ss : List StateDeclaration) (us : Entries WrittenTerm) (n : Name) (e : WrittenTerm) → are_right (placed_updates names ss us) ≡ true → entry_of us n ≡ Some e → is_none (state_named ss n) ≡ false
unfolding are_right is_right
rule_of names ss [] n e r h = absurd (some_none (sym h))
rule_of names ss (u ∷ us) n e r h = by_test (same_name u.0 n) refl (λ k. rule_of names ss us n e (and_parts (is_right (placed names u.1 (of_update u.0 (state_named ss u.0)))) (are_right (placed_updates names ss us)) r).1 k) where
  by_test : (b : Bool) → same_name u.0 n ≡ b → (entry_of us n ≡ Some e → is_none (state_named ss n) ≡ false) → is_none (state_named ss n) ≡ false
  by_test false k rest = rest (ap (λ b. cond b (Some u.1) (entry_of us n)) (sym k) ∙ h)
  by_test true k rest =
      let a = and_parts (is_right (placed names u.1 (of_update u.0 (state_named ss u.0)))) (are_right (placed_updates names ss us)) r in
      let b = and_parts (not (uses_unknown_name names u.1 || updates_no_state (of_update u.0 (state_named ss u.0)))) _ a.0 in
      ap (λ x. is_none (state_named ss x)) (sym ((bytes_eq-Decides u.0 n).0 k)) ∙ (or_parts (uses_unknown_name names u.1) (is_none (state_named ss u.0)) (not_true _ b.0)).1

ascending_of : (g : Graph) (from : ℕ) (ks : List ℕ) (ss : List StateDeclaration) → StandAt g from ks ss → Ascending from ks
ascending_of g from [] ss s = tt
ascending_of g from (k ∷ ks) [] s = absurd s
ascending_of g from (k ∷ ks) (x ∷ ss) s = (s.0, ascending_of g (suc k) ks ss s.3)

one_listed : (g h : Graph) (names : Entries Visible) (us : Entries WrittenTerm) (k : ℕ) (s : StateDeclaration) (o : Option TermId) (es : List (ℕ × TermId)) (ts : Entries Term)
    → h.names ≡ g.names → k < length g.names → entry_at g.names k ≡ (s.state_name, s.sort) → IsChosen g.names h names us [] k o → AreUpdates h es ts
    → AreUpdates h (picked o k es) (with_own_update names s.state_name (entry_of us s.state_name) ts)
one_listed g h names us k s None es ts e w q c r =
    let gone : entry_of us s.state_name ≡ None = ap (λ (x : Name × Sort). entry_of us x.0) (sym q) ∙ c w in
    subst (λ x. AreUpdates h es (with_own_update names s.state_name x ts)) (sym gone) r
one_listed g h names us k s (Some id) es ts e w q c r =
    let there : entry_of us s.state_name ≡ Some c.2.0 = ap (λ (x : Name × Sort). entry_of us x.0) (sym q) ∙ c.2.1 in
    let within : k < length h.names = subst (λ (ns : Entries Sort). k < length ns) (sym e) w in
    let called : (entry_at h.names k).0 ≡ s.state_name = ap (λ ns. (entry_at ns k).0) e ∙ ap (λ (x : Name × Sort). x.0) q in
    subst (λ x. AreUpdates h ((k, id) ∷ es) (with_own_update names s.state_name x ts)) (sym there) (within, c.1, called, c.2.2, r)

all_listed : (g h : Graph) (names : Entries Visible) (us : Entries WrittenTerm) (at : ℕ → Option TermId) (from : ℕ) (ks : List ℕ) (ss : List StateDeclaration)
    → h.names ≡ g.names → StandAt g from ks ss → ((k : ℕ) → IsChosen g.names h names us [] k (at k)) → AreUpdates h (picks at ks) (updates_for_states names ss us)
all_listed g h names us at from [] [] e s c = tt
all_listed g h names us at from [] (x ∷ ss) e s c = absurd s
all_listed g h names us at from (k ∷ ks) [] e s c = absurd s
all_listed g h names us at from (k ∷ ks) (x ∷ ss) e s c =
    one_listed g h names us k x (at k) (picks at ks) (updates_for_states names ss us) e s.1 s.2 (c k) (all_listed g h names us at (suc k) ks ss e s.3 c)

member_of : (g h : Graph) (names : Entries Visible) (us : Entries WrittenTerm) (ks : List ℕ) (ss : List StateDeclaration) (k : ℕ) (id : TermId) (o : Option TermId)
    → HasDistinctNames g.names → StandAt g 0 ks ss → are_right (placed_updates names ss us) ≡ true → IsChosen g.names h names us [] k o → o ≡ Some id → IsAmong k ks
member_of g h names us ks ss k id None d s r c e = absurd (some_none (sym e))
member_of g h names us ks ss k id (Some x) d s r c e =
    let p = named_at g 0 ks ss (entry_at g.names k).0 s (rule_of names ss us (entry_at g.names k).0 c.2.0 r c.2.1) in
    let same : p.place ≡ k = places_same g.names p.place k d p.within c.0 (ap (λ (x : Name × Sort). x.0) p.entry) in
    subst (λ j. IsAmong j ks) same p.among

-- ---- the loop over the updates

unfoldable pub AreToChoose : Graph → BTreeMap (Bor (List ℕ)) TermId → Option TermId → Graph → BTreeMap ℕ TermId → (rest all : Entries WrittenTerm) → Type 0
AreToChoose g t f h m rest us = (names : Entries Visible) (ks : List ℕ) (ss : List StateDeclaration)
    → Knows g t f names → StandAt g 0 ks ss → are_right (placed_updates names ss us) ≡ true
    → AreChosen g.names h names us rest m × (are_right (placed_updates names ss rest) ≡ true)

pub choose_start : (g : Graph) (t : BTreeMap (Bor (List ℕ)) TermId) (f : Option TermId) (m : BTreeMap ℕ TermId) (us : Entries WrittenTerm) → m.entries ≡ [] → AreToChoose g t f g m us us
unfolding AreToChoose AreChosen
choose_start g t f m us e names ks ss k s r =
    ((λ j. subst (IsChosen g.names g names us us j) (sym (ap (λ es. find es j) e)) (λ h. refl)), r)

pub stand_moved : (g h : Graph) (from : ℕ) (ks : List ℕ) (ss : List StateDeclaration) → h.names ≡ g.names → StandAt g from ks ss → StandAt h from ks ss
stand_moved g h from [] [] e s = tt
stand_moved g h from [] (x ∷ ss) e s = absurd s
stand_moved g h from (k ∷ ks) [] e s = absurd s
stand_moved g h from (k ∷ ks) (x ∷ ss) e s =
    (s.0, subst (λ (ns : Entries Sort). k < length ns) (sym e) s.1, ap (λ ns. entry_at ns k) e ∙ s.2, stand_moved g h (suc k) ks ss e s.3)

pub choose_turn : (g h k : Graph) (t : BTreeMap (Bor (List ℕ)) TermId) (f : Option TermId) (m w : BTreeMap ℕ TermId) (u : Name × WrittenTerm) (rest us : Entries WrittenTerm)
    → IsGrown g h → AreToChoose g t f h m (u ∷ rest) us → ChoosesOne h t f k m w u → AreToChoose g t f k w rest us
unfolding AreToChoose ChoosesOne are_right
choose_turn g h k t f m w u rest us b a one names ks ss knows s r =
    let at = a names ks ss knows s r in
    let parts = and_parts (is_right (placed names u.1 (of_update u.0 (state_named ss u.0)))) (are_right (placed_updates names ss rest)) at.1 in (
      subst (λ ns. AreChosen ns k names us rest w) b.names
          (one names ks ss us rest (knows_grown g h t f names (wider b) knows) (stand_moved g h 0 ks ss b.names s) parts.0 (subst (λ ns. AreChosen ns h names us (u ∷ rest) m) (sym b.names) at.0)),
      parts.1,
    )

pub choose_end : (g h : Graph) (t : BTreeMap (Bor (List ℕ)) TermId) (f : Option TermId) (m : BTreeMap ℕ TermId) (us : Entries WrittenTerm)
    → HasDistinctNames g.names → IsGrown g h → IsOrdered nat_cmp m → AreToChoose g t f h m [] us → AreUpdated g t f h m.entries us
unfolding AreToChoose AreUpdated AreChosen
choose_end g h t f m us d b o a names ks ss k s r =
    let at = (a names ks ss k s r).0 in
    let list : m.entries ≡ picks (chosen m) ks = listed (chosen m) ks m.entries 0 (ascends m.entries o) (ascending_of g 0 ks ss s) (λ j z. refl) (λ j id z e. member_of g h names us ks ss j id (chosen m j) d s r (at j) e) in
    subst (λ es. AreUpdates h es (updates_for_states names ss us)) (sym list) (all_listed g h names us (chosen m) 0 ks ss b.names s at)

pub one_updated : (g h : Graph) (t : BTreeMap (Bor (List ℕ)) TermId) (f : Option TermId) (m w : BTreeMap ℕ TermId) (u : Name × WrittenTerm) (i : NameId) (id : TermId)
    → HasDistinctNames g.names → IsTable g t → IsLeafOf g i (under_name t u.0) → IsPut g h (Ok id) (term_by (seen_by g t f) u.1)
    → ((k : ℕ) → chosen w k ≡ first_of (chosen m k) (cond (k == i.0) (Some id) None)) → ChoosesOne g t f h m w u
unfolding ChoosesOne
one_updated g h t f m w u i id d a l p c names ks ss us rest k s r all =
    more_chosen g h t f names ks ss us rest u.0 u.1 i id m w d a k s r l p c all
