-- Marks at all that a memory is made of.
use Rattle.std.proofs.Common.{◌≡◌, ℕ, zero, suc, ◌+◌, ◌-◌, ◌<◌, ◌≤◌, Bool, true, false, ◌||◌, ◌==◌, ◌⊎◌, inl, inr, List, [], ◌∷◌, length, set, replicate, refl, sym, ◌∙◌, ap, subst, arith}
use Rattle.std.specs.List.{list_any}
use Rattle.std.proofs.lemmas.Bool.{or_cases, eq-eqb, eqb-true, cases_eq, false≢true}
use Rattle.std.proofs.lemmas.List.{get_or-set_same, get_or-set_other}
use Rattle.wb_terms.specs.declared.nodes.TermId.{TermId}
use Rattle.wb_terms.specs.declared.nodes.Node.{Node}
use Rattle.wb_terms.specs.declared.nodes.Node.TheVariants.{Ite, Store}
use Rattle.wb_terms.specs.Graph.{Graph, AllBelow, operands_of}
use Rattle.wanted_terms.specs.Wanted.{mark_at, with_marks, AllMarkedBelow}
use Rattle.wanted_terms.proofs.Marks.{length-with_marks, marks_kept, marks_other, marks_set}
use Rattle.emitted_modules.specs.Nodes.{node_at, memories_of, is_part}
use Rattle.emitted_modules.specs.Kept.{IsOrdered}
use Rattle.emitted_names.specs.Parts.{IsOwnMark, ArePartMarks}
use Rattle.emitted_names.proofs.Marking.{clear}

-- ---- what stands in a list

abbrev pub Among : ℕ → List ℕ → Type 0
Among k [] = ⊥
Among k (x ∷ xs) = (x ≡ k) ⊎ Among k xs

or_left : (a b : Bool) → a ≡ true → (a || b) ≡ true
or_left a b e = ap (λ c. c || b) e

or_right : (a b : Bool) → b ≡ true → (a || b) ≡ true
or_right true b e = refl
or_right _ b e = e

any_from : (f : ℕ → Bool) (x : ℕ) (xs : List ℕ) → Among x xs → f x ≡ true → list_any f xs ≡ true
any_from f x [] h e = absurd h
any_from f x (y ∷ ys) (inl q) e = or_left (f y) (list_any f ys) (ap f q ∙ e)
any_from f x (y ∷ ys) (inr h) e = or_right (f y) (list_any f ys) (any_from f x ys h e)

any_found : (f : ℕ → Bool) (xs : List ℕ) → list_any f xs ≡ true → (x : ℕ) × Among x xs × (f x ≡ true)
any_found f [] e = cc
any_found f (y ∷ ys) e = by_cases (or_cases (f y) (list_any f ys) e) (any_found f ys)
  where
    by_cases : (f y ≡ true) ⊎ (list_any f ys ≡ true) → (list_any f ys ≡ true → (x : ℕ) × Among x ys × (f x ≡ true))
        → (x : ℕ) × Among x (y ∷ ys) × (f x ≡ true)
    by_cases (inl t) more = (y, inl refl, t)
    by_cases (inr t) more = let z = more t in (z.0, inr z.1, z.2)

-- ---- parts

memories_below : (b : ℕ) (n : Node) → AllBelow b (operands_of n) → AllBelow b (memories_of n)
memories_below b (Store m i x) h = (h.0, tt)
memories_below b (Ite c x y) h = (h.1.0, (h.1.1.0, tt))
memories_below b _ h = tt

below_each : (b : ℕ) (ks : List ℕ) (k : ℕ) → AllBelow b ks → Among k ks → k < b
below_each b [] k h there = absurd there
below_each b (x ∷ ks) k h (inl e) = subst (λ j. j < b) e h.0
below_each b (x ∷ ks) k h (inr there) = below_each b ks k h.1 there

pub memory_below : (b : ℕ) (n : Node) (k : ℕ) → AllBelow b (operands_of n) → Among k (memories_of n) → k < b
memory_below b n k h there = below_each b (memories_of n) k (memories_below b n h) there

pub its_own_part : (g : Graph) (l k : ℕ) → k < l → is_part g l k k ≡ true
its_own_part g zero k less = absurd (omega (arith, less))
its_own_part g (suc l) k less = or_left (k == k) (list_any (λ i. is_part g l i k) (memories_of (node_at g k))) (eq-eqb k k refl)

-- What a part is made of is a part.
pub part_of_part : (g : Graph) → IsOrdered g → (l j p k : ℕ) → j < l → j < length g.nodes → is_part g l j p ≡ true → Among k (memories_of (node_at g p))
    → is_part g l j k ≡ true
part_of_part g ordered zero j p k less low h at = absurd (omega (arith, less))
part_of_part g ordered (suc l) j p k less low h at =
    or_right (j == k) (list_any (λ i. is_part g l i k) (memories_of (node_at g j)))
    (by_cases (or_cases (j == p) (list_any (λ i. is_part g l i p) (memories_of (node_at g j))) h)
    (λ i there e. part_of_part g ordered l i p k (within i there) (before i there) e at))
  where
    below : (i : ℕ) → Among i (memories_of (node_at g j)) → i < j
    below i there = memory_below j (node_at g j) i (ordered j low) there

    within : (i : ℕ) → Among i (memories_of (node_at g j)) → i < l
    within i there = let q : i < j = below i there in omega (arith, q, less)

    before : (i : ℕ) → Among i (memories_of (node_at g j)) → i < length g.nodes
    before i there = let q : i < j = below i there in omega (arith, q, low)

    by_cases : ((j == p) ≡ true) ⊎ (list_any (λ i. is_part g l i p) (memories_of (node_at g j)) ≡ true)
        → ((i : ℕ) → Among i (memories_of (node_at g j)) → is_part g l i p ≡ true → is_part g l i k ≡ true)
        → list_any (λ i. is_part g l i k) (memories_of (node_at g j)) ≡ true
    by_cases (inl e) more =
        let there : Among k (memories_of (node_at g j)) = subst (λ i. Among k (memories_of (node_at g i))) (sym (eqb-true j p e)) at in
        any_from (λ i. is_part g l i k) k (memories_of (node_at g j)) there (its_own_part g l k (within k there))
    by_cases (inr e) more =
        let z = any_found (λ i. is_part g l i p) (memories_of (node_at g j)) e in
        any_from (λ i. is_part g l i k) z.0 (memories_of (node_at g j)) z.1 (more z.0 z.1 z.2)

-- ---- marks

pub other_memories : (n : Node) → ((m i x : TermId) → n ≡ Store m i x → ⊥) → ((c x y : TermId) → n ≡ Ite c x y → ⊥) → memories_of n ≡ []
other_memories (Store m i x) f h = absurd (f m i x refl)
other_memories (Ite c x y) f h = absurd (h c x y refl)
other_memories _ f h = refl

marked_from : (ks : List ℕ) (ms : List Bool) (k : ℕ) → mark_at (with_marks ks ms) k ≡ true → (mark_at ms k ≡ true) ⊎ Among k ks
marked_from [] ms k h = inl h
marked_from (i ∷ ks) ms k h = by_cases (marked_from ks (set ms i true) k h)
  where
    by_cases : (mark_at (set ms i true) k ≡ true) ⊎ Among k ks → (mark_at ms k ≡ true) ⊎ Among k (i ∷ ks)
    by_cases (inl e) = elim (cases_eq i k) [
      | inl is ↦ inr (inl is)
      | inr other ↦ inl (sym (get_or-set_other ms i k true false (λ z. other (sym z))) ∙ e)
    ]
    by_cases (inr there) = inr (inr there)

among_marked : (n : ℕ) (ks : List ℕ) (ms : List Bool) (k : ℕ) → AllMarkedBelow ms n ks → Among k ks → mark_at ms k ≡ true
among_marked n [] ms k h there = absurd there
among_marked n (i ∷ ks) ms k h (inl e) = subst (λ j. mark_at ms j ≡ true) e h.1
among_marked n (i ∷ ks) ms k h (inr there) = among_marked n ks ms k h.2 there

pub only_mark : (n m : ℕ) (ms : List Bool) → m < n → length (replicate n false) ≡ n → ms ≡ set (replicate n false) m true → IsOwnMark m ms
only_mark n m ms low many e = subst (IsOwnMark m) (sym e) (
  get_or-set_same (replicate n false) m true false (omega (arith, low, many)),
  λ k h. elim (cases_eq m k) [
    | inl is ↦ sym is
    | inr other ↦ absurd (false≢true (sym (clear n k) ∙ sym (get_or-set_other (replicate n false) m k true false (λ z. other (sym z))) ∙ h))
  ],
)

-- From node `from` on the memories of each marked node are marked.
pub record IsPartMarking (g : Graph) (m n from : ℕ) (ms : List Bool) : Type 0 where
  pub room : length ms ≡ n
  pub own : mark_at ms m ≡ true
  pub sound : (k : ℕ) → mark_at ms k ≡ true → is_part g (suc m) m k ≡ true
  pub closed : (j : ℕ) → from ≤ j → j < n → mark_at ms j ≡ true → (k : ℕ) → Among k (memories_of (node_at g j)) → mark_at ms k ≡ true

same_truth : (a b : Bool) → (a ≡ true → b ≡ true) → (b ≡ true → a ≡ true) → a ≡ b
same_truth true b f h = sym (f refl)
same_truth false true f h = h refl
same_truth false false f h = refl

module _ (g : Graph) (ordered : IsOrdered g) (m n : ℕ) (few : n ≤ length g.nodes) where
  pub marking_start : (ms : List Bool) → length ms ≡ n → IsOwnMark m ms → IsPartMarking g m n (n - 0) ms
  marking_start ms r h = record {
    room = r;
    own = h.0;
    sound = λ k e. subst (λ j. is_part g (suc m) m j ≡ true) (sym (h.1 k e)) (its_own_part g (suc m) m (omega arith));
    closed = λ j lo hi e k there. absurd (omega (arith, lo, hi));
  }

  turn_marked : (ms : List Bool) (place : ℕ) → m < n → place < n → mark_at ms place ≡ true → IsPartMarking g m n (suc place) ms
      → IsPartMarking g m n place (with_marks (memories_of (node_at g place)) ms)
  turn_marked ms place mine low mark a =
      let ks = memories_of (node_at g place) in
      let b : AllBelow place ks = memories_below place (node_at g place) (ordered place (omega (arith, low, few))) in
      let l : place ≤ length ms = omega (arith, low, a.room) in
      record {
        room = length-with_marks ks ms ∙ a.room;
        own = marks_kept place ks ms m b l a.own;
        sound = λ k h. elim (marked_from ks ms k h) [
          | inl old ↦ a.sound k old
          | inr there ↦ part_of_part g ordered (suc m) m place k (omega arith) (omega (arith, mine, few)) (a.sound place mark) there
        ];
        closed = λ j lo hi h k there. elim (cases_eq place j) [
          | inl q ↦ among_marked place ks (with_marks ks ms) k (marks_set place ks ms b l) (subst (λ i. Among k (memories_of (node_at g i))) (sym q) there)
          | inr ne ↦ marks_kept place ks ms k b l (a.closed j (omega (arith, lo, ne)) hi (sym (marks_other place ks ms j b lo) ∙ h) k there)
        ];
      }

  turn_unmarked : (ms : List Bool) (place : ℕ) → mark_at ms place ≡ false → IsPartMarking g m n (suc place) ms → IsPartMarking g m n place ms
  turn_unmarked ms place off a = record {
    room = a.room;
    own = a.own;
    sound = a.sound;
    closed = λ j lo hi h k there. elim (cases_eq place j) [
      | inl q ↦ absurd (false≢true (sym off ∙ subst (λ i. mark_at ms i ≡ true) (sym q) h))
      | inr ne ↦ a.closed j (omega (arith, lo, ne)) hi h k there
    ];
  }

  pub marking_more : (ms ns : List Bool) (place done : ℕ) (node : Node) → m < n → place ≡ n - 1 - done → done < n → node ≡ node_at g place
      → ns ≡ with_marks (memories_of node) ms → mark_at ms place ≡ true → IsPartMarking g m n (n - done) ms → IsPartMarking g m n (n - (done + 1)) ns
  marking_more ms ns place done node mine z l is made mark a =
      let low : place < n = omega (arith, z, l) in
      let old : n - done ≡ suc place = omega (arith, z, l) in
      let new : place ≡ n - (done + 1) = omega (arith, z, l) in
      subst (λ f. IsPartMarking g m n f ns) new
      (subst (IsPartMarking g m n place) (sym (made ∙ ap (λ x. with_marks (memories_of x) ms) is))
      (turn_marked ms place mine low mark (subst (λ f. IsPartMarking g m n f ms) old a)))

  pub marking_pass : (ms ns : List Bool) (place done : ℕ) → place ≡ n - 1 - done → done < n → ns ≡ ms → mark_at ms place ≡ false
      → IsPartMarking g m n (n - done) ms → IsPartMarking g m n (n - (done + 1)) ns
  marking_pass ms ns place done z l same off a =
      let old : n - done ≡ suc place = omega (arith, z, l) in
      let new : place ≡ n - (done + 1) = omega (arith, z, l) in
      subst (λ f. IsPartMarking g m n f ns) new
      (subst (IsPartMarking g m n place) (sym same) (turn_unmarked ms place off (subst (λ f. IsPartMarking g m n f ms) old a)))

  reached : (ms : List Bool) → IsPartMarking g m n 0 ms → (l j k : ℕ) → j < n → mark_at ms j ≡ true → is_part g l j k ≡ true → mark_at ms k ≡ true
  reached ms a zero j k low h p = absurd (false≢true p)
  reached ms a (suc l) j k low h p =
      by_cases (or_cases (j == k) (list_any (λ i. is_part g l i k) (memories_of (node_at g j))) p) (λ i there q.
      reached ms a l i k (within i there) (a.closed j (omega arith) low h i there) q)
    where
      within : (i : ℕ) → Among i (memories_of (node_at g j)) → i < n
      within i there =
          let q : i < j = memory_below j (node_at g j) i (ordered j (omega (arith, low, few))) there in omega (arith, q, low)

      by_cases : ((j == k) ≡ true) ⊎ (list_any (λ i. is_part g l i k) (memories_of (node_at g j)) ≡ true)
          → ((i : ℕ) → Among i (memories_of (node_at g j)) → is_part g l i k ≡ true → mark_at ms k ≡ true) → mark_at ms k ≡ true
      by_cases (inl e) more = subst (λ i. mark_at ms i ≡ true) (eqb-true j k e) h
      by_cases (inr e) more = let z = any_found (λ i. is_part g l i k) (memories_of (node_at g j)) e in more z.0 z.1 z.2

  pub marking_end : (ms : List Bool) (done : ℕ) → m < n → n ≤ done → IsPartMarking g m n (n - done) ms → ArePartMarks g m ms
  marking_end ms done mine l a =
      let none : n - done ≡ 0 = omega (arith, l) in
      let b = subst (λ f. IsPartMarking g m n f ms) none a in
      λ k. same_truth (mark_at ms k) (is_part g (suc m) m k) (b.sound k) (λ p. reached ms b (suc m) m k mine b.own p)
