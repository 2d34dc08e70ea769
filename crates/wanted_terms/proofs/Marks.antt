-- Marks on terms, and what they keep.
use Rattle.std.proofs.Common.{◌≡◌, ℕ, zero, suc, ◌+◌, ◌-◌, ◌<◌, ◌≤◌, Bool, true, false, List, [], ◌∷◌, length, get_or, set, drop, Some, slice_get, inl, inr, refl, sym, ◌∙◌, subst, arith}
use Rattle.std.proofs.lemmas.Bool.{cases_eq, false≢true}
use Rattle.std.proofs.lemmas.List.{get_or-set_same, get_or-set_other, drop_more}
use Rattle.std.proofs.Math.ListN.{length-set}
use Rattle.wb_terms.specs.declared.nodes.TermId.{TermId}
use Rattle.wb_terms.specs.declared.nodes.Node.{Node}
use Rattle.wb_terms.specs.Graph.{Graph, AllBelow, operands_of}
use Rattle.wanted_terms.specs.Wanted.{mark_at, with_marks, AllMarked, AllMarkedBelow, AreMarkedFrom, AreBelow}

pub length-with_marks : (ks : List ℕ) (ms : List Bool) → length (with_marks ks ms) ≡ length ms
length-with_marks [] ms = refl
length-with_marks (k ∷ ks) ms = length-with_marks ks (set ms k true) ∙ length-set ms k true

set_kept : (ms : List Bool) (k j : ℕ) → k < length ms → mark_at ms j ≡ true → mark_at (set ms k true) j ≡ true
set_kept ms k j b h = elim (cases_eq k j) [
  | inl e ↦ subst (λ i. mark_at (set ms k true) i ≡ true) e (get_or-set_same ms k true false b)
  | inr ne ↦ get_or-set_other ms k j true false (λ e. ne (sym e)) ∙ h
]

pub marks_kept : (n : ℕ) (ks : List ℕ) (ms : List Bool) (j : ℕ) → AllBelow n ks → n ≤ length ms → mark_at ms j ≡ true → mark_at (with_marks ks ms) j ≡ true
marks_kept n [] ms j b l h = h
marks_kept n (k ∷ ks) ms j b l h = marks_kept n ks (set ms k true) j b.1 (omega (arith, l, length-set ms k true)) (set_kept ms k j (omega (arith, b.0, l)) h)

pub marks_other : (n : ℕ) (ks : List ℕ) (ms : List Bool) (m : ℕ) → AllBelow n ks → n ≤ m → mark_at (with_marks ks ms) m ≡ mark_at ms m
marks_other n [] ms m b l = refl
marks_other n (k ∷ ks) ms m b l = marks_other n ks (set ms k true) m b.1 l ∙ get_or-set_other ms k m true false (λ e. absurd (omega (arith, e, b.0, l)))

pub marks_set : (n : ℕ) (ks : List ℕ) (ms : List Bool) → AllBelow n ks → n ≤ length ms → AllMarkedBelow (with_marks ks ms) n ks
marks_set n [] ms b l = tt
marks_set n (k ∷ ks) ms b l =
    let low : n ≤ length (set ms k true) = omega (arith, l, length-set ms k true) in
    (b.0, marks_kept n ks (set ms k true) k b.1 low (get_or-set_same ms k true false (omega (arith, b.0, l))), marks_set n ks (set ms k true) b.1 low)

pub below_kept : (ms ns : List Bool) (n : ℕ) (ks : List ℕ) → ((j : ℕ) → mark_at ms j ≡ true → mark_at ns j ≡ true) → AllMarkedBelow ms n ks → AllMarkedBelow ns n ks
below_kept ms ns n [] f h = tt
below_kept ms ns n (k ∷ ks) f h = (h.0, f k h.1, below_kept ms ns n ks f h.2)

pub all_kept : (ms ns : List Bool) (rs : List TermId) → ((j : ℕ) → mark_at ms j ≡ true → mark_at ns j ≡ true) → AllMarked ms rs → AllMarked ns rs
all_kept ms ns [] f h = tt
all_kept ms ns (r ∷ rs) f h = (f r.0 h.0, all_kept ms ns rs f h.1)

same_node : (g : Graph) (k : ℕ) (m n : Node) → slice_get g.nodes k ≡ Some m → slice_get g.nodes k ≡ Some n → m ≡ n
same_node g k m n e f = let s = sym e ∙ f in cc

-- a marked term's operands are marked
pub turn_marked : (g : Graph) (ms : List Bool) (place from : ℕ) (n : Node) → from ≡ suc place → slice_get g.nodes place ≡ Some n → AllBelow place (operands_of n) → place < length ms → AreMarkedFrom g ms from → AreMarkedFrom g (with_marks (operands_of n) ms) place
turn_marked g ms place from n z e b l a m within lo mark other is =
    let ks = operands_of n in
    let ns = with_marks ks ms in
    let low : place ≤ length ms = omega (arith, l) in
    elim (cases_eq place m) [
      | inl q ↦
          let here = subst (λ (k : ℕ). slice_get g.nodes k ≡ Some other) (sym q) is in
          subst (λ k. AllMarkedBelow ns k (operands_of other)) q (subst (λ (x : Node). AllMarkedBelow ns place (operands_of x)) (same_node g place n other e here) (marks_set place ks ms b low))
      | inr ne ↦
          let up : from ≤ m = omega (arith, lo, ne, z) in
          below_kept ms ns m (operands_of other) (λ j h. marks_kept place ks ms j b low h) (a m within up (sym (marks_other place ks ms m b lo) ∙ mark) other is)
    ]

pub turn_unmarked : (g : Graph) (ms : List Bool) (place from : ℕ) → from ≡ suc place → mark_at ms place ≡ false → AreMarkedFrom g ms from → AreMarkedFrom g ms place
turn_unmarked g ms place from z clear a m within lo mark other is = elim (cases_eq place m) [
  | inl q ↦ absurd (false≢true (sym clear ∙ subst (λ k. mark_at ms k ≡ true) (sym q) mark))
  | inr ne ↦ a m within (omega (arith, lo, ne, z)) mark other is
]

pub none_from : (g : Graph) (ms : List Bool) (from : ℕ) → from ≡ length g.nodes → AreMarkedFrom g ms from
none_from g ms from z m within lo mark n is = absurd (omega (arith, z, within, lo))

pub below_more : (n m : ℕ) (rs : List TermId) → n ≤ m → AreBelow n rs → AreBelow m rs
below_more n m [] l h = tt
below_more n m (r ∷ rs) l h = (omega (arith, h.0, l), below_more n m rs l h.1)

-- what a read of a mark says
pub read_mark : (ms : List Bool) (k : ℕ) (b : Bool) → k < length ms → b ≡ get_or ms k b → mark_at ms k ≡ b
read_mark [] k b l h = absurd (omega (arith, l))
read_mark (m ∷ ms) zero b l h = sym h
read_mark (m ∷ ms) (suc k) b l h = read_mark ms k b (omega (arith, l)) h

-- the marks after so many turns
pub record IsMarking (g : Graph) (rs : List TermId) (ms : List Bool) (done : ℕ) : Type 0 where
  pub room : length ms ≡ length g.nodes
  pub marked : AllMarked ms rs
  pub under : AreMarkedFrom g ms (length g.nodes - done)

pub marking_start : (g : Graph) (rs : List TermId) (ms : List Bool) → length ms ≡ length g.nodes → AllMarked ms rs → IsMarking g rs ms 0
marking_start g rs ms r a = record { room = r; marked = a; under = none_from g ms (length g.nodes - 0) (omega arith) }

pub marking_more : (g : Graph) (rs : List TermId) (ms ns : List Bool) (place done : ℕ) (n : Node) → place ≡ length ms - 1 - done → done < length ms → slice_get g.nodes place ≡ Some n → AllBelow place (operands_of n) → ns ≡ with_marks (operands_of n) ms → IsMarking g rs ms done → IsMarking g rs ns (done + 1)
marking_more g rs ms ns place done n z l is b e a =
    let room = a.room in
    let here : place ≡ length g.nodes - (done + 1) = omega (arith, z, l, room) in
    let low : place ≤ length ms = omega (arith, z, l) in
    subst (λ x. IsMarking g rs x (done + 1)) (sym e) (record {
      room = length-with_marks (operands_of n) ms ∙ room;
      marked = all_kept ms (with_marks (operands_of n) ms) rs (λ j h. marks_kept place (operands_of n) ms j b low h) a.marked;
      under = subst (λ k. AreMarkedFrom g (with_marks (operands_of n) ms) k) here
          (turn_marked g ms place (length g.nodes - done) n (omega (arith, z, l, room)) is b (omega (arith, z, l)) a.under);
    })

pub marking_pass : (g : Graph) (rs : List TermId) (ms ns : List Bool) (place done : ℕ) → place ≡ length ms - 1 - done → done < length ms → mark_at ms place ≡ false → ns ≡ ms → IsMarking g rs ms done → IsMarking g rs ns (done + 1)
marking_pass g rs ms ns place done z l clear e a =
    let room = a.room in
    let here : place ≡ length g.nodes - (done + 1) = omega (arith, z, l, room) in
    subst (λ x. IsMarking g rs x (done + 1)) (sym e) (record {
      room = room;
      marked = a.marked;
      under = subst (λ k. AreMarkedFrom g ms k) here (turn_unmarked g ms place (length g.nodes - done) (omega (arith, z, l, room)) clear a.under);
    })

pub marking_end : (g : Graph) (rs : List TermId) (ms : List Bool) (done : ℕ) → length ms ≤ done → IsMarking g rs ms done → AreMarkedFrom g ms 0
marking_end g rs ms done l a =
    let room = a.room in
    let e : length g.nodes - done ≡ 0 = omega (arith, l, room) in
    subst (λ k. AreMarkedFrom g ms k) e a.under

-- the roots that are marked so far
pub record IsRooting (rs : List TermId) (n : ℕ) (ms : List Bool) (place : ℕ) : Type 0 where
  pub room : length ms ≡ n
  pub marked : (ns : List Bool) → ((j : ℕ) → mark_at ms j ≡ true → mark_at ns j ≡ true) → AllMarked ns (drop place rs) → AllMarked ns rs

pub rooting_start : (rs : List TermId) (n : ℕ) (ms : List Bool) → length ms ≡ n → IsRooting rs n ms 0
rooting_start rs n ms r = record { room = r; marked = λ ns f h. h }

pub below_at : (n : ℕ) (rs : List TermId) (k : ℕ) (d : TermId) → AreBelow n rs → k < length rs → (get_or rs k d).0 < n
below_at n [] k d h l = absurd (omega (arith, l))
below_at n (r ∷ rs) zero d h l = h.0
below_at n (r ∷ rs) (suc k) d h l = below_at n rs k d h.1 (omega (arith, l))

pub rooting_more : (rs : List TermId) (n : ℕ) (ms : List Bool) (place : ℕ) (d : TermId) → AreBelow n rs → place < length rs → IsRooting rs n ms place → IsRooting rs n (set ms (get_or rs place d).0 true) (place + 1)
rooting_more rs n ms place d b l a =
    let r = get_or rs place d in
    let room = a.room in
    let low = below_at n rs place d b l in
    let within : r.0 < length ms = omega (arith, low, room) in
    record {
      room = length-set ms r.0 true ∙ room;
      marked = λ ns f h. a.marked ns (λ j m. f j (set_kept ms r.0 j within m))
          (subst (λ (xs : List TermId). AllMarked ns xs) (sym (drop_more rs place d l)) (f r.0 (get_or-set_same ms r.0 true false within), h));
    }

nothing_left : (rs : List TermId) (k : ℕ) → length rs ≤ k → drop k rs ≡ []
nothing_left [] zero l = refl
nothing_left [] (suc k) l = refl
nothing_left (r ∷ rs) zero l = absurd (omega (arith, l))
nothing_left (r ∷ rs) (suc k) l = nothing_left rs k (omega (arith, l))

pub rooting_end : (rs : List TermId) (n : ℕ) (ms : List Bool) (place : ℕ) → length rs ≤ place → IsRooting rs n ms place → AllMarked ms rs
rooting_end rs n ms place l a = a.marked ms (λ j m. m) (subst (λ (xs : List TermId). AllMarked ms xs) (sym (nothing_left rs place l)) tt)
