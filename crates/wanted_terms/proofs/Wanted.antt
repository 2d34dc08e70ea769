-- Copies of the terms of a closed list.
use Rattle.std.proofs.Common.{◌≡◌, ℕ, zero, suc, ◌+◌, ◌<◌, ◌≤◌, List, [], ◌∷◌, length, get_or, set, inl, inr, sym, ap, ◌∙◌, subst, arith}
use Rattle.std.proofs.lemmas.Bool.{cases_eq, cases_lt}
use Rattle.std.proofs.lemmas.List.{get_or-set_same, get_or-set_other}
use Rattle.std.proofs.Math.ListN.{length-set}
use Rattle.wb_terms.specs.declared.nodes.TermId.{TermId}
use Rattle.wb_terms.specs.Graph.{Graph, AllBelow}
use Rattle.term_copies.specs.Copies.{id_at, IsExtended, AreLeaves, IsCopy}
use Rattle.term_copies.proofs.Copying.{HaveCopies, copy_kept}
use Rattle.wanted_terms.specs.Wanted.{IsListed, AllListed, AreCopied}

pub listed_copy : (g source : Graph) (leaves wanted copies : List TermId) (n m k : ℕ) → m ≤ n → AreCopied g source leaves wanted n copies → IsListed wanted m k → IsCopy g source leaves (id_at copies k) k
listed_copy g source leaves wanted copies n m k l a h =
    subst (λ j. IsCopy g source leaves (id_at copies j) j) h.2 (a.copy h.0 (omega (arith, h.1, l)))

pub have_listed : (g source : Graph) (leaves wanted copies : List TermId) (n : ℕ) (ks : List ℕ) → AreCopied g source leaves wanted n copies → AllListed wanted n ks → HaveCopies g source leaves copies ks
have_listed g source leaves wanted copies n [] a h = tt
have_listed g source leaves wanted copies n (k ∷ ks) a h = (listed_copy g source leaves wanted copies n n k (omega arith) a h.0, have_listed g source leaves wanted copies n ks a h.1)

pub copied_kept : {g h : Graph} (source : Graph) (leaves wanted copies : List TermId) (n : ℕ) → IsExtended g h → AreLeaves g source.names leaves → AreCopied g source leaves wanted n copies → AreCopied h source leaves wanted n copies
copied_kept {g} {h} source leaves wanted copies n e l a = record {
  room = a.room;
  copy = λ j b. copy_kept source leaves (id_at copies (id_at wanted j)) (id_at wanted j) e l (a.copy j b);
}

set_id : (copies : List TermId) (k : ℕ) (id : TermId) → k < length copies → id_at (set copies k id) k ≡ id.0
set_id copies k id b = ap (λ (x : TermId). x.0) (get_or-set_same copies k id (record { 0 = 0 }) b)

other_id : (copies : List TermId) (k j : ℕ) (id : TermId) → ¬ (k ≡ j) → id_at (set copies k id) j ≡ id_at copies j
other_id copies k j id ne = ap (λ (x : TermId). x.0) (get_or-set_other copies k j id (record { 0 = 0 }) (λ e. ne (sym e)))

-- one copy more
pub copied_more : {g h : Graph} (source : Graph) (leaves wanted copies : List TermId) (n k : ℕ) (id : TermId) → k ≡ id_at wanted n → k < length source.nodes → IsExtended g h → AreLeaves g source.names leaves → AreCopied g source leaves wanted n copies → IsCopy h source leaves id.0 k → AreCopied h source leaves wanted (n + 1) (set copies k id)
copied_more {g} {h} source leaves wanted copies n k id z b e l a c =
    let within : k < length copies = omega (arith, b, a.room) in
    let here = subst (λ i. IsCopy h source leaves i k) (sym (set_id copies k id within)) c in
    record {
      room = length-set copies k id ∙ a.room;
      copy = λ j m. elim (cases_eq k (id_at wanted j)) [
        | inl q ↦ subst (λ i. IsCopy h source leaves (id_at (set copies k id) i) i) q here
        | inr ne ↦ elim (cases_lt j n) [
          | inl s ↦ subst (λ i. IsCopy h source leaves i (id_at wanted j)) (sym (other_id copies k (id_at wanted j) id ne))
              (copy_kept source leaves (id_at copies (id_at wanted j)) (id_at wanted j) e l (a.copy j s))
          | inr s ↦ (let same : n ≡ j = omega (arith, m, s) in absurd (ne (z ∙ ap (id_at wanted) same)))
        ]
      ];
    }

pub none_copied : (g source : Graph) (leaves wanted copies : List TermId) → length copies ≡ length source.nodes → AreCopied g source leaves wanted 0 copies
none_copied g source leaves wanted copies r = record { room = r; copy = λ j b. absurd (omega (arith, b)) }

pub all_below_more : (n m : ℕ) (ks : List ℕ) → n ≤ m → AllBelow n ks → AllBelow m ks
all_below_more n m [] l h = tt
all_below_more n m (k ∷ ks) l h = (omega (arith, h.0, l), all_below_more n m ks l h.1)

-- what a read of an id says
pub read_id : (ids : List TermId) (k : ℕ) (x : TermId) → k < length ids → x ≡ get_or ids k x → x.0 ≡ id_at ids k
read_id [] k x l h = absurd (omega (arith, l))
read_id (i ∷ ids) zero x l h = ap (λ (y : TermId). y.0) h
read_id (i ∷ ids) (suc k) x l h = read_id ids k x (omega (arith, l)) h
