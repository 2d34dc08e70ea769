-- The list of the marked terms.
use Rattle.std.proofs.Common.{◌≡◌, ℕ, ◌+◌, ◌<◌, ◌≤◌, Bool, true, false, List, [], ◌∷◌, ◌++◌, length, length-append, Some, slice_get, inl, inr, refl, sym, ap, ◌∙◌, subst, arith}
use Rattle.std.proofs.lemmas.Bool.{cases_lt, false≢true}
use Rattle.std.proofs.lemmas.List.{get_or_append_left, get_or_at}
use Rattle.wb_terms.specs.declared.nodes.TermId.{TermId}
use Rattle.wb_terms.specs.Graph.{Graph, operands_of}
use Rattle.term_copies.specs.Copies.{id_at}
use Rattle.wanted_terms.specs.Wanted.{IsListed, AllListed, IsAfterItsOperands, IsClosed, AreListed, AreBelow, mark_at, AllMarked, AllMarkedBelow, AreMarkedFrom}

-- the list so far
pub record IsListing (g : Graph) (ms : List Bool) (n : ℕ) (ids : List TermId) : Type 0 where
  pub closed : IsClosed g ids
  pub listed : (m : ℕ) → m < n → mark_at ms m ≡ true → IsListed ids (length ids) m

left_id : (ids : List TermId) (id : TermId) (j : ℕ) → j < length ids → id_at (ids ++ id ∷ []) j ≡ id_at ids j
left_id ids id j h = ap (λ (x : TermId). x.0) (get_or_append_left ids (id ∷ []) (record { 0 = 0 }) j h)

last_id : (ids : List TermId) (id : TermId) → id_at (ids ++ id ∷ []) (length ids) ≡ id.0
last_id ids id = ap (λ (x : TermId). x.0) (get_or_at ids id [] (record { 0 = 0 }) (length ids) refl)

listed_more : (ids : List TermId) (id : TermId) (n m k : ℕ) → n ≤ length ids → n ≤ m → IsListed ids n k → IsListed (ids ++ id ∷ []) m k
listed_more ids id n m k l r h = (h.0, omega (arith, h.1, r), left_id ids id h.0 (omega (arith, h.1, l)) ∙ h.2)

all_more : (ids : List TermId) (id : TermId) (n : ℕ) (ks : List ℕ) → n ≤ length ids → AllListed ids n ks → AllListed (ids ++ id ∷ []) n ks
all_more ids id n [] l h = tt
all_more ids id n (k ∷ ks) l h = (listed_more ids id n n k l (omega arith) h.0, all_more ids id n ks l h.1)

after_more : (g : Graph) (ids : List TermId) (id : TermId) (j : ℕ) → j < length ids → IsAfterItsOperands g ids j → IsAfterItsOperands g (ids ++ id ∷ []) j
after_more g ids id j l h =
    let e = left_id ids id j l in
    record {
      below = subst (λ k. k < length g.nodes) (sym e) h.below;
      operands = λ n is. all_more ids id j (operands_of n) (omega (arith, l)) (h.operands n (subst (λ (k : ℕ). slice_get g.nodes k ≡ Some n) e is));
    }

operands_listed : (g : Graph) (ms : List Bool) (n : ℕ) (ids : List TermId) (ks : List ℕ) → IsListing g ms n ids → AllMarkedBelow ms n ks → AllListed ids (length ids) ks
operands_listed g ms n ids [] a h = tt
operands_listed g ms n ids (k ∷ ks) a h = (a.listed k h.0 h.1, operands_listed g ms n ids ks a h.2)

pub listing_push : (g : Graph) (ms : List Bool) (n : ℕ) (ids : List TermId) (id : TermId) → id.0 ≡ n → n < length g.nodes → mark_at ms n ≡ true → AreMarkedFrom g ms 0 → IsListing g ms n ids → IsListing g ms (n + 1) (ids ++ id ∷ [])
listing_push g ms n ids id z b mark under a =
    let all = ids ++ id ∷ [] in
    let long : length all ≡ length ids + 1 = length-append ids (id ∷ []) in
    let last : id_at all (length ids) ≡ n = last_id ids id ∙ z in
    record {
      closed = λ j l. elim (cases_lt j (length ids)) [
        | inl h ↦ after_more g ids id j h (a.closed j h)
        | inr h ↦
            let e : length ids ≡ j = omega (arith, l, h, long) in
            subst (IsAfterItsOperands g all) e (record {
              below = subst (λ k. k < length g.nodes) (sym last) b;
              operands = λ x is. all_more ids id (length ids) (operands_of x) (omega arith)
                  (operands_listed g ms n ids (operands_of x) a (under n b (omega arith) mark x (subst (λ (k : ℕ). slice_get g.nodes k ≡ Some x) last is)));
            })
      ];
      listed = λ m l mm. elim (cases_lt m n) [
        | inl h ↦ listed_more ids id (length ids) (length all) m (omega arith) (omega (arith, long)) (a.listed m h mm)
        | inr h ↦ let e : n ≡ m = omega (arith, l, h) in (length ids, omega (arith, long), last ∙ e)
      ];
    }

pub listing_pass : (g : Graph) (ms : List Bool) (n : ℕ) (ids : List TermId) → mark_at ms n ≡ false → IsListing g ms n ids → IsListing g ms (n + 1) ids
listing_pass g ms n ids clear a = record {
  closed = a.closed;
  listed = λ m l mm. elim (cases_lt m n) [
    | inl h ↦ a.listed m h mm
    | inr h ↦ let e : m ≡ n = omega (arith, l, h) in absurd (false≢true (sym clear ∙ subst (λ k. mark_at ms k ≡ true) e mm))
  ];
}

pub listing_start : (g : Graph) (ms : List Bool) → IsListing g ms 0 []
listing_start g ms = record { closed = λ j l. absurd (omega (arith, l)); listed = λ m l mm. absurd (omega (arith, l)) }

pub roots_listed : (g : Graph) (ms : List Bool) (n : ℕ) (ids : List TermId) (rs : List TermId) → IsListing g ms n ids → AreBelow n rs → AllMarked ms rs → AreListed ids rs
roots_listed g ms n ids [] a b h = tt
roots_listed g ms n ids (r ∷ rs) a b h = (a.listed r.0 b.0 h.0, roots_listed g ms n ids rs a b.1 h.1)
