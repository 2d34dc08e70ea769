-- Bits that more than one driver may assign.
use Rattle.std.proofs.Common.{◌≡◌, ◌∙◌, ◌+◌, ◌<◌, ◌≤◌, ℕ, zero, suc, arith, refl, ap, sym, subst, Bool, true, false, List, [], ◌∷◌, ◌++◌, ◌⊎◌, inl, inr, drop, append-nil, length, get_or, Option, Some, Bor}
use Rattle.std.specs.Prelude.{IsTrue, MatchOption, ◌&&◌, ◌||◌}
use Rattle.std.specs.List.{HoldsAt}
use Rattle.std.proofs.lemmas.Bool.{true≢false, and_from, or_left, or_right}
use Rattle.std.proofs.lemmas.List.{append_assoc}
use Rattle.verilog_trees.specs.Syntax.{Statement}
use Rattle.verilog_meaning.specs.Expression.{Scope}
use Rattle.verilog_meaning.specs.Register.{is_bit_of, may_assign, one_may_assign}
use Rattle.verilog_unique.proofs.Descent.{IsAmong, among_either, among_contains}
use Rattle.verilog_designs.specs.Reads.{BitSet, no_bits, or_in, and_in}
use Rattle.verilog_designs.specs.Dependence.{Bit, is_in}
use Rattle.v_flow.specs.declared.span.Span.{Span}
use Rattle.v_flow.specs.Spans.{bits_in, existing}
use Rattle.v_flow.proofs.Sets.{turn, end}
use Rattle.v_masks.specs.Masks.{spread}
use Rattle.v_paths.specs.Premises.{AssignsNoMemory}
use Rattle.v_depend.specs.Resting.{IsThere}
use Rattle.v_depend.specs.Running.{IsFit}
use Rattle.v_order.specs.declared.driver.Driver.{Driver}
use Rattle.v_order.specs.Lists.{statement_in, statements_in}
use Rattle.v_order.proofs.Driven.{driven-set}
use Rattle.v_loops.specs.Turns.{AreFitToRun, AreApartBut}
use Rattle.v_loops.proofs.Steps.{there-spread}

pub fit-turn : (s : Scope) (ds : List Driver) (i : ℕ) (r : Driver) → drop i ds ≡ r ∷ drop (i + 1) ds → AreFitToRun s (statements_in (drop i ds))
    → IsFit s (statement_in r) × AreFitToRun s (statements_in (drop (i + 1) ds))
fit-turn s ds i r e h = subst (λ (xs : List Driver). AreFitToRun s (statements_in xs)) e h

-- of the drivers before, one set has all that they may assign, and the other what two of them may assign
pub record AreKnown (s : Scope) (xs : List Statement) (once twice : BitSet) : Type 0 where
  pub seen : (x : Statement) (u : Bit) → IsAmong xs x → IsThere s u → IsTrue (may_assign s x u.of_name u.word u.place) → IsTrue (is_in once u)
  pub apart : (x y : Statement) (u : Bit) → IsAmong xs x → IsAmong xs y → IsThere s u → IsTrue (may_assign s x u.of_name u.word u.place)
      → IsTrue (may_assign s y u.of_name u.word u.place) → is_in twice u ≡ false → x ≡ y

pub none-known : (s : Scope) (once twice : BitSet) → AreKnown s [] once twice
none-known s once twice = record { seen = λ x u h. absurd h; apart = λ x y u h. absurd h }

module _ (s : Scope) (xs : List Statement) (z : Statement) (once twice more both : BitSet) (plain : AssignsNoMemory s z)
    (wordless : (u : Bit) (k : ℕ) → IsTrue (is_in once u) → IsTrue (once u.of_name k u.place)) (known : AreKnown s xs once twice)
    (is_more : more ≡ or_in once (spread (existing s (may_assign s z)))) (is_both : both ≡ or_in twice (spread (and_in (existing s (may_assign s z)) once))) where
  own : (u : Bit) → IsThere s u → IsTrue (may_assign s z u.of_name u.word u.place) → is_in (spread (existing s (may_assign s z))) u ≡ true
  own u there m = there-spread s (existing s (may_assign s z)) u plain there (and_from (is_bit_of (s u.of_name) u.word u.place) (may_assign s z u.of_name u.word u.place) there m)

  last : (x : Statement) → IsAmong (z ∷ []) x → z ≡ x
  last x (inl e) = e
  last x (inr h) = absurd h

  now-seen : (x : Statement) (u : Bit) → IsAmong (xs ++ z ∷ []) x → IsThere s u → IsTrue (may_assign s x u.of_name u.word u.place) → IsTrue (is_in more u)
  now-seen x u h there m =
      subst (λ (q : BitSet). IsTrue (is_in q u)) (sym is_more)
      (elim (among_either xs (z ∷ []) x h) as (λ _. IsTrue (is_in (or_in once (spread (existing s (may_assign s z)))) u)) [
        | inl k ↦ or_left (is_in once u) (is_in (spread (existing s (may_assign s z))) u) (known.seen x u k there m)
        | inr k ↦ or_right (is_in once u) (is_in (spread (existing s (may_assign s z))) u)
            (own u there (subst (λ (y : Statement). IsTrue (may_assign s y u.of_name u.word u.place)) (sym (last x k)) m))
      ])

  -- what one before may assign, and this one, is there twice
  met : (x : Statement) (u : Bit) → IsAmong xs x → IsThere s u → IsTrue (may_assign s x u.of_name u.word u.place) → IsTrue (may_assign s z u.of_name u.word u.place)
      → is_in both u ≡ true
  met x u h there m n =
      subst (λ (q : BitSet). is_in q u ≡ true) (sym is_both)
      (or_right (is_in twice u) (is_in (spread (and_in (existing s (may_assign s z)) once)) u)
      (and_from (is_in (spread (existing s (may_assign s z))) u) (once u.of_name 0 u.place) (own u there n) (wordless u 0 (known.seen x u h there m))))

  before : (u : Bit) → is_in both u ≡ false → is_in twice u ≡ false
  before u e = by (is_in twice u) refl
    where
      by : (t : Bool) → is_in twice u ≡ t → t ≡ false
      by false g = refl
      by true g =
          absurd (true≢false (sym (subst (λ (q : BitSet). is_in q u ≡ true) (sym is_both)
          (or_left (is_in twice u) (is_in (spread (and_in (existing s (may_assign s z)) once)) u) g)) ∙ e))

  now-apart : (x y : Statement) (u : Bit) → IsAmong (xs ++ z ∷ []) x → IsAmong (xs ++ z ∷ []) y → IsThere s u → IsTrue (may_assign s x u.of_name u.word u.place)
      → IsTrue (may_assign s y u.of_name u.word u.place) → is_in both u ≡ false → x ≡ y
  now-apart x y u h g there m n e = by (among_either xs (z ∷ []) x h) (among_either xs (z ∷ []) y g)
    where
      by : IsAmong xs x ⊎ IsAmong (z ∷ []) x → IsAmong xs y ⊎ IsAmong (z ∷ []) y → x ≡ y
      by (inl k) (inl l) = known.apart x y u k l there m n (before u e)
      by (inl k) (inr l) =
          absurd (true≢false (sym (met x u k there m (subst (λ (w : Statement). IsTrue (may_assign s w u.of_name u.word u.place)) (sym (last y l)) n)) ∙ e))
      by (inr k) (inl l) =
          absurd (true≢false (sym (met y u l there n (subst (λ (w : Statement). IsTrue (may_assign s w u.of_name u.word u.place)) (sym (last x k)) m)) ∙ e))
      by (inr k) (inr l) = sym (last x k) ∙ last y l

  pub one-known : AreKnown s (xs ++ z ∷ []) more both
  one-known = record { seen = now-seen; apart = now-apart }

-- what is known of all, from the rest that is left
abbrev pub IsLeftToKnow : Scope → (whole rest : List Statement) → (once twice : BitSet) → Type 0
IsLeftToKnow s whole rest once twice = (before : List Statement) × (whole ≡ before ++ rest) × AreKnown s before once twice

pub know-turn : (s : Scope) (whole rest : List Statement) (z : Statement) (once twice more both : BitSet) → AssignsNoMemory s z
    → ((u : Bit) (k : ℕ) → IsTrue (is_in once u) → IsTrue (once u.of_name k u.place)) → IsLeftToKnow s whole (z ∷ rest) once twice
    → more ≡ or_in once (spread (existing s (may_assign s z))) → both ≡ or_in twice (spread (and_in (existing s (may_assign s z)) once))
    → IsLeftToKnow s whole rest more both
know-turn s whole rest z once twice more both plain wordless h e f =
    (h.0 ++ z ∷ [], h.1 ∙ sym (append_assoc h.0 (z ∷ []) rest), one-known s h.0 z once twice more both plain wordless h.2 e f)

pub know-end : (s : Scope) (whole rest : List Statement) (once twice : BitSet) → rest ≡ [] → IsLeftToKnow s whole rest once twice → AreApartBut s whole twice
know-end s whole rest once twice e h =
    let all : h.0 ≡ whole = sym (h.1 ∙ ap (λ ys. h.0 ++ ys) e ∙ append-nil h.0) in
    λ x y u f g there m n a.
    h.2.apart x y u (subst (λ (xs : List Statement). IsAmong xs x) (sym all) (among_contains whole x f))
    (subst (λ (xs : List Statement). IsAmong xs y) (sym all) (among_contains whole y g)) there m n a

-- ---- a driver that an index finds

among-at : (ds : List Driver) (j : ℕ) (d : Driver) → j < length ds → IsAmong (statements_in ds) (statement_in (get_or ds j d))
among-at [] j d l = absurd (omega (arith, l))
among-at (x ∷ ds) zero d l = inl refl
among-at (x ∷ ds) (suc j) d l = inr (among-at ds j d (omega (arith, l)))

pub among-got : (ds : List Driver) (j : ℕ) (o : Option (Bor Driver)) (x : Bor Driver) → o ≡ Some x
    → MatchOption o (length ds ≤ j) (λ y. (j < length ds) × HoldsAt (λ z. y.now ≡ z) ds j) → IsAmong (statements_in ds) (statement_in x.now)
among-got ds j o x e m = at (subst (λ (q : Option (Bor Driver)). MatchOption q (length ds ≤ j) (λ y. (j < length ds) × HoldsAt (λ z. y.now ≡ z) ds j)) e m)
  where
    at : (j < length ds) × HoldsAt (λ z. x.now ≡ z) ds j → IsAmong (statements_in ds) (statement_in x.now)
    at h = subst (λ (z : Driver). IsAmong (statements_in ds) (statement_in z)) (sym (h.1 x.now)) (among-at ds j x.now h.0)

-- ---- all that is driven

all-more : (s : Scope) (x : Statement) (xs : List Statement) → driven-set s (x ∷ xs) ≡ or_in (existing s (may_assign s x)) (driven-set s xs)
all-more s x xs = λ i n k b. over-or (is_bit_of (s n) k b) (may_assign s x n k b) (one_may_assign s xs n k b) i
  where
    over-or : (t p q : Bool) → (t && (p || q)) ≡ ((t && p) || (t && q))
    over-or true p q = refl
    over-or false p q = refl

no-more : (s : Scope) → spread (driven-set s []) ≡ no_bits
no-more s = λ i n k b. and-false (is_bit_of (s n) 0 b) i
  where
    and-false : (t : Bool) → (t && false) ≡ false
    and-false true = refl
    and-false false = refl

-- the same in a table
pub once-turn : (s : Scope) (ds : List Driver) (i : ℕ) (r : Driver) (whole a b : BitSet) → drop i ds ≡ r ∷ drop (i + 1) ds
    → whole ≡ or_in a (spread (driven-set s (statements_in (drop i ds)))) → b ≡ or_in a (spread (existing s (may_assign s (statement_in r))))
    → whole ≡ or_in b (spread (driven-set s (statements_in (drop (i + 1) ds))))
once-turn s ds i r whole a b e f h =
    let x = statement_in r in
    let more = statements_in (drop (i + 1) ds) in
    turn whole a b (spread (existing s (may_assign s x))) (spread (driven-set s more))
    (f ∙ ap (λ (z : BitSet). or_in a (spread z)) (ap (λ (xs : List Driver). driven-set s (statements_in xs)) e ∙ all-more s x more)) h

pub once-end : (s : Scope) (rest : List Statement) (whole a : BitSet) → rest ≡ [] → whole ≡ or_in a (spread (driven-set s rest)) → a ≡ whole
once-end s rest whole a e f = end whole a (spread (driven-set s rest)) f (ap (λ (xs : List Statement). spread (driven-set s xs)) e ∙ no-more s)

-- from an empty list and an empty table
pub begun-list : (s : Scope) (xs ys : List Statement) (vs : List Span) (d : BitSet) → vs ≡ [] → xs ≡ ys → d ≡ or_in (bits_in vs) (driven-set s xs)
    → d ≡ driven-set s ys
begun-list s xs ys vs d e f h = h ∙ ap (λ (zs : List Span). or_in (bits_in zs) (driven-set s xs)) e ∙ ap (driven-set s) f

pub begun-table : (s : Scope) (xs ys : List Statement) (m0 d m : BitSet) → m0 ≡ no_bits → xs ≡ ys → d ≡ driven-set s ys
    → m ≡ or_in m0 (spread (driven-set s xs)) → m ≡ spread d
begun-table s xs ys m0 d m e f g h =
    h ∙ ap (λ (z : BitSet). or_in z (spread (driven-set s xs))) e ∙ ap (λ (zs : List Statement). spread (driven-set s zs)) f ∙ ap spread (sym g)
