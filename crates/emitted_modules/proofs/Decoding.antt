-- Which instruction decodes: the wires for it, and the model's words for it.
use Rattle.std.proofs.Common.{◌≡◌, ◌≢◌, ℕ, zero, suc, Bool, true, false, cond, not, ◌&&◌, inl, inr, List, [], ◌∷◌, map, length, Some, refl, sym, ◌∙◌, ap, subst, arith}
use Rattle.std.specs.Prelude.{⊤, slice_get}
use Rattle.std.proofs.lemmas.Bool.{false≢true, and_parts}
use Rattle.wb_values.specs.Value.{Valuation, truth}
use Rattle.wb_values.specs.Number.{word_not, word_and}
use Rattle.verilog_trees.specs.Syntax.{Expression, unary, complement, binary, bitwise_and, conditional}
use Rattle.verilog_meaning.specs.Expression.{Scope, bit}
use Rattle.verilog_meaning.specs.Settled.{whole_name}
use Rattle.term_expressions.specs.Expressions.{IsWorth, sized}
use Rattle.term_expressions.proofs.Forms.{complement_is_not, bitwise_and_is_and}
use Rattle.term_expressions.proofs.Tests.{conditional_is_ite}
use Rattle.term_expressions.proofs.Joined.{sized_is_const}
use Rattle.emitted_modules.specs.Rtl.{Wire}
use Rattle.emitted_modules.specs.Module.{none_name, one_name, bit_wire, none_wire, one_wire, decode_wires}
use Rattle.emitted_modules.proofs.Names.{Among, among_left, among_right}

-- none of these holds; exactly one does
abbrev pub none_of : List Bool → Bool
none_of [] = true
none_of (b ∷ bs) = not b && none_of bs

abbrev pub one_of : List Bool → Bool
one_of [] = false
one_of (b ∷ bs) = cond b (none_of bs) (one_of bs)

-- ---- the wires

module _ (s : Scope) (v : Valuation) where
  -- these conditions are worth these bits
  abbrev pub AreWorth : List Expression → List Bool → Type 0
  AreWorth [] [] = ⊤
  AreWorth [] (b ∷ bs) = ⊥
  AreWorth (d ∷ ds) [] = ⊥
  AreWorth (d ∷ ds) (b ∷ bs) = IsWorth s v d 1 (bit b) × AreWorth ds bs

  -- the name of a wire of one bit is worth that of its expression
  abbrev pub BitsAreRead : List Wire → Type 0
  BitsAreRead ws = (w : Wire) (b : Bool) → Among w ws → w.sort ≡ truth → IsWorth s v w.expression 1 (bit b) → IsWorth s v (whole_name w.wire_name) 1 (bit b)

  next_none : (b c : Bool) → word_and (word_not 1 (bit b)) (bit c) ≡ bit (not b && c)
  next_none true true = refl
  next_none true false = refl
  next_none false true = refl
  next_none false false = refl

  next_one : (b c d : Bool) → cond b (bit c) (bit d) ≡ bit (cond b c d)
  next_one true c d = refl
  next_one false c d = refl

  pub counted_by_wires : (ds : List Expression) (bs : List Bool) → BitsAreRead (decode_wires ds) → AreWorth ds bs
      → IsWorth s v (whole_name (none_name (length ds))) 1 (bit (none_of bs)) × IsWorth s v (whole_name (one_name (length ds))) 1 (bit (one_of bs))
  counted_by_wires [] [] read worth = (
    read (bit_wire (none_name 0) (sized 1 1)) true (inl refl) refl (sized_is_const s v 1 1 (omega arith)),
    read (bit_wire (one_name 0) (sized 1 0)) false (inr (inl refl)) refl (sized_is_const s v 1 0 (omega arith)),
  )
  counted_by_wires [] (b ∷ bs) read worth = absurd worth
  counted_by_wires (d ∷ ds) [] read worth = absurd worth
  counted_by_wires (d ∷ ds) (b ∷ bs) read worth =
      let last : List Wire = none_wire d (length ds) ∷ one_wire d (length ds) ∷ [] in
      let before = counted_by_wires ds bs (λ w c at. read w c (among_left w (decode_wires ds) last at)) worth.1 in (
        read (none_wire d (length ds)) (none_of (b ∷ bs)) (among_right (none_wire d (length ds)) (decode_wires ds) last (inl refl)) refl
            (subst (IsWorth s v (binary bitwise_and (unary complement d) (whole_name (none_name (length ds)))) 1) (next_none b (none_of bs))
            (bitwise_and_is_and s v (unary complement d) (whole_name (none_name (length ds))) 1 (word_not 1 (bit b)) (bit (none_of bs))
            (complement_is_not s v d 1 (bit b) worth.0) before.0)),
        read (one_wire d (length ds)) (one_of (b ∷ bs)) (among_right (one_wire d (length ds)) (decode_wires ds) last (inr (inl refl))) refl
            (subst (IsWorth s v (conditional d (whole_name (none_name (length ds))) (whole_name (one_name (length ds)))) 1)
            (next_one b (none_of bs) (one_of bs))
            (conditional_is_ite s v d (whole_name (none_name (length ds))) (whole_name (one_name (length ds))) b 1 (bit (none_of bs)) (bit (one_of bs))
            worth.0 before.0 before.1)),
      )

-- ---- lists of which one holds

-- element j of the list holds, and no other
pub record IsOnly {A : Type 0} (f : A → Bool) (xs : List A) (j : ℕ) (x : A) : Type 0 where
  pub is_there : slice_get xs j ≡ Some x
  pub holds : f x ≡ true
  pub no_other : (k : ℕ) (y : A) → slice_get xs k ≡ Some y → k ≢ j → f y ≡ false

none_hold : {A : Type 0} (f : A → Bool) (xs : List A) → none_of (map f xs) ≡ true → (k : ℕ) (y : A) → slice_get xs k ≡ Some y → f y ≡ false
none_hold f [] h k y e = cc
none_hold f (x ∷ xs) h zero y e = let same : x ≡ y = cc in ap f (sym same) ∙ is_false (f x) (and_parts (not (f x)) (none_of (map f xs)) h).0
  where
    is_false : (b : Bool) → not b ≡ true → b ≡ false
    is_false true g = sym g
    is_false false g = refl
none_hold f (x ∷ xs) h (suc k) y e = none_hold f xs (and_parts (not (f x)) (none_of (map f xs)) h).1 k y e

none_from : {A : Type 0} (f : A → Bool) (xs : List A) → ((k : ℕ) (y : A) → slice_get xs k ≡ Some y → f y ≡ false) → none_of (map f xs) ≡ true
none_from f [] h = refl
none_from f (x ∷ xs) h =
    ap (λ b. not b && none_of (map f xs)) (h 0 x refl) ∙ none_from f xs (λ k y e. h (suc k) y e)

pub only_from : {A : Type 0} (f : A → Bool) (xs : List A) → one_of (map f xs) ≡ true → (j : ℕ) × (x : A) × IsOnly f xs j x
only_from {A} f [] h = absurd (false≢true h)
only_from {A} f (x ∷ xs) h = by_test (f x) refl h (λ g. only_from f xs g)
  where
    by_test : (b : Bool) → f x ≡ b → cond b (none_of (map f xs)) (one_of (map f xs)) ≡ true
        → (one_of (map f xs) ≡ true → (j : ℕ) × (y : A) × IsOnly f xs j y) → (j : ℕ) × (y : A) × IsOnly f (x ∷ xs) j y
    by_test true t g more = (0, x, record { is_there = refl; holds = t; no_other = λ k y e apart. others k y e apart })
      where
        others : (k : ℕ) (y : A) → slice_get (x ∷ xs) k ≡ Some y → k ≢ 0 → f y ≡ false
        others zero y e apart = absurd (apart refl)
        others (suc k) y e apart = none_hold f xs g k y e
    by_test false t g more =
        let m = more g in (suc m.0, m.1, record { is_there = m.2.is_there; holds = m.2.holds; no_other = λ k y e apart. others m.0 m.1 m.2 k y e apart })
      where
        others : (j : ℕ) (z : A) → IsOnly f xs j z → (k : ℕ) (y : A) → slice_get (x ∷ xs) k ≡ Some y → k ≢ suc j → f y ≡ false
        others j z only zero y e apart = let same : x ≡ y = cc in ap f (sym same) ∙ t
        others j z only (suc k) y e apart = only.no_other k y e (λ q. apart (ap suc q))

pub from_only : {A : Type 0} (f : A → Bool) (xs : List A) (j : ℕ) (x : A) → IsOnly f xs j x → one_of (map f xs) ≡ true
from_only f [] j x only = let e = only.is_there in cc
from_only f (y ∷ xs) zero x only =
    let e = only.is_there in
    let same : y ≡ x = cc in
    ap (λ b. cond b (none_of (map f xs)) (one_of (map f xs))) (ap f same ∙ only.holds)
    ∙ none_from f xs (λ k z g. only.no_other (suc k) z g (λ q. absurd (omega (arith, q))))
from_only f (y ∷ xs) (suc j) x only =
    ap (λ b. cond b (none_of (map f xs)) (one_of (map f xs))) (only.no_other 0 y refl (λ q. absurd (omega (arith, q))))
    ∙ from_only f xs j x
    (record { is_there = only.is_there; holds = only.holds; no_other = λ k z g apart. only.no_other (suc k) z g (λ q. apart (omega (arith, q))) })
