-- The bits of all declared names of a design stand in one list.
use Rattle.std.proofs.Common.{◌≡◌, ℕ, zero, suc, ◌<◌, Bool, true, false, List, [], ◌∷◌, ◌++◌, ◌⊎◌, inl, inr, refl, sym, ap, subst, Option, Some, None, arith}
use Rattle.std.specs.Prelude.{IsTrue, ◌||◌, nat_lt}
use Rattle.std.proofs.lemmas.Bool.{cases_lt}
use Rattle.std.proofs.lemmas.Bool.Decides.{nat_tests}
use Rattle.wb_values.specs.Value.{Name, same_name}
use Rattle.verilog_meaning.specs.Expression.{Scope, object_width}
use Rattle.verilog_meaning.specs.Register.{word_count, is_bit_of}
use Rattle.verilog_meaning.specs.Hierarchy.{Declaration, declarations, PathStep, Placed, placed_scope}
use Rattle.verilog_meaning.specs.Settled.{Design, at_path, IsPlacedIn, is_declared_among, IsDeclared}
use Rattle.verilog_designs.specs.Dependence.{Bit, PlacedBit, bit_of, IsBitIn}
use Rattle.verilog_unique.specs.Finite.{BitsAreFinite}
use Rattle.verilog_unique.proofs.Options.{same_is, both_true}
use Rattle.verilog_unique.proofs.Descent.{IsAmong, among_left, among_right, contains_among}
use Rattle.verilog_unique.proofs.Paths.{paths_are_finite}

abbrev bit : Name → ℕ → ℕ → Bit
bit n k b = record { of_name = n; word = k; place = b }

-- the lowest bits of a word of a name, and all bits of its first words
abbrev word_bits : Name → ℕ → ℕ → List Bit
word_bits n k zero = []
word_bits n k (suc b) = bit n k b ∷ word_bits n k b

abbrev name_bits : Name → ℕ → ℕ → List Bit
name_bits n zero w = []
name_bits n (suc k) w = word_bits n k w ++ name_bits n k w

below_or_same : (m n : ℕ) → m < suc n → (n ≡ m) ⊎ (m < n)
below_or_same m n l = elim (cases_lt m n) as (λ _. (n ≡ m) ⊎ (m < n)) [ inl k ↦ inr k | inr k ↦ inl (omega (arith, l, k)) ]

in_word : (n : Name) (k w b : ℕ) → b < w → IsAmong (word_bits n k w) (bit n k b)
in_word n k zero b l = absurd (omega (arith, l))
in_word n k (suc w) b l =
    elim (below_or_same b w l) as (λ _. IsAmong (word_bits n k (suc w)) (bit n k b)) [ inl e ↦ inl (ap (bit n k) e) | inr h ↦ inr (in_word n k w b h) ]

in_name : (n : Name) (count w k b : ℕ) → k < count → b < w → IsAmong (name_bits n count w) (bit n k b)
in_name n zero w k b l h = absurd (omega (arith, l))
in_name n (suc count) w k b l h =
    elim (below_or_same k count l) as (λ _. IsAmong (name_bits n (suc count) w) (bit n k b)) [
      | inl e ↦ among_left (word_bits n count w) (name_bits n count w) (bit n k b)
          (subst (λ j. IsAmong (word_bits n j w) (bit n k b)) (sym e) (in_word n k w b h))
      | inr m ↦ among_right (word_bits n count w) (name_bits n count w) (bit n k b) (in_name n count w k b m h)
    ]

abbrev object_bits : Scope → Name → List Bit
object_bits s n = name_bits n (word_count (s n)) (object_width (s n))

abbrev declared_bits : Scope → List Declaration → List Bit
declared_bits s [] = []
declared_bits s (d ∷ ds) = object_bits s d.of_name ++ declared_bits s ds

in_object : (s : Scope) (n : Name) (k b : ℕ) → IsTrue (is_bit_of (s n) k b) → IsAmong (object_bits s n) (bit n k b)
in_object s n k b t =
    let h = both_true (nat_lt k (word_count (s n))) (nat_lt b (object_width (s n))) t in
    in_name n (word_count (s n)) (object_width (s n)) k b (grind (arith, nat_tests, h.0)) (grind (arith, nat_tests, h.1))

in_declared : (s : Scope) (ds : List Declaration) (n : Name) (k b : ℕ) → IsTrue (is_declared_among ds n) → IsTrue (is_bit_of (s n) k b)
    → IsAmong (declared_bits s ds) (bit n k b)
in_declared s [] n k b declared t = cc
in_declared s (d ∷ ds) n k b declared t = chosen (same_name d.of_name n) (same_is d.of_name n) (λ h. in_declared s ds n k b h t) declared
  where
    chosen : (x : Bool) → (x ≡ true → d.of_name ≡ n) → (IsTrue (is_declared_among ds n) → IsAmong (declared_bits s ds) (bit n k b))
        → IsTrue (x || is_declared_among ds n) → IsAmong (object_bits s d.of_name ++ declared_bits s ds) (bit n k b)
    chosen true f g h =
        among_left (object_bits s d.of_name) (declared_bits s ds) (bit n k b)
        (subst (λ m. IsAmong (object_bits s m) (bit n k b)) (sym (f refl)) (in_object s n k b t))
    chosen false f g h = among_right (object_bits s d.of_name) (declared_bits s ds) (bit n k b) (g h)

-- ---- of all modules

abbrev at_each : List PathStep → List Bit → List PlacedBit
at_each path [] = []
at_each path (u ∷ us) = record { path = path; bit = u } ∷ at_each path us

in_each : (path : List PathStep) (us : List Bit) (u : Bit) → IsAmong us u → IsAmong (at_each path us) (record { path = path; bit = u })
in_each path [] u h = absurd h
in_each path (x ∷ us) u (inl e) = inl (ap (λ y. record { path = path; bit = y }) e)
in_each path (x ∷ us) u (inr h) = inr (in_each path us u h)

abbrev placed_bits : List PathStep → Option Placed → List PlacedBit
placed_bits path None = []
placed_bits path (Some p) = at_each path (declared_bits (placed_scope p) (declarations p.of_module))

abbrev all_bits : Design → List (List PathStep) → List PlacedBit
all_bits d [] = []
all_bits d (path ∷ paths) = placed_bits path (at_path d path) ++ all_bits d paths

in_all : (d : Design) (paths : List (List PathStep)) (p : Placed) (u : Bit) → IsAmong paths p.path → IsPlacedIn d p → IsDeclared p u.of_name → IsBitIn p u
    → IsAmong (all_bits d paths) (bit_of p u)
in_all d [] p u h at declared t = absurd h
in_all d (path ∷ paths) p u (inl e) at declared t =
    among_left (placed_bits path (at_path d path)) (all_bits d paths) (bit_of p u)
    (subst (λ q. IsAmong (placed_bits q (at_path d q)) (bit_of p u)) (sym e)
    (subst (λ o. IsAmong (placed_bits p.path o) (bit_of p u)) (sym at)
    (in_each p.path (declared_bits (placed_scope p) (declarations p.of_module)) u
    (in_declared (placed_scope p) (declarations p.of_module) u.of_name u.word u.place declared t))))
in_all d (path ∷ paths) p u (inr h) at declared t =
    among_right (placed_bits path (at_path d path)) (all_bits d paths) (bit_of p u) (in_all d paths p u h at declared t)

-- A list that has each bit of each declared name of each module of the design.
pub bits_are_finite : BitsAreFinite
bits_are_finite d good =
    let paths = paths_are_finite d good in (
      all_bits d paths.0,
      λ p u at declared t. contains_among (all_bits d paths.0) (bit_of p u) (in_all d paths.0 p u (paths.1 p.path p at) at declared t),
    )
