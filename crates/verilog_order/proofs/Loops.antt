-- Grounded bits are in no loop; bits of which each depends on one of them are in one.
use Rattle.std.proofs.Common.{◌≡◌, zero, suc, ◌<◌, ◌≤◌, ℕ, List, [], ◌∷◌, length, ◌⊎◌, inl, inr, refl, sym, subst, arith}
use Rattle.std.specs.List.{Contains}
use Rattle.verilog_meaning.specs.Settled.{Design}
use Rattle.verilog_designs.specs.Dependence.{PlacedBit, Depends, DependsFar, HasLoop}
use Rattle.verilog_unique.proofs.Descent.{IsAmong, contains_among, among_contains, without, length_without, split}
use Rattle.verilog_order.specs.Grounded.{IsGrounded, grounded, GroundedBitsHaveNoLoop, BitsThatRestOnThemselvesLoop}

-- one step more at the end
and_then : (d : Design) (z u y : PlacedBit) → DependsFar d z u → Depends d u y → DependsFar d z y
and_then d _ _ y (DependsFar.step z u a) b = DependsFar.further z u y a (DependsFar.step u y b)
and_then d _ _ y (DependsFar.further z x u a f) b = DependsFar.further z x y a (and_then d x u y f b)

-- the first step of several, and what is left
first_step : (d : Design) (u y : PlacedBit) → DependsFar d u y → (x : PlacedBit) × Depends d u x × ((x ≡ y) ⊎ DependsFar d x y)
first_step d _ _ (DependsFar.step u y a) = (y, a, inl refl)
first_step d _ _ (DependsFar.further u x y a f) = (x, a, inr f)

-- a loop may begin at its second bit
turned : (d : Design) (u x : PlacedBit) → Depends d u x → (x ≡ u) ⊎ DependsFar d x u → DependsFar d x x
turned d u x a (inl e) = DependsFar.step x x (subst (λ z. Depends d z x) (sym e) a)
turned d u x a (inr f) = and_then d x u x f a

in_no_loop : (d : Design) (u : PlacedBit) → IsGrounded d u → ¬ DependsFar d u u
in_no_loop d _ (grounded u below) far =
    let f = first_step d u u far in
    in_no_loop d f.0 (below f.0 f.1) (turned d u f.0 f.1 f.2)

pub no_loop : GroundedBitsHaveNoLoop
no_loop d all loop =
    let f = first_step d loop.bit loop.bit loop.loops in
    in_no_loop d loop.bit (all loop.bit f.0 f.1) loop.loops

-- ---- the other way

module _ (d : Design) (bits : List PlacedBit) (next : (u : PlacedBit) → Contains bits u → (y : PlacedBit) × Contains bits y × Depends d u y) where
  -- The bit is one that was not met yet, or it is this one or depends on it.
  abbrev IsMet : List PlacedBit → PlacedBit → PlacedBit → Type 0
  IsMet rest u z = IsAmong rest z ⊎ ((z ≡ u) ⊎ DependsFar d z u)

  met_after : (rest : List PlacedBit) (u y : PlacedBit) (h : IsAmong rest y) → Depends d u y → (z : PlacedBit) → IsMet rest u z → IsMet (without rest y h) y z
  met_after rest u y h a z (inl g) =
      elim (split rest y h z g) as (λ _. IsMet (without rest y h) y z) [ inl e ↦ inr (inl e) | inr k ↦ inl k ]
  met_after rest u y h a z (inr (inl e)) = inr (inr (DependsFar.step z y (subst (λ x. Depends d x y) (sym e) a)))
  met_after rest u y h a z (inr (inr f)) = inr (inr (and_then d z u y f a))

  ends_here : (u y : PlacedBit) → Depends d u y → (y ≡ u) ⊎ DependsFar d y u → HasLoop d
  ends_here u y a (inl e) = record { bit = u; loops = DependsFar.step u u (subst (Depends d u) e a) }
  ends_here u y a (inr f) = record { bit = u; loops = DependsFar.further u y u a f }

  nothing_left : (rest : List PlacedBit) (y : PlacedBit) → length rest ≤ 0 → IsAmong rest y → ⊥
  nothing_left [] y l h = h
  nothing_left (x ∷ rest) y l h = omega (arith, l)

  goes_on : (n : ℕ) (rest : List PlacedBit) → length rest ≤ n → (u : PlacedBit) → Contains bits u → ((z : PlacedBit) → Contains bits z → IsMet rest u z) → HasLoop d
  goes_on zero rest l u here met =
      let f = next u here in
      elim (met f.0 f.1) as (λ _. HasLoop d) [ inl h ↦ absurd (nothing_left rest f.0 l h) | inr m ↦ ends_here u f.0 f.2 m ]
  goes_on (suc n) rest l u here met =
      let f = next u here in
      elim (met f.0 f.1) as (λ _. HasLoop d) [
        | inl h ↦ let shorter : suc (length (without rest f.0 h)) ≡ length rest = length_without rest f.0 h in
            goes_on n (without rest f.0 h) (omega (arith, l, shorter)) f.0 f.1 (λ z k. met_after rest u f.0 h f.2 z (met z k))
        | inr m ↦ ends_here u f.0 f.2 m
      ]

pub some_loop : BitsThatRestOnThemselvesLoop
some_loop d [] some next = absurd (omega (arith, some))
some_loop d (u ∷ bits) some next =
    goes_on d (u ∷ bits) next (length (u ∷ bits)) (u ∷ bits) (omega arith) u (contains_among (u ∷ bits) u (inl refl))
    (λ z k. inl (among_contains (u ∷ bits) z k))
