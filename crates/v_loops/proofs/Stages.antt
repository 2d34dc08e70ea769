-- Stages that do not end, and bits that depend on themselves.
use Rattle.std.proofs.Common.{◌≡◌, ℕ, zero, suc, ◌≤◌, refl, sym, subst, arith, List, [], ◌∷◌, length, ◌⊎◌, inl, inr}
use Rattle.std.specs.Prelude.{IsTrue, ◌↔◌}
use Rattle.verilog_trees.specs.Syntax.{Item}
use Rattle.verilog_meaning.specs.Expression.{Scope}
use Rattle.verilog_designs.specs.Reads.{BitSet}
use Rattle.verilog_designs.specs.Dependence.{Bit, is_in}
use Rattle.verilog_unique.proofs.Descent.{IsAmong, without, length_without, split}
use Rattle.v_paths.specs.Premises.{HasNoMemory}
use Rattle.v_loops.specs.OneModule.{DependsIn, DependsFarIn, HasLoopIn}
use Rattle.v_loops.specs.Turns.{HasFirst, Stage, HasAllLoops, IsLasting}
use Rattle.v_loops.proofs.Steps.{from-there, depends-driven, stage-driven, in-first}

module _ (s : Scope) (items : List Item) where
  -- one step more at the end
  and-then : (z u y : Bit) → DependsFarIn s items z u → DependsIn s items u y → DependsFarIn s items z y
  and-then _ _ y (DependsFarIn.step z u a) b = DependsFarIn.further z u y a (DependsFarIn.step u y b)
  and-then _ _ y (DependsFarIn.further z x u a f) b = DependsFarIn.further z x y a (and-then x u y f b)

  -- the first step of several, and what is left
  pub first-step : (u y : Bit) → DependsFarIn s items u y → (x : Bit) × DependsIn s items u x × ((x ≡ y) ⊎ DependsFarIn s items x y)
  first-step _ _ (DependsFarIn.step u y a) = (y, a, inl refl)
  first-step _ _ (DependsFarIn.further u x y a f) = (x, a, inr f)

  -- a loop may begin at its second bit
  pub turned : (u x : Bit) → DependsIn s items u x → (x ≡ u) ⊎ DependsFarIn s items x u → DependsFarIn s items x x
  turned u x a (inl e) = DependsFarIn.step x x (subst (λ (z : Bit). DependsIn s items z x) (sym e) a)
  turned u x a (inr f) = and-then x u x f a

  -- A bit of a loop is never settled.
  pub stays : (k : ℕ) (u : Bit) → DependsFarIn s items u u → Stage s items k u
  stays zero u h = let f = first-step u u h in depends-driven s items u f.0 f.1
  stays (suc k) u h = let f = first-step u u h in (f.0, f.1, stays k f.0 (turned u f.0 f.1 f.2))

  -- ---- sets that last

  pub goes-on : (p : BitSet) (j : ℕ) → IsLasting s items p → ((u : Bit) → IsTrue (is_in p u) → Stage s items j u) → (k : ℕ) (u : Bit) → IsTrue (is_in p u) → Stage s items k u
  goes-on p j f g zero u h = stage-driven s items j u (g u h)
  goes-on p j f g (suc k) u h = let o = f u h in (o.0, o.1, goes-on p j f g k o.0 o.2)

  -- ---- more turns than bits

  module _ (bits : List Bit) (covers : (k : ℕ) (u : Bit) → Stage s items k u → IsAmong bits u) where
    -- The bit was not met yet, or it is this one or depends on it.
    abbrev IsMet : List Bit → Bit → Bit → Type 0
    IsMet rest u z = IsAmong rest z ⊎ ((z ≡ u) ⊎ DependsFarIn s items z u)

    met-after : (rest : List Bit) (u y : Bit) (h : IsAmong rest y) → DependsIn s items u y → (z : Bit) → IsMet rest u z → IsMet (without rest y h) y z
    met-after rest u y h a z (inl g) = elim (split rest y h z g) as (λ _. IsMet (without rest y h) y z) [ inl e ↦ inr (inl e) | inr k ↦ inl k ]
    met-after rest u y h a z (inr (inl e)) = inr (inr (DependsFarIn.step z y (subst (λ (x : Bit). DependsIn s items x y) (sym e) a)))
    met-after rest u y h a z (inr (inr f)) = inr (inr (and-then z u y f a))

    ends-here : (u y : Bit) → DependsIn s items u y → (y ≡ u) ⊎ DependsFarIn s items y u → HasLoopIn s items
    ends-here u y a (inl e) = record { bit = u; loops = DependsFarIn.step u u (subst (DependsIn s items u) e a) }
    ends-here u y a (inr f) = record { bit = u; loops = DependsFarIn.further u y u a f }

    nothing-left : (rest : List Bit) (y : Bit) → length rest ≤ 0 → IsAmong rest y → ⊥
    nothing-left [] y l h = h
    nothing-left (x ∷ rest) y l h = omega (arith, l)

    leads-on : (n : ℕ) (rest : List Bit) → length rest ≤ n → (u : Bit) → Stage s items (suc n) u → ((z : Bit) → IsAmong bits z → IsMet rest u z) → HasLoopIn s items
    leads-on zero rest l u h met =
        elim (met h.0 (covers zero h.0 h.2)) as (λ _. HasLoopIn s items) [ inl g ↦ absurd (nothing-left rest h.0 l g) | inr m ↦ ends-here u h.0 h.1 m ]
    leads-on (suc n) rest l u h met =
        elim (met h.0 (covers (suc n) h.0 h.2)) as (λ _. HasLoopIn s items) [
          | inl g ↦ let shorter : suc (length (without rest h.0 g)) ≡ length rest = length_without rest h.0 g in
              leads-on n (without rest h.0 g) (omega (arith, l, shorter)) h.0 h.2 (λ z k. met-after rest u h.0 g h.1 z (met z k))
          | inr m ↦ ends-here u h.0 h.1 m
        ]

    pub loop-from : (n : ℕ) → length bits ≤ n → (u : Bit) → Stage s items n u → HasLoopIn s items
    loop-from zero l u h = absurd (nothing-left bits u l (covers zero u h))
    loop-from (suc n) l u h =
        let here = covers (suc n) u h in
        let shorter : suc (length (without bits u here)) ≡ length bits = length_without bits u here in
        leads-on n (without bits u here) (omega (arith, l, shorter)) u h
        (λ z k. elim (split bits u here z k) as (λ _. IsMet (without bits u here) u z) [ inl e ↦ inr (inl e) | inr g ↦ inl g ])

  -- ---- the answer

  -- a loop has a bit of a word 0 in each set that has all bits of loops
  pub loop-first : (p : BitSet) → HasNoMemory s p → HasAllLoops s items p → HasLoopIn s items → HasFirst p
  loop-first p none all h =
      let u = h.bit in
      let has = all u h.loops in
      let f = first-step u u h.loops in
      (u.of_name, u.place, subst (λ k. IsTrue (p u.of_name k u.place)) (in-first s p u none (from-there s items u f.0 f.1) u.word u.place has) has)

  -- Where from each bit that is left a chain leads on further than there are bits, some are left exactly where there is a loop.
  pub left-loops : (bits : List Bit) → ((k : ℕ) (u : Bit) → Stage s items k u → IsAmong bits u) → (p : BitSet) → HasNoMemory s p → HasAllLoops s items p
      → (n : ℕ) → length bits ≤ n → ((u : Bit) → IsTrue (is_in p u) → Stage s items n u) → HasFirst p ↔ HasLoopIn s items
  left-loops bits covers p none all n l far = (there, loop-first p none all)
    where
      there : HasFirst p → HasLoopIn s items
      there h =
          let u : Bit = record { of_name = h.0; word = 0; place = h.1 } in
          loop-from bits covers n l u (far u h.2)
