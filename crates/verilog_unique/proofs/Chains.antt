-- Chains of dependence are short, and no property of finitely many bits passes along dependence for ever.
use Rattle.std.proofs.Common.{◌≡◌, suc, ◌≤◌, List, [], ◌∷◌, inl, inr, length, refl, sym, subst, arith}
use Rattle.std.specs.List.{Contains}
use Rattle.verilog_meaning.specs.Settled.{Design}
use Rattle.verilog_designs.specs.Dependence.{PlacedBit, Depends, DependsFar, HasLoop}
use Rattle.verilog_unique.specs.Finite.{IsChain, ChainsAreShort}
use Rattle.verilog_unique.proofs.Descent.{IsAmong, contains_among, among_contains, without, length_without, kept, descends}

-- the first bit of a chain depends on each later one
far : (d : Design) (u y : PlacedBit) (rest : List PlacedBit) → IsChain d (u ∷ y ∷ rest) → (z : PlacedBit) → IsAmong (y ∷ rest) z → DependsFar d u z
far d u y rest h z (inl e) = DependsFar.step u z (subst (Depends d u) e h.0)
far d u y [] h z (inr k) = absurd k
far d u y (x ∷ rest) h z (inr k) = DependsFar.further u y z h.0 (far d y x rest h.1 z k)

short : (d : Design) (chain bits : List PlacedBit) → ¬ HasLoop d → IsChain d chain → ((u : PlacedBit) → IsAmong chain u → IsAmong bits u)
    → length chain ≤ length bits
short d [] bits loopless h within = omega arith
short d (u ∷ []) [] loopless h within = absurd (within u (inl refl))
short d (u ∷ []) (x ∷ bits) loopless h within = omega arith
short d (u ∷ y ∷ rest) bits loopless h within =
    let here : IsAmong bits u = within u (inl refl) in
    let fewer : suc (length (without bits u here)) ≡ length bits = length_without bits u here in
    let rest_short : length (y ∷ rest) ≤ length (without bits u here) =
    short d (y ∷ rest) (without bits u here) loopless h.1
    (λ z k. kept bits u here z (within z (inr k))
    (λ e. loopless (record { bit = u; loops = subst (DependsFar d u) (sym e) (far d u y rest h z k) }))) in
    omega (arith, fewer, rest_short)

pub chains_are_short : ChainsAreShort
chains_are_short d bits chain loopless h within =
    short d chain bits loopless h (λ u k. among_contains bits u (within u (contains_among chain u k)))

pub ends : (d : Design) (bits : List PlacedBit) (P : PlacedBit → Type 0) → ¬ HasLoop d → ((u : PlacedBit) → P u → Contains bits u)
    → ((u : PlacedBit) → P u → ¬ ((y : PlacedBit) → Depends d u y → ¬ P y)) → (u : PlacedBit) → ¬ P u
ends d bits P loopless within step u p =
    descends (Depends d) (DependsFar d) P (λ x y b. DependsFar.step x y b) (λ x y z b f. DependsFar.further x y z b f)
    (λ x f. loopless (record { bit = x; loops = f })) step (length bits) bits (omega arith) u p (λ z f q. among_contains bits z (within z q))
