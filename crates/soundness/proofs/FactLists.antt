-- Facts and obligations in lists.
use Rattle.std.proofs.Common.{◌≡◌, ℕ, zero, suc, ◌+◌, ◌<◌, ◌≤◌, List, [], ◌∷◌, ◌++◌, ◌⊎◌, inl, inr, arith, subst, sym}
use Rattle.refinement.specs.Map.{Setting}
use Rattle.refinement.specs.Run.{Run}
use Rattle.refinement.specs.Obligation.{Fact, MeansAll, Obligation, for_each}
use Rattle.refinement.specs.Soundness.{AllHold}

pub AllHold-left : (s : Setting) (os ps : List Obligation) → AllHold s (os ++ ps) → AllHold s os
AllHold-left s [] ps h = tt
AllHold-left s (o ∷ os) ps h = (h.0, AllHold-left s os ps h.1)

pub AllHold-right : (s : Setting) (os ps : List Obligation) → AllHold s (os ++ ps) → AllHold s ps
AllHold-right s [] ps h = h
AllHold-right s (o ∷ os) ps h = AllHold-right s os ps h.1

pub at_or_past : (k m : ℕ) → k ≤ m → (m ≡ k) ⊎ (suc k ≤ m)
at_or_past k m h = grind arith

pub AllHold-for_each : (s : Setting) (f : ℕ → List Obligation) (k n : ℕ) → AllHold s (for_each f k n)
    → (m : ℕ) → k ≤ m → m < k + n → AllHold s (f m)
AllHold-for_each s f k zero h m low high = absurd (omega arith)
AllHold-for_each s f k (suc n) h m low high =
    elim (at_or_past k m low) [
      | inl e ↦ subst (λ i. AllHold s (f i)) (sym e) (AllHold-left s (f k) (for_each f (suc k) n) h)
      | inr past ↦ AllHold-for_each s f (suc k) n (AllHold-right s (f k) (for_each f (suc k) n) h) m past (omega arith)
    ]

pub MeansAll-append : (s : Setting) (run : Run) (fs gs : List Fact) → MeansAll s run fs → MeansAll s run gs → MeansAll s run (fs ++ gs)
MeansAll-append s run [] gs f g = g
MeansAll-append s run (x ∷ fs) gs f g = (f.0, MeansAll-append s run fs gs f.1 g)

pub MeansAll-for_each : (s : Setting) (run : Run) (f : ℕ → List Fact) (k n : ℕ)
    → ((m : ℕ) → k ≤ m → m < k + n → MeansAll s run (f m)) → MeansAll s run (for_each f k n)
MeansAll-for_each s run f k zero h = tt
MeansAll-for_each s run f k (suc n) h =
    MeansAll-append s run (f k) (for_each f (suc k) n) (h k (omega arith) (omega arith))
    (MeansAll-for_each s run f (suc k) n (λ m low high. h m (omega arith) (omega arith)))
