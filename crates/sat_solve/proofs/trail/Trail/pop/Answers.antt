use Rattle.std.proofs.Common.{◌≡◌, ◌<◌, ℕ, List, ◌∷◌, Option, Bool, None, length, reverse, sym, subst, refl, arith}
use Rattle.std.proofs.lemmas.List.{length-set}
use Rattle.sat_solve.specs.declared.trail.Entry.{Entry}
use Rattle.sat_solve.specs.declared.trail.Truth.{Truth}
use Rattle.sat_solve.specs.Kept.{IsKept}
use Rattle.sat_solve.specs.Truth.{AreTruths}
use Rattle.sat_solve.proofs.Signs.{sign_here}
use Rattle.sat_solve.proofs.KeptLemmas.{known, reverse-popped, IsKept-popped}
use Rattle.sat_solve.proofs.TruthLemmas.{AreTruths-popped}
use Rattle.sat_solve.proofs.trail.Trail.pop.Goals as goal

-- the items before, as the newest entry and the older ones
kept_before : (xs ys : List Entry) (e : Entry) (signs : List (Option Bool)) → xs ≡ e ∷ ys → IsKept xs signs → IsKept (e ∷ ys) signs
kept_before xs ys e signs h k = subst (λ t. IsKept t signs) h k

pub index_mut-requires : goal.index_mut-requires
index_mut-requires c =
    let popped : reverse c.self.inside.entries.items ≡ c.in_ok-entry.entry ∷ reverse c.pop.new.self.items = reverse-popped _ _ _ c.in_ok-entry.ensures.items in
    let kept = kept_before _ _ _ c.self.inside.signs.items popped c.self.invariant.0 in
    let e = c.in_ok-entry.entry in
    omega (arith, known (e ∷ reverse c.pop.new.self.items) c.self.inside.signs.items kept e.lit.var e.lit.negative (sign_here e (reverse c.pop.new.self.items) e.lit.var refl), c.self.inside.signs.ok.0)

pub write_pair-requires : goal.write_pair-requires
write_pair-requires c =
    let popped : reverse c.self.inside.entries.items ≡ c.in_ok-entry.entry ∷ reverse c.pop.new.self.items = reverse-popped _ _ _ c.in_ok-entry.ensures.items in
    let kept = kept_before _ _ _ c.self.inside.signs.items popped c.self.invariant.0 in
    let e = c.in_ok-entry.entry in
    omega (arith, known (e ∷ reverse c.pop.new.self.items) c.self.inside.signs.items kept e.lit.var e.lit.negative (sign_here e (reverse c.pop.new.self.items) e.lit.var refl), c.self.invariant.1.sized)

pub invariant_of-self-2 : goal.invariant_of-self-2
invariant_of-self-2 c =
    let e = c.in_ok-entry.entry in
    let older = reverse c.pop.new.self.items in
    let signs = c.self.inside.signs.items in
    let truths = c.self.inside.truths.items in
    let popped : reverse c.self.inside.entries.items ≡ e ∷ older = reverse-popped _ _ _ c.in_ok-entry.ensures.items in
    let kept = kept_before _ _ _ signs popped c.self.invariant.0 in
    let within : e.lit.var < length signs = known (e ∷ older) signs kept e.lit.var e.lit.negative (sign_here e older e.lit.var refl) in
    let before : AreTruths (e ∷ older) (length signs) truths = subst (λ (t : List Entry). AreTruths t (length signs) truths) popped c.self.invariant.1 in
    let after = AreTruths-popped e older (length signs) truths kept.fresh.0 before within in
    let written : AreTruths older (length signs) c.write_pair.new.truths.items = subst (λ (ts : List Truth). AreTruths older (length signs) ts) (sym c.write_pair.ensures) after in (
      IsKept-popped e older signs kept,
      subst (λ (n : ℕ). AreTruths older n c.write_pair.new.truths.items) (sym (length-set signs e.lit.var None)) written,
    )
