use Rattle.std.proofs.Common.{◌≡◌, ◌<◌, ℕ, List, ◌∷◌, None, Some, length, reverse, set, ap, sym, subst, arith}
use Rattle.std.proofs.lemmas.List.{length-set}
use Rattle.sat_solve.specs.declared.trail.Entry.{Entry}
use Rattle.sat_solve.specs.declared.trail.Truth.{Truth}
use Rattle.sat_solve.specs.Trail.{sign_at}
use Rattle.sat_solve.specs.Kept.{IsKept, TrailView}
use Rattle.sat_solve.specs.Truth.{AreTruths}
use Rattle.sat_solve.proofs.KeptLemmas.{reverse-popped, IsKept-pushed}
use Rattle.sat_solve.proofs.TruthLemmas.{AreTruths-pushed}
use Rattle.sat_solve.proofs.trail.Trail.push.Goals as goal

pub invariant_of-self-2 : goal.invariant_of-self-2
invariant_of-self-2 c =
    let e = c.args.entry in
    let older = reverse c.self.inside.entries.items in
    let signs = c.self.inside.signs.items in
    let truths = c.self.inside.truths.items in
    let after = reverse c.push.new.self.items in
    let pushed : after ≡ e ∷ older = reverse-popped _ _ _ c.in_ok-push.ensures.items in
    let within : e.lit.var < length signs = omega (arith, c.requires.known, ap (λ (t : TrailView). t.vars) c.self.view_is) in
    let fresh : sign_at older e.lit.var ≡ None = subst (λ (t : TrailView). sign_at t.entries e.lit.var ≡ None) (sym c.self.view_is) c.requires.fresh in
    let kept : IsKept after (set signs e.lit.var (Some e.lit.negative)) = subst (λ (t : List Entry). IsKept t (set signs e.lit.var (Some e.lit.negative))) (sym pushed) (IsKept-pushed e older signs fresh within c.self.invariant.0) in
    let paired = AreTruths-pushed e older (length signs) truths c.truth_if-positive.result c.truth_if-negative.result c.self.invariant.1 within c.truth_if-positive.ensures c.truth_if-negative.ensures in
    let written : AreTruths (e ∷ older) (length signs) c.write_pair.new.truths.items = subst (λ (ts : List Truth). AreTruths (e ∷ older) (length signs) ts) (sym c.write_pair.ensures) paired in
    let sized : AreTruths (e ∷ older) (length (set signs e.lit.var (Some e.lit.negative))) c.write_pair.new.truths.items = subst (λ (n : ℕ). AreTruths (e ∷ older) n c.write_pair.new.truths.items) (sym (length-set signs e.lit.var (Some e.lit.negative))) written in
    (kept, subst (λ (t : List Entry). AreTruths t (length (set signs e.lit.var (Some e.lit.negative))) c.write_pair.new.truths.items) (sym pushed) sized)
