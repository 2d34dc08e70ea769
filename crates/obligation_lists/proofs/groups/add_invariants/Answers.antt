use Rattle.std.proofs.Common.{◌≤◌, ◌<◌, ◌+◌, ◌≡◌, ap, length, [], ◌∷◌, refl, arith}
use Rattle.refinement.specs.Obligation.{numbered, invariant}
use Rattle.obligation_lists.specs.Claims.{hypotheses_of}
use Rattle.obligation_lists.proofs.Growing.{one, next, read_as, line, line_same, invariant_lines, for_each_next}
use Rattle.obligation_lists.proofs.groups.add_invariants.Goals as goal

pub loop-place-preserved : goal.loop-place-preserved
loop-place-preserved c =
    let g = c.args.group in
    let k = c.loop-place.place in
    let here : k < c.args.counts.invariants = omega (arith, c.loop-place-test.true) in
    let last : g.cycles ≤ g.cycles = omega arith in
    let stop : k + 1 ≤ c.args.counts.invariants = omega (arith, here) in (
      stop,
      λ m hyps.
          read_as m c.args.counts _ _ _ _
          (next m c.args.counts _ _ _ _ _ (c.loop-place.invariant.1 m hyps)
          (one m c.args.counts _ _ _ (λ p. line (numbered g.text.now k) g.cycles (hypotheses_of p g.hypotheses) (invariant k g.cycles)) c.in_ok-add.ensures
          (hyps, (here, last)) (λ p h. line_same _ _ _ _ _ _ c.in_ok-name.ensures refl)))
          (λ p h. for_each_next (λ i. line (numbered g.text.now i) g.cycles (hypotheses_of p g.hypotheses) (invariant i g.cycles) ∷ []) k),
    )

pub returns : goal.returns
returns c =
    let g = c.args.group in
    λ m hyps.
    read_as m c.args.counts _ _ _ _ (c.loop-place.invariant.1 m hyps)
    (λ p h. let end : c.loop-place.place ≡ length p.invariants = omega (arith, c.loop-place.invariant.0, c.loop-place-test.false, h.invariants) in
    ap (λ n. invariant_lines g.text.now g.cycles g.hypotheses n p) end)
