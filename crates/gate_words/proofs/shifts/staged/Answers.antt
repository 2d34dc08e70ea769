use Rattle.std.proofs.Common.{◌<◌, arith}
use Rattle.std.proofs.lemmas.Nat.{one_shl}
use Rattle.gate_words.proofs.Growing.{same}
use Rattle.gate_words.proofs.Moving.{staging_start, staging_turn}
use Rattle.gate_words.proofs.shifts.staged.Goals as goal

pub loop-place-init : goal.loop-place-init
loop-place-init c = staging_start c.args.circuit.now c.args.direction c.args.fill c.args.xs.now c.args.ys.now _ (same c.args.circuit.now) c.requires.xs c.in_ok-word.ensures

pub loop-place-preserved : goal.loop-place-preserved
loop-place-preserved c =
    let place = c.loop-place.place in
    let small : place < 64 = omega (arith, c.loop-place-test.true, c.requires.small) in
    staging_turn c.args.circuit.now c.loop-place.circuit c.stage.new.circuit c.args.direction c.args.fill c.args.xs.now c.args.ys.now c.loop-place.word.items c.as_slice.result.now
    c.in_ok-word-2.word.items place _ _ c.loop-place.invariant c.in_ok-word-2.ensures.grows c.as_slice.ensures.value c.in_ok-word-2.ensures.stage
    (one_shl place 64 small) (omega (arith, c.loop-place-test.true, c.requires.within))
