use Rattle.std.proofs.Common.{◌∙◌, subst, sym}
use Rattle.std.proofs.lemmas.List.{take_rest}
use Rattle.gate_words.specs.Shifts.{IsStaged}
use Rattle.gate_words.proofs.Moving.{shifted_end}
use Rattle.gate_words.proofs.shifts.shifted.Goals as goal

pub returns-clause-shifted : goal.returns-clause-shifted
returns-clause-shifted c =
    shifted_end c.staged.new.circuit c.is_positive.new.circuit c.chained.new.circuit c.args.direction c.args.fill c.in_ok-far.far c.in_ok-chain.chain.carry c.args.xs.now c.args.ys.now _
    c.as_slice.result.now c.as_slice-2.result.now c.in_ok-chain.chain.bits.items c.stage_count-stages.result c.in_ok-far.ensures.grows c.in_ok-chain.ensures.grows
    (subst (IsStaged c.staged.new.circuit c.args.direction c.args.fill c.args.xs.now c.args.ys.now c.stage_count-stages.result) (sym c.as_slice-2.ensures.value) c.in_ok-word.ensures.staged)
    c.in_ok-far.ensures.bit (take_rest c.args.ys.now c.stage_count-stages.result) (c.as_slice.ensures.value ∙ c.in_ok-gone.ensures) c.stage_count-stages.ensures.enough c.stage_count-stages.ensures.within c.requires.width
    c.in_ok-chain.ensures.chain
