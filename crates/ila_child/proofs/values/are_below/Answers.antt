use Rattle.std.proofs.Common.{◌∙◌, ◌+◌, ◌<◌, ◌^◌, ◌&&◌, get_or, drop, ap, arith}
use Rattle.std.proofs.lemmas.Bool.{lt-ltb}
use Rattle.std.proofs.lemmas.List.{drop_more}
use Rattle.std.proofs.lemmas.Nat.{pow_pos}
use Rattle.wb_values.specs.Value.{all_below}
use Rattle.ila_child.proofs.values.are_below.Goals as goal

pub loop-word-preserved : goal.loop-word-preserved
loop-word-preserved c =
    let ws = c.args.words.now in
    let w = c.args.width in
    let i = c.loop-word.word-index in
    let some : 0 < 2 ^ w = pow_pos w in
    let below : get_or ws i 0 < 2 ^ w = omega (arith, c.mask.ensures, c.if-mask-word.false, some) in
    c.loop-word.invariant ∙ ap (all_below w) (drop_more ws i 0 c.loop-word-test.true)
    ∙ ap (λ b. b && all_below w (drop (i + 1) ws)) (lt-ltb (get_or ws i 0) (2 ^ w) below)
