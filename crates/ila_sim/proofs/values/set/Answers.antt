use Rattle.std.proofs.Common.{◌∙◌, ap, arith}
use Rattle.scripts.specs.Script.{with_word}
use Rattle.wb_terms.specs.Environment.{as_value}
use Rattle.ila_sim.proofs.Made.{set_made}
use Rattle.ila_sim.proofs.values.set.Goals as goal

pub returns-then-set-len : goal.returns-then-set-len
returns-then-set-len c =
    let s = c.args.set.now in
    set_made c.args.values.now.items s.place s.word s.value c.index_mut-value.result.now c.set_word.new.value (omega (arith, c.if-set-len.true, c.len.ensures))
    (c.set_word.ensures ∙ ap (λ v. with_word (as_value v) s.word s.value) c.index_mut-value.ensures.value)
