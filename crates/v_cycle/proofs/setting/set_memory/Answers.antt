use Rattle.std.proofs.Common.{◌∙◌, set, map, refl, sym, ap, arith}
use Rattle.std.proofs.lemmas.List.{length-map, map-set}
use Rattle.wb_values.specs.Value.{number}
use Rattle.wb_terms.specs.Environment.{as_value}
use Rattle.v_cycle.specs.Changing.{stored_by}
use Rattle.v_cycle.proofs.Changed.{changed_at-set}
use Rattle.v_cycle.proofs.setting.set_memory.Goals as goal

pub returns-then-note_chain-clause-values : goal.returns-then-note_chain-clause-values
returns-then-note_chain-clause-values c =
    let k = c.args.register in
    let vs = map as_value c.args.values.now in
    let ss = c.note_chain.new.changes.chain.items in
    c.make_chain.ensures.values
    ∙ changed_at-set vs k ss (number 0) (omega (arith, c.requires.register, length-map c.args.values.now as_value))
    ∙ ap (λ x. set vs k (stored_by x ss)) c.requires.own
    ∙ ap (set vs k) (sym (c.if-note_chain.ensures.chain refl))

pub returns-else-note_chain-clause-values : goal.returns-else-note_chain-clause-values
returns-else-note_chain-clause-values c =
    let k = c.args.register in
    let vs = c.args.values.now in
    map-set as_value vs k c.set_all.new.value ∙ ap (set (map as_value vs) k) c.set_all.ensures
