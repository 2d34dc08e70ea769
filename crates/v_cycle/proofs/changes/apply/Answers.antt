use Rattle.std.proofs.Common.{◌∙◌, ◌<◌, length, set, map, sym, ap, arith}
use Rattle.std.proofs.lemmas.List.{length-map, map-set, get_or-map}
use Rattle.wb_terms.specs.Environment.{as_value}
use Rattle.v_cycle.specs.Changing.{stored_in}
use Rattle.v_cycle.proofs.Changed.{changed-set, changed-past}
use Rattle.v_cycle.proofs.changes.apply.Goals as goal

pub returns-then-change-values : goal.returns-then-change-values
returns-then-change-values c =
    let vs = c.args.values.now in
    let k = c.args.change.register in
    let s = c.args.change.stored in
    let r = c.index-values-change.result in
    let lt : k < length vs = omega arith in
    let short = length-map vs as_value in
    map-set as_value vs k c.store.new.value
    ∙ ap (set (map as_value vs) k) (c.store.ensures ∙ ap (λ x. stored_in x s) (sym (get_or-map as_value vs k r (as_value r) lt)))
    ∙ sym (changed-set (map as_value vs) k s (as_value r) (omega (arith, lt, short)))

pub returns-else-change-values : goal.returns-else-change-values
returns-else-change-values c =
    let vs = c.args.values.now in
    sym (changed-past (map as_value vs) c.args.change.register c.args.change.stored (omega (arith, length-map vs as_value, c.if-change-values.false)))
