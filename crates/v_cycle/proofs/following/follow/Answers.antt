use Rattle.std.proofs.Common.{◌∙◌, length, take, map, sym, ap}
use Rattle.wb_terms.specs.Environment.{as_value}
use Rattle.v_cycle.specs.Changing.{changed_by}
use Rattle.v_cycle.proofs.Changed.{changed_by-take}
use Rattle.v_cycle.proofs.following.follow.Goals as goal

pub returns-then-changes : goal.returns-then-changes
returns-then-changes c =
    let n = length c.args.registers.now in
    let vs = map as_value c.args.values.now in
    ap (take n) c.apply_all.ensures ∙ changed_by-take n vs c.deref.result.now
    ∙ ap (changed_by (take n vs)) c.deref.ensures.value ∙ sym (c.requires.listed c.if-changes.true)
