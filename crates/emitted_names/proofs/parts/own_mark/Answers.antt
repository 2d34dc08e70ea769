use Rattle.std.proofs.Common.{◌≡◌, ◌∙◌, false, true, length, replicate, set, rules, ap, arith}
use Rattle.std.proofs.lemmas.List.{length-replicate}
use Rattle.std.proofs.Math.ListN.{length-set}
use Rattle.emitted_names.proofs.PartMarks.{only_mark}
use Rattle.emitted_names.proofs.parts.own_mark.Goals as goal

pub index_mut-requires : goal.index_mut-requires
index_mut-requires c =
    let e : c.in_ok-marks.marks.items ≡ replicate c.args.count false = c.in_ok-marks.ensures.items_if_clones_equal (λ y same. search rules) in
    omega (arith, c.requires, ap length e, length-replicate c.args.count false, c.in_ok-marks.marks.ok.0)

pub returns-clause-own : goal.returns-clause-own
returns-clause-own c =
    let e : c.in_ok-marks.marks.items ≡ replicate c.args.count false = c.in_ok-marks.ensures.items_if_clones_equal (λ y same. search rules) in
    only_mark c.args.count c.args.memory.0 _ c.requires (length-replicate c.args.count false) (ap (λ xs. set xs c.args.memory.0 true) e)

pub returns-clause-room : goal.returns-clause-room
returns-clause-room c =
    let e : c.in_ok-marks.marks.items ≡ replicate c.args.count false = c.in_ok-marks.ensures.items_if_clones_equal (λ y same. search rules) in
    length-set c.in_ok-marks.marks.items c.args.memory.0 true ∙ ap length e ∙ length-replicate c.args.count false
