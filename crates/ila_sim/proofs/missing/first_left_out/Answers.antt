use Rattle.std.proofs.Common.{◌≡◌, map, true, ap, ◌∙◌, subst, option_map}
use Rattle.std.proofs.lemmas.List.{length-map}
use Rattle.ila_sim.specs.Marks.{first_unmarked}
use Rattle.ila_sim.specs.Names.{settable_of}
use Rattle.ila_sim.specs.Places.{called_at}
use Rattle.ila_sim.specs.Sets.{are_within}
use Rattle.ila_sim.proofs.Apart.{within_from}
use Rattle.ila_sim.proofs.Marked.{first_name}
use Rattle.ila_sim.proofs.missing.first_left_out.Goals as goal

pub marks-requires : goal.marks-requires
marks-requires c =
    let es = c.args.inputs.now in
    let sets = c.args.sets.now in
    subst (λ n. are_within n sets ≡ true) (length-map es settable_of) (within_from (map settable_of es) sets c.requires.right)

pub returns-clause-called : goal.returns-clause-called
returns-clause-called c =
    let es = c.args.inputs.now in
    let sets = c.args.sets.now in
    ap (option_map (called_at (map settable_of es))) (c.first_unmarked-place.ensures.place ∙ ap (first_unmarked 0) (c.deref.ensures.value ∙ c.in_ok-marks.ensures.marked))
    ∙ first_name es sets c.requires.apart (within_from (map settable_of es) sets c.requires.right)
