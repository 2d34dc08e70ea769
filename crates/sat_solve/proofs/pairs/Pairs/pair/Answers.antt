use Rattle.std.proofs.Common.{◌<◌, List, length, get_or, Some, sym, ap, ◌∙◌, arith}
use Rattle.std.proofs.lemmas.List.{get_or-map, length-map}
use Rattle.std.proofs.lemmas.Option.{slice_get-get_or}
use Rattle.sat_solve.specs.declared.pairs.Pair.{Pair}
use Rattle.sat_solve.specs.Held.{pair_of}
use Rattle.sat_solve.proofs.pairs.Pairs.pair.Goals as goal

pub returns : goal.returns
returns c =
    let slots = c.self.inside.slots.items in
    let slot = c.index-slot.result.now in
    let pair : Pair = pair_of slot in
    let within : c.args.number < length slots = omega (arith, c.requires, ap length c.self.view_is, length-map slots pair_of) in
    slice_get-get_or c.args.self.now c.args.number pair c.requires
    ∙ ap Some (ap (λ (ps : List Pair). get_or ps c.args.number pair) (sym c.self.view_is) ∙ get_or-map pair_of slots c.args.number slot pair within ∙ ap pair_of (sym c.index-slot.ensures))
