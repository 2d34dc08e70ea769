use Rattle.std.proofs.Common.{◌++◌, ◌∷◌, [], List, map, ap, ◌∙◌}
use Rattle.std.proofs.lemmas.List.{map_push}
use Rattle.sat_solve.specs.declared.pairs.Pair.{Pair}
use Rattle.sat_solve.specs.declared.pairs.Slot.{Slot}
use Rattle.sat_solve.specs.Held.{pair_of}
use Rattle.sat_solve.proofs.pairs.Pairs.push.Goals as goal

pub returns : goal.returns
returns c =
    let slot : Slot = record { first = c.args.pair.first; second = c.args.pair.second; from = 0 } in
    ap (λ (ss : List Slot). map pair_of ss) c.in_ok-push.ensures.items
    ∙ map_push pair_of c.self.inside.slots.items slot
    ∙ ap (λ (ps : List Pair). ps ++ c.args.pair ∷ []) c.self.view_is
