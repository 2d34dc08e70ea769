use Rattle.std.proofs.Common.{List, set, ap, ◌∙◌}
use Rattle.std.proofs.lemmas.List.{map-set}
use Rattle.sat_solve.specs.declared.pairs.Pair.{Pair}
use Rattle.sat_solve.specs.declared.pairs.Slot.{Slot}
use Rattle.sat_solve.specs.Held.{pair_of}
use Rattle.sat_solve.proofs.pairs.Pairs.watch_at.Goals as goal

pub returns : goal.returns
returns c =
    let slot : Slot = record { first = c.args.pair.first; second = c.args.pair.second; from = c.args.from } in
    map-set pair_of c.self.inside.slots.items c.args.number slot ∙ ap (λ (ps : List Pair). set ps c.args.number c.args.pair) c.self.view_is
