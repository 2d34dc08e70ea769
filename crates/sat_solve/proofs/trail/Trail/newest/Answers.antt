use Rattle.std.proofs.Common.{◌≡◌, ◌<◌, ◌-◌, reverse, length, get_or, ap, ◌∙◌}
use Rattle.sat_solve.proofs.KeptLemmas.{entry_known, entry_from_end}
use Rattle.sat_solve.proofs.trail.Trail.newest.Goals as goal

pub returns-clause-known : goal.returns-clause-known
returns-clause-known c =
    let xs = c.self.inside.entries.items in
    let e = c.index.result.now in
    let within : c.args.k < length (reverse xs) = rw (← c.self.view_is) at c.requires in
    let is : e ≡ get_or xs (length xs - 1 - c.args.k) e = c.index.ensures ∙ ap (λ n. get_or xs (n - 1 - c.args.k) e) (c.len.ensures ∙ c.self.inside.entries.ok.0) in
    rw (← c.self.view_is) (entry_known (reverse xs) c.self.inside.signs.items c.args.k e c.self.invariant.0 (entry_from_end xs c.args.k e within is))
