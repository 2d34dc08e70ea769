use Rattle.std.proofs.Common.{◌≤◌, arith}
use Rattle.ila_model.specs.Model.{model_of}
use Rattle.obligation_lists.proofs.Growing.{next}
use Rattle.obligation_lists.proofs.listing.add_idle.Goals as goal

pub returns : goal.returns
returns c =
    let m = model_of c.args.model.now in
    let counts = c.args.counts in
    let one : 1 ≤ 1 = omega arith in
    next m counts _ _ _ _ _ (c.in_ok-add_invariants.ensures m tt) (c.in_ok-add_states.ensures counts tt one)
