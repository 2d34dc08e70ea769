use Rattle.v_value.specs.Scope.{objects_of}
use Rattle.v_places.specs.Views.{spot_of}
use Rattle.v_judged.specs.Sharing.{IsSame}
use Rattle.v_judged.specs.Spots.{spot_in, spots_in}
use Rattle.v_judged.proofs.Sharing.{there, has_one, own_stands, names_moved, spot_there}
use Rattle.v_judged.proofs.Sound.{some_first, not_empty}
use Rattle.v_judged.proofs.flat.one_scope_refusal.Goals as goal

pub scope_with-top-requires : goal.scope_with-top-requires
scope_with-top-requires c =
    has_one spot_of IsSame (spots_in c.args.scopes.now) c.args.numbers.now c.args.places.now c.requires.shared 0
    (some_first spot_of c.args.places.now (not_empty _ _ c.requires.sound.0 c.requires.sound.1))

pub numbered_refusal-requires-clause-count : goal.numbered_refusal-requires-clause-count
numbered_refusal-requires-clause-count c = c.in_ok-numbered.ensures.count

pub numbered_refusal-requires-clause-called : goal.numbered_refusal-requires-clause-called
numbered_refusal-requires-clause-called c = c.in_ok-numbered.ensures.called

pub returns : goal.returns
returns c = λ d h k.
    let f = there c.args.places.now 0 (some_first spot_of c.args.places.now (not_empty _ _ d h)) in
    let top = c.scope_with-top.result.now in
    let own = own_stands spot_of IsSame (spots_in c.args.scopes.now) c.args.numbers.now c.args.places.now c.requires.shared 0 f.0 f.1 (spot_in top) c.scope_with-top.ensures in
    c.in_ok-kind.ensures d (spot_of f.0) h (spot_there spot_of c.args.places.now 0 f.0 f.1)
    (names_moved top.names (spot_in top) (spot_of f.0) own (objects_of top.place.now.constants.declarations.items, top.rows_so)) k
