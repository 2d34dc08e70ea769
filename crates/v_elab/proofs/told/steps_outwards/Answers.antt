use Rattle.std.proofs.Common.{◌≡◌, ◌≤◌, map, get_or, Some, refl}
use Rattle.std.specs.Prelude.{slice_get}
use Rattle.v_places.specs.Below.{Spot}
use Rattle.v_places.specs.Views.{spots_of}
use Rattle.v_elab.proofs.Telling.{turn_outwards, all_steps, top_place, past_places}
use Rattle.v_elab.proofs.told.steps_outwards.Goals as goal
use Rattle.v_elab.proofs.told.steps_outwards.Goals.{then-loop-at-test+else-places-at, else-loop-at-test}

pub loop-at-preserved : goal.loop-at-preserved
loop-at-preserved c =
    let l = c.loop-at in
    let ps = c.args.places.now in
    turn_outwards ps c.args.number l.at (get_or ps l.at c.index-places-at.result) c.index-places-at-in-loop-at.result c.index-places-at-in-loop-at-2.result _ _
    l.steps.items c.push.new.self.items c.instance_name.result c.loop-at-test.true refl c.if-places-at.true c.index-places-at-in-loop-at.is
    c.instance_name.ensures c.in_ok-push.ensures.items l.invariant

pub returns : goal.returns
returns c =
    let l = c.loop-at in
    let ps = c.args.places.now in
    all_steps (spots_of ps) c.args.number l.at (map (λ u. u.now) l.steps.items)
    (elim c.loop-at-test.branch as (λ _. (x : Spot) → slice_get (spots_of ps) l.at ≡ Some x → l.at ≤ x.parent) [
      | then-loop-at-test+else-places-at w ↦ top_place ps l.at _ (get_or ps l.at w.index-places-at.result) w.loop-at-test.true refl w.if-places-at.false
      | else-loop-at-test w ↦ past_places ps l.at w.loop-at-test.false
    ])
    l.invariant
