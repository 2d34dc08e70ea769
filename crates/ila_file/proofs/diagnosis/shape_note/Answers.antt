use Rattle.std.proofs.Common.{◌≡◌, ◌<◌, Some, None, option_map, [], true, false, refl, sym, ap, ◌∙◌, arith}
use Rattle.std.specs.Prelude.{codes}
use Rattle.serde_json.specs.Data.{depth}
use Rattle.serde_json.specs.Find.{get, as_array}
use Rattle.serde_json.specs.View.{view}
use Rattle.model_places.specs.Notes.{site_note}
use Rattle.model_places.specs.ShapePlaces.{shape_note, under}
use Rattle.model_places.specs.Sites.{into}
use Rattle.ila_file.specs.KeySpots.{listed, first_item}
use Rattle.ila_file.specs.Places.{spot_view, way_of}
use Rattle.ila_file.specs.ShapeSpots.{instruction_misfit, is_no_instruction, machine_misfit, misfit_below, misfit_in_child}
use Rattle.ila_file.proofs.Depth.{found_below, list_below}
use Rattle.ila_file.proofs.KeyNotes.{note_here, note_behind}
use Rattle.ila_file.proofs.KeySites.{listed_below}
use Rattle.ila_file.proofs.ShapeNotes.{is_first, is_nowhere, in_model, in_instruction, behind_own, in_child}
use Rattle.ila_file.proofs.ShapeSites.{below_none}
use Rattle.ila_file.proofs.diagnosis.shape_note.Goals as goal

pub returns-in-Some : goal.returns-in-Some
returns-in-Some c =
    let d = view c.args.value.now in
    note_here (shape_note d) [] (way_of c.top-place.result) (machine_misfit false d) (misfit_below [] d) (spot_view c.in-Some.spot) _ (in_model d)
    (ap (option_map spot_view) (sym c.in-Some.is) ∙ c.in_ok-spot.ensures) c.top-place.ensures c.in_ok-note.ensures

pub loop-place-init : goal.loop-place-init
loop-place-init c =
    let d = view c.args.value.now in
    note_behind (shape_note d) [] (machine_misfit false d) (misfit_below [] d) (in_model d) (ap (option_map spot_view) (sym c.in_default.is) ∙ c.in_ok-spot.ensures)
    ∙ ap (λ w. option_map site_note (misfit_below w d)) (sym c.top-place.ensures)

pub returns-in-Some-3 : goal.returns-in-Some-3
returns-in-Some-3 c =
    let all = shape_note (view c.args.value.now) in
    let way = way_of c.loop-place.place in
    let k = c.in-Some-2.index in
    let e = view c.in-Some-2.instruction.now in
    let first : Some (k, e) ≡ listed (first_item is_no_instruction 0) (under as_array (codes "instructions") (view c.loop-place.machine.now)) =
    is_first _ k c.in-Some-2.instruction _ c.in-Some-2.is c.in_ok-index.ensures in
    note_here all way way (instruction_misfit k e) (misfit_in_child (into way k) (get (codes "child") e)) (spot_view c.in-Some-3.spot) _
    (in_instruction all way (view c.loop-place.machine.now) e k c.loop-place.invariant first) (ap (option_map spot_view) (sym c.in-Some-3.is) ∙ c.in_ok-spot-2.ensures) refl c.in_ok-note-2.ensures

pub returns-in_default-get : goal.returns-in_default-get
returns-in_default-get c =
    let all = shape_note (view c.args.value.now) in
    let way = way_of c.loop-place.place in
    let k = c.in-Some-2.index in
    let e = view c.in-Some-2.instruction.now in
    let first : Some (k, e) ≡ listed (first_item is_no_instruction 0) (under as_array (codes "instructions") (view c.loop-place.machine.now)) =
    is_first _ k c.in-Some-2.instruction _ c.in-Some-2.is c.in_ok-index.ensures in
    let behind : all ≡ option_map site_note (misfit_in_child (into way k) (get (codes "child") e)) =
    behind_own all way (view c.loop-place.machine.now) e k c.loop-place.invariant first (ap (option_map spot_view) (sym c.in_default-3.is) ∙ c.in_ok-spot-2.ensures) in
    sym (behind ∙ ap (λ o. option_map site_note (misfit_in_child (into way k) o)) (sym c.in_default-get.ensures))

pub returns-in-Some-4 : goal.returns-in-Some-4
returns-in-Some-4 c =
    let all = shape_note (view c.args.value.now) in
    let way = way_of c.loop-place.place in
    let k = c.in-Some-2.index in
    let e = view c.in-Some-2.instruction.now in
    let f = view c.in-Some-get.child.now in
    let first : Some (k, e) ≡ listed (first_item is_no_instruction 0) (under as_array (codes "instructions") (view c.loop-place.machine.now)) =
    is_first _ k c.in-Some-2.instruction _ c.in-Some-2.is c.in_ok-index.ensures in
    let behind : all ≡ option_map site_note (misfit_in_child (into way k) (get (codes "child") e)) =
    behind_own all way (view c.loop-place.machine.now) e k c.loop-place.invariant first (ap (option_map spot_view) (sym c.in_default-3.is) ∙ c.in_ok-spot-2.ensures) in
    note_here all (into way k) (way_of c.enter.new.self) (machine_misfit true f) (misfit_below (into way k) f) (spot_view c.in-Some-4.spot) _
    (in_child all (into way k) (get (codes "child") e) f behind c.in-Some-get.ensures) (ap (option_map spot_view) (sym c.in-Some-4.is) ∙ c.in_ok-spot-3.ensures) c.in_ok-enter.ensures c.in_ok-note-3.ensures

pub loop-place-smaller : goal.loop-place-smaller
loop-place-smaller c =
    let m = view c.loop-place.machine.now in
    let k = c.in-Some-2.index in
    let e = view c.in-Some-2.instruction.now in
    let f = view c.in-Some-get.child.now in
    let first : Some (k, e) ≡ listed (first_item is_no_instruction 0) (under as_array (codes "instructions") m) =
    is_first _ k c.in-Some-2.instruction _ c.in-Some-2.is c.in_ok-index.ensures in
    let low : depth f < depth e = found_below (codes "child") e f (sym c.in-Some-get.ensures) in
    let high : depth e < depth m = listed_below is_no_instruction (under as_array (codes "instructions") m) m k e (λ ds g. list_below (codes "instructions") m ds g) first in
    omega (arith, low, high)

pub loop-place-preserved : goal.loop-place-preserved
loop-place-preserved c =
    let all = shape_note (view c.args.value.now) in
    let way = way_of c.loop-place.place in
    let k = c.in-Some-2.index in
    let e = view c.in-Some-2.instruction.now in
    let f = view c.in-Some-get.child.now in
    let first : Some (k, e) ≡ listed (first_item is_no_instruction 0) (under as_array (codes "instructions") (view c.loop-place.machine.now)) =
    is_first _ k c.in-Some-2.instruction _ c.in-Some-2.is c.in_ok-index.ensures in
    let behind : all ≡ option_map site_note (misfit_in_child (into way k) (get (codes "child") e)) =
    behind_own all way (view c.loop-place.machine.now) e k c.loop-place.invariant first (ap (option_map spot_view) (sym c.in_default-3.is) ∙ c.in_ok-spot-2.ensures) in
    note_behind all (into way k) (machine_misfit true f) (misfit_below (into way k) f) (in_child all (into way k) (get (codes "child") e) f behind c.in-Some-get.ensures)
    (ap (option_map spot_view) (sym c.in_default-4.is) ∙ c.in_ok-spot-3.ensures)
    ∙ ap (λ w. option_map site_note (misfit_below w f)) (sym c.in_ok-enter.ensures)

pub returns : goal.returns
returns c =
    sym (c.loop-place.invariant ∙ ap (option_map site_note) (below_none (way_of c.loop-place.place) (view c.loop-place.machine.now)
    (is_nowhere _ _ c.in_default-2.is c.in_ok-index.ensures)))
