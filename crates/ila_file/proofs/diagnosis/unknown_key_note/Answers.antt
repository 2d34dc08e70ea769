use Rattle.std.proofs.Common.{◌≡◌, ◌<◌, Some, None, option_map, List, [], true, false, refl, sym, ap, ◌∙◌, arith}
use Rattle.std.specs.Prelude.{codes}
use Rattle.serde_json.specs.Data.{depth}
use Rattle.serde_json.specs.Find.{get, as_array, as_object}
use Rattle.serde_json.specs.View.{view}
use Rattle.model_files.specs.Keys.{instruction_keys, instruction_has_unknown_key}
use Rattle.model_places.specs.KeyPlaces.{unknown_key_note}
use Rattle.model_places.specs.Notes.{site_note}
use Rattle.model_places.specs.Sites.{into, part_spot}
use Rattle.ila_file.specs.KeySpots.{other_key_of, own_spot, below, child_below}
use Rattle.model_places.specs.ShapePlaces.{under, named_spot}
use Rattle.ila_file.specs.Places.{spot_view, way_of}
use Rattle.ila_file.proofs.Depth.{found_below, list_below}
use Rattle.ila_file.proofs.KeyNotes.{note_here, note_behind, in_instruction, in_child, in_model}
use Rattle.ila_file.proofs.KeySites.{below_none, listed_below}
use Rattle.ila_file.proofs.diagnosis.unknown_key_note.Goals as goal

pub returns-in-Some : goal.returns-in-Some
returns-in-Some c =
    let d = view c.args.value.now in
    note_here (unknown_key_note d) [] (way_of c.top-place.result) (own_spot false d) (below [] d) (spot_view c.in-Some.spot) _ (in_model d) c.in-Some.ensures c.top-place.ensures c.in_ok-note.ensures

pub loop-index-init : goal.loop-index-init
loop-index-init c =
    let d = view c.args.value.now in
    note_behind (unknown_key_note d) [] (own_spot false d) (below [] d) (in_model d) c.in_default.ensures
    ∙ ap (λ w. option_map site_note (below w d)) (sym c.top-place.ensures)

pub returns-in-Some-instruction_key_spot : goal.returns-in-Some-instruction_key_spot
returns-in-Some-instruction_key_spot c =
    let way = way_of c.loop-index.place in
    let k = c.in-Some-instruction_with_unknown_key.index in
    let e = view c.in-Some-instruction_with_unknown_key.instruction.now in
    note_here (unknown_key_note (view c.args.value.now)) way way (option_map (part_spot (named_spot (codes "instructions") k e)) (other_key_of instruction_keys (as_object e)))
    (child_below (into way k) (get (codes "child") e)) (spot_view c.in-Some-instruction_key_spot.spot) _
    (in_instruction (unknown_key_note (view c.args.value.now)) way (view c.loop-index.machine.now) e k c.loop-index.invariant c.in-Some-instruction_with_unknown_key.ensures)
    c.in-Some-instruction_key_spot.ensures refl c.in_ok-note-2.ensures

pub returns-in_default-get : goal.returns-in_default-get
returns-in_default-get c =
    let all = unknown_key_note (view c.args.value.now) in
    let way = way_of c.loop-index.place in
    let k = c.in-Some-instruction_with_unknown_key.index in
    let e = view c.in-Some-instruction_with_unknown_key.instruction.now in
    let behind : all ≡ option_map site_note (child_below (into way k) (get (codes "child") e)) =
    note_behind all way (option_map (part_spot (named_spot (codes "instructions") k e)) (other_key_of instruction_keys (as_object e))) (child_below (into way k) (get (codes "child") e))
    (in_instruction all way (view c.loop-index.machine.now) e k c.loop-index.invariant c.in-Some-instruction_with_unknown_key.ensures) c.in_default-instruction_key_spot.ensures in
    sym (behind ∙ ap (λ o. option_map site_note (child_below (into way k) o)) (sym c.in_default-get.ensures))

pub returns-in-Some-machine_key_spot : goal.returns-in-Some-machine_key_spot
returns-in-Some-machine_key_spot c =
    let all = unknown_key_note (view c.args.value.now) in
    let way = way_of c.loop-index.place in
    let k = c.in-Some-instruction_with_unknown_key.index in
    let e = view c.in-Some-instruction_with_unknown_key.instruction.now in
    let f = view c.in-Some-get.child.now in
    let behind : all ≡ option_map site_note (child_below (into way k) (get (codes "child") e)) =
    note_behind all way (option_map (part_spot (named_spot (codes "instructions") k e)) (other_key_of instruction_keys (as_object e))) (child_below (into way k) (get (codes "child") e))
    (in_instruction all way (view c.loop-index.machine.now) e k c.loop-index.invariant c.in-Some-instruction_with_unknown_key.ensures) c.in_default-instruction_key_spot.ensures in
    note_here all (into way k) (way_of c.enter.new.self) (own_spot true f) (below (into way k) f) (spot_view c.in-Some-machine_key_spot.spot) _
    (in_child all (into way k) (get (codes "child") e) f behind c.in-Some-get.ensures) c.in-Some-machine_key_spot.ensures c.in_ok-enter.ensures c.in_ok-note-3.ensures

pub loop-index-smaller : goal.loop-index-smaller
loop-index-smaller c =
    let m = view c.loop-index.machine.now in
    let k = c.in-Some-instruction_with_unknown_key.index in
    let e = view c.in-Some-instruction_with_unknown_key.instruction.now in
    let f = view c.in-Some-get.child.now in
    let low : depth f < depth e = found_below (codes "child") e f (sym c.in-Some-get.ensures) in
    let high : depth e < depth m =
    listed_below instruction_has_unknown_key (under as_array (codes "instructions") m) m k e (λ ds g. list_below (codes "instructions") m ds g) c.in-Some-instruction_with_unknown_key.ensures in
    omega (arith, low, high)

pub loop-index-preserved : goal.loop-index-preserved
loop-index-preserved c =
    let all = unknown_key_note (view c.args.value.now) in
    let way = way_of c.loop-index.place in
    let k = c.in-Some-instruction_with_unknown_key.index in
    let e = view c.in-Some-instruction_with_unknown_key.instruction.now in
    let f = view c.in-Some-get.child.now in
    let behind : all ≡ option_map site_note (child_below (into way k) (get (codes "child") e)) =
    note_behind all way (option_map (part_spot (named_spot (codes "instructions") k e)) (other_key_of instruction_keys (as_object e))) (child_below (into way k) (get (codes "child") e))
    (in_instruction all way (view c.loop-index.machine.now) e k c.loop-index.invariant c.in-Some-instruction_with_unknown_key.ensures) c.in_default-instruction_key_spot.ensures in
    note_behind all (into way k) (own_spot true f) (below (into way k) f) (in_child all (into way k) (get (codes "child") e) f behind c.in-Some-get.ensures) c.in_default-machine_key_spot.ensures
    ∙ ap (λ w. option_map site_note (below w f)) (sym c.in_ok-enter.ensures)

pub returns : goal.returns
returns c = sym (c.loop-index.invariant ∙ ap (option_map site_note) (below_none (way_of c.loop-index.place) (view c.loop-index.machine.now) c.in_default-instruction_with_unknown_key.ensures))
