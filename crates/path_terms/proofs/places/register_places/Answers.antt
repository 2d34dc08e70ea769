use Rattle.std.proofs.Common.{◌∙◌, sym, Some}
use Rattle.std.specs.Ordering.{nat_cmp}
use Rattle.std.specs.Cmp.Lexicographic.{slice_cmp}
use Rattle.std.specs.BTreeMap.{get_by}
use Rattle.std.proofs.lemmas.Map.Text.{btree_map_updates_str}
use Rattle.v_design.specs.Seen.{parts_of}
use Rattle.path_terms.specs.Places.{register_at}
use Rattle.path_terms.proofs.Filling.{place_turn}
use Rattle.path_terms.proofs.places.register_places.Goals as goal

pub loop-place-preserved : goal.loop-place-preserved
loop-place-preserved c = λ n.
    place_turn (register_at (parts_of c.args.design.now)) c.loop-place.place c.as_bytes.result.now n (get_by (λ key. slice_cmp nat_cmp n key.now) c.loop-place.places)
    (get_by (λ key. slice_cmp nat_cmp n key.now) c.insert.new.self) (sym c.register_name.ensures ∙ sym c.as_bytes.ensures.value)
    (btree_map_updates_str c.as_bytes.result.now c.loop-place.places c.insert.new.self (Some c.loop-place.place) c.in_ok-insert.ensures.updates n)
    (c.loop-place.invariant n)
