use Rattle.std.proofs.Common.{sym, ap, ◌∙◌, Some, cond}
use Rattle.wb_values.specs.Value.{same_name}
use Rattle.std.specs.Prelude.{is_some, not}
use Rattle.std.proofs.lemmas.Map.Text.{btree_map_updates_str}
use Rattle.map_terms.specs.Places.{first_places_at}
use Rattle.map_terms.proofs.Firsts.{first_kept, first_added}
use Rattle.map_terms.proofs.places.FirstPlaces.add.Goals as goal

pub returns-in_ok-insert : goal.returns-in_ok-insert
returns-in_ok-insert c = λ ns h count n.
    first_added (first_places_at c.args.self.now) (first_places_at (record { places = c.insert.new.self })) ns c.args.name.now c.args.place
    (ap is_some (sym c.place.ensures) ∙ c.is_none.ensures ∙ ap not c.if-is_none.true) h count
    (λ k. btree_map_updates_str c.as_bytes.result.now c.args.self.now.places c.insert.new.self (Some c.args.place) c.in_ok-insert.ensures.updates k
    ∙ ap (λ q. cond (same_name q k) (Some c.args.place) (first_places_at c.args.self.now k)) c.as_bytes.ensures.value) n

pub returns-else-is_none : goal.returns-else-is_none
returns-else-is_none c = λ ns h count n.
    first_kept (first_places_at c.args.self.now) ns c.args.name.now (ap is_some (sym c.place.ensures) ∙ c.is_none.ensures ∙ ap not c.if-is_none.false) h n
