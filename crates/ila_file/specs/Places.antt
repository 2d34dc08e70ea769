-- What the code's places and notes are seen as.
use Rattle.std.specs.Prelude.{ℕ, List, Option, option_map}
use Rattle.model_places.specs.Sites as pure
use Rattle.model_places.specs.Sites.{Way}
use Rattle.ila_file.specs.declared.place.Spot.{Spot}
use Rattle.ila_file.specs.declared.place.Place.{Place}
use Rattle.ila_file.specs.declared.note.Note.{Note}

abbrev pub spot_view : Spot → pure.Spot
spot_view s = record {
  key = s.key.now;
  index = s.index;
  name = option_map (λ n. n.now) s.name;
  part = option_map (λ n. n.now) s.part;
  member = option_map (λ n. n.now) s.member;
}

-- the way to the machine of a place
abbrev pub way_of : Place → Way
way_of p = p.instructions.items

-- the text of a note
abbrev pub note_text : Note → List ℕ
note_text n = n.text.items

-- the text of a note that was found, if one was
abbrev pub found_text : Option Note → Option (List ℕ)
found_text o = option_map note_text o
