-- The note of the first unknown key, step by step.
use Rattle.std.proofs.Common.{◌≡◌, List, [], ℕ, true, false, Option, Some, None, option_map, is_some, refl, sym, ap, ◌∙◌}
use Rattle.wb_values.specs.Choice.{first_of}
use Rattle.std.specs.Prelude.{codes}
use Rattle.model_files.specs.Keys.{instruction_keys, instruction_has_unknown_key, model_has_unknown_key}
use Rattle.model_places.specs.Sites.{Way, into, Spot, Site, site_at, part_spot}
use Rattle.model_places.specs.Notes.{site_note, note_at}
use Rattle.model_places.specs.KeyPlaces.{objects_in, first_key_site, unknown_key_note}
use Rattle.serde_json.specs.Data.{Data}
use Rattle.serde_json.specs.Find.{get, as_array, as_object}
use Rattle.model_places.specs.ShapePlaces.{under, named_spot}
use Rattle.ila_file.specs.KeySpots.{other_key_of, listed, own_spot, first_item, below, child_below}
use Rattle.ila_file.specs.declared.note.Note.{Note}
use Rattle.ila_file.specs.Places.{note_text, found_text}
use Rattle.ila_file.proofs.KeySites.{some_in, some_mapped, below_some, instruction_first, child_first, model_first}

-- a spot that was found is the first
pub note_here : (all : Option (List ℕ)) (way at : Way) (o : Option Spot) (r : Option Site) (s : Spot) (text : List ℕ)
    → all ≡ option_map site_note (first_of (option_map (site_at way) o) r) → Some s ≡ o → at ≡ way → text ≡ note_at at s → Some text ≡ all
note_here all way at o r s text e f g h =
    ap (λ t. Some t) (h ∙ ap (λ w. note_at w s) g) ∙ sym (e ∙ ap (λ q. option_map site_note (first_of (option_map (site_at way) q) r)) (sym f))

-- where none was found, what stands behind it is
pub note_behind : (all : Option (List ℕ)) (way : Way) (o : Option Spot) (r : Option Site)
    → all ≡ option_map site_note (first_of (option_map (site_at way) o) r) → None ≡ o → all ≡ option_map site_note r
note_behind all way o r e f = e ∙ ap (λ q. option_map site_note (first_of (option_map (site_at way) q) r)) (sym f)

-- an instruction that has an unknown key: of its own, or in its child
pub in_instruction : (all : Option (List ℕ)) (way : Way) (m e : Data) (k : ℕ) → all ≡ option_map site_note (below way m)
    → Some (k, e) ≡ listed (first_item instruction_has_unknown_key 0) (under as_array (codes "instructions") m)
    → all ≡ option_map site_note (first_of (option_map (site_at way) (option_map (part_spot (named_spot (codes "instructions") k e)) (other_key_of instruction_keys (as_object e))))
    (child_below (into way k) (get (codes "child") e)))
in_instruction all way m e k h f = h ∙ ap (option_map site_note) (below_some way m e k f ∙ instruction_first way k e)

-- a child that has an unknown key: of its own, or below
pub in_child : (all : Option (List ℕ)) (way : Way) (o : Option Data) (f : Data) → all ≡ option_map site_note (child_below way o) → Some f ≡ o
    → all ≡ option_map site_note (first_of (option_map (site_at way) (own_spot true f)) (below way f))
in_child all way o f h g = h ∙ (ap (λ q. option_map site_note (child_below way q)) (sym g) ∙ ap (option_map site_note) (child_first way f))

pub in_model : (d : Data) → unknown_key_note d ≡ option_map site_note (first_of (option_map (site_at []) (own_spot false d)) (below [] d))
in_model d = ap (option_map site_note) (model_first d)

pub is_found : (d : Data) (o : Option Note) → found_text o ≡ unknown_key_note d → is_some o ≡ model_has_unknown_key d
is_found d o h = sym (some_mapped note_text o) ∙ (ap is_some h ∙ (some_mapped site_note (first_key_site (objects_in d)) ∙ some_in d))
