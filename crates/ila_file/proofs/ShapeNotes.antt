-- The note of the first place at which something of another kind stands, step by step.
use Rattle.std.proofs.Common.{◌≡◌, ℕ, List, [], false, Bor, Err, Option, Some, None, option_map, is_some, is_none, sym, ap, ◌∙◌}
use Rattle.std.specs.Prelude.{codes}
use Rattle.wb_values.specs.Choice.{first_of}
use Rattle.model_files.specs.Written.{WrittenModel}
use Rattle.model_files.specs.Shape.{model_in}
use Rattle.model_places.specs.Sites.{Way, into, site_at}
use Rattle.model_places.specs.Notes.{site_note}
use Rattle.model_places.specs.ShapePlaces.{under, shape_note}
use Rattle.model_places.proofs.Fitting.{noted_misfit}
use Rattle.serde_json.specs.Data.{Data}
use Rattle.serde_json.specs.Find.{get, as_array}
use Rattle.serde_json.specs.View.{view}
use Rattle.serde_json.specs.declared.value.Value.{Value}
use Rattle.ila_file.specs.KeySpots.{listed, first_item}
use Rattle.ila_file.specs.Reading.{IsReading}
use Rattle.ila_file.specs.ShapeSpots.{instruction_misfit, is_no_instruction, machine_misfit, misfit_below, misfit_in_child}
use Rattle.ila_file.specs.declared.stop.Stop.{Stop}
use Rattle.ila_file.specs.declared.stop.Stop.TheVariants.{Memory, Refused}
use Rattle.ila_file.proofs.KeyNotes.{note_behind}
use Rattle.ila_file.proofs.ShapeSites.{below_some, instruction_first, model_first}

-- an item that a loop gives with its place, as the definition has it
abbrev seen : ℕ × Bor Value → ℕ × Data
seen r = (r.0, view r.1.now)

pub is_first : (o : Option (ℕ × Bor Value)) (k : ℕ) (e : Bor Value) (x : Option (ℕ × Data)) → o ≡ Some (k, e) → option_map seen o ≡ x → Some (k, view e.now) ≡ x
is_first o k e x h g = ap (option_map seen) (sym h) ∙ g

pub is_nowhere : (o : Option (ℕ × Bor Value)) (x : Option (ℕ × Data)) → o ≡ None → option_map seen o ≡ x → None ≡ x
is_nowhere o x h g = ap (option_map seen) (sym h) ∙ g

pub in_model : (d : Data) → shape_note d ≡ option_map site_note (first_of (option_map (site_at []) (machine_misfit false d)) (misfit_below [] d))
in_model d = ap (option_map site_note) (model_first d)

-- an instruction that is refused: its own, or its child
pub in_instruction : (all : Option (List ℕ)) (way : Way) (m e : Data) (k : ℕ) → all ≡ option_map site_note (misfit_below way m)
    → Some (k, e) ≡ listed (first_item is_no_instruction 0) (under as_array (codes "instructions") m)
    → all ≡ option_map site_note (first_of (option_map (site_at way) (instruction_misfit k e)) (misfit_in_child (into way k) (get (codes "child") e)))
in_instruction all way m e k h f = h ∙ ap (option_map site_note) (below_some way m e k f ∙ instruction_first way k e)

-- the same where its own is right
pub behind_own : (all : Option (List ℕ)) (way : Way) (m e : Data) (k : ℕ) → all ≡ option_map site_note (misfit_below way m)
    → Some (k, e) ≡ listed (first_item is_no_instruction 0) (under as_array (codes "instructions") m) → None ≡ instruction_misfit k e
    → all ≡ option_map site_note (misfit_in_child (into way k) (get (codes "child") e))
behind_own all way m e k h f g =
    note_behind all way (instruction_misfit k e) (misfit_in_child (into way k) (get (codes "child") e)) (in_instruction all way m e k h f) g

-- a child that is there
pub in_child : (all : Option (List ℕ)) (way : Way) (o : Option Data) (f : Data) → all ≡ option_map site_note (misfit_in_child way o) → Some f ≡ o
    → all ≡ option_map site_note (misfit_in_child way (Some f))
in_child all way o f h g = h ∙ ap (λ q. option_map site_note (misfit_in_child way q)) (sym g)

-- data that is refused has such a place
pub refused_noted : {T : Type 0} (view : T → WrittenModel) (s : Stop) (d : Data) → s ≡ Refused → IsReading view (Err s) (model_in d) → is_none (shape_note d) ≡ false
refused_noted view Memory d e h = cc
refused_noted view Refused d e h = noted_misfit d ∙ ap is_some h
