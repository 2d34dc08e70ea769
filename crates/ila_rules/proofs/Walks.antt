-- The steps of the way through the machines, over plain lists and values.
use Rattle.std.proofs.Common.{◌≡◌, ℕ, ◌≤◌, List, [], ◌∷◌, ◌++◌, length, drop, map, Option, Some, None, Box, sym, refl, ap, ◌∙◌, subst, codes}
use Rattle.std.specs.Global.{Global}
use Rattle.std.proofs.lemmas.List.{drop_all}
use Rattle.wb_values.specs.Value.{Entries}
use Rattle.model_meaning.specs.Model.{StateDeclaration}
use Rattle.model_files.specs.Written as pure
use Rattle.ila_file.specs.View.{input_view, state_view, definition_view, update_view, fetch_view, term_view, machine_view, instruction_view, child_view, held_child_view, instructions_view}
use Rattle.ila_file.specs.declared.written.WrittenState.{WrittenState}
use Rattle.ila_file.specs.declared.written.WrittenInput.{WrittenInput}
use Rattle.ila_file.specs.declared.written.WrittenUpdate.{WrittenUpdate}
use Rattle.ila_file.specs.declared.written.Definition.{Definition}
use Rattle.ila_file.specs.declared.written.WrittenChild.{WrittenChild}
use Rattle.ila_file.specs.declared.written.WrittenInstruction.{WrittenInstruction, out-WrittenInstruction}
use Rattle.ila_file.specs.declared.written.WrittenMachine.{WrittenMachine, out-WrittenMachine}
use Rattle.model_places.specs.Sites.{Spot, key_spot}
use Rattle.ila_rules.specs.Seen.{LookUp, States, condition}
use Rattle.ila_rules.specs.Flaws.{Flaws, no_flaws, input_flaws, look_inputs, with_term, state_flaws, definition_flaws, fetch_flaws, head_flaws, own_flaws, look_states, look_within, look_fetch, states_within, machine_flaws, instructions_flaws, instruction_flaws, child_flaws}
use Rattle.ila_rules.specs.View.{look_frame, look_frames, look_of, no_names, states_frame, states_frames, states_of}
use Rattle.ila_rules.specs.declared.scope.Frame.{Frame}
use Rattle.ila_rules.proofs.Parts.{instruction_is, machine_is}
use Rattle.ila_rules.proofs.Frames.{look_behind, states_behind, look_only, states_only}

-- ---- a machine's names and its head

pub inner_look : (old outer new : List Frame) (f : Frame) (ss : List StateDeclaration) (ds : Entries pure.WrittenTerm)
    → outer ≡ old → new ≡ old ++ f ∷ [] → look_of outer f ≡ look_within (look_frames outer) ss ds
    → look_frames new ≡ look_within (look_frames old) ss ds
inner_look old outer new f ss ds same pushed look =
    ap (λ (fs : List Frame). look_frames fs) pushed
    ∙ (look_behind old f ∙ subst (λ (fs : List Frame). look_of fs f ≡ look_within (look_frames fs) ss ds) same look)

pub inner_states : (old outer new : List Frame) (f : Frame) (ss : List StateDeclaration)
    → outer ≡ old → new ≡ old ++ f ∷ [] → states_of outer f ≡ states_within (states_frames outer) ss
    → states_frames new ≡ states_within (states_frames old) ss
inner_states old outer new f ss same pushed states =
    ap (λ (fs : List Frame). states_frames fs) pushed
    ∙ (states_behind old f ∙ subst (λ (fs : List Frame). states_of fs f ≡ states_within (states_frames fs) ss) same states)

pub last_look : (new lent : List Frame) (last : Frame) (f : Option pure.WrittenTerm) (inner : LookUp)
    → lent ≡ new → look_frames new ≡ inner → look_of lent last ≡ look_fetch (look_frames lent) f → look_of new last ≡ look_fetch inner f
last_look new lent last f inner same is look =
    subst (λ (fs : List Frame). look_of fs last ≡ look_fetch (look_frames fs) f) same look ∙ ap (λ (l : LookUp). look_fetch l f) is

pub head_all : (old outer new lent shown : List Frame) (last : Frame) (spot : Spot) (ss : List StateDeclaration) (ds : Entries pure.WrittenTerm)
    (f : Option pure.WrittenTerm) (v : pure.WrittenTerm) (f0 f1 f2 f3 : Flaws)
    → outer ≡ old → lent ≡ new → shown ≡ new → spot ≡ key_spot (codes "valid") → look_frames new ≡ look_within (look_frames old) ss ds → look_of new last ≡ look_fetch (look_within (look_frames old) ss ds) f
    → f1 ≡ definition_flaws (look_states (look_frames outer) ss) 0 ds (state_flaws 0 ss f0)
    → f2 ≡ fetch_flaws (look_frames lent) f f1
    → f3 ≡ with_term (look_of shown last) condition spot v f2
    → f3 ≡ head_flaws (look_frames old) ss ds f v f0
head_all old outer new lent shown last spot ss ds f v f0 f1 f2 f3 same_old same_lent same_shown at inner look first second third =
    let one : f1 ≡ definition_flaws (look_states (look_frames old) ss) 0 ds (state_flaws 0 ss f0) =
    first ∙ ap (λ (fs : List Frame). definition_flaws (look_states (look_frames fs) ss) 0 ds (state_flaws 0 ss f0)) same_old in
    let two : f2 ≡ fetch_flaws (look_within (look_frames old) ss ds) f f1 =
    second ∙ (ap (λ (fs : List Frame). fetch_flaws (look_frames fs) f f1) same_lent ∙ ap (λ (l : LookUp). fetch_flaws l f f1) inner) in
    third
    ∙ (ap (λ (s : Spot). with_term (look_of shown last) condition s v f2) at
    ∙ (ap (λ (fs : List Frame). with_term (look_of fs last) condition (key_spot (codes "valid")) v f2) same_shown
    ∙ (ap (λ (l : LookUp). with_term l condition (key_spot (codes "valid")) v f2) look
    ∙ ap (λ (x : Flaws). with_term (look_fetch (look_within (look_frames old) ss ds) f) condition (key_spot (codes "valid")) v x)
    (two ∙ ap (λ (x : Flaws). fetch_flaws (look_within (look_frames old) ss ds) f x) one))))

-- ---- instructions

instruction_parts : (inner look : LookUp) (states : States) (k : ℕ) (i : WrittenInstruction) (f : Flaws)
    → child_flaws inner states k (held_child_view (out-WrittenInstruction i).child)
    (own_flaws look states k (out-WrittenInstruction i).name.now (term_view (out-WrittenInstruction i).decode) (map update_view (out-WrittenInstruction i).updates.items) f)
    ≡ instruction_flaws inner look states k (instruction_view i) f
instruction_parts inner look states k i f = sym (ap (λ w. instruction_flaws inner look states k w f) (instruction_is i (out-WrittenInstruction i).child refl))

pub with_child : (old lent : List Frame) (last : Frame) (k : ℕ) (i : WrittenInstruction) (us : List WrittenUpdate) (b : Box WrittenChild Global) (x : WrittenChild) (f0 f1 f2 : Flaws)
    → us ≡ (out-WrittenInstruction i).updates.items → lent ≡ old → (out-WrittenInstruction i).child ≡ Some b → x ≡ b.value
    → f1 ≡ own_flaws (look_of lent last) (states_frames lent) k (out-WrittenInstruction i).name.now (term_view (out-WrittenInstruction i).decode) (map update_view us) f0
    → f2 ≡ child_flaws (look_frames old) (states_frames old) k (child_view x) f1
    → f2 ≡ instruction_flaws (look_frames old) (look_of old last) (states_frames old) k (instruction_view i) f0
with_child old lent last k i us b x f0 f1 f2 same_us same is value own below =
    below
    ∙ (ap (λ (y : WrittenChild). child_flaws (look_frames old) (states_frames old) k (child_view y) f1) value
    ∙ (sym (ap (λ c. child_flaws (look_frames old) (states_frames old) k (held_child_view c) f1) is)
    ∙ (ap (λ (y : Flaws). child_flaws (look_frames old) (states_frames old) k (held_child_view (out-WrittenInstruction i).child) y)
    (own
    ∙ (ap (λ (fs : List Frame). own_flaws (look_of fs last) (states_frames fs) k (out-WrittenInstruction i).name.now (term_view (out-WrittenInstruction i).decode) (map update_view us) f0) same
    ∙ ap (λ (xs : List WrittenUpdate). own_flaws (look_of old last) (states_frames old) k (out-WrittenInstruction i).name.now (term_view (out-WrittenInstruction i).decode) (map update_view xs) f0) same_us))
    ∙ instruction_parts (look_frames old) (look_of old last) (states_frames old) k i f0)))

pub without_child : (old lent : List Frame) (last : Frame) (k : ℕ) (i : WrittenInstruction) (us : List WrittenUpdate) (f0 f1 : Flaws)
    → us ≡ (out-WrittenInstruction i).updates.items → lent ≡ old → (out-WrittenInstruction i).child ≡ None
    → f1 ≡ own_flaws (look_of lent last) (states_frames lent) k (out-WrittenInstruction i).name.now (term_view (out-WrittenInstruction i).decode) (map update_view us) f0
    → f1 ≡ instruction_flaws (look_frames old) (look_of old last) (states_frames old) k (instruction_view i) f0
without_child old lent last k i us f0 f1 same_us same is own =
    sym (ap (λ c. child_flaws (look_frames old) (states_frames old) k (held_child_view c) f1) is)
    ∙ (ap (λ (y : Flaws). child_flaws (look_frames old) (states_frames old) k (held_child_view (out-WrittenInstruction i).child) y)
    (own
    ∙ (ap (λ (fs : List Frame). own_flaws (look_of fs last) (states_frames fs) k (out-WrittenInstruction i).name.now (term_view (out-WrittenInstruction i).decode) (map update_view us) f0) same
    ∙ ap (λ (xs : List WrittenUpdate). own_flaws (look_of old last) (states_frames old) k (out-WrittenInstruction i).name.now (term_view (out-WrittenInstruction i).decode) (map update_view xs) f0) same_us))
    ∙ instruction_parts (look_frames old) (look_of old last) (states_frames old) k i f0)

-- ---- machines

machine_parts : (look : LookUp) (states : States) (m : WrittenMachine) (f : Flaws)
    → instructions_flaws
    (look_within look (map state_view (out-WrittenMachine m).states.items) (map definition_view (out-WrittenMachine m).definitions.items))
    (look_fetch (look_within look (map state_view (out-WrittenMachine m).states.items) (map definition_view (out-WrittenMachine m).definitions.items)) (fetch_view (out-WrittenMachine m).fetch))
    (states_within states (map state_view (out-WrittenMachine m).states.items))
    0 (instructions_view (out-WrittenMachine m).instructions.items)
    (head_flaws look (map state_view (out-WrittenMachine m).states.items) (map definition_view (out-WrittenMachine m).definitions.items)
    (fetch_view (out-WrittenMachine m).fetch) (term_view (out-WrittenMachine m).valid) f)
    ≡ machine_flaws look states (machine_view m) f
machine_parts look states m f = sym (ap (λ w. machine_flaws look states w f) (machine_is m))

pub machine_all : (old new : List Frame) (last : Frame) (m : WrittenMachine) (ss : List WrittenState) (ds : List Definition) (is : List WrittenInstruction) (k : ℕ) (f0 f1 f2 : Flaws)
    → ss ≡ (out-WrittenMachine m).states.items → ds ≡ (out-WrittenMachine m).definitions.items → is ≡ (out-WrittenMachine m).instructions.items
    → f1 ≡ head_flaws (look_frames old) (map state_view ss) (map definition_view ds) (fetch_view (out-WrittenMachine m).fetch) (term_view (out-WrittenMachine m).valid) f0
    → look_frames new ≡ look_within (look_frames old) (map state_view ss) (map definition_view ds)
    → look_of new last ≡ look_fetch (look_within (look_frames old) (map state_view ss) (map definition_view ds)) (fetch_view (out-WrittenMachine m).fetch)
    → states_frames new ≡ states_within (states_frames old) (map state_view ss)
    → length is ≤ k
    → instructions_flaws (look_frames new) (look_of new last) (states_frames new) k (instructions_view (drop k is)) f2
    ≡ instructions_flaws (look_frames new) (look_of new last) (states_frames new) 0 (instructions_view is) f1
    → f2 ≡ machine_flaws (look_frames old) (states_frames old) (machine_view m) f0
machine_all old new last m ss ds is k f0 f1 f2 same_ss same_ds same_is head inner look states past turns =
    sym (ap (λ (xs : List WrittenInstruction). instructions_flaws (look_frames new) (look_of new last) (states_frames new) k (instructions_view xs) f2) (drop_all k is past))
    ∙ (turns
    ∙ (rw (inner, look, states, head, same_ss, same_ds, same_is) (machine_parts (look_frames old) (states_frames old) m f0)))

-- ---- the whole file

pub whole : (lent inputs : List WrittenInput) (start frames : List Frame) (f : Frame) (w : pure.WrittenMachine) (f0 f1 f2 : Flaws)
    → lent ≡ inputs → start ≡ [] → frames ≡ start ++ f ∷ [] → f0 ≡ no_flaws → f1 ≡ input_flaws 0 (map input_view lent) f0
    → look_frame f ≡ look_inputs no_names (map input_view lent) → states_frame f ≡ (λ n. None)
    → f2 ≡ machine_flaws (look_frames frames) (states_frames frames) w f1
    → f2 ≡ machine_flaws (look_inputs no_names (map input_view inputs)) (λ n. None) w (input_flaws 0 (map input_view inputs) no_flaws)
whole lent inputs start frames f w f0 f1 f2 same empty pushed none first look states last =
    let one : frames ≡ f ∷ [] = pushed ∙ ap (λ (fs : List Frame). fs ++ f ∷ []) empty in
    let looks : look_frames frames ≡ look_inputs no_names (map input_view inputs) =
    ap (λ (fs : List Frame). look_frames fs) one ∙ (look_only f ∙ (look ∙ ap (λ (xs : List WrittenInput). look_inputs no_names (map input_view xs)) same)) in
    let none_set : states_frames frames ≡ (λ n. None) = ap (λ (fs : List Frame). states_frames fs) one ∙ (states_only f ∙ states) in
    let started : f1 ≡ input_flaws 0 (map input_view inputs) no_flaws =
    first ∙ (ap (λ (x : Flaws). input_flaws 0 (map input_view lent) x) none ∙ ap (λ (xs : List WrittenInput). input_flaws 0 (map input_view xs) no_flaws) same) in
    last
    ∙ (ap (λ (x : LookUp). machine_flaws x (states_frames frames) w f1) looks
    ∙ (ap (λ (x : States). machine_flaws (look_inputs no_names (map input_view inputs)) x w f1) none_set
    ∙ ap (λ (x : Flaws). machine_flaws (look_inputs no_names (map input_view inputs)) (λ n. None) w x) started))
