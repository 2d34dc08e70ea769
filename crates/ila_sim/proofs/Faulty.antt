-- A line has a fault where it is bad, and only there; a script with no bad line, and none that leaves out an input, is read.
use Rattle.std.proofs.Common.{◌≡◌, ℕ, zero, suc, ◌+◌, ◌≤◌, ◌<◌, Bool, true, false, cond, not, ◌&&◌, ◌||◌, List, [], ◌∷◌, ◌++◌, take, drop, length, get_or, Option, Some, None, option_map, refl, sym, ap, ◌∙◌, subst, arith}
use Rattle.std.specs.Prelude.{is_none, ◌==◌, codes}
use Rattle.std.specs.List.{list_any, list_all}
use Rattle.std.specs.Str.{is_utf8}
use Rattle.std.proofs.lemmas.Bool.{false≢true}
use Rattle.std.proofs.lemmas.Bool.Decides.{nat_tests}
use Rattle.wb_values.specs.Value.{Name, same_name}
use Rattle.wb_values.specs.Choice.{first_of, some_if}
use Rattle.scripts.specs.Script.{Settable, Settables, Set, set_in, is_same_word, are_distinct_sets, with_set, all_sets, sets_in, if_distinct, sets_name, Line, state_line, input_line, line_in, line_of_words, Script, with_input, inputs_in, script_with, script_from, script_in, is_skipped, is_return, without_skipped, words_of, lines_of, has_all_inputs, reading_from, script_reading, is_script, bad_line, missing_input}
use Rattle.ila_sim.specs.declared.refusal.ScriptKind.TheVariants.{BadLine, MissingInput}
use Rattle.ila_sim.specs.Faults.{Fault, fault, word_fault, with_setting, words_fault, line_words_fault, line_fault, may_stand, is_bad_line, first_left_out, left_out_of, left_out, fault_note, first_bad_note, missing_note, first_missing_note, script_note}
use Rattle.ila_sim.proofs.Apart.{turned, left_part, right_part}
use Rattle.ila_sim.proofs.Encoded.{text_encoded}
use Rattle.ila_sim.proofs.UnderNames.{turned as number_turned}

-- ---- words

same_turned : (s t : Set) → is_same_word s t ≡ is_same_word t s
same_turned s t = rw (turned s.called t.called, number_turned s.word t.word) refl

-- the settings are of words that differ, and those before them are others
are_fine : (before : List Set) → Option (List Set) → Bool
are_fine before None = false
are_fine before (Some ss) = are_distinct_sets ss && list_all (λ s. not (list_any (is_same_word s) before)) ss

both : (a b c d : Bool) → (not (a || b) && (not c && d)) ≡ (not (a || c) && (not b && d))
both true b c d = refl
both false true true d = refl
both false true false d = refl
both false false true d = refl
both false false false d = refl

apart_from_all : (s : Set) (before ss : List Set)
    → list_all (λ t. not (list_any (is_same_word t) (s ∷ before))) ss ≡ (not (list_any (is_same_word s) ss) && list_all (λ t. not (list_any (is_same_word t) before)) ss)
apart_from_all s before [] = refl
apart_from_all s before (t ∷ ss) =
    ap (λ b. not (is_same_word t s || list_any (is_same_word t) before) && b) (apart_from_all s before ss)
    ∙ (both (is_same_word t s) (list_any (is_same_word t) before) (list_any (is_same_word s) ss) (list_all (λ u. not (list_any (is_same_word u) before)) ss)
    ∙ ap (λ b. not (b || list_any (is_same_word s) ss) && (not (list_any (is_same_word t) before) && list_all (λ u. not (list_any (is_same_word u) before)) ss)) (same_turned t s))

three : (a b c d : Bool) → (not c && (a && (not b && d))) ≡ ((not b && a) && (not c && d))
three true true true d = refl
three true true false d = refl
three true false true d = refl
three true false false d = refl
three false true true d = refl
three false true false d = refl
three false false true d = refl
three false false false d = refl

one_more : (before : List Set) (s : Set) (r : Option (List Set)) → (not (list_any (is_same_word s) before) && are_fine (s ∷ before) r) ≡ are_fine before (with_set (Some s) r)
unfolding are_fine
one_more before s None = closed (list_any (is_same_word s) before) where
  closed : (b : Bool) → (not b && false) ≡ false
  closed true = refl
  closed false = refl
one_more before s (Some ss) =
    ap (λ b. not (list_any (is_same_word s) before) && (are_distinct_sets ss && b)) (apart_from_all s before ss)
    ∙ three (are_distinct_sets ss) (list_any (is_same_word s) ss) (list_any (is_same_word s) before) (list_all (λ t. not (list_any (is_same_word t) before)) ss)

first_none : (b : Bool) (f : Fault) (r : Option Fault) → is_none (first_of (some_if b f) r) ≡ (not b && is_none r)
first_none true f r = refl
first_none false f r = refl

word_turn : (before : List Set) (w : List ℕ) (o : Option Set) (r : Option (List Set)) (f : Option Set → Option Fault)
    → is_none (f o) ≡ are_fine (with_setting o before) r → is_none (first_of (word_fault before w o) (f o)) ≡ are_fine before (with_set o r)
unfolding are_fine
word_turn before w None r f h = refl
word_turn before w (Some s) r f h =
    first_none (list_any (is_same_word s) before) _ (f (Some s))
    ∙ (ap (λ b. not (list_any (is_same_word s) before) && b) h ∙ one_more before s r)

words_fine : (names : List Settable) (before : List Set) (ws : List (List ℕ)) → is_none (words_fault names before ws) ≡ are_fine before (all_sets names ws)
unfolding are_fine
words_fine names before [] = refl
words_fine names before (w ∷ ws) =
    word_turn before w (set_in names w) (all_sets names ws) (λ o. words_fault names (with_setting o before) ws)
    (words_fine names (with_setting (set_in names w) before) ws)

none_before : (ss : List Set) → list_all (λ (s : Set). not (list_any (is_same_word s) [])) ss ≡ true
none_before [] = refl
none_before (s ∷ ss) = none_before ss

and_true : (b : Bool) → (b && true) ≡ b
and_true true = refl
and_true false = refl

fine_alone : (r : Option (List Set)) → are_fine [] r ≡ not (is_none (if_distinct r))
unfolding are_fine
fine_alone None = refl
fine_alone (Some ss) = rw (none_before ss) (and_true (are_distinct_sets ss) ∙ shown (are_distinct_sets ss)) where
  shown : (b : Bool) → b ≡ not (is_none (some_if b ss))
  shown true = refl
  shown false = refl

words_told : (names : List Settable) (ws : List (List ℕ)) → is_none (words_fault names [] ws) ≡ not (is_none (sets_in names ws))
words_told names ws = words_fine names [] ws ∙ fine_alone (all_sets names ws)

-- ---- lines

state_told : (is_first : Bool) (w : List ℕ) (o : Option Fault) (r : Option (List Set)) → is_none o ≡ not (is_none r)
    → is_none (cond is_first o (Some (fault w (codes " is not first")))) ≡ may_stand is_first (option_map state_line r)
state_told true w o None h = h
state_told true w o (Some ss) h = h
state_told false w o None h = refl
state_told false w o (Some ss) h = refl

input_told : (is_first : Bool) (o : Option Fault) (r : Option (List Set)) → is_none o ≡ not (is_none r) → is_none o ≡ may_stand is_first (option_map input_line r)
input_told is_first o None h = h
input_told is_first o (Some ss) h = h

line_words_told : (names : Settables) (is_first : Bool) (ws : List (List ℕ)) → is_none (line_words_fault names is_first ws) ≡ may_stand is_first (line_of_words names ws)
line_words_told names is_first [] = refl
line_words_told names is_first (w ∷ ws) = shown (same_name w (codes "state")) (same_name w (codes "in")) where
  shown : (s i : Bool)
      → is_none (cond s (cond is_first (words_fault names.states [] ws) (Some (fault w (codes " is not first")))) (cond i (words_fault names.inputs [] ws) (Some (fault w []))))
      ≡ may_stand is_first (cond s (option_map state_line (sets_in names.states ws)) (cond i (option_map input_line (sets_in names.inputs ws)) None))
  shown true i = state_told is_first w (words_fault names.states [] ws) (sets_in names.states ws) (words_told names.states ws)
  shown false true = input_told is_first (words_fault names.inputs [] ws) (sets_in names.inputs ws) (words_told names.inputs ws)
  shown false false = refl

-- a line has a fault where it is bad
pub line_told : (names : Settables) (is_first : Bool) (line : List ℕ) → is_none (line_fault names is_first line) ≡ not (is_bad_line names is_first line)
line_told names is_first line = shown (is_utf8 line) (is_skipped line) (list_any is_return line) where
  twice : (b : Bool) → b ≡ not (not b)
  twice true = refl
  twice false = refl

  shown : (u s r : Bool)
      → is_none (cond u (cond s None (cond r (Some (fault [] (codes "a carriage return within the line"))) (line_words_fault names is_first (words_of line)))) (Some (fault [] (codes "not UTF-8"))))
      ≡ not (not u || (not s && not (may_stand is_first (cond r None (line_of_words names (words_of line))))))
  shown false s r = refl
  shown true true r = refl
  shown true false true = refl
  shown true false false = line_words_told names is_first (words_of line) ∙ twice (may_stand is_first (line_of_words names (words_of line)))

-- ---- no bad line

is_fine : Settables → Bool → List (List ℕ) → Bool
is_fine names is_first [] = true
is_fine names is_first (line ∷ lines) = not (is_bad_line names is_first line) && is_fine names (is_first && is_skipped line) lines

fine_if_none : (names : Settables) (k : ℕ) (is_first : Bool) (lines : List (List ℕ)) → is_none (first_bad_note names k is_first lines) ≡ is_fine names is_first lines
unfolding is_fine
fine_if_none names k is_first [] = refl
fine_if_none names k is_first (line ∷ lines) =
    shown (is_bad_line names is_first line) (line_fault names is_first line) (line_told names is_first line) (fine_if_none names (suc k) (is_first && is_skipped line) lines)
  where
    shown : (b : Bool) (o : Option Fault) → is_none o ≡ not b
        → is_none (first_bad_note names (suc k) (is_first && is_skipped line) lines) ≡ is_fine names (is_first && is_skipped line) lines
        → is_none (cond b (option_map (fault_note k) o) (first_bad_note names (suc k) (is_first && is_skipped line) lines)) ≡ (not b && is_fine names (is_first && is_skipped line) lines)
    shown true None h f = absurd (false≢true (sym h))
    shown true (Some x) h f = refl
    shown false o h f = f

stands : (u s : Bool) (is_first : Bool) (o : Option Line) → not (not u || (not s && not (may_stand is_first o))) ≡ true → s ≡ false → may_stand is_first o ≡ true
stands false s is_first o h e = absurd (false≢true h)
stands true true is_first o h e = absurd (false≢true (sym e))
stands true false is_first o h e = shown (may_stand is_first o) h where
  shown : (b : Bool) → not (not b) ≡ true → b ≡ true
  shown true g = refl
  shown false g = g

line_stands : (names : Settables) (is_first : Bool) (line : List ℕ) → not (is_bad_line names is_first line) ≡ true → is_skipped line ≡ false → may_stand is_first (line_in names line) ≡ true
line_stands names is_first line h e = stands (is_utf8 line) (is_skipped line) is_first (line_in names line) h e

input_there : (o : Option Line) (r : Option (List (List Set))) → may_stand false o ≡ true → is_none r ≡ false → is_none (with_input o r) ≡ false
input_there None r h g = absurd (false≢true h)
input_there (Some (state_line ss)) r h g = absurd (false≢true h)
input_there (Some (input_line ss)) None h g = g
input_there (Some (input_line ss)) (Some rest) h g = refl

inputs_read : (names : Settables) (lines : List (List ℕ)) → is_fine names false lines ≡ true → is_none (inputs_in names (without_skipped lines)) ≡ false
unfolding is_fine
inputs_read names [] h = refl
inputs_read names (line ∷ lines) h =
    shown (is_skipped line) refl (inputs_read names lines (right_part (not (is_bad_line names false line)) (is_fine names false lines) h))
  where
    shown : (s : Bool) → is_skipped line ≡ s → is_none (inputs_in names (without_skipped lines)) ≡ false
        → is_none (inputs_in names (cond s (without_skipped lines) (line ∷ without_skipped lines))) ≡ false
    shown true e f = f
    shown false e f =
        input_there (line_in names line) (inputs_in names (without_skipped lines))
        (line_stands names false line (left_part (not (is_bad_line names false line)) (is_fine names false lines) h) e) f

script_there : (o : Option Line) (r : Option (List (List Set))) → may_stand true o ≡ true → is_none r ≡ false → is_none (script_from o r) ≡ false
script_there None r h g = absurd (false≢true h)
script_there (Some (state_line ss)) None h g = g
script_there (Some (state_line ss)) (Some rest) h g = refl
script_there (Some (input_line ss)) None h g = g
script_there (Some (input_line ss)) (Some rest) h g = refl

script_read : (names : Settables) (lines : List (List ℕ)) → is_fine names true lines ≡ true → is_none (script_in names (without_skipped lines)) ≡ false
unfolding is_fine
script_read names [] h = refl
script_read names (line ∷ lines) h = shown (is_skipped line) refl (right_part (not (is_bad_line names true line)) (is_fine names (is_skipped line) lines) h) (script_read names lines) where
  shown : (s : Bool) → is_skipped line ≡ s → is_fine names s lines ≡ true → (is_fine names true lines ≡ true → is_none (script_in names (without_skipped lines)) ≡ false)
      → is_none (script_in names (cond s (without_skipped lines) (line ∷ without_skipped lines))) ≡ false
  shown true e g f = f g
  shown false e g f =
      script_there (line_in names line) (inputs_in names (without_skipped lines))
      (line_stands names true line (left_part (not (is_bad_line names true line)) (is_fine names (is_skipped line) lines) h) e) (inputs_read names lines g)

line_encoded : (u b : Bool) → not (not u || b) ≡ true → u ≡ true
line_encoded true b h = refl
line_encoded false b h = h

all_encoded : (names : Settables) (is_first : Bool) (lines : List (List ℕ)) → is_fine names is_first lines ≡ true → list_all is_utf8 lines ≡ true
unfolding is_fine
all_encoded names is_first [] h = refl
all_encoded names is_first (line ∷ lines) h =
    rw (line_encoded (is_utf8 line) _ (left_part (not (is_bad_line names is_first line)) (is_fine names (is_first && is_skipped line) lines) h))
    (all_encoded names (is_first && is_skipped line) lines (right_part (not (is_bad_line names is_first line)) (is_fine names (is_first && is_skipped line) lines) h))

-- ---- no input left out

all_set : (ss : List Set) (is : List Settable) → is_none (first_left_out ss is) ≡ list_all (sets_name ss) is
all_set ss [] = refl
all_set ss (i ∷ is) = shown (sets_name ss i) (all_set ss is) where
  shown : (b : Bool) → is_none (first_left_out ss is) ≡ list_all (sets_name ss) is → is_none (cond b (first_left_out ss is) (Some i.called)) ≡ (b && list_all (sets_name ss) is)
  shown true h = h
  shown false h = refl

no_first : (n : Option Name) (k : ℕ) (r : Option (List ℕ)) → is_none (first_of (option_map (missing_note k) n) r) ≡ (is_none n && is_none r)
no_first None k r = refl
no_first (Some n) k r = refl

-- ---- notes of refusals

not_bad : (names : Settables) (u : Bool) (o : Option Script) → u ≡ true → is_none o ≡ false → cond u (reading_from names o) bad_line ≡ bad_line → ⊥
not_bad names false o e f h = false≢true e
not_bad names true None e f h = false≢true (sym f)
not_bad names true (Some s) e f h = shown (has_all_inputs names s) h where
  shown : (b : Bool) → cond b (is_script s) missing_input ≡ bad_line → ⊥
  shown true g = cc
  shown false g = cc

pub bad_reading : (names : Settables) (bytes : List ℕ) → cond (is_utf8 bytes) (script_in names (without_skipped (lines_of bytes))) None ≡ None → script_reading names bytes ≡ bad_line
bad_reading names bytes h = shown (is_utf8 bytes) (script_in names (without_skipped (lines_of bytes))) h where
  shown : (u : Bool) (o : Option Script) → cond u o None ≡ None → cond u (reading_from names o) bad_line ≡ bad_line
  shown false o e = refl
  shown true None e = refl
  shown true (Some s) e = cc

pub missing_reading : (names : Settables) (bytes : List ℕ) (s : Script) → script_reading names bytes ≡ reading_from names (Some s) → has_all_inputs names s ≡ false → script_reading names bytes ≡ missing_input
missing_reading names bytes s e h = e ∙ ap (λ b. cond b (is_script s) missing_input) h

-- a text that is refused for a bad line has one
pub bad_noted : (names : Settables) (bytes : List ℕ) → script_reading names bytes ≡ bad_line → is_none (script_note BadLine names bytes) ≡ false
bad_noted names bytes h = shown (is_none (script_note BadLine names bytes)) refl where
  shown : (b : Bool) → is_none (script_note BadLine names bytes) ≡ b → b ≡ false
  shown false e = refl
  shown true e =
      let fine : is_fine names true (lines_of bytes) ≡ true = sym (fine_if_none names 1 true (lines_of bytes)) ∙ e in
      absurd (not_bad names (is_utf8 bytes) (script_in names (without_skipped (lines_of bytes))) (text_encoded bytes (all_encoded names true (lines_of bytes) fine)) (script_read names (lines_of bytes) fine) h)

have_all : Settables → Option (List (List Set)) → Bool
have_all names None = true
have_all names (Some rest) = list_all (λ ss. list_all (sets_name ss) names.inputs) rest

has_all : Settables → Option Script → Bool
has_all names None = true
has_all names (Some s) = has_all_inputs names s

input_has : (names : Settables) (o : Option Line) (r : Option (List (List Set))) → is_none (left_out_of names o) ≡ true → have_all names r ≡ true → have_all names (with_input o r) ≡ true
unfolding have_all
input_has names None r h g = refl
input_has names (Some (state_line ss)) r h g = refl
input_has names (Some (input_line ss)) None h g = refl
input_has names (Some (input_line ss)) (Some rest) h g = rw (sym (all_set ss names.inputs) ∙ h) g

script_has : (names : Settables) (o : Option Line) (r : Option (List (List Set))) → is_none (left_out_of names o) ≡ true → have_all names r ≡ true → has_all names (script_from o r) ≡ true
unfolding have_all has_all
script_has names None r h g = refl
script_has names (Some (state_line ss)) None h g = refl
script_has names (Some (state_line ss)) (Some rest) h g = g
script_has names (Some (input_line ss)) None h g = refl
script_has names (Some (input_line ss)) (Some rest) h g = rw (sym (all_set ss names.inputs) ∙ h) g

none_left_out : (names : Settables) (k : ℕ) (line : List ℕ) (lines : List (List ℕ)) → is_none (first_missing_note names k (line ∷ lines)) ≡ true
    → (is_none (left_out names line) && is_none (first_missing_note names (suc k) lines)) ≡ true
none_left_out names k line lines h = sym (no_first (left_out names line) k (first_missing_note names (suc k) lines)) ∙ h

inputs_have : (names : Settables) (k : ℕ) (lines : List (List ℕ)) → is_none (first_missing_note names k lines) ≡ true → have_all names (inputs_in names (without_skipped lines)) ≡ true
unfolding have_all
inputs_have names k [] h = refl
inputs_have names k (line ∷ lines) h =
    let both : (is_none (left_out names line) && is_none (first_missing_note names (suc k) lines)) ≡ true = none_left_out names k line lines h in
    shown (is_skipped line) (left_part (is_none (left_out names line)) (is_none (first_missing_note names (suc k) lines)) both)
    (inputs_have names (suc k) lines (right_part (is_none (left_out names line)) (is_none (first_missing_note names (suc k) lines)) both))
  where
    shown : (s : Bool) → is_none (cond s None (left_out_of names (line_in names line))) ≡ true → have_all names (inputs_in names (without_skipped lines)) ≡ true
        → have_all names (inputs_in names (cond s (without_skipped lines) (line ∷ without_skipped lines))) ≡ true
    shown true e f = f
    shown false e f = input_has names (line_in names line) (inputs_in names (without_skipped lines)) e f

script_sets : (names : Settables) (k : ℕ) (lines : List (List ℕ)) → is_none (first_missing_note names k lines) ≡ true → has_all names (script_in names (without_skipped lines)) ≡ true
unfolding has_all
script_sets names k [] h = refl
script_sets names k (line ∷ lines) h =
    let both : (is_none (left_out names line) && is_none (first_missing_note names (suc k) lines)) ≡ true = none_left_out names k line lines h in
    let rest : is_none (first_missing_note names (suc k) lines) ≡ true = right_part (is_none (left_out names line)) (is_none (first_missing_note names (suc k) lines)) both in
    shown (is_skipped line) (left_part (is_none (left_out names line)) (is_none (first_missing_note names (suc k) lines)) both)
    (script_sets names (suc k) lines rest) (inputs_have names (suc k) lines rest)
  where
    shown : (s : Bool) → is_none (cond s None (left_out_of names (line_in names line))) ≡ true → has_all names (script_in names (without_skipped lines)) ≡ true
        → have_all names (inputs_in names (without_skipped lines)) ≡ true → has_all names (script_in names (cond s (without_skipped lines) (line ∷ without_skipped lines))) ≡ true
    shown true e f g = f
    shown false e f g = script_has names (line_in names line) (inputs_in names (without_skipped lines)) e g

not_missing : (names : Settables) (u : Bool) (o : Option Script) → has_all names o ≡ true → cond u (reading_from names o) bad_line ≡ missing_input → ⊥
unfolding has_all
not_missing names false o e h = cc
not_missing names true None e h = cc
not_missing names true (Some s) e h = shown (has_all_inputs names s) e h where
  shown : (b : Bool) → b ≡ true → cond b (is_script s) missing_input ≡ missing_input → ⊥
  shown true f g = cc
  shown false f g = false≢true f

-- a script that is refused for an input has a line that leaves one out
pub missing_noted : (names : Settables) (bytes : List ℕ) → script_reading names bytes ≡ missing_input → is_none (script_note MissingInput names bytes) ≡ false
missing_noted names bytes h = shown (is_none (script_note MissingInput names bytes)) refl where
  shown : (b : Bool) → is_none (script_note MissingInput names bytes) ≡ b → b ≡ false
  shown false e = refl
  shown true e = absurd (not_missing names (is_utf8 bytes) (script_in names (without_skipped (lines_of bytes))) (script_sets names 1 (lines_of bytes) e) h)
