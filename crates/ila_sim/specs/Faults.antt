-- What is wrong with a script: its first bad line, or the first line that leaves out an input, and the note that leads there.
use Rattle.std.specs.Prelude.{ℕ, suc, Bool, true, false, cond, not, ◌&&◌, ◌||◌, List, [], ◌∷◌, ◌++◌, Option, Some, None, option_map, codes, decimal}
use Rattle.std.specs.List.{list_any}
use Rattle.std.specs.Str.{is_utf8}
use Rattle.wb_values.specs.Value.{Name, same_name}
use Rattle.wb_values.specs.Choice.{first_of, some_if}
use Rattle.scripts.specs.Script.{Settable, Settables, Set, set_in, is_same_word, sets_name, Line, state_line, input_line, line_in, is_skipped, is_return, words_of, lines_of}
use Rattle.model_places.specs.Notes.{note_of}
use Rattle.ila_sim.specs.declared.refusal.ScriptKind.{ScriptKind}
use Rattle.ila_sim.specs.declared.refusal.ScriptKind.TheVariants.{BadLine, MissingInput}

-- What is wrong with a line: the word that is to blame, where one word is, and what is said of it.
pub record Fault : Type 0 where
  pub word : List ℕ
  pub says : List ℕ

abbrev pub fault : (word says : List ℕ) → Fault
fault w s = record { word = w; says = s }

-- ---- bad lines

-- a word sets nothing, or it sets again what words before it set
abbrev pub word_fault : (before : List Set) → (word : List ℕ) → Option Set → Option Fault
word_fault before w None = Some (fault w [])
word_fault before w (Some s) = some_if (list_any (is_same_word s) before) (fault w (codes " again"))

abbrev pub with_setting : Option Set → List Set → List Set
with_setting None ss = ss
with_setting (Some s) ss = s ∷ ss

-- the first of these words that is at fault, where the words before them set these
abbrev pub words_fault : List Settable → (before : List Set) → List (List ℕ) → Option Fault
words_fault names before [] = None
words_fault names before (w ∷ ws) =
    first_of (word_fault before w (set_in names w)) (words_fault names (with_setting (set_in names w) before) ws)

-- What is wrong with the words of a line. A state line stands first.
abbrev pub line_words_fault : Settables → (is_first : Bool) → List (List ℕ) → Option Fault
line_words_fault names is_first [] = Some (fault [] (codes "blanks alone"))
line_words_fault names is_first (w ∷ ws) =
    cond (same_name w (codes "state")) (cond is_first (words_fault names.states [] ws) (Some (fault w (codes " is not first"))))
    (cond (same_name w (codes "in")) (words_fault names.inputs [] ws) (Some (fault w [])))

abbrev pub line_fault : Settables → (is_first : Bool) → List ℕ → Option Fault
line_fault names is_first line =
    cond (is_utf8 line)
    (cond (is_skipped line) None
    (cond (list_any is_return line) (Some (fault [] (codes "a carriage return within the line")))
    (line_words_fault names is_first (words_of line))))
    (Some (fault [] (codes "not UTF-8")))

-- a line that is one of a script may stand here
abbrev pub may_stand : (is_first : Bool) → Option Line → Bool
may_stand is_first None = false
may_stand is_first (Some (state_line ss)) = is_first
may_stand is_first (Some (input_line ss)) = true

-- The line is not UTF-8, or it is not skipped, and it is none of a script or sets states though other lines stand before it.
abbrev pub is_bad_line : Settables → (is_first : Bool) → List ℕ → Bool
is_bad_line names is_first line = not (is_utf8 line) || (not (is_skipped line) && not (may_stand is_first (line_in names line)))

-- ---- lines that leave out inputs

-- the name of the first input that these leave out
abbrev pub first_left_out : List Set → List Settable → Option Name
first_left_out ss [] = None
first_left_out ss (i ∷ is) = cond (sets_name ss i) (first_left_out ss is) (Some i.called)

abbrev pub left_out_of : Settables → Option Line → Option Name
left_out_of names (Some (input_line ss)) = first_left_out ss names.inputs
left_out_of names _ = None

-- the name of the first input, as they are declared, that an input line leaves out
abbrev pub left_out : Settables → List ℕ → Option Name
left_out names line = cond (is_skipped line) None (left_out_of names (line_in names line))

-- ---- notes

-- as `line 3: cnt=8 again`
abbrev pub fault_note : (number : ℕ) → Fault → List ℕ
fault_note number f = note_of (((codes "line " ++ decimal number) ++ codes ": ") ++ f.word ++ f.says)

-- The note of the first of the lines that is bad, where these lines are numbered from there.
abbrev pub first_bad_note : Settables → (number : ℕ) → (is_first : Bool) → List (List ℕ) → Option (List ℕ)
first_bad_note names number is_first [] = None
first_bad_note names number is_first (line ∷ lines) =
    cond (is_bad_line names is_first line) (option_map (fault_note number) (line_fault names is_first line))
    (first_bad_note names (suc number) (is_first && is_skipped line) lines)

abbrev pub missing_note : (number : ℕ) → Name → List ℕ
missing_note number n = fault_note number (fault n (codes " is missing"))

-- The note of the first of the lines that leaves out an input.
abbrev pub first_missing_note : Settables → (number : ℕ) → List (List ℕ) → Option (List ℕ)
first_missing_note names number [] = None
first_missing_note names number (line ∷ lines) =
    first_of (option_map (missing_note number) (left_out names line)) (first_missing_note names (suc number) lines)

-- The note of a refusal of a script. Lines are counted from 1, those that are skipped too.
abbrev pub script_note : ScriptKind → Settables → List ℕ → Option (List ℕ)
script_note BadLine names bytes = first_bad_note names 1 true (lines_of bytes)
script_note MissingInput names bytes = first_missing_note names 1 (lines_of bytes)
