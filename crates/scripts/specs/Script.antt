-- Scripts: the text that gives the first state and the inputs of a run.
use Rattle.std.specs.Prelude.{ℕ, ◌+◌, ◌*◌, ◌-◌, ◌^◌, Bool, true, false, cond, not, ◌&&◌, ◌||◌, ◌==◌, nat_le, nat_lt, List, [], ◌∷◌, map, replicate, slice_set, Option, Some, None, option_map, codes}
use Rattle.std.specs.List.{list_all, list_any}
use Rattle.std.specs.Str.{is_utf8}
use Rattle.wb_values.specs.Value.{Name, same_name, Sort, truth, word, memory, Value, truth_value, number, words, Valuation, with_value}
use Rattle.wb_values.specs.Choice.{some_if}
use Rattle.model_meaning.specs.Model.{StateDeclaration, InputDeclaration, Model, states_of, state_named}

-- ---- what a script may set

-- A name that a script may set: of a memory the least address and the number of words, and which values fit each word. What is
-- no memory has the word 0 alone.
pub record Settable : Type 0 where
  pub called : Name
  pub addresses : Option (ℕ × ℕ)
  pub fits : (word value : ℕ) → Bool

-- what a state line and what an input line may set
pub record Settables : Type 0 where
  pub states : List Settable
  pub inputs : List Settable

abbrev pub settable : Name → Sort → Settable
settable n truth = record { called = n; addresses = None; fits = λ k x. nat_lt x 2 }
settable n (word w) = record { called = n; addresses = None; fits = λ k x. nat_lt x (2 ^ w) }
settable n (memory a d) = record { called = n; addresses = Some (0, 2 ^ a); fits = λ k x. nat_lt x (2 ^ d) }

-- the states and the inputs of a model; private states of children are not set
abbrev pub settables_of : Model → Settables
settables_of m = record {
  states = map (λ s. settable s.state_name s.sort) (states_of m.top);
  inputs = map (λ i. settable i.input_name i.sort) m.inputs;
}

-- ---- lines and words

abbrev pub with_byte : ℕ → List (List ℕ) → List (List ℕ)
with_byte b [] = (b ∷ []) ∷ []
with_byte b (piece ∷ pieces) = (b ∷ piece) ∷ pieces

-- The pieces of a text between the bytes of a kind, empty ones too.
abbrev pub pieces_at : (ℕ → Bool) → List ℕ → List (List ℕ)
pieces_at p [] = [] ∷ []
pieces_at p (b ∷ bs) = cond (p b) ([] ∷ pieces_at p bs) (with_byte b (pieces_at p bs))

abbrev pub is_line_end : ℕ → Bool
is_line_end b = b == 10

abbrev pub is_return : ℕ → Bool
is_return b = b == 13

-- a space or a tab
abbrev pub is_space_or_tab : ℕ → Bool
is_space_or_tab b = b == 32 || b == 9

-- the text without each carriage return that stands directly before a line feed
abbrev pub without_returns : List ℕ → List ℕ
without_returns [] = []
without_returns (a ∷ []) = a ∷ []
without_returns (a ∷ b ∷ rest) = cond (is_return a && is_line_end b) (without_returns (b ∷ rest)) (a ∷ without_returns (b ∷ rest))

abbrev pub lines_of : List ℕ → List (List ℕ)
lines_of text = pieces_at is_line_end (without_returns text)

abbrev pub without_empty : List (List ℕ) → List (List ℕ)
without_empty [] = []
without_empty ([] ∷ pieces) = without_empty pieces
without_empty ((b ∷ bs) ∷ pieces) = (b ∷ bs) ∷ without_empty pieces

-- the words of a line: what stands between its blanks
abbrev pub words_of : List ℕ → List (List ℕ)
words_of line = without_empty (pieces_at is_space_or_tab line)

-- An empty line is skipped, and so is one that begins with #, whatever else stands in it: a carriage return, too.
abbrev pub is_skipped : List ℕ → Bool
is_skipped [] = true
is_skipped (b ∷ bs) = b == 35

abbrev pub without_skipped : List (List ℕ) → List (List ℕ)
without_skipped [] = []
without_skipped (line ∷ lines) = cond (is_skipped line) (without_skipped lines) (line ∷ without_skipped lines)

-- ---- numbers

abbrev pub is_script_digit : ℕ → Bool
is_script_digit b = nat_le 48 b && nat_le b 57

abbrev pub with_decimal_digits : ℕ → List ℕ → ℕ
with_decimal_digits n [] = n
with_decimal_digits n (b ∷ bs) = with_decimal_digits (n * 10 + (b - 48)) bs

-- decimal digits, the first of them no 0 where there are more
abbrev pub decimal_in : List ℕ → Option ℕ
decimal_in [] = None
decimal_in (b ∷ []) = some_if (is_script_digit b) (b - 48)
decimal_in (b ∷ c ∷ bs) = some_if (not (b == 48) && list_all is_script_digit (b ∷ c ∷ bs)) (with_decimal_digits 0 (b ∷ c ∷ bs))

-- a digit of either case
abbrev pub is_either_hexadecimal_digit : ℕ → Bool
is_either_hexadecimal_digit b = is_script_digit b || nat_le 97 b && nat_le b 102 || nat_le 65 b && nat_le b 70

abbrev pub either_digit_value : ℕ → ℕ
either_digit_value b = cond (nat_le 97 b) (b - 87) (cond (nat_le 65 b) (b - 55) (b - 48))

abbrev pub with_either_digits : ℕ → List ℕ → ℕ
with_either_digits n [] = n
with_either_digits n (b ∷ bs) = with_either_digits (n * 16 + either_digit_value b) bs

-- one or more such digits
abbrev pub hexadecimal_in : List ℕ → Option ℕ
hexadecimal_in [] = None
hexadecimal_in (b ∷ bs) = some_if (list_all is_either_hexadecimal_digit (b ∷ bs)) (with_either_digits 0 (b ∷ bs))

-- a value or an address: decimal, or hexadecimal behind 0x
abbrev pub numeral_in : List ℕ → Option ℕ
numeral_in (a ∷ b ∷ digits) = cond ((a == 48) && (b == 120)) (hexadecimal_in digits) (decimal_in (a ∷ b ∷ digits))
numeral_in text = decimal_in text

-- ---- settings

abbrev pub or_here : ℕ → ℕ → List ℕ → Option (List ℕ × List ℕ) → Option (List ℕ × List ℕ)
or_here c b bs (Some parts) = Some (b ∷ parts.0, parts.1)
or_here c b bs None = some_if (b == c) ([], bs)

-- what stands before the last byte c of a text, and what stands behind it
abbrev pub at_last : ℕ → List ℕ → Option (List ℕ × List ℕ)
at_last c [] = None
at_last c (b ∷ bs) = or_here c b bs (at_last c bs)

-- One word set to a value: of a memory by the word's number from its least address, of another name its word 0.
pub record Set : Type 0 where
  pub called : Name
  pub word : ℕ
  pub value : ℕ

abbrev pub settable_named : List Settable → Name → Option Settable
settable_named [] n = None
settable_named (s ∷ ss) n = cond (same_name s.called n) (Some s) (settable_named ss n)

-- the number of the word at an address of a memory
abbrev pub word_at_address : (ℕ × ℕ) → ℕ → Option ℕ
word_at_address (least, count) a = some_if (nat_le least a && nat_lt a (least + count)) (a - least)

-- the number of the word that is named: by an address for a memory, by none for another name
abbrev pub word_named : Option (ℕ × ℕ) → Option (Option ℕ) → Option ℕ
word_named None None = Some 0
word_named (Some addresses) (Some (Some a)) = word_at_address addresses a
word_named _ _ = None

abbrev pub fitting : Settable → Option ℕ → Option ℕ → Option Set
fitting s (Some k) (Some x) = some_if (s.fits k x) (record { called = s.called; word = k; value = x })
fitting s _ _ = None

abbrev pub set_named : Option Settable → Option (Option ℕ) → Option ℕ → Option Set
set_named (Some s) address x = fitting s (word_named s.addresses address) x
set_named None address x = None

-- the number in `number]`
abbrev pub before_bracket : Option (List ℕ × List ℕ) → Option ℕ
before_bracket (Some (digits, [])) = numeral_in digits
before_bracket _ = None

-- `name`, or `memory[address]`
abbrev pub set_of : List Settable → List ℕ → Option (List ℕ × List ℕ) → Option ℕ → Option Set
set_of ss left None x = set_named (settable_named ss left) None x
set_of ss left (Some parts) x = set_named (settable_named ss parts.0) (Some (before_bracket (at_last 93 parts.1))) x

abbrev pub set_from : List Settable → Option (List ℕ × List ℕ) → Option Set
set_from ss (Some parts) = set_of ss parts.0 (at_last 91 parts.0) (numeral_in parts.1)
set_from ss None = None

-- A word `name=value` or `memory[address]=value`: a name that may be set, an address of a memory alone and within it, and a value
-- that fits.
abbrev pub set_in : List Settable → List ℕ → Option Set
set_in ss text = set_from ss (at_last 61 text)

abbrev pub with_set : Option Set → Option (List Set) → Option (List Set)
with_set (Some s) (Some ss) = Some (s ∷ ss)
with_set _ _ = None

abbrev pub all_sets : List Settable → List (List ℕ) → Option (List Set)
all_sets ss [] = Some []
all_sets ss (w ∷ ws) = with_set (set_in ss w) (all_sets ss ws)

abbrev pub is_same_word : Set → Set → Bool
is_same_word s t = same_name s.called t.called && s.word == t.word

-- no word is set twice
abbrev pub are_distinct_sets : List Set → Bool
are_distinct_sets [] = true
are_distinct_sets (s ∷ ss) = not (list_any (is_same_word s) ss) && are_distinct_sets ss

abbrev pub if_distinct : Option (List Set) → Option (List Set)
if_distinct (Some ss) = some_if (are_distinct_sets ss) ss
if_distinct None = None

abbrev pub sets_in : List Settable → List (List ℕ) → Option (List Set)
sets_in ss ws = if_distinct (all_sets ss ws)

-- ---- scripts

-- a line that is not skipped: it sets states, or inputs
pub data Line : Type 0 where
  state_line : List Set → Line
  input_line : List Set → Line

abbrev pub line_of_words : Settables → List (List ℕ) → Option Line
line_of_words names [] = None
line_of_words names (w ∷ ws) =
    cond (same_name w (codes "state")) (option_map state_line (sets_in names.states ws))
    (cond (same_name w (codes "in")) (option_map input_line (sets_in names.inputs ws)) None)

abbrev pub line_in : Settables → List ℕ → Option Line
line_in names line = cond (list_any is_return line) None (line_of_words names (words_of line))

-- A script: what is set at the beginning, and the inputs of each step.
pub record Script : Type 0 where
  pub state : List Set
  pub inputs : List (List Set)

abbrev pub with_input : Option Line → Option (List (List Set)) → Option (List (List Set))
with_input (Some (input_line ss)) (Some rest) = Some (ss ∷ rest)
with_input _ _ = None

abbrev pub inputs_in : Settables → List (List ℕ) → Option (List (List Set))
inputs_in names [] = Some []
inputs_in names (line ∷ lines) = with_input (line_in names line) (inputs_in names lines)

abbrev pub script_with : List Set → Option (List (List Set)) → Option Script
script_with state (Some inputs) = Some (record { state = state; inputs = inputs })
script_with state None = None

abbrev pub script_from : Option Line → Option (List (List Set)) → Option Script
script_from (Some (state_line ss)) rest = script_with ss rest
script_from (Some (input_line ss)) (Some rest) = Some (record { state = []; inputs = ss ∷ rest })
script_from _ _ = None

-- The script of the lines that are not skipped: a state line may stand first, and every other line is an input line.
abbrev pub script_in : Settables → List (List ℕ) → Option Script
script_in names [] = Some (record { state = []; inputs = [] })
script_in names (line ∷ lines) = script_from (line_in names line) (inputs_in names lines)

abbrev pub sets_name : List Set → Settable → Bool
sets_name ss s = list_any (λ t. same_name t.called s.called) ss

-- each input line sets every input
abbrev pub has_all_inputs : Settables → Script → Bool
has_all_inputs names script = list_all (λ ss. list_all (sets_name ss) names.inputs) script.inputs

-- What a text is. It is refused since it is not UTF-8, in a comment or elsewhere, or since some line is bad or stands in the wrong
-- place; else since an input line leaves out an input; where neither is so it is a script.
pub data ScriptReading : Type 0 where
  is_script : Script → ScriptReading
  bad_line missing_input : ScriptReading

abbrev pub reading_from : Settables → Option Script → ScriptReading
reading_from names None = bad_line
reading_from names (Some script) = cond (has_all_inputs names script) (is_script script) missing_input

abbrev pub script_reading : Settables → List ℕ → ScriptReading
script_reading names bytes = cond (is_utf8 bytes) (reading_from names (script_in names (without_skipped (lines_of bytes)))) bad_line

-- ---- what a script means for a model

-- false, 0, or a memory whose words are 0
abbrev pub zero_value : Sort → Value
zero_value truth = truth_value false
zero_value (word w) = number 0
zero_value (memory a d) = words (replicate (2 ^ a) 0)

-- a value with one word set; of a truth value 1 is true
abbrev pub with_word : Value → ℕ → ℕ → Value
with_word (truth_value b) k x = truth_value (nat_lt 0 x)
with_word (number n) k x = number x
with_word (words xs) k x = words (slice_set xs k x)

abbrev pub with_sets : Valuation → List Set → Valuation
with_sets v [] = v
with_sets v (s ∷ ss) = with_sets (with_value v s.called (with_word (v s.called) s.word s.value)) ss

abbrev pub initial_or_zero : Sort → Option Value → Value
initial_or_zero s (Some x) = x
initial_or_zero s None = zero_value s

abbrev pub first_value : Option StateDeclaration → Value
first_value (Some s) = initial_or_zero s.sort s.init
first_value None = number 0

-- each state with its initial value, and where none is stated with the zero of its sort
abbrev pub initial_state : Model → Valuation
initial_state m n = first_value (state_named (states_of m.top) n)

abbrev pub zero_input : List InputDeclaration → Name → Value
zero_input [] n = number 0
zero_input (i ∷ is) n = cond (same_name i.input_name n) (zero_value i.sort) (zero_input is n)

-- the state in which a script begins
abbrev pub first_state : Model → Script → Valuation
first_state m script = with_sets (initial_state m) script.state

-- the inputs that an input line gives
abbrev pub inputs_of : Model → List Set → Valuation
inputs_of m ss = with_sets (zero_input m.inputs) ss
