-- Traces as text, and the report of a check: what each of its lines claims.
use Rattle.std.specs.Prelude.{◌≡◌, ◌↔◌, ℕ, suc, Bool, true, false, cond, ◌&&◌, ◌||◌, ◌==◌, nat_lt, List, [], ◌∷◌, ◌++◌, length, take, Some, is_some, slice_get, IsTrue, codes, decimal, ⊤}
use Rattle.std.specs.Fmt.{digits}
use Rattle.wb_values.specs.Value.{Name, Value, number, words, numeral_of, Valuation, Entries, entry_of}
use Rattle.model_meaning.specs.Model.{Instruction, instruction_name, instructions_in}
use Rattle.verilog_trees.specs.Syntax.{input}
use Rattle.verilog_meaning.specs.Register.{word_count}
use Rattle.verilog_meaning.specs.Hierarchy.{Placed, dotted}
use Rattle.verilog_meaning.specs.Settled.{Design, at_path, IsPlacedIn, IsDeclared, is_counted, HasPort, names_of}
use Rattle.refinement.specs.Map.{Setting, design_of, map_scope}
use Rattle.refinement.specs.Run.{Run}
use Rattle.refinement.specs.Obligation.{Obligation, Holds, Falsifies, obligations, IsWholeCommand}
use Rattle.reports.specs.Encoding.{EncodesObligation, EncodesCover, Spent, IsSpentOn}

-- A trace: the name of an obligation, the first registers, and the inputs of each cycle.
pub record Trace : Type 0 where
  pub obligation : Name
  pub registers : Entries Value
  pub inputs : List (Entries Value)

-- text between quotation marks
abbrev pub quoted : List ℕ → List ℕ
quoted text = 34 ∷ (text ++ 34 ∷ [])

-- `0x` and lower-case hexadecimal digits without leading zeros
abbrev pub hexadecimal : ℕ → List ℕ
hexadecimal x = codes "0x" ++ digits 16 false x

-- The texts with commas between them.
abbrev pub with_commas : List (List ℕ) → List ℕ
with_commas [] = []
with_commas (text ∷ []) = text
with_commas (text ∷ next ∷ texts) = text ++ 44 ∷ with_commas (next ∷ texts)

abbrev pub in_brackets : List (List ℕ) → List ℕ
in_brackets texts = 91 ∷ (with_commas texts ++ 93 ∷ [])

abbrev pub in_braces : List (List ℕ) → List ℕ
in_braces texts = 123 ∷ (with_commas texts ++ 125 ∷ [])

abbrev pub number_texts : List ℕ → List (List ℕ)
number_texts [] = []
number_texts (x ∷ xs) = quoted (hexadecimal x) ∷ number_texts xs

-- a number as a text, the words of a memory as a list of texts
abbrev pub value_text : Value → List ℕ
value_text (words xs) = in_brackets (number_texts xs)
value_text x = quoted (hexadecimal (numeral_of x))

-- a key with what stands after it
abbrev pub member_text : Name → List ℕ → List ℕ
member_text n text = quoted n ++ 58 ∷ text

abbrev pub member_texts : Entries Value → List (List ℕ)
member_texts [] = []
member_texts (e ∷ es) = member_text e.0 (value_text e.1) ∷ member_texts es

abbrev pub object_text : Entries Value → List ℕ
object_text es = in_braces (member_texts es)

abbrev pub object_texts : List (Entries Value) → List (List ℕ)
object_texts [] = []
object_texts (es ∷ rest) = object_text es ∷ object_texts rest

-- The trace as compact JSON, its keys in the order of their bytes.
abbrev pub trace_text : Trace → List ℕ
trace_text t =
    in_braces
    (member_text (codes "inputs") (in_brackets (object_texts t.inputs))
    ∷ member_text (codes "obligation") (quoted t.obligation)
    ∷ member_text (codes "registers") (object_text t.registers)
    ∷ [])

-- The name stands before the other in the order of bytes.
abbrev pub is_before : Name → Name → Bool
is_before [] [] = false
is_before [] (y ∷ ys) = true
is_before (x ∷ xs) [] = false
is_before (x ∷ xs) (y ∷ ys) = nat_lt x y || ((x == y) && is_before xs ys)

abbrev pub is_in_order : List Name → Bool
is_in_order [] = true
is_in_order (n ∷ []) = true
is_in_order (m ∷ n ∷ ns) = is_before m n && is_in_order (n ∷ ns)

-- A path names a register: a net, variable or memory of which a clocked block may assign a bit.
pub record IsTraceRegister (d : Design) (n : Name) : Type 0 where
  pub place : Placed
  pub own : Name
  pub word : ℕ
  pub bit : ℕ
  pub is_place : IsPlacedIn d place
  pub is_declared : IsDeclared place own
  pub counted : IsTrue (is_counted place own word bit)
  pub is_name : n ≡ dotted place.path own

-- an input of the top other than the clock
pub record IsInput (d : Design) (n : Name) : Type 0 where
  pub place : Placed
  pub is_place : at_path d [] ≡ Some place
  pub is_port : HasPort place.of_module n input
  pub other : ¬ (n ≡ d.clock)

-- An entry's value stands for that of a valuation: the same number, or the words of a memory without those past its last.
abbrev pub StandsFor : ℕ → Value → Value → Type 0
StandsFor n (number x) (number y) = x ≡ y
StandsFor n (words xs) (words ys) = xs ≡ take n ys
StandsFor n _ _ = ⊥

-- The entries are those of the valuation: the names wanted and no others, in the order of their bytes, with its values.
pub record AreEntriesOf (s : Setting) (IsWanted : Name → Type 0) (es : Entries Value) (v : Valuation) : Type 0 where
  pub in_order : IsTrue (is_in_order (names_of es))
  pub wanted : (n : Name) → IsTrue (is_some (entry_of es n)) ↔ IsWanted n
  pub values : (n : Name) (x : Value) → entry_of es n ≡ Some x → StandsFor (word_count (map_scope s n)) x (v n)

-- The trace tells the first registers and the inputs of a run, as far as an obligation speaks of it.
pub record IsTraceOf (s : Setting) (o : Obligation) (run : Run) (t : Trace) : Type 0 where
  pub named : t.obligation ≡ o.called
  pub registers : AreEntriesOf s (IsTraceRegister (design_of s)) t.registers (run.registers 0)
  pub cycles : length t.inputs ≡ o.cycles
  pub inputs : (k : ℕ) (es : Entries Value) → slice_get t.inputs k ≡ Some es → AreEntriesOf s (IsInput (design_of s)) es (run.inputs k)

-- what is said of an obligation, and of an instruction's cover
pub data Verdict : Type 0 where
  proved : Verdict
  failed : Trace → Verdict
  unknown : Spent → Verdict

pub data Cover : Type 0 where
  covered not_covered : Cover
  unknown_cover : Spent → Cover

-- `proved` where the obligation holds; `failed` with a trace of values that falsify it; `unknown` where a log over a formula that
-- encodes it is spent on the budget
abbrev pub IsVerdict : Setting → (budget : ℕ) → Obligation → Verdict → Type 0
IsVerdict s budget o proved = Holds s o
IsVerdict s budget o (failed t) = (run : Run) × Falsifies s run o × IsTraceOf s o run t
IsVerdict s budget o (unknown x) = EncodesObligation s o x.formula x.bits × IsSpentOn budget x

-- `yes` where a whole command of the instruction exists, `no` where none does; `unknown` as above
abbrev pub IsCover : Setting → (budget : ℕ) → ℕ → Instruction → Cover → Type 0
IsCover s budget j i covered = (run : Run) × IsWholeCommand s j run
IsCover s budget j i not_covered = (run : Run) → ¬ IsWholeCommand s j run
IsCover s budget j i (unknown_cover x) = EncodesCover s j i x.formula x.bits × IsSpentOn budget x

abbrev pub AreVerdicts : Setting → (budget : ℕ) → List Obligation → List Verdict → Type 0
AreVerdicts s budget [] [] = ⊤
AreVerdicts s budget (o ∷ os) (v ∷ vs) = IsVerdict s budget o v × AreVerdicts s budget os vs
AreVerdicts s budget [] (v ∷ vs) = ⊥
AreVerdicts s budget (o ∷ os) [] = ⊥

-- of the instructions from number j on
abbrev pub AreCovers : Setting → (budget : ℕ) → ℕ → List Instruction → List Cover → Type 0
AreCovers s budget j [] [] = ⊤
AreCovers s budget j (i ∷ is) (c ∷ cs) = IsCover s budget j i c × AreCovers s budget (suc j) is cs
AreCovers s budget j [] (c ∷ cs) = ⊥
AreCovers s budget j (i ∷ is) [] = ⊥

abbrev pub unknown_text : (budget : ℕ) → List ℕ
unknown_text budget = codes " unknown " ++ decimal budget

abbrev pub verdict_text : (budget : ℕ) → Verdict → List ℕ
verdict_text budget proved = codes " proved"
verdict_text budget (failed t) = codes " failed " ++ trace_text t
verdict_text budget (unknown x) = unknown_text budget

abbrev pub cover_text : (budget : ℕ) → Cover → List ℕ
cover_text budget covered = codes " yes"
cover_text budget not_covered = codes " no"
cover_text budget (unknown_cover x) = unknown_text budget

-- a line for each obligation, in order
abbrev pub verdict_lines : (budget : ℕ) → List Obligation → List Verdict → List ℕ
verdict_lines budget (o ∷ os) (v ∷ vs) = o.called ++ verdict_text budget v ++ 10 ∷ verdict_lines budget os vs
verdict_lines budget _ _ = []

-- a line for each instruction of the model, in order
abbrev pub cover_lines : (budget : ℕ) → List Instruction → List Cover → List ℕ
cover_lines budget (i ∷ is) (c ∷ cs) =
    codes "cover." ++ instruction_name i ++ cover_text budget c ++ 10 ∷ cover_lines budget is cs
cover_lines budget _ _ = []

abbrev pub count_proved : List Verdict → ℕ
count_proved [] = 0
count_proved (proved ∷ vs) = suc (count_proved vs)
count_proved (_ ∷ vs) = count_proved vs

abbrev pub count_failed : List Verdict → ℕ
count_failed [] = 0
count_failed (failed t ∷ vs) = suc (count_failed vs)
count_failed (_ ∷ vs) = count_failed vs

abbrev pub count_unknown : List Verdict → ℕ
count_unknown [] = 0
count_unknown (unknown x ∷ vs) = suc (count_unknown vs)
count_unknown (_ ∷ vs) = count_unknown vs

-- the last line: how many obligations are proved, failed and unknown
abbrev pub total_line : List Verdict → List ℕ
total_line vs =
    codes "total proved " ++ decimal (count_proved vs) ++ codes " failed " ++ decimal (count_failed vs)
    ++ codes " unknown " ++ decimal (count_unknown vs) ++ 10 ∷ []

abbrev pub report_text : (budget : ℕ) → List Obligation → List Verdict → List Instruction → List Cover → List ℕ
report_text budget os vs is cs = verdict_lines budget os vs ++ cover_lines budget is cs ++ total_line vs

-- how a check ends: with a failed line, else with an unknown obligation, else with all proved; covers do not count
pub data Ending : Type 0 where
  all_proved some_unknown some_failed : Ending

abbrev pub ending_of : List Verdict → Ending
ending_of vs = cond (nat_lt 0 (count_failed vs)) some_failed (cond (nat_lt 0 (count_unknown vs)) some_unknown all_proved)

-- what shows that budgets were spent: an entry for each unknown line, in order
abbrev pub spent_in : List Verdict → List Spent
spent_in [] = []
spent_in (unknown x ∷ vs) = x ∷ spent_in vs
spent_in (_ ∷ vs) = spent_in vs

abbrev pub spent_in_covers : List Cover → List Spent
spent_in_covers [] = []
spent_in_covers (unknown_cover x ∷ cs) = x ∷ spent_in_covers cs
spent_in_covers (_ ∷ cs) = spent_in_covers cs

-- The text is a report of the check with a budget: a line for each obligation in order, then one for each cover, then the total,
-- each true by its meaning. Beside it stand how the check ends, and what shows that the budget was spent where a line is unknown.
pub record IsReport (s : Setting) (budget : ℕ) (text : List ℕ) (ending : Ending) (spent : List Spent) : Type 0 where
  pub verdicts : List Verdict
  pub covers : List Cover
  pub are_verdicts : AreVerdicts s budget (obligations s.model s.map) verdicts
  pub are_covers : AreCovers s budget 0 (instructions_in s.model.top) covers
  pub is_text : text ≡ report_text budget (obligations s.model s.map) verdicts (instructions_in s.model.top) covers
  pub is_ending : ending ≡ ending_of verdicts
  pub are_spent : spent ≡ spent_in verdicts ++ spent_in_covers covers
