-- One turn of a run: the line that is done, and those that are left.
use Rattle.std.proofs.Common.{Vec, Global, ◌≡◌, ◌∙◌, ℕ, suc, ◌+◌, ◌<◌, Bool, true, List, [], ◌∷◌, ◌++◌, length, get_or, map, drop, sym, ap, ap₂, subst, arith, add-one, append_assoc}
use Rattle.std.specs.List.{list_all}
use Rattle.std.proofs.lemmas.List.{drop_more, length-map}
use Rattle.wb_values.specs.Value.{Value}
use Rattle.wb_terms.specs.declared.values.Value as code
use Rattle.wb_terms.specs.Environment.{AreOfSorts, as_value}
use Rattle.wb_terms.proofs.EnvironmentLemmas.{length-AreOfSorts}
use Rattle.v_design.specs.Parts.{Parts, registers_of, registers_after, are_bits_for}
use Rattle.ila_sim.specs.declared.names.Settable as ila
use Rattle.ila_sim.specs.declared.set.Set.{Set}
use Rattle.ila_sim.specs.Names.{settable_of}
use Rattle.v_sim.specs.Names.{names_by}
use Rattle.v_sim.specs.Texts.{line_values, cycle_line, end_by, input_lines, text_from, IsSortedRun}
use Rattle.v_sim.proofs.Lists.{right_part}
use Rattle.v_sim.proofs.Settings.{registers_named}

pub lines_next : (lines : List (Vec Set Global)) (k : ℕ) (line : Vec Set Global) → k < length lines → line ≡ get_or lines k line → drop k lines ≡ line ∷ drop (k + 1) lines
lines_next lines k line h e = drop_more lines k line h ∙ ap (λ (l : Vec Set Global). l ∷ drop (k + 1) lines) (sym e)

pub rest_right : (P : Vec Set Global → Bool) (rest lines : List (Vec Set Global)) (line : Vec Set Global) → rest ≡ line ∷ lines → list_all P rest ≡ true → list_all P lines ≡ true
rest_right P rest lines line c h = right_part (P line) (list_all P lines) (subst (λ ls. list_all P ls ≡ true) c h)

-- the text so far with a line more, and what is told from there
pub turn_told : (e : Parts) (k : ℕ) (old new is : List Value) (rest lines : List (Vec Set Global)) (line : Vec Set Global) (out more all : List ℕ)
    → rest ≡ line ∷ lines → is ≡ line_values e line.items → new ≡ registers_after e old is → more ≡ out ++ cycle_line e k old is
    → out ++ text_from e k old (input_lines rest) ≡ all → more ++ text_from e (k + 1) new (input_lines lines) ≡ all
turn_told e k old new is rest lines line out more all c i n m h =
    ap (λ j. more ++ text_from e j new (input_lines lines)) (add-one k)
    ∙ (ap₂ (λ t rs. t ++ text_from e (suc k) rs (input_lines lines)) m n
    ∙ (append_assoc out (cycle_line e k old is) (text_from e (suc k) (registers_after e old is) (input_lines lines))
    ∙ (ap (λ js. out ++ (cycle_line e k old js ++ text_from e (suc k) (registers_after e old js) (input_lines lines))) i
    ∙ (ap (λ ls. out ++ text_from e k old (input_lines ls)) (sym c) ∙ h))))

pub turn_sorted : (e : Parts) (old new is : List Value) (rest lines : List (Vec Set Global)) (line : Vec Set Global) (P : Type 0)
    → rest ≡ line ∷ lines → is ≡ line_values e line.items → new ≡ registers_after e old is → AreOfSorts (registers_of e) old
    → (IsSortedRun e old (input_lines rest) → P) → IsSortedRun e new (input_lines lines) → P
turn_sorted e old new is rest lines line P c i n s f h =
    f (subst (λ ls. IsSortedRun e old (input_lines ls)) (sym c) (s, subst (λ rs. IsSortedRun e rs (input_lines lines)) (n ∙ ap (registers_after e old) i) h))

-- as many names as registers
pub as_many : (e : Parts) (rs : List ila.Settable) (ss : List ila.Settable) (xs : List code.Value) (vs : List Value) → are_bits_for (registers_of e) e.bits ≡ true
    → map settable_of rs ≡ (names_by e).states → ss ≡ rs → map as_value xs ≡ vs → AreOfSorts (registers_of e) vs → length ss ≡ length xs
as_many e rs ss xs vs h n s x a =
    let all = (registers_named (registers_of e) e.bits h).all in
    let long = length-AreOfSorts (registers_of e) vs a in
    omega (arith, all, long, ap length n, ap length s, ap length x, length-map rs settable_of, length-map xs as_value)

-- the text at the end
pub end_told : (e : Parts) (k : ℕ) (rs : List ila.Settable) (ss : List ila.Settable) (xs : List code.Value) (vs : List Value) (left : List (Vec Set Global)) (out more all : List ℕ)
    → map settable_of rs ≡ (names_by e).states → ss ≡ rs → map as_value xs ≡ vs → left ≡ [] → more ≡ out ++ end_by (map settable_of ss) (map as_value xs)
    → out ++ text_from e k vs (input_lines left) ≡ all → more ≡ all
end_told e k rs ss xs vs left out more all n s x l m h =
    m ∙ (ap₂ (λ ts ys. out ++ end_by ts ys) (ap (map settable_of) s ∙ n) x ∙ (ap (λ ls. out ++ text_from e k vs (input_lines ls)) (sym l) ∙ h))

pub end_sorted : (e : Parts) (vs : List Value) (left : List (Vec Set Global)) (P : Type 0) → left ≡ [] → AreOfSorts (registers_of e) vs → (IsSortedRun e vs (input_lines left) → P) → P
end_sorted e vs left P l a f = f (subst (λ ls. IsSortedRun e vs (input_lines ls)) (sym l) a)
