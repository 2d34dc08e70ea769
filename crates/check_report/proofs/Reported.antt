-- What was found is a report, and where all obligations are proved, each run refines.
use Rattle.std.proofs.Common.{◌≡◌, ℕ, zero, suc, ◌+◌, ◌<◌, Bool, true, false, cond, nat_lt, List, [], ◌∷◌, ◌++◌, length, map, Some, slice_get, subst, refl, sym, ap, ◌∙◌, append_assoc, arith}
use Rattle.std.specs.Prelude.{codes, count_by, string_bytes, IsTrue}
use Rattle.std.specs.Global.{Vec}
use Rattle.std.proofs.lemmas.Bool.Decides.{nat_tests}
use Rattle.std.proofs.lemmas.List.{map-append, length-map}
use Rattle.std.proofs.lemmas.List.Sums.{sum_by-cons}
use Rattle.wb_values.specs.Value.{Name, Value, number}
use Rattle.model_meaning.specs.Model.{Instruction, instruction_name, instructions_in}
use Rattle.verilog_exists.specs.Exists.{IsOfText}
use Rattle.refinement.specs.Map.{Setting, Map, design_of}
use Rattle.refinement.specs.Obligation as claims
use Rattle.refinement.specs.Obligation.{obligations}
use Rattle.refinement.specs.Soundness.{AllHold, IsComplete, EveryRunRefines, ObligationsGiveRefinement}
use Rattle.reports.specs.Report as pure
use Rattle.reports.specs.Report.{Verdict, proved, failed, unknown, IsVerdict, AreVerdicts, AreCovers, verdict_text, cover_text, verdict_lines, cover_lines, count_proved, count_failed, count_unknown, spent_in, spent_in_covers, IsReport}
use Rattle.wb_terms.specs.Environment.{as_value}
use Rattle.v_design.specs.Parts.{Parts, registers_of, are_bits_for}
use Rattle.v_design.specs.Design.{IsDesignOf}
use Rattle.trace_texts.specs.Told.{numbers_of, TracesTell}
use Rattle.obligation_lists.specs.Claims.{obligation_of}
use Rattle.obligation_lists.specs.declared.claims.Obligation.{Obligation}
use Rattle.obligation_check.specs.Found.{numbers_at, IsFoundOf, AreFound, spent_by, cover_by}
use Rattle.obligation_check.specs.declared.findings.Finding.{Finding}
use Rattle.obligation_check.specs.declared.findings.Finding.TheVariants.{Holds, Breaks, Spent}
use Rattle.obligation_check.specs.declared.findings.Spent as code
use Rattle.check_report.specs.declared.totals.Ending.{Ending}
use Rattle.check_report.specs.declared.totals.Ending.TheVariants.{AllProved}
use Rattle.check_report.specs.Lines.{verdict_by, verdicts_by, verdict_said, verdict_lines_by, cover_said, cover_lines_by}
use Rattle.check_report.specs.Totals.{is_proved, is_failed, is_unknown, total_by, ending_by, ending_view}
use Rattle.check_report.specs.Spending.{spent_among}

-- ---- verdicts

length-numbers_of : (is : List (Vec ℕ)) → length (numbers_of is) ≡ length is
length-numbers_of [] = refl
length-numbers_of (ns ∷ is) = ap suc (length-numbers_of is)

numbers_there : (is : List (Vec ℕ)) (t : ℕ) (xs : List Value) → slice_get (numbers_of is) t ≡ Some xs → (t < length is) × (map number (numbers_at is t) ≡ xs)
numbers_there [] t xs e = cc
numbers_there (ns ∷ is) zero xs e = ((omega arith), let same : map number ns.items ≡ xs = cc in same)
numbers_there (ns ∷ is) (suc t) xs e = let h = numbers_there is t xs e in let low : t < length is = h.0 in ((omega (arith, low)), h.1)

verdict_of : (s : Setting) (d : Parts) (budget : ℕ) → TracesTell → IsDesignOf (design_of s) d → IsOfText (design_of s)
    → IsTrue (are_bits_for (registers_of d) d.bits)
    → (o : claims.Obligation) (x : Finding) → IsFoundOf s d budget o x → IsVerdict s budget o (verdict_by d o.called x)
verdict_of s d budget tell design text bits o Holds h = h
verdict_of s d budget tell design text bits o (Breaks x) h =
    let run = h.0 in (
      run,
      h.1,
      tell s d o run (map as_value x.registers.items) x.inputs.items design text bits h.1.is_run
          (record {
            first = h.2.first;
            cycles = h.3;
            inputs = λ t xs e.
                let there = numbers_there x.inputs.items t xs e in
                let low : t < length x.inputs.items = there.0 in
                h.2.inputs t (subst (λ n. t < n) h.3 low) ∙ there.1;
          }),
    )
verdict_of s d budget tell design text bits o (Spent x) h = h

pub verdicts_of : (s : Setting) (d : Parts) (budget : ℕ) → TracesTell → IsDesignOf (design_of s) d → IsOfText (design_of s)
    → IsTrue (are_bits_for (registers_of d) d.bits)
    → (os : List claims.Obligation) (xs : List Finding) → AreFound s d budget os xs → AreVerdicts s budget os (verdicts_by d os xs)
verdicts_of s d budget tell design text bits [] [] h = tt
verdicts_of s d budget tell design text bits [] (x ∷ xs) h = absurd h
verdicts_of s d budget tell design text bits (o ∷ os) [] h = absurd h
verdicts_of s d budget tell design text bits (o ∷ os) (x ∷ xs) h = (verdict_of s d budget tell design text bits o x h.0, verdicts_of s d budget tell design text bits os xs h.1)

-- ---- the text

verdict_same : (d : Parts) (budget : ℕ) (called : Name) (x : Finding) → verdict_said d budget called x ≡ verdict_text budget (verdict_by d called x)
verdict_same d budget called Holds = refl
verdict_same d budget called (Breaks x) = refl
verdict_same d budget called (Spent x) = refl

verdicts_same : (d : Parts) (p : Map) (budget : ℕ) (os : List Obligation) (xs : List Finding)
    → verdict_lines_by d budget os xs ≡ verdict_lines budget (map (obligation_of p) os) (verdicts_by d (map (obligation_of p) os) xs)
verdicts_same d p budget [] xs = refl
verdicts_same d p budget (o ∷ os) [] = refl
verdicts_same d p budget (o ∷ os) (x ∷ xs) =
    let n = string_bytes o.name in
    append_assoc (n ++ verdict_said d budget n x) (10 ∷ []) (verdict_lines_by d budget os xs)
    ∙ (ap (λ said. n ++ said ++ 10 ∷ verdict_lines_by d budget os xs) (verdict_same d budget n x)
    ∙ ap (λ rest. n ++ verdict_text budget (verdict_by d n x) ++ 10 ∷ rest) (verdicts_same d p budget os xs))

cover_same : (d : Parts) (budget : ℕ) (x : Finding) → cover_said budget x ≡ cover_text budget (cover_by d x)
cover_same d budget Holds = refl
cover_same d budget (Breaks x) = refl
cover_same d budget (Spent x) = refl

abbrev pub named : Instruction → Name
named i = codes "cover." ++ instruction_name i

covers_same : (d : Parts) (budget : ℕ) (is : List Instruction) (xs : List Finding)
    → cover_lines_by budget (map named is) xs ≡ cover_lines budget is (map (cover_by d) xs)
covers_same d budget [] xs = refl
covers_same d budget (i ∷ is) [] = refl
covers_same d budget (i ∷ is) (x ∷ xs) =
    append_assoc (named i ++ cover_said budget x) (10 ∷ []) (cover_lines_by budget (map named is) xs)
    ∙ (ap (λ said. named i ++ said ++ 10 ∷ cover_lines_by budget (map named is) xs) (cover_same d budget x)
    ∙ ap (λ rest. named i ++ cover_text budget (cover_by d x) ++ 10 ∷ rest) (covers_same d budget is xs))

-- ---- the counts

one_more : (P : Finding → Bool) (x : Finding) (xs : List Finding) → count_by P (x ∷ xs) ≡ cond (P x) 1 0 + count_by P xs
one_more P x xs = sum_by-cons (λ y. cond (P y) 1 0) x xs

module _ (d : Parts) where
  proved_same : (os : List claims.Obligation) (xs : List Finding) → length os ≡ length xs → count_by is_proved xs ≡ count_proved (verdicts_by d os xs)
  proved_same [] [] h = refl
  proved_same [] (x ∷ xs) h = absurd (omega (arith, h))
  proved_same (o ∷ os) [] h = absurd (omega (arith, h))
  proved_same (o ∷ os) (x ∷ xs) h = of_first x (one_more is_proved x xs) (proved_same os xs (omega (arith, h)))
    where
      of_first : (y : Finding) → count_by is_proved (y ∷ xs) ≡ cond (is_proved y) 1 0 + count_by is_proved xs
          → count_by is_proved xs ≡ count_proved (verdicts_by d os xs)
          → count_by is_proved (y ∷ xs) ≡ count_proved (verdict_by d o.called y ∷ verdicts_by d os xs)
      of_first Holds e later = omega (arith, e, later)
      of_first (Breaks v) e later = omega (arith, e, later)
      of_first (Spent v) e later = omega (arith, e, later)

  failed_same : (os : List claims.Obligation) (xs : List Finding) → length os ≡ length xs → count_by is_failed xs ≡ count_failed (verdicts_by d os xs)
  failed_same [] [] h = refl
  failed_same [] (x ∷ xs) h = absurd (omega (arith, h))
  failed_same (o ∷ os) [] h = absurd (omega (arith, h))
  failed_same (o ∷ os) (x ∷ xs) h = of_first x (one_more is_failed x xs) (failed_same os xs (omega (arith, h)))
    where
      of_first : (y : Finding) → count_by is_failed (y ∷ xs) ≡ cond (is_failed y) 1 0 + count_by is_failed xs
          → count_by is_failed xs ≡ count_failed (verdicts_by d os xs)
          → count_by is_failed (y ∷ xs) ≡ count_failed (verdict_by d o.called y ∷ verdicts_by d os xs)
      of_first Holds e later = omega (arith, e, later)
      of_first (Breaks v) e later = omega (arith, e, later)
      of_first (Spent v) e later = omega (arith, e, later)

  unknown_same : (os : List claims.Obligation) (xs : List Finding) → length os ≡ length xs → count_by is_unknown xs ≡ count_unknown (verdicts_by d os xs)
  unknown_same [] [] h = refl
  unknown_same [] (x ∷ xs) h = absurd (omega (arith, h))
  unknown_same (o ∷ os) [] h = absurd (omega (arith, h))
  unknown_same (o ∷ os) (x ∷ xs) h = of_first x (one_more is_unknown x xs) (unknown_same os xs (omega (arith, h)))
    where
      of_first : (y : Finding) → count_by is_unknown (y ∷ xs) ≡ cond (is_unknown y) 1 0 + count_by is_unknown xs
          → count_by is_unknown xs ≡ count_unknown (verdicts_by d os xs)
          → count_by is_unknown (y ∷ xs) ≡ count_unknown (verdict_by d o.called y ∷ verdicts_by d os xs)
      of_first Holds e later = omega (arith, e, later)
      of_first (Breaks v) e later = omega (arith, e, later)
      of_first (Spent v) e later = omega (arith, e, later)

  -- ---- what shows that budgets were spent

  spent_same : (os : List claims.Obligation) (xs : List Finding) → length os ≡ length xs → map (spent_by d) (spent_among xs) ≡ spent_in (verdicts_by d os xs)
  spent_same [] [] h = refl
  spent_same [] (x ∷ xs) h = absurd (omega (arith, h))
  spent_same (o ∷ os) [] h = absurd (omega (arith, h))
  spent_same (o ∷ os) (Holds ∷ xs) h = spent_same os xs (omega (arith, h))
  spent_same (o ∷ os) (Breaks v ∷ xs) h = spent_same os xs (omega (arith, h))
  spent_same (o ∷ os) (Spent v ∷ xs) h = ap (λ rest. spent_by d v ∷ rest) (spent_same os xs (omega (arith, h)))

  spent_covers_same : (xs : List Finding) → map (spent_by d) (spent_among xs) ≡ spent_in_covers (map (cover_by d) xs)
  spent_covers_same [] = refl
  spent_covers_same (Holds ∷ xs) = spent_covers_same xs
  spent_covers_same (Breaks v ∷ xs) = spent_covers_same xs
  spent_covers_same (Spent v ∷ xs) = ap (λ rest. spent_by d v ∷ rest) (spent_covers_same xs)

-- ---- how the check ends

none_above : (n : ℕ) → nat_lt 0 n ≡ false → n ≡ 0
none_above n e = grind (arith, nat_tests)

none_open : (m n : ℕ) → ending_by m n ≡ pure.all_proved → (m ≡ 0) × (n ≡ 0)
none_open m n = by_tests (nat_lt 0 m) (nat_lt 0 n) refl refl
  where
    by_tests : (t u : Bool) → nat_lt 0 m ≡ t → nat_lt 0 n ≡ u
        → cond t pure.some_failed (cond u pure.some_unknown pure.all_proved) ≡ pure.all_proved → (m ≡ 0) × (n ≡ 0)
    by_tests false false p q e = (none_above m p, none_above n q)
    by_tests false true p q e = absurd (let c : pure.some_unknown ≡ pure.all_proved = e in cc)
    by_tests true u p q e = absurd (let c : pure.some_failed ≡ pure.all_proved = e in cc)

all_hold : (s : Setting) (budget : ℕ) (os : List claims.Obligation) (vs : List Verdict) → AreVerdicts s budget os vs → count_failed vs ≡ 0 → count_unknown vs ≡ 0
    → AllHold s os
all_hold s budget [] vs h a b = tt
all_hold s budget (o ∷ os) [] h a b = absurd h
all_hold s budget (o ∷ os) (proved ∷ vs) h a b = (h.0, all_hold s budget os vs h.1 a b)
all_hold s budget (o ∷ os) (failed t ∷ vs) h a b = absurd (omega (arith, a))
all_hold s budget (o ∷ os) (unknown x ∷ vs) h a b = absurd (omega (arith, b))

-- ---- the report

pub is_report : (s : Setting) (d : Parts) (budget : ℕ) (os : List Obligation) (ns : List Name) (xs cs : List Finding) (text : List ℕ) (ending : pure.Ending)
    (spent : List code.Spent) → map (obligation_of s.map) os ≡ obligations s.model s.map → ns ≡ map named (instructions_in s.model.top) → length xs ≡ length os
    → AreVerdicts s budget (obligations s.model s.map) (verdicts_by d (obligations s.model s.map) xs)
    → AreCovers s budget 0 (instructions_in s.model.top) (map (cover_by d) cs)
    → text ≡ verdict_lines_by d budget os xs ++ cover_lines_by budget ns cs ++ total_by (count_by is_proved xs) (count_by is_failed xs) (count_by is_unknown xs)
    → ending ≡ ending_by (count_by is_failed xs) (count_by is_unknown xs) → spent ≡ spent_among xs ++ spent_among cs
    → IsReport s budget text ending (map (spent_by d) spent)
is_report s d budget os ns xs cs text ending spent is_os is_ns long verdicts covers is_text is_ending is_spent =
    let ps = obligations s.model s.map in
    let is = instructions_in s.model.top in
    let vs = verdicts_by d ps xs in
    let qs = map (cover_by d) cs in
    let as_long : length ps ≡ length xs = ap length (sym is_os) ∙ (length-map os (obligation_of s.map) ∙ sym long) in
    let p = proved_same d ps xs as_long in
    let q = failed_same d ps xs as_long in
    let r = unknown_same d ps xs as_long in
    let total = total_by (count_by is_proved xs) (count_by is_failed xs) (count_by is_unknown xs) in
    record {
      verdicts = vs;
      covers = qs;
      are_verdicts = verdicts;
      are_covers = covers;
      is_text =
          is_text
          ∙ (ap (λ t. t ++ cover_lines_by budget ns cs ++ total)
          (verdicts_same d s.map budget os xs ∙ ap (λ us. verdict_lines budget us (verdicts_by d us xs)) is_os)
          ∙ (ap (λ t. verdict_lines budget ps vs ++ t ++ total) (ap (λ m. cover_lines_by budget m cs) is_ns ∙ covers_same d budget is cs)
          ∙ (ap (λ n. verdict_lines budget ps vs ++ cover_lines budget is qs ++ total_by n (count_by is_failed xs) (count_by is_unknown xs)) p
          ∙ (ap (λ n. verdict_lines budget ps vs ++ cover_lines budget is qs ++ total_by (count_proved vs) n (count_by is_unknown xs)) q
          ∙ ap (λ n. verdict_lines budget ps vs ++ cover_lines budget is qs ++ total_by (count_proved vs) (count_failed vs) n) r))));
      is_ending = is_ending ∙ (ap (λ n. ending_by n (count_by is_unknown xs)) q ∙ ap (λ n. ending_by (count_failed vs) n) r);
      are_spent =
          ap (map (spent_by d)) is_spent
          ∙ (map-append (spent_by d) (spent_among xs) (spent_among cs)
          ∙ (ap (λ t. t ++ map (spent_by d) (spent_among cs)) (spent_same d ps xs as_long) ∙ ap (λ t. spent_in vs ++ t) (spent_covers_same d cs)));
    }

pub refines : (s : Setting) (d : Parts) (budget : ℕ) (os : List Obligation) (xs : List Finding) (ending : Ending) → ObligationsGiveRefinement → IsComplete s
    → map (obligation_of s.map) os ≡ obligations s.model s.map → length xs ≡ length os
    → AreVerdicts s budget (obligations s.model s.map) (verdicts_by d (obligations s.model s.map) xs)
    → ending_view ending ≡ ending_by (count_by is_failed xs) (count_by is_unknown xs) → ending ≡ AllProved → EveryRunRefines s
refines s d budget os xs ending give complete is_os long verdicts is_ending all =
    let ps = obligations s.model s.map in
    let as_long : length ps ≡ length xs = ap length (sym is_os) ∙ (length-map os (obligation_of s.map) ∙ sym long) in
    let none = none_open (count_by is_failed xs) (count_by is_unknown xs) (sym is_ending ∙ ap ending_view all) in
    give s complete
    (all_hold s budget ps (verdicts_by d ps xs) verdicts (sym (failed_same d ps xs as_long) ∙ none.0) (sym (unknown_same d ps xs as_long) ∙ none.1))
