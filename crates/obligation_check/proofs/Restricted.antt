-- A formula that encodes a term of a run's store encodes a property of runs, by their values.
use Rattle.std.proofs.Common.{◌≡◌, ◌∙◌, ℕ, zero, suc, ◌+◌, ◌-◌, ◌^◌, ◌<◌, ◌≤◌, Bool, true, false, cond, List, [], ◌∷◌, length, get_or, Option, Some, None, All, ◌⊎◌, arith, refl, sym, ap, subst, inl, inr}
use Rattle.std.specs.Prelude.{◌↔◌, nat_lt, decimal, option_map, replicate}
use Rattle.std.proofs.lemmas.List.{get_or-map}
use Rattle.std.proofs.lemmas.Bool.{cases_lt, lt-ltb, false≢true}
use Rattle.std.proofs.lemmas.Bool.Decides.{nat_tests}
use Rattle.std.proofs.lemmas.Nat.{pow_pos}
use Rattle.wb_values.specs.Value.{Name, Sort, truth, word, memory, Value, truth_value, number, words, numeral_of, Entries, Valuation, valuation_of, HasSort}
use Rattle.model_meaning.specs.Term.{Term, val}
use Rattle.refinement.specs.Map.{Setting}
use Rattle.refinement.specs.Run.{Run, IsRun}
use Rattle.reports.specs.Encoding.{BitMap, word_of, Write, IsMapOf, RestrictsTo, IsSatisfyingAssignment, GoesOn, EncodesRuns}
use Rattle.reports.specs.Question.{IsQuestion, IsYes}
use Rattle.sat_base.specs.Formula.{Formula, variable_value}
use Rattle.wb_terms.specs.Graph.{Graph, tree, HasDistinctNames}
use Rattle.wb_terms.specs.Environment.{AreOfSorts, values_by_name}
use Rattle.wb_terms.proofs.EnvironmentLemmas.{value_at}
use Rattle.sat_gates.specs.Encodes as gates
use Rattle.sat_gates.specs.Layout.{bit_count, variables_from, variables_of_sort, variables_of, IsLaidOut}
use Rattle.sat_gates.proofs.ReadingLemmas.{read_below, no_words}
use Rattle.sat_gates.proofs.Solved.{false_under}
use Rattle.ob_mem.specs.Words.{listed, entry_at}
use Rattle.ob_mem.specs.Spread.{GivesSorts}
use Rattle.ob_mem.proofs.Listing.{length-listed, get_or-listed}
use Rattle.v_design.specs.Parts.{registers_of, inputs_of}
use Rattle.v_design.specs.Design.{values_under}
use Rattle.mapped_designs.specs.Mapped.{Mapped}
use Rattle.mapped_designs.specs.Runs.{Values, zero_inputs}
use Rattle.run_terms.specs.Names.{names_of_run, values_from, first_input, values_of_run, FitsNames}
use Rattle.obligation_check.specs.Bits.{place_of, variables_at, variables_where, bits_of}
use Rattle.obligation_check.specs.Spread.{SpreadsOver, EncodesSpread}
use Rattle.mapped_runs.specs.Valued.{HasValues}
use Rattle.obligation_check.specs.Claims.{values_up_to, DecidesRuns, HaveRuns}
use Rattle.obligation_check.proofs.Questions.{question_of}
use Rattle.obligation_check.proofs.Written.{read, written, no_bits}
use Rattle.obligation_check.proofs.Told.{Told, Agree, each_at, each_back, told_agree, agree_told, restricts_told, told_restricts}
use Rattle.obligation_check.proofs.Named.{place_found, place_at, split_place, values_from_at, name_count, run_name, input_place, values_fit, distinct-take, distinct-drop, valuation_by, valuation_fits, values_back}

below : (a b : ℕ) → nat_lt a b ≡ true → a < b
below a b e = grind (arith, nat_tests)

-- ---- variables of the formula

abbrev AllBelow : ℕ → List ℕ → Type 0
AllBelow bound vs = All (λ v. v < bound) vs

no_variable : (bound : ℕ) → AllBelow bound []
no_variable bound k d b = absurd (omega (arith, b))

from_below : (first n bound : ℕ) → first + n ≤ bound → AllBelow bound (variables_from first n)
from_below first zero bound h k d b = absurd (omega (arith, b))
from_below first (suc n) bound h zero d b = omega (arith, h)
from_below first (suc n) bound h (suc k) d b = from_below (suc first) n bound (omega (arith, h)) k d (omega (arith, b))

laid_le : (next : ℕ) (es : Entries Sort) (fs : List (Option ℕ)) (end : ℕ) → IsLaidOut next es fs end → next ≤ end
laid_le next [] [] end h = omega (arith, h)
laid_le next [] (x ∷ fs) end h = absurd h
laid_le next (e ∷ es) [] end h = absurd h
laid_le next (e ∷ es) (None ∷ fs) end h = laid_le next es fs end h
laid_le next (e ∷ es) (Some v ∷ fs) end h = let later = laid_le (next + bit_count e.1) es fs end h.1 in omega (arith, later)

-- the variables at a place
laid_below : (next : ℕ) (es : Entries Sort) (fs : List (Option ℕ)) (end bound j : ℕ) → IsLaidOut next es fs end → end ≤ bound → j < length es
    → AllBelow bound (variables_of_sort (entry_at es j).1 (get_or fs j None))
laid_below next [] fs end bound j h b l = absurd (omega (arith, l))
laid_below next (e ∷ es) [] end bound j h b l = absurd h
laid_below next (e ∷ es) (None ∷ fs) end bound zero h b l = no_variable bound
laid_below next (e ∷ es) (Some v ∷ fs) end bound zero h b l =
    let first : v ≡ next = h.0 in
    let later = laid_le (next + bit_count e.1) es fs end h.1 in
    from_below v (bit_count e.1) bound (omega (arith, first, later, b))
laid_below next (e ∷ es) (None ∷ fs) end bound (suc j) h b l = laid_below next es fs end bound j h b (omega (arith, l))
laid_below next (e ∷ es) (Some v ∷ fs) end bound (suc j) h b l = laid_below (next + bit_count e.1) es fs end bound j h.1 b (omega (arith, l))

-- ---- an assignment that restricts to a run tells its values

-- a valuation that gives the names of a run the values of the run
pub record IsRunBy (e : Mapped) (cycles : ℕ) (run : Run) (v : Valuation) : Type 0 where
  pub registers : (i : ℕ) → i < length (registers_of e.parts) → run.registers 0 (entry_at (registers_of e.parts) i).0 ≡ v (entry_at (names_of_run e.parts cycles) i).0
  pub inputs : (t i : ℕ) → t < cycles → i < length (inputs_of e.parts)
      → run.inputs t (entry_at (inputs_of e.parts) i).0 ≡ v (entry_at (names_of_run e.parts cycles) (first_input e.parts t + i)).0

module _ (e : Mapped) (cycles : ℕ) (fs : List (Option ℕ)) (a : List Bool) (run : Run) (v : Valuation) (by : IsRunBy e cycles run v) where
  abbrev es : Entries Sort
  es = names_of_run e.parts cycles

  abbrev rs : Entries Sort
  rs = registers_of e.parts

  abbrev is : Entries Sort
  is = inputs_of e.parts

  abbrev bits : BitMap
  bits = bits_of e.parts cycles fs

  register_below : (i : ℕ) → i < length rs → i < length es
  register_below i b = omega (arith, b, name_count e.parts cycles)

  pub agree_restricts : Agree fs es a v → RestrictsTo bits a run
  agree_restricts agree = record {
    registers = λ n k. at_register n k (place_of rs n) refl;
    inputs = λ t n k. at_input t n k (nat_lt t cycles) refl;
  }
    where
      at_register : (n : Name) (k : ℕ) (o : Option ℕ) → place_of rs n ≡ o → Write a (variables_where fs es o k) (word_of (run.registers 0 n) k)
      at_register n k None p = tt
      at_register n k (Some i) p =
          let h = place_found rs n i p in
          subst (λ x. Write a (variables_at fs es i k) (word_of x k)) (sym (by.registers i h.below) ∙ ap (run.registers 0) h.named)
          (agree i k (register_below i h.below))

      by_place : (t : ℕ) (n : Name) (k : ℕ) → t < cycles → (o : Option ℕ) → place_of is n ≡ o
          → Write a (variables_where fs es (option_map (λ i. first_input e.parts t + i) o) k) (word_of (run.inputs t n) k)
      by_place t n k b None p = tt
      by_place t n k b (Some i) p =
          let h = place_found is n i p in
          subst (λ x. Write a (variables_at fs es (first_input e.parts t + i) k) (word_of x k)) (sym (by.inputs t i b h.below) ∙ ap (run.inputs t) h.named)
          (agree (first_input e.parts t + i) k (input_place e.parts cycles t i b h.below))

      at_input : (t : ℕ) (n : Name) (k : ℕ) (q : Bool) → nat_lt t cycles ≡ q
          → Write a (cond q (variables_where fs es (option_map (λ i. first_input e.parts t + i) (place_of is n)) k) []) (word_of (run.inputs t n) k)
      at_input t n k false q = tt
      at_input t n k true q = by_place t n k (below t cycles q) (place_of is n) refl

  pub restricts_agree : HasDistinctNames e.parts.graph.names → RestrictsTo bits a run → Agree fs es a v
  restricts_agree distinct h j k b = by_part (cases_lt j (length rs))
    where
      of_register : (i : ℕ) → i < length rs → Write a (variables_at fs es i k) (word_of (v (entry_at es i).0) k)
      of_register i c =
          let n = (entry_at rs i).0 in
          subst (λ x. Write a (variables_at fs es i k) (word_of x k)) (by.registers i c)
          (subst (λ o. Write a (variables_where fs es o k) (word_of (run.registers 0 n) k)) (place_at rs i (distinct-take e.parts.graph.names e.parts.register_count distinct) c) (h.registers n k))

      of_input : (t i : ℕ) → t < cycles → i < length is → Write a (variables_at fs es (first_input e.parts t + i) k) (word_of (v (entry_at es (first_input e.parts t + i)).0) k)
      of_input t i l c =
          let n = (entry_at is i).0 in
          let here : Write a (cond true (variables_where fs es (option_map (λ p. first_input e.parts t + p) (place_of is n)) k) []) (word_of (run.inputs t n) k) =
          subst (λ q. Write a (cond q (variables_where fs es (option_map (λ p. first_input e.parts t + p) (place_of is n)) k) []) (word_of (run.inputs t n) k)) (lt-ltb t cycles l) (h.inputs t n k) in
          subst (λ x. Write a (variables_at fs es (first_input e.parts t + i) k) (word_of x k)) (by.inputs t i l c)
          (subst (λ o. Write a (variables_where fs es (option_map (λ p. first_input e.parts t + p) o) k) (word_of (run.inputs t n) k))
          (place_at is i (distinct-drop e.parts.graph.names e.parts.register_count distinct) c) here)

      by_part : (j < length rs) ⊎ (length rs ≤ j) → Write a (variables_at fs es j k) (word_of (v (entry_at es j).0) k)
      by_part (inl l) = of_register j l
      by_part (inr l) =
          let p = split_place cycles (length is) (j - length rs) (omega (arith, l, b, name_count e.parts cycles)) in
          let z : first_input e.parts p.cycle + p.place ≡ j = omega (arith, p.is, l) in
          subst (λ m. Write a (variables_at fs es m k) (word_of (v (entry_at es m).0) k)) z (of_input p.cycle p.place p.cycle_below p.place_below)

-- the valuation of a run's values, and the run of a valuation's
run_by_values : (e : Mapped) (cycles : ℕ) (run : Run) (v : Valuation) → HasValues e.parts run cycles (values_of_run e.parts cycles v) → IsRunBy e cycles run v
run_by_values e cycles run v h = record {
  registers = λ i b. first_at i b;
  inputs = λ t i l c. input_at t i l c (nat_lt t cycles) refl;
}
  where
    first_at : (i : ℕ) → i < length (registers_of e.parts) → run.registers 0 (entry_at (registers_of e.parts) i).0 ≡ v (entry_at (names_of_run e.parts cycles) i).0
    first_at i b =
        let z : 0 + i ≡ i = omega arith in
        sym (get_or-map (λ (n : Name × Sort). run.registers 0 n.0) (registers_of e.parts) i ([], truth) (number 0) b)
        ∙ (ap (λ xs. get_or xs i (number 0)) h.first ∙ (values_from_at 0 (registers_of e.parts) v i (number 0) b
        ∙ (ap (λ n. v (decimal n)) z ∙ ap v (sym (run_name e.parts cycles i (omega (arith, b, name_count e.parts cycles)))))))

    input_at : (t i : ℕ) → t < cycles → i < length (inputs_of e.parts) → (q : Bool) → nat_lt t cycles ≡ q
        → run.inputs t (entry_at (inputs_of e.parts) i).0 ≡ v (entry_at (names_of_run e.parts cycles) (first_input e.parts t + i)).0
    input_at t i l c false q = absurd (false≢true (sym q ∙ lt-ltb t cycles l))
    input_at t i l c true q =
        let same : values_under (inputs_of e.parts) (run.inputs t) ≡ values_from (first_input e.parts t) (inputs_of e.parts) v =
        h.inputs t l ∙ ap (λ b. cond b (values_from (first_input e.parts t) (inputs_of e.parts) v) (zero_inputs e.parts)) q in
        sym (get_or-map (λ (n : Name × Sort). run.inputs t n.0) (inputs_of e.parts) i ([], truth) (number 0) c)
        ∙ (ap (λ xs. get_or xs i (number 0)) same ∙ (values_from_at (first_input e.parts t) (inputs_of e.parts) v i (number 0) c
        ∙ ap v (sym (run_name e.parts cycles (first_input e.parts t + i) (input_place e.parts cycles t i l c)))))

pub has_own_values : (e : Mapped) (cycles : ℕ) (run : Run) → HasValues e.parts run cycles (values_up_to e cycles run)
has_own_values e cycles run = record {
  first = refl;
  inputs = λ t l. ap (λ b. cond b (values_under (inputs_of e.parts) (run.inputs t)) (zero_inputs e.parts)) (sym (lt-ltb t cycles l));
}

-- ---- the values that an assignment tells

abbrev told_value : List Bool → Sort → Option ℕ → Value
told_value a truth None = truth_value false
told_value a truth (Some f) = truth_value (variable_value a f)
told_value a (word w) o = number (read a (variables_of_sort (word w) o))
told_value a (memory p d) o = words (replicate (2 ^ p) 0)

told_sort : (a : List Bool) (s : Sort) (o : Option ℕ) → HasSort (told_value a s o) s
told_sort a truth None = refl
told_sort a truth (Some f) = refl
told_sort a (word w) None = lt-ltb 0 (2 ^ w) (pow_pos w)
told_sort a (word w) (Some f) = lt-ltb (read a (variables_from f w)) (2 ^ w) (read_below a f w w (omega arith))
told_sort a (memory p d) o = no_words p d (replicate (2 ^ p) 0) refl

one_bit : (a : List Bool) (f : ℕ) → read a (f ∷ []) ≡ numeral_of (truth_value (variable_value a f))
one_bit a f = by_bit (variable_value a f)
  where
    by_bit : (b : Bool) → Rattle.gate_words.specs.Binary.number_of (b ∷ []) ≡ numeral_of (truth_value b)
    by_bit true = refl
    by_bit false = refl

told_written : (a : List Bool) (s : Sort) (o : Option ℕ) → Write a (variables_of_sort s o) (numeral_of (told_value a s o))
told_written a truth None = tt
told_written a truth (Some f) = written a (f ∷ []) (numeral_of (truth_value (variable_value a f))) (one_bit a f)
told_written a (word w) o = written a (variables_of_sort (word w) o) (read a (variables_of_sort (word w) o)) refl
told_written a (memory p d) o = no_bits p d o a (numeral_of (words (replicate (2 ^ p) 0)))

of_sorts_by : (ns : Entries Sort) (xs : List Value) → length xs ≡ length ns → ((k : ℕ) → k < length ns → HasSort (get_or xs k (number 0)) (entry_at ns k).1) → AreOfSorts ns xs
of_sorts_by [] [] l h = tt
of_sorts_by [] (x ∷ xs) l h = absurd (omega (arith, l))
of_sorts_by (n ∷ ns) [] l h = absurd (omega (arith, l))
of_sorts_by (n ∷ ns) (x ∷ xs) l h = (h zero (omega arith), of_sorts_by ns xs (omega (arith, l)) (λ k b. h (suc k) (omega (arith, b))))

module _ (new : Entries Sort) (fs : List (Option ℕ)) (a : List Bool) (distinct : HasDistinctNames new) where
  abbrev at : ℕ → Value
  at j = told_value a (entry_at new j).1 (get_or fs j None)

  abbrev xs : List Value
  xs = listed at (length new)

  abbrev pub told : Valuation
  told = valuation_of (values_by_name new xs)

  at_place : (j : ℕ) → j < length new → get_or xs j (number 0) ≡ at j
  at_place j b = get_or-listed at (length new) j (number 0) b

  listed_fit : AreOfSorts new xs
  listed_fit = of_sorts_by new xs (length-listed at (length new)) (λ j b. subst (λ x. HasSort x (entry_at new j).1) (sym (at_place j b)) (told_sort a (entry_at new j).1 (get_or fs j None)))

  value : (j : ℕ) → j < length new → told (entry_at new j).0 ≡ at j
  value j b = value_at new xs j ([], truth) (number 0) distinct listed_fit b ∙ at_place j b

  pub told_gives : GivesSorts new told
  told_gives j b = subst (λ x. HasSort x (entry_at new j).1) (sym (value j b)) (told_sort a (entry_at new j).1 (get_or fs j None))

  pub told_is : Told fs new a told
  told_is j b = subst (λ x. Write a (variables_of_sort (entry_at new j).1 (get_or fs j None)) (numeral_of x)) (sym (value j b)) (told_written a (entry_at new j).1 (get_or fs j None))

-- ---- one assignment

-- two assignments write one number with the same variables
abbrev WriteAlike : List Bool → List Bool → List ℕ → Type 0
WriteAlike a b vs = (x : ℕ) × Write a vs x × Write b vs x

none_alike : (a b : List Bool) → WriteAlike a b []
none_alike a b = (0, tt, tt)

alike : (a b : List Bool) (vs : List ℕ) (y : ℕ) → WriteAlike a b vs → Write a vs y → Write b vs y
alike a b [] y h w = tt
alike a b (v ∷ vs) y h w = h.2 ∙ (sym h.1 ∙ w)

-- where they restrict to one run, they do so at each word of each name
restrict_alike : (e : Mapped) (cycles : ℕ) (fs : List (Option ℕ)) (a b : List Bool) (run : Run) → HasDistinctNames e.parts.graph.names
    → RestrictsTo (bits_of e.parts cycles fs) a run → RestrictsTo (bits_of e.parts cycles fs) b run
    → (j k : ℕ) → j < length (names_of_run e.parts cycles) → WriteAlike a b (variables_at fs (names_of_run e.parts cycles) j k)
restrict_alike e cycles fs a b run distinct ra rb j k l = by_part (cases_lt j (length (registers_of e.parts)))
  where
    all : Entries Sort
    all = names_of_run e.parts cycles

    of_register : (i : ℕ) → i < length (registers_of e.parts) → WriteAlike a b (variables_at fs all i k)
    of_register i c =
        let n = (entry_at (registers_of e.parts) i).0 in
        subst (λ o. WriteAlike a b (variables_where fs all o k)) (place_at (registers_of e.parts) i (distinct-take e.parts.graph.names e.parts.register_count distinct) c)
        (word_of (run.registers 0 n) k, ra.registers n k, rb.registers n k)

    of_input : (t i : ℕ) → t < cycles → i < length (inputs_of e.parts) → WriteAlike a b (variables_at fs all (first_input e.parts t + i) k)
    of_input t i m c =
        let n = (entry_at (inputs_of e.parts) i).0 in
        subst (λ o. WriteAlike a b (variables_where fs all (option_map (λ p. first_input e.parts t + p) o) k))
        (place_at (inputs_of e.parts) i (distinct-drop e.parts.graph.names e.parts.register_count distinct) c)
        (subst (λ q. WriteAlike a b (cond q (variables_where fs all (option_map (λ p. first_input e.parts t + p) (place_of (inputs_of e.parts) n)) k) [])) (lt-ltb t cycles m)
        (word_of (run.inputs t n) k, ra.inputs t n k, rb.inputs t n k))

    by_part : (j < length (registers_of e.parts)) ⊎ (length (registers_of e.parts) ≤ j) → WriteAlike a b (variables_at fs all j k)
    by_part (inl m) = of_register j m
    by_part (inr m) =
        let p = split_place cycles (length (inputs_of e.parts)) (j - length (registers_of e.parts)) (omega (arith, l, m, name_count e.parts cycles)) in
        let z : first_input e.parts p.cycle + p.place ≡ j = omega (arith, p.is, m) in
        subst (λ q. WriteAlike a b (variables_at fs all q k)) z (of_input p.cycle p.place p.cycle_below p.place_below)

-- ---- the law

module _ (s : Setting) (e : Mapped) (cycles : ℕ) (HasProperty : Run → Type 0) (IsDecided : Values → Type 0) (decided : DecidesRuns s e cycles HasProperty IsDecided)
    (have : HaveRuns s e cycles IsDecided) (own : HasDistinctNames e.parts.graph.names) (g : Graph) (id : ℕ) (named : g.names ≡ names_of_run e.parts cycles)
    (distinct : HasDistinctNames g.names)
    (means : (v : Valuation) → FitsNames g.names v → (val (tree g id) v ≡ truth_value false) ↔ IsDecided (values_of_run e.parts cycles v))
    (fs : List (Option ℕ)) (f : Formula) (enc : EncodesSpread g id fs f) where
  abbrev formula_bits : BitMap
  formula_bits = bits_of e.parts cycles fs

  abbrev question : IsQuestion f
  question = question_of f enc.encodes.question

  abbrev goal : Term
  goal = tree enc.store enc.goal

  abbrev variables : Name → List ℕ
  variables = variables_of enc.store.names fs

  run_distinct : HasDistinctNames (names_of_run e.parts cycles)
  run_distinct = subst HasDistinctNames named distinct

  gives : (w : Valuation) → GivesSorts enc.store.names w → gates.GivesSorts w goal
  gives w h n q stands =
      let u = enc.numbered.declared n q stands in
      subst (λ (x : Name × Sort). HasSort (w x.0) x.1) u.2 (h u.0 u.1)

  -- a run's values as a valuation of the store, and of that with words
  record IsSpreadRun (run : Run) (v w : Valuation) : Type 0 where
    fits : FitsNames g.names v
    by : IsRunBy e cycles run v
    spread : SpreadsOver g enc.store v w
    sorts : GivesSorts enc.store.names w

  spread_run : (run : Run) (v : Valuation) → FitsNames g.names v → IsRunBy e cycles run v → (w : Valuation) × IsSpreadRun run v w
  spread_run run v fits by =
      let h = enc.spread v fits in
      (h.0, record { fits = fits; by = by; spread = h.1; sorts = h.2 })

  to_run : (a : List Bool) (run : Run) (v w : Valuation) → IsRunBy e cycles run v → SpreadsOver g enc.store v w → Told fs enc.store.names a w → RestrictsTo formula_bits a run
  to_run a run v w by spread told' =
      agree_restricts e cycles fs a run v by (subst (λ es. Agree fs es a v) named (told_agree g.names enc.store.names fs a v w enc.words spread told'))

  from_run : (a : List Bool) (run : Run) (v w : Valuation) → IsRunBy e cycles run v → SpreadsOver g enc.store v w → RestrictsTo formula_bits a run → Told fs enc.store.names a w
  from_run a run v w by spread h =
      agree_told g.names enc.store.names fs a v w enc.words spread (subst (λ es. Agree fs es a v) (sym named) (restricts_agree e cycles fs a run v by own h))

  -- the valuation of a run
  by_run : (run : Run) → IsRun s run cycles → (v : Valuation) × (w : Valuation) × IsSpreadRun run v w × (values_of_run e.parts cycles v ≡ values_up_to e cycles run)
  by_run run is_run =
      let x = values_up_to e cycles run in
      let fits = decided.fits run is_run in
      let v = valuation_by e.parts cycles x fits run_distinct in
      let back : values_of_run e.parts cycles v ≡ x = values_back e.parts cycles x fits run_distinct (λ t q. later t q) in
      let by : IsRunBy e cycles run v = run_by_values e cycles run v (subst (HasValues e.parts run cycles) (sym back) (has_own_values e cycles run)) in
      let h = spread_run run v (subst (λ es. FitsNames es v) (sym named) (valuation_fits e.parts cycles x fits run_distinct)) by in
      (v, h.0, h.1, back)
    where
      later : (t : ℕ) → nat_lt t cycles ≡ false → cond (nat_lt t cycles) (values_under (inputs_of e.parts) (run.inputs t)) (zero_inputs e.parts) ≡ zero_inputs e.parts
      later t q = ap (λ b. cond b (values_under (inputs_of e.parts) (run.inputs t)) (zero_inputs e.parts)) q

  -- what an assignment tells of a store's names, it restricts to
  told_by : (a : List Bool) (w : Valuation) → GivesSorts enc.store.names w → Told fs enc.store.names a w → gates.RestrictsTo variables a w goal
  told_by a w sorts told' = told_restricts enc.store enc.goal fs f.vars a w enc.distinct enc.numbered enc.blastable sorts told'

  -- a run that goes on to an assignment, as values of the store with words
  goes_on : (run : Run) (v w : Valuation) (a : List Bool) → IsSpreadRun run v w → GoesOn f question formula_bits run a → gates.GoesOn f enc.encodes.question variables goal w a
  goes_on run v w a h g' = record {
    follows = record { whole = g'.follows.whole; gates = g'.follows.gates };
    restricts = told_by a w h.sorts (from_run a run v w h.by h.spread g'.restricts);
  }

  is_map : IsMapOf cycles f formula_bits
  is_map = record {
    registers = λ n k. of_place n (place_of (registers_of e.parts) n) refl k;
    inputs = λ t n k. at_cycle t n k (nat_lt t cycles) refl;
    none_later = λ t n k l. later t n k l (nat_lt t cycles) refl;
  }
    where
      each : (j k : ℕ) → j < length (names_of_run e.parts cycles) → AllBelow f.vars (variables_at fs (names_of_run e.parts cycles) j k)
      each = subst (λ es. (j k : ℕ) → j < length es → AllBelow f.vars (variables_at fs es j k)) named
          (each_at g.names enc.store.names fs enc.words (AllBelow f.vars) (no_variable f.vars)
          (λ j b. laid_below 0 enc.store.names fs enc.numbered.end f.vars j enc.numbered.laid_out enc.numbered.below b))

      of_place : (n : Name) (o : Option ℕ) → place_of (registers_of e.parts) n ≡ o → (k : ℕ) → AllBelow f.vars (variables_where fs (names_of_run e.parts cycles) o k)
      of_place n None p k = no_variable f.vars
      of_place n (Some i) p k =
          let b = (place_found (registers_of e.parts) n i p).below in
          each i k (omega (arith, b, name_count e.parts cycles))

      of_input : (t : ℕ) → t < cycles → (n : Name) (o : Option ℕ) → place_of (inputs_of e.parts) n ≡ o → (k : ℕ)
          → AllBelow f.vars (variables_where fs (names_of_run e.parts cycles) (option_map (λ i. first_input e.parts t + i) o) k)
      of_input t l n None p k = no_variable f.vars
      of_input t l n (Some i) p k = each (first_input e.parts t + i) k (input_place e.parts cycles t i l (place_found (inputs_of e.parts) n i p).below)

      at_cycle : (t : ℕ) (n : Name) (k : ℕ) (q : Bool) → nat_lt t cycles ≡ q
          → AllBelow f.vars (cond q (variables_where fs (names_of_run e.parts cycles) (option_map (λ i. first_input e.parts t + i) (place_of (inputs_of e.parts) n)) k) [])
      at_cycle t n k false q = no_variable f.vars
      at_cycle t n k true q = of_input t (below t cycles q) n (place_of (inputs_of e.parts) n) refl k

      later : (t : ℕ) (n : Name) (k : ℕ) → cycles ≤ t → (q : Bool) → nat_lt t cycles ≡ q
          → cond q (variables_where fs (names_of_run e.parts cycles) (option_map (λ i. first_input e.parts t + i) (place_of (inputs_of e.parts) n)) k) [] ≡ []
      later t n k l false q = refl
      later t n k l true q = absurd (omega (arith, l, below t cycles q))

  -- each run goes on
  found : (run : Run) → IsRun s run cycles → (a : List Bool) × GoesOn f question formula_bits run a
  found run is_run =
      let b = by_run run is_run in
      let v = b.0 in
      let w = b.1 in
      let h = enc.encodes.some w (gives w b.2.sorts) in (
        h.0,
        record {
          follows = record { whole = h.1.follows.whole; gates = h.1.follows.gates };
          restricts = to_run h.0 run v w b.2.by b.2.spread (restricts_told enc.store enc.goal fs f.vars h.0 w enc.distinct enc.numbered h.1.restricts);
        },
      )

  -- what is asked is the property
  shown : (run : Run) (a : List Bool) → IsRun s run cycles → GoesOn f question formula_bits run a → IsYes f question a ↔ HasProperty run
  shown run a is_run h =
      let b = by_run run is_run in
      let v = b.0 in
      let w = b.1 in
      let asks = enc.encodes.asks w a (goes_on run v w a b.2 h) in
      let decides = decided.decides run is_run in (
        λ so. decides.1 (subst IsDecided b.3 ((means v b.2.fits).0 (sym (enc.same v w b.2.spread) ∙ asks.0 so))),
        λ has. asks.1 (enc.same v w b.2.spread ∙ (means v b.2.fits).1 (subst IsDecided (sym b.3) (decides.0 has))),
      )

  -- each satisfying assignment has a run
  comes : (a : List Bool) → IsSatisfyingAssignment f a → (run : Run) × IsRun s run cycles × RestrictsTo formula_bits a run
  comes a sa =
      let w = told enc.store.names fs a enc.distinct in
      let sorts = told_gives enc.store.names fs a enc.distinct in
      let told' = told_is enc.store.names fs a enc.distinct in
      let h = enc.gathered w sorts in
      let v = h.0 in
      let fits : FitsNames g.names v = h.1.sorts in
      let false' : val goal w ≡ truth_value false =
      false_under f variables goal enc.encodes w a sa.whole sa.satisfies (told_by a w sorts told') in
      let x = values_of_run e.parts cycles v in
      let r = have x (values_fit e.parts cycles v (subst (λ es. FitsNames es v) named fits)) ((means v fits).0 (sym (enc.same v w h.1) ∙ false')) in
      (r.0, r.1, to_run a r.0 v w (run_by_values e cycles r.0 v r.2) h.1 told')

  -- a run goes on to at most one assignment
  only : (run : Run) (a b : List Bool) → GoesOn f question formula_bits run a → GoesOn f question formula_bits run b → a ≡ b
  only run a b ga gb =
      let w = told enc.store.names fs a enc.distinct in
      let sorts = told_gives enc.store.names fs a enc.distinct in
      let told_a : Told fs enc.store.names a w = told_is enc.store.names fs a enc.distinct in
      let both : (j : ℕ) → j < length enc.store.names → WriteAlike a b (variables_of_sort (entry_at enc.store.names j).1 (get_or fs j None)) =
      each_back g.names enc.store.names fs enc.words (WriteAlike a b) (none_alike a b)
      (subst (λ es. (j k : ℕ) → j < length es → WriteAlike a b (variables_at fs es j k)) (sym named) (restrict_alike e cycles fs a b run own ga.restricts gb.restricts)) in
      let told_b : Told fs enc.store.names b w = λ j l. alike a b (variables_of_sort (entry_at enc.store.names j).1 (get_or fs j None)) (numeral_of (w (entry_at enc.store.names j).0)) (both j l) (told_a j l) in
      enc.encodes.one w a b
      (record { follows = record { whole = ga.follows.whole; gates = ga.follows.gates }; restricts = told_by a w sorts told_a })
      (record { follows = record { whole = gb.follows.whole; gates = gb.follows.gates }; restricts = told_by b w sorts told_b })

  -- The formula encodes the property.
  pub encodes_runs : EncodesRuns s cycles HasProperty f (bits_of e.parts cycles fs)
  encodes_runs = record {
    mapped = is_map;
    question = question;
    some = λ run is_run. found run is_run;
    one = λ run a b ga gb. only run a b ga gb;
    asks = λ run a is_run h. shown run a is_run h;
    every = λ a sa. comes a sa;
  }
