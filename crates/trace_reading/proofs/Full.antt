-- A trace leaves nothing out exactly where the tests find all of it, and its cycles are those of its file.
use Rattle.std.proofs.Common.{◌≡◌, ◌∙◌, ℕ, zero, suc, ◌<◌, Bool, true, false, not, ◌&&◌, ◌||◌, List, [], ◌∷◌, length, map, get_or, Option, Some, None, refl, sym, ap, subst, arith, true≢false, ◌≤◌, ◌⊎◌, inl, inr}
use Rattle.std.specs.Prelude.{◌==◌, is_some, option_and_then, slice_get, slice_index_or, Contains, IsTrue, codes}
use Rattle.std.proofs.lemmas.Bool.{and_parts, and_from, false≢true, or_cases, or_left, or_right, eqb-true, eq-eqb, not-true, not_from_false, cases_eq, cases_lt}
use Rattle.wb_values.specs.Value.{Name, Value, number, Entries, entry_of}
use Rattle.serde_json.specs.Data.{Data, Items, no_items, item, Members}
use Rattle.serde_json.specs.Find.{get, get_member, as_str, as_array, as_object}
use Rattle.serde_json.specs.Events.{items_len}
use Rattle.map_files.specs.Shape.{read_under}
use Rattle.verilog_meaning.specs.Settled.{Design}
use Rattle.verilog_exists.specs.Exists.{IsOfText}
use Rattle.reports.specs.Report.{Trace, IsTraceRegister, IsInput}
use Rattle.trace_files.specs.Shape.{AreEntriesIn, AreObjectsOf, IsShapeOf}
use Rattle.trace_files.specs.Meaning.{IsRegisterValue, IsInputValue}
use Rattle.v_design.specs.Parts.{Parts, registers_of, inputs_of, are_bits_for, are_words}
use Rattle.v_design.specs.Design.{IsDesignOf}
use Rattle.trace_texts.specs.Order.{register_name, input_name, is_traced}
use Rattle.trace_reading.specs.Fitting.{has_trace_keys, are_registers, are_cycles, registers_fit, cycle_fits, cycles_fit, is_fitting, each_below, register_in, is_register_given, are_registers_given, is_input_given, are_inputs_given, are_cycles_given, are_all_cycles, is_full}
use Rattle.trace_reading.proofs.Shapes.{named_given, none_some, some_same}
use Rattle.trace_reading.proofs.Sites.{found, traced, input_found, data_input}
use Rattle.trace_reading.proofs.Filled.{object_get}

each_at : (p : ℕ → Bool) (n : ℕ) → each_below p n ≡ true → (k : ℕ) → k < n → p k ≡ true
each_at p zero h k l = absurd (omega (arith, l))
each_at p (suc n) h k l = by (cases_eq k n) (and_parts (each_below p n) (p n) h) (each_at p n)
  where
    by : (k ≡ n) ⊎ (k ≡ n → ⊥) → (each_below p n ≡ true) × (p n ≡ true) → (each_below p n ≡ true → (j : ℕ) → j < n → p j ≡ true) → p k ≡ true
    by (inl e) q r = ap p e ∙ q.1
    by (inr o) q r = r q.0 k (below (cases_lt k n))
      where
        below : (k < n) ⊎ (n ≤ k) → k < n
        below (inl m) = m
        below (inr m) = absurd (o (omega (arith, m, l)))

each_from : (p : ℕ → Bool) (n : ℕ) → ((k : ℕ) → k < n → p k ≡ true) → each_below p n ≡ true
each_from p zero h = refl
each_from p (suc n) h = and_from (each_below p n) (p n) (each_from p n (λ k l. h k (omega (arith, l)))) (h n (omega arith))

pub same_count : (ds : Items) (cs : List (Entries Value)) → AreObjectsOf ds cs → items_len ds ≡ length cs
same_count no_items cs a = ap length (sym a)
same_count (item d ds) [] a = absurd a
same_count (item d ds) (es ∷ cs) a = ap suc (same_count ds cs a.1)

-- what stands under the keys of a trace
pub under_registers : (file : Data) (t : Trace) (s : IsShapeOf file t) → read_under as_object (codes "registers") file ≡ Some s.are_registers.0
under_registers file t s = ap (option_and_then as_object) s.has_registers ∙ s.are_registers.1

pub under_inputs : (file : Data) (t : Trace) (s : IsShapeOf file t) → read_under as_array (codes "inputs") file ≡ Some s.cycles
under_inputs file t s = ap (option_and_then as_array) s.has_inputs ∙ s.are_cycles

pub under_obligation : (file : Data) (t : Trace) (s : IsShapeOf file t) → read_under as_str (codes "obligation") file ≡ Some t.obligation
under_obligation file t s = ap (option_and_then as_str) s.has_name ∙ s.is_name

pub passes : (e : Parts) (file : Data) (t : Trace) (s : IsShapeOf file t) → is_fitting e file ≡ true → (registers_fit e s.are_registers.0 ≡ true) × (cycles_fit e s.cycles ≡ true)
passes e file t s h =
    let r = read_under as_object (codes "registers") file in
    let c = read_under as_array (codes "inputs") file in
    let p = and_parts (has_trace_keys file) (are_registers e r && are_cycles e c) h in
    let q = and_parts (are_registers e r) (are_cycles e c) p.1 in
    (ap (are_registers e) (sym (under_registers file t s)) ∙ q.0, ap (are_cycles e) (sym (under_inputs file t s)) ∙ q.1)

register_there : (file : Data) (t : Trace) (s : IsShapeOf file t) (n : Name) → is_some (register_in file n) ≡ is_some (entry_of t.registers n)
register_there file t s n =
    ap is_some (ap (option_and_then (get n)) s.has_registers ∙ object_get n s.registers s.are_registers.0 s.are_registers.1)
    ∙ named_given s.are_registers.0 t.registers n s.are_registers.2

module _ (d : Design) (e : Parts) (design : IsDesignOf d e) (text : IsOfText d) (counting : IsTrue (are_bits_for (registers_of e) e.bits)) (plain : IsTrue (are_words (inputs_of e))) where
  cycles_full : (ds : Items) (cs : List (Entries Value)) → AreObjectsOf ds cs → are_cycles_given e ds ≡ true → (es : Entries Value) (n : Name) (k : ℕ) → k < length cs
      → get_or cs k es ≡ es → IsInput d n → is_some (entry_of es n) ≡ true
  cycles_full no_items [] a h es n k l q i = absurd (omega (arith, l))
  cycles_full no_items (fs ∷ cs) a h es n k l q i = absurd (omega (arith, l, ap length a))
  cycles_full (item c ds) [] a h es n k l q i = absurd a
  cycles_full (item c ds) (fs ∷ cs) a h es n zero l q i =
      let p = and_parts (are_inputs_given e c) (are_cycles_given e ds) h in
      let f = input_found d e design text counting plain n i in
      let given : is_some (get n c) ≡ true = ap (λ m. is_some (get m c)) (sym f.2) ∙ each_at (is_input_given e c) (length (inputs_of e)) p.0 f.0 f.1 in
      ap (λ gs. is_some (entry_of gs n)) (sym q) ∙ (sym (named_given a.0.0 fs n a.0.2) ∙ (sym (ap is_some (object_get n c a.0.0 a.0.1)) ∙ given))
  cycles_full (item c ds) (fs ∷ cs) a h es n (suc k) l q i =
      cycles_full ds cs a.1 (and_parts (are_inputs_given e c) (are_cycles_given e ds) h).1 es n k (omega (arith, l)) q i

  cycles_from : (ds : Items) (cs : List (Entries Value)) → AreObjectsOf ds cs → ((es : Entries Value) (n : Name) → Contains cs es → IsInput d n → is_some (entry_of es n) ≡ true)
      → are_cycles_given e ds ≡ true
  cycles_from no_items cs a h = refl
  cycles_from (item c ds) [] a h = absurd a
  cycles_from (item c ds) (fs ∷ cs) a h =
      and_from (are_inputs_given e c) (are_cycles_given e ds)
      (each_from (is_input_given e c) (length (inputs_of e)) (λ k l.
      let i = data_input d e design text counting plain k l in
      ap is_some (object_get (input_name e k) c a.0.0 a.0.1)
      ∙ (named_given a.0.0 fs (input_name e k) a.0.2
      ∙ h fs (input_name e k) (0, omega arith, refl) (record { place = i.top; is_place = i.is_top; is_port = i.is_input; other = i.no_clock }))))
      (cycles_from ds cs a.1 (λ es n q i. h es n (suc q.0, omega (arith, q.1), q.2) i))

  -- so many cycles, and a value of each register and of each input in each
  pub record HasAll (cycles : ℕ) (t : Trace) : Type 0 where
    pub registers : (n : Name) → IsTraceRegister d n → IsTrue (is_some (entry_of t.registers n))
    pub count : length t.inputs ≡ cycles
    pub inputs : (es : Entries Value) (n : Name) → Contains t.inputs es → IsInput d n → IsTrue (is_some (entry_of es n))

  pub full_has_all : (file : Data) (t : Trace) (s : IsShapeOf file t) (cycles : ℕ) → is_full e cycles file ≡ true → HasAll cycles t
  full_has_all file t s cycles h =
      let p = and_parts (are_registers_given e file) (are_all_cycles e cycles (read_under as_array (codes "inputs") file)) h in
      let r : (items_len s.cycles == cycles) && are_cycles_given e s.cycles ≡ true = ap (are_all_cycles e cycles) (sym (under_inputs file t s)) ∙ p.1 in
      let q = and_parts (items_len s.cycles == cycles) (are_cycles_given e s.cycles) r in record {
        registers = λ n is.
            let f = found d e design text counting plain n is in
            sym (register_there file t s n) ∙ named n f.0 f.2 f.3 (each_at (is_register_given e file) (length (registers_of e)) p.0 f.0 f.1);
        count = sym (same_count s.cycles t.inputs s.are_inputs) ∙ eqb-true (items_len s.cycles) cycles q.0;
        inputs = λ es n c i. cycles_full s.cycles t.inputs s.are_inputs q.1 es n c.0 c.1 c.2 i;
      }
    where
      named : (n : Name) (k : ℕ) → is_traced e k ≡ true → register_name e k ≡ n → is_register_given e file k ≡ true → is_some (register_in file n) ≡ true
      named n k m is g = by (or_cases (not (is_traced e k)) (is_some (register_in file (register_name e k))) g)
        where
          by : (not (is_traced e k) ≡ true) ⊎ (is_some (register_in file (register_name e k)) ≡ true) → is_some (register_in file n) ≡ true
          by (inl o) = absurd (true≢false (sym m ∙ not-true (is_traced e k) o))
          by (inr o) = ap (λ q. is_some (register_in file q)) (sym is) ∙ o

  pub has_all_full : (file : Data) (t : Trace) (s : IsShapeOf file t) (cycles : ℕ) → HasAll cycles t → is_full e cycles file ≡ true
  has_all_full file t s cycles h =
      and_from (are_registers_given e file) (are_all_cycles e cycles (read_under as_array (codes "inputs") file))
      (each_from (is_register_given e file) (length (registers_of e)) (λ k l. given k l (is_traced e k) refl))
      (ap (are_all_cycles e cycles) (under_inputs file t s)
      ∙ and_from (items_len s.cycles == cycles) (are_cycles_given e s.cycles)
      (eq-eqb (items_len s.cycles) cycles (same_count s.cycles t.inputs s.are_inputs ∙ h.count)) (cycles_from s.cycles t.inputs s.are_inputs h.inputs))
    where
      given : (k : ℕ) → k < length (registers_of e) → (b : Bool) → is_traced e k ≡ b → is_register_given e file k ≡ true
      given k l false m = or_left (not (is_traced e k)) (is_some (register_in file (register_name e k))) (not_from_false (is_traced e k) m)
      given k l true m =
          or_right (not (is_traced e k)) (is_some (register_in file (register_name e k)))
          (register_there file t s (register_name e k) ∙ h.registers (register_name e k) (traced d e design text counting plain k l m))
