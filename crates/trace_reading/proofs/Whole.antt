-- The reading by the parts of a design is that of each setting of which the parts are.
use Rattle.std.proofs.Common.{◌≡◌, ◌∙◌, ℕ, zero, suc, ◌+◌, ◌<◌, Bool, true, false, cond, List, [], ◌∷◌, length, map, get_or, Option, Some, None, refl, sym, ap, subst, arith, string_bytes, true≢false, add-zero}
use Rattle.std.specs.Prelude.{is_some, slice_get, slice_index_or, Contains, IsTrue, codes}
use Rattle.std.proofs.lemmas.Slice.Eq.{bytes_eq-Decides}
use Rattle.std.proofs.lemmas.Bool.{and_parts}
use Rattle.wb_values.specs.Value.{Name, same_name, Value, number, Entries}
use Rattle.serde_json.specs.Data.{Data, Items, no_items, item, Members}
use Rattle.serde_json.specs.Find.{get, as_str, as_array, as_object}
use Rattle.model_files.specs.Shape.{document}
use Rattle.map_files.specs.Shape.{read_under}
use Rattle.refinement.specs.Map.{Map, Setting, design_of}
use Rattle.refinement.specs.Obligation as pure
use Rattle.verilog_meaning.specs.Settled.{Design}
use Rattle.verilog_exists.specs.Exists.{IsOfText}
use Rattle.reports.specs.Report.{Trace as PureTrace, StandsFor}
use Rattle.trace_files.specs.Shape.{AreEntriesIn, AreObjectsOf, IsShapeOf}
use Rattle.trace_files.specs.Meaning as meaning
use Rattle.trace_files.specs.Meaning.{IsRegisterValue, IsInputValue, IsFittingTrace, SaysTrace, IsObligationNamed, IsFullFor, IsTraceReading, traces, refused_by, no_document, no_fitting_trace, no_obligation, not_full, is_trace}
use Rattle.v_design.specs.Parts.{Parts, registers_of, inputs_of, are_bits_for, are_words}
use Rattle.v_design.specs.Design.{IsDesignOf}
use Rattle.v_design.specs.Seen.{register_values}
use Rattle.obligation_lists.specs.Claims.{obligation_of}
use Rattle.obligation_lists.specs.declared.claims.Obligation.{Obligation}
use Rattle.trace_reading.specs.Fitting.{is_fitting, is_full, cycle_fits, cycles_fit}
use Rattle.trace_reading.specs.Given.{registers_given, inputs_given, cycles_of_items, cycles_listed, cycles_given}
use Rattle.trace_reading.specs.Rule.{rule_view}
use Rattle.trace_reading.specs.Reading.{obligation_place, cycles_stated, PartsReading, gives, is_refused, judged_place, judged_name, judged_data, judged_document, reading_by_parts, cycles_view, trace_view, answer_view}
use Rattle.trace_reading.specs.Told.{IsSettingFor, AreRegistersOf, AreInputsOf, AreCyclesOf, IsGivenBy, IsReadFor}
use Rattle.trace_reading.specs.declared.outcome.FileTrace.{FileTrace}
use Rattle.trace_reading.specs.declared.outcome.TraceRead.{TraceRead}
use Rattle.trace_reading.specs.declared.outcome.TraceRead.TheVariants.{Trace, Refused}
use Rattle.trace_reading.proofs.Orderly.{IsInOrder, IsOrderly, AreOrderly, document_orderly, get_orderly, array_orderly, object_in_order}
use Rattle.trace_reading.proofs.Shapes.{AllEntries, AllCycles, each_entry, from_each, each_cycle, from_cycles, SaysFitting, fitting_says, says_passes, none_some, some_same}
use Rattle.trace_reading.proofs.Sites.{tests}
use Rattle.trace_reading.proofs.Filled.{registers_sorted, registers_rest, registers_told, inputs_sorted, inputs_told}
use Rattle.trace_reading.proofs.Full.{under_obligation, under_inputs, passes, HasAll, full_has_all, has_all_full}

-- ---- answers

abbrev rule_in : meaning.TraceRule → PartsReading → meaning.TraceRule
rule_in other (gives k rs is) = other
rule_in other (is_refused r) = r

abbrev IsGiving : PartsReading → Type 0
IsGiving (gives k rs is) = Unit {0}
IsGiving (is_refused r) = ⊥

abbrev place_in_it : PartsReading → ℕ
place_in_it (gives k rs is) = k
place_in_it (is_refused r) = 0

abbrev registers_in_it : PartsReading → List Value
registers_in_it (gives k rs is) = rs
registers_in_it (is_refused r) = []

abbrev cycles_in_it : PartsReading → List (List ℕ)
cycles_in_it (gives k rs is) = is
cycles_in_it (is_refused r) = []

module _ (s : Setting) (e : Parts) (bytes : List ℕ) where
  refusal : (answer : TraceRead) (rule : meaning.TraceRule) → is_refused rule ≡ answer_view answer → IsTraceReading s bytes (refused_by rule) → IsReadFor s e bytes answer
  refusal (Trace given) rule q h = absurd (subst IsGiving (sym q) tt)
  refusal (Refused r) rule q h = subst (λ x. IsTraceReading s bytes (refused_by x)) (ap (rule_in rule) q) h

  -- what a trace's answer asks
  pub record IsAnswered (t : PureTrace) (o : pure.Obligation) (k : ℕ) (rs : List Value) (is : List (List ℕ)) : Type 0 where
    pub reading : IsTraceReading s bytes (traces o t)
    pub place : slice_get (pure.obligations s.model s.map) k ≡ Some o
    pub registers : AreRegistersOf e t rs
    pub cycles : AreCyclesOf e t is

  answered : (answer : TraceRead) (t : PureTrace) (o : pure.Obligation) (k : ℕ) (rs : List Value) (is : List (List ℕ)) → gives k rs is ≡ answer_view answer
      → IsAnswered t o k rs is → IsReadFor s e bytes answer
  answered (Trace given) t o k rs is q h = (
    t,
    o,
    h.reading,
    record {
      obligation = ap (slice_get (pure.obligations s.model s.map)) (sym (ap place_in_it q)) ∙ h.place;
      registers = subst (AreRegistersOf e t) (ap registers_in_it q) h.registers;
      cycles = subst (AreCyclesOf e t) (ap cycles_in_it q) h.cycles;
    },
  )
  answered (Refused r) t o k rs is q h = absurd (subst IsGiving q tt)

-- ---- obligations

pub record IsNamedAt (os : List Obligation) (n : Name) (i : ℕ) : Type 0 where
  pub one : Obligation
  pub is_there : slice_get os i ≡ Some one
  pub is_named : string_bytes one.name ≡ n
  pub cycles : cycles_stated os i ≡ one.cycles

pub named_at : (os : List Obligation) (j : ℕ) (n : Name) (k : ℕ) → obligation_place j os n ≡ Some k → (i : ℕ) × (k ≡ j + i) × IsNamedAt os n i
named_at [] j n k q = absurd (none_some k q)
named_at (o ∷ os) j n k q = by (same_name (string_bytes o.name) n) refl q (named_at os (j + 1) n k)
  where
    by : (b : Bool) → same_name (string_bytes o.name) n ≡ b → cond b (Some j) (obligation_place (j + 1) os n) ≡ Some k
        → (obligation_place (j + 1) os n ≡ Some k → (i : ℕ) × (k ≡ (j + 1) + i) × IsNamedAt os n i) → (i : ℕ) × (k ≡ j + i) × IsNamedAt (o ∷ os) n i
    by true h f r =
        (0, omega (arith, some_same j k f), record { one = o; is_there = refl; is_named = (bytes_eq-Decides (string_bytes o.name) n).0 h; cycles = refl })
    by false h f r =
        let m = r f in
        (suc m.0, omega (arith, m.1), record { one = m.2.one; is_there = m.2.is_there; is_named = m.2.is_named; cycles = m.2.cycles })

none_named : (p : Map) (os : List Obligation) (j : ℕ) (n : Name) → obligation_place j os n ≡ None → (o : pure.Obligation) (k : ℕ) → k < length (map (obligation_of p) os)
    → get_or (map (obligation_of p) os) k o ≡ o → o.called ≡ n → ⊥
none_named p [] j n q o k l g c = absurd (omega (arith, l))
none_named p (x ∷ os) j n q o k l g c = by (same_name (string_bytes x.name) n) refl q k l g (none_named p os (j + 1) n)
  where
    is_none : {A : Type 0} (y : A) → Some y ≡ None → ⊥
    is_none y h = cc

    by : (b : Bool) → same_name (string_bytes x.name) n ≡ b → cond b (Some j) (obligation_place (j + 1) os n) ≡ None
        → (i : ℕ) → i < length (map (obligation_of p) (x ∷ os)) → get_or (map (obligation_of p) (x ∷ os)) i o ≡ o
        → (obligation_place (j + 1) os n ≡ None → (y : pure.Obligation) (m : ℕ) → m < length (map (obligation_of p) os) → get_or (map (obligation_of p) os) m y ≡ y → y.called ≡ n → ⊥)
        → ⊥
    by true h f i m g r = is_none j f
    by false h f zero m g r = true≢false (sym ((bytes_eq-Decides (string_bytes x.name) n).1 (ap (λ y. y.called) g ∙ c)) ∙ h)
    by false h f (suc i) m g r = r f o i (omega (arith, m)) g c

got_mapped : (p : Map) (os : List Obligation) (i : ℕ) (x : Obligation) → slice_get os i ≡ Some x → slice_get (map (obligation_of p) os) i ≡ Some (obligation_of p x)
got_mapped p [] i x q = absurd (none_some x q)
got_mapped p (o ∷ os) zero x q = ap (λ y. Some (obligation_of p y)) (some_same o x q)
got_mapped p (o ∷ os) (suc i) x q = got_mapped p os i x q

contained : {A : Type 0} (xs : List A) (i : ℕ) (x : A) → slice_get xs i ≡ Some x → Contains xs x
contained [] i x q = absurd (none_some x q)
contained (y ∷ ys) zero x q = (0, omega arith, some_same y x q)
contained (y ∷ ys) (suc i) x q = let r = contained ys i x q in (suc r.0, omega (arith, r.1), r.2)

-- ---- the whole

module _ (s : Setting) (e : Parts) (os : List Obligation) (setting : IsSettingFor s e os) (counting : IsTrue (are_bits_for (registers_of e) e.bits)) (plain : IsTrue (are_words (inputs_of e))) (bytes : List ℕ) where
  abbrev R : Name → Value → Type 0
  R = IsRegisterValue (design_of s)

  abbrev I : Name → Value → Type 0
  I = IsInputValue (design_of s)

  cycles_are : (ds : Items) (cs : List (Entries Value)) → AreObjectsOf ds cs → cycles_fit e ds ≡ true → AreOrderly ds → AllCycles I cs
      → (k : ℕ) (es : Entries Value) (ns : List ℕ) → slice_get cs k ≡ Some es → slice_get (cycles_of_items e ds) k ≡ Some ns → AreInputsOf e es ns
  cycles_are no_items cs a h o i k es ns p q = absurd (none_some ns q)
  cycles_are (item d ds) [] a h o i k es ns p q = absurd a
  cycles_are (item d ds) (fs ∷ cs) a h o i zero es ns p q =
      let t = and_parts (cycle_fits e (as_object d)) (cycles_fit e ds) h in
      let ms = a.0.0 in
      let fits = ap (cycle_fits e) (sym a.0.1) ∙ t.0 in
      let order = object_in_order d ms o.0 a.0.1 in
      subst (λ xs. AreInputsOf e xs ns) (some_same fs es p)
      (subst (AreInputsOf e fs) (some_same (inputs_given e d) ns q)
      (record {
        sorted = inputs_sorted (design_of s) e setting.design setting.of_text counting plain d ms a.0.1 fits;
        told = inputs_told (design_of s) e setting.design setting.of_text counting plain d ms a.0.1 fits fs a.0.2 order i.0;
      }))
  cycles_are (item d ds) (fs ∷ cs) a h o i (suc k) es ns p q =
      cycles_are ds cs a.1 (and_parts (cycle_fits e (as_object d)) (cycles_fit e ds) h).1 o.1 i.1 k es ns p q

  same_length : (ds : Items) (cs : List (Entries Value)) → AreObjectsOf ds cs → length (cycles_of_items e ds) ≡ length cs
  same_length no_items cs a = ap length (sym a)
  same_length (item d ds) [] a = absurd a
  same_length (item d ds) (fs ∷ cs) a = ap suc (same_length ds cs a.1)

  module _ (file : Data) (is_document : document bytes ≡ Some file) (fitting : is_fitting e file ≡ true) (says : SaysFitting e R I (tests (design_of s) e setting.design setting.of_text counting plain) file) where
    abbrev t : PureTrace
    t = says.trace

    orderly : IsOrderly file
    orderly = document_orderly bytes file is_document

    says_trace : SaysTrace s bytes t
    says_trace = record {
      data_in = file;
      is_document = is_document;
      is_shape = says.is_shape;
      fits = record {
        registers = λ n x c. each_entry R t.registers n x says.registers c;
        inputs = λ es n x c i. each_entry I es n x (each_cycle I t.inputs es says.inputs c) i;
      };
    }

    registers_are : AreRegistersOf e t (registers_given e file)
    registers_are =
        let a = says.is_shape in
        let ms = a.are_registers.0 in
        let fits = (passes e file t a fitting).0 in
        let order = object_in_order a.registers ms (get_orderly (codes "registers") file a.registers orderly a.has_registers) a.are_registers.1 in record {
          sorted = registers_sorted (design_of s) e setting.design setting.of_text counting plain file a.registers ms a.has_registers a.are_registers.1 fits;
          told = registers_told (design_of s) e setting.design setting.of_text counting plain file a.registers ms a.has_registers a.are_registers.1 fits t.registers a.are_registers.2 order says.registers;
          rest = registers_rest (design_of s) e setting.design setting.of_text counting plain file a.registers ms a.has_registers a.are_registers.1 fits;
        }

    cycles_are_all : AreCyclesOf e t (cycles_given e file)
    cycles_are_all =
        let a = says.is_shape in
        let listed : cycles_given e file ≡ cycles_of_items e a.cycles = ap (cycles_listed e) (under_inputs file t a) in
        let order = array_orderly a.inputs a.cycles (get_orderly (codes "inputs") file a.inputs orderly a.has_inputs) a.are_cycles in
        subst (AreCyclesOf e t) (sym listed)
        (record {
          all = same_length a.cycles t.inputs a.are_inputs;
          each = cycles_are a.cycles t.inputs a.are_inputs (passes e file t a fitting).1 order says.inputs;
        })

    by_full : (answer : TraceRead) (k : ℕ) (x : Obligation) → slice_get os k ≡ Some x → string_bytes x.name ≡ t.obligation → (b : Bool) → is_full e x.cycles file ≡ b
        → cond b (gives k (registers_given e file) (cycles_given e file)) (is_refused meaning.MissingValue) ≡ answer_view answer → IsReadFor s e bytes answer
    by_full answer k x at named b h q = by b h q
      where
        o : pure.Obligation
        o = obligation_of s.map x

        place : slice_get (pure.obligations s.model s.map) k ≡ Some o
        place = ap (λ xs. slice_get xs k) (sym setting.listed) ∙ got_mapped s.map os k x at

        is_named : IsObligationNamed s t.obligation o
        is_named = (contained (pure.obligations s.model s.map) k o place, named)

        by : (c : Bool) → is_full e x.cycles file ≡ c
            → cond c (gives k (registers_given e file) (cycles_given e file)) (is_refused meaning.MissingValue) ≡ answer_view answer → IsReadFor s e bytes answer
        by false h q =
            refusal s e bytes answer meaning.MissingValue q
            (not_full t o says_trace is_named (λ full. true≢false
            (sym (has_all_full (design_of s) e setting.design setting.of_text counting plain file t says.is_shape x.cycles
            (record { registers = full.registers; count = full.cycles; inputs = full.inputs })) ∙ h)))
        by true h q =
            let all = full_has_all (design_of s) e setting.design setting.of_text counting plain file t says.is_shape x.cycles h in
            answered s e bytes answer t o k (registers_given e file) (cycles_given e file) q
            (record {
              reading = is_trace t o says_trace is_named (record { registers = all.registers; cycles = all.count; inputs = all.inputs });
              place = place;
              registers = registers_are;
              cycles = cycles_are_all;
            })

    by_place : (answer : TraceRead) (p : Option ℕ) → obligation_place 0 os t.obligation ≡ p → judged_place e os file p ≡ answer_view answer → IsReadFor s e bytes answer
    by_place answer None h q =
        refusal s e bytes answer meaning.UnknownObligation q
        (no_obligation t says_trace (λ o named.
        let c : Contains (map (obligation_of s.map) os) o = subst (λ xs. Contains xs o) (sym setting.listed) named.0 in
        none_named s.map os 0 t.obligation h o c.0 c.1 c.2 named.1))
    by_place answer (Some k) h q =
        let m = named_at os 0 t.obligation k h in
        let same : m.0 ≡ k = omega (arith, m.1) in
        let at : IsNamedAt os t.obligation k = subst (IsNamedAt os t.obligation) same m.2 in
        by_full answer k at.one at.is_there at.is_named (is_full e at.one.cycles file) refl
        (ap (λ n. cond (is_full e n file) (gives k (registers_given e file) (cycles_given e file)) (is_refused meaning.MissingValue)) (sym at.cycles) ∙ q)

    pub by_fitting : (answer : TraceRead) → judged_name e os file (read_under as_str (codes "obligation") file) ≡ answer_view answer → IsReadFor s e bytes answer
    by_fitting answer q =
        by_place answer (obligation_place 0 os t.obligation) refl (ap (judged_name e os file) (sym (under_obligation file t says.is_shape)) ∙ q)

  no_trace : (file : Data) → document bytes ≡ Some file → is_fitting e file ≡ false → (t : PureTrace) → ¬ SaysTrace s bytes t
  no_trace file is_document unfit t says =
      let same : says.data_in ≡ file = some_same says.data_in file (sym says.is_document ∙ is_document) in
      let f = says.fits in
      true≢false
      (sym (says_passes e R I (tests (design_of s) e setting.design setting.of_text counting plain) says.data_in t says.is_shape
      (from_each R t.registers f.registers) (from_cycles I t.inputs (λ es c. from_each I es (λ n x i. f.inputs es n x c i))))
      ∙ (ap (is_fitting e) same ∙ unfit))

  by_data : (answer : TraceRead) (file : Data) → document bytes ≡ Some file → (b : Bool) → is_fitting e file ≡ b
      → cond b (judged_name e os file (read_under as_str (codes "obligation") file)) (is_refused meaning.BadShape) ≡ answer_view answer → IsReadFor s e bytes answer
  by_data answer file is_document false h q =
      refusal s e bytes answer meaning.BadShape q (no_fitting_trace file is_document (no_trace file is_document h))
  by_data answer file is_document true h q =
      by_fitting file is_document h (fitting_says e R I (tests (design_of s) e setting.design setting.of_text counting plain) file h) answer q

  by_document : (answer : TraceRead) (o : Option Data) → document bytes ≡ o → judged_document e os o ≡ answer_view answer → IsReadFor s e bytes answer
  by_document answer None is_document q = refusal s e bytes answer meaning.BadJson q (no_document is_document)
  by_document answer (Some file) is_document q = by_data answer file is_document (is_fitting e file) refl q

  pub is_read : (answer : TraceRead) → answer_view answer ≡ reading_by_parts e os bytes → IsReadFor s e bytes answer
  is_read answer q = by_document answer (document bytes) refl (sym q)
