-- The values that a file gives are of the sorts of the design's names, for whatever setting: no two of these names are equal.
use Rattle.std.proofs.Common.{◌≡◌, ◌∙◌, ℕ, zero, suc, ◌+◌, ◌^◌, ◌<◌, Bool, true, false, cond, ◌&&◌, List, [], ◌∷◌, length, map, take, drop, Option, Some, None, refl, sym, ap, subst, arith, true≢false}
use Rattle.std.specs.Prelude.{◌==◌, nat_lt, option_and_then, slice_get, slice_index_or, string_bytes, All, IsTrue, ⊤, codes}
use Rattle.std.proofs.lemmas.Bool.{and_parts, false≢true, eqb-true}
use Rattle.std.proofs.lemmas.List.{length-map}
use Rattle.std.proofs.lemmas.List.Elements.{All-nil, All-cons}
use Rattle.std.proofs.lemmas.Slice.Eq.{bytes_eq-Decides}
use Rattle.wb_values.specs.Value.{Name, same_name, Sort, truth, Value, number, Entries, entry_of}
use Rattle.serde_json.specs.Data.{Data, Items, no_items, item, Members}
use Rattle.serde_json.specs.Find.{get, get_member, as_str, as_array, as_object}
use Rattle.serde_json.specs.Events.{items_len}
use Rattle.model_files.specs.Shape.{document}
use Rattle.map_files.specs.Shape.{read_under}
use Rattle.wb_terms.specs.Graph.{HasDistinctNames}
use Rattle.wb_terms.specs.Environment.{AreOfSorts}
use Rattle.trace_files.specs.Meaning.{MissingValue, UnknownObligation, BadShape, BadJson}
use Rattle.trace_files.specs.Shape.{IsValueIn, of_number}
use Rattle.v_design.specs.Parts.{Parts, registers_of, inputs_of, are_bits_for, are_words}
use Rattle.v_design.specs.Seen.{register_values, input_values}
use Rattle.v_design.specs.declared.values.Inputs.{Inputs}
use Rattle.obligation_lists.specs.declared.claims.Obligation.{Obligation}
use Rattle.trace_texts.specs.Order.{register_name, input_name, register_bits, is_traced}
use Rattle.trace_reading.specs.Numbers.{numeral_in}
use Rattle.trace_reading.specs.Fitting.{bits_of_input, is_register_value, place_in, input_sort, all_members, register_fits, input_fits, register_named_fits, input_named_fits, has_trace_keys, are_registers, are_cycles, cycle_fits, cycles_fit, is_fitting, are_registers_given, are_all_cycles, are_cycles_given, is_full}
use Rattle.trace_reading.specs.Given.{registers_given, inputs_given, cycles_of_items, cycles_listed, cycles_given}
use Rattle.trace_reading.specs.Reading.{obligation_place, cycles_stated, PartsReading, gives, is_refused, judged_place, judged_name, judged_data, judged_document, reading_by_parts, cycles_view, answer_view}
use Rattle.trace_reading.specs.Told.{AreValuesFor, HasValuesFor}
use Rattle.trace_reading.specs.declared.outcome.FileTrace.{FileTrace}
use Rattle.trace_reading.specs.declared.outcome.TraceRead.{TraceRead}
use Rattle.trace_reading.specs.declared.outcome.TraceRead.TheVariants.{Trace, Refused}
use Rattle.trace_reading.proofs.Shapes.{FitsBits, value_there, number_there, none_some, some_same}
use Rattle.trace_reading.proofs.Sites.{place_sound}
use Rattle.trace_reading.proofs.Filled.{member_passes, values_sorted, numbers_sorted}
use Rattle.trace_reading.proofs.Whole.{IsNamedAt, named_at}

-- ---- one name has one place

abbrev name_at : Entries Sort → ℕ → Name
name_at ns k = (slice_index_or ns k ([], truth)).0

abbrev IsOnceNamed : Entries Sort → Type 0
IsOnceNamed ns = (i k : ℕ) → i < length ns → k < length ns → name_at ns i ≡ name_at ns k → i ≡ k

named_there : (ns : Entries Sort) (n : Name) (k : ℕ) → k < length ns → name_at ns k ≡ n → entry_of ns n ≡ None → ⊥
named_there [] n k l q h = absurd (omega (arith, l))
named_there (e ∷ ns) n k l q h = by k l q (same_name e.0 n) refl h (named_there ns n)
  where
    by : (j : ℕ) → j < length (e ∷ ns) → name_at (e ∷ ns) j ≡ n → (b : Bool) → same_name e.0 n ≡ b → cond b (Some e.1) (entry_of ns n) ≡ None
        → ((i : ℕ) → i < length ns → name_at ns i ≡ n → entry_of ns n ≡ None → ⊥) → ⊥
    by j m p true t f r = absurd (none_some e.1 (sym f))
    by zero m p false t f r = absurd (true≢false (sym ((bytes_eq-Decides e.0 n).1 p) ∙ t))
    by (suc j) m p false t f r = r j (omega (arith, m)) p f

once : (ns : Entries Sort) → HasDistinctNames ns → IsOnceNamed ns
once [] d i k l m q = absurd (omega (arith, l))
once (e ∷ ns) d zero zero l m q = refl
once (e ∷ ns) d zero (suc k) l m q = absurd (named_there ns e.0 k (omega (arith, m)) (sym q) d.0)
once (e ∷ ns) d (suc i) zero l m q = absurd (named_there ns e.0 i (omega (arith, l)) q d.0)
once (e ∷ ns) d (suc i) (suc k) l m q = ap suc (once ns d.1 i k (omega (arith, l)) (omega (arith, m)) q)

-- a place in a part of a list is one of the whole
taken : (n : ℕ) (ns : Entries Sort) (i : ℕ) → i < length (take n ns) → (i < length ns) × (name_at ns i ≡ name_at (take n ns) i)
taken zero ns i l = absurd (omega (arith, l))
taken (suc n) [] i l = absurd (omega (arith, l))
taken (suc n) (e ∷ ns) zero l = (omega arith, refl)
taken (suc n) (e ∷ ns) (suc i) l = let r = taken n ns i (omega (arith, l)) in (omega (arith, r.0), r.1)

dropped : (n : ℕ) (ns : Entries Sort) (i : ℕ) → i < length (drop n ns) → (j : ℕ) × (j ≡ n + i) × (j < length ns) × (name_at ns j ≡ name_at (drop n ns) i)
dropped zero ns i l = (i, omega arith, l, refl)
dropped (suc n) [] i l = absurd (omega (arith, l))
dropped (suc n) (e ∷ ns) i l = let r = dropped n ns i l in (suc r.0, omega (arith, r.1), omega (arith, r.2), r.3)

once_taken : (n : ℕ) (ns : Entries Sort) → IsOnceNamed ns → IsOnceNamed (take n ns)
once_taken n ns h i k l m q = let a = taken n ns i l in let b = taken n ns k m in h i k a.0 b.0 (a.1 ∙ (q ∙ sym b.1))

once_dropped : (n : ℕ) (ns : Entries Sort) → IsOnceNamed ns → IsOnceNamed (drop n ns)
once_dropped n ns h i k l m q =
    let a = dropped n ns i l in
    let b = dropped n ns k m in
    let same : a.0 ≡ b.0 = h a.0 b.0 a.2 b.2 (a.3 ∙ (q ∙ sym b.3)) in
    omega (arith, same, a.1, b.1)

-- ---- the readings that give values of their sorts

abbrev AreEachSorted : Parts → List (List ℕ) → Type 0
AreEachSorted e [] = ⊤
AreEachSorted e (ns ∷ cs) = AreOfSorts (inputs_of e) (map number ns) × AreEachSorted e cs

record IsSortedReading (e : Parts) (os : List Obligation) (k : ℕ) (rs : List Value) (is : List (List ℕ)) : Type 0 where
  listed : k < length os
  cycles : length is ≡ cycles_stated os k
  registers : AreOfSorts (registers_of e) rs
  inputs : AreEachSorted e is

abbrev IsGoodReading : Parts → List Obligation → PartsReading → Type 0
IsGoodReading e os (gives k rs is) = IsSortedReading e os k rs is
IsGoodReading e os (is_refused r) = ⊤

module _ (e : Parts) (once_registers : IsOnceNamed (registers_of e)) (once_inputs : IsOnceNamed (inputs_of e)) (counting : IsTrue (are_bits_for (registers_of e) e.bits)) (plain : IsTrue (are_words (inputs_of e))) where
  register_value : (k : ℕ) → k < length (registers_of e) → (c : Data) (o : Option ℕ) → place_in (registers_of e) (register_name e k) ≡ o → register_fits e o c ≡ true
      → (v : Value) × IsValueIn c v × FitsBits (register_bits e k) v
  register_value k l c None q h = absurd (false≢true h)
  register_value k l c (Some j) q h =
      let p = place_sound (registers_of e) (length (registers_of e)) (register_name e k) j q in
      subst (λ i. (v : Value) × IsValueIn c v × FitsBits (register_bits e i) v) (once_registers j k p.0 l p.1)
      (value_there (register_bits e j) c (and_parts (is_traced e j) (is_register_value (register_bits e j) c) h).1)

  input_value : (k : ℕ) → k < length (inputs_of e) → (c : Data) (o : Option ℕ) → place_in (inputs_of e) (input_name e k) ≡ o → input_fits e o c ≡ true
      → (x : ℕ) × IsValueIn c (number x) × (nat_lt x (2 ^ bits_of_input (input_sort e k)) ≡ true)
  input_value k l c None q h = absurd (false≢true h)
  input_value k l c (Some j) q h =
      let p = place_sound (inputs_of e) (length (inputs_of e)) (input_name e k) j q in
      subst (λ i. (x : ℕ) × IsValueIn c (number x) × (nat_lt x (2 ^ bits_of_input (input_sort e i)) ≡ true)) (once_inputs j k p.0 l p.1)
      (let x = number_there (bits_of_input (input_sort e j)) c h in (x.0, of_number x.0 x.1, x.2))

  under_key : (key : Name) (file : Data) (ms : Members) → read_under as_object key file ≡ Some ms → (d : Data) × (get key file ≡ Some d) × (as_object d ≡ Some ms)
  under_key key file ms h = by (get key file) refl h
    where
      by : (o : Option Data) → get key file ≡ o → option_and_then as_object o ≡ Some ms → (d : Data) × (get key file ≡ Some d) × (as_object d ≡ Some ms)
      by None q f = absurd (none_some ms f)
      by (Some d) q f = (d, q, f)

  registers_there : (file : Data) (o : Option Members) → read_under as_object (codes "registers") file ≡ o → are_registers e o ≡ true
      → AreOfSorts (registers_of e) (registers_given e file)
  registers_there file None q h = absurd (false≢true h)
  registers_there file (Some ms) q h =
      let u = under_key (codes "registers") file ms q in
      values_sorted e counting file u.0 ms u.1 u.2
      (λ k l c is. register_value k l c (place_in (registers_of e) (register_name e k)) refl (member_passes (register_named_fits e) ms (register_name e k) c h is))

  cycle_there : (d : Data) (o : Option Members) → as_object d ≡ o → cycle_fits e o ≡ true → AreOfSorts (inputs_of e) (map number (inputs_given e d))
  cycle_there d None q h = absurd (false≢true h)
  cycle_there d (Some ms) q h =
      numbers_sorted e plain d ms q
      (λ k l c is. input_value k l c (place_in (inputs_of e) (input_name e k)) refl (member_passes (input_named_fits e) ms (input_name e k) c h is))

  cycles_there : (ds : Items) → cycles_fit e ds ≡ true → AreEachSorted e (cycles_of_items e ds)
  cycles_there no_items h = tt
  cycles_there (item d ds) h =
      let p = and_parts (cycle_fits e (as_object d)) (cycles_fit e ds) h in
      (cycle_there d (as_object d) refl p.0, cycles_there ds p.1)

  all_there : (o : Option Items) → are_cycles e o ≡ true → AreEachSorted e (cycles_listed e o)
  all_there None h = absurd (false≢true h)
  all_there (Some ds) h = cycles_there ds h

  cycles_long : (ds : Items) → length (cycles_of_items e ds) ≡ items_len ds
  cycles_long no_items = refl
  cycles_long (item d ds) = ap suc (cycles_long ds)

  as_many : (n : ℕ) (o : Option Items) → are_all_cycles e n o ≡ true → length (cycles_listed e o) ≡ n
  as_many n None h = absurd (false≢true h)
  as_many n (Some ds) h = cycles_long ds ∙ eqb-true (items_len ds) n (and_parts (items_len ds == n) (are_cycles_given e ds) h).0

  module _ (os : List Obligation) (file : Data) (fitting : is_fitting e file ≡ true) where
    parts : (are_registers e (read_under as_object (codes "registers") file) ≡ true) × (are_cycles e (read_under as_array (codes "inputs") file) ≡ true)
    parts =
        let r = are_registers e (read_under as_object (codes "registers") file) in
        let c = are_cycles e (read_under as_array (codes "inputs") file) in
        and_parts r c (and_parts (has_trace_keys file) (r && c) fitting).1

    by_full : (k : ℕ) → k < length os → (b : Bool) → is_full e (cycles_stated os k) file ≡ b
        → IsGoodReading e os (cond b (gives k (registers_given e file) (cycles_given e file)) (is_refused MissingValue))
    by_full k l false h = tt
    by_full k l true h = record {
      listed = l;
      cycles =
          as_many (cycles_stated os k) (read_under as_array (codes "inputs") file)
          (and_parts (are_registers_given e file) (are_all_cycles e (cycles_stated os k) (read_under as_array (codes "inputs") file)) h).1;
      registers = registers_there file (read_under as_object (codes "registers") file) refl parts.0;
      inputs = all_there (read_under as_array (codes "inputs") file) parts.1;
    }

    at_place : (xs : List Obligation) (k : ℕ) (o : Obligation) → slice_get xs k ≡ Some o → k < length xs
    at_place [] k o q = absurd (none_some o q)
    at_place (x ∷ xs) zero o q = omega arith
    at_place (x ∷ xs) (suc k) o q = let r = at_place xs k o q in omega (arith, r)

    by_place : (n : Name) (p : Option ℕ) → obligation_place 0 os n ≡ p → IsGoodReading e os (judged_place e os file p)
    by_place n None h = tt
    by_place n (Some k) h =
        let m = named_at os 0 n k h in
        let same : m.0 ≡ k = omega (arith, m.1) in
        by_full k (subst (λ i. i < length os) same (at_place os m.0 m.2.one m.2.is_there)) (is_full e (cycles_stated os k) file) refl

    by_name : (o : Option Name) → IsGoodReading e os (judged_name e os file o)
    by_name None = tt
    by_name (Some n) = by_place n (obligation_place 0 os n) refl

  module _ (os : List Obligation) where
    by_data : (file : Data) (b : Bool) → is_fitting e file ≡ b
        → IsGoodReading e os (cond b (judged_name e os file (read_under as_str (codes "obligation") file)) (is_refused BadShape))
    by_data file false h = tt
    by_data file true h = by_name os file h (read_under as_str (codes "obligation") file)

    by_document : (o : Option Data) → IsGoodReading e os (judged_document e os o)
    by_document None = tt
    by_document (Some file) = by_data file (is_fitting e file) refl

each_sorted : (e : Parts) (is : List Inputs) → AreEachSorted e (cycles_view is) → All (λ i. AreOfSorts (inputs_of e) (input_values i)) is
each_sorted e [] h = All-nil (λ i. AreOfSorts (inputs_of e) (input_values i))
each_sorted e (i ∷ is) h = All-cons (λ j. AreOfSorts (inputs_of e) (input_values j)) i is h.0 (each_sorted e is h.1)

stated_at : (os : List Obligation) (k : ℕ) (o : Obligation) → slice_get os k ≡ Some o → cycles_stated os k ≡ o.cycles
stated_at [] k o q = absurd (none_some o q)
stated_at (x ∷ os) zero o q = ap (λ y. y.cycles) (some_same x o q)
stated_at (x ∷ os) (suc k) o q = stated_at os k o q

answered : (e : Parts) (os : List Obligation) (r : TraceRead) → IsGoodReading e os (answer_view r) → HasValuesFor e os r
answered e os (Trace t) h = record {
  listed = h.listed;
  cycles = λ o q. sym (length-map t.inputs.items (λ (i : Inputs). i.numbers.items)) ∙ (h.cycles ∙ stated_at os t.obligation o q);
  registers = h.registers;
  inputs = each_sorted e t.inputs.items h.inputs;
}
answered e os (Refused r) h = tt

pub has_values : (e : Parts) → HasDistinctNames e.graph.names → IsTrue (are_bits_for (registers_of e) e.bits) → IsTrue (are_words (inputs_of e)) → (os : List Obligation) (bytes : List ℕ) (r : TraceRead)
    → answer_view r ≡ reading_by_parts e os bytes → HasValuesFor e os r
has_values e distinct counting plain os bytes r q =
    let all = once e.graph.names distinct in
    answered e os r
    (subst (IsGoodReading e os) (sym q)
    (by_document e (once_taken e.register_count e.graph.names all) (once_dropped e.register_count e.graph.names all) counting plain os (document bytes)))
