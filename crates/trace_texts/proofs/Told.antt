-- The trace of a run's values tells the run.
use Rattle.std.proofs.Common.{◌≡◌, ℕ, zero, suc, ◌<◌, true, List, [], ◌∷◌, length, map, take, subst, refl, sym, ap, ◌∙◌, arith, Some, None, inl}
use Rattle.std.specs.Prelude.{IsTrue, slice_get, slice_index_or, Contains}
use Rattle.std.specs.Global.{Vec}
use Rattle.std.proofs.lemmas.Bool.{and_parts, false≢true}
use Rattle.std.proofs.lemmas.List.{get_or-map, length-map}
use Rattle.std.proofs.lemmas.List.Elements.{Contains-get_or}
use Rattle.wb_values.specs.Value.{Name, Sort, truth, word, memory, Value, truth_value, number, words, Valuation, Entries}
use Rattle.verilog_meaning.specs.Expression.{Object, object_width}
use Rattle.verilog_meaning.specs.Register.{word_count}
use Rattle.verilog_meaning.specs.Hierarchy.{Placed, placed_scope, dotted}
use Rattle.verilog_meaning.specs.Settled.{IsValueOf}
use Rattle.verilog_meaning.specs.Next.{AreRegisters, AreInputs}
use Rattle.verilog_registers.specs.Registers.{IsRegister}
use Rattle.verilog_exists.specs.Exists.{IsOfText}
use Rattle.refinement.specs.Map.{Setting, map_scope, design_of}
use Rattle.reports.specs.Report.{IsTraceRegister, IsInput, StandsFor, AreEntriesOf}
use Rattle.v_design.specs.Registers.{CountedBits, AreBitsOf}
use Rattle.v_design.specs.Parts.{Parts, registers_of, inputs_of, under_names, bits_by_name, are_bits_of, are_bits_for}
use Rattle.v_design.specs.Design.{IsDesignOf, IsSortOf, IsDataInput, values_under}
use Rattle.trace_texts.specs.Order.{register_name, input_name, register_bits, is_traced, is_any, input_places}
use Rattle.trace_texts.specs.Told.{numbers_of, shown, input_entry, TracesTell}
use Rattle.trace_texts.proofs.Bits.{set_there, there_set}
use Rattle.trace_texts.proofs.Dots.{means_there}
use Rattle.trace_texts.proofs.Sorted.{are_entries}

-- ---- lists

under_at : (ns : Entries Sort) (cs : List CountedBits) (k : ℕ) → IsTrue (are_bits_for ns cs) → k < length ns
    → Contains (under_names ns cs) ((slice_index_or ns k ([], truth)).0, slice_index_or cs k (record { least = None; masks = [] }))
under_at [] cs k h l = absurd (omega (arith, l))
under_at (n ∷ ns) [] k h l = absurd (false≢true h)
under_at (n ∷ ns) (c ∷ cs) zero h l = (0, omega arith, refl)
under_at (n ∷ ns) (c ∷ cs) (suc k) h l =
    let r = under_at ns cs k (and_parts (are_bits_of n.1 c) (are_bits_for ns cs) h).1 (omega (arith, l)) in
    (suc r.0, omega (arith, r.1), r.2)

value_at : (ns : Entries Sort) (v : Valuation) (rs : List Value) (k : ℕ) → values_under ns v ≡ rs → k < length ns
    → slice_index_or rs k (number 0) ≡ v (slice_index_or ns k ([], truth)).0
value_at ns v rs k e l = ap (λ xs. slice_index_or xs k (number 0)) (sym e) ∙ get_or-map (λ n. v n.0) ns k ([], truth) (number 0) l

-- the place of an element
place_of : (ns : Entries Sort) (n : Name) (s : Sort) → Contains ns (n, s) → (k : ℕ) × (k < length ns) × ((slice_index_or ns k ([], truth)).0 ≡ n)
place_of ns n s h = (h.0, h.1, at ns h.0 h.1 h.2)
  where
    at : (ms : Entries Sort) (k : ℕ) → k < length ms → slice_index_or ms k (n, s) ≡ (n, s) → (slice_index_or ms k ([], truth)).0 ≡ n
    at [] k l e = absurd (omega (arith, l))
    at (m ∷ ms) zero l e = ap (λ (p : Name × Sort). p.0) e
    at (m ∷ ms) (suc k) l e = at ms k (omega (arith, l)) e

-- ---- registers

module _ (s : Setting) (d : Parts) (design : IsDesignOf (design_of s) d) (text : IsOfText (design_of s)) (counting : IsTrue (are_bits_for (registers_of d) d.bits)) where
  -- what a place among the registers is
  record IsPlaceOf (k : ℕ) : Type 0 where
    place : Placed
    own : Name
    is_name : register_name d k ≡ dotted place.path own
    is_register : IsRegister (design_of s) place own
    bits : AreBitsOf place own (register_bits d k)

  bits_there : (k : ℕ) → k < length (registers_of d) → (p : Placed) (m : Name) → register_name d k ≡ dotted p.path m → IsRegister (design_of s) p m
      → AreBitsOf p m (register_bits d k)
  bits_there k l p m e is =
      design.bits_are p m (register_bits d k) is
      (subst (λ n. Contains (bits_by_name d) (n, register_bits d k)) e (under_at (registers_of d) d.bits k counting l))

  place_there : (k : ℕ) → k < length (registers_of d) → IsPlaceOf k
  place_there k l =
      let r = design.registers_are (register_name d k) (slice_index_or (registers_of d) k ([], truth)).1 (Contains-get_or (registers_of d) k ([], truth) l) in
      record { place = r.0; own = r.1; is_name = r.2; is_register = r.3; bits = bits_there k l r.0 r.1 r.2 r.3 }

  traced : (k : ℕ) → k < length (registers_of d) → is_traced d k ≡ true → IsTraceRegister (design_of s) (register_name d k)
  traced k l h =
      let p = place_there k l in
      let b = set_there (register_bits d k).masks h in
      record {
        place = p.place;
        own = p.own;
        word = b.0;
        bit = b.1;
        is_place = p.is_register.is_placed;
        is_declared = p.is_register.is_declared;
        counted = sym (p.bits.counted b.0 b.1) ∙ b.2;
        is_name = p.is_name;
      }

  found : (n : Name) → IsTraceRegister (design_of s) n → (k : ℕ) × (k < length (registers_of d)) × (is_traced d k ≡ true) × (register_name d k ≡ n)
  found n r =
      let is : IsRegister (design_of s) r.place r.own =
      record { is_placed = r.is_place; is_declared = r.is_declared; keeps = inl (record { word = r.word; bit = r.bit; counts = r.counted }) } in
      let c = design.all_registers r.place r.own is in
      let k = place_of (registers_of d) (dotted r.place.path r.own) c.0 c.1 in
      let b = bits_there k.0 k.1 r.place r.own k.2 is in
      (k.0, k.1, there_set (register_bits d k.0).masks r.word r.bit (b.counted r.word r.bit ∙ r.counted), k.2 ∙ sym r.is_name)

  stands_for : (c : CountedBits) (o : Object) (w : ℕ) (x : Value) → IsValueOf o x → length c.masks ≡ w → StandsFor w (shown c x) x
  stands_for c o w (truth_value b) h e = absurd h
  stands_for c o w (number y) h e = refl
  stands_for c o w (words xs) h e = ap (λ n. take n xs) e

  shows : (registers : Valuation) (rs : List Value) → AreRegisters (design_of s) registers → values_under (registers_of d) registers ≡ rs
      → (k : ℕ) → k < length (registers_of d) → is_traced d k ≡ true
      → StandsFor (word_count (map_scope s (register_name d k))) (shown (register_bits d k) (slice_index_or rs k (number 0))) (registers (register_name d k))
  shows registers rs are e k l h =
      let p = place_there k l in
      let fits : IsValueOf (placed_scope p.place p.own) (registers (dotted p.place.path p.own)) =
      are.fits p.place p.own p.is_register.is_placed p.is_register.is_declared in
      let same : map_scope s (register_name d k) ≡ placed_scope p.place p.own =
      ap (map_scope s) p.is_name ∙ means_there (design_of s) p.place p.own text.no_dots p.is_register.is_placed p.is_register.is_declared in
      subst (λ y. StandsFor (word_count (map_scope s (register_name d k))) (shown (register_bits d k) y) (registers (register_name d k)))
      (sym (value_at (registers_of d) registers rs k e l))
      (stands_for (register_bits d k) (placed_scope p.place p.own) (word_count (map_scope s (register_name d k))) (registers (register_name d k))
      (subst (λ n. IsValueOf (placed_scope p.place p.own) (registers n)) (sym p.is_name) fits)
      (p.bits.each_word ∙ ap word_count (sym same)))

  -- ---- inputs

  sort_of_value : (o : Object) (x : Value) → IsValueOf o x → (t : Sort) × IsSortOf o t
  sort_of_value o (truth_value b) h = absurd h
  sort_of_value o (number y) h = (word (object_width o), (h.0, refl))
  sort_of_value o (words xs) h = (memory h.1.address_width (object_width o), (h.0, h.1.is_address_width, refl))

  is_input : (k : ℕ) → k < length (inputs_of d) → is_any k ≡ true → IsInput (design_of s) (input_name d k)
  is_input k l h =
      let r = design.inputs_are (input_name d k) (slice_index_or (inputs_of d) k ([], truth)).1 (Contains-get_or (inputs_of d) k ([], truth) l) in
      record { place = r.top; is_place = r.is_top; is_port = r.is_input; other = r.no_clock }

  input_found : (inputs : Valuation) → AreInputs (design_of s) inputs → (n : Name) → IsInput (design_of s) n
      → (k : ℕ) × (k < length (inputs_of d)) × (is_any k ≡ true) × (input_name d k ≡ n)
  input_found inputs are n r =
      let t = sort_of_value (placed_scope r.place n) (inputs n) (are r.place n r.is_place r.is_port r.other) in
      let is : IsDataInput (design_of s) n t.0 = record { top = r.place; is_top = r.is_place; is_input = r.is_port; no_clock = r.other; of_sort = t.1 } in
      let k = place_of (inputs_of d) n t.0 (design.all_inputs n t.0 is) in
      (k.0, k.1, refl, k.2)

  number_there : (ns : List ℕ) (k : ℕ) → slice_index_or (map number ns) k (number 0) ≡ number (slice_index_or ns k 0)
  number_there [] k = refl
  number_there (n ∷ ns) zero = refl
  number_there (n ∷ ns) (suc k) = number_there ns k

  number_stands : (w x : ℕ) (y z : Value) → y ≡ number x → y ≡ z → StandsFor w y z
  number_stands w x y z e g =
      subst (λ a. StandsFor w a z) (sym e) (subst (λ b. StandsFor w (number x) b) (sym e ∙ g) refl)

  at_cycle : (inputs : Valuation) (ns : List ℕ) → AreInputs (design_of s) inputs → values_under (inputs_of d) inputs ≡ map number ns
      → AreEntriesOf s (IsInput (design_of s)) (map (input_entry d (map number ns)) (input_places d)) inputs
  at_cycle inputs ns are e =
      are_entries (input_name d) is_any (λ k. slice_index_or (map number ns) k (number 0)) s (IsInput (design_of s)) (length (inputs_of d)) inputs is_input
      (input_found inputs are)
      (λ k l h. number_stands (word_count (map_scope s (input_name d k))) (slice_index_or ns k 0) (slice_index_or (map number ns) k (number 0)) (inputs (input_name d k))
      (number_there ns k) (value_at (inputs_of d) inputs (map number ns) k e l))

-- ---- cycles

length_numbers : (is : List (Vec ℕ)) → length (numbers_of is) ≡ length is
length_numbers [] = refl
length_numbers (ns ∷ is) = ap suc (length_numbers is)

-- the entries of a cycle are those of its numbers
record IsCycle (is : List (Vec ℕ)) (f : List Value → Entries Value) (t : ℕ) (es : Entries Value) : Type 0 where
  numbers : List ℕ
  within : t < length is
  is_there : slice_get (numbers_of is) t ≡ Some (map number numbers)
  is_entries : f (map number numbers) ≡ es

cycle_of : (is : List (Vec ℕ)) (f : List Value → Entries Value) (t : ℕ) (es : Entries Value) → slice_get (map f (numbers_of is)) t ≡ Some es → IsCycle is f t es
cycle_of [] f t es e = cc
cycle_of (ns ∷ is) f zero es e = record { numbers = ns.items; within = omega arith; is_there = refl; is_entries = let h : f (map number ns.items) ≡ es = cc in h }
cycle_of (ns ∷ is) f (suc t) es e =
    let r = cycle_of is f t es e in
    record { numbers = r.numbers; within = omega (arith, r.within); is_there = r.is_there; is_entries = r.is_entries }

pub is_told : TracesTell
is_told s d o run rs is design text counting is_run values =
    record {
      named = refl;
      registers =
          are_entries (register_name d) (is_traced d) (λ k. shown (register_bits d k) (slice_index_or rs k (number 0))) s (IsTraceRegister (design_of s))
          (length (registers_of d)) (run.registers 0) (traced s d design text counting) (found s d design text counting)
          (shows s d design text counting (run.registers 0) rs is_run.first values.first);
      cycles = length-map (numbers_of is) (λ xs. map (input_entry d xs) (input_places d)) ∙ (length_numbers is ∙ values.cycles);
      inputs = λ k es e.
          let c = cycle_of is (λ xs. map (input_entry d xs) (input_places d)) k es e in
          let low : k < o.cycles = subst (λ n. k < n) values.cycles c.within in
          subst (λ es. AreEntriesOf s (IsInput (design_of s)) es (run.inputs k)) c.is_entries
          (at_cycle s d design text counting (run.inputs k) c.numbers (is_run.inputs k (omega (arith, low))) (values.inputs k (map number c.numbers) c.is_there));
    }
