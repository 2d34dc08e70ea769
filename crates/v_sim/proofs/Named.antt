-- The names by a design's parts are those that a script may set of the design.
use Rattle.std.proofs.Common.{◌≡◌, ◌↔◌, ◌∙◌, ℕ, ◌<◌, ◌^◌, Bool, true, false, not, nat_lt, List, [], ◌∷◌, length, slice_index, map, Option, Some, None, is_some, unwrap_or, option_map, min, refl, sym, ap, ap₂, subst, arith, bit_and, IsTrue}
use Rattle.std.specs.Prelude.{Contains}
use Rattle.std.proofs.lemmas.Bool.{and_parts, and_from, false≢true}
use Rattle.std.proofs.lemmas.Bool.Decides.{nat_tests}
use Rattle.wb_values.specs.Value.{Name, Sort, truth, word, memory, Entries}
use Rattle.verilog_meaning.specs.Expression.{Object, object_width, is_memory}
use Rattle.verilog_meaning.specs.Register.{word_count, words_between, is_bit_of}
use Rattle.verilog_meaning.specs.Hierarchy.{Placed, placed_scope, dotted}
use Rattle.verilog_meaning.specs.Settled.{Design, is_counted, names_of}
use Rattle.verilog_registers.specs.Registers.{IsRegister}
use Rattle.verilog_registers.specs.Order.{AreRegisterNames}
use Rattle.design_scripts.specs.Names.{span, HasCountedBits, IsSettableRegister, IsSetInput, IsSettableInput, AreSettables}
use Rattle.v_design.specs.Registers.{CountedBits, AreBitsOf}
use Rattle.v_design.specs.Parts.{Parts, registers_of, inputs_of, under_names, are_bits_of, are_bits_for, is_word, are_words}
use Rattle.v_design.specs.Design.{IsSortOf, IsDataInput, IsDesignOf}
use Rattle.ila_sim.specs.Kinds.{fits_of, addresses_of}
use Rattle.v_sim.specs.Names.{word_width, kind_of, register_settable, register_settables, input_settable, names_by}
use Rattle.v_sim.proofs.Bits.{within_mask, mask_keeps, itself, below_from_bits}
use Rattle.v_sim.proofs.Lists.{name_at, sort_at}
use Rattle.v_sim.proofs.Settings.{bits_at, right_at, bits_named, name_there, same_at, registers_named, register_there, inputs_named, input_there, word_at}

-- what a design's register at a place is
pub record IsRegisterAt (d : Design) (ns : Entries Sort) (cs : List CountedBits) (k : ℕ) : Type 0 where
  pub place : Placed
  pub name : Name
  pub called : name_at ns k ≡ dotted place.path name
  pub is_register : IsRegister d place name
  pub sorted : IsSortOf (placed_scope place name) (sort_at ns k)
  pub bits : AreBitsOf place name (bits_at cs k)
  pub right : are_bits_of (sort_at ns k) (bits_at cs k) ≡ true

pub bit_below : (p : Placed) (n : Name) (k b : ℕ) → is_counted p n k b ≡ true → b < object_width (placed_scope p n)
bit_below p n k b h = less (and_parts (nat_lt k (word_count (placed_scope p n))) (nat_lt b (object_width (placed_scope p n))) (and_parts (is_bit_of (placed_scope p n) k b) _ h).0).1
  where
    less : nat_lt b (object_width (placed_scope p n)) ≡ true → b < object_width (placed_scope p n)
    less g = grind (arith, nat_tests)

addressed : (ends : Option (ℕ × ℕ)) (s : Sort) (c : CountedBits) → are_bits_of s c ≡ true → is_some (addresses_of (kind_of s c)) ≡ is_some ends
    → c.least ≡ option_map (λ a. min a.0 a.1) ends → length c.masks ≡ words_between ends → addresses_of (kind_of s c) ≡ option_map span ends
addressed None truth c r m l n = refl
addressed (Some a) truth c r m l n = absurd (false≢true m)
addressed None (word u) c r m l n = refl
addressed (Some a) (word u) c r m l n = absurd (false≢true m)
addressed None (memory b u) c r m l n = absurd (false≢true (sym m))
addressed (Some a) (memory b u) c r m l n = ap₂ (λ x y. Some (unwrap_or x 0, y)) l n

has_addresses : (o : Object) (s : Sort) (c : CountedBits) → IsSortOf o s → is_some (addresses_of (kind_of s c)) ≡ is_memory o
has_addresses o truth c h = absurd h
has_addresses o (word w) c h = turned (is_memory o) h.0
  where
    turned : (t : Bool) → not t ≡ true → false ≡ t
    turned true p = absurd (false≢true p)
    turned false p = refl
has_addresses o (memory a w) c h = sym h.0

fits_by : (o : Object) (s : Sort) (c : CountedBits) (k x : ℕ) → IsSortOf o s → x < 2 ^ object_width o → fits_of (kind_of s c) k x ≡ true
fits_by o truth c k x h l = absurd h
fits_by o (word w) c k x h l = test (subst (λ u. x < 2 ^ u) (sym h.1) l)
  where
    test : x < 2 ^ w → nat_lt x (2 ^ w) ≡ true
    test g = grind (arith, nat_tests)
fits_by o (memory a w) c k x h l = test (subst (λ u. x < 2 ^ u) (sym h.2) l)
  where
    test : x < 2 ^ w → nat_lt x (2 ^ w) ≡ true
    test g = grind (arith, nat_tests)

pub addressed_at : (d : Design) (ns : Entries Sort) (cs : List CountedBits) (k : ℕ) → (r : IsRegisterAt d ns cs k)
    → (register_settable (name_at ns k) (sort_at ns k) (bits_at cs k)).addresses ≡ option_map span (placed_scope r.place r.name).addresses
addressed_at d ns cs k r =
    let o = placed_scope r.place r.name in
    addressed o.addresses (sort_at ns k) (bits_at cs k) r.right (has_addresses o (sort_at ns k) (bits_at cs k) r.sorted) r.bits.addressed r.bits.each_word

pub fitting_at : (d : Design) (ns : Entries Sort) (cs : List CountedBits) (k : ℕ) → (r : IsRegisterAt d ns cs k) → (j x : ℕ)
    → IsTrue ((register_settable (name_at ns k) (sort_at ns k) (bits_at cs k)).fits j x) ↔ HasCountedBits r.place r.name j x
fitting_at d ns cs k r j x =
    let o = placed_scope r.place r.name in
    let s = sort_at ns k in
    let c = bits_at cs k in (
      λ h b t. sym (r.bits.counted j b) ∙ within_mask x (slice_index c.masks j) (and_parts (fits_of (kind_of s c) j x) _ h).1 b t,
      λ g. and_from _ _
          (fits_by o s c j x r.sorted (below_from_bits (object_width o) x (λ b t. bit_below r.place r.name j b (g b t))))
          (itself (bit_and x (slice_index c.masks j)) x (mask_keeps x (slice_index c.masks j) (λ b t. r.bits.counted j b ∙ g b t))),
    )

pub is_settable : (d : Design) (ns : Entries Sort) (cs : List CountedBits) (k : ℕ) → IsRegisterAt d ns cs k
    → IsSettableRegister d (register_settable (name_at ns k) (sort_at ns k) (bits_at cs k))
is_settable d ns cs k r = record {
  place = r.place;
  name = r.name;
  is_register = r.is_register;
  called = r.called;
  addressed = addressed_at d ns cs k r;
  fitting = fitting_at d ns cs k r;
}

map_called : (ns : Entries Sort) (cs : List CountedBits) → are_bits_for ns cs ≡ true → map (λ s. s.called) (register_settables ns cs) ≡ names_of ns
map_called [] cs h = refl
map_called (n ∷ ns) [] h = absurd (false≢true h)
map_called (n ∷ ns) (c ∷ cs) h = ap (λ ms. n.0 ∷ ms) (map_called ns cs (and_parts (are_bits_of n.1 c) _ h).1)

width_test : (o : Object) (s : Sort) (top : Bool) → is_word s ≡ true → IsSortOf o s → (x : ℕ) → IsTrue (nat_lt x (2 ^ word_width s)) ↔ (x < 2 ^ object_width o)
width_test o truth t h g x = absurd (false≢true h)
width_test o (memory a w) t h g x = absurd (false≢true h)
width_test o (word w) t h g x = (λ p. subst (λ u. x < 2 ^ u) g.1 (less p), λ p. test (subst (λ u. x < 2 ^ u) (sym g.1) p))
  where
    less : nat_lt x (2 ^ w) ≡ true → x < 2 ^ w
    less p = grind (arith, nat_tests)

    test : x < 2 ^ w → nat_lt x (2 ^ w) ≡ true
    test p = grind (arith, nat_tests)

no_memory : (o : Object) (s : Sort) → is_word s ≡ true → IsSortOf o s → is_memory o ≡ false
no_memory o truth h g = absurd (false≢true h)
no_memory o (memory a w) h g = absurd (false≢true h)
no_memory o (word w) h g = turned (is_memory o) g.0
  where
    turned : (t : Bool) → not t ≡ true → t ≡ false
    turned true p = absurd (false≢true p)
    turned false p = refl

module _ (d : Design) (e : Parts) (meant : IsDesignOf d e) (counting : are_bits_for (registers_of e) e.bits ≡ true) (inputs_words : are_words (inputs_of e) ≡ true) where
  pub register_at : (k : ℕ) → k < length (registers_of e) → IsRegisterAt d (registers_of e) e.bits k
  register_at k l =
      let ns = registers_of e in
      let cs = e.bits in
      let r = meant.registers_are (name_at ns k) (sort_at ns k) (name_there ns k l) in record {
        place = r.0;
        name = r.1;
        called = r.2;
        is_register = r.3;
        sorted = r.4;
        bits = meant.bits_are r.0 r.1 (bits_at cs k) r.3 (subst (λ n. Contains (under_names ns cs) (n, bits_at cs k)) r.2 (bits_named ns cs k counting l));
        right = right_at ns cs k counting l;
      }

  pub register_found : (p : Placed) (n : Name) → IsRegister d p n → (k : ℕ) × (k < length (registers_of e)) × (name_at (registers_of e) k ≡ dotted p.path n)
  register_found p n h =
      let r = meant.all_registers p n h in
      let c = r.1 in
      (c.0, c.1, ap (λ x. x.0) (same_at (registers_of e) c.0 ([], truth) (dotted p.path n, r.0) c.1 ∙ c.2))

  pub data_input : (k : ℕ) → k < length (inputs_of e) → IsDataInput d (name_at (inputs_of e) k) (sort_at (inputs_of e) k)
  data_input k l = meant.inputs_are (name_at (inputs_of e) k) (sort_at (inputs_of e) k) (name_there (inputs_of e) k l)

  input_settled : (k : ℕ) → k < length (inputs_of e) → IsSettableInput d (input_settable (name_at (inputs_of e) k) (sort_at (inputs_of e) k))
  input_settled k l =
      let i = data_input k l in
      let w = word_at (inputs_of e) k inputs_words l in
      let o = placed_scope i.top (name_at (inputs_of e) k) in record {
        is_input = record { top = i.top; is_top = i.is_top; is_input = i.is_input; no_clock = i.no_clock; no_memory = no_memory o (sort_at (inputs_of e) k) w i.of_sort };
        addressed = refl;
        fitting = λ j x. width_test o (sort_at (inputs_of e) k) true w i.of_sort x;
      }

  pub input_found : (n : Name) → IsSetInput d n → (k : ℕ) × (k < length (inputs_of e)) × (name_at (inputs_of e) k ≡ n)
  input_found n h =
      let o = placed_scope h.top n in
      let c = meant.all_inputs n (word (object_width o)) (record { top = h.top; is_top = h.is_top; is_input = h.is_input; no_clock = h.no_clock; of_sort = (ap not h.no_memory, refl) }) in
      (c.0, c.1, ap (λ x. x.0) (same_at (inputs_of e) c.0 ([], truth) (n, word (object_width o)) c.1 ∙ c.2))

  pub are_settables : AreSettables d (names_by e)
  are_settables =
      let ns = registers_of e in
      let is = inputs_of e in
      let r = registers_named ns e.bits counting in
      let i = inputs_named is in record {
        in_order = subst (AreRegisterNames d) (sym (map_called ns e.bits counting)) meant.in_order;
        registers = λ s c.
            let l : c.0 < length ns = subst (λ m. c.0 < m) r.all c.1 in
            subst (IsSettableRegister d) (sym (register_there ns e.bits c.0 s counting l) ∙ c.2) (is_settable d ns e.bits c.0 (register_at c.0 l));
        inputs = λ s c.
            let l : c.0 < length is = subst (λ m. c.0 < m) i.all c.1 in
            subst (IsSettableInput d) (sym (input_there is c.0 s l) ∙ c.2) (input_settled c.0 l);
        all_inputs = λ n h.
            let f = input_found n h in
            let t = input_settable (name_at is f.0) (sort_at is f.0) in
            (t, (f.0, subst (λ m. f.0 < m) (sym i.all) f.1, input_there is f.0 t f.1), f.2);
      }
