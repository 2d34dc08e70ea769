-- The registers with which a script begins.
use Rattle.std.proofs.Common.{◌≡◌, ◌∙◌, ℕ, zero, suc, ◌<◌, ◌^◌, Bool, true, false, cond, List, [], ◌∷◌, length, get_or, slice_index, map, option_map, refl, sym, ap, subst, arith, pow_pos}
use Rattle.std.proofs.lemmas.Bool.{and_parts, false≢true}
use Rattle.std.proofs.lemmas.List.{length-map}
use Rattle.wb_values.specs.Value.{Name, same_name, Sort, truth, Value, truth_value, number, words, Entries, Valuation, with_value}
use Rattle.verilog_meaning.specs.Expression.{Object, object_width}
use Rattle.verilog_meaning.specs.Register.{is_set, value_bit}
use Rattle.verilog_meaning.specs.Hierarchy.{Placed, placed_scope, dotted}
use Rattle.verilog_meaning.specs.Settled.{Design, IsPlacedIn, IsDeclared, IsValueOf, is_counted, IsSettled}
use Rattle.verilog_meaning.specs.Next.{AreRegisters}
use Rattle.scripts.specs.Script.{Settable, with_word, with_sets, zero_value}
use Rattle.design_scripts.specs.Names.{span, HasCountedBits}
use Rattle.design_scripts.specs.Simulation.{AreZero, HasCycles}
use Rattle.v_design.specs.Registers.{CountedBits}
use Rattle.v_design.specs.Parts.{are_bits_for}
use Rattle.v_design.specs.Design.{values_under}
use Rattle.wb_terms.specs.Graph.{HasDistinctNames}
use Rattle.ila_sim.specs.declared.set.Set.{Set}
use Rattle.ila_sim.specs.Lines.{sets_view}
use Rattle.ila_sim.specs.Outcomes.{with_all}
use Rattle.ila_sim.specs.Places.{called_at}
use Rattle.ila_sim.specs.Sets.{suits, suits_at, is_word_of, is_right, are_right}
use Rattle.v_sim.specs.Names.{register_settable, register_settables}
use Rattle.v_sim.specs.Texts.{zeros}
use Rattle.v_sim.proofs.Bits.{set-none, below_from_bits}
use Rattle.v_sim.proofs.Lists.{name_at, sort_at, same_is, suits_inside, left_part, right_part, all_set}
use Rattle.v_sim.proofs.Settings.{bits_at, registers_named, register_there}
use Rattle.v_sim.proofs.Named.{IsRegisterAt, addressed_at, fitting_at, bit_below}
use Rattle.v_sim.proofs.Values.{set_fits, set_rest, is_zero}

-- ---- zeros

abbrev pub zeroed : Value → Value
zeroed (truth_value b) = number 0
zeroed (number n) = number 0
zeroed (words xs) = words (map (λ x. 0) xs)

no_words : (xs : List ℕ) (k : ℕ) → slice_index (map (λ (x : ℕ). 0) xs) k ≡ 0
no_words [] k = refl
no_words (x ∷ xs) zero = refl
no_words (x ∷ xs) (suc k) = no_words xs k

zero_fits : (o : Object) (x : Value) → IsValueOf o x → IsValueOf o (zeroed x)
zero_fits o (truth_value b) v = absurd v
zero_fits o (number n) v = (v.0, pow_pos (object_width o))
zero_fits o (words xs) v = (
  v.0,
  record {
    address_width = v.1.address_width;
    is_address_width = v.1.is_address_width;
    all = length-map xs (λ x. 0) ∙ v.1.all;
    narrow = λ k. subst (λ y. y < 2 ^ object_width o) (sym (no_words xs k)) (pow_pos (object_width o));
    past = λ k p. no_words xs k;
  },
)

zero_bit : (x : Value) (k b : ℕ) → value_bit (zeroed x) k b ≡ false
zero_bit (truth_value t) zero b = set-none b
zero_bit (truth_value t) (suc k) b = refl
zero_bit (number n) zero b = set-none b
zero_bit (number n) (suc k) b = refl
zero_bit (words xs) k b = ap (λ y. is_set y b) (no_words xs k) ∙ set-none b

-- of a settled valuation, the values with all bits 0
pub are_zero : (d : Design) (registers inputs v : Valuation) → IsSettled d registers inputs v → AreZero d (λ n. zeroed (v n))
are_zero d registers inputs v s = record {
  registers_are = record {
    fits = λ p n h g. zero_fits (placed_scope p n) (v (dotted p.path n)) ((s.modules p h).fits n g);
    rest_zero = λ p n k b h g c. zero_bit (v (dotted p.path n)) k b;
  };
  zero = λ p n k b h g. zero_bit (v (dotted p.path n)) k b;
}

pub alike : (ns : Entries Sort) (f g : Name × Sort → Value) → ((k : ℕ) → k < length ns → f (get_or ns k ([], truth)) ≡ g (get_or ns k ([], truth))) → map f ns ≡ map g ns
alike [] f g h = refl
alike (n ∷ ns) f g h = let here = h 0 (omega arith) in let there = alike ns f g (λ k l. h (suc k) (omega (arith, l))) in λ i. here i ∷ there i

pub zero_values : (d : Design) (ns : Entries Sort) (cs : List CountedBits) (z : Valuation) → ((k : ℕ) → k < length ns → IsRegisterAt d ns cs k) → AreZero d z → values_under ns z ≡ zeros ns
zero_values d ns cs z at h =
    alike ns (λ n. z n.0) (λ n. zero_value n.1) (λ k l.
    let r = at k l in
    let i = r.is_register in
    is_zero (placed_scope r.place r.name) (sort_at ns k) (z (name_at ns k)) r.sorted
    (subst (λ n. IsValueOf (placed_scope r.place r.name) (z n)) (sym r.called) (h.registers_are.fits r.place r.name i.is_placed i.is_declared))
    (λ j b. ap (λ n. value_bit (z n) j b) r.called ∙ h.zero r.place r.name j b i.is_placed i.is_declared))

-- ---- what is set

-- a value fits a net, variable or memory, and has bits alone that count
abbrev pub IsOf : Placed → Name → Value → Type 0
IsOf p n x = IsValueOf (placed_scope p n) x × ((k b : ℕ) → is_counted p n k b ≡ false → value_bit x k b ≡ false)

registers_set : (d : Design) (q : Placed) (m : Name) (v : Valuation) (x : Value) → HasCycles d → IsPlacedIn d q → IsDeclared q m → IsOf q m x → AreRegisters d v
    → AreRegisters d (with_value v (dotted q.path m) x)
registers_set d q m v x runs placed declared of h = record {
  fits = λ p n i j. (one p n i j (same_name (dotted q.path m) (dotted p.path n)) refl).0;
  rest_zero = λ p n k b i j. (one p n i j (same_name (dotted q.path m) (dotted p.path n)) refl).1 k b;
}
  where
    one : (p : Placed) (n : Name) → IsPlacedIn d p → IsDeclared p n → (t : Bool) → same_name (dotted q.path m) (dotted p.path n) ≡ t → IsOf p n (cond t x (v (dotted p.path n)))
    one p n i j true e =
        let same = runs.apart q p m n placed i declared j (same_is (dotted q.path m) (dotted p.path n) e) in
        subst (λ c. IsOf p c x) same.1 (subst (λ r. IsOf r m x) same.0 of)
    one p n i j false e = (h.fits p n i j, λ k b. h.rest_zero p n k b i j)

pub suits_there : (ss : List Settable) (k : ℕ) (s : Set) (t : Settable) → suits_at ss k s ≡ true → suits (get_or ss k t) s ≡ true
suits_there [] k s t h = absurd (false≢true h)
suits_there (u ∷ ss) zero s t h = h
suits_there (u ∷ ss) (suc k) s t h = suits_there ss k s t h

one_set : (d : Design) (ns : Entries Sort) (cs : List CountedBits) (v : Valuation) (s : Set) → HasCycles d → are_bits_for ns cs ≡ true
    → ((k : ℕ) → k < length ns → IsRegisterAt d ns cs k) → is_right (register_settables ns cs) s ≡ true → AreRegisters d v
    → let c = called_at (register_settables ns cs) s.place in AreRegisters d (with_value v c (with_word (v c) s.word s.value))
one_set d ns cs v s runs counting at right h =
    let ss = register_settables ns cs in
    let b = registers_named ns cs counting in
    let l : s.place < length ns = omega (arith, suits_inside ss s.place s right, b.all) in
    let r = at s.place l in
    let i = r.is_register in
    let t = register_settable (name_at ns s.place) (sort_at ns s.place) (bits_at cs s.place) in
    let fit : suits t s ≡ true = subst (λ y. suits y s ≡ true) (register_there ns cs s.place t counting l) (suits_there ss s.place s t right) in
    let p = and_parts (is_word_of t.addresses s.word) (t.fits s.word s.value) fit in
    let word : is_word_of (option_map span (placed_scope r.place r.name).addresses) s.word ≡ true = subst (λ a. is_word_of a s.word ≡ true) (addressed_at d ns cs s.place r) p.0 in
    let bits : HasCountedBits r.place r.name s.word s.value = (fitting_at d ns cs s.place r s.word s.value).0 p.1 in
    let old = h.fits r.place r.name i.is_placed i.is_declared in
    let n = dotted r.place.path r.name in
    let of : IsOf r.place r.name (with_word (v n) s.word s.value) = (
      set_fits (placed_scope r.place r.name) (v n) s.word s.value old word (below r.place r.name s.word s.value bits),
      set_rest (placed_scope r.place r.name) (v n) s.word s.value (is_counted r.place r.name) old word bits (λ j e. h.rest_zero r.place r.name j e i.is_placed i.is_declared),
    ) in
    subst (λ c. AreRegisters d (with_value v c (with_word (v c) s.word s.value))) (sym (b.called s.place l ∙ r.called))
    (registers_set d r.place r.name v (with_word (v n) s.word s.value) runs i.is_placed i.is_declared of h)
  where
    below : (p : Placed) (n : Name) (k x : ℕ) → HasCountedBits p n k x → x < 2 ^ object_width (placed_scope p n)
    below p n k x g = below_from_bits (object_width (placed_scope p n)) x (λ b t. bit_below p n k b (g b t))

pub all_registers_set : (d : Design) (ns : Entries Sort) (cs : List CountedBits) (v : Valuation) (sets : List Set) → HasCycles d → are_bits_for ns cs ≡ true
    → ((k : ℕ) → k < length ns → IsRegisterAt d ns cs k) → are_right (register_settables ns cs) sets ≡ true → AreRegisters d v
    → AreRegisters d (with_sets v (sets_view (register_settables ns cs) sets))
all_registers_set d ns cs v [] runs counting at right h = h
all_registers_set d ns cs v (s ∷ sets) runs counting at right h =
    let ss = register_settables ns cs in
    let c = called_at ss s.place in
    all_registers_set d ns cs (with_value v c (with_word (v c) s.word s.value)) sets runs counting at (right_part (is_right ss s) (are_right ss sets) right)
    (one_set d ns cs v s runs counting at (left_part (is_right ss s) (are_right ss sets) right) h)

pub first_values : (d : Design) (ns : Entries Sort) (cs : List CountedBits) (z : Valuation) (sets : List Set) → HasDistinctNames ns → are_bits_for ns cs ≡ true
    → ((k : ℕ) → k < length ns → IsRegisterAt d ns cs k) → are_right (register_settables ns cs) sets ≡ true → AreZero d z
    → values_under ns (with_sets z (sets_view (register_settables ns cs) sets)) ≡ with_all (zeros ns) sets
first_values d ns cs z sets distinct counting at right h =
    all_set ns (register_settables ns cs) z sets distinct (registers_named ns cs counting) right ∙ ap (λ xs. with_all xs sets) (zero_values d ns cs z at h)
