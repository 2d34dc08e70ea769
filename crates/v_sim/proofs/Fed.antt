-- The inputs that a line gives.
use Rattle.std.proofs.Common.{◌≡◌, ◌≢◌, ◌∙◌, ℕ, ◌<◌, ◌^◌, Bool, true, false, cond, not, List, [], ◌∷◌, length, Some, refl, sym, ap, subst, arith, pow_pos, nat_lt}
use Rattle.std.proofs.lemmas.Bool.{and_parts, false≢true}
use Rattle.std.proofs.lemmas.Bool.Decides.{nat_tests}
use Rattle.wb_values.specs.Value.{Name, same_name, Sort, truth, word, memory, Value, truth_value, number, words, Valuation, with_value}
use Rattle.verilog_trees.specs.Syntax.{input}
use Rattle.verilog_meaning.specs.Expression.{Object, object_width, is_memory}
use Rattle.verilog_meaning.specs.Register.{word_count}
use Rattle.verilog_meaning.specs.Hierarchy.{Placed, placed_scope}
use Rattle.verilog_meaning.specs.Settled.{Design, at_path, HasPort, IsValueOf}
use Rattle.verilog_meaning.specs.Next.{AreInputs}
use Rattle.scripts.specs.Script.{with_word, with_sets}
use Rattle.design_scripts.specs.Simulation.{no_inputs, line_inputs}
use Rattle.v_design.specs.Parts.{Parts, registers_of, inputs_of, is_word, are_words, are_bits_for}
use Rattle.v_design.specs.Design.{IsSortOf, IsDesignOf}
use Rattle.ila_sim.specs.declared.set.Set.{Set}
use Rattle.ila_sim.specs.Lines.{sets_view}
use Rattle.ila_sim.specs.Places.{called_at}
use Rattle.ila_sim.specs.Sets.{suits, is_word_of, is_right, are_right}
use Rattle.v_sim.specs.Names.{word_width, input_settable, input_settables}
use Rattle.v_sim.proofs.Lists.{name_at, sort_at, same_is, suits_inside, left_part, right_part}
use Rattle.v_sim.proofs.Settings.{inputs_named, input_there, same_at, word_at}
use Rattle.v_sim.proofs.Named.{data_input}
use Rattle.v_sim.proofs.Values.{address_bits, is_address_bits}
use Rattle.v_sim.proofs.First.{suits_there}

number_set : (o : Object) (y : Value) (k x : ℕ) → IsValueOf o y → is_memory o ≡ false → x < 2 ^ object_width o → IsValueOf o (with_word y k x)
number_set o (truth_value b) k x v m l = absurd v
number_set o (number n) k x v m l = (v.0, l)
number_set o (words xs) k x v m l = absurd (false≢true (sym m ∙ v.0))

input_fits : (o : Object) (s : Sort) (x : ℕ) → is_word s ≡ true → IsSortOf o s → nat_lt x (2 ^ word_width s) ≡ true → x < 2 ^ object_width o
input_fits o truth x h g l = absurd (false≢true h)
input_fits o (memory a w) x h g l = absurd (false≢true h)
input_fits o (word w) x h g l = subst (λ u. x < 2 ^ u) g.1 (less l)
  where
    less : nat_lt x (2 ^ w) ≡ true → x < 2 ^ w
    less p = grind (arith, nat_tests)

one_top : (d : Design) (p q : Placed) → at_path d [] ≡ Some p → at_path d [] ≡ Some q → p ≡ q
one_top d p q a b = inside (sym a ∙ b)
  where
    inside : Some p ≡ Some q → p ≡ q
    inside e = cc

module _ (d : Design) (e : Parts) (meant : IsDesignOf d e) (counting : are_bits_for (registers_of e) e.bits ≡ true) (inputs_words : are_words (inputs_of e) ≡ true) where
  -- no input of the top is a memory
  pub input_no_memory : (p : Placed) (n : Name) → at_path d [] ≡ Some p → HasPort p.of_module n input → n ≢ d.clock → is_memory (placed_scope p n) ≡ false
  input_no_memory p n top port clock =
      by_test d e meant counting inputs_words p n top port clock (is_memory (placed_scope p n)) refl
    where
      by_test : (d' : Design) (e' : Parts) → IsDesignOf d' e' → are_bits_for (registers_of e') e'.bits ≡ true → are_words (inputs_of e') ≡ true
          → (q : Placed) (m : Name) → at_path d' [] ≡ Some q → HasPort q.of_module m input → m ≢ d'.clock → (t : Bool) → is_memory (placed_scope q m) ≡ t → t ≡ false
      by_test d' e' meant' counting' words' q m top' port' clock' false f = refl
      by_test d' e' meant' counting' words' q m top' port' clock' true f =
          let o = placed_scope q m in
          let s = memory (address_bits (word_count o)) (object_width o) in
          let c = meant'.all_inputs m s (record { top = q; is_top = top'; is_input = port'; no_clock = clock'; of_sort = (f, is_address_bits (word_count o), refl) }) in
          let there : sort_at (inputs_of e') c.0 ≡ s = ap (λ x. x.1) (same_at (inputs_of e') c.0 ([], truth) (m, s) c.1 ∙ c.2) in
          absurd (false≢true (subst (λ u. is_word u ≡ true) there (word_at (inputs_of e') c.0 words' c.1)))

  pub no_inputs_are : AreInputs d no_inputs
  no_inputs_are p n top port clock = (ap not (input_no_memory p n top port clock), pow_pos (object_width (placed_scope p n)))

  one_fed : (v : Valuation) (s : Set) → is_right (input_settables (inputs_of e)) s ≡ true → AreInputs d v
      → let c = called_at (input_settables (inputs_of e)) s.place in AreInputs d (with_value v c (with_word (v c) s.word s.value))
  one_fed v s right h p n top port clock =
      let is = inputs_of e in
      let b = inputs_named is in
      let l : s.place < length is = omega (arith, suits_inside (input_settables is) s.place s right, b.all) in
      let i = data_input d e meant counting inputs_words s.place l in
      let t = input_settable (name_at is s.place) (sort_at is s.place) in
      let fit : suits t s ≡ true = subst (λ y. suits y s ≡ true) (input_there is s.place t l) (suits_there (input_settables is) s.place s t right) in
      let small = (and_parts (is_word_of t.addresses s.word) (t.fits s.word s.value) fit).1 in
      let c = name_at is s.place in
      let x = with_word (v c) s.word s.value in
      let same_top = one_top d i.top p i.is_top top in
      let value : s.value < 2 ^ object_width (placed_scope i.top c) = input_fits (placed_scope i.top c) (sort_at is s.place) s.value (word_at is s.place inputs_words l) i.of_sort small in
      let of : IsValueOf (placed_scope i.top c) x =
      number_set (placed_scope i.top c) (v c) s.word s.value (h i.top c i.is_top i.is_input i.no_clock) (input_no_memory i.top c i.is_top i.is_input i.no_clock) value in
      subst (λ m. IsValueOf (placed_scope p n) (with_value v m (with_word (v m) s.word s.value) n)) (sym (b.called s.place l))
      (one (placed_scope p) c n x (v n) (subst (λ q. IsValueOf (placed_scope q c) x) same_top of) (h p n top port clock) (same_name c n) refl)
    where
      one : (scope : Name → Object) (c m : Name) (x y : Value) → IsValueOf (scope c) x → IsValueOf (scope m) y → (t : Bool) → same_name c m ≡ t → IsValueOf (scope m) (cond t x y)
      one scope c m x y g k true f = subst (λ q. IsValueOf (scope q) x) (same_is c m f) g
      one scope c m x y g k false f = k

  pub inputs_fed : (v : Valuation) (sets : List Set) → are_right (input_settables (inputs_of e)) sets ≡ true → AreInputs d v
      → AreInputs d (with_sets v (sets_view (input_settables (inputs_of e)) sets))
  inputs_fed v [] right h = h
  inputs_fed v (s ∷ sets) right h =
      let ss = input_settables (inputs_of e) in
      let c = called_at ss s.place in
      inputs_fed (with_value v c (with_word (v c) s.word s.value)) sets (right_part (is_right ss s) (are_right ss sets) right)
      (one_fed v s (left_part (is_right ss s) (are_right ss sets) right) h)

  pub line_fed : (sets : List Set) → are_right (input_settables (inputs_of e)) sets ≡ true → AreInputs d (line_inputs (sets_view (input_settables (inputs_of e)) sets))
  line_fed sets right = inputs_fed no_inputs sets right no_inputs_are
