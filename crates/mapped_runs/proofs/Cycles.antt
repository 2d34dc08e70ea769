-- The registers at each cycle of a run are those that its values go on to.
use Rattle.std.proofs.Common.{◌≡◌, ◌≢◌, ◌∙◌, ℕ, zero, suc, ◌<◌, ◌≤◌, Bool, true, false, not, List, [], ◌∷◌, length, get_or, map, Some, refl, sym, ap, ap₂, subst, arith, pow_pos}
use Rattle.std.proofs.lemmas.Bool.{and_parts, false≢true}
use Rattle.wb_values.specs.Value.{Name, Sort, truth, word, memory, Value, number, Valuation, HasSort, Entries, value_or_zero}
use Rattle.verilog_trees.specs.Syntax.{input}
use Rattle.verilog_meaning.specs.Expression.{object_width, is_memory}
use Rattle.verilog_meaning.specs.Register.{word_count, value_bit}
use Rattle.verilog_meaning.specs.Hierarchy.{Placed, placed_scope, dotted}
use Rattle.verilog_meaning.specs.Settled.{Design, at_path, HasPort, IsValueOf, is_counted, inside, IsSettled}
use Rattle.verilog_meaning.specs.Next.{AreRegisters, AreInputs, IsNext}
use Rattle.verilog_registers.specs.Registers.{IsRegister}
use Rattle.refinement.specs.Map.{Setting, design_of}
use Rattle.refinement.specs.Run.{Run, IsRun}
use Rattle.ila_model.specs.Meaning.{zero_of}
use Rattle.wb_terms.specs.Graph.{HasDistinctNames}
use Rattle.wb_terms.specs.Environment.{AreOfSorts}
use Rattle.wb_terms.proofs.EnvironmentLemmas.{length-AreOfSorts}
use Rattle.wb_terms.proofs.EnvironmentLemmas as environment
use Rattle.v_design.specs.Parts.{Parts, registers_of, inputs_of, value_in, registers_after, is_word, are_words}
use Rattle.v_design.specs.Design.{IsSortOf, IsDataInput, values_under, FitRegisters, worth, after_cycle, IsDesignOf}
use Rattle.mapped_designs.specs.Runs.{Values, registers_at, worth_at, zero_inputs, worth_of_registers_at}
use Rattle.mapped_runs.specs.Sound.{IsSoundDesign}
use Rattle.mapped_runs.specs.Valued.{HasValues}
use Rattle.mapped_runs.proofs.Lists.{name_at, sort_at, name_there, same_at, distinct_take, values_are, entry_at, all_sorts}
use Rattle.mapped_runs.proofs.ObjectValues.{address_bits, is_address_bits, has_sort, same_value}

-- What a design's register at a place is.
pub record IsRegisterAt (d : Design) (ns : Entries Sort) (k : ℕ) : Type 0 where
  pub place : Placed
  pub name : Name
  pub called : name_at ns k ≡ dotted place.path name
  pub is_register : IsRegister d place name
  pub sorted : IsSortOf (placed_scope place name) (sort_at ns k)

pub word_at : (ns : Entries Sort) (k : ℕ) → are_words ns ≡ true → k < length ns → is_word (sort_at ns k) ≡ true
word_at [] k h l = absurd (omega (arith, l))
word_at (n ∷ ns) zero h l = (and_parts (is_word n.1) _ h).0
word_at (n ∷ ns) (suc k) h l = word_at ns k (and_parts (is_word n.1) _ h).1 (omega (arith, l))

zeros_under : (ns : Entries Sort) → are_words ns ≡ true → values_under ns (λ n. number 0) ≡ map (λ n. zero_of n.1) ns
zeros_under [] h = refl
zeros_under (n ∷ ns) h =
    let p = and_parts (is_word n.1) (are_words ns) h in
    let here = zero_word n.1 p.0 in
    let there = zeros_under ns p.1 in λ i. here i ∷ there i
  where
    zero_word : (s : Sort) → is_word s ≡ true → number 0 ≡ zero_of s
    zero_word truth g = absurd (false≢true g)
    zero_word (word w) g = refl
    zero_word (memory a w) g = absurd (false≢true g)

-- every name 0
abbrev pub no_inputs : Valuation
no_inputs n = number 0

module _ (d : Design) (e : Parts) (meant : IsDesignOf d e) (sound : IsSoundDesign e) where
  pub register_at : (k : ℕ) → k < length (registers_of e) → IsRegisterAt d (registers_of e) k
  register_at k l =
      let ns = registers_of e in
      let r = meant.registers_are (name_at ns k) (sort_at ns k) (name_there ns k l) in
      record { place = r.0; name = r.1; called = r.2; is_register = r.3; sorted = r.4 }

  pub data_input : (k : ℕ) → k < length (inputs_of e) → IsDataInput d (name_at (inputs_of e) k) (sort_at (inputs_of e) k)
  data_input k l = meant.inputs_are (name_at (inputs_of e) k) (sort_at (inputs_of e) k) (name_there (inputs_of e) k l)

  pub distinct_registers : HasDistinctNames (registers_of e)
  distinct_registers = distinct_take e.register_count e.graph.names meant.distinct

  -- no input of the top is a memory
  pub input_no_memory : (p : Placed) (n : Name) → at_path d [] ≡ Some p → HasPort p.of_module n input → n ≢ d.clock → is_memory (placed_scope p n) ≡ false
  input_no_memory p n top port clock = by_test d e meant sound p n top port clock (is_memory (placed_scope p n)) refl
    where
      by_test : (d' : Design) (e' : Parts) → IsDesignOf d' e' → IsSoundDesign e' → (q : Placed) (m : Name) → at_path d' [] ≡ Some q → HasPort q.of_module m input
          → m ≢ d'.clock → (t : Bool) → is_memory (placed_scope q m) ≡ t → t ≡ false
      by_test d' e' meant' sound' q m top' port' clock' false f = refl
      by_test d' e' meant' sound' q m top' port' clock' true f =
          let o = placed_scope q m in
          let s = memory (address_bits (word_count o)) (object_width o) in
          let c = meant'.all_inputs m s (record { top = q; is_top = top'; is_input = port'; no_clock = clock'; of_sort = (f, is_address_bits (word_count o), refl) }) in
          let there : sort_at (inputs_of e') c.0 ≡ s = ap (λ x. x.1) (same_at (inputs_of e') c.0 ([], truth) (m, s) c.1 ∙ c.2) in
          absurd (false≢true (subst (λ u. is_word u ≡ true) there (word_at (inputs_of e') c.0 sound'.words c.1)))

  pub no_inputs_are : AreInputs d no_inputs
  no_inputs_are p n top port clock = (ap not (input_no_memory p n top port clock), pow_pos (object_width (placed_scope p n)))

  pub zeros_are : values_under (inputs_of e) no_inputs ≡ zero_inputs e
  zeros_are = zeros_under (inputs_of e) sound.words

  pub fit_registers : (r : Valuation) → AreRegisters d r → FitRegisters e r
  fit_registers r h =
      all_sorts (registers_of e) r (λ k l.
      let a = register_at k l in
      let i = a.is_register in
      has_sort (placed_scope a.place a.name) (sort_at (registers_of e) k) (r (name_at (registers_of e) k)) a.sorted
      (subst (λ n. IsValueOf (placed_scope a.place a.name) (r n)) (sym a.called) (h.fits a.place a.name i.is_placed i.is_declared)))

  pub fit_inputs : (i : Valuation) → AreInputs d i → AreOfSorts (inputs_of e) (values_under (inputs_of e) i)
  fit_inputs i h =
      all_sorts (inputs_of e) i (λ k l.
      let a = data_input k l in
      let n = name_at (inputs_of e) k in
      has_sort (placed_scope a.top n) (sort_at (inputs_of e) k) (i n) a.of_sort (h a.top n a.is_top a.is_input a.no_clock))

  module _ (r i v next : Valuation) (registers_are : AreRegisters d r) (inputs_are : AreInputs d i) (settled : IsSettled d r i v) (steps : IsNext d v next) where
    abbrev after : List Value
    after = registers_after e (values_under (registers_of e) r) (values_under (inputs_of e) i)

    sorted : AreOfSorts (registers_of e) after
    sorted = sound.keeps (values_under (registers_of e) r) (values_under (inputs_of e) i) (fit_registers r registers_are) (fit_inputs i inputs_are)

    same_bit : (p : Placed) (n : Name) (k b : ℕ) → IsRegister d p n → (t : Bool) → is_counted p n k b ≡ t
        → value_bit (inside (after_cycle e r i) p n) k b ≡ value_bit (inside next p n) k b
    same_bit p n k b h true c = meant.steps r i v next p n k b (fit_registers r registers_are) inputs_are settled steps h.is_placed h.is_declared c
    same_bit p n k b h false c =
        meant.rests r i v p n k b registers_are inputs_are settled h c ∙ sym (steps.registers.rest_zero p n k b h.is_placed h.is_declared c)

    after_at : (k : ℕ) → k < length (registers_of e) → after_cycle e r i (name_at (registers_of e) k) ≡ get_or after k (number 0)
    after_at k l = ap value_or_zero (entry_at (registers_of e) after k (number 0) distinct_registers sorted l)

    next_at : (k : ℕ) → k < length (registers_of e) → next (name_at (registers_of e) k) ≡ get_or after k (number 0)
    next_at k l =
        let ns = registers_of e in
        let a = register_at k l in
        let h = a.is_register in
        let o = placed_scope a.place a.name in
        let there = after_at k l in
        let one : HasSort (after_cycle e r i (name_at ns k)) (sort_at ns k) =
        subst (λ x. HasSort x (sort_at ns k)) (sym there) (environment.sort_at ns after k ([], truth) (number 0) sorted l) in
        let two : HasSort (next (name_at ns k)) (sort_at ns k) =
        has_sort o (sort_at ns k) (next (name_at ns k)) a.sorted (subst (λ n. IsValueOf o (next n)) (sym a.called) (steps.registers.fits a.place a.name h.is_placed h.is_declared)) in
        sym (same_value o (sort_at ns k) (after_cycle e r i (name_at ns k)) (next (name_at ns k)) a.sorted one two
        (λ j b. subst (λ n. value_bit (after_cycle e r i n) j b ≡ value_bit (next n) j b) (sym a.called) (same_bit a.place a.name j b h (is_counted a.place a.name j b) refl)))
        ∙ there

    -- the registers after the edge
    pub registers_next : values_under (registers_of e) next ≡ after
    registers_next = values_are (registers_of e) after next (length-AreOfSorts (registers_of e) after sorted) next_at

-- ---- a run

module _ (s : Setting) (run : Run) (cycles : ℕ) (is_run : IsRun s run cycles) where
  pub registers_are : (t : ℕ) → t ≤ cycles → AreRegisters (design_of s) (run.registers t)
  registers_are zero l = is_run.first
  registers_are (suc t) l = (is_run.next t (omega (arith, l))).registers

  module _ (e : Parts) (meant : IsDesignOf (design_of s) e) (sound : IsSoundDesign e) (x : Values) (has : HasValues e run cycles x) where
    pub at_cycle_are : (t : ℕ) → t ≤ cycles → registers_at e x t ≡ values_under (registers_of e) (run.registers t)
    at_cycle_are zero l = sym has.first
    at_cycle_are (suc t) l =
        let early : t ≤ cycles = omega (arith, l) in
        ap₂ (registers_after e) (at_cycle_are t early) (sym (has.inputs t (omega (arith, l))))
        ∙ sym (registers_next (design_of s) e meant sound (run.registers t) (run.inputs t) (run.valuations t) (run.registers (suc t))
        (registers_are t early) (is_run.inputs t early) (is_run.settled t early) (is_run.next t (omega (arith, l))))

    -- what a term is worth at a cycle
    pub worth_is : (t : ℕ) → t < cycles → (id : ℕ) → worth_at e x t id ≡ worth e (run.registers t) (run.inputs t) id
    worth_is t l id = ap₂ (λ rs is. value_in e rs is id) (at_cycle_are t (omega (arith, l))) (sym (has.inputs t l))

    -- and where inputs are 0
    pub worth_of_registers_is : (t : ℕ) → t ≤ cycles → (id : ℕ) → worth_of_registers_at e x t id ≡ worth e (run.registers t) no_inputs id
    worth_of_registers_is t l id = ap₂ (λ rs is. value_in e rs is id) (at_cycle_are t l) (sym (zeros_are (design_of s) e meant sound))
