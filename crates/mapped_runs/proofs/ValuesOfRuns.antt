-- Every run has values, of the design's sorts, and 0 in what does not count.
use Rattle.std.proofs.Common.{◌≡◌, ◌∙◌, ℕ, zero, suc, ◌<◌, ◌≤◌, Bool, true, false, cond, nat_lt, List, [], ◌∷◌, length, slice_get, Some, None, refl, sym, ap, subst, arith}
use Rattle.std.specs.Prelude.{Contains}
use Rattle.std.proofs.lemmas.Bool.{and_parts, false≢true}
use Rattle.std.proofs.lemmas.Bool.Decides.{nat_tests}
use Rattle.std.proofs.lemmas.List.{length-map}
use Rattle.wb_values.specs.Value.{Name, Sort, Value, number, Valuation, Entries}
use Rattle.verilog_meaning.specs.Register.{value_bit}
use Rattle.verilog_meaning.specs.Settled.{Design, inside}
use Rattle.verilog_meaning.specs.Next.{AreRegisters}
use Rattle.refinement.specs.Map.{design_of}
use Rattle.refinement.specs.Run.{Run}
use Rattle.wb_terms.specs.Environment.{AreOfSorts}
use Rattle.v_design.specs.Registers.{CountedBits, AreBitsOf}
use Rattle.v_design.specs.Parts.{Parts, registers_of, inputs_of, under_names, are_bits_of, are_bits_for}
use Rattle.v_design.specs.Design.{values_under, IsDesignOf}
use Rattle.mapped_designs.specs.Runs.{IsRestZero, zero_inputs}
use Rattle.mapped_runs.specs.Sound.{IsSoundDesign}
use Rattle.mapped_runs.specs.Valued.{RunsHaveValues}
use Rattle.mapped_runs.proofs.Lists.{name_at, there_inside, there_is, values_at}
use Rattle.mapped_runs.proofs.Cycles.{IsRegisterAt, register_at, fit_registers, fit_inputs, no_inputs, no_inputs_are, zeros_are}

-- ---- the bits that count, at their places

right_length : (ns : Entries Sort) (cs : List CountedBits) → are_bits_for ns cs ≡ true → length cs ≡ length ns
right_length [] [] h = refl
right_length [] (c ∷ cs) h = absurd (false≢true h)
right_length (n ∷ ns) [] h = absurd (false≢true h)
right_length (n ∷ ns) (c ∷ cs) h = ap suc (right_length ns cs (and_parts (are_bits_of n.1 c) _ h).1)

pub bits_there : (cs : List CountedBits) (k : ℕ) → k < length cs → (c : CountedBits) × (slice_get cs k ≡ Some c)
bits_there [] k l = absurd (omega (arith, l))
bits_there (c ∷ cs) zero l = (c, refl)
bits_there (c ∷ cs) (suc k) l = bits_there cs k (omega (arith, l))

bits_named : (ns : Entries Sort) (cs : List CountedBits) (k : ℕ) (c : CountedBits) → slice_get cs k ≡ Some c → k < length ns
    → Contains (under_names ns cs) (name_at ns k, c)
bits_named ns [] k c e l = absurd (let f : None ≡ Some c = e in cc)
bits_named [] (b ∷ cs) k c e l = absurd (omega (arith, l))
bits_named (n ∷ ns) (b ∷ cs) zero c e l = (0, omega arith, let same : b ≡ c = cc in λ i. (n.0, same i))
bits_named (n ∷ ns) (b ∷ cs) (suc k) c e l =
    let r = bits_named ns cs k c e (omega (arith, l)) in
    let m = r.1 in (suc r.0, omega (arith, m), r.2)

module _ (d : Design) (e : Parts) (meant : IsDesignOf d e) (sound : IsSoundDesign e) where
  pub register_bits : (k : ℕ) → k < length (registers_of e) → (c : CountedBits) × (slice_get e.bits k ≡ Some c)
  register_bits k l = bits_there e.bits k (let long = right_length (registers_of e) e.bits sound.counting in omega (arith, l, long))

  -- a register's place has the bits that count of it
  pub bits_are : (k : ℕ) (c : CountedBits) (l : k < length (registers_of e)) → slice_get e.bits k ≡ Some c
      → (r : IsRegisterAt d (registers_of e) k) → AreBitsOf r.place r.name c
  bits_are k c l at_k r =
      meant.bits_are r.place r.name c r.is_register (subst (λ n. Contains (under_names (registers_of e) e.bits) (n, c)) r.called (bits_named (registers_of e) e.bits k c at_k l))

  pub rest_is_zero : (r : Valuation) → AreRegisters d r → IsRestZero e (values_under (registers_of e) r)
  rest_is_zero r h k w b c y at_k is_y unset =
      let ns = registers_of e in
      let l : k < length ns = (let i = there_inside (values_under ns r) k y is_y in let j = length-map ns (λ (n : Name × Sort). r n.0) in omega (arith, i, j)) in
      let a = register_at d e meant sound k l in
      let i = a.is_register in
      let counted = (bits_are k c l at_k a).counted w b in
      let same : y ≡ inside r a.place a.name = sym (there_is (values_under ns r) k y (number 0) is_y) ∙ (values_at ns r k (number 0) l ∙ ap r a.called) in
      ap (λ z. value_bit z w b) same ∙ h.rest_zero a.place a.name w b i.is_placed i.is_declared (sym counted ∙ unset)

-- inputs of the cycles of a run; later ones are 0
abbrev inputs_until : Parts → Run → ℕ → ℕ → List Value
inputs_until e run cycles t = cond (nat_lt t cycles) (values_under (inputs_of e) (run.inputs t)) (zero_inputs e)

pub runs_have_values : RunsHaveValues
runs_have_values s e run cycles meant sound is_run =
    let first = values_under (registers_of e) (run.registers 0) in (
      record { first = first; inputs = inputs_until e run cycles },
      record { first = refl; inputs = λ t l. sym (chosen t (nat_lt t cycles) (test t l)) },
      record { first = fit_registers (design_of s) e meant sound (run.registers 0) is_run.first; inputs = λ t. sorted t (nat_lt t cycles) refl },
      rest_is_zero (design_of s) e meant sound (run.registers 0) is_run.first,
    )
  where
    test : (t : ℕ) → t < cycles → nat_lt t cycles ≡ true
    test t l = grind (arith, nat_tests, l)

    less : (t : ℕ) → nat_lt t cycles ≡ true → t ≤ cycles
    less t l = grind (arith, nat_tests, l)

    chosen : (t : ℕ) (b : Bool) → b ≡ true → cond b (values_under (inputs_of e) (run.inputs t)) (zero_inputs e) ≡ values_under (inputs_of e) (run.inputs t)
    chosen t true h = refl
    chosen t false h = absurd (false≢true h)

    sorted : (t : ℕ) (b : Bool) → nat_lt t cycles ≡ b → AreOfSorts (inputs_of e) (cond b (values_under (inputs_of e) (run.inputs t)) (zero_inputs e))
    sorted t true h = fit_inputs (design_of s) e meant sound (run.inputs t) (is_run.inputs t (less t h))
    sorted t false h =
        subst (AreOfSorts (inputs_of e)) (zeros_are (design_of s) e meant sound)
        (fit_inputs (design_of s) e meant sound no_inputs (no_inputs_are (design_of s) e meant sound))
