-- Values of the design's sorts, 0 in what does not count, are those of a run of every length.
use Rattle.std.proofs.Common.{◌≡◌, ◌∙◌, ℕ, zero, suc, ◌<◌, ◌≤◌, ◌^◌, true, false, not, nat_lt, List, [], ◌∷◌, length, get_or, slice_index, slice_get, Option, Some, None, refl, sym, ap, subst, arith}
use Rattle.std.proofs.lemmas.Bool.{false≢true}
use Rattle.std.proofs.lemmas.Bool.Decides.{nat_tests}
use Rattle.wb_values.specs.Value.{Name, truth, word, Value, truth_value, number, words, Valuation, HasSort, entry_of, value_or_zero, valuation_of}
use Rattle.model_meaning.specs.Model.{value_or}
use Rattle.verilog_meaning.specs.Expression.{Object, object_width, is_memory}
use Rattle.verilog_meaning.specs.Register.{is_set, value_bit}
use Rattle.verilog_meaning.specs.Hierarchy.{Placed, placed_scope, dotted}
use Rattle.verilog_meaning.specs.Settled.{Design, at_path, IsPlacedIn, IsDeclared, IsValueOf, is_counted, IsSettled}
use Rattle.verilog_meaning.specs.Next.{AreRegisters, AreInputs}
use Rattle.verilog_designs.specs.Accepted.{IsAccepted}
use Rattle.refinement.specs.Map.{design_of}
use Rattle.verilog_exists.specs.Exists.{NamesHaveNoDots, IsOfText}
use Rattle.verilog_exists.proofs.Dots.{dots_tell}
use Rattle.verilog_exists.proofs.Spots.{plain_path, plain_declared}
use Rattle.verilog_exists.proofs.Exists.{settled_exists}
use Rattle.verilog_exists.proofs.Runs.{run_exists}
use Rattle.wb_terms.specs.Environment.{values_by_name}
use Rattle.wb_terms.proofs.EnvironmentLemmas.{length-AreOfSorts}
use Rattle.wb_terms.proofs.EnvironmentLemmas as environment
use Rattle.v_design.specs.Parts.{Parts, registers_of, inputs_of}
use Rattle.v_design.specs.Design.{values_under, IsDesignOf}
use Rattle.mapped_designs.specs.Runs.{Values, AreValuesOf, IsRestZero}
use Rattle.mapped_runs.specs.Sound.{IsSoundDesign}
use Rattle.mapped_runs.specs.Existing.{ValuesHaveRuns}
use Rattle.mapped_runs.proofs.Lists.{name_at, sort_at, some_same, same_at, distinct_drop, there_is, values_are, entry_at, StandsAt, stands_at}
use Rattle.mapped_runs.proofs.ObjectValues.{set-none, is_value, zeroed, zero_fits, zero_bit}
use Rattle.mapped_runs.proofs.Cycles.{register_at, distinct_registers, input_no_memory, no_inputs, no_inputs_are}
use Rattle.mapped_runs.proofs.ValuesOfRuns.{register_bits, bits_are}

-- a dotted name tells its module and its name there
apart : (d : Design) → NamesHaveNoDots d.source → (p q : Placed) (n m : Name) → IsPlacedIn d p → IsPlacedIn d q → IsDeclared p n → IsDeclared q m
    → dotted p.path n ≡ dotted q.path m → (p ≡ q) × (n ≡ m)
apart d dotless p q n m at there declared known e =
    let r = dots_tell p.path q.path n m (plain_path d dotless p.path p at) (plain_path d dotless q.path q there) (plain_declared d dotless p n at declared)
    (plain_declared d dotless q m there known) e in
    (some_same (sym at ∙ (ap (at_path d) r.0 ∙ there)), r.1)

past_end : (xs : List ℕ) (k : ℕ) → length xs ≤ k → slice_index xs k ≡ 0
past_end [] k l = refl
past_end (x ∷ xs) zero l = absurd (omega (arith, l))
past_end (x ∷ xs) (suc k) l = past_end xs k (omega (arith, l))

less_from : (x y : ℕ) → nat_lt x y ≡ true → x < y
less_from x y h = grind (arith, nat_tests)

word_fits : (o : Object) (x : Value) → is_memory o ≡ false → HasSort x (word (object_width o)) → IsValueOf o x
word_fits o (truth_value b) m h = absurd (false≢true h)
word_fits o (number n) m h = (ap not m, less_from n (2 ^ object_width o) h)
word_fits o (words xs) m h = absurd (false≢true h)

-- a value fits a net, variable or memory, and has bits alone that count
abbrev IsOf : Placed → Name → Value → Type 0
IsOf p n y = IsValueOf (placed_scope p n) y × ((k b : ℕ) → is_counted p n k b ≡ false → value_bit y k b ≡ false)

module _ (d : Design) (e : Parts) (meant : IsDesignOf d e) (sound : IsSoundDesign e) (accepted : IsAccepted d) (text : IsOfText d) (x : Values)
    (sorted : AreValuesOf e x) (rest : IsRestZero e x.first) where
  some_settled : (v : Valuation) × IsSettled d no_inputs no_inputs v
  some_settled = settled_exists d no_inputs no_inputs accepted text (no_inputs_are d e meant sound)

  -- each register has its value, and every other name is 0
  abbrev first : Valuation
  first n = value_or (entry_of (values_by_name (registers_of e) x.first) n) (zeroed (some_settled.0 n))

  register_is : (k : ℕ) (l : k < length (registers_of e)) (y : Value) → slice_get x.first k ≡ Some y
      → let a = register_at d e meant sound k l in IsOf a.place a.name y
  register_is k l y is_y =
      let ns = registers_of e in
      let a = register_at d e meant sound k l in
      let o = placed_scope a.place a.name in
      let c = register_bits d e meant sound k l in
      let bits = bits_are d e meant sound k c.0 l c.1 a in
      let has : HasSort y (sort_at ns k) =
      subst (λ z. HasSort z (sort_at ns k)) (there_is x.first k y (number 0) is_y) (environment.sort_at ns x.first k ([], truth) (number 0) sorted.first l) in
      let unset : (w b : ℕ) → is_set (slice_index c.0.masks w) b ≡ false → value_bit y w b ≡ false = λ w b u. rest k w b c.0 y c.1 is_y u in (
        is_value o (sort_at ns k) y a.sorted has
            (λ w b past. unset w b (ap (λ z. is_set z b) (past_end c.0.masks w (let long = bits.each_word in omega (arith, long, past))) ∙ set-none b)),
        λ w b uncounted. unset w b (bits.counted w b ∙ uncounted),
      )

  each : (p : Placed) (n : Name) → IsPlacedIn d p → IsDeclared p n → (o : Option Value) → entry_of (values_by_name (registers_of e) x.first) (dotted p.path n) ≡ o
      → IsOf p n (value_or o (zeroed (some_settled.0 (dotted p.path n))))
  each p n at declared None is =
      (zero_fits (placed_scope p n) (some_settled.0 (dotted p.path n)) ((some_settled.1.modules p at).fits n declared), λ k b c. zero_bit (some_settled.0 (dotted p.path n)) k b)
  each p n at declared (Some y) is =
      let s : StandsAt (registers_of e) x.first (dotted p.path n) y = stands_at (registers_of e) x.first (dotted p.path n) y is in
      let a = register_at d e meant sound s.place s.inside in
      let r = a.is_register in
      let same = apart d text.no_dots a.place p a.name n r.is_placed at r.is_declared declared (sym a.called ∙ s.called) in
      subst (λ m. IsOf p m y) same.1 (subst (λ q. IsOf q a.name y) same.0 (register_is s.place s.inside y s.has))

  are_registers : AreRegisters d first
  are_registers =
      record {
        fits = λ p n at declared. (each p n at declared (entry_of (values_by_name (registers_of e) x.first) (dotted p.path n)) refl).0;
        rest_zero = λ p n k b at declared. (each p n at declared (entry_of (values_by_name (registers_of e) x.first) (dotted p.path n)) refl).1 k b;
      }

  registers_have : values_under (registers_of e) first ≡ x.first
  registers_have =
      let ns = registers_of e in
      values_are ns x.first first (length-AreOfSorts ns x.first sorted.first)
      (λ k l. ap (λ o. value_or o (zeroed (some_settled.0 (name_at ns k)))) (entry_at ns x.first k (number 0) (distinct_registers d e meant sound) sorted.first l))

  abbrev fed : ℕ → Valuation
  fed t = valuation_of (values_by_name (inputs_of e) (x.inputs t))

  fed_at : (t k : ℕ) → k < length (inputs_of e) → fed t (name_at (inputs_of e) k) ≡ get_or (x.inputs t) k (number 0)
  fed_at t k l =
      ap value_or_zero (entry_at (inputs_of e) (x.inputs t) k (number 0) (distinct_drop e.register_count e.graph.names meant.distinct) (sorted.inputs t) l)

  are_inputs : (t : ℕ) → AreInputs d (fed t)
  are_inputs t p n top port clock =
      let o = placed_scope p n in
      let ns = inputs_of e in
      let s = word (object_width o) in
      let plain = input_no_memory d e meant sound p n top port clock in
      let c = meant.all_inputs n s (record { top = p; is_top = top; is_input = port; no_clock = clock; of_sort = (ap not plain, refl) }) in
      let there = same_at ns c.0 ([], truth) (n, s) c.1 ∙ c.2 in
      let has : HasSort (get_or (x.inputs t) c.0 (number 0)) (sort_at ns c.0) = environment.sort_at ns (x.inputs t) c.0 ([], truth) (number 0) (sorted.inputs t) c.1 in
      let value : get_or (x.inputs t) c.0 (number 0) ≡ fed t n = sym (fed_at t c.0 c.1) ∙ ap (λ z. fed t z.0) there in
      word_fits o (fed t n) plain (subst (λ z. HasSort z s) value (subst (HasSort (get_or (x.inputs t) c.0 (number 0))) (ap (λ z. z.1) there) has))

  inputs_have : (t : ℕ) → values_under (inputs_of e) (fed t) ≡ x.inputs t
  inputs_have t = values_are (inputs_of e) (x.inputs t) (fed t) (length-AreOfSorts (inputs_of e) (x.inputs t) (sorted.inputs t)) (λ k l. fed_at t k l)

pub values_have_runs : ValuesHaveRuns
values_have_runs s e x accepted text meant sound sorted rest =
    let d = design_of s in
    let run = run_exists s (first d e meant sound accepted text x sorted rest) (fed d e meant sound accepted text x sorted rest) accepted text
    (are_registers d e meant sound accepted text x sorted rest) (are_inputs d e meant sound accepted text x sorted rest) in (
      run.0,
      λ cycles. (
        run.3 cycles,
        record {
          first = ap (values_under (registers_of e)) run.1 ∙ registers_have d e meant sound accepted text x sorted rest;
          inputs = λ t l. ap (λ (f : ℕ → Valuation). values_under (inputs_of e) (f t)) run.2 ∙ inputs_have d e meant sound accepted text x sorted rest t;
        },
      ),
    )
