-- One cycle: what the outputs settle to, and the registers after the edge.
use Rattle.std.proofs.Common.{◌≡◌, ◌∙◌, ℕ, suc, ◌<◌, Bool, true, false, cond, not, List, [], ◌∷◌, ◌++◌, length, get_or, Option, Some, None, option_map, refl, sym, ap, subst, arith}
use Rattle.std.proofs.lemmas.Bool.{false≢true}
use Rattle.wb_values.specs.Value.{Name, Sort, truth, Value, truth_value, number, words, numeral_of, Valuation, HasSort, Entries, entry_of}
use Rattle.verilog_trees.specs.Syntax.{Module}
use Rattle.verilog_meaning.specs.Expression.{Object, is_memory}
use Rattle.verilog_meaning.specs.Register.{value_bit}
use Rattle.verilog_meaning.specs.Hierarchy.{Placed, placed_scope, dotted, module_named, constants_of, no_overrides}
use Rattle.verilog_meaning.specs.Settled.{Design, at_path, IsPlacedIn, IsDeclared, IsValueOf, is_counted, inside, IsSettled, port_directions}
use Rattle.verilog_meaning.specs.Next.{AreRegisters, AreInputs, IsNext}
use Rattle.verilog_registers.specs.Registers.{IsRegister}
use Rattle.verilog_registers.specs.Outputs.{is_output, outputs_among}
use Rattle.design_scripts.specs.Simulation.{number_text, outputs_text}
use Rattle.wb_terms.specs.Graph.{HasDistinctNames}
use Rattle.wb_terms.specs.Environment.{AreOfSorts}
use Rattle.wb_terms.proofs.EnvironmentLemmas.{length-AreOfSorts, value_at}
use Rattle.wb_terms.proofs.EnvironmentLemmas as environment
use Rattle.v_design.specs.Parts.{Parts, registers_of, inputs_of, registers_after, are_bits_for, are_words}
use Rattle.v_design.specs.Design.{values_under, FitRegisters, after_cycle, IsNet, IsDesignOf}
use Rattle.v_sim.specs.Texts.{number_in, settled_number, outputs_by}
use Rattle.v_sim.proofs.Lists.{name_at, sort_at}
use Rattle.v_sim.proofs.Named.{register_at}
use Rattle.v_sim.proofs.Values.{has_sort, same_value}
use Rattle.v_sim.proofs.Shown.{output_declared}

-- ---- the top

top_is : (o : Option Module) (d : Design) (p : Placed) → option_map (λ m. record { path = []; of_module = m; constants = constants_of m no_overrides }) o ≡ Some p → p.path ≡ []
top_is None d p e = absurd (let f : None ≡ Some p = e in cc)
top_is (Some m) d p e =
    let q : Placed = record { path = []; of_module = m; constants = constants_of m no_overrides } in
    let f : Some q ≡ Some p = e in
    let g : q ≡ p = cc in
    sym (ap (λ r. r.path) g)

pub top_path : (d : Design) (p : Placed) → at_path d [] ≡ Some p → p.path ≡ []
top_path d p e = top_is (module_named d.source d.top) d p e

all_sorts : (ns : Entries Sort) (v : Valuation) → ((k : ℕ) → k < length ns → HasSort (v (name_at ns k)) (sort_at ns k)) → AreOfSorts ns (values_under ns v)
all_sorts [] v h = tt
all_sorts (n ∷ ns) v h = (h 0 (omega arith), all_sorts ns v (λ k l. h (suc k) (omega (arith, l))))

values_are : (ns : Entries Sort) (xs : List Value) (v : Valuation) → length xs ≡ length ns → ((k : ℕ) → k < length ns → v (name_at ns k) ≡ get_or xs k (number 0)) → values_under ns v ≡ xs
values_are [] [] v e h = refl
values_are [] (x ∷ xs) v e h = absurd (omega (arith, e))
values_are (n ∷ ns) [] v e h = absurd (omega (arith, e))
values_are (n ∷ ns) (x ∷ xs) v e h =
    let here = h 0 (omega arith) in
    let there = values_are ns xs v (omega (arith, e)) (λ k l. h (suc k) (omega (arith, l))) in λ i. here i ∷ there i

no_number : (o : Object) (x : Value) → is_memory o ≡ true → IsValueOf o x → numeral_of x ≡ 0
no_number o (truth_value b) m v = absurd v
no_number o (number n) m v = absurd (both_ways (is_memory o) m v.0)
  where
    both_ways : (t : Bool) → t ≡ true → not t ≡ true → ⊥
    both_ways true p q = false≢true q
    both_ways false p q = false≢true p
no_number o (words xs) m v = refl

not_both : (o q : Object) (x : Value) → is_memory o ≡ true → is_memory q ≡ false → IsValueOf o x → IsValueOf q x → ⊥
not_both o q (truth_value b) m n v w = v
not_both o q (number k) m n v w = both_ways (is_memory o) m v.0
  where
    both_ways : (t : Bool) → t ≡ true → not t ≡ true → ⊥
    both_ways true p q = false≢true q
    both_ways false p q = false≢true p
not_both o q (words xs) m n v w = false≢true (sym n ∙ w.0)

module _ (d : Design) (e : Parts) (meant : IsDesignOf d e) (counting : are_bits_for (registers_of e) e.bits ≡ true) (inputs_words : are_words (inputs_of e) ≡ true)
    (distinct : HasDistinctNames (registers_of e)) where
  pub fit_registers : (r : Valuation) → AreRegisters d r → FitRegisters e r
  fit_registers r h =
      all_sorts (registers_of e) r (λ k l.
      let a = register_at d e meant counting inputs_words k l in
      let i = a.is_register in
      has_sort (placed_scope a.place a.name) (sort_at (registers_of e) k) (r (name_at (registers_of e) k)) a.sorted
      (subst (λ n. IsValueOf (placed_scope a.place a.name) (r n)) (sym a.called) (h.fits a.place a.name i.is_placed i.is_declared)))

  module _ (r i v : Valuation) (registers_are : AreRegisters d r) (inputs_are : AreInputs d i) (settled : IsSettled d r i v) where
    abbrev rs : List Value
    rs = values_under (registers_of e) r

    abbrev is : List Value
    is = values_under (inputs_of e) i

    of_net : (p : Placed) (n : Name) → IsNet d p n → settled_number e rs is (dotted p.path n) ≡ numeral_of (v (dotted p.path n))
    of_net p n net =
        let s = meant.settles r i v p n (fit_registers r registers_are) inputs_are settled net in
        ap (number_in e rs is) s.is_term ∙ ap numeral_of s.is_worth

    of_memory : (p : Placed) (n : Name) → IsPlacedIn d p → IsDeclared p n → is_memory (placed_scope p n) ≡ true → (o : Option ℕ) → e.settled (dotted p.path n) ≡ o
        → number_in e rs is o ≡ numeral_of (v (dotted p.path n))
    of_memory p n placed declared m None f = sym (no_number (placed_scope p n) (v (dotted p.path n)) m ((settled.modules p placed).fits n declared))
    of_memory p n placed declared m (Some id) f =
        let t = meant.terms_are (dotted p.path n) id f in
        let q = t.0 in
        let k = t.1 in
        let net = t.3 in
        let other = subst (λ c. IsValueOf (placed_scope q k) (v c)) (sym t.2) ((settled.modules q net.is_placed).fits k net.is_declared) in
        absurd (not_both (placed_scope p n) (placed_scope q k) (v (dotted p.path n)) m net.no_memory ((settled.modules p placed).fits n declared) other)

    of_name : (p : Placed) (n : Name) → IsPlacedIn d p → IsDeclared p n → (t : Bool) → is_memory (placed_scope p n) ≡ t
        → settled_number e rs is (dotted p.path n) ≡ numeral_of (v (dotted p.path n))
    of_name p n placed declared true m = of_memory p n placed declared m (e.settled (dotted p.path n)) refl
    of_name p n placed declared false m = of_net p n (record { is_placed = placed; is_declared = declared; no_memory = m })

    module _ (top : Placed) (is_top : at_path d [] ≡ Some top) where
      output_is : (n : Name) → is_output (entry_of (port_directions top.of_module) n) ≡ true → settled_number e rs is n ≡ numeral_of (v n)
      output_is n h =
          let path = top_path d top is_top in
          let placed : IsPlacedIn d top = subst (λ p. at_path d p ≡ Some top) (sym path) is_top in
          subst (λ p. settled_number e rs is (dotted p n) ≡ numeral_of (v (dotted p n))) path
          (of_name top n placed (output_declared top.of_module n h) (is_memory (placed_scope top n)) refl)

      pub outputs_are : (ns : List Name) → outputs_by e rs is (outputs_among (port_directions top.of_module) ns) ≡ outputs_text (outputs_among (port_directions top.of_module) ns) v
      outputs_are [] = refl
      outputs_are (n ∷ ns) = one (is_output (entry_of (port_directions top.of_module) n)) (output_is n) (outputs_are ns)
        where
          one : (t : Bool) → (t ≡ true → settled_number e rs is n ≡ numeral_of (v n))
              → outputs_by e rs is (outputs_among (port_directions top.of_module) ns) ≡ outputs_text (outputs_among (port_directions top.of_module) ns) v
              → outputs_by e rs is (cond t (n ∷ outputs_among (port_directions top.of_module) ns) (outputs_among (port_directions top.of_module) ns))
              ≡ outputs_text (cond t (n ∷ outputs_among (port_directions top.of_module) ns) (outputs_among (port_directions top.of_module) ns)) v
          one true h g = let here = h refl in λ j. number_text n (here j) ++ g j
          one false h g = g

    module _ (next : Valuation) (steps : IsNext d v next) (sorted : AreOfSorts (registers_of e) (registers_after e rs is)) where
      abbrev after : Valuation
      after = after_cycle e r i

      same_bit : (p : Placed) (n : Name) (k b : ℕ) → IsRegister d p n → (t : Bool) → is_counted p n k b ≡ t
          → value_bit (inside after p n) k b ≡ value_bit (inside next p n) k b
      same_bit p n k b h true c = meant.steps r i v next p n k b (fit_registers r registers_are) inputs_are settled steps h.is_placed h.is_declared c
      same_bit p n k b h false c =
          meant.rests r i v p n k b registers_are inputs_are settled h c ∙ sym (steps.registers.rest_zero p n k b h.is_placed h.is_declared c)

      after_at : (k : ℕ) → k < length (registers_of e) → after (name_at (registers_of e) k) ≡ get_or (registers_after e rs is) k (number 0)
      after_at k l = value_at (registers_of e) (registers_after e rs is) k ([], truth) (number 0) distinct sorted l

      next_at : (k : ℕ) → k < length (registers_of e) → next (name_at (registers_of e) k) ≡ get_or (registers_after e rs is) k (number 0)
      next_at k l =
          let ns = registers_of e in
          let a = register_at d e meant counting inputs_words k l in
          let h = a.is_register in
          let o = placed_scope a.place a.name in
          let there = after_at k l in
          let one : HasSort (after (name_at ns k)) (sort_at ns k) =
          subst (λ x. HasSort x (sort_at ns k)) (sym there) (environment.sort_at ns (registers_after e rs is) k ([], truth) (number 0) sorted l) in
          let two : HasSort (next (name_at ns k)) (sort_at ns k) =
          has_sort o (sort_at ns k) (next (name_at ns k)) a.sorted (subst (λ n. IsValueOf o (next n)) (sym a.called) (steps.registers.fits a.place a.name h.is_placed h.is_declared)) in
          sym (same_value o (sort_at ns k) (after (name_at ns k)) (next (name_at ns k)) a.sorted one two
          (λ j b. subst (λ n. value_bit (after n) j b ≡ value_bit (next n) j b) (sym a.called) (same_bit a.place a.name j b h (is_counted a.place a.name j b) refl)))
          ∙ there

      pub registers_next : values_under (registers_of e) next ≡ registers_after e rs is
      registers_next =
          values_are (registers_of e) (registers_after e rs is) next (length-AreOfSorts (registers_of e) (registers_after e rs is) sorted) next_at
