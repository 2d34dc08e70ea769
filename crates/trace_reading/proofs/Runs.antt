-- A run with the values of a trace is told by it.
use Rattle.std.proofs.Common.{◌≡◌, ◌∙◌, ℕ, zero, suc, ◌<◌, true, List, [], ◌∷◌, length, map, Option, Some, None, refl, sym, ap, subst, arith}
use Rattle.std.specs.Prelude.{slice_get, slice_index_or, Contains, IsTrue}
use Rattle.std.proofs.lemmas.List.{get_or-map}
use Rattle.wb_values.specs.Value.{Name, Sort, truth, Value, number, Valuation, Entries}
use Rattle.verilog_meaning.specs.Register.{word_count}
use Rattle.verilog_meaning.specs.Hierarchy.{placed_scope}
use Rattle.refinement.specs.Map.{Setting, map_scope, design_of}
use Rattle.refinement.specs.Run.{Run}
use Rattle.verilog_exists.specs.Exists.{IsOfText}
use Rattle.reports.specs.Report.{Trace, StandsFor}
use Rattle.trace_files.specs.Meaning.{IsFittingTrace}
use Rattle.v_design.specs.Parts.{Parts, registers_of, inputs_of, are_bits_for}
use Rattle.v_design.specs.Design.{IsDesignOf, values_under}
use Rattle.trace_texts.specs.Order.{register_name, input_name, register_bits}
use Rattle.trace_texts.proofs.Dots.{means_there}
use Rattle.trace_reading.specs.Told.{AreRegistersOf, AreInputsOf, AreCyclesOf, HasValues, RunsAreTold}
use Rattle.trace_reading.proofs.Shapes.{none_some, some_same}
use Rattle.trace_reading.proofs.Sites.{found, place_there, input_found}

value_at : (ns : Entries Sort) (v : Valuation) (rs : List Value) (k : ℕ) → values_under ns v ≡ rs → k < length ns
    → slice_index_or rs k (number 0) ≡ v (slice_index_or ns k ([], truth)).0
value_at ns v rs k e l = ap (λ xs. slice_index_or xs k (number 0)) (sym e) ∙ get_or-map (λ n. v n.0) ns k ([], truth) (number 0) l

-- lists of one length have elements at the same places
there_too : {A B : Type 0} (xs : List A) (ys : List B) (k : ℕ) (x : A) → length ys ≡ length xs → slice_get xs k ≡ Some x → (y : B) × (slice_get ys k ≡ Some y)
there_too [] ys k x e h = absurd (none_some x h)
there_too (a ∷ xs) [] k x e h = absurd (omega (arith, e))
there_too (a ∷ xs) (b ∷ ys) zero x e h = (b, refl)
there_too (a ∷ xs) (b ∷ ys) (suc k) x e h = there_too xs ys k x (omega (arith, e)) h

contained : {A : Type 0} (xs : List A) (k : ℕ) (x : A) → slice_get xs k ≡ Some x → Contains xs x
contained [] k x e = absurd (none_some x e)
contained (y ∷ ys) zero x e = (0, omega arith, some_same y x e)
contained (y ∷ ys) (suc k) x e = let r = contained ys k x e in (suc r.0, omega (arith, r.1), r.2)

number_there : (ns : List ℕ) (k : ℕ) → slice_index_or (map number ns) k (number 0) ≡ number (slice_index_or ns k 0)
number_there [] k = refl
number_there (n ∷ ns) zero = refl
number_there (n ∷ ns) (suc k) = number_there ns k

stands_itself : (w x : ℕ) (y z : Value) → y ≡ number x → z ≡ number x → StandsFor w y z
stands_itself w x y z e f = subst (λ a. StandsFor w a z) (sym e) (subst (λ b. StandsFor w (number x) b) (sym f) refl)

pub are_told : RunsAreTold
are_told s e t run registers cycles design text counting plain fits are is values =
    record {
      registers = λ n x c.
          let f = found (design_of s) e design text counting plain n (fits.registers n x c).is_register in
          let k = f.0 in
          let p = place_there (design_of s) e design text counting plain k f.1 in
          let named : Contains t.registers (register_name e k, x) = subst (λ m. Contains t.registers (m, x)) (sym f.3) c in
          let same : map_scope s n ≡ placed_scope p.place p.own =
          ap (map_scope s) (sym f.3 ∙ p.is_name) ∙ means_there (design_of s) p.place p.own text.no_dots p.is_register.is_placed p.is_register.is_declared in
          let count : length (register_bits e k).masks ≡ word_count (map_scope s n) = p.bits.each_word ∙ ap word_count (sym same) in
          subst (λ y. StandsFor (word_count (map_scope s n)) x y)
          (value_at (registers_of e) (run.registers 0) registers k values.first f.1 ∙ ap (run.registers 0) f.3)
          (subst (λ w. StandsFor w x (slice_index_or registers k (number 0))) count (are.told k x f.1 named));
      inputs = λ j es n x h c.
          let q = contained t.inputs j es h in
          let f = input_found (design_of s) e design text counting plain n (fits.inputs es n x q c).is_input in
          let k = f.0 in
          let ns = there_too t.inputs cycles j es is.all h in
          let of = is.each j es ns.0 h ns.1 in
          let named : Contains es (input_name e k, x) = subst (λ m. Contains es (m, x)) (sym f.2) c in
          let y = slice_index_or ns.0 k 0 in
          stands_itself (word_count (map_scope s n)) y x (run.inputs j n) (of.told k x f.1 named)
          (sym (value_at (inputs_of e) (run.inputs j) (map number ns.0) k (values.inputs j ns.0 ns.1) f.1 ∙ ap (run.inputs j) f.2) ∙ number_there ns.0 k);
    }
