-- The texts of the inputs at each cycle, and places that are in range.
use Rattle.std.proofs.Common.{◌≡◌, ℕ, zero, suc, ◌+◌, ◌<◌, List, [], ◌∷◌, map, length, arith, Bool, true, false, cond}
use Rattle.std.specs.Prelude.{slice_index_or}
use Rattle.std.specs.Global.{Vec}
use Rattle.wb_values.specs.Value.{Name, same_name, Entries}
use Rattle.wb_terms.specs.Graph.{AllBelow}
use Rattle.reports.specs.Report.{is_before, object_texts}
use Rattle.v_design.specs.Parts.{Parts, registers_of, inputs_of}
use Rattle.trace_texts.specs.Order.{with_number, in_name_order, register_name, input_name, is_traced, is_any, register_places, input_places}
use Rattle.trace_texts.specs.Told.{numbers_of, input_entry}

abbrev pub cycle_texts : Parts → List ℕ → List (Vec ℕ) → List (List ℕ)
cycle_texts d places is = object_texts (map (λ xs. map (input_entry d xs) places) (numbers_of is))

module _ (name : ℕ → Name) (kept : ℕ → Bool) (count : ℕ) where
  abbrev AreBelow : Entries ℕ → Type 0
  AreBelow es = AllBelow count (map (λ e. e.1) es)

  below_with : (k : ℕ) (n : Name) (es : Entries ℕ) → k < count → AreBelow es → AreBelow (with_number n k es)
  below_with k n [] l h = (l, tt)
  below_with k n (e ∷ es) l h = by (same_name e.0 n) (is_before e.0 n) (below_with k n es l h.1)
    where
      by : (s t : Bool) → AreBelow (with_number n k es) → AreBelow (cond s ((e.0, k) ∷ es) (cond t (e ∷ with_number n k es) ((n, k) ∷ e ∷ es)))
      by true t g = (l, h.1)
      by false true g = (h.0, g)
      by false false g = (l, h)

  below : (k n : ℕ) (es : Entries ℕ) → k + n ≡ count → AreBelow es → AreBelow (in_name_order name kept k n es)
  below k zero es e h = h
  below k (suc n) es e h = below (suc k) n (cond (kept k) (with_number (name k) k es) es) (omega (arith, e)) (by (kept k))
    where
      by : (t : Bool) → AreBelow (cond t (with_number (name k) k es) es)
      by true = below_with k (name k) es (omega (arith, e)) h
      by false = h

pub registers_below : (d : Parts) → AllBelow (length (registers_of d)) (register_places d)
registers_below d = below (register_name d) (is_traced d) (length (registers_of d)) 0 (length (registers_of d)) [] (omega arith) tt

pub inputs_below : (d : Parts) → AllBelow (length (inputs_of d)) (input_places d)
inputs_below d = below (input_name d) is_any (length (inputs_of d)) 0 (length (inputs_of d)) [] (omega arith) tt

-- each of them is
pub one_below : (n : ℕ) (ks : List ℕ) (i : ℕ) → AllBelow n ks → i < length ks → slice_index_or ks i 0 < n
one_below n [] i h l = absurd (omega (arith, l))
one_below n (k ∷ ks) zero h l = h.0
one_below n (k ∷ ks) (suc i) h l = one_below n ks i h.1 (omega (arith, l))
