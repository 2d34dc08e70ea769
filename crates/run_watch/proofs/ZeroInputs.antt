-- Inputs that are 0.
use Rattle.std.proofs.Common.{◌≡◌, ◌∙◌, ◌-◌, ℕ, true, List, [], ◌∷◌, length, map, replicate, refl, sym, ap, subst}
use Rattle.std.proofs.lemmas.Bool.{and_parts, false≢true}
use Rattle.std.proofs.lemmas.List.{length-drop}
use Rattle.wb_values.specs.Value.{Sort, truth, word, memory, Value, number, Entries}
use Rattle.wb_terms.specs.Environment.{AreOfSorts}
use Rattle.ila_model.specs.Meaning.{zero_of}
use Rattle.ila_child.proofs.Initial.{zero_has_sort}
use Rattle.v_design.specs.Parts.{Parts, inputs_of, is_word, are_words}
use Rattle.mapped_designs.specs.Runs.{zero_inputs}

zero_word : (s : Sort) → is_word s ≡ true → number 0 ≡ zero_of s
zero_word truth h = absurd (false≢true h)
zero_word (word w) h = refl
zero_word (memory a w) h = absurd (false≢true h)

zeros_are : (ns : Entries Sort) → are_words ns ≡ true → map number (replicate (length ns) 0) ≡ map (λ n. zero_of n.1) ns
zeros_are [] h = refl
zeros_are (n ∷ ns) h =
    let p = and_parts (is_word n.1) (are_words ns) h in
    let head : number 0 ≡ zero_of n.1 = zero_word n.1 p.0 in
    let rest : map number (replicate (length ns) 0) ≡ map (λ m. zero_of m.1) ns = zeros_are ns p.1 in
    (λ i. head i ∷ rest i)

-- so many zeros as there are inputs
pub zeros_listed : (d : Parts) (xs : List ℕ) (n : ℕ) → are_words (inputs_of d) ≡ true → n ≡ length d.graph.names - d.register_count → xs ≡ replicate n 0
    → map number xs ≡ zero_inputs d
zeros_listed d xs n words count zeros =
    ap (map number) (zeros ∙ ap (λ k. replicate k 0) (count ∙ sym (length-drop d.register_count d.graph.names))) ∙ zeros_are (inputs_of d) words

zeros_fit : (ns : Entries Sort) → AreOfSorts ns (map (λ n. zero_of n.1) ns)
zeros_fit [] = tt
zeros_fit (n ∷ ns) = (zero_has_sort n.1, zeros_fit ns)

-- they are of the inputs' sorts
pub zeros_sorted : (d : Parts) (xs : List Value) → xs ≡ zero_inputs d → AreOfSorts (inputs_of d) xs
zeros_sorted d xs e = subst (AreOfSorts (inputs_of d)) (sym e) (zeros_fit (inputs_of d))
