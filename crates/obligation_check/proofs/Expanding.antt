-- What settling a term without memories says of the term of a run's store.
use Rattle.std.proofs.Common.{◌≡◌, ◌∙◌, ℕ, zero, suc, ◌+◌, ◌-◌, ◌*◌, ◌<◌, ◌≤◌, Bool, true, false, cond, ◌&&◌, List, [], ◌∷◌, length, map, get_or, take, Option, arith, refl, sym, ap, subst}
use Rattle.std.specs.Prelude.{IsTrue, nat_lt, decimal, vec_len}
use Rattle.std.proofs.lemmas.List.{length-map, length-append, length-drop, length-take-le, get_or-map}
use Rattle.std.proofs.lemmas.Bool.{lt-ltb, false≢true}
use Rattle.wb_values.specs.Value.{Name, Sort, truth, word, memory, Value, truth_value, number, words, Entries, Valuation, HasSort}
use Rattle.model_meaning.specs.Term.{val}
use Rattle.sat_base.specs.Formula.{Formula}
use Rattle.wb_terms.specs.Graph.{Graph, tree, HasDistinctNames}
use Rattle.wb_terms.specs.declared.values.Env.{Env}
use Rattle.wb_terms.specs.Environment.{as_value, values_of, Fits, valuation, value_of}
use Rattle.wb_terms.proofs.EnvironmentLemmas.{length-AreOfSorts, sort_at, value_at}
use Rattle.sat_gates.specs.Names.{names_in, is_blastable}
use Rattle.sat_gates.specs.Encodes.{Encodes}
use Rattle.sat_gates.specs.Layout.{variables_of, IsNumbered}
use Rattle.sat_settle.specs.Settled as settled
use Rattle.ob_mem.specs.declared.words.MemoryWord.{MemoryWord}
use Rattle.ob_mem.specs.Words.{listed, words_of, starts_of, entry_at, entry_of_word, HasWords}
use Rattle.ob_mem.specs.Spread.{GivesSorts, IsSpread}
use Rattle.ob_mem.proofs.Listing.{length-listed, get_or-listed}
use Rattle.v_design.specs.Registers.{CountedBits}
use Rattle.v_design.specs.Parts.{Parts, registers_of, inputs_of, is_word, are_words, are_bits_of, are_bits_for}
use Rattle.mapped_designs.specs.Runs.{zero_inputs}
use Rattle.run_terms.specs.Names.{names_of_run, values_from, first_input, values_of_run, FitsNames}
use Rattle.obligation_check.specs.Gathered.{number_at, gathered_value, gathered_values, words_in}
use Rattle.obligation_check.specs.Spread.{EncodesSpread}
use Rattle.obligation_check.specs.Found.{numbers_at, AreValues}
use Rattle.obligation_check.specs.declared.values.RunValues.{RunValues}
use Rattle.obligation_check.proofs.Named.{values_from_is, name_count, run_name, input_place, sort_of_register, sort_of_input}
use Rattle.obligation_check.proofs.Gathering.{length-words_of, words_in-take, length-gathered_values, gathered_is, gathered_place}

-- ---- the store without memories

pub record IsExpanded (g : Graph) (id : ℕ) (h : Graph) (goal : ℕ) : Type 0 where
  pub words : HasWords g.names h.names (words_of 0 (length g.names) g.names)
  pub distinct : HasDistinctNames h.names
  pub blastable : is_blastable (tree h goal) ≡ true
  pub same : (v w : Valuation) → IsSpread g.names h.names (words_of 0 (length g.names) g.names) v w → val (tree h goal) w ≡ val (tree g id) v
  pub spread : (v : Valuation) → GivesSorts g.names v → (w : Valuation) × IsSpread g.names h.names (words_of 0 (length g.names) g.names) v w × GivesSorts h.names w
  pub gathered : (w : Valuation) → GivesSorts h.names w → (v : Valuation) × IsSpread g.names h.names (words_of 0 (length g.names) g.names) v w

pub is_expanded : (g : Graph) (id : ℕ) (h : Graph) (goal : ℕ) (rs : List MemoryWord) → rs ≡ words_of 0 (length g.names) g.names → HasWords g.names h.names rs
    → HasDistinctNames h.names → is_blastable (tree h goal) ≡ true → ((v w : Valuation) → IsSpread g.names h.names rs v w → val (tree h goal) w ≡ val (tree g id) v)
    → ((v : Valuation) → GivesSorts g.names v → (w : Valuation) × IsSpread g.names h.names rs v w × GivesSorts h.names w)
    → ((w : Valuation) → GivesSorts h.names w → (v : Valuation) × IsSpread g.names h.names rs v w) → IsExpanded g id h goal
is_expanded g id h goal rs e words' distinct blastable same spread gathered = record {
  words = subst (HasWords g.names h.names) e words';
  distinct = distinct;
  blastable = blastable;
  same = subst (λ qs. (v w : Valuation) → IsSpread g.names h.names qs v w → val (tree h goal) w ≡ val (tree g id) v) e same;
  spread = subst (λ qs. (v : Valuation) → GivesSorts g.names v → (w : Valuation) × IsSpread g.names h.names qs v w × GivesSorts h.names w) e spread;
  gathered = subst (λ qs. (w : Valuation) → GivesSorts h.names w → (v : Valuation) × IsSpread g.names h.names qs v w) e gathered;
}

pub encodes_spread : (g : Graph) (id : ℕ) (h : Graph) (goal : ℕ) (firsts : List (Option ℕ)) (f : Formula) → IsExpanded g id h goal
    → Encodes f (variables_of h.names firsts) (tree h goal) → IsNumbered h.names (names_in (tree h goal)) firsts f.vars → EncodesSpread g id firsts f
encodes_spread g id h goal firsts f x encodes numbered = record {
  store = h;
  goal = goal;
  words = x.words;
  distinct = x.distinct;
  blastable = x.blastable;
  same = x.same;
  spread = x.spread;
  gathered = x.gathered;
  encodes = encodes;
  numbered = numbered;
}

by_contents : (es : Entries Sort) (w : Valuation) → GivesSorts es w → settled.FitsNames es w
by_contents es w h n s c =
    let k = c.0 in
    let same : entry_at es k ≡ (n, s) = Rattle.std.proofs.lemmas.List.get_or_default es k ([], truth) (n, s) c.1 ∙ c.2 in
    subst (λ (x : Name × Sort). HasSort (w x.0) x.1) same (h k c.1)

pub never_false : (g : Graph) (id : ℕ) (h : Graph) (goal : ℕ) → IsExpanded g id h goal
    → ((w : Valuation) → settled.FitsNames h.names w → ¬ (val (tree h goal) w ≡ truth_value false))
    → (v : Valuation) → FitsNames g.names v → ¬ (val (tree g id) v ≡ truth_value false)
never_false g id h goal x none v fits e =
    let s = x.spread v fits in
    none s.0 (by_contents h.names s.0 s.2) (x.same v s.0 s.1 ∙ e)

-- ---- values that break it

-- a design's registers are words or memories, and its inputs are words
pub record IsPlainDesign (d : Parts) : Type 0 where
  pub counted : d.register_count ≤ length d.graph.names
  pub counting : IsTrue (are_bits_for (registers_of d) d.bits)
  pub words : IsTrue (are_words (inputs_of d))

and_left : (a b : Bool) → IsTrue (a && b) → IsTrue a
and_left true b h = refl
and_left false b h = h

and_right : (a b : Bool) → IsTrue (a && b) → IsTrue b
and_right true b h = h
and_right false b h = absurd (false≢true h)

no_truth_of : (ns : Entries Sort) (cs : List CountedBits) (i : ℕ) → IsTrue (are_bits_for ns cs) → i < length ns → (entry_at ns i).1 ≡ truth → ⊥
no_truth_of [] cs i h b e = absurd (omega (arith, b))
no_truth_of (n ∷ ns) [] i h b e = absurd (false≢true h)
no_truth_of (n ∷ ns) (c ∷ cs) zero h b e =
    false≢true (subst (λ s. IsTrue (are_bits_of s c)) e (and_left (are_bits_of n.1 c) (are_bits_for ns cs) h))
no_truth_of (n ∷ ns) (c ∷ cs) (suc i) h b e = no_truth_of ns cs i (and_right (are_bits_of n.1 c) (are_bits_for ns cs) h) (omega (arith, b)) e

is_word_at : (ns : Entries Sort) (i : ℕ) → IsTrue (are_words ns) → i < length ns → IsTrue (is_word (entry_at ns i).1)
is_word_at [] i h b = absurd (omega (arith, b))
is_word_at (n ∷ ns) zero h b = and_left (is_word n.1) (are_words ns) h
is_word_at (n ∷ ns) (suc i) h b = is_word_at ns i (and_right (is_word n.1) (are_words ns) h) (omega (arith, b))

word_value : (env : Env) (s : Sort) (place start : ℕ) → IsTrue (is_word s) → gathered_value env s place start ≡ number (number_at env place 0)
word_value env truth place start h = absurd (false≢true h)
word_value env (word w) place start h = refl
word_value env (memory a w) place start h = absurd (false≢true h)

no_truth_word : (s : Sort) → IsTrue (is_word s) → s ≡ truth → ⊥
no_truth_word s h e = false≢true (subst (λ q. IsTrue (is_word q)) e h)

pub register_count_is : (d : Parts) → IsPlainDesign d → length (registers_of d) ≡ d.register_count
register_count_is d p = length-take-le d.register_count d.graph.names p.counted

pub input_count_is : (d : Parts) → length (inputs_of d) ≡ length d.graph.names - d.register_count
input_count_is d = length-drop d.register_count d.graph.names

module _ (d : Parts) (cycles : ℕ) (g : Graph) (id : ℕ) (h : Graph) (goal : ℕ) (env : Env) (design : IsPlainDesign d) (named : g.names ≡ names_of_run d cycles)
    (x : IsExpanded g id h goal) (fits : Fits h env) where
  pub names_counted : d.register_count + cycles * (length d.graph.names - d.register_count) ≡ length g.names
  names_counted =
      let c : length g.names ≡ length (registers_of d) + cycles * length (inputs_of d) = ap length named ∙ name_count d cycles in
      ap (λ k. k + cycles * (length d.graph.names - d.register_count)) (sym (register_count_is d design))
      ∙ (ap (λ k. length (registers_of d) + cycles * k) (sym (input_count_is d)) ∙ sym c)

  pub room : length g.names + words_in (take d.register_count g.names) ≤ vec_len env.values
  room =
      let all : length h.names ≡ length g.names + words_in g.names =
      ap length x.words.names
      ∙ (length-append g.names (map (entry_of_word x.words.marks g.names) (words_of 0 (length g.names) g.names))
      ∙ ap (λ k. length g.names + k) (length-map (words_of 0 (length g.names) g.names) (entry_of_word x.words.marks g.names) ∙ length-words_of 0 (length g.names) g.names)) in
      omega (arith, all, words_in-take d.register_count g.names, length-AreOfSorts h.names (values_of env) fits, length-map env.values.items as_value, env.values.ok.0)

  -- the values of the store's names
  sorts : GivesSorts h.names (valuation h env)
  sorts k b =
      subst (λ y. HasSort y (entry_at h.names k).1) (sym (value_at h.names (values_of env) k ([], truth) (number 0) x.distinct fits b))
      (sort_at h.names (values_of env) k ([], truth) (number 0) fits b)

  pub by_memory : (v : Valuation) × IsSpread g.names h.names (words_of 0 (length g.names) g.names) v (valuation h env)
  by_memory = x.gathered (valuation h env) sorts

  abbrev pub told_by : Valuation
  told_by = by_memory.0

  pub told_fits : FitsNames g.names told_by
  told_fits = by_memory.1.sorts

  pub told_breaks : value_of h env goal ≡ truth_value false → val (tree g id) told_by ≡ truth_value false
  told_breaks e = sym (x.same told_by (valuation h env) by_memory.1) ∙ e

  at_name : (j : ℕ) → j < length g.names → ((entry_at g.names j).1 ≡ truth → ⊥)
      → gathered_value env (entry_at g.names j).1 j (get_or (starts_of (length g.names) g.names) j 0) ≡ told_by (decimal j)
  at_name j b no_truth =
      gathered_is g.names h env told_by x.words x.distinct fits by_memory.1 j b no_truth
      ∙ ap told_by (ap (λ es. (entry_at es j).0) named ∙ run_name d cycles j (subst (λ es. j < length es) named b))

  inside : (j : ℕ) → j < length (registers_of d) → j < length g.names
  inside j b = omega (arith, b, ap length named, name_count d cycles)

  register_sort : (j : ℕ) → j < length (registers_of d) → (entry_at g.names j).1 ≡ truth → ⊥
  register_sort j b e =
      no_truth_of (registers_of d) d.bits j design.counting b
      (sym (sort_of_register d cycles j b) ∙ (ap (λ es. (entry_at es j).1) (sym named) ∙ e))

  pub first_told : gathered_values env 0 (length g.names) (take d.register_count g.names) ≡ values_from 0 (registers_of d) told_by
  first_told =
      let ys = gathered_values env 0 (length g.names) (take d.register_count g.names) in
      let low : d.register_count ≤ length g.names = omega (arith, names_counted) in
      let taken : length (take d.register_count g.names) ≡ d.register_count = length-take-le d.register_count g.names low in
      sym (values_from_is 0 (registers_of d) told_by ys
      (length-gathered_values env 0 (length g.names) (take d.register_count g.names) ∙ (taken ∙ sym (register_count_is d design)))
      (λ i b. let z : 0 + i ≡ i = omega arith in
      ap (λ n. told_by (decimal n)) z
      ∙ (ap told_by (sym (ap (λ es. (entry_at es i).0) named ∙ run_name d cycles i (subst (λ es. i < length es) named (inside i b))))
      ∙ sym (gathered_place g.names h env told_by x.words x.distinct fits by_memory.1 d.register_count i (omega (arith, b, taken, register_count_is d design)) (inside i b) (register_sort i b)))))

  pub inputs_told : (t : ℕ) → t < cycles → (k : ℕ) → k ≡ first_input d t → map number (listed (number_at env k) (length (inputs_of d))) ≡ values_from (first_input d t) (inputs_of d) told_by
  inputs_told t l k same =
      let f = number_at env k in
      let n = length (inputs_of d) in
      sym (values_from_is (first_input d t) (inputs_of d) told_by (map number (listed f n)) (length-map (listed f n) number ∙ length-listed f n) (λ i b. sym (at_input i b)))
    where
      at_input : (i : ℕ) → i < length (inputs_of d)
          → get_or (map number (listed (number_at env k) (length (inputs_of d)))) i (number 0) ≡ told_by (decimal (first_input d t + i))
      at_input i b =
          let j = first_input d t + i in
          let p : j < length g.names = subst (λ es. j < length es) (sym named) (input_place d cycles t i l b) in
          let sort : IsTrue (is_word (entry_at g.names j).1) =
          subst (λ s. IsTrue (is_word s)) (sym (ap (λ es. (entry_at es j).1) named ∙ sort_of_input d cycles t i l b)) (is_word_at (inputs_of d) i design.words b) in
          let z : k + i ≡ j + 0 = omega (arith, same) in
          get_or-map number (listed (number_at env k) (length (inputs_of d))) i 0 (number 0) (omega (arith, b, length-listed (number_at env k) (length (inputs_of d))))
          ∙ (ap number (get_or-listed (number_at env k) (length (inputs_of d)) i 0 b)
          ∙ (ap (λ m. number (Rattle.wb_values.specs.Value.as_number (get_or (values_of env) m (number 0)))) z
          ∙ (sym (word_value env (entry_at g.names j).1 j (get_or (starts_of (length g.names) g.names) j 0) sort) ∙ at_name j p (no_truth_word (entry_at g.names j).1 sort))))

  pub are_values : (y : RunValues) → map as_value y.registers.items ≡ gathered_values env 0 (length g.names) (take d.register_count g.names)
      → length y.inputs.items ≡ cycles
      → ((t : ℕ) → t < cycles → numbers_at y.inputs.items t ≡ listed (number_at env (d.register_count + t * (length d.graph.names - d.register_count))) (length d.graph.names - d.register_count))
      → AreValues cycles y (values_of_run d cycles told_by)
  are_values y first count inputs = record {
    first = first ∙ first_told;
    count = count;
    inputs = λ t l. at_cycle t l;
  }
    where
      at_cycle : (t : ℕ) → t < cycles → map number (numbers_at y.inputs.items t) ≡ cond (nat_lt t cycles) (values_from (first_input d t) (inputs_of d) told_by) (zero_inputs d)
      at_cycle t l =
          let r = d.register_count in
          let n = length d.graph.names - r in
          let place : r + t * n ≡ first_input d t =
          ap (λ q. q + t * n) (sym (register_count_is d design)) ∙ ap (λ q. length (registers_of d) + t * q) (sym (input_count_is d)) in
          ap (map number) (inputs t l) ∙ (ap (λ q. map number (listed (number_at env (r + t * n)) q)) (sym (input_count_is d))
          ∙ (inputs_told t l (r + t * n) place ∙ ap (λ b. cond b (values_from (first_input d t) (inputs_of d) told_by) (zero_inputs d)) (sym (lt-ltb t cycles l))))
