-- Values read one name after another.
use Rattle.std.proofs.Common.{◌≡◌, ◌∙◌, ℕ, zero, suc, ◌+◌, ◌^◌, ◌<◌, ◌≤◌, Bool, true, false, cond, List, [], ◌∷◌, ◌++◌, length, map, replicate, get_or, Option, Some, None, IsTrue, Contains, arith, refl, sym, ap, subst, inl, inr}
use Rattle.std.proofs.lemmas.List.{length_push, get_or_append_left, get_or_at, length-map, length-replicate}
use Rattle.std.proofs.lemmas.Bool.{cases_lt, false≢true, lt-ltb, eq-eqb, and_from}
use Rattle.std.proofs.lemmas.Nat.{pow_below, pow_pos}
use Rattle.std.specs.Prelude.{is_some}
use Rattle.wb_values.specs.Value as meaning
use Rattle.wb_values.specs.Value.{Name, Sort, truth, word, memory, Entries, Valuation, HasSort, truth_value, all_below, valuation_of, value_or_zero, entry_of}
use Rattle.model_meaning.specs.Term.{val}
use Rattle.wb_terms.specs.Graph.{Graph, tree, HasDistinctNames}
use Rattle.sat_base.specs.Formula.{Formula, variable_value, Satisfies}
use Rattle.gate_words.specs.Binary.{number_of}
use Rattle.gate_words.proofs.Numbers.{number_below}
use Rattle.sat_gates.specs.Names.{names_in, is_blastable}
use Rattle.sat_gates.specs.Encodes.{Writes, RestrictsTo, Encodes}
use Rattle.sat_gates.specs.Layout.{variables_from, variables_of_sort, variables_of, IsNumbered}
use Rattle.sat_gates.proofs.Encoding.{bit_names}
use Rattle.sat_gates.proofs.Solved.{false_under}
use Rattle.sat_gates.proofs.Layouts.{IsBitSort, absent, same_itself, not_same, laid_count, look, variables_count}
use Rattle.wb_terms.specs.declared.values.Value.{Value}
use Rattle.wb_terms.specs.Environment.{as_value, values_by_name, AreOfSorts}
use Rattle.sat_gates.specs.Used.{entry_at}
use Rattle.sat_gates.specs.Reading.{IsRead, zero_of, IsZeroElsewhere}

-- the values of so many names are read, each of its sort
pub record AreRead (es : Entries Sort) (fs : List (Option ℕ)) (a : List Bool) (place : ℕ) (values : List Value) : Type 0 where
  pub count : length values ≡ place
  pub of_sort : (k : ℕ) (d : Value) → k < place → HasSort (as_value (get_or values k d)) (entry_at es k).1
  pub read : (k : ℕ) (d : Value) → k < place → IsRead a (get_or fs k None) (entry_at es k).1 (as_value (get_or values k d))

pub read_none : (es : Entries Sort) (fs : List (Option ℕ)) (a : List Bool) (values : List Value) → values ≡ [] → AreRead es fs a 0 values
read_none es fs a values e = record { count = ap length e; of_sort = λ k d i. absurd (omega (arith, i)); read = λ k d i. absurd (omega (arith, i)) }

pub read_one : (es : Entries Sort) (fs : List (Option ℕ)) (a : List Bool) (place : ℕ) (values more : List Value) (x : Value) (s : Sort) (first : Option ℕ) → more ≡ values ++ x ∷ []
    → s ≡ (entry_at es place).1 → first ≡ get_or fs place None → HasSort (as_value x) s → IsRead a first s (as_value x) → AreRead es fs a place values → AreRead es fs a (place + 1) more
read_one es fs a place values more x s first e same found sort read h = record {
  count = ap length e ∙ (length_push values x ∙ omega (arith, h.count));
  of_sort = λ k d i. elim (cases_lt k place) [
    | inl below ↦ subst (λ (v : Value). HasSort (as_value v) (entry_at es k).1) (sym (old k d below)) (h.of_sort k d below)
    | inr above ↦
        let here : k ≡ place = omega (arith, i, above) in
        subst (λ (v : Value). HasSort (as_value v) (entry_at es k).1) (sym (new k d here)) (subst (λ j. HasSort (as_value x) (entry_at es j).1) (sym here) (subst (HasSort (as_value x)) same sort))
  ];
  read = λ k d i. elim (cases_lt k place) [
    | inl below ↦ subst (λ (v : Value). IsRead a (get_or fs k None) (entry_at es k).1 (as_value v)) (sym (old k d below)) (h.read k d below)
    | inr above ↦
        let here : k ≡ place = omega (arith, i, above) in
        subst (λ (v : Value). IsRead a (get_or fs k None) (entry_at es k).1 (as_value v)) (sym (new k d here))
        (subst (λ j. IsRead a (get_or fs j None) (entry_at es j).1 (as_value x)) (sym here)
        (subst (λ t. IsRead a (get_or fs place None) t (as_value x)) same (subst (λ f. IsRead a f s (as_value x)) found read)))
  ];
}
  where
    old : (k : ℕ) (d : Value) → k < place → get_or more k d ≡ get_or values k d
    old k d i = ap (λ vs. get_or vs k d) e ∙ get_or_append_left values (x ∷ []) d k (omega (arith, i, h.count))

    new : (k : ℕ) (d : Value) → k ≡ place → get_or more k d ≡ x
    new k d i = ap (λ vs. get_or vs k d) e ∙ get_or_at values x [] d k (omega (arith, i, h.count))

pub are_of_sorts : (es : Entries Sort) (vs : List Value) → length vs ≡ length es → ((k : ℕ) (d : Value) → k < length es → HasSort (as_value (get_or vs k d)) (entry_at es k).1)
    → AreOfSorts es (map as_value vs)
are_of_sorts [] [] n h = tt
are_of_sorts [] (x ∷ vs) n h = absurd (omega (arith, n))
are_of_sorts (e ∷ es) [] n h = absurd (omega (arith, n))
are_of_sorts (e ∷ es) (x ∷ vs) n h = (h 0 x (omega arith), are_of_sorts es vs (omega (arith, n)) (λ k d i. h (suc k) d (omega (arith, i))))

pub value_at : (es : Entries Sort) (vs : List Value) (j : ℕ) (d : Value) → HasDistinctNames es → j < length es → length vs ≡ length es
    → valuation_of (values_by_name es (map as_value vs)) (entry_at es j).0 ≡ as_value (get_or vs j d)
value_at [] vs j d s i n = absurd (omega (arith, i))
value_at (e ∷ es) [] j d s i n = absurd (omega (arith, n))
value_at (e ∷ es) (x ∷ vs) zero d s i n = ap (λ b. value_or_zero (cond b (Some (as_value x)) (entry_of (values_by_name es (map as_value vs)) e.0))) (same_itself e.0)
value_at (e ∷ es) (x ∷ vs) (suc j) d s i n =
    ap (λ b. value_or_zero (cond b (Some (as_value x)) (entry_of (values_by_name es (map as_value vs)) (entry_at es j).0))) (not_same (entry_at es j).0 e.0 (absent es e.0 j (omega (arith, i)) s.0))
    ∙ value_at es vs j d s.1 (omega (arith, i)) (omega (arith, n))

-- bits read of a word or a truth value write it
bits_read : (a : List Bool) (o : Option ℕ) (s : Sort) (x : meaning.Value) → IsTrue (is_some o) → IsBitSort s → IsRead a o s x → Writes s x (map (variable_value a) (variables_of_sort s o))
bits_read a None s x t b r = absurd (false≢true t)
bits_read a (Some f) truth x t b r = r
bits_read a (Some f) (word w) x t b r = r
bits_read a (Some f) (memory c e) x t b r = absurd b

-- the assignment restricts to the values that are read
pub restricted : (g : Graph) (root : ℕ) (fs : List (Option ℕ)) (vars : ℕ) (a : List Bool) (vs : List Value) (d : Value) → HasDistinctNames g.names → is_blastable (tree g root) ≡ true
    → IsNumbered g.names (names_in (tree g root)) fs vars → AreRead g.names fs a (length g.names) vs
    → RestrictsTo (variables_of g.names fs) a (valuation_of (values_by_name g.names (map as_value vs))) (tree g root)
restricted g root fs vars a vs d distinct blastable numbered h n s stands =
    let u = numbered.declared n s stands in
    let j = u.0 in
    let e = entry_at g.names j in
    let here : Contains (names_in (tree g root)) e = subst (Contains (names_in (tree g root))) (sym u.2) stands in
    let some = (numbered.stands j u.1).1 here in
    let bit : IsBitSort e.1 = bit_names (tree g root) blastable e.0 e.1 here in
    let read = bits_read a (get_or fs j None) e.1 (as_value (get_or vs j d)) some bit (h.read j d u.1) in
    let variables = look g.names fs j distinct u.1 (laid_count 0 g.names fs numbered.end numbered.laid_out) in
    subst (λ (x : Name × Sort). Writes x.1 (valuation_of (values_by_name g.names (map as_value vs)) x.0) (map (variable_value a) (variables_of g.names fs x.0))) u.2
    (subst (λ y. Writes e.1 y (map (variable_value a) (variables_of g.names fs e.0))) (sym (value_at g.names vs j d distinct u.1 h.count))
    (subst (λ xs. Writes e.1 (as_value (get_or vs j d)) (map (variable_value a) xs)) (sym variables) read))

pub falsified : (g : Graph) (root : ℕ) (fs : List (Option ℕ)) (f : Formula) (a : List Bool) (vs : List Value) (d : Value) → HasDistinctNames g.names → is_blastable (tree g root) ≡ true
    → Encodes f (variables_of g.names fs) (tree g root) → IsNumbered g.names (names_in (tree g root)) fs f.vars → length a ≡ f.vars → Satisfies a f
    → AreRead g.names fs a (length g.names) vs → val (tree g root) (valuation_of (values_by_name g.names (map as_value vs))) ≡ truth_value false
falsified g root fs f a vs d distinct blastable encodes numbered whole satisfies h =
    let v = valuation_of (values_by_name g.names (map as_value vs)) in
    false_under f (variables_of g.names fs) (tree g root) encodes v a whole satisfies (restricted g root fs f.vars a vs d distinct blastable numbered h)

-- a name without variables is read as zero
unread : (a : List Bool) (o : Option ℕ) (s : Sort) (x : meaning.Value) → ¬ IsTrue (is_some o) → IsRead a o s x → x ≡ zero_of s
unread a None s x none r = r
unread a (Some first) s x none r = absurd (none refl)

pub zero_elsewhere : (g : Graph) (root : ℕ) (fs : List (Option ℕ)) (vars : ℕ) (a : List Bool) (vs : List Value) (d : Value) → HasDistinctNames g.names
    → IsNumbered g.names (names_in (tree g root)) fs vars → AreRead g.names fs a (length g.names) vs
    → IsZeroElsewhere g.names (names_in (tree g root)) (valuation_of (values_by_name g.names (map as_value vs)))
zero_elsewhere g root fs vars a vs d distinct numbered h j i away =
    value_at g.names vs j d distinct i h.count
    ∙ unread a (get_or fs j None) (entry_at g.names j).1 (as_value (get_or vs j d)) (λ some. away ((numbered.stands j i).0 some)) (h.read j d i)

pub memory_read : (a : List Bool) (o : Option ℕ) (b d : ℕ) (ws : List ℕ) → ws ≡ replicate (2 ^ b) 0 → IsRead a o (memory b d) (meaning.words ws)
memory_read a None b d ws e = ap meaning.words e
memory_read a (Some first) b d ws e = tt

-- numbers and memories
pub read_below : (a : List Bool) (first n m : ℕ) → n ≤ m → number_of (map (variable_value a) (variables_from first n)) < 2 ^ m
read_below a first n m h =
    let bs = map (variable_value a) (variables_from first n) in
    let long : length bs ≡ n = length-map (variables_from first n) (variable_value a) ∙ variables_count first n in
    let low : number_of bs < 2 ^ n = subst (λ k. number_of bs < 2 ^ k) long (number_below bs) in
    omega (arith, low, pow_up n m h)
  where
    pow_up : (i j : ℕ) → i ≤ j → 2 ^ i ≤ 2 ^ j
    pow_up i j k = elim (cases_lt i j) [
      | inl b ↦ (let p = pow_below i j b in omega (arith, p))
      | inr b ↦ (let e : i ≡ j = omega (arith, k, b) in subst (λ x. 2 ^ i ≤ 2 ^ x) e (omega arith))
    ]

pub word_read : (a : List Bool) (first w r : ℕ) → r ≡ number_of (map (variable_value a) (variables_from first w)) → HasSort (meaning.number r) (word w) × Writes (word w) (meaning.number r) (map (variable_value a) (variables_from first w))
word_read a first w r e = (
  lt-ltb r (2 ^ w) (omega (arith, e, read_below a first w w (omega arith))),
  (length-map (variables_from first w) (variable_value a) ∙ variables_count first w, sym e),
)

zeros_below : (d n : ℕ) → all_below d (replicate n 0) ≡ true
zeros_below d zero = refl
zeros_below d (suc n) = and_from _ _ (lt-ltb 0 (2 ^ d) (pow_pos d)) (zeros_below d n)

pub no_words : (b d : ℕ) (ws : List ℕ) → ws ≡ replicate (2 ^ b) 0 → HasSort (meaning.words ws) (memory b d)
no_words b d ws e = rw e (and_from _ _ (eq-eqb _ _ (length-replicate (2 ^ b) 0)) (zeros_below d (2 ^ b)))
