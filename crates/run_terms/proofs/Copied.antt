-- Copies of a design's terms over terms of its registers and inputs.
use Rattle.std.proofs.Common.{◌≡◌, ℕ, suc, zero, ◌+◌, ◌-◌, ◌<◌, ◌≤◌, Bool, true, false, cond, List, [], ◌∷◌, ◌++◌, length, get_or, take, drop, map, Option, Some, None, refl, sym, ap, ◌∙◌, subst, arith}
use Rattle.std.proofs.lemmas.List.{length-map, length-drop, take-append-drop, take_all, get_or-drop, map_push}
use Rattle.std.proofs.lemmas.Bool.{false≢true}
use Rattle.std.proofs.lemmas.Bool.Decides.{nat_tests}
use Rattle.std.proofs.lemmas.Cmp.{nat_list_eq_equiv}
use Rattle.std.specs.Prelude.{nat_lt, ◌&&◌, ◌==◌}
use Rattle.wb_values.specs.Value.{Name, same_name, Sort, truth, word, memory, Value, number, Entries, Valuation, entry_of, valuation_of}
use Rattle.model_meaning.specs.Term.{sort_of, same_sort}
use Rattle.wb_terms.specs.declared.nodes.TermId.{TermId}
use Rattle.wb_terms.specs.declared.sorts.Sort.{Sort as CodeSort}
use Rattle.wb_terms.specs.declared.sorts.Sort.TheVariants.{Truth, Word, Memory}
use Rattle.wb_terms.specs.Sort.{as_sort}
use Rattle.wb_terms.specs.Graph.{Graph, tree, HasDistinctNames}
use Rattle.wb_terms.specs.Environment.{values_by_name}
use Rattle.term_copies.specs.Copies.{IsExtended, id_at, copy_of, declared_at, AreLeaves, AreCopies}
use Rattle.ila_model.specs.Meaning.{zero_of}
use Rattle.v_design.specs.Parts.{Parts, registers_of, inputs_of, has_sort, is_term_of, are_terms_of, is_word, are_words, value_in, at_cycle}
use Rattle.run_terms.specs.Worth.{IsWorth, AreWorth, AreWorthAll}
use Rattle.run_terms.specs.Leaves.{AreBelow}
use Rattle.run_terms.proofs.Numbers.{part_next}
use Rattle.run_terms.proofs.Values.{AreWorth-kept, AreWorth-same, AreWorth-append}

-- ---- values by name

differs : (t : Bool) (s : Sort) (o : Option Sort) → cond t (Some s) o ≡ None → (t ≡ false) × (o ≡ None)
differs true s o h = cc
differs false s o h = (refl, h)

absent_at : (ns : Entries Sort) (c : Name) (k : ℕ) → entry_of ns c ≡ None → k < length ns → same_name (declared_at ns k).0 c ≡ false
absent_at [] c k h b = absurd (omega (arith, b))
absent_at (n ∷ ns) c zero h b = (differs (same_name n.0 c) n.1 (entry_of ns c) h).0
absent_at (n ∷ ns) c (suc k) h b = absent_at ns c k (differs (same_name n.0 c) n.1 (entry_of ns c) h).1 (omega (arith, b))

-- the value of a name is that at its place
pub value_by_name : (ns : Entries Sort) (xs : List Value) (k : ℕ) → HasDistinctNames ns → length xs ≡ length ns → k < length ns
    → valuation_of (values_by_name ns xs) (declared_at ns k).0 ≡ get_or xs k (number 0)
value_by_name [] xs k d l b = absurd (omega (arith, b))
value_by_name (n ∷ ns) [] k d l b = absurd (omega (arith, l))
value_by_name (n ∷ ns) (x ∷ xs) zero d l b =
    let t : same_name n.0 n.0 ≡ true = nat_list_eq_equiv.refl n.0 in
    rw t refl
value_by_name (n ∷ ns) (x ∷ xs) (suc k) d l b =
    let c : Name = (declared_at ns k).0 in
    let f : same_name n.0 c ≡ false = nat_list_eq_equiv.symm n.0 c ∙ absent_at ns n.0 k d.0 (omega (arith, b)) in
    rw f (value_by_name ns xs k d.1 (omega (arith, l)) (omega (arith, b)))

-- ---- leaves and copies

pub leaves_of : (g : Graph) (ns : Entries Sort) (ids : List TermId) (m : Valuation → List Value) → AreWorth g ns ids m → AreLeaves g ns ids
leaves_of g ns ids m w = record { count = w.count; below = λ j b. (w.each j b).below; sort = λ j b. (w.each j b).sort }

-- terms for registers and inputs are terms for all names
pub joined_worth : (g : Graph) (d : Parts) (xs ys : List TermId) (rs is : Valuation → List Value) → AreWorth g (registers_of d) xs rs → AreWorth g (inputs_of d) ys is
    → AreWorth g d.graph.names (xs ++ ys) (λ v. rs v ++ is v)
joined_worth g d xs ys rs is a c =
    subst (λ (ns : Entries Sort). AreWorth g ns (xs ++ ys) (λ v. rs v ++ is v)) (take-append-drop d.register_count d.graph.names)
    (AreWorth-append (registers_of d) (inputs_of d) xs ys rs is a c)

pub copies_worth : (g : Graph) (d : Parts) (leaves ids : List TermId) (rs is : Valuation → List Value) → HasDistinctNames d.graph.names
    → AreWorth g d.graph.names leaves (λ v. rs v ++ is v) → AreCopies g d.graph leaves ids → AreWorthAll g d.graph ids (λ v k. value_in d (rs v) (is v) k)
copies_worth g d leaves ids rs is distinct w c = record {
  count = c.count;
  each = λ k s b e.
      let copy = c.copy k b in
      record {
        below = copy.below;
        sort = copy.sort ∙ e;
        value = λ v f. copy.value v (at_cycle d (rs v) (is v))
            (λ j l. (w.each j l).value v f ∙ sym (value_by_name d.graph.names (rs v ++ is v) j distinct (w.values v) l));
      };
}

-- ---- the terms of the registers after the edge

and_parts : (a b : Bool) → (a && b) ≡ true → (a ≡ true) × (b ≡ true)
and_parts true b h = (refl, h)
and_parts false b h = absurd (false≢true h)

same_number : (m n : ℕ) → (m == n) ≡ true → m ≡ n
same_number m n h = grind (arith, nat_tests)

pub same_sorts : (s t : Sort) → same_sort s t ≡ true → s ≡ t
same_sorts truth truth h = refl
same_sorts (word w) (word u) h = ap word (same_number w u h)
same_sorts (memory a d) (memory b e) h =
    let p = and_parts (a == b) (d == e) h in
    (λ i. memory (same_number a b p.0 i) (same_number d e p.1 i))
same_sorts truth (word u) h = absurd (false≢true h)
same_sorts truth (memory b e) h = absurd (false≢true h)
same_sorts (word w) truth h = absurd (false≢true h)
same_sorts (word w) (memory b e) h = absurd (false≢true h)
same_sorts (memory a d) truth h = absurd (false≢true h)
same_sorts (memory a d) (word u) h = absurd (false≢true h)

of_sort : (s : Sort) (o : Option Sort) → has_sort s o ≡ true → o ≡ Some s
of_sort s None h = absurd (false≢true h)
of_sort s (Some t) h = ap (λ (x : Sort). Some x) (same_sorts t s h)

-- The term is below the bound of its store, and of the sort.
pub record IsTerm (g : Graph) (s : Sort) (id : ℕ) : Type 0 where
  pub below : id < length g.nodes
  pub sort : sort_of (tree g id) ≡ Some s

below_from : (m n : ℕ) → nat_lt m n ≡ true → m < n
below_from m n h = grind (arith, nat_tests)

pub is_term : (g : Graph) (s : Sort) (id : ℕ) → is_term_of g s id ≡ true → IsTerm g s id
is_term g s id h =
    let p = and_parts (nat_lt id (length g.nodes)) (has_sort s (sort_of (tree g id))) h in
    record { below = below_from id (length g.nodes) p.0; sort = of_sort s (sort_of (tree g id)) p.1 }

pub terms_counted : (g : Graph) (ns : Entries Sort) (ids : List ℕ) → are_terms_of g ns ids ≡ true → length ids ≡ length ns
terms_counted g [] [] h = refl
terms_counted g [] (id ∷ ids) h = absurd (false≢true h)
terms_counted g (n ∷ ns) [] h = absurd (false≢true h)
terms_counted g (n ∷ ns) (id ∷ ids) h = ap suc (terms_counted g ns ids (and_parts (is_term_of g n.1 id) (are_terms_of g ns ids) h).1)

pub term_at : (g : Graph) (ns : Entries Sort) (ids : List ℕ) (k : ℕ) → are_terms_of g ns ids ≡ true → k < length ns → IsTerm g (declared_at ns k).1 (get_or ids k 0)
term_at g [] ids k h b = absurd (omega (arith, b))
term_at g (n ∷ ns) [] k h b = absurd (false≢true h)
term_at g (n ∷ ns) (id ∷ ids) zero h b = is_term g n.1 id (and_parts (is_term_of g n.1 id) (are_terms_of g ns ids) h).0
term_at g (n ∷ ns) (id ∷ ids) (suc k) h b = term_at g ns ids k (and_parts (is_term_of g n.1 id) (are_terms_of g ns ids) h).1 (omega (arith, b))

number_at : (ids : List TermId) (k : ℕ) → get_or (map (λ (id : TermId). id.0) ids) k 0 ≡ id_at ids k
number_at [] k = refl
number_at (x ∷ xs) zero = refl
number_at (x ∷ xs) (suc k) = number_at xs k

copy_at : (copies ids : List TermId) (k : ℕ) → k < length ids → id_at (map (copy_of copies) ids) k ≡ id_at copies (id_at ids k)
copy_at copies [] k b = absurd (omega (arith, b))
copy_at copies (x ∷ xs) zero b = refl
copy_at copies (x ∷ xs) (suc k) b = copy_at copies xs k (omega (arith, b))

value_at : (f : ℕ → Value) (ids : List TermId) (k : ℕ) → k < length ids → get_or (map f (map (λ (id : TermId). id.0) ids)) k (number 0) ≡ f (id_at ids k)
value_at f [] k b = absurd (omega (arith, b))
value_at f (x ∷ xs) zero b = refl
value_at f (x ∷ xs) (suc k) b = value_at f xs k (omega (arith, b))

-- Terms of a source of the sorts of a table: the copies are worth what these are.
pub found_worth : (g source : Graph) (ns : Entries Sort) (copies ids : List TermId) (m : Valuation → ℕ → Value)
    → are_terms_of source ns (map (λ (id : TermId). id.0) ids) ≡ true → AreWorthAll g source copies m
    → AreWorth g ns (map (copy_of copies) ids) (λ v. map (m v) (map (λ (id : TermId). id.0) ids))
found_worth g source ns copies ids m t w =
    let count : length ids ≡ length ns = sym (length-map ids (λ (id : TermId). id.0)) ∙ terms_counted source ns (map (λ (id : TermId). id.0) ids) t in
    record {
      count = length-map ids (copy_of copies) ∙ count;
      values = λ v. length-map (map (λ (id : TermId). id.0) ids) (m v) ∙ (length-map ids (λ (id : TermId). id.0) ∙ count);
      each = λ k b.
          let less : k < length ids = omega (arith, b, count) in
          let here : IsTerm source (declared_at ns k).1 (id_at ids k) = subst (IsTerm source (declared_at ns k).1) (number_at ids k) (term_at source ns (map (λ (id : TermId). id.0) ids) k t b) in
          let is = w.each (id_at ids k) (declared_at ns k).1 here.below here.sort in
          let at : IsWorth g (id_at (map (copy_of copies) ids) k) (declared_at ns k).1 (λ v. m v (id_at ids k)) =
          subst (λ j. IsWorth g j (declared_at ns k).1 (λ v. m v (id_at ids k))) (sym (copy_at copies ids k less)) is in
          record { below = at.below; sort = at.sort; value = λ v f. at.value v f ∙ sym (value_at (m v) ids k less) };
    }

pub found_below : (source : Graph) (ns : Entries Sort) (ids : List TermId) (n : ℕ) → are_terms_of source ns (map (λ (id : TermId). id.0) ids) ≡ true → n ≡ length source.nodes → AreBelow n ids
found_below source ns ids n t e k b =
    let count : length ids ≡ length ns = sym (length-map ids (λ (id : TermId). id.0)) ∙ terms_counted source ns (map (λ (id : TermId). id.0) ids) t in
    let here = term_at source ns (map (λ (id : TermId). id.0) ids) k t (omega (arith, b, count)) in
    subst (λ j. id_at ids k < j) (sym e) (subst (λ j. j < length source.nodes) (number_at ids k) here.below)

-- ---- zeros of inputs

-- what is no word is no word of the code's sorts
pub no_word : (s : CodeSort) → ((x : ℕ) → s ≡ Word x → ⊥) → is_word (as_sort s) ≡ true → ⊥
no_word Truth h t = false≢true t
no_word (Word w) h t = h w refl
no_word (Memory a d) h t = false≢true t

word_at : (es : Entries Sort) (k : ℕ) → are_words es ≡ true → k < length es → is_word (declared_at es k).1 ≡ true
word_at [] k h b = absurd (omega (arith, b))
word_at (e ∷ es) zero h b = (and_parts (is_word e.1) (are_words es) h).0
word_at (e ∷ es) (suc k) h b = word_at es k (and_parts (is_word e.1) (are_words es) h).1 (omega (arith, b))

pub input_is_word : (es : Entries Sort) (n k : ℕ) → are_words (drop n es) ≡ true → n ≤ k → k < length es → is_word (declared_at es k).1 ≡ true
input_is_word es n k h l b =
    let back : n + (k - n) ≡ k = omega (arith, l) in
    let there : declared_at (drop n es) (k - n) ≡ declared_at es k = get_or-drop n es (k - n) ([], truth) ∙ ap (declared_at es) back in
    ap (λ (e : Name × Sort). is_word e.1) (sym there) ∙ word_at (drop n es) (k - n) h (omega (arith, l, b, length-drop n es))

zero_word : (s : Sort) → is_word s ≡ true → zero_of s ≡ number 0
zero_word truth h = absurd (false≢true h)
zero_word (word w) h = refl
zero_word (memory a d) h = absurd (false≢true h)

one_worth : {g : Graph} (e : Name × Sort) (id : TermId) (m : Valuation → Value) → IsWorth g id.0 e.1 m → AreWorth g (e ∷ []) (id ∷ []) (λ v. m v ∷ [])
one_worth {g} e id m w = record { count = refl; values = λ v. refl; each = at }
  where
    at : (k : ℕ) → k < length (e ∷ []) → IsWorth g (id_at (id ∷ []) k) (declared_at (e ∷ []) k).1 (λ v. get_or (m v ∷ []) k (number 0))
    at zero b = w
    at (suc k) b = absurd (omega (arith, b))

abbrev pub zeros_of : Entries Sort → List Value
zeros_of = map (λ n. zero_of n.1)

pub no_zeros : (g : Graph) (src : Entries Sort) (n place : ℕ) (ids : List TermId) → place ≡ n → ids ≡ []
    → AreWorth g (take (place - n) (drop n src)) ids (λ v. zeros_of (take (place - n) (drop n src)))
no_zeros g src n place ids p e =
    let none : place - n ≡ 0 = omega (arith, p) in
    subst (λ j. AreWorth g (take j (drop n src)) ids (λ v. zeros_of (take j (drop n src)))) (sym none)
    (subst (λ js. AreWorth g [] js (λ v. [])) (sym e) (record { count = refl; values = λ v. refl; each = λ k b. absurd (omega (arith, b)) }))

pub zeros_more : {g h : Graph} (src : Entries Sort) (n place : ℕ) (ids : List TermId) (id : TermId) → n ≤ place → place < length src → IsExtended g h → are_words (drop n src) ≡ true
    → AreWorth g (take (place - n) (drop n src)) ids (λ v. zeros_of (take (place - n) (drop n src))) → IsWorth h id.0 (declared_at src place).1 (λ v. number 0)
    → AreWorth h (take (place + 1 - n) (drop n src)) (ids ++ id ∷ []) (λ v. zeros_of (take (place + 1 - n) (drop n src)))
zeros_more {g} {h} src n place ids id l b a words w new =
    let es : Entries Sort = take (place - n) (drop n src) in
    let e : Name × Sort = declared_at src place in
    let z : zero_of e.1 ≡ number 0 = zero_word e.1 (input_is_word src n place words l b) in
    subst (λ (fs : Entries Sort). AreWorth h fs (ids ++ id ∷ []) (λ v. zeros_of fs)) (sym (part_next src n place l b))
    (AreWorth-same (es ++ e ∷ []) (ids ++ id ∷ []) (λ v. zeros_of es ++ number 0 ∷ []) (λ v. zeros_of (es ++ e ∷ []))
    (λ v. ap (λ x. zeros_of es ++ x ∷ []) (sym z) ∙ sym (map_push (λ n. zero_of n.1) es e))
    (AreWorth-append es (e ∷ []) ids (id ∷ []) (λ v. zeros_of es) (λ v. number 0 ∷ []) (AreWorth-kept es ids (λ v. zeros_of es) a w) (one_worth e id (λ v. number 0) new)))

pub all_zeros : {g : Graph} (src : Entries Sort) (n place end : ℕ) (ids : List TermId) → end ≡ length src → end ≤ place
    → AreWorth g (take (place - n) (drop n src)) ids (λ v. zeros_of (take (place - n) (drop n src))) → AreWorth g (drop n src) ids (λ v. zeros_of (drop n src))
all_zeros {g} src n place end ids e l w =
    let whole : take (place - n) (drop n src) ≡ drop n src = take_all (place - n) (drop n src) (omega (arith, e, l, length-drop n src)) in
    subst (λ (fs : Entries Sort). AreWorth g fs ids (λ v. zeros_of fs)) whole w
