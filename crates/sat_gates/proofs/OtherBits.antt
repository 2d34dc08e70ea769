-- The bits of nodes that are no chain.
use Rattle.std.proofs.Common.{◌≡◌, ◌∙◌, ℕ, zero, suc, ◌+◌, ◌-◌, ◌%◌, ◌^◌, ◌<◌, ◌≤◌, Bool, true, false, List, [], ◌∷◌, ◌++◌, length, map, take, drop, replicate, get_or, Option, Some, None, arith, refl, sym, ap, subst}
use Rattle.std.specs.Prelude.{IsSome}
use Rattle.std.proofs.lemmas.Bool.{false≢true}
use Rattle.std.proofs.lemmas.List.{length-map, map-append, length-append, length-replicate, take-map, drop-map, length-take-le, length-drop}
use Rattle.std.proofs.lemmas.List.Elements.{All-nil, All-cons, All-append, All-replicate, All-take, All-drop}
use Rattle.wb_values.specs.Value.{Sort, truth, word, memory, number, as_number}
use Rattle.wb_values.specs.Choice.{some_if}
use Rattle.model_meaning.specs.Term.{Term, const, neg, ite, concat, extract, zext, sext, sort_of, val, is_sort, word_sort, concat_sort, extract_sort, extended_sort, ite_sort, width_of_sort}
use Rattle.wb_values.specs.Number.{word_neg}
use Rattle.wb_terms.specs.Graph.{Graph, tree, leaf_at}
use Rattle.sat_base.specs.Formula.{variable_value}
use Rattle.sat_base.specs.Literal.{positive}
use Rattle.gate_base.specs.declared.bits.Bit.{Bit}
use Rattle.gate_base.specs.declared.bits.Bit.TheVariants.{Constant, Literal}
use Rattle.gate_base.specs.Circuit.{Circuit, size, IsKnown, bit_value}
use Rattle.gate_words.specs.declared.chains.Cell.TheVariants as cell
use Rattle.gate_words.specs.Binary.{number_of, number_under, values, AreKnown, literals_from}
use Rattle.gate_words.specs.Cells.{IsChain}
use Rattle.gate_words.proofs.Numbers.{number-difference, number-zeros}
use Rattle.sat_gates.specs.Encodes.{Variables, Writes}
use Rattle.sat_gates.specs.Layout.{bit_count, bit_count_of, variables_from, variables_of}
use Rattle.sat_gates.specs.Used.{entry_at}
use Rattle.sat_gates.specs.Blasting.{WritesOf, AreBitsOf, HasVariables, IsNegative}
use Rattle.sat_gates.proofs.Nodes.{word_written, writes_ite, writes_concat, writes_extract, writes_zext, writes_sext, is_choice, are_joined, is_cut, is_wider}

some_is : (b : Bool) (s : Sort) → IsSome (some_if b s) → some_if b s ≡ Some s
some_is true s h = refl
some_is false s h = absurd (false≢true h)

literal_values : (a : List Bool) (first n : ℕ) → values a (literals_from first n) ≡ map (variable_value a) (variables_from first n)
literal_values a first zero = refl
literal_values a first (suc n) = ap (λ bs. variable_value a first ∷ bs) (literal_values a (suc first) n)

literal_count : (first n : ℕ) → length (literals_from first n) ≡ n
literal_count first zero = refl
literal_count first (suc n) = ap suc (literal_count (suc first) n)

literals_known : (c : Circuit) (first n : ℕ) → first + n ≤ size c → AreKnown c (literals_from first n)
literals_known c first zero h = All-nil (IsKnown c)
literals_known c first (suc n) h = All-cons (IsKnown c) (Literal (positive first)) (literals_from (suc first) n) (let i : first < size c = omega (arith, h) in i) (literals_known c (suc first) n (omega (arith, h)))

pub name_bits : (g : Graph) (root : ℕ) (firsts : List (Option ℕ)) (c : Circuit) (j first count : ℕ) (s : Sort) (bits : List Bit) → HasVariables g root firsts c.inputs (j ∷ [])
    → Some first ≡ get_or firsts j None → s ≡ (entry_at g.names j).1 → count ≡ bit_count s → bits ≡ literals_from first count → IsSome (sort_of (leaf_at g.names j))
    → AreBitsOf (tree g root) (variables_of g.names firsts) c (leaf_at g.names j) bits
name_bits g root firsts c j first count s bits (f, inside, at, fits, vars, stands) found sort counts is some =
    let e = entry_at g.names j in
    let same : f ≡ first = some_same f first (sym at ∙ sym found) in
    let n : count ≡ bit_count e.1 = counts ∙ ap bit_count sort in
    let all : bits ≡ literals_from f (bit_count e.1) = is ∙ (ap (λ k. literals_from k count) (sym same) ∙ ap (literals_from f) n) in
    let whole : sort_of (leaf_at g.names j) ≡ Some e.1 = some_is (is_sort e.1) e.1 some in
    record {
      known = subst (AreKnown c) (sym all) (literals_known c f (bit_count e.1) (omega (arith, fits)));
      width = ap length all ∙ (literal_count f (bit_count e.1) ∙ sym (ap bit_count_of whole));
      value = λ a v follows r. subst (λ o. WritesOf o (v e.0) (values a bits)) (sym whole)
          (subst (λ bs. Writes e.1 (v e.0) bs) (ap (map (variable_value a)) vars ∙ (sym (literal_values a f (bit_count e.1)) ∙ ap (values a) (sym all))) (r e.0 e.1 stands));
    }
  where
    some_same : (x y : ℕ) → Some x ≡ Some y → x ≡ y
    some_same x y h = ap (λ o. value_of o) h
      where
        value_of : Option ℕ → ℕ
        value_of (Some z) = z
        value_of None = 0

pub const_bits : (t : Term) (m : Variables) (c : Circuit) (w x : ℕ) (bits : List Bit) → IsSome (sort_of (const w x)) → ((d : Circuit) → AreKnown d bits) → length bits ≡ w
    → ((a : List Bool) → number_under a bits ≡ x) → AreBitsOf t m c (const w x) bits
const_bits t m c w x bits some known wide value =
    let whole : sort_of (const w x) ≡ Some (word w) = some_is _ (word w) some in
    record {
      known = known c;
      width = wide ∙ sym (ap bit_count_of whole);
      value = λ a v f r. subst (λ o. WritesOf o (number x) (values a bits)) (sym whole) (length-map bits (bit_value a) ∙ wide, value a);
    }

zero_values : (a : List Bool) (n : ℕ) → values a (replicate n (Constant false)) ≡ replicate n false
zero_values a zero = refl
zero_values a (suc n) = ap (λ bs. false ∷ bs) (zero_values a n)

pub negative_word : (c : Circuit) (zs xs bits : List Bit) (last : Bit) → zs ≡ replicate (length xs) (Constant false) → IsChain c cell.Difference (Constant true) zs xs bits last → IsNegative c xs bits
negative_word c zs xs bits last z h =
    let n : length zs ≡ length xs = ap length z ∙ length-replicate (length xs) (Constant false) in
    record {
      known = h.known_bits;
      width = h.width ∙ n;
      value = λ a f.
          let l : length (values a zs) ≡ length (values a xs) = length-map zs (bit_value a) ∙ (n ∙ sym (length-map xs (bit_value a))) in
          let nothing : number_of (values a zs) ≡ 0 = ap (number_under a) z ∙ (ap number_of (zero_values a (length xs)) ∙ number-zeros (length xs)) in
          let wide : length (values a zs) ≡ length xs = length-map zs (bit_value a) ∙ n in
          ap number_of (h.are_outputs a f) ∙ (number-difference (values a zs) (values a xs) l
          ∙ (ap (λ k. (k + (2 ^ length (values a zs) - number_under a xs)) % 2 ^ length (values a zs)) nothing
          ∙ (ap (λ k. (0 + (2 ^ k - number_under a xs)) % 2 ^ k) wide ∙ ap (λ k. k % 2 ^ length xs) (let e : 0 + (2 ^ length xs - number_under a xs) ≡ 2 ^ length xs - number_under a xs = omega arith in e))));
    }

word_of : (o : Option Sort) → IsSome (word_sort o) → (u : ℕ) × (o ≡ Some (word u)) × (word_sort o ≡ Some (word u))
word_of (Some (word u)) s = (u, refl, refl)
word_of (Some truth) s = absurd (false≢true s)
word_of (Some (memory a d)) s = absurd (false≢true s)
word_of None s = absurd (false≢true s)

pub neg_bits : (t : Term) (m : Variables) (c d : Circuit) (x : Term) (xs bits : List Bit) → IsSome (word_sort (sort_of x)) → AreBitsOf t m d x xs → IsNegative d xs bits → AreBitsOf t m d (neg x) bits
neg_bits t m c d x xs bits s hx h =
    let o = word_of (sort_of x) s in
    let long : length xs ≡ o.0 = hx.width ∙ ap bit_count_of o.1 in
    record {
      known = h.known;
      width = h.width ∙ (long ∙ sym (ap bit_count_of o.2));
      value = λ a v f r.
          let p = word_written o.0 (val x v) (values a xs) (subst (λ q. WritesOf q (val x v) (values a xs)) o.1 (hx.value a v f r)) in
          let w : length xs ≡ width_of_sort (sort_of x) = long ∙ sym (ap width_of_sort o.1) in
          subst (λ q. WritesOf q (number (word_neg (width_of_sort (sort_of x)) (as_number (val x v)))) (values a bits)) (sym o.2)
          (length-map bits (bit_value a) ∙ (h.width ∙ long), h.value a f ∙ (ap (word_neg (length xs)) p.1 ∙ ap (λ k. word_neg k (as_number (val x v))) w));
    }

one_value : (a : List Bool) (zs : List Bit) (d : Bit) → length zs ≡ 1 → values a zs ≡ bit_value a (get_or zs 0 d) ∷ []
one_value a [] d e = absurd (omega (arith, e))
one_value a (z ∷ []) d e = refl
one_value a (z ∷ y ∷ zs) d e = absurd (omega (arith, e))

pub ite_bits : (t : Term) (m : Variables) (c : Circuit) (ct xt yt : Term) (zs xs ys bits : List Bit) (d last : Bit) → IsSome (ite_sort (sort_of ct) (sort_of xt) (sort_of yt))
    → AreBitsOf t m c ct zs → AreBitsOf t m c xt xs → AreBitsOf t m c yt ys → IsChain c cell.Choose (get_or zs 0 d) xs ys bits last → AreBitsOf t m c (ite ct xt yt) bits
ite_bits t m c ct xt yt zs xs ys bits d last s hz hx hy h =
    let o = is_choice (sort_of ct) (sort_of xt) (sort_of yt) s in
    let one : length zs ≡ 1 = hz.width ∙ ap bit_count_of o.condition in
    let same : length xs ≡ length ys = hx.width ∙ (ap bit_count_of o.left ∙ (sym (ap bit_count_of o.right) ∙ sym hy.width)) in
    record {
      known = h.known_bits;
      width = h.width ∙ (hx.width ∙ (ap bit_count_of o.left ∙ sym (ap bit_count_of o.result)));
      value = λ a v f r. writes_ite (sort_of ct) (sort_of xt) (sort_of yt) (val ct v) (val xt v) (val yt v) (values a zs) (values a xs) (values a ys) (values a bits)
          (bit_value a (get_or zs 0 d)) s (hz.value a v f r) (hx.value a v f r) (hy.value a v f r)
          (length-map xs (bit_value a) ∙ (same ∙ sym (length-map ys (bit_value a)))) (one_value a zs d one) (h.are_outputs a f);
    }

pub concat_bits : (t : Term) (m : Variables) (c : Circuit) (xt yt : Term) (xs ys bits : List Bit) → IsSome (concat_sort (sort_of xt) (sort_of yt))
    → AreBitsOf t m c xt xs → AreBitsOf t m c yt ys → bits ≡ ys ++ xs → AreBitsOf t m c (concat xt yt) bits
concat_bits t m c xt yt xs ys bits s hx hy e =
    let o = are_joined (sort_of xt) (sort_of yt) s in
    record {
      known = subst (AreKnown c) (sym e) (All-append (IsKnown c) ys xs hy.known hx.known);
      width =
          let i : length ys ≡ o.low = hy.width ∙ ap bit_count_of o.right in
          let j : length xs ≡ o.high = hx.width ∙ ap bit_count_of o.left in
          ap length e ∙ (length-append ys xs ∙ ((let k : length ys + length xs ≡ o.high + o.low = omega (arith, i, j) in k) ∙ sym (ap bit_count_of o.result)));
      value = λ a v f r. writes_concat (sort_of xt) (sort_of yt) (val xt v) (val yt v) (values a xs) (values a ys) (values a bits) s (hx.value a v f r) (hy.value a v f r)
          (ap (values a) e ∙ map-append (bit_value a) ys xs);
    }

pub extract_bits : (t : Term) (m : Variables) (c : Circuit) (h l : ℕ) (xt : Term) (xs bits : List Bit) → IsSome (extract_sort h l (sort_of xt))
    → AreBitsOf t m c xt xs → bits ≡ take (h + 1 - l) (drop l xs) → AreBitsOf t m c (extract h l xt) bits
extract_bits t m c h l xt xs bits s hx e =
    let o = is_cut h l (sort_of xt) s in
    let i : length xs ≡ o.bits = hx.width ∙ ap bit_count_of o.operand in
    record {
      known = subst (AreKnown c) (sym e) (All-take (IsKnown c) (h + 1 - l) (drop l xs) (All-drop (IsKnown c) l xs hx.known));
      width = ap length e ∙ (length-take-le (h + 1 - l) (drop l xs) (omega (arith, length-drop l xs, i, o.order, o.below)) ∙ sym (ap bit_count_of o.result));
      value = λ a v f r. writes_extract h l (sort_of xt) (val xt v) (values a xs) (values a bits) s (hx.value a v f r)
          (ap (values a) e ∙ (sym (take-map (bit_value a) (h + 1 - l) (drop l xs)) ∙ ap (take (h + 1 - l)) (sym (drop-map (bit_value a) l xs))));
    }

fill_values : (a : List Bool) (n : ℕ) (b : Bit) → values a (replicate n b) ≡ replicate n (bit_value a b)
fill_values a zero b = refl
fill_values a (suc n) b = ap (λ bs. bit_value a b ∷ bs) (fill_values a n b)

wider_width : (n : ℕ) (o : Option Sort) (xs bits : List Bit) (b : Bit) → IsSome (extended_sort n o) → length xs ≡ bit_count_of o → bits ≡ xs ++ replicate (n - length xs) b
    → length bits ≡ bit_count_of (extended_sort n o)
wider_width n o xs bits b s w e =
    let t = is_wider n o s in
    let i : length xs ≡ t.bits = w ∙ ap bit_count_of t.operand in
    ap length e ∙ (length-append xs (replicate (n - length xs) b)
    ∙ ((let k : length xs + length (replicate (n - length xs) b) ≡ n = omega (arith, length-replicate (n - length xs) b, i, t.order) in k) ∙ sym (ap bit_count_of t.result)))

pub zext_bits : (t : Term) (m : Variables) (c : Circuit) (n : ℕ) (xt : Term) (xs bits : List Bit) → IsSome (extended_sort n (sort_of xt))
    → AreBitsOf t m c xt xs → bits ≡ xs ++ replicate (n - length xs) (Constant false) → AreBitsOf t m c (zext n xt) bits
zext_bits t m c n xt xs bits s hx e = record {
  known = subst (AreKnown c) (sym e) (All-append (IsKnown c) xs (replicate (n - length xs) (Constant false)) hx.known (All-replicate (IsKnown c) (n - length xs) (Constant false) tt));
  width = wider_width n (sort_of xt) xs bits (Constant false) s hx.width e;
  value = λ a v f r. writes_zext n (sort_of xt) (val xt v) (values a xs) (values a bits) s (hx.value a v f r)
      (ap (values a) e ∙ (map-append (bit_value a) xs (replicate (n - length xs) (Constant false))
      ∙ (ap (λ bs. values a xs ++ bs) (fill_values a (n - length xs) (Constant false)) ∙ ap (λ k. values a xs ++ replicate (n - k) false) (sym (length-map xs (bit_value a))))));
}

pub sext_bits : (t : Term) (m : Variables) (c : Circuit) (n : ℕ) (xt : Term) (xs bits : List Bit) (b : Bit) → IsSome (extended_sort n (sort_of xt))
    → AreBitsOf t m c xt xs → ((d : Circuit) → AreKnown d xs → IsKnown d b) → ((a : List Bool) → bit_value a b ≡ get_or (values a xs) (length xs - 1) false)
    → bits ≡ xs ++ replicate (n - length xs) b → AreBitsOf t m c (sext n xt) bits
sext_bits t m c n xt xs bits b s hx known sign e = record {
  known = subst (AreKnown c) (sym e) (All-append (IsKnown c) xs (replicate (n - length xs) b) hx.known (All-replicate (IsKnown c) (n - length xs) b (known c hx.known)));
  width = wider_width n (sort_of xt) xs bits b s hx.width e;
  value = λ a v f r. writes_sext n (sort_of xt) (val xt v) (values a xs) (values a bits) s (hx.value a v f r)
      (ap (values a) e ∙ (map-append (bit_value a) xs (replicate (n - length xs) b)
      ∙ (ap (λ bs. values a xs ++ bs) (fill_values a (n - length xs) b) ∙ (ap (λ k. values a xs ++ replicate (n - length xs) k) (sign a)
      ∙ ap (λ k. values a xs ++ replicate (n - k) (get_or (values a xs) (k - 1) false)) (sym (length-map xs (bit_value a)))))));
}
