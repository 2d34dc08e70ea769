-- The bits of nodes that are chains.
use Rattle.std.proofs.Common.{◌≡◌, ◌∙◌, ℕ, ◌<◌, Bool, false, not, List, [], ◌∷◌, length, Option, arith, refl, sym, ap, subst, inl, inr}
use Rattle.std.specs.Prelude.{IsSome, ⊤, Vec}
use Rattle.std.specs.Global.{Global}
use Rattle.std.proofs.lemmas.List.{length-map}
use Rattle.std.proofs.lemmas.List.Elements.{All-nil, All-push}
use Rattle.wb_values.specs.Value.{Sort, Entries, number, truth_value, as_number, Valuation}
use Rattle.wb_values.specs.Number.{word_mul, word_shl, word_lshr, word_ashr, word_slt, word_sle}
use Rattle.model_meaning.specs.Term.{Term, sort_of, val, bits_sort, same_bits_sort, same_word_sort, compared, width_of_sort}
use Rattle.wb_terms.specs.declared.nodes.Node.{Node}
use Rattle.wb_terms.specs.declared.nodes.Node.TheVariants.{Not, And, Or, Xor, Add, Sub, Mul, Shl, Lshr, Ashr, Eq, Ult, Ule, Slt, Sle}
use Rattle.wb_terms.specs.Graph.{Graph, tree, tree_at, tree_of, operands_of}
use Rattle.gate_base.specs.declared.bits.Bit.{Bit}
use Rattle.gate_base.specs.declared.bits.Bit.TheVariants.{Constant}
use Rattle.gate_base.specs.Circuit.{Circuit, bit_value, IsKnown, Grows, Gives}
use Rattle.gate_words.specs.declared.chains.Cell.TheVariants as cell
use Rattle.gate_words.specs.Binary.{values, number_under, AreKnown}
use Rattle.gate_words.specs.Cells.{outputs, IsChain}
use Rattle.gate_words.specs.Words.{applied, WritesWord}
use Rattle.gate_words.proofs.Growing.{all_known}
use Rattle.sat_gates.specs.declared.forms.Form.{Form}
use Rattle.sat_gates.specs.declared.forms.Form.TheVariants.{Chain, Last, Word, SignedBelow, SignedAtMost, Other}
use Rattle.sat_gates.specs.Forms.{form_of}
use Rattle.sat_gates.specs.Encodes.{Variables}
use Rattle.sat_gates.specs.Layout.{bit_count_of}
use Rattle.sat_gates.specs.Blasting.{WritesOf, AreBitsOf, HasBits, HaveBits}
use Rattle.sat_gates.proofs.Nodes.{AreWords, are_words, are_bits, not_bits, compared_truth, compared_some, writes_add, writes_sub, writes_and, writes_or, writes_xor, writes_not, writes_eq, writes_ult, writes_ule, writes_word, writes_signed}

pub grown : {c d : Circuit} (t : Term) (m : Variables) (u : Term) (bits : List Bit) → Grows c d → AreBitsOf t m c u bits → AreBitsOf t m d u bits
grown t m u bits g h = record { known = all_known bits g h.known; width = h.width; value = λ a v f r. h.value a v (g.follows a f) r }

-- what the chain of a form gives
abbrev pub ChainGives : Term → Variables → Circuit → List Term → Form → Term → Type 0
ChainGives t m c ts (Chain k b x y) u = (xs ys bits : List Bit) (last : Bit) → AreBitsOf t m c (tree_at ts x.0) xs → AreBitsOf t m c (tree_at ts y.0) ys
    → IsChain c k (Constant b) xs ys bits last → AreBitsOf t m c u bits
ChainGives t m c ts (Last k b x y) u = (xs ys bits : List Bit) (last : Bit) → AreBitsOf t m c (tree_at ts x.0) xs → AreBitsOf t m c (tree_at ts y.0) ys
    → IsChain c k (Constant b) xs ys bits last → AreBitsOf t m c u (last ∷ [])
ChainGives t m c ts (Word k x y) u = (xs ys bits : List Bit) → AreBitsOf t m c (tree_at ts x.0) xs → AreBitsOf t m c (tree_at ts y.0) ys
    → WritesWord c (applied k) xs ys bits → AreBitsOf t m c u bits
ChainGives t m c ts (SignedBelow x y) u = (xs ys : List Bit) (bit : Bit) → AreBitsOf t m c (tree_at ts x.0) xs → AreBitsOf t m c (tree_at ts y.0) ys
    → Gives c bit (λ w. word_slt (length xs) (number_under w xs) (number_under w ys)) → AreBitsOf t m c u (bit ∷ [])
ChainGives t m c ts (SignedAtMost x y) u = (xs ys : List Bit) (bit : Bit) → AreBitsOf t m c (tree_at ts x.0) xs → AreBitsOf t m c (tree_at ts y.0) ys
    → Gives c bit (λ w. word_sle (length xs) (number_under w xs) (number_under w ys)) → AreBitsOf t m c u (bit ∷ [])
ChainGives t m c ts Other u = ⊤

width_words : (a b r : Option Sort) (n : ℕ) → AreWords a b r → n ≡ bit_count_of a → n ≡ bit_count_of r
width_words a b r n t e = e ∙ (ap bit_count_of t.left ∙ sym (ap bit_count_of t.result))

width_bits : (a b : Option Sort) (n : ℕ) → IsSome (same_bits_sort a b) → n ≡ bit_count_of a → n ≡ bit_count_of (same_bits_sort a b)
width_bits a b n s e = elim (are_bits a b s) [
  | inl t ↦ e ∙ (ap bit_count_of t.left ∙ sym (ap bit_count_of t.result))
  | inr t ↦ width_words a b (same_bits_sort a b) n t e
]

width_not : (a : Option Sort) (n : ℕ) → IsSome (bits_sort a) → n ≡ bit_count_of a → n ≡ bit_count_of (bits_sort a)
width_not a n s e = elim (not_bits a s) [
  | inl t ↦ e ∙ (ap bit_count_of t ∙ sym (ap (λ o. bit_count_of (bits_sort o)) t))
  | inr t ↦ e ∙ (ap bit_count_of t.1 ∙ sym (ap (λ o. bit_count_of (bits_sort o)) t.1))
]

one_known : (c : Circuit) (b : Bit) → IsKnown c b → AreKnown c (b ∷ [])
one_known c b h = All-push (IsKnown c) [] b (All-nil (IsKnown c)) h

not_alone : (k : Bool) (xs ys zs : List Bool) → length xs ≡ length ys → length xs ≡ length zs → outputs cell.Not k xs ys ≡ outputs cell.Not k xs zs
not_alone k [] ys zs e f = refl
not_alone k (x ∷ xs) [] zs e f = absurd (omega (arith, e))
not_alone k (x ∷ xs) (y ∷ ys) [] e f = absurd (omega (arith, f))
not_alone k (x ∷ xs) (y ∷ ys) (z ∷ zs) e f = ap (λ bs. not x ∷ bs) (not_alone k xs ys zs (omega (arith, e)) (omega (arith, f)))

operated : (f : ℕ → ℕ → ℕ → ℕ) (t : Term) (m : Variables) (c : Circuit) (x y u : Term) (xs ys bits : List Bit) → IsSome (same_word_sort (sort_of x) (sort_of y))
    → sort_of u ≡ same_word_sort (sort_of x) (sort_of y) → ((v : Valuation) → val u v ≡ number (f (width_of_sort (sort_of x)) (as_number (val x v)) (as_number (val y v))))
    → AreBitsOf t m c x xs → AreBitsOf t m c y ys → WritesWord c f xs ys bits → AreBitsOf t m c u bits
operated f t m c x y u xs ys bits s sort value hx hy h = record {
  known = h.known;
  width = width_words (sort_of x) (sort_of y) _ (length bits) (are_words (sort_of x) (sort_of y) s) (h.width ∙ hx.width) ∙ ap bit_count_of (sym sort);
  value = λ a v w r.
      let lx : length xs ≡ length (values a xs) = sym (length-map xs (bit_value a)) in
      subst (λ o. WritesOf o (val u v) (values a bits)) (sym sort)
      (subst (λ z. WritesOf (same_word_sort (sort_of x) (sort_of y)) z (values a bits)) (sym (value v))
      (writes_word f (sort_of x) (sort_of y) (val x v) (val y v) (values a xs) (values a ys) (values a bits) s (hx.value a v w r) (hy.value a v w r)
      (length-map bits (bit_value a) ∙ (h.width ∙ lx)) (h.number a w ∙ ap (λ k. f k (number_under a xs) (number_under a ys)) lx)));
}

signed : (f : ℕ → ℕ → ℕ → Bool) (t : Term) (m : Variables) (c : Circuit) (x y u : Term) (xs ys : List Bit) (bit : Bit) → IsSome (compared (same_word_sort (sort_of x) (sort_of y)))
    → sort_of u ≡ compared (same_word_sort (sort_of x) (sort_of y)) → ((v : Valuation) → val u v ≡ truth_value (f (width_of_sort (sort_of x)) (as_number (val x v)) (as_number (val y v))))
    → AreBitsOf t m c x xs → AreBitsOf t m c y ys → Gives c bit (λ w. f (length xs) (number_under w xs) (number_under w ys)) → AreBitsOf t m c u (bit ∷ [])
signed f t m c x y u xs ys bit s sort value hx hy h = record {
  known = one_known c bit h.known;
  width = sym (ap bit_count_of (sort ∙ compared_truth (same_word_sort (sort_of x) (sort_of y)) s));
  value = λ a v w r.
      subst (λ o. WritesOf o (val u v) (bit_value a bit ∷ [])) (sym sort)
      (subst (λ z. WritesOf (compared (same_word_sort (sort_of x) (sort_of y))) z (bit_value a bit ∷ [])) (sym (value v))
      (writes_signed f (sort_of x) (sort_of y) (val x v) (val y v) (values a xs) (values a ys) (bit_value a bit) s (hx.value a v w r) (hy.value a v w r)
      (h.value a w ∙ ap (λ k. f k (number_under a xs) (number_under a ys)) (sym (length-map xs (bit_value a))))));
}

pub chain_gives : (t : Term) (m : Variables) (c : Circuit) (ns : Entries Sort) (ts : List Term) (n : Node) → IsSome (sort_of (tree_of ns ts n)) → ChainGives t m c ts (form_of n) (tree_of ns ts n)
chain_gives t m c ns ts (Not x) s = λ xs ys bits last hx hy h. record {
  known = h.known_bits;
  width = width_not (sort_of (tree_at ts x.0)) (length bits) s (h.width ∙ hx.width);
  value = λ a v f r. writes_not (sort_of (tree_at ts x.0)) (val (tree_at ts x.0) v) (values a xs) (values a bits) s (hx.value a v f r)
      (h.are_outputs a f ∙ not_alone false (values a xs) (values a ys) (values a xs) (length-map xs (bit_value a) ∙ (hx.width ∙ (sym hy.width ∙ sym (length-map ys (bit_value a))))) refl);
}
chain_gives t m c ns ts (And x y) s = λ xs ys bits last hx hy h. record {
  known = h.known_bits;
  width = width_bits (sort_of (tree_at ts x.0)) (sort_of (tree_at ts y.0)) (length bits) s (h.width ∙ hx.width);
  value = λ a v f r. writes_and (sort_of (tree_at ts x.0)) (sort_of (tree_at ts y.0)) (val (tree_at ts x.0) v) (val (tree_at ts y.0) v) (values a xs) (values a ys) (values a bits) s (hx.value a v f r) (hy.value a v f r) (h.are_outputs a f);
}
chain_gives t m c ns ts (Or x y) s = λ xs ys bits last hx hy h. record {
  known = h.known_bits;
  width = width_bits (sort_of (tree_at ts x.0)) (sort_of (tree_at ts y.0)) (length bits) s (h.width ∙ hx.width);
  value = λ a v f r. writes_or (sort_of (tree_at ts x.0)) (sort_of (tree_at ts y.0)) (val (tree_at ts x.0) v) (val (tree_at ts y.0) v) (values a xs) (values a ys) (values a bits) s (hx.value a v f r) (hy.value a v f r) (h.are_outputs a f);
}
chain_gives t m c ns ts (Xor x y) s = λ xs ys bits last hx hy h. record {
  known = h.known_bits;
  width = width_bits (sort_of (tree_at ts x.0)) (sort_of (tree_at ts y.0)) (length bits) s (h.width ∙ hx.width);
  value = λ a v f r. writes_xor (sort_of (tree_at ts x.0)) (sort_of (tree_at ts y.0)) (val (tree_at ts x.0) v) (val (tree_at ts y.0) v) (values a xs) (values a ys) (values a bits) s (hx.value a v f r) (hy.value a v f r) (h.are_outputs a f);
}
chain_gives t m c ns ts (Add x y) s = λ xs ys bits last hx hy h. record {
  known = h.known_bits;
  width = width_words (sort_of (tree_at ts x.0)) (sort_of (tree_at ts y.0)) _ (length bits) (are_words (sort_of (tree_at ts x.0)) (sort_of (tree_at ts y.0)) s) (h.width ∙ hx.width);
  value = λ a v f r. writes_add (sort_of (tree_at ts x.0)) (sort_of (tree_at ts y.0)) (val (tree_at ts x.0) v) (val (tree_at ts y.0) v) (values a xs) (values a ys) (values a bits) s (hx.value a v f r) (hy.value a v f r) (h.are_outputs a f);
}
chain_gives t m c ns ts (Sub x y) s = λ xs ys bits last hx hy h. record {
  known = h.known_bits;
  width = width_words (sort_of (tree_at ts x.0)) (sort_of (tree_at ts y.0)) _ (length bits) (are_words (sort_of (tree_at ts x.0)) (sort_of (tree_at ts y.0)) s) (h.width ∙ hx.width);
  value = λ a v f r. writes_sub (sort_of (tree_at ts x.0)) (sort_of (tree_at ts y.0)) (val (tree_at ts x.0) v) (val (tree_at ts y.0) v) (values a xs) (values a ys) (values a bits) s (hx.value a v f r) (hy.value a v f r) (h.are_outputs a f);
}
chain_gives t m c ns ts (Eq x y) s = λ xs ys bits last hx hy h. record {
  known = one_known c last h.known_last;
  width = sym (ap bit_count_of (compared_truth (same_bits_sort (sort_of (tree_at ts x.0)) (sort_of (tree_at ts y.0))) s));
  value = λ a v f r. writes_eq (sort_of (tree_at ts x.0)) (sort_of (tree_at ts y.0)) (val (tree_at ts x.0) v) (val (tree_at ts y.0) v) (values a xs) (values a ys) _ s (hx.value a v f r) (hy.value a v f r) (h.is_last a f);
}
chain_gives t m c ns ts (Ult x y) s = λ xs ys bits last hx hy h. record {
  known = one_known c last h.known_last;
  width = sym (ap bit_count_of (compared_truth (same_word_sort (sort_of (tree_at ts x.0)) (sort_of (tree_at ts y.0))) s));
  value = λ a v f r. writes_ult (sort_of (tree_at ts x.0)) (sort_of (tree_at ts y.0)) (val (tree_at ts x.0) v) (val (tree_at ts y.0) v) (values a xs) (values a ys) _ s (hx.value a v f r) (hy.value a v f r) (h.is_last a f);
}
chain_gives t m c ns ts (Ule x y) s = λ xs ys bits last hx hy h. record {
  known = one_known c last h.known_last;
  width = sym (ap bit_count_of (compared_truth (same_word_sort (sort_of (tree_at ts x.0)) (sort_of (tree_at ts y.0))) s));
  value = λ a v f r. writes_ule (sort_of (tree_at ts x.0)) (sort_of (tree_at ts y.0)) (val (tree_at ts x.0) v) (val (tree_at ts y.0) v) (values a xs) (values a ys) _ s (hx.value a v f r) (hy.value a v f r) (h.is_last a f);
}
chain_gives t m c ns ts (Mul x y) s = λ xs ys bits hx hy h. operated word_mul t m c (tree_at ts x.0) (tree_at ts y.0) (tree_of ns ts (Mul x y)) xs ys bits s refl (λ v. refl) hx hy h
chain_gives t m c ns ts (Shl x y) s = λ xs ys bits hx hy h. operated word_shl t m c (tree_at ts x.0) (tree_at ts y.0) (tree_of ns ts (Shl x y)) xs ys bits s refl (λ v. refl) hx hy h
chain_gives t m c ns ts (Lshr x y) s = λ xs ys bits hx hy h. operated word_lshr t m c (tree_at ts x.0) (tree_at ts y.0) (tree_of ns ts (Lshr x y)) xs ys bits s refl (λ v. refl) hx hy h
chain_gives t m c ns ts (Ashr x y) s = λ xs ys bits hx hy h. operated word_ashr t m c (tree_at ts x.0) (tree_at ts y.0) (tree_of ns ts (Ashr x y)) xs ys bits s refl (λ v. refl) hx hy h
chain_gives t m c ns ts (Slt x y) s = λ xs ys bit hx hy h. signed word_slt t m c (tree_at ts x.0) (tree_at ts y.0) (tree_of ns ts (Slt x y)) xs ys bit s refl (λ v. refl) hx hy h
chain_gives t m c ns ts (Sle x y) s = λ xs ys bit hx hy h. signed word_sle t m c (tree_at ts x.0) (tree_at ts y.0) (tree_of ns ts (Sle x y)) xs ys bit s refl (λ v. refl) hx hy h
chain_gives t m c ns ts _ s = tt

-- the operands of a form are as wide as one another
abbrev pub SameWidth : List Term → Form → Type 0
SameWidth ts (Chain k b x y) = bit_count_of (sort_of (tree_at ts x.0)) ≡ bit_count_of (sort_of (tree_at ts y.0))
SameWidth ts (Last k b x y) = bit_count_of (sort_of (tree_at ts x.0)) ≡ bit_count_of (sort_of (tree_at ts y.0))
SameWidth ts (Word k x y) = bit_count_of (sort_of (tree_at ts x.0)) ≡ bit_count_of (sort_of (tree_at ts y.0))
SameWidth ts (SignedBelow x y) = bit_count_of (sort_of (tree_at ts x.0)) ≡ bit_count_of (sort_of (tree_at ts y.0))
SameWidth ts (SignedAtMost x y) = bit_count_of (sort_of (tree_at ts x.0)) ≡ bit_count_of (sort_of (tree_at ts y.0))
SameWidth ts Other = ⊤

same_of_words : (a b : Option Sort) → IsSome (same_word_sort a b) → bit_count_of a ≡ bit_count_of b
same_of_words a b s = let t = are_words a b s in ap bit_count_of t.left ∙ sym (ap bit_count_of t.right)

same_of_bits : (a b : Option Sort) → IsSome (same_bits_sort a b) → bit_count_of a ≡ bit_count_of b
same_of_bits a b s = elim (are_bits a b s) [
  | inl t ↦ ap bit_count_of t.left ∙ sym (ap bit_count_of t.right)
  | inr t ↦ ap bit_count_of t.left ∙ sym (ap bit_count_of t.right)
]

pub same_width : (ns : Entries Sort) (ts : List Term) (n : Node) → IsSome (sort_of (tree_of ns ts n)) → SameWidth ts (form_of n)
same_width ns ts (Not x) s = refl
same_width ns ts (And x y) s = same_of_bits (sort_of (tree_at ts x.0)) (sort_of (tree_at ts y.0)) s
same_width ns ts (Or x y) s = same_of_bits (sort_of (tree_at ts x.0)) (sort_of (tree_at ts y.0)) s
same_width ns ts (Xor x y) s = same_of_bits (sort_of (tree_at ts x.0)) (sort_of (tree_at ts y.0)) s
same_width ns ts (Add x y) s = same_of_words (sort_of (tree_at ts x.0)) (sort_of (tree_at ts y.0)) s
same_width ns ts (Sub x y) s = same_of_words (sort_of (tree_at ts x.0)) (sort_of (tree_at ts y.0)) s
same_width ns ts (Eq x y) s = same_of_bits (sort_of (tree_at ts x.0)) (sort_of (tree_at ts y.0)) (compared_some (same_bits_sort (sort_of (tree_at ts x.0)) (sort_of (tree_at ts y.0))) s)
same_width ns ts (Ult x y) s = same_of_words (sort_of (tree_at ts x.0)) (sort_of (tree_at ts y.0)) (compared_some (same_word_sort (sort_of (tree_at ts x.0)) (sort_of (tree_at ts y.0))) s)
same_width ns ts (Ule x y) s = same_of_words (sort_of (tree_at ts x.0)) (sort_of (tree_at ts y.0)) (compared_some (same_word_sort (sort_of (tree_at ts x.0)) (sort_of (tree_at ts y.0))) s)
same_width ns ts (Mul x y) s = same_of_words (sort_of (tree_at ts x.0)) (sort_of (tree_at ts y.0)) s
same_width ns ts (Shl x y) s = same_of_words (sort_of (tree_at ts x.0)) (sort_of (tree_at ts y.0)) s
same_width ns ts (Lshr x y) s = same_of_words (sort_of (tree_at ts x.0)) (sort_of (tree_at ts y.0)) s
same_width ns ts (Ashr x y) s = same_of_words (sort_of (tree_at ts x.0)) (sort_of (tree_at ts y.0)) s
same_width ns ts (Slt x y) s = same_of_words (sort_of (tree_at ts x.0)) (sort_of (tree_at ts y.0)) (compared_some (same_word_sort (sort_of (tree_at ts x.0)) (sort_of (tree_at ts y.0))) s)
same_width ns ts (Sle x y) s = same_of_words (sort_of (tree_at ts x.0)) (sort_of (tree_at ts y.0)) (compared_some (same_word_sort (sort_of (tree_at ts x.0)) (sort_of (tree_at ts y.0))) s)
same_width ns ts _ s = tt

-- the operands of a form are operands of its node
abbrev pub FormHas : (ℕ → Type 0) → Form → Type 0
FormHas P (Chain k b x y) = P x.0 × P y.0
FormHas P (Last k b x y) = P x.0 × P y.0
FormHas P (Word k x y) = P x.0 × P y.0
FormHas P (SignedBelow x y) = P x.0 × P y.0
FormHas P (SignedAtMost x y) = P x.0 × P y.0
FormHas P Other = ⊤

pub form_has : (g : Graph) (root : ℕ) (m : Variables) (c : Circuit) (bits : ℕ → Option (Vec Bit Global)) (n : Node) → HaveBits g root m c bits (operands_of n) → FormHas (HasBits g root m c bits) (form_of n)
form_has g root m c bits (Not x) h = (h.0, h.0)
form_has g root m c bits (And x y) h = (h.0, h.1.0)
form_has g root m c bits (Or x y) h = (h.0, h.1.0)
form_has g root m c bits (Xor x y) h = (h.0, h.1.0)
form_has g root m c bits (Add x y) h = (h.0, h.1.0)
form_has g root m c bits (Sub x y) h = (h.0, h.1.0)
form_has g root m c bits (Eq x y) h = (h.0, h.1.0)
form_has g root m c bits (Ult x y) h = (h.0, h.1.0)
form_has g root m c bits (Ule x y) h = (h.0, h.1.0)
form_has g root m c bits (Mul x y) h = (h.0, h.1.0)
form_has g root m c bits (Shl x y) h = (h.0, h.1.0)
form_has g root m c bits (Lshr x y) h = (h.0, h.1.0)
form_has g root m c bits (Ashr x y) h = (h.0, h.1.0)
form_has g root m c bits (Slt x y) h = (h.0, h.1.0)
form_has g root m c bits (Sle x y) h = (h.0, h.1.0)
form_has g root m c bits _ h = tt

-- the bits of an operand as a call reads them
pub operand_bits : (t : Term) (m : Variables) (c : Circuit) (u : Term) (xs ys : List Bit) → xs ≡ ys → AreBitsOf t m c u ys → AreBitsOf t m c u xs
operand_bits t m c u xs ys e h = subst (AreBitsOf t m c u) (sym e) h
