-- Values of nets, variables and memories are of the sorts of their names.
use Rattle.std.proofs.Common.{◌≡◌, ◌∙◌, ℕ, ◌^◌, ◌<◌, suc, refl, ap, sym, subst, true, List, [], ◌∷◌, length, slice_index, arith, le_antisymm}
use Rattle.std.specs.Prelude.{nat_lt, ◌==◌}
use Rattle.std.proofs.lemmas.Bool.{and_from}
use Rattle.std.proofs.lemmas.Bool.Decides.{nat_tests}
use Rattle.wb_values.specs.Value.{Sort, truth, word, memory, all_below, Value, truth_value, number as a_number, words, HasSort}
use Rattle.verilog_meaning.specs.Expression.{Object, object_width, is_memory}
use Rattle.verilog_meaning.specs.Register.{word_count}
use Rattle.verilog_meaning.specs.Settled.{IsAddressWidth, IsValueOf}
use Rattle.verilog_settled.proofs.Values.{not_both}
use Rattle.v_lower.specs.Lowered.{IsSortOf}

pub same_width : (n a b : ℕ) → IsAddressWidth n a → IsAddressWidth n b → a ≡ b
same_width n a b p q = le_antisymm (p.least b q.at_least_one q.enough) (q.least a p.at_least_one p.enough)

below : (x w : ℕ) → x < 2 ^ w → nat_lt x (2 ^ w) ≡ true
below x w h = grind (arith, nat_tests)

same : (a b : ℕ) → a ≡ b → (a == b) ≡ true
same a b h = grind (arith, nat_tests)

pub all_narrow : (w : ℕ) (xs : List ℕ) → ((k : ℕ) → slice_index xs k < 2 ^ w) → all_below w xs ≡ true
all_narrow w [] h = refl
all_narrow w (x ∷ xs) h = and_from (nat_lt x (2 ^ w)) (all_below w xs) (below x w (h 0)) (all_narrow w xs (λ k. h (suc k)))

pub of_value : (o : Object) (t : Sort) (x : Value) → IsSortOf o t → IsValueOf o x → HasSort x t
of_value o truth x h k = absurd h
of_value o (word w) (a_number x) h k = subst (λ z. nat_lt x (2 ^ z) ≡ true) (sym h.1) (below x (object_width o) k.1)
of_value o (word w) (words xs) h k = absurd (not_both (is_memory o) h.0 k.0)
of_value o (word w) (truth_value b) h k = absurd k
of_value o (memory a w) (a_number x) h k = absurd (not_both (is_memory o) k.0 h.0)
of_value o (memory a w) (words xs) h k =
    and_from (length xs == 2 ^ a) (all_below w xs)
    (same (length xs) (2 ^ a) (k.1.all ∙ ap (λ z. 2 ^ z) (same_width (word_count o) k.1.address_width a k.1.is_address_width h.1)))
    (subst (λ z. all_below z xs ≡ true) (sym h.2) (all_narrow (object_width o) xs k.1.narrow))
of_value o (memory a w) (truth_value b) h k = absurd k

pub same_sorts : (o : Object) (t r : Sort) → IsSortOf o t → IsSortOf o r → t ≡ r
same_sorts o truth r h k = absurd h
same_sorts o (word w) truth h k = absurd k
same_sorts o (word w) (word z) h k = ap word (h.1 ∙ sym k.1)
same_sorts o (word w) (memory a z) h k = absurd (not_both (is_memory o) h.0 k.0)
same_sorts o (memory a w) truth h k = absurd k
same_sorts o (memory a w) (word z) h k = absurd (not_both (is_memory o) k.0 h.0)
same_sorts o (memory a w) (memory b z) h k = ap (λ i. memory i w) (same_width (word_count o) a b h.1 k.1) ∙ ap (memory b) (h.2 ∙ sym k.2)
