-- A chain, one cell after another.
use Rattle.std.proofs.Common.{◌≡◌, ◌∙◌, ℕ, ◌<◌, ◌≤◌, ◌+◌, Bool, List, [], ◌∷◌, ◌++◌, length, drop, get_or, arith, refl, sym, ap, subst, append_assoc}
use Rattle.std.proofs.lemmas.List.{drop_more, drop_all, append-nil, map_push, length_push}
use Rattle.std.proofs.lemmas.List.Elements.{All-nil, All-push}
use Rattle.gate_base.specs.declared.bits.Bit.{Bit}
use Rattle.gate_base.specs.Circuit.{Circuit, IsKnown, Grows, FollowsCircuit, bit_value}
use Rattle.gate_words.specs.declared.chains.Cell.{Cell}
use Rattle.gate_words.specs.Binary.{values, AreKnown}
use Rattle.gate_words.specs.Cells.{cell_output, outputs, last_carry, IsCell, IsChain}
use Rattle.gate_words.proofs.Growing.{same, onward, all_known}

-- so many places are done
pub record IsChaining (old now : Circuit) (k : Cell) (carry : Bit) (xs ys bits : List Bit) (next : Bit) (place : ℕ) : Type 0 where
  pub grows : Grows old now
  pub known_bits : AreKnown now bits
  pub count : length bits ≡ place
  pub within : place ≤ length xs
  pub known_next : IsKnown now next
  pub so_far : (w : List Bool) → FollowsCircuit w now
      → values w bits ++ outputs k (bit_value w next) (values w (drop place xs)) (values w (drop place ys)) ≡ outputs k (bit_value w carry) (values w xs) (values w ys)
  pub handed : (w : List Bool) → FollowsCircuit w now
      → last_carry k (bit_value w next) (values w (drop place xs)) (values w (drop place ys)) ≡ last_carry k (bit_value w carry) (values w xs) (values w ys)

pub chain_start : (c : Circuit) (k : Cell) (carry : Bit) (xs ys : List Bit) → IsKnown c carry → IsChaining c c k carry xs ys [] carry 0
chain_start c k carry xs ys h = record {
  grows = same c;
  known_bits = All-nil (IsKnown c);
  count = refl;
  within = omega arith;
  known_next = h;
  so_far = λ w f. refl;
  handed = λ w f. refl;
}

pub chain_turn : (old now new : Circuit) (k : Cell) (carry : Bit) (xs ys bits more : List Bit) (next out after : Bit) (place : ℕ) (d : Bit)
    → IsChaining old now k carry xs ys bits next place → Grows now new → IsCell new k (get_or xs place d) (get_or ys place d) next out after
    → more ≡ bits ++ out ∷ [] → place < length xs → length xs ≡ length ys → IsChaining old new k carry xs ys more after (place + 1)
chain_turn old now new k carry xs ys bits more next out after place d h g s e i n = record {
  grows = onward h.grows g;
  known_bits = subst (AreKnown new) (sym e) (All-push (IsKnown new) bits out (all_known bits g h.known_bits) s.known_output);
  count = ap length e ∙ (length_push bits out ∙ omega (arith, h.count));
  within = omega (arith, i);
  known_next = s.known_next;
  so_far = λ w f.
      let rest = outputs k (bit_value w after) (values w (drop (place + 1) xs)) (values w (drop (place + 1) ys)) in
      ap (λ b. values w b ++ rest) e ∙ (ap (λ b. b ++ rest) (map_push (bit_value w) bits out)
      ∙ (append_assoc (values w bits) (bit_value w out ∷ []) rest
      ∙ (ap (λ b. values w bits ++ b) (ap (λ b. b ∷ rest) (s.is_output w f)
      ∙ ap (λ b. cell_output k (bit_value w (get_or xs place d)) (bit_value w (get_or ys place d)) (bit_value w next) ∷ outputs k b (values w (drop (place + 1) xs)) (values w (drop (place + 1) ys))) (s.is_next w f))
      ∙ (ap (λ b. values w bits ++ outputs k (bit_value w next) (values w b) (values w (get_or ys place d ∷ drop (place + 1) ys))) (sym (drop_more xs place d i))
      ∙ (ap (λ b. values w bits ++ outputs k (bit_value w next) (values w (drop place xs)) (values w b)) (sym (drop_more ys place d (omega (arith, n))))
      ∙ h.so_far w (g.follows w f))))));
  handed = λ w f.
      ap (λ b. last_carry k b (values w (drop (place + 1) xs)) (values w (drop (place + 1) ys))) (s.is_next w f)
      ∙ (ap (λ b. last_carry k (bit_value w next) (values w b) (values w (get_or ys place d ∷ drop (place + 1) ys))) (sym (drop_more xs place d i))
      ∙ (ap (λ b. last_carry k (bit_value w next) (values w (drop place xs)) (values w b)) (sym (drop_more ys place d (omega (arith, n))))
      ∙ h.handed w (g.follows w f)));
}

pub chain_end : (old now : Circuit) (k : Cell) (carry : Bit) (xs ys bits : List Bit) (next : Bit) (place : ℕ)
    → IsChaining old now k carry xs ys bits next place → length xs ≤ place → IsChain now k carry xs ys bits next
chain_end old now k carry xs ys bits next place h i = record {
  known_bits = h.known_bits;
  width = omega (arith, h.count, h.within, i);
  known_last = h.known_next;
  are_outputs = λ w f.
      sym (append-nil (values w bits))
      ∙ (ap (λ b. values w bits ++ outputs k (bit_value w next) (values w b) (values w (drop place ys))) (sym (drop_all place xs i)) ∙ h.so_far w f);
  is_last = λ w f. ap (λ b. last_carry k (bit_value w next) (values w b) (values w (drop place ys))) (sym (drop_all place xs i)) ∙ h.handed w f;
}
