-- Names of a store are distinct, and none of the other names is that of a memory.
use Rattle.std.proofs.Common.{◌≡◌, ◌∙◌, refl, ap, sym, Bool, true, false, cond, List, [], ◌∷◌, ◌++◌, ◌⊎◌, inl, inr}
use Rattle.std.specs.Prelude.{◌||◌}
use Rattle.std.proofs.lemmas.Bool.{true≢false}
use Rattle.wb_values.specs.Value.{Name, same_name}
use Rattle.verilog_trees.specs.Syntax.{Statement}
use Rattle.verilog_meaning.specs.Expression.{Scope}
use Rattle.verilog_designs.specs.Names.{is_among}
use Rattle.verilog_unique.proofs.Options.{is_same}
use Rattle.verilog_unique.proofs.Descent.{IsAmong, among_either, among_left, among_right}
use Rattle.v_registers.specs.Registers.{Counted, AreSplit}
use Rattle.v_elab.specs.Names.{AreDistinct, ArePlain, AreMasksOf, chosen, left_out}
use Rattle.v_elab.specs.Elaborated.{register_names}
use Rattle.v_elab.proofs.Once.{test_among, among_test, found, from_other}
use Rattle.v_elab.proofs.Given.{chosen_among}
use Rattle.v_elab.proofs.Starting.{AreRegistersOf, AreUncounted}

not_among : (ns : List Name) (n : Name) → ¬ IsAmong ns n → is_among ns n ≡ false
not_among ns n h = by (is_among ns n) refl
  where
    by : (t : Bool) → is_among ns n ≡ t → t ≡ false
    by true e = absurd (h (among_test ns n e))
    by false e = refl

fewer : (xs ys : List Name) (n : Name) → (IsAmong xs n → IsAmong ys n) → is_among ys n ≡ false → is_among xs n ≡ false
fewer xs ys n f h = not_among xs n (λ k. true≢false (sym (test_among ys n (f k)) ∙ h))

-- ---- names of the store

-- one name more in the middle
with_one : (xs ys : List Name) (n : Name) → AreDistinct (xs ++ ys) → is_among (xs ++ ys) n ≡ false → AreDistinct (xs ++ n ∷ ys)
with_one [] ys n h k = (k, h)
with_one (x ∷ xs) ys n h k = (apart, with_one xs ys n h.1 (rest (same_name x n) (is_among (xs ++ ys) n) k))
  where
    rest : (t u : Bool) → (t || u) ≡ false → u ≡ false
    rest true u e = absurd (true≢false e)
    rest false u e = e

    first : (t u : Bool) → (t || u) ≡ false → t ≡ false
    first true u e = absurd (true≢false e)
    first false u e = refl

    one : IsAmong (xs ++ n ∷ ys) x → ⊥
    one g = at (among_either xs (n ∷ ys) x g)
      where
        at : IsAmong xs x ⊎ IsAmong (n ∷ ys) x → ⊥
        at (inl a) = true≢false (sym (test_among (xs ++ ys) x (among_left xs ys x a)) ∙ h.0)
        at (inr (inl i)) = true≢false (sym (is_same x) ∙ ap (same_name x) (sym i) ∙ first (same_name x n) (is_among (xs ++ ys) n) k)
        at (inr (inr b)) = true≢false (sym (test_among (xs ++ ys) x (among_right xs ys x b)) ∙ h.0)

    apart : is_among (xs ++ n ∷ ys) x ≡ false
    apart = not_among (xs ++ n ∷ ys) x one

module _ (s : Scope) (q : List Statement) (f : Name → Bool) where
  all_among : (ns : List Name) (cs : List Counted) (os : List Name) (n : Name) → AreSplit s q ns cs os → IsAmong (register_names cs ++ chosen f os) n → IsAmong ns n
  all_among ns cs os n split h = by (among_either (register_names cs) (chosen f os) n h)
    where
      by : IsAmong (register_names cs) n ⊎ IsAmong (chosen f os) n → IsAmong ns n
      by (inl k) = (found s q ns cs os n split k).name
      by (inr k) = (from_other s q ns cs os n split (chosen_among f os n k).0).0

  pub store_distinct : (ns : List Name) (cs : List Counted) (os : List Name) → AreSplit s q ns cs os → AreDistinct ns → AreDistinct (register_names cs ++ chosen f os)
  store_distinct _ _ _ AreSplit.end h = tt
  store_distinct _ _ _ (AreSplit.register n ns c cs os is rest) h = (
    fewer (register_names cs ++ chosen f os) ns c.of_name (all_among ns cs os c.of_name rest) (ap (is_among ns) is.named ∙ h.0),
    store_distinct ns cs os rest h.1,
  )
  store_distinct _ _ _ (AreSplit.other n ns cs os is rest) h = by (f n) (store_distinct ns cs os rest h.1)
    where
      by : (t : Bool) → AreDistinct (register_names cs ++ chosen f os) → AreDistinct (register_names cs ++ cond t (n ∷ chosen f os) (chosen f os))
      by true g = with_one (register_names cs) (chosen f os) n g (fewer (register_names cs ++ chosen f os) ns n (all_among ns cs os n rest) h.0)
      by false g = g

  pub chosen_plain : (os : List Name) → AreUncounted s q f os → ArePlain s (chosen f os)
  chosen_plain [] h = tt
  chosen_plain (n ∷ os) h = by (f n) (chosen_plain os h.2)
    where
      by : (t : Bool) → ArePlain s (chosen f os) → ArePlain s (cond t (n ∷ chosen f os) (chosen f os))
      by true g = (h.1, g)
      by false g = g

  pub left_plain : (os : List Name) → AreUncounted s q f os → ArePlain s (left_out f os)
  left_plain [] h = tt
  left_plain (n ∷ os) h = by (f n) (left_plain os h.2)
    where
      by : (t : Bool) → ArePlain s (left_out f os) → ArePlain s (cond t (left_out f os) (n ∷ left_out f os))
      by true g = g
      by false g = (h.1, g)

  pub masks_of_registers : (cs : List Counted) → AreRegistersOf s q f cs → AreMasksOf s cs
  masks_of_registers [] h = tt
  masks_of_registers (c ∷ cs) h = (h.1.each_word, masks_of_registers cs h.2)
