-- Names that stand whole, and their terms.
use Rattle.std.proofs.Common.{◌≡◌, ℕ, ◌+◌, ◌-◌, ◌<◌, ◌≤◌, ◌^◌, Bool, true, false, cond, not, ◌&&◌, nat_le, Option, Some, None, refl, sym, ap, ◌∙◌, subst}
use Rattle.std.specs.Prelude.{IsSome, IsTrue, IfSome, is_some, unwrap_or}
use Rattle.std.proofs.lemmas.Bool.{false≢true}
use Rattle.wb_values.specs.Value.{Name, Sort, truth, word, memory, Value, truth_value, number, words, as_number, Valuation}
use Rattle.model_meaning.specs.Term.{val}
use Rattle.verilog_trees.specs.Syntax.{whole}
use Rattle.verilog_meaning.specs.Expression.{Object, Scope, object_width, is_memory, whole_value}
use Rattle.verilog_meaning.specs.Settled.{IsValueOf}
use Rattle.wb_terms.specs.Graph.{Graph, tree}
use Rattle.v_operators.specs.Meaning.{Grows, IsOfSort, HasNumber}
use Rattle.v_lower.specs.Lowered.{Images, IsSortOf, IsImage, has_sort, has_number, HasImages, StandsFor}
use Rattle.v_lower.specs.Reading.{IsRead}

-- ---- what is no memory

word_image : (g : Graph) (o : Object) (id : ℕ) (t : Sort) → is_memory o ≡ false → IsSortOf o t → IsOfSort g id t → IsOfSort g id (word (object_width o))
word_image g o id truth m h q = absurd h
word_image g o id (word w) m h q = subst (λ k. IsOfSort g id (word k)) h.1 q
word_image g o id (memory a d) m h q = absurd (false≢true (sym m ∙ h.0))

pub image_word : (s : Scope) (im : Images) (g : Graph) (n : Name) (id : ℕ) → HasImages s im g → is_memory (s n) ≡ false → im n ≡ Some id → IsOfSort g id (word (object_width (s n)))
image_word s im g n id known m e = let i = known.image n id e in word_image g (s n) id i.sort m i.of_name i.of_sort

number_of_value : (o : Object) (x : Value) → is_memory o ≡ false → IsValueOf o x → (x ≡ number (as_number x)) × (as_number x < 2 ^ object_width o)
number_of_value o (number x) m h = (refl, h.1)
number_of_value o (words xs) m h = absurd (false≢true (sym m ∙ h.0))
number_of_value o (truth_value b) m h = absurd h

-- a parameter has a number, and what has none no constant
no_constant : (c : Option ℕ) (m : Bool) → m ≡ false → is_some c && not m ≡ false → c ≡ None
no_constant None m e h = refl
no_constant (Some x) true e h = absurd (false≢true (sym e))
no_constant (Some x) false e h = absurd (false≢true (sym h))

pub without_number : (o : Object) → o.constant ≡ None → has_number o ≡ false
without_number o e = ap (λ c. is_some c && not (is_memory o)) e

pub memory_without_number : (o : Object) → is_memory o ≡ true → has_number o ≡ false
memory_without_number o e = (ap (λ m. is_some o.constant && not m) e) ∙ none (is_some o.constant) where
  none : (b : Bool) → b && false ≡ false
  none true = refl
  none false = refl

pub image_read : (s : Scope) (im : Images) (g : Graph) (n : Name) (w id : ℕ) → HasImages s im g → is_memory (s n) ≡ false → (s n).constant ≡ None → im n ≡ Some id → w ≡ object_width (s n) → IsRead s im g n whole w id
image_read s im g n w id known m none e is_w =
    record {
      width = is_w;
      of_sort = subst (λ k. IsOfSort g id (word k)) (sym is_w) (image_word s im g n id known m e);
      value = λ p v st.
          let f = number_of_value (s n) (v n) m (st.fits n id e) in
          record {
            value = st.same n id e ∙ (f.0 ∙ ap (λ c. number (unwrap_or c (as_number (v n)))) (sym none));
            fits = subst (λ c. unwrap_or c (as_number (v n)) < 2 ^ w) (sym none) (subst (λ k. as_number (v n) < 2 ^ k) (sym is_w) f.1);
          };
    }

-- a parameter
pub number_read : (s : Scope) (im : Images) (g : Graph) (n : Name) (w id c : ℕ) → (s n).constant ≡ Some c → w ≡ object_width (s n) → IsOfSort g id (word w) → ((p : Valuation) → HasNumber g id w p c) → IsRead s im g n whole w id
number_read s im g n w id c e is_w o is_c =
    record { width = is_w; of_sort = o; value = λ p v st. subst (λ k. HasNumber g id w p (unwrap_or k (as_number (v n)))) (sym e) (is_c p) }

pub number_fits : (o : Object) (c : ℕ) → IfSome o.constant (λ k. k < 2 ^ object_width o) → o.constant ≡ Some c → (w : ℕ) → w ≡ object_width o → c < 2 ^ w
number_fits o c h e w is_w =
    subst (λ k. c < 2 ^ k) (sym is_w) (subst (λ q. IfSome q (λ k. k < 2 ^ object_width o)) e h)

-- every name that has a sort and no number has a term
pub image_there : (s : Scope) (im : Images) (g : Graph) (n : Name) → HasImages s im g → has_sort (s n) ≡ true → has_number (s n) ≡ false → im n ≡ None → ⊥
image_there s im g n known h k e = missing (im n) e (known.some n h k) where
  missing : (o : Option ℕ) → o ≡ None → IsSome o → ⊥
  missing None e h = absurd (false≢true h)
  missing (Some x) e h = absurd (false≢true (sym (ap is_some e)))
