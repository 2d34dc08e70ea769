-- Widths of nets and memories.
use Rattle.std.proofs.Common.{◌≡◌, ℕ, ◌+◌, ◌-◌, ◌<◌, ◌≤◌, ◌^◌, true, false, ◌&&◌, nat_le, [], Some, None, refl, ◌∙◌, ap, arith, pow_mono}
use Rattle.std.specs.Prelude.{IsTrue, ⊤}
use Rattle.std.proofs.lemmas.Bool.{and_parts}
use Rattle.std.proofs.lemmas.Bool.Decides.{nat_tests}
use Rattle.wb_values.specs.Value.{Name, Sort, truth, word, memory}
use Rattle.model_meaning.specs.Term.{is_sort, is_width}
use Rattle.model_meaning.specs.Model.{StateDeclaration}
use Rattle.verilog_meaning.specs.Expression.{Object, Scope, object_width, natural_of, distance}
use Rattle.verilog_meaning.specs.Hierarchy.{declared_object, bound_of}
use Rattle.term_expressions.specs.Expressions.{plain}
use Rattle.term_expressions.specs.Laws.{IsMemory}
use Rattle.term_expressions.proofs.Names.{bound_is}
use Rattle.emitted_modules.specs.Rtl.{bits_of_sort}
use Rattle.emitted_modules.proofs.Declared.{input_net, register_net, nothing_known}

-- ---- sorts of nets

-- a truth value, or a word of a width that words have
abbrev pub IsBitsSort : Sort → Type 0
IsBitsSort truth = ⊤
IsBitsSort (word w) = IsTrue (is_width w)
IsBitsSort (memory a d) = ⊥

pub record IsPlainObject (o : Object) (w : ℕ) : Type 0 where
  pub width : object_width o ≡ w
  pub unsigned : o.signed ≡ false
  pub no_memory : o.addresses ≡ None
  pub no_parameter : o.constant ≡ None
  pub lowest : o.right ≡ 0

abbrev pub object_of_sort : Sort → Object
object_of_sort t = declared_object nothing_known (input_net [] t)

pub bound_of_plain : (s : Scope) (k : ℕ) → k < 2 ^ 31 → bound_of s (plain k) ≡ k
bound_of_plain s k low = ap natural_of (bound_is s k low)

pub width_low : (w : ℕ) → IsTrue (is_width w) → w - 1 < 2 ^ 31
width_low w h = grind (arith, nat_tests, h)

pub width_back : (w : ℕ) → IsTrue (is_width w) → distance (w - 1) 0 + 1 ≡ w
width_back w h = from_bounds w (grind (arith, nat_tests, h))
  where
    from_bounds : (u : ℕ) → 1 ≤ u → distance (u - 1) 0 + 1 ≡ u
    from_bounds u low = omega (arith, low)

pub plain_of_sort : (t : Sort) → IsBitsSort t → IsPlainObject (object_of_sort t) (bits_of_sort t)
plain_of_sort truth h = record { width = refl; unsigned = refl; no_memory = refl; no_parameter = refl; lowest = refl }
plain_of_sort (word w) h = record {
  width =
      ap (λ l. distance l (bound_of nothing_known (plain 0)) + 1) (bound_of_plain nothing_known (w - 1) (width_low w h))
      ∙ (ap (λ l. distance (w - 1) l + 1) (bound_of_plain nothing_known 0 (omega arith)) ∙ width_back w h);
  unsigned = refl;
  no_memory = refl;
  no_parameter = refl;
  lowest = bound_of_plain nothing_known 0 (omega arith);
}
plain_of_sort (memory a d) h = absurd h

pub register_object : (d : StateDeclaration) → IsBitsSort d.sort → declared_object nothing_known (register_net d) ≡ object_of_sort d.sort
register_object d h = by_sort d.sort h
  where
    by_sort : (t : Sort) → IsBitsSort t
        → declared_object nothing_known (register_net (record { state_name = d.state_name; sort = t; init = d.init })) ≡ object_of_sort t
    by_sort truth k = refl
    by_sort (word w) k = refl
    by_sort (memory a e) k = absurd k

-- ---- memories

pub few_words : (a : ℕ) → a ≤ 16 → 2 ^ a - 1 < 2 ^ 31
few_words a le = below (2 ^ a) (pow_mono le)
  where
    below : (n : ℕ) → n ≤ 2 ^ 16 → n - 1 < 2 ^ 31
    below n l = omega (arith, l)

-- A register of a memory's sort holds a memory.
pub memory_of_sort : (s : Scope) (n : Name) (a w : ℕ) → is_sort (memory a w) ≡ true
    → s n ≡ declared_object nothing_known (register_net (record { state_name = n; sort = memory a w; init = None })) → IsMemory s n a w
memory_of_sort s n a w h e = record {
  width =
      ap object_width e
      ∙ (ap (λ l. distance l (bound_of nothing_known (plain 0)) + 1) (bound_of_plain nothing_known (w - 1) (width_low w wide))
      ∙ (ap (λ l. distance (w - 1) l + 1) (bound_of_plain nothing_known 0 (omega arith)) ∙ width_back w wide));
  unsigned = ap (λ (o : Object). o.signed) e;
  addresses =
      ap (λ (o : Object). o.addresses) e
      ∙ (ap (λ l. Some (l, bound_of nothing_known (plain (2 ^ a - 1)))) (bound_of_plain nothing_known 0 (omega arith))
      ∙ ap (λ l. Some (0, l)) (bound_of_plain nothing_known (2 ^ a - 1) (few_words a few)));
}
  where
    wide : is_width w ≡ true
    wide = (and_parts (nat_le 1 a && nat_le a 16) (is_width w) h).1

    few : a ≤ 16
    few = by_test a (and_parts (nat_le 1 a) (nat_le a 16) (and_parts (nat_le 1 a && nat_le a 16) (is_width w) h).0).1
      where
        by_test : (k : ℕ) → nat_le k 16 ≡ true → k ≤ 16
        by_test k f = grind (arith, nat_tests, f)
