-- What the rules say of names with what stands after them.
use Rattle.std.proofs.Common.{◌≡◌, ◌∙◌, refl, ap, sym, ℕ, ◌*◌, Bool, true, false, cond, ◌&&◌, ◌||◌, nat_le, Option, Some, None, ℤ, pos, int_le, arith}
use Rattle.wb_values.specs.Choice.{some_if}
use Rattle.verilog_trees.specs.Syntax as pure
use Rattle.verilog_trees.specs.Syntax.{index, part, part_up, part_down}
use Rattle.verilog_meaning.specs.Expression as meaning
use Rattle.verilog_meaning.specs.Expression.{Scope, Object, object_width, is_memory, no_values, natural_of, select_bits}
use Rattle.verilog_rules.specs.Expression as rules
use Rattle.v_syntax.specs.declared.tree.Select.{Select}
use Rattle.v_syntax.specs.declared.tree.Selects.{Selects, Whole, One, Two}
use Rattle.v_syntax.specs.Tree.{select_of, selects_of}
use Rattle.v_size.specs.declared.rule.Broken.{Broken}
use Rattle.v_size.specs.declared.rule.Judged.{Judged}
use Rattle.v_size.specs.declared.rule.Position.{Position}
use Rattle.v_size.specs.declared.select.Selected.{Selected}
use Rattle.v_size.specs.Rule.{coded, both, position_of}
use Rattle.v_size.specs.Judged.{Taken, fitting, taken_of, taken_by, taken_at, constant_number_at, bits_broken, read_width, whole_judged, one_judged, two_judged, select_broken_at, name_at}
use Rattle.v_size.proofs.Chains.{both-none}

times-one : (k : ℕ) → k * 1 ≡ k
times-one k = omega arith

bits-at : (s : Scope) (o : Object) (x : pure.Select) → coded (rules.broken_bits s o x) ≡ bits_broken o (taken_at s x)
unfolding taken_at constant_number_at
bits-at s o (index i) = refl
bits-at s o (part h l) = refl
bits-at s o (part_up b n) = refl
bits-at s o (part_down b n) = refl

between-fits : (a b : Bool) (m n : ℤ) → some_if (rules.is_at_most_128 (rules.bits_between_bounds (some_if a m) (some_if b n))) (rules.count_between m n) ≡ fitting (rules.bits_between_bounds (some_if a m) (some_if b n))
between-fits true true m n = refl
between-fits true false m n = refl
between-fits false b m n = refl

counted-by : (b : Bool) (k : ℕ) → some_if (rules.is_at_most_128 (some_if b (k * 1))) k ≡ fitting (some_if b (k * 1))
counted-by true k = sym (ap (some_if (nat_le (k * 1) 128)) (times-one k))
counted-by false k = refl

counted-fits : (a : Bool) (n : ℤ) → some_if (rules.is_at_most_128 (rules.copies (some_if a n) (Some 1))) (natural_of n) ≡ fitting (rules.copies (some_if a n) (Some 1))
counted-fits true n = counted-by (int_le (pos 1) n) (natural_of n)
counted-fits false n = refl

select-width : (s : Scope) (o : Object) (x : pure.Select) → some_if (rules.select_has_width s x) (select_bits s no_values o x).count ≡ fitting (taken_of (taken_at s x))
unfolding taken_at constant_number_at
select-width s o (index i) = refl
select-width s o (part h l) = between-fits (rules.is_unbroken (rules.broken_constant s h)) (rules.is_unbroken (rules.broken_constant s l)) (meaning.integer_of s no_values h) (meaning.integer_of s no_values l)
select-width s o (part_up b n) = counted-fits (rules.is_unbroken (rules.broken_constant s n)) (meaning.integer_of s no_values n)
select-width s o (part_down b n) = counted-fits (rules.is_unbroken (rules.broken_constant s n)) (meaning.integer_of s no_values n)

whole-read : (b : Bool) (w : ℕ) → cond b (Some w) None ≡ some_if (b && true) w
whole-read true w = refl
whole-read false w = refl

select-read : (b h : Bool) (w : ℕ) (a : Option ℕ) → some_if h w ≡ a → cond b a None ≡ some_if (b && h) w
select-read true h w a e = sym e
select-read false h w a e = refl

-- a name with one select, by what it breaks itself, what the select breaks and which bits it takes
abbrev one_made : Object → Broken → Broken → Taken → Judged
one_made o own b k =
    cond (is_memory o)
    (record { broken = both own b; width = read_width o (Some (object_width o)); unsized_number = false })
    (record { broken = both own (both b (bits_broken o k)); width = read_width o (fitting (taken_of k)); unsized_number = false })

abbrev named_as : Broken → Option ℕ → Judged
named_as b w = record { broken = b; width = w; unsized_number = false }

one-by : (s : Scope) (p : Position) (o : Object) (x : pure.Select) (m : Bool) → is_memory o ≡ m →
    cond m
    (named_as (both (coded (rules.by_name (position_of p) o (pure.one x))) (coded (rules.broken_select s (position_of p) x))) (read_width o (Some (object_width o))))
    (named_as (both (coded (rules.by_name (position_of p) o (pure.one x))) (both (coded (rules.broken_select s (position_of p) x)) (bits_broken o (taken_at s x)))) (read_width o (fitting (taken_of (taken_at s x)))))
    ≡ named_as (both (coded (rules.by_name (position_of p) o (pure.one x))) (both (coded (rules.broken_select s (position_of p) x)) (coded (cond m rules.nothing (rules.broken_bits s o x)))))
    (some_if ((o.is_declared && nat_le (object_width o) 128) && (m || rules.select_has_width s x)) (cond m (object_width o) (select_bits s no_values o x).count))
one-by s p o x true i = λ j. record {
  broken = both (coded (rules.by_name (position_of p) o (pure.one x))) (both-none (coded (rules.broken_select s (position_of p) x)) j);
  width = whole-read (o.is_declared && nat_le (object_width o) 128) (object_width o) j;
  unsized_number = false;
}
one-by s p o x false i = λ j. record {
  broken = both (coded (rules.by_name (position_of p) o (pure.one x))) (both (coded (rules.broken_select s (position_of p) x)) (sym (bits-at s o x) j));
  width = select-read (o.is_declared && nat_le (object_width o) 128) (rules.select_has_width s x) (select_bits s no_values o x).count (fitting (taken_of (taken_at s x))) (select-width s o x) j;
  unsized_number = false;
}

one-pure : (s : Scope) (p : Position) (o : Object) (x : pure.Select) → one_made o (coded (rules.by_name (position_of p) o (pure.one x))) (select_broken_at s p x) (taken_at s x) ≡ name_at s p o (pure.one x)
unfolding name_at select_broken_at
one-pure s p o x = one-by s p o x (is_memory o) refl

abbrev two_made : Object → Broken → Broken → Broken → Taken → Judged
two_made o own a b k = record { broken = both own (both a (both b (bits_broken o k))); width = read_width o (fitting (taken_of k)); unsized_number = false }

two-pure : (s : Scope) (p : Position) (o : Object) (x y : pure.Select) → two_made o (coded (rules.by_name (position_of p) o (pure.two x y))) (select_broken_at s p x) (select_broken_at s p y) (taken_at s y) ≡ name_at s p o (pure.two x y)
unfolding name_at select_broken_at
two-pure s p o x y = λ j. record {
  broken = both (coded (rules.by_name (position_of p) o (pure.two x y))) (both (coded (rules.broken_select s (position_of p) x)) (both (coded (rules.broken_select s (position_of p) y)) (sym (bits-at s o y) j)));
  width = select-read (o.is_declared && nat_le (object_width o) 128) (rules.select_has_width s y) (select_bits s no_values o y).count (fitting (taken_of (taken_at s y))) (select-width s o y) j;
  unsized_number = false;
}

whole-pure : (s : Scope) (p : Position) (o : Object) → whole_judged (coded (rules.by_name (position_of p) o pure.whole)) o ≡ name_at s p o pure.whole
unfolding name_at
whole-pure s p o = λ j. record {
  broken = both-none (coded (rules.by_name (position_of p) o pure.whole)) j;
  width = whole-read (o.is_declared && nat_le (object_width o) 128) (object_width o) j;
  unsized_number = false;
}

-- x are the selects, own what the name breaks itself, and r the result
module _ (s : Scope) (p : Position) (o : Object) (x : Selects) (own : Broken) (is_own : own ≡ coded (rules.by_name (position_of p) o (selects_of x))) (r : Judged) where
  own-of : (y : pure.Selects) → selects_of x ≡ y → own ≡ coded (rules.by_name (position_of p) o y)
  own-of y i = is_own ∙ ap (λ z. coded (rules.by_name (position_of p) o z)) i

  named-of : (y : pure.Selects) → selects_of x ≡ y → name_at s p o y ≡ name_at s p o (selects_of x)
  named-of y i = sym (ap (name_at s p o) i)

  pub at-Whole : x ≡ Whole → r ≡ whole_judged own o → r ≡ name_at s p o (selects_of x)
  at-Whole i h =
      h ∙ ap (λ b. whole_judged b o) (own-of pure.whole (ap selects_of i)) ∙ whole-pure s p o ∙ named-of pure.whole (ap selects_of i)

  pub at-One : (y : Select) → x ≡ One y → (t : Selected) → t.broken ≡ select_broken_at s p (select_of y) → taken_by t.bits ≡ taken_at s (select_of y) → r ≡ one_judged own o t → r ≡ name_at s p o (selects_of x)
  at-One y i t is_b is_k h =
      h ∙ ap (λ a. one_made o a t.broken (taken_by t.bits)) (own-of (pure.one (select_of y)) (ap selects_of i))
      ∙ ap (λ b. one_made o (coded (rules.by_name (position_of p) o (pure.one (select_of y)))) b (taken_by t.bits)) is_b
      ∙ ap (one_made o (coded (rules.by_name (position_of p) o (pure.one (select_of y)))) (select_broken_at s p (select_of y))) is_k
      ∙ one-pure s p o (select_of y) ∙ named-of (pure.one (select_of y)) (ap selects_of i)

  pub at-Two : (y z : Select) → x ≡ Two y z → (a : Broken) → a ≡ select_broken_at s p (select_of y) → (t : Selected) → t.broken ≡ select_broken_at s p (select_of z) → taken_by t.bits ≡ taken_at s (select_of z)
      → r ≡ two_judged own o a t → r ≡ name_at s p o (selects_of x)
  at-Two y z i a is_a t is_b is_k h =
      h ∙ ap (λ c. two_made o c a t.broken (taken_by t.bits)) (own-of (pure.two (select_of y) (select_of z)) (ap selects_of i))
      ∙ ap (λ c. two_made o (coded (rules.by_name (position_of p) o (pure.two (select_of y) (select_of z)))) c t.broken (taken_by t.bits)) is_a
      ∙ ap (λ c. two_made o (coded (rules.by_name (position_of p) o (pure.two (select_of y) (select_of z)))) (select_broken_at s p (select_of y)) c (taken_by t.bits)) is_b
      ∙ ap (two_made o (coded (rules.by_name (position_of p) o (pure.two (select_of y) (select_of z)))) (select_broken_at s p (select_of y)) (select_broken_at s p (select_of z))) is_k
      ∙ two-pure s p o (select_of y) (select_of z) ∙ named-of (pure.two (select_of y) (select_of z)) (ap selects_of i)
