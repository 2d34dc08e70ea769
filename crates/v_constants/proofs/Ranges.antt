-- Parameters by the value of their range, which is the same for all that one declaration declares.
use Rattle.std.proofs.Common.{◌≡◌, ℕ, ◌+◌, Bool, true, false, true≢false, cond, ◌&&◌, nat_le, nat_lt, ◌⊎◌, inl, inr, refl, ap, sym, ◌∙◌, arith, List, [], ◌∷◌, ◌++◌, append-nil, Option, Some, None, option_map, unwrap_or, ℤ, pos, negsuc}
use Rattle.std.specs.Prelude.{is_some}
use Rattle.std.proofs.lemmas.Bool.Decides.{nat_tests}
use Rattle.wb_values.specs.Value.{Name, same_name, Entries, entry_of}
use Rattle.wb_values.specs.Choice.{first_of, some_if}
use Rattle.verilog_trees.specs.Syntax.{Expression, Range, ParameterDeclaration}
use Rattle.verilog_meaning.specs.Expression.{Object, Scope, object_or_undeclared, scope_of, distance, no_values, natural_of, integer_of, width_of, sign_of, assigned_value}
use Rattle.verilog_meaning.specs.Hierarchy.{bound_of, parameter_object, overridden_object}
use Rattle.verilog_rules.specs.Expression.{is_unbroken, constant, wider, broken, has_width, is_at_most_128, broken_constant}
use Rattle.verilog_designs.specs.Known.{as_bound, known_bound, both_bounds, known_range, value_position, range_is_known, known_parameter, known_override, KnownOverrides, one_known_parameter, known_entry, with_known_values}
use Rattle.verilog_exists.proofs.Scopes.{constant_same}
use Rattle.v_scopes.specs.declared.range.Bounds.{Bounds}
use Rattle.v_scopes.specs.declared.range.Bounds.TheVariants.{Unknown, Known}
use Rattle.v_scopes.specs.Bounds.{bound_at, known_bounds, bounds}
use Rattle.v_constants.specs.Values.{fitting, place_at, numbered, own_at, ranged_at, is_right_at, parameter_at, carried, overridden_by, replaced, one_by, override_by, values_by}
use Rattle.v_constants.proofs.Alike.{unchanged}

-- ---- plain facts

none_some : {A : Type 0} {x : A} → None ≡ Some x → ⊥
none_some h = true≢false (sym (ap is_some h))

and_true : (b : Bool) → (b && true) ≡ b
and_true true = refl
and_true false = refl

and_false : (b : Bool) → (b && false) ≡ false
and_false true = refl
and_false false = refl

abbrev nothing : Option Object
nothing = None

no_choice : (b : Bool) → cond b nothing nothing ≡ nothing
no_choice true = refl
no_choice false = refl

fits_so : (w : ℕ) (f : Bool) → nat_lt w 128 ≡ f → nat_le (w + 1) 128 ≡ f
fits_so w true h = grind (arith, nat_tests, h)
fits_so w false h = grind (arith, nat_tests, h)

-- ---- the bounds of a range that has a value

natural_so : (u : Bool) (z : ℤ) (x : ℕ) → as_bound (some_if u z) ≡ Some x → natural_of z ≡ x
natural_so false z x h = absurd (none_some h)
natural_so true (negsuc n) x h = absurd (none_some h)
natural_so true (pos n) x h = by_test (nat_le n 65535) h
  where
    by_test : (b : Bool) → some_if b n ≡ Some x → n ≡ x
    by_test true k = ap (λ o. unwrap_or o 0) k
    by_test false k = absurd (none_some k)

bound_is : (s : Scope) (e : Expression) (x : ℕ) → known_bound s e ≡ Some x → bound_of s e ≡ x
bound_is s e x h = natural_so (is_unbroken (broken_constant s e)) (integer_of s no_values e) x h

both_are : (x y : Option ℕ) (b : ℕ × ℕ) → both_bounds x y ≡ Some b → (x ≡ Some b.0) × (y ≡ Some b.1)
both_are (Some l) (Some r) b h = (ap (option_map (λ (p : ℕ × ℕ). p.0)) h, ap (option_map (λ (p : ℕ × ℕ). p.1)) h)
both_are (Some l) None b h = absurd (none_some h)
both_are None y b h = absurd (none_some h)

both_so : (x y : Option ℕ) (b : ℕ × ℕ) → x ≡ Some b.0 → y ≡ Some b.1 → both_bounds x y ≡ Some b
both_so x y b h k = ap (λ z. both_bounds z y) h ∙ ap (both_bounds (Some b.0)) k

-- ---- a parameter by the value of its range

module _ (s : Scope) (signed : Bool) (r : Range) (b : ℕ × ℕ) (q : known_range s r ≡ Some b) where
  left_is : bound_of s r.left ≡ b.0
  left_is = bound_is s r.left b.0 (both_are (known_bound s r.left) (known_bound s r.right) b q).0

  right_is : bound_of s r.right ≡ b.1
  right_is = bound_is s r.right b.1 (both_are (known_bound s r.left) (known_bound s r.right) b q).1

  known_is : (f : Bool) → nat_lt (distance b.0 b.1) 128 ≡ f → range_is_known s (Some r) ≡ f
  known_is f h = ap (λ o. is_at_most_128 (option_map (λ (c : ℕ × ℕ). distance c.0 c.1 + 1) o)) q ∙ fits_so (distance b.0 b.1) f h

  object_is : (e : Expression) → parameter_object s signed (Some r) e ≡ ranged_at s signed b.0 b.1 e
  unfolding ranged_at
  object_is e =
      ap (λ l. numbered signed (l, bound_of s r.right) (assigned_value s no_values (distance l (bound_of s r.right) + 1) e)) left_is
      ∙ ap (λ k. numbered signed (b.0, k) (assigned_value s no_values (distance b.0 k + 1) e)) right_is

  carried_is : (o : Object) → overridden_object s signed (Some r) o ≡ numbered signed b (carried o (distance b.0 b.1 + 1))
  carried_is o =
      ap (λ l. numbered signed (l, bound_of s r.right) (carried o (distance l (bound_of s r.right) + 1))) left_is
      ∙ ap (λ k. numbered signed (b.0, k) (carried o (distance b.0 k + 1))) right_is

  parameter_sized : (e : Expression) (f : Bool) → nat_lt (distance b.0 b.1) 128 ≡ f
      → known_parameter s signed (Some r) e ≡ parameter_at s signed (cond f (Known b.0 b.1) Unknown) e
  unfolding place_at is_right_at
  parameter_sized e false h =
      ap (λ k. some_if (is_unbroken (broken s (value_position s (Some r) e) e) && k) (parameter_object s signed (Some r) e)) (known_is false h)
      ∙ (ap (λ k. some_if k (parameter_object s signed (Some r) e)) (and_false (is_unbroken (broken s (value_position s (Some r) e) e)))
      ∙ sym (no_choice (is_right_at s Unknown e)))
  parameter_sized e true h =
      ap (λ k. some_if (is_unbroken (broken s (value_position s (Some r) e) e) && k) (parameter_object s signed (Some r) e)) (known_is true h)
      ∙ (ap (λ k. some_if k (parameter_object s signed (Some r) e)) (and_true (is_unbroken (broken s (value_position s (Some r) e) e)))
      ∙ (ap (λ o. some_if (is_unbroken (broken s (constant (wider (option_map (λ (c : ℕ × ℕ). distance c.0 c.1 + 1) o) (some_if (has_width s e) (width_of s e))) (sign_of s e)) e)) (parameter_object s signed (Some r) e)) q
      ∙ ap (some_if (is_right_at s (Known b.0 b.1) e)) (object_is e)))

  override_sized : (o : Object) (f : Bool) → nat_lt (distance b.0 b.1) 128 ≡ f
      → some_if (range_is_known s (Some r)) (overridden_object s signed (Some r) o) ≡ overridden_by signed (cond f (Known b.0 b.1) Unknown) o
  override_sized o false h = ap (λ k. some_if k (overridden_object s signed (Some r) o)) (known_is false h)
  override_sized o true h = ap (λ k. some_if k (overridden_object s signed (Some r) o)) (known_is true h) ∙ ap Some (carried_is o)

pub parameter_so : (s : Scope) (signed : Bool) (r : Option Range) (e : Expression) → known_parameter s signed r e ≡ parameter_at s signed (fitting (bounds s r)) e
unfolding bound_at place_at is_right_at own_at
parameter_so s signed None e = ap (λ b. some_if b (parameter_object s signed None e)) (and_true (is_unbroken (broken_constant s e)))
parameter_so s signed (Some r) e = by_range (known_range s r) refl
  where
    unknown : known_range s r ≡ None → known_parameter s signed (Some r) e ≡ parameter_at s signed Unknown e
    unknown q =
        ap (λ o. some_if (is_unbroken (broken s (value_position s (Some r) e) e) && is_at_most_128 (option_map (λ (c : ℕ × ℕ). distance c.0 c.1 + 1) o)) (parameter_object s signed (Some r) e)) q
        ∙ (ap (λ k. some_if k (parameter_object s signed (Some r) e)) (and_false (is_unbroken (broken s (value_position s (Some r) e) e)))
        ∙ sym (no_choice (is_right_at s Unknown e)))

    by_range : (o : Option (ℕ × ℕ)) → known_range s r ≡ o → known_parameter s signed (Some r) e ≡ parameter_at s signed (fitting (known_bounds o)) e
    by_range None q = unknown q
    by_range (Some b) q = parameter_sized s signed r b q e (nat_lt (distance b.0 b.1) 128) refl

override_so : (s : Scope) (signed : Bool) (r : Option Range) (given : Option Object) → known_override s signed r given ≡ replaced signed (fitting (bounds s r)) given
unfolding bound_at
override_so s signed r None = refl
override_so s signed None (Some o) = refl
override_so s signed (Some r) (Some o) = by_range (known_range s r) refl
  where
    by_range : (b : Option (ℕ × ℕ)) → known_range s r ≡ b
        → some_if (range_is_known s (Some r)) (overridden_object s signed (Some r) o) ≡ overridden_by signed (fitting (known_bounds b)) o
    by_range None q = ap (λ b. some_if (is_at_most_128 (option_map (λ (c : ℕ × ℕ). distance c.0 c.1 + 1) b)) (overridden_object s signed (Some r) o)) q
    by_range (Some b) q = override_sized s signed r b q o (nat_lt (distance b.0 b.1) 128) refl

one_so : (s : Scope) (d : ParameterDeclaration) (e : Expression) (given : Option (Option Object))
    → one_known_parameter s d e given ≡ one_by s d.signed (fitting (bounds s d.range)) e given
one_so s d e None = parameter_so s d.signed d.range e
one_so s d e (Some given) = override_so s d.signed d.range given

-- ---- the range stays as it is

pub entry_append : (xs ys : Entries Object) (n : Name) → entry_of (xs ++ ys) n ≡ first_of (entry_of xs n) (entry_of ys n)
entry_append [] ys n = refl
entry_append (x ∷ xs) ys n = by_test (same_name x.0 n) (entry_append xs ys n)
  where
    by_test : (b : Bool) → entry_of (xs ++ ys) n ≡ first_of (entry_of xs n) (entry_of ys n)
        → cond b (Some x.1) (entry_of (xs ++ ys) n) ≡ first_of (cond b (Some x.1) (entry_of xs n)) (entry_of ys n)
    by_test true h = refl
    by_test false h = h

alike_more : (known more : Entries Object) (n : Name) → (scope_of known n ≡ scope_of (known ++ more) n) ⊎ ((scope_of known n).constant ≡ None)
alike_more known more n = by_entry (entry_of known n) refl
  where
    by_entry : (o : Option Object) → entry_of known n ≡ o → (scope_of known n ≡ scope_of (known ++ more) n) ⊎ ((scope_of known n).constant ≡ None)
    by_entry (Some o) q =
        inl (ap object_or_undeclared (q ∙ sym (entry_append known more n ∙ ap (λ z. first_of z (entry_of more n)) q)))
    by_entry None q = inr (ap (λ z. (object_or_undeclared z).constant) q)

bound_stays : (known more : Entries Object) (e : Expression) (x : ℕ) → known_bound (scope_of known) e ≡ Some x → known_bound (scope_of (known ++ more)) e ≡ Some x
bound_stays known more e x h = by_test (is_unbroken (broken_constant (scope_of known) e)) refl
  where
    by_test : (b : Bool) → is_unbroken (broken_constant (scope_of known) e) ≡ b → known_bound (scope_of (known ++ more)) e ≡ Some x
    by_test true k =
        sym (ap as_bound (constant_same (scope_of known) (scope_of (known ++ more)) e
        (unchanged (scope_of known) (scope_of (known ++ more)) (alike_more known more) (some_if (has_width (scope_of known) e) (width_of (scope_of known) e)) (sign_of (scope_of known) e) e k))) ∙ h
    by_test false k = absurd (none_some (sym (ap (λ b. as_bound (some_if b (integer_of (scope_of known) no_values e))) k) ∙ h))

range_stays : (known more : Entries Object) (r : Range) (b : ℕ × ℕ) → known_range (scope_of known) r ≡ Some b → known_range (scope_of (known ++ more)) r ≡ Some b
range_stays known more r b h =
    let p = both_are (known_bound (scope_of known) r.left) (known_bound (scope_of known) r.right) b h in
    both_so (known_bound (scope_of (known ++ more)) r.left) (known_bound (scope_of (known ++ more)) r.right) b
    (bound_stays known more r.left b.0 p.0) (bound_stays known more r.right b.1 p.1)

-- After one more parameter the range has the value that it had: where it has none, no parameter was added.
stays : (known : Entries Object) (n : Name) (o : Option Object) (r : Option Range) (b : Bounds) → fitting (bounds (scope_of known) r) ≡ b
    → (b ≡ Unknown → o ≡ None) → fitting (bounds (scope_of (known ++ known_entry n o)) r) ≡ b
unfolding bound_at
stays known n o None b h none = h
stays known n o (Some r) b h none = by_range (known_range (scope_of known) r) refl
  where
    by_range : (c : Option (ℕ × ℕ)) → known_range (scope_of known) r ≡ c → fitting (known_bounds (known_range (scope_of (known ++ known_entry n o)) r)) ≡ b
    by_range None q =
        let unknown : b ≡ Unknown = sym h ∙ ap (λ c. fitting (known_bounds c)) q in
        ap (λ p. fitting (known_bounds (known_range (scope_of (known ++ known_entry n p)) r))) (none unknown)
        ∙ (ap (λ es. fitting (known_bounds (known_range (scope_of es) r))) (append-nil known) ∙ h)
    by_range (Some c) q =
        ap (λ d. fitting (known_bounds d)) (range_stays known (known_entry n o) r c q)
        ∙ (sym (ap (λ d. fitting (known_bounds d)) q) ∙ h)

none_unknown : (s : Scope) (signed : Bool) (e : Expression) (given : Option (Option Object)) (b : Bounds) → b ≡ Unknown → one_by s signed b e given ≡ None
none_unknown s signed e given b h = ap (λ c. one_by s signed c e given) h ∙ by_given given
  where
    by_given : (g : Option (Option Object)) → one_by s signed Unknown e g ≡ None
    by_given None = no_choice (is_right_at s Unknown e)
    by_given (Some None) = refl
    by_given (Some (Some o)) = refl

values_from : (d : ParameterDeclaration) (given : KnownOverrides) (vs : List (Name × Expression)) (known : Entries Object) (b : Bounds)
    → fitting (bounds (scope_of known) d.range) ≡ b → with_known_values d given vs known ≡ values_by d.is_local d.signed b given vs known
values_from d given [] known b h = refl
values_from d given (v ∷ vs) known b h =
    let g : Option (Option Object) = override_by d.is_local given v.0 in
    let same : one_known_parameter (scope_of known) d v.1 g ≡ one_by (scope_of known) d.signed b v.1 g
    = one_so (scope_of known) d v.1 g ∙ ap (λ c. one_by (scope_of known) d.signed c v.1 g) h in
    ap (λ o. with_known_values d given vs (known ++ known_entry v.0 o)) same
    ∙ values_from d given vs (known ++ known_entry v.0 (one_by (scope_of known) d.signed b v.1 g)) b
    (stays known v.0 (one_by (scope_of known) d.signed b v.1 g) d.range b h (none_unknown (scope_of known) d.signed v.1 g b))

pub values_so : (d : ParameterDeclaration) (given : KnownOverrides) (known : Entries Object)
    → values_by d.is_local d.signed (fitting (bounds (scope_of known) d.range)) given d.values known ≡ with_known_values d given d.values known
values_so d given known = sym (values_from d given d.values known (fitting (bounds (scope_of known) d.range)) refl)
