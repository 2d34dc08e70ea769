-- Where no rule is broken, constants whose names are known have values.
use Rattle.std.proofs.Common.{◌≡◌, ℕ, nat_lt, nat_le, arith, Bool, true, false, cond, not, ◌&&◌, List, [], ◌∷◌, refl, sym, ap, ◌∙◌, subst, Option, Some, None, ℤ, IsTrue}
use Rattle.std.specs.Prelude.{◌+◌, is_some, is_none, option_map, option_and_then}
use Rattle.std.proofs.lemmas.Bool.Decides.{nat_tests}
use Rattle.std.proofs.lemmas.Bool.{and_from, false≢true}
use Rattle.wb_values.specs.Value.{Name, same_name, Entries, entry_of}
use Rattle.wb_values.specs.Choice.{first_of, some_if}
use Rattle.verilog_trees.specs.Syntax.{Expression, Range, Module}
use Rattle.verilog_meaning.specs.Expression.{Object, Scope, object_or_undeclared, scope_of, distance, width_of, sign_of, no_values, integer_of}
use Rattle.verilog_meaning.specs.Hierarchy.{parameter_object, overridden_object, declarations, declaration_of}
use Rattle.verilog_rules.specs.Expression.{Broken, also, is_unbroken, constant_if, Position, constant, wider, as_constant, broken, has_width, broken_constant, constant_number, is_at_most_128, is_over_128}
use Rattle.verilog_designs.specs.Known.{as_bound, known_bound, both_bounds, known_range, known_range_width, value_position, range_is_known, known_parameter, known_override, known_declaration, known_module_scope}
use Rattle.verilog_designs.specs.Names.{names_in, names_in_range}
use Rattle.verilog_designs.specs.Expressions.{is_outside, broken_bound, broken_range, broken_width}
use Rattle.verilog_unique.proofs.Options.{first_false, second_false}
use Rattle.verilog_unique.proofs.Descent.{IsAmong, among_left, among_right}
use Rattle.verilog_exists.proofs.Scopes.{SameIn, same_in, constant_same, all_declared}

-- no more than 128 bits
at_most : (w : ℕ) → nat_lt 128 w ≡ false → nat_le w 128 ≡ true
at_most w h = grind (arith, nat_tests, h)

-- ---- no rule is broken but that on names

pub record Good (b : Broken) : Type 0 where
  pub digits : b.has_xz ≡ false
  pub constants : b.bad_constant ≡ false
  pub widths : b.width_over_128 ≡ false
  pub selects : b.bad_select ≡ false
  pub memories : b.memory_use ≡ false
  pub shape : b.misshapen ≡ false

pub good_left : (a b : Broken) → Good (also a b) → Good a
good_left a b g =
    record {
      digits = first_false a.has_xz b.has_xz g.digits;
      constants = first_false a.bad_constant b.bad_constant g.constants;
      widths = first_false a.width_over_128 b.width_over_128 g.widths;
      selects = first_false a.bad_select b.bad_select g.selects;
      memories = first_false a.memory_use b.memory_use g.memories;
      shape = first_false a.misshapen b.misshapen g.shape;
    }

pub good_right : (a b : Broken) → Good (also a b) → Good b
good_right a b g =
    record {
      digits = second_false a.has_xz b.has_xz g.digits;
      constants = second_false a.bad_constant b.bad_constant g.constants;
      widths = second_false a.width_over_128 b.width_over_128 g.widths;
      selects = second_false a.bad_select b.bad_select g.selects;
      memories = second_false a.memory_use b.memory_use g.memories;
      shape = second_false a.misshapen b.misshapen g.shape;
    }

unbroken : (b : Broken) → Good b → b.undeclared ≡ false → is_unbroken b ≡ true
unbroken b g e =
    and_from (not b.undeclared) _ (ap not e)
    (and_from (not b.has_xz) _ (ap not g.digits)
    (and_from (not b.bad_constant) _ (ap not g.constants)
    (and_from (not b.width_over_128) _ (ap not g.widths)
    (and_from (not b.bad_select) _ (ap not g.selects) (and_from (not b.memory_use) (not b.misshapen) (ap not g.memories) (ap not g.shape))))))

-- ---- known entries

abbrev pub HasEntry : Entries Object → Name → Type 0
HasEntry es n = IsTrue (is_some (entry_of es n))

abbrev pub AllDeclared : Entries Object → Type 0
AllDeclared [] = Unit {0}
AllDeclared (e ∷ es) = IsTrue (e.1.is_declared) × AllDeclared es

pub entry_declared : (es : Entries Object) (n : Name) → AllDeclared es → HasEntry es n → IsTrue ((object_or_undeclared (entry_of es n)).is_declared)
entry_declared [] n h t = absurd (false≢true t)
entry_declared (e ∷ es) n h t = chosen (same_name e.0 n) (entry_declared es n h.1) t
  where
    chosen : (b : Bool) → (HasEntry es n → IsTrue ((object_or_undeclared (entry_of es n)).is_declared)) → IsTrue (is_some (cond b (Some e.1) (entry_of es n)))
        → IsTrue ((object_or_undeclared (cond b (Some e.1) (entry_of es n))).is_declared)
    chosen true f k = h.0
    chosen false f k = f k

-- what the first entries have, all have
abbrev pub Grows : Entries Object → Entries Object → Type 0
Grows es fs = (n : Name) → HasEntry es n → entry_of fs n ≡ entry_of es n

-- ---- constants in a scope of such entries

module _ (m : Module) (known all : Entries Object) (declared : AllDeclared known) (grows : Grows known all) where
  abbrev pub here : Scope
  here = scope_of known

  abbrev pub whole : Scope
  whole = known_module_scope m all

  agree : (n : Name) → HasEntry known n → here n ≡ whole n
  agree n t = one (entry_of known n) (entry_of all n) (grows n t) t
    where
      one : (x y : Option Object) → y ≡ x → IsTrue (is_some x)
          → object_or_undeclared x
          ≡ object_or_undeclared (first_of y (option_and_then (known_declaration (scope_of all)) (declaration_of (declarations m) n)))
      one None y e h = absurd (false≢true h)
      one (Some o) None e h = cc
      one (Some o) (Some z) e h = let f : z ≡ o = cc in sym f

  AreKnown : List Name → Type 0
  AreKnown ns = (n : Name) → IsAmong ns n → HasEntry known n

  same : (e : Expression) → AreKnown (names_in e) → SameIn here whole e
  unfolding AreKnown
  same e f = same_in here whole e (λ n h. agree n (f n h))

  is_unbroken_at : (e : Expression) (p q : Position) → p ≡ q → AreKnown (names_in e) → Good (broken whole q e) → is_unbroken (broken here p e) ≡ true
  unfolding AreKnown
  is_unbroken_at e p q i f g =
      unbroken (broken here p e)
      (subst (λ b. Good b) (sym ((same e f).rules p ∙ ap (λ z. broken whole z e) i)) g)
      (all_declared here e p (λ n h. entry_declared known n declared (f n h)))

  constant_position : (e : Expression) → AreKnown (names_in e) → as_constant here (has_width here e) e ≡ as_constant whole (has_width whole e) e
  constant_position e f =
      let h : SameIn here whole e = same e f in
      ap (λ a. constant (some_if a (width_of here e)) (sign_of here e)) h.has
      ∙ ap (λ a. constant (some_if (has_width whole e) a) (sign_of here e)) h.width
      ∙ ap (constant (some_if (has_width whole e) (width_of whole e))) h.sign

  bound_known : (e : Expression) → AreKnown (names_in e) → Good (broken_bound whole e) → IsTrue (is_some (known_bound here e))
  bound_known e f g =
      let inner : Good (broken_constant whole e) = good_right (constant_if (is_outside (constant_number whole e))) (broken_constant whole e) g in
      let ok : is_unbroken (broken_constant here e) ≡ true =
      is_unbroken_at e (as_constant here (has_width here e) e) (as_constant whole (has_width whole e) e) (constant_position e f) f inner in
      let outside : is_outside (constant_number whole e) ≡ false =
      first_false (is_outside (constant_number whole e)) (broken_constant whole e).bad_constant g.constants in
      within (is_unbroken (broken_constant here e)) (integer_of here no_values e) ok
      (subst (λ x. is_outside x ≡ false) (sym (constant_same here whole e (same e f))) outside)
    where
      some : (x : Option ℕ) → is_none x ≡ false → IsTrue (is_some x)
      some None h = absurd (false≢true (sym h))
      some (Some y) h = refl

      within : (b : Bool) (i : ℤ) → b ≡ true → is_outside (some_if b i) ≡ false → IsTrue (is_some (as_bound (some_if b i)))
      within true i t h = some (as_bound (Some i)) h
      within false i t h = absurd (false≢true t)

  both_some : (x y : Option ℕ) → IsTrue (is_some x) → IsTrue (is_some y) → IsTrue (is_some (both_bounds x y))
  both_some (Some a) (Some b) h k = refl
  both_some None y h k = absurd (false≢true h)
  both_some (Some a) None h k = absurd (false≢true k)

  pub range_known : (r : Range) → ((n : Name) → IsAmong (names_in_range (Some r)) n → HasEntry known n) → Good (broken_range whole (Some r))
      → IsTrue (is_some (known_range here r))
  unfolding AreKnown
  range_known r f g =
      both_some (known_bound here r.left) (known_bound here r.right)
      (bound_known r.left (λ n h. f n (among_left (names_in r.left) (names_in r.right) n h)) (good_left (broken_bound whole r.left) (broken_bound whole r.right) g))
      (bound_known r.right (λ n h. f n (among_right (names_in r.left) (names_in r.right) n h)) (good_right (broken_bound whole r.left) (broken_bound whole r.right) g))

  range_same : (r : Range) → ((n : Name) → IsAmong (names_in_range (Some r)) n → HasEntry known n) → known_range here r ≡ known_range whole r
  unfolding AreKnown
  range_same r f =
      ap (λ x. both_bounds (as_bound x) (known_bound here r.right)) (constant_same here whole r.left (same r.left (λ n h. f n (among_left (names_in r.left) (names_in r.right) n h))))
      ∙ ap (λ x. both_bounds (known_bound whole r.left) (as_bound x)) (constant_same here whole r.right (same r.right (λ n h. f n (among_right (names_in r.left) (names_in r.right) n h))))

  position_same : (r : Option Range) (e : Expression) → ((n : Name) → IsAmong (names_in_range r) n → HasEntry known n) → AreKnown (names_in e)
      → value_position here r e ≡ value_position whole r e
  position_same None e f h = constant_position e h
  position_same (Some r) e f h =
      let i : SameIn here whole e = same e h in
      ap (λ z. constant (wider (option_map (λ (b : ℕ × ℕ). distance b.0 b.1 + 1) z) (some_if (has_width here e) (width_of here e))) (sign_of here e)) (range_same r f)
      ∙ ap (λ a. constant (wider (known_range_width whole r) (some_if a (width_of here e))) (sign_of here e)) i.has
      ∙ ap (λ a. constant (wider (known_range_width whole r) (some_if (has_width whole e) a)) (sign_of here e)) i.width
      ∙ ap (constant (wider (known_range_width whole r) (some_if (has_width whole e) (width_of whole e)))) i.sign

  known_range_test : (r : Option Range) → ((n : Name) → IsAmong (names_in_range r) n → HasEntry known n) → Good (broken_range whole r) → Good (broken_width whole r)
      → range_is_known here r ≡ true
  known_range_test None f g w = refl
  known_range_test (Some r) f g w =
      narrow (known_range here r) (range_known r f g)
      (ap (λ (o : Option (ℕ × ℕ)). is_over_128 (option_map (λ (b : ℕ × ℕ). distance b.0 b.1 + 1) o)) (range_same r f) ∙ w.widths)
    where
      narrow : (o : Option (ℕ × ℕ)) → IsTrue (is_some o) → is_over_128 (option_map (λ (b : ℕ × ℕ). distance b.0 b.1 + 1) o) ≡ false
          → is_at_most_128 (option_map (λ (b : ℕ × ℕ). distance b.0 b.1 + 1) o) ≡ true
      narrow None h k = absurd (false≢true h)
      narrow (Some b) h k = at_most (distance b.0 b.1 + 1) k

  pub parameter_known : (signed : Bool) (r : Option Range) (e : Expression) → ((n : Name) → IsAmong (names_in_range r) n → HasEntry known n)
      → ((n : Name) → IsAmong (names_in e) n → HasEntry known n) → Good (broken_range whole r) → Good (broken_width whole r)
      → Good (broken whole (value_position whole r e) e) → known_parameter here signed r e ≡ Some (parameter_object here signed r e)
  unfolding AreKnown
  parameter_known signed r e f h g w k =
      ap (λ b. some_if b (parameter_object here signed r e))
      (and_from (is_unbroken (broken here (value_position here r e) e)) (range_is_known here r)
      (is_unbroken_at e (value_position here r e) (value_position whole r e) (position_same r e f h) h k) (known_range_test r f g w))

  pub override_known : (signed : Bool) (r : Option Range) (o : Object) → ((n : Name) → IsAmong (names_in_range r) n → HasEntry known n)
      → Good (broken_range whole r) → Good (broken_width whole r) → known_override here signed r (Some o) ≡ Some (overridden_object here signed r o)
  override_known signed r o f g w = ap (λ b. some_if b (overridden_object here signed r o)) (known_range_test r f g w)

-- a value that is given to a parameter, in the whole scope around it
pub own_known : (m : Module) (all : Entries Object) → AllDeclared all → (e : Expression) → ((n : Name) → IsAmong (names_in e) n → HasEntry all n)
    → Good (broken_constant (known_module_scope m all) e)
    → known_parameter (known_module_scope m all) false None e ≡ Some (parameter_object (known_module_scope m all) false None e)
own_known m all declared e f g =
    ap (λ b. some_if (b && true) (parameter_object s false None e))
    (unbroken (broken_constant s e) g (all_declared s e (as_constant s (has_width s e) e) (λ n h. in_whole (option_and_then (known_declaration (scope_of all)) (declaration_of (declarations m) n)) (entry_of all n) (f n h) (entry_declared all n declared (f n h)))))
  where
    s : Scope
    s = known_module_scope m all

    in_whole : (y x : Option Object) → IsTrue (is_some x) → IsTrue ((object_or_undeclared x).is_declared)
        → IsTrue ((object_or_undeclared (first_of x y)).is_declared)
    in_whole y None h t = absurd (false≢true h)
    in_whole y (Some o) h t = t
