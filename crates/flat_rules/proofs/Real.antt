-- Where a constant has a value by the rules, that is its value; so are ranges, parameters and declared names those of the module.
use Rattle.std.proofs.Common.{◌≡◌, ℕ, nat_le, ◌≤◌, ◌<◌, ◌+◌, ◌^◌, arith, Bool, true, false, cond, ◌&&◌, ◌||◌, [], ◌∷◌, ◌++◌, refl, sym, ap, ◌∙◌, subst, Option, Some, None, IfSome, ℤ, pos, negsuc, IsTrue}
use Rattle.std.specs.Prelude.{is_some, unwrap_or, option_map, option_and_then}
use Rattle.std.proofs.Math.Nat.{mod-lt}
use Rattle.std.proofs.Math.Pow.{pow_pos}
use Rattle.std.proofs.lemmas.Bool.{and_parts, false≢true}
use Rattle.std.proofs.lemmas.Bool.Decides.{nat_tests}
use Rattle.wb_values.specs.Value.{Name, number as a_number, Entries, entry_of, same_name}
use Rattle.wb_values.specs.Choice.{some_if, first_of}
use Rattle.verilog_trees.specs.Syntax.{Expression, number, name, concatenation, replication, as_signed, as_unsigned, unary, reduction, binary, shift, power, comparison, logical, conditional, Expressions, no_expressions, expression, Selects, whole, one, two, Range, Module}
use Rattle.verilog_meaning.specs.Expression.{Object, Scope, undeclared, object_or_undeclared, scope_of, distance, object_width, no_values, natural_of, width_of, sign_of, self_value, integer_of}
use Rattle.verilog_meaning.specs.Hierarchy.{bound_of, ranged_object, constant_object, parameter_object, overridden_object, Declaration, declarations, declaration_of, bounds_of, declared_object, module_scope}
use Rattle.verilog_rules.specs.Expression.{is_unbroken, broken, broken_constant, is_at_most_128}
use Rattle.verilog_designs.specs.Known.{as_bound, known_bound, both_bounds, known_range, with_range, known_object, known_range_width, value_position, range_is_known, known_parameter, known_override, with_known_addresses, known_declaration, known_module_scope}
use Rattle.wb_laws.specs.Widths.{ReadFits, LeavesFit, AllLeavesFit}
use Rattle.wb_laws.proofs.Widths.{value_fits}
use Rattle.v_value.specs.Narrow.{IsWidth, IsNarrowObject, HasNarrowObjects, IsNarrow, AreNarrow}
use Rattle.v_value.proofs.Narrows.{narrow_width}
use Rattle.v_size.proofs.Unbroken.{unbroken-holds}

-- ---- bounds and ranges

number_real : (b : Bool) (i : ℤ) (n : ℕ) → as_bound (some_if b i) ≡ Some n → (natural_of i ≡ n) × (n ≤ 65535)
number_real true (pos k) n e = chosen (nat_le k 65535) refl e
  where
    chosen : (t : Bool) → nat_le k 65535 ≡ t → some_if t k ≡ Some n → (k ≡ n) × (n ≤ 65535)
    chosen true l f =
        let same : k ≡ n = cc in
        let small : k ≤ 65535 = grind (arith, nat_tests, l) in
        (same, subst (λ x. x ≤ 65535) same small)
    chosen false l f = cc
number_real true (negsuc k) n e = cc
number_real false i n e = cc

bound_real : (s : Scope) (e : Expression) (n : ℕ) → known_bound s e ≡ Some n → (bound_of s e ≡ n) × (n ≤ 65535)
bound_real s e n h = number_real (is_unbroken (broken_constant s e)) (integer_of s no_values e) n h

pub record IsRealRange (s : Scope) (r : Range) (b : ℕ × ℕ) : Type 0 where
  pub left : bound_of s r.left ≡ b.0
  pub right : bound_of s r.right ≡ b.1
  pub left_small : b.0 ≤ 65535
  pub right_small : b.1 ≤ 65535

both_some : (x y : Option ℕ) (b : ℕ × ℕ) → both_bounds x y ≡ Some b → (x ≡ Some b.0) × (y ≡ Some b.1)
both_some (Some l) (Some r) b e = let same : (l, r) ≡ b = cc in (ap (λ (c : ℕ × ℕ). Some c.0) same, ap (λ (c : ℕ × ℕ). Some c.1) same)
both_some None y b e = cc
both_some (Some l) None b e = cc

pub range_real : (s : Scope) (r : Range) (b : ℕ × ℕ) → known_range s r ≡ Some b → IsRealRange s r b
range_real s r b e =
    let h = both_some (known_bound s r.left) (known_bound s r.right) b e in
    let x = bound_real s r.left b.0 h.0 in
    let y = bound_real s r.right b.1 h.1 in
    record { left = x.0; right = y.0; left_small = x.1; right_small = y.1 }

-- ---- declared names

-- A range has a value, where there is one.
abbrev pub IsRanged : Scope → Option Range → Type 0
IsRanged s None = Unit {0}
IsRanged s (Some r) = IsTrue (is_some (known_range s r))

with_bounds : (signed : Bool) (l r : ℕ) → Object
with_bounds signed l r = record undeclared { is_declared = true; signed = signed; has_range = true; left = l; right = r }

some_of : {A : Type 0} (x : Option A) → IsTrue (is_some x) → (y : A) × (x ≡ Some y)
some_of None h = absurd (false≢true h)
some_of (Some y) h = (y, refl)

object_real : (s : Scope) (signed : Bool) (r : Option Range) → IsRanged s r → known_object s signed r ≡ Some (ranged_object s signed r)
unfolding with_bounds
object_real s signed None h = refl
object_real s signed (Some r) h =
    let b = some_of (known_range s r) h in
    let x : IsRealRange s r b.0 = range_real s r b.0 b.1 in
    let l : b.0.0 ≡ bound_of s r.left = sym x.left in
    let m : b.0.1 ≡ bound_of s r.right = sym x.right in
    ap (option_map (with_range signed)) b.1 ∙ (λ i. Some (with_bounds signed (l i) (m i)))

with_words : Object → Option (ℕ × ℕ) → Object
with_words o a = record o { addresses = a }

addresses_real : (s : Scope) (signed : Bool) (r a : Option Range) → IsRanged s a
    → with_known_addresses s a (ranged_object s signed r) ≡ record (ranged_object s signed r) { addresses = option_map (bounds_of s) a }
unfolding with_words
addresses_real s signed None None h = refl
addresses_real s signed (Some r) None h = refl
addresses_real s signed r (Some a) h =
    let b = some_of (known_range s a) h in
    let x : IsRealRange s a b.0 = range_real s a b.0 b.1 in
    let l : b.0.0 ≡ bound_of s a.left = sym x.left in
    let m : b.0.1 ≡ bound_of s a.right = sym x.right in
    ap (λ z. with_words (ranged_object s signed r) (Some (unwrap_or z (0, 0)))) b.1 ∙ (λ i. with_words (ranged_object s signed r) (Some (l i, m i)))

pub declared_real : (s : Scope) (d : Declaration) → IsRanged s d.range → IsRanged s d.addresses → known_declaration s d ≡ Some (declared_object s d)
declared_real s d h k =
    ap (option_map (with_known_addresses s d.addresses)) (object_real s d.signed d.range h) ∙ ap Some (addresses_real s d.signed d.range d.addresses k)

-- What the rules' scope says of a name is what the module's says, where the ranges that are declared of it have values.
pub scope_real : (m : Module) (es : Entries Object) (n : Name)
    → ((d : Declaration) → declaration_of (declarations m) n ≡ Some d → IsRanged (scope_of es) d.range × IsRanged (scope_of es) d.addresses)
    → known_module_scope m es n ≡ module_scope m es n
scope_real m es n f = ap (λ x. object_or_undeclared (first_of (entry_of es n) x)) (found (declaration_of (declarations m) n) f)
  where
    found : (x : Option Declaration) → ((d : Declaration) → x ≡ Some d → IsRanged (scope_of es) d.range × IsRanged (scope_of es) d.addresses)
        → option_and_then (known_declaration (scope_of es)) x ≡ option_map (declared_object (scope_of es)) x
    found None g = refl
    found (Some d) g = let h = g d refl in declared_real (scope_of es) d h.0 h.1

-- ---- values of constants fit

read_fits : (o : Object) (x : Selects) → IsNarrowObject o → ReadFits o (a_number 0) x
read_fits o whole h = found o.constant h.1
  where
    found : (c : Option ℕ) → IfSome c (λ k. k < 2 ^ object_width o) → unwrap_or c 0 < 2 ^ object_width o
    found None g = pow_pos (object_width o)
    found (Some k) g = g
read_fits o (one i) h = λ m k. pow_pos (object_width o)
read_fits o (two i j) h = tt

module _ (s : Scope) (objects : HasNarrowObjects s) where
  mutual
    leaves_fit : (e : Expression) → IsNarrow s e → LeavesFit s no_values e
    leaves_fit (number k) h = h.1
    leaves_fit (name n x) h = read_fits (s n) x (objects n)
    leaves_fit (concatenation es) h = all_leaves_fit es h.1
    leaves_fit (replication k es) h = all_leaves_fit es h.3
    leaves_fit (as_signed x) h = leaves_fit x h
    leaves_fit (as_unsigned x) h = leaves_fit x h
    leaves_fit (unary op x) h = leaves_fit x h
    leaves_fit (reduction op x) h = tt
    leaves_fit (binary op x y) h = (leaves_fit x h.0, leaves_fit y h.1)
    leaves_fit (shift op x n) h = leaves_fit x h.0
    leaves_fit (power x n) h = tt
    leaves_fit (comparison op x y) h = tt
    leaves_fit (logical op x y) h = tt
    leaves_fit (conditional c x y) h = (leaves_fit x h.1, leaves_fit y h.2)

    all_leaves_fit : (es : Expressions) → AreNarrow s es → AllLeavesFit s no_values es
    all_leaves_fit no_expressions h = tt
    all_leaves_fit (expression e es) h = (leaves_fit e h.0, all_leaves_fit es h.1)

-- ---- parameters

-- what a parameter is
pub record IsParameter (o : Object) : Type 0 where
  pub declared : IsTrue (o.is_declared)
  pub narrow : IsNarrowObject o
  pub no_memory : o.addresses ≡ None

if_some : {A : Type 0} (b : Bool) (x o : A) → some_if b x ≡ Some o → (b ≡ true) × (x ≡ o)
if_some true x o e = (refl, cc)
if_some false x o e = cc

range_narrow : (s : Scope) (r : Range) → is_at_most_128 (known_range_width s r) ≡ true → distance (bound_of s r.left) (bound_of s r.right) + 1 ≤ 128
range_narrow s r h = found (known_range s r) refl h
  where
    found : (x : Option (ℕ × ℕ)) → known_range s r ≡ x → is_at_most_128 (option_map (λ (b : ℕ × ℕ). distance b.0 b.1 + 1) x) ≡ true
        → distance (bound_of s r.left) (bound_of s r.right) + 1 ≤ 128
    found None e g = absurd (false≢true g)
    found (Some b) e g =
        let x : IsRealRange s r b = range_real s r b e in
        let l : b.0 ≡ bound_of s r.left = sym x.left in
        let m : b.1 ≡ bound_of s r.right = sym x.right in
        subst (λ w. w + 1 ≤ 128) (λ i. distance (l i) (m i)) (within (distance b.0 b.1 + 1) g)
      where
        within : (w : ℕ) → nat_le w 128 ≡ true → w ≤ 128
        within w k = grind (arith, nat_tests, k)

pub parameter_is : (s : Scope) (signed : Bool) (r : Option Range) (e : Expression) (o : Object) → HasNarrowObjects s → known_parameter s signed r e ≡ Some o
    → (o ≡ parameter_object s signed r e) × IsParameter o
parameter_is s signed None e o objects h =
    let q = if_some (is_unbroken (broken s (value_position s None e) e) && true) (parameter_object s signed None e) o h in
    let u : is_unbroken (broken s (value_position s None e) e) ≡ true = (and_parts (is_unbroken (broken s (value_position s None e) e)) true q.0).0 in
    let narrow : IsNarrow s e = (unbroken-holds s objects (value_position s None e) e u).1 in
    let w : IsWidth (width_of s e) = narrow_width s e narrow in
    let fits = value_fits s no_values e (leaves_fit s objects e narrow) in
    (sym q.1, subst IsParameter q.1 (plain (signed || sign_of s e) (width_of s e) (self_value s no_values e) w fits))
  where
    plain : (g : Bool) (w x : ℕ) → IsWidth w → x < 2 ^ w → IsParameter (constant_object g w x)
    plain g w x h l =
        let low = h.0 in
        let high = h.1 in
        let same : w ≡ object_width (constant_object g w x) = omega (arith, low) in
        record {
          declared = refl;
          narrow = (subst (λ k. k ≤ 128) same high, subst (λ k. x < 2 ^ k) same l);
          no_memory = refl;
        }
parameter_is s signed (Some r) e o objects h =
    let p = value_position s (Some r) e in
    let q = if_some (is_unbroken (broken s p e) && range_is_known s (Some r)) (parameter_object s signed (Some r) e) o h in
    let u = (and_parts (is_unbroken (broken s p e)) (range_is_known s (Some r)) q.0).1 in (
      sym q.1,
      subst IsParameter q.1 (record { declared = refl; narrow = (range_narrow s r u, mod-lt _ (pow_pos _)); no_memory = refl }),
    )

pub override_is : (s : Scope) (signed : Bool) (r : Option Range) (given o : Object) → IsParameter given → known_override s signed r (Some given) ≡ Some o
    → (o ≡ overridden_object s signed r given) × IsParameter o
override_is s signed None given o g h =
    let q = if_some true (overridden_object s signed None given) o h in
    (sym q.1, subst IsParameter q.1 (record { declared = g.declared; narrow = g.narrow; no_memory = g.no_memory }))
override_is s signed (Some r) given o g h =
    let q = if_some (range_is_known s (Some r)) (overridden_object s signed (Some r) given) o h in (
      sym q.1,
      subst IsParameter q.1 (record { declared = refl; narrow = (range_narrow s r q.0, mod-lt _ (pow_pos _)); no_memory = refl }),
    )

-- ---- entries of parameters

abbrev pub AreParameters : Entries Object → Type 0
AreParameters [] = Unit {0}
AreParameters (e ∷ es) = IsParameter e.1 × AreParameters es

pub one_more : (es : Entries Object) (n : Name) (o : Object) → AreParameters es → IsParameter o → AreParameters (es ++ (n, o) ∷ [])
one_more [] n o h k = (k, tt)
one_more (e ∷ es) n o h k = (h.0, one_more es n o h.1 k)

pub entry_is : (es : Entries Object) (n : Name) (o : Object) → AreParameters es → entry_of es n ≡ Some o → IsParameter o
entry_is [] n o h e = cc
entry_is (x ∷ es) n o h e = chosen (same_name x.0 n) (entry_is es n o h.1) e
  where
    chosen : (b : Bool) → (entry_of es n ≡ Some o → IsParameter o) → cond b (Some x.1) (entry_of es n) ≡ Some o → IsParameter o
    chosen true f g = let same : x.1 ≡ o = cc in subst IsParameter same h.0
    chosen false f g = f g

pub undeclared_narrow : IsNarrowObject undeclared
undeclared_narrow = (omega arith, tt)

pub entries_narrow : (es : Entries Object) → AreParameters es → HasNarrowObjects (scope_of es)
entries_narrow es h n = found (entry_of es n) (λ o e. (entry_is es n o h e).narrow)
  where
    found : (x : Option Object) → ((o : Object) → x ≡ Some o → IsNarrowObject o) → IsNarrowObject (object_or_undeclared x)
    found None f = undeclared_narrow
    found (Some o) f = f o refl
