-- Nets and variables of a module that declares no name twice have no number: they are no parameters.
use Rattle.std.proofs.Common.{◌≡◌, ◌∙◌, ℕ, ◌+◌, ◌≤◌, refl, ap, sym, subst, arith, Bool, true, false, cond, not, ◌&&◌, ◌||◌, nat_le, List, [], ◌∷◌, ◌++◌, ◌⊎◌, inl, inr, Option, Some, None}
use Rattle.std.specs.Prelude.{IsTrue, is_some, is_none, option_map, ◌==◌}
use Rattle.std.specs.List.{list_any}
use Rattle.std.proofs.lemmas.Bool.{false≢true, true≢false, and_parts, or_cases, or_parts}
use Rattle.std.proofs.lemmas.Bool.Decides.{nat_tests}
use Rattle.wb_values.specs.Value.{Name, same_name, Entries, entry_of}
use Rattle.wb_values.specs.Choice.{first_of}
use Rattle.verilog_trees.specs.Syntax.{Expression, ParameterDeclaration, Range, Module, Source}
use Rattle.verilog_meaning.specs.Expression.{Object, Scope, object_or_undeclared, scope_of}
use Rattle.verilog_meaning.specs.Hierarchy.{Declaration, declarations, declaration_of, declared_object, ranged_object, all_parameters, value_names, Overrides, no_overrides, override_of, one_parameter, with_values, with_parameters, constants_of, overrides_of, PathStep, Placed, placed_scope, Instance, placed_instance}
use Rattle.verilog_meaning.specs.Settled.{Design, at_path, IsPlacedIn, is_declared_among, IsDeclared}
use Rattle.verilog_designs.specs.Names.{parameter_names, count_of, all_instance_names, names_where, is_bare_port, is_net_alone, declared_names, is_once, has_duplicate}
use Rattle.verilog_unique.proofs.Options.{same_is, is_same}
use Rattle.verilog_unique.proofs.Descent.{IsAmong, among_left, among_right}
use Rattle.verilog_unique.proofs.Instances.{any_false}
use Rattle.verilog_unique.proofs.Paths.{StepsTo, step_of, instance_from, top_from}

-- ---- counts

count_joined : (n : Name) (ns ms : List Name) → count_of n (ns ++ ms) ≡ count_of n ns + count_of n ms
count_joined n [] ms = omega arith
count_joined n (x ∷ ns) ms = let e = count_joined n ns ms in omega (arith, e)

count_some : (n : Name) (ns : List Name) → IsAmong ns n → 1 ≤ count_of n ns
count_some n [] h = absurd h
count_some n (m ∷ ns) (inl e) = by (same_name m n) (ap (same_name m) (sym e) ∙ is_same m)
  where
    by : (t : Bool) → t ≡ true → 1 ≤ cond t 1 0 + count_of n ns
    by true q = omega arith
    by false q = absurd (false≢true q)
count_some n (m ∷ ns) (inr h) = let k = count_some n ns h in omega (arith, k)

declared_named : (ds : List Declaration) (n : Name) → IsTrue (is_declared_among ds n) → IsAmong (names_where (λ d. true) ds) n
declared_named [] n h = absurd (false≢true h)
declared_named (d ∷ ds) n h =
    elim (or_cases (same_name d.of_name n) (is_declared_among ds n) h) as (λ _. IsAmong (names_where (λ d. true) (d ∷ ds)) n)
    [ inl e ↦ inl (same_is d.of_name n e) | inr k ↦ inr (declared_named ds n k) ]

abbrev share : Bool → Bool → ℕ
share a b = cond a (cond b 1 0) 0

one_more : (n : Name) (b : Bool) (m : Name) (ns : List Name) → count_of n (cond b (m ∷ []) [] ++ ns) ≡ share b (same_name m n) + count_of n ns
one_more n true m ns = refl
one_more n false m ns = omega arith

-- bare ports and nets alone are different declarations
kinds_apart : (n : Name) (ds : List Declaration) → count_of n (names_where is_bare_port ds) + count_of n (names_where is_net_alone ds) ≤ count_of n (names_where (λ d. true) ds)
kinds_apart n [] = omega arith
kinds_apart n (d ∷ ds) =
    let e = one_more n (is_bare_port d) d.of_name (names_where is_bare_port ds) in
    let f = one_more n (is_net_alone d) d.of_name (names_where is_net_alone ds) in
    let k = kinds_apart n ds in
    let h = differ (is_some d.direction) (is_none d.kind) (same_name d.of_name n) in
    omega (arith, e, f, k, h)
  where
    differ : (a b c : Bool) → share (a && b) c + share (not a) c ≤ cond c 1 0
    differ true true true = omega arith
    differ true true false = omega arith
    differ true false true = omega arith
    differ true false false = omega arith
    differ false b true = omega arith
    differ false b false = omega arith

-- ---- no parameter is a net

no_parameter : (m : Module) (n : Name) → has_duplicate m ≡ false → IsTrue (is_declared_among (declarations m) n) → ¬ IsAmong (parameter_names (all_parameters m)) n
no_parameter m n clear declared h =
    impossible (count_of n (declared_names m)) (count_of n (names_where is_bare_port (declarations m))) (count_of n (names_where is_net_alone (declarations m)))
    (count_of n (names_where (λ d. true) (declarations m))) (count_of n (parameter_names (all_parameters m)))
    (positive (is_once m n)
    (any_false (λ k. not (is_once m k)) (declared_names m) n (or_parts (list_any (λ k. not (is_once m k)) (declared_names m)) _ clear).0
    (among_left (names_where (λ d. true) (declarations m) ++ parameter_names (all_parameters m)) (all_instance_names m.items) n
    (among_left (names_where (λ d. true) (declarations m)) (parameter_names (all_parameters m)) n (declared_named (declarations m) n declared)))))
    (kinds_apart n (declarations m)) (count_some n (names_where (λ d. true) (declarations m)) (declared_named (declarations m) n declared))
    (count_some n (parameter_names (all_parameters m)) h) total
  where
    positive : (b : Bool) → not b ≡ false → b ≡ true
    positive true e = refl
    positive false e = absurd (true≢false e)

    total : count_of n (names_where (λ d. true) (declarations m)) + count_of n (parameter_names (all_parameters m)) ≤ count_of n (declared_names m)
    total =
        let a = count_joined n (names_where (λ d. true) (declarations m) ++ parameter_names (all_parameters m)) (all_instance_names m.items) in
        let b = count_joined n (names_where (λ d. true) (declarations m)) (parameter_names (all_parameters m)) in
        omega (arith, a, b)

    impossible : (all ports alone nets parameters : ℕ) → (nat_le all 1 || ((all == 2) && (ports == 1 && alone == 1))) ≡ true → ports + alone ≤ nets
        → 1 ≤ nets → 1 ≤ parameters → nets + parameters ≤ all → ⊥
    impossible all ports alone nets parameters e f g i k = by (or_cases (nat_le all 1) ((all == 2) && (ports == 1 && alone == 1)) e)
      where
        small : nat_le all 1 ≡ true → ⊥
        small t = grind (arith, nat_tests, t, g, i, k)

        exact : (all == 2) ≡ true → (ports == 1) ≡ true → (alone == 1) ≡ true → ⊥
        exact a b c = grind (arith, nat_tests, a, b, c, f, i, k)

        by : (nat_le all 1 ≡ true) ⊎ (((all == 2) && (ports == 1 && alone == 1)) ≡ true) → ⊥
        by (inl t) = small t
        by (inr t) =
            let p = and_parts (all == 2) (ports == 1 && alone == 1) t in
            let q = and_parts (ports == 1) (alone == 1) p.1 in
            exact p.0 q.0 q.1

-- ---- only parameters are constants

abbrev HasEntry : Entries Object → Name → Type 0
HasEntry es n = is_some (entry_of es n) ≡ true

entry_either : (es : Entries Object) (m : Name) (o : Object) (n : Name) → HasEntry (es ++ (m, o) ∷ []) n → HasEntry es n ⊎ (m ≡ n)
entry_either [] m o n h = by (same_name m n) refl h
  where
    by : (t : Bool) → same_name m n ≡ t → is_some (cond t (Some o) None) ≡ true → HasEntry [] n ⊎ (m ≡ n)
    by true e g = inr (same_is m n e)
    by false e g = absurd (false≢true g)
entry_either (e ∷ es) m o n h = by (same_name e.0 n) (entry_either es m o n) h
  where
    by : (t : Bool) → (HasEntry (es ++ (m, o) ∷ []) n → HasEntry es n ⊎ (m ≡ n)) → is_some (cond t (Some e.1) (entry_of (es ++ (m, o) ∷ []) n)) ≡ true
        → (is_some (cond t (Some e.1) (entry_of es n)) ≡ true) ⊎ (m ≡ n)
    by true g k = inl refl
    by false g k = g k

only_values : (d : ParameterDeclaration) (given : Overrides) (vs : List (Name × Expression)) (known : Entries Object) (n : Name)
    → HasEntry (with_values d given vs known) n → HasEntry known n ⊎ IsAmong (value_names vs) n
only_values d given [] known n h = inl h
only_values d given (v ∷ vs) known n h =
    let o : Object = one_parameter (scope_of known) d.signed d.range v.1 (override_of d given v.0) in
    elim (only_values d given vs (known ++ (v.0, o) ∷ []) n h) as (λ _. HasEntry known n ⊎ IsAmong (value_names (v ∷ vs)) n)
    [ inl k ↦ new o (entry_either known v.0 o n k) | inr k ↦ inr (inr k) ]
  where
    new : (o : Object) → HasEntry known n ⊎ (v.0 ≡ n) → HasEntry known n ⊎ IsAmong (value_names (v ∷ vs)) n
    new o (inl g) = inl g
    new o (inr g) = inr (inl g)

only_parameters : (ds : List ParameterDeclaration) (given : Overrides) (known : Entries Object) (n : Name)
    → HasEntry (with_parameters ds given known) n → HasEntry known n ⊎ IsAmong (parameter_names ds) n
only_parameters [] given known n h = inl h
only_parameters (d ∷ ds) given known n h =
    elim (only_parameters ds given (with_values d given d.values known) n h) as (λ _. HasEntry known n ⊎ IsAmong (parameter_names (d ∷ ds)) n) [
      | inl k ↦ first (only_values d given d.values known n k)
      | inr k ↦ inr (among_right (value_names d.values) (parameter_names ds) n k)
    ]
  where
    first : HasEntry known n ⊎ IsAmong (value_names d.values) n → HasEntry known n ⊎ IsAmong (parameter_names (d ∷ ds)) n
    first (inl g) = inl g
    first (inr g) = inr (among_left (value_names d.values) (parameter_names ds) n g)

-- The names of the constants are those of parameters.
abbrev AreOfParameters : Module → Entries Object → Type 0
AreOfParameters m es = (n : Name) → HasEntry es n → IsAmong (parameter_names (all_parameters m)) n

of_parameters : (m : Module) (given : Overrides) → AreOfParameters m (constants_of m given)
of_parameters m given n h =
    elim (only_parameters (all_parameters m) given [] n h) as (λ _. IsAmong (parameter_names (all_parameters m)) n)
    [ inl k ↦ absurd (false≢true k) | inr k ↦ k ]

instance_parameters : (source : Source) (path : List PathStep) (s : Scope) (i : Instance) (p : Placed) → placed_instance source path s i ≡ Some p
    → AreOfParameters p.of_module p.constants
instance_parameters source path s i p e =
    let f = instance_from source path s i p e in
    subst (λ (q : Placed). AreOfParameters q.of_module q.constants) f.2 (of_parameters f.0 (overrides_of s i.parameters f.0))

placed_parameters : (d : Design) (path : List PathStep) (p : Placed) → at_path d path ≡ Some p → AreOfParameters p.of_module p.constants
placed_parameters d [] p e =
    let f = top_from d p e in
    subst (λ (q : Placed). AreOfParameters q.of_module q.constants) f.2 (of_parameters f.0 no_overrides)
placed_parameters d (u ∷ around) p e =
    let s : StepsTo d u around p = step_of d u around p e in
    instance_parameters d.source (u ∷ s.outer.path) (placed_scope s.outer) s.instance p s.is_placed

-- ---- nets have no number

pub no_number : (d : Design) (p : Placed) (n : Name) → IsPlacedIn d p → has_duplicate p.of_module ≡ false → IsDeclared p n → (placed_scope p n).constant ≡ None
no_number d p n at clear declared = by (entry_of p.constants n) refl (declaration_of (declarations p.of_module) n)
  where
    plain : (s : Scope) (signed : Bool) (r : Option Range) → (ranged_object s signed r).constant ≡ None
    plain s signed None = refl
    plain s signed (Some r) = refl

    by : (x : Option Object) → entry_of p.constants n ≡ x → (y : Option Declaration)
        → (object_or_undeclared (first_of x (option_map (declared_object (scope_of p.constants)) y))).constant ≡ None
    by (Some o) e y = absurd (no_parameter p.of_module n clear declared (placed_parameters d p.path p at n (ap is_some e)))
    by None e None = refl
    by None e (Some y) = plain (scope_of p.constants) y.signed y.range
