-- Each parameter of a module that stands in a design has a number.
use Rattle.std.proofs.Common.{◌≡◌, ℕ, Bool, true, false, cond, List, [], ◌∷◌, ◌++◌, ◌⊎◌, inl, inr, refl, sym, subst, Option, Some, None}
use Rattle.std.specs.Prelude.{IsTrue, is_some, is_none, option_map, ◌||◌}
use Rattle.wb_values.specs.Value.{Name, same_name, Entries, entry_of}
use Rattle.wb_values.specs.Choice.{first_of}
use Rattle.verilog_trees.specs.Syntax.{Expression, Range, ParameterDeclaration, Module, Source}
use Rattle.verilog_meaning.specs.Expression.{Object, Scope, is_memory, object_or_undeclared, scope_of}
use Rattle.verilog_meaning.specs.Hierarchy.{ranged_object, parameter_object, overridden_object, Overrides, one_parameter, override_of, with_values, with_parameters, all_parameters, constants_of, declarations, declaration_of, Declaration, declared_object, PathStep, Placed, placed_scope, value_names, Instance, connected, overridable, overrides_of, placed_instance, no_overrides}
use Rattle.verilog_meaning.specs.Settled.{Design, at_path, IsDeclared}
use Rattle.verilog_designs.specs.Names.{is_among, parameter_names}
use Rattle.verilog_settled.specs.Locality.{HasNoConstantMemory}
use Rattle.verilog_unique.proofs.Options.{same_is, is_same, either_true, from_map}
use Rattle.verilog_unique.proofs.Paths.{StepsTo, step_of, instance_from, top_from}
use Rattle.verilog_unique.proofs.Standing.{IsKnownIn}

-- it has a number, and is no memory
abbrev pub HasNumber : Object → Type 0
HasNumber o = IsTrue (is_some o.constant) × (is_memory o ≡ false)

abbrev HaveNumbers : Entries Object → Type 0
HaveNumbers [] = Unit {0}
HaveNumbers (e ∷ es) = HasNumber e.1 × HaveNumbers es

one_more : (es : Entries Object) (n : Name) (o : Object) → HaveNumbers es → HasNumber o → HaveNumbers (es ++ (n, o) ∷ [])
one_more [] n o h k = (k, tt)
one_more (e ∷ es) n o h k = (h.0, one_more es n o h.1 k)

-- the name has an entry
abbrev HasEntry : Entries Object → Name → Type 0
HasEntry es n = IsTrue (is_some (entry_of es n))

entry_number : (es : Entries Object) (n : Name) (o : Object) → HaveNumbers es → entry_of es n ≡ Some o → HasNumber o
entry_number [] n o h e = cc
entry_number (x ∷ es) n o h e = chosen (same_name x.0 n) (entry_number es n o h.1) e
  where
    chosen : (b : Bool) → (entry_of es n ≡ Some o → HasNumber o) → cond b (Some x.1) (entry_of es n) ≡ Some o → HasNumber o
    chosen true g f = let same : x.1 ≡ o = cc in subst HasNumber same h.0
    chosen false g f = g f

entry_kept : (es fs : Entries Object) (n : Name) → HasEntry es n → HasEntry (es ++ fs) n
entry_kept [] fs n h = cc
entry_kept (x ∷ es) fs n h = chosen (same_name x.0 n) (entry_kept es fs n) h
  where
    chosen : (b : Bool) → (HasEntry es n → HasEntry (es ++ fs) n) → IsTrue (is_some (cond b (Some x.1) (entry_of es n)))
        → IsTrue (is_some (cond b (Some x.1) (entry_of (es ++ fs) n)))
    chosen true g f = refl
    chosen false g f = g f

entry_new : (es : Entries Object) (n : Name) (o : Object) → HasEntry (es ++ (n, o) ∷ []) n
entry_new [] n o = subst (λ b. IsTrue (is_some (cond b (Some o) None))) (sym (is_same n)) refl
entry_new (x ∷ es) n o = chosen (same_name x.0 n) (entry_new es n o)
  where
    chosen : (b : Bool) → HasEntry (es ++ (n, o) ∷ []) n → IsTrue (is_some (cond b (Some x.1) (entry_of (es ++ (n, o) ∷ []) n)))
    chosen true f = refl
    chosen false f = f

abbrev OverridesHaveNumbers : Overrides → Type 0
OverridesHaveNumbers given = (n : Name) (o : Object) → given n ≡ Some o → HasNumber o

value_number : (s : Scope) (signed : Bool) (r : Option Range) (e : Expression) → HasNumber (parameter_object s signed r e)
value_number s signed None e = (refl, refl)
value_number s signed (Some r) e = (refl, refl)

override_number : (s : Scope) (signed : Bool) (r : Option Range) (given : Object) → HasNumber given → HasNumber (overridden_object s signed r given)
override_number s signed None given h = h
override_number s signed (Some r) given h = (refl, refl)

one_number : (s : Scope) (signed : Bool) (r : Option Range) (e : Expression) (given : Option Object) → ((o : Object) → given ≡ Some o → HasNumber o)
    → HasNumber (one_parameter s signed r e given)
one_number s signed r e None h = value_number s signed r e
one_number s signed r e (Some o) h = override_number s signed r o (h o refl)

allowed : (d : ParameterDeclaration) (given : Overrides) (n : Name) → OverridesHaveNumbers given → (o : Object) → override_of d given n ≡ Some o
    → HasNumber o
allowed d given n h o e = chosen d.is_local e
  where
    chosen : (b : Bool) → cond b None (given n) ≡ Some o → HasNumber o
    chosen true f = cc
    chosen false f = h n o f

-- the entries, and the names that have one, after a declaration and after all
record Grows (known after : Entries Object) (ns : List Name) : Type 0 where
  numbers : HaveNumbers after
  kept : (n : Name) → HasEntry known n → HasEntry after n
  new : (n : Name) → IsTrue (is_among ns n) → HasEntry after n

values_grow : (d : ParameterDeclaration) (given : Overrides) (vs : List (Name × Expression)) (known : Entries Object) → OverridesHaveNumbers given
    → HaveNumbers known → Grows known (with_values d given vs known) (value_names vs)
values_grow d given [] known g h = record { numbers = h; kept = λ n k. k; new = λ n k. cc }
values_grow d given (v ∷ vs) known g h =
    let o : Object = one_parameter (scope_of known) d.signed d.range v.1 (override_of d given v.0) in
    let k : HasNumber o = one_number (scope_of known) d.signed d.range v.1 (override_of d given v.0) (allowed d given v.0 g) in
    let rest = values_grow d given vs (known ++ (v.0, o) ∷ []) g (one_more known v.0 o h k) in
    record {
      numbers = rest.numbers;
      kept = λ n f. rest.kept n (entry_kept known ((v.0, o) ∷ []) n f);
      new = λ n f. elim (either_true (same_name v.0 n) (is_among (value_names vs) n) f) as (λ _. HasEntry (with_values d given vs (known ++ (v.0, o) ∷ [])) n)
          [ inl t ↦ rest.kept n (subst (HasEntry (known ++ (v.0, o) ∷ [])) (same_is v.0 n t) (entry_new known v.0 o)) | inr t ↦ rest.new n t ];
    }

among_either : (ns ms : List Name) (n : Name) → IsTrue (is_among (ns ++ ms) n) → IsTrue (is_among ns n) ⊎ IsTrue (is_among ms n)
among_either [] ms n t = inr t
among_either (k ∷ ns) ms n t = chosen (same_name k n) (among_either ns ms n) t
  where
    chosen : (b : Bool) → (IsTrue (is_among (ns ++ ms) n) → IsTrue (is_among ns n) ⊎ IsTrue (is_among ms n)) → IsTrue (b || is_among (ns ++ ms) n)
        → IsTrue (b || is_among ns n) ⊎ IsTrue (is_among ms n)
    chosen true g f = inl refl
    chosen false g f = g f

parameters_grow : (ds : List ParameterDeclaration) (given : Overrides) (known : Entries Object) → OverridesHaveNumbers given → HaveNumbers known
    → Grows known (with_parameters ds given known) (parameter_names ds)
parameters_grow [] given known g h = record { numbers = h; kept = λ n k. k; new = λ n k. cc }
parameters_grow (d ∷ ds) given known g h =
    let one = values_grow d given d.values known g h in
    let rest = parameters_grow ds given (with_values d given d.values known) g one.numbers in
    record {
      numbers = rest.numbers;
      kept = λ n f. rest.kept n (one.kept n f);
      new = λ n f. elim (among_either (value_names d.values) (parameter_names ds) n f)
          as (λ _. HasEntry (with_parameters ds given (with_values d given d.values known)) n)
          [ inl t ↦ rest.kept n (one.new n t) | inr t ↦ rest.new n t ];
    }

-- the constants of a module: each has a number, and each parameter is one of them
pub record AreConstants (m : Module) (es : Entries Object) : Type 0 where
  pub numbers : (n : Name) (o : Object) → entry_of es n ≡ Some o → HasNumber o
  pub all : (n : Name) → IsTrue (is_among (parameter_names (all_parameters m)) n) → IsTrue (is_some (entry_of es n))

constants_are : (m : Module) (given : Overrides) → OverridesHaveNumbers given → AreConstants m (constants_of m given)
constants_are m given g =
    let all = parameters_grow (all_parameters m) given [] g tt in
    record { numbers = λ n o e. entry_number (constants_of m given) n o all.numbers e; all = all.new }

given_number : (s : Scope) (i : Instance) (m : Module) → OverridesHaveNumbers (overrides_of s i.parameters m)
given_number s i m n o e =
    let f = from_map (λ x. parameter_object s false None x) (connected i.parameters (overridable (all_parameters m)) n) o e in subst HasNumber f.2 (value_number s false None f.0)

instance_constants : (source : Source) (path : List PathStep) (s : Scope) (i : Instance) (p : Placed) → placed_instance source path s i ≡ Some p
    → AreConstants p.of_module p.constants
instance_constants source path s i p e =
    let f = instance_from source path s i p e in
    subst (λ (q : Placed). AreConstants q.of_module q.constants) f.2 (constants_are f.0 (overrides_of s i.parameters f.0) (given_number s i f.0))

pub placed_constants : (d : Design) (path : List PathStep) (p : Placed) → at_path d path ≡ Some p → AreConstants p.of_module p.constants
placed_constants d [] p e =
    let f = top_from d p e in
    subst (λ (q : Placed). AreConstants q.of_module q.constants) f.2 (constants_are f.0 no_overrides (λ n o k. cc))
placed_constants d (u ∷ around) p e =
    let s : StepsTo d u around p = step_of d u around p e in
    instance_constants d.source (u ∷ s.outer.path) (placed_scope s.outer) s.instance p s.is_placed

-- a parameter of the module has a number in its scope
pub parameter_number : (d : Design) (path : List PathStep) (p : Placed) → at_path d path ≡ Some p → (n : Name)
    → IsTrue (is_among (parameter_names (all_parameters p.of_module)) n) → IsTrue (is_some (placed_scope p n).constant)
parameter_number d path p e n t =
    let c = placed_constants d path p e in found (entry_of p.constants n) (c.numbers n) (c.all n t)
  where
    found : (x : Option Object) → ((o : Object) → x ≡ Some o → HasNumber o) → IsTrue (is_some x)
        → IsTrue (is_some (object_or_undeclared (first_of x (option_map (declared_object (scope_of p.constants)) (declaration_of (declarations p.of_module) n)))).constant)
    found None f g = cc
    found (Some o) f g = (f o refl).0

-- a name with a number is no memory
pub no_constant_memory : (d : Design) (path : List PathStep) (p : Placed) → at_path d path ≡ Some p → HasNoConstantMemory (placed_scope p)
no_constant_memory d path p e n t =
    found (entry_of p.constants n) (declaration_of (declarations p.of_module) n) ((placed_constants d path p e).numbers n) t
  where
    object : Option Object → Option Declaration → Object
    object x y = object_or_undeclared (first_of x (option_map (declared_object (scope_of p.constants)) y))

    plain : (signed : Bool) (r : Option Range) → IsTrue (is_some (ranged_object (scope_of p.constants) signed r).constant) → ⊥
    plain signed None h = cc
    plain signed (Some r) h = cc

    found : (x : Option Object) (y : Option Declaration) → ((o : Object) → x ≡ Some o → HasNumber o) → IsTrue (is_some (object x y).constant)
        → is_memory (object x y) ≡ false
    found None None f h = refl
    found None (Some y) f h = absurd (plain y.signed y.range h)
    found (Some o) y f h = (f o refl).1

-- what is known and has no number is a net or a variable
pub net_is_declared : (d : Design) (path : List PathStep) (p : Placed) → at_path d path ≡ Some p → (n : Name) → IsKnownIn p.of_module n
    → IsTrue (is_none (placed_scope p n).constant) → IsDeclared p n
net_is_declared d path p e n (inl h) net = h
net_is_declared d path p e n (inr h) net = absurd (apart (placed_scope p n).constant (parameter_number d path p e n h) net)
  where
    apart : (x : Option ℕ) → IsTrue (is_some x) → IsTrue (is_none x) → ⊥
    apart None f g = cc
    apart (Some k) f g = cc
