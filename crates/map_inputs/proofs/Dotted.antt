-- A name that an expression of a map knows is that of a name of a module, as it is written from the top.
use Rattle.std.proofs.Common.{◌≡◌, ◌∙◌, ℕ, refl, ap, sym, subst, Bool, true, false, cond, List, [], ◌∷◌, ◌++◌, append-nil, ◌⊎◌, inl, inr, Option, Some, None, is_some, option_map, arith}
use Rattle.std.specs.Prelude.{IsTrue, ◌||◌, ◌==◌}
use Rattle.std.proofs.lemmas.Bool.{false≢true, or_left, or_right}
use Rattle.std.proofs.lemmas.Bool.Decides.{nat_tests}
use Rattle.std.proofs.lemmas.List.{append_assoc}
use Rattle.wb_values.specs.Value.{Name, same_name, Entries, entry_of}
use Rattle.wb_values.specs.Choice.{first_of}
use Rattle.verilog_trees.specs.Syntax.{Expression, ParameterDeclaration, Module}
use Rattle.verilog_meaning.specs.Expression.{Object, Scope, undeclared, object_or_undeclared, scope_of}
use Rattle.verilog_meaning.specs.Hierarchy.{Declaration, declarations, declaration_of, declared_object, and_later, Overrides, no_overrides, one_parameter, override_of, with_values, with_parameters, constants_of, overrides_of, all_parameters, value_names, PathStep, instance_step, step_text, Placed, placed_scope, placed_below, placed_instance, instance_reached, module_named, dotted}
use Rattle.verilog_meaning.specs.Settled.{Design, IsPlacedIn, at_path, is_declared_among}
use Rattle.refinement.specs.Map.{dotted_parts, with_character, object_in, object_at}
use Rattle.verilog_unique.proofs.Options.{from_map, from_chain}
use Rattle.verilog_unique.proofs.Paths.{top_from, stands_at, placed_in, instance_from}
use Rattle.verilog_designs.specs.Names.{is_among, parameter_names}
use Rattle.flat_designs.specs.Flat.{IsNameOf}
use Rattle.map_inputs.specs.Laws.{StandsFor}

-- ---- the names that a module has objects for

either-entry : (es fs : Entries Object) (n : Name) → is_some (entry_of (es ++ fs) n) ≡ true → (is_some (entry_of es n) ≡ true) ⊎ (is_some (entry_of fs n) ≡ true)
either-entry [] fs n h = inr h
either-entry (e ∷ es) fs n h = by (same_name e.0 n) h (either-entry es fs n)
  where
    by : (b : Bool) → is_some (cond b (Some e.1) (entry_of (es ++ fs) n)) ≡ true
        → (is_some (entry_of (es ++ fs) n) ≡ true → (is_some (entry_of es n) ≡ true) ⊎ (is_some (entry_of fs n) ≡ true))
        → (is_some (cond b (Some e.1) (entry_of es n)) ≡ true) ⊎ (is_some (entry_of fs n) ≡ true)
    by true g f = inl refl
    by false g f = f g

one-entry : (m : Name) (o : Object) (n : Name) → is_some (entry_of ((m, o) ∷ []) n) ≡ true → same_name m n ≡ true
one-entry m o n h = by (same_name m n) h
  where
    by : (b : Bool) → is_some (cond b (Some o) None) ≡ true → b ≡ true
    by true g = refl
    by false g = absurd (false≢true g)

-- the object that a value of a declaration gives
abbrev given-object : ParameterDeclaration → Overrides → Name × Expression → Entries Object → Object
given-object d given v known = one_parameter (scope_of known) d.signed d.range v.1 (override_of d given v.0)

values-named : (d : ParameterDeclaration) (given : Overrides) (vs : List (Name × Expression)) (known : Entries Object) (n : Name)
    → is_some (entry_of (with_values d given vs known) n) ≡ true → (is_some (entry_of known n) ≡ true) ⊎ (is_among (value_names vs) n ≡ true)
values-named d given [] known n h = inl h
values-named d given (v ∷ vs) known n h = at (values-named d given vs (known ++ (v.0, given-object d given v known) ∷ []) n h)
  where
    last : (is_some (entry_of known n) ≡ true) ⊎ (is_some (entry_of ((v.0, given-object d given v known) ∷ []) n) ≡ true)
        → (is_some (entry_of known n) ≡ true) ⊎ (is_among (v.0 ∷ value_names vs) n ≡ true)
    last (inl k) = inl k
    last (inr k) = inr (or_left (same_name v.0 n) (is_among (value_names vs) n) (one-entry v.0 (given-object d given v known) n k))

    at : (is_some (entry_of (known ++ (v.0, given-object d given v known) ∷ []) n) ≡ true) ⊎ (is_among (value_names vs) n ≡ true)
        → (is_some (entry_of known n) ≡ true) ⊎ (is_among (v.0 ∷ value_names vs) n ≡ true)
    at (inl k) = last (either-entry known ((v.0, given-object d given v known) ∷ []) n k)
    at (inr k) = inr (or_right (same_name v.0 n) (is_among (value_names vs) n) k)

among-both : (ns ms : List Name) (n : Name) → (is_among ns n ≡ true) ⊎ (is_among ms n ≡ true) → is_among (ns ++ ms) n ≡ true
among-both [] ms n (inl h) = absurd (false≢true h)
among-both [] ms n (inr h) = h
among-both (m ∷ ns) ms n h = by (same_name m n) h (among-both ns ms n)
  where
    by : (b : Bool) → ((b || is_among ns n) ≡ true) ⊎ (is_among ms n ≡ true) → ((is_among ns n ≡ true) ⊎ (is_among ms n ≡ true) → is_among (ns ++ ms) n ≡ true)
        → (b || is_among (ns ++ ms) n) ≡ true
    by true k f = refl
    by false k f = f k

parameters-named : (ds : List ParameterDeclaration) (given : Overrides) (known : Entries Object) (n : Name) → is_some (entry_of (with_parameters ds given known) n) ≡ true
    → (is_some (entry_of known n) ≡ true) ⊎ (is_among (parameter_names ds) n ≡ true)
parameters-named [] given known n h = inl h
parameters-named (d ∷ ds) given known n h = at (parameters-named ds given (with_values d given d.values known) n h)
  where
    first : (is_some (entry_of known n) ≡ true) ⊎ (is_among (value_names d.values) n ≡ true) → (is_some (entry_of known n) ≡ true) ⊎ (is_among (value_names d.values ++ parameter_names ds) n ≡ true)
    first (inl k) = inl k
    first (inr k) = inr (among-both (value_names d.values) (parameter_names ds) n (inl k))

    at : (is_some (entry_of (with_values d given d.values known) n) ≡ true) ⊎ (is_among (parameter_names ds) n ≡ true)
        → (is_some (entry_of known n) ≡ true) ⊎ (is_among (value_names d.values ++ parameter_names ds) n ≡ true)
    at (inl k) = first (values-named d given d.values known n k)
    at (inr k) = inr (among-both (value_names d.values) (parameter_names ds) n (inr k))

-- the constants of a module are those that its parameters have with some overrides
record HasGiven (p : Placed) : Type 0 where
  given : Overrides
  is_given : constants_of p.of_module given ≡ p.constants

placed-given : (d : Design) (path : List PathStep) (p : Placed) → at_path d path ≡ Some p → HasGiven p
placed-given d [] p e = let f = top_from d p e in subst HasGiven f.2 (record { given = no_overrides; is_given = refl })
placed-given d (u ∷ around) p e =
    let outer = from_chain (placed_below d.source u) (at_path d around) p e in
    let inner = from_chain (placed_instance d.source (u ∷ outer.0.path) (placed_scope outer.0)) (instance_reached outer.0.of_module.items u) p outer.2 in
    let f = instance_from d.source (u ∷ outer.0.path) (placed_scope outer.0) inner.0 p inner.2 in
    subst HasGiven f.2 (record { given = overrides_of (placed_scope outer.0) inner.0.parameters f.0; is_given = refl })

declaration-named : (ds : List Declaration) (n : Name) → is_some (declaration_of ds n) ≡ true → is_declared_among ds n ≡ true
declaration-named [] n h = absurd (false≢true h)
declaration-named (d ∷ ds) n h = by (same_name d.of_name n) h (declaration-named ds n)
  where
    by : (b : Bool) → is_some (cond b (Some (and_later d (declaration_of ds n))) (declaration_of ds n)) ≡ true → (is_some (declaration_of ds n) ≡ true → is_declared_among ds n ≡ true)
        → (b || is_declared_among ds n) ≡ true
    by true g f = refl
    by false g f = f g

abbrev no-entries : Entries Object
no-entries = []

known-name : (d : Design) (path : List PathStep) (p : Placed) (n : Name) → at_path d path ≡ Some p → IsTrue ((placed_scope p n).is_declared) → IsNameOf p n
known-name d path p n at h = by (entry_of p.constants n) refl h
  where
    parameter : is_some (entry_of p.constants n) ≡ true → (is_some (entry_of no-entries n) ≡ true) ⊎ (is_among (parameter_names (all_parameters p.of_module)) n ≡ true) → IsNameOf p n
    parameter e (inl k) = absurd (false≢true k)
    parameter e (inr k) = inr k

    from-constants : is_some (entry_of p.constants n) ≡ true → IsNameOf p n
    from-constants e =
        let g = placed-given d path p at in
        parameter e (parameters-named (all_parameters p.of_module) g.given no-entries n (subst (λ (es : Entries Object). is_some (entry_of es n) ≡ true) (sym g.is_given) e))

    by-declaration : (o : Option Declaration) → declaration_of (declarations p.of_module) n ≡ o
        → IsTrue ((object_or_undeclared (option_map (declared_object (scope_of p.constants)) o)).is_declared) → IsNameOf p n
    by-declaration None e k = absurd (false≢true k)
    by-declaration (Some x) e k = inl (declaration-named (declarations p.of_module) n (ap is_some e))

    by : (o : Option Object) → entry_of p.constants n ≡ o
        → IsTrue ((object_or_undeclared (first_of o (option_map (declared_object (scope_of p.constants)) (declaration_of (declarations p.of_module) n)))).is_declared) → IsNameOf p n
    by (Some o) e k = from-constants (ap is_some e)
    by None e k = by-declaration (declaration_of (declarations p.of_module) n) refl k

-- ---- parts of a name, between its dots

abbrev joined : List Name → Name
joined [] = []
joined (n ∷ []) = n
joined (u ∷ n ∷ ns) = u ++ 46 ∷ joined (n ∷ ns)

abbrev IsSome : List Name → Type 0
IsSome [] = ⊥
IsSome (n ∷ ns) = Unit {0}

parts-some : (n : Name) → IsSome (dotted_parts n)
parts-some [] = tt
parts-some (c ∷ cs) = by (c == 46) (dotted_parts cs)
  where
    by : (b : Bool) (ps : List Name) → IsSome (cond b ([] ∷ ps) (with_character c ps))
    by true ps = tt
    by false [] = tt
    by false (p ∷ ps) = tt

is-dot : (c : ℕ) → (c == 46) ≡ true → 46 ≡ c
is-dot c h = grind (arith, nat_tests)

joined-parts : (n : Name) → joined (dotted_parts n) ≡ n
joined-parts [] = refl
joined-parts (c ∷ cs) = by (c == 46) refl (dotted_parts cs) (parts-some cs) (joined-parts cs)
  where
    by : (b : Bool) → (c == 46) ≡ b → (ps : List Name) → IsSome ps → joined ps ≡ cs → joined (cond b ([] ∷ ps) (with_character c ps)) ≡ c ∷ cs
    by b e [] some h = absurd some
    by true e (p ∷ ps) some h = ap (λ x. x ∷ joined (p ∷ ps)) (is-dot c e) ∙ ap (λ xs. c ∷ xs) h
    by false e (p ∷ []) some h = ap (λ xs. c ∷ xs) h
    by false e (p ∷ q ∷ ps) some h = ap (λ xs. c ∷ xs) h

-- ---- where a name stands

record Standing (d : Design) (path : List PathStep) (parts : List Name) : Type 0 where
  within : Placed
  own : Name
  is_placed : IsPlacedIn d within
  is_name : IsNameOf within own
  is_written : dotted within.path own ≡ dotted path (joined parts)
  means : object_at d path parts ≡ placed_scope within own

standing : (d : Design) (path : List PathStep) (parts : List Name) → IsTrue ((object_at d path parts).is_declared) → Standing d path parts
standing d path [] h = absurd (false≢true h)
standing d path (n ∷ []) h = by (at_path d path) refl h
  where
    by : (o : Option Placed) → at_path d path ≡ o → IsTrue ((object_in o n).is_declared) → Standing d path (n ∷ [])
    by None e k = absurd (false≢true k)
    by (Some p) e k =
        record {
          within = p;
          own = n;
          is_placed = placed_in d path p e;
          is_name = known-name d path p n e k;
          is_written = ap (λ q. dotted q n) (stands_at d path p e);
          means = ap (λ o. object_in o n) e;
        }
standing d path (u ∷ n ∷ parts) h =
    let r = standing d (instance_step u ∷ path) (n ∷ parts) h in
    record {
      within = r.within;
      own = r.own;
      is_placed = r.is_placed;
      is_name = r.is_name;
      is_written = r.is_written ∙ ap (λ t. dotted path (t ++ 46 ∷ joined (n ∷ parts))) (append-nil u);
      means = r.means;
    }

pub stands-somewhere : (d : Design) (n : Name) → IsTrue ((object_at d [] (dotted_parts n)).is_declared) → StandsFor d n
stands-somewhere d n h =
    let r = standing d [] (dotted_parts n) h in
    record {
      within = r.within;
      own = r.own;
      is_placed = r.is_placed;
      is_name = r.is_name;
      is_written = r.is_written ∙ joined-parts n;
      means = r.means;
    }
