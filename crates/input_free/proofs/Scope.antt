-- What names mean in expressions of a map, and that all values of a settled valuation fit there.
use Rattle.std.proofs.Common.{◌≡◌, ◌∙◌, ℕ, ◌+◌, ◌-◌, ◌^◌, ◌<◌, refl, ap, sym, subst, Bool, true, false, cond, List, [], ◌∷◌, ◌++◌, append-nil, ◌⊎◌, inl, inr, Option, Some, None, is_some, is_none, unwrap_or, option_map, arith}
use Rattle.std.specs.Prelude.{IsTrue, ◌||◌, ◌==◌}
use Rattle.std.proofs.lemmas.Bool.{false≢true}
use Rattle.std.proofs.lemmas.Bool.Decides.{nat_tests}
use Rattle.wb_values.specs.Value.{Name, same_name, as_number, Valuation, entry_of}
use Rattle.wb_values.specs.Number.{top_bit}
use Rattle.wb_values.specs.Choice.{first_of}
use Rattle.verilog_trees.specs.Syntax.{name, whole}
use Rattle.verilog_meaning.specs.Expression.{Object, undeclared, object_or_undeclared, scope_of, object_width, is_memory, widened}
use Rattle.verilog_meaning.specs.Hierarchy.{Declaration, declarations, declaration_of, declared_object, and_later, PathStep, instance_step, Placed, placed_scope, dotted}
use Rattle.verilog_meaning.specs.Settled.{Design, IsPlacedIn, inside, at_path, is_declared_among, IsDeclared, IsValueOf, IsSettled}
use Rattle.refinement.specs.Map.{dotted_parts, with_character, object_in, object_at}
use Rattle.wb_laws.specs.Settled.{IsKnown}
use Rattle.wb_laws.proofs.Settled.{settled_value_fits}
use Rattle.verilog_settled.specs.Locality.{HasNoConstantMemory, Fits, AllFit}
use Rattle.verilog_unique.specs.Unique.{NumbersFit}
use Rattle.verilog_unique.proofs.Paths.{stands_at, placed_in}
use Rattle.verilog_unique.proofs.Parameters.{placed_constants, no_constant_memory}
use Rattle.map_rules.specs.Expressions.{design_scope}

-- ---- parts of a name, between its dots

abbrev joined : List Name → Name
joined [] = []
joined (n ∷ []) = n
joined (u ∷ n ∷ ns) = u ++ 46 ∷ joined (n ∷ ns)

abbrev IsSomeList : List Name → Type 0
IsSomeList [] = ⊥
IsSomeList (n ∷ ns) = Unit {0}

parts_some : (n : Name) → IsSomeList (dotted_parts n)
parts_some [] = tt
parts_some (c ∷ cs) = by (c == 46) (dotted_parts cs)
  where
    by : (b : Bool) (ps : List Name) → IsSomeList (cond b ([] ∷ ps) (with_character c ps))
    by true ps = tt
    by false [] = tt
    by false (p ∷ ps) = tt

is_dot : (c : ℕ) → (c == 46) ≡ true → 46 ≡ c
is_dot c h = grind (arith, nat_tests)

joined_parts : (n : Name) → joined (dotted_parts n) ≡ n
joined_parts [] = refl
joined_parts (c ∷ cs) = by (c == 46) refl (dotted_parts cs) (parts_some cs) (joined_parts cs)
  where
    by : (b : Bool) → (c == 46) ≡ b → (ps : List Name) → IsSomeList ps → joined ps ≡ cs → joined (cond b ([] ∷ ps) (with_character c ps)) ≡ c ∷ cs
    by b e [] some h = absurd some
    by true e (p ∷ ps) some h = ap (λ x. x ∷ joined (p ∷ ps)) (is_dot c e) ∙ ap (λ xs. c ∷ xs) h
    by false e (p ∷ []) some h = ap (λ xs. c ∷ xs) h
    by false e (p ∷ q ∷ ps) some h = ap (λ xs. c ∷ xs) h

-- ---- where a name stands

-- The name is that of a module's name, as it is written from the top, and means what that means.
pub record StandsFor (d : Design) (path : List PathStep) (n : Name) (o : Object) : Type 0 where
  pub within : Placed
  pub own : Name
  pub is_placed : IsPlacedIn d within
  pub is_written : dotted within.path own ≡ dotted path n
  pub means : o ≡ placed_scope within own

standing : (d : Design) (path : List PathStep) (parts : List Name)
    → (object_at d path parts ≡ undeclared) ⊎ StandsFor d path (joined parts) (object_at d path parts)
standing d path [] = inl refl
standing d path (n ∷ []) = by (at_path d path) refl
  where
    by : (o : Option Placed) → at_path d path ≡ o → (object_in (at_path d path) n ≡ undeclared) ⊎ StandsFor d path n (object_in (at_path d path) n)
    by None e = inl (ap (λ o. object_in o n) e)
    by (Some p) e =
        inr (record {
          within = p;
          own = n;
          is_placed = placed_in d path p e;
          is_written = ap (λ q. dotted q n) (stands_at d path p e);
          means = ap (λ o. object_in o n) e;
        })
standing d path (u ∷ n ∷ parts) = longer (standing d (instance_step u ∷ path) (n ∷ parts))
  where
    longer : (object_at d (instance_step u ∷ path) (n ∷ parts) ≡ undeclared)
        ⊎ StandsFor d (instance_step u ∷ path) (joined (n ∷ parts)) (object_at d (instance_step u ∷ path) (n ∷ parts))
        → (object_at d path (u ∷ n ∷ parts) ≡ undeclared) ⊎ StandsFor d path (joined (u ∷ n ∷ parts)) (object_at d path (u ∷ n ∷ parts))
    longer (inl e) = inl e
    longer (inr r) =
        inr (record {
          within = r.within;
          own = r.own;
          is_placed = r.is_placed;
          is_written = r.is_written ∙ ap (λ t. dotted path (t ++ 46 ∷ joined (n ∷ parts))) (append-nil u);
          means = r.means;
        })

-- a name of a map's expression is undeclared, or stands for a name of a module
pub in_map : (d : Design) (n : Name) → (design_scope d n ≡ undeclared) ⊎ StandsFor d [] n (design_scope d n)
in_map d n = subst (λ m. (design_scope d n ≡ undeclared) ⊎ StandsFor d [] m (design_scope d n)) (joined_parts n) (standing d [] (dotted_parts n))

-- a declared one stands for a name
pub stands_for : (d : Design) (n : Name) → IsTrue ((design_scope d n).is_declared) → StandsFor d [] n (design_scope d n)
stands_for d n h = some (in_map d n)
  where
    some : (design_scope d n ≡ undeclared) ⊎ StandsFor d [] n (design_scope d n) → StandsFor d [] n (design_scope d n)
    some (inl e) = absurd (false≢true (sym (ap (λ o. o.is_declared) e) ∙ h))
    some (inr r) = r

pub no_memory_constant : (d : Design) → HasNoConstantMemory (design_scope d)
no_memory_constant d n t = some (in_map d n)
  where
    some : (design_scope d n ≡ undeclared) ⊎ StandsFor d [] n (design_scope d n) → is_memory (design_scope d n) ≡ false
    some (inl e) = ap is_memory e
    some (inr r) = ap is_memory r.means ∙ no_constant_memory d r.within.path r.within r.is_placed r.own (subst (λ o. IsTrue (is_some o.constant)) r.means t)

-- ---- names of a module

pub declaration_named : (ds : List Declaration) (n : Name) → is_some (declaration_of ds n) ≡ true → is_declared_among ds n ≡ true
declaration_named [] n h = absurd (false≢true h)
declaration_named (d ∷ ds) n h = by (same_name d.of_name n) h (declaration_named ds n)
  where
    by : (b : Bool) → is_some (cond b (Some (and_later d (declaration_of ds n))) (declaration_of ds n)) ≡ true → (is_some (declaration_of ds n) ≡ true → is_declared_among ds n ≡ true)
        → (b || is_declared_among ds n) ≡ true
    by true g f = refl
    by false g f = f g

abbrev object_by : Placed → Name → Option Object → Object
object_by p n o = object_or_undeclared (first_of o (option_map (declared_object (scope_of p.constants)) (declaration_of (declarations p.of_module) n)))

by_declaration : (p : Placed) (n : Name) → IsTrue ((object_by p n None).is_declared) → IsDeclared p n
by_declaration p n h = by (declaration_of (declarations p.of_module) n) refl h
  where
    by : (o : Option Declaration) → declaration_of (declarations p.of_module) n ≡ o
        → IsTrue ((object_or_undeclared (option_map (declared_object (scope_of p.constants)) o)).is_declared) → IsDeclared p n
    by None e k = absurd (false≢true k)
    by (Some x) e k = declaration_named (declarations p.of_module) n (ap is_some e)

-- a declared name is known
known_of : (p : Placed) (n : Name) → IsTrue ((placed_scope p n).is_declared) → IsKnown p n
known_of p n h = by (entry_of p.constants n) refl h
  where
    by : (o : Option Object) → entry_of p.constants n ≡ o → IsTrue ((object_by p n o).is_declared) → IsKnown p n
    by (Some o) e k = inl (ap is_some e)
    by None e k = inr (by_declaration p n k)

-- and without a number it is a net, a variable or a memory
pub net_of : (d : Design) (p : Placed) (n : Name) → IsPlacedIn d p → IsTrue ((placed_scope p n).is_declared) → IsTrue (is_none (placed_scope p n).constant) → IsDeclared p n
net_of d p n at h net = by (entry_of p.constants n) refl h net
  where
    both_ways : (o : Option ℕ) → IsTrue (is_some o) → IsTrue (is_none o) → ⊥
    both_ways None t f = false≢true t
    both_ways (Some x) t f = false≢true f

    by : (o : Option Object) → entry_of p.constants n ≡ o → IsTrue ((object_by p n o).is_declared) → IsTrue (is_none (object_by p n o).constant) → IsDeclared p n
    by (Some o) e k none = absurd (both_ways o.constant ((placed_constants d p.path p at).numbers n o e).0 none)
    by None e k none = by_declaration p n k

-- a parameter's number in a context of its own width is itself, or more
at_least : (signed : Bool) (w x : ℕ) → widened signed w w x < 2 ^ w → x < 2 ^ w
at_least true w x l = filled (top_bit w x) l
  where
    filled : (b : Bool) → x + cond b (2 ^ w - 2 ^ w) 0 < 2 ^ w → x < 2 ^ w
    filled true m = omega (arith, m)
    filled false m = omega (arith, m)
at_least false w x l = l

known_fits : (d : Design) (registers inputs v : Valuation) (p : Placed) (n : Name) → NumbersFit d.source → IsSettled d registers inputs v → IsPlacedIn d p
    → IsTrue ((placed_scope p n).is_declared) → Fits (placed_scope p n).constant (placed_scope p n) (inside v p n)
known_fits d registers inputs v p n fit settled at known =
    either (placed_scope p n).constant
    (λ net. (settled.modules p at).fits n (net_of d p n at known net))
    (at_least (placed_scope p n).signed (object_width (placed_scope p n)) (unwrap_or (placed_scope p n).constant (as_number (inside v p n)))
    (settled_value_fits d registers inputs v p (name n whole) (λ k m e. (fit k m e).parameters) settled at (known_of p n known)))
  where
    either : (x : Option ℕ) → (IsTrue (is_none x) → IsValueOf (placed_scope p n) (inside v p n))
        → unwrap_or x (as_number (inside v p n)) < 2 ^ object_width (placed_scope p n) → Fits x (placed_scope p n) (inside v p n)
    either None f l = f refl
    either (Some c) f l = l

-- In a map's expressions all values of declared names fit.
pub all_fit : (d : Design) (registers inputs v : Valuation) → NumbersFit d.source → IsSettled d registers inputs v
    → AllFit (design_scope d) (λ n. IsTrue ((design_scope d n).is_declared)) v
all_fit d registers inputs v fit settled n known =
    let r = stands_for d n known in
    let here = known_fits d registers inputs v r.within r.own fit settled r.is_placed (subst (λ o. IsTrue (o.is_declared)) r.means known) in
    subst (λ o. Fits o.constant o (v n)) (sym r.means) (subst (λ m. Fits (placed_scope r.within r.own).constant (placed_scope r.within r.own) (v m)) r.is_written here)
