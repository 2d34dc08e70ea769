-- The objects of a module's names, as the definitions have them.
use Rattle.std.proofs.Common.{◌≡◌, ◌∙◌, refl, ap, sym, subst, ℕ, ◌≤◌, Bool, true, false, true≢false, cond, List, [], ◌∷◌, ◌++◌, append_assoc, append-nil, ◌+◌, ◌<◌, length, drop, get_or, Option, Some, None, unwrap_or, option_map, option_and_then}
use mathlib.Core.Path.{fun_ext}
use Rattle.std.proofs.lemmas.List.{drop_all}
use Rattle.std.proofs.lemmas.Slice.Eq.{bytes_eq-Decides}
use Rattle.wb_values.specs.Value.{Name, same_name, Entries, entry_of}
use Rattle.wb_values.specs.Choice.{first_of}
use Rattle.verilog_trees.specs.Syntax.{Range, Module, Source}
use Rattle.verilog_meaning.specs.Expression.{Object, Scope, undeclared, object_or_undeclared, scope_of}
use Rattle.verilog_meaning.specs.Hierarchy.{Declaration, declarations, declaration_of, module_named, PathStep, Placed}
use Rattle.verilog_meaning.specs.Settled.{Design}
use Rattle.verilog_designs.specs.Known.{known_range, with_range, known_object, with_known_addresses, known_declaration, known_module_scope, known_at, known_scope}
use Rattle.verilog_designs.specs.Accepted.{HasNoTop, Breaks, no_top}
use Rattle.v_scopes.specs.Bounds.{bound_at, known_bounds, bounds}
use Rattle.v_scopes.specs.Rows.{Row, row, rows, rows_of, row_named, ranged, addresses_at, addressed, row_and_later, row_object, object_from, scope_by, objects_by}
use Rattle.v_scopes.specs.Ports.{alone}
use Rattle.v_scopes.specs.Refusals.{IsWhole, IsNamesRefusal}
use Rattle.v_value.specs.declared.scope.Declaration.{Declaration as CodeDeclaration}
use Rattle.v_value.specs.Scope.{object_of, objects_of}
use Rattle.v_scopes.specs.declared.row.Declared.{Declared}
use Rattle.v_scopes.specs.declared.table.ModuleScope.{ModuleScope}
use Rattle.v_scopes.specs.Scopes.{scope_in, with_top, IsScoping}
use Rattle.v_scopes.proofs.Parts.{some_is, none_some, top_alone, nothing_known_below}
use Rattle.v_scopes.proofs.Joined.{named_so, rows_drop}

-- ---- one declaration

ranged_so : (s : Scope) (g : Bool) (r : Option Range) → ranged g (bounds s r) ≡ known_object s g r
unfolding bound_at
ranged_so s g None = refl
ranged_so s g (Some r) = by_value (known_range s r)
  where
    by_value : (o : Option (ℕ × ℕ)) → ranged g (known_bounds o) ≡ option_map (with_range g) o
    by_value None = refl
    by_value (Some b) = refl

with_so : (s : Scope) (a : Option Range) (g : Bool) (r : Option Range)
    → option_map (addressed (addresses_at (bounds s a))) (known_object s g r) ≡ option_map (with_known_addresses s a) (known_object s g r)
unfolding bound_at
with_so s None g None = refl
with_so s None g (Some r) = by_value (known_range s r)
  where
    by_value : (o : Option (ℕ × ℕ)) → option_map (addressed None) (option_map (with_range g) o) ≡ option_map (with_known_addresses s None) (option_map (with_range g) o)
    by_value None = refl
    by_value (Some b) = refl
with_so s (Some a) g r = by_value (known_range s a)
  where
    by_value : (o : Option (ℕ × ℕ)) → option_map (addressed (addresses_at (known_bounds o))) (known_object s g r) ≡ option_map (addressed (Some (unwrap_or o (0, 0)))) (known_object s g r)
    by_value None = refl
    by_value (Some b) = refl

object_so : (s : Scope) (d : Declaration) → row_object (row s d) ≡ known_declaration s d
object_so s d =
    ap (option_map (addressed (addresses_at (bounds s d.addresses)))) (ranged_so s d.signed d.range) ∙ with_so s d.addresses d.signed d.range

-- ---- a name

from_row : (s : Scope) (o : Option Declaration) → option_and_then row_object (option_map (row s) o) ≡ option_and_then (known_declaration s) o
from_row s None = refl
from_row s (Some d) = object_so s d

pub scope_so : (m : Module) (rs : List Row) → rs ≡ rows (scope_of []) (declarations m) → scope_by rs ≡ known_module_scope m []
scope_so m rs e =
    fun_ext (λ n.
    ap (λ xs. object_from (row_named xs n)) e
    ∙ (ap object_from (sym (named_so (scope_of []) (declarations m) n))
    ∙ ap object_or_undeclared (from_row (scope_of []) (declaration_of (declarations m) n))))

-- ---- as a list of names and objects

entry_cond : (b : Bool) (x : Object) (o : Option Object) → object_or_undeclared (cond b (Some x) o) ≡ cond b x (object_or_undeclared o)
entry_cond true x o = refl
entry_cond false x o = refl

by_name : (s : Scope) (d : Row) (n : Name) (o : Object) (b : Bool) → same_name d.of_name n ≡ b → (b ≡ false → o ≡ s n) → cond b (s d.of_name) o ≡ s n
by_name s d n o true e h = ap s ((bytes_eq-Decides d.of_name n).0 e)
by_name s d n o false e h = h refl

cond_none : {A : Type 0} (b : Bool) (x : A) (o : Option A) → b ≡ false → o ≡ None → cond b (Some x) o ≡ None
cond_none true x o e h = absurd (true≢false e)
cond_none false x o e h = h

-- the list of the names' objects gives the scope, where that has no other name
objects_at : (s : Scope) (ds : List Row) (n : Name) → (row_named ds n ≡ None → s n ≡ undeclared) → object_or_undeclared (entry_of (objects_by s ds) n) ≡ s n
objects_at s [] n h = sym (h refl)
objects_at s (d ∷ ds) n h =
    entry_cond (same_name d.of_name n) (s d.of_name) (entry_of (objects_by s ds) n)
    ∙ by_name s d n (object_or_undeclared (entry_of (objects_by s ds) n)) (same_name d.of_name n) refl
    (λ e. objects_at s ds n (λ k. h (cond_none (same_name d.of_name n) (row_and_later d (row_named ds n)) (row_named ds n) e k)))

pub objects_so : (ds : List Row) → scope_of (objects_by (scope_by ds) ds) ≡ scope_by ds
objects_so ds = fun_ext (λ n. objects_at (scope_by ds) ds n (λ e. ap object_from e))

objects_append : (ds es : List CodeDeclaration) → objects_of (ds ++ es) ≡ objects_of ds ++ objects_of es
objects_append [] es = refl
objects_append (d ∷ ds) es = ap (λ xs. (d.name.now, object_of d.object) ∷ xs) (objects_append ds es)

-- a turn that puts a name with its object behind others
pub object_turn : (s : Scope) (ds : List Declared) (i : ℕ) (d : Declared) (now new : List CodeDeclaration) (x : CodeDeclaration) (whole : Entries Object) → i < length ds
    → new ≡ now ++ x ∷ [] → x.name.now ≡ (get_or ds i d).name.now → object_of x.object ≡ s x.name.now
    → objects_of now ++ objects_by s (rows_of (drop i ds)) ≡ whole → objects_of new ++ objects_by s (rows_of (drop (i + 1) ds)) ≡ whole
object_turn s ds i d now new x whole h p n o e =
    let rest : Entries Object = objects_by s (rows_of (drop (i + 1) ds)) in
    ap (λ xs. objects_of xs ++ rest) p
    ∙ (ap (λ xs. xs ++ rest) (objects_append now (x ∷ []))
    ∙ (append_assoc (objects_of now) ((x.name.now, object_of x.object) ∷ []) rest
    ∙ ((λ k. objects_of now ++ (n k, (o ∙ ap s n) k) ∷ rest)
    ∙ (ap (λ rs. objects_of now ++ objects_by s rs) (sym (rows_drop ds i d h)) ∙ e))))

-- at the end no declaration is left
pub list_end : (s : Scope) (ds : List Declared) (i : ℕ) (now : List CodeDeclaration) (whole : Entries Object) → length ds ≤ i
    → objects_of now ++ objects_by s (rows_of (drop i ds)) ≡ whole → objects_of now ≡ whole
list_end s ds i now whole h e =
    sym (append-nil (objects_of now)) ∙ (ap (λ xs. objects_of now ++ objects_by s (rows_of xs)) (sym (drop_all i ds h)) ∙ e)

pub list_so : (s : ModuleScope) (ds : List Declared) (xs : List CodeDeclaration) → ds ≡ s.declared.items → objects_of xs ≡ objects_by (scope_in s) (rows_of ds)
    → scope_of (objects_of xs) ≡ scope_in s
list_so s ds xs h e = ap scope_of (e ∙ ap (λ ys. objects_by (scope_in s) (rows_of ys)) h) ∙ objects_so (rows_of s.declared.items)

-- ---- with constants

-- the declared objects after constants
with_constants : (known : Entries Object) (xs : Entries Object) (n : Name)
    → object_or_undeclared (entry_of (known ++ xs) n) ≡ unwrap_or (entry_of known n) (object_or_undeclared (entry_of xs n))
with_constants [] xs n = refl
with_constants (k ∷ ks) xs n = by (same_name k.0 n) (with_constants ks xs n)
  where
    by : (b : Bool) → object_or_undeclared (entry_of (ks ++ xs) n) ≡ unwrap_or (entry_of ks n) (object_or_undeclared (entry_of xs n))
        → object_or_undeclared (cond b (Some k.1) (entry_of (ks ++ xs) n)) ≡ unwrap_or (cond b (Some k.1) (entry_of ks n)) (object_or_undeclared (entry_of xs n))
    by true h = refl
    by false h = h

first_or : (x y : Option Object) → unwrap_or x (object_or_undeclared y) ≡ object_or_undeclared (first_of x y)
first_or None y = refl
first_or (Some o) y = refl

pub whole_so : (m : Module) (known : Entries Object) (rs : List Row) (xs : Entries Object) → rs ≡ rows (scope_of known) (declarations m)
    → xs ≡ known ++ objects_by (scope_by rs) rs → scope_of xs ≡ known_module_scope m known
whole_so m known rs xs e h =
    fun_ext (λ n.
    ap (λ es. object_or_undeclared (entry_of es n)) h
    ∙ (with_constants known (objects_by (scope_by rs) rs) n
    ∙ (ap (λ o. unwrap_or (entry_of known n) o) (ap (λ s. s n) (objects_so rs) ∙ (ap (λ zs. object_from (row_named zs n)) e ∙ (ap object_from (sym (named_so (scope_of known) (declarations m) n))
    ∙ ap object_or_undeclared (from_row (scope_of known) (declaration_of (declarations m) n)))))
    ∙ first_or (entry_of known n) (option_and_then (known_declaration (scope_of known)) (declaration_of (declarations m) n)))))

-- ---- the design

placed_alone : (d : Design) (m : Module) (s : Scope) → IsWhole d → module_named d.source d.top ≡ Some m → s ≡ known_module_scope m []
    → (path : List PathStep) (p : Placed) → known_at d.source d.top path ≡ Some p → (path ≡ []) × (s ≡ known_scope p)
placed_alone d m s w e h [] p is =
    (refl, h ∙ ap known_scope (some_is (alone m) p (sym (top_alone d.source d.top m w e) ∙ is)))
placed_alone d m s w e h (u ∷ path) p is = absurd (none_some p (sym (nothing_known_below d.source d.top w u path) ∙ is))

by_top : (d : Design) (s : Scope) → IsWhole d → ¬ Breaks d no_top → (o : Option Module) → module_named d.source d.top ≡ o → Some s ≡ option_map (λ m. known_module_scope m []) o
    → (path : List PathStep) (p : Placed) → known_at d.source d.top path ≡ Some p → (path ≡ []) × (s ≡ known_scope p)
by_top d s w t None e h = absurd (none_some s (sym h))
by_top d s w t (Some m) e h = placed_alone d m s w e (some_is s (known_module_scope m []) h)

pub scoped : (d : Design) (s : Scope) → IsNamesRefusal d None → Some s ≡ option_map (λ m. known_module_scope m []) (module_named d.source d.top)
    → (path : List PathStep) (p : Placed) → known_at d.source d.top path ≡ Some p → (path ≡ []) × (s ≡ known_scope p)
scoped d s r h = by_top d s r.0 r.1 (module_named d.source d.top) refl h

no_module : {A : Type 0} (d : Design) (f : Module → A) → ¬ Breaks d no_top → (o : Option Module) → module_named d.source d.top ≡ o → None ≡ option_map f o → ⊥
no_module d f t None e h = t (HasNoTop.no_module e)
no_module d f t (Some m) e h = none_some (f m) h

-- a design whose names are in order has a top
pub has_module : {A : Type 0} (d : Design) (f : Module → A) → IsNamesRefusal d None → None ≡ option_map f (module_named d.source d.top) → ⊥
has_module d f r h = no_module d f r.1 (module_named d.source d.top) refl h

pub is_scoping : (d : Design) → IsNamesRefusal d None → (o : Option ModuleScope) → option_map scope_in o ≡ option_map (λ m. known_module_scope m []) (module_named d.source d.top)
    → IsScoping d (with_top o)
is_scoping d r (Some s) h = (r, scoped d (scope_in s) r h)
is_scoping d r None h = absurd (has_module d (λ m. known_module_scope m []) r h)
