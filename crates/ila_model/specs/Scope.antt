-- Where names and terms may be read: the private states of a child are known in it and in the children inside it alone.
use Rattle.std.specs.Prelude.{ℕ, zero, suc, ◌+◌, ◌<◌, ◌≡◌, Bool, true, false, cond, ◌||◌, ◌==◌, List, [], ◌∷◌, ◌++◌, length, replicate, Option, Some, None, option_map, slice_index_or}
use Rattle.wb_values.specs.Value.{Name, Sort, truth, Entries, entry_of}
use Rattle.model_meaning.specs.Term.{Term, name, constant_truth, const, not, neg, and, or, xor, add, sub, mul, shl, lshr, ashr, eq, ult, ule, slt, sle, concat, extract, zext, sext, ite, load, store}
use Rattle.wb_terms.specs.Graph.{tree}
use Rattle.ila_model.specs.declared.parts.ChildId.{ChildId}
use Rattle.ila_model.specs.declared.parts.Child.{Child}
use Rattle.ila_model.specs.declared.parts.Parts.{Parts}
use Rattle.ila_model.specs.declared.scopes.Scope.{Scope}
use Rattle.ila_model.specs.declared.scopes.Scopes.{Scopes}
use Rattle.ila_model.specs.declared.scopes.Scope.TheVariants.{Anywhere, Within, Nowhere}

-- how many child programs may be around one another, the innermost included
unfoldable pub nesting : ℕ
nesting = 3

-- the child around a child
abbrev pub around : List Child → ℕ → Option ℕ
around [] k = None
around (c ∷ cs) zero = option_map (λ (i : ChildId). i.0) c.around
around (c ∷ cs) (suc k) = around cs k

-- Within so many levels, child a is the one at a place or around it. (A place is a child, or none for the top.)
abbrev pub encloses : List Child → (levels a : ℕ) → (at : Option ℕ) → Bool
encloses cs zero a at = false
encloses cs (suc l) a None = false
encloses cs (suc l) a (Some c) = (c == a) || encloses cs l a (around cs c)

-- At most so many children are around one another at a place.
abbrev pub is_nested : List Child → (levels : ℕ) → (at : Option ℕ) → Bool
is_nested cs zero None = true
is_nested cs zero (Some c) = false
is_nested cs (suc l) None = true
is_nested cs (suc l) (Some c) = is_nested cs l (around cs c)

unfoldable pub is_around : List Child → ℕ → Option ℕ → Bool
is_around cs a at = encloses cs nesting a at

unfoldable pub is_child_nested : List Child → ℕ → Bool
is_child_nested cs k = is_nested cs nesting (Some k)

-- What has this scope may be read at a place.
abbrev pub may_read : List Child → Option ℕ → Scope → Bool
may_read cs at Anywhere = true
may_read cs at (Within a) = is_around cs a at
may_read cs at Nowhere = false

-- The scope of what reads two things is the inner one of theirs. Where neither is inside the other, it may be read nowhere.
abbrev pub joined : List Child → Scope → Scope → Scope
joined cs Anywhere t = t
joined cs (Within a) Anywhere = Within a
joined cs (Within a) (Within b) = cond (is_around cs a (Some b)) (Within b) (cond (is_around cs b (Some a)) (Within a) Nowhere)
joined cs (Within a) Nowhere = Nowhere
joined cs Nowhere t = Nowhere

-- the scope of a term, by those of its names
abbrev pub scope_of : List Child → (Name → Scope) → Term → Scope
scope_of cs home (name n s) = home n
scope_of cs home (constant_truth b) = Anywhere
scope_of cs home (const w x) = Anywhere
scope_of cs home (not x) = scope_of cs home x
scope_of cs home (neg x) = scope_of cs home x
scope_of cs home (and x y) = joined cs (scope_of cs home x) (scope_of cs home y)
scope_of cs home (or x y) = joined cs (scope_of cs home x) (scope_of cs home y)
scope_of cs home (xor x y) = joined cs (scope_of cs home x) (scope_of cs home y)
scope_of cs home (add x y) = joined cs (scope_of cs home x) (scope_of cs home y)
scope_of cs home (sub x y) = joined cs (scope_of cs home x) (scope_of cs home y)
scope_of cs home (mul x y) = joined cs (scope_of cs home x) (scope_of cs home y)
scope_of cs home (shl x y) = joined cs (scope_of cs home x) (scope_of cs home y)
scope_of cs home (lshr x y) = joined cs (scope_of cs home x) (scope_of cs home y)
scope_of cs home (ashr x y) = joined cs (scope_of cs home x) (scope_of cs home y)
scope_of cs home (eq x y) = joined cs (scope_of cs home x) (scope_of cs home y)
scope_of cs home (ult x y) = joined cs (scope_of cs home x) (scope_of cs home y)
scope_of cs home (ule x y) = joined cs (scope_of cs home x) (scope_of cs home y)
scope_of cs home (slt x y) = joined cs (scope_of cs home x) (scope_of cs home y)
scope_of cs home (sle x y) = joined cs (scope_of cs home x) (scope_of cs home y)
scope_of cs home (concat x y) = joined cs (scope_of cs home x) (scope_of cs home y)
scope_of cs home (extract h l x) = scope_of cs home x
scope_of cs home (zext w x) = scope_of cs home x
scope_of cs home (sext w x) = scope_of cs home x
scope_of cs home (ite c x y) = joined cs (joined cs (scope_of cs home c) (scope_of cs home x)) (scope_of cs home y)
scope_of cs home (load m i) = joined cs (scope_of cs home m) (scope_of cs home i)
scope_of cs home (store m i x) = joined cs (joined cs (scope_of cs home m) (scope_of cs home i)) (scope_of cs home x)

-- The scopes of the names of the table: those of the top may be read anywhere, and a child's private states within it.
abbrev pub private_scopes : (from : ℕ) → List Child → List Scope
private_scopes k [] = []
private_scopes k (c ∷ cs) = replicate (length c.initial_values.items) (Within k) ++ private_scopes (suc k) cs

abbrev pub name_scopes : (tops : ℕ) → List Child → List Scope
name_scopes n cs = replicate n Anywhere ++ private_scopes 0 cs

-- how many names of the table are states and inputs of the top
abbrev pub tops : Parts → ℕ
tops p = length p.initial_values.items + p.inputs

-- the names with their scopes
abbrev pub scoped : Entries Sort → List Scope → Entries Scope
scoped [] ss = []
scoped (n ∷ ns) [] = []
scoped (n ∷ ns) (s ∷ ss) = (n.0, s) ∷ scoped ns ss

abbrev pub scope_or_any : Option Scope → Scope
scope_or_any None = Anywhere
scope_or_any (Some s) = s

-- the scope of a name
unfoldable pub home : Parts → Name → Scope
home p n = scope_or_any (entry_of (scoped p.terms.names (name_scopes (tops p) p.children.items)) n)

-- the scope of a term of the store
abbrev pub term_scope : Parts → ℕ → Scope
term_scope p k = scope_of p.children.items (home p) (tree p.terms k)

-- These are the scopes of all names, and of the first terms.
abbrev pub AreNameScopes : Parts → List Scope → Type 0
AreNameScopes p ss = (k : ℕ) → k < length p.terms.names → (k < length ss) × (slice_index_or ss k Anywhere ≡ home p (slice_index_or p.terms.names k ([], truth)).0)

abbrev pub AreTermScopes : Parts → ℕ → List Scope → Type 0
AreTermScopes p n ss = (length ss ≡ n) × ((k : ℕ) → k < n → slice_index_or ss k Anywhere ≡ term_scope p k)

pub record AreScopes (p : Parts) (s : Scopes) : Type 0 where
  pub names : AreNameScopes p s.names.items
  pub terms : AreTermScopes p (length p.terms.nodes) s.terms.items
