-- The modules that stand in a design: their paths are written so in them, lie at most so deep, and stand in a list.
use Rattle.std.proofs.Common.{◌≡◌, ℕ, zero, suc, ◌+◌, ◌<◌, ◌≤◌, Bool, true, false, cond, List, [], ◌∷◌, ◌++◌, length, ◌⊎◌, inl, inr, refl, sym, ap, ◌∙◌, subst, Option, Some, None, arith}
use Rattle.std.specs.Prelude.{◌≢◌, slice_get, ℤ}
use Rattle.std.proofs.lemmas.Bool.{cases_lt}
use Rattle.wb_values.specs.Value.{Name, same_name}
use Rattle.wb_values.specs.Choice.{first_of}
use Rattle.verilog_trees.specs.Syntax.{Connections, Item, port, parameter, wires, variables, assign, always, instances, Module, Source}
use Rattle.verilog_meaning.specs.Expression.{Scope}
use Rattle.verilog_meaning.specs.Hierarchy.{PathStep, instance_step, Placed, placed_scope, module_named, Instance, instance_among, instance_named, instance_reached, placed_instance, placed_below, constants_of, overrides_of, no_overrides}
use Rattle.verilog_meaning.specs.Settled.{Design, at_path, IsPlacedIn}
use Rattle.verilog_designs.specs.Names.{instance_names, all_instance_names}
use Rattle.verilog_designs.specs.Accepted.{AreInstances, HasBadHierarchy}
use Rattle.verilog_unique.specs.Finite.{PathsAreShort}
use Rattle.verilog_unique.proofs.Options.{same_is, from_map, from_chain}
use Rattle.verilog_unique.proofs.Descent.{IsAmong, among_left, among_right, among_contains}

-- ---- one step

pub record StepsTo (d : Design) (u : PathStep) (around : List PathStep) (p : Placed) : Type 0 where
  pub outer : Placed
  pub instance : Instance
  pub is_outer : at_path d around ≡ Some outer
  pub is_reached : instance_reached outer.of_module.items u ≡ Some instance
  pub is_placed : placed_instance d.source (u ∷ outer.path) (placed_scope outer) instance ≡ Some p

pub step_of : (d : Design) (u : PathStep) (around : List PathStep) (p : Placed) → at_path d (u ∷ around) ≡ Some p → StepsTo d u around p
step_of d u around p e =
    let one = from_chain (placed_below d.source u) (at_path d around) p e in
    let two = from_chain (placed_instance d.source (u ∷ one.0.path) (placed_scope one.0)) (instance_reached one.0.of_module.items u) p one.2 in
    record { outer = one.0; instance = two.0; is_outer = one.1; is_reached = two.1; is_placed = two.2 }

-- the module that an instance is, and the top
abbrev pub placed_of : List PathStep → Scope → Instance → Module → Placed
placed_of path s i m = record { path = path; of_module = m; constants = constants_of m (overrides_of s i.parameters m) }

abbrev pub top_of : Module → Placed
top_of m = record { path = []; of_module = m; constants = constants_of m no_overrides }

pub instance_from : (source : Source) (path : List PathStep) (s : Scope) (i : Instance) (p : Placed) → placed_instance source path s i ≡ Some p
    → (m : Module) × (module_named source i.of_module ≡ Some m) × (placed_of path s i m ≡ p)
instance_from source path s i p e = from_map (placed_of path s i) (module_named source i.of_module) p e

pub top_from : (d : Design) (p : Placed) → at_path d [] ≡ Some p → (m : Module) × (module_named d.source d.top ≡ Some m) × (top_of m ≡ p)
top_from d p e = from_map top_of (module_named d.source d.top) p e

path_of_instance : (source : Source) (path : List PathStep) (s : Scope) (i : Instance) (p : Placed) → placed_instance source path s i ≡ Some p → p.path ≡ path
path_of_instance source path s i p e = let f = instance_from source path s i p e in ap (λ (q : Placed). q.path) (sym f.2)

-- a module stands where its path says
pub stands_at : (d : Design) (path : List PathStep) (p : Placed) → at_path d path ≡ Some p → p.path ≡ path
stands_at d [] p e = let f = top_from d p e in ap (λ (q : Placed). q.path) (sym f.2)
stands_at d (u ∷ around) p e =
    let s = step_of d u around p e in
    path_of_instance d.source (u ∷ s.outer.path) (placed_scope s.outer) s.instance p s.is_placed ∙ ap (λ path. u ∷ path) (stands_at d around s.outer s.is_outer)

pub placed_in : (d : Design) (path : List PathStep) (p : Placed) → at_path d path ≡ Some p → IsPlacedIn d p
placed_in d path p e = subst (λ q. at_path d q ≡ Some p) (sym (stands_at d path p e)) e

-- ---- the names of instances

among_named : (m : Name) (given : Connections) (is : List (Name × Connections)) (u : Name) (i : Instance) → instance_among m given is u ≡ Some i
    → IsAmong (instance_names is) u
among_named m given [] u i e = cc
among_named m given (x ∷ is) u i e = chosen (same_name x.0 u) (λ t. same_is x.0 u t) (among_named m given is u i) e
  where
    chosen : (b : Bool) → (b ≡ true → x.0 ≡ u) → (instance_among m given is u ≡ Some i → IsAmong (instance_names is) u)
        → cond b (Some (record { of_module = m; parameters = given; connections = x.1 })) (instance_among m given is u) ≡ Some i
        → IsAmong (instance_names (x ∷ is)) u
    chosen true f g h = inl (f refl)
    chosen false f g h = inr (g h)

item_named : (items : List Item) (u : Name) (i : Instance) → instance_named items u ≡ Some i → IsAmong (all_instance_names items) u
item_named [] u i e = cc
item_named (port d ∷ items) u i e = item_named items u i e
item_named (parameter d ∷ items) u i e = item_named items u i e
item_named (wires signed r ws ∷ items) u i e = item_named items u i e
item_named (variables signed r vs ∷ items) u i e = item_named items u i e
item_named (assign ts ∷ items) u i e = item_named items u i e
item_named (always es x ∷ items) u i e = item_named items u i e
item_named (instances m given is ∷ items) u i e = found (instance_among m given is u) (among_named m given is u) (item_named items u i) e
  where
    found : (x : Option Instance) → ((j : Instance) → x ≡ Some j → IsAmong (instance_names is) u)
        → (instance_named items u ≡ Some i → IsAmong (all_instance_names items) u) → first_of x (instance_named items u) ≡ Some i
        → IsAmong (instance_names is ++ all_instance_names items) u
    found None f g h = among_right (instance_names is) (all_instance_names items) u (g h)
    found (Some j) f g h = among_left (instance_names is) (all_instance_names items) u (f j refl)

abbrev steps_of : List Name → List PathStep
steps_of [] = []
steps_of (n ∷ ns) = instance_step n ∷ steps_of ns

step_among : (ns : List Name) (n : Name) → IsAmong ns n → IsAmong (steps_of ns) (instance_step n)
step_among [] n h = absurd h
step_among (m ∷ ns) n (inl e) = inl (ap instance_step e)
step_among (m ∷ ns) n (inr h) = inr (step_among ns n h)

reached_among : (items : List Item) (u : PathStep) (i : Instance) → instance_reached items u ≡ Some i → IsAmong (steps_of (all_instance_names items)) u
reached_among items u i e = plain u.of_name u.index e
  where
    plain : (n : Name) (x : Option ℤ) → instance_reached items (record { of_name = n; index = x }) ≡ Some i
        → IsAmong (steps_of (all_instance_names items)) (record { of_name = n; index = x })
    plain n None h = step_among (all_instance_names items) n (item_named items n i h)
    plain n (Some k) h = cc

-- ---- all paths of so many steps

abbrev steps_below : Option Placed → List PathStep
steps_below None = []
steps_below (Some p) = steps_of (all_instance_names p.of_module.items)

abbrev one_longer : List PathStep → List PathStep → List (List PathStep)
one_longer path [] = []
one_longer path (u ∷ us) = (u ∷ path) ∷ one_longer path us

longer_among : (path us : List PathStep) (u : PathStep) → IsAmong us u → IsAmong (one_longer path us) (u ∷ path)
longer_among path [] u h = absurd h
longer_among path (w ∷ us) u (inl e) = inl (ap (λ x. x ∷ path) e)
longer_among path (w ∷ us) u (inr h) = inr (longer_among path us u h)

abbrev all_longer : Design → List (List PathStep) → List (List PathStep)
all_longer d [] = []
all_longer d (path ∷ paths) = one_longer path (steps_below (at_path d path)) ++ all_longer d paths

all_longer_among : (d : Design) (paths : List (List PathStep)) (path : List PathStep) (u : PathStep) → IsAmong paths path
    → IsAmong (steps_below (at_path d path)) u → IsAmong (all_longer d paths) (u ∷ path)
all_longer_among d [] path u h k = absurd h
all_longer_among d (q ∷ paths) path u (inl e) k =
    among_left (one_longer q (steps_below (at_path d q))) (all_longer d paths) (u ∷ path)
    (subst (λ r. IsAmong (one_longer r (steps_below (at_path d r))) (u ∷ path)) (sym e) (longer_among path (steps_below (at_path d path)) u k))
all_longer_among d (q ∷ paths) path u (inr h) k =
    among_right (one_longer q (steps_below (at_path d q))) (all_longer d paths) (u ∷ path) (all_longer_among d paths path u h k)

pub level : Design → ℕ → List (List PathStep)
level d zero = [] ∷ []
level d (suc n) = all_longer d (level d n)

in_level : (d : Design) (path : List PathStep) (p : Placed) → at_path d path ≡ Some p → IsAmong (level d (length path)) path
unfolding level
in_level d [] p e = inl refl
in_level d (u ∷ around) p e =
    let s = step_of d u around p e in
    all_longer_among d (level d (length around)) around u (in_level d around s.outer s.is_outer)
    (subst (λ o. IsAmong (steps_below o) u) (sym s.is_outer) (reached_among s.outer.of_module.items u s.instance s.is_reached))

-- the paths of at most so many steps
pub levels : Design → ℕ → List (List PathStep)
levels d zero = level d zero
levels d (suc n) = level d (suc n) ++ levels d n

in_levels : (d : Design) (n : ℕ) (path : List PathStep) (p : Placed) → length path ≤ n → at_path d path ≡ Some p → IsAmong (levels d n) path
unfolding levels
in_levels d zero path p l e = subst (λ k. IsAmong (level d k) path) (omega (arith, l)) (in_level d path p e)
in_levels d (suc n) path p l e =
    elim (deepest (length path) n l) as (λ _. IsAmong (level d (suc n) ++ levels d n) path) [
      | inl k ↦ among_left (level d (suc n)) (levels d n) path (subst (λ m. IsAmong (level d m) path) k (in_level d path p e))
      | inr k ↦ among_right (level d (suc n)) (levels d n) path (in_levels d n path p k e)
    ]
  where
    deepest : (m k : ℕ) → m ≤ suc k → (m ≡ suc k) ⊎ (m ≤ k)
    deepest m k h =
        elim (cases_lt m (suc k)) as (λ _. (m ≡ suc k) ⊎ (m ≤ k)) [ inl l ↦ inr (omega (arith, l)) | inr l ↦ inl (omega (arith, l, h)) ]

-- ---- a path has no more steps than instances may stand below the top

abbrev suffixes : List PathStep → List (List PathStep)
suffixes [] = []
suffixes (u ∷ around) = (u ∷ around) ∷ suffixes around

suffix_count : (path : List PathStep) → length (suffixes path) ≡ length path
suffix_count [] = refl
suffix_count (u ∷ around) = ap suc (suffix_count around)

suffix_placed : (d : Design) (path q : List PathStep) (p : Placed) → at_path d path ≡ Some p → IsAmong (suffixes path) q
    → (r : Placed) × IsPlacedIn d r × (r.path ≡ q) × (q ≢ [])
suffix_placed d [] q p e h = absurd h
suffix_placed d (u ∷ around) q p e (inl k) =
    subst (λ x. (r : Placed) × IsPlacedIn d r × (r.path ≡ x) × (x ≢ [])) k (p, placed_in d (u ∷ around) p e, stands_at d (u ∷ around) p e, λ h. cc)
suffix_placed d (u ∷ around) q p e (inr h) = let s = step_of d u around p e in suffix_placed d around q s.outer s.is_outer h

suffix_place : (path q : List PathStep) (i : ℕ) → slice_get (suffixes path) i ≡ Some q → length q + i ≡ length path
suffix_place [] q i e = cc
suffix_place (u ∷ around) q zero e = let same : u ∷ around ≡ q = cc in subst (λ x. length x + 0 ≡ length (u ∷ around)) same (omega arith)
suffix_place (u ∷ around) q (suc i) e = let h = suffix_place around q i e in omega (arith, h)

pub depth : PathsAreShort
depth d path p good e =
    elim (cases_lt 65536 (length path)) as (λ _. length path ≤ 65536) [
      | inl more ↦ absurd (good (HasBadHierarchy.crowded (suffixes path) instances (subst (λ k. 65536 < k) (sym (suffix_count path)) more)))
      | inr enough ↦ enough
    ]
  where
    instances : AreInstances d (suffixes path)
    instances =
        record {
          placed = λ q c. suffix_placed d path q p e (among_contains (suffixes path) q c);
          distinct = λ i j q a b. let h = suffix_place path q i a in let k = suffix_place path q j b in omega (arith, h, k);
        }

-- All paths of an accepted design stand in one list.
pub paths_are_finite : (d : Design) → ¬ HasBadHierarchy d
    → (paths : List (List PathStep)) × ((path : List PathStep) (p : Placed) → at_path d path ≡ Some p → IsAmong paths path)
paths_are_finite d good = finite 65536 (λ path p e. depth d path p good e)
  where
    finite : (n : ℕ) → ((path : List PathStep) (p : Placed) → at_path d path ≡ Some p → length path ≤ n)
        → (paths : List (List PathStep)) × ((path : List PathStep) (p : Placed) → at_path d path ≡ Some p → IsAmong paths path)
    finite n h = (levels d n, λ path p e. in_levels d n path p (h path p e) e)
