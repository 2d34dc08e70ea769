-- Modules that stand in an accepted design use no unknown name.
use Rattle.std.proofs.Common.{◌≡◌, Bool, true, false, cond, List, [], ◌∷◌, ◌⊎◌, inl, inr, refl, sym, ap, ◌∙◌, subst, Option, Some, None}
use Rattle.std.specs.Prelude.{IsTrue, is_some, not}
use Rattle.wb_values.specs.Value.{Name, same_name}
use Rattle.wb_values.specs.Choice.{first_of}
use Rattle.verilog_trees.specs.Syntax.{Connections, Item, port, parameter, wires, variables, assign, always, instances, Module, Source}
use Rattle.verilog_meaning.specs.Expression.{Scope}
use Rattle.verilog_meaning.specs.Hierarchy.{PathStep, Placed, placed_scope, module_named, Instance, instance_among, instance_named, instance_reached, placed_instance, all_parameters, declarations}
use Rattle.verilog_meaning.specs.Settled.{Design, at_path, is_declared_among}
use Rattle.verilog_designs.specs.Names.{is_among, parameter_names, Mention, used, declares, may_be_used, uses_unknown, mentions, has_undeclared, instantiates_unknown}
use Rattle.verilog_designs.specs.Accepted.{StandsIn, at_top, below, HasUndeclared}
use Rattle.verilog_unique.proofs.Options.{first_false, second_false, not_is_false, not_true}
use Rattle.verilog_unique.proofs.Descent.{IsAmong, contains_among}
use Rattle.verilog_unique.proofs.Paths.{StepsTo, step_of, instance_from, top_from}

-- the item in which an instance stands
record HasItem (items : List Item) (i : Instance) : Type 0 where
  given : Connections
  each : List (Name × Connections)
  is_item : IsAmong items (instances i.of_module given each)

module_of : (m : Name) (given : Connections) (is : List (Name × Connections)) (u : Name) (i : Instance) → instance_among m given is u ≡ Some i
    → i.of_module ≡ m
module_of m given [] u i e = cc
module_of m given (x ∷ is) u i e = chosen (same_name x.0 u) (module_of m given is u i) e
  where
    chosen : (b : Bool) → (instance_among m given is u ≡ Some i → i.of_module ≡ m)
        → cond b (Some (record { of_module = m; parameters = given; connections = x.1 })) (instance_among m given is u) ≡ Some i → i.of_module ≡ m
    chosen true f h = let same : record { of_module = m; parameters = given; connections = x.1 } ≡ i = cc in ap (λ (j : Instance). j.of_module) (sym same)
    chosen false f h = f h

later : (x : Item) (items : List Item) (i : Instance) → HasItem items i → HasItem (x ∷ items) i
later x items i h = record { given = h.given; each = h.each; is_item = inr h.is_item }

item_of : (items : List Item) (u : Name) (i : Instance) → instance_named items u ≡ Some i → HasItem items i
item_of [] u i e = cc
item_of (port d ∷ items) u i e = later (port d) items i (item_of items u i e)
item_of (parameter d ∷ items) u i e = later (parameter d) items i (item_of items u i e)
item_of (wires signed r ws ∷ items) u i e = later (wires signed r ws) items i (item_of items u i e)
item_of (variables signed r vs ∷ items) u i e = later (variables signed r vs) items i (item_of items u i e)
item_of (assign ts ∷ items) u i e = later (assign ts) items i (item_of items u i e)
item_of (always es x ∷ items) u i e = later (always es x) items i (item_of items u i e)
item_of (instances m given is ∷ items) u i e = found (instance_among m given is u) (module_of m given is u) (item_of items u i) e
  where
    found : (x : Option Instance) → ((j : Instance) → x ≡ Some j → j.of_module ≡ m) → (instance_named items u ≡ Some i → HasItem items i)
        → first_of x (instance_named items u) ≡ Some i → HasItem (instances m given is ∷ items) i
    found None f g h = later (instances m given is) items i (g h)
    found (Some j) f g h = record { given = given; each = is; is_item = inl (ap (λ k. instances k given is) (sym (f i h))) }

without_index : (items : List Item) (u : PathStep) (i : Instance) → instance_reached items u ≡ Some i → instance_named items u.of_name ≡ Some i
without_index items u i e = plain (is_some u.index) e
  where
    plain : (b : Bool) → cond b None (instance_named items u.of_name) ≡ Some i → instance_named items u.of_name ≡ Some i
    plain true h = cc
    plain false h = h

-- the module of an instance is the one of its name
pub module_of_instance : (source : Source) (path : List PathStep) (s : Scope) (i : Instance) (p : Placed) → placed_instance source path s i ≡ Some p
    → module_named source i.of_module ≡ Some p.of_module
module_of_instance source path s i p e =
    let f = instance_from source path s i p e in f.1 ∙ ap Some (ap (λ (q : Placed). q.of_module) f.2)

pub stands_in : (d : Design) (path : List PathStep) (p : Placed) → at_path d path ≡ Some p → StandsIn d p.of_module
stands_in d [] p e =
    let f = top_from d p e in at_top p.of_module (f.1 ∙ ap Some (ap (λ (q : Placed). q.of_module) f.2))
stands_in d (u ∷ around) p e =
    let s : StepsTo d u around p = step_of d u around p e in
    let i = item_of s.outer.of_module.items u.of_name s.instance (without_index s.outer.of_module.items u s.instance s.is_reached) in
    below s.outer.of_module p.of_module s.instance.of_module i.given i.each (stands_in d around s.outer s.is_outer)
    (contains_among s.outer.of_module.items (instances s.instance.of_module i.given i.each) i.is_item)
    (module_of_instance d.source (u ∷ s.outer.path) (placed_scope s.outer) s.instance p s.is_placed)

-- ---- a name that is used is known

-- the name is a net, a variable or a parameter of the module
abbrev pub IsKnownIn : Module → Name → Type 0
IsKnownIn m n = IsTrue (is_declared_among (declarations m) n) ⊎ IsTrue (is_among (parameter_names (all_parameters m)) n)

known_if_used : (m : Module) (before : List Name) (n : Name) → may_be_used m before n ≡ true → IsKnownIn m n
known_if_used m before n e = chosen (is_among (parameter_names (all_parameters m)) n) (λ t. t) e
  where
    chosen : (b : Bool) → (IsTrue b → IsTrue (is_among (parameter_names (all_parameters m)) n))
        → cond b (is_among before n) (is_declared_among (declarations m) n) ≡ true → IsKnownIn m n
    chosen true f h = inr (f refl)
    chosen false f h = inl h

used_known : (m : Module) (before : List Name) (ms : List Mention) (n : Name) → uses_unknown m before ms ≡ false → IsAmong ms (used n) → IsKnownIn m n
used_known m before [] n e h = absurd h
used_known m before (used k ∷ rest) n e (inl same) =
    let k_is_n : k ≡ n = cc in
    subst (IsKnownIn m) k_is_n
    (known_if_used m before k (not_is_false (may_be_used m before k) (first_false (not (may_be_used m before k)) (uses_unknown m before rest) e)))
used_known m before (used k ∷ rest) n e (inr h) =
    used_known m before rest n (second_false (not (may_be_used m before k)) (uses_unknown m before rest) e) h
used_known m before (declares k ∷ rest) n e (inl same) = cc
used_known m before (declares k ∷ rest) n e (inr h) = used_known m (k ∷ before) rest n e h

pub mentioned_known : (d : Design) → ¬ HasUndeclared d → (path : List PathStep) (p : Placed) → at_path d path ≡ Some p → (n : Name)
    → IsAmong (mentions p.of_module) (used n) → IsKnownIn p.of_module n
mentioned_known d good path p e n h =
    used_known p.of_module [] (mentions p.of_module) n
    (first_false (uses_unknown p.of_module [] (mentions p.of_module)) (instantiates_unknown d.source p.of_module.items)
    (not_true (has_undeclared d.source p.of_module)
    (λ t. good (record { within = p.of_module; stands = stands_in d path p e; names_unknown = t }))))
    h
