-- Sources without parameters and instances: no parameter has a value, and nothing stands below the top.
use Rattle.std.proofs.Common.{◌≡◌, ◌≢◌, ◌∙◌, refl, ap, sym, subst, ℕ, suc, zero, ◌<◌, arith, Bool, true, false, true≢false, cond, ◌||◌, List, [], ◌∷◌, ◌++◌, length, slice_index_or, Contains, Option, Some, None, is_some, option_map, option_and_then}
use Rattle.std.specs.List.{list_any}
use Rattle.wb_values.specs.Value.{Name, same_name, Entries}
use Rattle.verilog_trees.specs.Syntax.{ParameterDeclaration, Item, port, parameter, wires, variables, assign, always, instances, Module, Source}
use Rattle.verilog_meaning.specs.Expression.{Object}
use Rattle.verilog_meaning.specs.Hierarchy.{body_parameters, all_parameters, PathStep, Placed, Instance, module_named, instance_named, instance_reached, placed_instance, placed_scope, placed_below, placed_at, constants_of, no_overrides}
use Rattle.verilog_meaning.specs.Settled.{Design, IsPlacedIn}
use Rattle.verilog_designs.specs.Known.{known_constants, with_known_parameters, known_instance, known_scope, known_below, known_at}
use Rattle.verilog_designs.specs.Accepted.{StandsIn, HasBadHierarchy}
use Rattle.v_hier.specs.Instances.{is_part, is_any, module_has_parts, has_parts}
use Rattle.v_scopes.specs.Ports.{alone}

pub or_left : (a b : Bool) → (a || b) ≡ false → a ≡ false
or_left true b h = h
or_left false b h = refl

pub or_right : (a b : Bool) → (a || b) ≡ false → b ≡ false
or_right true b h = absurd (true≢false h)
or_right false b h = h

pub some_is : {A : Type 0} (x y : A) → Some x ≡ Some y → x ≡ y
some_is x y e = cc

pub none_some : {A : Type 0} (x : A) → None ≡ Some x → ⊥
none_some x e = let c : None ≡ Some x = e in cc

-- ---- the top

chosen : (b : Bool) (x m : Module) (o : Option Module) → module_has_parts x ≡ false → (o ≡ Some m → module_has_parts m ≡ false) → cond b (Some x) o ≡ Some m → module_has_parts m ≡ false
chosen true x m o h k e = subst (λ y. module_has_parts y ≡ false) (some_is x m e) h
chosen false x m o h k e = k e

pub whole_module : (source : Source) (n : Name) (m : Module) → has_parts source ≡ false → module_named source n ≡ Some m → module_has_parts m ≡ false
whole_module [] n m h e = absurd (none_some m e)
whole_module (x ∷ xs) n m h e =
    chosen (same_name x.module_name n) x m (module_named xs n) (or_left (module_has_parts x) (has_parts xs) h)
    (whole_module xs n m (or_right (module_has_parts x) (has_parts xs) h)) e

no_body : (items : List Item) → list_any is_part items ≡ false → body_parameters items ≡ []
no_body [] h = refl
no_body (port d ∷ items) h = no_body items h
no_body (parameter d ∷ items) h = absurd (true≢false h)
no_body (wires signed r ws ∷ items) h = no_body items h
no_body (variables signed r vs ∷ items) h = no_body items h
no_body (assign ts ∷ items) h = no_body items h
no_body (always es x ∷ items) h = no_body items h
no_body (instances k given is ∷ items) h = absurd (true≢false h)

no_parameter : (ps : List ParameterDeclaration) (items : List Item) → (is_any ps || list_any is_part items) ≡ false → ps ++ body_parameters items ≡ []
no_parameter [] items h = no_body items h
no_parameter (p ∷ ps) items h = absurd (true≢false h)

no_constant : (m : Module) → module_has_parts m ≡ false → known_constants m (λ n. None) ≡ []
no_constant m h = ap (λ ds. with_known_parameters ds (λ n. None) []) (no_parameter m.parameters m.items h)

-- a module as the top, with these values of its parameters
abbrev at_top : (Module → Entries Object) → Module → Placed
at_top f m = record { path = []; of_module = m; constants = f m }

abbrev with_constants : Module → Entries Object → Placed
with_constants m known = record { path = []; of_module = m; constants = known }

abbrev known_of : Module → Entries Object
known_of m = known_constants m (λ n. None)

abbrev given_of : Module → Entries Object
given_of m = constants_of m no_overrides

-- the top stands alone
pub top_alone : (source : Source) (n : Name) (m : Module) → has_parts source ≡ false → module_named source n ≡ Some m → known_at source n [] ≡ Some (alone m)
top_alone source n m h e =
    ap (option_map (at_top known_of)) e ∙ ap (λ known. Some (with_constants m known)) (no_constant m (whole_module source n m h e))

-- ---- below the top

no_instance : (items : List Item) (u : Name) → list_any is_part items ≡ false → instance_named items u ≡ None
no_instance [] u h = refl
no_instance (port d ∷ items) u h = no_instance items u h
no_instance (parameter d ∷ items) u h = absurd (true≢false h)
no_instance (wires signed r ws ∷ items) u h = no_instance items u h
no_instance (variables signed r vs ∷ items) u h = no_instance items u h
no_instance (assign ts ∷ items) u h = no_instance items u h
no_instance (always es x ∷ items) u h = no_instance items u h
no_instance (instances k given is ∷ items) u h = absurd (true≢false h)

none_reached : (b : Bool) (o : Option Instance) → o ≡ None → cond b None o ≡ None
none_reached true o h = refl
none_reached false o h = h

not_reached : (m : Module) (u : PathStep) → module_has_parts m ≡ false → instance_reached m.items u ≡ None
not_reached m u h =
    none_reached (is_some u.index) (instance_named m.items u.of_name) (no_instance m.items u.of_name (or_right (is_any m.parameters) (list_any is_part m.items) h))

below_none : (source : Source) (n : Name) (place : Module → Placed) (step : Placed → Option Placed)
    → ((m : Module) → module_named source n ≡ Some m → step (place m) ≡ None)
    → (o : Option Module) → module_named source n ≡ o → option_and_then step (option_map place o) ≡ None
below_none source n place step h None e = refl
below_none source n place step h (Some m) e = h m e

pub nothing_known_below : (source : Source) (n : Name) → has_parts source ≡ false → (u : PathStep) (path : List PathStep) → known_at source n (u ∷ path) ≡ None
nothing_known_below source n h u [] =
    below_none source n (at_top known_of) (known_below source u)
    (λ m e. ap (option_and_then (known_instance source (u ∷ []) (known_scope (at_top known_of m)))) (not_reached m u (whole_module source n m h e)))
    (module_named source n) refl
nothing_known_below source n h u (v ∷ path) = ap (option_and_then (known_below source u)) (nothing_known_below source n h v path)

pub nothing_below : (source : Source) (n : Name) → has_parts source ≡ false → (u : PathStep) (path : List PathStep) → placed_at source n (u ∷ path) ≡ None
nothing_below source n h u [] =
    below_none source n (at_top given_of) (placed_below source u)
    (λ m e. ap (option_and_then (placed_instance source (u ∷ []) (placed_scope (at_top given_of m)))) (not_reached m u (whole_module source n m h e)))
    (module_named source n) refl
nothing_below source n h u (v ∷ path) = ap (option_and_then (placed_below source u)) (nothing_below source n h v path)

-- ---- no hierarchy

not_deep : (source : Source) (n : Name) → has_parts source ≡ false → (steps around : List PathStep) (p : Placed) → 0 < length steps → placed_at source n (steps ++ around) ≡ Some p → ⊥
not_deep source n h [] around p l e = absurd (omega (arith, l))
not_deep source n h (u ∷ steps) around p l e = none_some p (sym (nothing_below source n h u (steps ++ around)) ∙ e)

not_placed : (source : Source) (n : Name) → has_parts source ≡ false → (path : List PathStep) (p : Placed) → placed_at source n path ≡ Some p → path ≢ [] → ⊥
not_placed source n h [] p e ne = ne refl
not_placed source n h (u ∷ path) p e ne = none_some p (sym (nothing_below source n h u path) ∙ e)

pub no_hierarchy : (d : Design) → has_parts d.source ≡ false → HasBadHierarchy d → ⊥
no_hierarchy d h (HasBadHierarchy.recursive r) =
    not_deep d.source d.top h r.steps r.outer.path r.inner r.some (subst (λ path. placed_at d.source d.top path ≡ Some r.inner) r.is_below r.are_placed.1)
no_hierarchy d h (HasBadHierarchy.crowded [] are many) = absurd (omega (arith, many))
no_hierarchy d h (HasBadHierarchy.crowded (path ∷ paths) are many) =
    let placed = are.placed path (0, omega arith, refl) in
    not_placed d.source d.top h path placed.0 (subst (λ q. placed_at d.source d.top q ≡ Some placed.0) placed.2 placed.1) placed.3

-- ---- only the top stands in the design

no_such : {A : Type 0} (p : A → Bool) (xs : List A) (x : A) (k : ℕ) → list_any p xs ≡ false → k < length xs → slice_index_or xs k x ≡ x → p x ≡ false
no_such p [] x k h l e = absurd (omega (arith, l))
no_such p (y ∷ ys) x zero h l e = subst (λ z. p z ≡ false) e (or_left (p y) (list_any p ys) h)
no_such p (y ∷ ys) x (suc k) h l e = no_such p ys x k (or_right (p y) (list_any p ys) h) (omega (arith, l)) e

pub not_contained : {A : Type 0} (p : A → Bool) (xs : List A) (x : A) → list_any p xs ≡ false → Contains xs x → p x ≡ false
not_contained p xs x h c = no_such p xs x c.0 h c.1 c.2

pub stands_top : (d : Design) → has_parts d.source ≡ false → {m : Module} → StandsIn d m → module_named d.source d.top ≡ Some m
stands_top d h (StandsIn.at_top m e) = e
stands_top d h (StandsIn.below m n k given is s c e) =
    absurd (true≢false (not_contained is_part m.items (instances k given is) (or_right (is_any m.parameters) (list_any is_part m.items) (whole_module d.source d.top m h (stands_top d h s))) c))
