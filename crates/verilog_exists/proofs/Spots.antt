-- A valuation of dotted names from values for the names of each module: where no name has a dot, each module sees its own.
use Rattle.std.proofs.Common.{◌≡◌, Bool, true, false, cond, List, [], ◌∷◌, ◌++◌, inl, inr, refl, sym, ap, ◌∙◌, subst, Option, Some, None}
use Rattle.std.specs.Prelude.{IsTrue, is_some, ◌||◌, ℤ}
use Rattle.wb_values.specs.Value.{Name, same_name, Value, number as a_number, Valuation}
use Rattle.wb_values.specs.Choice.{first_of}
use Rattle.verilog_trees.specs.Syntax.{Connections, Item, port, parameter, wires, variables, assign, always, instances}
use Rattle.verilog_meaning.specs.Hierarchy.{Declaration, declarations, all_parameters, PathStep, Placed, Instance, instance_among, instance_named, instance_reached, dotted}
use Rattle.verilog_meaning.specs.Settled.{Design, at_path, IsPlacedIn, inside, is_declared_among, IsDeclared}
use Rattle.verilog_designs.specs.Names.{names_where, parameter_names, instance_names, all_instance_names, declared_names}
use Rattle.verilog_designs.specs.Accepted.{HasBadHierarchy}
use Rattle.verilog_unique.proofs.Options.{same_is, is_same}
use Rattle.verilog_unique.proofs.Descent.{IsAmong, among_left, among_right, among_either, contains_among}
use Rattle.verilog_unique.proofs.Paths.{StepsTo, step_of, placed_in, paths_are_finite}
use Rattle.verilog_unique.proofs.Fitting.{module_name_of}
use Rattle.verilog_exists.specs.Exists.{NamesHaveNoDots}
use Rattle.verilog_exists.proofs.Dots.{Plain, ArePlainSteps, dots_tell}

-- ---- names have no dot

named_among : (m : Name) (given : Connections) (is : List (Name × Connections)) (u : Name) (i : Instance) → instance_among m given is u ≡ Some i
    → IsAmong (instance_names is) u
named_among m given [] u i e = cc
named_among m given (x ∷ is) u i e = chosen (same_name x.0 u) (λ t. same_is x.0 u t) (named_among m given is u i) e
  where
    chosen : (b : Bool) → (b ≡ true → x.0 ≡ u) → (instance_among m given is u ≡ Some i → IsAmong (instance_names is) u)
        → cond b (Some (record { of_module = m; parameters = given; connections = x.1 })) (instance_among m given is u) ≡ Some i
        → IsAmong (instance_names (x ∷ is)) u
    chosen true f g h = inl (f refl)
    chosen false f g h = inr (g h)

named_item : (items : List Item) (u : Name) (i : Instance) → instance_named items u ≡ Some i → IsAmong (all_instance_names items) u
named_item [] u i e = cc
named_item (port d ∷ items) u i e = named_item items u i e
named_item (parameter d ∷ items) u i e = named_item items u i e
named_item (wires signed r ws ∷ items) u i e = named_item items u i e
named_item (variables signed r vs ∷ items) u i e = named_item items u i e
named_item (assign ts ∷ items) u i e = named_item items u i e
named_item (always es x ∷ items) u i e = named_item items u i e
named_item (instances m given is ∷ items) u i e = found (instance_among m given is u) (named_among m given is u) (named_item items u i) e
  where
    found : (x : Option Instance) → ((j : Instance) → x ≡ Some j → IsAmong (instance_names is) u)
        → (instance_named items u ≡ Some i → IsAmong (all_instance_names items) u) → first_of x (instance_named items u) ≡ Some i
        → IsAmong (instance_names is ++ all_instance_names items) u
    found None f g h = among_right (instance_names is) (all_instance_names items) u (g h)
    found (Some j) f g h = among_left (instance_names is) (all_instance_names items) u (f j refl)

reached_plainly : (items : List Item) (u : PathStep) (i : Instance) → instance_reached items u ≡ Some i → (u.index ≡ None) × (instance_named items u.of_name ≡ Some i)
reached_plainly items u i e = plain u.index e
  where
    plain : (x : Option ℤ) → cond (is_some x) None (instance_named items u.of_name) ≡ Some i → (x ≡ None) × (instance_named items u.of_name ≡ Some i)
    plain None h = (refl, h)
    plain (Some k) h = cc

declaration_among : (ds : List Declaration) (n : Name) → IsTrue (is_declared_among ds n) → IsAmong (names_where (λ d. true) ds) n
declaration_among [] n t = cc
declaration_among (d ∷ ds) n t = chosen (same_name d.of_name n) (λ e. same_is d.of_name n e) (declaration_among ds n) t
  where
    chosen : (b : Bool) → (b ≡ true → d.of_name ≡ n) → (IsTrue (is_declared_among ds n) → IsAmong (names_where (λ d. true) ds) n)
        → IsTrue (b || is_declared_among ds n) → IsAmong (d.of_name ∷ names_where (λ d. true) ds) n
    chosen true f g h = inl (f refl)
    chosen false f g h = inr (g h)

module _ (d : Design) (dotless : NamesHaveNoDots d.source) where
  plain_name : (path : List PathStep) (p : Placed) (n : Name) → at_path d path ≡ Some p → IsAmong (declared_names p.of_module) n → Plain n
  plain_name path p n at h k =
      let f = module_name_of d path p at in
      dotless f.0 p.of_module n f.1 (contains_among (declared_names p.of_module) n h) (contains_among n 46 k)

  pub plain_declared : (p : Placed) (n : Name) → IsPlacedIn d p → IsDeclared p n → Plain n
  plain_declared p n at t =
      plain_name p.path p n at
      (among_left (names_where (λ e. true) (declarations p.of_module) ++ parameter_names (all_parameters p.of_module)) (all_instance_names p.of_module.items) n
      (among_left (names_where (λ e. true) (declarations p.of_module)) (parameter_names (all_parameters p.of_module)) n
      (declaration_among (declarations p.of_module) n t)))

  pub plain_path : (path : List PathStep) (p : Placed) → at_path d path ≡ Some p → ArePlainSteps path
  plain_path [] p e = tt
  plain_path (u ∷ around) p e =
      let s : StepsTo d u around p = step_of d u around p e in
      let r = reached_plainly s.outer.of_module.items u s.instance s.is_reached in (
        r.0,
        plain_name around s.outer u.of_name s.is_outer
            (among_right (names_where (λ e. true) (declarations s.outer.of_module) ++ parameter_names (all_parameters s.outer.of_module))
            (all_instance_names s.outer.of_module.items) u.of_name
            (named_item s.outer.of_module.items u.of_name s.instance r.1)),
        plain_path around s.outer s.is_outer,
      )

-- ---- all names of all modules

-- a name of a module
pub record Spot : Type 0 where
  pub place : Placed
  pub name : Name

abbrev pub spot : Placed → Name → Spot
spot p n = record { place = p; name = n }

abbrev spots_in : Placed → List Declaration → List Spot
spots_in p [] = []
spots_in p (d ∷ ds) = spot p d.of_name ∷ spots_in p ds

abbrev spots_at : Option Placed → List Spot
spots_at None = []
spots_at (Some p) = spots_in p (declarations p.of_module)

abbrev all_spots : Design → List (List PathStep) → List Spot
all_spots d [] = []
all_spots d (path ∷ paths) = spots_at (at_path d path) ++ all_spots d paths

in_spots : (p : Placed) (ds : List Declaration) (n : Name) → IsTrue (is_declared_among ds n) → IsAmong (spots_in p ds) (spot p n)
in_spots p [] n t = cc
in_spots p (d ∷ ds) n t = chosen (same_name d.of_name n) (λ e. same_is d.of_name n e) (in_spots p ds n) t
  where
    chosen : (b : Bool) → (b ≡ true → d.of_name ≡ n) → (IsTrue (is_declared_among ds n) → IsAmong (spots_in p ds) (spot p n))
        → IsTrue (b || is_declared_among ds n) → IsAmong (spots_in p (d ∷ ds)) (spot p n)
    chosen true f g h = inl (ap (spot p) (f refl))
    chosen false f g h = inr (g h)

in_all : (d : Design) (paths : List (List PathStep)) (p : Placed) (n : Name) → IsAmong paths p.path → IsPlacedIn d p → IsDeclared p n
    → IsAmong (all_spots d paths) (spot p n)
in_all d [] p n h at t = absurd h
in_all d (path ∷ paths) p n (inl e) at t =
    among_left (spots_at (at_path d path)) (all_spots d paths) (spot p n)
    (subst (λ q. IsAmong (spots_at (at_path d q)) (spot p n)) (sym e)
    (subst (λ o. IsAmong (spots_at o) (spot p n)) (sym at) (in_spots p (declarations p.of_module) n t)))
in_all d (path ∷ paths) p n (inr h) at t = among_right (spots_at (at_path d path)) (all_spots d paths) (spot p n) (in_all d paths p n h at t)

-- each of them is a declared name of a module that stands in the design
pub record IsSpot (d : Design) (z : Spot) : Type 0 where
  pub is_placed : IsPlacedIn d z.place
  pub is_declared : IsDeclared z.place z.name

of_spots : (p : Placed) (ds : List Declaration) (z : Spot) → IsAmong (spots_in p ds) z → (z.place ≡ p) × IsTrue (is_declared_among ds z.name)
of_spots p [] z h = absurd h
of_spots p (d ∷ ds) z (inl e) =
    let f : p ≡ z.place = ap (λ (y : Spot). y.place) e in
    let g : d.of_name ≡ z.name = ap (λ (y : Spot). y.name) e in
    (sym f, subst (λ m. IsTrue (same_name d.of_name m || is_declared_among ds m)) g (subst (λ b. IsTrue (b || is_declared_among ds d.of_name)) (sym (is_same d.of_name)) refl))
of_spots p (d ∷ ds) z (inr h) = let r = of_spots p ds z h in (r.0, later (same_name d.of_name z.name) r.1)
  where
    later : (b : Bool) → IsTrue (is_declared_among ds z.name) → IsTrue (b || is_declared_among ds z.name)
    later true t = refl
    later false t = t

of_all : (d : Design) (paths : List (List PathStep)) (z : Spot) → IsAmong (all_spots d paths) z → IsSpot d z
of_all d [] z h = absurd h
of_all d (path ∷ paths) z h =
    elim (among_either (spots_at (at_path d path)) (all_spots d paths) z h) as (λ _. IsSpot d z) [
      | inl k ↦ found (at_path d path) (λ p e. placed_in d path p e) k
      | inr k ↦ of_all d paths z k
    ]
  where
    found : (x : Option Placed) → ((p : Placed) → x ≡ Some p → IsPlacedIn d p) → IsAmong (spots_at x) z → IsSpot d z
    found None f k = absurd k
    found (Some p) f k =
        let r = of_spots p (declarations p.of_module) z k in
        record {
          is_placed = subst (IsPlacedIn d) (sym r.0) (f p refl);
          is_declared = subst (λ (q : Placed). IsDeclared q z.name) (sym r.0) r.1;
        }

-- ---- a valuation from values of all spots

abbrev value_at : (Placed → Name → Value) → Option Spot → Value
value_at g None = a_number 0
value_at g (Some z) = g z.place z.name

abbrev spot_of : List Spot → Name → Option Spot
spot_of [] x = None
spot_of (z ∷ zs) x = cond (same_name (dotted z.place.path z.name) x) (Some z) (spot_of zs x)

pub spread : List Spot → (Placed → Name → Value) → Valuation
spread zs g x = value_at g (spot_of zs x)

found_spot : (zs : List Spot) (z : Spot) → IsAmong zs z
    → ((y : Spot) → IsAmong zs y → dotted y.place.path y.name ≡ dotted z.place.path z.name → y ≡ z) → spot_of zs (dotted z.place.path z.name) ≡ Some z
found_spot [] z h one = absurd h
found_spot (y ∷ zs) z h one =
    chosen (λ k. found_spot zs z k (λ x g. one x (inr g))) (same_name (dotted y.place.path y.name) (dotted z.place.path z.name)) refl h
  where
    name : Name
    name = dotted z.place.path z.name

    chosen : (IsAmong zs z → spot_of zs name ≡ Some z) → (b : Bool) → same_name (dotted y.place.path y.name) name ≡ b → IsAmong (y ∷ zs) z
        → cond b (Some y) (spot_of zs name) ≡ Some z
    chosen f true e k = ap Some (one y (inl refl) (same_is (dotted y.place.path y.name) name e))
    chosen f false e (inl k) =
        let t : same_name (dotted y.place.path y.name) name ≡ true = subst (λ (x : Spot). same_name (dotted y.place.path y.name) (dotted x.place.path x.name) ≡ true) k (is_same (dotted y.place.path y.name)) in cc
    chosen f false e (inr k) = f k

-- Each module sees its own values.
pub record SeesItsOwn (d : Design) : Type 0 where
  pub spots : List Spot
  pub sees : (g : Placed → Name → Value) (p : Placed) (n : Name) → IsPlacedIn d p → IsDeclared p n → inside (spread spots g) p n ≡ g p n

pub sees_its_own : (d : Design) → NamesHaveNoDots d.source → ¬ HasBadHierarchy d → SeesItsOwn d
unfolding spread
sees_its_own d dotless good =
    record { spots = all_spots d paths.0; sees = λ g p n at t. ap (value_at g) (found_spot (all_spots d paths.0) (spot p n) (in_all d paths.0 p n (paths.1 p.path p at) at t) (only p n at t)) }
  where
    paths : (paths : List (List PathStep)) × ((path : List PathStep) (p : Placed) → at_path d path ≡ Some p → IsAmong paths path)
    paths = paths_are_finite d good

    some_same : {A : Type 0} {x y : A} → Some x ≡ Some y → x ≡ y
    some_same e = cc

    only : (p : Placed) (n : Name) → IsPlacedIn d p → IsDeclared p n → (y : Spot) → IsAmong (all_spots d paths.0) y
        → dotted y.place.path y.name ≡ dotted p.path n → y ≡ spot p n
    only p n at t y h e =
        let is_spot : IsSpot d y = of_all d paths.0 y h in
        let r = dots_tell y.place.path p.path y.name n (plain_path d dotless y.place.path y.place is_spot.is_placed) (plain_path d dotless p.path p at)
        (plain_declared d dotless y.place y.name is_spot.is_placed is_spot.is_declared) (plain_declared d dotless p n at t) e in
        let same : y.place ≡ p = some_same (sym is_spot.is_placed ∙ ap (at_path d) r.0 ∙ at) in
        ap (λ q. spot q y.name) same ∙ ap (spot p) r.1
