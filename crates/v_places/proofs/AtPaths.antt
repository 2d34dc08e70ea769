-- The module at a path rests on no parameter, and a module that stands below itself stands as deep as one likes.
use Rattle.std.proofs.Common.{◌≡◌, ℕ, zero, suc, ◌+◌, ◌<◌, ◌≤◌, Bool, true, false, cond, List, [], ◌∷◌, ◌++◌, length, refl, sym, ap, ◌∙◌, subst, Option, Some, None, option_map, option_and_then, arith}
use Rattle.std.proofs.lemmas.List.{length-append}
use Rattle.wb_values.specs.Value.{Name, same_name}
use Rattle.verilog_trees.specs.Syntax.{Module, Source}
use Rattle.verilog_meaning.specs.Hierarchy.{PathStep, Placed, placed_scope, module_named, Instance, instance_reached, placed_instance, placed_below, placed_at}
use Rattle.verilog_meaning.specs.Settled.{Design, at_path, IsPlacedIn}
use Rattle.verilog_designs.specs.Known.{known_scope, known_instance, known_below, known_at}
use Rattle.verilog_designs.specs.Accepted.{HasRecursion}
use Rattle.verilog_unique.proofs.Options.{same_is, from_map, from_chain}

abbrev module_of : Placed → Module
module_of p = p.of_module

abbrev pub module_below : Source → PathStep → Module → Option Module
module_below source u m = option_and_then (λ (i : Instance). module_named source i.of_module) (instance_reached m.items u)

-- the module at a path
abbrev pub module_at : Source → Name → List PathStep → Option Module
module_at source top [] = module_named source top
module_at source top (u ∷ around) = option_and_then (module_below source u) (module_at source top around)

-- ---- it is that of both definitions

kept : (f : Module → Placed) → ((m : Module) → (f m).of_module ≡ m) → (o : Option Module) → option_map module_of (option_map f o) ≡ o
kept f h None = refl
kept f h (Some m) = ap Some (h m)

pub known_module : (source : Source) (top : Name) (path : List PathStep) → option_map module_of (known_at source top path) ≡ module_at source top path
known_module source top [] = kept _ (λ m. refl) (module_named source top)
known_module source top (u ∷ around) = step (known_at source top around) ∙ ap (option_and_then (module_below source u)) (known_module source top around)
  where
    reached : (p : Placed) (i : Option Instance) → option_map module_of (option_and_then (known_instance source (u ∷ p.path) (known_scope p)) i)
        ≡ option_and_then (λ (j : Instance). module_named source j.of_module) i
    reached p None = refl
    reached p (Some i) = kept _ (λ m. refl) (module_named source i.of_module)

    step : (o : Option Placed) → option_map module_of (option_and_then (known_below source u) o) ≡ option_and_then (module_below source u) (option_map module_of o)
    step None = refl
    step (Some p) = reached p (instance_reached p.of_module.items u)

pub placed_module : (source : Source) (top : Name) (path : List PathStep) → option_map module_of (placed_at source top path) ≡ module_at source top path
placed_module source top [] = kept _ (λ m. refl) (module_named source top)
placed_module source top (u ∷ around) = step (placed_at source top around) ∙ ap (option_and_then (module_below source u)) (placed_module source top around)
  where
    reached : (p : Placed) (i : Option Instance) → option_map module_of (option_and_then (placed_instance source (u ∷ p.path) (placed_scope p)) i)
        ≡ option_and_then (λ (j : Instance). module_named source j.of_module) i
    reached p None = refl
    reached p (Some i) = kept _ (λ m. refl) (module_named source i.of_module)

    step : (o : Option Placed) → option_map module_of (option_and_then (placed_below source u) o) ≡ option_and_then (module_below source u) (option_map module_of o)
    step None = refl
    step (Some p) = reached p (instance_reached p.of_module.items u)

pub same_modules : (source : Source) (top : Name) (path : List PathStep)
    → option_map (λ (p : Placed). p.of_module) (known_at source top path) ≡ option_map (λ (p : Placed). p.of_module) (placed_at source top path)
same_modules source top path = known_module source top path ∙ sym (placed_module source top path)

-- where one has a place, so has the other
pub placed_there : (source : Source) (top : Name) (path : List PathStep) (p : Placed) → known_at source top path ≡ Some p → (q : Placed) × (placed_at source top path ≡ Some q)
placed_there source top path p e =
    let f = from_map module_of (placed_at source top path) p.of_module (sym (same_modules source top path) ∙ ap (option_map module_of) e) in (f.0, f.1)

pub known_there : (source : Source) (top : Name) (path : List PathStep) (m : Module) → module_at source top path ≡ Some m → (q : Placed) × (known_at source top path ≡ Some q)
known_there source top path m e = let f = from_map module_of (known_at source top path) m (known_module source top path ∙ e) in (f.0, f.1)

pub module_placed : (source : Source) (top : Name) (path : List PathStep) (p : Placed) → placed_at source top path ≡ Some p → module_at source top path ≡ Some p.of_module
module_placed source top path p e = sym (placed_module source top path) ∙ ap (option_map module_of) e

-- ---- a module is the first one of its name

named_so : (source : Source) (n : Name) (m : Module) → module_named source n ≡ Some m → m.module_name ≡ n
named_so [] n m e = cc
named_so (x ∷ source) n m e = chosen (same_name x.module_name n) refl (named_so source n m) e
  where
    chosen : (b : Bool) → same_name x.module_name n ≡ b → (module_named source n ≡ Some m → m.module_name ≡ n) → cond b (Some x) (module_named source n) ≡ Some m → m.module_name ≡ n
    chosen true t f h = let same : x ≡ m = cc in subst (λ y. y.module_name ≡ n) same (same_is x.module_name n t)
    chosen false t f h = f h

self_named : (source : Source) (n : Name) (m : Module) → module_named source n ≡ Some m → module_named source m.module_name ≡ Some m
self_named source n m e = ap (module_named source) (named_so source n m e) ∙ e

pub found_named : (source : Source) (top : Name) (path : List PathStep) (m : Module) → module_at source top path ≡ Some m → module_named source m.module_name ≡ Some m
found_named source top [] m e = self_named source top m e
found_named source top (u ∷ around) m e =
    let one = from_chain (module_below source u) (module_at source top around) m e in
    let two = from_chain (λ (i : Instance). module_named source i.of_module) (instance_reached one.0.items u) m one.2 in
    self_named source two.0.of_module m two.2

-- ---- recursion

-- the module so many steps below a module
abbrev walk : Source → List PathStep → Module → Option Module
walk source [] m = Some m
walk source (u ∷ us) m = option_and_then (module_below source u) (walk source us m)

walked : (source : Source) (top : Name) (us q : List PathStep) → module_at source top (us ++ q) ≡ option_and_then (walk source us) (module_at source top q)
walked source top [] q = whole (module_at source top q)
  where
    whole : (o : Option Module) → o ≡ option_and_then (walk source []) o
    whole None = refl
    whole (Some m) = refl
walked source top (u ∷ us) q = ap (option_and_then (module_below source u)) (walked source top us q) ∙ two (module_at source top q)
  where
    two : (o : Option Module) → option_and_then (module_below source u) (option_and_then (walk source us) o) ≡ option_and_then (walk source (u ∷ us)) o
    two None = refl
    two (Some m) = refl

-- a path of so many turns of steps that lead from a module to itself
turns : (source : Source) (top : Name) (us q : List PathStep) (m : Module) → module_at source top q ≡ Some m → walk source us m ≡ Some m → 0 < length us → (n : ℕ)
    → (path : List PathStep) × (n ≤ length path) × (module_at source top path ≡ Some m)
turns source top us q m e w some zero = (q, omega arith, e)
turns source top us q m e w some (suc n) =
    let before = turns source top us q m e w some n in
    let long : length (us ++ before.0) ≡ length us + length before.0 = length-append us before.0 in
    let more : n ≤ length before.0 = before.1 in (
      us ++ before.0,
      omega (arith, long, more, some),
      walked source top us before.0 ∙ (ap (option_and_then (walk source us)) before.2 ∙ w),
    )

pub as_deep : (d : Design) → HasRecursion d → (n : ℕ) → (path : List PathStep) × (n ≤ length path) × ((m : Module) × (module_at d.source d.top path ≡ Some m))
as_deep d h n =
    let outer : module_at d.source d.top h.outer.path ≡ Some h.outer.of_module = module_placed d.source d.top h.outer.path h.outer h.are_placed.0 in
    let inner : module_at d.source d.top h.inner.path ≡ Some h.inner.of_module = module_placed d.source d.top h.inner.path h.inner h.are_placed.1 in
    let same : Some h.inner.of_module ≡ Some h.outer.of_module
    = sym (found_named d.source d.top h.inner.path h.inner.of_module inner) ∙ (ap (module_named d.source) h.same_module ∙ found_named d.source d.top h.outer.path h.outer.of_module outer) in
    let around : walk d.source h.steps h.outer.of_module ≡ Some h.outer.of_module
    = sym (walked d.source d.top h.steps h.outer.path ∙ ap (option_and_then (walk d.source h.steps)) outer)
    ∙ (ap (module_at d.source d.top) (sym h.is_below) ∙ (inner ∙ same)) in
    let found = turns d.source d.top h.steps h.outer.path h.outer.of_module outer around h.some n in
    (found.0, found.1, (h.outer.of_module, found.2))
