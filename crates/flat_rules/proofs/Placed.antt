-- The modules of a design, judged by their known constants, are the modules that stand in it.
use Rattle.std.proofs.Common.{◌≡◌, ℕ, ◌≤◌, ◌<◌, ◌^◌, nat_lt, arith, Bool, true, false, cond, ◌&&◌, ◌||◌, List, [], ◌∷◌, ◌++◌, inl, inr, refl, sym, ap, ◌∙◌, subst, Option, Some, None, IfSome, IsTrue}
use Rattle.std.specs.Prelude.{is_some, option_map, option_and_then}
use Rattle.std.proofs.lemmas.Bool.{false≢true}
use Rattle.std.proofs.lemmas.Bool.Decides.{nat_tests}
use Rattle.wb_values.specs.Value.{Name, same_name, entry_of}
use Rattle.wb_values.specs.Choice.{first_of}
use Rattle.verilog_trees.specs.Syntax.{Expression, Range, Connections, by_name, by_order, Item, port, parameter, wires, variables, assign, always, instances, Module}
use Rattle.verilog_meaning.specs.Expression.{Object, Scope, object_or_undeclared, scope_of, distance, object_width, is_memory}
use Rattle.verilog_meaning.specs.Hierarchy.{ranged_object, parameter_object, Declaration, declarations, declaration_of, bounds_of, declared_object, and_later, all_parameters, Overrides, no_overrides, overrides_of, constants_of, PathStep, Placed, placed_scope, module_named, Instance, instance_among, instance_named, instance_reached, joined_option, connected, in_order, overridable}
use Rattle.verilog_meaning.specs.Settled.{Design, at_path, IsPlacedIn, is_declared_among, port_directions}
use Rattle.verilog_rules.specs.Expression.{also, width_if, broken_constant}
use Rattle.verilog_designs.specs.Known.{known_range, known_parameter, known_scope, KnownOverrides, known_constants, known_overrides, known_instance, known_below, known_at}
use Rattle.verilog_designs.specs.Names.{names_in, names_in_named, names_in_ordered, names_in_connections, names_in_instances, mentions, uses_unknown, has_undeclared, instantiates_unknown, has_duplicate}
use Rattle.verilog_designs.specs.Constants.{constant_names_in_instances, has_net_as_constant}
use Rattle.verilog_designs.specs.Expressions.{memory_if, broken_named_values, broken_ordered_values, broken_overrides, broken_instances, broken_declaration, broken_declarations, broken_module}
use Rattle.verilog_designs.specs.Accepted.{HasDuplicateName}
use Rattle.verilog_unique.proofs.Options.{first_false, not_true, same_is}
use Rattle.verilog_unique.proofs.Descent.{IsAmong, among_left, among_right}
use Rattle.verilog_unique.proofs.Paths.{StepsTo, step_of, placed_of, top_of, instance_from, top_from, placed_in}
use Rattle.verilog_unique.proofs.Standing.{stands_in, mentioned_known}
use Rattle.verilog_unique.proofs.Mentioned.{in_module}
use Rattle.verilog_unique.proofs.Constants.{Within, in_item}
use Rattle.verilog_exists.proofs.Rules.{Good, good_left, good_right, HasEntry, own_known}
use Rattle.v_value.specs.Narrow.{HasNarrowObjects}
use Rattle.flat_rules.specs.Sound.{HasSoundModules, ModulesAreKnown, HasObjectInBounds, ObjectsAreInBounds}
use Rattle.flat_rules.proofs.Real.{IsRealRange, range_real, IsRanged, IsParameter, parameter_is, entry_is, undeclared_narrow}
use Rattle.flat_rules.proofs.Walk.{are_declared, AreGiven}
use Rattle.flat_rules.proofs.Judged.{AreGoodParts, good_parts, good_item, HasParameters, constants_real, item_mentioned, constant_entry, name_ranged, scopes_same}

-- ---- what is declared of a name breaks nothing

pub declaration_good : (s : Scope) (m : Module) (ds : List Declaration) (n : Name) → Good (broken_declarations s m ds) → IsTrue (is_declared_among ds n)
    → (nat_lt 128 (object_width (s n)) ≡ false) × ((is_some (entry_of (port_directions m) n) && is_memory (s n)) ≡ false)
declaration_good s m [] n g h = absurd (false≢true h)
declaration_good s m (d ∷ ds) n g h =
    chosen (same_name d.of_name n) (λ e. same_is d.of_name n e)
    (declaration_good s m ds n (good_right (broken_declaration s m d) (broken_declarations s m ds) g)) h
  where
    one : Good (broken_declaration s m d)
    one = good_left (broken_declaration s m d) (broken_declarations s m ds) g

    width : nat_lt 128 (object_width (s d.of_name)) ≡ false
    width =
        (good_left (width_if (nat_lt 128 (object_width (s d.of_name)))) (memory_if (is_some (entry_of (port_directions m) d.of_name) && is_memory (s d.of_name))) one).widths

    memory : (is_some (entry_of (port_directions m) d.of_name) && is_memory (s d.of_name)) ≡ false
    memory =
        (good_right (width_if (nat_lt 128 (object_width (s d.of_name)))) (memory_if (is_some (entry_of (port_directions m) d.of_name) && is_memory (s d.of_name))) one).memories

    chosen : (b : Bool) → (b ≡ true → d.of_name ≡ n)
        → (IsTrue (is_declared_among ds n) → (nat_lt 128 (object_width (s n)) ≡ false) × ((is_some (entry_of (port_directions m) n) && is_memory (s n)) ≡ false))
        → IsTrue (b || is_declared_among ds n)
        → (nat_lt 128 (object_width (s n)) ≡ false) × ((is_some (entry_of (port_directions m) n) && is_memory (s n)) ≡ false)
    chosen true f k i =
        subst (λ j. (nat_lt 128 (object_width (s j)) ≡ false) × ((is_some (entry_of (port_directions m) j) && is_memory (s j)) ≡ false)) (f refl) (width, memory)
    chosen false f k i = k i

-- of what is declared something is said, and of nothing else
pub declared_something : (ds : List Declaration) (n : Name) → IsTrue (is_declared_among ds n) → IsTrue (is_some (declaration_of ds n))
declared_something [] n t = absurd (false≢true t)
declared_something (d ∷ ds) n t = chosen (same_name d.of_name n) (declared_something ds n) t
  where
    chosen : (b : Bool) → (IsTrue (is_declared_among ds n) → IsTrue (is_some (declaration_of ds n))) → IsTrue (b || is_declared_among ds n)
        → IsTrue (is_some (cond b (Some (and_later d (declaration_of ds n))) (declaration_of ds n)))
    chosen true f h = refl
    chosen false f h = f h

said_declared : (ds : List Declaration) (n : Name) (dd : Declaration) → declaration_of ds n ≡ Some dd → IsTrue (is_declared_among ds n)
said_declared [] n dd e = cc
said_declared (d ∷ ds) n dd e = chosen (same_name d.of_name n) (said_declared ds n dd) e
  where
    chosen : (b : Bool) → (declaration_of ds n ≡ Some dd → IsTrue (is_declared_among ds n))
        → cond b (Some (and_later d (declaration_of ds n))) (declaration_of ds n) ≡ Some dd → IsTrue (b || is_declared_among ds n)
    chosen true f g = refl
    chosen false f g = f g

-- ---- what overrides parameters

-- all expressions that are given are so
abbrev AllNamed : (Expression → Type 0) → List (Name × Option Expression) → Type 0
AllNamed P [] = Unit {0}
AllNamed P ((n, None) ∷ cs) = AllNamed P cs
AllNamed P ((n, Some e) ∷ cs) = P e × AllNamed P cs

abbrev AllOrdered : (Expression → Type 0) → List (Option Expression) → Type 0
AllOrdered P [] = Unit {0}
AllOrdered P (None ∷ es) = AllOrdered P es
AllOrdered P (Some e ∷ es) = P e × AllOrdered P es

abbrev AllGiven : (Expression → Type 0) → Connections → Type 0
AllGiven P (by_name cs) = AllNamed P cs
AllGiven P (by_order es) = AllOrdered P es

named_so : (P : Expression → Type 0) (cs : List (Name × Option Expression)) (n : Name) (e : Expression) → AllNamed P cs → joined_option (entry_of cs n) ≡ Some e → P e
named_so P [] n e h f = cc
named_so P ((k, None) ∷ cs) n e h f = chosen (same_name k n) (named_so P cs n e h) f
  where
    chosen : (b : Bool) → (joined_option (entry_of cs n) ≡ Some e → P e) → joined_option (cond b (Some None) (entry_of cs n)) ≡ Some e → P e
    chosen true g i = cc
    chosen false g i = g i
named_so P ((k, Some x) ∷ cs) n e h f = chosen (same_name k n) (named_so P cs n e h.1) f
  where
    chosen : (b : Bool) → (joined_option (entry_of cs n) ≡ Some e → P e) → joined_option (cond b (Some (Some x)) (entry_of cs n)) ≡ Some e → P e
    chosen true g i = let same : x ≡ e = cc in subst P same h.0
    chosen false g i = g i

ordered_so : (P : Expression → Type 0) (es : List (Option Expression)) (ns : List Name) (n : Name) (e : Expression) → AllOrdered P es → in_order es ns n ≡ Some e → P e
ordered_so P [] ns n e h f = cc
ordered_so P (None ∷ es) [] n e h f = cc
ordered_so P (None ∷ es) (k ∷ ns) n e h f = chosen (same_name k n) (ordered_so P es ns n e h) f
  where
    chosen : (b : Bool) → (in_order es ns n ≡ Some e → P e) → cond b None (in_order es ns n) ≡ Some e → P e
    chosen true g i = cc
    chosen false g i = g i
ordered_so P (Some x ∷ es) [] n e h f = cc
ordered_so P (Some x ∷ es) (k ∷ ns) n e h f = chosen (same_name k n) (ordered_so P es ns n e h.1) f
  where
    chosen : (b : Bool) → (in_order es ns n ≡ Some e → P e) → cond b (Some x) (in_order es ns n) ≡ Some e → P e
    chosen true g i = let same : x ≡ e = cc in subst P same h.0
    chosen false g i = g i

given_so : (P : Expression → Type 0) (cs : Connections) (ns : List Name) (n : Name) (e : Expression) → AllGiven P cs → connected cs ns n ≡ Some e → P e
given_so P (by_name cs) ns n e h f = named_so P cs n e h f
given_so P (by_order es) ns n e h f = ordered_so P es ns n e h f

-- the rules on a value that is given, and where its names stand
abbrev IsGoodGiven : Scope → List Name → Expression → Type 0
IsGoodGiven s ns e = Good (broken_constant s e) × Within (names_in e) ns

good_named : (s : Scope) (ns : List Name) (cs : List (Name × Option Expression)) → Within (names_in_named cs) ns → Good (broken_named_values s cs)
    → AllNamed (IsGoodGiven s ns) cs
good_named s ns [] f g = tt
good_named s ns ((k, None) ∷ cs) f g = good_named s ns cs f g
good_named s ns ((k, Some e) ∷ cs) f g = (
  (good_left (broken_constant s e) (broken_named_values s cs) g, λ n h. f n (among_left (names_in e) (names_in_named cs) n h)),
  good_named s ns cs (λ n h. f n (among_right (names_in e) (names_in_named cs) n h)) (good_right (broken_constant s e) (broken_named_values s cs) g),
)

good_ordered : (s : Scope) (ns : List Name) (es : List (Option Expression)) → Within (names_in_ordered es) ns → Good (broken_ordered_values s es)
    → AllOrdered (IsGoodGiven s ns) es
good_ordered s ns [] f g = tt
good_ordered s ns (None ∷ es) f g = good_ordered s ns es f g
good_ordered s ns (Some e ∷ es) f g = (
  (good_left (broken_constant s e) (broken_ordered_values s es) g, λ n h. f n (among_left (names_in e) (names_in_ordered es) n h)),
  good_ordered s ns es (λ n h. f n (among_right (names_in e) (names_in_ordered es) n h)) (good_right (broken_constant s e) (broken_ordered_values s es) g),
)

good_given : (s : Scope) (ns : List Name) (cs : Connections) → Within (names_in_connections cs) ns → Good (broken_overrides s cs) → AllGiven (IsGoodGiven s ns) cs
good_given s ns (by_name cs) f g = good_named s ns cs f g
good_given s ns (by_order es) f g = good_ordered s ns es f g

-- the item in which an instance stands, with what it gives to parameters
record InstanceItem (items : List Item) (i : Instance) : Type 0 where
  each : List (Name × Connections)
  is_item : IsAmong items (instances i.of_module i.parameters each)

among_item : (m : Name) (given : Connections) (is : List (Name × Connections)) (u : Name) (i : Instance) → instance_among m given is u ≡ Some i
    → (i.of_module ≡ m) × (i.parameters ≡ given)
among_item m given [] u i e = cc
among_item m given (x ∷ is) u i e = chosen (same_name x.0 u) (among_item m given is u i) e
  where
    chosen : (b : Bool) → (instance_among m given is u ≡ Some i → (i.of_module ≡ m) × (i.parameters ≡ given))
        → cond b (Some (record { of_module = m; parameters = given; connections = x.1 })) (instance_among m given is u) ≡ Some i
        → (i.of_module ≡ m) × (i.parameters ≡ given)
    chosen true f h =
        let same : record { of_module = m; parameters = given; connections = x.1 } ≡ i = cc in
        (ap (λ (j : Instance). j.of_module) (sym same), ap (λ (j : Instance). j.parameters) (sym same))
    chosen false f h = f h

item_after : (x : Item) (items : List Item) (i : Instance) → InstanceItem items i → InstanceItem (x ∷ items) i
item_after x items i h = record { each = h.each; is_item = inr h.is_item }

instance_item : (items : List Item) (u : Name) (i : Instance) → instance_named items u ≡ Some i → InstanceItem items i
instance_item [] u i e = cc
instance_item (port d ∷ items) u i e = item_after (port d) items i (instance_item items u i e)
instance_item (parameter d ∷ items) u i e = item_after (parameter d) items i (instance_item items u i e)
instance_item (wires signed r ws ∷ items) u i e = item_after (wires signed r ws) items i (instance_item items u i e)
instance_item (variables signed r vs ∷ items) u i e = item_after (variables signed r vs) items i (instance_item items u i e)
instance_item (assign ts ∷ items) u i e = item_after (assign ts) items i (instance_item items u i e)
instance_item (always es x ∷ items) u i e = item_after (always es x) items i (instance_item items u i e)
instance_item (instances m given is ∷ items) u i e = found (instance_among m given is u) (among_item m given is u) (instance_item items u i) e
  where
    found : (x : Option Instance) → ((j : Instance) → x ≡ Some j → (j.of_module ≡ m) × (j.parameters ≡ given)) → (instance_named items u ≡ Some i → InstanceItem items i)
        → first_of x (instance_named items u) ≡ Some i → InstanceItem (instances m given is ∷ items) i
    found None f g h = item_after (instances m given is) items i (g h)
    found (Some j) f g h =
        let r = f i h in
        record { each = is; is_item = inl (ap (λ k. instances k given is) (sym r.0) ∙ ap (λ k. instances i.of_module k is) (sym r.1)) }

reached_named : (items : List Item) (u : PathStep) (i : Instance) → instance_reached items u ≡ Some i → instance_named items u.of_name ≡ Some i
reached_named items u i e = plain (is_some u.index) e
  where
    plain : (b : Bool) → cond b None (instance_named items u.of_name) ≡ Some i → instance_named items u.of_name ≡ Some i
    plain true h = cc
    plain false h = h

-- ---- all modules of the design

-- The module is known as it is placed, and breaks nothing.
pub record IsSound (d : Design) (p : Placed) : Type 0 where
  pub known : known_at d.source d.top p.path ≡ Some p
  pub has : HasParameters p.of_module p.constants
  pub constant : has_net_as_constant d.source p.of_module ≡ false
  pub parts : AreGoodParts d.source p.of_module (known_scope p)
  pub same : known_scope p ≡ placed_scope p
  pub narrow : HasNarrowObjects (placed_scope p)
  pub bounded : (n : Name) → HasObjectInBounds (placed_scope p n)

within : (w : ℕ) → nat_lt 128 w ≡ false → w ≤ 128
within w h = grind (arith, nat_tests, h)

words_bounded : (s : Scope) (r : Option Range) → IsRanged s r → IfSome (option_map (bounds_of s) r) (λ (a : ℕ × ℕ). distance a.0 a.1 ≤ 65535)
words_bounded s None h = tt
words_bounded s (Some r) h = found (known_range s r) refl h
  where
    apart : (l m : ℕ) → l ≤ 65535 → m ≤ 65535 → distance l m ≤ 65535
    apart l m h k = omega (arith, h, k)

    found : (x : Option (ℕ × ℕ)) → known_range s r ≡ x → IsTrue (is_some x) → distance (bounds_of s r).0 (bounds_of s r).1 ≤ 65535
    found None e t = absurd (false≢true t)
    found (Some b) e t =
        let x : IsRealRange s r b = range_real s r b e in
        let l = sym x.left in
        let m = sym x.right in
        subst (λ k. k ≤ 65535) (λ i. distance (l i) (m i)) (apart b.0 b.1 x.left_small x.right_small)

no_number : (s : Scope) (signed : Bool) (r : Option Range) → (ranged_object s signed r).constant ≡ None
no_number s signed None = refl
no_number s signed (Some r) = refl

module _ (d : Design) (sound : HasSoundModules d) where
  good_module : (path : List PathStep) (q : Placed) → known_at d.source d.top path ≡ Some q → Good (broken_module d.source q)
  good_module path q e =
      record {
        digits = not_true (broken_module d.source q).has_xz (λ t. sound.digits (record { path = path; place = q; is_placed = e; is_so = t }));
        constants = not_true (broken_module d.source q).bad_constant (λ t. sound.constants (record { path = path; place = q; is_placed = e; is_so = t }));
        widths = not_true (broken_module d.source q).width_over_128 (λ t. sound.widths (record { path = path; place = q; is_placed = e; is_so = t }));
        selects = not_true (broken_module d.source q).bad_select (λ t. sound.selects (record { path = path; place = q; is_placed = e; is_so = t }));
        memories = not_true (broken_module d.source q).memory_use (λ t. sound.memories (record { path = path; place = q; is_placed = e; is_so = t }));
        shape = sound.shapely path q e;
      }

  spoken : (p : Placed) → IsPlacedIn d p → uses_unknown p.of_module [] (mentions p.of_module) ≡ false
  spoken p at =
      first_false (uses_unknown p.of_module [] (mentions p.of_module)) (instantiates_unknown d.source p.of_module.items)
      (not_true (has_undeclared d.source p.of_module)
      (λ t. sound.names_declared (record { within = p.of_module; stands = stands_in d p.path p at; names_unknown = t })))

  pub once : (p : Placed) → IsPlacedIn d p → has_duplicate p.of_module ≡ false
  once p at = not_true (has_duplicate p.of_module) (λ t. sound.names_once (HasDuplicateName.names p.of_module (stands_in d p.path p at) t))

  -- the module that is known, with these overrides
  abbrev known_with : Placed → KnownOverrides → Placed
  known_with p given = record { path = p.path; of_module = p.of_module; constants = known_constants p.of_module given }

  one_module : (p : Placed) → IsPlacedIn d p → (given : KnownOverrides) (real : Overrides) → AreGiven given real
      → known_at d.source d.top p.path ≡ Some (known_with p given) → p.constants ≡ constants_of p.of_module real → IsSound d p
  one_module p at given real are known constants =
      record { known = known_p; has = has; constant = constant; parts = parts; same = same; narrow = λ n. (bounded n).narrow; bounded = bounded }
    where
      m : Module
      m = p.of_module

      constant : has_net_as_constant d.source m ≡ false
      constant = first_false (has_net_as_constant d.source m) _ (good_module p.path (known_with p given) known).constants

      both : (known_constants m given ≡ constants_of m real) × HasParameters m (known_constants m given)
      both =
          constants_real d.source m given real are constant (spoken p at)
          (good_parts d.source (known_with p given) (good_module p.path (known_with p given) known))

      entries : known_constants m given ≡ p.constants
      entries = both.0 ∙ sym constants

      is_p : known_with p given ≡ p
      is_p = λ i. record { path = p.path; of_module = p.of_module; constants = entries i }

      known_p : known_at d.source d.top p.path ≡ Some p
      known_p = known ∙ ap Some is_p

      has : HasParameters m p.constants
      has = subst (HasParameters m) entries both.1

      parts : AreGoodParts d.source m (known_scope p)
      parts = good_parts d.source p (good_module p.path p known_p)

      ranged : (n : Name) (dd : Declaration) → declaration_of (declarations m) n ≡ Some dd → IsRanged (scope_of p.constants) dd.range × IsRanged (scope_of p.constants) dd.addresses
      ranged = name_ranged d.source m p.constants has constant (λ n h. mentioned_known d sound.names_declared p.path p at n h) parts

      same : known_scope p ≡ placed_scope p
      same = λ i n. scopes_same d.source m p.constants has constant (λ k h. mentioned_known d sound.names_declared p.path p at k h) parts n i

      width : (n : Name) → IsTrue (is_declared_among (declarations m) n) → object_width (placed_scope p n) ≤ 128
      width n h =
          within (object_width (placed_scope p n))
          (subst (λ (s : Scope). nat_lt 128 (object_width (s n)) ≡ false) same (declaration_good (known_scope p) m (declarations m) n parts.declared h).0)

      bounded : (n : Name) → HasObjectInBounds (placed_scope p n)
      bounded n = found (entry_of p.constants n) (λ o e. entry_is p.constants n o has.parameters e) (declaration_of (declarations m) n) (ranged n) (λ dd e. said_declared (declarations m) n dd e) (width n)
        where
          found : (x : Option Object) → ((o : Object) → x ≡ Some o → IsParameter o) → (y : Option Declaration)
              → ((dd : Declaration) → y ≡ Some dd → IsRanged (scope_of p.constants) dd.range × IsRanged (scope_of p.constants) dd.addresses)
              → ((dd : Declaration) → y ≡ Some dd → IsTrue (is_declared_among (declarations m) n))
              → (IsTrue (is_declared_among (declarations m) n) → object_width (object_or_undeclared (first_of x (option_map (declared_object (scope_of p.constants)) y))) ≤ 128)
              → HasObjectInBounds (object_or_undeclared (first_of x (option_map (declared_object (scope_of p.constants)) y)))
          found (Some o) f y r h w =
              let g = f o refl in
              record { narrow = g.narrow; words = subst (λ a. IfSome a (λ (b : ℕ × ℕ). distance b.0 b.1 ≤ 65535)) (sym g.no_memory) tt }
          found None f None r h w = record { narrow = undeclared_narrow; words = tt }
          found None f (Some dd) r h w =
              record {
                narrow = (
                  w (h dd refl),
                  subst (λ c. IfSome c (λ k. k < 2 ^ object_width (declared_object (scope_of p.constants) dd))) (sym (no_number (scope_of p.constants) dd.signed dd.range)) tt,
                );
                words = words_bounded (scope_of p.constants) dd.addresses (r dd refl).1;
              }

  -- what an instance gives to parameters is known
  overrides_are : (p : Placed) → IsPlacedIn d p → IsSound d p → (i : Instance) → InstanceItem p.of_module.items i → (m : Module)
      → AreGiven (known_overrides (known_scope p) i.parameters m) (overrides_of (placed_scope p) i.parameters m)
  overrides_are p at h i item m =
      record {
        same = λ n. found (connected i.parameters (overridable (all_parameters m)) n)
            (λ y g. (value y (given_so (IsGoodGiven s (names_in_connections i.parameters)) i.parameters (overridable (all_parameters m)) n y given g)).0);
        fit = λ n o e. fits (connected i.parameters (overridable (all_parameters m)) n) o
            (λ y g. (value y (given_so (IsGoodGiven s (names_in_connections i.parameters)) i.parameters (overridable (all_parameters m)) n y given g)).1) e;
      }
    where
      s : Scope
      s = known_scope p

      rules : Good (also (broken_overrides s i.parameters) (broken_instances s (module_named d.source i.of_module) item.each))
      rules = good_item d.source s p.of_module.items (instances i.of_module i.parameters item.each) item.is_item h.parts.items

      given : AllGiven (IsGoodGiven s (names_in_connections i.parameters)) i.parameters
      given =
          good_given s (names_in_connections i.parameters) i.parameters (λ n k. k)
          (good_left (broken_overrides s i.parameters) (broken_instances s (module_named d.source i.of_module) item.each) rules)

      named : (n : Name) → IsAmong (names_in_connections i.parameters) n → HasEntry p.constants n
      named n k =
          constant_entry d.source p.of_module p.constants h.has h.constant (λ j g. mentioned_known d sound.names_declared p.path p at j g) h.parts n
          (among_right _ _ n
          (in_item d.source p.of_module.items (instances i.of_module i.parameters item.each) item.is_item n
          (among_left (names_in_connections i.parameters) (constant_names_in_instances (module_named d.source i.of_module) item.each) n k)))
          (in_module p.of_module (names_in_connections i.parameters)
          (item_mentioned p.of_module.items (instances i.of_module i.parameters item.each) (names_in_connections i.parameters)
          (names_in_connections i.parameters ++ names_in_instances item.each) item.is_item refl
          (λ j g. among_left (names_in_connections i.parameters) (names_in_instances item.each) j g)) n k)

      value : (y : Expression) → IsGoodGiven s (names_in_connections i.parameters) y
          → (known_parameter s false None y ≡ Some (parameter_object (placed_scope p) false None y)) × IsParameter (parameter_object (placed_scope p) false None y)
      value y g =
          let e : known_parameter s false None y ≡ Some (parameter_object s false None y) =
          own_known p.of_module p.constants (are_declared p.constants h.has.parameters) y (λ n k. named n (g.1 n k)) g.0 in
          let objects : HasNarrowObjects s = subst HasNarrowObjects (sym h.same) h.narrow in (
            e ∙ ap (λ z. Some (parameter_object z false None y)) h.same,
            subst (λ z. IsParameter (parameter_object z false None y)) h.same (parameter_is s false None y (parameter_object s false None y) objects e).1,
          )

      found : (z : Option Expression) → ((y : Expression) → z ≡ Some y → known_parameter s false None y ≡ Some (parameter_object (placed_scope p) false None y))
          → option_map (λ y. known_parameter s false None y) z ≡ option_map Some (option_map (λ y. parameter_object (placed_scope p) false None y) z)
      found None f = refl
      found (Some y) f = ap Some (f y refl)

      fits : (z : Option Expression) (o : Object) → ((y : Expression) → z ≡ Some y → IsParameter (parameter_object (placed_scope p) false None y))
          → option_map (λ y. parameter_object (placed_scope p) false None y) z ≡ Some o → IsParameter o
      fits None o f e = cc
      fits (Some y) o f e = let same : parameter_object (placed_scope p) false None y ≡ o = cc in subst IsParameter same (f y refl)

  sound_at : (path : List PathStep) (p : Placed) → at_path d path ≡ Some p → IsSound d p
  sound_at [] p e =
      let f = top_from d p e in
      let none : KnownOverrides = λ n. None in
      let known : known_at d.source d.top [] ≡ Some (known_with (top_of f.0) none) = ap (option_map (λ m. known_with (top_of m) none)) f.1 in
      one_module p (placed_in d [] p e) none no_overrides (record { same = λ n. refl; fit = λ n o g. cc })
      (subst (λ (x : Placed). known_at d.source d.top x.path ≡ Some (known_with x none)) f.2 known)
      (subst (λ (x : Placed). x.constants ≡ constants_of x.of_module no_overrides) f.2 refl)
  sound_at (u ∷ around) p e =
      let s : StepsTo d u around p = step_of d u around p e in
      let at : IsPlacedIn d s.outer = placed_in d around s.outer s.is_outer in
      let h : IsSound d s.outer = sound_at around s.outer s.is_outer in
      let i : InstanceItem s.outer.of_module.items s.instance =
      instance_item s.outer.of_module.items u.of_name s.instance (reached_named s.outer.of_module.items u s.instance s.is_reached) in
      let f = instance_from d.source (u ∷ s.outer.path) (placed_scope s.outer) s.instance p s.is_placed in
      let known : known_at d.source d.top (u ∷ s.outer.path)
      ≡ Some (known_with (placed_of (u ∷ s.outer.path) (placed_scope s.outer) s.instance f.0) (known_overrides (known_scope s.outer) s.instance.parameters f.0)) =
      ap (option_and_then (known_below d.source u)) h.known
      ∙ ap (option_and_then (known_instance d.source (u ∷ s.outer.path) (known_scope s.outer))) s.is_reached
      ∙ ap (option_map (λ m. known_with (placed_of (u ∷ s.outer.path) (placed_scope s.outer) s.instance m) (known_overrides (known_scope s.outer) s.instance.parameters m))) f.1 in
      one_module p (placed_in d (u ∷ around) p e) (known_overrides (known_scope s.outer) s.instance.parameters p.of_module)
      (overrides_of (placed_scope s.outer) s.instance.parameters p.of_module) (overrides_are s.outer at h s.instance i p.of_module)
      (subst (λ (x : Placed). known_at d.source d.top x.path ≡ Some (known_with x (known_overrides (known_scope s.outer) s.instance.parameters x.of_module))) f.2 known)
      (subst (λ (x : Placed). x.constants ≡ constants_of x.of_module (overrides_of (placed_scope s.outer) s.instance.parameters x.of_module)) f.2 refl)

  pub is_sound : (p : Placed) → IsPlacedIn d p → IsSound d p
  is_sound p at = sound_at p.path p at

pub modules_are_known : ModulesAreKnown
modules_are_known d p sound at =
    let h : IsSound d p = is_sound d sound p at in
    record { is_known = h.known; scope = λ n. ap (λ (s : Scope). s n) h.same }

pub objects_are_in_bounds : ObjectsAreInBounds
objects_are_in_bounds d p n sound at = (is_sound d sound p at).bounded n
