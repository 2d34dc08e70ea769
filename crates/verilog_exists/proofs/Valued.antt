-- In an accepted design whose tree is that of a text each parameter has a value, and so each range has one.
use Rattle.std.proofs.Common.{◌≡◌, ℕ, Bool, true, false, cond, not, ◌||◌, List, [], ◌∷◌, ◌++◌, ◌⊎◌, inl, inr, refl, sym, ap, ◌∙◌, subst, Option, Some, None, IsTrue}
use Rattle.std.specs.Prelude.{is_some, option_map, option_and_then}
use Rattle.std.proofs.lemmas.Bool.{false≢true}
use Rattle.std.proofs.lemmas.List.{append_assoc}
use Rattle.wb_values.specs.Value.{Name, same_name, Entries, entry_of}
use Rattle.wb_values.specs.Choice.{first_of}
use Rattle.verilog_trees.specs.Syntax.{Expression, Range, PortDeclaration, ParameterDeclaration, Connections, by_name, by_order, Item, port, parameter, wires, variables, assign, always, instances, Module, Source}
use Rattle.verilog_meaning.specs.Expression.{Object, Scope, object_or_undeclared, scope_of}
use Rattle.verilog_meaning.specs.Hierarchy.{Declaration, declarations, declaration_of, and_later, both_declarations, all_parameters, body_parameters, value_names, parameter_object, port_declarations, header_ports, each_port, wire_declarations, variable_declarations, item_declarations, PathStep, Placed, module_named, Instance, instance_among, instance_named, instance_reached, joined_option, connected, in_order, overridable}
use Rattle.verilog_meaning.specs.Settled.{Design, is_declared_among}
use Rattle.verilog_rules.specs.Expression.{Broken, also, constant_if, broken_constant}
use Rattle.verilog_designs.specs.Known.{known_range, known_object, with_range, known_parameter, known_declaration, with_known_addresses, known_module_scope, known_scope, KnownOverrides, with_known_parameters, known_constants, known_overrides, known_instance, known_below, known_at}
use Rattle.verilog_designs.specs.Names.{is_among, names_in, names_in_range, names_in_named, names_in_ordered, names_in_connections, names_in_values, names_in_parameters, names_in_ports, names_in_addresses, names_in_instances, Mention, used, declares, uses, all_parameter_mentions, item_mentions, all_item_mentions, mentions, parameter_names, may_be_used, uses_unknown, has_undeclared, instantiates_unknown}
use Rattle.verilog_designs.specs.Constants.{constant_names_in_item, constant_names_in_module_items, constant_names_in_module, constant_names_in_initial, constant_names_in_instances, has_net_as_constant}
use Rattle.verilog_designs.specs.Expressions.{broken_range, broken_parameters, broken_header, broken_ports, broken_declarations, broken_initial_values, broken_addresses, broken_instances, broken_named_values, broken_ordered_values, broken_overrides, broken_module_item, broken_module_items, broken_module}
use Rattle.verilog_designs.specs.Accepted.{StandsIn, at_top, below, undeclared, has_xz, bad_constant, width_over_128, bad_select, memory_use}
use Rattle.verilog_unique.proofs.Options.{from_map, from_chain, first_false, second_false, not_true, not_is_false, same_is}
use Rattle.verilog_unique.proofs.Descent.{IsAmong, among_left, among_right, among_either, contains_among}
use Rattle.verilog_unique.proofs.Standing.{IsKnownIn}
use Rattle.verilog_unique.proofs.Mentioned.{AreUsed, in_module}
use Rattle.verilog_unique.proofs.Constants.{Within, in_item, parameter_if_constant}
use Rattle.verilog_exists.specs.Exists.{IsShapely, RangesHaveValues, RangesExist}
use Rattle.verilog_exists.specs.Loops.{IsAcceptedButForLoops}
use Rattle.verilog_exists.proofs.Rules.{Good, good_left, good_right, HasEntry, AllDeclared, entry_declared, Grows, own_known, range_known}
use Rattle.verilog_exists.proofs.Parameters.{used_front, parameters_grow, parameters_append, still, AreValues, object_declared, After, IsGoodDeclaration, walk_header, walk_items}

-- ---- rules on the items of a module

good_item : (source : Source) (s : Scope) (items : List Item) (i : Item) → IsAmong items i → Good (broken_module_items source s items)
    → Good (broken_module_item source s i)
good_item source s [] i h g = absurd h
good_item source s (x ∷ items) i (inl e) g =
    subst (λ (y : Item). Good (broken_module_item source s y)) e (good_left (broken_module_item source s x) (broken_module_items source s items) g)
good_item source s (x ∷ items) i (inr h) g =
    good_item source s items i h (good_right (broken_module_item source s x) (broken_module_items source s items) g)

body_item : (items : List Item) (d : ParameterDeclaration) → IsAmong (body_parameters items) d → IsAmong items (parameter d)
body_item [] d h = absurd h
body_item (port x ∷ items) d h = inr (body_item items d h)
body_item (parameter x ∷ items) d (inl e) = inl (ap parameter e)
body_item (parameter x ∷ items) d (inr h) = inr (body_item items d h)
body_item (wires signed r ws ∷ items) d h = inr (body_item items d h)
body_item (variables signed r vs ∷ items) d h = inr (body_item items d h)
body_item (assign ts ∷ items) d h = inr (body_item items d h)
body_item (always es x ∷ items) d h = inr (body_item items d h)
body_item (instances m given is ∷ items) d h = inr (body_item items d h)

good_header : (s : Scope) (ds : List ParameterDeclaration) (d : ParameterDeclaration) → IsAmong ds d → Good (broken_header s ds) → Good (broken_parameters s d)
good_header s [] d h g = absurd h
good_header s (x ∷ ds) d (inl e) g = subst (λ y. Good (broken_parameters s y)) e (good_left (broken_parameters s x) (broken_header s ds) g)
good_header s (x ∷ ds) d (inr h) g = good_header s ds d h (good_right (broken_parameters s x) (broken_header s ds) g)

header_names : (ds : List ParameterDeclaration) (d : ParameterDeclaration) → IsAmong ds d → Within (names_in_range d.range ++ names_in_values d.values) (names_in_parameters ds)
header_names [] d h n k = absurd h
header_names (x ∷ ds) d (inl e) n k =
    among_left (names_in_range x.range ++ names_in_values x.values) (names_in_parameters ds) n
    (subst (λ (y : ParameterDeclaration). IsAmong (names_in_range y.range ++ names_in_values y.values) n) (sym e) k)
header_names (x ∷ ds) d (inr h) n k =
    among_right (names_in_range x.range ++ names_in_values x.values) (names_in_parameters ds) n (header_names ds d h n k)

parameters_named : (ds es : List ParameterDeclaration) (n : Name) → IsAmong (parameter_names (ds ++ es)) n
    → IsAmong (parameter_names ds) n ⊎ IsAmong (parameter_names es) n
parameters_named [] es n h = inr h
parameters_named (d ∷ ds) es n h =
    elim (among_either (value_names d.values) (parameter_names (ds ++ es)) n h) as (λ _. IsAmong (parameter_names (d ∷ ds)) n ⊎ IsAmong (parameter_names es) n) [
      | inl k ↦ inl (among_left (value_names d.values) (parameter_names ds) n k)
      | inr k ↦ elim (parameters_named ds es n k) as (λ _. IsAmong (parameter_names (d ∷ ds)) n ⊎ IsAmong (parameter_names es) n) [
        | inl g ↦ inl (among_right (value_names d.values) (parameter_names ds) n g)
        | inr g ↦ inr g
      ]
    ]

-- ---- one module

-- each parameter of the module has a value
pub record HasValues (m : Module) (es : Entries Object) : Type 0 where
  pub entries : (n : Name) → IsAmong (parameter_names (all_parameters m)) n → HasEntry es n
  pub declared : AllDeclared es

module _ (source : Source) (m : Module) where
  rules_of : Scope → Broken
  rules_of s =
      also (also (broken_header s m.parameters) (broken_ports s (header_ports m.ports))) (also (broken_declarations s m (declarations m)) (broken_module_items source s m.items))

  good_items : (s : Scope) → Good (rules_of s) → Good (broken_module_items source s m.items)
  unfolding rules_of
  good_items s g =
      good_right (broken_declarations s m (declarations m)) (broken_module_items source s m.items)
      (good_right (also (broken_header s m.parameters) (broken_ports s (header_ports m.ports)))
      (also (broken_declarations s m (declarations m)) (broken_module_items source s m.items)) g)

  good_head : (s : Scope) → Good (rules_of s) → Good (also (broken_header s m.parameters) (broken_ports s (header_ports m.ports)))
  unfolding rules_of
  good_head s g =
      good_left (also (broken_header s m.parameters) (broken_ports s (header_ports m.ports)))
      (also (broken_declarations s m (declarations m)) (broken_module_items source s m.items)) g

  in_items : Within (constant_names_in_module_items source m.items) (constant_names_in_module source m)
  in_items n h =
      among_right (names_in_parameters m.parameters ++ names_in_ports (header_ports m.ports)) (constant_names_in_module_items source m.items) n h

  module_has : (given : KnownOverrides) → AreValues given → has_net_as_constant source m ≡ false → has_undeclared source m ≡ false
      → Good (rules_of (known_module_scope m (known_constants m given))) → HasValues m (known_constants m given)
  module_has given are constant undeclared_free good =
      record {
        entries = λ n h. elim (parameters_named m.parameters (body_parameters m.items) n h) as (λ _. HasEntry all n) [
          | inl k ↦ subst (λ es. HasEntry es n) (sym whole) (still one (with_known_parameters (body_parameters m.items) given one)
              (parameters_grow (body_parameters m.items) given one) n (header.entries n k))
          | inr k ↦ subst (λ es. HasEntry es n) (sym whole) (body.entries n k)
        ];
        declared = subst AllDeclared (sym whole) body.reached.declared;
      }
    where
      all : Entries Object
      all = known_constants m given

      s : Scope
      s = known_module_scope m all

      one : Entries Object
      one = with_known_parameters m.parameters given []

      whole : all ≡ with_known_parameters (body_parameters m.items) given one
      whole = parameters_append m.parameters (body_parameters m.items) given []

      spoken : uses_unknown m [] (all_parameter_mentions m.parameters ++ (uses (names_in_ports (header_ports m.ports)) ++ all_item_mentions m.items)) ≡ false
      spoken =
          subst (λ l. uses_unknown m [] l ≡ false) (append_assoc (all_parameter_mentions m.parameters) (uses (names_in_ports (header_ports m.ports))) (all_item_mentions m.items))
          (first_false (uses_unknown m [] (mentions m)) (instantiates_unknown source m.items) undeclared_free)

      grows_all : Grows all all
      grows_all n t = refl

      good_in_header : (d : ParameterDeclaration) → IsAmong m.parameters d → IsGoodDeclaration source m given are all constant d
      good_in_header d h =
          record {
            rules = good_header s m.parameters d h (good_left (broken_header s m.parameters) (broken_ports s (header_ports m.ports)) (good_head s good));
            in_range = λ n k. place n (among_left (names_in_range d.range) (names_in_values d.values) n k);
            in_values = λ n k. place n (among_right (names_in_range d.range) (names_in_values d.values) n k);
          }
        where
          place : Within (names_in_range d.range ++ names_in_values d.values) (constant_names_in_module source m)
          place n k =
              among_left (names_in_parameters m.parameters ++ names_in_ports (header_ports m.ports)) (constant_names_in_module_items source m.items) n
              (among_left (names_in_parameters m.parameters) (names_in_ports (header_ports m.ports)) n (header_names m.parameters d h n k))

      good_in_body : (d : ParameterDeclaration) → IsAmong (body_parameters m.items) d → IsGoodDeclaration source m given are all constant d
      good_in_body d h =
          record {
            rules = good_item source s m.items (parameter d) (body_item m.items d h) (good_items s good);
            in_range = λ n k. place n (among_left (names_in_range d.range) (names_in_values d.values) n k);
            in_values = λ n k. place n (among_right (names_in_range d.range) (names_in_values d.values) n k);
          }
        where
          place : Within (names_in_range d.range ++ names_in_values d.values) (constant_names_in_module source m)
          place n k = in_items n (in_item source m.items (parameter d) (body_item m.items d h) n k)

      header : After source m given are all constant (parameter_names m.parameters) (uses (names_in_ports (header_ports m.ports)) ++ all_item_mentions m.items) one
      header =
          walk_header source m given are all constant m.parameters (body_parameters m.items) [] []
          (uses (names_in_ports (header_ports m.ports)) ++ all_item_mentions m.items)
          (record { has = λ n t. absurd (false≢true t); declared = tt }) spoken grows_all good_in_header

      body : After source m given are all constant (parameter_names (body_parameters m.items)) [] (with_known_parameters (body_parameters m.items) given one)
      body =
          walk_items source m given are all constant m.items header.before one header.reached
          (used_front m header.before (names_in_ports (header_ports m.ports)) (all_item_mentions m.items) header.mentions_rest).1
          (subst (λ es. Grows es all) whole grows_all) good_in_body

-- ---- what overrides parameters

-- all expressions that are given are so
abbrev AllNamed : (Expression → Type 0) → List (Name × Option Expression) → Type 0
AllNamed P [] = Unit {0}
AllNamed P ((n, None) ∷ cs) = AllNamed P cs
AllNamed P ((n, Some e) ∷ cs) = P e × AllNamed P cs

abbrev AllOrdered : (Expression → Type 0) → List (Option Expression) → Type 0
AllOrdered P [] = Unit {0}
AllOrdered P (None ∷ es) = AllOrdered P es
AllOrdered P (Some e ∷ es) = P e × AllOrdered P es

abbrev AllGiven : (Expression → Type 0) → Connections → Type 0
AllGiven P (by_name cs) = AllNamed P cs
AllGiven P (by_order es) = AllOrdered P es

named_so : (P : Expression → Type 0) (cs : List (Name × Option Expression)) (n : Name) (e : Expression) → AllNamed P cs → joined_option (entry_of cs n) ≡ Some e → P e
named_so P [] n e h f = cc
named_so P ((k, None) ∷ cs) n e h f = chosen (same_name k n) (named_so P cs n e h) f
  where
    chosen : (b : Bool) → (joined_option (entry_of cs n) ≡ Some e → P e) → joined_option (cond b (Some None) (entry_of cs n)) ≡ Some e → P e
    chosen true g i = cc
    chosen false g i = g i
named_so P ((k, Some x) ∷ cs) n e h f = chosen (same_name k n) (named_so P cs n e h.1) f
  where
    chosen : (b : Bool) → (joined_option (entry_of cs n) ≡ Some e → P e) → joined_option (cond b (Some (Some x)) (entry_of cs n)) ≡ Some e → P e
    chosen true g i = let same : x ≡ e = cc in subst P same h.0
    chosen false g i = g i

ordered_so : (P : Expression → Type 0) (es : List (Option Expression)) (ns : List Name) (n : Name) (e : Expression) → AllOrdered P es → in_order es ns n ≡ Some e → P e
ordered_so P [] ns n e h f = cc
ordered_so P (None ∷ es) [] n e h f = cc
ordered_so P (None ∷ es) (k ∷ ns) n e h f = chosen (same_name k n) (ordered_so P es ns n e h) f
  where
    chosen : (b : Bool) → (in_order es ns n ≡ Some e → P e) → cond b None (in_order es ns n) ≡ Some e → P e
    chosen true g i = cc
    chosen false g i = g i
ordered_so P (Some x ∷ es) [] n e h f = cc
ordered_so P (Some x ∷ es) (k ∷ ns) n e h f = chosen (same_name k n) (ordered_so P es ns n e h.1) f
  where
    chosen : (b : Bool) → (in_order es ns n ≡ Some e → P e) → cond b (Some x) (in_order es ns n) ≡ Some e → P e
    chosen true g i = let same : x ≡ e = cc in subst P same h.0
    chosen false g i = g i

given_so : (P : Expression → Type 0) (cs : Connections) (ns : List Name) (n : Name) (e : Expression) → AllGiven P cs → connected cs ns n ≡ Some e → P e
given_so P (by_name cs) ns n e h f = named_so P cs n e h f
given_so P (by_order es) ns n e h f = ordered_so P es ns n e h f

-- the rules on a value that is given, and where its names stand
abbrev IsGoodGiven : Scope → List Name → Expression → Type 0
IsGoodGiven s ns e = Good (broken_constant s e) × Within (names_in e) ns

good_named : (s : Scope) (ns : List Name) (cs : List (Name × Option Expression)) → Within (names_in_named cs) ns → Good (broken_named_values s cs)
    → AllNamed (IsGoodGiven s ns) cs
good_named s ns [] f g = tt
good_named s ns ((k, None) ∷ cs) f g = good_named s ns cs f g
good_named s ns ((k, Some e) ∷ cs) f g = (
  (good_left (broken_constant s e) (broken_named_values s cs) g, λ n h. f n (among_left (names_in e) (names_in_named cs) n h)),
  good_named s ns cs (λ n h. f n (among_right (names_in e) (names_in_named cs) n h)) (good_right (broken_constant s e) (broken_named_values s cs) g),
)

good_ordered : (s : Scope) (ns : List Name) (es : List (Option Expression)) → Within (names_in_ordered es) ns → Good (broken_ordered_values s es)
    → AllOrdered (IsGoodGiven s ns) es
good_ordered s ns [] f g = tt
good_ordered s ns (None ∷ es) f g = good_ordered s ns es f g
good_ordered s ns (Some e ∷ es) f g = (
  (good_left (broken_constant s e) (broken_ordered_values s es) g, λ n h. f n (among_left (names_in e) (names_in_ordered es) n h)),
  good_ordered s ns es (λ n h. f n (among_right (names_in e) (names_in_ordered es) n h)) (good_right (broken_constant s e) (broken_ordered_values s es) g),
)

good_given : (s : Scope) (ns : List Name) (cs : Connections) → Within (names_in_connections cs) ns → Good (broken_overrides s cs) → AllGiven (IsGoodGiven s ns) cs
good_given s ns (by_name cs) f g = good_named s ns cs f g
good_given s ns (by_order es) f g = good_ordered s ns es f g

-- the item in which an instance stands, with what it gives to parameters
record InstanceItem (items : List Item) (i : Instance) : Type 0 where
  each : List (Name × Connections)
  is_item : IsAmong items (instances i.of_module i.parameters each)

among_item : (m : Name) (given : Connections) (is : List (Name × Connections)) (u : Name) (i : Instance) → instance_among m given is u ≡ Some i
    → (i.of_module ≡ m) × (i.parameters ≡ given)
among_item m given [] u i e = cc
among_item m given (x ∷ is) u i e = chosen (same_name x.0 u) (among_item m given is u i) e
  where
    chosen : (b : Bool) → (instance_among m given is u ≡ Some i → (i.of_module ≡ m) × (i.parameters ≡ given))
        → cond b (Some (record { of_module = m; parameters = given; connections = x.1 })) (instance_among m given is u) ≡ Some i
        → (i.of_module ≡ m) × (i.parameters ≡ given)
    chosen true f h =
        let same : record { of_module = m; parameters = given; connections = x.1 } ≡ i = cc in
        (ap (λ (j : Instance). j.of_module) (sym same), ap (λ (j : Instance). j.parameters) (sym same))
    chosen false f h = f h

item_after : (x : Item) (items : List Item) (i : Instance) → InstanceItem items i → InstanceItem (x ∷ items) i
item_after x items i h = record { each = h.each; is_item = inr h.is_item }

instance_item : (items : List Item) (u : Name) (i : Instance) → instance_named items u ≡ Some i → InstanceItem items i
instance_item [] u i e = cc
instance_item (port d ∷ items) u i e = item_after (port d) items i (instance_item items u i e)
instance_item (parameter d ∷ items) u i e = item_after (parameter d) items i (instance_item items u i e)
instance_item (wires signed r ws ∷ items) u i e = item_after (wires signed r ws) items i (instance_item items u i e)
instance_item (variables signed r vs ∷ items) u i e = item_after (variables signed r vs) items i (instance_item items u i e)
instance_item (assign ts ∷ items) u i e = item_after (assign ts) items i (instance_item items u i e)
instance_item (always es x ∷ items) u i e = item_after (always es x) items i (instance_item items u i e)
instance_item (instances m given is ∷ items) u i e = found (instance_among m given is u) (among_item m given is u) (instance_item items u i) e
  where
    found : (x : Option Instance) → ((j : Instance) → x ≡ Some j → (j.of_module ≡ m) × (j.parameters ≡ given)) → (instance_named items u ≡ Some i → InstanceItem items i)
        → first_of x (instance_named items u) ≡ Some i → InstanceItem (instances m given is ∷ items) i
    found None f g h = item_after (instances m given is) items i (g h)
    found (Some j) f g h =
        let r = f i h in
        record { each = is; is_item = inl (ap (λ k. instances k given is) (sym r.0) ∙ ap (λ k. instances i.of_module k is) (sym r.1)) }

reached_named : (items : List Item) (u : PathStep) (i : Instance) → instance_reached items u ≡ Some i → instance_named items u.of_name ≡ Some i
reached_named items u i e = plain (is_some u.index) e
  where
    plain : (b : Bool) → cond b None (instance_named items u.of_name) ≡ Some i → instance_named items u.of_name ≡ Some i
    plain true h = cc
    plain false h = h

-- ---- names that are used

known_if_used : (m : Module) (before : List Name) (n : Name) → may_be_used m before n ≡ true → IsKnownIn m n
known_if_used m before n e = chosen (is_among (parameter_names (all_parameters m)) n) (λ t. t) e
  where
    chosen : (b : Bool) → (IsTrue b → IsTrue (is_among (parameter_names (all_parameters m)) n))
        → cond b (is_among before n) (is_declared_among (declarations m) n) ≡ true → IsKnownIn m n
    chosen true f h = inr (f refl)
    chosen false f h = inl h

mention_known : (m : Module) (before : List Name) (ms : List Mention) (n : Name) → uses_unknown m before ms ≡ false → IsAmong ms (used n) → IsKnownIn m n
mention_known m before [] n e h = absurd h
mention_known m before (used k ∷ rest) n e (inl same) =
    let k_is_n : k ≡ n = cc in
    subst (IsKnownIn m) k_is_n
    (known_if_used m before k (not_is_false (may_be_used m before k) (first_false (not (may_be_used m before k)) (uses_unknown m before rest) e)))
mention_known m before (used k ∷ rest) n e (inr h) =
    mention_known m before rest n (second_false (not (may_be_used m before k)) (uses_unknown m before rest) e) h
mention_known m before (declares k ∷ rest) n e (inl same) = cc
mention_known m before (declares k ∷ rest) n e (inr h) = mention_known m (k ∷ before) rest n e h

used_known : (m : Module) (n : Name) → uses_unknown m [] (mentions m) ≡ false → IsAmong (mentions m) (used n) → IsKnownIn m n
used_known m n e h = mention_known m [] (mentions m) n e h

use_among : (ns : List Name) (n : Name) → IsAmong ns n → IsAmong (uses ns) (used n)
use_among [] n h = absurd h
use_among (m ∷ ns) n (inl e) = inl (ap used e)
use_among (m ∷ ns) n (inr h) = inr (use_among ns n h)

item_mentioned : (items : List Item) (i : Item) (n : Name) → IsAmong items i → IsAmong (item_mentions i) (used n) → IsAmong (all_item_mentions items) (used n)
item_mentioned [] i n h k = absurd h
item_mentioned (x ∷ items) i n (inl e) k =
    among_left (item_mentions x) (all_item_mentions items) (used n) (subst (λ (y : Item). IsAmong (item_mentions y) (used n)) (sym e) k)
item_mentioned (x ∷ items) i n (inr h) k = among_right (item_mentions x) (all_item_mentions items) (used n) (item_mentioned items i n h k)

given_used : (items : List Item) (m : Name) (given : Connections) (is : List (Name × Connections)) → IsAmong items (instances m given is)
    → AreUsed (all_item_mentions items) (names_in_connections given)
given_used items m given is h n k =
    item_mentioned items (instances m given is) n h
    (use_among (names_in_connections given ++ names_in_instances is) n (among_left (names_in_connections given) (names_in_instances is) n k))

test_among : (ns : List Name) (n : Name) → IsTrue (is_among ns n) → IsAmong ns n
test_among [] n t = absurd (false≢true t)
test_among (m ∷ ns) n t = chosen (same_name m n) (λ e. same_is m n e) (test_among ns n) t
  where
    chosen : (b : Bool) → (b ≡ true → m ≡ n) → (IsTrue (is_among ns n) → IsAmong ns n) → IsTrue (b || is_among ns n) → IsAmong (m ∷ ns) n
    chosen true f g h = inl (f refl)
    chosen false f g h = inr (g h)

-- ---- all modules of an accepted design

module _ (d : Design) (accepted : IsAcceptedButForLoops d) (shapely : IsShapely d) where
  good_module : (path : List PathStep) (q : Placed) → known_at d.source d.top path ≡ Some q → Good (broken_module d.source q)
  good_module path q e =
      record {
        digits = not_true (broken_module d.source q).has_xz (λ t. accepted has_xz (λ e. cc) (record { path = path; place = q; is_placed = e; is_so = t }));
        constants = not_true (broken_module d.source q).bad_constant (λ t. accepted bad_constant (λ e. cc) (record { path = path; place = q; is_placed = e; is_so = t }));
        widths = not_true (broken_module d.source q).width_over_128 (λ t. accepted width_over_128 (λ e. cc) (record { path = path; place = q; is_placed = e; is_so = t }));
        selects = not_true (broken_module d.source q).bad_select (λ t. accepted bad_select (λ e. cc) (record { path = path; place = q; is_placed = e; is_so = t }));
        memories = not_true (broken_module d.source q).memory_use (λ t. accepted memory_use (λ e. cc) (record { path = path; place = q; is_placed = e; is_so = t }));
        shape = shapely path q e;
      }

  good_rules : (path : List PathStep) (q : Placed) → known_at d.source d.top path ≡ Some q → Good (rules_of d.source q.of_module (known_scope q))
  unfolding rules_of
  good_rules path q e = good_right (constant_if (has_net_as_constant d.source q.of_module)) _ (good_module path q e)

  no_net : (path : List PathStep) (q : Placed) → known_at d.source d.top path ≡ Some q → has_net_as_constant d.source q.of_module ≡ false
  no_net path q e =
      first_false (has_net_as_constant d.source q.of_module) _ (good_module path q e).constants

  stands : (path : List PathStep) (q : Placed) → known_at d.source d.top path ≡ Some q → StandsIn d q.of_module
  stands [] q e =
      let f = from_map (λ m. record { path = []; of_module = m; constants = known_constants m (λ n. None) }) (module_named d.source d.top) q e in
      at_top q.of_module (f.1 ∙ ap Some (ap (λ (x : Placed). x.of_module) f.2))
  stands (u ∷ around) q e =
      let one = from_chain (known_below d.source u) (known_at d.source d.top around) q e in
      let two = from_chain (known_instance d.source (u ∷ one.0.path) (known_scope one.0)) (instance_reached one.0.of_module.items u) q one.2 in
      let f = from_map (λ m. record { path = u ∷ one.0.path; of_module = m; constants = known_constants m (known_overrides (known_scope one.0) two.0.parameters m) })
      (module_named d.source two.0.of_module) q two.2 in
      let i : InstanceItem one.0.of_module.items two.0 =
      instance_item one.0.of_module.items u.of_name two.0 (reached_named one.0.of_module.items u two.0 two.1) in
      below one.0.of_module q.of_module two.0.of_module two.0.parameters i.each (stands around one.0 one.1)
      (contains_among one.0.of_module.items (instances two.0.of_module two.0.parameters i.each) i.is_item)
      (f.1 ∙ ap Some (ap (λ (x : Placed). x.of_module) f.2))

  nothing_undeclared : (path : List PathStep) (q : Placed) → known_at d.source d.top path ≡ Some q → has_undeclared d.source q.of_module ≡ false
  nothing_undeclared path q e =
      not_true (has_undeclared d.source q.of_module)
      (λ t. accepted undeclared (λ e. cc) (record { within = q.of_module; stands = stands path q e; names_unknown = t }))

  -- what an instance gives to parameters has values
  overrides_are : (path : List PathStep) (q : Placed) → known_at d.source d.top path ≡ Some q → HasValues q.of_module q.constants
      → (i : Instance) → InstanceItem q.of_module.items i → (m : Module) → AreValues (known_overrides (known_scope q) i.parameters m)
  overrides_are path q e has i item m =
      record { some = λ n x f. found (connected i.parameters (overridable (all_parameters m)) n) (λ y g. value y (given_so (IsGoodGiven (known_scope q) (names_in_connections i.parameters)) i.parameters (overridable (all_parameters m)) n y given g)) x f }
    where
      s : Scope
      s = known_scope q

      rules : Good (also (broken_overrides s i.parameters) (broken_instances s (module_named d.source i.of_module) item.each))
      rules = good_item d.source s q.of_module.items (instances i.of_module i.parameters item.each) item.is_item (good_items d.source q.of_module s (good_rules path q e))

      given : AllGiven (IsGoodGiven s (names_in_connections i.parameters)) i.parameters
      given =
          good_given s (names_in_connections i.parameters) i.parameters (λ n h. h)
          (good_left (broken_overrides s i.parameters) (broken_instances s (module_named d.source i.of_module) item.each) rules)

      named : (n : Name) → IsAmong (names_in_connections i.parameters) n → HasEntry q.constants n
      named n h =
          has.entries n
          (test_among (parameter_names (all_parameters q.of_module)) n
          (parameter_if_constant d.source q.of_module n (no_net path q e)
          (in_items d.source q.of_module n
          (in_item d.source q.of_module.items (instances i.of_module i.parameters item.each) item.is_item n
          (among_left (names_in_connections i.parameters) (constant_names_in_instances (module_named d.source i.of_module) item.each) n h)))
          (known_name n h)))
        where
          known_name : (k : Name) → IsAmong (names_in_connections i.parameters) k → IsKnownIn q.of_module k
          known_name k g =
              used_known q.of_module k
              (first_false (uses_unknown q.of_module [] (mentions q.of_module)) (instantiates_unknown d.source q.of_module.items) (nothing_undeclared path q e))
              (in_module q.of_module (names_in_connections i.parameters) (given_used q.of_module.items i.of_module i.parameters item.each item.is_item) k g)

      value : (y : Expression) → IsGoodGiven s (names_in_connections i.parameters) y → (o : Object) × (known_parameter s false None y ≡ Some o) × IsTrue (o.is_declared)
      value y g = (
        parameter_object s false None y,
        own_known q.of_module q.constants has.declared y (λ n h. named n (g.1 n h)) g.0,
        object_declared s false None y,
      )

      found : (z : Option Expression) → ((y : Expression) → z ≡ Some y → (o : Object) × (known_parameter s false None y ≡ Some o) × IsTrue (o.is_declared))
          → (x : Option Object) → option_map (λ y. known_parameter s false None y) z ≡ Some x → (o : Object) × (x ≡ Some o) × IsTrue (o.is_declared)
      found None f x g = cc
      found (Some y) f x g =
          let r = f y refl in
          let same : known_parameter s false None y ≡ x = cc in
          (r.0, sym same ∙ r.1, r.2)

  pub has_values : (path : List PathStep) (q : Placed) → known_at d.source d.top path ≡ Some q → HasValues q.of_module q.constants
  has_values [] q e =
      let f = from_map (λ m. record { path = []; of_module = m; constants = known_constants m (λ n. None) }) (module_named d.source d.top) q e in
      let same : q.constants ≡ known_constants q.of_module (λ n. None) =
      subst (λ (x : Placed). x.constants ≡ known_constants x.of_module (λ n. None)) f.2 refl in
      subst (HasValues q.of_module) (sym same)
      (module_has d.source q.of_module (λ n. None) (record { some = λ n x g. cc }) (no_net [] q e) (nothing_undeclared [] q e)
      (subst (λ es. Good (rules_of d.source q.of_module (known_module_scope q.of_module es))) same (good_rules [] q e)))
  has_values (u ∷ around) q e =
      let one = from_chain (known_below d.source u) (known_at d.source d.top around) q e in
      let two = from_chain (known_instance d.source (u ∷ one.0.path) (known_scope one.0)) (instance_reached one.0.of_module.items u) q one.2 in
      let f = from_map (λ m. record { path = u ∷ one.0.path; of_module = m; constants = known_constants m (known_overrides (known_scope one.0) two.0.parameters m) })
      (module_named d.source two.0.of_module) q two.2 in
      let i : InstanceItem one.0.of_module.items two.0 =
      instance_item one.0.of_module.items u.of_name two.0 (reached_named one.0.of_module.items u two.0 two.1) in
      let given : KnownOverrides = known_overrides (known_scope one.0) two.0.parameters q.of_module in
      let same : q.constants ≡ known_constants q.of_module given =
      subst (λ (x : Placed). x.constants ≡ known_constants x.of_module (known_overrides (known_scope one.0) two.0.parameters x.of_module)) f.2 refl in
      subst (HasValues q.of_module) (sym same)
      (module_has d.source q.of_module given (overrides_are around one.0 one.1 (has_values around one.0 one.1) two.0 i q.of_module)
      (no_net (u ∷ around) q e) (nothing_undeclared (u ∷ around) q e)
      (subst (λ es. Good (rules_of d.source q.of_module (known_module_scope q.of_module es))) same (good_rules (u ∷ around) q e)))

-- ---- ranges

-- of what is declared something is said
declared_something : (ds : List Declaration) (n : Name) → IsTrue (is_declared_among ds n) → IsTrue (is_some (declaration_of ds n))
declared_something [] n t = absurd (false≢true t)
declared_something (d ∷ ds) n t = chosen (same_name d.of_name n) (declared_something ds n) t
  where
    chosen : (b : Bool) → (IsTrue (is_declared_among ds n) → IsTrue (is_some (declaration_of ds n))) → IsTrue (b || is_declared_among ds n)
        → IsTrue (is_some (cond b (Some (and_later d (declaration_of ds n))) (declaration_of ds n)))
    chosen true f h = refl
    chosen false f h = f h

-- a range has a value, where there is one
abbrev IsRanged : Scope → Option Range → Type 0
IsRanged s None = Unit {0}
IsRanged s (Some r) = IsTrue (is_some (known_range s r))

abbrev AreRanged : Scope → List Declaration → Type 0
AreRanged s [] = Unit {0}
AreRanged s (d ∷ ds) = IsRanged s d.range × AreRanged s ds

ranged_append : (s : Scope) (ds es : List Declaration) → AreRanged s ds → AreRanged s es → AreRanged s (ds ++ es)
ranged_append s [] es h g = g
ranged_append s (d ∷ ds) es h g = (h.0, ranged_append s ds es h.1 g)

ranged_names : (s : Scope) (d : PortDeclaration) (ns : List Name) → IsRanged s d.range → AreRanged s (each_port d ns)
ranged_names s d [] h = tt
ranged_names s d (n ∷ ns) h = (h, ranged_names s d ns h)

ranged_wires : (s : Scope) (signed : Bool) (r : Option Range) (ws : List (Name × Option Expression)) → IsRanged s r → AreRanged s (wire_declarations signed r ws)
ranged_wires s signed r [] h = tt
ranged_wires s signed r (w ∷ ws) h = (h, ranged_wires s signed r ws h)

ranged_variables : (s : Scope) (signed : Bool) (r : Option Range) (vs : List (Name × Option Range)) → IsRanged s r → AreRanged s (variable_declarations signed r vs)
ranged_variables s signed r [] h = tt
ranged_variables s signed r (v ∷ vs) h = (h, ranged_variables s signed r vs h)

-- what is declared of a name is ranged
ranged_both : (s : Scope) (x y : Option Range) → IsRanged s x → IsRanged s y → IsRanged s (first_of x y)
ranged_both s None y h g = g
ranged_both s (Some r) y h g = h

declaration_ranged : (s : Scope) (ds : List Declaration) (n : Name) (dd : Declaration) → AreRanged s ds → declaration_of ds n ≡ Some dd → IsRanged s dd.range
declaration_ranged s [] n dd h e = cc
declaration_ranged s (d ∷ ds) n dd h e =
    chosen (same_name d.of_name n) (declaration_of ds n) (λ x f. declaration_ranged s ds n x h.1 f) e
  where
    chosen : (b : Bool) (rest : Option Declaration) → ((x : Declaration) → rest ≡ Some x → IsRanged s x.range) → cond b (Some (and_later d rest)) rest ≡ Some dd
        → IsRanged s dd.range
    chosen true None f g = let same : d ≡ dd = cc in subst (λ (x : Declaration). IsRanged s x.range) same h.0
    chosen true (Some y) f g =
        let same : both_declarations d y ≡ dd = some_same g in
        subst (λ (x : Declaration). IsRanged s x.range) same (ranged_both s d.range y.range h.0 (f y refl))
      where
        some_same : {A : Type 0} {a b : A} → Some a ≡ Some b → a ≡ b
        some_same i = cc
    chosen false rest f g = f dd g

module _ (source : Source) (m : Module) (all : Entries Object) (has : HasValues m all) (no_net_there : has_net_as_constant source m ≡ false)
    (spoken : uses_unknown m [] (mentions m) ≡ false) (good : Good (rules_of source m (known_module_scope m all))) where
  range_ok : (r : Option Range) → Within (names_in_range r) (constant_names_in_module source m) → AreUsed (mentions m) (names_in_range r)
      → Good (broken_range (known_module_scope m all) r) → IsRanged (scope_of all) r
  range_ok None f g h = tt
  range_ok (Some r) f g h =
      range_known m all all has.declared (λ n t. refl) r
      (λ n k. has.entries n
      (test_among (parameter_names (all_parameters m)) n (parameter_if_constant source m n no_net_there (f n k) (used_known m n spoken (g n k))))) h

  item_range : (i : Item) (r : Option Range) → IsAmong m.items i → Within (names_in_range r) (constant_names_in_item source i)
      → ((n : Name) → IsAmong (names_in_range r) n → IsAmong (item_mentions i) (used n)) → Good (broken_range (known_module_scope m all) r)
      → IsRanged (scope_of all) r
  item_range i r h f g k =
      range_ok r (λ n x. in_items source m n (in_item source m.items i h n (f n x)))
      (λ n x. in_module m (names_in_range r) (λ z y. item_mentioned m.items i z h (g z y)) n x) k

  ranged_ports : (ds : List PortDeclaration) → Good (broken_ports (known_module_scope m all) ds)
      → ((n : Name) → IsAmong (names_in_ports ds) n → IsAmong (names_in_ports (header_ports m.ports)) n) → AreRanged (scope_of all) (port_declarations ds)
  ranged_ports [] g f = tt
  ranged_ports (d ∷ ds) g f =
      ranged_append (scope_of all) (each_port d d.names) (port_declarations ds)
      (ranged_names (scope_of all) d d.names
      (range_ok d.range (λ n h. place n (f n (among_left (names_in_range d.range) (names_in_ports ds) n h)))
      (λ n h. mention n (f n (among_left (names_in_range d.range) (names_in_ports ds) n h)))
      (good_left (broken_range (known_module_scope m all) d.range) (broken_ports (known_module_scope m all) ds) g)))
      (ranged_ports ds (good_right (broken_range (known_module_scope m all) d.range) (broken_ports (known_module_scope m all) ds) g)
      (λ n h. f n (among_right (names_in_range d.range) (names_in_ports ds) n h)))
    where
      place : (n : Name) → IsAmong (names_in_ports (header_ports m.ports)) n → IsAmong (constant_names_in_module source m) n
      place n h =
          among_left (names_in_parameters m.parameters ++ names_in_ports (header_ports m.ports)) (constant_names_in_module_items source m.items) n
          (among_right (names_in_parameters m.parameters) (names_in_ports (header_ports m.ports)) n h)

      mention : (n : Name) → IsAmong (names_in_ports (header_ports m.ports)) n → IsAmong (mentions m) (used n)
      mention n h =
          among_left (all_parameter_mentions m.parameters ++ uses (names_in_ports (header_ports m.ports))) (all_item_mentions m.items) (used n)
          (among_right (all_parameter_mentions m.parameters) (uses (names_in_ports (header_ports m.ports))) (used n)
          (use_among (names_in_ports (header_ports m.ports)) n h))

  item_rules : (i : Item) → IsAmong m.items i → Good (broken_module_item source (known_module_scope m all) i)
  item_rules i h = good_item source (known_module_scope m all) m.items i h (good_items source m (known_module_scope m all) good)

  ranged_items : (items : List Item) → ((i : Item) → IsAmong items i → IsAmong m.items i) → AreRanged (scope_of all) (item_declarations items)
  ranged_items [] f = tt
  ranged_items (port d ∷ items) f =
      ranged_append (scope_of all) (each_port d d.names) (item_declarations items)
      (ranged_names (scope_of all) d d.names
      (item_range (port d) d.range (f (port d) (inl refl)) (λ n h. h) (λ n h. use_among (names_in_range d.range) n h) (item_rules (port d) (f (port d) (inl refl)))))
      (ranged_items items (λ i h. f i (inr h)))
  ranged_items (parameter d ∷ items) f = ranged_items items (λ i h. f i (inr h))
  ranged_items (wires signed r ws ∷ items) f =
      let here : IsAmong m.items (wires signed r ws) = f (wires signed r ws) (inl refl) in
      ranged_append (scope_of all) (wire_declarations signed r ws) (item_declarations items)
      (ranged_wires (scope_of all) signed r ws
      (item_range (wires signed r ws) r here (λ n h. among_left (names_in_range r) (constant_names_in_initial ws) n h)
      (λ n h. use_among (names_in_range r ++ names_in_named ws) n (among_left (names_in_range r) (names_in_named ws) n h))
      (good_left (broken_range (known_module_scope m all) r) (broken_initial_values (known_module_scope m all) ws) (item_rules (wires signed r ws) here))))
      (ranged_items items (λ i h. f i (inr h)))
  ranged_items (variables signed r vs ∷ items) f =
      let here : IsAmong m.items (variables signed r vs) = f (variables signed r vs) (inl refl) in
      ranged_append (scope_of all) (variable_declarations signed r vs) (item_declarations items)
      (ranged_variables (scope_of all) signed r vs
      (item_range (variables signed r vs) r here (λ n h. among_left (names_in_range r) (names_in_addresses vs) n h)
      (λ n h. use_among (names_in_range r ++ names_in_addresses vs) n (among_left (names_in_range r) (names_in_addresses vs) n h))
      (good_left (broken_range (known_module_scope m all) r) (broken_addresses (known_module_scope m all) vs) (item_rules (variables signed r vs) here))))
      (ranged_items items (λ i h. f i (inr h)))
  ranged_items (assign ts ∷ items) f = ranged_items items (λ i h. f i (inr h))
  ranged_items (always es x ∷ items) f = ranged_items items (λ i h. f i (inr h))
  ranged_items (instances k g is ∷ items) f = ranged_items items (λ i h. f i (inr h))

  ranged_module : AreRanged (scope_of all) (declarations m)
  ranged_module =
      ranged_append (scope_of all) (port_declarations (header_ports m.ports)) (item_declarations m.items)
      (ranged_ports (header_ports m.ports)
      (good_right (broken_header (known_module_scope m all) m.parameters) (broken_ports (known_module_scope m all) (header_ports m.ports))
      (good_head source m (known_module_scope m all) good)) (λ n h. h))
      (ranged_items m.items (λ i h. h))

  object_there : (n : Name) → IsTrue (is_declared_among (declarations m) n) → IsTrue ((known_module_scope m all n).is_declared)
  object_there n t = by_entry (entry_of all n) (λ h. entry_declared all n has.declared h)
    where
      s : Scope
      s = scope_of all

      with_addresses : (o : Object) (a : Option Range) → IsTrue (o.is_declared) → IsTrue ((with_known_addresses s a o).is_declared)
      with_addresses o None h = h
      with_addresses o (Some r) h = h

      by_range : (signed : Bool) (r : Option Range) (a : Option Range) → IsRanged s r
          → IsTrue ((object_or_undeclared (option_map (with_known_addresses s a) (known_object s signed r))).is_declared)
      by_range signed None a h = with_addresses _ a refl
      by_range signed (Some r) a h = some (known_range s r) h
        where
          some : (x : Option (ℕ × ℕ)) → IsTrue (is_some x)
              → IsTrue ((object_or_undeclared (option_map (with_known_addresses s a) (option_map (with_range signed) x))).is_declared)
          some None i = absurd (false≢true i)
          some (Some b) i = with_addresses (with_range signed b) a refl

      by_declaration : (y : Option Declaration) → declaration_of (declarations m) n ≡ y → IsTrue (is_some y)
          → IsTrue ((object_or_undeclared (option_and_then (known_declaration s) y)).is_declared)
      by_declaration None e h = absurd (false≢true h)
      by_declaration (Some dd) e h = by_range dd.signed dd.range dd.addresses (declaration_ranged s (declarations m) n dd ranged_module e)

      by_entry : (x : Option Object) → (IsTrue (is_some x) → IsTrue ((object_or_undeclared x).is_declared))
          → IsTrue ((object_or_undeclared (first_of x (option_and_then (known_declaration s) (declaration_of (declarations m) n)))).is_declared)
      by_entry None f = by_declaration (declaration_of (declarations m) n) refl (declared_something (declarations m) n t)
      by_entry (Some o) f = f refl

-- In a design that breaks no rule but perhaps that on loops, and whose tree is that of a text, each range has a value.
pub ranges_known : (d : Design) → IsAcceptedButForLoops d → IsShapely d → RangesHaveValues d
ranges_known d accepted shapely path q n e declared =
    object_there d.source q.of_module q.constants (has_values d accepted shapely path q e) (no_net d accepted shapely path q e)
    (first_false (uses_unknown q.of_module [] (mentions q.of_module)) (instantiates_unknown d.source q.of_module.items) (nothing_undeclared d accepted shapely path q e))
    (good_rules d accepted shapely path q e) n declared

pub ranges_have_values : RangesExist
ranges_have_values d accepted shapely = ranges_known d (λ kind other. accepted kind) shapely
