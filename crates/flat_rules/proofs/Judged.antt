-- A module that breaks none of the rules: its parameters have the values that they have in the design, and each range has a value.
use Rattle.std.proofs.Common.{◌≡◌, Bool, true, false, cond, List, [], ◌∷◌, ◌++◌, ◌⊎◌, inl, inr, refl, sym, ap, ◌∙◌, subst, Option, Some, None, IsTrue}
use Rattle.std.specs.Prelude.{◌||◌}
use Rattle.std.proofs.lemmas.Bool.{false≢true}
use Rattle.std.proofs.lemmas.List.{append_assoc}
use Rattle.wb_values.specs.Value.{Name, same_name, Entries}
use Rattle.wb_values.specs.Choice.{first_of}
use Rattle.verilog_trees.specs.Syntax.{Expression, Range, PortDeclaration, ParameterDeclaration, Item, port, parameter, wires, variables, assign, always, instances, Module, Source}
use Rattle.verilog_meaning.specs.Expression.{Object, Scope, scope_of}
use Rattle.verilog_meaning.specs.Hierarchy.{Declaration, declarations, declaration_of, and_later, both_declarations, all_parameters, body_parameters, value_names, Overrides, with_values, with_parameters, constants_of, module_scope, port_declarations, header_ports, each_port, wire_declarations, variable_declarations, item_declarations, Placed}
use Rattle.verilog_rules.specs.Expression.{also, constant_if}
use Rattle.verilog_designs.specs.Known.{known_module_scope, known_scope, KnownOverrides, with_known_parameters, known_constants}
use Rattle.verilog_designs.specs.Names.{is_among, names_in_range, names_in_named, names_in_parameters, names_in_ports, names_in_values, names_in_addresses, used, uses, all_parameter_mentions, item_mentions, all_item_mentions, mentions, parameter_names, uses_unknown}
use Rattle.verilog_designs.specs.Constants.{constant_names_in_item, constant_names_in_module_items, constant_names_in_module, constant_names_in_initial, has_net_as_constant}
use Rattle.verilog_designs.specs.Expressions.{broken_range, broken_parameters, broken_header, broken_ports, broken_declarations, broken_initial_values, broken_addresses, broken_module_item, broken_module_items, broken_module}
use Rattle.verilog_unique.proofs.Options.{same_is}
use Rattle.verilog_unique.proofs.Descent.{IsAmong, among_left, among_right, among_either}
use Rattle.verilog_unique.proofs.Standing.{IsKnownIn}
use Rattle.verilog_unique.proofs.Mentioned.{AreUsed, in_module}
use Rattle.verilog_unique.proofs.Constants.{Within, in_item, parameter_if_constant}
use Rattle.verilog_exists.proofs.Rules.{Good, good_left, good_right, HasEntry, Grows, range_known}
use Rattle.verilog_exists.proofs.Parameters.{used_front, parameters_grow, parameters_append, still}
use Rattle.flat_rules.proofs.Real.{IsRanged, scope_real, AreParameters}
use Rattle.flat_rules.proofs.Walk.{are_declared, AreGiven, After, IsGoodDeclaration, walk_header, walk_items}

-- ---- rules on the parts of a module

-- the parts of a module break nothing in this scope
pub record AreGoodParts (source : Source) (m : Module) (s : Scope) : Type 0 where
  pub header : Good (broken_header s m.parameters)
  pub ports : Good (broken_ports s (header_ports m.ports))
  pub declared : Good (broken_declarations s m (declarations m))
  pub items : Good (broken_module_items source s m.items)

pub good_parts : (source : Source) (p : Placed) → Good (broken_module source p) → AreGoodParts source p.of_module (known_scope p)
good_parts source p g =
    let s : Scope = known_scope p in
    let m : Module = p.of_module in
    let first = also (broken_header s m.parameters) (broken_ports s (header_ports m.ports)) in
    let last = also (broken_declarations s m (declarations m)) (broken_module_items source s m.items) in
    let h = good_right (constant_if (has_net_as_constant source m)) (also first last) g in
    record {
      header = good_left (broken_header s m.parameters) (broken_ports s (header_ports m.ports)) (good_left first last h);
      ports = good_right (broken_header s m.parameters) (broken_ports s (header_ports m.ports)) (good_left first last h);
      declared = good_left (broken_declarations s m (declarations m)) (broken_module_items source s m.items) (good_right first last h);
      items = good_right (broken_declarations s m (declarations m)) (broken_module_items source s m.items) (good_right first last h);
    }

pub good_item : (source : Source) (s : Scope) (items : List Item) (i : Item) → IsAmong items i → Good (broken_module_items source s items)
    → Good (broken_module_item source s i)
good_item source s [] i h g = absurd h
good_item source s (x ∷ items) i (inl e) g =
    subst (λ (y : Item). Good (broken_module_item source s y)) e (good_left (broken_module_item source s x) (broken_module_items source s items) g)
good_item source s (x ∷ items) i (inr h) g =
    good_item source s items i h (good_right (broken_module_item source s x) (broken_module_items source s items) g)

body_item : (items : List Item) (d : ParameterDeclaration) → IsAmong (body_parameters items) d → IsAmong items (parameter d)
body_item [] d h = absurd h
body_item (port x ∷ items) d h = inr (body_item items d h)
body_item (parameter x ∷ items) d (inl e) = inl (ap parameter e)
body_item (parameter x ∷ items) d (inr h) = inr (body_item items d h)
body_item (wires signed r ws ∷ items) d h = inr (body_item items d h)
body_item (variables signed r vs ∷ items) d h = inr (body_item items d h)
body_item (assign ts ∷ items) d h = inr (body_item items d h)
body_item (always es x ∷ items) d h = inr (body_item items d h)
body_item (instances m given is ∷ items) d h = inr (body_item items d h)

good_header : (s : Scope) (ds : List ParameterDeclaration) (d : ParameterDeclaration) → IsAmong ds d → Good (broken_header s ds) → Good (broken_parameters s d)
good_header s [] d h g = absurd h
good_header s (x ∷ ds) d (inl e) g = subst (λ y. Good (broken_parameters s y)) e (good_left (broken_parameters s x) (broken_header s ds) g)
good_header s (x ∷ ds) d (inr h) g = good_header s ds d h (good_right (broken_parameters s x) (broken_header s ds) g)

header_names : (ds : List ParameterDeclaration) (d : ParameterDeclaration) → IsAmong ds d → Within (names_in_range d.range ++ names_in_values d.values) (names_in_parameters ds)
header_names [] d h n k = absurd h
header_names (x ∷ ds) d (inl e) n k =
    among_left (names_in_range x.range ++ names_in_values x.values) (names_in_parameters ds) n
    (subst (λ (y : ParameterDeclaration). IsAmong (names_in_range y.range ++ names_in_values y.values) n) (sym e) k)
header_names (x ∷ ds) d (inr h) n k =
    among_right (names_in_range x.range ++ names_in_values x.values) (names_in_parameters ds) n (header_names ds d h n k)

parameters_named : (ds es : List ParameterDeclaration) (n : Name) → IsAmong (parameter_names (ds ++ es)) n
    → IsAmong (parameter_names ds) n ⊎ IsAmong (parameter_names es) n
parameters_named [] es n h = inr h
parameters_named (d ∷ ds) es n h =
    elim (among_either (value_names d.values) (parameter_names (ds ++ es)) n h) as (λ _. IsAmong (parameter_names (d ∷ ds)) n ⊎ IsAmong (parameter_names es) n) [
      | inl k ↦ inl (among_left (value_names d.values) (parameter_names ds) n k)
      | inr k ↦ elim (parameters_named ds es n k) as (λ _. IsAmong (parameter_names (d ∷ ds)) n ⊎ IsAmong (parameter_names es) n) [
        | inl g ↦ inl (among_right (value_names d.values) (parameter_names ds) n g)
        | inr g ↦ inr g
      ]
    ]

placed_append : (ds es : List ParameterDeclaration) (real : Overrides) (known : Entries Object)
    → with_parameters (ds ++ es) real known ≡ with_parameters es real (with_parameters ds real known)
placed_append [] es real known = refl
placed_append (d ∷ ds) es real known = placed_append ds es real (with_values d real d.values known)

-- ---- the parameters of a module

-- each parameter of the module has a value
pub record HasParameters (m : Module) (es : Entries Object) : Type 0 where
  pub entries : (n : Name) → IsAmong (parameter_names (all_parameters m)) n → HasEntry es n
  pub parameters : AreParameters es

module _ (source : Source) (m : Module) where
  in_items : Within (constant_names_in_module_items source m.items) (constant_names_in_module source m)
  in_items n h =
      among_right (names_in_parameters m.parameters ++ names_in_ports (header_ports m.ports)) (constant_names_in_module_items source m.items) n h

  pub constants_real : (given : KnownOverrides) (real : Overrides) → AreGiven given real → has_net_as_constant source m ≡ false
      → uses_unknown m [] (mentions m) ≡ false → AreGoodParts source m (known_module_scope m (known_constants m given))
      → (known_constants m given ≡ constants_of m real) × HasParameters m (known_constants m given)
  constants_real given real are constant spoken good = (
    whole ∙ body.same ∙ ap (with_parameters (body_parameters m.items) real) header.same
        ∙ sym (placed_append m.parameters (body_parameters m.items) real []),
    record {
      entries = λ n h. elim (parameters_named m.parameters (body_parameters m.items) n h) as (λ _. HasEntry all n) [
        | inl k ↦ subst (λ es. HasEntry es n) (sym whole) (still one (with_known_parameters (body_parameters m.items) given one)
            (parameters_grow (body_parameters m.items) given one) n (header.entries n k))
        | inr k ↦ subst (λ es. HasEntry es n) (sym whole) (body.entries n k)
      ];
      parameters = subst AreParameters (sym whole) body.reached.parameters;
    },
  )
    where
      all : Entries Object
      all = known_constants m given

      one : Entries Object
      one = with_known_parameters m.parameters given []

      whole : all ≡ with_known_parameters (body_parameters m.items) given one
      whole = parameters_append m.parameters (body_parameters m.items) given []

      mentioned : uses_unknown m [] (all_parameter_mentions m.parameters ++ (uses (names_in_ports (header_ports m.ports)) ++ all_item_mentions m.items)) ≡ false
      mentioned =
          subst (λ l. uses_unknown m [] l ≡ false) (append_assoc (all_parameter_mentions m.parameters) (uses (names_in_ports (header_ports m.ports))) (all_item_mentions m.items))
          spoken

      grows_all : Grows all all
      grows_all n t = refl

      good_in_header : (d : ParameterDeclaration) → IsAmong m.parameters d → IsGoodDeclaration source m given real are all constant d
      good_in_header d h =
          record {
            rules = good_header (known_module_scope m all) m.parameters d h good.header;
            in_range = λ n k. place n (among_left (names_in_range d.range) (names_in_values d.values) n k);
            in_values = λ n k. place n (among_right (names_in_range d.range) (names_in_values d.values) n k);
          }
        where
          place : Within (names_in_range d.range ++ names_in_values d.values) (constant_names_in_module source m)
          place n k =
              among_left (names_in_parameters m.parameters ++ names_in_ports (header_ports m.ports)) (constant_names_in_module_items source m.items) n
              (among_left (names_in_parameters m.parameters) (names_in_ports (header_ports m.ports)) n (header_names m.parameters d h n k))

      good_in_body : (d : ParameterDeclaration) → IsAmong (body_parameters m.items) d → IsGoodDeclaration source m given real are all constant d
      good_in_body d h =
          record {
            rules = good_item source (known_module_scope m all) m.items (parameter d) (body_item m.items d h) good.items;
            in_range = λ n k. place n (among_left (names_in_range d.range) (names_in_values d.values) n k);
            in_values = λ n k. place n (among_right (names_in_range d.range) (names_in_values d.values) n k);
          }
        where
          place : Within (names_in_range d.range ++ names_in_values d.values) (constant_names_in_module source m)
          place n k = in_items n (in_item source m.items (parameter d) (body_item m.items d h) n k)

      header : After source m given real are all constant (parameter_names m.parameters) (uses (names_in_ports (header_ports m.ports)) ++ all_item_mentions m.items) one (with_parameters m.parameters real [])
      header =
          walk_header source m given real are all constant m.parameters (body_parameters m.items) [] []
          (uses (names_in_ports (header_ports m.ports)) ++ all_item_mentions m.items)
          (record { has = λ n t. absurd (false≢true t); parameters = tt }) mentioned grows_all good_in_header

      body : After source m given real are all constant (parameter_names (body_parameters m.items)) [] (with_known_parameters (body_parameters m.items) given one)
          (with_parameters (body_parameters m.items) real one)
      body =
          walk_items source m given real are all constant m.items header.before one header.reached
          (used_front m header.before (names_in_ports (header_ports m.ports)) (all_item_mentions m.items) header.mentions_rest).1
          (subst (λ es. Grows es all) whole grows_all) good_in_body

-- ---- ranges

abbrev AreRanged : Scope → List Declaration → Type 0
AreRanged s [] = Unit {0}
AreRanged s (d ∷ ds) = (IsRanged s d.range × IsRanged s d.addresses) × AreRanged s ds

ranged_append : (s : Scope) (ds es : List Declaration) → AreRanged s ds → AreRanged s es → AreRanged s (ds ++ es)
ranged_append s [] es h g = g
ranged_append s (d ∷ ds) es h g = (h.0, ranged_append s ds es h.1 g)

ranged_names : (s : Scope) (d : PortDeclaration) (ns : List Name) → IsRanged s d.range → AreRanged s (each_port d ns)
ranged_names s d [] h = tt
ranged_names s d (n ∷ ns) h = ((h, tt), ranged_names s d ns h)

ranged_wires : (s : Scope) (signed : Bool) (r : Option Range) (ws : List (Name × Option Expression)) → IsRanged s r → AreRanged s (wire_declarations signed r ws)
ranged_wires s signed r [] h = tt
ranged_wires s signed r (w ∷ ws) h = ((h, tt), ranged_wires s signed r ws h)

-- what is declared of a name is ranged
ranged_both : (s : Scope) (x y : Option Range) → IsRanged s x → IsRanged s y → IsRanged s (first_of x y)
ranged_both s None y h g = g
ranged_both s (Some r) y h g = h

declaration_ranged : (s : Scope) (ds : List Declaration) (n : Name) (dd : Declaration) → AreRanged s ds → declaration_of ds n ≡ Some dd
    → IsRanged s dd.range × IsRanged s dd.addresses
declaration_ranged s [] n dd h e = cc
declaration_ranged s (d ∷ ds) n dd h e =
    chosen (same_name d.of_name n) (declaration_of ds n) (λ x f. declaration_ranged s ds n x h.1 f) e
  where
    chosen : (b : Bool) (rest : Option Declaration) → ((x : Declaration) → rest ≡ Some x → IsRanged s x.range × IsRanged s x.addresses)
        → cond b (Some (and_later d rest)) rest ≡ Some dd → IsRanged s dd.range × IsRanged s dd.addresses
    chosen true None f g = let same : d ≡ dd = cc in subst (λ (x : Declaration). IsRanged s x.range × IsRanged s x.addresses) same h.0
    chosen true (Some y) f g =
        let same : both_declarations d y ≡ dd = some_same g in
        let k = f y refl in
        subst (λ (x : Declaration). IsRanged s x.range × IsRanged s x.addresses) same
        (ranged_both s d.range y.range h.0.0 k.0, ranged_both s d.addresses y.addresses h.0.1 k.1)
      where
        some_same : {A : Type 0} {a b : A} → Some a ≡ Some b → a ≡ b
        some_same i = cc
    chosen false rest f g = f dd g

use_among : (ns : List Name) (n : Name) → IsAmong ns n → IsAmong (uses ns) (used n)
use_among [] n h = absurd h
use_among (m ∷ ns) n (inl e) = inl (ap used e)
use_among (m ∷ ns) n (inr h) = inr (use_among ns n h)

pub item_mentioned : (items : List Item) (i : Item) (ns ms : List Name) → IsAmong items i → item_mentions i ≡ uses ms → Within ns ms → AreUsed (all_item_mentions items) ns
item_mentioned [] i ns ms h e f n k = absurd h
item_mentioned (x ∷ items) i ns ms (inl same) e f n k =
    among_left (item_mentions x) (all_item_mentions items) (used n)
    (subst (λ (y : Item). IsAmong (item_mentions y) (used n)) (sym same) (subst (λ us. IsAmong us (used n)) (sym e) (use_among ms n (f n k))))
item_mentioned (x ∷ items) i ns ms (inr h) e f n k =
    among_right (item_mentions x) (all_item_mentions items) (used n) (item_mentioned items i ns ms h e f n k)

pub test_among : (ns : List Name) (n : Name) → IsTrue (is_among ns n) → IsAmong ns n
test_among [] n t = absurd (false≢true t)
test_among (m ∷ ns) n t = chosen (same_name m n) (λ e. same_is m n e) (test_among ns n) t
  where
    chosen : (b : Bool) → (b ≡ true → m ≡ n) → (IsTrue (is_among ns n) → IsAmong ns n) → IsTrue (b || is_among ns n) → IsAmong (m ∷ ns) n
    chosen true f g h = inl (f refl)
    chosen false f g h = inr (g h)

module _ (source : Source) (m : Module) (all : Entries Object) (has : HasParameters m all) (constant : has_net_as_constant source m ≡ false)
    (known : (n : Name) → IsAmong (mentions m) (used n) → IsKnownIn m n) (good : AreGoodParts source m (known_module_scope m all)) where
  -- a name that must be constant, and is used, has a value
  pub constant_entry : (n : Name) → IsAmong (constant_names_in_module source m) n → IsAmong (mentions m) (used n) → HasEntry all n
  constant_entry n h k =
      has.entries n (test_among (parameter_names (all_parameters m)) n (parameter_if_constant source m n constant h (known n k)))

  range_ok : (r : Option Range) → Within (names_in_range r) (constant_names_in_module source m) → AreUsed (mentions m) (names_in_range r)
      → Good (broken_range (known_module_scope m all) r) → IsRanged (scope_of all) r
  range_ok None f g h = tt
  range_ok (Some r) f g h = range_known m all all (are_declared all has.parameters) (λ n t. refl) r (λ n k. constant_entry n (f n k) (g n k)) h

  item_range : (i : Item) (r : Option Range) (ms : List Name) → IsAmong m.items i → Within (names_in_range r) (constant_names_in_item source i)
      → item_mentions i ≡ uses ms → Within (names_in_range r) ms → Good (broken_range (known_module_scope m all) r)
      → IsRanged (scope_of all) r
  item_range i r ms h f e g k =
      range_ok r (λ n x. in_items source m n (in_item source m.items i h n (f n x)))
      (in_module m (names_in_range r) (item_mentioned m.items i (names_in_range r) ms h e g)) k

  ranged_ports : (ds : List PortDeclaration) → Good (broken_ports (known_module_scope m all) ds)
      → ((n : Name) → IsAmong (names_in_ports ds) n → IsAmong (names_in_ports (header_ports m.ports)) n) → AreRanged (scope_of all) (port_declarations ds)
  ranged_ports [] g f = tt
  ranged_ports (d ∷ ds) g f =
      ranged_append (scope_of all) (each_port d d.names) (port_declarations ds)
      (ranged_names (scope_of all) d d.names
      (range_ok d.range (λ n h. place n (f n (among_left (names_in_range d.range) (names_in_ports ds) n h)))
      (λ n h. mention n (f n (among_left (names_in_range d.range) (names_in_ports ds) n h)))
      (good_left (broken_range (known_module_scope m all) d.range) (broken_ports (known_module_scope m all) ds) g)))
      (ranged_ports ds (good_right (broken_range (known_module_scope m all) d.range) (broken_ports (known_module_scope m all) ds) g)
      (λ n h. f n (among_right (names_in_range d.range) (names_in_ports ds) n h)))
    where
      place : (n : Name) → IsAmong (names_in_ports (header_ports m.ports)) n → IsAmong (constant_names_in_module source m) n
      place n h =
          among_left (names_in_parameters m.parameters ++ names_in_ports (header_ports m.ports)) (constant_names_in_module_items source m.items) n
          (among_right (names_in_parameters m.parameters) (names_in_ports (header_ports m.ports)) n h)

      mention : (n : Name) → IsAmong (names_in_ports (header_ports m.ports)) n → IsAmong (mentions m) (used n)
      mention n h =
          among_left (all_parameter_mentions m.parameters ++ uses (names_in_ports (header_ports m.ports))) (all_item_mentions m.items) (used n)
          (among_right (all_parameter_mentions m.parameters) (uses (names_in_ports (header_ports m.ports))) (used n)
          (use_among (names_in_ports (header_ports m.ports)) n h))

  item_rules : (i : Item) → IsAmong m.items i → Good (broken_module_item source (known_module_scope m all) i)
  item_rules i h = good_item source (known_module_scope m all) m.items i h good.items

  -- the addresses of each variable are among those of the item
  ranged_variables : (signed : Bool) (r : Option Range) (us vs : List (Name × Option Range)) → IsAmong m.items (variables signed r us)
      → Within (names_in_addresses vs) (names_in_addresses us) → Good (broken_addresses (known_module_scope m all) vs) → IsRanged (scope_of all) r
      → AreRanged (scope_of all) (variable_declarations signed r vs)
  ranged_variables signed r us [] h f g k = tt
  ranged_variables signed r us (v ∷ vs) h f g k = (
    (
      k,
      item_range (variables signed r us) v.1 (names_in_range r ++ names_in_addresses us) h
          (λ n x. among_right (names_in_range r) (names_in_addresses us) n (f n (among_left (names_in_range v.1) (names_in_addresses vs) n x))) refl
          (λ n x. among_right (names_in_range r) (names_in_addresses us) n (f n (among_left (names_in_range v.1) (names_in_addresses vs) n x)))
          (good_left (broken_range (known_module_scope m all) v.1) (broken_addresses (known_module_scope m all) vs) g),
    ),
    ranged_variables signed r us vs h (λ n x. f n (among_right (names_in_range v.1) (names_in_addresses vs) n x))
        (good_right (broken_range (known_module_scope m all) v.1) (broken_addresses (known_module_scope m all) vs) g) k,
  )

  ranged_items : (items : List Item) → ((i : Item) → IsAmong items i → IsAmong m.items i) → AreRanged (scope_of all) (item_declarations items)
  ranged_items [] f = tt
  ranged_items (port d ∷ items) f =
      ranged_append (scope_of all) (each_port d d.names) (item_declarations items)
      (ranged_names (scope_of all) d d.names
      (item_range (port d) d.range (names_in_range d.range) (f (port d) (inl refl)) (λ n h. h) refl (λ n h. h) (item_rules (port d) (f (port d) (inl refl)))))
      (ranged_items items (λ i h. f i (inr h)))
  ranged_items (parameter d ∷ items) f = ranged_items items (λ i h. f i (inr h))
  ranged_items (wires signed r ws ∷ items) f =
      let here : IsAmong m.items (wires signed r ws) = f (wires signed r ws) (inl refl) in
      ranged_append (scope_of all) (wire_declarations signed r ws) (item_declarations items)
      (ranged_wires (scope_of all) signed r ws
      (item_range (wires signed r ws) r (names_in_range r ++ names_in_named ws) here (λ n h. among_left (names_in_range r) (constant_names_in_initial ws) n h) refl
      (λ n h. among_left (names_in_range r) (names_in_named ws) n h)
      (good_left (broken_range (known_module_scope m all) r) (broken_initial_values (known_module_scope m all) ws) (item_rules (wires signed r ws) here))))
      (ranged_items items (λ i h. f i (inr h)))
  ranged_items (variables signed r vs ∷ items) f =
      let here : IsAmong m.items (variables signed r vs) = f (variables signed r vs) (inl refl) in
      let rules = item_rules (variables signed r vs) here in
      ranged_append (scope_of all) (variable_declarations signed r vs) (item_declarations items)
      (ranged_variables signed r vs vs here (λ n h. h) (good_right (broken_range (known_module_scope m all) r) (broken_addresses (known_module_scope m all) vs) rules)
      (item_range (variables signed r vs) r (names_in_range r ++ names_in_addresses vs) here (λ n h. among_left (names_in_range r) (names_in_addresses vs) n h) refl
      (λ n h. among_left (names_in_range r) (names_in_addresses vs) n h)
      (good_left (broken_range (known_module_scope m all) r) (broken_addresses (known_module_scope m all) vs) rules)))
      (ranged_items items (λ i h. f i (inr h)))
  ranged_items (assign ts ∷ items) f = ranged_items items (λ i h. f i (inr h))
  ranged_items (always es x ∷ items) f = ranged_items items (λ i h. f i (inr h))
  ranged_items (instances k g is ∷ items) f = ranged_items items (λ i h. f i (inr h))

  ranged_module : AreRanged (scope_of all) (declarations m)
  ranged_module =
      ranged_append (scope_of all) (port_declarations (header_ports m.ports)) (item_declarations m.items)
      (ranged_ports (header_ports m.ports) good.ports (λ n h. h)) (ranged_items m.items (λ i h. h))

  -- what is declared of each name has ranges with values
  pub name_ranged : (n : Name) (d : Declaration) → declaration_of (declarations m) n ≡ Some d → IsRanged (scope_of all) d.range × IsRanged (scope_of all) d.addresses
  name_ranged n d e = declaration_ranged (scope_of all) (declarations m) n d ranged_module e

  pub scopes_same : (n : Name) → known_module_scope m all n ≡ module_scope m all n
  scopes_same n = scope_real m all n (name_ranged n)
