-- Whether a name is declared with a wide range, by the scopes of the parameters before.
use Rattle.std.proofs.Common.{◌≡◌, ◌∙◌, refl, sym, ap, ap₂, Bool, true, false, cond, not, ◌&&◌, ◌||◌, ℕ, suc, ◌+◌, ◌<◌, List, [], ◌∷◌, ◌++◌, length, drop, get_or, map, Option, Some, None, add-one, drop-cons}
use mathlib.Core.Path.{fun_ext}
use Rattle.wb_values.specs.Value.{Name, Entries}
use Rattle.verilog_trees.specs.Syntax as pure
use Rattle.verilog_trees.specs.Syntax.{Range, PortDeclaration, port, parameter, wires, variables, assign, always, instances, Module}
use Rattle.verilog_meaning.specs.Expression.{Object, Scope, scope_of, object_or_undeclared, undeclared}
use Rattle.verilog_meaning.specs.Hierarchy.{Placed, value_names, header_ports}
use Rattle.verilog_designs.specs.Known.{known_range}
use Rattle.verilog_designs.specs.Names.{is_among, parameter_names}
use Rattle.verilog_designs.specs.Ports.{connected_names}
use Rattle.verilog_designs.specs.Accepted.{among_entries, variable_names, is_wide_range, has_wide_port, has_wide_item, is_wide_clock, is_input_port, has_no_clock}
use Rattle.v_syntax.specs.declared.module.Item.{Item}
use Rattle.v_syntax.specs.Source.{item_of}
use Rattle.v_scopes.specs.Bounds.{bound_at, known_bounds, bounds, is_wide}
use Rattle.v_scopes.specs.Ports.{wide_port, is_wide_item}
use Rattle.v_named.specs.Before.{IsBefore, after, among, wide_in}
use Rattle.v_named.proofs.Earlier.{among_append}

-- ---- scopes

pub scope_so : (es : Entries Object) (s : Scope) (b : Name → Bool) → IsBefore es s b → scope_of es ≡ among s b
scope_so es s b h = fun_ext (λ n. ap object_or_undeclared (h n) ∙ chosen n (b n))
  where
    chosen : (n : Name) (c : Bool) → object_or_undeclared (cond c (Some (s n)) None) ≡ cond c (s n) undeclared
    chosen n true = refl
    chosen n false = refl

or_none : (b : Bool) → (b || false) ≡ b
or_none true = refl
or_none false = refl

pub header_before : (es : Entries Object) (s : Scope) (ns : List Name) → IsBefore es s (λ n. is_among ns n || false) → IsBefore es s (is_among ns)
header_before es s ns h n = h n ∙ ap (λ x. cond x (Some (s n)) None) (or_none (is_among ns n))

-- ---- a walk over items

abbrev pub IsLooking : Entries Object → Scope → Name → (rest all : List pure.Item) → (Name → Bool) → Type 0
IsLooking es s n rest all b = (c : Name → Bool) × IsBefore es s c × (wide_in s c n rest ≡ wide_in s b n all)

pub looking_begun : (es : Entries Object) (s : Scope) (n : Name) (all : List pure.Item) (b : Name → Bool) → IsBefore es s b → IsLooking es s n all all b
looking_begun es s n all b h = (b, h, refl)

pub looking_found : (es : Entries Object) (s : Scope) (n : Name) (i : pure.Item) (rest whole all : List pure.Item) (b : Name → Bool) (w : Bool) → whole ≡ i ∷ rest
    → w ≡ is_wide_item (scope_of es) n i → w ≡ true → IsLooking es s n whole all b → true ≡ wide_in s b n all
looking_found es s n i rest whole all b w e f t h =
    let wide : is_wide_item (among s h.0) n i ≡ true = ap (λ r. is_wide_item r n i) (sym (scope_so es s h.0 h.1)) ∙ (sym f ∙ t) in
    sym (ap (λ x. x || wide_in s (after i h.0) n rest) wide) ∙ (ap (wide_in s h.0 n) (sym e) ∙ h.2)

pub looking_on : (es new : Entries Object) (s : Scope) (n : Name) (i : pure.Item) (rest whole all : List pure.Item) (b : Name → Bool) (w : Bool) → whole ≡ i ∷ rest
    → w ≡ is_wide_item (scope_of es) n i → w ≡ false → ((c : Name → Bool) → IsBefore es s c → IsBefore new s (after i c)) → IsLooking es s n whole all b → IsLooking new s n rest all b
looking_on es new s n i rest whole all b w e f t g h =
    let narrow : is_wide_item (among s h.0) n i ≡ false = ap (λ r. is_wide_item r n i) (sym (scope_so es s h.0 h.1)) ∙ (sym f ∙ t) in (
      after i h.0,
      g h.0 h.1,
      sym (ap (λ x. x || wide_in s (after i h.0) n rest) narrow) ∙ (ap (wide_in s h.0 n) (sym e) ∙ h.2),
    )

pub looking_ended : (es : Entries Object) (s : Scope) (n : Name) (rest all : List pure.Item) (b : Name → Bool) → rest ≡ [] → IsLooking es s n rest all b → false ≡ wide_in s b n all
looking_ended es s n rest all b e h = ap (wide_in s h.0 n) (sym e) ∙ h.2

abbrev pub items_of : List Item → List pure.Item
items_of items = map item_of items

pub items_drop : (items : List Item) (i : ℕ) (d : Item) → i < length items → d ≡ get_or items i d → items_of (drop i items) ≡ item_of d ∷ items_of (drop (i + 1) items)
items_drop items i d h e = ap items_of parted
  where
    parted : drop i items ≡ d ∷ drop (i + 1) items
    parted = rw (add-one, drop-cons items i d h) (ap (λ c. c ∷ drop (suc i) items) (sym e))

-- ---- the definition

wide_so : (s : Scope) (r : Option Range) → is_wide_range s r ≡ is_wide (bounds s r)
unfolding bound_at
wide_so s None = refl
wide_so s (Some r) = by_value (known_range s r) refl
  where
    by_value : (o : Option (ℕ × ℕ)) → known_range s r ≡ o → is_wide_range s (Some r) ≡ is_wide (known_bounds (known_range s r))
    by_value None e = rw e refl
    by_value (Some b) e = rw e refl

wide_ports : (s : Scope) (n : Name) (ds : List PortDeclaration) → wide_port s n ds ≡ has_wide_port s n ds
wide_ports s n [] = refl
wide_ports s n (d ∷ ds) = ap₂ (λ a b. (is_among d.names n && a) || b) (sym (wide_so s d.range)) (wide_ports s n ds)

wide_items : (known : Entries Object) (before : List Name) (n : Name) (items : List pure.Item) → wide_in (scope_of known) (is_among before) n items ≡ has_wide_item known before n items
wide_items known before n [] = refl
wide_items known before n (port d ∷ items) =
    ap₂ (λ a b. (is_among d.names n && a) || b) (sym (wide_so (among_entries before known) d.range)) (wide_items known before n items)
wide_items known before n (parameter d ∷ items) =
    ap (λ b. wide_in (scope_of known) b n items) (fun_ext (λ m. sym (among_append (value_names d.values) before m))) ∙ wide_items known (value_names d.values ++ before) n items
wide_items known before n (wires signed r ws ∷ items) =
    ap₂ (λ a b. (is_among (connected_names ws) n && a) || b) (sym (wide_so (among_entries before known) r)) (wide_items known before n items)
wide_items known before n (variables signed r vs ∷ items) =
    ap₂ (λ a b. (is_among (variable_names vs) n && a) || b) (sym (wide_so (among_entries before known) r)) (wide_items known before n items)
wide_items known before n (assign ts ∷ items) = wide_items known before n items
wide_items known before n (always es x ∷ items) = wide_items known before n items
wide_items known before n (instances m given is ∷ items) = wide_items known before n items

abbrev pub as_top : Module → Entries Object → Placed
as_top m known = record { path = []; of_module = m; constants = known }

module _ (m : Module) (known es : Entries Object) (n : Name) (before : IsBefore es (scope_of known) (is_among (parameter_names m.parameters))) (h : Bool)
    (head : h ≡ wide_port (scope_of es) n (header_ports m.ports)) where
  header : has_wide_port (among_entries (parameter_names m.parameters) known) n (header_ports m.ports) ≡ h
  header =
      sym (wide_ports (among_entries (parameter_names m.parameters) known) n (header_ports m.ports))
      ∙ (ap (λ s. wide_port s n (header_ports m.ports)) (sym (scope_so es (scope_of known) (is_among (parameter_names m.parameters)) before)) ∙ sym head)

  pub wide_header : h ≡ true → true ≡ is_wide_clock (as_top m known) n
  wide_header t = sym (ap (λ x. x || has_wide_item known (parameter_names m.parameters) n m.items) (header ∙ t))

  pub wide_later : (w : Bool) → h ≡ false → w ≡ wide_in (scope_of known) (is_among (parameter_names m.parameters)) n m.items → w ≡ is_wide_clock (as_top m known) n
  wide_later w t e =
      e ∙ (wide_items known (parameter_names m.parameters) n m.items
      ∙ sym (ap (λ x. x || has_wide_item known (parameter_names m.parameters) n m.items) (header ∙ t)))

-- ---- the clock

pub no_input : (p : Placed) (n : Name) (b : Bool) → b ≡ is_input_port p.of_module n → b ≡ false → true ≡ has_no_clock p n
no_input p n b e f = sym (ap (λ x. not x || is_wide_clock p n) (sym e ∙ f))

pub an_input : (p : Placed) (n : Name) (b w : Bool) → b ≡ is_input_port p.of_module n → b ≡ true → w ≡ is_wide_clock p n → w ≡ has_no_clock p n
an_input p n b w e f g = g ∙ sym (ap (λ x. not x || is_wide_clock p n) (sym e ∙ f))
