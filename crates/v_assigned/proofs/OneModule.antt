-- What the answers mean for a module of a design, and for a design that is one module.
use Rattle.std.proofs.Common.{◌≡◌, ◌∙◌, suc, refl, ap, sym, subst, arith, Bool, true, false, not, inl, inr, List, [], ◌∷◌, Contains, Option, Some, None, is_some, option_map}
use Rattle.std.specs.Prelude.{◌||◌, ◌⊎◌, ◌↔◌, IsTrue}
use Rattle.std.specs.List.{list_any}
use Rattle.std.proofs.lemmas.Bool.{true≢false, false≢true, or_left, or_right}
use Rattle.wb_values.specs.Value.{Name}
use Rattle.verilog_trees.specs.Syntax.{Expression, Target, Statement, Range, Item, port, parameter, wires, variables, assign, always, instances, Module}
use Rattle.verilog_meaning.specs.Expression.{Scope, scope_of, object_or_undeclared}
use Rattle.verilog_meaning.specs.Register.{clocked_blocks, combinational_blocks}
use Rattle.verilog_meaning.specs.Hierarchy.{Declaration, declarations, declaration_of, ranged_object, declared_object, PathStep, Placed, placed_scope}
use Rattle.verilog_meaning.specs.Settled.{Design, at_path, IsPlacedIn, Connection, assignments, port_connections}
use Rattle.verilog_designs.specs.Drivers.{target_names, assigned_names, is_declared_reg, is_declared_input, is_variable, is_fixed, HasTwoDrivers, HasBadDriver}
use Rattle.v_hier.specs.Instances.{is_part, is_any, module_has_parts, has_parts}
use Rattle.v_scopes.specs.declared.table.ModuleScope.{ModuleScope}
use Rattle.v_scopes.specs.Rows.{Row, row, row_named}
use Rattle.v_scopes.specs.Scopes.{declared_in}
use Rattle.v_scopes.specs.Ports.{alone}
use Rattle.v_scopes.proofs.Joined.{named_so}
use Rattle.v_scopes.proofs.Parts.{some_is, none_some, nothing_below, not_contained}
use Rattle.v_drivers.specs.Sets.{drivers, TwoMeet}
use Rattle.v_drivers.proofs.OneModule.{as-the-rule}
use Rattle.v_assigned.specs.Names.{is_variable_row, is_input_row, is_wrong, HasNamesOf}
use Rattle.v_assigned.specs.Assigned.{one_link_assigns, one_block_assigns, names_are_bad}
use Rattle.v_assigned.specs.Rule.{AssignsBadName}
use Rattle.v_assigned.proofs.Parts.{or_assoc}

-- ---- one of a list

pub either : {A : Type 0} (p q : Bool) → (p || q) ≡ true → (p ≡ true → A) → (q ≡ true → A) → A
either true q h f g = f refl
either false q h f g = g h

pub true-where-not-false : (b : Bool) → (b ≡ false → ⊥) → b ≡ true
true-where-not-false true h = refl
true-where-not-false false h = absurd (h refl)

pub any-there : {X : Type 0} (p : X → Bool) (xs : List X) (x : X) → Contains xs x → p x ≡ true → list_any p xs ≡ true
any-there p xs x c h = true-where-not-false (list_any p xs) (λ e. true≢false (sym h ∙ not_contained p xs x e c))

later : {X : Type 0} (y : X) (xs : List X) (x : X) → Contains xs x → Contains (y ∷ xs) x
later y xs x (k, l, e) = (suc k, omega (arith, l), e)

-- an element of which the test is true
pub record OneOf {X : Type 0} (p : X → Bool) (xs : List X) : Type 0 where
  pub element : X
  pub stands : Contains xs element
  pub so : p element ≡ true

pub one-of : {X : Type 0} (p : X → Bool) (xs : List X) → list_any p xs ≡ true → OneOf p xs
one-of p [] h = absurd (false≢true h)
one-of p (x ∷ xs) h =
    either (p x) (list_any p xs) h (λ e. record { element = x; stands = (0, omega arith, refl); so = e })
    (λ e. let o = one-of p xs e in record { element = o.element; stands = later x xs o.element o.stands; so = o.so })

links-as-any : (p : Name → Bool) (links : List (Target × Expression)) → one_link_assigns p links ≡ list_any (λ (a : Target × Expression). list_any p (target_names a.0)) links
links-as-any p [] = refl
links-as-any p (a ∷ links) = ap (λ b. list_any p (target_names a.0) || b) (links-as-any p links)

blocks-as-any : (p : Name → Bool) (xs : List Statement) → one_block_assigns p xs ≡ list_any (λ (x : Statement). list_any p (assigned_names x)) xs
blocks-as-any p [] = refl
blocks-as-any p (x ∷ xs) = ap (λ b. list_any p (assigned_names x) || b) (blocks-as-any p xs)

-- ---- what is declared of a name

ranged-constant : (s : Scope) (signed : Bool) (r : Option Range) → is_some (ranged_object s signed r).constant ≡ false
ranged-constant s signed None = refl
ranged-constant s signed (Some r) = refl

pub object-constant : (o : Option Declaration) → is_some (object_or_undeclared (option_map (declared_object (scope_of [])) o)).constant ≡ false
object-constant None = refl
object-constant (Some x) = ranged-constant (scope_of []) x.signed x.range

variable-so : (s : Scope) (o : Option Declaration) → is_variable_row (option_map (row s) o) ≡ is_declared_reg o
variable-so s None = refl
variable-so s (Some x) = refl

pub input-so : (s : Scope) (o : Option Declaration) → is_input_row (option_map (row s) o) ≡ is_declared_input o
input-so s None = refl
input-so s (Some x) = refl

pub no-connections : (items : List Item) → list_any is_part items ≡ false → port_connections items ≡ []
no-connections [] h = refl
no-connections (port d ∷ items) h = no-connections items h
no-connections (parameter d ∷ items) h = absurd (true≢false h)
no-connections (wires signed r ws ∷ items) h = no-connections items h
no-connections (variables signed r vs ∷ items) h = no-connections items h
no-connections (assign ts ∷ items) h = no-connections items h
no-connections (always es x ∷ items) h = no-connections items h
no-connections (instances k given is ∷ items) h = absurd (true≢false h)

pub second : (a b : Bool) → (a || b) ≡ false → b ≡ false
second true b h = absurd (true≢false h)
second false b h = h

-- ---- a module

module _ (p : Placed) (names : ModuleScope) (known : HasNamesOf names p.of_module) where
  abbrev declared : Name → Option Declaration
  declared n = declaration_of (declarations p.of_module) n

  pub row-so : (n : Name) → declared_in names n ≡ option_map (row (scope_of known.0)) (declared n)
  row-so n = ap (λ (rs : List Row). row_named rs n) known.1 ∙ sym (named_so (scope_of known.0) (declarations p.of_module) n)

  -- what may not be assigned has a value as a parameter, or is declared so
  abbrev is_constant : Name → Bool
  is_constant n = is_some (placed_scope p n).constant

  declared-input : (n : Name) → is_declared_input (declared n) ≡ is_input_row (declared_in names n)
  declared-input n = sym (ap is_input_row (row-so n) ∙ input-so (scope_of known.0) (declared n))

  declared-variable : (n : Name) → is_variable p n ≡ is_variable_row (declared_in names n)
  declared-variable n = sym (ap is_variable_row (row-so n) ∙ variable-so (scope_of known.0) (declared n))

  in-block : (n : Name) → (not (is_variable p n) || is_fixed p n) ≡ is_wrong names (placed_scope p) true n
  in-block n =
      sym (or_assoc (not (is_variable p n)) (is_declared_input (declared n)) (is_constant n))
      ∙ ap (λ b. (not b || is_declared_input (declared n)) || is_constant n) (declared-variable n)
      ∙ ap (λ b. (not (is_variable_row (declared_in names n)) || b) || is_constant n) (declared-input n)

  in-link : (n : Name) → (is_variable p n || is_fixed p n) ≡ is_wrong names (placed_scope p) false n
  in-link n =
      sym (or_assoc (is_variable p n) (is_declared_input (declared n)) (is_constant n))
      ∙ ap (λ b. (b || is_declared_input (declared n)) || is_constant n) (declared-variable n)
      ∙ ap (λ b. (is_variable_row (declared_in names n) || b) || is_constant n) (declared-input n)

  module _ (items : List Item) where
    abbrev links : Bool
    links = one_link_assigns (is_wrong names (placed_scope p) false) (assignments items)

    abbrev clocked : Bool
    clocked = one_block_assigns (is_wrong names (placed_scope p) true) (clocked_blocks items)

    abbrev others : Bool
    others = one_block_assigns (is_wrong names (placed_scope p) true) (combinational_blocks items)

    block-there : (xs : List Statement) (x : Statement) (n : Name) → Contains xs x → Contains (assigned_names x) n
        → (not (is_variable p n) || is_fixed p n) ≡ true → one_block_assigns (is_wrong names (placed_scope p) true) xs ≡ true
    block-there xs x n c k h =
        let q : Name → Bool = is_wrong names (placed_scope p) true in
        blocks-as-any q xs
        ∙ any-there (λ (y : Statement). list_any q (assigned_names y)) xs x c (any-there q (assigned_names x) n k (sym (in-block n) ∙ h))

    link-there : (a : Target × Expression) (n : Name) → Contains (assignments items) a → Contains (target_names a.0) n
        → (is_variable p n || is_fixed p n) ≡ true → links ≡ true
    link-there a n c k h =
        let q : Name → Bool = is_wrong names (placed_scope p) false in
        links-as-any q (assignments items)
        ∙ any-there (λ (b : Target × Expression). list_any q (target_names b.0)) (assignments items) a c (any-there q (target_names a.0) n k (sym (in-link n) ∙ h))

    name-there : AssignsBadName p items → names_are_bad names (placed_scope p) items ≡ true
    name-there (AssignsBadName.in_clocked x n c k h) =
        or_right links (clocked || others) (or_left clocked others (block-there (clocked_blocks items) x n c k h))
    name-there (AssignsBadName.in_combinational x n c k h) =
        or_right links (clocked || others) (or_right clocked others (block-there (combinational_blocks items) x n c k h))
    name-there (AssignsBadName.by_assignment a n c k h) = or_left links (clocked || others) (link-there a n c k h)

    bad-link : links ≡ true → AssignsBadName p items
    bad-link h =
        let q : Name → Bool = is_wrong names (placed_scope p) false in
        let a = one-of (λ (b : Target × Expression). list_any q (target_names b.0)) (assignments items) (sym (links-as-any q (assignments items)) ∙ h) in
        let n = one-of q (target_names a.element.0) a.so in
        AssignsBadName.by_assignment a.element n.element a.stands n.stands (in-link n.element ∙ n.so)

    bad-clocked : clocked ≡ true → AssignsBadName p items
    bad-clocked h =
        let q : Name → Bool = is_wrong names (placed_scope p) true in
        let x = one-of (λ (y : Statement). list_any q (assigned_names y)) (clocked_blocks items) (sym (blocks-as-any q (clocked_blocks items)) ∙ h) in
        let n = one-of q (assigned_names x.element) x.so in
        AssignsBadName.in_clocked x.element n.element x.stands n.stands (in-block n.element ∙ n.so)

    bad-other : others ≡ true → AssignsBadName p items
    bad-other h =
        let q : Name → Bool = is_wrong names (placed_scope p) true in
        let x = one-of (λ (y : Statement). list_any q (assigned_names y)) (combinational_blocks items)
        (sym (blocks-as-any q (combinational_blocks items)) ∙ h) in
        let n = one-of q (assigned_names x.element) x.so in
        AssignsBadName.in_combinational x.element n.element x.stands n.stands (in-block n.element ∙ n.so)

    there-name : names_are_bad names (placed_scope p) items ≡ true → AssignsBadName p items
    there-name h = either links (clocked || others) h bad-link (λ e. either clocked others e bad-clocked bad-other)

    pub bad-names : IsTrue (names_are_bad names (placed_scope p) items) ↔ AssignsBadName p items
    bad-names = (there-name, name-there)

-- ---- a design of one module

module _ (d : Design) (m : Module) (names : ModuleScope) (whole : has_parts d.source ≡ false) (own : module_has_parts m ≡ false)
    (top : at_path d [] ≡ Some (alone m)) (known : HasNamesOf names m) where
  pub placed-top : (q : Placed) (path : List PathStep) → at_path d path ≡ Some q → q ≡ alone m
  placed-top q [] e = some_is q (alone m) (sym e ∙ top)
  placed-top q (u ∷ path) e = absurd (none_some q (sym (nothing_below d.source d.top whole u path) ∙ e))

  pub unconnected : port_connections m.items ≡ []
  unconnected = no-connections m.items (second (is_any m.parameters) (list_any is_part m.items) own)

  abbrev Bad : Type 0
  Bad = TwoMeet (placed_scope (alone m)) (drivers (placed_scope (alone m)) m.items) ⊎ IsTrue (names_are_bad names (placed_scope (alone m)) m.items)

  pub no-output : (c : Connection) → Contains (port_connections m.items) c → ⊥
  no-output c h = at (subst (λ (xs : List Connection). Contains xs c) unconnected h)
    where
      at : Contains [] c → ⊥
      at (k, l, e) = absurd (omega (arith, l))

  at-top : (A : Placed → Type 0) (q : Placed) → IsPlacedIn d q → A q → A (alone m)
  at-top A q at h = subst A (placed-top q q.path at) h

  of-names : AssignsBadName (alone m) m.items → Bad
  of-names h = inr ((bad-names (alone m) names known m.items).1 h)

  there : HasBadDriver d → Bad
  there (HasBadDriver.two q at h) = inl ((as-the-rule d (alone m) unconnected).0 (at-top (HasTwoDrivers d) q at h))
  there (HasBadDriver.in_clocked q x n at c k h) =
      let z = at-top (λ (q : Placed). Contains (clocked_blocks q.of_module.items) x × ((not (is_variable q n) || is_fixed q n) ≡ true)) q at (c, h) in
      of-names (AssignsBadName.in_clocked x n z.0 k z.1)
  there (HasBadDriver.in_combinational q x n at c k h) =
      let z = at-top (λ (q : Placed). Contains (combinational_blocks q.of_module.items) x × ((not (is_variable q n) || is_fixed q n) ≡ true)) q at (c, h) in
      of-names (AssignsBadName.in_combinational x n z.0 k z.1)
  there (HasBadDriver.by_assignment q a n at c k h) =
      let z = at-top (λ (q : Placed). Contains (assignments q.of_module.items) a × ((is_variable q n || is_fixed q n) ≡ true)) q at (c, h) in
      of-names (AssignsBadName.by_assignment a n z.0 k z.1)
  there (HasBadDriver.by_output q c t n at stands is named h) =
      absurd (no-output c (at-top (λ (q : Placed). Contains (port_connections q.of_module.items) c) q at stands))

  of-top : AssignsBadName (alone m) m.items → HasBadDriver d
  of-top (AssignsBadName.in_clocked x n c k h) = HasBadDriver.in_clocked (alone m) x n top c k h
  of-top (AssignsBadName.in_combinational x n c k h) = HasBadDriver.in_combinational (alone m) x n top c k h
  of-top (AssignsBadName.by_assignment a n c k h) = HasBadDriver.by_assignment (alone m) a n top c k h

  back : Bad → HasBadDriver d
  back (inl t) = HasBadDriver.two (alone m) top ((as-the-rule d (alone m) unconnected).1 t)
  back (inr h) = of-top ((bad-names (alone m) names known m.items).0 h)

  pub bad-drivers : HasBadDriver d ↔ Bad
  bad-drivers = (there, back)
