-- The names in the drivers of a module are names of it, and a dotted name tells the module and the name.
use Rattle.std.proofs.Common.{◌≡◌, ℕ, Bool, true, false, cond, List, [], ◌∷◌, ◌++◌, ◌⊎◌, inl, inr, refl, sym, ap, ◌∙◌, subst, Option, Some, None}
use Rattle.std.specs.Prelude.{IsTrue, ◌||◌}
use Rattle.std.proofs.lemmas.Bool.{or_cases, and_parts, false≢true}
use Rattle.wb_values.specs.Value.{Name, same_name}
use Rattle.verilog_trees.specs.Syntax.{Expression, Target, place, joined, Targets, no_targets, target, Statement, empty, blocking, nonblocking, if_then, if_else, case, block, Statements, no_statements, statement, CaseItems, no_items, arm, default_arm, Range, Item, port, parameter, wires, variables, assign, always, instances}
use Rattle.verilog_meaning.specs.Expression.{Scope}
use Rattle.verilog_meaning.specs.Register.{may_mean, may_reach, may_reach_one, may_assign, may_assign_in_all, may_assign_in_case, is_clocked, clocked_blocks, combinational_blocks}
use Rattle.verilog_meaning.specs.Hierarchy.{Declaration, declarations, all_parameters, port_declarations, header_ports, each_port, wire_declarations, variable_declarations, item_declarations, PathStep, step_text, dotted, Placed}
use Rattle.verilog_meaning.specs.Settled.{Design, at_path, IsPlacedIn, is_declared_among, wire_assignment, wire_assignments, assignments, as_target, Connection, port_connections}
use Rattle.verilog_designs.specs.Names.{is_among, parameter_names, all_instance_names, names_where, declared_names, names_in, names_in_target, names_in_statement, names_in_events, names_in_assignments, used, uses, item_mentions, all_item_mentions}
use Rattle.verilog_designs.specs.Accepted.{HasUndeclared}
use Rattle.verilog_unique.proofs.Options.{split, same_is, is_same, not_true, left_true, right_true}
use Rattle.verilog_unique.proofs.Descent.{IsAmong, among_left, among_right, among_either, contains_among, among_contains}
use Rattle.verilog_unique.proofs.Standing.{mentioned_known}
use Rattle.verilog_unique.proofs.Mentioned.{AreUsed, in_module, assignment_used, block_used, connection_used}
use Rattle.verilog_unique.proofs.Fitting.{module_name_of}
use Rattle.verilog_exists.specs.Exists.{NamesHaveNoDots}
use Rattle.verilog_exists.proofs.Dots.{Plain, dots_tell}
use Rattle.verilog_exists.proofs.Spots.{plain_declared, plain_path}
use Rattle.verilog_renamed.specs.Laws.{IsOneToOne}
use Rattle.verilog_renamed.specs.EachName.{EachIn, EachInTarget, EachInTargets, EachInStatement, EachInStatements, EachInItems}
use Rattle.verilog_renamed.proofs.EachName.{each_listed, target_listed, statement_listed, as_target_named}
use Rattle.flat_designs.specs.Flat.{IsNameOf, Naming, IsNaming, NamesByDots, DottedNamesAreANaming}

-- ---- dotted names of one module

tail_of : {x y : ℕ} {xs ys : List ℕ} → x ∷ xs ≡ y ∷ ys → xs ≡ ys
tail_of e = cc

after_same : (front xs ys : List ℕ) → front ++ xs ≡ front ++ ys → xs ≡ ys
after_same [] xs ys e = e
after_same (x ∷ front) xs ys e = after_same front xs ys (tail_of e)

dotted_tells : (path : List PathStep) (m n : Name) → dotted path m ≡ dotted path n → m ≡ n
dotted_tells [] m n e = e
dotted_tells (u ∷ around) m n e =
    tail_of (after_same (step_text u) (46 ∷ m) (46 ∷ n) (dotted_tells around (step_text u ++ 46 ∷ m) (step_text u ++ 46 ∷ n) e))

-- different names have different dotted names
dotted_apart : (path : List PathStep) → IsOneToOne (dotted path)
dotted_apart path m n =
    elim (split (same_name m n)) as (λ _. same_name (dotted path m) (dotted path n) ≡ same_name m n) [
      | inl e ↦ subst (λ k. same_name (dotted path m) (dotted path k) ≡ same_name m k) (same_is m n e) (is_same (dotted path m) ∙ sym (is_same m))
      | inr e ↦ not_true (same_name (dotted path m) (dotted path n))
          (λ t. false≢true (sym e ∙ ap (same_name m) (sym (dotted_tells path m n (same_is (dotted path m) (dotted path n) t))) ∙ is_same m))
          ∙ sym e
    ]

-- ---- what assignments and clocked blocks mention

use_among : (ns : List Name) (n : Name) → IsAmong ns n → IsAmong (uses ns) (used n)
use_among [] n h = absurd h
use_among (m ∷ ns) n (inl e) = inl (ap used e)
use_among (m ∷ ns) n (inr h) = inr (use_among ns n h)

declared_left : (ds es : List Declaration) (n : Name) → IsTrue (is_declared_among ds n) → IsTrue (is_declared_among (ds ++ es) n)
declared_left [] es n h = absurd (false≢true h)
declared_left (d ∷ ds) es n h =
    elim (or_cases (same_name d.of_name n) (is_declared_among ds n) h) as (λ _. IsTrue (is_declared_among (d ∷ (ds ++ es)) n)) [
      | inl e ↦ left_true (same_name d.of_name n) (is_declared_among (ds ++ es) n) e
      | inr e ↦ right_true (same_name d.of_name n) (is_declared_among (ds ++ es) n) (declared_left ds es n e)
    ]

declared_right : (ds es : List Declaration) (n : Name) → IsTrue (is_declared_among es n) → IsTrue (is_declared_among (ds ++ es) n)
declared_right [] es n h = h
declared_right (d ∷ ds) es n h = right_true (same_name d.of_name n) (is_declared_among (ds ++ es) n) (declared_right ds es n h)

-- the name is mentioned in the items, or declared there
abbrev IsIn : List Item → Name → Type 0
IsIn items n = IsAmong (all_item_mentions items) (used n) ⊎ IsTrue (is_declared_among (item_declarations items) n)

later : (i : Item) (items : List Item) (ds : List Declaration) (n : Name) → item_declarations (i ∷ items) ≡ ds ++ item_declarations items
    → IsIn items n → IsIn (i ∷ items) n
later i items ds n e (inl h) = inl (among_right (item_mentions i) (all_item_mentions items) (used n) h)
later i items ds n e (inr h) =
    inr (subst (λ es. IsTrue (is_declared_among es n)) (sym e) (declared_right ds (item_declarations items) n h))

wire_declared : (signed : Bool) (r : Option Range) (ws : List (Name × Option Expression)) (a : Target × Expression) (n : Name)
    → IsAmong (wire_assignments ws) a → IsAmong (names_in_target a.0) n → IsTrue (is_declared_among (wire_declarations signed r ws) n)
wire_declared signed r [] a n h k = absurd h
wire_declared signed r (w ∷ ws) a n h k = found w.1 (λ g. wire_declared signed r ws a n g k) h
  where
    found : (x : Option Expression) → (IsAmong (wire_assignments ws) a → IsTrue (is_declared_among (wire_declarations signed r ws) n))
        → IsAmong (wire_assignment w.0 x ++ wire_assignments ws) a → IsTrue (same_name w.0 n || is_declared_among (wire_declarations signed r ws) n)
    found None f g = right_true (same_name w.0 n) (is_declared_among (wire_declarations signed r ws) n) (f g)
    found (Some e) f (inl g) =
        left_true (same_name w.0 n) (is_declared_among (wire_declarations signed r ws) n)
        (one (subst (λ (b : Target × Expression). IsAmong (names_in_target b.0) n) (sym g) k))
      where
        one : IsAmong (w.0 ∷ []) n → same_name w.0 n ≡ true
        one (inl i) = subst (λ m. same_name w.0 m ≡ true) i (is_same w.0)
        one (inr i) = absurd i
    found (Some e) f (inr g) = right_true (same_name w.0 n) (is_declared_among (wire_declarations signed r ws) n) (f g)

among_targets : (ts : List (Target × Expression)) (a : Target × Expression) (n : Name) → IsAmong ts a → IsAmong (names_in_target a.0) n
    → IsAmong (names_in_assignments ts) n
among_targets [] a n h k = absurd h
among_targets (t ∷ ts) a n (inl e) k =
    among_left (names_in_target t.0 ++ names_in t.1) (names_in_assignments ts) n
    (among_left (names_in_target t.0) (names_in t.1) n (subst (λ (b : Target × Expression). IsAmong (names_in_target b.0) n) (sym e) k))
among_targets (t ∷ ts) a n (inr h) k =
    among_right (names_in_target t.0 ++ names_in t.1) (names_in_assignments ts) n (among_targets ts a n h k)

target_in : (items : List Item) (a : Target × Expression) (n : Name) → IsAmong (assignments items) a → IsAmong (names_in_target a.0) n → IsIn items n
target_in [] a n h k = absurd h
target_in (port d ∷ items) a n h k = later (port d) items (each_port d d.names) n refl (target_in items a n h k)
target_in (parameter d ∷ items) a n h k = later (parameter d) items [] n refl (target_in items a n h k)
target_in (wires signed r ws ∷ items) a n h k =
    elim (among_either (wire_assignments ws) (assignments items) a h) as (λ _. IsIn (wires signed r ws ∷ items) n) [
      | inl g ↦ inr (declared_left (wire_declarations signed r ws) (item_declarations items) n (wire_declared signed r ws a n g k))
      | inr g ↦ later (wires signed r ws) items (wire_declarations signed r ws) n refl (target_in items a n g k)
    ]
target_in (variables signed r vs ∷ items) a n h k =
    later (variables signed r vs) items (variable_declarations signed r vs) n refl (target_in items a n h k)
target_in (assign ts ∷ items) a n h k =
    elim (among_either ts (assignments items) a h) as (λ _. IsIn (assign ts ∷ items) n) [
      | inl g ↦ inl (among_left (uses (names_in_assignments ts)) (all_item_mentions items) (used n)
          (use_among (names_in_assignments ts) n (among_targets ts a n g k)))
      | inr g ↦ later (assign ts) items [] n refl (target_in items a n g k)
    ]
target_in (always es x ∷ items) a n h k = later (always es x) items [] n refl (target_in items a n h k)
target_in (instances m given is ∷ items) a n h k = later (instances m given is) items [] n refl (target_in items a n h k)

used_later : (i : Item) (items : List Item) (ns : List Name) → AreUsed (all_item_mentions items) ns → AreUsed (all_item_mentions (i ∷ items)) ns
used_later i items ns f n h = among_right (item_mentions i) (all_item_mentions items) (used n) (f n h)

clocked_used : (items : List Item) (x : Statement) → IsAmong (clocked_blocks items) x → AreUsed (all_item_mentions items) (names_in_statement x)
clocked_used [] x h = absurd h
clocked_used (port d ∷ items) x h = used_later (port d) items (names_in_statement x) (clocked_used items x h)
clocked_used (parameter d ∷ items) x h = used_later (parameter d) items (names_in_statement x) (clocked_used items x h)
clocked_used (wires signed r ws ∷ items) x h = used_later (wires signed r ws) items (names_in_statement x) (clocked_used items x h)
clocked_used (variables signed r vs ∷ items) x h = used_later (variables signed r vs) items (names_in_statement x) (clocked_used items x h)
clocked_used (assign ts ∷ items) x h = used_later (assign ts) items (names_in_statement x) (clocked_used items x h)
clocked_used (always es y ∷ items) x h = chosen (is_clocked es) (clocked_used items x) h
  where
    chosen : (b : Bool) → (IsAmong (clocked_blocks items) x → AreUsed (all_item_mentions items) (names_in_statement x))
        → IsAmong (cond b (y ∷ clocked_blocks items) (clocked_blocks items)) x → AreUsed (all_item_mentions (always es y ∷ items)) (names_in_statement x)
    chosen true f (inl e) n k =
        among_left (item_mentions (always es y)) (all_item_mentions items) (used n)
        (use_among (names_in_events es ++ names_in_statement y) n
        (among_right (names_in_events es) (names_in_statement y) n (subst (λ z. IsAmong (names_in_statement z) n) (sym e) k)))
    chosen true f (inr g) n k = used_later (always es y) items (names_in_statement x) (f g) n k
    chosen false f g n k = used_later (always es y) items (names_in_statement x) (f g) n k
clocked_used (instances m given is ∷ items) x h = used_later (instances m given is) items (names_in_statement x) (clocked_used items x h)

-- ---- the names in drivers are names of the module

module _ (d : Design) (good : ¬ HasUndeclared d) (p : Placed) (at : IsPlacedIn d p) where
  used_name : (ns : List Name) → AreUsed (all_item_mentions p.of_module.items) ns → (n : Name) → IsAmong ns n → IsNameOf p n
  used_name ns f n h = mentioned_known d good p.path p at n (in_module p.of_module ns f n h)

  pub in_assigned : (a : Target × Expression) → IsAmong (assignments p.of_module.items) a → EachInTarget (IsNameOf p) a.0
  in_assigned a h = target_listed (IsNameOf p) a.0 (λ n c. found n (target_in p.of_module.items a n h (among_contains (names_in_target a.0) n c)))
    where
      found : (n : Name) → IsIn p.of_module.items n → IsNameOf p n
      found n (inl k) = used_name (n ∷ []) only n (inl refl)
        where
          only : AreUsed (all_item_mentions p.of_module.items) (n ∷ [])
          only m (inl e) = subst (λ i. IsAmong (all_item_mentions p.of_module.items) (used i)) e k
          only m (inr g) = absurd g
      found n (inr k) = inl (declared_right (port_declarations (header_ports p.of_module.ports)) (item_declarations p.of_module.items) n k)

  pub right_side_name : (a : Target × Expression) → IsAmong (assignments p.of_module.items) a → (n : Name) → IsAmong (names_in a.1) n → IsNameOf p n
  right_side_name a h n k = used_name (names_in a.1) (assignment_used p.of_module.items a h) n k

  pub in_right_side : (a : Target × Expression) → IsAmong (assignments p.of_module.items) a → EachIn (IsNameOf p) a.1
  in_right_side a h = each_listed (IsNameOf p) a.1 (λ n c. right_side_name a h n (among_contains (names_in a.1) n c))

  pub block_name : (x : Statement) → IsAmong (combinational_blocks p.of_module.items) x → (n : Name) → IsAmong (names_in_statement x) n → IsNameOf p n
  block_name x h n k = used_name (names_in_statement x) (block_used p.of_module.items x h) n k

  pub in_block : (x : Statement) → IsAmong (combinational_blocks p.of_module.items) x → EachInStatement (IsNameOf p) x
  in_block x h = statement_listed (IsNameOf p) x (λ n c. block_name x h n (among_contains (names_in_statement x) n c))

  pub in_clocked : (x : Statement) → IsAmong (clocked_blocks p.of_module.items) x → EachInStatement (IsNameOf p) x
  in_clocked x h =
      statement_listed (IsNameOf p) x
      (λ n c. used_name (names_in_statement x) (clocked_used p.of_module.items x h) n (among_contains (names_in_statement x) n c))

  pub connection_name : (c : Connection) → IsAmong (port_connections p.of_module.items) c → (n : Name) → IsAmong (names_in c.expression) n → IsNameOf p n
  connection_name c h n k = used_name (names_in c.expression) (connection_used p.of_module.items c h) n k

  pub in_connection : (c : Connection) → IsAmong (port_connections p.of_module.items) c → EachIn (IsNameOf p) c.expression
  in_connection c h = each_listed (IsNameOf p) c.expression (λ n k. connection_name c h n (among_contains (names_in c.expression) n k))

  pub in_output : (c : Connection) (t : Target) → IsAmong (port_connections p.of_module.items) c → as_target c.expression ≡ Some t
      → EachInTarget (IsNameOf p) t
  in_output c t h e = as_target_named (IsNameOf p) c.expression t (in_connection c h) e

-- ---- dotted names

listed_among : (ns : List Name) (n : Name) → IsTrue (is_among ns n) → IsAmong ns n
listed_among [] n h = absurd (false≢true h)
listed_among (m ∷ ns) n h =
    elim (or_cases (same_name m n) (is_among ns n) h) as (λ _. IsAmong (m ∷ ns) n) [ inl e ↦ inl (same_is m n e) | inr e ↦ inr (listed_among ns n e) ]

some_same : {A : Type 0} {x y : A} → Some x ≡ Some y → x ≡ y
some_same e = cc

module _ (d : Design) (dotless : NamesHaveNoDots d.source) where
  plain_of_name : (p : Placed) (n : Name) → IsPlacedIn d p → IsNameOf p n → Plain n
  plain_of_name p n at (inl h) k = plain_declared d dotless p n at h k
  plain_of_name p n at (inr h) k =
      let f = module_name_of d p.path p at in
      dotless f.0 p.of_module n f.1
      (contains_among (declared_names p.of_module) n
      (among_left (names_where (λ e. true) (declarations p.of_module) ++ parameter_names (all_parameters p.of_module)) (all_instance_names p.of_module.items) n
      (among_right (names_where (λ e. true) (declarations p.of_module)) (parameter_names (all_parameters p.of_module)) n
      (listed_among (parameter_names (all_parameters p.of_module)) n h))))
      (contains_among n 46 k)

  dots_are_naming : IsNaming d dotted
  dots_are_naming =
      record {
        apart = λ p at. dotted_apart p.path;
        tells = λ p q n m at_p at_q is_n is_m e.
            dots_tell p.path q.path n m (plain_path d dotless p.path p at_p) (plain_path d dotless q.path q at_q) (plain_of_name p n at_p is_n)
            (plain_of_name q m at_q is_m) e;
      }

pub dotted_names_are_a_naming : DottedNamesAreANaming
dotted_names_are_a_naming d = record { apart = λ p at. dotted_apart p.path; seen = λ v p n at. refl; naming = dots_are_naming d }

-- a name of the one scope tells the module and the name
pub one_place : (d : Design) (called : Naming) → IsNaming d called → (q p : Placed) (m n : Name) → IsPlacedIn d q → IsPlacedIn d p → IsNameOf q m
    → IsNameOf p n → called q.path m ≡ called p.path n → (q ≡ p) × (m ≡ n)
one_place d called naming q p m n at_q at_p is_m is_n e =
    let r = naming.tells q p m n at_q at_p is_m is_n e in
    (some_same (sym at_q ∙ ap (at_path d) r.0 ∙ at_p), r.1)

-- ---- what is assigned is named

module _ (P : Name → Type 0) (s : Scope) (n : Name) (k b : ℕ) where
  mutual
    pub reached_named : (t : Target) → EachInTarget P t → IsTrue (may_reach s t n k b) → P n
    reached_named (place m x) a h = subst P (same_is m n (and_parts (same_name m n) (may_mean s (s m) x k b) h).0) a.0
    reached_named (joined ts) a h = one_reached_named ts a h

    one_reached_named : (ts : Targets) → EachInTargets P ts → IsTrue (may_reach_one s ts n k b) → P n
    one_reached_named no_targets a h = absurd (false≢true h)
    one_reached_named (target t ts) a h =
        elim (or_cases (may_reach s t n k b) (may_reach_one s ts n k b) h) as (λ _. P n)
        [ inl e ↦ reached_named t a.0 e | inr e ↦ one_reached_named ts a.1 e ]

  mutual
    pub assigned_named : (x : Statement) → EachInStatement P x → IsTrue (may_assign s x n k b) → P n
    assigned_named empty a h = absurd (false≢true h)
    assigned_named (blocking t e) a h = reached_named t a.0 h
    assigned_named (nonblocking t e) a h = reached_named t a.0 h
    assigned_named (if_then c x) a h = assigned_named x a.1 h
    assigned_named (if_else c x y) a h =
        elim (or_cases (may_assign s x n k b) (may_assign s y n k b) h) as (λ _. P n) [ inl e ↦ assigned_named x a.1 e | inr e ↦ assigned_named y a.2 e ]
    assigned_named (case kind e items) a h = items_named items a.1 h
    assigned_named (block m xs) a h = all_named xs a h

    all_named : (xs : Statements) → EachInStatements P xs → IsTrue (may_assign_in_all s xs n k b) → P n
    all_named no_statements a h = absurd (false≢true h)
    all_named (statement x xs) a h =
        elim (or_cases (may_assign s x n k b) (may_assign_in_all s xs n k b) h) as (λ _. P n) [ inl e ↦ assigned_named x a.0 e | inr e ↦ all_named xs a.1 e ]

    items_named : (items : CaseItems) → EachInItems P items → IsTrue (may_assign_in_case s items n k b) → P n
    items_named no_items a h = absurd (false≢true h)
    items_named (arm es x items) a h =
        elim (or_cases (may_assign s x n k b) (may_assign_in_case s items n k b) h) as (λ _. P n) [ inl e ↦ assigned_named x a.1 e | inr e ↦ items_named items a.2 e ]
    items_named (default_arm x items) a h =
        elim (or_cases (may_assign s x n k b) (may_assign_in_case s items n k b) h) as (λ _. P n) [ inl e ↦ assigned_named x a.0 e | inr e ↦ items_named items a.1 e ]
