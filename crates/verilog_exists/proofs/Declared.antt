-- What blocks, assignments and outputs drive is declared, and is no input and no parameter.
use Rattle.std.proofs.Common.{◌≡◌, ℕ, Bool, true, false, not, List, [], ◌∷◌, ◌++◌, ◌⊎◌, inl, inr, refl, sym, ap, subst, Option, Some, None}
use Rattle.std.specs.Prelude.{IsTrue, is_some, ◌||◌, option_map}
use Rattle.std.proofs.lemmas.Bool.{cases_Bool, false≢true, or_cases}
use Rattle.wb_values.specs.Value.{Name, same_name}
use Rattle.verilog_trees.specs.Syntax.{Expression, number, name, concatenation, replication, as_signed, as_unsigned, unary, reduction, binary, shift, power, comparison, logical, conditional, Expressions, no_expressions, expression, Target, place, joined, Targets, no_targets, target, Statement, empty, blocking, nonblocking, if_then, if_else, case, block, Statements, no_statements, statement, CaseItems, no_items, arm, default_arm, Range, output, Item, port, parameter, wires, variables, assign, always, instances}
use Rattle.verilog_meaning.specs.Expression.{Scope}
use Rattle.verilog_meaning.specs.Register.{may_assign, may_assign_in_all, may_assign_in_case, combinational_blocks, clocked_blocks}
use Rattle.verilog_meaning.specs.Hierarchy.{Declaration, declarations, declaration_of, all_parameters, port_declarations, header_ports, each_port, wire_declarations, variable_declarations, item_declarations, Placed, placed_scope}
use Rattle.verilog_meaning.specs.Settled.{Design, IsPlacedIn, is_declared_among, IsDeclared, wire_assignment, wire_assignments, assignments, as_target, all_as_targets, Connection, port_connections, IsConnectedTo}
use Rattle.verilog_designs.specs.Names.{is_among, parameter_names, names_in, names_in_all, names_in_selects, names_in_target, names_in_targets, names_in_assignments, used, uses, item_mentions, all_item_mentions}
use Rattle.verilog_designs.specs.Drivers.{target_names, targets_names, assigned_names, assigned_in_all, assigned_in_arms, is_declared_input, is_variable, is_fixed, HasBadDriver}
use Rattle.verilog_designs.specs.Accepted.{undeclared, bad_driver}
use Rattle.verilog_unique.proofs.Options.{from_map, from_chain, is_same, left_true, right_true}
use Rattle.verilog_unique.proofs.Descent.{IsAmong, among_left, among_right, among_either, contains_among}
use Rattle.verilog_unique.proofs.Standing.{IsKnownIn, mentioned_known}
use Rattle.verilog_unique.proofs.Mentioned.{AreUsed, in_module, connection_used}
use Rattle.verilog_unique.proofs.Constants.{Within}
use Rattle.verilog_unique.proofs.Parameters.{parameter_number}
use Rattle.verilog_exists.specs.Loops.{IsAcceptedButForLoops}
use Rattle.verilog_exists.proofs.Directions.{variable_declared}
use Rattle.verilog_exists.proofs.Rounds.{reached_name}

-- ---- names of targets

mutual
  in_target : (t : Target) → Within (target_names t) (names_in_target t)
  in_target (place m x) n (inl e) = inl e
  in_target (place m x) n (inr h) = absurd h
  in_target (joined ts) n h = in_targets ts n h

  in_targets : (ts : Targets) → Within (targets_names ts) (names_in_targets ts)
  in_targets no_targets n h = h
  in_targets (target t ts) n h =
      elim (among_either (target_names t) (targets_names ts) n h) as (λ _. IsAmong (names_in_target t ++ names_in_targets ts) n) [
        | inl k ↦ among_left (names_in_target t) (names_in_targets ts) n (in_target t n k)
        | inr k ↦ among_right (names_in_target t) (names_in_targets ts) n (in_targets ts n k)
      ]

pair : (ns ms ks ls : List Name) → Within ns ks → Within ms ls → Within (ns ++ ms) (ks ++ ls)
pair ns ms ks ls f g n h =
    elim (among_either ns ms n h) as (λ _. IsAmong (ks ++ ls) n) [ inl k ↦ among_left ks ls n (f n k) | inr k ↦ among_right ks ls n (g n k) ]

mutual
  from_expression : (e : Expression) (t : Target) → as_target e ≡ Some t → Within (target_names t) (names_in e)
  from_expression (number k) t h = cc
  from_expression (name n x) t h =
      let same : place n x ≡ t = cc in subst (λ y. Within (target_names y) (n ∷ names_in_selects x)) same (first n (names_in_selects x))
    where
      first : (m : Name) (ms : List Name) → Within (m ∷ []) (m ∷ ms)
      first m ms k (inl e) = inl e
      first m ms k (inr g) = absurd g
  from_expression (concatenation es) t h =
      let f = from_map joined (all_as_targets es) t h in subst (λ y. Within (target_names y) (names_in_all es)) f.2 (from_expressions es f.0 f.1)
  from_expression (replication k es) t h = cc
  from_expression (as_signed x) t h = cc
  from_expression (as_unsigned x) t h = cc
  from_expression (unary op x) t h = cc
  from_expression (reduction op x) t h = cc
  from_expression (binary op x y) t h = cc
  from_expression (shift op x n) t h = cc
  from_expression (power x n) t h = cc
  from_expression (comparison op x y) t h = cc
  from_expression (logical op x y) t h = cc
  from_expression (conditional c x y) t h = cc

  from_expressions : (es : Expressions) (ts : Targets) → all_as_targets es ≡ Some ts → Within (targets_names ts) (names_in_all es)
  from_expressions no_expressions ts h =
      let same : no_targets ≡ ts = cc in subst (λ y. Within (targets_names y) []) same (λ m k. k)
  from_expressions (expression e es) ts h =
      let f = from_chain (λ t. option_map (target t) (all_as_targets es)) (as_target e) ts h in
      let g = from_map (target f.0) (all_as_targets es) ts f.2 in
      subst (λ y. Within (targets_names y) (names_in e ++ names_in_all es)) g.2
      (pair (target_names f.0) (targets_names g.0) (names_in e) (names_in_all es) (from_expression e f.0 f.1) (from_expressions es g.0 g.1))

-- ---- names of statements

mutual
  pub assigned_name : (s : Scope) (x : Statement) (n : Name) (k b : ℕ) → IsTrue (may_assign s x n k b) → IsAmong (assigned_names x) n
  assigned_name s empty n k b h = absurd (false≢true h)
  assigned_name s (blocking t e) n k b h = reached_name s t n k b h
  assigned_name s (nonblocking t e) n k b h = reached_name s t n k b h
  assigned_name s (if_then c x) n k b h = assigned_name s x n k b h
  assigned_name s (if_else c x y) n k b h =
      elim (or_cases (may_assign s x n k b) (may_assign s y n k b) h) as (λ _. IsAmong (assigned_names x ++ assigned_names y) n) [
        | inl e ↦ among_left (assigned_names x) (assigned_names y) n (assigned_name s x n k b e)
        | inr e ↦ among_right (assigned_names x) (assigned_names y) n (assigned_name s y n k b e)
      ]
  assigned_name s (case kind e items) n k b h = assigned_in s items n k b h
  assigned_name s (block m xs) n k b h = assigned_of s xs n k b h

  assigned_of : (s : Scope) (xs : Statements) (n : Name) (k b : ℕ) → IsTrue (may_assign_in_all s xs n k b) → IsAmong (assigned_in_all xs) n
  assigned_of s no_statements n k b h = absurd (false≢true h)
  assigned_of s (statement x xs) n k b h =
      elim (or_cases (may_assign s x n k b) (may_assign_in_all s xs n k b) h) as (λ _. IsAmong (assigned_names x ++ assigned_in_all xs) n) [
        | inl e ↦ among_left (assigned_names x) (assigned_in_all xs) n (assigned_name s x n k b e)
        | inr e ↦ among_right (assigned_names x) (assigned_in_all xs) n (assigned_of s xs n k b e)
      ]

  assigned_in : (s : Scope) (items : CaseItems) (n : Name) (k b : ℕ) → IsTrue (may_assign_in_case s items n k b) → IsAmong (assigned_in_arms items) n
  assigned_in s no_items n k b h = absurd (false≢true h)
  assigned_in s (arm es x items) n k b h =
      elim (or_cases (may_assign s x n k b) (may_assign_in_case s items n k b) h) as (λ _. IsAmong (assigned_names x ++ assigned_in_arms items) n) [
        | inl e ↦ among_left (assigned_names x) (assigned_in_arms items) n (assigned_name s x n k b e)
        | inr e ↦ among_right (assigned_names x) (assigned_in_arms items) n (assigned_in s items n k b e)
      ]
  assigned_in s (default_arm x items) n k b h =
      elim (or_cases (may_assign s x n k b) (may_assign_in_case s items n k b) h) as (λ _. IsAmong (assigned_names x ++ assigned_in_arms items) n) [
        | inl e ↦ among_left (assigned_names x) (assigned_in_arms items) n (assigned_name s x n k b e)
        | inr e ↦ among_right (assigned_names x) (assigned_in_arms items) n (assigned_in s items n k b e)
      ]

-- ---- targets of assignments are mentioned or declared at once

use_among : (ns : List Name) (n : Name) → IsAmong ns n → IsAmong (uses ns) (used n)
use_among [] n h = absurd h
use_among (m ∷ ns) n (inl e) = inl (ap used e)
use_among (m ∷ ns) n (inr h) = inr (use_among ns n h)

declared_right : (ds es : List Declaration) (n : Name) → IsTrue (is_declared_among es n) → IsTrue (is_declared_among (ds ++ es) n)
declared_right [] es n h = h
declared_right (d ∷ ds) es n h = right_true (same_name d.of_name n) (is_declared_among (ds ++ es) n) (declared_right ds es n h)

declared_left : (ds es : List Declaration) (n : Name) → IsTrue (is_declared_among ds n) → IsTrue (is_declared_among (ds ++ es) n)
declared_left [] es n h = absurd (false≢true h)
declared_left (d ∷ ds) es n h =
    elim (or_cases (same_name d.of_name n) (is_declared_among ds n) h) as (λ _. IsTrue (is_declared_among (d ∷ (ds ++ es)) n)) [
      | inl e ↦ left_true (same_name d.of_name n) (is_declared_among (ds ++ es) n) e
      | inr e ↦ right_true (same_name d.of_name n) (is_declared_among (ds ++ es) n) (declared_left ds es n e)
    ]

MentionedOrDeclared : List Item → Name → Type 0
MentionedOrDeclared items n = IsAmong (all_item_mentions items) (used n) ⊎ IsTrue (is_declared_among (item_declarations items) n)

later : (i : Item) (items : List Item) (ds : List Declaration) (n : Name) → item_declarations (i ∷ items) ≡ ds ++ item_declarations items
    → MentionedOrDeclared items n → MentionedOrDeclared (i ∷ items) n
unfolding MentionedOrDeclared
later i items ds n e (inl h) = inl (among_right (item_mentions i) (all_item_mentions items) (used n) h)
later i items ds n e (inr h) =
    inr (subst (λ es. IsTrue (is_declared_among es n)) (sym e) (declared_right ds (item_declarations items) n h))

wire_declared : (signed : Bool) (r : Option Range) (ws : List (Name × Option Expression)) (a : Target × Expression) (n : Name) → IsAmong (wire_assignments ws) a
    → IsAmong (target_names a.0) n → IsTrue (is_declared_among (wire_declarations signed r ws) n)
wire_declared signed r [] a n h k = absurd h
wire_declared signed r (w ∷ ws) a n h k = found w.1 (λ g. wire_declared signed r ws a n g k) h
  where
    found : (x : Option Expression) → (IsAmong (wire_assignments ws) a → IsTrue (is_declared_among (wire_declarations signed r ws) n))
        → IsAmong (wire_assignment w.0 x ++ wire_assignments ws) a → IsTrue (same_name w.0 n || is_declared_among (wire_declarations signed r ws) n)
    found None f g = right_true (same_name w.0 n) (is_declared_among (wire_declarations signed r ws) n) (f g)
    found (Some e) f (inl g) =
        left_true (same_name w.0 n) (is_declared_among (wire_declarations signed r ws) n)
        (one (subst (λ (b : Target × Expression). IsAmong (target_names b.0) n) (sym g) k))
      where
        one : IsAmong (w.0 ∷ []) n → same_name w.0 n ≡ true
        one (inl i) = subst (λ m. same_name w.0 m ≡ true) i (is_same w.0)
        one (inr i) = absurd i
    found (Some e) f (inr g) = right_true (same_name w.0 n) (is_declared_among (wire_declarations signed r ws) n) (f g)

among_targets : (ts : List (Target × Expression)) (a : Target × Expression) → IsAmong ts a → Within (target_names a.0) (names_in_assignments ts)
among_targets [] a h n k = absurd h
among_targets (t ∷ ts) a (inl e) n k =
    among_left (names_in_target t.0 ++ names_in t.1) (names_in_assignments ts) n
    (among_left (names_in_target t.0) (names_in t.1) n
    (in_target t.0 n (subst (λ (b : Target × Expression). IsAmong (target_names b.0) n) (sym e) k)))
among_targets (t ∷ ts) a (inr h) n k =
    among_right (names_in_target t.0 ++ names_in t.1) (names_in_assignments ts) n (among_targets ts a h n k)

target_of_items : (items : List Item) (a : Target × Expression) (n : Name) → IsAmong (assignments items) a → IsAmong (target_names a.0) n
    → MentionedOrDeclared items n
unfolding MentionedOrDeclared
target_of_items [] a n h k = absurd h
target_of_items (port d ∷ items) a n h k = later (port d) items (each_port d d.names) n refl (target_of_items items a n h k)
target_of_items (parameter d ∷ items) a n h k = later (parameter d) items [] n refl (target_of_items items a n h k)
target_of_items (wires signed r ws ∷ items) a n h k =
    elim (among_either (wire_assignments ws) (assignments items) a h) as (λ _. MentionedOrDeclared (wires signed r ws ∷ items) n) [
      | inl g ↦ inr (declared_left (wire_declarations signed r ws) (item_declarations items) n (wire_declared signed r ws a n g k))
      | inr g ↦ later (wires signed r ws) items (wire_declarations signed r ws) n refl (target_of_items items a n g k)
    ]
target_of_items (variables signed r vs ∷ items) a n h k =
    later (variables signed r vs) items (variable_declarations signed r vs) n refl (target_of_items items a n h k)
target_of_items (assign ts ∷ items) a n h k =
    elim (among_either ts (assignments items) a h) as (λ _. MentionedOrDeclared (assign ts ∷ items) n) [
      | inl g ↦ inl (among_left (uses (names_in_assignments ts)) (all_item_mentions items) (used n)
          (use_among (names_in_assignments ts) n (among_targets ts a g n k)))
      | inr g ↦ later (assign ts) items [] n refl (target_of_items items a n g k)
    ]
target_of_items (always es x ∷ items) a n h k = later (always es x) items [] n refl (target_of_items items a n h k)
target_of_items (instances m given is ∷ items) a n h k = later (instances m given is) items [] n refl (target_of_items items a n h k)

-- ---- in an accepted design

module _ (d : Design) (accepted : IsAcceptedButForLoops d) (p : Placed) (at : IsPlacedIn d p) where
  parameter_fixed : (n : Name) → IsTrue (is_among (parameter_names (all_parameters p.of_module)) n) → IsTrue (is_fixed p n)
  parameter_fixed n t =
      right_true (is_declared_input (declaration_of (declarations p.of_module) n)) (is_some (placed_scope p n).constant) (parameter_number d p.path p at n t)

  -- what is known and not fixed is declared
  known_declared : (n : Name) → ¬ IsTrue (is_fixed p n) → IsKnownIn p.of_module n → IsDeclared p n
  known_declared n free (inl h) = h
  known_declared n free (inr h) = absurd (free (parameter_fixed n h))

  -- an assignment drives what is no variable, no input and no parameter
  pub assignment_free : (a : Target × Expression) (n : Name) → IsAmong (assignments p.of_module.items) a → IsAmong (target_names a.0) n → ¬ IsTrue (is_fixed p n)
  assignment_free a n h k t =
      accepted bad_driver (λ e. cc) (HasBadDriver.by_assignment p a n at (contains_among (assignments p.of_module.items) a h) (contains_among (target_names a.0) n k)
      (right_true (is_variable p n) (is_fixed p n) t))

  pub assignment_declared : (a : Target × Expression) (n : Name) → IsAmong (assignments p.of_module.items) a → IsAmong (target_names a.0) n → IsDeclared p n
  unfolding MentionedOrDeclared
  assignment_declared a n h k = found (target_of_items p.of_module.items a n h k)
    where
      found : MentionedOrDeclared p.of_module.items n → IsDeclared p n
      found (inl used_there) =
          known_declared n (assignment_free a n h k)
          (mentioned_known d (accepted undeclared (λ e. cc)) p.path p at n (in_module p.of_module (n ∷ []) only n (inl refl)))
        where
          only : AreUsed (all_item_mentions p.of_module.items) (n ∷ [])
          only m (inl e) = subst (λ i. IsAmong (all_item_mentions p.of_module.items) (used i)) e used_there
          only m (inr g) = absurd g
      found (inr declared) = declared_right (port_declarations (header_ports p.of_module.ports)) (item_declarations p.of_module.items) n declared

  pub output_free : (c : Connection) (below : Placed) (m : Name) (t : Target) (n : Name) → IsAmong (port_connections p.of_module.items) c
      → IsConnectedTo d p c below m output → as_target c.expression ≡ Some t → IsAmong (target_names t) n → ¬ IsTrue (is_fixed p n)
  output_free c below m t n h connected e k f =
      accepted bad_driver (λ e. cc) (HasBadDriver.by_output p c t n at (contains_among (port_connections p.of_module.items) c h)
      (record { below = below; port = m; is_output = connected; is_target = e }) (contains_among (target_names t) n k)
      (right_true (is_variable p n) (is_fixed p n) f))

  pub output_declared : (c : Connection) (below : Placed) (m : Name) (t : Target) (n : Name) → IsAmong (port_connections p.of_module.items) c
      → IsConnectedTo d p c below m output → as_target c.expression ≡ Some t → IsAmong (target_names t) n → IsDeclared p n
  output_declared c below m t n h connected e k =
      known_declared n (output_free c below m t n h connected e k)
      (mentioned_known d (accepted undeclared (λ e. cc)) p.path p at n
      (in_module p.of_module (names_in c.expression) (connection_used p.of_module.items c h) n (from_expression c.expression t e n k)))

  -- a block assigns variables alone, and no input and no parameter
  pub block_free : (x : Statement) (n : Name) → IsAmong (combinational_blocks p.of_module.items) x → IsAmong (assigned_names x) n → ¬ IsTrue (is_fixed p n)
  block_free x n h k t =
      accepted bad_driver (λ e. cc) (HasBadDriver.in_combinational p x n at (contains_among (combinational_blocks p.of_module.items) x h)
      (contains_among (assigned_names x) n k) (right_true (not (is_variable p n)) (is_fixed p n) t))

  pub block_declared : (x : Statement) (n : Name) → IsAmong (combinational_blocks p.of_module.items) x → IsAmong (assigned_names x) n → IsDeclared p n
  block_declared x n h k = variable (cases_Bool (is_variable p n))
    where
      variable : (is_variable p n ≡ true) ⊎ (is_variable p n ≡ false) → IsDeclared p n
      variable (inl e) = variable_declared (declarations p.of_module) n e
      variable (inr e) =
          absurd (accepted bad_driver (λ e. cc) (HasBadDriver.in_combinational p x n at (contains_among (combinational_blocks p.of_module.items) x h)
          (contains_among (assigned_names x) n k) (left_true (not (is_variable p n)) (is_fixed p n) (ap not e))))

  pub clocked_free : (x : Statement) (n : Name) → IsAmong (clocked_blocks p.of_module.items) x → IsAmong (assigned_names x) n → ¬ IsTrue (is_fixed p n)
  clocked_free x n h k t =
      accepted bad_driver (λ e. cc) (HasBadDriver.in_clocked p x n at (contains_among (clocked_blocks p.of_module.items) x h)
      (contains_among (assigned_names x) n k) (right_true (not (is_variable p n)) (is_fixed p n) t))
