-- What statements with other names assign, and that they wait as before.
use Rattle.std.proofs.Common.{◌≡◌, ◌∙◌, refl, ap, Bool, List, ◌++◌, inl, inr, ◌⊎◌}
use Rattle.std.specs.Prelude.{◌||◌}
use Rattle.wb_values.specs.Value.{Name}
use Rattle.verilog_trees.specs.Syntax.{Target, place, joined, Targets, no_targets, target, Statement, empty, blocking, nonblocking, if_then, if_else, case, block, Statements, no_statements, statement, CaseItems, no_items, arm, default_arm}
use Rattle.verilog_designs.specs.Drivers.{target_names, targets_names, assigned_names, assigned_in_all, assigned_in_arms}
use Rattle.verilog_designs.specs.Paths.{has_blocking, one_has_blocking, an_arm_has_blocking}
use Rattle.verilog_unique.proofs.Descent.{IsAmong, among_left, among_right, among_either}
use Rattle.verilog_renamed.specs.Renamed.{renamed_target, renamed_targets, renamed_statement, renamed_statements, renamed_case_items}

-- The name is the new one of a name of the list.
abbrev pub IsNewOf : (Name → Name) → List Name → Name → Type 0
IsNewOf f ns n = (m : Name) × IsAmong ns m × (f m ≡ n)

new_left : (f : Name → Name) (ns ms : List Name) (n : Name) → IsNewOf f ns n → IsNewOf f (ns ++ ms) n
new_left f ns ms n h = (h.0, among_left ns ms h.0 h.1, h.2)

new_right : (f : Name → Name) (ns ms : List Name) (n : Name) → IsNewOf f ms n → IsNewOf f (ns ++ ms) n
new_right f ns ms n h = (h.0, among_right ns ms h.0 h.1, h.2)

new_either : (f : Name → Name) (ns ms : List Name) (n : Name) → IsNewOf f ns n ⊎ IsNewOf f ms n → IsNewOf f (ns ++ ms) n
new_either f ns ms n (inl h) = new_left f ns ms n h
new_either f ns ms n (inr h) = new_right f ns ms n h

mutual
  pub target_named : (f : Name → Name) (t : Target) (n : Name) → IsAmong (target_names (renamed_target f t)) n → IsNewOf f (target_names t) n
  target_named f (place m x) n (inl e) = (m, inl refl, e)
  target_named f (place m x) n (inr h) = absurd h
  target_named f (joined ts) n h = targets_named f ts n h

  targets_named : (f : Name → Name) (ts : Targets) (n : Name) → IsAmong (targets_names (renamed_targets f ts)) n → IsNewOf f (targets_names ts) n
  targets_named f no_targets n h = absurd h
  targets_named f (target t ts) n h =
      new_either f (target_names t) (targets_names ts) n
      (elim (among_either (target_names (renamed_target f t)) (targets_names (renamed_targets f ts)) n h)
      as (λ _. IsNewOf f (target_names t) n ⊎ IsNewOf f (targets_names ts) n) [ inl k ↦ inl (target_named f t n k) | inr k ↦ inr (targets_named f ts n k) ])

mutual
  pub assigned_named : (f : Name → Name) (x : Statement) (n : Name) → IsAmong (assigned_names (renamed_statement f x)) n → IsNewOf f (assigned_names x) n
  assigned_named f empty n h = absurd h
  assigned_named f (blocking t e) n h = target_named f t n h
  assigned_named f (nonblocking t e) n h = target_named f t n h
  assigned_named f (if_then c x) n h = assigned_named f x n h
  assigned_named f (if_else c x y) n h =
      new_either f (assigned_names x) (assigned_names y) n
      (elim (among_either (assigned_names (renamed_statement f x)) (assigned_names (renamed_statement f y)) n h)
      as (λ _. IsNewOf f (assigned_names x) n ⊎ IsNewOf f (assigned_names y) n) [ inl k ↦ inl (assigned_named f x n k) | inr k ↦ inr (assigned_named f y n k) ])
  assigned_named f (case kind e items) n h = items_named f items n h
  assigned_named f (block m xs) n h = all_named f xs n h

  all_named : (f : Name → Name) (xs : Statements) (n : Name) → IsAmong (assigned_in_all (renamed_statements f xs)) n → IsNewOf f (assigned_in_all xs) n
  all_named f no_statements n h = absurd h
  all_named f (statement x xs) n h =
      new_either f (assigned_names x) (assigned_in_all xs) n
      (elim (among_either (assigned_names (renamed_statement f x)) (assigned_in_all (renamed_statements f xs)) n h)
      as (λ _. IsNewOf f (assigned_names x) n ⊎ IsNewOf f (assigned_in_all xs) n) [ inl k ↦ inl (assigned_named f x n k) | inr k ↦ inr (all_named f xs n k) ])

  items_named : (f : Name → Name) (xs : CaseItems) (n : Name) → IsAmong (assigned_in_arms (renamed_case_items f xs)) n → IsNewOf f (assigned_in_arms xs) n
  items_named f no_items n h = absurd h
  items_named f (arm es x xs) n h =
      new_either f (assigned_names x) (assigned_in_arms xs) n
      (elim (among_either (assigned_names (renamed_statement f x)) (assigned_in_arms (renamed_case_items f xs)) n h)
      as (λ _. IsNewOf f (assigned_names x) n ⊎ IsNewOf f (assigned_in_arms xs) n) [ inl k ↦ inl (assigned_named f x n k) | inr k ↦ inr (items_named f xs n k) ])
  items_named f (default_arm x xs) n h =
      new_either f (assigned_names x) (assigned_in_arms xs) n
      (elim (among_either (assigned_names (renamed_statement f x)) (assigned_in_arms (renamed_case_items f xs)) n h)
      as (λ _. IsNewOf f (assigned_names x) n ⊎ IsNewOf f (assigned_in_arms xs) n) [ inl k ↦ inl (assigned_named f x n k) | inr k ↦ inr (items_named f xs n k) ])

both : (a b c e : Bool) → a ≡ c → b ≡ e → (a || b) ≡ (c || e)
both a b c e h k = ap (λ t. t || b) h ∙ ap (λ t. c || t) k

mutual
  pub same_blocking : (f : Name → Name) (x : Statement) → has_blocking (renamed_statement f x) ≡ has_blocking x
  same_blocking f empty = refl
  same_blocking f (blocking t e) = refl
  same_blocking f (nonblocking t e) = refl
  same_blocking f (if_then c x) = same_blocking f x
  same_blocking f (if_else c x y) = both _ _ _ _ (same_blocking f x) (same_blocking f y)
  same_blocking f (case kind e items) = same_in_arms f items
  same_blocking f (block m xs) = same_in_all f xs

  same_in_all : (f : Name → Name) (xs : Statements) → one_has_blocking (renamed_statements f xs) ≡ one_has_blocking xs
  same_in_all f no_statements = refl
  same_in_all f (statement x xs) = both _ _ _ _ (same_blocking f x) (same_in_all f xs)

  same_in_arms : (f : Name → Name) (xs : CaseItems) → an_arm_has_blocking (renamed_case_items f xs) ≡ an_arm_has_blocking xs
  same_in_arms f no_items = refl
  same_in_arms f (arm es x xs) = both _ _ _ _ (same_blocking f x) (same_in_arms f xs)
  same_in_arms f (default_arm x xs) = both _ _ _ _ (same_blocking f x) (same_in_arms f xs)
