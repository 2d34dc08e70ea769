-- The names of bits that a statement may assign are among those that it assigns.
use Rattle.std.proofs.Common.{◌≡◌, ◌∙◌, ℕ, refl, sym, arith, Bool, true, false, List, ◌++◌, Contains}
use Rattle.std.specs.Prelude.{◌&&◌, ◌||◌}
use Rattle.std.proofs.lemmas.Bool.{true≢false, false≢true, and_parts}
use Rattle.std.proofs.lemmas.List.Elements.{Contains-append_left, Contains-append_right}
use Rattle.std.proofs.lemmas.Slice.Eq.{bytes_eq-Decides}
use Rattle.wb_values.specs.Value.{Name, same_name}
use Rattle.verilog_trees.specs.Syntax.{Target, place, joined, Targets, no_targets, target, Statement, empty, blocking, nonblocking, if_then, if_else, case, block, Statements, no_statements, statement, CaseItems, no_items, arm, default_arm}
use Rattle.verilog_meaning.specs.Expression.{Scope, is_memory}
use Rattle.verilog_meaning.specs.Register.{is_bit_of, may_mean, may_reach, may_reach_one, may_assign, may_assign_in_all, may_assign_in_case}
use Rattle.verilog_designs.specs.Drivers.{target_names, targets_names, assigned_names, assigned_in_all, assigned_in_arms}
use Rattle.v_flow.proofs.Constants.{and_false}
use Rattle.v_paths.specs.Premises.{AssignsNoMemory}

either-named : (p q : Bool) (xs ys : List Name) (n : Name) → (p ≡ true → Contains xs n) → (q ≡ true → Contains ys n) → (p || q) ≡ true → Contains (xs ++ ys) n
either-named true q xs ys n f g h = Contains-append_left xs ys n (f refl)
either-named false q xs ys n f g h = Contains-append_right xs ys n (g h)

mutual
  reach-named : (s : Scope) (t : Target) (n : Name) (k b : ℕ) → may_reach s t n k b ≡ true → Contains (target_names t) n
  reach-named s (place m x) n k b h = (0, omega arith, (bytes_eq-Decides m n).0 (and_parts (same_name m n) (may_mean s (s m) x k b) h).0)
  reach-named s (joined ts) n k b h = reach-one-named s ts n k b h

  reach-one-named : (s : Scope) (ts : Targets) (n : Name) (k b : ℕ) → may_reach_one s ts n k b ≡ true → Contains (targets_names ts) n
  reach-one-named s no_targets n k b h = absurd (false≢true h)
  reach-one-named s (target t ts) n k b h =
      either-named (may_reach s t n k b) (may_reach_one s ts n k b) (target_names t) (targets_names ts) n (reach-named s t n k b) (reach-one-named s ts n k b) h

mutual
  assign-named : (s : Scope) (x : Statement) (n : Name) (k b : ℕ) → may_assign s x n k b ≡ true → Contains (assigned_names x) n
  assign-named s empty n k b h = absurd (false≢true h)
  assign-named s (blocking t e) n k b h = reach-named s t n k b h
  assign-named s (nonblocking t e) n k b h = reach-named s t n k b h
  assign-named s (if_then c x) n k b h = assign-named s x n k b h
  assign-named s (if_else c x y) n k b h =
      either-named (may_assign s x n k b) (may_assign s y n k b) (assigned_names x) (assigned_names y) n (assign-named s x n k b) (assign-named s y n k b) h
  assign-named s (case kind e items) n k b h = arms-named s items n k b h
  assign-named s (block m xs) n k b h = all-named s xs n k b h

  all-named : (s : Scope) (xs : Statements) (n : Name) (k b : ℕ) → may_assign_in_all s xs n k b ≡ true → Contains (assigned_in_all xs) n
  all-named s no_statements n k b h = absurd (false≢true h)
  all-named s (statement x xs) n k b h =
      either-named (may_assign s x n k b) (may_assign_in_all s xs n k b) (assigned_names x) (assigned_in_all xs) n (assign-named s x n k b) (all-named s xs n k b) h

  arms-named : (s : Scope) (items : CaseItems) (n : Name) (k b : ℕ) → may_assign_in_case s items n k b ≡ true → Contains (assigned_in_arms items) n
  arms-named s no_items n k b h = absurd (false≢true h)
  arms-named s (arm es x items) n k b h =
      either-named (may_assign s x n k b) (may_assign_in_case s items n k b) (assigned_names x) (assigned_in_arms items) n (assign-named s x n k b) (arms-named s items n k b) h
  arms-named s (default_arm x items) n k b h =
      either-named (may_assign s x n k b) (may_assign_in_case s items n k b) (assigned_names x) (assigned_in_arms items) n (assign-named s x n k b) (arms-named s items n k b) h

-- a bit of a memory, where no memory is assigned
none-assigned : (i a m : Bool) → (a ≡ true → m ≡ false) → m ≡ true → (i && a) ≡ false
none-assigned i true m f h = absurd (true≢false (sym h ∙ f refl))
none-assigned i false m f h = and_false i

pub no-memory-named : (s : Scope) (x : Statement) → ((n : Name) → Contains (assigned_names x) n → is_memory (s n) ≡ false) → AssignsNoMemory s x
no-memory-named s x f = λ n k b m.
    none-assigned (is_bit_of (s n) k b) (may_assign s x n k b) (is_memory (s n)) (λ h. f n (assign-named s x n k b h)) m
