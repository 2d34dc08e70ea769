-- What is assigned on each path may be assigned; a full case has an item.
use Rattle.std.proofs.Common.{◌≡◌, ◌∙◌, refl, sym, ℕ, zero, suc, ◌^◌, ◌<◌, max, arith, Bool, true, false, cond}
use Rattle.std.specs.Prelude.{◌&&◌, ◌||◌, nat_le}
use Rattle.std.proofs.lemmas.Bool.{false≢true, and_parts, or_left, or_right}
use Rattle.std.proofs.lemmas.Nat.{pow_pos}
use Rattle.wb_values.specs.Value.{Name, same_name}
use Rattle.verilog_trees.specs.Syntax.{Expression, Target, place, joined, Targets, no_targets, target, CaseKind, exact_case, wild_case, Statement, empty, blocking, nonblocking, if_then, if_else, case, block, Statements, no_statements, statement, CaseItems, no_items, arm, default_arm}
use Rattle.verilog_meaning.specs.Expression.{Scope, width_of, sign_of}
use Rattle.verilog_meaning.specs.Statement.{items_width, items_signed}
use Rattle.verilog_meaning.specs.Register.{may_mean, selects_are_constant, may_reach, may_reach_one, may_assign, may_assign_in_all, may_assign_in_case}
use Rattle.verilog_designs.specs.Reads.{no_bits, surely_reaches, one_surely_reaches, items_have_all, is_full, surely_assigns, one_surely_assigns, each_arm_assigns}

-- ---- a case without an item is not full

none-have : (s : Scope) (w : ℕ) (signed : Bool) (n : ℕ) → 0 < n → items_have_all s w signed n no_items ≡ false
none-have s w signed zero h = absurd (omega (arith, h))
none-have s w signed (suc n) h = refl

none-all : (s : Scope) (w : ℕ) (signed : Bool) → (nat_le w 8 && items_have_all s w signed (2 ^ w) no_items) ≡ true → ⊥
none-all s w signed h = false≢true (sym (none-have s w signed (2 ^ w) (pow_pos w)) ∙ (and_parts (nat_le w 8) _ h).1)

pub never-full : (s : Scope) (kind : CaseKind) (e : Expression) → is_full s kind e no_items ≡ true → ⊥
never-full s wild_case e h = false≢true h
never-full s exact_case e h = none-all s (max (width_of s e) (items_width s no_items)) (sign_of s e && items_signed s no_items) h

-- ---- targets

without-constant : (a c m : Bool) → (a && (c && m)) ≡ true → (a && m) ≡ true
without-constant true true m h = h
without-constant true false m h = absurd (false≢true h)
without-constant false c m h = h

either-may : (p q v w : Bool) → (p ≡ true → v ≡ true) → (q ≡ true → w ≡ true) → (p || q) ≡ true → (v || w) ≡ true
either-may true q v w f g h = or_left v w (f refl)
either-may false q v w f g h = or_right v w (g h)

mutual
  reach-may : (s : Scope) (t : Target) (n : Name) (k b : ℕ) → surely_reaches s t n k b ≡ true → may_reach s t n k b ≡ true
  reach-may s (place m x) n k b h = without-constant (same_name m n) (selects_are_constant s x) (may_mean s (s m) x k b) h
  reach-may s (joined ts) n k b h = reach-one-may s ts n k b h

  reach-one-may : (s : Scope) (ts : Targets) (n : Name) (k b : ℕ) → one_surely_reaches s ts n k b ≡ true → may_reach_one s ts n k b ≡ true
  reach-one-may s no_targets n k b h = h
  reach-one-may s (target t ts) n k b h =
      either-may (surely_reaches s t n k b) (one_surely_reaches s ts n k b) (may_reach s t n k b) (may_reach_one s ts n k b)
      (reach-may s t n k b) (reach-one-may s ts n k b) h

-- ---- statements

mutual
  pub surely-may : (s : Scope) (x : Statement) (n : Name) (k b : ℕ) → surely_assigns s x n k b ≡ true → may_assign s x n k b ≡ true
  surely-may s empty n k b h = h
  surely-may s (blocking t e) n k b h = reach-may s t n k b h
  surely-may s (nonblocking t e) n k b h = absurd (false≢true h)
  surely-may s (if_then c x) n k b h = absurd (false≢true h)
  surely-may s (if_else c x y) n k b h =
      or_left (may_assign s x n k b) (may_assign s y n k b) (surely-may s x n k b (and_parts (surely_assigns s x n k b) (surely_assigns s y n k b) h).0)
  surely-may s (case kind e items) n k b h = case-may s kind e items n k b (is_full s kind e items) refl h
  surely-may s (block m xs) n k b h = all-may s xs n k b h

  all-may : (s : Scope) (xs : Statements) (n : Name) (k b : ℕ) → one_surely_assigns s xs n k b ≡ true → may_assign_in_all s xs n k b ≡ true
  all-may s no_statements n k b h = h
  all-may s (statement x xs) n k b h =
      either-may (surely_assigns s x n k b) (one_surely_assigns s xs n k b) (may_assign s x n k b) (may_assign_in_all s xs n k b)
      (surely-may s x n k b) (all-may s xs n k b) h

  case-may : (s : Scope) (kind : CaseKind) (e : Expression) (items : CaseItems) (n : Name) (k b : ℕ) (full : Bool) → is_full s kind e items ≡ full
      → cond full (each_arm_assigns s items) no_bits n k b ≡ true → may_assign_in_case s items n k b ≡ true
  case-may s kind e no_items n k b true is h = absurd (never-full s kind e is)
  case-may s kind e no_items n k b false is h = h
  case-may s kind e (arm es x items) n k b true is h =
      or_left (may_assign s x n k b) (may_assign_in_case s items n k b) (surely-may s x n k b (and_parts (surely_assigns s x n k b) (each_arm_assigns s items n k b) h).0)
  case-may s kind e (arm es x items) n k b false is h = absurd (false≢true h)
  case-may s kind e (default_arm x items) n k b true is h =
      or_left (may_assign s x n k b) (may_assign_in_case s items n k b) (surely-may s x n k b (and_parts (surely_assigns s x n k b) (each_arm_assigns s items n k b) h).0)
  case-may s kind e (default_arm x items) n k b false is h = absurd (false≢true h)
