-- A run without blocking assignments leaves the valuation as it was.
use Rattle.std.proofs.Common.{◌≡◌, ◌∙◌, refl, sym, ℕ, max, Bool, true, false, cond, ◌&&◌}
use Rattle.std.proofs.lemmas.Bool.{or_parts, false≢true}
use Rattle.wb_values.specs.Value.{Valuation}
use Rattle.verilog_trees.specs.Syntax.{CaseKind, Statement, empty, blocking, nonblocking, if_then, if_else, case, block, Statements, no_statements, statement, CaseItems, no_items, arm, default_arm}
use Rattle.verilog_meaning.specs.Expression.{Scope, width_of, sign_of, value_of, is_true}
use Rattle.verilog_meaning.specs.Statement.{Effect, unchanged, items_width, items_signed, any_matches, run, run_all, run_case}
use Rattle.verilog_designs.specs.Paths.{has_blocking, one_has_blocking, an_arm_has_blocking}

either : (t : Bool) (x y : Effect) (v : Valuation) → x.valuation ≡ v → y.valuation ≡ v → (cond t x y).valuation ≡ v
either true x y v e f = e
either false x y v e f = f

mutual
  pub run_waits : (s : Scope) (x : Statement) (v : Valuation) → has_blocking x ≡ false → (run s x v).valuation ≡ v
  run_waits s empty v h = refl
  run_waits s (blocking t e) v h = absurd (false≢true (sym h))
  run_waits s (nonblocking t e) v h = refl
  run_waits s (if_then c x) v h = either (is_true s v c) (run s x v) (unchanged v) v (run_waits s x v h) refl
  run_waits s (if_else c x y) v h =
      either (is_true s v c) (run s x v) (run s y v) v (run_waits s x v (or_parts (has_blocking x) (has_blocking y) h).0)
      (run_waits s y v (or_parts (has_blocking x) (has_blocking y) h).1)
  run_waits s (case kind e items) v h =
      case_waits s v kind (max (width_of s e) (items_width s items)) (sign_of s e && items_signed s items)
      (value_of s v e (max (width_of s e) (items_width s items)) (sign_of s e && items_signed s items)) items (unchanged v) h refl
  run_waits s (block m xs) v h = all_wait s xs v h

  all_wait : (s : Scope) (xs : Statements) (v : Valuation) → one_has_blocking xs ≡ false → (run_all s xs v).valuation ≡ v
  all_wait s no_statements v h = refl
  all_wait s (statement x xs) v h =
      all_wait s xs (run s x v).valuation (or_parts (has_blocking x) (one_has_blocking xs) h).1
      ∙ run_waits s x v (or_parts (has_blocking x) (one_has_blocking xs) h).0

  case_waits : (s : Scope) (v : Valuation) (kind : CaseKind) (width : ℕ) (signed : Bool) (a : ℕ) (items : CaseItems) (o : Effect)
      → an_arm_has_blocking items ≡ false → o.valuation ≡ v → (run_case s v kind width signed a items o).valuation ≡ v
  case_waits s v kind width signed a no_items o h f = f
  case_waits s v kind width signed a (arm es y items) o h f =
      either (any_matches s v kind width signed a es) (run s y v) (run_case s v kind width signed a items o) v
      (run_waits s y v (or_parts (has_blocking y) (an_arm_has_blocking items) h).0)
      (case_waits s v kind width signed a items o (or_parts (has_blocking y) (an_arm_has_blocking items) h).1 f)
  case_waits s v kind width signed a (default_arm y items) o h f =
      case_waits s v kind width signed a items (run s y v) (or_parts (has_blocking y) (an_arm_has_blocking items) h).1
      (run_waits s y v (or_parts (has_blocking y) (an_arm_has_blocking items) h).0)
