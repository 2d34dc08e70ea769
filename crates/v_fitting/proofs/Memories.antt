-- What stands outside clocked blocks assigns no memory.
use Rattle.std.proofs.Common.{◌≡◌, ◌∙◌, ℕ, Bool, true, false, not, ◌&&◌, ◌||◌, refl, sym, subst}
use Rattle.std.proofs.lemmas.Bool.{true≢false, false≢true, and_parts}
use Rattle.wb_values.specs.Value.{Name, same_name}
use Rattle.verilog_trees.specs.Syntax.{Expression, Target, place, joined, Targets, no_targets, target, CaseKind, Statement, empty, blocking, nonblocking, if_then, if_else, case, block, Statements, no_statements, statement, CaseItems, no_items, arm, default_arm}
use Rattle.verilog_meaning.specs.Expression.{Scope, is_memory}
use Rattle.verilog_meaning.specs.Register.{may_mean, may_reach, may_reach_one, may_assign, may_assign_in_all, may_assign_in_case, is_bit_of}
use Rattle.verilog_rules.specs.Expression.{Position, also, anywhere, is_unbroken, broken}
use Rattle.verilog_designs.specs.Expressions.{memory_if, writes_memory, one_writes_memory, broken_target, broken_net_target, broken_items, broken_statement, broken_statements, broken_arms}
use Rattle.verilog_unique.proofs.Options.{same_is, first_false, second_false}
use Rattle.v_size.proofs.Unbroken.{unbroken-also}
use Rattle.v_paths.specs.Premises.{AssignsNoMemory}

-- ---- truth values

not-so : (a : Bool) → not a ≡ true → a ≡ false
not-so false e = refl
not-so true e = absurd (false≢true e)

unless : (a c : Bool) → (a ≡ true → ⊥) → (a && c) ≡ false
unless true c f = absurd (f refl)
unless false c f = refl

neither : (a b : Bool) → a ≡ false → b ≡ false → (a || b) ≡ false
neither true b e f = absurd (true≢false e)
neither false b e f = f

either-way : (a c : Bool) → c ≡ false → (a && c) ≡ false
either-way true c e = e
either-way false c e = refl

-- ---- targets

pub unwritten : (s : Scope) (p : Position) (t : Target) → is_unbroken (broken_net_target s p t) ≡ true → writes_memory s t ≡ false
unwritten s p t h =
    not-so (writes_memory s t) (and_parts (not (writes_memory s t)) true (unbroken-also (memory_if (writes_memory s t)) (broken_target s p t) h).0).0

mutual
  unreached : (s : Scope) (t : Target) (n : Name) (k b : ℕ) → writes_memory s t ≡ false → is_memory (s n) ≡ true → may_reach s t n k b ≡ false
  unreached s (place m x) n k b h g =
      unless (same_name m n) (may_mean s (s m) x k b) (λ e. true≢false (sym g ∙ subst (λ j. is_memory (s j) ≡ false) (same_is m n e) h))
  unreached s (joined ts) n k b h g = none-reached s ts n k b h g

  none-reached : (s : Scope) (ts : Targets) (n : Name) (k b : ℕ) → one_writes_memory s ts ≡ false → is_memory (s n) ≡ true → may_reach_one s ts n k b ≡ false
  none-reached s no_targets n k b h g = refl
  none-reached s (target t ts) n k b h g =
      neither (may_reach s t n k b) (may_reach_one s ts n k b)
      (unreached s t n k b (first_false (writes_memory s t) (one_writes_memory s ts) h) g)
      (none-reached s ts n k b (second_false (writes_memory s t) (one_writes_memory s ts) h) g)

pub plain-target : (s : Scope) (t : Target) (e : Expression) → writes_memory s t ≡ false → AssignsNoMemory s (blocking t e)
plain-target s t e h n k b g = either-way (is_bit_of (s n) k b) (may_reach s t n k b) (unreached s t n k b h g)

-- ---- statements

mutual
  unassigned : (s : Scope) (x : Statement) (n : Name) (k b : ℕ) → is_unbroken (broken_statement s false x) ≡ true → is_memory (s n) ≡ true
      → may_assign s x n k b ≡ false
  unassigned s empty n k b h g = refl
  unassigned s (blocking t e) n k b h g = unreached s t n k b (unwritten s anywhere t (unbroken-also (broken_net_target s anywhere t) (broken s anywhere e) h).0) g
  unassigned s (nonblocking t e) n k b h g = unreached s t n k b (unwritten s anywhere t (unbroken-also (broken_net_target s anywhere t) (broken s anywhere e) h).0) g
  unassigned s (if_then e x) n k b h g = unassigned s x n k b (unbroken-also (broken s anywhere e) (broken_statement s false x) h).1 g
  unassigned s (if_else e x y) n k b h g =
      let q = unbroken-also (broken s anywhere e) (also (broken_statement s false x) (broken_statement s false y)) h in
      let r = unbroken-also (broken_statement s false x) (broken_statement s false y) q.1 in
      neither (may_assign s x n k b) (may_assign s y n k b) (unassigned s x n k b r.0 g) (unassigned s y n k b r.1 g)
  unassigned s (case kind e items) n k b h g = no-arm-assigns s kind items n k b (unbroken-also (broken s anywhere e) (broken_arms s false kind items) h).1 g
  unassigned s (block m xs) n k b h g = none-assigned s xs n k b h g

  none-assigned : (s : Scope) (xs : Statements) (n : Name) (k b : ℕ) → is_unbroken (broken_statements s false xs) ≡ true → is_memory (s n) ≡ true
      → may_assign_in_all s xs n k b ≡ false
  none-assigned s no_statements n k b h g = refl
  none-assigned s (statement x xs) n k b h g =
      let q = unbroken-also (broken_statement s false x) (broken_statements s false xs) h in
      neither (may_assign s x n k b) (may_assign_in_all s xs n k b) (unassigned s x n k b q.0 g) (none-assigned s xs n k b q.1 g)

  no-arm-assigns : (s : Scope) (kind : CaseKind) (items : CaseItems) (n : Name) (k b : ℕ) → is_unbroken (broken_arms s false kind items) ≡ true
      → is_memory (s n) ≡ true → may_assign_in_case s items n k b ≡ false
  no-arm-assigns s kind no_items n k b h g = refl
  no-arm-assigns s kind (arm es x items) n k b h g =
      let q = unbroken-also (broken_items s kind es) (also (broken_statement s false x) (broken_arms s false kind items)) h in
      let r = unbroken-also (broken_statement s false x) (broken_arms s false kind items) q.1 in
      neither (may_assign s x n k b) (may_assign_in_case s items n k b) (unassigned s x n k b r.0 g) (no-arm-assigns s kind items n k b r.1 g)
  no-arm-assigns s kind (default_arm x items) n k b h g =
      let q = unbroken-also (broken_statement s false x) (broken_arms s false kind items) h in
      neither (may_assign s x n k b) (may_assign_in_case s items n k b) (unassigned s x n k b q.0 g) (no-arm-assigns s kind items n k b q.1 g)

pub plain-statement : (s : Scope) (x : Statement) → is_unbroken (broken_statement s false x) ≡ true → AssignsNoMemory s x
plain-statement s x h n k b g = either-way (is_bit_of (s n) k b) (may_assign s x n k b) (unassigned s x n k b h g)
