-- Statements that break no rule are sound.
use Rattle.std.proofs.Common.{◌≡◌, ◌≤◌, ◌==◌, ℕ, Bool, true, false, not, ◌&&◌, nat_lt, List, [], ◌∷◌, ◌++◌, None, refl, ap, ◌∙◌, arith}
use Rattle.std.specs.Prelude.{Contains}
use Rattle.std.proofs.lemmas.Bool.{false≢true}
use Rattle.std.proofs.lemmas.Bool.Decides.{nat_tests}
use Rattle.std.proofs.lemmas.List.Elements.{Contains-append_left, Contains-append_right}
use Rattle.wb_values.specs.Value.{Name}
use Rattle.wb_values.specs.Choice.{some_if}
use Rattle.verilog_trees.specs.Syntax.{Expression, name, Expressions, no_expressions, expression, Target, place, joined, Targets, no_targets, target, CaseKind, Statement, empty, blocking, nonblocking, if_then, if_else, case, block, Statements, no_statements, statement, CaseItems, no_items, arm, default_arm}
use Rattle.verilog_meaning.specs.Expression.{Scope}
use Rattle.verilog_meaning.specs.Statement.{target_width, targets_width}
use Rattle.verilog_rules.specs.Expression.{is_unbroken, also, anywhere, by_total, broken}
use Rattle.verilog_designs.specs.Expressions.{memory_if, target_has_width, targets_have_width, broken_target, broken_targets, writes_memory, broken_block_target, judged_item, broken_item, broken_items, broken_statement, broken_statements, broken_arms}
use Rattle.verilog_designs.specs.Drivers.{target_names, targets_names, assigned_names, assigned_in_all, assigned_in_arms}
use Rattle.v_value.specs.Narrow.{IsWidth, HasNarrowObjects}
use Rattle.v_size.proofs.Unbroken.{unbroken-also, unbroken-holds}
use Rattle.v_lower.specs.Walking.{IsSound, sound_at}
use Rattle.v_write.specs.Sound.{IsSoundTarget, AreSoundTargets, IsSoundAssignment, AreSoundValues, IsSoundStatement, AreSoundStatements, AreSoundItems}

-- ---- names

abbrev AreNoParameters : Scope → List Name → Type 0
AreNoParameters s ns = (n : Name) → Contains ns n → (s n).constant ≡ None

names_before : (s : Scope) (ns ms : List Name) → AreNoParameters s (ns ++ ms) → AreNoParameters s ns
names_before s ns ms h n i = h n (Contains-append_left ns ms n i)

names_after : (s : Scope) (ns ms : List Name) → AreNoParameters s (ns ++ ms) → AreNoParameters s ms
names_after s ns ms h n i = h n (Contains-append_right ns ms n i)

one_name : (s : Scope) (n : Name) → AreNoParameters s (n ∷ []) → (s n).constant ≡ None
one_name s n h = h n (0, omega arith, refl)

-- ---- widths

both_true : (a b : Bool) → a && b ≡ true → (a ≡ true) × (b ≡ true)
both_true true b e = (refl, e)
both_true false b e = absurd (false≢true e)

not_so : (a : Bool) → not a ≡ true → a ≡ false
not_so false e = refl
not_so true e = absurd (false≢true e)

few : (w : ℕ) → nat_lt 128 w ≡ false → w ≤ 128
few w h = grind (arith, nat_tests, h)

some_bits : (w : ℕ) → (w == 0) ≡ false → 1 ≤ w
some_bits w h = grind (arith, nat_tests, h)

total_fits : (b : Bool) (w : ℕ) → b ≡ true → is_unbroken (by_total (some_if b w)) ≡ true → IsWidth w
total_fits true w e h =
    let p = both_true (not (nat_lt 128 w)) (not (w == 0)) h in
    (some_bits w (not_so (w == 0) p.1), few w (not_so (nat_lt 128 w) p.0))
total_fits false w e h = absurd (false≢true e)

both_hold : (a b : Bool) → a ≡ true → b ≡ true → a && b ≡ true
both_hold a b h k = ap (λ z. z && b) h ∙ k

-- ---- expressions

sound_from : (s : Scope) (e : Expression) → is_unbroken (broken s anywhere e) ≡ true → IsSound s e
unfolding sound_at
sound_from s e h = h

values_sound : (s : Scope) (k : CaseKind) (es : Expressions) → is_unbroken (broken_items s k es) ≡ true → AreSoundValues s k es
values_sound s k no_expressions h = tt
values_sound s k (expression e es) h =
    let q = unbroken-also (broken_item s k e) (broken_items s k es) h in
    (sound_from s (judged_item k e) q.0, values_sound s k es q.1)

-- ---- targets

mutual
  target_sound : (s : Scope) (t : Target) → is_unbroken (broken_target s anywhere t) ≡ true → AreNoParameters s (target_names t) → IsSoundTarget s t
  target_sound s (place n x) h free = (sound_from s (name n x) h, one_name s n free)
  target_sound s (joined ts) h free = targets_sound s ts (unbroken-also (by_total (some_if (targets_have_width s ts) (targets_width s ts))) (broken_targets s anywhere ts) h).1 free

  targets_sound : (s : Scope) (ts : Targets) → is_unbroken (broken_targets s anywhere ts) ≡ true → AreNoParameters s (targets_names ts) → AreSoundTargets s ts
  targets_sound s no_targets h free = tt
  targets_sound s (target t ts) h free =
      let q = unbroken-also (broken_target s anywhere t) (broken_targets s anywhere ts) h in
      (target_sound s t q.0 (names_before s (target_names t) (targets_names ts) free), targets_sound s ts q.1 (names_after s (target_names t) (targets_names ts) free))

mutual
  target_wide : (s : Scope) (t : Target) → HasNarrowObjects s → is_unbroken (broken_target s anywhere t) ≡ true → target_has_width s t ≡ true
  target_wide s (place n x) objects h = (unbroken-holds s objects anywhere (name n x) h).0
  target_wide s (joined ts) objects h = targets_wide s ts objects (unbroken-also (by_total (some_if (targets_have_width s ts) (targets_width s ts))) (broken_targets s anywhere ts) h).1

  targets_wide : (s : Scope) (ts : Targets) → HasNarrowObjects s → is_unbroken (broken_targets s anywhere ts) ≡ true → targets_have_width s ts ≡ true
  targets_wide s no_targets objects h = refl
  targets_wide s (target t ts) objects h =
      let q = unbroken-also (broken_target s anywhere t) (broken_targets s anywhere ts) h in
      both_hold (target_has_width s t) (targets_have_width s ts) (target_wide s t objects q.0) (targets_wide s ts objects q.1)

target_fits : (s : Scope) (t : Target) → HasNarrowObjects s → is_unbroken (broken_target s anywhere t) ≡ true → IsWidth (target_width s t)
target_fits s (place n x) objects h = (unbroken-holds s objects anywhere (name n x) h).1.0
target_fits s (joined ts) objects h =
    let q = unbroken-also (by_total (some_if (targets_have_width s ts) (targets_width s ts))) (broken_targets s anywhere ts) h in
    total_fits (targets_have_width s ts) (targets_width s ts) (targets_wide s ts objects q.1) q.0

in_block : (s : Scope) (c : Bool) (t : Target) → is_unbroken (broken_block_target s c t) ≡ true → is_unbroken (broken_target s anywhere t) ≡ true
in_block s true t h = h
in_block s false t h = (unbroken-also (memory_if (writes_memory s t)) (broken_target s anywhere t) h).1

-- ---- statements

assignment_sound : (s : Scope) (c : Bool) (t : Target) (e : Expression) → HasNarrowObjects s → is_unbroken (also (broken_block_target s c t) (broken s anywhere e)) ≡ true → AreNoParameters s (target_names t) → IsSoundAssignment s t e
assignment_sound s c t e objects h free =
    let q = unbroken-also (broken_block_target s c t) (broken s anywhere e) h in
    let is_target = in_block s c t q.0 in
    let fits = target_fits s t objects is_target in
    (target_sound s t is_target free, fits.0, fits.1, sound_from s e q.1)

mutual
  pub statement_sound : (s : Scope) (c : Bool) (x : Statement) → HasNarrowObjects s → is_unbroken (broken_statement s c x) ≡ true → AreNoParameters s (assigned_names x) → IsSoundStatement s x
  statement_sound s c empty objects h free = tt
  statement_sound s c (blocking t e) objects h free = assignment_sound s c t e objects h free
  statement_sound s c (nonblocking t e) objects h free = assignment_sound s c t e objects h free
  statement_sound s c (if_then e x) objects h free =
      let q = unbroken-also (broken s anywhere e) (broken_statement s c x) h in
      (sound_from s e q.0, statement_sound s c x objects q.1 free)
  statement_sound s c (if_else e x y) objects h free =
      let q = unbroken-also (broken s anywhere e) (also (broken_statement s c x) (broken_statement s c y)) h in
      let r = unbroken-also (broken_statement s c x) (broken_statement s c y) q.1 in (
        sound_from s e q.0,
        statement_sound s c x objects r.0 (names_before s (assigned_names x) (assigned_names y) free),
        statement_sound s c y objects r.1 (names_after s (assigned_names x) (assigned_names y) free),
      )
  statement_sound s c (case k e items) objects h free =
      let q = unbroken-also (broken s anywhere e) (broken_arms s c k items) h in
      (sound_from s e q.0, items_sound s c k items objects q.1 free)
  statement_sound s c (block n xs) objects h free = statements_sound s c xs objects h free

  statements_sound : (s : Scope) (c : Bool) (xs : Statements) → HasNarrowObjects s → is_unbroken (broken_statements s c xs) ≡ true → AreNoParameters s (assigned_in_all xs) → AreSoundStatements s xs
  statements_sound s c no_statements objects h free = tt
  statements_sound s c (statement x xs) objects h free =
      let q = unbroken-also (broken_statement s c x) (broken_statements s c xs) h in (
        statement_sound s c x objects q.0 (names_before s (assigned_names x) (assigned_in_all xs) free),
        statements_sound s c xs objects q.1 (names_after s (assigned_names x) (assigned_in_all xs) free),
      )

  items_sound : (s : Scope) (c : Bool) (k : CaseKind) (items : CaseItems) → HasNarrowObjects s → is_unbroken (broken_arms s c k items) ≡ true → AreNoParameters s (assigned_in_arms items) → AreSoundItems s k items
  items_sound s c k no_items objects h free = tt
  items_sound s c k (arm es x items) objects h free =
      let q = unbroken-also (broken_items s k es) (also (broken_statement s c x) (broken_arms s c k items)) h in
      let r = unbroken-also (broken_statement s c x) (broken_arms s c k items) q.1 in (
        values_sound s k es q.0,
        statement_sound s c x objects r.0 (names_before s (assigned_names x) (assigned_in_arms items) free),
        items_sound s c k items objects r.1 (names_after s (assigned_names x) (assigned_in_arms items) free),
      )
  items_sound s c k (default_arm x items) objects h free =
      let r = unbroken-also (broken_statement s c x) (broken_arms s c k items) h in (
        statement_sound s c x objects r.0 (names_before s (assigned_names x) (assigned_in_arms items) free),
        items_sound s c k items objects r.1 (names_after s (assigned_names x) (assigned_in_arms items) free),
      )
