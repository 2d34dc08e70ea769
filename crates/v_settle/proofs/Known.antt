-- What sound expressions and statements name is declared, and their numbers fit.
use Rattle.std.proofs.Common.{◌≡◌, ◌<◌, ◌^◌, subst, Bool, true, false, cond, ◌&&◌, List, [], ◌∷◌, ◌++◌, inl, inr, None, pos}
use Rattle.wb_values.specs.Value.{Name}
use Rattle.wb_values.specs.Choice.{some_if}
use Rattle.verilog_trees.specs.Syntax.{Number, UnaryOperator, ReductionOperator, BinaryOperator, ShiftOperator, ComparisonOperator, LogicalOperator, Expression, number, name, concatenation, replication, as_signed, as_unsigned, unary, reduction, binary, shift, power, comparison, logical, conditional, Expressions, no_expressions, expression, Select, index, part, part_up, part_down, Selects, whole, one, two, Target, place, joined, Targets, no_targets, target, CaseKind, Statement, empty, blocking, nonblocking, if_then, if_else, case, block, Statements, no_statements, statement, CaseItems, no_items, arm, default_arm}
use Rattle.verilog_meaning.specs.Expression.{Object, Scope, widths_of}
use Rattle.verilog_rules.specs.Expression.{Broken, anywhere, also, is_unbroken, constant_if, by_total, copies, is_below, divides, is_bad_divisor, is_bad_exponent, is_unsized, number_if, as_constant, broken, broken_parts, has_width, have_widths}
use Rattle.verilog_settled.specs.Locality.{LeavesAre, AllLeavesAre, SelectIs, SelectsAre, IndexesAre, AllIndexesAre, StatementIs, StatementsAre, ItemsAre}
use Rattle.verilog_unique.proofs.Descent.{IsAmong, among_either}
use Rattle.verilog_designs.specs.Expressions.{may_be_wild, judged_item}
use Rattle.verilog_designs.specs.Drivers.{target_names, targets_names, assigned_names, assigned_in_all, assigned_in_arms}
use Rattle.v_value.specs.Narrow.{HasNarrowObjects}
use Rattle.v_size.proofs.Unbroken.{unbroken-also}
use Rattle.v_lower.specs.Lowered.{has_sort}
use Rattle.v_lower.specs.Walking.{IsSound, sound_at, IsSelectSound, AreSelectsSound}
use Rattle.v_lower.proofs.Soundness.{sound-narrow, sound-name, sound-signed, sound-unsigned}
use Rattle.v_write.specs.Sound.{IsSoundTarget, AreSoundTargets, AreSoundValues, IsSoundStatement, AreSoundStatements, AreSoundItems}

-- the name is declared, and has a sort
abbrev pub IsNamed : Scope → Name → Type 0
IsNamed s n = has_sort (s n) ≡ true

-- ---- one form of expressions

unfoldable parts_at : Scope → Expressions → Bool
parts_at s es = is_unbroken (broken_parts s anywhere es)

number-fits : (s : Scope) (k : Number) → HasNarrowObjects s → IsSound s (number k) → k.value < 2 ^ k.width
number-fits s k objects h = (sound-narrow s (number k) objects h).1

in-unary : (s : Scope) (op : UnaryOperator) (x : Expression) → IsSound s (unary op x) → IsSound s x
unfolding sound_at
in-unary s op x h = h

in-reduction : (s : Scope) (op : ReductionOperator) (x : Expression) → IsSound s (reduction op x) → IsSound s x
unfolding sound_at
in-reduction s op x h = h

in-binary : (s : Scope) (op : BinaryOperator) (x y : Expression) → IsSound s (binary op x y) → IsSound s x × IsSound s y
unfolding sound_at
in-binary s op x y h =
    let b : Broken = broken s anywhere y in
    let q = unbroken-also (broken s anywhere x) (also (constant_if (divides op && is_bad_divisor s anywhere y (is_unbroken b))) b) h in
    let r = unbroken-also (constant_if (divides op && is_bad_divisor s anywhere y (is_unbroken b))) b q.1 in
    (q.0, r.1)

in-shift : (s : Scope) (op : ShiftOperator) (x n : Expression) → IsSound s (shift op x n) → IsSound s x × IsSound s n
unfolding sound_at
in-shift s op x n h = unbroken-also (broken s anywhere x) (broken s anywhere n) h

in-power : (s : Scope) (x n : Expression) → IsSound s (power x n) → IsSound s x × IsSound s n
unfolding sound_at
in-power s x n h =
    let b : Broken = broken s anywhere n in
    let q = unbroken-also (broken s anywhere x) (also (constant_if (is_bad_exponent anywhere (number_if b s n))) b) h in
    let r = unbroken-also (constant_if (is_bad_exponent anywhere (number_if b s n))) b q.1 in
    (q.0, r.1)

in-comparison : (s : Scope) (op : ComparisonOperator) (x y : Expression) → IsSound s (comparison op x y) → IsSound s x × IsSound s y
unfolding sound_at
in-comparison s op x y h = unbroken-also (broken s anywhere x) (broken s anywhere y) h

in-logical : (s : Scope) (op : LogicalOperator) (x y : Expression) → IsSound s (logical op x y) → IsSound s x × IsSound s y
unfolding sound_at
in-logical s op x y h = unbroken-also (broken s anywhere x) (broken s anywhere y) h

in-conditional : (s : Scope) (c x y : Expression) → IsSound s (conditional c x y) → IsSound s c × IsSound s x × IsSound s y
unfolding sound_at
in-conditional s c x y h =
    let q = unbroken-also (also (broken s anywhere c) (broken s anywhere x)) (broken s anywhere y) h in
    let r = unbroken-also (broken s anywhere c) (broken s anywhere x) q.0 in
    (r.0, r.1, q.1)

in-concatenation : (s : Scope) (es : Expressions) → IsSound s (concatenation es) → parts_at s es ≡ true
unfolding sound_at parts_at
in-concatenation s es h = (unbroken-also (by_total (some_if (have_widths s es) (widths_of s es))) (broken_parts s anywhere es) h).1

in-replication : (s : Scope) (k : Expression) (es : Expressions) → IsSound s (replication k es) → parts_at s es ≡ true
unfolding sound_at parts_at
in-replication s k es h =
    let b : Broken = broken s (as_constant s (has_width s k) k) k in
    let q = unbroken-also (also (constant_if (is_below (pos 1) (number_if b s k))) b) (also (by_total (copies (number_if b s k) (some_if (have_widths s es) (widths_of s es)))) (broken_parts s anywhere es)) h in
    (unbroken-also (by_total (copies (number_if b s k) (some_if (have_widths s es) (widths_of s es)))) (broken_parts s anywhere es) q.1).1

in-parts : (s : Scope) (e : Expression) (es : Expressions) → parts_at s (expression e es) ≡ true → IsSound s e × (parts_at s es ≡ true)
unfolding sound_at parts_at
in-parts s e es h =
    let q = unbroken-also (also (constant_if (is_unsized e)) (broken s anywhere e)) (broken_parts s anywhere es) h in
    let r = unbroken-also (constant_if (is_unsized e)) (broken s anywhere e) q.0 in
    (r.1, q.1)

-- ---- expressions

mutual
  pub leaves : (s : Scope) → HasNarrowObjects s → (e : Expression) → IsSound s e → LeavesAre (IsNamed s) e
  leaves s o (number k) h = number-fits s k o h
  leaves s o (name n x) h = let q = sound-name s n x o h in (q.sort, selects-leaves s o (s n) x q.sound)
  leaves s o (concatenation es) h = parts-leaves s o es (in-concatenation s es h)
  leaves s o (replication k es) h = parts-leaves s o es (in-replication s k es h)
  leaves s o (as_signed x) h = leaves s o x (sound-signed s x h)
  leaves s o (as_unsigned x) h = leaves s o x (sound-unsigned s x h)
  leaves s o (unary op x) h = leaves s o x (in-unary s op x h)
  leaves s o (reduction op x) h = leaves s o x (in-reduction s op x h)
  leaves s o (binary op x y) h = let q = in-binary s op x y h in (leaves s o x q.0, leaves s o y q.1)
  leaves s o (shift op x n) h = let q = in-shift s op x n h in (leaves s o x q.0, leaves s o n q.1)
  leaves s o (power x n) h = let q = in-power s x n h in (leaves s o x q.0, leaves s o n q.1)
  leaves s o (comparison op x y) h = let q = in-comparison s op x y h in (leaves s o x q.0, leaves s o y q.1)
  leaves s o (logical op x y) h = let q = in-logical s op x y h in (leaves s o x q.0, leaves s o y q.1)
  leaves s o (conditional c x y) h = let q = in-conditional s c x y h in (leaves s o c q.0, leaves s o x q.1, leaves s o y q.2)

  parts-leaves : (s : Scope) → HasNarrowObjects s → (es : Expressions) → parts_at s es ≡ true → AllLeavesAre (IsNamed s) es
  parts-leaves s o no_expressions h = tt
  parts-leaves s o (expression e es) h = let q = in-parts s e es h in (leaves s o e q.0, parts-leaves s o es q.1)

  select-leaves : (s : Scope) → HasNarrowObjects s → (x : Select) → IsSelectSound s x → SelectIs (IsNamed s) x
  select-leaves s o (index i) h = leaves s o i h
  select-leaves s o (part k l) h = tt
  select-leaves s o (part_up b n) h = leaves s o b h
  select-leaves s o (part_down b n) h = leaves s o b h

  pub selects-leaves : (s : Scope) → HasNarrowObjects s → (q : Object) (x : Selects) → AreSelectsSound s q x → SelectsAre (IsNamed s) x
  selects-leaves s o q whole h = tt
  selects-leaves s o q (one x) h = select-leaves s o x h.0
  selects-leaves s o q (two x y) h = (select-leaves s o x h.2, select-leaves s o y h.3)

-- ---- statements

judged-number : (b : Bool) (k : Number) → (cond b (record k { has_wild = false }) k).value < 2 ^ (cond b (record k { has_wild = false }) k).width → k.value < 2 ^ k.width
judged-number true k h = h
judged-number false k h = h

judged-leaves : (s : Scope) → HasNarrowObjects s → (kind : CaseKind) (e : Expression) → IsSound s (judged_item kind e) → LeavesAre (IsNamed s) e
judged-leaves s o kind (number k) h =
    judged-number (may_be_wild kind k) k (number-fits s (cond (may_be_wild kind k) (record k { has_wild = false }) k) o h)
judged-leaves s o kind (name n x) h = leaves s o (name n x) h
judged-leaves s o kind (concatenation es) h = leaves s o (concatenation es) h
judged-leaves s o kind (replication k es) h = leaves s o (replication k es) h
judged-leaves s o kind (as_signed x) h = leaves s o (as_signed x) h
judged-leaves s o kind (as_unsigned x) h = leaves s o (as_unsigned x) h
judged-leaves s o kind (unary op x) h = leaves s o (unary op x) h
judged-leaves s o kind (reduction op x) h = leaves s o (reduction op x) h
judged-leaves s o kind (binary op x y) h = leaves s o (binary op x y) h
judged-leaves s o kind (shift op x n) h = leaves s o (shift op x n) h
judged-leaves s o kind (power x n) h = leaves s o (power x n) h
judged-leaves s o kind (comparison op x y) h = leaves s o (comparison op x y) h
judged-leaves s o kind (logical op x y) h = leaves s o (logical op x y) h
judged-leaves s o kind (conditional c x y) h = leaves s o (conditional c x y) h

values-leaves : (s : Scope) → HasNarrowObjects s → (kind : CaseKind) (es : Expressions) → AreSoundValues s kind es → AllLeavesAre (IsNamed s) es
values-leaves s o kind no_expressions h = tt
values-leaves s o kind (expression e es) h = (judged-leaves s o kind e h.0, values-leaves s o kind es h.1)

mutual
  target-leaves : (s : Scope) → HasNarrowObjects s → (t : Target) → IsSoundTarget s t → IndexesAre (IsNamed s) t
  target-leaves s o (place n x) h = selects-leaves s o (s n) x (sound-name s n x o h.0).sound
  target-leaves s o (joined ts) h = targets-leaves s o ts h

  targets-leaves : (s : Scope) → HasNarrowObjects s → (ts : Targets) → AreSoundTargets s ts → AllIndexesAre (IsNamed s) ts
  targets-leaves s o no_targets h = tt
  targets-leaves s o (target t ts) h = (target-leaves s o t h.0, targets-leaves s o ts h.1)

mutual
  pub statement-leaves : (s : Scope) → HasNarrowObjects s → (x : Statement) → IsSoundStatement s x → StatementIs (IsNamed s) x
  statement-leaves s o empty h = tt
  statement-leaves s o (blocking t e) h = (target-leaves s o t h.0, leaves s o e h.3)
  statement-leaves s o (nonblocking t e) h = (target-leaves s o t h.0, leaves s o e h.3)
  statement-leaves s o (if_then c x) h = (leaves s o c h.0, statement-leaves s o x h.1)
  statement-leaves s o (if_else c x y) h = (leaves s o c h.0, statement-leaves s o x h.1, statement-leaves s o y h.2)
  statement-leaves s o (case kind e items) h = (leaves s o e h.0, items-leaves s o kind items h.1)
  statement-leaves s o (block n xs) h = all-leaves s o xs h

  all-leaves : (s : Scope) → HasNarrowObjects s → (xs : Statements) → AreSoundStatements s xs → StatementsAre (IsNamed s) xs
  all-leaves s o no_statements h = tt
  all-leaves s o (statement x xs) h = (statement-leaves s o x h.0, all-leaves s o xs h.1)

  items-leaves : (s : Scope) → HasNarrowObjects s → (kind : CaseKind) (items : CaseItems) → AreSoundItems s kind items → ItemsAre (IsNamed s) items
  items-leaves s o kind no_items h = tt
  items-leaves s o kind (arm es x items) h = (values-leaves s o kind es h.0, statement-leaves s o x h.1, items-leaves s o kind items h.2)
  items-leaves s o kind (default_arm x items) h = (statement-leaves s o x h.0, items-leaves s o kind items h.1)

-- ---- names that are assigned

-- declared, and no parameter
abbrev pub IsAssignable : Scope → Name → Type 0
IsAssignable s n = IsNamed s n × ((s n).constant ≡ None)

abbrev AreAssignable : Scope → List Name → Type 0
AreAssignable s ns = (n : Name) → IsAmong ns n → IsAssignable s n

both-assignable : (s : Scope) (ns ms : List Name) → AreAssignable s ns → AreAssignable s ms → AreAssignable s (ns ++ ms)
both-assignable s ns ms f g n h = elim (among_either ns ms n h) as (λ _. IsAssignable s n) [ inl k ↦ f n k | inr k ↦ g n k ]

none-assignable : (s : Scope) → AreAssignable s []
none-assignable s n h = absurd h

one-assignable : (s : Scope) (m : Name) → IsAssignable s m → AreAssignable s (m ∷ [])
one-assignable s m h n (inl e) = subst (IsAssignable s) e h
one-assignable s m h n (inr g) = absurd g

mutual
  target-assignable : (s : Scope) → HasNarrowObjects s → (t : Target) → IsSoundTarget s t → AreAssignable s (target_names t)
  target-assignable s o (place n x) h = one-assignable s n ((sound-name s n x o h.0).sort, h.1)
  target-assignable s o (joined ts) h = targets-assignable s o ts h

  targets-assignable : (s : Scope) → HasNarrowObjects s → (ts : Targets) → AreSoundTargets s ts → AreAssignable s (targets_names ts)
  targets-assignable s o no_targets h = none-assignable s
  targets-assignable s o (target t ts) h =
      both-assignable s (target_names t) (targets_names ts) (target-assignable s o t h.0) (targets-assignable s o ts h.1)

mutual
  pub assignable : (s : Scope) → HasNarrowObjects s → (x : Statement) → IsSoundStatement s x → AreAssignable s (assigned_names x)
  assignable s o empty h = none-assignable s
  assignable s o (blocking t e) h = target-assignable s o t h.0
  assignable s o (nonblocking t e) h = target-assignable s o t h.0
  assignable s o (if_then c x) h = assignable s o x h.1
  assignable s o (if_else c x y) h = both-assignable s (assigned_names x) (assigned_names y) (assignable s o x h.1) (assignable s o y h.2)
  assignable s o (case kind e items) h = items-assignable s o kind items h.1
  assignable s o (block n xs) h = all-assignable s o xs h

  all-assignable : (s : Scope) → HasNarrowObjects s → (xs : Statements) → AreSoundStatements s xs → AreAssignable s (assigned_in_all xs)
  all-assignable s o no_statements h = none-assignable s
  all-assignable s o (statement x xs) h =
      both-assignable s (assigned_names x) (assigned_in_all xs) (assignable s o x h.0) (all-assignable s o xs h.1)

  items-assignable : (s : Scope) → HasNarrowObjects s → (kind : CaseKind) (items : CaseItems) → AreSoundItems s kind items → AreAssignable s (assigned_in_arms items)
  items-assignable s o kind no_items h = none-assignable s
  items-assignable s o kind (arm es x items) h =
      both-assignable s (assigned_names x) (assigned_in_arms items) (assignable s o x h.1) (items-assignable s o kind items h.2)
  items-assignable s o kind (default_arm x items) h =
      both-assignable s (assigned_names x) (assigned_in_arms items) (assignable s o x h.0) (items-assignable s o kind items h.1)
