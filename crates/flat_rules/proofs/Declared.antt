-- Trees whose names are all declared break nothing by the rule on names; and what breaks no other rule then breaks none.
use Rattle.std.proofs.Common.{◌≡◌, ℕ, Bool, true, false, cond, not, ◌||◌, refl, ap, Option, Some, None, IsTrue}
use Rattle.std.proofs.lemmas.Bool.{and_from}
use Rattle.wb_values.specs.Value.{Name}
use Rattle.verilog_trees.specs.Syntax.{Expression, number, name, concatenation, replication, as_signed, as_unsigned, unary, reduction, binary, shift, power, comparison, logical, conditional, Expressions, no_expressions, expression, Select, index, part, part_up, part_down, Selects, whole, one, two, Target, place, joined, Targets, no_targets, target, CaseKind, Statement, empty, blocking, nonblocking, if_then, if_else, case, block, Statements, no_statements, statement, CaseItems, no_items, arm, default_arm}
use Rattle.verilog_meaning.specs.Expression.{Object, Scope, is_memory}
use Rattle.verilog_rules.specs.Expression.{Broken, nothing, is_unbroken, Position, anywhere, by_total, by_itself, as_constant, broken, broken_parts, broken_selects, broken_select, broken_bits, has_width}
use Rattle.verilog_designs.specs.Expressions.{broken_target, broken_targets, broken_net_target, judged_item, broken_item, broken_items, broken_block_target, broken_statement, broken_statements, broken_arms}
use Rattle.verilog_exists.proofs.Rules.{Good}
use Rattle.verilog_renamed.specs.EachName.{EachIn, EachInAll, EachInSelect, EachInSelects, EachInTarget, EachInTargets, EachInStatement, EachInStatements, EachInItems}
use Rattle.flat_rules.proofs.SameRules.{each_judged}

pub unbroken : (b : Broken) → Good b → b.undeclared ≡ false → is_unbroken b ≡ true
unbroken b g e =
    and_from (not b.undeclared) _ (ap not e)
    (and_from (not b.has_xz) _ (ap not g.digits)
    (and_from (not b.bad_constant) _ (ap not g.constants)
    (and_from (not b.width_over_128) _ (ap not g.widths)
    (and_from (not b.bad_select) _ (ap not g.selects) (and_from (not b.memory_use) (not b.misshapen) (ap not g.memories) (ap not g.shape))))))

none_of : (a b : Bool) → a ≡ false → b ≡ false → (a || b) ≡ false
none_of true b e f = e
none_of false b e f = f

no_total : (w : Option ℕ) → (by_total w).undeclared ≡ false
no_total None = refl
no_total (Some w) = refl

module _ (s : Scope) where
  abbrev pub Known : Name → Type 0
  Known n = IsTrue ((s n).is_declared)

  known_name : (b : Bool) → IsTrue b → not b ≡ false
  known_name true t = refl
  known_name false t = cc

  no_bits : (o : Object) (x : Select) → (broken_bits s o x).undeclared ≡ false
  no_bits o (index i) = refl
  no_bits o (part a b) = refl
  no_bits o (part_up a b) = refl
  no_bits o (part_down a b) = refl

  mutual
    pub expression_declared : (e : Expression) (p : Position) → EachIn Known e → (broken s p e).undeclared ≡ false
    expression_declared (number k) p a = refl
    expression_declared (name n x) p a = none_of _ (broken_selects s p (s n) x).undeclared (known_name ((s n).is_declared) a.0) (selects_declared x p (s n) a.1)
    expression_declared (concatenation es) p a = none_of _ (broken_parts s p es).undeclared (no_total _) (parts_declared es p a)
    expression_declared (replication k es) p a =
        none_of _ _ (expression_declared k (as_constant s (has_width s k) k) a.0) (none_of _ (broken_parts s p es).undeclared (no_total _) (parts_declared es p a.1))
    expression_declared (as_signed x) p a = expression_declared x (by_itself s p (has_width s x) x) a
    expression_declared (as_unsigned x) p a = expression_declared x (by_itself s p (has_width s x) x) a
    expression_declared (unary op x) p a = expression_declared x p a
    expression_declared (reduction op x) p a = expression_declared x (by_itself s p (has_width s x) x) a
    expression_declared (binary op x y) p a = none_of (broken s p x).undeclared _ (expression_declared x p a.0) (expression_declared y p a.1)
    expression_declared (shift op x y) p a =
        none_of (broken s p x).undeclared _ (expression_declared x p a.0) (expression_declared y (by_itself s p (has_width s y) y) a.1)
    expression_declared (power x y) p a =
        none_of (broken s p x).undeclared _ (expression_declared x p a.0) (expression_declared y (by_itself s p (has_width s y) y) a.1)
    expression_declared (comparison op x y) p a = none_of _ _ (expression_declared x _ a.0) (expression_declared y _ a.1)
    expression_declared (logical op x y) p a =
        none_of _ _ (expression_declared x (by_itself s p (has_width s x) x) a.0) (expression_declared y (by_itself s p (has_width s y) y) a.1)
    expression_declared (conditional c x y) p a =
        none_of _ (broken s p y).undeclared
        (none_of _ (broken s p x).undeclared (expression_declared c (by_itself s p (has_width s c) c) a.0) (expression_declared x p a.1)) (expression_declared y p a.2)

    parts_declared : (es : Expressions) (p : Position) → EachInAll Known es → (broken_parts s p es).undeclared ≡ false
    parts_declared no_expressions p a = refl
    parts_declared (expression e es) p a =
        none_of _ (broken_parts s p es).undeclared (expression_declared e (by_itself s p (has_width s e) e) a.0) (parts_declared es p a.1)

    select_declared : (x : Select) (p : Position) → EachInSelect Known x → (broken_select s p x).undeclared ≡ false
    select_declared (index i) p a = expression_declared i (by_itself s p (has_width s i) i) a
    select_declared (part x y) p a =
        none_of _ _ (expression_declared x (as_constant s (has_width s x) x) a.0) (expression_declared y (as_constant s (has_width s y) y) a.1)
    select_declared (part_up x y) p a =
        none_of _ _ (expression_declared x (by_itself s p (has_width s x) x) a.0) (expression_declared y (as_constant s (has_width s y) y) a.1)
    select_declared (part_down x y) p a =
        none_of _ _ (expression_declared x (by_itself s p (has_width s x) x) a.0) (expression_declared y (as_constant s (has_width s y) y) a.1)

    selects_declared : (x : Selects) (p : Position) (o : Object) → EachInSelects Known x → (broken_selects s p o x).undeclared ≡ false
    selects_declared whole p o a = refl
    selects_declared (one x) p o a = none_of (broken_select s p x).undeclared _ (select_declared x p a) (of_word (is_memory o))
      where
        of_word : (m : Bool) → (cond m nothing (broken_bits s o x)).undeclared ≡ false
        of_word true = refl
        of_word false = no_bits o x
    selects_declared (two x y) p o a =
        none_of (broken_select s p x).undeclared _ (select_declared x p a.0)
        (none_of (broken_select s p y).undeclared (broken_bits s o y).undeclared (select_declared y p a.1) (no_bits o y))

  mutual
    pub target_declared : (x : Target) (p : Position) → EachInTarget Known x → (broken_target s p x).undeclared ≡ false
    target_declared (place n x) p a = none_of _ (broken_selects s p (s n) x).undeclared (known_name ((s n).is_declared) a.0) (selects_declared x p (s n) a.1)
    target_declared (joined xs) p a = none_of _ (broken_targets s p xs).undeclared (no_total _) (targets_declared xs p a)

    targets_declared : (xs : Targets) (p : Position) → EachInTargets Known xs → (broken_targets s p xs).undeclared ≡ false
    targets_declared no_targets p a = refl
    targets_declared (target x xs) p a = none_of (broken_target s p x).undeclared _ (target_declared x p a.0) (targets_declared xs p a.1)

  pub net_declared : (x : Target) (p : Position) → EachInTarget Known x → (broken_net_target s p x).undeclared ≡ false
  net_declared x p a = target_declared x p a

  block_declared : (c : Bool) (x : Target) → EachInTarget Known x → (broken_block_target s c x).undeclared ≡ false
  block_declared true x a = target_declared x anywhere a
  block_declared false x a = net_declared x anywhere a

  items_declared : (kind : CaseKind) (es : Expressions) → EachInAll Known es → (broken_items s kind es).undeclared ≡ false
  items_declared kind no_expressions a = refl
  items_declared kind (expression e es) a =
      none_of (broken_item s kind e).undeclared _ (expression_declared (judged_item kind e) anywhere (each_judged Known kind e a.0)) (items_declared kind es a.1)

  mutual
    pub statement_declared : (c : Bool) (x : Statement) → EachInStatement Known x → (broken_statement s c x).undeclared ≡ false
    statement_declared c empty a = refl
    statement_declared c (blocking t e) a = none_of (broken_block_target s c t).undeclared _ (block_declared c t a.0) (expression_declared e anywhere a.1)
    statement_declared c (nonblocking t e) a = none_of (broken_block_target s c t).undeclared _ (block_declared c t a.0) (expression_declared e anywhere a.1)
    statement_declared c (if_then e x) a = none_of (broken s anywhere e).undeclared _ (expression_declared e anywhere a.0) (statement_declared c x a.1)
    statement_declared c (if_else e x y) a =
        none_of (broken s anywhere e).undeclared _ (expression_declared e anywhere a.0)
        (none_of (broken_statement s c x).undeclared _ (statement_declared c x a.1) (statement_declared c y a.2))
    statement_declared c (case kind e items) a = none_of (broken s anywhere e).undeclared _ (expression_declared e anywhere a.0) (arms_declared c kind items a.1)
    statement_declared c (block n xs) a = statements_declared c xs a

    statements_declared : (c : Bool) (xs : Statements) → EachInStatements Known xs → (broken_statements s c xs).undeclared ≡ false
    statements_declared c no_statements a = refl
    statements_declared c (statement x xs) a = none_of (broken_statement s c x).undeclared _ (statement_declared c x a.0) (statements_declared c xs a.1)

    arms_declared : (c : Bool) (kind : CaseKind) (items : CaseItems) → EachInItems Known items → (broken_arms s c kind items).undeclared ≡ false
    arms_declared c kind no_items a = refl
    arms_declared c kind (arm es x items) a =
        none_of (broken_items s kind es).undeclared _ (items_declared kind es a.0)
        (none_of (broken_statement s c x).undeclared _ (statement_declared c x a.1) (arms_declared c kind items a.2))
    arms_declared c kind (default_arm x items) a = none_of (broken_statement s c x).undeclared _ (statement_declared c x a.0) (arms_declared c kind items a.1)
