-- What is read are bits of nets and variables: a parameter has none.
use Rattle.std.proofs.Common.{refl, ℕ, Bool, true, false, List, [], ◌∷◌}
use Rattle.std.specs.Prelude.{◌||◌, is_none, IsTrue}
use Rattle.std.proofs.lemmas.Bool.{false≢true}
use Rattle.wb_values.specs.Value.{Name}
use Rattle.verilog_trees.specs.Syntax.{Expression, Expressions, Selects, Target, place, joined, Targets, no_targets, target, Statement, empty, blocking, nonblocking, if_then, if_else, case, block, Statements, no_statements, statement, CaseItems, no_items, arm, default_arm, Item, port, parameter, wires, variables, assign, always, instances}
use Rattle.verilog_meaning.specs.Expression.{Scope}
use Rattle.verilog_meaning.specs.Settled.{wire_assignments}
use Rattle.verilog_designs.specs.Reads.{BitSet, no_bits, or_in, reads, reads_in_all, selects_read, target_reads, targets_read, items_read}
use Rattle.verilog_designs.specs.Drivers.{statement_reads, statements_read, arms_read}
use Rattle.verilog_unique.proofs.Reading.{read, read_all, selects_are_read}
use Rattle.v_undriven.specs.Reads.{links_read, item_reads, all_items_read}

-- no bit is one of a parameter
abbrev OfNets : Scope → BitSet → Type 0
OfNets s p = (n : Name) (k b : ℕ) → IsTrue (p n k b) → IsTrue (is_none (s n).constant)

none_of : (s : Scope) → OfNets s no_bits
none_of s n k b h = absurd (false≢true h)

both_of : (s : Scope) (p q : BitSet) → OfNets s p → OfNets s q → OfNets s (or_in p q)
both_of s p q f g n k b h = either (p n k b) (f n k b) h
  where
    either : (t : Bool) → (IsTrue t → IsTrue (is_none (s n).constant)) → IsTrue (t || q n k b) → IsTrue (is_none (s n).constant)
    either true f h = f refl
    either false f h = g n k b h

expression_of : (s : Scope) (e : Expression) → OfNets s (reads s e)
expression_of s e n k b h = (read s e (record { of_name = n; word = k; place = b }) h).is_net

expressions_of : (s : Scope) (es : Expressions) → OfNets s (reads_in_all s es)
expressions_of s es n k b h = (read_all s es (record { of_name = n; word = k; place = b }) h).is_net

selects_of : (s : Scope) (x : Selects) → OfNets s (selects_read s x)
selects_of s x n k b h = (selects_are_read s x (record { of_name = n; word = k; place = b }) h).is_net

mutual
  target_of : (s : Scope) (t : Target) → OfNets s (target_reads s t)
  target_of s (place m x) = selects_of s x
  target_of s (joined ts) = targets_of s ts

  targets_of : (s : Scope) (ts : Targets) → OfNets s (targets_read s ts)
  targets_of s no_targets = none_of s
  targets_of s (target t ts) = both_of s (target_reads s t) (targets_read s ts) (target_of s t) (targets_of s ts)

labels_of : (s : Scope) (items : CaseItems) → OfNets s (items_read s items)
labels_of s no_items = none_of s
labels_of s (arm es x items) = both_of s (reads_in_all s es) (items_read s items) (expressions_of s es) (labels_of s items)
labels_of s (default_arm x items) = labels_of s items

mutual
  statement_of : (s : Scope) (x : Statement) → OfNets s (statement_reads s x)
  statement_of s empty = none_of s
  statement_of s (blocking t e) = both_of s (reads s e) (target_reads s t) (expression_of s e) (target_of s t)
  statement_of s (nonblocking t e) = both_of s (reads s e) (target_reads s t) (expression_of s e) (target_of s t)
  statement_of s (if_then c x) = both_of s (reads s c) (statement_reads s x) (expression_of s c) (statement_of s x)
  statement_of s (if_else c x y) =
      both_of s (reads s c) (or_in (statement_reads s x) (statement_reads s y)) (expression_of s c)
      (both_of s (statement_reads s x) (statement_reads s y) (statement_of s x) (statement_of s y))
  statement_of s (case kind e items) =
      both_of s (reads s e) (or_in (items_read s items) (arms_read s items)) (expression_of s e)
      (both_of s (items_read s items) (arms_read s items) (labels_of s items) (arms_of s items))
  statement_of s (block m xs) = statements_of s xs

  statements_of : (s : Scope) (xs : Statements) → OfNets s (statements_read s xs)
  statements_of s no_statements = none_of s
  statements_of s (statement x xs) = both_of s (statement_reads s x) (statements_read s xs) (statement_of s x) (statements_of s xs)

  arms_of : (s : Scope) (items : CaseItems) → OfNets s (arms_read s items)
  arms_of s no_items = none_of s
  arms_of s (arm es x items) = both_of s (statement_reads s x) (arms_read s items) (statement_of s x) (arms_of s items)
  arms_of s (default_arm x items) = both_of s (statement_reads s x) (arms_read s items) (statement_of s x) (arms_of s items)

links_of : (s : Scope) (links : List (Target × Expression)) → OfNets s (links_read s links)
links_of s [] = none_of s
links_of s (a ∷ links) = both_of s (reads s a.1) (links_read s links) (expression_of s a.1) (links_of s links)

item_of : (s : Scope) (i : Item) → OfNets s (item_reads s i)
item_of s (port d) = none_of s
item_of s (parameter d) = none_of s
item_of s (wires signed r ws) = links_of s (wire_assignments ws)
item_of s (variables signed r vs) = none_of s
item_of s (assign links) = links_of s links
item_of s (always es x) = statement_of s x
item_of s (instances m given is) = none_of s

pub items_of : (s : Scope) (items : List Item) → OfNets s (all_items_read s items)
items_of s [] = none_of s
items_of s (i ∷ items) = both_of s (item_reads s i) (all_items_read s items) (item_of s i) (items_of s items)
