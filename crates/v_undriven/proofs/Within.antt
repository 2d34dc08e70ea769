-- What is read are bits of names.
use Rattle.std.proofs.Common.{◌≡◌, refl, subst, Bool, true, false, List, [], ◌∷◌, cond}
use Rattle.std.specs.Prelude.{ℕ, ◌&&◌, ◌||◌, is_none}
use Rattle.std.proofs.lemmas.Bool.{false≢true, and_parts}
use Rattle.std.proofs.lemmas.Slice.Eq.{bytes_eq-Decides}
use Rattle.wb_values.specs.Value.{Name, same_name}
use Rattle.verilog_trees.specs.Syntax.{Expression, number, name, concatenation, replication, as_signed, as_unsigned, unary, reduction, binary, shift, power, comparison, logical, conditional, Expressions, no_expressions, expression, Select, index, part, part_up, part_down, Selects, whole, one, two, Target, place, joined, Targets, no_targets, target, Statement, empty, blocking, nonblocking, if_then, if_else, case, block, Statements, no_statements, statement, CaseItems, no_items, arm, default_arm, Item, port, parameter, wires, variables, assign, always, instances}
use Rattle.verilog_meaning.specs.Expression.{Scope}
use Rattle.verilog_meaning.specs.Register.{is_bit_of}
use Rattle.verilog_meaning.specs.Settled.{wire_assignments}
use Rattle.verilog_designs.specs.Reads.{BitSet, no_bits, or_in, name_reads, reads, reads_in_all, select_reads, selects_read, target_reads, targets_read, items_read}
use Rattle.verilog_designs.specs.Drivers.{statement_reads, statements_read, arms_read}
use Rattle.v_scopes.specs.declared.table.ModuleScope.{ModuleScope}
use Rattle.v_scopes.specs.Rows.{Row, rows_of}
use Rattle.v_undriven.specs.Names.{is_output_name}
use Rattle.v_undriven.specs.Reads.{links_read, item_reads, all_items_read, output_reads, outputs_read, module_reads}

either : (p q t : Bool) → (p ≡ true → t ≡ true) → (q ≡ true → t ≡ true) → (p || q) ≡ true → t ≡ true
either true q t f g h = f refl
either false q t f g h = g h

first-of : (p q : Bool) → (p && q) ≡ true → p ≡ true
first-of true q h = refl
first-of false q h = h

-- bits that there are
abbrev Within : Scope → BitSet → Type 0
Within s p = (n : Name) (k b : ℕ) → p n k b ≡ true → is_bit_of (s n) k b ≡ true

none-within : (s : Scope) → Within s no_bits
none-within s n k b h = absurd (false≢true h)

both-within : (s : Scope) (p q : BitSet) → Within s p → Within s q → Within s (or_in p q)
both-within s p q f g n k b h = either (p n k b) (q n k b) (is_bit_of (s n) k b) (f n k b) (g n k b) h

name-within : (s : Scope) (m : Name) (x : Selects) → Within s (name_reads s m x)
name-within s m x n k b h =
    let a = and_parts (same_name m n) _ h in
    let c = and_parts (is_none (s m).constant) _ a.1 in
    subst (λ z. is_bit_of (s z) k b ≡ true) ((bytes_eq-Decides m n).0 a.0) (first-of (is_bit_of (s m) k b) _ c.1)

mutual
  expression-within : (s : Scope) (e : Expression) → Within s (reads s e)
  expression-within s (number c) = none-within s
  expression-within s (name m x) = both-within s (name_reads s m x) (selects_read s x) (name-within s m x) (selects-within s x)
  expression-within s (concatenation es) = all-within s es
  expression-within s (replication c es) = all-within s es
  expression-within s (as_signed x) = expression-within s x
  expression-within s (as_unsigned x) = expression-within s x
  expression-within s (unary op x) = expression-within s x
  expression-within s (reduction op x) = expression-within s x
  expression-within s (binary op x y) = both-within s (reads s x) (reads s y) (expression-within s x) (expression-within s y)
  expression-within s (shift op x y) = both-within s (reads s x) (reads s y) (expression-within s x) (expression-within s y)
  expression-within s (power x y) = both-within s (reads s x) (reads s y) (expression-within s x) (expression-within s y)
  expression-within s (comparison op x y) = both-within s (reads s x) (reads s y) (expression-within s x) (expression-within s y)
  expression-within s (logical op x y) = both-within s (reads s x) (reads s y) (expression-within s x) (expression-within s y)
  expression-within s (conditional c x y) =
      both-within s (reads s c) (or_in (reads s x) (reads s y)) (expression-within s c)
      (both-within s (reads s x) (reads s y) (expression-within s x) (expression-within s y))

  all-within : (s : Scope) (es : Expressions) → Within s (reads_in_all s es)
  all-within s no_expressions = none-within s
  all-within s (expression e es) = both-within s (reads s e) (reads_in_all s es) (expression-within s e) (all-within s es)

  select-within : (s : Scope) (x : Select) → Within s (select_reads s x)
  select-within s (index i) = expression-within s i
  select-within s (part l r) = none-within s
  select-within s (part_up i w) = expression-within s i
  select-within s (part_down i w) = expression-within s i

  selects-within : (s : Scope) (x : Selects) → Within s (selects_read s x)
  selects-within s whole = none-within s
  selects-within s (one x) = select-within s x
  selects-within s (two x y) = both-within s (select_reads s x) (select_reads s y) (select-within s x) (select-within s y)

mutual
  target-within : (s : Scope) (t : Target) → Within s (target_reads s t)
  target-within s (place m x) = selects-within s x
  target-within s (joined ts) = targets-within s ts

  targets-within : (s : Scope) (ts : Targets) → Within s (targets_read s ts)
  targets-within s no_targets = none-within s
  targets-within s (target t ts) = both-within s (target_reads s t) (targets_read s ts) (target-within s t) (targets-within s ts)

labels-within : (s : Scope) (items : CaseItems) → Within s (items_read s items)
labels-within s no_items = none-within s
labels-within s (arm es x items) = both-within s (reads_in_all s es) (items_read s items) (all-within s es) (labels-within s items)
labels-within s (default_arm x items) = labels-within s items

mutual
  statement-within : (s : Scope) (x : Statement) → Within s (statement_reads s x)
  statement-within s empty = none-within s
  statement-within s (blocking t e) = both-within s (reads s e) (target_reads s t) (expression-within s e) (target-within s t)
  statement-within s (nonblocking t e) = both-within s (reads s e) (target_reads s t) (expression-within s e) (target-within s t)
  statement-within s (if_then c x) = both-within s (reads s c) (statement_reads s x) (expression-within s c) (statement-within s x)
  statement-within s (if_else c x y) =
      both-within s (reads s c) (or_in (statement_reads s x) (statement_reads s y)) (expression-within s c)
      (both-within s (statement_reads s x) (statement_reads s y) (statement-within s x) (statement-within s y))
  statement-within s (case kind e items) =
      both-within s (reads s e) (or_in (items_read s items) (arms_read s items)) (expression-within s e)
      (both-within s (items_read s items) (arms_read s items) (labels-within s items) (arms-within s items))
  statement-within s (block m xs) = statements-within s xs

  statements-within : (s : Scope) (xs : Statements) → Within s (statements_read s xs)
  statements-within s no_statements = none-within s
  statements-within s (statement x xs) =
      both-within s (statement_reads s x) (statements_read s xs) (statement-within s x) (statements-within s xs)

  arms-within : (s : Scope) (items : CaseItems) → Within s (arms_read s items)
  arms-within s no_items = none-within s
  arms-within s (arm es x items) = both-within s (statement_reads s x) (arms_read s items) (statement-within s x) (arms-within s items)
  arms-within s (default_arm x items) = both-within s (statement_reads s x) (arms_read s items) (statement-within s x) (arms-within s items)

links-within : (s : Scope) (links : List (Target × Expression)) → Within s (links_read s links)
links-within s [] = none-within s
links-within s (a ∷ links) = both-within s (reads s a.1) (links_read s links) (expression-within s a.1) (links-within s links)

item-within : (s : Scope) (i : Item) → Within s (item_reads s i)
item-within s (port d) = none-within s
item-within s (parameter d) = none-within s
item-within s (wires signed r ws) = links-within s (wire_assignments ws)
item-within s (variables signed r vs) = none-within s
item-within s (assign links) = links-within s links
item-within s (always es x) = statement-within s x
item-within s (instances m given is) = none-within s

items-within : (s : Scope) (items : List Item) → Within s (all_items_read s items)
items-within s [] = none-within s
items-within s (i ∷ items) = both-within s (item_reads s i) (all_items_read s items) (item-within s i) (items-within s items)

chosen-within : (s : Scope) (t : Bool) (p : BitSet) → Within s p → Within s (cond t p no_bits)
chosen-within s true p f = f
chosen-within s false p f = none-within s

outputs-within : (s : Scope) (names : ModuleScope) (rows : List Row) → Within s (outputs_read s names rows)
outputs-within s names [] = none-within s
outputs-within s names (r ∷ rows) =
    both-within s (output_reads s names r.of_name) (outputs_read s names rows)
    (chosen-within s (is_output_name names r.of_name) (reads s (name r.of_name whole)) (expression-within s (name r.of_name whole)))
    (outputs-within s names rows)

pub module-within : (s : Scope) (names : ModuleScope) (items : List Item) (n : Name) (k b : ℕ) → module_reads s names items n k b ≡ true → is_bit_of (s n) k b ≡ true
module-within s names items =
    both-within s (all_items_read s items) (outputs_read s names (rows_of names.declared.items)) (items-within s items)
    (outputs-within s names (rows_of names.declared.items))
