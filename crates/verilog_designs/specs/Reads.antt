-- The bits that expressions and statements read, those that a statement assigns on each of its paths, and those that a block reads
-- from outside: without having assigned them before. Conditions are never folded: each branch counts.
use Rattle.std.specs.Prelude.{ℕ, zero, suc, ◌^◌, max, Bool, true, false, cond, not, ◌&&◌, ◌||◌, ◌==◌, nat_le, is_none}
use Rattle.wb_values.specs.Value.{Name, same_name}
use Rattle.verilog_trees.specs.Syntax.{Expression, number, name, concatenation, replication, as_signed, as_unsigned, unary, reduction, binary, shift, power, comparison, logical, conditional, Expressions, no_expressions, expression, Select, index, part, part_up, part_down, Selects, whole, one, two, Target, place, joined, Targets, no_targets, target, CaseKind, exact_case, wild_case, Statement, empty, blocking, nonblocking, if_then, if_else, case, block, Statements, no_statements, statement, CaseItems, no_items, arm, default_arm}
use Rattle.verilog_meaning.specs.Expression.{Scope, no_values, width_of, sign_of, value_of}
use Rattle.verilog_meaning.specs.Statement.{items_width, items_signed}
use Rattle.verilog_meaning.specs.Register.{is_constant, selects_are_constant, may_mean, is_bit_of}

-- Some bits of a module: of a name, a word of it (0 where it is no memory), and a place in the word.
abbrev pub BitSet : Type 0
BitSet = Name → (word place : ℕ) → Bool

abbrev pub no_bits : BitSet
no_bits n k b = false

abbrev pub or_in : BitSet → BitSet → BitSet
or_in p q n k b = p n k b || q n k b

abbrev pub and_in : BitSet → BitSet → BitSet
and_in p q n k b = p n k b && q n k b

abbrev pub but_not_in : BitSet → BitSet → BitSet
but_not_in p q n k b = p n k b && not (q n k b)

-- ---- what is read

-- A constant select reads its bits in range, a whole name and a variable index all bits of the name. A parameter has none.
abbrev pub name_reads : Scope → Name → Selects → BitSet
name_reads s m x n k b =
    same_name m n && (is_none (s m).constant && (is_bit_of (s m) k b && cond (selects_are_constant s x) (may_mean s (s m) x k b) true))

abbrev mutual
  -- Counts, bounds and widths of selects are constants, which read no bits.
  pub reads : Scope → Expression → BitSet
  reads s (number k) = no_bits
  reads s (name n x) = or_in (name_reads s n x) (selects_read s x)
  reads s (concatenation es) = reads_in_all s es
  reads s (replication k es) = reads_in_all s es
  reads s (as_signed x) = reads s x
  reads s (as_unsigned x) = reads s x
  reads s (unary op x) = reads s x
  reads s (reduction op x) = reads s x
  reads s (binary op x y) = or_in (reads s x) (reads s y)
  reads s (shift op x n) = or_in (reads s x) (reads s n)
  reads s (power x n) = or_in (reads s x) (reads s n)
  reads s (comparison op x y) = or_in (reads s x) (reads s y)
  reads s (logical op x y) = or_in (reads s x) (reads s y)
  reads s (conditional c x y) = or_in (reads s c) (or_in (reads s x) (reads s y))

  pub reads_in_all : Scope → Expressions → BitSet
  reads_in_all s no_expressions = no_bits
  reads_in_all s (expression e es) = or_in (reads s e) (reads_in_all s es)

  pub select_reads : Scope → Select → BitSet
  select_reads s (index i) = reads s i
  select_reads s (part h l) = no_bits
  select_reads s (part_up b n) = reads s b
  select_reads s (part_down b n) = reads s b

  pub selects_read : Scope → Selects → BitSet
  selects_read s whole = no_bits
  selects_read s (one x) = select_reads s x
  selects_read s (two x y) = or_in (select_reads s x) (select_reads s y)

abbrev mutual
  -- the indexes of a target
  pub target_reads : Scope → Target → BitSet
  target_reads s (place n x) = selects_read s x
  target_reads s (joined ts) = targets_read s ts

  pub targets_read : Scope → Targets → BitSet
  targets_read s no_targets = no_bits
  targets_read s (target t ts) = or_in (target_reads s t) (targets_read s ts)

-- all items of a case, which are read at its start
abbrev pub items_read : Scope → CaseItems → BitSet
items_read s no_items = no_bits
items_read s (arm es x items) = or_in (reads_in_all s es) (items_read s items)
items_read s (default_arm x items) = items_read s items

-- ---- what is assigned on each path

-- a bit that an assignment to the target assigns, whatever its variable indexes are
abbrev mutual
  pub surely_reaches : Scope → Target → BitSet
  surely_reaches s (place m x) n k b = same_name m n && (selects_are_constant s x && may_mean s (s m) x k b)
  surely_reaches s (joined ts) n k b = one_surely_reaches s ts n k b

  pub one_surely_reaches : Scope → Targets → BitSet
  one_surely_reaches s no_targets n k b = false
  one_surely_reaches s (target t ts) n k b = surely_reaches s t n k b || one_surely_reaches s ts n k b

abbrev pub has_default : CaseItems → Bool
has_default no_items = false
has_default (arm es x items) = has_default items
has_default (default_arm x items) = true

-- a constant item, widened so, has the value x
abbrev pub one_is : Scope → ℕ → Bool → ℕ → Expressions → Bool
one_is s w signed x no_expressions = false
one_is s w signed x (expression e es) = (is_constant s e && (value_of s no_values e w signed == x)) || one_is s w signed x es

abbrev pub items_have : Scope → ℕ → Bool → ℕ → CaseItems → Bool
items_have s w signed x no_items = false
items_have s w signed x (arm es y items) = one_is s w signed x es || items_have s w signed x items
items_have s w signed x (default_arm y items) = items_have s w signed x items

-- all values below n
abbrev pub items_have_all : Scope → ℕ → Bool → (n : ℕ) → CaseItems → Bool
items_have_all s w signed zero items = true
items_have_all s w signed (suc n) items = items_have s w signed n items && items_have_all s w signed n items

-- A case or casez is full with a default. A case is also full where its constant items have all values of the width, at most 8, to
-- which its expression and items are widened.
abbrev pub is_full : Scope → CaseKind → Expression → CaseItems → Bool
is_full s wild_case e items = has_default items
is_full s exact_case e items =
    let w : ℕ = max (width_of s e) (items_width s items) in
    has_default items || (nat_le w 8 && items_have_all s w (sign_of s e && items_signed s items) (2 ^ w) items)

abbrev mutual
  -- A nonblocking assignment assigns nothing while the block runs.
  pub surely_assigns : Scope → Statement → BitSet
  surely_assigns s empty = no_bits
  surely_assigns s (blocking t e) = surely_reaches s t
  surely_assigns s (nonblocking t e) = no_bits
  surely_assigns s (if_then c x) = no_bits
  surely_assigns s (if_else c x y) = and_in (surely_assigns s x) (surely_assigns s y)
  surely_assigns s (case kind e items) = cond (is_full s kind e items) (each_arm_assigns s items) no_bits
  surely_assigns s (block n xs) = one_surely_assigns s xs

  pub one_surely_assigns : Scope → Statements → BitSet
  one_surely_assigns s no_statements = no_bits
  one_surely_assigns s (statement x xs) = or_in (surely_assigns s x) (one_surely_assigns s xs)

  pub each_arm_assigns : Scope → CaseItems → BitSet
  each_arm_assigns s no_items n k b = true
  each_arm_assigns s (arm es x items) n k b = surely_assigns s x n k b && each_arm_assigns s items n k b
  each_arm_assigns s (default_arm x items) n k b = surely_assigns s x n k b && each_arm_assigns s items n k b

-- ---- what is read from outside

abbrev mutual
  -- The bits that a statement reads without having assigned them before, where the bits of `done` are assigned before it.
  pub reads_after : Scope → (done : BitSet) → Statement → BitSet
  reads_after s done empty = no_bits
  reads_after s done (blocking t e) = but_not_in (or_in (reads s e) (target_reads s t)) done
  reads_after s done (nonblocking t e) = but_not_in (or_in (reads s e) (target_reads s t)) done
  reads_after s done (if_then c x) = or_in (but_not_in (reads s c) done) (reads_after s done x)
  reads_after s done (if_else c x y) = or_in (but_not_in (reads s c) done) (or_in (reads_after s done x) (reads_after s done y))
  reads_after s done (case kind e items) =
      or_in (but_not_in (or_in (reads s e) (items_read s items)) done) (arms_read_after s done items)
  reads_after s done (block n xs) = all_read_after s done xs

  pub all_read_after : Scope → (done : BitSet) → Statements → BitSet
  all_read_after s done no_statements = no_bits
  all_read_after s done (statement x xs) = or_in (reads_after s done x) (all_read_after s (or_in done (surely_assigns s x)) xs)

  pub arms_read_after : Scope → (done : BitSet) → CaseItems → BitSet
  arms_read_after s done no_items = no_bits
  arms_read_after s done (arm es x items) = or_in (reads_after s done x) (arms_read_after s done items)
  arms_read_after s done (default_arm x items) = or_in (reads_after s done x) (arms_read_after s done items)

abbrev pub reads_outside : Scope → Statement → BitSet
reads_outside s x = reads_after s no_bits x
