-- Clocked blocks: which bits they may assign, and what they leave at the clock's edge.
use Rattle.std.specs.Prelude.{ℕ, zero, suc, ◌+◌, ◌^◌, ◌/◌, ◌%◌, Bool, true, false, cond, ◌&&◌, ◌||◌, ◌==◌, nat_lt, List, [], ◌∷◌, ◌++◌, slice_index, Option, Some, None, is_some, option_and_then, pos, ◌+ℤ◌, int_le, int_lt}
use Rattle.wb_values.specs.Value.{Name, same_name, Value, truth_value, number as a_number, words, Valuation}
use Rattle.verilog_trees.specs.Syntax.{Expression, number, name, concatenation, replication, as_signed, as_unsigned, unary, reduction, binary, shift, power, comparison, logical, conditional, Expressions, no_expressions, expression, Select, index, part, part_up, part_down, Selects, whole, one, two, Target, place, joined, Targets, no_targets, target, Statement, empty, blocking, nonblocking, if_then, if_else, case, block, Statements, no_statements, statement, CaseItems, no_items, arm, default_arm, EdgeKind, posedge, negedge, any_edge, Event, Events, any_change, on_events, Item, port, parameter, wires, variables, assign, always, instances}
use Rattle.verilog_meaning.specs.Expression.{Object, Scope, object_width, is_memory, Bits, word_number, no_values, select_index, select_bits, distance}
use Rattle.verilog_meaning.specs.Statement.{run, Update, with_updates}

abbrev mutual
  -- The expression reads parameters and numbers alone.
  pub is_constant : Scope → Expression → Bool
  is_constant s (number k) = true
  is_constant s (name n x) = is_some (s n).constant && selects_are_constant s x
  is_constant s (concatenation es) = are_constant s es
  is_constant s (replication k es) = are_constant s es
  is_constant s (as_signed x) = is_constant s x
  is_constant s (as_unsigned x) = is_constant s x
  is_constant s (unary op x) = is_constant s x
  is_constant s (reduction op x) = is_constant s x
  is_constant s (binary op x y) = is_constant s x && is_constant s y
  is_constant s (shift op x y) = is_constant s x && is_constant s y
  is_constant s (power x y) = is_constant s x && is_constant s y
  is_constant s (comparison op x y) = is_constant s x && is_constant s y
  is_constant s (logical op x y) = is_constant s x && is_constant s y
  is_constant s (conditional c x y) = is_constant s c && (is_constant s x && is_constant s y)

  pub are_constant : Scope → Expressions → Bool
  are_constant s no_expressions = true
  are_constant s (expression e es) = is_constant s e && are_constant s es

  -- its index, or the base of +: and -:, is constant (bounds always are)
  pub select_is_constant : Scope → Select → Bool
  select_is_constant s (index i) = is_constant s i
  select_is_constant s (part h l) = true
  select_is_constant s (part_up b n) = is_constant s b
  select_is_constant s (part_down b n) = is_constant s b

  pub selects_are_constant : Scope → Selects → Bool
  selects_are_constant s whole = true
  selects_are_constant s (one x) = select_is_constant s x
  selects_are_constant s (two x y) = select_is_constant s x && select_is_constant s y

-- bit b is one of them
abbrev pub is_within : Bits → ℕ → Bool
is_within bits b = int_le bits.low (pos b) && int_lt (pos b) (bits.low +ℤ pos bits.count)

-- A select may mean bit b: it does, or its index is no constant.
abbrev pub may_mean_bit : Scope → Object → Select → ℕ → Bool
may_mean_bit s o x b = cond (select_is_constant s x) (is_within (select_bits s no_values o x) b) true

abbrev pub is_word_number : Option ℕ → ℕ → Bool
is_word_number None k = false
is_word_number (Some j) k = j == k

-- An index of a memory may mean word k.
abbrev pub may_mean_word : Scope → Object → Select → ℕ → Bool
may_mean_word s o x k =
    cond (select_is_constant s x) (is_word_number (option_and_then (λ a. word_number a (select_index s no_values x)) o.addresses) k) true

-- A name with these selects may mean bit b of word k. What is no memory has the word 0 alone.
abbrev pub may_mean : Scope → Object → Selects → ℕ → ℕ → Bool
may_mean s o whole k b = true
may_mean s o (one x) k b = cond (is_memory o) (may_mean_word s o x k) (may_mean_bit s o x b)
may_mean s o (two x y) k b = may_mean_word s o x k && may_mean_bit s o y b

abbrev mutual
  -- An assignment to the target may assign bit b of word k of name n.
  pub may_reach : Scope → Target → Name → ℕ → ℕ → Bool
  may_reach s (place m x) n k b = same_name m n && may_mean s (s m) x k b
  may_reach s (joined ts) n k b = may_reach_one s ts n k b

  pub may_reach_one : Scope → Targets → Name → ℕ → ℕ → Bool
  may_reach_one s no_targets n k b = false
  may_reach_one s (target t ts) n k b = may_reach s t n k b || may_reach_one s ts n k b

abbrev mutual
  -- A run of the statement may assign the bit. Conditions are not looked at.
  pub may_assign : Scope → Statement → Name → ℕ → ℕ → Bool
  may_assign s empty n k b = false
  may_assign s (blocking t e) n k b = may_reach s t n k b
  may_assign s (nonblocking t e) n k b = may_reach s t n k b
  may_assign s (if_then c x) n k b = may_assign s x n k b
  may_assign s (if_else c x y) n k b = may_assign s x n k b || may_assign s y n k b
  may_assign s (case kind e items) n k b = may_assign_in_case s items n k b
  may_assign s (block m xs) n k b = may_assign_in_all s xs n k b

  pub may_assign_in_all : Scope → Statements → Name → ℕ → ℕ → Bool
  may_assign_in_all s no_statements n k b = false
  may_assign_in_all s (statement x xs) n k b = may_assign s x n k b || may_assign_in_all s xs n k b

  pub may_assign_in_case : Scope → CaseItems → Name → ℕ → ℕ → Bool
  may_assign_in_case s no_items n k b = false
  may_assign_in_case s (arm es x items) n k b = may_assign s x n k b || may_assign_in_case s items n k b
  may_assign_in_case s (default_arm x items) n k b = may_assign s x n k b || may_assign_in_case s items n k b

abbrev pub is_edge : EdgeKind → Bool
is_edge posedge = true
is_edge negedge = true
is_edge any_edge = false

abbrev pub has_edge : List Event → Bool
has_edge [] = false
has_edge (e ∷ es) = is_edge e.edge || has_edge es

-- A block is clocked where its event list has an edge: the clock's, and perhaps that of an asynchronous reset.
-- Such a reset is read as sampled at the clock: the block runs at the clock's edges alone.
abbrev pub is_clocked : Events → Bool
is_clocked any_change = false
is_clocked (on_events es) = has_edge es

-- the statements of the clocked blocks, in the order of the text
abbrev pub clocked_blocks : List Item → List Statement
clocked_blocks [] = []
clocked_blocks (port d ∷ items) = clocked_blocks items
clocked_blocks (parameter d ∷ items) = clocked_blocks items
clocked_blocks (wires signed r ws ∷ items) = clocked_blocks items
clocked_blocks (variables signed r vs ∷ items) = clocked_blocks items
clocked_blocks (assign ts ∷ items) = clocked_blocks items
clocked_blocks (always es x ∷ items) = cond (is_clocked es) (x ∷ clocked_blocks items) (clocked_blocks items)
clocked_blocks (instances m given is ∷ items) = clocked_blocks items

-- those of the other blocks, which are combinational
abbrev pub combinational_blocks : List Item → List Statement
combinational_blocks [] = []
combinational_blocks (port d ∷ items) = combinational_blocks items
combinational_blocks (parameter d ∷ items) = combinational_blocks items
combinational_blocks (wires signed r ws ∷ items) = combinational_blocks items
combinational_blocks (variables signed r vs ∷ items) = combinational_blocks items
combinational_blocks (assign ts ∷ items) = combinational_blocks items
combinational_blocks (always es x ∷ items) = cond (is_clocked es) (combinational_blocks items) (x ∷ combinational_blocks items)
combinational_blocks (instances m given is ∷ items) = combinational_blocks items

-- how many words a name has: those of a memory, else one
abbrev pub words_between : Option (ℕ × ℕ) → ℕ
words_between None = 1
words_between (Some a) = distance a.0 a.1 + 1

abbrev pub word_count : Object → ℕ
word_count o = words_between o.addresses

abbrev pub is_bit_of : Object → ℕ → ℕ → Bool
is_bit_of o k b = nat_lt k (word_count o) && nat_lt b (object_width o)

abbrev pub one_may_assign : Scope → List Statement → Name → ℕ → ℕ → Bool
one_may_assign s [] n k b = false
one_may_assign s (x ∷ xs) n k b = may_assign s x n k b || one_may_assign s xs n k b

-- A bit of a name counts as a bit of a register where a clocked block may assign it.
abbrev pub counts : Scope → List Statement → Name → ℕ → ℕ → Bool
counts s clocked n k b = is_bit_of (s n) k b && one_may_assign s clocked n k b

-- Bit b of word k of a value. A number has the word 0 alone.
abbrev pub is_set : ℕ → ℕ → Bool
is_set x b = x / 2 ^ b % 2 == 1

abbrev pub value_bit : Value → ℕ → ℕ → Bool
value_bit (a_number x) zero b = is_set x b
value_bit (a_number x) (suc k) b = false
value_bit (words xs) k b = is_set (slice_index xs k) b
value_bit (truth_value t) k b = false

-- the updates of all blocks, each run on the same valuation
abbrev pub updates_of_blocks : Scope → Valuation → List Statement → List Update
updates_of_blocks s v [] = []
updates_of_blocks s v (x ∷ xs) = (run s x v).updates ++ updates_of_blocks s v xs

-- What the clocked blocks of one module leave at the clock's edge: each is run on the valuation, and their updates take
-- place in their order. (Blocks drive different bits, so which block comes first does not matter.)
abbrev pub after_edge : Scope → List Statement → Valuation → Valuation
after_edge s clocked v = with_updates s v (updates_of_blocks s v clocked)
