-- What the code's chains, selects and statements read and assign, over the lists of their parts. The names that do not unfold by
-- themselves say what the definitions say.
use Rattle.std.specs.Prelude.{ℕ, Bool, true, cond, ◌&&◌, nat_lt, List, [], ◌∷◌}
use Rattle.wb_values.specs.Value.{Name, same_name}
use Rattle.verilog_trees.specs.Syntax as pure
use Rattle.verilog_meaning.specs.Expression.{Object, Scope, object_width, select_bits, no_values}
use Rattle.verilog_meaning.specs.Register.{is_constant, select_is_constant, selects_are_constant, may_mean_bit, may_mean_word, may_mean, may_reach, may_reach_one, may_assign, word_count, is_bit_of}
use Rattle.verilog_designs.specs.Reads.{BitSet, no_bits, or_in, name_reads, reads, select_reads, selects_read, target_reads, targets_read, surely_reaches, one_surely_reaches}
use Rattle.verilog_designs.specs.Drivers.{statement_reads}
use Rattle.v_syntax.specs.declared.tree.Expression.{Expression}
use Rattle.v_syntax.specs.declared.tree.BinaryLink.{BinaryLink}
use Rattle.v_syntax.specs.declared.tree.TestLink.{TestLink}
use Rattle.v_syntax.specs.declared.tree.Choice.{Choice}
use Rattle.v_syntax.specs.declared.tree.Arm.{Arm}
use Rattle.v_syntax.specs.declared.tree.CaseItem.{CaseItem, Values, Default}
use Rattle.v_syntax.specs.declared.tree.Statement.{Statement}
use Rattle.v_syntax.specs.Tree.{tree_of, statement_of, expressions_of}
use Rattle.v_value.specs.Narrow.{IsNarrow, AreNarrow}
use Rattle.v_statement.specs.Effects.{item_statement}
use Rattle.v_flow.specs.Spans.{existing}
use Rattle.v_flow.specs.Narrow.{IsNarrowFlow}

-- ---- constants

unfoldable pub constant_at : Scope → pure.Expression → Bool
constant_at s e = is_constant s e

unfoldable pub select_constant_at : Scope → pure.Select → Bool
select_constant_at s x = select_is_constant s x

unfoldable pub selects_constant_at : Scope → pure.Selects → Bool
selects_constant_at s x = selects_are_constant s x

abbrev pub parts_constant : Scope → List Expression → Bool
parts_constant s [] = true
parts_constant s (e ∷ es) = constant_at s (tree_of e) && parts_constant s es

abbrev pub links_constant : Scope → List BinaryLink → Bool
links_constant s [] = true
links_constant s (l ∷ ls) = constant_at s (tree_of l.operand) && links_constant s ls

abbrev pub tests_constant : Scope → List TestLink → Bool
tests_constant s [] = true
tests_constant s (l ∷ ls) = constant_at s (tree_of l.operand) && tests_constant s ls

abbrev pub choices_constant : Scope → List Choice → Bool
choices_constant s [] = true
choices_constant s (c ∷ cs) = constant_at s (tree_of c.condition) && (constant_at s (tree_of c.value) && choices_constant s cs)

-- ---- places

-- the words of an object that an index may mean
unfoldable pub meant_word : Scope → Object → pure.Select → ℕ → Bool
meant_word s o x k = nat_lt k (word_count o) && may_mean_word s o x k

-- the bits that a select may mean
unfoldable pub meant_bit : Scope → Object → pure.Select → ℕ → Bool
meant_bit s o x b = nat_lt b (object_width o) && may_mean_bit s o x b

-- how many bits a select takes
unfoldable pub select_count : Scope → Object → pure.Select → ℕ
select_count s o x = (select_bits s no_values o x).count

-- what a name with selects may mean
unfoldable pub place_bits : Scope → Name → pure.Selects → BitSet
place_bits s m x n k b = same_name m n && (is_bit_of (s m) k b && may_mean s (s m) x k b)

-- ---- what is read

unfoldable pub name_reads_at : Scope → Name → pure.Selects → BitSet
name_reads_at s n x = name_reads s n x

unfoldable pub reads_at : Scope → pure.Expression → BitSet
reads_at s e = reads s e

unfoldable pub select_reads_at : Scope → pure.Select → BitSet
select_reads_at s x = select_reads s x

unfoldable pub selects_read_at : Scope → pure.Selects → BitSet
selects_read_at s x = selects_read s x

abbrev pub parts_read : Scope → List Expression → BitSet
parts_read s [] = no_bits
parts_read s (e ∷ es) = or_in (reads_at s (tree_of e)) (parts_read s es)

abbrev pub links_read : Scope → List BinaryLink → BitSet
links_read s [] = no_bits
links_read s (l ∷ ls) = or_in (reads_at s (tree_of l.operand)) (links_read s ls)

abbrev pub tests_read : Scope → List TestLink → BitSet
tests_read s [] = no_bits
tests_read s (l ∷ ls) = or_in (reads_at s (tree_of l.operand)) (tests_read s ls)

abbrev pub choices_read : Scope → List Choice → BitSet
choices_read s [] = no_bits
choices_read s (c ∷ cs) = or_in (reads_at s (tree_of c.condition)) (or_in (reads_at s (tree_of c.value)) (choices_read s cs))

unfoldable pub target_reads_at : Scope → pure.Target → BitSet
target_reads_at s t = target_reads s t

unfoldable pub targets_read_at : Scope → pure.Targets → BitSet
targets_read_at s ts = targets_read s ts

-- ---- what is reached

-- the bits of a target that an assignment may assign, or surely assigns
unfoldable pub reached : Scope → (surely : Bool) → pure.Target → BitSet
reached s surely t = existing s (cond surely (surely_reaches s t) (may_reach s t))

unfoldable pub one_reached : Scope → (surely : Bool) → pure.Targets → BitSet
one_reached s surely ts = existing s (cond surely (one_surely_reaches s ts) (may_reach_one s ts))

abbrev pub place_reached : Scope → (surely : Bool) → Name → pure.Selects → BitSet
place_reached s surely n x = cond surely (cond (selects_constant_at s x) (place_bits s n x) no_bits) (place_bits s n x)

-- ---- statements

unfoldable pub statement_reads_at : Scope → pure.Statement → BitSet
statement_reads_at s x = statement_reads s x

unfoldable pub assigned_at : Scope → pure.Statement → BitSet
assigned_at s x = existing s (may_assign s x)

abbrev pub all_read : Scope → List Statement → BitSet
all_read s [] = no_bits
all_read s (x ∷ xs) = or_in (statement_reads_at s (statement_of x)) (all_read s xs)

abbrev pub ladder_reads : Scope → List Arm → BitSet
ladder_reads s [] = no_bits
ladder_reads s (a ∷ arms) = or_in (reads_at s (tree_of a.condition)) (or_in (statement_reads_at s (statement_of a.statement)) (ladder_reads s arms))

abbrev pub label_reads : Scope → CaseItem → BitSet
label_reads s (Values es x) = parts_read s es.items
label_reads s (Default x) = no_bits

abbrev pub labels_read : Scope → List CaseItem → BitSet
labels_read s [] = no_bits
labels_read s (i ∷ items) = or_in (label_reads s i) (labels_read s items)

abbrev pub bodies_read : Scope → List CaseItem → BitSet
bodies_read s [] = no_bits
bodies_read s (i ∷ items) = or_in (statement_reads_at s (item_statement i)) (bodies_read s items)

abbrev pub all_assigned : Scope → List Statement → BitSet
all_assigned s [] = no_bits
all_assigned s (x ∷ xs) = or_in (assigned_at s (statement_of x)) (all_assigned s xs)

abbrev pub ladder_assigned : Scope → List Arm → BitSet
ladder_assigned s [] = no_bits
ladder_assigned s (a ∷ arms) = or_in (assigned_at s (statement_of a.statement)) (ladder_assigned s arms)

abbrev pub bodies_assigned : Scope → List CaseItem → BitSet
bodies_assigned s [] = no_bits
bodies_assigned s (i ∷ items) = or_in (assigned_at s (item_statement i)) (bodies_assigned s items)

-- ---- narrow parts

abbrev pub AreNarrowLadder : Scope → List Arm → Type 0
AreNarrowLadder s [] = Unit {0}
AreNarrowLadder s (a ∷ arms) = IsNarrow s (tree_of a.condition) × IsNarrowFlow s (statement_of a.statement) × AreNarrowLadder s arms

abbrev pub AreNarrowAll : Scope → List Statement → Type 0
AreNarrowAll s [] = Unit {0}
AreNarrowAll s (x ∷ xs) = IsNarrowFlow s (statement_of x) × AreNarrowAll s xs

abbrev pub IsNarrowLabel : Scope → CaseItem → Type 0
IsNarrowLabel s (Values es x) = AreNarrow s (expressions_of es.items)
IsNarrowLabel s (Default x) = Unit {0}

abbrev pub AreNarrowItems : Scope → List CaseItem → Type 0
AreNarrowItems s [] = Unit {0}
AreNarrowItems s (i ∷ items) = IsNarrowLabel s i × IsNarrowFlow s (item_statement i) × AreNarrowItems s items
