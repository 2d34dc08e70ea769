-- What statements assign on each path and read from outside, over the lists of the code's trees. The names that do not unfold by
-- themselves say what the definitions say.
use Rattle.std.specs.Prelude.{Bool, true, false, cond, List, [], ◌∷◌}
use Rattle.verilog_trees.specs.Syntax as pure
use Rattle.verilog_meaning.specs.Expression.{Scope}
use Rattle.verilog_designs.specs.Reads.{BitSet, no_bits, or_in, and_in, but_not_in, reads, reads_in_all, surely_assigns, reads_outside}
use Rattle.v_syntax.specs.declared.tree.Arm.{Arm}
use Rattle.v_syntax.specs.declared.tree.CaseItem.{CaseItem, Values, Default}
use Rattle.v_syntax.specs.declared.tree.Statement.{Statement}
use Rattle.v_syntax.specs.Tree.{tree_of, statement_of, expressions_of}
use Rattle.v_statement.specs.Effects.{item_statement}
use Rattle.v_flow.specs.Spans.{existing}

-- the bits that a statement assigns on each path
unfoldable pub sure_at : Scope → pure.Statement → BitSet
sure_at s x = existing s (surely_assigns s x)

-- the bits that it reads from outside
unfoldable pub outside_at : Scope → pure.Statement → BitSet
outside_at s x = reads_outside s x

-- what the labels of an item read
abbrev pub item_reads : Scope → CaseItem → BitSet
item_reads s (Values es x) = reads_in_all s (expressions_of es.items)
item_reads s (Default x) = no_bits

-- ---- statements in turn

abbrev pub all_sure : Scope → List Statement → BitSet
all_sure s [] = no_bits
all_sure s (x ∷ xs) = or_in (sure_at s (statement_of x)) (all_sure s xs)

abbrev pub all_outside : Scope → List Statement → BitSet
all_outside s [] = no_bits
all_outside s (x ∷ xs) = or_in (outside_at s (statement_of x)) (but_not_in (all_outside s xs) (sure_at s (statement_of x)))

-- ---- arms of an if, where this is assigned after the last else

abbrev pub ladder_sure : Scope → List Arm → BitSet → BitSet
ladder_sure s [] p = p
ladder_sure s (a ∷ arms) p = ladder_sure s arms (and_in (sure_at s (statement_of a.statement)) p)

abbrev pub ladder_outside : Scope → List Arm → BitSet
ladder_outside s [] = no_bits
ladder_outside s (a ∷ arms) = or_in (reads s (tree_of a.condition)) (or_in (outside_at s (statement_of a.statement)) (ladder_outside s arms))

-- ---- items of a case

-- the bits of the first, or those of a further one that those before have
abbrev pub met : (first : Bool) → BitSet → BitSet → BitSet
met true p q = p
met false p q = and_in p q

abbrev pub bodies_sure : Scope → List CaseItem → (first : Bool) → BitSet → BitSet
bodies_sure s [] first p = p
bodies_sure s (i ∷ items) first p = bodies_sure s items false (met first (sure_at s (item_statement i)) p)

abbrev pub bodies_outside : Scope → List CaseItem → BitSet
bodies_outside s [] = no_bits
bodies_outside s (i ∷ items) = or_in (outside_at s (item_statement i)) (bodies_outside s items)

-- what a case assigns, where each of its items assigns so
abbrev pub where_full : (full : Bool) → BitSet → BitSet
where_full full p = cond full p no_bits
