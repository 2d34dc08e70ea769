-- What the reader chooses by single tokens, and what each choice reads.
use Rattle.std.specs.Prelude.{List, Some, None}
use Rattle.verilog_text.specs.Token.{Mark, right_parenthesis, right_bracket, Token}
use Rattle.verilog_trees.specs.Syntax as tree
use Rattle.verilog_trees.specs.Syntax.{Expression, Select, Selects}
use Rattle.v_syntax.specs.declared.tree.Choice.{Choice}
use Rattle.v_syntax.specs.Tree.{number_of, tree_of}
use Rattle.v_syntax.specs.Chain.{chosen}
use Rattle.v_token.specs.View.{tokens_of}
use Rattle.v_expr.specs.Repeat.{◌>>=◌, Read}
use Rattle.v_expr.specs.Reading.{Reader, after_mark, braces_at, selects_at}
use Rattle.v_expr.specs.declared.start.Conversion.{Conversion}
use Rattle.v_expr.specs.declared.start.Conversion.TheVariants.{Unchanged, Signed, Unsigned}
use Rattle.v_expr.specs.declared.start.Start.{Start}
use Rattle.v_expr.specs.declared.start.Start.TheVariants.{Number, Name, Inside, Braces, Nothing}
use Rattle.v_expr.specs.declared.limit.RangeKind.{RangeKind}
use Rattle.v_expr.specs.declared.limit.RangeKind.TheVariants.{Part, PartUp, PartDown}
use Rattle.v_expr.specs.declared.limit.Limit.{Limit}
use Rattle.v_expr.specs.declared.limit.Limit.TheVariants as limits

-- an expression and the mark behind it, which is passed
abbrev pub closed_by : Mark → Read Token Expression → Read Token Expression
closed_by m r = r >>= λ e. after_mark m e.1 >>= λ rest. Some (e.0, rest)

unfoldable pub closed_at : Mark → Reader → Reader
closed_at m whole_at ts = closed_by m (whole_at ts)

-- an operator and its operands, the right one as it was read
abbrev pub joined_by : (Expression → Expression → Expression) → Expression → Read Token Expression → Read Token Expression
joined_by f a r = r >>= λ b. Some (f a b.0, b.1)

-- a condition and its value, as it was read
abbrev pub valued_by : Expression → Read Token Expression → Read Token (Expression × Expression)
valued_by c r = r >>= λ x. Some ((c, x.0), x.1)

-- two selects, the second as it was read
abbrev pub two_by : Select → Read Token Select → Read Token Selects
two_by s r = r >>= λ t. Some (tree.two s t.0, t.1)

-- conditions with values, and the last value as it was read
abbrev pub chosen_by : List Choice → Read Token Expression → Read Token Expression
chosen_by cs r = r >>= λ y. Some (chosen cs y.0, y.1)

abbrev pub choice_of : Choice → Expression × Expression
choice_of c = (tree_of c.condition, tree_of c.value)

abbrev pub converts : Conversion → Expression → Expression
converts Unchanged e = e
converts Signed e = tree.as_signed e
converts Unsigned e = tree.as_unsigned e

-- what stands alone, by how it starts
abbrev pub started : Reader → Start → Read Token Expression
started whole_at (Number n rest) = Some (tree.number (number_of n), tokens_of rest.now)
started whole_at (Name n rest) = selects_at whole_at (tokens_of rest.now) >>= λ s. Some (tree.name n.now s.0, s.1)
started whole_at (Inside c rest) = closed_at right_parenthesis whole_at (tokens_of rest.now) >>= λ e. Some (converts c e.0, e.1)
started whole_at (Braces rest) = braces_at whole_at (tokens_of rest.now)
started whole_at (Nothing rest) = None

abbrev pub range_of : RangeKind → Expression → Expression → Select
range_of Part = tree.part
range_of PartUp = tree.part_up
range_of PartDown = tree.part_down

-- a select of a kind, its second expression as it was read
abbrev pub ranged_by : RangeKind → Expression → Read Token Expression → Read Token Select
ranged_by kind e r = r >>= λ x. Some (range_of kind e x.0, x.1)

-- what stands behind the first expression of a select, by its mark
abbrev pub limited : Reader → Expression → Limit → Read Token Select
limited whole_at e (limits.Index rest) = Some (tree.index e, tokens_of rest.now)
limited whole_at e (limits.Range kind rest) = ranged_by kind e (closed_at right_bracket whole_at (tokens_of rest.now))
limited whole_at e limits.Nothing = None
