-- Reading tokens from left to right, as the reader does: each function gives what stands at the front, and the rest.
use Rattle.std.specs.Prelude.{ℕ, zero, suc, ◌-◌, Bool, false, cond, ◌==◌, List, [], ◌∷◌, length, codes, Option, Some, None}
use Rattle.std.specs.Str.{bytes_eq}
use Rattle.wb_values.specs.Value.{Name}
use Rattle.wb_values.specs.ReservedWords.{is_reserved}
use Rattle.verilog_text.specs.Token.{Mark, left_parenthesis, right_parenthesis, left_bracket, right_bracket, left_brace, right_brace, comma, colon, question, plus_colon, minus_colon, Token, word, system, decimal, based, mark}
use Rattle.verilog_trees.specs.Syntax as tree
use Rattle.verilog_trees.specs.Syntax.{Number, Expression, Expressions, no_expressions, expression, Select, Selects, whole, one, two, Target, Targets, no_targets, target}
use Rattle.verilog_text.specs.Spelling.{plain_number, based_number, decimal_value, prefix_of, Operator, operator_of}
use Rattle.v_expr.specs.Repeat.{◌>>=◌, choose, Read, repeated}
use Rattle.v_expr.specs.Ending.{is_same_mark}

abbrev pub is_mark : Mark → Token → Bool
is_mark m (mark found) = is_same_mark found m
is_mark m _ = false

unfoldable pub after_mark : Mark → List Token → Option (List Token)
after_mark m [] = None
after_mark m (t ∷ ts) = cond (is_mark m t) (Some ts) None

-- ---- numbers

unfoldable pub number_at : List Token → Read Token Number
number_at (decimal size ∷ based text ∷ rest) = Some (based_number (Some (decimal_value size)) text, rest)
number_at (decimal text ∷ rest) = Some (plain_number text, rest)
number_at (based text ∷ rest) = Some (based_number None text, rest)
number_at _ = None

-- ---- what stands in brackets, by a reader of whole expressions

abbrev pub Reader : Type 0
Reader = List Token → Read Token Expression

-- the parts of a list as the tree has them
abbrev pub as_expressions : List Expression → Expressions
as_expressions [] = no_expressions
as_expressions (e ∷ es) = expression e (as_expressions es)

unfoldable pub next_at : Reader → List Token → Read Token Expression
next_at whole_at ts = after_mark comma ts >>= whole_at

-- behind the first part, up to the closing brace, which is passed
unfoldable pub parts_at : Reader → List Token → Read Token (List Expression)
parts_at whole_at ts = repeated (after_mark right_brace) (next_at whole_at) ts

unfoldable pub more_parts_at : Reader → Expression → List Token → Read Token (List Expression)
more_parts_at whole_at e ts = parts_at whole_at ts >>= λ others. Some (e ∷ others.0, others.1)

unfoldable pub expressions_at : Reader → List Token → Read Token (List Expression)
expressions_at whole_at ts = whole_at ts >>= λ first. more_parts_at whole_at first.0 first.1

-- behind the brace behind the count
unfoldable pub copies_at : Reader → Expression → List Token → Read Token Expression
copies_at whole_at n ts = do
  parts ← expressions_at whole_at ts
  rest ← after_mark right_brace parts.1
  Some (tree.replication n (as_expressions parts.0), rest)

-- behind the first part
unfoldable pub concatenation_at : Reader → Expression → List Token → Read Token Expression
concatenation_at whole_at e ts = more_parts_at whole_at e ts >>= λ parts. Some (tree.concatenation (as_expressions parts.0), parts.1)

-- behind the opening brace
unfoldable pub braces_at : Reader → List Token → Read Token Expression
braces_at whole_at ts = do
  first ← whole_at ts
  choose (after_mark left_brace first.1) (copies_at whole_at first.0) (concatenation_at whole_at first.0 first.1)

-- behind the opening parenthesis
unfoldable pub inside_at : Reader → List Token → Read Token Expression
inside_at whole_at ts = do
  e ← whole_at ts
  rest ← after_mark right_parenthesis e.1
  Some (e.0, rest)

-- behind the name of a conversion
unfoldable pub converted_at : Reader → (Expression → Expression) → List Token → Read Token Expression
converted_at whole_at f ts = do
  inside ← after_mark left_parenthesis ts
  e ← inside_at whole_at inside
  Some (f e.0, e.1)

unfoldable pub conversion_at : Reader → Name → List Token → Read Token Expression
conversion_at whole_at n ts =
    cond (bytes_eq n (codes "$signed")) (converted_at whole_at tree.as_signed ts) (
    cond (bytes_eq n (codes "$unsigned")) (converted_at whole_at tree.as_unsigned ts) None)

-- behind the first expression and the mark of a select, up to the closing bracket, which is passed
unfoldable pub limit_at : Reader → List Token → Read Token Expression
limit_at whole_at ts = do
  e ← whole_at ts
  rest ← after_mark right_bracket e.1
  Some (e.0, rest)

unfoldable pub second_at : Reader → (Expression → Select) → List Token → Read Token Select
second_at whole_at f ts = limit_at whole_at ts >>= λ e. Some (f e.0, e.1)

-- behind the first expression of a select
unfoldable pub limits_at : Reader → Expression → List Token → Read Token Select
limits_at whole_at e ts =
    choose (after_mark right_bracket ts) (λ rest. Some (tree.index e, rest)) (
    choose (after_mark colon ts) (second_at whole_at (tree.part e)) (
    choose (after_mark plus_colon ts) (second_at whole_at (tree.part_up e)) (
    after_mark minus_colon ts >>= second_at whole_at (tree.part_down e))))

-- behind the opening bracket
unfoldable pub select_at : Reader → List Token → Read Token Select
select_at whole_at ts = do
  e ← whole_at ts
  limits_at whole_at e.0 e.1

-- behind one select
unfoldable pub second_select_at : Reader → Select → List Token → Read Token Selects
second_select_at whole_at s ts =
    choose (after_mark left_bracket ts) (λ inside. select_at whole_at inside >>= λ t. Some (two s t.0, t.1)) (Some (one s, ts))

unfoldable pub selects_at : Reader → List Token → Read Token Selects
selects_at whole_at ts =
    choose (after_mark left_bracket ts) (λ inside. select_at whole_at inside >>= λ s. second_select_at whole_at s.0 s.1) (Some (whole, ts))

-- behind a name
unfoldable pub named_at : Reader → Name → List Token → Read Token Expression
named_at whole_at n ts =
    cond (is_reserved n) None (selects_at whole_at ts >>= λ s. Some (tree.name n s.0, s.1))

-- ---- expressions

unfoldable pub number_expression_at : List Token → Read Token Expression
number_expression_at ts = number_at ts >>= λ n. Some (tree.number n.0, n.1)

-- what stands alone
unfoldable pub alone_at : Reader → List Token → Read Token Expression
alone_at whole_at [] = None
alone_at whole_at (word n ∷ ts) = named_at whole_at n ts
alone_at whole_at (system n ∷ ts) = conversion_at whole_at n ts
alone_at whole_at (decimal text ∷ ts) = number_expression_at (decimal text ∷ ts)
alone_at whole_at (based text ∷ ts) = number_expression_at (based text ∷ ts)
alone_at whole_at (mark left_parenthesis ∷ ts) = inside_at whole_at ts
alone_at whole_at (mark left_brace ∷ ts) = braces_at whole_at ts
alone_at whole_at (mark _ ∷ ts) = None

abbrev pub prefix_from : Token → Option (Expression → Expression)
prefix_from (mark m) = prefix_of m
prefix_from _ = None

-- an operator in front of an operand, and what stands behind it
abbrev pub prefix_at : List Token → Read Token (Expression → Expression)
prefix_at [] = None
prefix_at (t ∷ ts) = prefix_from t >>= λ f. Some (f, ts)

-- operators in front of an operand
unfoldable pub prefixed_at : Reader → List Token → Read Token Expression
prefixed_at whole_at [] = None
prefixed_at whole_at (t ∷ ts) =
    choose (prefix_from t) (λ f. prefixed_at whole_at ts >>= λ e. Some (f e.0, e.1)) (alone_at whole_at (t ∷ ts))

abbrev pub of_level : ℕ → Operator → Option (Expression → Expression → Expression)
of_level k o = cond (o.level == k) (Some o.joins) None

abbrev pub joins_from : ℕ → Token → Option (Expression → Expression → Expression)
joins_from k (mark m) = operator_of m >>= of_level k
joins_from k _ = None

-- an operator of a level, and what stands behind it
unfoldable pub joins_at : ℕ → List Token → Read Token (Expression → Expression → Expression)
joins_at k [] = None
joins_at k (t ∷ ts) = joins_from k t >>= λ f. Some (f, ts)

-- Links behind an operand: operators of a level, each with an operand by a reader of one. At most so many.
unfoldable pub links_at : ℕ → Reader → ℕ → Expression → List Token → Read Token Expression
links_at k operand_at zero a ts = None
links_at k operand_at (suc n) a ts =
    choose (joins_at k ts) (λ f. operand_at f.1 >>= λ b. links_at k operand_at n (f.0 a b.0) b.1) (Some (a, ts))

-- as many as there can be
unfoldable pub linked_at : ℕ → Reader → Expression → List Token → Read Token Expression
linked_at k operand_at a ts = links_at k operand_at (suc (length ts)) a ts

unfoldable pub chain_at : ℕ → Reader → List Token → Read Token Expression
chain_at k operand_at ts = operand_at ts >>= λ a. linked_at k operand_at a.0 a.1

-- Tier 0 is what binds tightest, operands with operators in front; tier n has operators of level 12 - n between those of the tier below.
unfoldable pub tier_at : ℕ → Reader → List Token → Read Token Expression
tier_at zero whole_at ts = prefixed_at whole_at ts
tier_at (suc n) whole_at ts = chain_at (11 - n) (tier_at n whole_at) ts

-- Conditions with values, and a last value. At most so many.
unfoldable pub choices_at : Reader → ℕ → List Token → Read Token Expression
choices_at whole_at zero ts = None
choices_at whole_at (suc n) ts = do
  c ← tier_at 11 whole_at ts
  choose (after_mark question c.1) (λ value. do
    x ← whole_at value
    other ← after_mark colon x.1
    y ← choices_at whole_at n other
    Some (tree.conditional c.0 x.0 y.0, y.1))
      (Some (c.0, c.1))

-- as many as there can be
unfoldable pub conditional_at : Reader → List Token → Read Token Expression
conditional_at whole_at ts = choices_at whole_at (suc (length ts)) ts

-- an expression with at most so many levels of what stands in brackets or between ? and :
unfoldable pub expression_at : ℕ → Reader
expression_at zero ts = None
expression_at (suc d) ts = conditional_at (expression_at d) ts
