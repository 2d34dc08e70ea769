-- Whether an expression is narrow, as a test that computes. Counts of replications and bounds of part selects are read where no
-- net or variable has a value; that wants all objects of the scope narrow, which a test of its own tells (Fitting.declared_test).
use Rattle.std.specs.Prelude.{ℕ, ◌^◌, Bool, true, ◌&&◌, nat_le, nat_lt, List, [], ◌∷◌}
use Rattle.verilog_trees.specs.Syntax.{Expression, number, name, concatenation, replication, as_signed, as_unsigned, unary, reduction, binary, shift, power, comparison, logical, conditional, Expressions, no_expressions, expression, Select, index, part, part_up, part_down, Selects, whole, one, two}
use Rattle.verilog_meaning.specs.Expression.{Object, Scope, object_width, width_of, widths_of, selects_width}
use Rattle.v_syntax.specs.declared.tree.BinaryLink.{BinaryLink}
use Rattle.v_syntax.specs.declared.tree.TestLink.{TestLink}
use Rattle.v_syntax.specs.declared.tree.Choice.{Choice}
use Rattle.v_syntax.specs.declared.tree.Expression.{Expression as CodeExpression}
use Rattle.v_syntax.specs.Tree.{tree_of}

-- 1 to 128 bits
abbrev pub is_width : ℕ → Bool
is_width w = nat_le 1 w && nat_le w 128

-- the value has at most so many bits
abbrev pub number_test : ℕ → ℕ → Bool
number_test w x = is_width w && nat_lt x (2 ^ w)

-- an object that is read whole: its bits, or the word of a memory
abbrev pub is_object_narrow : Object → Bool
is_object_narrow o = nat_le (object_width o) 128

abbrev mutual
  -- `objects` says whether all objects of the scope are narrow.
  pub narrow_test : Bool → Scope → Expression → Bool
  narrow_test objects s (number k) = number_test k.width k.value
  narrow_test objects s (name n x) = selects_test objects s (s n) x
  narrow_test objects s (concatenation es) = all_test objects s es && is_width (widths_of s es)
  narrow_test objects s (replication k es) =
      (objects && (narrow_test objects s k && all_test objects s es)) && is_width (width_of s (replication k es))
  narrow_test objects s (as_signed x) = narrow_test objects s x
  narrow_test objects s (as_unsigned x) = narrow_test objects s x
  narrow_test objects s (unary op x) = narrow_test objects s x
  narrow_test objects s (reduction op x) = narrow_test objects s x
  narrow_test objects s (binary op x y) = narrow_test objects s x && narrow_test objects s y
  narrow_test objects s (shift op x n) = narrow_test objects s x && narrow_test objects s n
  narrow_test objects s (power x n) = narrow_test objects s x && narrow_test objects s n
  narrow_test objects s (comparison op x y) = narrow_test objects s x && narrow_test objects s y
  narrow_test objects s (logical op x y) = narrow_test objects s x && narrow_test objects s y
  narrow_test objects s (conditional c x y) = (narrow_test objects s c && narrow_test objects s x) && narrow_test objects s y

  pub all_test : Bool → Scope → Expressions → Bool
  all_test objects s no_expressions = true
  all_test objects s (expression e es) = narrow_test objects s e && all_test objects s es

  pub select_test : Bool → Scope → Select → Bool
  select_test objects s (index i) = narrow_test objects s i
  select_test objects s (part h l) = objects && (narrow_test objects s h && narrow_test objects s l)
  select_test objects s (part_up b n) = objects && (narrow_test objects s b && narrow_test objects s n)
  select_test objects s (part_down b n) = objects && (narrow_test objects s b && narrow_test objects s n)

  pub selects_test : Bool → Scope → Object → Selects → Bool
  selects_test objects s o whole = is_width (selects_width s o whole)
  selects_test objects s o (one x) = select_test objects s x && is_width (selects_width s o (one x))
  selects_test objects s o (two x y) = (select_test objects s x && select_test objects s y) && is_width (selects_width s o (two x y))

-- The same under names that do not unfold by themselves.
unfoldable pub narrow_at : Bool → Scope → Expression → Bool
narrow_at objects s e = narrow_test objects s e

unfoldable pub select_narrow_at : Bool → Scope → Select → Bool
select_narrow_at objects s x = select_test objects s x

unfoldable pub selects_narrow_at : Bool → Scope → Object → Selects → Bool
selects_narrow_at objects s o x = selects_test objects s o x

-- parts side by side
abbrev pub parts_test : Bool → Scope → List CodeExpression → Bool
parts_test objects s [] = true
parts_test objects s (e ∷ es) = narrow_at objects s (tree_of e) && parts_test objects s es

-- chains of operators, over the lists of their links
abbrev pub links_test : Bool → Scope → List BinaryLink → Bool
links_test objects s [] = true
links_test objects s (l ∷ ls) = narrow_at objects s (tree_of l.operand) && links_test objects s ls

abbrev pub tests_test : Bool → Scope → List TestLink → Bool
tests_test objects s [] = true
tests_test objects s (l ∷ ls) = narrow_at objects s (tree_of l.operand) && tests_test objects s ls

abbrev pub choices_test : Bool → Scope → List Choice → Bool
choices_test objects s [] = true
choices_test objects s (c ∷ cs) =
    (narrow_at objects s (tree_of c.condition) && narrow_at objects s (tree_of c.value)) && choices_test objects s cs
