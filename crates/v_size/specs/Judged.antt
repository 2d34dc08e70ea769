-- What the rules say of the code's expressions, selects and chains, and their widths.
use Rattle.std.specs.Prelude.{ℕ, ◌+◌, ◌*◌, min, max, Bool, true, false, cond, ◌&&◌, ◌||◌, not, nat_le, nat_lt, List, [], ◌∷◌, Option, Some, None, is_none, ℤ, pos, IsTrue}
use Rattle.wb_values.specs.Choice.{some_if}
use Rattle.verilog_trees.specs.Syntax as pure
use Rattle.verilog_trees.specs.Syntax.{index, part, part_up, part_down}
use Rattle.verilog_meaning.specs.Expression as meaning
use Rattle.verilog_meaning.specs.Expression.{Scope, Object, object_width, is_memory, width_of, widths_of, sign_of}
use Rattle.verilog_rules.specs.Expression as rules
use Rattle.v_syntax.specs.declared.tree.BinaryOperator.{BinaryOperator}
use Rattle.v_syntax.specs.declared.tree.BinaryOperator.TheVariants.{Power, Divide, Modulo, ShiftLeft, ShiftRight, ArithmeticShiftRight, Multiply, Add, Subtract, And, Xor, Xnor, Or}
use Rattle.v_syntax.specs.declared.tree.TestOperator.{TestOperator}
use Rattle.v_syntax.specs.declared.tree.Expression.{Expression}
use Rattle.v_syntax.specs.declared.tree.BinaryLink.{BinaryLink}
use Rattle.v_syntax.specs.declared.tree.TestLink.{TestLink}
use Rattle.v_syntax.specs.declared.tree.Choice.{Choice}
use Rattle.v_syntax.specs.Tree.{tree_of, expressions_of}
use Rattle.v_syntax.specs.declared.tree.PrefixOperator.{PrefixOperator}
use Rattle.v_value.specs.Links.{leaves_to_left, has_reduction}
use Rattle.v_value.specs.Evaluation.{is_logical, sign_at}
use Rattle.v_size.specs.declared.rule.Broken.{Broken}
use Rattle.v_size.specs.declared.rule.Judged.{Judged}
use Rattle.v_size.specs.declared.rule.Position.{Position}
use Rattle.v_size.specs.declared.rule.Position.TheVariants.{Anywhere, Constant}
use Rattle.v_size.specs.declared.select.Bits.{Bits}
use Rattle.v_size.specs.declared.select.Bits.TheVariants.{One, Between, Count}
use Rattle.v_size.specs.declared.select.Selected.{Selected}
use Rattle.v_size.specs.declared.judged.Left.{Left}
use Rattle.v_size.specs.Rule.{coded, both, unbroken, position_of, number_at}

-- 129 stands for all widths above 128
abbrev pub capped : Option ℕ → Option ℕ
capped None = None
capped (Some w) = Some (min w 129)

abbrev pub added : Option ℕ → Option ℕ → Option ℕ
added (Some v) (Some w) = Some (min (v + w) 129)
added _ _ = None

abbrev pub fitting : Option ℕ → Option ℕ
fitting None = None
fitting (Some w) = some_if (nat_le w 128) w

abbrev pub number_judged : pure.Number → Judged
number_judged k = record { broken = coded (rules.by_number k); width = some_if (nat_le k.width 128) k.width; unsized_number = not k.sized }

-- The bits that a select takes: one, those between two bounds, or so many.
pub data Taken : Type 0 where
  single : Taken
  bounded : Option ℤ → Option ℤ → Taken
  many : Option ℤ → Taken

abbrev pub taken_by : Bits → Taken
taken_by One = single
taken_by (Between h l) = bounded (number_at h) (number_at l)
taken_by (Count n) = many (number_at n)

-- how many bits a select takes, where its bounds or its count have values
abbrev pub taken_of : Taken → Option ℕ
taken_of single = Some 1
taken_of (bounded h l) = rules.bits_between_bounds h l
taken_of (many n) = rules.copies n (Some 1)

abbrev pub bits_broken : Object → Taken → Broken
bits_broken o single = coded rules.nothing
bits_broken o (bounded h l) = coded (rules.by_bounds o h l)
bits_broken o (many n) = coded (rules.width_if (rules.is_over_128 (rules.copies n (Some 1))))

abbrev pub read_width : Object → Option ℕ → Option ℕ
read_width o w = cond (o.is_declared && nat_le (object_width o) 128) w None

abbrev pub whole_judged : Broken → Object → Judged
whole_judged own o = record { broken = own; width = read_width o (Some (object_width o)); unsized_number = false }

abbrev pub one_judged : Broken → Object → Selected → Judged
one_judged own o x =
    cond (is_memory o)
    (record { broken = both own x.broken; width = read_width o (Some (object_width o)); unsized_number = false })
    (record { broken = both own (both x.broken (bits_broken o (taken_by x.bits))); width = read_width o (fitting (taken_of (taken_by x.bits))); unsized_number = false })

abbrev pub two_judged : Broken → Object → Broken → Selected → Judged
two_judged own o x y =
    record { broken = both own (both x (both y.broken (bits_broken o (taken_by y.bits)))); width = read_width o (fitting (taken_of (taken_by y.bits))); unsized_number = false }

-- the same place in the context of another width and sign
abbrev pub own_place : Position → Option ℕ → Bool → Position
own_place Anywhere w t = Anywhere
own_place (Constant v u) w t = Constant w t

-- What the rules say, under names that do not unfold by themselves.
unfoldable pub sized_at : Scope → pure.Expression → Option ℕ
sized_at s e = some_if (rules.has_width s e) (width_of s e)

unfoldable pub judged_at : Scope → Position → pure.Expression → Judged
judged_at s p e = record { broken = coded (rules.broken s (position_of p) e); width = sized_at s e; unsized_number = rules.is_unsized e }

abbrev pub itself_at : Scope → Position → pure.Expression → Judged
itself_at s p e = judged_at s (own_place p (sized_at s e) (sign_at s e)) e

unfoldable pub constant_broken_at : Scope → pure.Expression → Broken
constant_broken_at s e = coded (rules.broken_constant s e)

unfoldable pub constant_number_at : Scope → pure.Expression → Option ℤ
constant_number_at s e = rules.constant_number s e

-- the operand of $signed and $unsigned, and of an operator that makes one bit
abbrev pub regarded : Judged → Judged
regarded j = record { broken = j.broken; width = j.width; unsized_number = false }

abbrev pub one_bit : Judged → Judged
one_bit j = record { broken = j.broken; width = Some 1; unsized_number = false }

abbrev pub is_none_before : List PrefixOperator → Bool
is_none_before [] = true
is_none_before _ = false

abbrev pub kept : Bool → Judged → Judged
kept alone j = record { broken = j.broken; width = j.width; unsized_number = alone && j.unsized_number }

abbrev pub prefixed_at : Scope → Position → List PrefixOperator → pure.Expression → Judged
prefixed_at s p os x = cond (has_reduction os) (one_bit (itself_at s p x)) (kept (is_none_before os) (judged_at s p x))

-- an expression of this width, where it has one, fits a context of w bits, at most 128
abbrev pub fits_context : Option ℕ → ℕ → Bool
fits_context None w = false
fits_context (Some n) w = nat_le n w && nat_le w 128

-- a right operand that divides, or is an exponent
unfoldable pub divisor_test : Scope → Position → pure.Expression → Broken → Bool
divisor_test s p y b = rules.is_bad_divisor s (position_of p) y (unbroken b)

unfoldable pub exponent_test : Scope → Position → pure.Expression → Broken → Bool
exponent_test s p y b = rules.is_bad_exponent (position_of p) (some_if (unbroken b) (meaning.integer_of s meaning.no_values y))

abbrev pub constant_rule : Bool → Judged → Judged
constant_rule broken j = record { broken = both (coded (rules.constant_if broken)) j.broken; width = j.width; unsized_number = j.unsized_number }

abbrev pub divisor_at : Scope → Position → pure.Expression → Judged
divisor_at s p y = constant_rule (divisor_test s p y (judged_at s p y).broken) (judged_at s p y)

abbrev pub exponent_at : Scope → Position → pure.Expression → Judged
exponent_at s p y = constant_rule (exponent_test s p y (itself_at s p y).broken) (itself_at s p y)

abbrev pub right_at : Scope → Position → BinaryOperator → pure.Expression → Judged
right_at s p Power y = exponent_at s p y
right_at s p ShiftLeft y = itself_at s p y
right_at s p ShiftRight y = itself_at s p y
right_at s p ArithmeticShiftRight y = itself_at s p y
right_at s p Divide y = divisor_at s p y
right_at s p Modulo y = divisor_at s p y
right_at s p Multiply y = judged_at s p y
right_at s p Add y = judged_at s p y
right_at s p Subtract y = judged_at s p y
right_at s p And y = judged_at s p y
right_at s p Xor y = judged_at s p y
right_at s p Xnor y = judged_at s p y
right_at s p Or y = judged_at s p y

abbrev pub applied : BinaryOperator → Judged → Judged → Judged
applied o a b = record { broken = both a.broken b.broken; width = cond (leaves_to_left o) a.width (rules.wider a.width b.width); unsized_number = false }

-- a chain of links after an operand
abbrev pub links_judged : Scope → Position → Judged → List BinaryLink → Judged
links_judged s p a [] = a
links_judged s p a (l ∷ ls) = links_judged s p (applied l.operator a (right_at s p l.operator (tree_of l.operand))) ls

-- Tests: where the right operand stands, its own width and sign being v and u, and those of the left w and t
abbrev pub test_place : Position → TestOperator → Option ℕ → Bool → Option ℕ → Bool → Position
test_place p o w t v u = cond (is_logical o) (own_place p v u) (own_place p (rules.wider w v) (t && u))

-- and where the left one does
abbrev pub left_place : Position → TestOperator → Option ℕ → Bool → Option ℕ → Bool → Position
left_place p o w t v u = cond (is_logical o) (own_place p w t) (own_place p (rules.wider w v) (t && u))

-- where the first operand, of width w and sign t, stands before tests
abbrev pub first_place : Scope → Position → Option ℕ → Bool → List TestLink → Position
first_place s p w t [] = p
first_place s p w t (l ∷ ls) = left_place p l.operator w t (sized_at s (tree_of l.operand)) (sign_at s (tree_of l.operand))

unfoldable pub tested_at : Scope → Position → Option ℕ → Bool → TestOperator → pure.Expression → Broken
tested_at s p w t o y = (judged_at s (test_place p o w t (sized_at s y) (sign_at s y)) y).broken

abbrev pub tests_judged : Scope → Position → Left → List TestLink → Judged
tests_judged s p a [] = record { broken = a.broken; width = a.width; unsized_number = a.unsized_number }
tests_judged s p a (l ∷ ls) =
    tests_judged s p (record { broken = both a.broken (tested_at s p a.width a.signed l.operator (tree_of l.operand)); width = Some 1; signed = false; unsized_number = false }) ls

-- conditions with values before a last value
abbrev pub with_choice : Judged → Judged → Judged → Judged
with_choice a c v = record { broken = both (both c.broken v.broken) a.broken; width = rules.wider v.width a.width; unsized_number = false }

abbrev pub choices_judged : Scope → Position → Judged → List Choice → Judged
choices_judged s p a [] = a
choices_judged s p a (c ∷ cs) = choices_judged s p (with_choice a (itself_at s p (tree_of c.condition)) (judged_at s p (tree_of c.value))) cs

-- parts side by side, after others
abbrev pub with_part : Judged → Judged → Judged
with_part a e = record { broken = both a.broken (both (coded (rules.constant_if e.unsized_number)) e.broken); width = added a.width e.width; unsized_number = false }

abbrev pub no_parts : Judged
no_parts = record { broken = coded rules.nothing; width = Some 0; unsized_number = false }

abbrev pub parts_judged : Scope → Position → Judged → List Expression → Judged
parts_judged s p a [] = a
parts_judged s p a (e ∷ es) = parts_judged s p (with_part a (itself_at s p (tree_of e))) es

abbrev pub joined : Judged → Judged
joined a = record { broken = both (coded (rules.by_total a.width)) a.broken; width = fitting a.width; unsized_number = false }

abbrev pub repeated : Broken → Option ℤ → Judged → Judged
repeated b n a =
    record {
      broken = both (both (coded (rules.constant_if (rules.is_below (pos 1) n))) b) (both (coded (rules.by_total (capped (rules.copies n (capped a.width))))) a.broken);
      width = fitting (capped (rules.copies n (capped a.width)));
      unsized_number = false;
    }

-- what is found out of selects
abbrev pub counted : Broken → Option ℤ → Broken
counted b n = both (coded (rules.constant_if (rules.is_below (pos 1) n))) b

abbrev pub taken_of_select : Scope → pure.Select → Taken
taken_of_select s (index i) = single
taken_of_select s (part h l) = bounded (constant_number_at s h) (constant_number_at s l)
taken_of_select s (part_up b n) = many (constant_number_at s n)
taken_of_select s (part_down b n) = many (constant_number_at s n)

unfoldable pub taken_at : Scope → pure.Select → Taken
taken_at s x = taken_of_select s x

unfoldable pub select_broken_at : Scope → Position → pure.Select → Broken
select_broken_at s p x = coded (rules.broken_select s (position_of p) x)

unfoldable pub name_at : Scope → Position → Object → pure.Selects → Judged
name_at s p o x =
    record {
      broken = both (coded (rules.by_name (position_of p) o x)) (coded (rules.broken_selects s (position_of p) o x));
      width = some_if ((o.is_declared && nat_le (object_width o) 128) && rules.selects_have_width s o x) (meaning.selects_width s o x);
      unsized_number = false;
    }

-- an object with a number
abbrev pub with_number : Object → Object
with_number o = record o { constant = Some 0 }
