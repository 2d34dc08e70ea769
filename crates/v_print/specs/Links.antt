-- Chains of operators, link by link.
use Rattle.std.specs.Prelude.{ℕ, nat_lt, nat_le, List, [], ◌∷◌}
use Rattle.verilog_text.specs.Token.{Mark, question, colon, plus, minus, exclamation, tilde, ampersand, tilde_ampersand, bar, tilde_bar, caret, tilde_caret, star, double_star, slash, percent, double_ampersand, double_bar, less, less_equals, greater, greater_equals, double_less, double_greater, triple_greater, double_equals, exclamation_equals, Token, mark}
use Rattle.v_syntax.specs.declared.tree.PrefixOperator.{PrefixOperator}
use Rattle.v_syntax.specs.declared.tree.PrefixOperator.TheVariants.{Plus, Minus, Complement, IsZero, AllOnes, NotAllOnes, AnyOne, NoOne, OddOnes, EvenOnes}
use Rattle.v_syntax.specs.declared.tree.BinaryOperator.{BinaryOperator}
use Rattle.v_syntax.specs.declared.tree.BinaryOperator.TheVariants.{Power, Multiply, Divide, Modulo, Add, Subtract, ShiftLeft, ShiftRight, ArithmeticShiftRight, And, Xor, Xnor, Or}
use Rattle.v_syntax.specs.declared.tree.TestOperator.{TestOperator}
use Rattle.v_syntax.specs.declared.tree.TestOperator.TheVariants.{Less, LessOrEqual, Greater, GreaterOrEqual, Equal, NotEqual, Both, Either}
use Rattle.v_syntax.specs.declared.tree.BinaryLink.{BinaryLink}
use Rattle.v_syntax.specs.declared.tree.TestLink.{TestLink}
use Rattle.v_syntax.specs.declared.tree.Choice.{Choice}
use Rattle.v_syntax.specs.Tree.{tree_of}
use Rattle.v_print.specs.Spelled.{opened, closed, bracketed, level_of, bare}

abbrev pub prefix_mark : PrefixOperator → Mark
prefix_mark Plus = plus
prefix_mark Minus = minus
prefix_mark Complement = tilde
prefix_mark IsZero = exclamation
prefix_mark AllOnes = ampersand
prefix_mark NotAllOnes = tilde_ampersand
prefix_mark AnyOne = bar
prefix_mark NoOne = tilde_bar
prefix_mark OddOnes = caret
prefix_mark EvenOnes = tilde_caret

abbrev pub link_mark : BinaryOperator → Mark
link_mark Power = double_star
link_mark Multiply = star
link_mark Divide = slash
link_mark Modulo = percent
link_mark Add = plus
link_mark Subtract = minus
link_mark ShiftLeft = double_less
link_mark ShiftRight = double_greater
link_mark ArithmeticShiftRight = triple_greater
link_mark And = ampersand
link_mark Xor = caret
link_mark Xnor = tilde_caret
link_mark Or = bar

abbrev pub link_level : BinaryOperator → ℕ
link_level Power = 11
link_level Multiply = 10
link_level Divide = 10
link_level Modulo = 10
link_level Add = 9
link_level Subtract = 9
link_level ShiftLeft = 8
link_level ShiftRight = 8
link_level ArithmeticShiftRight = 8
link_level And = 5
link_level Xor = 4
link_level Xnor = 4
link_level Or = 3

abbrev pub test_mark : TestOperator → Mark
test_mark Less = less
test_mark LessOrEqual = less_equals
test_mark Greater = greater
test_mark GreaterOrEqual = greater_equals
test_mark Equal = double_equals
test_mark NotEqual = exclamation_equals
test_mark Both = double_ampersand
test_mark Either = double_bar

abbrev pub test_level : TestOperator → ℕ
test_level Less = 7
test_level LessOrEqual = 7
test_level Greater = 7
test_level GreaterOrEqual = 7
test_level Equal = 6
test_level NotEqual = 6
test_level Both = 2
test_level Either = 1

-- ---- the level of a chain, where its first operand has this one

abbrev pub level_after : ℕ → List BinaryLink → ℕ
level_after l [] = l
level_after l (k ∷ ks) = level_after (link_level k.operator) ks

abbrev pub level_after_tests : ℕ → List TestLink → ℕ
level_after_tests l [] = l
level_after_tests l (k ∷ ks) = level_after_tests (test_level k.operator) ks

abbrev pub level_over : ℕ → List PrefixOperator → ℕ
level_over l [] = l
level_over l (o ∷ os) = 12

abbrev pub level_with : ℕ → List Choice → ℕ
level_with l [] = l
level_with l (c ∷ cs) = 0

abbrev pub prefix_level : List PrefixOperator → ℕ
prefix_level [] = 0
prefix_level (o ∷ os) = 12

-- ---- brackets that open in front of a chain: one for each link that binds more tightly than what stands before it

abbrev pub openings_before : ℕ → List BinaryLink → List Token → List Token
openings_before l [] r = r
openings_before l (k ∷ ks) r = opened (nat_lt l (link_level k.operator)) (openings_before (link_level k.operator) ks r)

abbrev pub test_openings_before : ℕ → List TestLink → List Token → List Token
test_openings_before l [] r = r
test_openings_before l (k ∷ ks) r = opened (nat_lt l (test_level k.operator)) (test_openings_before (test_level k.operator) ks r)

-- ---- links

-- a link behind a chain of this level: the bracket that closes the chain, where it binds less tightly, the operator, its operand
abbrev pub link_before : ℕ → BinaryLink → List Token → List Token
link_before l k r = closed (nat_lt l (link_level k.operator)) (mark (link_mark k.operator) ∷ bracketed (nat_le (level_of (tree_of k.operand)) (link_level k.operator)) (bare (tree_of k.operand)) r)

abbrev pub test_before : ℕ → TestLink → List Token → List Token
test_before l k r = closed (nat_lt l (test_level k.operator)) (mark (test_mark k.operator) ∷ bracketed (nat_le (level_of (tree_of k.operand)) (test_level k.operator)) (bare (tree_of k.operand)) r)

abbrev pub links_before : ℕ → List BinaryLink → List Token → List Token
links_before l [] r = r
links_before l (k ∷ ks) r = link_before l k (links_before (link_level k.operator) ks r)

abbrev pub tests_before : ℕ → List TestLink → List Token → List Token
tests_before l [] r = r
tests_before l (k ∷ ks) r = test_before l k (tests_before (test_level k.operator) ks r)

-- a condition with its value, in front of the value where it is false
abbrev pub choice_before : Choice → List Token → List Token
choice_before c r = bracketed (nat_lt (level_of (tree_of c.condition)) 1) (bare (tree_of c.condition)) (mark question ∷ bare (tree_of c.value) (mark colon ∷ r))

abbrev pub choices_before : List Choice → List Token → List Token
choices_before [] r = r
choices_before (c ∷ cs) r = choice_before c (choices_before cs r)

abbrev pub prefixes_before : List PrefixOperator → List Token → List Token
prefixes_before [] r = r
prefixes_before (o ∷ os) r = mark (prefix_mark o) ∷ prefixes_before os r

-- ---- the same, opened only where a proof asks for it

unfoldable pub printed_link : ℕ → BinaryLink → List Token → List Token
printed_link l k r = link_before l k r

unfoldable pub printed_links : ℕ → List BinaryLink → List Token → List Token
printed_links l ks r = links_before l ks r

unfoldable pub printed_test : ℕ → TestLink → List Token → List Token
printed_test l k r = test_before l k r

unfoldable pub printed_tests : ℕ → List TestLink → List Token → List Token
printed_tests l ks r = tests_before l ks r

unfoldable pub printed_choice : Choice → List Token → List Token
printed_choice c r = choice_before c r

unfoldable pub printed_choices : List Choice → List Token → List Token
printed_choices cs r = choices_before cs r
