-- Tokens with the expressions that they spell, by hand: each level beside its neighbours, association, brackets, selects.
use Rattle.std.specs.Prelude.{ℕ, List, [], ◌∷◌, codes, true, false}
use Rattle.verilog_text.specs.Token as t
use Rattle.verilog_text.specs.Token.{Token, word, system, decimal, mark}
use Rattle.verilog_trees.specs.Syntax.{Expression, number, name, whole, index, part_up, two as two_selects, concatenation, replication, as_signed, expression, no_expressions, unary, minus, complement, reduction, is_zero, all_ones, binary, add, subtract, multiply, bitwise_or, bitwise_xor, bitwise_and, shift, left, power, comparison, equal, less, logical, both, either, conditional}

-- what follows each of them
abbrev pub end : List Token
end = mark t.semicolon ∷ []

abbrev literal : ℕ → Expression
literal n = number (record { width = 32; sized = false; signed = true; value = n; unknown = 0; wild = 0; has_unknown = false; has_wild = false })

abbrev one : Expression
one = literal 1

abbrev two : Expression
two = literal 2

abbrev a : Expression
a = name (97 ∷ []) whole

abbrev b : Expression
b = name (98 ∷ []) whole

abbrev c : Expression
c = name (99 ∷ []) whole

abbrev d : Expression
d = name (100 ∷ []) whole

abbrev e : Expression
e = name (101 ∷ []) whole

-- a - b - c
abbrev pub text_of_left_association : List Token
text_of_left_association = word (97 ∷ []) ∷ mark t.minus ∷ word (98 ∷ []) ∷ mark t.minus ∷ word (99 ∷ []) ∷ end

abbrev pub left_association : Expression
left_association = binary subtract (binary subtract a b) c

-- a ** b ** c
abbrev pub text_of_power_to_the_left : List Token
text_of_power_to_the_left = word (97 ∷ []) ∷ mark t.double_star ∷ word (98 ∷ []) ∷ mark t.double_star ∷ word (99 ∷ []) ∷ end

abbrev pub power_to_the_left : Expression
power_to_the_left = power (power a b) c

-- a + b * c
abbrev pub text_of_product_in_sum : List Token
text_of_product_in_sum = word (97 ∷ []) ∷ mark t.plus ∷ word (98 ∷ []) ∷ mark t.star ∷ word (99 ∷ []) ∷ end

abbrev pub product_in_sum : Expression
product_in_sum = binary add a (binary multiply b c)

-- a * b ** c
abbrev pub text_of_power_in_product : List Token
text_of_power_in_product = word (97 ∷ []) ∷ mark t.star ∷ word (98 ∷ []) ∷ mark t.double_star ∷ word (99 ∷ []) ∷ end

abbrev pub power_in_product : Expression
power_in_product = binary multiply a (power b c)

-- - a ** - b
abbrev pub text_of_sign_of_base : List Token
text_of_sign_of_base = mark t.minus ∷ word (97 ∷ []) ∷ mark t.double_star ∷ mark t.minus ∷ word (98 ∷ []) ∷ end

abbrev pub sign_of_base : Expression
sign_of_base = power (unary minus a) (unary minus b)

-- a ? b : c ? d : e
abbrev pub text_of_choice_to_the_right : List Token
text_of_choice_to_the_right = word (97 ∷ []) ∷ mark t.question ∷ word (98 ∷ []) ∷ mark t.colon ∷ word (99 ∷ []) ∷ mark t.question ∷ word (100 ∷ []) ∷ mark t.colon ∷ word (101 ∷ []) ∷ end

abbrev pub choice_to_the_right : Expression
choice_to_the_right = conditional a b (conditional c d e)

-- a ? b ? c : d : e
abbrev pub text_of_choice_in_choice : List Token
text_of_choice_in_choice = word (97 ∷ []) ∷ mark t.question ∷ word (98 ∷ []) ∷ mark t.question ∷ word (99 ∷ []) ∷ mark t.colon ∷ word (100 ∷ []) ∷ mark t.colon ∷ word (101 ∷ []) ∷ end

abbrev pub choice_in_choice : Expression
choice_in_choice = conditional a (conditional b c d) e

-- a || b && c | d ^ e & a == b < c << d + e * a ** b
abbrev pub text_of_every_level : List Token
text_of_every_level = word (97 ∷ []) ∷ mark t.double_bar ∷ word (98 ∷ []) ∷ mark t.double_ampersand ∷ word (99 ∷ []) ∷ mark t.bar ∷ word (100 ∷ []) ∷ mark t.caret ∷ word (101 ∷ []) ∷ mark t.ampersand ∷ word (97 ∷ []) ∷ mark t.double_equals ∷ word (98 ∷ []) ∷ mark t.less ∷ word (99 ∷ []) ∷ mark t.double_less ∷ word (100 ∷ []) ∷ mark t.plus ∷ word (101 ∷ []) ∷ mark t.star ∷ word (97 ∷ []) ∷ mark t.double_star ∷ word (98 ∷ []) ∷ end

abbrev pub every_level : Expression
every_level = logical either a (logical both b (binary bitwise_or c (binary bitwise_xor d (binary bitwise_and e (comparison equal a (comparison less b (shift left c (binary add d (binary multiply e (power a b))))))))))

-- ( a + b ) * c
abbrev pub text_of_brackets : List Token
text_of_brackets = mark t.left_parenthesis ∷ word (97 ∷ []) ∷ mark t.plus ∷ word (98 ∷ []) ∷ mark t.right_parenthesis ∷ mark t.star ∷ word (99 ∷ []) ∷ end

abbrev pub brackets : Expression
brackets = binary multiply (binary add a b) c

-- ! ~ & a
abbrev pub text_of_prefixes : List Token
text_of_prefixes = mark t.exclamation ∷ mark t.tilde ∷ mark t.ampersand ∷ word (97 ∷ []) ∷ end

abbrev pub prefixes : Expression
prefixes = reduction is_zero (unary complement (reduction all_ones a))

-- { 2 { a , b } }
abbrev pub text_of_copies : List Token
text_of_copies = mark t.left_brace ∷ decimal (50 ∷ []) ∷ mark t.left_brace ∷ word (97 ∷ []) ∷ mark t.comma ∷ word (98 ∷ []) ∷ mark t.right_brace ∷ mark t.right_brace ∷ end

abbrev pub copies : Expression
copies = replication two (expression a (expression b no_expressions))

-- { a , b [ 1 ] [ c +: 2 ] }
abbrev pub text_of_parts : List Token
text_of_parts = mark t.left_brace ∷ word (97 ∷ []) ∷ mark t.comma ∷ word (98 ∷ []) ∷ mark t.left_bracket ∷ decimal (49 ∷ []) ∷ mark t.right_bracket ∷ mark t.left_bracket ∷ word (99 ∷ []) ∷ mark t.plus_colon ∷ decimal (50 ∷ []) ∷ mark t.right_bracket ∷ mark t.right_brace ∷ end

abbrev pub parts : Expression
parts = concatenation (expression a (expression (name (98 ∷ []) (two_selects (index one) (part_up c two))) no_expressions))

-- $signed ( a ) < b
abbrev pub text_of_conversion : List Token
text_of_conversion = system (codes "$signed") ∷ mark t.left_parenthesis ∷ word (97 ∷ []) ∷ mark t.right_parenthesis ∷ mark t.less ∷ word (98 ∷ []) ∷ end

abbrev pub conversion : Expression
conversion = comparison less (as_signed a) b
