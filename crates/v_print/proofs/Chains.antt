-- Printed chains of operators, link by link.
use Rattle.std.proofs.Common.{◌≡◌, ℕ, Bool, true, false, List, [], ◌∷◌, refl, sym, ap, ◌∙◌, arith, le-ltb}
use Rattle.std.specs.Prelude.{nat_lt}
use Rattle.verilog_text.specs.Token.{left_parenthesis, Token, mark}
use Rattle.verilog_trees.specs.Syntax as pure
use Rattle.v_syntax.specs.declared.tree.PrefixOperator.{PrefixOperator}
use Rattle.v_syntax.specs.declared.tree.PrefixOperator.TheVariants.{Plus, Minus, Complement, IsZero, AllOnes, NotAllOnes, AnyOne, NoOne, OddOnes, EvenOnes}
use Rattle.v_syntax.specs.declared.tree.BinaryOperator.{BinaryOperator}
use Rattle.v_syntax.specs.declared.tree.BinaryOperator.TheVariants.{Power, Multiply, Divide, Modulo, Add, Subtract, ShiftLeft, ShiftRight, ArithmeticShiftRight, And, Xor, Xnor, Or}
use Rattle.v_syntax.specs.declared.tree.TestOperator.{TestOperator}
use Rattle.v_syntax.specs.declared.tree.TestOperator.TheVariants.{Less, LessOrEqual, Greater, GreaterOrEqual, Equal, NotEqual, Both, Either}
use Rattle.v_syntax.specs.declared.tree.BinaryLink.{BinaryLink}
use Rattle.v_syntax.specs.declared.tree.TestLink.{TestLink}
use Rattle.v_syntax.specs.declared.tree.Choice.{Choice}
use Rattle.v_syntax.specs.Tree.{tree_of, prefixed, all_prefixed, combined, tested}
use Rattle.v_syntax.specs.Chain.{linked, test_linked, chosen}
use Rattle.v_print.specs.Spelled.{opened, bracketed, joined_before, level_of, bare}
use Rattle.v_print.specs.Links.{prefix_mark, link_mark, link_level, test_mark, test_level, level_after, level_after_tests, prefix_level, openings_before, test_openings_before, link_before, test_before, links_before, tests_before, choice_before, choices_before, prefixes_before}

none_below : (n : ℕ) → nat_lt n 0 ≡ false
none_below n = le-ltb n 0 (omega arith)

-- ---- operators between operands

combined_level : (o : BinaryOperator) (x y : pure.Expression) → level_of (combined o x y) ≡ link_level o
combined_level Power x y = refl
combined_level Multiply x y = refl
combined_level Divide x y = refl
combined_level Modulo x y = refl
combined_level Add x y = refl
combined_level Subtract x y = refl
combined_level ShiftLeft x y = refl
combined_level ShiftRight x y = refl
combined_level ArithmeticShiftRight x y = refl
combined_level And x y = refl
combined_level Xor x y = refl
combined_level Xnor x y = refl
combined_level Or x y = refl

combined_bare : (o : BinaryOperator) (x y : pure.Expression) (r : List Token) → bare (combined o x y) r ≡ joined_before (link_level o) (link_mark o) (level_of x) (bare x) (level_of y) (bare y) r
combined_bare Power x y r = refl
combined_bare Multiply x y r = refl
combined_bare Divide x y r = refl
combined_bare Modulo x y r = refl
combined_bare Add x y r = refl
combined_bare Subtract x y r = refl
combined_bare ShiftLeft x y r = refl
combined_bare ShiftRight x y r = refl
combined_bare ArithmeticShiftRight x y r = refl
combined_bare And x y r = refl
combined_bare Xor x y r = refl
combined_bare Xnor x y r = refl
combined_bare Or x y r = refl

tested_level : (o : TestOperator) (x y : pure.Expression) → level_of (tested o x y) ≡ test_level o
tested_level Less x y = refl
tested_level LessOrEqual x y = refl
tested_level Greater x y = refl
tested_level GreaterOrEqual x y = refl
tested_level Equal x y = refl
tested_level NotEqual x y = refl
tested_level Both x y = refl
tested_level Either x y = refl

tested_bare : (o : TestOperator) (x y : pure.Expression) (r : List Token) → bare (tested o x y) r ≡ joined_before (test_level o) (test_mark o) (level_of x) (bare x) (level_of y) (bare y) r
tested_bare Less x y r = refl
tested_bare LessOrEqual x y r = refl
tested_bare Greater x y r = refl
tested_bare GreaterOrEqual x y r = refl
tested_bare Equal x y r = refl
tested_bare NotEqual x y r = refl
tested_bare Both x y r = refl
tested_bare Either x y r = refl

-- a bracket opened after others is as good as one opened before them
swapped : (b : Bool) (q p : List Token) → q ≡ mark left_parenthesis ∷ p → opened b q ≡ mark left_parenthesis ∷ opened b p
swapped true q p e = ap (λ (t : List Token). mark left_parenthesis ∷ t) e
swapped false q p e = e

opened_inside : (l : ℕ) (ks : List BinaryLink) (q : List Token) → openings_before l ks (mark left_parenthesis ∷ q) ≡ mark left_parenthesis ∷ openings_before l ks q
opened_inside l [] q = refl
opened_inside l (k ∷ ks) q =
    swapped (nat_lt l (link_level k.operator)) (openings_before (link_level k.operator) ks (mark left_parenthesis ∷ q)) (openings_before (link_level k.operator) ks q)
    (opened_inside (link_level k.operator) ks q)

one_more : (b : Bool) (l : ℕ) (ks : List BinaryLink) (q : List Token) → openings_before l ks (opened b q) ≡ opened b (openings_before l ks q)
one_more false l ks q = refl
one_more true l ks q = opened_inside l ks q

test_opened_inside : (l : ℕ) (ks : List TestLink) (q : List Token) → test_openings_before l ks (mark left_parenthesis ∷ q) ≡ mark left_parenthesis ∷ test_openings_before l ks q
test_opened_inside l [] q = refl
test_opened_inside l (k ∷ ks) q =
    swapped (nat_lt l (test_level k.operator)) (test_openings_before (test_level k.operator) ks (mark left_parenthesis ∷ q)) (test_openings_before (test_level k.operator) ks q)
    (test_opened_inside (test_level k.operator) ks q)

one_more_test : (b : Bool) (l : ℕ) (ks : List TestLink) (q : List Token) → test_openings_before l ks (opened b q) ≡ opened b (test_openings_before l ks q)
one_more_test false l ks q = refl
one_more_test true l ks q = test_opened_inside l ks q

pub chain_bare : (ks : List BinaryLink) (x : pure.Expression) (r : List Token) → bare (linked ks x) r ≡ openings_before (level_of x) ks (bare x (links_before (level_of x) ks r))
chain_bare [] x r = refl
chain_bare (k ∷ ks) x r =
    let y = tree_of k.operand in
    let own = link_level k.operator in
    chain_bare ks (combined k.operator x y) r
    ∙ ap (λ (l : ℕ). openings_before l ks (bare (combined k.operator x y) (links_before l ks r))) (combined_level k.operator x y)
    ∙ ap (openings_before own ks) (combined_bare k.operator x y (links_before own ks r))
    ∙ one_more (nat_lt (level_of x) own) own ks (bare x (link_before (level_of x) k (links_before own ks r)))

pub tests_bare : (ks : List TestLink) (x : pure.Expression) (r : List Token) → bare (test_linked ks x) r ≡ test_openings_before (level_of x) ks (bare x (tests_before (level_of x) ks r))
tests_bare [] x r = refl
tests_bare (k ∷ ks) x r =
    let y = tree_of k.operand in
    let own = test_level k.operator in
    tests_bare ks (tested k.operator x y) r
    ∙ ap (λ (l : ℕ). test_openings_before l ks (bare (tested k.operator x y) (tests_before l ks r))) (tested_level k.operator x y)
    ∙ ap (test_openings_before own ks) (tested_bare k.operator x y (tests_before own ks r))
    ∙ one_more_test (nat_lt (level_of x) own) own ks (bare x (test_before (level_of x) k (tests_before own ks r)))

pub chain_level : (ks : List BinaryLink) (x : pure.Expression) → level_of (linked ks x) ≡ level_after (level_of x) ks
chain_level [] x = refl
chain_level (k ∷ ks) x =
    chain_level ks (combined k.operator x (tree_of k.operand)) ∙ ap (λ (l : ℕ). level_after l ks) (combined_level k.operator x (tree_of k.operand))

pub tests_level : (ks : List TestLink) (x : pure.Expression) → level_of (test_linked ks x) ≡ level_after_tests (level_of x) ks
tests_level [] x = refl
tests_level (k ∷ ks) x =
    tests_level ks (tested k.operator x (tree_of k.operand)) ∙ ap (λ (l : ℕ). level_after_tests l ks) (tested_level k.operator x (tree_of k.operand))

-- ---- choices

pub choices_bare : (cs : List Choice) (y : pure.Expression) (r : List Token) → bare (chosen cs y) r ≡ choices_before cs (bare y r)
choices_bare [] y r = refl
choices_bare (c ∷ cs) y r =
    ap (λ (q : List Token). choice_before c q) (choices_bare cs y r)

-- ---- operators before an operand

prefixed_level : (o : PrefixOperator) (x : pure.Expression) → level_of (prefixed o x) ≡ 12
prefixed_level Plus x = refl
prefixed_level Minus x = refl
prefixed_level Complement x = refl
prefixed_level IsZero x = refl
prefixed_level AllOnes x = refl
prefixed_level NotAllOnes x = refl
prefixed_level AnyOne x = refl
prefixed_level NoOne x = refl
prefixed_level OddOnes x = refl
prefixed_level EvenOnes x = refl

prefixed_bare : (o : PrefixOperator) (x : pure.Expression) (r : List Token) → bare (prefixed o x) r ≡ mark (prefix_mark o) ∷ bracketed (nat_lt (level_of x) 12) (bare x) r
prefixed_bare Plus x r = refl
prefixed_bare Minus x r = refl
prefixed_bare Complement x r = refl
prefixed_bare IsZero x r = refl
prefixed_bare AllOnes x r = refl
prefixed_bare NotAllOnes x r = refl
prefixed_bare AnyOne x r = refl
prefixed_bare NoOne x r = refl
prefixed_bare OddOnes x r = refl
prefixed_bare EvenOnes x r = refl

-- an operator before others wants no brackets
pub prefixes_bare : (os : List PrefixOperator) (x : pure.Expression) (r : List Token) → bare (all_prefixed os x) r ≡ prefixes_before os (bracketed (nat_lt (level_of x) (prefix_level os)) (bare x) r)
prefixes_bare [] x r = ap (λ (b : Bool). bracketed b (bare x) r) (sym (none_below (level_of x)))
prefixes_bare (o ∷ []) x r = prefixed_bare o x r
prefixes_bare (o ∷ p ∷ os) x r =
    prefixed_bare o (all_prefixed (p ∷ os) x) r
    ∙ ap (λ (l : ℕ). mark (prefix_mark o) ∷ bracketed (nat_lt l 12) (bare (all_prefixed (p ∷ os) x)) r) (prefixed_level p (all_prefixed os x))
    ∙ ap (λ (q : List Token). mark (prefix_mark o) ∷ q) (prefixes_bare (p ∷ os) x r)

pub prefixes_level : (o : PrefixOperator) (os : List PrefixOperator) (x : pure.Expression) → level_of (all_prefixed (o ∷ os) x) ≡ 12
prefixes_level o os x = prefixed_level o (all_prefixed os x)
