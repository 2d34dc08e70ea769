-- What is written of each form of expression is what is printed of it.
use Rattle.std.proofs.Common.{◌≡◌, ℕ, Bool, true, false, List, ◌∷◌, refl, sym, ap, ◌∙◌}
use Rattle.std.specs.Prelude.{nat_lt, nat_le, codes}
use Rattle.std.specs.Borrow.{Bor}
use Rattle.std.specs.declared.boxed.Box.{Box}
use Rattle.std.specs.declared.vec.Vec.{Vec}
use Rattle.std.specs.declared.alloc.Global.{Global}
use Rattle.verilog_text.specs.Token.{Mark, left_parenthesis, right_parenthesis, left_bracket, right_bracket, left_brace, right_brace, colon, question, plus_colon, minus_colon, Token, word, system, mark}
use Rattle.verilog_trees.specs.Syntax as pure
use Rattle.v_syntax.specs.declared.tree.PrefixOperator.{PrefixOperator}
use Rattle.v_syntax.specs.declared.tree.BinaryLink.{BinaryLink}
use Rattle.v_syntax.specs.declared.tree.TestLink.{TestLink}
use Rattle.v_syntax.specs.declared.tree.Choice.{Choice}
use Rattle.v_syntax.specs.declared.tree.Number.{Number as CodeNumber}
use Rattle.v_syntax.specs.declared.tree.Expression.{Expression, Number, Name as NameOf, Concatenation, Replication, AsSigned, AsUnsigned, Prefix, Binary, Test, Conditional}
use Rattle.v_syntax.specs.declared.tree.Select.{Select, Index, Part, PartUp, PartDown}
use Rattle.v_syntax.specs.declared.tree.Selects.{Selects, Whole, One, Two}
use Rattle.v_syntax.specs.Tree.{number_of, tree_of, select_of, selects_of, expressions_of}
use Rattle.v_syntax.proofs.Trees.{tree_of-Concatenation, tree_of-Replication, tree_of-Binary, tree_of-Test, tree_of-Conditional}
use Rattle.v_print.specs.Spelled.{number_before, opened, closed, parted, bare, bare_parts, printed, printed_parts, printed_select, printed_selects, printed_level}
use Rattle.v_print.specs.Links.{prefix_mark, link_mark, link_level, test_mark, test_level, prefix_level, openings_before, test_openings_before, link_before, test_before, links_before, tests_before, choices_before, prefixes_before, printed_link, printed_links, printed_test, printed_tests, printed_choice, printed_choices}
use Rattle.v_print.proofs.Chains.{chain_bare, tests_bare, choices_bare, prefixes_bare}

-- the same of an equal expression
again : (e x : Expression) → e ≡ x → (r : List Token) → bare (tree_of x) r ≡ printed (tree_of e) r
unfolding printed
again e x is r = ap (λ (y : Expression). bare (tree_of y) r) (sym is)

pub number_arm : (e : Expression) (n : CodeNumber) → e ≡ Number n → (r : List Token) → number_before (number_of n) r ≡ printed (tree_of e) r
number_arm e n is r = again e (Number n) is r

pub name_arm : (e : Expression) (n : Bor (List ℕ)) (s : Selects) → e ≡ NameOf n s → (r : List Token) → word n.now ∷ printed_selects (selects_of s) r ≡ printed (tree_of e) r
unfolding printed_selects
name_arm e n s is r = again e (NameOf n s) is r

pub parts_arm : (e : Expression) (v : Vec Expression Global) (xs : List Expression) → e ≡ Concatenation v → xs ≡ v.items → (r : List Token)
    → mark left_brace ∷ printed_parts false (expressions_of xs) (mark right_brace ∷ r) ≡ printed (tree_of e) r
unfolding printed_parts
parts_arm e v xs is items r =
    ap (λ (ys : List Expression). mark left_brace ∷ bare_parts false (expressions_of ys) (mark right_brace ∷ r)) items
    ∙ sym (ap (λ (t : pure.Expression). bare t r) (tree_of-Concatenation v)) ∙ again e (Concatenation v) is r

pub copies_arm : (e : Expression) (b : Box Expression Global) (v : Vec Expression Global) (x : Expression) (xs : List Expression) → e ≡ Replication b v → x ≡ b.value → xs ≡ v.items → (r : List Token)
    → mark left_brace ∷ printed (tree_of x) (mark left_brace ∷ printed_parts false (expressions_of xs) (mark right_brace ∷ mark right_brace ∷ r)) ≡ printed (tree_of e) r
unfolding printed printed_parts
copies_arm e b v x xs is value items r =
    ap (λ (y : Expression). mark left_brace ∷ bare (tree_of y) (mark left_brace ∷ bare_parts false (expressions_of xs) (mark right_brace ∷ mark right_brace ∷ r))) value
    ∙ ap (λ (ys : List Expression). mark left_brace ∷ bare (tree_of b.value) (mark left_brace ∷ bare_parts false (expressions_of ys) (mark right_brace ∷ mark right_brace ∷ r))) items
    ∙ sym (ap (λ (t : pure.Expression). bare t r) (tree_of-Replication b v)) ∙ again e (Replication b v) is r

pub signed_arm : (e : Expression) (b : Box Expression Global) (x : Expression) → e ≡ AsSigned b → x ≡ b.value → (r : List Token)
    → system (codes "$signed") ∷ mark left_parenthesis ∷ printed (tree_of x) (mark right_parenthesis ∷ r) ≡ printed (tree_of e) r
unfolding printed
signed_arm e b x is value r =
    ap (λ (y : Expression). system (codes "$signed") ∷ mark left_parenthesis ∷ bare (tree_of y) (mark right_parenthesis ∷ r)) value ∙ again e (AsSigned b) is r

pub unsigned_arm : (e : Expression) (b : Box Expression Global) (x : Expression) → e ≡ AsUnsigned b → x ≡ b.value → (r : List Token)
    → system (codes "$unsigned") ∷ mark left_parenthesis ∷ printed (tree_of x) (mark right_parenthesis ∷ r) ≡ printed (tree_of e) r
unfolding printed
unsigned_arm e b x is value r =
    ap (λ (y : Expression). system (codes "$unsigned") ∷ mark left_parenthesis ∷ bare (tree_of y) (mark right_parenthesis ∷ r)) value ∙ again e (AsUnsigned b) is r

pub prefix_arm : (e : Expression) (v : Vec PrefixOperator Global) (b : Box Expression Global) (x y : Expression) (os ps : List PrefixOperator) (l k : ℕ) → e ≡ Prefix v b → x ≡ b.value → y ≡ b.value → os ≡ v.items → ps ≡ v.items
    → l ≡ printed_level (tree_of x) → k ≡ prefix_level os → (r : List Token)
    → prefixes_before ps (opened (nat_lt l k) (printed (tree_of y) (closed (nat_lt l k) r))) ≡ printed (tree_of e) r
unfolding printed printed_level
prefix_arm e v b x y os ps l k is xb yb ov pv level count r =
    (λ i. prefixes_before (pv i) (opened (nat_lt (own i) (wanted i)) (bare (tree_of (yb i)) (closed (nat_lt (own i) (wanted i)) r))))
    ∙ sym (prefixes_bare v.items (tree_of b.value) r) ∙ again e (Prefix v b) is r
  where
    own : l ≡ printed_level (tree_of b.value)
    own = level ∙ ap (λ (z : Expression). printed_level (tree_of z)) xb

    wanted : k ≡ prefix_level v.items
    wanted = count ∙ ap prefix_level ov

pub binary_arm : (e : Expression) (b : Box Expression Global) (v : Vec BinaryLink Global) (x y : Expression) (ks ls : List BinaryLink) (l : ℕ) → e ≡ Binary b v → x ≡ b.value → ks ≡ v.items → y ≡ b.value → ls ≡ v.items
    → l ≡ printed_level (tree_of x) → (r : List Token) → openings_before l ks (printed (tree_of y) (printed_links l ls r)) ≡ printed (tree_of e) r
unfolding printed printed_links printed_level
binary_arm e b v x y ks ls l is xb kv yb lv level r =
    (λ i. openings_before (own i) (kv i) (bare (tree_of (yb i)) (links_before (own i) (lv i) r)))
    ∙ sym (chain_bare v.items (tree_of b.value) r) ∙ sym (ap (λ (t : pure.Expression). bare t r) (tree_of-Binary b v)) ∙ again e (Binary b v) is r
  where
    own : l ≡ printed_level (tree_of b.value)
    own = level ∙ ap (λ (z : Expression). printed_level (tree_of z)) xb

pub test_arm : (e : Expression) (b : Box Expression Global) (v : Vec TestLink Global) (x y : Expression) (ks ls : List TestLink) (l : ℕ) → e ≡ Test b v → x ≡ b.value → ks ≡ v.items → y ≡ b.value → ls ≡ v.items
    → l ≡ printed_level (tree_of x) → (r : List Token) → test_openings_before l ks (printed (tree_of y) (printed_tests l ls r)) ≡ printed (tree_of e) r
unfolding printed printed_tests printed_level
test_arm e b v x y ks ls l is xb kv yb lv level r =
    (λ i. test_openings_before (own i) (kv i) (bare (tree_of (yb i)) (tests_before (own i) (lv i) r)))
    ∙ sym (tests_bare v.items (tree_of b.value) r) ∙ sym (ap (λ (t : pure.Expression). bare t r) (tree_of-Test b v)) ∙ again e (Test b v) is r
  where
    own : l ≡ printed_level (tree_of b.value)
    own = level ∙ ap (λ (z : Expression). printed_level (tree_of z)) xb

pub choices_arm : (e : Expression) (v : Vec Choice Global) (b : Box Expression Global) (cs : List Choice) (y : Expression) → e ≡ Conditional v b → cs ≡ v.items → y ≡ b.value → (r : List Token)
    → printed_choices cs (printed (tree_of y) r) ≡ printed (tree_of e) r
unfolding printed printed_choices
choices_arm e v b cs y is items value r =
    (λ i. choices_before (items i) (bare (tree_of (value i)) r))
    ∙ sym (choices_bare v.items (tree_of b.value) r) ∙ sym (ap (λ (t : pure.Expression). bare t r) (tree_of-Conditional v b)) ∙ again e (Conditional v b) is r

-- ---- links

pub link_arm : (level own l : ℕ) (m : Mark) (k : BinaryLink) → own ≡ link_level k.operator → l ≡ printed_level (tree_of k.operand) → m ≡ link_mark k.operator → (r : List Token)
    → closed (nat_lt level own) (mark m ∷ opened (nat_le l own) (printed (tree_of k.operand) (closed (nat_le l own) r))) ≡ printed_link level k r
unfolding printed printed_link printed_level
link_arm level own l m k e f g r = λ i. closed (nat_lt level (e i)) (mark (g i) ∷ opened (nat_le (f i) (e i)) (bare (tree_of k.operand) (closed (nat_le (f i) (e i)) r)))

pub test_link_arm : (level own l : ℕ) (m : Mark) (k : TestLink) → own ≡ test_level k.operator → l ≡ printed_level (tree_of k.operand) → m ≡ test_mark k.operator → (r : List Token)
    → closed (nat_lt level own) (mark m ∷ opened (nat_le l own) (printed (tree_of k.operand) (closed (nat_le l own) r))) ≡ printed_test level k r
unfolding printed printed_test printed_level
test_link_arm level own l m k e f g r = λ i. closed (nat_lt level (e i)) (mark (g i) ∷ opened (nat_le (f i) (e i)) (bare (tree_of k.operand) (closed (nat_le (f i) (e i)) r)))

pub choice_arm : (l : ℕ) (c : Choice) → l ≡ printed_level (tree_of c.condition) → (r : List Token)
    → opened (nat_lt l 1) (printed (tree_of c.condition) (closed (nat_lt l 1) (mark question ∷ printed (tree_of c.value) (mark colon ∷ r)))) ≡ printed_choice c r
unfolding printed printed_choice printed_level
choice_arm l c f r = λ i. opened (nat_lt (f i) 1) (bare (tree_of c.condition) (closed (nat_lt (f i) 1) (mark question ∷ bare (tree_of c.value) (mark colon ∷ r))))

-- ---- lists

abbrev pub parts_front : Bool → List Expression → List Token → List Token
parts_front b es r = bare_parts b (expressions_of es) r

pub one_part : (b : Bool) (x : Expression) (ys : List Expression) (r : List Token) → parts_front b (x ∷ ys) r ≡ parted b (printed (tree_of x) (parts_front true ys r))
unfolding printed
one_part b x ys r = refl

pub all_parts : (xs : List Expression) (r : List Token) → parts_front false xs r ≡ printed_parts false (expressions_of xs) r
unfolding printed_parts
all_parts xs r = refl

pub one_link : (l u : ℕ) (k : BinaryLink) → u ≡ link_level k.operator → (ks : List BinaryLink) (r : List Token) → links_before l (k ∷ ks) r ≡ printed_link l k (links_before u ks r)
unfolding printed_link
one_link l u k e ks r = ap (λ (n : ℕ). link_before l k (links_before n ks r)) (sym e)

pub all_links : (l : ℕ) (ks : List BinaryLink) (r : List Token) → links_before l ks r ≡ printed_links l ks r
unfolding printed_links
all_links l ks r = refl

pub one_test : (l u : ℕ) (k : TestLink) → u ≡ test_level k.operator → (ks : List TestLink) (r : List Token) → tests_before l (k ∷ ks) r ≡ printed_test l k (tests_before u ks r)
unfolding printed_test
one_test l u k e ks r = ap (λ (n : ℕ). test_before l k (tests_before n ks r)) (sym e)

pub all_tests : (l : ℕ) (ks : List TestLink) (r : List Token) → tests_before l ks r ≡ printed_tests l ks r
unfolding printed_tests
all_tests l ks r = refl

pub one_opening : (l u : ℕ) (k : BinaryLink) → u ≡ link_level k.operator → (ks : List BinaryLink) (r : List Token) → openings_before l (k ∷ ks) r ≡ opened (nat_lt l u) (openings_before u ks r)
one_opening l u k e ks r = ap (λ (n : ℕ). opened (nat_lt l n) (openings_before n ks r)) (sym e)

pub one_test_opening : (l u : ℕ) (k : TestLink) → u ≡ test_level k.operator → (ks : List TestLink) (r : List Token) → test_openings_before l (k ∷ ks) r ≡ opened (nat_lt l u) (test_openings_before u ks r)
one_test_opening l u k e ks r = ap (λ (n : ℕ). opened (nat_lt l n) (test_openings_before n ks r)) (sym e)

abbrev pub choices_front : Bool → List Choice → List Token → List Token
choices_front b cs r = choices_before cs r

pub one_choice : (c : Choice) (cs : List Choice) (r : List Token) → choices_front true (c ∷ cs) r ≡ printed_choice c (choices_front true cs r)
unfolding printed_choice
one_choice c cs r = refl

pub all_choices : (cs : List Choice) (r : List Token) → choices_front true cs r ≡ printed_choices cs r
unfolding printed_choices
all_choices cs r = refl

abbrev pub prefixes_front : Bool → List PrefixOperator → List Token → List Token
prefixes_front b os r = prefixes_before os r

pub one_prefix : (b : Bool) (m : Mark) (o : PrefixOperator) → m ≡ prefix_mark o → (os : List PrefixOperator) (r : List Token) → prefixes_front b (o ∷ os) r ≡ mark m ∷ prefixes_front true os r
one_prefix b m o e os r = ap (λ (n : Mark). mark n ∷ prefixes_before os r) (sym e)

-- ---- selects

pub index_arm : (s : Select) (b : Box Expression Global) (x : Expression) → s ≡ Index b → x ≡ b.value → (r : List Token)
    → mark left_bracket ∷ printed (tree_of x) (mark right_bracket ∷ r) ≡ printed_select (select_of s) r
unfolding printed printed_select
index_arm s b x is value r =
    ap (λ (y : Expression). mark left_bracket ∷ bare (tree_of y) (mark right_bracket ∷ r)) value ∙ ap (λ (z : Select). printed_select (select_of z) r) (sym is)

pub part_arm : (s : Select) (b d : Box Expression Global) (x y : Expression) → s ≡ Part b d → x ≡ b.value → y ≡ d.value → (r : List Token)
    → mark left_bracket ∷ printed (tree_of x) (mark colon ∷ printed (tree_of y) (mark right_bracket ∷ r)) ≡ printed_select (select_of s) r
unfolding printed printed_select
part_arm s b d x y is value other r =
    (λ i. mark left_bracket ∷ bare (tree_of (value i)) (mark colon ∷ bare (tree_of (other i)) (mark right_bracket ∷ r))) ∙ ap (λ (z : Select). printed_select (select_of z) r) (sym is)

pub up_arm : (s : Select) (b d : Box Expression Global) (x y : Expression) → s ≡ PartUp b d → x ≡ b.value → y ≡ d.value → (r : List Token)
    → mark left_bracket ∷ printed (tree_of x) (mark plus_colon ∷ printed (tree_of y) (mark right_bracket ∷ r)) ≡ printed_select (select_of s) r
unfolding printed printed_select
up_arm s b d x y is value other r =
    (λ i. mark left_bracket ∷ bare (tree_of (value i)) (mark plus_colon ∷ bare (tree_of (other i)) (mark right_bracket ∷ r))) ∙ ap (λ (z : Select). printed_select (select_of z) r) (sym is)

pub down_arm : (s : Select) (b d : Box Expression Global) (x y : Expression) → s ≡ PartDown b d → x ≡ b.value → y ≡ d.value → (r : List Token)
    → mark left_bracket ∷ printed (tree_of x) (mark minus_colon ∷ printed (tree_of y) (mark right_bracket ∷ r)) ≡ printed_select (select_of s) r
unfolding printed printed_select
down_arm s b d x y is value other r =
    (λ i. mark left_bracket ∷ bare (tree_of (value i)) (mark minus_colon ∷ bare (tree_of (other i)) (mark right_bracket ∷ r))) ∙ ap (λ (z : Select). printed_select (select_of z) r) (sym is)

pub whole_arm : (s : Selects) → s ≡ Whole → (r : List Token) → r ≡ printed_selects (selects_of s) r
unfolding printed_selects
whole_arm s is r = ap (λ (z : Selects). printed_selects (selects_of z) r) (sym is)

pub one_arm : (s : Selects) (x : Select) → s ≡ One x → (r : List Token) → printed_select (select_of x) r ≡ printed_selects (selects_of s) r
unfolding printed_select printed_selects
one_arm s x is r = ap (λ (z : Selects). printed_selects (selects_of z) r) (sym is)

pub two_arm : (s : Selects) (x y : Select) → s ≡ Two x y → (r : List Token) → printed_select (select_of x) (printed_select (select_of y) r) ≡ printed_selects (selects_of s) r
unfolding printed_select printed_selects
two_arm s x y is r = ap (λ (z : Selects). printed_selects (selects_of z) r) (sym is)
