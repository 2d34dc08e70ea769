-- Printed expressions stay within a depth where there is room for their own.
use Rattle.std.proofs.Common.{◌≡◌, ℕ, suc, ◌+◌, ◌≤◌, max, Bool, true, false, List, ◌∷◌, length, refl, sym, ap, ◌∙◌, subst, arith}
use Rattle.std.specs.Prelude.{cond, ◌||◌, nat_lt, nat_le, codes}
use Rattle.std.specs.Fmt.{decimal as numeral}
use Rattle.std.proofs.lemmas.Bool.{le-ltb, or_from, cond-false, true≢false}
use Rattle.std.proofs.lemmas.Slice.Eq.{bytes_eq-Decides}
use Rattle.wb_values.specs.Value.{Name, same_name}
use Rattle.wb_values.specs.ReservedWords.{is_reserved}
use Rattle.verilog_text.specs.Token.{Mark, left_parenthesis, right_parenthesis, left_bracket, right_bracket, left_brace, right_brace, comma, colon, question, plus_colon, minus_colon, double_star, Token, word, system, decimal, based, mark}
use Rattle.verilog_text.specs.Text.{Opening, in_parentheses, in_brackets, in_braces, in_choice, Step, stays, step_of_mark, step_of_word, step_of, open_behind, is_too_deep}
use Rattle.verilog_trees.specs.Syntax as tree
use Rattle.verilog_trees.specs.Syntax.{Number, UnaryOperator, ReductionOperator, BinaryOperator, ShiftOperator, ComparisonOperator, LogicalOperator, Expression, Expressions, no_expressions, expression, Select, Selects, whole, one, two}
use Rattle.v_print.specs.Spelled.{is_plain, size_before, based_text, number_before, unary_mark, reduction_mark, binary_mark, binary_level, shift_mark, comparison_mark, comparison_level, logical_mark, logical_level, level_of, parted, bracketed, bare, bare_parts, bare_select, bare_selects}
use Rattle.v_print.specs.Depth.{bracketed_depth, depth_of, depth_of_parts, depth_of_select, depth_of_selects}
use Rattle.v_print.specs.Printable.{IsPrintable, ArePrintable, IsPrintableSelect, ArePrintableSelects}

-- nowhere more than 200 are open, where these are
abbrev pub IsShallow : List Opening → List Token → Type 0
IsShallow xs ts = is_too_deep xs ts ≡ false

-- a token that leaves these open
pub shallow_by : (t : Token) (xs ys : List Opening) (q : List Token) → open_behind (step_of t) xs ≡ ys → length ys ≤ 200 → IsShallow ys q → IsShallow xs (t ∷ q)
unfolding is_too_deep
shallow_by t xs ys q e h s =
    ap (λ (zs : List Opening). nat_lt 200 (length zs) || is_too_deep zs q) e ∙ or_from (nat_lt 200 (length ys)) (is_too_deep ys q) (le-ltb 200 (length ys) h) s

-- a mark that opens and closes nothing
pub mark_stays : (m : Mark) (xs : List Opening) (q : List Token) → step_of_mark m ≡ stays → length xs ≤ 200 → IsShallow xs q → IsShallow xs (mark m ∷ q)
unfolding open_behind
mark_stays m xs q e h s = shallow_by (mark m) xs xs q (ap (λ (k : Step). open_behind k xs) e) h s

other_name : (n w : Name) → is_reserved n ≡ false → is_reserved w ≡ true → same_name n w ≡ false
other_name n w free reserved = by (same_name n w) refl
  where
    by : (t : Bool) → same_name n w ≡ t → t ≡ false
    by true e = absurd (true≢false (sym (subst (λ m. is_reserved m ≡ true) (sym ((bytes_eq-Decides n w).0 e)) reserved) ∙ free))
    by false e = refl

begin_kept : is_reserved (codes "begin") ≡ true
unfolding is_reserved
begin_kept = refl

case_kept : is_reserved (codes "case") ≡ true
unfolding is_reserved
case_kept = refl

casez_kept : is_reserved (codes "casez") ≡ true
unfolding is_reserved
casez_kept = refl

if_kept : is_reserved (codes "if") ≡ true
unfolding is_reserved
if_kept = refl

end_kept : is_reserved (codes "end") ≡ true
unfolding is_reserved
end_kept = refl

endcase_kept : is_reserved (codes "endcase") ≡ true
unfolding is_reserved
endcase_kept = refl

pub name_stays : (n : Name) → is_reserved n ≡ false → step_of_word n ≡ stays
unfolding step_of_word
name_stays n free =
    cond-false (same_name n (codes "begin")) _ _ (other_name n (codes "begin") free begin_kept)
    ∙ cond-false (same_name n (codes "case") || same_name n (codes "casez")) _ _
    (or_from (same_name n (codes "case")) (same_name n (codes "casez")) (other_name n (codes "case") free case_kept) (other_name n (codes "casez") free casez_kept))
    ∙ cond-false (same_name n (codes "if")) _ _ (other_name n (codes "if") free if_kept)
    ∙ cond-false (same_name n (codes "end")) _ _ (other_name n (codes "end") free end_kept)
    ∙ cond-false (same_name n (codes "endcase")) _ _ (other_name n (codes "endcase") free endcase_kept)

pub word_stays : (n : Name) (xs : List Opening) (q : List Token) → is_reserved n ≡ false → length xs ≤ 200 → IsShallow xs q → IsShallow xs (word n ∷ q)
unfolding open_behind
word_stays n xs q free h s = shallow_by (word n) xs xs q (ap (λ (k : Step). open_behind k xs) (name_stays n free)) h s

pub other_stays : (t : Token) (xs : List Opening) (q : List Token) → step_of t ≡ stays → length xs ≤ 200 → IsShallow xs q → IsShallow xs (t ∷ q)
unfolding open_behind
other_stays t xs q e h s = shallow_by t xs xs q (ap (λ (k : Step). open_behind k xs) e) h s

-- brackets
pub parenthesis_opens : (xs : List Opening) (q : List Token) → suc (length xs) ≤ 200 → IsShallow (in_parentheses ∷ xs) q → IsShallow xs (mark left_parenthesis ∷ q)
unfolding open_behind
parenthesis_opens xs q h s = shallow_by (mark left_parenthesis) xs (in_parentheses ∷ xs) q refl h s

pub parenthesis_closes : (xs : List Opening) (q : List Token) → length xs ≤ 200 → IsShallow xs q → IsShallow (in_parentheses ∷ xs) (mark right_parenthesis ∷ q)
unfolding open_behind
parenthesis_closes xs q h s = shallow_by (mark right_parenthesis) (in_parentheses ∷ xs) xs q refl h s

pub bracket_opens : (xs : List Opening) (q : List Token) → suc (length xs) ≤ 200 → IsShallow (in_brackets ∷ xs) q → IsShallow xs (mark left_bracket ∷ q)
unfolding open_behind
bracket_opens xs q h s = shallow_by (mark left_bracket) xs (in_brackets ∷ xs) q refl h s

pub bracket_closes : (xs : List Opening) (q : List Token) → length xs ≤ 200 → IsShallow xs q → IsShallow (in_brackets ∷ xs) (mark right_bracket ∷ q)
unfolding open_behind
bracket_closes xs q h s = shallow_by (mark right_bracket) (in_brackets ∷ xs) xs q refl h s

pub brace_opens : (xs : List Opening) (q : List Token) → suc (length xs) ≤ 200 → IsShallow (in_braces ∷ xs) q → IsShallow xs (mark left_brace ∷ q)
unfolding open_behind
brace_opens xs q h s = shallow_by (mark left_brace) xs (in_braces ∷ xs) q refl h s

pub brace_closes : (xs : List Opening) (q : List Token) → length xs ≤ 200 → IsShallow xs q → IsShallow (in_braces ∷ xs) (mark right_brace ∷ q)
unfolding open_behind
brace_closes xs q h s = shallow_by (mark right_brace) (in_braces ∷ xs) xs q refl h s

pub choice_opens : (xs : List Opening) (q : List Token) → suc (length xs) ≤ 200 → IsShallow (in_choice ∷ xs) q → IsShallow xs (mark question ∷ q)
unfolding open_behind
choice_opens xs q h s = shallow_by (mark question) xs (in_choice ∷ xs) q refl h s

pub choice_closes : (xs : List Opening) (q : List Token) → length xs ≤ 200 → IsShallow xs q → IsShallow (in_choice ∷ xs) (mark colon ∷ q)
unfolding open_behind
choice_closes xs q h s = shallow_by (mark colon) (in_choice ∷ xs) xs q refl h s

-- : between the bounds of a part
pub bounds_stay : (xs : List Opening) (q : List Token) → suc (length xs) ≤ 200 → IsShallow (in_brackets ∷ xs) q → IsShallow (in_brackets ∷ xs) (mark colon ∷ q)
unfolding open_behind
bounds_stay xs q h s = shallow_by (mark colon) (in_brackets ∷ xs) (in_brackets ∷ xs) q refl h s

-- ---- operators open nothing

unary_stays : (o : UnaryOperator) → step_of_mark (unary_mark o) ≡ stays
unary_stays tree.plus = refl
unary_stays tree.minus = refl
unary_stays tree.complement = refl

reduction_stays : (o : ReductionOperator) → step_of_mark (reduction_mark o) ≡ stays
reduction_stays tree.is_zero = refl
reduction_stays tree.all_ones = refl
reduction_stays tree.not_all_ones = refl
reduction_stays tree.any_one = refl
reduction_stays tree.no_one = refl
reduction_stays tree.odd_ones = refl
reduction_stays tree.even_ones = refl

binary_stays : (o : BinaryOperator) → step_of_mark (binary_mark o) ≡ stays
binary_stays tree.add = refl
binary_stays tree.subtract = refl
binary_stays tree.multiply = refl
binary_stays tree.divide = refl
binary_stays tree.modulo = refl
binary_stays tree.bitwise_and = refl
binary_stays tree.bitwise_or = refl
binary_stays tree.bitwise_xor = refl
binary_stays tree.bitwise_xnor = refl

shift_stays : (o : ShiftOperator) → step_of_mark (shift_mark o) ≡ stays
shift_stays tree.left = refl
shift_stays tree.right = refl
shift_stays tree.arithmetic_right = refl

comparison_stays : (o : ComparisonOperator) → step_of_mark (comparison_mark o) ≡ stays
comparison_stays tree.less = refl
comparison_stays tree.less_or_equal = refl
comparison_stays tree.greater = refl
comparison_stays tree.greater_or_equal = refl
comparison_stays tree.equal = refl
comparison_stays tree.not_equal = refl

logical_stays : (o : LogicalOperator) → step_of_mark (logical_mark o) ≡ stays
logical_stays tree.both = refl
logical_stays tree.either = refl

-- ---- expressions

-- with room for so many more, tokens are shallow in front of what is
abbrev pub Fits : ℕ → (List Token → List Token) → Type 0
Fits d f = (xs : List Opening) (r : List Token) → length xs + d ≤ 200 → IsShallow xs r → IsShallow xs (f r)

bracketed_fits : (b : Bool) (d : ℕ) (f : List Token → List Token) → Fits d f → Fits (bracketed_depth b d) (bracketed b f)
bracketed_fits true d f h xs r l s =
    parenthesis_opens xs (f (mark right_parenthesis ∷ r)) (omega (arith, l))
    (h (in_parentheses ∷ xs) (mark right_parenthesis ∷ r) (omega (arith, l)) (parenthesis_closes xs r (omega (arith, l)) s))
bracketed_fits false d f h xs r l s = h xs r l s

joint_fits : (b c : Bool) (d e : ℕ) (m : Mark) (f g : List Token → List Token) → step_of_mark m ≡ stays → Fits d f → Fits e g
    → Fits (max (bracketed_depth b d) (bracketed_depth c e)) (λ r. bracketed b f (mark m ∷ bracketed c g r))
joint_fits b c d e m f g st hf hg xs r l s =
    bracketed_fits b d f hf xs (mark m ∷ bracketed c g r) (omega (arith, l))
    (mark_stays m xs (bracketed c g r) st (omega (arith, l)) (bracketed_fits c e g hg xs r (omega (arith, l)) s))

sized_fits : (t : Bool) (size text : List ℕ) (xs : List Opening) (r : List Token) → length xs ≤ 200 → IsShallow xs r → IsShallow xs (cond t (decimal size ∷ based text ∷ r) (based text ∷ r))
sized_fits true size text xs r l s = other_stays (decimal size) xs (based text ∷ r) refl l (other_stays (based text) xs r refl l s)
sized_fits false size text xs r l s = other_stays (based text) xs r refl l s

number_fits : (n : Number) → Fits 0 (number_before n)
unfolding number_before
number_fits n xs r l s = by (is_plain n)
  where
    below : length xs ≤ 200
    below = omega (arith, l)

    by : (t : Bool) → IsShallow xs (cond t (decimal (numeral n.value) ∷ r) (size_before n (based (based_text n) ∷ r)))
    by true = other_stays (decimal (numeral n.value)) xs r refl below s
    by false = sized_fits n.sized (numeral n.width) (based_text n) xs r below s

less_left : (n a b : ℕ) → n + max a b ≤ 200 → n + a ≤ 200
less_left n a b h = omega (arith, h)

less_right : (n a b : ℕ) → n + max a b ≤ 200 → n + b ≤ 200
less_right n a b h = omega (arith, h)

inside : (n d : ℕ) → n + suc d ≤ 200 → suc n + d ≤ 200
inside n d h = omega (arith, h)

one_more : (n d : ℕ) → n + suc d ≤ 200 → suc n ≤ 200
one_more n d h = omega (arith, h)

no_more : (n d : ℕ) → n + d ≤ 200 → n ≤ 200
no_more n d h = omega (arith, h)

-- between brackets
enclosed : (d : ℕ) (f : List Token → List Token) → Fits d f → Fits (suc d) (λ r. mark left_parenthesis ∷ f (mark right_parenthesis ∷ r))
enclosed d f h xs r l s =
    parenthesis_opens xs (f (mark right_parenthesis ∷ r)) (one_more (length xs) d l)
    (h (in_parentheses ∷ xs) (mark right_parenthesis ∷ r) (inside (length xs) d l) (parenthesis_closes xs r (no_more (length xs) (suc d) l) s))

converted_fits : (n : Name) (d : ℕ) (f : List Token → List Token) → Fits d f → Fits (suc d) (λ r. system n ∷ mark left_parenthesis ∷ f (mark right_parenthesis ∷ r))
converted_fits n d f h xs r l s =
    other_stays (system n) xs (mark left_parenthesis ∷ f (mark right_parenthesis ∷ r)) refl (no_more (length xs) (suc d) l) (enclosed d f h xs r l s)

prefixed_fits : (b : Bool) (d : ℕ) (m : Mark) (f : List Token → List Token) → step_of_mark m ≡ stays → Fits d f → Fits (bracketed_depth b d) (λ r. mark m ∷ bracketed b f r)
prefixed_fits b d m f st h xs r l s = mark_stays m xs (bracketed b f r) st (no_more (length xs) (bracketed_depth b d) l) (bracketed_fits b d f h xs r l s)

-- between the bounds of a part
part_fits : (d e : ℕ) (f g : List Token → List Token) (m : Mark) → ((xs : List Opening) (q : List Token) → suc (length xs) ≤ 200 → IsShallow (in_brackets ∷ xs) q → IsShallow (in_brackets ∷ xs) (mark m ∷ q))
    → Fits d f → Fits e g → Fits (suc (max d e)) (λ r. mark left_bracket ∷ f (mark m ∷ g (mark right_bracket ∷ r)))
part_fits d e f g m st hf hg xs r l s =
    let room = inside (length xs) (max d e) l in
    let more = g (mark right_bracket ∷ r) in
    bracket_opens xs (f (mark m ∷ more)) (one_more (length xs) (max d e) l)
    (hf (in_brackets ∷ xs) (mark m ∷ more) (less_left (suc (length xs)) d e room)
    (st xs more (one_more (length xs) (max d e) l)
    (hg (in_brackets ∷ xs) (mark right_bracket ∷ r) (less_right (suc (length xs)) d e room) (bracket_closes xs r (no_more (length xs) (suc (max d e)) l) s))))

parted_fits : (b : Bool) (xs : List Opening) (q : List Token) → length xs ≤ 200 → IsShallow xs q → IsShallow xs (parted b q)
parted_fits true xs q l s = mark_stays comma xs q refl l s
parted_fits false xs q l s = s

mutual
  pub bare_fits : (e : Expression) → IsPrintable e → (xs : List Opening) (r : List Token) → length xs + depth_of e ≤ 200 → IsShallow xs r → IsShallow xs (bare e r)
  bare_fits (tree.number n) p xs r l s = number_fits n xs r l s
  bare_fits (tree.name n q) p xs r l s = word_stays n xs (bare_selects q r) p.0.is_free (no_more (length xs) (depth_of_selects q) l) (selects_fit q p.1 xs r l s)
  bare_fits (tree.concatenation es) p xs r l s =
      let d = depth_of_parts es in
      brace_opens xs (bare_parts false es (mark right_brace ∷ r)) (one_more (length xs) d l)
      (parts_fit false es p.1 (in_braces ∷ xs) (mark right_brace ∷ r) (inside (length xs) d l) (brace_closes xs r (no_more (length xs) (suc d) l) s))
  bare_fits (tree.replication k es) p xs r l s =
      let d = depth_of_parts es in
      let room = inside (length xs) (max (depth_of k) (suc d)) l in
      let parts = bare_parts false es (mark right_brace ∷ mark right_brace ∷ r) in
      brace_opens xs (bare k (mark left_brace ∷ parts)) (one_more (length xs) (max (depth_of k) (suc d)) l)
      (bare_fits k p.0 (in_braces ∷ xs) (mark left_brace ∷ parts) (less_left (suc (length xs)) (depth_of k) (suc d) room)
      (brace_opens (in_braces ∷ xs) parts (one_more (suc (length xs)) d (less_right (suc (length xs)) (depth_of k) (suc d) room))
      (parts_fit false es p.2 (in_braces ∷ in_braces ∷ xs) (mark right_brace ∷ mark right_brace ∷ r) (inside (suc (length xs)) d (less_right (suc (length xs)) (depth_of k) (suc d) room))
      (brace_closes (in_braces ∷ xs) (mark right_brace ∷ r) (one_more (length xs) (max (depth_of k) (suc d)) l) (brace_closes xs r (no_more (length xs) (suc (max (depth_of k) (suc d))) l) s)))))
  bare_fits (tree.as_signed x) p xs r l s = converted_fits (codes "$signed") (depth_of x) (bare x) (bare_fits x p) xs r l s
  bare_fits (tree.as_unsigned x) p xs r l s = converted_fits (codes "$unsigned") (depth_of x) (bare x) (bare_fits x p) xs r l s
  bare_fits (tree.unary o x) p xs r l s = prefixed_fits (nat_lt (level_of x) 12) (depth_of x) (unary_mark o) (bare x) (unary_stays o) (bare_fits x p) xs r l s
  bare_fits (tree.reduction o x) p xs r l s = prefixed_fits (nat_lt (level_of x) 12) (depth_of x) (reduction_mark o) (bare x) (reduction_stays o) (bare_fits x p) xs r l s
  bare_fits (tree.binary o x y) p xs r l s =
      joint_fits (nat_lt (level_of x) (binary_level o)) (nat_le (level_of y) (binary_level o)) (depth_of x) (depth_of y) (binary_mark o) (bare x) (bare y) (binary_stays o) (bare_fits x p.0) (bare_fits y p.1) xs r l s
  bare_fits (tree.shift o x y) p xs r l s =
      joint_fits (nat_lt (level_of x) 8) (nat_le (level_of y) 8) (depth_of x) (depth_of y) (shift_mark o) (bare x) (bare y) (shift_stays o) (bare_fits x p.0) (bare_fits y p.1) xs r l s
  bare_fits (tree.power x y) p xs r l s =
      joint_fits (nat_lt (level_of x) 11) (nat_le (level_of y) 11) (depth_of x) (depth_of y) double_star (bare x) (bare y) refl (bare_fits x p.0) (bare_fits y p.1) xs r l s
  bare_fits (tree.comparison o x y) p xs r l s =
      joint_fits (nat_lt (level_of x) (comparison_level o)) (nat_le (level_of y) (comparison_level o)) (depth_of x) (depth_of y) (comparison_mark o) (bare x) (bare y) (comparison_stays o) (bare_fits x p.0) (bare_fits y p.1) xs r l s
  bare_fits (tree.logical o x y) p xs r l s =
      joint_fits (nat_lt (level_of x) (logical_level o)) (nat_le (level_of y) (logical_level o)) (depth_of x) (depth_of y) (logical_mark o) (bare x) (bare y) (logical_stays o) (bare_fits x p.0) (bare_fits y p.1) xs r l s
  bare_fits (tree.conditional c x y) p xs r l s =
      let dc = bracketed_depth (nat_lt (level_of c) 1) (depth_of c) in
      let d = max (suc (depth_of x)) (depth_of y) in
      let room = less_right (length xs) dc d l in
      let rx = less_left (length xs) (suc (depth_of x)) (depth_of y) room in
      bracketed_fits (nat_lt (level_of c) 1) (depth_of c) (bare c) (bare_fits c p.0) xs (mark question ∷ bare x (mark colon ∷ bare y r)) (less_left (length xs) dc d l)
      (choice_opens xs (bare x (mark colon ∷ bare y r)) (one_more (length xs) (depth_of x) rx)
      (bare_fits x p.1 (in_choice ∷ xs) (mark colon ∷ bare y r) (inside (length xs) (depth_of x) rx)
      (choice_closes xs (bare y r) (no_more (length xs) (suc (depth_of x)) rx) (bare_fits y p.2 xs r (less_right (length xs) (suc (depth_of x)) (depth_of y) room) s))))

  pub parts_fit : (b : Bool) (es : Expressions) → ArePrintable es → (xs : List Opening) (r : List Token) → length xs + depth_of_parts es ≤ 200 → IsShallow xs r → IsShallow xs (bare_parts b es r)
  parts_fit b no_expressions p xs r l s = s
  parts_fit b (expression e es) p xs r l s =
      parted_fits b xs (bare e (bare_parts true es r)) (no_more (length xs) (max (depth_of e) (depth_of_parts es)) l)
      (bare_fits e p.0 xs (bare_parts true es r) (less_left (length xs) (depth_of e) (depth_of_parts es) l)
      (parts_fit true es p.1 xs r (less_right (length xs) (depth_of e) (depth_of_parts es) l) s))

  pub select_fits : (q : Select) → IsPrintableSelect q → (xs : List Opening) (r : List Token) → length xs + depth_of_select q ≤ 200 → IsShallow xs r → IsShallow xs (bare_select q r)
  select_fits (tree.index e) p xs r l s =
      bracket_opens xs (bare e (mark right_bracket ∷ r)) (one_more (length xs) (depth_of e) l)
      (bare_fits e p (in_brackets ∷ xs) (mark right_bracket ∷ r) (inside (length xs) (depth_of e) l) (bracket_closes xs r (no_more (length xs) (suc (depth_of e)) l) s))
  select_fits (tree.part x y) p xs r l s = part_fits (depth_of x) (depth_of y) (bare x) (bare y) colon bounds_stay (bare_fits x p.0) (bare_fits y p.1) xs r l s
  select_fits (tree.part_up x y) p xs r l s =
      part_fits (depth_of x) (depth_of y) (bare x) (bare y) plus_colon (λ zs q h t. mark_stays plus_colon (in_brackets ∷ zs) q refl h t) (bare_fits x p.0) (bare_fits y p.1) xs r l s
  select_fits (tree.part_down x y) p xs r l s =
      part_fits (depth_of x) (depth_of y) (bare x) (bare y) minus_colon (λ zs q h t. mark_stays minus_colon (in_brackets ∷ zs) q refl h t) (bare_fits x p.0) (bare_fits y p.1) xs r l s

  pub selects_fit : (q : Selects) → ArePrintableSelects q → (xs : List Opening) (r : List Token) → length xs + depth_of_selects q ≤ 200 → IsShallow xs r → IsShallow xs (bare_selects q r)
  selects_fit whole p xs r l s = s
  selects_fit (one q) p xs r l s = select_fits q p xs r l s
  selects_fit (two q t) p xs r l s =
      select_fits q p.0 xs (bare_select t r) (less_left (length xs) (depth_of_select q) (depth_of_select t) l)
      (select_fits t p.1 xs r (less_right (length xs) (depth_of_select q) (depth_of_select t) l) s)
