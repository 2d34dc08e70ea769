-- Printed expressions are no deeper than any tokens that spell them, and no more.
use Rattle.std.proofs.Common.{◌≡◌, ℕ, suc, ◌+◌, ◌≤◌, max, Bool, true, false, List, ◌∷◌, length, Option, Some, None, refl, sym, ap, ◌∙◌, subst, arith}
use Rattle.std.specs.Prelude.{cond, nat_lt, nat_le}
use Rattle.std.proofs.lemmas.Bool.{or_parts, ltb-true, ltb-false, leb-true, leb-false, lt-ltb, le-ltb}
use Rattle.verilog_text.specs.Token.{Mark, right_parenthesis, colon, plus, minus, star, double_star, slash, percent, exclamation, tilde, ampersand, tilde_ampersand, bar, tilde_bar, caret, tilde_caret, caret_tilde, double_ampersand, double_bar, less, less_equals, greater, greater_equals, double_less, double_greater, triple_less, triple_greater, double_equals, exclamation_equals, triple_equals, exclamation_double_equals, Token, mark}
use Rattle.verilog_text.specs.Text.{Opening, in_parentheses, in_brackets, in_braces, in_block, in_case, in_if, in_choice, Step, opens, closes, stays, step_of_mark, step_of, open_behind, is_too_deep}
use Rattle.verilog_text.specs.Spelling.{prefix_of, Operator, operator_of}
use Rattle.verilog_trees.specs.Syntax as tree
use Rattle.verilog_trees.specs.Syntax.{Expression}
use Rattle.v_print.specs.Spelled.{level_of, bracketed, joined_before, bare}
use Rattle.v_print.specs.Depth.{bracketed_depth, joined_depth, depth_of}
use Rattle.v_print.proofs.Open.{IsShallow}

-- ---- a token less

pub behind_token : (t : Token) (xs ys : List Opening) (q : List Token) → open_behind (step_of t) xs ≡ ys → IsShallow xs (t ∷ q) → (length ys ≤ 200) × IsShallow ys q
unfolding is_too_deep
behind_token t xs ys q e s =
    let open_now = open_behind (step_of t) xs in
    let both = or_parts (nat_lt 200 (length open_now)) (is_too_deep open_now q) s in
    (subst (λ zs. length zs ≤ 200) e (ltb-false 200 (length open_now) both.0), subst (λ zs. IsShallow zs q) e both.1)

pub behind_stays : (t : Token) (xs : List Opening) (q : List Token) → step_of t ≡ stays → IsShallow xs (t ∷ q) → (length xs ≤ 200) × IsShallow xs q
unfolding open_behind
behind_stays t xs q e s = behind_token t xs xs q (ap (λ (k : Step). open_behind k xs) e) s

pub behind_opens : (x : Opening) (t : Token) (xs : List Opening) (q : List Token) → step_of t ≡ opens x → IsShallow xs (t ∷ q) → (suc (length xs) ≤ 200) × IsShallow (x ∷ xs) q
unfolding open_behind
behind_opens x t xs q e s = behind_token t xs (x ∷ xs) q (ap (λ (k : Step). open_behind k xs) e) s

pub closed_nearest : (x : Opening) (xs : List Opening) → open_behind (closes x) (x ∷ xs) ≡ xs
unfolding open_behind
closed_nearest in_parentheses xs = refl
closed_nearest in_brackets xs = refl
closed_nearest in_braces xs = refl
closed_nearest in_block xs = refl
closed_nearest in_case xs = refl
closed_nearest in_if xs = refl
closed_nearest in_choice xs = refl

pub behind_closes : (x : Opening) (t : Token) (xs : List Opening) (q : List Token) → step_of t ≡ closes x → IsShallow (x ∷ xs) (t ∷ q) → (length xs ≤ 200) × IsShallow xs q
behind_closes x t xs q e s = behind_token t (x ∷ xs) xs q (ap (λ (k : Step). open_behind k (x ∷ xs)) e ∙ closed_nearest x xs) s

pub behind_choice : (xs : List Opening) (q : List Token) → IsShallow (in_choice ∷ xs) (mark colon ∷ q) → (length xs ≤ 200) × IsShallow xs q
unfolding open_behind
behind_choice xs q s = behind_token (mark colon) (in_choice ∷ xs) xs q refl s

pub behind_bound : (xs : List Opening) (q : List Token) → IsShallow (in_brackets ∷ xs) (mark colon ∷ q) → (suc (length xs) ≤ 200) × IsShallow (in_brackets ∷ xs) q
unfolding open_behind
behind_bound xs q s = behind_token (mark colon) (in_brackets ∷ xs) (in_brackets ∷ xs) q refl s

-- ---- operators

-- what an operator makes of two operands, printed with some mark
pub record Joins (o : Operator) : Type 0 where
  pub sign : Mark
  pub level : (a b : Expression) → level_of (o.joins a b) ≡ o.level
  pub depth : (a b : Expression) → depth_of (o.joins a b) ≡ joined_depth o.level (level_of a) (depth_of a) (level_of b) (depth_of b)
  pub printed : (a b : Expression) (q : List Token) → bare (o.joins a b) q ≡ joined_before o.level sign (level_of a) (bare a) (level_of b) (bare b) q

abbrev pub AllJoin : Mark → Option Operator → Type 0
AllJoin m None = Unit {0}
AllJoin m (Some o) = Joins o × (step_of_mark m ≡ stays)

pub all_join : (m : Mark) → AllJoin m (operator_of m)
all_join double_bar = (record { sign = double_bar; level = λ a b. refl; depth = λ a b. refl; printed = λ a b q. refl }, refl)
all_join double_ampersand = (record { sign = double_ampersand; level = λ a b. refl; depth = λ a b. refl; printed = λ a b q. refl }, refl)
all_join bar = (record { sign = bar; level = λ a b. refl; depth = λ a b. refl; printed = λ a b q. refl }, refl)
all_join caret = (record { sign = caret; level = λ a b. refl; depth = λ a b. refl; printed = λ a b q. refl }, refl)
all_join caret_tilde = (record { sign = tilde_caret; level = λ a b. refl; depth = λ a b. refl; printed = λ a b q. refl }, refl)
all_join tilde_caret = (record { sign = tilde_caret; level = λ a b. refl; depth = λ a b. refl; printed = λ a b q. refl }, refl)
all_join ampersand = (record { sign = ampersand; level = λ a b. refl; depth = λ a b. refl; printed = λ a b q. refl }, refl)
all_join double_equals = (record { sign = double_equals; level = λ a b. refl; depth = λ a b. refl; printed = λ a b q. refl }, refl)
all_join triple_equals = (record { sign = double_equals; level = λ a b. refl; depth = λ a b. refl; printed = λ a b q. refl }, refl)
all_join exclamation_equals = (record { sign = exclamation_equals; level = λ a b. refl; depth = λ a b. refl; printed = λ a b q. refl }, refl)
all_join exclamation_double_equals = (record { sign = exclamation_equals; level = λ a b. refl; depth = λ a b. refl; printed = λ a b q. refl }, refl)
all_join less = (record { sign = less; level = λ a b. refl; depth = λ a b. refl; printed = λ a b q. refl }, refl)
all_join less_equals = (record { sign = less_equals; level = λ a b. refl; depth = λ a b. refl; printed = λ a b q. refl }, refl)
all_join greater = (record { sign = greater; level = λ a b. refl; depth = λ a b. refl; printed = λ a b q. refl }, refl)
all_join greater_equals = (record { sign = greater_equals; level = λ a b. refl; depth = λ a b. refl; printed = λ a b q. refl }, refl)
all_join double_less = (record { sign = double_less; level = λ a b. refl; depth = λ a b. refl; printed = λ a b q. refl }, refl)
all_join triple_less = (record { sign = double_less; level = λ a b. refl; depth = λ a b. refl; printed = λ a b q. refl }, refl)
all_join double_greater = (record { sign = double_greater; level = λ a b. refl; depth = λ a b. refl; printed = λ a b q. refl }, refl)
all_join triple_greater = (record { sign = triple_greater; level = λ a b. refl; depth = λ a b. refl; printed = λ a b q. refl }, refl)
all_join plus = (record { sign = plus; level = λ a b. refl; depth = λ a b. refl; printed = λ a b q. refl }, refl)
all_join minus = (record { sign = minus; level = λ a b. refl; depth = λ a b. refl; printed = λ a b q. refl }, refl)
all_join star = (record { sign = star; level = λ a b. refl; depth = λ a b. refl; printed = λ a b q. refl }, refl)
all_join slash = (record { sign = slash; level = λ a b. refl; depth = λ a b. refl; printed = λ a b q. refl }, refl)
all_join percent = (record { sign = percent; level = λ a b. refl; depth = λ a b. refl; printed = λ a b q. refl }, refl)
all_join double_star = (record { sign = double_star; level = λ a b. refl; depth = λ a b. refl; printed = λ a b q. refl }, refl)
all_join _ = tt

pub record Prefixes (f : Expression → Expression) : Type 0 where
  pub sign : Mark
  pub level : (a : Expression) → level_of (f a) ≡ 12
  pub depth : (a : Expression) → depth_of (f a) ≡ bracketed_depth (nat_lt (level_of a) 12) (depth_of a)
  pub printed : (a : Expression) (q : List Token) → bare (f a) q ≡ mark sign ∷ bracketed (nat_lt (level_of a) 12) (bare a) q

abbrev pub AllPrefix : Mark → Option (Expression → Expression) → Type 0
AllPrefix m None = Unit {0}
AllPrefix m (Some f) = Prefixes f × (step_of_mark m ≡ stays)

pub all_prefix : (m : Mark) → AllPrefix m (prefix_of m)
all_prefix plus = (record { sign = plus; level = λ a. refl; depth = λ a. refl; printed = λ a q. refl }, refl)
all_prefix minus = (record { sign = minus; level = λ a. refl; depth = λ a. refl; printed = λ a q. refl }, refl)
all_prefix tilde = (record { sign = tilde; level = λ a. refl; depth = λ a. refl; printed = λ a q. refl }, refl)
all_prefix exclamation = (record { sign = exclamation; level = λ a. refl; depth = λ a. refl; printed = λ a q. refl }, refl)
all_prefix ampersand = (record { sign = ampersand; level = λ a. refl; depth = λ a. refl; printed = λ a q. refl }, refl)
all_prefix tilde_ampersand = (record { sign = tilde_ampersand; level = λ a. refl; depth = λ a. refl; printed = λ a q. refl }, refl)
all_prefix bar = (record { sign = bar; level = λ a. refl; depth = λ a. refl; printed = λ a q. refl }, refl)
all_prefix tilde_bar = (record { sign = tilde_bar; level = λ a. refl; depth = λ a. refl; printed = λ a q. refl }, refl)
all_prefix caret = (record { sign = caret; level = λ a. refl; depth = λ a. refl; printed = λ a q. refl }, refl)
all_prefix tilde_caret = (record { sign = tilde_caret; level = λ a. refl; depth = λ a. refl; printed = λ a q. refl }, refl)
all_prefix caret_tilde = (record { sign = tilde_caret; level = λ a. refl; depth = λ a. refl; printed = λ a q. refl }, refl)
all_prefix _ = tt

-- ---- expressions at a level

abbrev pub brackets : Bool → ℕ
brackets b = cond b 2 0

-- An expression printed where a level is asked for has room, and takes no more tokens; behind its tokens the same are open.
pub record Within (k : ℕ) (e : Expression) (xs : List Opening) (text rest : List Token) : Type 0 where
  pub room : length xs + bracketed_depth (nat_lt (level_of e) k) (depth_of e) ≤ 200
  pub shallow : IsShallow xs rest
  pub count : (q : List Token) → brackets (nat_lt (level_of e) k) + length (bare e q) + length rest ≤ length text + length q

-- the same of a list of tokens that stands alone
pub record Inside (d : ℕ) (f : List Token → List Token) (xs : List Opening) (text rest : List Token) : Type 0 where
  pub room : length xs + d ≤ 200
  pub shallow : IsShallow xs rest
  pub count : (q : List Token) → length (f q) + length rest ≤ length text + length q

pub level_falls : (l k d n : ℕ) → n + bracketed_depth (nat_lt l (suc k)) d ≤ 200 → n + bracketed_depth (nat_lt l k) d ≤ 200
level_falls l k d n h = by (nat_lt l k) (nat_lt l (suc k)) (λ e. let g = ltb-true l k e in lt-ltb l (suc k) (omega (arith, g))) h
  where
    by : (t s : Bool) → (t ≡ true → s ≡ true) → n + bracketed_depth s d ≤ 200 → n + bracketed_depth t d ≤ 200
    by true s f h = subst (λ b. n + bracketed_depth b d ≤ 200) (f refl) h
    by false true f h = omega (arith, h)
    by false false f h = h

pub count_falls : (l k n m : ℕ) → brackets (nat_lt l (suc k)) + n ≤ m → brackets (nat_lt l k) + n ≤ m
count_falls l k n m h = by (nat_lt l k) (nat_lt l (suc k)) (λ e. let g = ltb-true l k e in lt-ltb l (suc k) (omega (arith, g))) h
  where
    by : (t s : Bool) → (t ≡ true → s ≡ true) → brackets s + n ≤ m → brackets t + n ≤ m
    by true s f h = subst (λ b. brackets b + n ≤ m) (f refl) h
    by false true f h = omega (arith, h)
    by false false f h = h

-- in brackets, where they are wanted
pub bracketed_count : (b : Bool) (f : List Token → List Token) (m n : ℕ) → ((q : List Token) → brackets b + length (f q) + m ≤ n + length q) → (q : List Token) → length (bracketed b f q) + m ≤ n + length q
bracketed_count true f m n h q = by (length (f (mark right_parenthesis ∷ q))) (length q) (h (mark right_parenthesis ∷ q))
  where
    by : (a c : ℕ) → 2 + a + m ≤ n + suc c → suc a + m ≤ n + c
    by a c g = omega (arith, g)
bracketed_count false f m n h q = by (length (f q)) (length q) (h q)
  where
    by : (a c : ℕ) → 0 + a + m ≤ n + c → a + m ≤ n + c
    by a c g = omega (arith, g)

-- what stands alone
pub alone : (k : ℕ) (e : Expression) (xs : List Opening) (text rest : List Token) → nat_lt (level_of e) k ≡ false → Inside (depth_of e) (bare e) xs text rest → Within k e xs text rest
alone k e xs text rest high i = record {
  room = subst (λ b. length xs + bracketed_depth b (depth_of e) ≤ 200) (sym high) i.room;
  shallow = i.shallow;
  count = λ q. subst (λ b. brackets b + length (bare e q) + length rest ≤ length text + length q) (sym high) (by (length (bare e q)) (length rest) (length text + length q) (i.count q));
}
  where
    by : (a b c : ℕ) → a + b ≤ c → 0 + a + b ≤ c
    by a b c h = omega (arith, h)

pub at_own_level : (l k : ℕ) → l ≡ k → nat_lt l k ≡ false
at_own_level l k e = le-ltb l k (omega (arith, e))

not_below_zero : (l : ℕ) → nat_lt l 0 ≡ false
not_below_zero l = le-ltb l 0 (omega arith)

pub whole : (e : Expression) (xs : List Opening) (text rest : List Token) → Within 0 e xs text rest → Inside (depth_of e) (bare e) xs text rest
whole e xs text rest w = record {
  room = subst (λ b. length xs + bracketed_depth b (depth_of e) ≤ 200) (not_below_zero (level_of e)) w.room;
  shallow = w.shallow;
  count = λ q. by (length (bare e q)) (length rest) (length text + length q) (subst (λ b. brackets b + length (bare e q) + length rest ≤ length text + length q) (not_below_zero (level_of e)) (w.count q));
}
  where
    by : (a b c : ℕ) → 0 + a + b ≤ c → a + b ≤ c
    by a b c h = omega (arith, h)

next_level : (l k : ℕ) → nat_lt l (suc k) ≡ nat_le l k
next_level l k = by (nat_lt l (suc k)) (nat_le l k) refl refl
  where
    by : (t s : Bool) → nat_lt l (suc k) ≡ t → nat_le l k ≡ s → t ≡ s
    by true true e f = refl
    by false false e f = refl
    by true false e f = let g = ltb-true l (suc k) e in let h = leb-false l k f in absurd (omega (arith, g, h))
    by false true e f = let g = ltb-false l (suc k) e in let h = leb-true l k f in absurd (omega (arith, g, h))

pub joined_within : (m : Mark) (o : Operator) (j : Joins o) → step_of_mark m ≡ stays → (a b : Expression) (xs : List Opening) (text more rest : List Token)
    → Within o.level a xs text (mark m ∷ more) → (IsShallow xs more → Within (suc o.level) b xs more rest) → Within o.level (o.joins a b) xs text rest
joined_within m o j st a b xs text more rest wa next =
    let s = behind_stays (mark m) xs more st wa.shallow in
    let wb = next s.1 in
    let left = bracketed_count (nat_lt (level_of a) o.level) (bare a) (length (mark m ∷ more)) (length text) wa.count in
    let right = bracketed_count (nat_le (level_of b) o.level) (bare b) (length rest) (length more)
    (λ q. subst (λ t. brackets t + length (bare b q) + length rest ≤ length more + length q) (next_level (level_of b) o.level) (wb.count q)) in
    alone o.level (o.joins a b) xs text rest (at_own_level (level_of (o.joins a b)) o.level (j.level a b)) (record {
      room = subst (λ d. length xs + d ≤ 200) (sym (j.depth a b))
          (both (length xs) (bracketed_depth (nat_lt (level_of a) o.level) (depth_of a)) (bracketed_depth (nat_le (level_of b) o.level) (depth_of b)) wa.room
          (subst (λ t. length xs + bracketed_depth t (depth_of b) ≤ 200) (next_level (level_of b) o.level) wb.room));
      shallow = wb.shallow;
      count = λ q.
          subst (λ ts. length ts + length rest ≤ length text + length q) (sym (j.printed a b q))
          (sums (length (joined_before o.level j.sign (level_of a) (bare a) (level_of b) (bare b) q)) (length (bracketed (nat_le (level_of b) o.level) (bare b) q)) (length more) (length rest) (length text) (length q)
          (left (mark j.sign ∷ bracketed (nat_le (level_of b) o.level) (bare b) q)) (right q));
    })
  where
    both : (n d e : ℕ) → n + d ≤ 200 → n + e ≤ 200 → n + max d e ≤ 200
    both n d e h g = omega (arith, h, g)

    sums : (l r m s t q : ℕ) → l + suc m ≤ t + suc r → r + s ≤ m + q → l + s ≤ t + q
    sums l r m s t q h g = omega (arith, h, g)
