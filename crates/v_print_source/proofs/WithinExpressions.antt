-- Printed expressions are no deeper than any tokens that spell them, and no more: form by form.
use Rattle.std.proofs.Common.{◌≡◌, ℕ, suc, ◌+◌, ◌≤◌, max, Bool, true, false, List, [], ◌∷◌, length, Some, None, refl, sym, subst, arith}
use Rattle.std.specs.Prelude.{cond, ◌||◌, ◌==◌, nat_lt, codes}
use Rattle.std.specs.Fmt.{decimal as numeral}
use Rattle.std.proofs.lemmas.Bool.{true≢false}
use Rattle.verilog_text.specs.Token.{left_parenthesis, right_parenthesis, left_bracket, right_bracket, left_brace, right_brace, comma, colon, question, plus_colon, minus_colon, Token, word, system, decimal, based, mark}
use Rattle.verilog_text.specs.Text.{Opening, in_parentheses, in_brackets, in_braces, in_choice}
use Rattle.verilog_text.specs.Spelling.{behind_sign as number_behind, plain_number, decimal_value, based_number, IsNumber, plain, unsized, of_size, IsExpression, tighter, chosen, joined, prefixed, a_number, a_name, bracketed as in_brackets_spelled, concatenated, replicated, made_signed, made_unsigned, AreExpressions, last_one, and_more, IsSelect, by_index, by_part, by_part_up, by_part_down, AreSelects, no_select, one_select, two_selects}
use Rattle.verilog_trees.specs.Syntax as tree
use Rattle.verilog_trees.specs.Syntax.{Number, Expression, Expressions, Select, Selects}
use Rattle.v_print.specs.Spelled.{is_plain, based_text, number_before, level_of, bracketed, bare, bare_parts, bare_select, bare_selects}
use Rattle.v_print.specs.Depth.{bracketed_depth, depth_of, depth_of_parts, depth_of_select, depth_of_selects}
use Rattle.v_print.proofs.Open.{IsShallow, name_stays}
use Rattle.v_print_source.proofs.Within.{behind_stays, behind_opens, behind_closes, behind_choice, behind_bound, AllJoin, all_join, AllPrefix, all_prefix, brackets, Within, Inside, level_falls, count_falls, bracketed_count, alone, at_own_level, whole, joined_within}

-- ---- numbers

unsized_number : (text : List ℕ) → (based_number None text).sized ≡ false
unsized_number [] = refl
unsized_number (q ∷ []) = refl
unsized_number (q ∷ b ∷ text) = by (b == 115 || b == 83) (behind true text) (behind false (b ∷ text))
  where
    behind : (s : Bool) (ds : List ℕ) → (number_behind None s ds).sized ≡ false
    behind s [] = refl
    behind s (d ∷ ds) = refl

    by : (t : Bool) → (number_behind None true text).sized ≡ false → (number_behind None false (b ∷ text)).sized ≡ false → (cond t (number_behind None true text) (number_behind None false (b ∷ text))).sized ≡ false
    by true h g = h
    by false h g = g

one_token : (n : Number) (q : List Token) → n.sized ≡ false → length (number_before n q) ≤ suc (length q)
unfolding number_before
one_token n q h = by (is_plain n) n.sized h
  where
    by : (t s : Bool) → s ≡ false → length (cond t (decimal (numeral n.value) ∷ q) (cond s (decimal (numeral n.width) ∷ based (based_text n) ∷ q) (based (based_text n) ∷ q))) ≤ suc (length q)
    by true s e = omega arith
    by false true e = absurd (true≢false e)
    by false false e = omega arith

two_tokens : (n : Number) (q : List Token) → length (number_before n q) ≤ suc (suc (length q))
unfolding number_before
two_tokens n q = by (is_plain n) n.sized
  where
    by : (t s : Bool) → length (cond t (decimal (numeral n.value) ∷ q) (cond s (decimal (numeral n.width) ∷ based (based_text n) ∷ q) (based (based_text n) ∷ q))) ≤ suc (suc (length q))
    by true s = omega arith
    by false true = omega arith
    by false false = omega arith

nothing_more : (n : ℕ) → n ≤ 200 → n + 0 ≤ 200
nothing_more n h = omega (arith, h)

number_inside : (n : Number) (text rest : List Token) → IsNumber n text rest → (xs : List Opening) → IsShallow xs text → Inside 0 (number_before n) xs text rest
number_inside _ _ _ (plain text rest) xs s =
    let a = behind_stays (decimal text) xs rest refl s in
    record { room = nothing_more (length xs) a.0; shallow = a.1; count = λ q. one (length (number_before (plain_number text) q)) (length q) (length rest) (one_token (plain_number text) q refl) }
  where
    one : (n q r : ℕ) → n ≤ suc q → n + r ≤ suc r + q
    one n q r h = omega (arith, h)
number_inside _ _ _ (unsized text rest) xs s =
    let a = behind_stays (based text) xs rest refl s in
    record { room = nothing_more (length xs) a.0; shallow = a.1; count = λ q. one (length (number_before (based_number None text) q)) (length q) (length rest) (one_token (based_number None text) q (unsized_number text)) }
  where
    one : (n q r : ℕ) → n ≤ suc q → n + r ≤ suc r + q
    one n q r h = omega (arith, h)
number_inside _ _ _ (of_size size text rest) xs s =
    let a = behind_stays (decimal size) xs (based text ∷ rest) refl s in
    let b = behind_stays (based text) xs rest refl a.1 in
    record { room = nothing_more (length xs) b.0; shallow = b.1; count = λ q. two (length (number_before (based_number (Some (decimal_value size)) text) q)) (length q) (length rest) (two_tokens (based_number (Some (decimal_value size)) text) q) }
  where
    two : (n q r : ℕ) → n ≤ suc (suc q) → n + r ≤ suc (suc r) + q
    two n q r h = omega (arith, h)

-- ---- pairs of marks

less : (n d : ℕ) → suc n + d ≤ 200 → n + suc d ≤ 200
less n d h = omega (arith, h)

-- between two marks that open and close
paired : (x : Opening) (d : ℕ) (f : List Token → List Token) (o k : Token) (xs : List Opening) (text rest : List Token) → IsShallow xs rest → Inside d f (x ∷ xs) text (k ∷ rest)
    → Inside (suc d) (λ q. o ∷ f (k ∷ q)) xs (o ∷ text) rest
paired x d f o k xs text rest s i = record {
  room = less (length xs) d i.room;
  shallow = s;
  count = λ q. by (length (f (k ∷ q))) (length rest) (length text) (length q) (i.count (k ∷ q));
}
  where
    by : (a r t q : ℕ) → a + suc r ≤ t + suc q → suc a + r ≤ suc t + q
    by a r t q h = omega (arith, h)

-- two of a kind, with a mark between them
two_parts : (d e : ℕ) (f g : List Token → List Token) (m : Token) (xs : List Opening) (text more rest : List Token) → Inside d f xs text (m ∷ more) → Inside e g xs more rest
    → Inside (max d e) (λ q. f (m ∷ g q)) xs text rest
two_parts d e f g m xs text more rest a b = record {
  room = both (length xs) d e a.room b.room;
  shallow = b.shallow;
  count = λ q. sums (length (f (m ∷ g q))) (length (g q)) (length more) (length rest) (length text) (length q) (a.count (m ∷ g q)) (b.count q);
}
  where
    both : (n d e : ℕ) → n + d ≤ 200 → n + e ≤ 200 → n + max d e ≤ 200
    both n d e h g = omega (arith, h, g)

    sums : (l r m s t q : ℕ) → l + suc m ≤ t + suc r → r + s ≤ m + q → l + s ≤ t + q
    sums l r m s t q h g = omega (arith, h, g)

-- a token that opens and closes nothing, in front
after_one : (d : ℕ) (f : List Token → List Token) (t : Token) (xs : List Opening) (text rest : List Token) → Inside d f xs text rest → Inside d (λ q. t ∷ f q) xs (t ∷ text) rest
after_one d f t xs text rest i = record {
  room = i.room;
  shallow = i.shallow;
  count = λ q. by (length (f q)) (length rest) (length text) (length q) (i.count q);
}
  where
    by : (a b n q : ℕ) → a + b ≤ n + q → suc a + b ≤ suc n + q
    by a b n q h = omega (arith, h)

comma_more : (es : Expressions) (text rest : List Token) → AreExpressions es text rest → (q : List Token) → length (bare_parts true es q) ≡ suc (length (bare_parts false es q))
comma_more _ _ _ (last_one e text rest d) q = refl
comma_more _ _ _ (and_more e es text more rest d ds) q = refl

-- one behind the other
next_part : (d e : ℕ) (f g : List Token → List Token) (xs : List Opening) (text more rest : List Token) → Inside d f xs text more → Inside e g xs more rest → Inside (max d e) (λ q. f (g q)) xs text rest
next_part d e f g xs text more rest a b = record {
  room = both (length xs) d e a.room b.room;
  shallow = b.shallow;
  count = λ q. sums (length (f (g q))) (length (g q)) (length more) (length rest) (length text) (length q) (a.count (g q)) (b.count q);
}
  where
    both : (n d e : ℕ) → n + d ≤ 200 → n + e ≤ 200 → n + max d e ≤ 200
    both n d e h g = omega (arith, h, g)

    sums : (l r m s t q : ℕ) → l + m ≤ t + r → r + s ≤ m + q → l + s ≤ t + q
    sums l r m s t q h g = omega (arith, h, g)

turned : (q r : ℕ) → q + r ≤ r + q
turned q r = omega arith

lower : (l k n r m : ℕ) → brackets (nat_lt l (suc k)) + n + r ≤ m → brackets (nat_lt l k) + n + r ≤ m
lower l k n r m h = together (brackets (nat_lt l k)) n r m (count_falls l k (n + r) m (apart (brackets (nat_lt l (suc k))) n r m h))
  where
    apart : (b n r m : ℕ) → b + n + r ≤ m → b + (n + r) ≤ m
    apart b n r m h = omega (arith, h)

    together : (b n r m : ℕ) → b + (n + r) ≤ m → b + n + r ≤ m
    together b n r m h = omega (arith, h)

three : (n c x y : ℕ) → n + c ≤ 200 → suc n + x ≤ 200 → n + y ≤ 200 → n + max c (max (suc x) y) ≤ 200
three n c x y h g k = omega (arith, h, g, k)

sums : (c x y value other r t q : ℕ) → c + suc value ≤ t + suc x → x + suc other ≤ value + suc y → y + r ≤ other + q → c + r ≤ t + q
sums c x y value other r t q h g k = omega (arith, h, g, k)

one_more : (a b n q : ℕ) → a + b ≤ n + q → suc a + b ≤ suc n + q
one_more a b n q h = omega (arith, h)

fewer : (t : Bool) (n d : ℕ) → suc n + d ≤ 200 → n + bracketed_depth t d ≤ 200
fewer true n d h = omega (arith, h)
fewer false n d h = omega (arith, h)

unbracketed : (t : Bool) (a r n q : ℕ) → a + suc r ≤ n + q → brackets t + a + r ≤ suc n + q
unbracketed true a r n q h = omega (arith, h)
unbracketed false a r n q h = omega (arith, h)

last_room : (n d : ℕ) → n + d ≤ 200 → n + max d 0 ≤ 200
last_room n d h = omega (arith, h)

both_room : (n d e : ℕ) → n + d ≤ 200 → n + e ≤ 200 → n + max d e ≤ 200
both_room n d e h g = omega (arith, h, g)

more_count : (l a b m r t q : ℕ) → a ≡ suc b → l + suc m ≤ t + a → b + r ≤ m + q → l + r ≤ t + q
more_count l a b m r t q e h g = omega (arith, e, h, g)

-- a conversion
converted : (e : Expression) (n : List ℕ) (text rest : List Token) (xs : List Opening) → IsShallow xs (system n ∷ mark left_parenthesis ∷ text) → (IsShallow (in_parentheses ∷ xs) text → Within 0 e (in_parentheses ∷ xs) text (mark right_parenthesis ∷ rest))
    → Inside (suc (depth_of e)) (λ q. system n ∷ mark left_parenthesis ∷ bare e (mark right_parenthesis ∷ q)) xs (system n ∷ mark left_parenthesis ∷ text) rest
converted e n text rest xs s inner =
    let a = behind_stays (system n) xs (mark left_parenthesis ∷ text) refl s in
    let b = behind_opens in_parentheses (mark left_parenthesis) xs text refl a.1 in
    let w = whole e (in_parentheses ∷ xs) text (mark right_parenthesis ∷ rest) (inner b.1) in
    after_one (suc (depth_of e)) (λ q. mark left_parenthesis ∷ bare e (mark right_parenthesis ∷ q)) (system n) xs (mark left_parenthesis ∷ text) rest
    (paired in_parentheses (depth_of e) (bare e) (mark left_parenthesis) (mark right_parenthesis) xs text rest (behind_closes in_parentheses (mark right_parenthesis) xs rest refl w.shallow).1 w)

-- ---- expressions

mutual
  pub within : (k : ℕ) (e : Expression) (text rest : List Token) → IsExpression k e text rest → (xs : List Opening) → IsShallow xs text → Within k e xs text rest
  within _ _ _ _ (tighter k e text rest d) xs s =
      let w = within (suc k) e text rest d xs s in
      record {
        room = level_falls (level_of e) k (depth_of e) (length xs) w.room;
        shallow = w.shallow;
        count = λ q. lower (level_of e) k (length (bare e q)) (length rest) (length text + length q) (w.count q);
      }
  within _ _ _ _ (chosen c x y text value other rest dc dx dy) xs s =
      let wc = within 1 c text (mark question ∷ value) dc xs s in
      let opened = behind_opens in_choice (mark question) xs value refl wc.shallow in
      let wx = whole x (in_choice ∷ xs) value (mark colon ∷ other) (within 0 x value (mark colon ∷ other) dx (in_choice ∷ xs) opened.1) in
      let wy = whole y xs other rest (within 0 y other rest dy xs (behind_choice xs other wx.shallow).1) in
      alone 0 (tree.conditional c x y) xs text rest refl (record {
        room = three (length xs) (bracketed_depth (nat_lt (level_of c) 1) (depth_of c)) (depth_of x) (depth_of y) wc.room wx.room wy.room;
        shallow = wy.shallow;
        count = λ q. sums (length (bracketed (nat_lt (level_of c) 1) (bare c) (mark question ∷ bare x (mark colon ∷ bare y q)))) (length (bare x (mark colon ∷ bare y q))) (length (bare y q)) (length value) (length other) (length rest) (length text) (length q)
            (bracketed_count (nat_lt (level_of c) 1) (bare c) (length (mark question ∷ value)) (length text) wc.count (mark question ∷ bare x (mark colon ∷ bare y q)))
            (wx.count (mark colon ∷ bare y q)) (wy.count q);
      })
  within _ _ _ _ (joined m o a b text more rest known da db) xs s =
      let j = subst (AllJoin m) known (all_join m) in
      joined_within m o j.0 j.1 a b xs text more rest (within o.level a text (mark m ∷ more) da xs s) (λ t. within (suc o.level) b more rest db xs t)
  within _ _ _ _ (prefixed m f a text rest known d) xs s =
      let p = subst (AllPrefix m) known (all_prefix m) in
      let w = within 12 a text rest d xs (behind_stays (mark m) xs text p.1 s).1 in
      alone 12 (f a) xs (mark m ∷ text) rest (at_own_level (level_of (f a)) 12 (p.0.level a)) (record {
        room = subst (λ n. length xs + n ≤ 200) (sym (p.0.depth a)) w.room;
        shallow = w.shallow;
        count = λ q.
            subst (λ ts. length ts + length rest ≤ suc (length text) + length q) (sym (p.0.printed a q))
            (one_more (length (bracketed (nat_lt (level_of a) 12) (bare a) q)) (length rest) (length text) (length q) (bracketed_count (nat_lt (level_of a) 12) (bare a) (length rest) (length text) w.count q));
      })
  within _ _ _ _ (a_number n text rest d) xs s = alone 13 (tree.number n) xs text rest refl (number_inside n text rest d xs s)
  within _ _ _ _ (a_name n q text rest free d) xs s =
      let a = behind_stays (word n) xs text (name_stays n free) s in
      alone 13 (tree.name n q) xs (word n ∷ text) rest refl (after_one (depth_of_selects q) (bare_selects q) (word n) xs text rest (selects_inside q text rest d xs a.0 a.1))
  within _ _ _ _ (in_brackets_spelled e text rest d) xs s =
      let a = behind_opens in_parentheses (mark left_parenthesis) xs text refl s in
      let w = whole e (in_parentheses ∷ xs) text (mark right_parenthesis ∷ rest) (within 0 e text (mark right_parenthesis ∷ rest) d (in_parentheses ∷ xs) a.1) in
      record {
        room = fewer (nat_lt (level_of e) 13) (length xs) (depth_of e) w.room;
        shallow = (behind_closes in_parentheses (mark right_parenthesis) xs rest refl w.shallow).1;
        count = λ q. unbracketed (nat_lt (level_of e) 13) (length (bare e q)) (length rest) (length text) (length q) (w.count q);
      }
  within _ _ _ _ (concatenated es text rest d) xs s =
      let a = behind_opens in_braces (mark left_brace) xs text refl s in
      let i = parts_inside es text (mark right_brace ∷ rest) d (in_braces ∷ xs) a.1 in
      alone 13 (tree.concatenation es) xs (mark left_brace ∷ text) rest refl
      (paired in_braces (depth_of_parts es) (bare_parts false es) (mark left_brace) (mark right_brace) xs text rest (behind_closes in_braces (mark right_brace) xs rest refl i.shallow).1 i)
  within _ _ _ _ (replicated n es text parts rest dn d) xs s =
      let a = behind_opens in_braces (mark left_brace) xs text refl s in
      let w = whole n (in_braces ∷ xs) text (mark left_brace ∷ parts) (within 0 n text (mark left_brace ∷ parts) dn (in_braces ∷ xs) a.1) in
      let b = behind_opens in_braces (mark left_brace) (in_braces ∷ xs) parts refl w.shallow in
      let i = parts_inside es parts (mark right_brace ∷ mark right_brace ∷ rest) d (in_braces ∷ in_braces ∷ xs) b.1 in
      let c = (behind_closes in_braces (mark right_brace) (in_braces ∷ xs) (mark right_brace ∷ rest) refl i.shallow).1 in
      alone 13 (tree.replication n es) xs (mark left_brace ∷ text) rest refl
      (paired in_braces (max (depth_of n) (suc (depth_of_parts es))) (λ q. bare n (mark left_brace ∷ bare_parts false es (mark right_brace ∷ q))) (mark left_brace) (mark right_brace) xs text rest
      (behind_closes in_braces (mark right_brace) xs rest refl c).1
      (next_part (depth_of n) (suc (depth_of_parts es)) (bare n) (λ q. mark left_brace ∷ bare_parts false es (mark right_brace ∷ q)) (in_braces ∷ xs) text (mark left_brace ∷ parts) (mark right_brace ∷ rest) w
      (paired in_braces (depth_of_parts es) (bare_parts false es) (mark left_brace) (mark right_brace) (in_braces ∷ xs) parts (mark right_brace ∷ rest) c i)))
  within _ _ _ _ (made_signed e text rest d) xs s = alone 13 (tree.as_signed e) xs (system (codes "$signed") ∷ mark left_parenthesis ∷ text) rest refl (converted e (codes "$signed") text rest xs s (λ t. within 0 e text (mark right_parenthesis ∷ rest) d (in_parentheses ∷ xs) t))
  within _ _ _ _ (made_unsigned e text rest d) xs s = alone 13 (tree.as_unsigned e) xs (system (codes "$unsigned") ∷ mark left_parenthesis ∷ text) rest refl (converted e (codes "$unsigned") text rest xs s (λ t. within 0 e text (mark right_parenthesis ∷ rest) d (in_parentheses ∷ xs) t))

  pub parts_inside : (es : Expressions) (text rest : List Token) → AreExpressions es text rest → (xs : List Opening) → IsShallow xs text → Inside (depth_of_parts es) (bare_parts false es) xs text rest
  parts_inside _ _ _ (last_one e text rest d) xs s =
      let w = whole e xs text rest (within 0 e text rest d xs s) in
      record { room = last_room (length xs) (depth_of e) w.room; shallow = w.shallow; count = w.count }
  parts_inside _ _ _ (and_more e es text more rest d ds) xs s =
      let w = whole e xs text (mark comma ∷ more) (within 0 e text (mark comma ∷ more) d xs s) in
      let a = behind_stays (mark comma) xs more refl w.shallow in
      let i = parts_inside es more rest ds xs a.1 in
      record {
        room = both_room (length xs) (depth_of e) (depth_of_parts es) w.room i.room;
        shallow = i.shallow;
        count = λ q.
            more_count (length (bare e (bare_parts true es q))) (length (bare_parts true es q)) (length (bare_parts false es q)) (length more) (length rest) (length text) (length q)
            (comma_more es more rest ds q) (w.count (bare_parts true es q)) (i.count q);
      }

  select_inside : (c : Select) (text rest : List Token) → IsSelect c text rest → (xs : List Opening) → IsShallow xs text → Inside (depth_of_select c) (bare_select c) xs text rest
  select_inside _ _ _ (by_index e text rest d) xs s =
      let a = behind_opens in_brackets (mark left_bracket) xs text refl s in
      let w = whole e (in_brackets ∷ xs) text (mark right_bracket ∷ rest) (within 0 e text (mark right_bracket ∷ rest) d (in_brackets ∷ xs) a.1) in
      paired in_brackets (depth_of e) (bare e) (mark left_bracket) (mark right_bracket) xs text rest (behind_closes in_brackets (mark right_bracket) xs rest refl w.shallow).1 w
  select_inside _ _ _ (by_part x y text more rest dx dy) xs s =
      let a = behind_opens in_brackets (mark left_bracket) xs text refl s in
      let w = whole x (in_brackets ∷ xs) text (mark colon ∷ more) (within 0 x text (mark colon ∷ more) dx (in_brackets ∷ xs) a.1) in
      let v = whole y (in_brackets ∷ xs) more (mark right_bracket ∷ rest) (within 0 y more (mark right_bracket ∷ rest) dy (in_brackets ∷ xs) (behind_bound xs more w.shallow).1) in
      paired in_brackets (max (depth_of x) (depth_of y)) (λ q. bare x (mark colon ∷ bare y q)) (mark left_bracket) (mark right_bracket) xs text rest (behind_closes in_brackets (mark right_bracket) xs rest refl v.shallow).1
      (two_parts (depth_of x) (depth_of y) (bare x) (bare y) (mark colon) (in_brackets ∷ xs) text more (mark right_bracket ∷ rest) w v)
  select_inside _ _ _ (by_part_up x y text more rest dx dy) xs s =
      let a = behind_opens in_brackets (mark left_bracket) xs text refl s in
      let w = whole x (in_brackets ∷ xs) text (mark plus_colon ∷ more) (within 0 x text (mark plus_colon ∷ more) dx (in_brackets ∷ xs) a.1) in
      let v = whole y (in_brackets ∷ xs) more (mark right_bracket ∷ rest) (within 0 y more (mark right_bracket ∷ rest) dy (in_brackets ∷ xs) (behind_stays (mark plus_colon) (in_brackets ∷ xs) more refl w.shallow).1) in
      paired in_brackets (max (depth_of x) (depth_of y)) (λ q. bare x (mark plus_colon ∷ bare y q)) (mark left_bracket) (mark right_bracket) xs text rest (behind_closes in_brackets (mark right_bracket) xs rest refl v.shallow).1
      (two_parts (depth_of x) (depth_of y) (bare x) (bare y) (mark plus_colon) (in_brackets ∷ xs) text more (mark right_bracket ∷ rest) w v)
  select_inside _ _ _ (by_part_down x y text more rest dx dy) xs s =
      let a = behind_opens in_brackets (mark left_bracket) xs text refl s in
      let w = whole x (in_brackets ∷ xs) text (mark minus_colon ∷ more) (within 0 x text (mark minus_colon ∷ more) dx (in_brackets ∷ xs) a.1) in
      let v = whole y (in_brackets ∷ xs) more (mark right_bracket ∷ rest) (within 0 y more (mark right_bracket ∷ rest) dy (in_brackets ∷ xs) (behind_stays (mark minus_colon) (in_brackets ∷ xs) more refl w.shallow).1) in
      paired in_brackets (max (depth_of x) (depth_of y)) (λ q. bare x (mark minus_colon ∷ bare y q)) (mark left_bracket) (mark right_bracket) xs text rest (behind_closes in_brackets (mark right_bracket) xs rest refl v.shallow).1
      (two_parts (depth_of x) (depth_of y) (bare x) (bare y) (mark minus_colon) (in_brackets ∷ xs) text more (mark right_bracket ∷ rest) w v)

  pub selects_inside : (c : Selects) (text rest : List Token) → AreSelects c text rest → (xs : List Opening) → length xs ≤ 200 → IsShallow xs text → Inside (depth_of_selects c) (bare_selects c) xs text rest
  selects_inside _ _ _ (no_select rest) xs l s = record { room = nothing_more (length xs) l; shallow = s; count = λ q. turned (length q) (length rest) }
  selects_inside _ _ _ (one_select c text rest d) xs l s = select_inside c text rest d xs s
  selects_inside _ _ _ (two_selects c e text more rest d f) xs l s =
      let a = select_inside c text more d xs s in
      let b = select_inside e more rest f xs a.shallow in
      next_part (depth_of_select c) (depth_of_select e) (bare_select c) (bare_select e) xs text more rest a b
