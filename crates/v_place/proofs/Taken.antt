-- One token more, as the code takes it.
use Rattle.std.proofs.Common.{◌≡◌, ℕ, suc, ◌+◌, ◌-◌, ◌<◌, ◌≤◌, ◌∙◌, Bool, true, false, cond, List, [], ◌∷◌, ◌++◌, length, get_or, drop, map, Option, Some, None, refl, sym, ap, arith}
use Rattle.std.proofs.Math.Seq.{drop-cons}
use Rattle.std.proofs.lemmas.List.{append-nil, drop_more, drop_all, length-drop, length-map}
use Rattle.verilog_text.specs.Token.{Token}
use Rattle.v_token.specs.View.{token_of, tokens_of}
use Rattle.v_token.specs.declared.token.Token.{Token as CodeToken}
use Rattle.v_place.specs.Table.{Symbol, Rule, rules, is_optional, by_rule, or_else, and_then, behind_token, expected_after, left_behind, left_from}
use Rattle.v_place.specs.View.{symbol_of, symbols_of, first_in, without_first}
use Rattle.v_place.specs.declared.symbols.Symbol.{Symbol as CodeSymbol}
use Rattle.v_place.proofs.Steps.{same_some}

-- ---- the stack

pub none_entered : (xs : List CodeSymbol) (i : ℕ) (old : List Symbol) → length xs ≤ i → old ≡ symbols_of (drop i xs) ++ old
none_entered xs i old le = sym (ap (λ (ys : List CodeSymbol). symbols_of ys ++ old) (drop_all i xs le))

pub one_entered : (xs : List CodeSymbol) (i : ℕ) (d : CodeSymbol) (old mid new : List Symbol) → 0 < i → i ≤ length xs → mid ≡ symbols_of (drop i xs) ++ old
    → new ≡ symbol_of (get_or xs (i - 1) d) ∷ mid → new ≡ symbols_of (drop (i - 1) xs) ++ old
one_entered xs i d old mid new some most before after =
    let within : i - 1 < length xs = omega arith in
    let next : suc (i - 1) ≡ i = omega arith in
    let x = get_or xs (i - 1) d in
    let split : drop (i - 1) xs ≡ x ∷ drop i xs = drop-cons xs (i - 1) d within ∙ ap (λ n. x ∷ drop n xs) next in
    after ∙ ap (λ (us : List Symbol). symbol_of x ∷ us) before ∙ sym (ap (λ (ys : List CodeSymbol). symbols_of ys ++ old) split)

-- ---- one symbol

pub by_own_rule : (a : List Symbol) (rs : List Rule) (s : Symbol) (t : Token) → Some a ≡ by_rule rs t → rs ≡ rules s → Some (a ++ []) ≡ by_rule (rules s) t
by_own_rule a rs s t e is = ap (λ (us : List Symbol). Some us) (append-nil a) ∙ e ∙ ap (λ (us : List Rule). by_rule us t) is

-- ---- one token

pub nothing_expected : (ss : List Symbol) (t : Token) → None ≡ first_in ss → expected_after ss t ≡ None
unfolding expected_after
nothing_expected [] t e = refl
nothing_expected (x ∷ xs) t e = absurd cc

pub taken : (ss : List Symbol) (s : Symbol) (rest : List Symbol) (t : Token) (after new : List Symbol) → Some s ≡ first_in ss → rest ≡ without_first ss → Some after ≡ behind_token s t
    → new ≡ after ++ rest → expected_after ss t ≡ Some new
unfolding expected_after
taken [] s rest t after new top less behind is = absurd cc
taken (x ∷ xs) s rest t after new top less behind is =
    let begins : behind_token x t ≡ Some after = ap (λ (y : Symbol). behind_token y t) (sym (same_some s x top)) ∙ sym behind in
    ap (λ (o : Option (List Symbol)). or_else (and_then o xs) (cond (is_optional x) (expected_after xs t) None)) begins
    ∙ ap (λ (us : List Symbol). Some (after ++ us)) (sym less)
    ∙ ap (λ (us : List Symbol). Some us) (sym is)

pub passed : (ss : List Symbol) (s : Symbol) (rest : List Symbol) (t : Token) → Some s ≡ first_in ss → rest ≡ without_first ss → None ≡ behind_token s t → is_optional s ≡ true
    → expected_after ss t ≡ expected_after rest t
unfolding expected_after
passed [] s rest t top less behind optional = absurd cc
passed (x ∷ xs) s rest t top less behind optional =
    let is : s ≡ x = same_some s x top in
    let begins : behind_token x t ≡ None = ap (λ (y : Symbol). behind_token y t) (sym is) ∙ sym behind in
    ap (λ (o : Option (List Symbol)). or_else (and_then o xs) (cond (is_optional x) (expected_after xs t) None)) begins
    ∙ ap (λ (b : Bool). cond b (expected_after xs t) None) (ap is_optional (sym is) ∙ optional)
    ∙ ap (λ (us : List Symbol). expected_after us t) (sym less)

pub refused : (ss : List Symbol) (s : Symbol) (t : Token) → Some s ≡ first_in ss → None ≡ behind_token s t → is_optional s ≡ false → expected_after ss t ≡ None
unfolding expected_after
refused [] s t top behind optional = absurd cc
refused (x ∷ xs) s t top behind optional =
    let is : s ≡ x = same_some s x top in
    let begins : behind_token x t ≡ None = ap (λ (y : Symbol). behind_token y t) (sym is) ∙ sym behind in
    ap (λ (o : Option (List Symbol)). or_else (and_then o xs) (cond (is_optional x) (expected_after xs t) None)) begins
    ∙ ap (λ (b : Bool). cond b (expected_after xs t) None) (ap is_optional (sym is) ∙ optional)

-- ---- the tokens

left_of : (t : Token) (ts : List Token) (ss : List Symbol) (o : Option (List Symbol)) → expected_after ss t ≡ o → left_from (t ∷ ts) ss ≡ left_behind (left_from ts) (suc (length ts)) o
unfolding left_from
left_of t ts ss o e = ap (left_behind (left_from ts) (suc (length ts))) e

pub none_left : (ts : List CodeToken) (i : ℕ) (ss : List Symbol) → length ts ≤ i → left_from (tokens_of (drop i ts)) ss ≡ 0
unfolding left_from
none_left ts i ss le = ap (λ (us : List CodeToken). left_from (tokens_of us) ss) (drop_all i ts le)

pub goes_on : (ts : List CodeToken) (i : ℕ) (d : CodeToken) (ss next : List Symbol) → i < length ts → expected_after ss (token_of (get_or ts i d)) ≡ Some next
    → left_from (tokens_of (drop i ts)) ss ≡ left_from (tokens_of (drop (i + 1) ts)) next
goes_on ts i d ss next within e =
    ap (λ (us : List CodeToken). left_from (tokens_of us) ss) (drop_more ts i d within) ∙ left_of (token_of (get_or ts i d)) (tokens_of (drop (i + 1) ts)) ss (Some next) e

pub stuck : (ts : List CodeToken) (i : ℕ) (d : CodeToken) (ss : List Symbol) → i < length ts → expected_after ss (token_of (get_or ts i d)) ≡ None
    → left_from (tokens_of (drop i ts)) ss ≡ length ts - i
stuck ts i d ss within e =
    let count : length (tokens_of (drop (i + 1) ts)) ≡ length ts - (i + 1) = length-map (drop (i + 1) ts) token_of ∙ length-drop (i + 1) ts in
    let end : suc (length (tokens_of (drop (i + 1) ts))) ≡ length ts - i = omega (arith, count) in
    ap (λ (us : List CodeToken). left_from (tokens_of us) ss) (drop_more ts i d within)
    ∙ left_of (token_of (get_or ts i d)) (tokens_of (drop (i + 1) ts)) ss None e
    ∙ end
