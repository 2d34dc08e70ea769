-- Loops that write one thing after the other.
use Rattle.std.proofs.Common.{◌≡◌, ℕ, ◌+◌, ◌<◌, ◌≤◌, List, [], ◌∷◌, length, get_or, drop, sym, ap, ◌∙◌, subst}
use Rattle.std.proofs.lemmas.List.{drop_more, drop_all}
use Rattle.verilog_text.specs.Token.{Token}
use Rattle.v_print.specs.declared.writer.Writer.{Writer}
use Rattle.v_print.specs.Writes.{Front, Writes}
use Rattle.v_print.proofs.Written.{then, nothing_written, as_front}

-- Whoever writes the rest of the list has written all.
abbrev pub IsLoop : {S A : Type 0} → (S → List A → Front) → List A → ℕ → S → Writer → Writer → Front → Type 0
IsLoop F xs i s start now goal = (b : Writer) → Writes now b (F s (drop i xs)) → Writes start b goal

pub loop_begins : {S A : Type 0} (F : S → List A → Front) (xs : List A) (s : S) (w : Writer) → IsLoop F xs 0 s w w (F s xs)
loop_begins F xs s w b h = h

pub loop_goes_on : {S A : Type 0} (F : S → List A → Front) (xs : List A) (i : ℕ) (x : A) (s u : S) (g : Front) {start now mid : Writer} {goal : Front}
    → i < length xs → x ≡ get_or xs i x → ((ys : List A) (r : List Token) → F s (x ∷ ys) r ≡ g (F u ys r))
    → IsLoop F xs i s start now goal → Writes now mid g → IsLoop F xs (i + 1) u start mid goal
loop_goes_on F xs i x s u g {now = now} l is one k w b more =
    let cut : drop i xs ≡ x ∷ drop (i + 1) xs = drop_more xs i x l ∙ ap (λ (y : _). y ∷ drop (i + 1) xs) (sym is) in
    k b (subst (λ ys. Writes now b (F s ys)) (sym cut) (as_front (λ r. sym (one (drop (i + 1) xs) r)) (then w more)))

pub loop_ends : {S A : Type 0} (F : S → List A → Front) (xs : List A) (i : ℕ) (s : S) {start now : Writer} {goal : Front}
    → length xs ≤ i → ((r : List Token) → F s [] r ≡ r) → IsLoop F xs i s start now goal → Writes start now goal
loop_ends F xs i s {now = now} l none k =
    k now (subst (λ ys. Writes now now (F s ys)) (sym (drop_all i xs l)) (as_front (λ r. sym (none r)) (nothing_written now)))
