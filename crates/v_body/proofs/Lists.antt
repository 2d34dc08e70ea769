-- Lists with commas: what is read, and what is read again.
use Rattle.std.proofs.Common.{◌≡◌, suc, ◌<◌, List, [], ◌∷◌, length, Some, refl, ap, ◌∙◌, subst, arith, false}
use Rattle.verilog_text.specs.Token.{Mark, comma, Token, mark}
use Rattle.v_expr.specs.Ending.{is_same_mark}
use Rattle.v_expr.specs.Repeat.{Read, repeated}
use Rattle.v_expr.specs.Reading.{after_mark}
use Rattle.v_expr.proofs.Repeat.{some_is, Shrinks, Chain, chain_of, many_of_chain}
use Rattle.v_expr.proofs.Places.{mark_spelled, mark_again, other_mark}
use Rattle.v_expr.proofs.Spelled.{bound}
use Rattle.v_body.specs.Words.{behind_comma, listed_at}

-- the values of a list, each by its reading
abbrev pub Listed : {A : Type 0} → Mark → (List Token → Read Token A) → List A → List Token → List Token → Type 0
Listed m one [] text rest = ⊥
Listed m one (x ∷ xs) text rest = (middle : List Token) × (one text ≡ Some (x, middle)) × Chain (after_mark m) (behind_comma one) xs middle rest

pub comma_again : {A : Type 0} (one : List Token → Read Token A) (ts : List Token) → behind_comma one (mark comma ∷ ts) ≡ one ts
unfolding behind_comma
comma_again one ts = rw (mark_again comma ts) refl

pub comma_shrinks : {A : Type 0} (one : List Token → Read Token A) → Shrinks one → Shrinks (behind_comma one)
unfolding behind_comma
comma_shrinks one small ts x rest e =
    let w = bound e in
    let shorter : length rest < length w.0 = small w.0 x rest w.2 in
    let parts : length ts ≡ suc (length w.0) = ap (λ (us : List Token). length us) (mark_spelled comma w.1) in
    omega (arith, shorter, parts)

pub listed_of : {A : Type 0} (m : Mark) (one : List Token → Read Token A) (text : List Token) (y : List A × List Token) → listed_at m one text ≡ Some y → Listed m one y.0 text y.1
unfolding listed_at repeated
listed_of {A = A} m one text y h =
    let x = bound h in
    let o = bound x.2 in
    subst (λ (z : List A × List Token). Listed m one z.0 text z.1) (some_is (x.0.0 ∷ o.0.0, o.0.1) y o.2)
    (x.0.1, x.1, chain_of (after_mark m) (behind_comma one) (suc (length x.0.1)) x.0.1 o.0 o.1)

pub listed_again : {A : Type 0} (m : Mark) (one : List Token → Read Token A) → Shrinks one → (xs : List A) (text rest : List Token) → Listed m one xs text rest → listed_at m one text ≡ Some (xs, rest)
unfolding listed_at repeated
listed_again m one small [] text rest h = absurd h
listed_again m one small (x ∷ xs) text rest h =
    let others = many_of_chain (after_mark m) (behind_comma one) (comma_shrinks one small) (suc (length h.0)) xs h.0 rest (omega arith) h.2 in
    rw (h.1, others) refl

pub listed_last : {A : Type 0} (m : Mark) (one : List Token → Read Token A) (x : A) (text stop rest : List Token) → one text ≡ Some (x, stop) → after_mark m stop ≡ Some rest → Listed m one (x ∷ []) text rest
listed_last m one x text stop rest e f = (stop, e, f)

pub listed_more : {A : Type 0} (m : Mark) (one : List Token → Read Token A) (x : A) (xs : List A) (text more rest : List Token) → is_same_mark comma m ≡ false
    → one text ≡ Some (x, mark comma ∷ more) → Listed m one xs more rest → Listed m one (x ∷ xs) text rest
listed_more m one x [] text more rest apart e l = absurd l
listed_more m one x (y ∷ ys) text more rest apart e l = (mark comma ∷ more, e, (l.0, other_mark m comma more apart, comma_again one more ∙ l.1, l.2))

next_of : {A : Type 0} (one : List Token → Read Token A) {ts : List Token} {z : A × List Token} → behind_comma one ts ≡ Some z → (w : List Token) × (ts ≡ mark comma ∷ w) × (one w ≡ Some z)
unfolding behind_comma
next_of one h = let w = bound h in (w.0, mark_spelled comma w.1, w.2)

-- a fact on the values of a list with their texts, from its last value on
pub listed_fact : {A : Type 0} (m : Mark) (one : List Token → Read Token A) (P : List A → List Token → Type 0) (rest : List Token)
    → ((x : A) (text : List Token) → one text ≡ Some (x, mark m ∷ rest) → P (x ∷ []) text)
    → ((x : A) (xs : List A) (text more : List Token) → one text ≡ Some (x, mark comma ∷ more) → P xs more → P (x ∷ xs) text)
    → (xs : List A) (text : List Token) → Listed m one xs text rest → P xs text
listed_fact m one P rest last further [] text l = absurd l
listed_fact {A = A} m one P rest last further (x ∷ []) text l =
    last x text (subst (λ (us : List Token). one text ≡ Some (x, us)) (mark_spelled m l.2) l.1)
listed_fact {A = A} m one P rest last further (x ∷ y ∷ ys) text l =
    let w = next_of one l.2.2 in
    further x (y ∷ ys) text w.0 (subst (λ (us : List Token). one text ≡ Some (x, us)) w.1 l.1)
    (listed_fact m one P rest last further (y ∷ ys) w.0 (l.2.0, w.2, l.2.3))
