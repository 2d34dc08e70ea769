-- Laws of reading again and again.
use Rattle.std.proofs.Common.{◌≡◌, ℕ, zero, suc, ◌<◌, List, [], ◌∷◌, ◌++◌, length, Option, Some, None, refl, sym, ap, ◌∙◌, subst, append_assoc, arith}
use Rattle.std.proofs.lemmas.List.{append-nil}
use Rattle.v_expr.specs.Repeat.{◌>>=◌, choose, Read, many, repeated}

abbrev pub some : {A : Type 0} → A → Option A
some x = Some x

pub some_is : {A : Type 0} (x y : A) → some x ≡ some y → x ≡ y
some_is x y e = cc

-- the value of a step that did not fail
pub bind_some : {A B : Type 0} (r : Option A) (f : A → Option B) (y : B) → (r >>= f) ≡ Some y → (x : A) × (r ≡ Some x) × (f x ≡ Some y)
bind_some (Some x) f y e = (x, refl, e)
bind_some None f y e = absurd cc

-- each turn takes something
abbrev pub Shrinks : {S A : Type 0} → (List S → Read S A) → Type 0
Shrinks {S = S} {A = A} one = (ts : List S) (x : A) (rest : List S) → one ts ≡ Some (x, rest) → length rest < length ts

-- the values of the turns up to the end
abbrev pub Chain : {S A : Type 0} → (List S → Option (List S)) → (List S → Read S A) → List A → List S → List S → Type 0
Chain stop one [] ts rest = stop ts ≡ Some rest
Chain {S = S} stop one (x ∷ xs) ts rest = (middle : List S) × (stop ts ≡ None) × (one ts ≡ Some (x, middle)) × Chain stop one xs middle rest

chain_by : {S A : Type 0} (stop : List S → Option (List S)) (one : List S → Read S A) (n : ℕ) (ts : List S) (y : List A × List S)
    → ((us : List S) (z : List A × List S) → many stop one n us ≡ Some z → Chain stop one z.0 us z.1)
    → (o : Option (List S)) → stop ts ≡ o
    → choose o (λ rest. Some ([], rest)) (one ts >>= λ x. many stop one n x.1 >>= λ xs. Some (x.0 ∷ xs.0, xs.1)) ≡ Some y → Chain stop one y.0 ts y.1
chain_by {S = S} {A = A} stop one n ts y hyp (Some rest) is e =
    subst (λ (z : List A × List S). Chain stop one z.0 ts z.1) (some_is ([], rest) y e) is
chain_by {S = S} {A = A} stop one n ts y hyp None is e =
    let first = bind_some (one ts) (λ x. many stop one n x.1 >>= λ xs. Some (x.0 ∷ xs.0, xs.1)) y e in
    let others = bind_some (many stop one n first.0.1) (λ xs. Some (first.0.0 ∷ xs.0, xs.1)) y first.2 in
    subst (λ (z : List A × List S). Chain stop one z.0 ts z.1) (some_is (first.0.0 ∷ others.0.0, others.0.1) y others.2)
    (first.0.1, is, first.1, hyp first.0.1 others.0 others.1)

pub chain_of : {S A : Type 0} (stop : List S → Option (List S)) (one : List S → Read S A) (n : ℕ) (ts : List S) (y : List A × List S) → many stop one n ts ≡ Some y → Chain stop one y.0 ts y.1
unfolding many
chain_of stop one zero ts y e = absurd cc
chain_of stop one (suc n) ts y e = chain_by stop one n ts y (chain_of stop one n) (stop ts) refl e

pub many_of_chain : {S A : Type 0} (stop : List S → Option (List S)) (one : List S → Read S A) → Shrinks one → (n : ℕ) (xs : List A) (ts rest : List S) → length ts < n → Chain stop one xs ts rest → many stop one n ts ≡ Some (xs, rest)
unfolding many
many_of_chain stop one shrinks zero xs ts rest lt c = absurd (omega arith)
many_of_chain stop one shrinks (suc n) [] ts rest lt c = rw c refl
many_of_chain stop one shrinks (suc n) (x ∷ xs) ts rest lt c =
    let shorter : length c.0 < length ts = shrinks ts x c.0 c.2 in
    let others = many_of_chain stop one shrinks n xs c.0 rest (omega (arith, shorter, lt)) c.3 in
    rw (c.1, c.2, others) refl

-- one value before those of the other turns
abbrev pub after_one : {S A : Type 0} → A → Read S (List A) → Read S (List A)
after_one x r = r >>= λ xs. Some (x ∷ xs.0, xs.1)

turns_by : {S A : Type 0} (stop : List S → Option (List S)) (one : List S → Read S A) → Shrinks one → (n m : ℕ) (ts : List S) → length ts < suc n → length ts < suc m
    → ((us : List S) → length us < n → length us < m → many stop one n us ≡ many stop one m us)
    → (r : Read S A) → one ts ≡ r → (r >>= λ x. after_one x.0 (many stop one n x.1)) ≡ (r >>= λ x. after_one x.0 (many stop one m x.1))
turns_by stop one shrinks n m ts lt below hyp None is = refl
turns_by {S = S} {A = A} stop one shrinks n m ts lt below hyp (Some x) is =
    let shorter : length x.1 < length ts = shrinks ts x.0 x.1 is in
    ap (after_one x.0) (hyp x.1 (omega (arith, shorter, lt)) (omega (arith, shorter, below)))

-- more turns than elements change nothing
pub many-turns : {S A : Type 0} (stop : List S → Option (List S)) (one : List S → Read S A) → Shrinks one → (n m : ℕ) (ts : List S) → length ts < n → length ts < m → many stop one n ts ≡ many stop one m ts
unfolding many
many-turns stop one shrinks zero m ts lt below = absurd (omega arith)
many-turns stop one shrinks (suc n) zero ts lt below = absurd (omega arith)
many-turns stop one shrinks (suc n) (suc m) ts lt below =
    ap (choose (stop ts) (λ rest. Some ([], rest))) (turns_by stop one shrinks n m ts lt below (many-turns stop one shrinks n m) (one ts) refl)

-- what was read before, and what is still read
abbrev pub with_front : {S A : Type 0} → List A → Read S (List A) → Read S (List A)
with_front front read = read >>= λ x. Some (front ++ x.0, x.1)

regroup : {S A : Type 0} (front : List A) (x : A) (read : Read S (List A)) → with_front front (read >>= λ xs. Some (x ∷ xs.0, xs.1)) ≡ with_front (front ++ x ∷ []) read
regroup {S = S} {A = A} front x (Some y) = ap (λ (xs : List A). some (xs, y.1)) (sym (append_assoc front (x ∷ []) y.0))
regroup front x None = refl

-- one turn more
pub goes_on : {S A : Type 0} (stop : List S → Option (List S)) (one : List S → Read S A) → Shrinks one → (front : List A) (ts : List S) (x : A) (rest : List S) (total : Read S (List A))
    → stop ts ≡ None → one ts ≡ Some (x, rest) → with_front front (repeated stop one ts) ≡ total → with_front (front ++ x ∷ []) (repeated stop one rest) ≡ total
unfolding many repeated
goes_on {S = S} {A = A} stop one shrinks front ts x rest total at_none at_one so_far =
    let shorter : length rest < length ts = shrinks ts x rest at_one in
    let turns : many stop one (length ts) rest ≡ many stop one (suc (length rest)) rest = many-turns stop one shrinks (length ts) (suc (length rest)) rest shorter (omega arith) in
    let now : repeated stop one ts ≡ (many stop one (length ts) rest >>= λ xs. Some (x ∷ xs.0, xs.1)) = rw (at_none, at_one) refl in
    sym (regroup front x (repeated stop one rest)) ∙ ap (λ (r : Read S (List A)). with_front front (after_one x r)) (sym turns) ∙ ap (with_front front) (sym now) ∙ so_far

-- the end is met
pub is_over : {S A : Type 0} (stop : List S → Option (List S)) (one : List S → Read S A) (front : List A) (ts rest : List S) (total : Read S (List A))
    → stop ts ≡ Some rest → with_front front (repeated stop one ts) ≡ total → total ≡ Some (front, rest)
unfolding many repeated
is_over {S = S} {A = A} stop one front ts rest total at_stop so_far =
    let now : repeated stop one ts ≡ Some ([], rest) = rw at_stop refl in
    sym so_far ∙ ap (with_front front) now ∙ ap (λ (xs : List A). some (xs, rest)) (append-nil front)

-- a turn fails
pub is_lost : {S A : Type 0} (stop : List S → Option (List S)) (one : List S → Read S A) (front : List A) (ts : List S) (total : Read S (List A))
    → stop ts ≡ None → one ts ≡ None → with_front front (repeated stop one ts) ≡ total → total ≡ None
unfolding many repeated
is_lost stop one front ts total at_stop at_one so_far =
    let now : repeated stop one ts ≡ None = rw (at_stop, at_one) refl in
    sym so_far ∙ ap (with_front front) now

nothing_in_front : {S A : Type 0} (read : Read S (List A)) → with_front [] read ≡ read
nothing_in_front None = refl
nothing_in_front (Some y) = refl

-- nothing was read yet
pub with_nothing : {S A : Type 0} (stop : List S → Option (List S)) (one : List S → Read S A) (ts : List S) → with_front [] (repeated stop one ts) ≡ repeated stop one ts
with_nothing stop one ts = nothing_in_front (repeated stop one ts)
