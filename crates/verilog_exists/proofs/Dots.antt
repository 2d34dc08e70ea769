-- A dotted name tells the path and the name of which it is made, where no name has a dot.
use Rattle.std.proofs.Common.{◌≡◌, ℕ, List, [], ◌∷◌, ◌++◌, inl, inr, refl, sym, ap, ◌∙◌, subst, reverse, Some, None}
use Rattle.std.proofs.lemmas.List.{reverse-append, reverse-reverse, append_assoc, append-nil}
use Rattle.wb_values.specs.Value.{Name}
use Rattle.verilog_meaning.specs.Hierarchy.{PathStep, step_text, dotted}
use Rattle.verilog_unique.proofs.Descent.{IsAmong, among_either}

-- no dot stands in the list
abbrev pub Plain : List ℕ → Type 0
Plain xs = IsAmong xs 46 → ⊥

-- the steps are instances whose names have no dot
abbrev pub ArePlainSteps : List PathStep → Type 0
ArePlainSteps [] = Unit {0}
ArePlainSteps (u ∷ path) = (u.index ≡ None) × Plain u.of_name × ArePlainSteps path

-- what stands before a name, from its end
abbrev before : List PathStep → List ℕ
before [] = []
before (u ∷ path) = 46 ∷ reverse u.of_name ++ before path

step_plain : (u : PathStep) → u.index ≡ None → step_text u ≡ u.of_name
step_plain u e = elim u.index as (λ i. i ≡ None → step_text (record { of_name = u.of_name; index = i }) ≡ u.of_name) [ None ↦ λ f. append-nil u.of_name | Some i ↦ λ f. cc ] e

backwards : (path : List PathStep) (n : Name) → ArePlainSteps path → reverse (dotted path n) ≡ reverse n ++ before path
backwards [] n h = sym (append-nil (reverse n))
backwards (u ∷ path) n h =
    backwards path (step_text u ++ 46 ∷ n) h.2
    ∙ ap (λ t. reverse (t ++ 46 ∷ n) ++ before path) (step_plain u h.0)
    ∙ ap (λ t. t ++ before path) (reverse-append u.of_name (46 ∷ n))
    ∙ ap (λ t. (t ++ reverse u.of_name) ++ before path) (reverse-append (46 ∷ []) n)
    ∙ append_assoc (reverse n ++ 46 ∷ []) (reverse u.of_name) (before path)
    ∙ append_assoc (reverse n) (46 ∷ []) (reverse u.of_name ++ before path)

-- what is left of a name from its end: nothing, or a dot and more
abbrev EndsName : List ℕ → Type 0
EndsName [] = Unit {0}
EndsName (x ∷ xs) = x ≡ 46

before_ends : (path : List PathStep) → EndsName (before path)
before_ends [] = tt
before_ends (u ∷ path) = refl

head_of : {x y : ℕ} {xs ys : List ℕ} → x ∷ xs ≡ y ∷ ys → x ≡ y
head_of e = cc

tail_of : {x y : ℕ} {xs ys : List ℕ} → x ∷ xs ≡ y ∷ ys → xs ≡ ys
tail_of e = cc

split : (xs ys as' bs : List ℕ) → Plain xs → Plain ys → EndsName as' → EndsName bs → xs ++ as' ≡ ys ++ bs → (xs ≡ ys) × (as' ≡ bs)
split [] [] as' bs p q h k e = (refl, e)
split [] (y ∷ ys) [] bs p q h k e = cc
split [] (y ∷ ys) (a ∷ as') bs p q h k e = absurd (q (inl (sym (head_of e) ∙ h)))
split (x ∷ xs) [] as' [] p q h k e = cc
split (x ∷ xs) [] as' (b ∷ bs) p q h k e = absurd (p (inl (head_of e ∙ k)))
split (x ∷ xs) (y ∷ ys) as' bs p q h k e =
    let r = split xs ys as' bs (λ m. p (inr m)) (λ m. q (inr m)) h k (tail_of e) in
    (ap (λ z. z ∷ xs) (head_of e) ∙ ap (λ zs. y ∷ zs) r.0, r.1)

reversed_among : (xs : List ℕ) (x : ℕ) → IsAmong (reverse xs) x → IsAmong xs x
reversed_among [] x h = h
reversed_among (y ∷ ys) x h =
    elim (among_either (reverse ys) (y ∷ []) x (subst (λ zs. IsAmong zs x) (reverse-append (y ∷ []) ys) h)) as (λ _. IsAmong (y ∷ ys) x) [
      | inl k ↦ inr (reversed_among ys x k)
      | inr k ↦ last k
    ]
  where
    last : IsAmong (y ∷ []) x → IsAmong (y ∷ ys) x
    last (inl e) = inl e
    last (inr k) = absurd k

reversed_plain : (xs : List ℕ) → Plain xs → Plain (reverse xs)
reversed_plain xs p h = p (reversed_among xs 46 h)

one_name : (xs ys : List ℕ) → reverse xs ≡ reverse ys → xs ≡ ys
one_name xs ys e = sym (reverse-reverse xs) ∙ ap reverse e ∙ reverse-reverse ys

same_before : (path other : List PathStep) → ArePlainSteps path → ArePlainSteps other → before path ≡ before other → path ≡ other
same_before [] [] p q e = refl
same_before [] (u ∷ other) p q e = cc
same_before (u ∷ path) [] p q e = cc
same_before (u ∷ path) (w ∷ other) p q e =
    let r = split (reverse u.of_name) (reverse w.of_name) (before path) (before other) (reversed_plain u.of_name p.1) (reversed_plain w.of_name q.1)
    (before_ends path) (before_ends other) (tail_of e) in
    ap (λ s. s ∷ path) (same_step u w (one_name u.of_name w.of_name r.0) (p.0 ∙ sym q.0)) ∙ ap (λ path. w ∷ path) (same_before path other p.2 q.2 r.1)
  where
    same_step : (a b : PathStep) → a.of_name ≡ b.of_name → a.index ≡ b.index → a ≡ b
    same_step a b f g = ap (λ n. record { of_name = n; index = a.index }) f ∙ ap (λ i. record { of_name = b.of_name; index = i }) g

pub dots_tell : (path other : List PathStep) (n m : Name) → ArePlainSteps path → ArePlainSteps other → Plain n → Plain m → dotted path n ≡ dotted other m
    → (path ≡ other) × (n ≡ m)
dots_tell path other n m p q h k e =
    let r = split (reverse n) (reverse m) (before path) (before other) (reversed_plain n h) (reversed_plain m k) (before_ends path) (before_ends other)
    (sym (backwards path n p) ∙ ap reverse e ∙ backwards other m q) in
    (same_before path other p q r.1, one_name n m r.0)
