-- Tiers as one loop: operators of the first so many tiers behind an operand, each with a right operand of the tiers below it.
use Rattle.std.proofs.Common.{◌≡◌, ℕ, zero, suc, ◌<◌, ◌≤◌, true, false, cond, List, length, Option, Some, None, refl, sym, ap, ◌∙◌, subst, arith, inl, inr}
use Rattle.std.specs.Prelude.{◌-◌, ◌+◌, ◌==◌}
use Rattle.verilog_text.specs.Token.{Token}
use Rattle.verilog_trees.specs.Syntax.{Expression}
use Rattle.v_expr.specs.Repeat.{◌>>=◌, Read}
use Rattle.v_expr.specs.Reading.{Reader, prefixed_at, joins_at, links_at, linked_at, chain_at, tier_at}
use Rattle.std.proofs.lemmas.Bool.{cases_eq, eq-eqb}
use Rattle.std.proofs.lemmas.Bool.Decides.{nat_tests}
use Rattle.v_expr.proofs.Repeat.{Shrinks, some_is}
use Rattle.v_expr.proofs.Spelled.{bound, either_way}
use Rattle.v_expr.proofs.Grow.{linked-on, linked-over, linked-lost}

-- the operators of the first n tiers behind an operand, tier by tier
unfoldable pub joined_at : ℕ → Reader → Expression → List Token → Read Token Expression
joined_at zero whole_at a ts = Some (a, ts)
joined_at (suc n) whole_at a ts = joined_at n whole_at a ts >>= λ x. linked_at (11 - n) (tier_at n whole_at) x.0 x.1

bind_assoc : {A B C : Type 0} (r : Option A) (f : A → Option B) (g : B → Option C) → (r >>= f >>= g) ≡ (r >>= λ x. f x >>= g)
bind_assoc None f g = refl
bind_assoc (Some x) f g = refl

as_read : (r : Read Token Expression) → r ≡ (r >>= λ x. Some (x.0, x.1))
as_read None = refl
as_read (Some x) = refl

-- a tier is its operand with what is joined to it
pub tier-joined : (n : ℕ) (whole_at : Reader) (ts : List Token) → tier_at n whole_at ts ≡ (prefixed_at whole_at ts >>= λ x. joined_at n whole_at x.0 x.1)
unfolding tier_at chain_at joined_at
tier-joined zero whole_at ts = as_read (prefixed_at whole_at ts)
tier-joined (suc n) whole_at ts =
    ap (λ (r : Read Token Expression). r >>= λ x. linked_at (11 - n) (tier_at n whole_at) x.0 x.1) (tier-joined n whole_at ts)
    ∙ bind_assoc (prefixed_at whole_at ts) (λ x. joined_at n whole_at x.0 x.1) (λ x. linked_at (11 - n) (tier_at n whole_at) x.0 x.1)

-- no operator of the first n tiers stands in front
abbrev pub HasNone : ℕ → List Token → Type 0
HasNone n ts = (k : ℕ) → k < n → joins_at (11 - k) ts ≡ None

pub joined-over : (n : ℕ) (whole_at : Reader) (a : Expression) (ts : List Token) → HasNone n ts → joined_at n whole_at a ts ≡ Some (a, ts)
unfolding joined_at
joined-over zero whole_at a ts h = refl
joined-over (suc n) whole_at a ts h =
    ap (λ (r : Read Token Expression). r >>= λ x. linked_at (11 - n) (tier_at n whole_at) x.0 x.1) (joined-over n whole_at a ts (λ k lt. h k (omega (arith, lt))))
    ∙ linked-over (11 - n) (tier_at n whole_at) a ts (h n (omega arith))

-- what holds of where the tokens start, and behind each operand, holds behind the links
links_end : (P : List Token → Type 0) (k : ℕ) (operand_at : Reader) → ((us : List Token) (b : Expression × List Token) → operand_at us ≡ Some b → P b.1)
    → (n : ℕ) (a : Expression) (ts : List Token) (y : Expression × List Token) → P ts → links_at k operand_at n a ts ≡ Some y → P y.1 × (joins_at k y.1 ≡ None)
unfolding links_at
links_end P k operand_at holds zero a ts y p e = absurd cc
links_end P k operand_at holds (suc n) a ts y p e =
    either_way e
    (λ w. let b = bound w.2 in links_end P k operand_at holds n (w.0.0 a b.0.0) b.0.1 y (holds w.0.1 b.0 b.1) b.2)
    (λ w. subst (λ (z : Expression × List Token). P z.1 × (joins_at k z.1 ≡ None)) (some_is (a, ts) y w.1) (p, w.0))

linked_end : (P : List Token → Type 0) (k : ℕ) (operand_at : Reader) → ((us : List Token) (b : Expression × List Token) → operand_at us ≡ Some b → P b.1)
    → (a : Expression) (ts : List Token) (y : Expression × List Token) → P ts → linked_at k operand_at a ts ≡ Some y → P y.1 × (joins_at k y.1 ≡ None)
unfolding linked_at
linked_end P k operand_at holds a ts y p e = links_end P k operand_at holds (suc (length ts)) a ts y p e

one_more : (n : ℕ) (ts : List Token) → HasNone n ts → joins_at (11 - n) ts ≡ None → HasNone (suc n) ts
one_more n ts h e k lt = elim (cases_eq k n) [ inl same ↦ subst (λ j. joins_at (11 - j) ts ≡ None) (sym same) e | inr other ↦ h k (omega (arith, lt, other)) ]

-- behind a tier stands no operator of it
pub tier_end : (n : ℕ) (whole_at : Reader) (ts : List Token) (y : Expression × List Token) → tier_at n whole_at ts ≡ Some y → HasNone n y.1
unfolding tier_at chain_at
tier_end zero whole_at ts y e = λ k lt. absurd (omega (arith, lt))
tier_end (suc n) whole_at ts y e =
    let x = bound e in
    let h = linked_end (HasNone n) (11 - n) (tier_at n whole_at) (tier_end n whole_at) x.0.0 x.0.1 y (tier_end n whole_at ts x.0 x.1) x.2 in
    one_more n y.1 h.0 h.1

-- tiers have operators of different levels
tiers_apart : (i j : ℕ) → i < j → j ≤ 10 → (11 - j == 11 - i) ≡ false
tiers_apart i j lt most = grind (arith, nat_tests)

-- the operator in front is of tier j, and so of no other
abbrev pub IsOfTier : ℕ → List Token → (Expression → Expression → Expression) × List Token → Type 0
IsOfTier j ts f = (j ≤ 10) × ((k : ℕ) → joins_at k ts ≡ cond (11 - j == k) (Some f) None)

pub of_tier : (j : ℕ) (ts : List Token) (f : (Expression → Expression → Expression) × List Token) → IsOfTier j ts f → joins_at (11 - j) ts ≡ Some f
of_tier j ts f h = let same : (11 - j == 11 - j) ≡ true = eq-eqb (11 - j) (11 - j) refl in h.1 (11 - j) ∙ ap (λ b. cond b (Some f) None) same

no_tighter : (j : ℕ) (ts : List Token) (f : (Expression → Expression → Expression) × List Token) → IsOfTier j ts f → HasNone j ts
no_tighter j ts f h = λ i lt. h.1 (11 - i) ∙ ap (λ b. cond b (Some f) None) (tiers_apart i j lt h.0)

-- j, and d further
abbrev further : ℕ → ℕ → ℕ
further zero j = j
further (suc d) j = suc (further d j)

further-plus : (d j : ℕ) → further d j ≡ d + j
further-plus zero j = omega arith
further-plus (suc d) j = omega (arith, further-plus d j)

up_to : (n j : ℕ) → j < n → further (n - suc j) (suc j) ≡ n
up_to n j lt = omega (arith, lt, further-plus (n - suc j) (suc j))

-- equal so far, equal with the further tiers
joined-same : (d j : ℕ) (whole_at : Reader) (a b : Expression) (ts us : List Token) → joined_at j whole_at a ts ≡ joined_at j whole_at b us → joined_at (further d j) whole_at a ts ≡ joined_at (further d j) whole_at b us
unfolding joined_at
joined-same zero j whole_at a b ts us e = e
joined-same (suc d) j whole_at a b ts us e =
    ap (λ (r : Read Token Expression). r >>= λ x. linked_at (11 - (further d j)) (tier_at (further d j) whole_at) x.0 x.1) (joined-same d j whole_at a b ts us e)

joined-lost-more : (d j : ℕ) (whole_at : Reader) (a : Expression) (ts : List Token) → joined_at j whole_at a ts ≡ None → joined_at (further d j) whole_at a ts ≡ None
unfolding joined_at
joined-lost-more zero j whole_at a ts e = e
joined-lost-more (suc d) j whole_at a ts e =
    ap (λ (r : Read Token Expression). r >>= λ x. linked_at (11 - (further d j)) (tier_at (further d j) whole_at) x.0 x.1) (joined-lost-more d j whole_at a ts e)

joined-here : (j : ℕ) (whole_at : Reader) → Shrinks (tier_at j whole_at) → (a : Expression) (ts : List Token) (f : (Expression → Expression → Expression) × List Token) (b : Expression) (rest : List Token)
    → IsOfTier j ts f → tier_at j whole_at f.1 ≡ Some (b, rest) → joined_at (suc j) whole_at a ts ≡ joined_at (suc j) whole_at (f.0 a b) rest
unfolding joined_at
joined-here j whole_at small a ts f b rest at_operator at_operand =
    ap (λ (r : Read Token Expression). r >>= λ x. linked_at (11 - j) (tier_at j whole_at) x.0 x.1) (joined-over j whole_at a ts (no_tighter j ts f at_operator))
    ∙ linked-on (11 - j) (tier_at j whole_at) small a ts f b rest (of_tier j ts f at_operator) at_operand
    ∙ ap (λ (r : Read Token Expression). r >>= λ x. linked_at (11 - j) (tier_at j whole_at) x.0 x.1) (sym (joined-over j whole_at (f.0 a b) rest (tier_end j whole_at f.1 (b, rest) at_operand)))

joined-lost-here : (j : ℕ) (whole_at : Reader) (a : Expression) (ts : List Token) (f : (Expression → Expression → Expression) × List Token)
    → IsOfTier j ts f → tier_at j whole_at f.1 ≡ None → joined_at (suc j) whole_at a ts ≡ None
unfolding joined_at
joined-lost-here j whole_at a ts f at_operator at_operand =
    ap (λ (r : Read Token Expression). r >>= λ x. linked_at (11 - j) (tier_at j whole_at) x.0 x.1) (joined-over j whole_at a ts (no_tighter j ts f at_operator))
    ∙ linked-lost (11 - j) (tier_at j whole_at) a ts f (of_tier j ts f at_operator) at_operand

-- One operator more. It is of tier j, one of the first n, and its right operand of the tiers before.
pub joined-on : (n j : ℕ) (whole_at : Reader) → Shrinks (tier_at j whole_at) → (a : Expression) (ts : List Token) (f : (Expression → Expression → Expression) × List Token) (b : Expression) (rest : List Token)
    → j < n → IsOfTier j ts f → tier_at j whole_at f.1 ≡ Some (b, rest) → joined_at n whole_at a ts ≡ joined_at n whole_at (f.0 a b) rest
joined-on n j whole_at small a ts f b rest lt at_operator at_operand =
    subst (λ m. joined_at m whole_at a ts ≡ joined_at m whole_at (f.0 a b) rest) (up_to n j lt)
    (joined-same (n - suc j) (suc j) whole_at a (f.0 a b) ts rest (joined-here j whole_at small a ts f b rest at_operator at_operand))

-- no operand behind an operator
pub joined-lost : (n j : ℕ) (whole_at : Reader) (a : Expression) (ts : List Token) (f : (Expression → Expression → Expression) × List Token)
    → j < n → IsOfTier j ts f → tier_at j whole_at f.1 ≡ None → joined_at n whole_at a ts ≡ None
joined-lost n j whole_at a ts f lt at_operator at_operand =
    subst (λ m. joined_at m whole_at a ts ≡ None) (up_to n j lt) (joined-lost-more (n - suc j) (suc j) whole_at a ts (joined-lost-here j whole_at a ts f at_operator at_operand))
