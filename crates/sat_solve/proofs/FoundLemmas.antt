-- What unit propagation gets from a clause, literal by literal.
use Rattle.std.proofs.Common.{◌≡◌, ℕ, Bool, true, false, not, ◌&&◌, nat_eq, List, get_or, refl, sym, ap, ◌∙◌, subst}
use mathlib.Core.Bool.{beq}
use Rattle.std.proofs.lemmas.Bool.{false≢true, true≢false, eqb-true, eq-eqb, and_parts, and_from, not-true, not-false}
use Rattle.sat_base.specs.declared.literals.Lit.{Lit}
use Rattle.sat_solve.proofs.Signs.{same_lit}

abbrev pub literal_at : List Lit → ℕ → Lit
literal_at clause i = get_or clause i record { var = 0; negative = false }

pub beq-true : (a b : Bool) → beq a b ≡ true → a ≡ b
beq-true true true h = refl
beq-true false false h = refl
beq-true true false h = absurd (false≢true h)
beq-true false true h = absurd (false≢true h)

pub beq-false : (a b : Bool) → beq a b ≡ false → a ≡ not b
beq-false true true h = absurd (true≢false h)
beq-false false false h = absurd (true≢false h)
beq-false true false h = refl
beq-false false true h = refl

beq-same : (a : Bool) → beq a a ≡ true
beq-same true = refl
beq-same false = refl

-- what the derived comparison of two literals says
pub compared : (l x : Lit) → false ≡ not (nat_eq l.var x.var && beq l.negative x.negative) → l ≡ x
compared l x h =
    let both = and_parts (nat_eq l.var x.var) (beq l.negative x.negative) (not-false (nat_eq l.var x.var && beq l.negative x.negative) (sym h)) in
    same_lit l x (eqb-true l.var x.var both.0) (beq-true l.negative x.negative both.1)

pub apart : (l x : Lit) → true ≡ not (nat_eq l.var x.var && beq l.negative x.negative) → l ≡ x → ⊥
apart l x h same =
    let both = and_from (nat_eq l.var x.var) (beq l.negative x.negative) (eq-eqb l.var x.var (ap (λ (y : Lit). y.var) same)) (subst (λ b. beq l.negative b ≡ true) (ap (λ (y : Lit). y.negative) same) (beq-same l.negative)) in
    true≢false (sym both ∙ not-true (nat_eq l.var x.var && beq l.negative x.negative) (sym h))
