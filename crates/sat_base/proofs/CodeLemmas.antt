-- Literals and their codes are one to one.
use Rattle.std.proofs.Common.{◌≡◌, ℕ, ◌+◌, ◌*◌, ◌/◌, ◌%◌, ◌<◌, Bool, true, false, cond, nat_eq, List, [], ◌∷◌, length, get_or, map, ⊎_elim, refl, sym, ap, ◌∙◌, subst, arith}
use Rattle.std.specs.List.{Contains}
use Rattle.std.proofs.lemmas.List.{get_or-map, length-map}
use Rattle.std.proofs.lemmas.Bool.{eqb-true, eq-eqb, cases_eq}
use Rattle.sat_base.specs.declared.literals.Lit.{Lit}
use Rattle.sat_base.specs.Codes.{code_of, literal_of}

pub same_lit : (x y : Lit) → x.var ≡ y.var → x.negative ≡ y.negative → x ≡ y
same_lit x y e f = let mk : ℕ → Bool → Lit = λ v b. record { var = v; negative = b } in ap (λ v. mk v x.negative) e ∙ ap (λ b. mk y.var b) f

half : (v : ℕ) (b : Bool) → (2 * v + cond b 1 0) / 2 ≡ v
half v true = omega arith
half v false = omega arith

odd : (v : ℕ) (b : Bool) → nat_eq ((2 * v + cond b 1 0) % 2) 1 ≡ b
odd v true = let n : (2 * v + 1) % 2 ≡ 1 = omega arith in eq-eqb ((2 * v + 1) % 2) 1 n
odd v false = let n : (2 * v + 0) % 2 ≡ 0 = omega arith in ap (λ m. nat_eq m 1) n

pub literal_of_code : (l : Lit) → literal_of (code_of l) ≡ l
literal_of_code l = same_lit (literal_of (code_of l)) l (half l.var l.negative) (odd l.var l.negative)

whole : (c r : ℕ) → c % 2 ≡ r → 2 * (c / 2) + cond (nat_eq r 1) 1 0 ≡ c
whole c r h = ⊎_elim
    (λ (one : r ≡ 1). ap (λ (b : Bool). 2 * (c / 2) + cond b 1 0) (eq-eqb r 1 one) ∙ (let n : 2 * (c / 2) + 1 ≡ c = omega (arith, h, one) in n))
    (λ (other : r ≡ 1 → ⊥). zero_case (nat_eq r 1) refl other)
    (cases_eq r 1)
  where
    zero_case : (b : Bool) → nat_eq r 1 ≡ b → (r ≡ 1 → ⊥) → 2 * (c / 2) + cond (nat_eq r 1) 1 0 ≡ c
    zero_case true t other = absurd (other (eqb-true r 1 t))
    zero_case false t other = ap (λ (b : Bool). 2 * (c / 2) + cond b 1 0) t ∙ (let n : 2 * (c / 2) + 0 ≡ c = omega (arith, h, other) in n)

pub code_of_literal : (c : ℕ) → code_of (literal_of c) ≡ c
code_of_literal c = whole c (c % 2) refl

pub same_code : (a b : ℕ) → literal_of a ≡ literal_of b → a ≡ b
same_code a b h = sym (code_of_literal a) ∙ ap code_of h ∙ code_of_literal b

pub literals_of_codes : (ls : List Lit) → map literal_of (map code_of ls) ≡ ls
literals_of_codes [] = refl
literals_of_codes (l ∷ ls) = ap (λ (x : Lit). x ∷ map literal_of (map code_of ls)) (literal_of_code l) ∙ ap (λ xs. l ∷ xs) (literals_of_codes ls)

pub code_below : (l : Lit) (n : ℕ) → l.var < n → code_of l < 2 * n
code_below l n h = below l.var l.negative h
  where
    below : (v : ℕ) (b : Bool) → v < n → 2 * v + cond b 1 0 < 2 * n
    below v true h = omega (arith, h)
    below v false h = omega (arith, h)

-- a code's literal is one of those of the codes
pub code_in : (codes : List ℕ) (k : ℕ) → k < length codes → Contains (map literal_of codes) (literal_of (get_or codes k 0))
code_in codes k l = (k, omega (arith, l, length-map codes literal_of), get_or-map literal_of codes k 0 (literal_of (get_or codes k 0)) l)

-- what all the codes' variables have, those of their literals have
pub codes_all : (codes : List ℕ) (P : ℕ → Type 0) → ((k : ℕ) → k < length codes → P (get_or codes k 0 / 2)) → (x : Lit) → Contains (map literal_of codes) x → P x.var
codes_all codes P all x i =
    let l : i.0 < length codes = omega (arith, i.1, length-map codes literal_of) in
    subst (λ (y : Lit). P y.var) (sym (get_or-map literal_of codes i.0 0 x l) ∙ i.2) (all i.0 l)
