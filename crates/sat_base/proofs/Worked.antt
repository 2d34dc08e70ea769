-- Worked values of following, refuting and being new.
use Rattle.std.proofs.Common.{◌≡◌, ◌≢◌, ℕ, ◌<◌, ◌≤◌, Bool, true, false, ◌⊎◌, inl, inr, List, [], ◌∷◌, length, Some, Contains, arith, refl, sym, ap, ◌∙◌, subst}
use Rattle.std.proofs.lemmas.Option.{slice_get_within}
use Rattle.std.proofs.lemmas.Bool.{cases_eq}
use Rattle.sat_base.specs.declared.literals.Lit.{Lit}
use Rattle.sat_base.specs.declared.logs.Lemma.{Lemma}
use Rattle.sat_base.specs.Literal.{negation, positive, opposed}
use Rattle.sat_base.specs.Formula.{Formula}
use Rattle.sat_base.specs.Propagation.{IsUnitUnder, Follows, IsNew}
use Rattle.sat_base.specs.Log.{FollowsAt, Refutes}
use Rattle.sat_base.proofs.Implied.{Contains-cons_cases}

nothing : {X : Type 0} (x : X) → Contains [] x → ⊥
nothing x (k, below, found) = omega arith

only : {X : Type 0} (x y : X) → Contains (x ∷ []) y → x ≡ y
only x y member = elim (Contains-cons_cases x [] y member) [ inl e ↦ e | inr none ↦ absurd (nothing y none) ]

head : {X : Type 0} (x : X) (xs : List X) → Contains (x ∷ xs) x
head x xs = (0, omega arith, refl)

second : {X : Type 0} (x y : X) (xs : List X) → Contains (x ∷ y ∷ xs) y
second x y xs = (1, omega arith, refl)

other_variable : positive 1 ≡ positive 2 → ⊥
other_variable e = let n : ◌≡◌ {A = ℕ} 1 2 = ap (λ (l : Lit). l.var) e in omega arith

other_sign : (v w : ℕ) → positive v ≡ opposed w → ⊥
other_sign v w e = let b : false ≡ true = ap (λ (l : Lit). l.negative) e in cc

-- the unit of a clause of two, the first of which is falsified
unit_of_two : (falsified : List Lit) (a b l : Lit) → Contains falsified a → IsUnitUnder falsified (a ∷ b ∷ []) l → b ≡ l
unit_of_two falsified a b l in_a unit =
    elim (Contains-cons_cases a (b ∷ []) l unit.own) [
      | inl e ↦ absurd (unit.unfalsified (subst (Contains falsified) e in_a))
      | inr rest ↦ only b l rest
    ]

unit_is_two : (falsified : List Lit) (a b : Lit) → Contains falsified a → ¬ Contains falsified b → IsUnitUnder falsified (a ∷ b ∷ []) b
unit_is_two falsified a b in_a out_b = record {
  own = second a b [];
  unfalsified = out_b;
  others = λ m member. elim (Contains-cons_cases a (b ∷ []) m member) [
    | inl e ↦ inr (subst (Contains falsified) e in_a)
    | inr rest ↦ inl (sym (only b m rest))
  ];
}

first_is : {c d : List Lit} → Some c ≡ Some d → c ≡ d
first_is found = cc

pub not_earlier : (earlier : List (List Lit)) (lits : List Lit) (hint : ℕ) → length earlier ≤ hint → ¬ Follows earlier lits (hint ∷ [])
not_earlier earlier lits hint past (clause, found, inside) = beyond (slice_get_within earlier hint clause found)
  where
    beyond : hint < length earlier → ⊥
    beyond below = omega arith

pub satisfied : ¬ Follows ((positive 1 ∷ []) ∷ (positive 2 ∷ []) ∷ []) (opposed 1 ∷ []) (0 ∷ 1 ∷ [])
satisfied (clause, found, l, unit, apart, rest) =
    let own = subst (λ (c : List Lit). Contains c l) (sym (first_is found)) unit.own in
    apart (subst (λ (x : Lit). Contains (opposed 1 ∷ []) (negation x)) (only (positive 1) l own) (head (opposed 1) []))

pub once : Follows ((positive 1 ∷ positive 2 ∷ []) ∷ (opposed 2 ∷ []) ∷ []) (positive 1 ∷ []) (0 ∷ 1 ∷ [])
once = (
  positive 1 ∷ positive 2 ∷ [],
  refl,
  positive 2,
  unit_is_two (positive 1 ∷ []) (positive 1) (positive 2) (head (positive 1) []) (λ member. other_variable (only (positive 1) (positive 2) member)),
  λ member. other_sign 1 2 (only (positive 1) (opposed 2) member),
  (opposed 2 ∷ [], refl, λ m member. subst (Contains (opposed 2 ∷ positive 1 ∷ [])) (only (opposed 2) m member) (head (opposed 2) (positive 1 ∷ []))),
)

pub twice : ¬ Follows ((positive 1 ∷ positive 2 ∷ []) ∷ (opposed 2 ∷ []) ∷ []) (positive 1 ∷ []) (0 ∷ 0 ∷ 1 ∷ [])
twice (clause, found, l, unit, apart, (again, found_again, m, unit_again, apart_again, rest)) =
    let first = subst (λ (c : List Lit). IsUnitUnder (positive 1 ∷ []) c l) (sym (first_is found)) unit in
    let is_l = unit_of_two (positive 1 ∷ []) (positive 1) (positive 2) l (head (positive 1) []) first in
    let next = subst (λ (c : List Lit). IsUnitUnder (negation l ∷ positive 1 ∷ []) c m) (sym (first_is found_again)) unit_again in
    let is_m = unit_of_two (negation l ∷ positive 1 ∷ []) (positive 1) (positive 2) m (second (negation l) (positive 1) []) next in
    apart_again (subst (λ (x : Lit). Contains (negation l ∷ positive 1 ∷ []) (negation x)) (sym is_l ∙ is_m) (head (negation l) (positive 1 ∷ [])))

pub early : ¬ Follows ((positive 1 ∷ []) ∷ []) (positive 1 ∷ []) (0 ∷ 0 ∷ [])
early (clause, found, l, unit, apart, rest) =
    unit.unfalsified (subst (λ (c : List Lit). Contains c l) (sym (first_is found)) unit.own)

pub none : ¬ Follows ((positive 1 ∷ positive 2 ∷ []) ∷ []) (positive 1 ∷ []) (0 ∷ [])
none (clause, found, inside) =
    other_variable (only (positive 1) (positive 2)
    (inside (positive 2) (subst (λ (c : List Lit). Contains c (positive 2)) (first_is found) (second (positive 1) (positive 2) []))))

pub repeated : IsUnitUnder (positive 1 ∷ []) (positive 1 ∷ positive 2 ∷ positive 2 ∷ []) (positive 2)
repeated = record {
  own = second (positive 1) (positive 2) (positive 2 ∷ []);
  unfalsified = λ member. other_variable (only (positive 1) (positive 2) member);
  others = λ m member. elim (Contains-cons_cases (positive 1) (positive 2 ∷ positive 2 ∷ []) m member) [
    | inl e ↦ inr (subst (Contains (positive 1 ∷ [])) e (head (positive 1) []))
    | inr rest ↦ elim (Contains-cons_cases (positive 2) (positive 2 ∷ []) m rest) [ inl e ↦ inl (sym e) | inr last ↦ inl (sym (only (positive 2) m last)) ]
  ];
}

pub tautology : Follows ((positive 1 ∷ []) ∷ []) (positive 1 ∷ opposed 1 ∷ []) (0 ∷ [])
tautology = (
  positive 1 ∷ [],
  refl,
  λ m member. subst (Contains (positive 1 ∷ opposed 1 ∷ [])) (only (positive 1) m member) (head (positive 1) (opposed 1 ∷ [])),
)

pub from_empty : (lits : List Lit) → Follows ([] ∷ []) lits (0 ∷ [])
from_empty lits = ([], refl, λ m member. absurd (nothing m member))

-- the set of no literals shows that the unit is new
pub learnt_unit : IsNew ((positive 1 ∷ positive 2 ∷ []) ∷ (positive 1 ∷ opposed 2 ∷ []) ∷ []) (positive 1 ∷ [])
learnt_unit = (
  positive 1,
  head (positive 1) [],
  λ l. false,
  record {
    others = λ m member differs. absurd (differs (sym (only (positive 1) m member)));
    not_implied = refl;
    no_conflict = λ clause member all. clash (all (positive 1) (starts clause member));
    closed = λ clause m member in_clause out rest. elim (Contains-cons_cases (positive 1 ∷ positive 2 ∷ []) ((positive 1 ∷ opposed 2 ∷ []) ∷ []) clause member) [
      | inl e ↦ another (positive 2) other_variable clause m e in_clause rest
      | inr last ↦ another (opposed 2) (λ e. other_sign 1 2 e) clause m (only (positive 1 ∷ opposed 2 ∷ []) clause last) in_clause rest
    ];
  },
)
  where
    clash : false ≡ true → ⊥
    clash e = cc

    starts : (clause : List Lit) → Contains ((positive 1 ∷ positive 2 ∷ []) ∷ (positive 1 ∷ opposed 2 ∷ []) ∷ []) clause → Contains clause (positive 1)
    starts clause member =
        elim (Contains-cons_cases (positive 1 ∷ positive 2 ∷ []) ((positive 1 ∷ opposed 2 ∷ []) ∷ []) clause member) [
          | inl e ↦ subst (λ (c : List Lit). Contains c (positive 1)) e (head (positive 1) (positive 2 ∷ []))
          | inr last ↦ subst (λ (c : List Lit). Contains c (positive 1)) (only (positive 1 ∷ opposed 2 ∷ []) clause last) (head (positive 1) (opposed 2 ∷ []))
        ]

    another : (b : Lit) → ¬ (positive 1 ≡ b) → (clause : List Lit) (m : Lit) → positive 1 ∷ b ∷ [] ≡ clause → Contains clause m
        → ((n : Lit) → Contains clause n → n ≢ m → false ≡ true) → false ≡ true
    another b apart clause m is member rest =
        elim (Contains-cons_cases (positive 1) (b ∷ []) m (subst (λ (c : List Lit). Contains c m) (sym is) member)) [
          | inl e ↦ rest b (subst (λ (c : List Lit). Contains c b) is (second (positive 1) b [])) (λ same. apart (e ∙ sym same))
          | inr last ↦ rest (positive 1) (subst (λ (c : List Lit). Contains c (positive 1)) is (head (positive 1) (b ∷ [])))
              (λ same. apart (same ∙ sym (only b m last)))
        ]

-- two literals are one, or they differ
same_lit : (l m : Lit) → (l ≡ m) ⊎ (l ≡ m → ⊥)
same_lit l m =
    elim (cases_eq l.var m.var) [
      | inl v ↦ elim (same_sign l.negative m.negative) [
        | inl s ↦ inl (ap (λ (x : ℕ). let y : Lit = record { var = x; negative = l.negative } in y) v
            ∙ ap (λ (b : Bool). let y : Lit = record { var = m.var; negative = b } in y) s)
        | inr d ↦ inr (λ e. d (ap (λ (x : Lit). x.negative) e))
      ]
      | inr d ↦ inr (λ e. d (ap (λ (x : Lit). x.var) e))
    ]
  where
    same_sign : (a b : Bool) → (a ≡ b) ⊎ (a ≡ b → ⊥)
    same_sign true true = inl refl
    same_sign false false = inl refl
    same_sign true false = inr (λ e. cc)
    same_sign false true = inr (λ e. cc)

pub holds_earlier : (earlier : List (List Lit)) (clause lits : List Lit) → Contains earlier clause
    → ((m : Lit) → Contains clause m → Contains lits m) → ¬ IsNew earlier lits
holds_earlier earlier clause lits member holds (l, own, inside, new) =
    elim (either (inside l)) [
      | inl in_l ↦ new.no_conflict clause member (λ m in_clause. elim (same_lit m l) [
        | inl e ↦ subst (λ (x : Lit). inside x ≡ true) (sym e) in_l
        | inr differs ↦ new.others m (holds m in_clause) differs
      ])
      | inr out_l ↦ new.no_conflict clause member (λ m in_clause. elim (same_lit m l) [
        | inl e ↦ absurd (clash (new.closed clause l member (subst (Contains clause) e in_clause) out_l
            (λ n in_n differs. new.others n (holds n in_n) differs)) new.not_implied)
        | inr differs ↦ new.others m (holds m in_clause) differs
      ])
    ]
  where
    either : (b : Bool) → (b ≡ true) ⊎ (b ≡ false)
    either true = inl refl
    either false = inr refl

    clash : {b : Bool} → b ≡ true → b ≡ false → ⊥
    clash p q = cc

pub empty : (earlier : List (List Lit)) → ¬ IsNew earlier []
empty earlier (l, own, inside, new) = nothing l own

abbrev units : Formula
units = record { vars = 2; clauses = (positive 1 ∷ []) ∷ (opposed 1 ∷ []) ∷ [] }

abbrev conflict : Lemma
conflict = record { lits = []; hints = 0 ∷ 1 ∷ [] }

unit_of_one : IsUnitUnder [] (positive 1 ∷ []) (positive 1)
unit_of_one = record {
  own = head (positive 1) [];
  unfalsified = nothing (positive 1);
  others = λ m member. inl (sym (only (positive 1) m member));
}

conflict_follows : FollowsAt units (conflict ∷ []) 0
conflict_follows = (
  conflict,
  refl,
  (
    positive 1 ∷ [],
    refl,
    positive 1,
    unit_of_one,
    nothing (opposed 1),
    (opposed 1 ∷ [], refl, λ m member. subst (Contains (opposed 1 ∷ [])) (only (opposed 1) m member) (head (opposed 1) [])),
  ),
)

pub opposite_units : Refutes units (conflict ∷ [])
opposite_units = (0, (conflict, refl, refl), λ j below. subst (FollowsAt units (conflict ∷ [])) (first j below) conflict_follows)
  where
    first : (j : ℕ) → j ≤ 0 → 0 ≡ j
    first j below = omega arith
