-- Numbers in place of literals: that they stand for them, apart and with their negations.
use Rattle.std.proofs.Common.{◌≡◌, ℕ, ◌<◌, ◌≤◌, ◌+◌, ◌-◌, ◌*◌, ◌/◌, ◌%◌, Bool, true, false, not, cond, eqb, ◌⊎◌, inl, inr, List, [], ◌∷◌, ◌++◌, length, map, All, Contains, arith, sym, ap, ◌∙◌, subst, get_or, append_assoc, Err}
use Rattle.std.specs.List.Sorted.{IsStrictlyIncreasing, IsPermutation, IsBinarySearchResult}
use Rattle.std.specs.List.{dedup}
use Rattle.std.specs.Ordering.{nat_cmp}
use Rattle.std.proofs.lemmas.List.{map-append, append-nil, get_or_read}
use Rattle.std.proofs.lemmas.List.Elements.{All-push, Contains-append_left, Contains-append_right}
use Rattle.std.proofs.lemmas.List.Kept.{AllPairs-from_increasing, Contains-dedup_nat}
use Rattle.std.proofs.lemmas.List.Sorted.{Contains-permutation, searched}
use Rattle.std.proofs.lemmas.Bool.{cases_lt, eq-eqb}
use Rattle.sat_base.specs.declared.literals.Lit.{Lit}
use Rattle.sat_base.specs.Literal.{negation}
use Rattle.sat_check.specs.Numbering.{literal_at, opposite, IsNumbering, HasVariables, KeepsAll, Numbers, AddsNumbered}
use Rattle.sat_check.proofs.Walks.{Contains-map}

-- a number is even or odd
parity : (x : ℕ) → (x % 2 ≡ 0) ⊎ (x % 2 ≡ 1)
parity x = elim (cases_lt (x % 2) 1) [ inl below ↦ inl (omega arith) | inr above ↦ inr (omega arith) ]

opposite_even : (x : ℕ) → x % 2 ≡ 0 → opposite x ≡ x + 1
opposite_even x e = ap (λ (b : Bool). cond b (x + 1) (x - 1)) (eq-eqb (x % 2) 0 e)

opposite_odd : (x : ℕ) → x % 2 ≡ 1 → opposite x ≡ x - 1
opposite_odd x e = ap (λ (r : ℕ). cond (eqb r 0) (x + 1) (x - 1)) e

lit_is : (v w : ℕ) (b c : Bool) → v ≡ w → b ≡ c → ◌≡◌ {A = Lit} (record { var = v; negative = b }) (record { var = w; negative = c })
lit_is v w b c p q =
    ap (λ (x : ℕ). let l : Lit = record { var = x; negative = b } in l) p
    ∙ ap (λ (y : Bool). let l : Lit = record { var = w; negative = y } in l) q

literal_at-opposite : (variables : List ℕ) (x : ℕ) → literal_at variables (opposite x) ≡ negation (literal_at variables x)
literal_at-opposite variables x =
    elim (parity x) [
      | inl e ↦
          let o = opposite_even x e in
          lit_is _ _ _ _ (ap (λ (k : ℕ). get_or variables k 0) (omega (arith, o)))
          (ap (λ (r : ℕ). eqb r 1) (one_even o e) ∙ sym (ap (λ (r : ℕ). not (eqb r 1)) e))
      | inr e ↦
          let o = opposite_odd x e in
          lit_is _ _ _ _ (ap (λ (k : ℕ). get_or variables k 0) (omega (arith, o)))
          (ap (λ (r : ℕ). eqb r 1) (zero_odd o e) ∙ sym (ap (λ (r : ℕ). not (eqb r 1)) e))
    ]
  where
    one_even : opposite x ≡ x + 1 → x % 2 ≡ 0 → opposite x % 2 ≡ 1
    one_even o e = omega (arith, o)

    zero_odd : opposite x ≡ x - 1 → x % 2 ≡ 1 → opposite x % 2 ≡ 0
    zero_odd o e = omega (arith, o)

-- two places of ascending numbers that hold the same number are one
place_apart : (variables : List ℕ) → IsStrictlyIncreasing variables → (i j : ℕ) → i < length variables → j < length variables
    → get_or variables i 0 ≡ get_or variables j 0 → i ≡ j
place_apart variables increasing i j i_below j_below same =
    elim (cases_lt i j) [
      | inl below ↦ absurd (clash i j below (AllPairs-from_increasing variables increasing i j 0 below j_below) same)
      | inr above ↦ elim (cases_lt j i) [
        | inl below ↦ absurd (clash j i below (AllPairs-from_increasing variables increasing j i 0 below i_below) (sym same))
        | inr equal ↦ omega arith
      ]
    ]
  where
    clash : (a b : ℕ) → a < b → get_or variables a 0 < get_or variables b 0 → get_or variables a 0 ≡ get_or variables b 0 → ⊥
    clash a b below less e = omega arith

literal_at-apart : (variables : List ℕ) → IsStrictlyIncreasing variables → (x y : ℕ) → x < 2 * length variables → y < 2 * length variables
    → literal_at variables x ≡ literal_at variables y → x ≡ y
literal_at-apart variables increasing x y x_below y_below same =
    let half : x / 2 ≡ y / 2 =
    place_apart variables increasing (x / 2) (y / 2) (omega arith) (omega arith) (ap (λ (l : Lit). l.var) same) in
    let odd : eqb (x % 2) 1 ≡ eqb (y % 2) 1 = ap (λ (l : Lit). l.negative) same in
    let rest : x % 2 ≡ y % 2 = same_rest (parity x) (parity y) odd in
    omega (arith, half, rest)
  where
    same_rest : (x % 2 ≡ 0) ⊎ (x % 2 ≡ 1) → (y % 2 ≡ 0) ⊎ (y % 2 ≡ 1) → eqb (x % 2) 1 ≡ eqb (y % 2) 1 → x % 2 ≡ y % 2
    same_rest (inl p) (inl q) odd = p ∙ sym q
    same_rest (inr p) (inr q) odd = p ∙ sym q
    same_rest (inl p) (inr q) odd = absurd (clash (sym (ap (λ (r : ℕ). eqb r 1) p) ∙ odd ∙ ap (λ (r : ℕ). eqb r 1) q))
      where
        clash : false ≡ true → ⊥
        clash e = cc
    same_rest (inr p) (inl q) odd = absurd (clash (sym (ap (λ (r : ℕ). eqb r 1) p) ∙ odd ∙ ap (λ (r : ℕ). eqb r 1) q))
      where
        clash : true ≡ false → ⊥
        clash e = cc

-- the numbering by ascending variables
pub IsNumbering-literal_at : (variables : List ℕ) → IsStrictlyIncreasing variables → (n : ℕ) → n ≡ 2 * length variables
    → IsNumbering n (literal_at variables)
IsNumbering-literal_at variables increasing n is = record {
  apart = λ x y x_below y_below same. literal_at-apart variables increasing x y (omega arith) (omega arith) same;
  negated = λ x below. literal_at-opposite variables x;
}

-- a variable that is in the list is found there
pub not_missing : (variables : List ℕ) (v place : ℕ) → IsStrictlyIncreasing variables → Contains variables v
    → IsBinarySearchResult (λ y. nat_cmp y v) variables (Err place) → ⊥
not_missing variables v place increasing (k, below, found) result =
    let says = searched variables v (Err place) result rising in
    elim (cases_lt k place) [
      | inl front ↦ absurd (clash_front (says.1 k front))
      | inr back ↦ absurd (clash_back (says.2 k back below))
    ]
  where
    rising : (i j : ℕ) → i ≤ j → j < length variables → get_or variables i 0 ≤ get_or variables j 0
    rising i j ordered j_below =
        elim (cases_lt i j) [
          | inl less ↦ omega (arith, AllPairs-from_increasing variables increasing i j 0 less j_below)
          | inr same ↦ at_one (omega arith)
        ]
      where
        at_one : i ≡ j → get_or variables i 0 ≤ get_or variables j 0
        at_one e = subst (λ (m : ℕ). get_or variables i 0 ≤ get_or variables m 0) e (omega arith)

    read : get_or variables k 0 ≡ v
    read = sym (get_or_read variables k v below (sym found) 0)

    clash_front : get_or variables k 0 < v → ⊥
    clash_front less = omega (arith, read)

    clash_back : v < get_or variables k 0 → ⊥
    clash_back less = omega (arith, read)

-- more variables have all that fewer have
HasVariables-more : (old new : List ℕ) (clauses : List (List Lit)) → KeepsAll old new → HasVariables old clauses → HasVariables new clauses
HasVariables-more old new clauses keeps has i c i_below k l k_below = keeps _ (has i c i_below k l k_below)

-- the variables of one more clause
pub HasVariables-push : (old new : List ℕ) (clauses : List (List Lit)) (lits : List Lit) → HasVariables old clauses
    → new ≡ old ++ map (λ l. l.var) lits → HasVariables new (clauses ++ (lits ∷ []))
HasVariables-push old new clauses lits has is =
    subst (λ (v : List ℕ). HasVariables v (clauses ++ (lits ∷ []))) (sym is)
    (All-push (All (λ (l : Lit). Contains (old ++ map (λ (m : Lit). m.var) lits) l.var)) clauses lits
    (HasVariables-more old (old ++ map (λ (m : Lit). m.var) lits) clauses
    (λ x member. Contains-append_left old (map (λ (m : Lit). m.var) lits) x member) has)
    (λ k d below. Contains-append_right old (map (λ (m : Lit). m.var) lits) (get_or lits k d).var (Contains-map (λ (m : Lit). m.var) lits k d below)))

pub KeepsAll-push : (start old new more : List ℕ) → KeepsAll start old → new ≡ old ++ more → KeepsAll start new
KeepsAll-push start old new more keeps is x member =
    subst (λ (v : List ℕ). Contains v x) (sym is) (Contains-append_left old more x (keeps x member))

pub KeepsAll-sorted : (variables sorted : List ℕ) → IsPermutation variables sorted → KeepsAll variables (dedup eqb sorted)
KeepsAll-sorted variables sorted permutation x member = Contains-dedup_nat sorted x (Contains-permutation variables sorted x permutation member)

pub HasVariables-sorted : (variables sorted : List ℕ) (clauses : List (List Lit)) → IsPermutation variables sorted
    → HasVariables variables clauses → HasVariables (dedup eqb sorted) clauses
HasVariables-sorted variables sorted clauses permutation has =
    HasVariables-more variables (dedup eqb sorted) clauses
    (λ x member. Contains-dedup_nat sorted x (Contains-permutation variables sorted x permutation member)) has

pub HasVariables-kept : (old new : List ℕ) (clauses : List (List Lit)) → KeepsAll old new → HasVariables old clauses → HasVariables new clauses
HasVariables-kept = HasVariables-more

-- no list is added yet, and one more
pub AddsNumbered-none : (variables : List ℕ) (old : List (List ℕ)) → AddsNumbered variables old old []
AddsNumbered-none variables old = record { literals = sym (append-nil _); range = λ all. all }

pub AddsNumbered-push : (variables : List ℕ) (old now new : List (List ℕ)) (clauses : List (List Lit)) (numbers : List ℕ) (lits : List Lit)
    → AddsNumbered variables old now clauses → Numbers variables numbers lits → new ≡ now ++ (numbers ∷ [])
    → AddsNumbered variables old new (clauses ++ (lits ∷ []))
AddsNumbered-push variables old now new clauses numbers lits adds stand is = record {
  literals =
      ap (map (map (literal_at variables))) is
      ∙ map-append (map (literal_at variables)) now (numbers ∷ [])
      ∙ ap (λ (front : List (List Lit)). front ++ (map (literal_at variables) numbers ∷ [])) adds.literals
      ∙ ap (λ (c : List Lit). (map (map (literal_at variables)) old ++ clauses) ++ (c ∷ [])) stand.literals
      ∙ append_assoc (map (map (literal_at variables)) old) clauses (lits ∷ []);
  range = λ all.
      subst (All (All (λ x. x < 2 * length variables))) (sym is)
      (All-push (All (λ x. x < 2 * length variables)) now numbers (adds.range all) stand.range);
}
