-- The clauses that have a pair, as they are held: by their places, and as pairs change and are added.
use Rattle.std.proofs.Common.{◌≡◌, ℕ, zero, suc, ◌≤◌, List, [], ◌∷◌, ◌++◌, length, set, map, None, Some, refl, ap, arith}
use Rattle.std.specs.List.{slice_get}
use Rattle.sat_base.specs.declared.literals.Lit.{Lit}
use Rattle.sat_solve.specs.declared.pairs.Pair.{Pair}
use Rattle.sat_solve.specs.Held.{Held, held_by}

abbrev pub held_with : List Lit → Pair → Held
held_with lits p = record { lits = lits; first = p.first; second = p.second }

none_some : {X : Type 0} (x : X) → None ≡ Some x → ⊥
none_some x e = cc

some_same : {X : Type 0} (x y : X) → Some x ≡ Some y → x ≡ y
some_same x y e = cc

-- a clause that is held at a place: its literals, and its pair
pub record IsHeldAt (pairs : List Pair) (clauses : List (List Lit)) (k : ℕ) (h : Held) : Type 0 where
  pub clause_at : slice_get clauses k ≡ Some h.lits
  pub pair : Pair
  pub pair_at : slice_get pairs k ≡ Some pair
  pub first : pair.first ≡ h.first
  pub second : pair.second ≡ h.second

pub held_at : (pairs : List Pair) (clauses : List (List Lit)) (k : ℕ) (h : Held) → slice_get (held_by pairs clauses) k ≡ Some h → IsHeldAt pairs clauses k h
held_at [] clauses k h at = absurd (none_some h at)
held_at (p ∷ pairs) [] k h at = absurd (none_some h at)
held_at (p ∷ pairs) (c ∷ clauses) zero h at =
    let same : held_with c p ≡ h = some_same (held_with c p) h at in
    record {
      clause_at = ap (λ (x : Held). Some x.lits) same;
      pair = p;
      pair_at = refl;
      first = ap (λ (x : Held). x.first) same;
      second = ap (λ (x : Held). x.second) same;
    }
held_at (p ∷ pairs) (c ∷ clauses) (suc k) h at =
    let rest = held_at pairs clauses k h at in
    record {
      clause_at = rest.clause_at;
      pair = rest.pair;
      pair_at = rest.pair_at;
      first = rest.first;
      second = rest.second;
    }

-- where each clause has a pair
pub held_lits : (pairs : List Pair) (clauses : List (List Lit)) → length pairs ≡ length clauses → map (λ (h : Held). h.lits) (held_by pairs clauses) ≡ clauses
held_lits [] [] e = refl
held_lits [] (c ∷ clauses) e = absurd (let n : 0 ≡ suc (length clauses) = e in omega (arith, n))
held_lits (p ∷ pairs) [] e = absurd (let n : suc (length pairs) ≡ 0 = e in omega (arith, n))
held_lits (p ∷ pairs) (c ∷ clauses) e =
    ap (λ (cs : List (List Lit)). c ∷ cs) (held_lits pairs clauses (let n : suc (length pairs) ≡ suc (length clauses) = e in omega (arith, n)))

-- how many are held where there are enough clauses
pub held_length : (pairs : List Pair) (clauses : List (List Lit)) → length pairs ≤ length clauses → length (held_by pairs clauses) ≡ length pairs
held_length [] clauses h = refl
held_length (p ∷ pairs) [] h = absurd (let n : suc (length pairs) ≤ 0 = h in omega (arith, n))
held_length (p ∷ pairs) (c ∷ clauses) h =
    ap suc (held_length pairs clauses (let n : suc (length pairs) ≤ suc (length clauses) = h in omega (arith, n)))

-- a clause gets another pair
pub held_by-set : (pairs : List Pair) (clauses : List (List Lit)) (k : ℕ) (h : Held) (p : Pair) → slice_get (held_by pairs clauses) k ≡ Some h → held_by (set pairs k p) clauses ≡ set (held_by pairs clauses) k (held_with h.lits p)
held_by-set [] clauses k h p at = absurd (none_some h at)
held_by-set (q ∷ pairs) [] k h p at = absurd (none_some h at)
held_by-set (q ∷ pairs) (c ∷ clauses) zero h p at =
    let same : held_with c q ≡ h = some_same (held_with c q) h at in
    ap (λ (x : Held). held_with x.lits p ∷ held_by pairs clauses) same
held_by-set (q ∷ pairs) (c ∷ clauses) (suc k) h p at = ap (λ (hs : List Held). held_with c q ∷ hs) (held_by-set pairs clauses k h p at)

-- the next clause gets its pair
pub held_by-next : (pairs : List Pair) (clauses : List (List Lit)) (lits : List Lit) (p : Pair) → slice_get clauses (length pairs) ≡ Some lits → held_by (pairs ++ p ∷ []) clauses ≡ held_by pairs clauses ++ held_with lits p ∷ []
held_by-next [] [] lits p at = absurd (none_some lits at)
held_by-next [] (c ∷ clauses) lits p at = ap (λ (ls : List Lit). held_with ls p ∷ []) (some_same c lits at)
held_by-next (q ∷ pairs) [] lits p at = absurd (none_some lits at)
held_by-next (q ∷ pairs) (c ∷ clauses) lits p at = ap (λ (hs : List Held). held_with c q ∷ hs) (held_by-next pairs clauses lits p at)

-- clauses without a pair say nothing
pub held_by-more : (pairs : List Pair) (clauses more : List (List Lit)) → length pairs ≤ length clauses → held_by pairs (clauses ++ more) ≡ held_by pairs clauses
held_by-more [] clauses more h = refl
held_by-more (q ∷ pairs) [] more h = absurd (let n : suc (length pairs) ≤ 0 = h in omega (arith, n))
held_by-more (q ∷ pairs) (c ∷ clauses) more h =
    ap (λ (hs : List Held). held_with c q ∷ hs) (held_by-more pairs clauses more (let n : suc (length pairs) ≤ suc (length clauses) = h in omega (arith, n)))
