-- How many variables a set has, when one goes in or out.
use Rattle.std.proofs.Common.{◌≡◌, ℕ, zero, suc, ◌+◌, ◌<◌, ◌≤◌, Bool, true, false, cond, List, [], ◌∷◌, length, get_or, set, replicate, refl, ap, arith}
use Rattle.std.proofs.lemmas.List.Sums.{sum_by-set, sum_by-cons}
use Rattle.sat_solve.specs.Marks.{member_count}

pub member_count-insert : (marked : List Bool) (x : ℕ) → x < length marked → get_or marked x false ≡ false → member_count (set marked x true) ≡ member_count marked + 1
member_count-insert marked x within h =
    let swap = sum_by-set (λ (b : Bool). cond b 1 0) marked x true false within in
    let none : ◌≡◌ {A = ℕ} (cond (get_or marked x false) 1 0) 0 = ap {B = ℕ} (λ (b : Bool). cond b 1 0) h in
    omega (arith, swap, none)

pub member_count-remove : (marked : List Bool) (x : ℕ) → x < length marked → get_or marked x false ≡ true → member_count (set marked x false) + 1 ≡ member_count marked
member_count-remove marked x within h =
    let swap = sum_by-set (λ (b : Bool). cond b 1 0) marked x false false within in
    let one : ◌≡◌ {A = ℕ} (cond (get_or marked x false) 1 0) 1 = ap {B = ℕ} (λ (b : Bool). cond b 1 0) h in
    omega (arith, swap, one)

pub member_count-le : (marked : List Bool) → member_count marked ≤ length marked
member_count-le [] = omega arith
member_count-le (true ∷ marked) = omega (arith, sum_by-cons (λ (b : Bool). cond b 1 0) true marked, member_count-le marked)
member_count-le (false ∷ marked) = omega (arith, sum_by-cons (λ (b : Bool). cond b 1 0) false marked, member_count-le marked)

pub member_count-replicate : (n : ℕ) → member_count (replicate n false) ≡ 0
member_count-replicate zero = refl
member_count-replicate (suc n) = member_count-replicate n

pub no_member : (marked : List Bool) (v : ℕ) → member_count marked ≡ 0 → get_or marked v false ≡ false
no_member [] v h = refl
no_member (true ∷ marked) v h = absurd (omega (arith, sum_by-cons (λ (b : Bool). cond b 1 0) true marked, h))
no_member (false ∷ marked) zero h = refl
no_member (false ∷ marked) (suc v) h = no_member marked v (omega (arith, sum_by-cons (λ (b : Bool). cond b 1 0) false marked, h))
