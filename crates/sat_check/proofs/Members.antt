-- A set of numbers with a list of its members: what an insertion keeps, and what taking one out keeps.
use Rattle.std.proofs.Common.{◌≡◌, ℕ, zero, suc, ◌<◌, ◌≤◌, ◌+◌, Bool, true, false, cond, inl, inr, List, [], ◌∷◌, ◌++◌, length, take, Contains, arith, refl, sym, ap, ◌∙◌, subst, get_or, get_or-set_other, get_or-set_same, below_more, add-one, replicate}
use Rattle.std.proofs.Math.ListN.{set, length-set}
use Rattle.std.proofs.Math.Seq.{take-suc-set, take-suc}
use Rattle.std.proofs.lemmas.List.Sums.{sum_by-set, sum_by-cons}
use Rattle.std.proofs.lemmas.List.Elements.{Contains-push, Contains-append_left, Contains-push_cases}
use Rattle.std.proofs.lemmas.Bool.{cases_eq}
use Rattle.sat_check.specs.Marks.{member_count, ListsMembers}

-- there are at most as many members as numbers
member_count-le : (marked : List Bool) → member_count marked ≤ length marked
member_count-le [] = omega arith
member_count-le (true ∷ marked) =
    omega (arith, sum_by-cons (λ (b : Bool). cond b 1 0) true marked, member_count-le marked)
member_count-le (false ∷ marked) =
    omega (arith, sum_by-cons (λ (b : Bool). cond b 1 0) false marked, member_count-le marked)

-- one more member
member_count-set : (marked : List Bool) (x : ℕ) → x < length marked → get_or marked x false ≡ false
    → member_count (set marked x true) ≡ member_count marked + 1
member_count-set marked x within h =
    let swap = sum_by-set (λ b. cond b 1 0) marked x true false within in
    let none : ◌≡◌ {A = ℕ} (cond (get_or marked x false) 1 0) 0 = ap {B = ℕ} (λ (b : Bool). cond b 1 0) h in
    omega (arith, swap, none)

-- a set that lacks a number has room for it
pub member_count-below : (marked : List Bool) (x : ℕ) → x < length marked → get_or marked x false ≡ false
    → member_count marked < length marked
member_count-below marked x within h =
    let more = member_count-set marked x within h in
    let bound = member_count-le (set marked x true) in
    let same : length (set marked x true) ≡ length marked = length-set marked x true in
    omega (arith, more, bound, same)

pub ListsMembers-insert : (marked : List Bool) (members : List ℕ) (count x : ℕ) → ListsMembers marked members count
    → x < length marked → get_or marked x false ≡ false
    → ListsMembers (set marked x true) (set members count x) (count + 1)
ListsMembers-insert marked members count x lists within h =
    let room : count < length members = omega (arith, lists.room, lists.all, member_count-below marked x within h) in
    let same : length (set marked x true) ≡ length marked = length-set marked x true in
    record {
      room = length-set members count x ∙ lists.room ∙ sym same;
      all = omega (arith, lists.all, member_count-set marked x within h);
      in_range = below_more _ _
          (λ k below. rw (get_or-set_other members count k x 0 (omega arith)) (omega (arith, lists.in_range k below, same)))
          (rw (get_or-set_same members count x 0 room) (omega (arith, same)));
      listed = λ y marked_y.
          rw (add-one, take-suc-set members count x room)
          (elim (cases_eq x y) [
            | inl is ↦ subst (Contains (take count members ++ (x ∷ []))) is (Contains-push (take count members) x)
            | inr differs ↦ Contains-append_left (take count members) (x ∷ []) y
                (lists.listed y (sym (get_or-set_other marked x y true false (λ e. differs (sym e))) ∙ marked_y))
          ]);
    }

-- what a set keeps while its members are taken out, the last first
pub record IsEmptying (marked : List Bool) (members : List ℕ) (count size : ℕ) : Type 0 where
  pub whole : length marked ≡ size
  pub room : length members ≡ length marked
  pub within : count ≤ length members
  pub in_range : (k : ℕ) → k < count → get_or members k 0 < length marked
  pub listed : (x : ℕ) → get_or marked x false ≡ true → Contains (take count members) x

pub IsEmptying-from : (marked : List Bool) (members : List ℕ) (count : ℕ) → ListsMembers marked members count
    → IsEmptying marked members count (length marked)
IsEmptying-from marked members count lists = record {
  whole = refl;
  room = lists.room;
  within = omega (arith, lists.room, lists.all, member_count-le marked);
  in_range = lists.in_range;
  listed = lists.listed;
}

pub IsEmptying-step : (marked : List Bool) (members : List ℕ) (before count size x : ℕ) → IsEmptying marked members before size
    → before ≡ count + 1 → x ≡ get_or members count 0 → IsEmptying (set marked x false) members count size
IsEmptying-step marked members before count size x lists-before one is =
    let lists : IsEmptying marked members (count + 1) size = subst (λ (n : ℕ). IsEmptying marked members n size) one lists-before in
    let same : length (set marked x false) ≡ length marked = length-set marked x false in
    let within : count < length members = omega (arith, lists.within) in
    let inside : x < length marked = omega (arith, is, lists.in_range count (omega arith)) in
    record {
      whole = same ∙ lists.whole;
      room = lists.room ∙ sym same;
      within = omega (arith, lists.within);
      in_range = λ k below. omega (arith, same, lists.in_range k (omega arith));
      listed = λ y marked_y.
          elim (cases_eq y x) [
            | inl e ↦ absurd (off y e inside marked_y)
            | inr differs ↦ earlier y differs (lists.listed y (sym (get_or-set_other marked x y false false differs) ∙ marked_y)) within
          ];
    }
  where
    off : (y : ℕ) → y ≡ x → x < length marked → get_or (set marked x false) y false ≡ true → ⊥
    off y e inside marked_y =
        let read : get_or (set marked x false) y false ≡ false =
        ap (λ (z : ℕ). get_or (set marked x false) z false) e ∙ get_or-set_same marked x false false inside in
        cc

    earlier : (y : ℕ) → (y ≡ x → ⊥) → Contains (take (count + 1) members) y → count < length members → Contains (take count members) y
    earlier y differs member within =
        elim (Contains-push_cases (take count members) (get_or members count 0) y
        (rw (add-one, take-suc members count 0 within) at member)) [
          | inl here ↦ here
          | inr e ↦ absurd (differs (sym e ∙ sym is))
        ]

-- a list of truth values none of which is true
all_false : (marked : List Bool) → ((x : ℕ) → get_or marked x false ≡ true → ⊥) → marked ≡ replicate (length marked) false
all_false [] none = refl
all_false (true ∷ marked) none = absurd (none 0 refl)
all_false (false ∷ marked) none = ap (λ (m : List Bool). false ∷ m) (all_false marked (λ x. none (suc x)))

member_count-replicate : (n : ℕ) → member_count (replicate n false) ≡ 0
member_count-replicate zero = refl
member_count-replicate (suc n) = member_count-replicate n

pub IsEmptying-end : (marked : List Bool) (members : List ℕ) (count size : ℕ) → IsEmptying marked members count size → count ≡ 0
    → marked ≡ replicate size false
IsEmptying-end marked members count size lists e =
    subst (λ (n : ℕ). marked ≡ replicate n false) lists.whole
    (all_false marked (λ x marked_x. none x (subst (λ (n : ℕ). Contains (take n members) x) e (lists.listed x marked_x))))
  where
    none : (x : ℕ) → Contains (take 0 members) x → ⊥
    none x (k, below, found) = omega arith

pub ListsMembers-end : (marked : List Bool) (members : List ℕ) (count size : ℕ) → IsEmptying marked members count size → count ≡ 0
    → ListsMembers marked members count
ListsMembers-end marked members count size lists e =
    record {
      room = lists.room;
      all = e ∙ sym (member_count-replicate size) ∙ sym (ap (λ (m : List Bool). member_count m) (IsEmptying-end marked members count size lists e));
      in_range = lists.in_range;
      listed = lists.listed;
    }
