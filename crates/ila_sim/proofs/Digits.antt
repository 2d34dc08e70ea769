-- A number past a limit stays past it, whatever digits follow.
use Rattle.std.proofs.Common.{◌≡◌, ℕ, suc, ◌+◌, ◌*◌, ◌-◌, ◌≤◌, ◌<◌, List, [], ◌∷◌, length, drop, get_or, Some, None, arith, refl, subst}
use Rattle.std.proofs.lemmas.Bool.Decides.{nat_tests}
use Rattle.std.proofs.Math.Seq.{drop-cons}
use Rattle.scripts.specs.Script.{with_decimal_digits, with_either_digits, either_digit_value}
use Rattle.ila_sim.specs.Cuts.{below}

pub is_past : (limit n : ℕ) → below limit (Some n) ≡ None → limit ≤ n
is_past limit n h = grind (arith, nat_tests)

pub past : (limit n : ℕ) → limit ≤ n → below limit (Some n) ≡ None
past limit n h = grind (arith, nat_tests)

pub within : (limit n : ℕ) → n < limit → below limit (Some n) ≡ Some n
within limit n h = grind (arith, nat_tests)

past_decimals : (limit n : ℕ) (ds : List ℕ) → limit ≤ n → limit ≤ with_decimal_digits n ds
past_decimals limit n [] h = h
past_decimals limit n (d ∷ ds) h = past_decimals limit (n * 10 + (d - 48)) ds (omega arith)

past_letters : (limit n : ℕ) (ds : List ℕ) → limit ≤ n → limit ≤ with_either_digits n ds
past_letters limit n [] h = h
past_letters limit n (d ∷ ds) h = past_letters limit (n * 16 + either_digit_value d) ds (omega arith)

pub lost_decimals : (limit n : ℕ) (ds : List ℕ) (i d x : ℕ) → i < length ds → with_decimal_digits 0 ds ≡ with_decimal_digits n (drop i ds)
    → x ≡ get_or ds i d - 48 → below limit (Some (n * 10 + x)) ≡ None → None ≡ below limit (Some (with_decimal_digits 0 ds))
lost_decimals limit n ds i d x h e g stop0 =
    let next : ℕ = n * 10 + (get_or ds i d - 48) in
    let stop : below limit (Some next) ≡ None = subst (λ y. below limit (Some (n * 10 + y)) ≡ None) g stop0 in
    rw (e, drop-cons ds i d h, past limit (with_decimal_digits next (drop (suc i) ds)) (past_decimals limit next (drop (suc i) ds) (is_past limit next stop))) refl

pub lost_letters : (limit n : ℕ) (ds : List ℕ) (i d x : ℕ) → i < length ds → with_either_digits 0 ds ≡ with_either_digits n (drop i ds)
    → x ≡ either_digit_value (get_or ds i d) → below limit (Some (n * 16 + x)) ≡ None → None ≡ below limit (Some (with_either_digits 0 ds))
lost_letters limit n ds i d x h e g stop0 =
    let next : ℕ = n * 16 + either_digit_value (get_or ds i d) in
    let stop : below limit (Some next) ≡ None = subst (λ y. below limit (Some (n * 16 + y)) ≡ None) g stop0 in
    rw (e, drop-cons ds i d h, past limit (with_either_digits next (drop (suc i) ds)) (past_letters limit next (drop (suc i) ds) (is_past limit next stop))) refl
