-- The last byte of a kind in a text.
use Rattle.std.proofs.Common.{◌≡◌, ℕ, zero, suc, ◌+◌, ◌<◌, ◌≤◌, List, [], ◌∷◌, length, take, drop, get_or, Some, None, true, false, arith, refl}
use Rattle.std.specs.Prelude.{◌==◌}
use Rattle.std.proofs.Math.Seq.{drop-cons}
use Rattle.std.proofs.lemmas.List.{length-drop}
use Rattle.std.proofs.lemmas.Bool.Decides.{nat_tests}
use Rattle.scripts.specs.Script.{at_last, before_bracket}
use Rattle.ila_sim.specs.Cuts.{cut_at, below}

pub is_last : (c : ℕ) (xs : List ℕ) (k d : ℕ) → k < length xs → (get_or xs k d == c) ≡ true → at_last c (drop (suc k) xs) ≡ None → at_last c xs ≡ Some (cut_at xs k)
is_last c [] k d h e n = absurd (omega arith)
is_last c (x ∷ xs) zero d h e n = rw (n, e) refl
is_last c (x ∷ xs) (suc k) d h e n = rw (is_last c xs k d (omega arith) e n) refl

pub is_not_last : (c : ℕ) (xs : List ℕ) (k d : ℕ) → k < length xs → (get_or xs k d == c) ≡ false → at_last c (drop (suc k) xs) ≡ None → at_last c (drop k xs) ≡ None
is_not_last c xs k d h e n = rw (drop-cons xs k d h, n, e) refl

pub same_byte : (x c : ℕ) → x ≡ c → (x == c) ≡ true
same_byte x c e = grind (arith, nat_tests)

more_behind : (limit : ℕ) (left right : List ℕ) → 1 ≤ length right → None ≡ below limit (before_bracket (Some (left, right)))
more_behind limit left [] h = absurd (omega arith)
more_behind limit left (b ∷ bs) h = refl

pub not_at_end : (limit : ℕ) (text : List ℕ) (k : ℕ) → k + 1 < length text → None ≡ below limit (before_bracket (Some (cut_at text k)))
not_at_end limit text k h = more_behind limit (take k text) (drop (suc k) text) (omega (arith, length-drop (suc k) text))
