-- The first test that holds chooses.
use Rattle.std.proofs.Common.{◌≡◌, refl, sym, Bool, true, false, true≢false, cond}

pub first_kind : {A : Type 0} (b : Bool) (x y : A) → b ≡ true → x ≡ cond b x y
first_kind true x y e = refl
first_kind false x y e = absurd (true≢false (sym e))

pub later_kind : {A : Type 0} (b : Bool) (x y z : A) → b ≡ false → z ≡ y → z ≡ cond b x y
later_kind true x y z e h = absurd (true≢false e)
later_kind false x y z e h = h
