-- Values that may be missing: the first of two, and one that is there where a test holds.
use Rattle.std.specs.Prelude.{Bool, cond, Option, Some, None}

abbrev pub first_of : {A : Type 0} → Option A → Option A → Option A
first_of (Some x) y = Some x
first_of None y = y

abbrev pub some_if : {A : Type 0} → Bool → A → Option A
some_if b x = cond b (Some x) None
