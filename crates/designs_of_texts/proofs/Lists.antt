-- What holds of each element of a list.
use Rattle.std.proofs.Common.{◌≡◌, ◌⊎◌, inl, inr, ◌++◌, List, [], ◌∷◌, subst}
use Rattle.verilog_unique.proofs.Descent.{IsAmong}
use Rattle.v_print.specs.Printable.{Each, EachOfSome}

pub each-at : {A : Type 0} (P : A → Type 0) (xs : List A) (x : A) → Each P xs → IsAmong xs x → P x
each-at P [] x h c = absurd c
each-at P (y ∷ ys) x h (inl e) = subst P e h.0
each-at P (y ∷ ys) x h (inr c) = each-at P ys x h.1 c

pub each-append : {A : Type 0} (P : A → Type 0) (xs ys : List A) → Each P xs → Each P ys → Each P (xs ++ ys)
each-append P [] ys h k = k
each-append P (x ∷ xs) ys h k = (h.0, each-append P xs ys h.1 k)

pub each-some : {A : Type 0} (P : A → Type 0) (xs : List A) → EachOfSome P xs → Each P xs
each-some P [] h = absurd h
each-some P (x ∷ xs) h = h
