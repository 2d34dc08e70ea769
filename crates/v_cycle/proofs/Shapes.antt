-- Values of one sort have one shape.
use Rattle.std.proofs.Common.{◌≡◌, ◌∙◌, ◌<◌, ◌^◌, ℕ, zero, suc, nat_eq, List, [], ◌∷◌, length, get_or, refl, sym, ap, arith}
use Rattle.std.proofs.lemmas.Bool.{and_parts, eqb-true, false≢true}
use Rattle.wb_values.specs.Value.{Sort, truth, word, memory, Value, truth_value, number, words, Entries, HasSort}
use Rattle.wb_terms.specs.Environment.{AreOfSorts}
use Rattle.v_cycle.specs.Alike.{AreAlike, IsAlike}

pub AreAlike-length : (xs ys : List Value) → AreAlike xs ys → length xs ≡ length ys
AreAlike-length [] [] h = refl
AreAlike-length [] (y ∷ ys) h = absurd h
AreAlike-length (x ∷ xs) [] h = absurd h
AreAlike-length (x ∷ xs) (y ∷ ys) h = ap suc (AreAlike-length xs ys h.1)

pub AreAlike-at : (xs ys : List Value) (k : ℕ) (d e : Value) → AreAlike xs ys → k < length ys → IsAlike (get_or xs k d) (get_or ys k e)
AreAlike-at [] [] k d e h lt = absurd (omega (arith, lt))
AreAlike-at [] (y ∷ ys) k d e h lt = absurd h
AreAlike-at (x ∷ xs) [] k d e h lt = absurd h
AreAlike-at (x ∷ xs) (y ∷ ys) zero d e h lt = h.0
AreAlike-at (x ∷ xs) (y ∷ ys) (suc k) d e h lt = AreAlike-at xs ys k d e h.1 (omega (arith, lt))

alike_of : (s : Sort) (x y : Value) → HasSort x s → HasSort y s → IsAlike x y
alike_of truth (truth_value b) (truth_value c) h k = tt
alike_of truth (truth_value b) (number n) h k = absurd (false≢true k)
alike_of truth (truth_value b) (words ys) h k = absurd (false≢true k)
alike_of truth (number m) y h k = absurd (false≢true h)
alike_of truth (words xs) y h k = absurd (false≢true h)
alike_of (word w) (truth_value b) y h k = absurd (false≢true h)
alike_of (word w) (number m) (truth_value b) h k = absurd (false≢true k)
alike_of (word w) (number m) (number n) h k = tt
alike_of (word w) (number m) (words ys) h k = absurd (false≢true k)
alike_of (word w) (words xs) y h k = absurd (false≢true h)
alike_of (memory a d) (truth_value b) y h k = absurd (false≢true h)
alike_of (memory a d) (number m) y h k = absurd (false≢true h)
alike_of (memory a d) (words xs) (truth_value b) h k = absurd (false≢true k)
alike_of (memory a d) (words xs) (number n) h k = absurd (false≢true k)
alike_of (memory a d) (words xs) (words ys) h k =
    eqb-true (length xs) (2 ^ a) (and_parts (nat_eq (length xs) (2 ^ a)) _ h).0 ∙ sym (eqb-true (length ys) (2 ^ a) (and_parts (nat_eq (length ys) (2 ^ a)) _ k).0)

pub AreAlike-of : (ns : Entries Sort) (xs ys : List Value) → AreOfSorts ns xs → AreOfSorts ns ys → AreAlike xs ys
AreAlike-of [] [] [] h k = tt
AreAlike-of [] [] (y ∷ ys) h k = absurd k
AreAlike-of [] (x ∷ xs) ys h k = absurd h
AreAlike-of (n ∷ ns) [] ys h k = absurd h
AreAlike-of (n ∷ ns) (x ∷ xs) [] h k = absurd k
AreAlike-of (n ∷ ns) (x ∷ xs) (y ∷ ys) h k = (alike_of n.1 x y h.0 k.0, AreAlike-of ns xs ys h.1 k.1)
