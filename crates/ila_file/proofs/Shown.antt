-- What a note shows of a text is printable.
use Rattle.std.proofs.Common.{◌≡◌, ℕ, suc, ◌<◌, ◌≤◌, Bool, true, false, cond, List, [], ◌∷◌, map, take, length, refl, arith}
use Rattle.std.proofs.lemmas.List.{length-map, length-take}
use Rattle.std.specs.List.{list_all}
use Rattle.model_places.specs.Notes.{shown, is_printable, note_of}

printable_if : (b : ℕ) (t : Bool) → is_printable b ≡ t → is_printable (cond t b 63) ≡ true
printable_if b true e = e
printable_if b false e = refl

pub all_printable : (bs : List ℕ) → list_all is_printable (map shown bs) ≡ true
all_printable [] = refl
all_printable (b ∷ bs) = rw (printable_if b _ refl, all_printable bs) refl

pub few : (n : ℕ) (bs : List ℕ) → length (map shown (take n bs)) ≤ n
few n bs = omega (arith, length-map (take n bs) shown, length-take n bs)

some_first : (n b : ℕ) (bs : List ℕ) → 0 < length (map shown (take (suc n) (b ∷ bs)))
some_first n b bs = omega arith

-- no note is empty
pub some_shown : (text : List ℕ) → 0 < length (note_of text)
some_shown [] = some_first 79 34 (34 ∷ [])
some_shown (b ∷ bs) = some_first 79 b bs
