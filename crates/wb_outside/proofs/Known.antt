-- Lemmas on the bytes that a writer is known to hold.
use Rattle.std.proofs.Common.{◌≡◌, ◌≤◌, ◌+◌, ◌-◌, ◌++◌, ℕ, List, take, drop, length, length-drop, sym, ap, ◌∙◌, subst, arith}
use Rattle.std.proofs.Math.Seq.{take-add}
use Rattle.std.proofs.lemmas.List.{take_rest}
use Rattle.std.specs.declared.option.Option.{Option}
use Rattle.std.specs.Io.KnownBytes.{Appends}
use Rattle.std.proofs.KnownBytes.{Appends-trans}

-- what is left of a piece, as a slice of it
abbrev pub rest_of : List ℕ → ℕ → List ℕ
rest_of piece done = take (length piece - done) (drop done piece)

-- more of a piece was written
pub appends_more : (before middle after : Option (List ℕ)) (piece : List ℕ) (done count : ℕ) →
    Appends before middle (take done piece) → Appends middle after (take count (rest_of piece done)) →
    Appends before after (take (done + count) piece)
appends_more before middle after piece done count so_far more =
    let added : take (done + count) piece ≡ take done piece ++ take count (rest_of piece done) =
    take-add done count piece ∙ ap (λ rest. take done piece ++ take count rest) (sym (take_rest piece done)) in
    subst (Appends before after) (sym added) (Appends-trans before middle after _ _ so_far more)

-- and the piece has as much
pub fits_more : (piece : List ℕ) (done count : ℕ) → done ≤ length piece → count ≤ length (rest_of piece done) →
    done + count ≤ length piece
fits_more piece done count inside more =
    let left : length (rest_of piece done) ≡ length piece - done = ap length (take_rest piece done) ∙ length-drop done piece in
    let fits : count ≤ length piece - done = rw left at more in
    omega (arith, inside, fits)
