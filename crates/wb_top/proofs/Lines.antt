-- Notes of model files and of scripts are notes of refusals.
use Rattle.std.proofs.Common.{◌≡◌, ◌<◌, ◌≤◌, ◌∙◌, ◌++◌, ◌&&◌, ℕ, Bool, true, false, true≢false, List, [], ◌∷◌, Result, Ok, Err, IfOk, Vec, Global, refl, ap, sym, subst, codes, length, map, take, IsTrue, arith}
use Rattle.std.proofs.lemmas.Bool.{leb-true, ltb-true}
use Rattle.std.specs.List.{list_all}
use Rattle.v_lex.specs.Notes.{shown}
use Rattle.wb_top.specs.Texts.{is_printable, fits_note, IsNote, IsRefusalBy}

some_first : (b : ℕ) (bs : List ℕ) → 0 < length (map shown (take 80 (b ∷ bs)))
some_first b bs = omega arith

pub is_note : (text : List ℕ) → 0 < length text → length text ≤ 80 → IsTrue (list_all is_printable text) → IsNote text
is_note text some short printable = record { some = some; short = short; printable = printable }

both : (a b : Bool) → (a && b) ≡ true → (a ≡ true) × (b ≡ true)
both true b h = (refl, h)
both false b h = absurd (true≢false (sym h))

-- a text that passes the test of notes is one
pub noted : (text : List ℕ) → IsTrue (fits_note text) → IsNote text
noted text h =
    let all = both _ _ h in
    let length_fits = both _ _ all.0 in
    is_note text (ltb-true 0 (length text) length_fits.0) (leb-true (length text) 80 length_fits.1) all.1

-- a note with a name before it is never empty
pub some_named : (text name note : List ℕ) → text ≡ map shown (take 80 (name ++ 32 ∷ note)) → 0 < length text
some_named text [] note is = subst (λ (t : List ℕ). 0 < length t) (sym is) (some_first 32 note)
some_named text (b ∷ bs) note is = subst (λ (t : List ℕ). 0 < length t) (sym is) (some_first b (bs ++ 32 ∷ note))

-- a text of a rule's name and a note is a refusal by it
pub refused : {E : Type 0} (r : Result (Vec ℕ Global) E) (rule name note : List ℕ) → name ≡ rule → IsNote note
    → IfOk r (λ text. text.items ≡ codes "refused " ++ (name ++ 10 ∷ (codes "note " ++ (note ++ 10 ∷ []))))
    → IfOk r (λ text. IsRefusalBy rule text.items)
refused (Ok text) rule name note is noted h =
    (note, noted, h ∙ ap (λ n. codes "refused " ++ (n ++ 10 ∷ (codes "note " ++ (note ++ 10 ∷ [])))) is)
refused (Err e) rule name note is noted h = tt
