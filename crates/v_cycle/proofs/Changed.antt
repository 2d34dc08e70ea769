-- What values are after numbers are stored in them.
use Rattle.std.proofs.Common.{◌≡◌, ◌∙◌, ◌<◌, ◌≤◌, ◌++◌, ℕ, zero, suc, true, false, List, [], ◌∷◌, length, get_or, set, take, refl, sym, ap, arith}
use Rattle.std.specs.Prelude.{◌==◌}
use Rattle.std.proofs.lemmas.Bool.{false≢true}
use Rattle.std.proofs.lemmas.List.{length-set, get_or-set_same, set-set, set-get_or}
use Rattle.wb_values.specs.Value.{Sort, truth, word, memory, Value, truth_value, number, words, numeral_of, HasSort}
use Rattle.model_meaning.specs.Term.{is_memory_sort}
use Rattle.v_cycle.specs.declared.changes.Stored.{Stored}
use Rattle.v_cycle.specs.declared.changes.Change.{Change}
use Rattle.v_cycle.specs.declared.changes.Changes.{Changes}
use Rattle.v_cycle.specs.Changing.{stored_in, stored_by, changed, changed_at, changed_by, IsListed}

pub changed-set : (xs : List Value) (k : ℕ) (s : Stored) (d : Value) → k < length xs → changed xs k s ≡ set xs k (stored_in (get_or xs k d) s)
changed-set [] k s d lt = absurd (omega (arith, lt))
changed-set (x ∷ xs) zero s d lt = refl
changed-set (x ∷ xs) (suc k) s d lt = ap (λ l. x ∷ l) (changed-set xs k s d (omega (arith, lt)))

pub changed-past : (xs : List Value) (k : ℕ) (s : Stored) → length xs ≤ k → changed xs k s ≡ xs
changed-past [] k s le = refl
changed-past (x ∷ xs) zero s le = absurd (omega (arith, le))
changed-past (x ∷ xs) (suc k) s le = ap (λ l. x ∷ l) (changed-past xs k s (omega (arith, le)))

changed-take : (n : ℕ) (xs : List Value) (k : ℕ) (s : Stored) → take n (changed xs k s) ≡ changed (take n xs) k s
changed-take zero xs k s = refl
changed-take (suc n) [] k s = refl
changed-take (suc n) (x ∷ xs) zero s = refl
changed-take (suc n) (x ∷ xs) (suc k) s = ap (λ l. x ∷ l) (changed-take n xs k s)

-- changes of the first values
pub changed_by-take : (n : ℕ) (xs : List Value) (cs : List Change) → take n (changed_by xs cs) ≡ changed_by (take n xs) cs
changed_by-take n xs [] = refl
changed_by-take n xs (c ∷ cs) =
    changed_by-take n (changed xs c.register c.stored) cs ∙ ap (λ l. changed_by l cs) (changed-take n xs c.register c.stored)

changed_by-push : (xs : List Value) (cs : List Change) (c : Change) → changed_by xs (cs ++ c ∷ []) ≡ changed (changed_by xs cs) c.register c.stored
changed_by-push xs [] c = refl
changed_by-push xs (b ∷ cs) c = changed_by-push (changed xs b.register b.stored) cs c

-- a change that is made and listed
pub listed_more : (old new : Changes) (c : Change) (xs ys zs : List Value)
    → (new.is_complete ≡ true → (old.is_complete ≡ true) × (new.list.items ≡ old.list.items ++ c ∷ []))
    → zs ≡ changed ys c.register c.stored → IsListed old xs ys → IsListed new xs zs
listed_more old new c xs ys zs added made listed =
    λ complete.
    let a = added complete in
    made ∙ ap (λ l. changed l c.register c.stored) (listed a.0) ∙ sym (ap (changed_by xs) a.1 ∙ changed_by-push xs old.list.items c)

-- the store that is noted last is the first one
pub stored_by-push : (x : Value) (ss : List Stored) (s : Stored) → stored_by x (ss ++ s ∷ []) ≡ stored_by (stored_in x s) ss
stored_by-push x [] s = refl
stored_by-push x (r ∷ ss) s = ap (λ y. stored_in y r) (stored_by-push x ss s)

pub changed_at-push : (xs : List Value) (k : ℕ) (ss : List Stored) (s : Stored) → changed_at xs k (ss ++ s ∷ []) ≡ changed_at (changed xs k s) k ss
changed_at-push xs k [] s = refl
changed_at-push xs k (r ∷ ss) s = ap (λ l. changed l k r) (changed_at-push xs k ss s)

pub changed_at-set : (xs : List Value) (k : ℕ) (ss : List Stored) (d : Value) → k < length xs → changed_at xs k ss ≡ set xs k (stored_by (get_or xs k d) ss)
changed_at-set xs k [] d lt = sym (set-get_or xs k d)
changed_at-set xs k (s ∷ ss) d lt =
    let y = stored_by (get_or xs k d) ss in
    ap (λ l. changed l k s) (changed_at-set xs k ss d lt)
    ∙ changed-set (set xs k y) k s d (omega (arith, lt, length-set xs k y))
    ∙ ap (λ z. set (set xs k y) k (stored_in z s)) (get_or-set_same xs k y d lt)
    ∙ set-set xs k y (stored_in y s)

-- a number stored in what is no memory is all of it
pub scalar : (s : Sort) (x y : Value) (a : Stored) → is_memory_sort s ≡ false → HasSort x s → HasSort y s → a.number ≡ numeral_of y → stored_in x a ≡ y
scalar truth (truth_value b) (truth_value true) a none h k e = ap (λ n. truth_value (n == 1)) e
scalar truth (truth_value b) (truth_value false) a none h k e = ap (λ n. truth_value (n == 1)) e
scalar truth (truth_value b) (number n) a none h k e = absurd (false≢true k)
scalar truth (truth_value b) (words ws) a none h k e = absurd (false≢true k)
scalar truth (number n) y a none h k e = absurd (false≢true h)
scalar truth (words ws) y a none h k e = absurd (false≢true h)
scalar (word w) (truth_value b) y a none h k e = absurd (false≢true h)
scalar (word w) (number m) (truth_value b) a none h k e = absurd (false≢true k)
scalar (word w) (number m) (number n) a none h k e = ap number e
scalar (word w) (number m) (words ws) a none h k e = absurd (false≢true k)
scalar (word w) (words ws) y a none h k e = absurd (false≢true h)
scalar (memory b d) x y a none h k e = absurd (false≢true (sym none))
