-- Initial values as numbers, and what is taken at reset.
use Rattle.std.proofs.Common.{◌≡◌, ℕ, ◌<◌, ◌^◌, true, false, nat_lt, inl, inr, List, [], ◌∷◌, ◌++◌, Some, refl, sym, ◌∙◌, ap, arith}
use Rattle.std.proofs.lemmas.Bool.{false≢true}
use Rattle.std.proofs.lemmas.Bool.Decides.{nat_tests}
use Rattle.wb_values.specs.Value.{Name, Sort, truth, word, memory, Value, truth_value, number, words, numeral_of, is_of_sort}
use Rattle.model_meaning.specs.Term.{is_memory_sort}
use Rattle.model_meaning.specs.Among.{is_name_in}
use Rattle.model_meaning.specs.Model.{StateDeclaration, state_named}
use Rattle.emitted_modules.specs.Rtl.{Stored, bits_of_sort, first_take, first_takes, kept_word, kept_words}
use Rattle.emitted_modules.proofs.Names.{Among, AreDistinct, differs_in, none_in}
use Rattle.emitted_modules.proofs.NetWidths.{IsBitsSort}
use Rattle.emitted_modules.proofs.Edge.{names_in}
use Rattle.emitted_modules.proofs.OwnNames.{names_of_states}
use Rattle.emitted_modules.proofs.Reading.{sort_value, state_is_named}

-- names that are taken at reset are those of states, and no state takes twice
pub taken_names : (ss : List StateDeclaration) (n : Name) → Among n (names_in (first_takes ss)) → Among n (names_of_states ss)
taken_names [] n h = absurd h
taken_names (s ∷ ss) n h = by_sort s.sort h (λ k. taken_names ss n k)
  where
    by_sort : (t : Sort) → Among n (names_in (first_take s.state_name t s.init ++ first_takes ss))
        → (Among n (names_in (first_takes ss)) → Among n (names_of_states ss)) → Among n (names_of_states (s ∷ ss))
    by_sort truth (inl e) more = inl e
    by_sort truth (inr k) more = inr (more k)
    by_sort (word w) (inl e) more = inl e
    by_sort (word w) (inr k) more = inr (more k)
    by_sort (memory a w) k more = inr (more k)

pub taken_once : (ss : List StateDeclaration) → AreDistinct (names_of_states ss) → AreDistinct (names_in (first_takes ss))
taken_once [] d = tt
taken_once (s ∷ ss) d = by_sort s.sort (taken_once ss d.1)
  where
    fresh : is_name_in s.state_name (names_in (first_takes ss)) ≡ false
    fresh = none_in s.state_name (names_in (first_takes ss)) (λ k at. differs_in s.state_name k (names_of_states ss) d.0 (taken_names ss k at))

    by_sort : (t : Sort) → AreDistinct (names_in (first_takes ss)) → AreDistinct (names_in (first_take s.state_name t s.init ++ first_takes ss))
    by_sort truth e = (fresh, e)
    by_sort (word w) e = (fresh, e)
    by_sort (memory a w) e = e

-- what is kept at reset is of memories
pub kept_from : (ss : List StateDeclaration) (w : Stored) → Among w (kept_words ss)
    → (d : StateDeclaration) × Among d ss × (is_memory_sort d.sort ≡ true) × (w.memory_name ≡ d.state_name)
kept_from [] w h = absurd h
kept_from (s ∷ ss) w h = by_sort s.sort refl h (λ k. kept_from ss w k)
  where
    by_sort : (t : Sort) → s.sort ≡ t → Among w (kept_word s.state_name t ++ kept_words ss)
        → (Among w (kept_words ss) → (d : StateDeclaration) × Among d ss × (is_memory_sort d.sort ≡ true) × (w.memory_name ≡ d.state_name))
        → (d : StateDeclaration) × Among d (s ∷ ss) × (is_memory_sort d.sort ≡ true) × (w.memory_name ≡ d.state_name)
    by_sort truth e k more = let x = more k in (x.0, inr x.1, x.2, x.3)
    by_sort (word u) e k more = let x = more k in (x.0, inr x.1, x.2, x.3)
    by_sort (memory a u) e (inl f) more = (s, inl refl, ap is_memory_sort e, ap (λ (y : Stored). y.memory_name) (sym f))
    by_sort (memory a u) e (inr k) more = let x = more k in (x.0, inr x.1, x.2, x.3)

-- states of one name are one
pub same_state : (ss : List StateDeclaration) (d e : StateDeclaration) → AreDistinct (names_of_states ss) → Among d ss → Among e ss → d.state_name ≡ e.state_name
    → d ≡ e
same_state ss d e apart at there same =
    let one : state_named ss d.state_name ≡ Some d = state_is_named ss d apart at in
    let other : state_named ss e.state_name ≡ Some e = state_is_named ss e apart there in
    let both : Some d ≡ Some e = sym one ∙ (ap (state_named ss) same ∙ other) in
    cc

-- a stated value as a number, and back
pub numeral_fits : (t : Sort) (x : Value) → IsBitsSort t → is_of_sort t x ≡ true → numeral_of x < 2 ^ bits_of_sort t
numeral_fits truth (truth_value true) bits e = omega arith
numeral_fits truth (truth_value false) bits e = omega arith
numeral_fits truth (number n) bits e = absurd (false≢true e)
numeral_fits truth (words xs) bits e = absurd (false≢true e)
numeral_fits (word w) (number n) bits e = less n (2 ^ w) e
  where
    less : (a b : ℕ) → nat_lt a b ≡ true → a < b
    less a b l = grind (arith, nat_tests, l)
numeral_fits (word w) (truth_value b) bits e = absurd (false≢true e)
numeral_fits (word w) (words xs) bits e = absurd (false≢true e)
numeral_fits (memory a d) x bits e = absurd bits

pub numeral_means : (t : Sort) (x : Value) → IsBitsSort t → is_of_sort t x ≡ true → sort_value t (numeral_of x) ≡ x
numeral_means truth (truth_value true) bits e = refl
numeral_means truth (truth_value false) bits e = refl
numeral_means truth (number n) bits e = absurd (false≢true e)
numeral_means truth (words xs) bits e = absurd (false≢true e)
numeral_means (word w) (number n) bits e = refl
numeral_means (word w) (truth_value b) bits e = absurd (false≢true e)
numeral_means (word w) (words xs) bits e = absurd (false≢true e)
numeral_means (memory a d) x bits e = absurd bits
