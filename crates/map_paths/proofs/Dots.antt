-- The parts of names between their dots.
use Rattle.std.proofs.Common.{◌≡◌, ◌∙◌, ℕ, suc, ◌<◌, Bool, true, false, cond, refl, ap, sym, List, [], ◌∷◌, ◌++◌, length, get_or, ne_eqb, arith}
use Rattle.std.proofs.lemmas.Bool.{eqb-true}
use Rattle.std.specs.Prelude.{◌==◌, ◌≢◌}
use Rattle.wb_values.specs.Value.{Name}
use Rattle.refinement.specs.Map.{dotted_parts, with_character}

-- names with dots between them
abbrev pub joined : List Name → Name
joined [] = []
joined (n ∷ []) = n
joined (u ∷ n ∷ parts) = u ++ 46 ∷ joined (n ∷ parts)

-- a list of parts is not empty
abbrev pub IsSome : List Name → Type 0
IsSome [] = ⊥
IsSome (n ∷ parts) = Unit {0}

some_with : (c : ℕ) (parts : List Name) → IsSome (with_character c parts)
some_with c [] = tt
some_with c (part ∷ parts) = tt

some_parts : (n : Name) → IsSome (dotted_parts n)
some_parts [] = tt
some_parts (c ∷ cs) = by (c == 46) where
  by : (b : Bool) → IsSome (cond b ([] ∷ dotted_parts cs) (with_character c (dotted_parts cs)))
  by true = tt
  by false = some_with c (dotted_parts cs)

-- what has parts begins with one
pub parts_of : (parts : List Name) → IsSome parts → (n : Name) × (more : List Name) × (parts ≡ n ∷ more)
parts_of [] s = absurd s
parts_of (n ∷ parts) s = (n, parts, refl)

pub first_part : (n : Name) → (m : Name) × (more : List Name) × (dotted_parts n ≡ m ∷ more)
first_part n = parts_of (dotted_parts n) (some_parts n)

-- ---- names without dots

-- no character of the name is a dot
abbrev pub NoneIsDot : Name → Type 0
NoneIsDot n = (i : ℕ) → i < length n → get_or n i 0 ≢ 46

rest_has_none : (c : ℕ) (cs : Name) → NoneIsDot (c ∷ cs) → NoneIsDot cs
rest_has_none c cs h i l = h (suc i) (omega (arith, l))

first_is_none : (c : ℕ) (cs : Name) → NoneIsDot (c ∷ cs) → (c == 46) ≡ false
first_is_none c cs h = ne_eqb c 46 (h 0 (omega arith))

pub one_part : (n : Name) → NoneIsDot n → dotted_parts n ≡ n ∷ []
one_part [] h = refl
one_part (c ∷ cs) h =
    ap (λ b. cond b ([] ∷ dotted_parts cs) (with_character c (dotted_parts cs))) (first_is_none c cs h)
    ∙ ap (with_character c) (one_part cs (rest_has_none c cs h))

pub part_before : (n more : Name) → NoneIsDot n → dotted_parts (n ++ 46 ∷ more) ≡ n ∷ dotted_parts more
part_before [] more h = refl
part_before (c ∷ cs) more h =
    ap (λ b. cond b ([] ∷ dotted_parts (cs ++ 46 ∷ more)) (with_character c (dotted_parts (cs ++ 46 ∷ more)))) (first_is_none c cs h)
    ∙ ap (with_character c) (part_before cs more (rest_has_none c cs h))

-- ---- parts joined again

joined_with : (c : ℕ) (parts : List Name) → IsSome parts → joined (with_character c parts) ≡ c ∷ joined parts
joined_with c [] s = absurd s
joined_with c (n ∷ []) s = refl
joined_with c (u ∷ n ∷ parts) s = refl

joined_after : (parts : List Name) → IsSome parts → joined ([] ∷ parts) ≡ 46 ∷ joined parts
joined_after [] s = absurd s
joined_after (n ∷ parts) s = refl

pub joined_again : (n : Name) → joined (dotted_parts n) ≡ n
joined_again [] = refl
joined_again (c ∷ cs) = by (c == 46) refl (joined_again cs) where
  by : (b : Bool) → (c == 46) ≡ b → joined (dotted_parts cs) ≡ cs → joined (cond b ([] ∷ dotted_parts cs) (with_character c (dotted_parts cs))) ≡ c ∷ cs
  by true e h = joined_after (dotted_parts cs) (some_parts cs) ∙ (ap (λ n. 46 ∷ n) h ∙ ap (λ k. k ∷ cs) (sym (eqb-true c 46 e)))
  by false e h = joined_with c (dotted_parts cs) (some_parts cs) ∙ ap (λ n. c ∷ n) h
