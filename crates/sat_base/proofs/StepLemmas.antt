-- The buffers of a log: what is written at their ends doesn't change the steps before.
use Rattle.std.proofs.Common.{◌≡◌, ℕ, suc, ◌≤◌, ◌-◌, Bool, true, List, [], ◌∷◌, ◌++◌, length, take, drop, get_or, All, arith, refl, sym, ap, ◌∙◌, length-append, length-drop, map}
use Rattle.std.specs.Prelude.{slice_range, ◌==◌, ◌↔◌}
use Rattle.std.proofs.lemmas.Bool.{eqb-true}
use Rattle.std.proofs.lemmas.List.{take-append-le, drop-append-le, map-append, take_all, append-nil}
use Rattle.std.proofs.lemmas.List.Elements.{All-head, All-tail, All-push}
use Rattle.std.proofs.Math.Seq.{drop-append_seam}
use Rattle.sat_base.specs.declared.literals.Lit.{Lit}
use Rattle.sat_base.specs.declared.logs.Lemma.{Lemma}
use Rattle.sat_base.specs.declared.logs.Step.{Step}
use Rattle.sat_base.specs.Codes.{code_of}
use Rattle.sat_base.specs.Steps.{lemma_of, lemma_in, IsWithin, IsGrown}
use Rattle.sat_base.proofs.CodeLemmas.{literals_of_codes}

pub IsGrown-refl : (xs : List ℕ) → IsGrown xs xs
IsGrown-refl xs = ([], sym (append-nil xs))

-- a part of a buffer that has grown
part-append : (xs more : List ℕ) (start end : ℕ) → start ≤ end → end ≤ length xs → slice_range (xs ++ more) start end ≡ slice_range xs start end
part-append xs more start end ordered within =
    ap (take (end - start)) (drop-append-le start xs more (omega (arith, ordered, within)))
    ∙ take-append-le (end - start) (drop start xs) more (omega (arith, within, length-drop start xs))

part-grown : (xs ys : List ℕ) (start end : ℕ) → IsGrown xs ys → start ≤ end → end ≤ length xs → slice_range ys start end ≡ slice_range xs start end
part-grown xs ys start end grown ordered within =
    ap (λ (zs : List ℕ). slice_range zs start end) grown.1 ∙ part-append xs grown.0 start end ordered within

-- what was written last
part_last : (xs more : List ℕ) (start end : ℕ) → start ≡ length xs → end ≡ length (xs ++ more) → slice_range (xs ++ more) start end ≡ more
part_last xs more start end s e =
    ap (λ (n : ℕ). take (end - n) (drop n (xs ++ more))) s
    ∙ ap (take (end - length xs)) (drop-append_seam xs more)
    ∙ take_all (end - length xs) more (omega (arith, e, length-append xs more))

grown_length : (xs ys : List ℕ) → IsGrown xs ys → length xs ≤ length ys
grown_length xs ys grown = omega (arith, ap length grown.1, length-append xs grown.0)

-- a step, and all steps, in buffers that have grown
module _ (codes codes' hints hints' : List ℕ) (more_codes : IsGrown codes codes') (more_hints : IsGrown hints hints') where
  within_grown : (s : Step) → IsWithin codes hints s → IsWithin codes' hints' s
  within_grown s w = (w.0, omega (arith, w.1, grown_length codes codes' more_codes), w.2, omega (arith, w.3, grown_length hints hints' more_hints))

  lemma_grown : (s : Step) → IsWithin codes hints s → lemma_in codes' hints' s ≡ lemma_in codes hints s
  lemma_grown s w =
      ap (λ (xs : List ℕ). lemma_of xs (slice_range hints' s.first_hint s.end_hint)) (part-grown codes codes' s.start s.end more_codes w.0 w.1)
      ∙ ap (λ (xs : List ℕ). lemma_of (slice_range codes s.start s.end) xs) (part-grown hints hints' s.first_hint s.end_hint more_hints w.2 w.3)

  pub all_within_grown : (steps : List Step) → All (IsWithin codes hints) steps → All (IsWithin codes' hints') steps
  all_within_grown steps all k d l = within_grown (get_or steps k d) (all k d l)

  pub lemmas_grown : (steps : List Step) → All (IsWithin codes hints) steps → map (lemma_in codes' hints') steps ≡ map (lemma_in codes hints) steps
  lemmas_grown [] all = refl
  lemmas_grown (s ∷ steps) all =
      ap (λ (x : Lemma). x ∷ map (lemma_in codes' hints') steps) (lemma_grown s (All-head (IsWithin codes hints) s steps all))
      ∙ ap (λ (xs : List Lemma). lemma_in codes hints s ∷ xs) (lemmas_grown steps (All-tail (IsWithin codes hints) s steps all))

  -- a step is added
  pub all_within_push : (steps : List Step) (s : Step) → All (IsWithin codes hints) steps → IsWithin codes' hints' s → All (IsWithin codes' hints') (steps ++ s ∷ [])
  all_within_push steps s all w = All-push (IsWithin codes' hints') steps s (all_within_grown steps all) w

  pub lemmas_push : (steps : List Step) (s : Step) (lemma : Lemma) → All (IsWithin codes hints) steps → lemma_in codes' hints' s ≡ lemma → map (lemma_in codes' hints') (steps ++ s ∷ []) ≡ map (lemma_in codes hints) steps ++ lemma ∷ []
  lemmas_push steps s lemma all is =
      map-append (lemma_in codes' hints') steps (s ∷ [])
      ∙ ap (λ (xs : List Lemma). xs ++ lemma_in codes' hints' s ∷ []) (lemmas_grown steps all)
      ∙ ap (λ (x : Lemma). map (lemma_in codes hints) steps ++ x ∷ []) is

-- a step that has just been written
pub step_written : (codes codes' hints hints' : List ℕ) (lits : List Lit) (numbers : List ℕ) (s : Step) → codes' ≡ codes ++ map code_of lits → hints' ≡ hints ++ numbers → s.start ≡ length codes → s.end ≡ length codes' → s.first_hint ≡ length hints → s.end_hint ≡ length hints' → IsWithin codes' hints' s × (lemma_in codes' hints' s ≡ record { lits = lits; hints = numbers })
step_written codes codes' hints hints' lits numbers s cs hs start end first last =
    let coded : slice_range codes' s.start s.end ≡ map code_of lits = ap (λ (xs : List ℕ). slice_range xs s.start s.end) cs ∙ part_last codes (map code_of lits) s.start s.end start (end ∙ ap (λ (xs : List ℕ). length xs) cs) in
    let hinted : slice_range hints' s.first_hint s.end_hint ≡ numbers = ap (λ (xs : List ℕ). slice_range xs s.first_hint s.end_hint) hs ∙ part_last hints numbers s.first_hint s.end_hint first (last ∙ ap (λ (xs : List ℕ). length xs) hs) in
    let made : List Lit → List ℕ → Lemma = λ ls ns. record { lits = ls; hints = ns } in (
      (
        omega (arith, start, end, ap (λ (xs : List ℕ). length xs) cs, length-append codes (map code_of lits)),
        omega (arith, end),
        omega (arith, first, last, ap (λ (xs : List ℕ). length xs) hs, length-append hints numbers),
        omega (arith, last),
      ),
      ap (λ (xs : List ℕ). lemma_of xs (slice_range hints' s.first_hint s.end_hint)) coded
          ∙ ap (λ (xs : List ℕ). lemma_of (map code_of lits) xs) hinted
          ∙ ap (λ (ls : List Lit). made ls numbers) (literals_of_codes lits),
    )

-- a list is empty where its image is
pub empty_map : {X Y : Type 0} (f : X → Y) (xs : List X) (ys : List Y) (b : Bool) (n : ℕ) → map f xs ≡ ys → n ≡ length xs → b ≡ (n == 0) → (b ≡ true) ↔ (ys ≡ [])
empty_map f [] ys b n is len test = (λ t. sym is, λ e. test ∙ ap (λ (m : ℕ). m == 0) len)
empty_map f (x ∷ xs) ys b n is len test = (
  λ t. absurd (let none : n ≡ 0 = eqb-true n 0 (sym test ∙ t) in let some : n ≡ suc (length xs) = len in omega (arith, none, some)),
  λ e. let k : f x ∷ map f xs ≡ [] = is ∙ e in cc,
)
