-- Parts of a buffer: what is written behind them doesn't change them.
use Rattle.std.proofs.Common.{◌≡◌, ℕ, ◌≤◌, ◌-◌, List, [], ◌∷◌, ◌++◌, length, take, drop, All, arith, refl, ap, ◌∙◌, length-append, length-drop, map}
use Rattle.std.specs.Prelude.{slice_range}
use Rattle.std.proofs.lemmas.List.{take-append-le, drop-append-le, map-append, take_all}
use Rattle.std.proofs.lemmas.List.Elements.{All-head, All-tail}
use Rattle.std.proofs.Math.Seq.{drop-append_seam}
use Rattle.sat_check.specs.declared.arena.Span.{Span}

-- the part of the buffer that a span names
abbrev pub part : List ℕ → Span → List ℕ
part numbers s = slice_range numbers s.start s.end

abbrev pub IsWithin : List ℕ → Span → Type 0
IsWithin numbers s = (s.start ≤ s.end) × (s.end ≤ length numbers)

pub part-append : (numbers more : List ℕ) (s : Span) → IsWithin numbers s → part (numbers ++ more) s ≡ part numbers s
part-append numbers more s (ordered, within) =
    ap (take (s.end - s.start)) (drop-append-le s.start numbers more (omega arith))
    ∙ take-append-le (s.end - s.start) (drop s.start numbers) more (omega (arith, length-drop s.start numbers))

pub parts-append : (numbers more : List ℕ) (spans : List Span) → All (IsWithin numbers) spans
    → map (part (numbers ++ more)) spans ≡ map (part numbers) spans
parts-append numbers more [] all = refl
parts-append numbers more (s ∷ spans) all =
    ap (λ (x : List ℕ). x ∷ map (part (numbers ++ more)) spans) (part-append numbers more s (All-head (IsWithin numbers) s spans all))
    ∙ ap (λ (xs : List (List ℕ)). part numbers s ∷ xs) (parts-append numbers more spans (All-tail (IsWithin numbers) s spans all))

-- what was written last
pub part_last : (numbers more : List ℕ) (start end : ℕ) → start ≡ length numbers → end ≡ length (numbers ++ more)
    → slice_range (numbers ++ more) start end ≡ more
part_last numbers more start end s e =
    ap (λ (n : ℕ). take (end - n) (drop n (numbers ++ more))) s
    ∙ ap (take (end - length numbers)) (drop-append_seam numbers more)
    ∙ take_all (end - length numbers) more (omega (arith, length-append numbers more))

-- the parts after a list and its span are added
pub parts-push : (numbers more : List ℕ) (spans : List Span) (s : Span) → All (IsWithin numbers) spans
    → s.start ≡ length numbers → s.end ≡ length (numbers ++ more)
    → map (part (numbers ++ more)) (spans ++ (s ∷ [])) ≡ map (part numbers) spans ++ (more ∷ [])
parts-push numbers more spans s all start end =
    map-append (part (numbers ++ more)) spans (s ∷ [])
    ∙ ap (λ (xs : List (List ℕ)). xs ++ (part (numbers ++ more) s ∷ [])) (parts-append numbers more spans all)
    ∙ ap (λ (x : List ℕ). map (part numbers) spans ++ (x ∷ [])) (part_last numbers more s.start s.end start end)
