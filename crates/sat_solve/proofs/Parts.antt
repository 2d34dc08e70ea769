-- Parts of a buffer: what is written behind them doesn't change them.
use Rattle.std.proofs.Common.{◌≡◌, ℕ, ◌≤◌, ◌-◌, List, [], ◌∷◌, ◌++◌, length, take, drop, All, arith, refl, ap, ◌∙◌, length-append, length-drop, map}
use Rattle.std.specs.Prelude.{slice_range}
use Rattle.std.proofs.lemmas.List.{take-append-le, drop-append-le, map-append, take_all}
use Rattle.std.proofs.lemmas.List.Elements.{All-head, All-tail}
use Rattle.std.proofs.Math.Seq.{drop-append_seam}
use Rattle.sat_base.specs.declared.literals.Lit.{Lit}
use Rattle.sat_solve.specs.declared.arena.Span.{Span}
use Rattle.sat_base.specs.Codes.{literal_of, code_of}
use Rattle.sat_solve.specs.Spans.{lits_in}
use Rattle.sat_base.proofs.CodeLemmas.{literals_of_codes}

abbrev pub IsWithin : List ℕ → Span → Type 0
IsWithin codes s = (s.start ≤ s.end) × (s.end ≤ length codes)

part-append : (codes more : List ℕ) (s : Span) → IsWithin codes s → slice_range (codes ++ more) s.start s.end ≡ slice_range codes s.start s.end
part-append codes more s (ordered, within) =
    ap (take (s.end - s.start)) (drop-append-le s.start codes more (omega arith))
    ∙ take-append-le (s.end - s.start) (drop s.start codes) more (omega (arith, length-drop s.start codes))

lits-append : (codes more : List ℕ) (s : Span) → IsWithin codes s → lits_in (codes ++ more) s ≡ lits_in codes s
lits-append codes more s h = ap (λ (cs : List ℕ). map literal_of cs) (part-append codes more s h)

parts-append : (codes more : List ℕ) (spans : List Span) → All (IsWithin codes) spans → map (lits_in (codes ++ more)) spans ≡ map (lits_in codes) spans
parts-append codes more [] all = refl
parts-append codes more (s ∷ spans) all =
    ap (λ (x : List Lit). x ∷ map (lits_in (codes ++ more)) spans) (lits-append codes more s (All-head (IsWithin codes) s spans all))
    ∙ ap (λ (xs : List (List Lit)). lits_in codes s ∷ xs) (parts-append codes more spans (All-tail (IsWithin codes) s spans all))

part_last : (codes more : List ℕ) (start end : ℕ) → start ≡ length codes → end ≡ length (codes ++ more) → slice_range (codes ++ more) start end ≡ more
part_last codes more start end s e =
    ap (λ (n : ℕ). take (end - n) (drop n (codes ++ more))) s
    ∙ ap (take (end - length codes)) (drop-append_seam codes more)
    ∙ take_all (end - length codes) more (omega (arith, length-append codes more))

-- the clauses after one and its span are added
pub parts-push : (codes : List ℕ) (lits : List Lit) (spans : List Span) (s : Span) → All (IsWithin codes) spans → s.start ≡ length codes → s.end ≡ length (codes ++ map code_of lits) → map (lits_in (codes ++ map code_of lits)) (spans ++ (s ∷ [])) ≡ map (lits_in codes) spans ++ (lits ∷ [])
parts-push codes lits spans s all start end =
    let more = map code_of lits in
    map-append (lits_in (codes ++ more)) spans (s ∷ [])
    ∙ ap (λ (xs : List (List Lit)). xs ++ (lits_in (codes ++ more) s ∷ [])) (parts-append codes more spans all)
    ∙ ap (λ (cs : List ℕ). map (lits_in codes) spans ++ (map literal_of cs ∷ [])) (part_last codes more s.start s.end start end)
    ∙ ap (λ (ls : List Lit). map (lits_in codes) spans ++ (ls ∷ [])) (literals_of_codes lits)

pub within-more : (codes more : List ℕ) (s : Span) → IsWithin codes s → IsWithin (codes ++ more) s
within-more codes more s h = (h.0, omega (arith, h.1, length-append codes more))
