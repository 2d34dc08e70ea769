-- Lemmas on the search for instructions that decode.
use Rattle.std.proofs.Common.{◌≡◌, ℕ, zero, suc, ◌+◌, ◌<◌, Bool, true, false, List, [], ◌∷◌, length, get_or, Option, Some, None, inl, inr, refl, sym, ap, ◌∙◌, subst, arith}
use Rattle.std.proofs.lemmas.Bool.{cases_eq}
use Rattle.wb_values.specs.Value.{Valuation}
use Rattle.model_meaning.specs.Model.{holds}
use Rattle.wb_terms.specs.Graph.{Graph, tree}
use Rattle.ila_model.specs.declared.parts.Instruction.{Instruction}
use Rattle.ila_child.specs.Decoding.{decodes, IsFound}

-- the condition of the instruction at a place
pub decodes-at : (g : Graph) (p : Valuation) (is : List Instruction) (k : ℕ) (d : Instruction) → k < length is → decodes g p is k ≡ holds (tree g (get_or is k d).decode.0) p
decodes-at g p [] k d h = absurd (omega arith)
decodes-at g p (i ∷ is) zero d h = refl
decodes-at g p (i ∷ is) (suc k) d h = decodes-at g p is k d (omega arith)

-- one test more
pub IsFound-pass : (t : ℕ → Bool) (n : ℕ) (o : Option ℕ) → IsFound t n o → t n ≡ false → IsFound t (n + 1) o
IsFound-pass t n None f e = λ k h. elim (cases_eq k n) [ inl q ↦ subst (λ j. t j ≡ false) (sym q) e | inr q ↦ f k (omega arith) ]
IsFound-pass t n (Some j) f e =
    (omega (arith, f.0), f.1, λ k h ne. elim (cases_eq k n) [ inl q ↦ subst (λ j. t j ≡ false) (sym q) e | inr q ↦ f.2 k (omega arith) ne ])

pub IsFound-first : (t : ℕ → Bool) (n : ℕ) → IsFound t n None → t n ≡ true → IsFound t (n + 1) (Some n)
IsFound-first t n f e = (omega arith, e, λ k h ne. f k (omega arith))

-- the same, from what a loop has read
pub decodes-item : (g : Graph) (p : Valuation) (is : List Instruction) (k : ℕ) (d : Instruction) (b : Bool) → k < length is → d ≡ get_or is k d → b ≡ holds (tree g d.decode.0) p → decodes g p is k ≡ b
decodes-item g p is k d b h e r = decodes-at g p is k d h ∙ ap (λ (i : Instruction). holds (tree g i.decode.0) p) (sym e) ∙ sym r
