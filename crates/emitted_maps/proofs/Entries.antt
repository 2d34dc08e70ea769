-- The entries of instructions in a map's text.
use Rattle.std.proofs.Common.{◌≡◌, ◌∙◌, ◌+◌, ◌<◌, ◌++◌, ℕ, suc, List, [], ◌∷◌, map, drop, length, ap, arith}
use Rattle.std.specs.Prelude.{codes, decimal, slice_index_or}
use Rattle.std.specs.String.{string_bytes}
use Rattle.model_meaning.specs.Model.{instruction_list}
use Rattle.reports.specs.Report.{in_braces, member_text, quoted}
use Rattle.ila_model.specs.declared.parts.Instruction.{Instruction}
use Rattle.ila_model.specs.declared.parts.Parts.{Parts}
use Rattle.ila_model.specs.Scope.{nesting}
use Rattle.emitted_designs.specs.Bounds.{child_bound}
use Rattle.emitted_designs.specs.Map.{entry_text, written_entry_for}
use Rattle.emitted_maps.specs.Commas.{comma_behind}
use Rattle.emitted_maps.specs.Programs.{program_within, instructions_within}
use Rattle.emitted_maps.proofs.Joined.{left_of, turned, cut}

abbrev pub entries : Parts → List Instruction → List (List ℕ)
entries p is = map entry_text (map written_entry_for (instruction_list (instructions_within p nesting is)))

-- the entry of an instruction with this name and this bound
abbrev pub entry_with : (n : List ℕ) → (bound : ℕ) → List ℕ
entry_with n bound =
    in_braces
    (member_text (codes "bound") (decimal bound) ∷ member_text (codes "commit") (quoted (codes "wb_commit")) ∷ member_text (codes "name") (quoted n) ∷ [])

pub entry_turned : (p : Parts) (k : ℕ) (i : Instruction) (n : List ℕ) (b : ℕ) (o o₁ o₂ : List ℕ) → k < length p.instructions.items
    → i ≡ slice_index_or p.instructions.items k i → n ≡ string_bytes i.name → b ≡ child_bound (program_within p nesting i.child)
    → o₁ ≡ o ++ comma_behind k → o₂ ≡ o₁ ++ entry_with n b
    → o₂ ++ left_of (k + 1) (entries p (drop (k + 1) p.instructions.items)) ≡ o ++ left_of k (entries p (drop k p.instructions.items))
entry_turned p k i n b o o₁ o₂ h e is_name is_bound e₁ e₂ =
    let is = p.instructions.items in
    turned (entries p) is k (k + 1) o o₁ o₂ (entry_with (string_bytes i.name) (child_bound (program_within p nesting i.child))) (next k) (ap (entries p) (cut is k i h e)) e₁
    (e₂ ∙ (ap (λ m. o₁ ++ entry_with m b) is_name ∙ ap (λ c. o₁ ++ entry_with (string_bytes i.name) c) is_bound))
  where
    next : (k : ℕ) → k + 1 ≡ suc k
    next k = omega arith
