-- Turns of the functions that put programs, as their code makes them.
use Rattle.std.proofs.Common.{◌≡◌, ℕ, zero, suc, ◌+◌, ◌-◌, ◌<◌, ◌≤◌, Bool, true, false, cond, List, [], ◌∷◌, length, get_or, drop, Option, Some, None, refl, sym, ap, ◌∙◌, subst, arith}
use Rattle.std.proofs.lemmas.List.{drop_more}
use Rattle.wb_values.specs.Value.{Valuation}
use Rattle.model_results.specs.Results.{child_result}
use Rattle.wb_terms.specs.declared.nodes.TermId.{TermId}
use Rattle.wb_terms.specs.Graph.{Graph}
use Rattle.term_copies.specs.Copies.{IsExtended, AreLeaves, id_at, copy_of}
use Rattle.ila_model.specs.declared.parts.Instruction.{Instruction}
use Rattle.ila_model.specs.declared.parts.Parts.{Parts}
use Rattle.ila_model.specs.Scope.{nesting}
use Rattle.ila_model.specs.Sorted.{is_condition, are_updates, are_instructions}
use Rattle.ila_model.proofs.Declarations.{AreSorted}
use Rattle.ila_child.specs.Running.{HasDepth, program_in}
use Rattle.ila_child.proofs.Machines.{IsSorted, sorted_at}
use Rattle.model_terms.specs.Symbolic.{sees, is_true, IsTest, IsReached}
use Rattle.model_terms.specs.Copied.{HasCopies, terms_of_instruction, terms_of_instructions, with_copies}
use Rattle.model_terms.specs.Programs.{IsTaken, Led, IsAdded}
use Rattle.model_terms.proofs.Turning.{taken_more, taken_none}
use Rattle.model_terms.proofs.Programming.{has_at, decode_at, no_instructions_left}

pub taken_start : {g h : Graph} (p : Parts) (at : Option ℕ) (d : ℕ) (is : List Instruction) (point ids : List TermId) (none ended : ℕ) (x : Valuation → Valuation)
    → IsExtended g h → AreLeaves g p.terms.names point → ids ≡ point → IsTest h none → IsTest h ended → ((v : Valuation) → is_true h none v ≡ true) → ((v : Valuation) → is_true h ended v ≡ false)
    → IsTaken h p at d (drop (length is - 0) is) none ended ids x
taken_start {g} {h} p at d is point ids none ended x e leaves same n t nv tv =
    subst (λ js. IsTaken h p at d js none ended ids x) (sym (no_instructions_left is (length is - 0) (omega arith))) (taken_none p at d point ids none ended x e leaves same n t nv tv)

pub taken_turn : {g0 g1 g2 h : Graph} (p : Parts) (s : AreSorted p) (at : Option ℕ) (d k done : ℕ) (is : List Instruction) (i : Instruction) (point copies after : List TermId) (decode : TermId) (one others both : Led)
    → k ≡ length is - 1 - done → done < length is → i ≡ get_or is k i
    → HasDepth p.children.items d at → d ≤ nesting → are_instructions p at 0 is ≡ true
    → AreLeaves g0 p.terms.names point → HasCopies g0 p.terms point copies (terms_of_instructions is)
    → IsExtended g0 g1 → IsExtended g1 g2
    → IsTaken g1 p at d (drop (length is - done) is) others.none others.ended others.point (λ v. sees g0 p at point v)
    → after ≡ with_copies copies i.updates.items point
    → IsReached g2 p at one.ended one.point (λ v. child_result (program_in p d i.child) (sees g1 p at after v))
    → decode ≡ copy_of copies i.decode
    → IsAdded g2 h p.terms.names decode.0 one others both
    → IsTaken h p at d (drop (length is - (done + 1)) is) both.none both.ended both.point (λ v. sees g0 p at point v)
taken_turn {g0} {g1} {g2} {h} p s at d k done is i point copies after decode one others both z l here deep low are leaves has e1 e2 taken made reached dec added =
    let within : k < length is = omega (arith, z, l) in
    let back = sym here in
    let cond_is = subst (λ (x : Instruction). is_condition p at x.decode.0 ≡ true) back (decode_at p at 0 is k i are within) in
    let sorted = subst (IsSorted p at) back (sorted_at p at 0 is k i are within) in
    let copied = subst (λ (x : Instruction). HasCopies g0 p.terms point copies (terms_of_instruction x)) back (has_at g0 p.terms point copies is k i has within) in
    let up : k + 1 ≡ length is - done = omega (arith, z, l) in
    let down : k ≡ length is - (done + 1) = omega (arith, z, l) in
    let split : drop k is ≡ i ∷ drop (length is - done) is = drop_more is k i within ∙ ap (λ (x : Instruction). x ∷ drop (k + 1) is) back ∙ ap (λ m. i ∷ drop m is) up in
    let all = taken_more p s at d i (drop (length is - done) is) point copies one others both deep low cond_is sorted.updates leaves copied e1 e2 taken
    (subst (λ ids. IsReached g2 p at one.ended one.point (λ v. child_result (program_in p d i.child) (sees g1 p at ids v))) made reached)
    (subst (λ (x : TermId). IsAdded g2 h p.terms.names x.0 one others both) dec added) in
    subst (λ m. IsTaken h p at d (drop m is) both.none both.ended both.point (λ v. sees g0 p at point v)) down
    (subst (λ js. IsTaken h p at d js both.none both.ended both.point (λ v. sees g0 p at point v)) (sym split) all)
