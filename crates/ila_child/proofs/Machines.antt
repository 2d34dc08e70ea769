-- Lemmas on the steps of a machine: which instruction decodes, and what it does.
use Rattle.std.proofs.Common.{◌≡◌, ℕ, zero, suc, ◌<◌, ◌≤◌, true, false, List, [], ◌∷◌, length, get_or, Option, Some, None, inl, inr, refl, sym, ap, ◌∙◌, subst, arith}
use Rattle.std.specs.Prelude.{nat_le, nat_lt}
use mathlib.Core.Path.{fun_ext}
use Rattle.std.proofs.lemmas.Bool.{and_parts, and_from, ltb-true, eqb-true, false≢true}
use Rattle.wb_values.specs.Value as meaning
use Rattle.wb_values.specs.Value.{truth, as_truth, Valuation, valuation_of}
use Rattle.model_meaning.specs.Model as pure
use Rattle.model_meaning.specs.Model.{holds, updated}
use Rattle.model_meaning.specs.Instruction as instruction
use Rattle.model_meaning.specs.Instruction.{NoneDecodes, SomeDecodes, DoesChild, DoesInstruction, DoesOne, ChildTrouble, InstructionTrouble, OneTrouble}
use Rattle.wb_terms.specs.Graph.{Graph, tree}
use Rattle.wb_terms.specs.Environment.{AreOfSorts}
use Rattle.term_evaluation.specs.Links.{valuation_at}
use Rattle.ila_model.specs.declared.parts.ChildId.{ChildId}
use Rattle.ila_model.specs.declared.parts.Child.{Child}
use Rattle.ila_model.specs.declared.parts.Instruction.{Instruction}
use Rattle.ila_model.specs.declared.parts.Parts.{Parts}
use Rattle.ila_model.specs.Scope.{nesting, around}
use Rattle.ila_model.specs.Sorted.{is_term_of, is_condition, are_updates, is_instruction, same_place, is_link, child_after, are_instructions}
use Rattle.ila_model.specs.Meaning.{instruction_of, instructions_of}
use Rattle.ila_model.proofs.Declarations.{AreSorted}
use Rattle.ila_child.specs.declared.decoding.Decoded.TheVariants.{Several}
use Rattle.ila_child.specs.Decoding.{decodes, are_conditions, IsFound, IsOnlyFound, AreDecoded}
use Rattle.ila_child.specs.Updating.{with_updates}
use Rattle.ila_child.specs.Running.{point_at, seen, HasDepth, IsLinked, IsOneTaken}
use Rattle.ila_child.proofs.Updates.{AreOfSorts-length}
use Rattle.ila_child.proofs.Points.{term_at_point, updated_point}

-- what is known of an instruction of a machine
pub record IsSorted (p : Parts) (at : Option ℕ) (i : Instruction) : Type 0 where
  pub updates : are_updates p at 0 i.updates.items ≡ true
  pub linked : IsLinked p.children.items at i.child

same_place-true : (a b : Option ℕ) → same_place a b ≡ true → a ≡ b
same_place-true None None h = refl
same_place-true None (Some b) h = absurd (false≢true h)
same_place-true (Some a) None h = absurd (false≢true h)
same_place-true (Some a) (Some b) h = ap (λ (j : ℕ). Some j) (eqb-true a b h)

linked_from : (cs : List Child) (at : Option ℕ) (from : ℕ) (o : Option ChildId) → is_link cs at from o ≡ true → IsLinked cs at o
linked_from cs at from None h = tt
linked_from cs at from (Some i) h =
    let a = and_parts (nat_le from i.0) _ h in
    let b = and_parts (nat_lt i.0 (length cs)) _ a.1 in
    (ltb-true i.0 (length cs) b.0, same_place-true (around cs i.0) at b.1)

pub sorted_at : (p : Parts) (at : Option ℕ) (from : ℕ) (is : List Instruction) (k : ℕ) (d : Instruction) → are_instructions p at from is ≡ true → k < length is → IsSorted p at (get_or is k d)
sorted_at p at from [] k d h b = absurd (omega arith)
sorted_at p at from (i ∷ is) zero d h b =
    let x = and_parts (is_instruction p at i) _ h in
    let y = and_parts (is_condition p at i.decode.0) _ x.0 in
    let z = and_parts (is_link p.children.items at from i.child) _ x.1 in
    record { updates = y.1; linked = linked_from p.children.items at from i.child z.0 }
sorted_at p at from (i ∷ is) (suc k) d h b =
    let x = and_parts (is_instruction p at i) _ h in
    let z = and_parts (is_link p.children.items at from i.child) _ x.1 in
    sorted_at p at (child_after from i.child) is k d z.1 (omega arith)

pub are_conditions-from : (p : Parts) (at : Option ℕ) (from : ℕ) (is : List Instruction) → are_instructions p at from is ≡ true → are_conditions p.terms is ≡ true
are_conditions-from p at from [] h = refl
are_conditions-from p at from (i ∷ is) h =
    let x = and_parts (is_instruction p at i) _ h in
    let y = and_parts (is_condition p at i.decode.0) _ x.0 in
    let w = and_parts (is_term_of p.terms truth i.decode.0) _ y.0 in
    let z = and_parts (is_link p.children.items at from i.child) _ x.1 in
    and_from _ _ w.0 (are_conditions-from p at (child_after from i.child) is z.1)

-- conditions hold in the environment as at the point
pub holds_same : (p : Parts) (at : Option ℕ) (d : ℕ) (e : List meaning.Value) (k : ℕ) → HasDepth p.children.items d at → d ≤ nesting → is_condition p at k ≡ true → holds (tree p.terms k) (valuation_at p.terms e) ≡ holds (tree p.terms k) (seen p at e)
holds_same p at d e k deep low h = ap as_truth (term_at_point p at d e truth k deep low h)

decodes_at : (p : Parts) (at : Option ℕ) (d from : ℕ) (e : List meaning.Value) (is : List Instruction) (k : ℕ) → HasDepth p.children.items d at → d ≤ nesting → are_instructions p at from is ≡ true → decodes p.terms (valuation_at p.terms e) is k ≡ decodes p.terms (seen p at e) is k
decodes_at p at d from e [] k deep low h = refl
decodes_at p at d from e (i ∷ is) zero deep low h =
    let x = and_parts (is_instruction p at i) _ h in
    let y = and_parts (is_condition p at i.decode.0) _ x.0 in
    holds_same p at d e i.decode.0 deep low y.0
decodes_at p at d from e (i ∷ is) (suc k) deep low h =
    let x = and_parts (is_instruction p at i) _ h in
    let z = and_parts (is_link p.children.items at from i.child) _ x.1 in
    decodes_at p at d (child_after from i.child) e is k deep low z.1

pub decodes_same : (p : Parts) (at : Option ℕ) (d : ℕ) (e : List meaning.Value) (is : List Instruction) → HasDepth p.children.items d at → d ≤ nesting → are_instructions p at 0 is ≡ true → decodes p.terms (valuation_at p.terms e) is ≡ decodes p.terms (seen p at e) is
decodes_same p at d e is deep low h = fun_ext (λ k. decodes_at p at d 0 e is k deep low h)

-- which instructions decode
pub none_decodes : (g : Graph) (inner : Option ChildId → pure.Child) (p : Valuation) (is : List Instruction) → ((k : ℕ) → k < length is → decodes g p is k ≡ false) → NoneDecodes (instructions_of g inner is) p
none_decodes g inner p [] f = tt
none_decodes g inner p (x ∷ is) f = (f 0 (omega arith), none_decodes g inner p is (λ k h. f (suc k) (omega arith)))

some_decodes : (g : Graph) (inner : Option ChildId → pure.Child) (p : Valuation) (is : List Instruction) (k : ℕ) → k < length is → decodes g p is k ≡ true → SomeDecodes (instructions_of g inner is) p
some_decodes g inner p [] k h t = absurd (omega arith)
some_decodes g inner p (x ∷ is) zero h t = inl t
some_decodes g inner p (x ∷ is) (suc k) h t = inr (some_decodes g inner p is k (omega arith) t)

-- one alone decodes, and the machine does what it does
pub does_one : (g : Graph) (inner : Option ChildId → pure.Child) (p q : Valuation) (is : List Instruction) (j : ℕ) (d : Instruction) → IsOnlyFound (decodes g p is) (length is) j → DoesInstruction (instruction_of g inner (get_or is j d)) p q → DoesOne (instructions_of g inner is) p q
does_one g inner p q [] j d f r = let h : j < 0 = f.0 in absurd (omega arith)
does_one g inner p q (x ∷ is) zero d f r = inl (f.1, none_decodes g inner p is (λ k i. f.2 (suc k) (omega arith) (λ e. absurd (omega (arith, e)))), r)
does_one g inner p q (x ∷ is) (suc j) d f r =
    let h : suc j < suc (length is) = f.0 in
    inr (f.2 0 (omega arith) (λ e. absurd (omega (arith, e))), does_one g inner p q is j d (omega arith, f.1, λ k i ne. f.2 (suc k) (omega arith) (λ e. ne (omega (arith, e)))) r)

-- and has the trouble that it has
pub trouble_one : (g : Graph) (inner : Option ChildId → pure.Child) (p : Valuation) (depth step : ℕ) (t : instruction.Trouble) (is : List Instruction) (j : ℕ) (d : Instruction) → IsOnlyFound (decodes g p is) (length is) j → InstructionTrouble (instruction_of g inner (get_or is j d)) p (suc depth) t → OneTrouble (instructions_of g inner is) p depth step t
trouble_one g inner p depth step t [] j d f r = let h : j < 0 = f.0 in absurd (omega arith)
trouble_one g inner p depth step t (x ∷ is) zero d f r =
    inl (f.1, none_decodes g inner p is (λ k i. f.2 (suc k) (omega arith) (λ e. absurd (omega (arith, e)))), r)
trouble_one g inner p depth step t (x ∷ is) (suc j) d f r =
    let h : suc j < suc (length is) = f.0 in
    inr (inr (f.2 0 (omega arith) (λ e. absurd (omega (arith, e))), trouble_one g inner p depth step t is j d (omega arith, f.1, λ k i ne. f.2 (suc k) (omega arith) (λ e. ne (omega (arith, e)))) r))

-- none decodes, or several do: the machine is stuck
pub none_stuck : (g : Graph) (inner : Option ChildId → pure.Child) (p : Valuation) (depth step : ℕ) (is : List Instruction) → IsFound (decodes g p is) (length is) None → OneTrouble (instructions_of g inner is) p depth step (instruction.stuck depth step)
none_stuck g inner p depth step [] f = refl
none_stuck g inner p depth step (x ∷ is) f = inr (inr (f 0 (omega arith), none_stuck g inner p depth step is (λ k h. f (suc k) (omega arith))))

pub several_stuck : (g : Graph) (inner : Option ChildId → pure.Child) (p : Valuation) (depth step : ℕ) (is : List Instruction) (j k : ℕ) → AreDecoded (decodes g p is) (length is) (Several j k) → OneTrouble (instructions_of g inner is) p depth step (instruction.stuck depth step)
several_stuck g inner p depth step [] j k f = let h : k < 0 = f.1 in absurd (omega arith)
several_stuck g inner p depth step (x ∷ is) j zero f = let h : j < 0 = f.0.0 in absurd (omega arith)
several_stuck g inner p depth step (x ∷ is) zero (suc k) f =
    let h : suc k < suc (length is) = f.1 in
    inr (inl (f.0.1, some_decodes g inner p is k (omega arith) f.2, refl))
several_stuck g inner p depth step (x ∷ is) (suc j) (suc k) f =
    let a : suc j < suc k = f.0.0 in
    let h : suc k < suc (length is) = f.1 in
    let rest : AreDecoded (decodes g p is) (length is) (Several j k) = ((omega arith, f.0.1, λ l b ne. f.0.2 (suc l) (omega arith) (λ e. ne (omega (arith, e)))), omega arith, f.2) in
    inr (inr (f.0.2 0 (omega arith) (λ e. absurd (omega (arith, e))), several_stuck g inner p depth step is j k rest))

-- the instruction that alone decodes, behind its updates
pub one_taken : (p : Parts) (s : AreSorted p) (at : Option ℕ) (d : ℕ) (is : List Instruction) (j : ℕ) (i : Instruction) (e f : List meaning.Value) → HasDepth p.children.items d at → d ≤ nesting → are_instructions p at 0 is ≡ true → i ≡ get_or is j i → IsOnlyFound (decodes p.terms (seen p at e) is) (length is) j → AreOfSorts p.terms.names e → f ≡ with_updates p.terms (valuation_at p.terms e) i.updates.items e → IsOneTaken p at is e f i.child
one_taken p s at d is j i e f deep low h here found fits made =
    let g = p.terms in
    let sorted = subst (IsSorted p at) (sym here) (sorted_at p at 0 is j i h found.0) in
    let moved = updated_point p s at d i.updates.items e deep low sorted.updates (AreOfSorts-length g.names e fits) ∙ ap (point_at p at) (sym made) in
    record {
      linked = sorted.linked;
      does = λ inner q r.
          does_one g inner (seen p at e) q is j i found
          (subst (λ x. DoesInstruction (instruction_of g inner x) (seen p at e) q) here (subst (λ v. DoesChild (inner i.child) v q) (sym moved) r));
      trouble = λ inner depth step t r.
          trouble_one g inner (seen p at e) depth step t is j i found
          (subst (λ x. InstructionTrouble (instruction_of g inner x) (seen p at e) (suc depth) t) here (subst (λ v. ChildTrouble (inner i.child) v (suc depth) t) (sym moved) r));
    }
