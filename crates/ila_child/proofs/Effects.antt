-- Lemmas on what one instruction does, whether or not it starts.
use Rattle.std.proofs.Common.{◌≡◌, ℕ, zero, suc, ◌<◌, true, List, [], ◌∷◌, length, get_or, slice_get, Option, Some, sym, ap, subst, arith}
use Rattle.std.proofs.lemmas.Bool.{and_parts}
use Rattle.wb_values.specs.Value as meaning
use Rattle.wb_values.specs.Value.{truth, Name, Valuation}
use Rattle.model_meaning.specs.Model as pure
use Rattle.model_meaning.specs.Model.{instruction_list, holds, point_of}
use Rattle.model_meaning.specs.Instruction.{DoesInstruction, InstructionTrouble, IsInstruction, stuck, too_long}
use Rattle.wb_terms.specs.Graph.{Graph, tree}
use Rattle.ila_model.specs.declared.parts.ChildId.{ChildId}
use Rattle.ila_model.specs.declared.parts.Instruction.{Instruction}
use Rattle.ila_model.specs.declared.parts.Parts.{Parts}
use Rattle.ila_model.specs.Sorted.{is_term_of}
use Rattle.ila_model.specs.Scope.{nesting}
use Rattle.ila_model.specs.Meaning.{instruction_of, instructions_of, program_of, model_from}
use Rattle.ila_model.proofs.Declarations.{AreSorted}
use Rattle.ila_child.specs.declared.stepping.Stepped.{Stepped}
use Rattle.ila_child.specs.declared.stepping.Stepped.TheVariants.{Next, NotValid, NoInstruction, Several, ChildStuck, ChildTooLong}
use Rattle.ila_child.specs.Decoding.{decodes, are_conditions}
use Rattle.ila_child.specs.State.{state_valuation, input_valuation}
use Rattle.ila_child.specs.Start.{started, IsStart}
use Rattle.ila_child.specs.Applied.{LeadsTo, state_of_step}
use Rattle.ila_child.proofs.Starts.{state_led, state_sorted}

-- an instruction of the code's list, by what an index gives
pub found_at : (is : List Instruction) (k : ℕ) (x : Instruction) → k < length is → x ≡ get_or is k x → slice_get is k ≡ Some x
found_at [] k x h e = absurd (omega arith)
found_at (y ∷ is) zero x h e = ap (λ (z : Instruction). Some z) (sym e)
found_at (y ∷ is) (suc k) x h e = found_at is k x (omega arith) e

number_of : (g : Graph) (inner : Option ChildId → pure.Child) (is : List Instruction) (k : ℕ) (x : Instruction) → slice_get is k ≡ Some x
    → slice_get (instruction_list (instructions_of g inner is)) k ≡ Some (instruction_of g inner x)
number_of g inner [] k x e = absurd (cc)
number_of g inner (y ∷ is) zero x e =
    let same : y ≡ x = cc in
    ap (λ (z : Instruction). Some (instruction_of g inner z)) same
number_of g inner (y ∷ is) (suc k) x e = number_of g inner is k x e

-- it is that instruction of the model
pub is_number : (name : Name) (p : Parts) (k : ℕ) (x : Instruction) → slice_get p.instructions.items k ≡ Some x
    → IsInstruction (model_from name p) k (started p x)
is_number name p k x e = number_of p.terms (program_of p.terms p.children.items nesting) p.instructions.items k x e

pub decode_here : (g : Graph) (v : Valuation) (is : List Instruction) (k : ℕ) (x : Instruction) → slice_get is k ≡ Some x
    → decodes g v is k ≡ holds (tree g x.decode.0) v
decode_here g v [] k x e = absurd (cc)
decode_here g v (y ∷ is) zero x e =
    let same : y ≡ x = cc in
    ap (λ (z : Instruction). holds (tree g z.decode.0) v) same
decode_here g v (y ∷ is) (suc k) x e = decode_here g v is k x e

pub condition_here : (g : Graph) (is : List Instruction) (k : ℕ) (x : Instruction) → are_conditions g is ≡ true → slice_get is k ≡ Some x
    → is_term_of g truth x.decode.0 ≡ true
condition_here g [] k x h e = absurd (cc)
condition_here g (y ∷ is) zero x h e =
    let same : y ≡ x = cc in
    subst (λ (z : Instruction). is_term_of g truth z.decode.0 ≡ true) same (and_parts (is_term_of g truth y.decode.0) _ h).0
condition_here g (y ∷ is) (suc k) x h e = condition_here g is k x (and_parts (is_term_of g truth y.decode.0) _ h).1 e

same_instruction : (is : List Instruction) (k : ℕ) (x y : Instruction) → slice_get is k ≡ Some x → slice_get is k ≡ Some y → y ≡ x
same_instruction is k x y a b = cc

-- where the instruction leads, by the answer of its start
pub leads : (name : Name) (p : Parts) (s : AreSorted p) (q w : List meaning.Value) (k : ℕ) (x : Instruction) (a : Stepped)
    → slice_get p.instructions.items k ≡ Some x
    → IsStart p (point_of (model_from name p) (state_valuation (model_from name p) q) (input_valuation (model_from name p) w)) k a
    → LeadsTo (model_from name p) (started p x) q w (state_of_step a)
leads name p s q w k x (Next j r) e b =
    let m = model_from name p in
    let v = point_of m (state_valuation m q) (input_valuation m w) in
    let led = b.1 in
    let after = led.1 in
    let does = subst (λ y. DoesInstruction (started p y) v after) (same_instruction p.instructions.items k x led.0 e led.2) led.3 in
    ((after, does, state_led p s name r after led.4), state_sorted p s name r after led.4)
leads name p s q w k x NotValid e b = absurd b
leads name p s q w k x NoInstruction e b = absurd b
leads name p s q w k x (Several i j) e b = absurd b
leads name p s q w k x (ChildStuck d n) e b =
    let m = model_from name p in
    let v = point_of m (state_valuation m q) (input_valuation m w) in
    (stuck d n, subst (λ y. InstructionTrouble (started p y) v 1 (stuck d n)) (same_instruction p.instructions.items k x b.0 e b.1) b.2)
leads name p s q w k x (ChildTooLong d) e b =
    let m = model_from name p in
    let v = point_of m (state_valuation m q) (input_valuation m w) in
    (too_long d, subst (λ y. InstructionTrouble (started p y) v 1 (too_long d)) (same_instruction p.instructions.items k x b.0 e b.1) b.2)
