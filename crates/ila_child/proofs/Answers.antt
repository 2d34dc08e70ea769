-- Lemmas on the answers of a step, from which instructions decode at the point of state and inputs.
use Rattle.std.proofs.Common.{◌≡◌, ◌≢◌, ℕ, zero, suc, ◌<◌, Bool, true, false, List, [], ◌∷◌, length, get_or, slice_get, Option, Some, None, IsTrue, refl, sym, ap, ◌∙◌, subst, arith}
use Rattle.std.proofs.lemmas.Bool.{false≢true}
use Rattle.wb_values.specs.Value as meaning
use Rattle.wb_values.specs.Value.{Name, Valuation}
use Rattle.model_meaning.specs.Model as pure
use Rattle.model_meaning.specs.Model.{Model, instruction_list, decode_of, holds, point_of}
use Rattle.model_meaning.specs.Instruction.{DoesInstruction, InstructionTrouble, DoesOne, Steps, own_states, NoneDecodesAt, IsOnlyDecoded, AreFirstTwoDecoded, Trouble}
use Rattle.wb_terms.specs.Graph.{Graph, tree}
use Rattle.ila_model.specs.declared.parts.ChildId.{ChildId}
use Rattle.ila_model.specs.declared.parts.Instruction.{Instruction}
use Rattle.ila_model.specs.declared.parts.Parts.{Parts}
use Rattle.ila_model.specs.Scope.{nesting}
use Rattle.ila_model.specs.Meaning.{instruction_of, instructions_of, program_of, model_from}
use Rattle.ila_model.proofs.Declarations.{AreSorted}
use Rattle.ila_child.specs.declared.decoding.Decoded.TheVariants.{Several}
use Rattle.ila_child.specs.declared.stepping.Stepped.{Stepped}
use Rattle.ila_child.specs.declared.stepping.Stepped.TheVariants.{Next, NotValid, NoInstruction, ChildStuck, ChildTooLong}
use Rattle.ila_child.specs.declared.stepping.Stepped.TheVariants.{Several as SeveralDecode}
use Rattle.ila_child.specs.Decoding.{decodes, IsFound, IsOnlyFound, AreDecoded}
use Rattle.ila_child.specs.State.{state_valuation}
use Rattle.ila_child.specs.Step.{IsAnswer}
use Rattle.ila_child.specs.Start.{started, IsStart}
use Rattle.ila_child.proofs.Machines.{does_one}
use Rattle.ila_child.proofs.Starts.{state_led, state_sorted}

record IsPlace (g : Graph) (p : Valuation) (is : List Instruction) (k : ℕ) (i : pure.Instruction) : Type 0 where
  within : k < length is
  decode : holds (decode_of i) p ≡ decodes g p is k

-- the instruction number k of a list has a place in the code's list
place_of : (g : Graph) (inner : Option ChildId → pure.Child) (p : Valuation) (is : List Instruction) (k : ℕ) (i : pure.Instruction) → slice_get (instruction_list (instructions_of g inner is)) k ≡ Some i → IsPlace g p is k i
place_of g inner p [] k i e = absurd (cc)
place_of g inner p (x ∷ is) zero i e =
    let same : instruction_of g inner x ≡ i = cc in
    record { within = omega arith; decode = ap (λ j. holds (decode_of j) p) (sym same) }
place_of g inner p (x ∷ is) (suc k) i e =
    let r = place_of g inner p is k i e in
    let within = r.within in
    record { within = omega arith; decode = r.decode }

-- and the other way round
number_of : (g : Graph) (inner : Option ChildId → pure.Child) (is : List Instruction) (k : ℕ) (d : Instruction) → k < length is → slice_get (instruction_list (instructions_of g inner is)) k ≡ Some (instruction_of g inner (get_or is k d))
number_of g inner [] k d h = absurd (omega arith)
number_of g inner (x ∷ is) zero d h = refl
number_of g inner (x ∷ is) (suc k) d h = number_of g inner is k d (omega arith)

decode_at : (g : Graph) (inner : Option ChildId → pure.Child) (p : Valuation) (is : List Instruction) (k : ℕ) (d : Instruction) → k < length is → holds (decode_of (instruction_of g inner (get_or is k d))) p ≡ decodes g p is k
decode_at g inner p [] k d h = absurd (omega arith)
decode_at g inner p (x ∷ is) zero d h = refl
decode_at g inner p (x ∷ is) (suc k) d h = decode_at g inner p is k d (omega arith)

there : (is : List Instruction) (k : ℕ) (i : Instruction) → slice_get is k ≡ Some i → i ≡ get_or is k i
there [] k i e = absurd (cc)
there (x ∷ is) zero i e = let same : x ≡ i = cc in sym same
there (x ∷ is) (suc k) i e = there is k i e

abbrev inner_of : Parts → Option ChildId → pure.Child
inner_of p = program_of p.terms p.children.items nesting

pub none_decode : (name : Name) (p : Parts) (q w : Valuation) → IsFound (decodes p.terms (point_of (model_from name p) q w) p.instructions.items) (length p.instructions.items) None → NoneDecodesAt (model_from name p) q w
none_decode name p q w f = λ k i e t.
    let r = place_of p.terms (inner_of p) (point_of (model_from name p) q w) p.instructions.items k i e in
    false≢true (sym (f k r.within) ∙ sym r.decode ∙ t)

only_decoded : (name : Name) (p : Parts) (q w : Valuation) (j : ℕ) (d : Instruction) → IsOnlyFound (decodes p.terms (point_of (model_from name p) q w) p.instructions.items) (length p.instructions.items) j → IsOnlyDecoded (model_from name p) q w j
only_decoded name p q w j d f =
    let v = point_of (model_from name p) q w in
    let is = p.instructions.items in
    record {
      i = instruction_of p.terms (inner_of p) (get_or is j d);
      is_j = number_of p.terms (inner_of p) is j d f.0;
      decoded = decode_at p.terms (inner_of p) v is j d f.0 ∙ f.1;
      no_other = λ k i e ne t.
          let r = place_of p.terms (inner_of p) v is k i e in
          false≢true (sym (f.2 k r.within ne) ∙ sym r.decode ∙ t);
    }

first_two_by : (name : Name) (p : Parts) (q w : Valuation) (j k : ℕ) (d : Instruction) → AreDecoded (decodes p.terms (point_of (model_from name p) q w) p.instructions.items) (length p.instructions.items) (Several j k) → AreFirstTwoDecoded (model_from name p) q w j k
first_two_by name p q w j k d f =
    let v = point_of (model_from name p) q w in
    let is = p.instructions.items in
    let within : j < length is = omega (arith, f.0.0, f.1) in
    record {
      first = instruction_of p.terms (inner_of p) (get_or is j d);
      second = instruction_of p.terms (inner_of p) (get_or is k d);
      is_j = number_of p.terms (inner_of p) is j d within;
      is_k = number_of p.terms (inner_of p) is k d f.1;
      j_first = f.0.0;
      first_decoded = decode_at p.terms (inner_of p) v is j d within ∙ f.0.1;
      second_decoded = decode_at p.terms (inner_of p) v is k d f.1 ∙ f.2;
      none_between = λ l i e b ne t.
          let r = place_of p.terms (inner_of p) v is l i e in
          false≢true (sym (f.0.2 l b ne) ∙ sym r.decode ∙ t);
    }

some_instruction : (is : List Instruction) (k : ℕ) → k < length is → Instruction
some_instruction [] k h = absurd (omega arith)
some_instruction (x ∷ is) k h = x

pub first_two : (name : Name) (p : Parts) (q w : Valuation) (j k : ℕ) → AreDecoded (decodes p.terms (point_of (model_from name p) q w) p.instructions.items) (length p.instructions.items) (Several j k) → AreFirstTwoDecoded (model_from name p) q w j k
first_two name p q w j k f = first_two_by name p q w j k (some_instruction p.instructions.items k f.1) f

-- what the instruction that starts does is the answer of the step
pub answered : (name : Name) (p : Parts) (s : AreSorted p) (q w : Valuation) (k : ℕ) (a : Stepped) → IsTrue (holds (tree p.terms p.valid.0) (point_of (model_from name p) q w)) → IsOnlyFound (decodes p.terms (point_of (model_from name p) q w) p.instructions.items) (length p.instructions.items) k → IsStart p (point_of (model_from name p) q w) k a → IsAnswer (model_from name p) q w a
answered name p s q w k (Next j r) v f b =
    let led = b.1 in
    let i = led.0 in
    let after = led.1 in
    let is = p.instructions.items in
    let here = there is k i led.2 in
    let does = subst (λ x. DoesInstruction (started p x) (point_of (model_from name p) q w) after) here led.3 in
    let same : k ≡ j = sym b.0 in (
      (
        record { valid = v; alone = subst (IsOnlyDecoded (model_from name p) q w) same (only_decoded name p q w k i f) },
        (after, (v, does_one p.terms (inner_of p) (point_of (model_from name p) q w) after is k i f does), state_led p s name r after led.4),
      ),
      state_sorted p s name r after led.4,
    )
answered name p s q w k NotValid v f b = absurd b
answered name p s q w k NoInstruction v f b = absurd b
answered name p s q w k (SeveralDecode i j) v f b = absurd b
answered name p s q w k (ChildStuck d n) v f b =
    let i = b.0 in
    let here = there p.instructions.items k i b.1 in (
      record {
        j = k;
        i = started p i;
        started = record { valid = v; alone = only_decoded name p q w k i f };
        is_j = subst (λ x. slice_get (instruction_list (instructions_of p.terms (inner_of p) p.instructions.items)) k ≡ Some (started p x)) (sym here) (number_of p.terms (inner_of p) p.instructions.items k i f.0);
        has_trouble = b.2;
      },
      tt,
    )
answered name p s q w k (ChildTooLong d) v f b =
    let i = b.0 in
    let here = there p.instructions.items k i b.1 in (
      record {
        j = k;
        i = started p i;
        started = record { valid = v; alone = only_decoded name p q w k i f };
        is_j = subst (λ x. slice_get (instruction_list (instructions_of p.terms (inner_of p) p.instructions.items)) k ≡ Some (started p x)) (sym here) (number_of p.terms (inner_of p) p.instructions.items k i f.0);
        has_trouble = b.2;
      },
      tt,
    )
