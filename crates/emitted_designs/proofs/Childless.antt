-- Models without child programs: each instruction is its updates, and such a model is total.
use Rattle.std.proofs.Common.{◌≡◌, ℕ, zero, suc, ◌+◌, ◌*◌, ◌≤◌, max, arith, List, [], Some, refl, subst}
use Rattle.std.specs.Prelude.{slice_get}
use Rattle.wb_values.specs.Value.{Valuation}
use Rattle.model_meaning.specs.Model.{Model, Machine, machine, Instruction, instruction, Instructions, no_instructions, and_then, no_child, child, child_program, instruction_list, instructions_in, point_of}
use Rattle.model_meaning.specs.Instruction.{DoesInstruction, IsStarted, Steps, own_states}
use Rattle.model_meaning.proofs.OneInstruction.{step_done}
use Rattle.refinement.specs.Map.{Setting}
use Rattle.refinement.specs.Run.{Run}
use Rattle.emitted_designs.specs.Bounds.{nesting_of, nesting_among, nesting_of_instruction, instruction_bound, machine_bound}
use Rattle.emitted_designs.specs.MicroStep.{entered_by, begun}
use Rattle.emitted_designs.specs.Cycles.{EdgeLeads, AreRunning}
use Rattle.emitted_designs.specs.Laws.{ModelsWithoutChildrenAreTotal}

max_zero : (x y : ℕ) → max x y ≡ 0 → (x ≡ 0) × (y ≡ 0)
max_zero x y e = (omega (arith, e), omega (arith, e))

among : (is : Instructions) (j : ℕ) (i : Instruction) → nesting_among is ≡ 0 → slice_get (instruction_list is) j ≡ Some i → nesting_of_instruction i ≡ 0
among no_instructions j i none e = cc
among (and_then x is) zero i none e =
    let same : x ≡ i = cc in subst (λ y. nesting_of_instruction y ≡ 0) same (max_zero (nesting_of_instruction x) (nesting_among is) none).0
among (and_then x is) (suc j) i none e = among is j i (max_zero (nesting_of_instruction x) (nesting_among is) none).1 e

pub in_machine : (top : Machine) (j : ℕ) (i : Instruction) → nesting_of top ≡ 0 → slice_get (instructions_in top) j ≡ Some i
    → nesting_of_instruction i ≡ 0
in_machine (machine states valid is) j i none e = among is j i none e

-- An instruction without a child enters none.
pub enters_none : (i : Instruction) → nesting_of_instruction i ≡ 0 → entered_by i ≡ []
enters_none (instruction called decode update no_child) none = refl
enters_none (instruction called decode update (child steps program)) none = absurd (omega (arith, none))

-- What it begins is what it does.
pub does_begun : (i : Instruction) (p : Valuation) → nesting_of_instruction i ≡ 0 → DoesInstruction i p (begun i p)
does_begun (instruction called decode update no_child) p none = refl
does_begun (instruction called decode update (child steps program)) p none = absurd (omega (arith, none))

-- It does nothing else.
pub done_begun : (i : Instruction) (p q : Valuation) → nesting_of_instruction i ≡ 0 → DoesInstruction i p q → q ≡ begun i p
done_begun (instruction called decode update no_child) p q none h = h
done_begun (instruction called decode update (child steps program)) p q none h = absurd (omega (arith, none))

-- It has no child.
pub no_program : (i : Instruction) → nesting_of_instruction i ≡ 0 → child_program i ≡ no_child
no_program (instruction called decode update no_child) none = refl
no_program (instruction called decode update (child steps program)) none = absurd (omega (arith, none))

-- Where instruction j starts, the model steps to the states of the point that it begins.
pub steps_to_begun : (m : Model) (q w : Valuation) (j : ℕ) → nesting_of m.top ≡ 0 → (h : IsStarted m q w j)
    → Steps m q w (own_states m (begun h.alone.i (point_of m q w)))
steps_to_begun m q w j none h = (
  begun h.alone.i (point_of m q w),
  step_done m.top (point_of m q w) (begun h.alone.i (point_of m q w)) j h.alone.i h.alone.is_j h.valid h.alone.decoded h.alone.no_other
      (does_begun h.alone.i (point_of m q w) (in_machine m.top j h.alone.i none h.alone.is_j)),
  refl,
)

pub are_total : ModelsWithoutChildrenAreTotal
are_total m none q w j sorted h = (own_states m (begun h.alone.i (point_of m q w)), steps_to_begun m q w j none h)

-- A bound is at least one cycle.
pub some_cycle : (i : Instruction) → 1 ≤ instruction_bound i
some_cycle (instruction called decode update no_child) = omega arith
some_cycle (instruction called decode update (child steps program)) = above (steps * machine_bound program)
  where
    above : (k : ℕ) → 1 ≤ 2 + k
    above k = omega arith

-- No child program of such a model runs.
pub none_running : (s : Setting) (run : Run) (t : ℕ) (running : List Machine) → nesting_of s.model.top ≡ 0 → AreRunning s run t running → running ≡ []
none_running s run t running none (AreRunning.at_rest u rests) = refl
none_running s run t running none (AreRunning.after_reset u resets) = refl
none_running s run t running none (AreRunning.after_edge u before next q earlier no_reset leads) =
    next_of before next q (none_running s run u before none earlier) leads
  where
    next_of : (ps qs : List Machine) (p : Valuation) → ps ≡ [] → EdgeLeads s run u ps qs p → qs ≡ []
    next_of ps qs p e (EdgeLeads.waits quiet) = refl
    next_of ps qs p e (EdgeLeads.starts i h) = enters_none i (in_machine s.model.top h.number i none h.is_instruction)
    next_of ps qs p e (EdgeLeads.goes_on program around rest r step) = cc
