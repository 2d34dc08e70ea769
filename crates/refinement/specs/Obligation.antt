-- The obligations of a model and a map: their names, hypotheses and claims in order, and when one holds.
use Rattle.std.specs.Prelude.{◌≡◌, ℕ, zero, suc, ◌-◌, ◌<◌, cond, List, [], ◌∷◌, ◌++◌, length, Option, Some, None, is_some, codes, decimal, ⊤}
use Rattle.wb_values.specs.Value.{Name, Value, Valuation}
use Rattle.model_meaning.specs.Model.{Model, StateDeclaration, Instruction, instruction_name, Child, no_child, child, child_program, states_of, instructions_in, state_named}
use Rattle.model_meaning.specs.Instruction.{Does, DecodesAt, IsInstruction, IsStarted}
use Rattle.refinement.specs.Map.{Setting, Map, InstructionMap, instruction_map}
use Rattle.refinement.specs.Run.{Run, IsRun, IsResetAt, HoldsOf}
use Rattle.refinement.specs.Refinement.{state_at, inputs_at, StartsAt, CommitsAt}

-- What hypotheses and claims say of a few cycles, counted from 0. Instructions go by their number, states by their name,
-- assumptions and invariants by their number in the map.
pub data Fact : Type 0 where
  reset_active reset_inactive : (t : ℕ) → Fact
  assumed invariant : (k t : ℕ) → Fact
  start no_start : (t : ℕ) → Fact
  decoded : (j : ℕ) → Fact
  commit no_commit : (j t : ℕ) → Fact
  -- the state has its stated initial value at t
  initial : (n : Name) (t : ℕ) → Fact
  -- the state is equal at 0 and 1
  same : (n : Name) → Fact
  -- at 0 the model is valid, and exactly one instruction decodes
  one_decodes : Fact
  -- from 0 instruction j leads to a state: its child's steps end
  ends : (j : ℕ) → Fact
  -- the state has at t the value that instruction j gives it from 0
  result_of : (j : ℕ) (n : Name) (t : ℕ) → Fact
  never : Fact

-- what a fact means of a run
abbrev pub Means : Setting → Run → Fact → Type 0
Means s run (reset_active t) = IsResetAt s run t
Means s run (reset_inactive t) = ¬ IsResetAt s run t
Means s run (assumed k t) = HoldsOf s run s.map.assume k t
Means s run (invariant k t) = HoldsOf s run s.map.invariants k t
Means s run (start t) = StartsAt s run t
Means s run (no_start t) = ¬ StartsAt s run t
Means s run (decoded j) = (i : Instruction) × IsInstruction s.model j i × DecodesAt s.model (state_at s run 0) (inputs_at s run 0) i
Means s run (commit j t) = CommitsAt s run j t
Means s run (no_commit j t) = ¬ CommitsAt s run j t
Means s run (initial n t) =
    (d : StateDeclaration) (x : Value) → state_named (states_of s.model.top) n ≡ Some d → d.init ≡ Some x → state_at s run t n ≡ x
Means s run (same n) = state_at s run 1 n ≡ state_at s run 0 n
Means s run one_decodes = (j : ℕ) × IsStarted s.model (state_at s run 0) (inputs_at s run 0) j
Means s run (ends j) =
    (i : Instruction) × IsInstruction s.model j i × (r : Valuation) × Does s.model i (state_at s run 0) (inputs_at s run 0) r
Means s run (result_of j n t) =
    (i : Instruction) (r : Valuation) → IsInstruction s.model j i → Does s.model i (state_at s run 0) (inputs_at s run 0) r
    → state_at s run t n ≡ r n
Means s run never = ⊥

abbrev pub MeansAll : Setting → Run → List Fact → Type 0
MeansAll s run [] = ⊤
MeansAll s run (fact ∷ facts) = Means s run fact × MeansAll s run facts

-- An obligation: its name, how many cycles it speaks of, its hypotheses in order, and its claim.
pub record Obligation : Type 0 where
  pub called : Name
  pub cycles : ℕ
  pub hypotheses : List Fact
  pub claim : Fact

-- It holds where for all registers and inputs the hypotheses give the claim.
abbrev pub Holds : Setting → Obligation → Type 0
Holds s o = (run : Run) → IsRun s run o.cycles → MeansAll s run o.hypotheses → Means s run o.claim

-- Values falsify it where all hypotheses hold and the claim does not.
pub record Falsifies (s : Setting) (run : Run) (o : Obligation) : Type 0 where
  pub is_run : IsRun s run o.cycles
  pub hypotheses : MeansAll s run o.hypotheses
  pub fails : ¬ Means s run o.claim

-- f of the numbers from k on, n of them
abbrev pub for_each : {A : Type 0} → (ℕ → List A) → ℕ → ℕ → List A
for_each f k zero = []
for_each f k (suc n) = f k ++ for_each f (suc k) n

-- each invariant at cycle t
abbrev pub invariants_at : Map → ℕ → List Fact
invariants_at m t = for_each (λ k. invariant k t ∷ []) 0 (length m.invariants)

-- the premises at cycle t: reset inactive, then each assumed
abbrev pub premises_at : Map → ℕ → List Fact
premises_at m t = reset_inactive t ∷ for_each (λ k. assumed k t ∷ []) 0 (length m.assume)

-- a text with a number after it
abbrev pub numbered : Name → ℕ → Name
numbered text k = text ++ decimal k

-- claims of invariants at cycle t, under the same hypotheses
abbrev pub invariant_obligations : Map → Name → ℕ → List Fact → ℕ → List Obligation
invariant_obligations m text cycles hypotheses t =
    for_each (λ k. record { called = numbered text k; cycles = cycles; hypotheses = hypotheses; claim = invariant k t } ∷ [])
    0 (length m.invariants)

-- a claim for each state, under the same hypotheses
abbrev pub state_obligations : Name → ℕ → List Fact → (Name → Fact) → List StateDeclaration → List Obligation
state_obligations text cycles hypotheses claim [] = []
state_obligations text cycles hypotheses claim (d ∷ ds) =
    record { called = text ++ d.state_name; cycles = cycles; hypotheses = hypotheses; claim = claim d.state_name }
    ∷ state_obligations text cycles hypotheses claim ds

-- the states with a stated initial value
abbrev pub with_initial_values : List StateDeclaration → List StateDeclaration
with_initial_values [] = []
with_initial_values (d ∷ ds) = cond (is_some d.init) (d ∷ with_initial_values ds) (with_initial_values ds)

-- after the reset's cycles, from any registers: each invariant, and each stated initial value
abbrev pub reset_obligations : Model → Map → List Obligation
reset_obligations model m =
    let active : List Fact = for_each (λ t. reset_active t ∷ []) 0 m.reset_cycles in
    invariant_obligations m (codes "reset.inv.") m.reset_cycles active m.reset_cycles
    ++ state_obligations (codes "reset.init.") m.reset_cycles active (λ n. initial n m.reset_cycles) (with_initial_values (states_of model.top))

-- after an idle cycle without start: each invariant, and each state as it was
abbrev pub idle_obligations : Model → Map → List Obligation
idle_obligations model m =
    let idle : List Fact = invariants_at m 0 ++ premises_at m 0 ++ no_start 0 ∷ [] in
    invariant_obligations m (codes "idle.inv.") 1 idle 1 ++ state_obligations (codes "idle.state.") 1 idle same (states_of model.top)

-- the hypotheses of a start
abbrev pub start_hypotheses : Map → List Fact
start_hypotheses m = invariants_at m 0 ++ premises_at m 0 ++ start 0 ∷ []

-- At a start the model is valid and exactly one instruction decodes.
abbrev pub decode_obligation : Map → Obligation
decode_obligation m = record { called = codes "decode"; cycles = 1; hypotheses = start_hypotheses m; claim = one_decodes }

-- the hypotheses of a start of instruction j
abbrev pub started_by : Map → ℕ → List Fact
started_by m j = start_hypotheses m ++ decoded j ∷ []

-- after the start, at cycle t: the premises, and no start
abbrev pub running_at : Map → ℕ → List Fact
running_at m t = premises_at m t ++ no_start t ∷ []

-- from cycle t on, n cycles in which the command of j runs without commit
abbrev pub running : Map → ℕ → ℕ → ℕ → List Fact
running m j t n = for_each (λ u. running_at m u ++ no_commit j u ∷ []) t n

-- The hypotheses of a command of j that has not ended in its first n cycles, n above 0.
abbrev pub not_ended : Map → ℕ → ℕ → List Fact
not_ended m j n = started_by m j ++ no_commit j 0 ∷ running m j 1 (n - 1)

-- The hypotheses of a command of j whose first commit is at cycle c.
abbrev pub ended_at : Map → ℕ → ℕ → List Fact
ended_at m j zero = started_by m j ++ commit j 0 ∷ []
ended_at m j (suc c) = started_by m j ++ no_commit j 0 ∷ (running m j 1 c ++ running_at m (suc c) ++ commit j (suc c) ∷ [])

-- Where instruction j has a child: its steps end.
abbrev pub child_obligations : Map → ℕ → Name → Child → List Obligation
child_obligations m j n no_child = []
child_obligations m j n (child steps program) =
    record { called = codes "child." ++ n; cycles = 1; hypotheses = started_by m j; claim = ends j } ∷ []

-- A commit comes within the bound.
abbrev pub bound_obligation : Map → ℕ → Name → ℕ → Obligation
bound_obligation m j n bound = record { called = codes "bound." ++ n; cycles = bound; hypotheses = not_ended m j bound; claim = never }

-- After a commit at cycle c: each invariant, and each state as the instruction leaves it.
abbrev pub commit_obligations : Model → Map → ℕ → Name → ℕ → List Obligation
commit_obligations model m j n c =
    let text : Name = codes "commit." ++ n ++ codes "." ++ decimal c in
    invariant_obligations m (text ++ codes ".inv.") (suc c) (ended_at m j c) (suc c)
    ++ state_obligations (text ++ codes ".state.") (suc c) (ended_at m j c) (λ q. result_of j q (suc c)) (states_of model.top)

abbrev pub bound_in : Option InstructionMap → ℕ
bound_in (Some e) = e.bound
bound_in None = 0

-- the bound of an instruction
abbrev pub bound_named : Map → Name → ℕ
bound_named m n = bound_in (instruction_map m.instructions n)

abbrev pub instruction_obligations : Model → Map → ℕ → Instruction → List Obligation
instruction_obligations model m j i =
    let n : Name = instruction_name i in
    child_obligations m j n (child_program i) ++ bound_obligation m j n (bound_named m n)
    ∷ for_each (commit_obligations model m j n) 0 (bound_named m n)

-- those of the instructions from number j on
abbrev pub all_instruction_obligations : Model → Map → ℕ → List Instruction → List Obligation
all_instruction_obligations model m j [] = []
all_instruction_obligations model m j (i ∷ is) = instruction_obligations model m j i ++ all_instruction_obligations model m (suc j) is

-- All obligations in order.
abbrev pub obligations : Model → Map → List Obligation
obligations model m =
    reset_obligations model m ++ idle_obligations model m ++ decode_obligation m
    ∷ all_instruction_obligations model m 0 (instructions_in model.top)

-- A whole command of instruction j: values that meet the hypotheses of a commit at some cycle below the bound.
abbrev pub IsWholeCommand : Setting → ℕ → Run → Type 0
IsWholeCommand s j run =
    (i : Instruction) × IsInstruction s.model j i × (c : ℕ) × (c < bound_named s.map (instruction_name i))
    × IsRun s run (suc c) × MeansAll s run (ended_at s.map j c)
