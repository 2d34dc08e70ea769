-- Which maps are accepted for a model and a source, by which rule the others are refused, and the map that an accepted one stands for.
use Rattle.std.specs.Prelude.{◌≡◌, ◌<◌, ℕ, true, false, List, [], ◌∷◌, slice_get, Some, IsTrue}
use Rattle.wb_values.specs.Value.{Name, Entries}
use Rattle.model_meaning.specs.Model.{Model}
use Rattle.verilog_trees.specs.Syntax.{Expression, name, whole, Source}
use Rattle.refinement.specs.Map.{Map, InstructionMap}
use Rattle.map_files.specs.Written.{Text, InstructionEntry, WrittenMap}
use Rattle.map_files.specs.Meaning.{MapRule, BadJson, BadShape, UnknownKey, UnknownState, StateUnmapped, UnknownInput, InputUnmapped, BadExpression, WidthMismatch, MapUsesInput, MemoryMismatch, UnknownInstruction, BoundMissing, BadBound, map_reading, refused_by, SaysMap}
use Rattle.map_rules.specs.Case.{MapCase, is_memory_named}
use Rattle.map_rules.specs.Names.{has_unknown_state, has_unmapped_state, has_unknown_input, has_unmapped_input, has_unknown_instruction, has_missing_bound, has_bad_bound}
use Rattle.map_rules.specs.Expressions.{ReadsAs, HasBadExpression}
use Rattle.map_rules.specs.Inputs.{HasMapInput}
use Rattle.map_rules.specs.Mapped.{HasWidthMismatch, HasMemoryMismatch}

-- the rules on written maps, in the order in which they are answered
abbrev pub rules : List MapRule
rules =
    UnknownState ∷ StateUnmapped ∷ UnknownInput ∷ InputUnmapped ∷ BadExpression ∷ WidthMismatch ∷ MapUsesInput ∷ MemoryMismatch
    ∷ UnknownInstruction ∷ BoundMissing ∷ BadBound ∷ []

-- The written map breaks the rule. The first three rules are rules on files.
abbrev pub BreaksMapRule : MapCase → MapRule → Type 0
BreaksMapRule c BadJson = ⊥
BreaksMapRule c BadShape = ⊥
BreaksMapRule c UnknownKey = ⊥
BreaksMapRule c UnknownState = IsTrue (has_unknown_state c)
BreaksMapRule c StateUnmapped = IsTrue (has_unmapped_state c)
BreaksMapRule c UnknownInput = IsTrue (has_unknown_input c)
BreaksMapRule c InputUnmapped = IsTrue (has_unmapped_input c)
BreaksMapRule c BadExpression = HasBadExpression c
BreaksMapRule c WidthMismatch = HasWidthMismatch c
BreaksMapRule c MapUsesInput = HasMapInput c
BreaksMapRule c MemoryMismatch = HasMemoryMismatch c
BreaksMapRule c UnknownInstruction = IsTrue (has_unknown_instruction c)
BreaksMapRule c BoundMissing = IsTrue (has_missing_bound c)
BreaksMapRule c BadBound = IsTrue (has_bad_bound c)

-- It is refused by the first rule that it breaks.
pub record IsMapRefusedBy (c : MapCase) (rule : MapRule) : Type 0 where
  pub breaks : BreaksMapRule c rule
  pub first : (i j : ℕ) (before : MapRule) → slice_get rules i ≡ Some before → slice_get rules j ≡ Some rule → i < j → ¬ BreaksMapRule c before

-- It is accepted where it breaks none.
abbrev pub IsMapAccepted : MapCase → Type 0
IsMapAccepted c = (rule : MapRule) → ¬ BreaksMapRule c rule

-- ---- the map that it stands for

-- each text is read as its expression
pub data AreRead : List Text → List Expression → Type 0 where
  none : AreRead [] []
  read : (t : Text) (e : Expression) (ts : List Text) (es : List Expression) → ReadsAs t e → AreRead ts es → AreRead (t ∷ ts) (e ∷ es)

-- A state's expression: that of its text, and of a memory the name of the memory.
pub data IsStateRead (m : Model) (n : Name) (t : Text) : Expression → Type 0 where
  a_value : (e : Expression) → is_memory_named m n ≡ false → ReadsAs t e → IsStateRead m n t e
  a_memory : is_memory_named m n ≡ true → IsStateRead m n t (name t whole)

pub data AreStatesRead (m : Model) : Entries Text → Entries Expression → Type 0 where
  none : AreStatesRead m [] []
  state : (n : Name) (t : Text) (e : Expression) (ts : Entries Text) (es : Entries Expression) → IsStateRead m n t e → AreStatesRead m ts es
      → AreStatesRead m ((n, t) ∷ ts) ((n, e) ∷ es)

pub data AreInputsRead : Entries Text → Entries Expression → Type 0 where
  none : AreInputsRead [] []
  an_input : (n : Name) (t : Text) (e : Expression) (ts : Entries Text) (es : Entries Expression) → ReadsAs t e → AreInputsRead ts es
      → AreInputsRead ((n, t) ∷ ts) ((n, e) ∷ es)

pub data AreInstructionsRead : List InstructionEntry → List InstructionMap → Type 0 where
  none : AreInstructionsRead [] []
  instruction : (n : Name) (t : Text) (b : ℕ) (e : Expression) (is : List InstructionEntry) (js : List InstructionMap) → ReadsAs t e
      → AreInstructionsRead is js
      → AreInstructionsRead (record { called = n; commit = t; bound = b } ∷ is) (record { called = n; commit = e; bound = b } ∷ js)

-- The written map stands for this map of the model.
pub record StandsForMap (m : Model) (w : WrittenMap) (p : Map) : Type 0 where
  pub top : p.top ≡ w.top
  pub clock : p.clock ≡ w.clock
  pub reset_signal : p.reset_signal ≡ w.reset.signal
  pub reset_active : p.reset_active ≡ w.reset.active
  pub reset_cycles : p.reset_cycles ≡ w.reset.cycles
  pub assume : AreRead w.assume p.assume
  pub invariants : AreRead w.invariants p.invariants
  pub start : ReadsAs w.start p.start
  pub states : AreStatesRead m w.states p.states
  pub inputs : AreInputsRead w.inputs p.inputs
  pub instructions : AreInstructionsRead w.instructions p.instructions

-- ---- files

abbrev pub case_of : WrittenMap → Model → Source → MapCase
case_of w m s = record { written = w; model = m; source = s }

-- The bytes of a map file are refused by this rule, for this model and this source.
pub data IsFileRefusedBy (bytes : List ℕ) (m : Model) (s : Source) (rule : MapRule) : Type 0 where
  as_a_file : map_reading bytes ≡ refused_by rule → IsFileRefusedBy bytes m s rule
  as_a_map : (w : WrittenMap) → SaysMap bytes w → IsMapRefusedBy (case_of w m s) rule → IsFileRefusedBy bytes m s rule

-- The bytes of a map file are accepted for the model and the source, and stand for this map.
pub record MapOf (bytes : List ℕ) (m : Model) (s : Source) (p : Map) : Type 0 where
  pub written : WrittenMap
  pub says : SaysMap bytes written
  pub is_accepted : IsMapAccepted (case_of written m s)
  pub stands_for : StandsForMap m written p
