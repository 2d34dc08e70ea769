-- The line of an answer names the state or the instruction that the answer speaks of.
use Rattle.std.proofs.Common.{◌≡◌, ◌∙◌, ℕ, zero, suc, ◌<◌, ◌≤◌, List, [], ◌∷◌, ◌++◌, length, get_or, slice_get, Option, Some, None, option_map, codes, append_assoc, refl, sym, ap, subst, arith}
use Rattle.std.specs.String.{string_bytes}
use Rattle.model_meaning.specs.Model as pure
use Rattle.model_meaning.specs.Model.{Model, StateDeclaration, states_of, instructions_in, instruction_list, instruction_name}
use Rattle.refinement.specs.Map.{Setting}
use Rattle.refinement.specs.Run.{Run}
use Rattle.wb_terms.specs.Graph.{Graph}
use Rattle.ila_model.specs.declared.parts.ChildId.{ChildId}
use Rattle.ila_model.specs.declared.parts.Instruction.{Instruction}
use Rattle.ila_model.specs.Meaning.{instructions_of}
use Rattle.watched_runs.specs.Disagreements.{Disagreement, initial_value, no_step, past_bound, other_state, DisagreesAt}
use Rattle.watched_runs.specs.Watched.{Watched, agrees, outside, disagrees, IsWatched, it_disagrees, IsDisagreementText, of_initial_value, of_no_step, of_past_bound, of_other_state, IsWatchedLine, line_agrees, line_outside, line_disagrees}
use Rattle.run_watch.proofs.Lists.{some_same}
use Rattle.run_watch.specs.Texts.{called_state, called_instruction, name_of_state, name_of_instruction, disagreement_text, line_of}

module _ (m : Model) (s : Setting) (run : Run) (cycles t : ℕ) (is_model : s.model ≡ m) where
  state_called : (k : ℕ) (d : StateDeclaration) → slice_get (states_of s.model.top) k ≡ Some d → d.state_name ≡ name_of_state m k
  state_called k d e = sym (ap called_state (subst (λ (n : Model). slice_get (states_of n.top) k ≡ Some d) is_model e))

  text_of : (d : Disagreement) → DisagreesAt s run cycles t d → IsDisagreementText s d (disagreement_text m d)
  text_of (initial_value k) x =
      subst (λ n. IsDisagreementText s (initial_value k) (codes "init " ++ n)) (state_called k x.state x.is_state) (of_initial_value k x.state x.is_state)
  text_of no_step x = of_no_step
  text_of (past_bound j) x =
      let a = x.is_command.alone in
      let same : instruction_name a.i ≡ name_of_instruction m j =
      sym (ap called_instruction (subst (λ (n : Model). slice_get (instructions_in n.top) j ≡ Some a.i) is_model a.is_j)) in
      subst (λ n. IsDisagreementText s (past_bound j) (codes "bound " ++ n)) same (of_past_bound j a.i a.is_j)
  text_of (other_state k) x =
      subst (λ n. IsDisagreementText s (other_state k) (codes "state " ++ n)) (state_called k x.state x.is_state) (of_other_state k x.state x.is_state)

pub line_told : (m : Model) (s : Setting) (run : Run) (cycles : ℕ) (w : Watched) → s.model ≡ m → IsWatched s run cycles w → IsWatchedLine s w (line_of m w)
line_told m s run cycles (agrees n) is_model x = line_agrees n
line_told m s run cycles (outside t p) is_model x = line_outside t p
line_told m s run cycles (disagrees t d) is_model x = line_disagrees t d (disagreement_text m d) (by_answer x)
  where
    by_answer : IsWatched s run cycles (disagrees t d) → IsDisagreementText s d (disagreement_text m d)
    by_answer (it_disagrees p u which end not first) = text_of m s run p t is_model d first.disagrees

-- a text, a blank, another one, and the end of the line
pub line_ended : (start text : List ℕ) → ((start ++ 32 ∷ []) ++ text) ++ 10 ∷ [] ≡ start ++ 32 ∷ (text ++ 10 ∷ [])
line_ended start text = ap (λ xs. xs ++ 10 ∷ []) (append_assoc start (32 ∷ []) text) ∙ append_assoc start (32 ∷ text) (10 ∷ [])

-- one text after another
pub two_parts : (a b c t x : List ℕ) → b ≡ a ++ t → c ≡ b ++ x → c ≡ a ++ (t ++ x)
two_parts a b c t x e f = f ∙ (ap (λ l. l ++ x) e ∙ append_assoc a t x)

-- ---- names of instructions

pub name_there : (g : Graph) (inner : Option ChildId → pure.Child) (is : List Instruction) (k : ℕ) (i : Instruction) → k < length is
    → called_instruction (slice_get (instruction_list (instructions_of g inner is)) k) ≡ string_bytes (get_or is k i).name
name_there g inner [] k i h = absurd (omega (arith, h))
name_there g inner (d ∷ is) zero i h = refl
name_there g inner (d ∷ is) (suc k) i h = name_there g inner is k i (omega (arith, h))

pub name_nowhere : (g : Graph) (inner : Option ChildId → pure.Child) (is : List Instruction) (k : ℕ) → length is ≤ k
    → called_instruction (slice_get (instruction_list (instructions_of g inner is)) k) ≡ []
name_nowhere g inner [] k h = refl
name_nowhere g inner (d ∷ is) zero h = absurd (omega (arith, h))
name_nowhere g inner (d ∷ is) (suc k) h = name_nowhere g inner is k (omega (arith, h))

-- a state's name, as the model gives it
pub state_there : (o : Option StateDeclaration) (n : List ℕ) → option_map (λ s. s.state_name) o ≡ Some n → called_state o ≡ n
state_there None n e = let none : None ≡ Some n = e in cc
state_there (Some d) n e = some_same e

pub no_state : (ds : List StateDeclaration) (k : ℕ) → length ds ≤ k → called_state (slice_get ds k) ≡ []
no_state [] k h = refl
no_state (d ∷ ds) zero h = absurd (omega (arith, h))
no_state (d ∷ ds) (suc k) h = no_state ds k (omega (arith, h))
