-- A model that takes one step after another: what is so of it, and what its answers stand for.
use Rattle.std.specs.Prelude.{ℕ, suc, ◌≡◌, List, [], ◌∷◌, length, take, ⊤, slice_set}
use Rattle.wb_values.specs.Value as meaning
use Rattle.wb_terms.specs.Environment.{AreOfSorts}
use Rattle.term_evaluation.specs.Points.{IsPointOf}
use Rattle.ila_model.specs.declared.parts.Parts.{Parts}
use Rattle.ila_child.specs.declared.runs.Runner.{Runner}
use Rattle.ila_child.specs.declared.runs.Moved.{Moved}
use Rattle.ila_child.specs.declared.runs.Moved.TheVariants.{Next, NotValid, NoInstruction, Several, ChildStuck, ChildTooLong}
use Rattle.ila_child.specs.declared.stepping.Stepped.{Stepped}
use Rattle.ila_child.specs.declared.stepping.Stepped.TheVariants.{Next as NextState, NotValid as NotValidThere, NoInstruction as NoInstructionThere, Several as SeveralThere, ChildStuck as ChildStuckThere, ChildTooLong as ChildTooLongThere}

-- Its names have values of their sorts, and its point is one of the model's terms.
pub record IsRunnerOf (p : Parts) (r : Runner) : Type 0 where
  pub fits : AreOfSorts p.terms.names r.point.values
  pub point : IsPointOf p.terms r.point

-- its state
abbrev pub state_in : Parts → Runner → List meaning.Value
state_in p r = take (length p.initial_values.items) r.point.values

-- what an answer stands for, where this is the state after it
abbrev pub stepped_of : Moved → List meaning.Value → Stepped
stepped_of (Next j) q = NextState j q
stepped_of NotValid q = NotValidThere
stepped_of NoInstruction q = NoInstructionThere
stepped_of (Several j k) q = SeveralThere j k
stepped_of (ChildStuck d n) q = ChildStuckThere d n
stepped_of (ChildTooLong d) q = ChildTooLongThere d

-- Where there is no next state the state stays.
abbrev pub Stays : Moved → (before after : List meaning.Value) → Type 0
Stays (Next j) q r = ⊤
Stays NotValid q r = r ≡ q
Stays NoInstruction q r = r ≡ q
Stays (Several j k) q r = r ≡ q
Stays (ChildStuck d n) q r = r ≡ q
Stays (ChildTooLong d) q r = r ≡ q

-- the values of the names, with these from a place on
abbrev pub with_values : (from : ℕ) → List meaning.Value → List meaning.Value → List meaning.Value
with_values k [] xs = xs
with_values k (w ∷ ws) xs = with_values (suc k) ws (slice_set xs k w)
