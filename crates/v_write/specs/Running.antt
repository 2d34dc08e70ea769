-- When images stand for what a statement leaves: those of the names for the valuation after it, and those of the registers for
-- their values after its updates.
use Rattle.std.specs.Prelude.{◌≡◌, ℕ, Bool, cond, Option}
use Rattle.wb_values.specs.Value.{truth, word, Valuation}
use Rattle.verilog_trees.specs.Syntax.{Expression}
use Rattle.verilog_meaning.specs.Expression.{Scope, is_true, assigned_value}
use Rattle.verilog_meaning.specs.Statement.{Effect, with_updates}
use Rattle.wb_terms.specs.Graph.{Graph}
use Rattle.wb_terms.specs.declared.nodes.TermId.{TermId}
use Rattle.v_operators.specs.Meaning.{Grows, IsOfSort, HasNumber, HasTruth}
use Rattle.v_lower.specs.Lowered.{Images, HasImages, StandsFor}
use Rattle.v_write.specs.Guard.{IsGuard, Guards}
use Rattle.v_write.specs.Written.{AreOfNames}

-- a and n are the images of names and of next values before, and b and m those after. Where the environment stands for a valuation
-- and for values of registers before, it stands after for those that the effect leaves, if the condition holds, and else for the same.
pub record Runs (s : Scope) (a n : Images) (g : Graph) (guard : Option TermId) (effect : Valuation → Effect) (b m : Images) (h : Graph) : Type 0 where
  pub known : HasImages s b h
  pub known_next : HasImages s m h
  pub names : AreOfNames a b
  pub names_next : AreOfNames n m
  pub stands : (p v u : Valuation) (c : Bool) → StandsFor s a g p v → StandsFor s n g p u → Guards g p guard c → StandsFor s b h p (cond c (effect v).valuation v)
  pub stands_next : (p v u : Valuation) (c : Bool) → StandsFor s a g p v → StandsFor s n g p u → Guards g p guard c → StandsFor s m h p (cond c (with_updates s u (effect v).updates) u)

-- The environment stands for some valuation and some values of registers, from which what is left of an effect leaves v and u, if the
-- condition holds, and which are v and u themselves, if it doesn't.
pub record IsUnderWay (s : Scope) (b m : Images) (h : Graph) (p : Valuation) (guard : Option TermId) (rest : Valuation → Effect) (v u : Valuation) : Type 0 where
  pub valuation : Valuation
  pub updated : Valuation
  pub holds : Bool
  pub stands : StandsFor s b h p valuation
  pub stands_next : StandsFor s m h p updated
  pub guards : Guards h p guard holds
  pub ends : cond holds (rest valuation).valuation valuation ≡ v
  pub ends_next : cond holds (with_updates s updated (rest valuation).updates) updated ≡ u

-- What is known of an environment: nothing, or what number of w bits a term is worth.
abbrev pub Always : Valuation → Type 0
Always p = Unit {0}

abbrev pub IsWorth : Graph → ℕ → ℕ → ℕ → Valuation → Type 0
IsWorth g id w x p = HasNumber g id w p x

-- Of an effect the rest is still to come, under a condition of its own, in each environment of which this is known.
pub record IsGoing (s : Scope) (a n : Images) (g : Graph) (IsKnown : Valuation → Type 0) (guard : Option TermId) (all : Valuation → Effect) (b m : Images) (h : Graph) (on : Option TermId) (rest : Valuation → Effect) : Type 0 where
  pub grows : Grows g h
  pub known : HasImages s b h
  pub known_next : HasImages s m h
  pub names : AreOfNames a b
  pub names_next : AreOfNames n m
  pub there : IsGuard h on
  pub goes : (p v u : Valuation) (c : Bool) → IsKnown p → StandsFor s a g p v → StandsFor s n g p u → Guards g p guard c
      → IsUnderWay s b m h p on rest (cond c (all v).valuation v) (cond c (with_updates s u (all v).updates) u)

-- The term is a truth value: whether the expression is true.
pub record IsCondition (s : Scope) (a : Images) (g : Graph) (e : Expression) (id : ℕ) : Type 0 where
  pub of_sort : IsOfSort g id truth
  pub value : (p v : Valuation) → StandsFor s a g p v → HasTruth g id p (is_true s v e)

-- The term is a word of w bits: the value that an assignment of the expression gives a target of so many.
pub record IsAssigned (s : Scope) (a : Images) (g : Graph) (e : Expression) (w id : ℕ) : Type 0 where
  pub of_sort : IsOfSort g id (word w)
  pub value : (p v : Valuation) → StandsFor s a g p v → HasNumber g id w p (assigned_value s v w e)
