-- What is asked of continuous assignments, and what is promised where one is evaluated.
use Rattle.std.specs.Prelude.{◌≡◌, ℕ, ◌≤◌, ◌/◌, ◌%◌, ◌^◌, true, false, List, [], ◌∷◌, None, IsTrue}
use Rattle.wb_values.specs.Value.{Name, word, Valuation}
use Rattle.model_meaning.specs.Term.{val}
use Rattle.verilog_trees.specs.Syntax.{Expression, Statement, Selects, whole, one, two, Target, place, joined, Targets, no_targets, target, blocking}
use Rattle.verilog_meaning.specs.Expression.{Scope, object_width, is_memory}
use Rattle.verilog_meaning.specs.Statement.{Place, target_width, written_cell, written_place, written, run}
use Rattle.verilog_settled.specs.Locality.{has_constant_selects}
use Rattle.wb_terms.specs.Graph.{Graph, tree}
use Rattle.v_operators.specs.Meaning.{IsOfSort, HasNumber}
use Rattle.v_lower.specs.Lowered.{Images, HasImages, StandsFor, has_sort}
use Rattle.v_lower.specs.Walking.{IsSound}
use Rattle.v_write.specs.Sound.{IsSoundStatement}
use Rattle.v_write.specs.Written.{AreOfNames}
use Rattle.v_order.specs.Drivers.{Driving, by_link, by_block}

-- ---- what is asked

-- a net or variable: declared, and neither a parameter nor a memory
pub record IsNet (s : Scope) (n : Name) : Type 0 where
  pub sort : has_sort (s n) ≡ true
  pub variable : (s n).constant ≡ None
  pub plain : is_memory (s n) ≡ false

abbrev pub HasOneSelect : Selects → Type 0
HasOneSelect whole = Unit {0}
HasOneSelect (one x) = Unit {0}
HasOneSelect (two x y) = ⊥

abbrev mutual
  -- Each part is a net or variable, whole or with one select.
  pub IsNetTarget : Scope → Target → Type 0
  IsNetTarget s (place n x) = IsNet s n × HasOneSelect x
  IsNetTarget s (joined ts) = AreNetTargets s ts

  pub AreNetTargets : Scope → Targets → Type 0
  AreNetTargets s no_targets = Unit {0}
  AreNetTargets s (target t ts) = IsNetTarget s t × AreNetTargets s ts

-- A continuous assignment: its target has constant selects and 1 to 128 bits, and its value breaks no rule.
pub record IsSoundLink (s : Scope) (t : Target) (e : Expression) : Type 0 where
  pub nets : IsNetTarget s t
  pub constant : IsTrue (has_constant_selects s t)
  pub some_bits : 1 ≤ target_width s t
  pub at_most_128 : target_width s t ≤ 128
  pub value : IsSound s e

abbrev pub AreSoundLinks : Scope → List (Target × Expression) → Type 0
AreSoundLinks s [] = Unit {0}
AreSoundLinks s (a ∷ links) = IsSoundLink s a.0 a.1 × AreSoundLinks s links

-- a driver of either kind
abbrev pub IsSoundDriving : Scope → Driving → Type 0
IsSoundDriving s (by_link t e) = IsSoundLink s t e
IsSoundDriving s (by_block x) = IsSoundStatement s x

abbrev pub AreSoundDrivings : Scope → List Driving → Type 0
AreSoundDrivings s [] = Unit {0}
AreSoundDrivings s (d ∷ ds) = IsSoundDriving s d × AreSoundDrivings s ds

-- ---- what is promised

-- The term of the second store is what a net is worth after a number was written to a place of it.
pub record IsNetChanged (s : Scope) (a : Images) (g : Graph) (q : Place) (number : ℕ) (h : Graph) (id : ℕ) : Type 0 where
  pub of_sort : IsOfSort h id (word (object_width (s q.of_name)))
  pub value : (p v : Valuation) (x : ℕ) → StandsFor s a g p v → HasNumber g number q.bits.count p x
      → val (tree h id) p ≡ written_cell (s q.of_name) (v q.of_name) q.cell q.bits x

-- a are the images before, and b those after a number was written to a place.
pub record IsPlaceWritten (s : Scope) (a : Images) (g : Graph) (q : Place) (number : ℕ) (b : Images) (h : Graph) : Type 0 where
  pub known : HasImages s b h
  pub names : AreOfNames a b
  pub stands : (p v : Valuation) (x : ℕ) → StandsFor s a g p v → HasNumber g number q.bits.count p x → StandsFor s b h p (written_place s v q x)

-- a are the images before, and b those after k bits of a number of w bits, from a place on, were written to places.
pub record AreBitsWritten (s : Scope) (a : Images) (g : Graph) (ps : List Place) (k number w low : ℕ) (b : Images) (h : Graph) : Type 0 where
  pub known : HasImages s b h
  pub names : AreOfNames a b
  pub stands : (p v : Valuation) (x : ℕ) → StandsFor s a g p v → HasNumber g number w p x → StandsFor s b h p (written s v ps (x / 2 ^ low % 2 ^ k))

-- a are the images before, and b those after the value of an expression was written to a target.
pub record IsLinkLowered (s : Scope) (a : Images) (g : Graph) (t : Target) (e : Expression) (b : Images) (h : Graph) : Type 0 where
  pub known : HasImages s b h
  pub names : AreOfNames a b
  pub stands : (p v : Valuation) → StandsFor s a g p v → StandsFor s b h p (run s (blocking t e) v).valuation

-- a and n are the images of names and those of a second table before a driver was evaluated, and b and m those after it. The second table
-- stands for some values before, and for some after.
pub record IsDriverLowered (s : Scope) (a n : Images) (g : Graph) (x : Statement) (b m : Images) (h : Graph) : Type 0 where
  pub known : HasImages s b h
  pub known_spare : HasImages s m h
  pub names : AreOfNames a b
  pub stands : (p v u : Valuation) → StandsFor s a g p v → StandsFor s n g p u
      → StandsFor s b h p (run s x v).valuation × (w : Valuation) × StandsFor s m h p w
