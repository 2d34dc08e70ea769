-- What a call leaves of the store and of the table that it was lent, whatever it answers.
use Rattle.std.specs.Prelude.{ℕ, ◌≤◌, ◌+◌, ◌≡◌, ◌++◌, List, length, Option, None}
use Rattle.std.specs.Borrow.{Bor}
use Rattle.std.specs.BTreeMap.{BTreeMap}
use Rattle.wb_values.specs.Value.{Name}
use Rattle.wb_terms.specs.declared.nodes.TermId.{TermId}
use Rattle.wb_terms.specs.Graph.{Graph}
use Rattle.ila_model.specs.declared.parts.Child.{Child}
use Rattle.ila_build.specs.Standing.{AreIn, IsKept, IsWider}
use Rattle.ila_build.specs.Refusing.{IsBesides}

-- The store has its names and terms in front, and so many terms more at most. No name was given another meaning, other names
-- than those of the list stand as before, and what stands in the table is in the store.
pub record IsLeft (g : Graph) (t : BTreeMap (Bor (List ℕ)) TermId) (h : Graph) (u : BTreeMap (Bor (List ℕ)) TermId) (ns : List Name) (n : ℕ) : Type 0 where
  pub wider : IsWider g h
  pub kept : IsKept t u
  pub besides : IsBesides t u ns
  pub in_store : AreIn h u None
  pub added : length h.nodes ≤ length g.nodes + n

-- The children that were there stand in front.
abbrev pub HasInFront : List Child → List Child → Type 0
HasInFront cs ds = (more : List Child) × (ds ≡ cs ++ more)
