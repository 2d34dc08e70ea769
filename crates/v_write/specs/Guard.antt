-- Conditions under which a term is written: a truth value, or none, which always holds.
use Rattle.std.specs.Prelude.{◌≡◌, Bool, true, Option, Some, None}
use Rattle.wb_values.specs.Value.{truth, Valuation}
use Rattle.wb_terms.specs.Graph.{Graph}
use Rattle.wb_terms.specs.declared.nodes.TermId.{TermId}
use Rattle.v_operators.specs.Meaning.{IsOfSort, HasTruth}

-- The condition is a truth value of the store.
abbrev pub IsGuard : Graph → Option TermId → Type 0
IsGuard g None = Unit {0}
IsGuard g (Some c) = IsOfSort g c.0 truth

-- Under the environment the condition is worth b.
abbrev pub Guards : Graph → Valuation → Option TermId → Bool → Type 0
Guards g p None b = b ≡ true
Guards g p (Some c) b = HasTruth g c.0 p b
