-- The values of the names after updates, and after private states have begun.
use Rattle.std.specs.Prelude.{ℕ, suc, Bool, true, ◌&&◌, nat_le, nat_lt, cond, ◌==◌, List, [], ◌∷◌, map, length, ⊤, Option, Some, None, slice_index_or, slice_set}
use Rattle.wb_values.specs.Value as meaning
use Rattle.wb_values.specs.Value.{Sort, Entries, number, Valuation, HasSort}
use Rattle.model_meaning.specs.Term.{Term, val}
use Rattle.wb_terms.specs.declared.values.Value.{Value}
use Rattle.wb_terms.specs.Graph.{Graph, tree}
use Rattle.ila_model.specs.declared.parts.Update.{Update}
use Rattle.ila_model.specs.Sorted.{is_term_of, sort_at}
use Rattle.ila_child.specs.Values.{beginning}

-- The updates are of declared names, each by a term of its sort, in ascending order from a place on.
abbrev pub are_updates_of : Graph → (from : ℕ) → List Update → Bool
are_updates_of g k [] = true
are_updates_of g k (u ∷ us) =
    nat_le k u.state.0
    && (nat_lt u.state.0 (length g.names) && (is_term_of g (sort_at g.names u.state.0) u.term.0 && are_updates_of g (suc u.state.0) us))

-- the term that updates the state at a place, if any
abbrev pub update_at : Graph → List Update → ℕ → Option Term
update_at g [] k = None
update_at g (u ∷ us) k = cond (u.state.0 == k) (Some (tree g u.term.0)) (update_at g us k)

abbrev pub value_at : List meaning.Value → ℕ → meaning.Value
value_at xs k = slice_index_or xs k (number 0)

-- each updated name has the value of its term at the point
abbrev pub with_updates : Graph → Valuation → List Update → List meaning.Value → List meaning.Value
with_updates g p [] xs = xs
with_updates g p (u ∷ us) xs = with_updates g p us (slice_set xs u.state.0 (val (tree g u.term.0) p))

-- the values of updates at the point
abbrev pub values_of_updates : Graph → Valuation → List Update → List meaning.Value
values_of_updates g p us = map (λ (u : Update). val (tree g u.term.0) p) us

-- each updated name has the value that was kept for it
abbrev pub with_kept : List Update → (kept : List meaning.Value) → List meaning.Value → List meaning.Value
with_kept [] vs xs = xs
with_kept (u ∷ us) [] xs = xs
with_kept (u ∷ us) (v ∷ vs) xs = with_kept us vs (slice_set xs u.state.0 v)

-- the names from a place on have the values with which they begin
abbrev pub with_initial : Entries Sort → (from : ℕ) → List (Option Value) → List meaning.Value → List meaning.Value
with_initial ns k [] xs = xs
with_initial ns k (i ∷ is) xs = with_initial ns (suc k) is (slice_set xs k (beginning (sort_at ns k) i))

-- The values of the updates are of the sorts of the names that they update.
abbrev pub AreUpdatesSorted : Graph → Valuation → List Update → Type 0
AreUpdatesSorted g p [] = ⊤
AreUpdatesSorted g p (u ∷ us) = HasSort (val (tree g u.term.0) p) (sort_at g.names u.state.0) × AreUpdatesSorted g p us
