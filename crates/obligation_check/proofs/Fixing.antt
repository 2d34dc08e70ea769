-- A term of the same values is false where the other is.
use Rattle.std.proofs.Common.{◌≡◌, ℕ, sym, subst}
use Rattle.std.specs.Prelude.{◌↔◌, false}
use Rattle.wb_values.specs.Value.{Value, truth_value, Valuation}
use Rattle.model_meaning.specs.Term.{val}
use Rattle.wb_terms.specs.Graph.{Graph, tree}
use Rattle.term_copies.specs.Copies.{IsExtended}
use Rattle.run_terms.specs.Names.{FitsNames, values_of_run}
use Rattle.run_terms.proofs.Values.{fits_before}
use Rattle.v_design.specs.Parts.{Parts}
use Rattle.mapped_designs.specs.Runs.{Values}
use Rattle.obligation_terms.specs.Asked.{IsFalseWhere}

pub false_where_same : {g h : Graph} (asked id : ℕ) (d : Parts) (cycles : ℕ) (IsSo : Values → Type 0) → IsExtended g h → ((v : Valuation) → FitsNames g.names v → val (tree h id) v ≡ val (tree g asked) v)
    → IsFalseWhere g asked d cycles IsSo → IsFalseWhere h id d cycles IsSo
false_where_same asked id d cycles IsSo a same w v f =
    let fit = fits_before v a f in
    subst (λ (x : Value). (x ≡ truth_value false) ↔ IsSo (values_of_run d cycles v)) (sym (same v fit)) (w v fit)
