-- A design over a store that has grown.
use Rattle.std.proofs.Common.{◌≡◌, ◌∙◌, ℕ, ◌<◌, true, refl, ap, sym, subst, map, List, [], ◌∷◌, length, Some, arith}
use Rattle.std.specs.Prelude.{IsTrue, nat_lt}
use Rattle.std.proofs.lemmas.Bool.{and_parts, false≢true}
use Rattle.std.proofs.lemmas.Bool.Decides.{nat_tests}
use Rattle.wb_values.specs.Value.{Name, Sort, Entries, valuation_of, Valuation}
use Rattle.model_meaning.specs.Term.{Term, val, sort_of}
use Rattle.verilog_meaning.specs.Register.{value_bit}
use Rattle.verilog_meaning.specs.Hierarchy.{Placed}
use Rattle.verilog_meaning.specs.Settled.{Design, inside}
use Rattle.wb_terms.specs.Graph.{Graph, tree}
use Rattle.wb_terms.specs.Environment.{values_by_name}
use Rattle.v_operators.specs.Meaning.{Grows}
use Rattle.v_operators.proofs.Growing.{tree_kept}
use Rattle.v_design.specs.Parts.{Parts, registers_of, inputs_of, has_sort, is_term_of, are_terms_of, at_cycle, value_in}
use Rattle.v_design.specs.Design.{IsDesignOf, values_under, after_cycle}
use Rattle.path_terms.specs.Cycles.{HasItsTerms, over}
use Rattle.path_terms.specs.Laws.{DesignsStay}

less : (i n : ℕ) → nat_lt i n ≡ true → i < n
less i n h = grind (arith, nat_tests, h)

-- what something settles to stands in the store
pub is_below : (e : Parts) (n : Name) (id : ℕ) → HasItsTerms e → e.settled n ≡ Some id → id < length e.graph.nodes
is_below e n id h k = less id (length e.graph.nodes) (subst (λ o. IsTrue (Rattle.v_design.specs.Parts.is_within e.graph o)) k (h.settled n))

module _ (e : Parts) (g : Graph) (grows : Grows e.graph g) where
  value_kept : (id : ℕ) (p : Valuation) → id < length e.graph.nodes → val (tree g id) p ≡ val (tree e.graph id) p
  value_kept id p l = ap (λ (t : Term). val t p) (tree_kept id grows l)

  -- terms of registers are worth the same
  all_kept : (p : Valuation) (ns : Entries Sort) (ids : List ℕ) → IsTrue (are_terms_of e.graph ns ids)
      → map (λ id. val (tree g id) p) ids ≡ map (λ id. val (tree e.graph id) p) ids
  all_kept p [] [] h = refl
  all_kept p [] (id ∷ ids) h = absurd (false≢true h)
  all_kept p (n ∷ ns) [] h = refl
  all_kept p (n ∷ ns) (id ∷ ids) h =
      let parts = and_parts (is_term_of e.graph n.1 id) (are_terms_of e.graph ns ids) h in
      let l = less id (length e.graph.nodes) (and_parts (nat_lt id (length e.graph.nodes)) (has_sort n.1 (sort_of (tree e.graph id))) parts.0).0 in
      λ i. value_kept id p l i ∷ all_kept p ns ids parts.1 i

-- the store with the names of the first
abbrev renamed : Graph → Graph → Graph
renamed g h = record { names = g.names; nodes = h.nodes }

as_renamed : (g h : Graph) → Grows g h → h ≡ renamed g h
as_renamed g h k = ap (λ (ns : Entries Sort). record { names = ns; nodes = h.nodes }) k.names

stays : (d : Design) (e : Parts) (h : Graph) → IsDesignOf d e → HasItsTerms e → Grows e.graph (renamed e.graph h) → IsDesignOf d (over e (renamed e.graph h))
stays d e h x own grows =
    record {
      distinct = x.distinct;
      registers_are = x.registers_are;
      all_registers = x.all_registers;
      in_order = x.in_order;
      bits_are = x.bits_are;
      inputs_are = x.inputs_are;
      all_inputs = x.all_inputs;
      outputs_are = x.outputs_are;
      terms_are = λ n id k.
          let r = x.terms_are n id k in
          (r.0, r.1, r.2, r.3, record { sort = r.4.sort; of_object = r.4.of_object; of_sort = ap sort_of (tree_kept id grows (is_below e n id own k)) ∙ r.4.of_sort });
      settles = λ registers inputs v p n fit ins settled net.
          let r = x.settles registers inputs v p n fit ins settled net in
          record {
            id = r.id;
            is_term = r.is_term;
            is_worth = value_kept e (renamed e.graph h) grows r.id (at registers inputs) (is_below e (Rattle.verilog_meaning.specs.Hierarchy.dotted p.path n) r.id own r.is_term) ∙ r.is_worth;
          };
      steps = λ registers inputs v next p n k b fit ins settled is_next placed declared counted.
          ap (λ w. value_bit (inside w p n) k b) (after registers inputs) ∙ x.steps registers inputs v next p n k b fit ins settled is_next placed declared counted;
      rests = λ registers inputs v p n k b are ins settled register free.
          ap (λ w. value_bit (inside w p n) k b) (after registers inputs) ∙ x.rests registers inputs v p n k b are ins settled register free;
    }
  where
    at : (registers inputs : Valuation) → Valuation
    at registers inputs = at_cycle e (values_under (registers_of e) registers) (values_under (inputs_of e) inputs)

    after : (registers inputs : Valuation) → after_cycle (over e (renamed e.graph h)) registers inputs ≡ after_cycle e registers inputs
    after registers inputs =
        ap (λ xs. valuation_of (values_by_name (registers_of e) xs)) (all_kept e (renamed e.graph h) grows (at registers inputs) (registers_of e) e.next own.next)

pub designs_stay : DesignsStay
designs_stay d e g x own grows =
    let same : g ≡ renamed e.graph g = as_renamed e.graph g grows in
    subst (λ y. IsDesignOf d (over e y)) (sym same) (stays d e g x own (subst (Grows e.graph) same grows))
