-- The reset's signal is a net of one bit.
use Rattle.std.proofs.Common.{◌≡◌, ◌∙◌, ℕ, ◌^◌, ◌<◌, false, not, refl, ap, sym, subst, [], Option, Some, None, arith}
use Rattle.std.specs.Prelude.{IsTrue, IsSome, ◌==◌}
use Rattle.std.proofs.lemmas.Bool.{false≢true, true≢false}
use Rattle.std.proofs.lemmas.Bool.Decides.{nat_tests}
use Rattle.wb_values.specs.Value.{Name, same_name, Sort, truth, word, memory, Value, truth_value, number, words, as_number, Valuation, entry_of}
use Rattle.model_meaning.specs.Term.{val}
use Rattle.verilog_trees.specs.Syntax.{Direction, input, output}
use Rattle.verilog_meaning.specs.Expression.{Object, object_width, is_memory}
use Rattle.verilog_meaning.specs.Hierarchy.{Placed, placed_scope, dotted}
use Rattle.verilog_meaning.specs.Settled.{Design, at_path, IsPlacedIn, IsDeclared, HasPort, IsValueOf, port_directions, port_order, inside}
use Rattle.verilog_designs.specs.Names.{is_among}
use Rattle.verilog_designs.specs.Ports.{is_input}
use Rattle.verilog_designs.specs.Accepted.{IsAccepted, is_input_port}
use Rattle.verilog_unique.proofs.Options.{both_true}
use Rattle.verilog_unique.proofs.Paths.{stands_at, placed_in}
use Rattle.verilog_unique.proofs.Ports.{port_is_declared}
use Rattle.verilog_exists.specs.Exists.{IsOfText}
use Rattle.verilog_exists.proofs.Drivers.{is_sound}
use Rattle.verilog_exists.proofs.Givers.{IsSound}
use Rattle.verilog_exists.proofs.Valued.{ranges_have_values}
use Rattle.map_rules.specs.Expressions.{design_scope, is_one_bit_input, is_reset}
use Rattle.wb_terms.specs.Graph.{tree}
use Rattle.v_operators.specs.Meaning.{IsOfSort, HasNumber}
use Rattle.v_design.specs.Parts.{Parts}
use Rattle.v_design.specs.Design as design
use Rattle.v_design.specs.Design.{IsDesignOf, IsNet, worth}
use Rattle.path_terms.specs.Cycles.{HasItsTerms, IsCycle, environment}
use Rattle.path_terms.proofs.Named.{meaning}
use Rattle.path_terms.proofs.Cycles.{fit, SomeCycle, some_cycle}
use Rattle.path_terms.proofs.Grown.{is_below}

-- an input of the top, of one bit
record IsOneBitInput (d : Design) (n : Name) : Type 0 where
  place : Placed
  is_top : at_path d [] ≡ Some place
  is_port : HasPort place.of_module n input
  width : object_width (placed_scope place n) ≡ 1

way : (x : Option Direction) → IsTrue (is_input x) → x ≡ Some input
way None t = absurd (false≢true t)
way (Some input) t = refl
way (Some output) t = absurd (false≢true t)

equal : (m n : ℕ) → IsTrue (m == n) → m ≡ n
equal m n h = grind (arith, nat_tests, h)

one_bit_input : (d : Design) (n : Name) → IsTrue (is_reset d n) → IsOneBitInput d n
one_bit_input d n h = by (at_path d []) refl (both_true (is_one_bit_input (at_path d []) n) (not (same_name n d.clock)) h).0
  where
    by : (o : Option Placed) → at_path d [] ≡ o → IsTrue (is_one_bit_input o n) → IsOneBitInput d n
    by None e t = absurd (false≢true t)
    by (Some p) e t =
        let r = both_true (is_input_port p.of_module n) (object_width (placed_scope p n) == 1) t in
        record {
          place = p;
          is_top = e;
          is_port = way (entry_of (port_directions p.of_module) n) (both_true (is_among (port_order p.of_module) n) (is_input (entry_of (port_directions p.of_module) n)) r.0).1;
          width = equal (object_width (placed_scope p n)) 1 r.1;
        }

one_bit_sort : (o : Object) (t : Sort) → is_memory o ≡ false → object_width o ≡ 1 → design.IsSortOf o t → t ≡ word 1
one_bit_sort o truth plain one h = absurd h
one_bit_sort o (word w) plain one h = ap word (h.1 ∙ one)
one_bit_sort o (memory a w) plain one h = absurd (true≢false (sym h.0 ∙ plain))

-- a number of one bit
one_bit_number : (o : Object) (x : Value) → is_memory o ≡ false → object_width o ≡ 1 → IsValueOf o x → (x ≡ number (as_number x)) × (as_number x < 2 ^ 1)
one_bit_number o (number x) plain one h = (refl, subst (λ w. x < 2 ^ w) one h.1)
one_bit_number o (words xs) plain one h = absurd (true≢false (sym h.0 ∙ plain))
one_bit_number o (truth_value b) plain one h = absurd h

module _ (d : Design) (e : Parts) (x : IsDesignOf d e) (own : HasItsTerms e) (accepted : IsAccepted d) (text : IsOfText d) (n : Name) (reset : IsTrue (is_reset d n)) where
  abbrev found : IsOneBitInput d n
  found = one_bit_input d n reset

  sound : IsSound d
  sound = is_sound d (λ kind other. accepted kind) (ranges_have_values d accepted text.shapely)

  at : IsPlacedIn d (one_bit_input d n reset).place
  at = placed_in d [] (one_bit_input d n reset).place (one_bit_input d n reset).is_top

  plain : is_memory (placed_scope (one_bit_input d n reset).place n) ≡ false
  plain = (sound.input_alone (one_bit_input d n reset).place n 0 0 at (one_bit_input d n reset).is_port).1

  is_declared : IsDeclared (one_bit_input d n reset).place n
  is_declared = port_is_declared (one_bit_input d n reset).place n input (one_bit_input d n reset).is_port

  net : IsNet d (one_bit_input d n reset).place n
  net = record { is_placed = at; is_declared = is_declared; no_memory = plain }

  written : dotted (one_bit_input d n reset).place.path n ≡ n
  written = ap (λ path. dotted path n) (stands_at d [] (one_bit_input d n reset).place (one_bit_input d n reset).is_top)

  -- it has a term
  pub signal_known : IsSome (e.settled n)
  signal_known =
      let c : SomeCycle d = some_cycle d accepted text in
      let q = x.settles c.registers c.inputs c.v (one_bit_input d n reset).place n (fit d e c.registers x c.is_cycle.are_registers) c.is_cycle.are_inputs c.is_cycle.is_settled net in
      subst IsSome (sym q.is_term ∙ ap e.settled written) refl

  -- of one bit
  pub signal_sort : (id : ℕ) → e.settled n ≡ Some id → IsOfSort e.graph id (word 1)
  signal_sort id h =
      let r = x.terms_are n id h in
      let same : placed_scope r.0 r.1 ≡ placed_scope (one_bit_input d n reset).place n =
      sym (meaning d r.0 r.1 text.no_dots r.3.is_placed r.3.is_declared) ∙ ap (design_scope d) (sym r.2 ∙ sym written)
      ∙ meaning d (one_bit_input d n reset).place n text.no_dots at is_declared in
      record {
        below = is_below e n id own h;
        sort = r.4.of_sort
            ∙ ap Some (one_bit_sort (placed_scope r.0 r.1) r.4.sort (ap is_memory same ∙ plain) (ap object_width same ∙ (one_bit_input d n reset).width) r.4.of_object);
      }

  -- which is worth what has settled
  pub signal_number : (registers inputs v : Valuation) (id : ℕ) → IsCycle d registers inputs v → e.settled n ≡ Some id
      → HasNumber e.graph id 1 (environment e registers inputs) (as_number (v n))
  signal_number registers inputs v id c h =
      let q = x.settles registers inputs v (one_bit_input d n reset).place n (fit d e registers x c.are_registers) c.are_inputs c.is_settled net in
      let same : q.id ≡ id = some_same (sym q.is_term ∙ ap e.settled written ∙ h) in
      let value = one_bit_number (placed_scope (one_bit_input d n reset).place n) (inside v (one_bit_input d n reset).place n) plain (one_bit_input d n reset).width
      ((c.is_settled.modules (one_bit_input d n reset).place at).fits n is_declared) in
      let here : inside v (one_bit_input d n reset).place n ≡ v n = ap v written in
      record {
        value = ap (λ i. val (tree e.graph i) (environment e registers inputs)) (sym same) ∙ q.is_worth ∙ value.0 ∙ ap (λ (y : Value). number (as_number y)) here;
        fits = subst (λ (y : Value). as_number y < 2 ^ 1) here value.1;
      }
    where
      some_same : {y z : ℕ} → Some y ≡ Some z → y ≡ z
      some_same k = cc
