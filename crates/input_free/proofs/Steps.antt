-- Where two valuations that settled for the same registers differ at a bit that comes from no input, they differ at such a bit on which it depends.
use Rattle.std.proofs.Common.{◌≡◌, ℕ, List, [], ◌∷◌, inl, inr, refl, sym, ◌∙◌, subst, Some}
use Rattle.std.specs.Prelude.{IsTrue}
use Rattle.std.specs.List.{Contains}
use Rattle.wb_values.specs.Value.{Name, Valuation}
use Rattle.verilog_trees.specs.Syntax.{Expression, Target, Statement, Direction, output}
use Rattle.verilog_meaning.specs.Expression.{Scope}
use Rattle.verilog_meaning.specs.Register.{combinational_blocks, value_bit, may_reach, may_assign, one_may_assign}
use Rattle.verilog_meaning.specs.Hierarchy.{instance_step, Placed, placed_scope}
use Rattle.verilog_meaning.specs.Settled.{Design, at_path, IsPlacedIn, inside, IsDeclared, HasPort, assignments, whole_of, whole_name, port_connections, one_may_reach, IsDriven, by_clock, by_block, by_assignment, by_top_input, by_input, by_output, IsSettled}
use Rattle.verilog_designs.specs.Names.{names_in, names_in_statement, all_item_mentions}
use Rattle.verilog_designs.specs.Dependence.{Bit, PlacedBit, bit_of, Depends, DependsFar}
use Rattle.verilog_designs.specs.Accepted.{HasUndeclared}
use Rattle.verilog_unique.specs.Agreement.{Agree, IsBitDeclared, AreLocal}
use Rattle.verilog_unique.proofs.Options.{either_true}
use Rattle.verilog_unique.proofs.Descent.{IsAmong, contains_among, among_contains}
use Rattle.verilog_unique.proofs.Paths.{placed_in}
use Rattle.verilog_unique.proofs.Standing.{mentioned_known}
use Rattle.verilog_unique.proofs.Reading.{Covers, given_net, after_block}
use Rattle.verilog_unique.proofs.Mentioned.{AreUsed, in_module, assignment_used, block_used, connection_used}
use Rattle.verilog_unique.proofs.Parameters.{net_is_declared}
use Rattle.verilog_unique.proofs.Ports.{port_is_declared}
use Rattle.verilog_unique.proofs.Steps.{stable}
use Rattle.map_rules.specs.Inputs.{ComesFromInput, itself, through}

-- ---- one of a list

one_assigns : (s : Scope) (xs : List Statement) (n : Name) (k b : ℕ) → IsTrue (one_may_assign s xs n k b)
    → (x : Statement) × IsAmong xs x × IsTrue (may_assign s x n k b)
one_assigns s [] n k b t = cc
one_assigns s (x ∷ xs) n k b t =
    elim (either_true (may_assign s x n k b) (one_may_assign s xs n k b) t) as (λ _. (y : Statement) × IsAmong (x ∷ xs) y × IsTrue (may_assign s y n k b))
    [ inl h ↦ (x, inl refl, h) | inr h ↦ let f = one_assigns s xs n k b h in (f.0, inr f.1, f.2) ]

one_reaches : (s : Scope) (ts : List (Target × Expression)) (n : Name) (k b : ℕ) → IsTrue (one_may_reach s ts n k b)
    → (a : Target × Expression) × IsAmong ts a × IsTrue (may_reach s a.0 n k b)
one_reaches s [] n k b t = cc
one_reaches s (a ∷ ts) n k b t =
    elim (either_true (may_reach s a.0 n k b) (one_may_reach s ts n k b) t)
    as (λ _. (c : Target × Expression) × IsAmong (a ∷ ts) c × IsTrue (may_reach s c.0 n k b))
    [ inl h ↦ (a, inl refl, h) | inr h ↦ let f = one_reaches s ts n k b h in (f.0, inr f.1, f.2) ]

-- ---- bits that are read are bits of declared names

nets_declared : (d : Design) → ¬ HasUndeclared d → (p : Placed) (ns : List Name) → IsPlacedIn d p → AreUsed (all_item_mentions p.of_module.items) ns
    → Covers (placed_scope p) (IsBitDeclared p) ns
nets_declared d good p ns at f y h =
    record {
      is_declared = net_is_declared d p.path p at y.of_name (mentioned_known d good p.path p at y.of_name (in_module p.of_module ns f y.of_name h.is_named)) h.is_net;
      is_bit = h.is_bit;
    }

-- the one name of a port's whole value
port_bits : (p : Placed) (n : Name) (way : Direction) → HasPort p.of_module n way → Covers (placed_scope p) (IsBitDeclared p) (n ∷ [])
port_bits p n way h y net = record { is_declared = named y.of_name net.is_named; is_bit = net.is_bit }
  where
    named : (m : Name) → IsAmong (n ∷ []) m → IsDeclared p m
    named m (inl e) = subst (IsDeclared p) e (port_is_declared p n way h)
    named m (inr f) = absurd f

-- ---- the step

-- a bit of a declared name at which the two differ, and which comes from no input
pub record Differs (d : Design) (v w : Valuation) (u : PlacedBit) : Type 0 where
  pub place : Placed
  pub bit : Bit
  pub is_placed : IsPlacedIn d place
  pub is_at : bit_of place bit ≡ u
  pub is_declared : IsBitDeclared place bit
  pub differ : ¬ Agree v w place bit
  pub inside_alone : ¬ ComesFromInput d u

-- what depends on a bit that comes from an input comes from one
comes_through : (d : Design) (u y : PlacedBit) → Depends d u y → ComesFromInput d y → ComesFromInput d u
comes_through d u y h (itself i) = ComesFromInput.through y (DependsFar.step u y h) i
comes_through d u y h (through z f i) = ComesFromInput.through z (DependsFar.further u y z h f) i

module _ (d : Design) (registers inputs others v w : Valuation) (good : ¬ HasUndeclared d) (v_settled : IsSettled d registers inputs v)
    (w_settled : IsSettled d registers others w) (local : AreLocal d v w) where
  -- where no bit on which it depends differs, each of them agrees
  depended : (p : Placed) (u : Bit) → ¬ ComesFromInput d (bit_of p u) → ((y : PlacedBit) → Depends d (bit_of p u) y → ¬ Differs d v w y) → (q : Placed) (y : Bit) → IsPlacedIn d q
      → IsBitDeclared q y → Depends d (bit_of p u) (bit_of q y) → Agree v w q y
  depended p u alone k q y at declared depends =
      stable (value_bit (inside v q y.of_name) y.word y.place) (value_bit (inside w q y.of_name) y.word y.place)
      (λ n. k (bit_of q y) depends (record { place = q; bit = y; is_placed = at; is_at = refl; is_declared = declared; differ = n; inside_alone = λ c. alone (comes_through d (bit_of p u) (bit_of q y) depends c) }))

  driven_agrees : (p : Placed) (u : Bit) → IsPlacedIn d p → IsBitDeclared p u → ¬ ComesFromInput d (bit_of p u) → ((y : PlacedBit) → Depends d (bit_of p u) y → ¬ Differs d v w y)
      → IsDriven d p u.of_name u.word u.place → Agree v w p u
  driven_agrees p u at declared alone k (by_clock counted) =
      (v_settled.modules p at).held u.of_name u.word u.place declared.is_declared counted
      ∙ sym ((w_settled.modules p at).held u.of_name u.word u.place declared.is_declared counted)
  driven_agrees p u at declared alone k (by_block assigns) =
      let f = one_assigns (placed_scope p) (combinational_blocks p.of_module.items) u.of_name u.word u.place assigns in
      let stands : Contains (combinational_blocks p.of_module.items) f.0 = contains_among (combinational_blocks p.of_module.items) f.0 f.1 in
      local.block p f.0 u at stands declared f.2
      (λ y after. depended p u alone k p y at
      (after_block (placed_scope p) (IsBitDeclared p) f.0 u y
      (nets_declared d good p (names_in_statement f.0) at (block_used p.of_module.items f.0 f.1)) declared after)
      (Depends.by_block p f.0 u y at stands declared.is_bit f.2 after))
  driven_agrees p u at declared alone k (by_assignment reaches) =
      let f = one_reaches (placed_scope p) (assignments p.of_module.items) u.of_name u.word u.place reaches in
      let stands : Contains (assignments p.of_module.items) f.0 = contains_among (assignments p.of_module.items) f.0 f.1 in
      local.assignment p f.0 u at stands declared f.2
      (λ y given. depended p u alone k p y at
      (nets_declared d good p (names_in f.0.1) at (assignment_used p.of_module.items f.0 f.1) y
      (given_net (placed_scope p) (placed_scope p) f.0.0 f.0.1 u y given))
      (Depends.by_assignment p f.0 u y at stands declared.is_bit given))
  driven_agrees p u at declared alone k (by_top_input top is_input no_clock) =
      let here : at_path d [] ≡ Some p = subst (λ path. at_path d path ≡ Some p) top at in
      absurd (alone (itself (record { top = p; is_top = here; at_top = top; is_port = is_input })))
  driven_agrees p u at declared alone k (by_input around c stands contains connected) =
      local.input_port around p c u stands contains connected declared
      (λ y given. depended p u alone k around y stands
      (nets_declared d good around (names_in c.expression) stands
      (connection_used around.of_module.items c (among_contains (port_connections around.of_module.items) c contains)) y
      (given_net (placed_scope p) (placed_scope around) (whole_of u.of_name) c.expression u y given))
      (Depends.by_input around p c u.of_name u y stands contains connected declared.is_bit given))
  driven_agrees p u at declared alone k (by_output c below m t contains connected is_target reaches) =
      local.output_port p below c m t u at contains connected is_target declared reaches
      (λ y given. depended p u alone k below y (placed_in d (instance_step c.of_instance ∷ p.path) below connected.is_below)
      (port_bits below m output connected.is_port y (given_net (placed_scope p) (placed_scope below) t (whole_name m) u y given))
      (Depends.by_output p below c m t u y at contains connected is_target declared.is_bit given))

  pub agrees_or_differs : (u : PlacedBit) → Differs d v w u → ¬ ((y : PlacedBit) → Depends d u y → ¬ Differs d v w y)
  agrees_or_differs u h k = h.differ (agrees (subst (λ x. ¬ ComesFromInput d x) (sym h.is_at) h.inside_alone) (subst (λ x. (y : PlacedBit) → Depends d x y → ¬ Differs d v w y) (sym h.is_at) k))
    where
      agrees : ¬ ComesFromInput d (bit_of h.place h.bit) → ((y : PlacedBit) → Depends d (bit_of h.place h.bit) y → ¬ Differs d v w y) → Agree v w h.place h.bit
      agrees alone f =
          let undriven : ¬ IsDriven d h.place h.bit.of_name h.bit.word h.bit.place =
          λ driven. h.differ (driven_agrees h.place h.bit h.is_placed h.is_declared alone f driven) in
          (v_settled.modules h.place h.is_placed).undriven h.bit.of_name h.bit.word h.bit.place h.is_declared.is_declared h.is_declared.is_bit undriven
          ∙ sym ((w_settled.modules h.place h.is_placed).undriven h.bit.of_name h.bit.word h.bit.place h.is_declared.is_declared h.is_declared.is_bit undriven)
