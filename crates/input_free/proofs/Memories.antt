-- No bit of a memory comes from an input.
use Rattle.std.proofs.Common.{◌≡◌, ◌∙◌, ◌∷◌, false, ap, refl, sym, subst, Some}
use Rattle.std.specs.Prelude.{IsTrue}
use Rattle.std.proofs.lemmas.Bool.{false≢true}
use Rattle.verilog_trees.specs.Syntax.{Expression, Target, input}
use Rattle.verilog_meaning.specs.Expression.{Scope, is_memory}
use Rattle.verilog_meaning.specs.Register.{combinational_blocks, may_reach}
use Rattle.verilog_meaning.specs.Hierarchy.{instance_step, Placed, placed_scope}
use Rattle.verilog_meaning.specs.Settled.{Design, at_path, IsPlacedIn, inside, whole_of, whole_name, assignments, port_connections, HasPort}
use Rattle.verilog_designs.specs.Dependence.{Bit, PlacedBit, bit_of, IsGivenBy, copied_to, computed, Depends, by_assignment, by_block, by_input, by_output, DependsFar}
use Rattle.verilog_settled.proofs.Assigned.{takes_reach}
use Rattle.verilog_unique.proofs.Descent.{among_contains}
use Rattle.verilog_unique.proofs.Paths.{placed_in}
use Rattle.verilog_unique.proofs.Values.{same_values}
use Rattle.verilog_exists.proofs.Links.{Link, IsLink, of_assignment, of_output, of_input, assignment_link, output_link, input_link}
use Rattle.verilog_exists.proofs.Givers.{IsSound}
use Rattle.verilog_exists.proofs.Rounds.{reached_name}
use Rattle.verilog_exists.proofs.Declared.{assigned_name}
use Rattle.verilog_exists.proofs.Drivers.{is_sound}
use Rattle.verilog_exists.proofs.Valued.{ranges_have_values}
use Rattle.map_rules.specs.Inputs.{ComesFromInput, itself, through}
use Rattle.input_free.specs.Free.{IsInnerMemory, MemoriesAreInputFree}
use Rattle.input_free.proofs.Free.{inputs_are_not_seen}

some_same : {A : Type 0} {x y : A} → Some x ≡ Some y → x ≡ y
some_same e = cc

given_reached : (around : Scope) (t : Target) (inner : Scope) (e : Expression) (u y : Bit) → IsGivenBy around t inner e u y → IsTrue (may_reach around t u.of_name u.word u.place)
given_reached around t inner e u y (copied_to j p l k c) = takes_reach around t u j k
given_reached around t inner e u y (computed p r h) = r

-- a bit of a name that is no memory
record IsPlainBit (d : Design) (x : PlacedBit) : Type 0 where
  place : Placed
  bit : Bit
  is_placed : IsPlacedIn d place
  is_at : bit_of place bit ≡ x
  no_memory : is_memory (placed_scope place bit.of_name) ≡ false

module _ (d : Design) (sound : IsSound d) where
  linked : (p : Placed) (l : Link) (u : Bit) → IsPlacedIn d p → IsLink d p l → IsTrue (may_reach (placed_scope p) l.target u.of_name u.word u.place) → IsPlainBit d (bit_of p u)
  linked p l u at is_link reaches =
      record {
        place = p;
        bit = u;
        is_placed = at;
        is_at = refl;
        no_memory = (sound.link_name p l u.of_name at is_link (reached_name (placed_scope p) l.target u.of_name u.word u.place reaches)).1;
      }

  near_plain : (x y : PlacedBit) → Depends d x y → IsPlainBit d x
  near_plain _ _ (by_assignment p a u y at c h g) =
      linked p (assignment_link p a) u at (of_assignment a (among_contains (assignments p.of_module.items) a c))
      (given_reached (placed_scope p) a.0 (placed_scope p) a.1 u y g)
  near_plain _ _ (by_block p x u y at c h t g) =
      record {
        place = p;
        bit = u;
        is_placed = at;
        is_at = refl;
        no_memory = (sound.block_name p x u.of_name at (among_contains (combinational_blocks p.of_module.items) x c)
            (assigned_name (placed_scope p) x u.of_name u.word u.place t)).1;
      }
  near_plain _ _ (by_input p below c n u y at k to h g) =
      linked below (input_link p c n) u (placed_in d (instance_step c.of_instance ∷ p.path) below to.is_below) (of_input p c n at (among_contains (port_connections p.of_module.items) c k) to)
      (given_reached (placed_scope below) (whole_of n) (placed_scope p) c.expression u y g)
  near_plain _ _ (by_output p below c n t u y at k to e h g) =
      linked p (output_link below n t) u at (of_output c below n t (among_contains (port_connections p.of_module.items) c k) to e)
      (given_reached (placed_scope p) t (placed_scope below) (whole_name n) u y g)

  far_plain : (x y : PlacedBit) → DependsFar d x y → IsPlainBit d x
  far_plain _ _ (DependsFar.step x y h) = near_plain x y h
  far_plain _ _ (DependsFar.further x z y h g) = near_plain x z h

  memory_inside : (p : Placed) (u : Bit) → IsInnerMemory d p u.of_name → ¬ ComesFromInput d (bit_of p u)
  memory_inside p u m (itself i) =
      let same : i.top ≡ p = some_same (sym i.is_top ∙ (ap (at_path d) (sym i.at_top) ∙ m.is_placed)) in
      m.no_input (i.at_top, subst (λ (q : Placed). HasPort q.of_module u.of_name input) same i.is_port)
  memory_inside p u m (through z f i) =
      let n = far_plain (bit_of p u) z f in
      let same : n.place ≡ p = some_same (sym n.is_placed ∙ (ap (λ (x : PlacedBit). at_path d x.path) n.is_at ∙ m.is_placed)) in
      let name : n.bit.of_name ≡ u.of_name = ap (λ (x : PlacedBit). x.bit.of_name) n.is_at in
      false≢true (sym (subst (λ k. is_memory (placed_scope p k) ≡ false) name (subst (λ (q : Placed). is_memory (placed_scope q n.bit.of_name) ≡ false) same n.no_memory)) ∙ m.is_memory)

pub memories_are_free : MemoriesAreInputFree
memories_are_free d v w p n a m =
    same_values (placed_scope p n) (inside v p n) (inside w p n) ((a.first.modules p m.is_placed).fits n m.is_declared) ((a.second.modules p m.is_placed).fits n m.is_declared)
    (λ k b t.
    let u : Bit = record { of_name = n; word = k; place = b } in
    inputs_are_not_seen d v w p u a m.is_placed (record { is_declared = m.is_declared; is_bit = t })
    (memory_inside d (is_sound d (λ kind other. a.accepted kind) (ranges_have_values d a.accepted a.of_text.shapely)) p u m))
