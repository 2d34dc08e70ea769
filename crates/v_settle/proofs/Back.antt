-- A design that is one module has settled where its module has.
use Rattle.std.proofs.Common.{◌≡◌, ◌≢◌, ◌∙◌, ℕ, zero, suc, refl, sym, subst, Bool, true, false, [], ◌⊎◌, inl, inr, Some}
use Rattle.std.specs.Prelude.{IsTrue, not}
use Rattle.std.proofs.lemmas.Bool.{true≢false, false_from_ne_true, and_parts, or_cases}
use Rattle.std.proofs.Math.Pow.{pow_pos}
use Rattle.wb_values.specs.Value.{Name, number as a_number, Valuation}
use Rattle.verilog_trees.specs.Syntax.{Statement, input, Module}
use Rattle.verilog_meaning.specs.Expression.{Scope, object_width, is_memory}
use Rattle.verilog_meaning.specs.Register.{may_assign, one_may_assign, combinational_blocks, clocked_blocks, value_bit, is_bit_of}
use Rattle.verilog_meaning.specs.Hierarchy.{Placed, placed_scope}
use Rattle.verilog_meaning.specs.Settled.{Design, at_path, IsDeclared, IsValueOf, HasPort, is_counted, IsDriven, assignments, one_may_reach, HasConnected, IsSettledIn}
use Rattle.verilog_meaning.specs.Next.{AreInputs}
use Rattle.verilog_unique.proofs.Descent.{IsAmong}
use Rattle.verilog_unique.proofs.Ports.{port_is_declared}
use Rattle.verilog_unique.proofs.Values.{same_values}
use Rattle.verilog_exists.proofs.Links.{of_assignment, assignment_link}
use Rattle.verilog_exists.proofs.Givers.{IsSound}
use Rattle.verilog_exists.proofs.Drivers.{is_sound}
use Rattle.verilog_exists.proofs.Valued.{ranges_known}
use Rattle.v_hier.specs.Instances.{module_has_parts, has_parts}
use Rattle.v_scopes.specs.Ports.{alone}
use Rattle.v_lower.specs.Lowered.{Images}
use Rattle.v_masks.proofs.Bits.{set-none}
use Rattle.v_order.specs.Drivers.{as_statements, drivers}
use Rattle.v_settle.specs.OneModule.{is_driven, IsSettledFrom}
use Rattle.v_settle.specs.Designs.{IsGivenTo, SettlesWithItsModule}
use Rattle.v_settle.proofs.Alone.{placed-top, unconnected, link-of}
use Rattle.v_loops.proofs.Listed.{kind-of}
use Rattle.v_settle.proofs.Listed.{driven-by}

module _ (d : Design) (m : Module) (clear : has_parts d.source ≡ false) (own : module_has_parts m ≡ false) (top : at_path d [] ≡ Some (alone m)) (sound : IsSound d) where
  abbrev s : Scope
  s = placed_scope (alone m)

  -- what drives a bit from within: then it is no register's, and no input's
  driven-alone : (n : Name) (k b : ℕ) → IsTrue (is_bit_of (s n) k b) → is_driven s m.items n k b ≡ true → (is_counted (alone m) n k b ≡ false) × ¬ HasPort m n input
  driven-alone n k b there h = at (driven-by s m.items n k b h)
    where
      of-link : (x : Statement) → may_assign s x n k b ≡ true → IsAmong (as_statements (assignments m.items)) x → (is_counted (alone m) n k b ≡ false) × ¬ HasPort m n input
      of-link x t h =
          let a = link-of (assignments m.items) x h in
          let r = sound.link_alone (alone m) (assignment_link (alone m) a.0) n k b top there (of_assignment a.0 a.1) (subst (λ (z : Statement). IsTrue (may_assign s z n k b)) (sym a.2) t) in
          (r.0, λ port. r.1 (refl, port))

      of-block : (x : Statement) → may_assign s x n k b ≡ true → IsAmong (combinational_blocks m.items) x → (is_counted (alone m) n k b ≡ false) × ¬ HasPort m n input
      of-block x t h = sound.block_alone (alone m) x n k b top there h t

      either : (x : Statement) → may_assign s x n k b ≡ true → IsAmong (as_statements (assignments m.items)) x ⊎ IsAmong (combinational_blocks m.items) x
          → (is_counted (alone m) n k b ≡ false) × ¬ HasPort m n input
      either x t (inl h) = of-link x t h
      either x t (inr h) = of-block x t h

      at : (x : Statement) × IsAmong (drivers m.items) x × (may_assign s x n k b ≡ true) → (is_counted (alone m) n k b ≡ false) × ¬ HasPort m n input
      at o = either o.0 o.2 (kind-of m.items o.0 o.1)

  module _ (registers inputs u v : Valuation) (images : Images) (fit : AreInputs d inputs) (terms : (n : Name) → IsDeclared (alone m) n → (id : ℕ) × (images n ≡ Some id))
      (from : IsGivenTo d (alone m) registers inputs v u) (settled : IsSettledFrom s m.items images u v) where
    fits : (n : Name) → IsDeclared (alone m) n → IsValueOf (s n) (v n)
    fits n declared = let t = terms n declared in settled.fits n t.0 t.1

    -- a bit of a register, or of an input, is not driven from within
    counted-free : (n : Name) (k b : ℕ) → IsTrue (is_counted (alone m) n k b) → IsTrue (is_bit_of (s n) k b) × (is_driven s m.items n k b ≡ false)
    counted-free n k b t =
        let both = and_parts (is_bit_of (s n) k b) (one_may_assign s (clocked_blocks m.items) n k b) t in
        (both.0, false_from_ne_true (is_driven s m.items n k b) (λ h. true≢false (sym t ∙ (driven-alone n k b both.0 h).0)))

    input-free : (n : Name) (k b : ℕ) → HasPort m n input → IsTrue (is_bit_of (s n) k b) → is_driven s m.items n k b ≡ false
    input-free n k b port there = false_from_ne_true (is_driven s m.items n k b) (λ h. (driven-alone n k b there h).1 port)

    held : (n : Name) (k b : ℕ) → IsDeclared (alone m) n → IsTrue (is_counted (alone m) n k b) → value_bit (v n) k b ≡ value_bit (registers n) k b
    held n k b declared t = let f = counted-free n k b t in settled.given n k b f.0 f.1 ∙ from.held n k b declared t

    undriven : (n : Name) (k b : ℕ) → IsDeclared (alone m) n → IsTrue (is_bit_of (s n) k b) → ¬ IsDriven d (alone m) n k b → value_bit (v n) k b ≡ false
    undriven n k b declared there none = settled.given n k b there free ∙ from.unset n k b declared there free uncounted outside
      where
        free : is_driven s m.items n k b ≡ false
        free = false_from_ne_true (is_driven s m.items n k b) (λ h. at (either-kind h))
          where
            either-kind : is_driven s m.items n k b ≡ true → (one_may_reach s (assignments m.items) n k b ≡ true) ⊎ (one_may_assign s (combinational_blocks m.items) n k b ≡ true)
            either-kind h = or_cases (one_may_reach s (assignments m.items) n k b) (one_may_assign s (combinational_blocks m.items) n k b) h

            at : (one_may_reach s (assignments m.items) n k b ≡ true) ⊎ (one_may_assign s (combinational_blocks m.items) n k b ≡ true) → ⊥
            at (inl t) = none (IsDriven.by_assignment t)
            at (inr t) = none (IsDriven.by_block t)

        uncounted : is_counted (alone m) n k b ≡ false
        uncounted = false_from_ne_true (is_counted (alone m) n k b) (λ t. none (IsDriven.by_clock t))

        outside : ¬ (HasPort m n input × (n ≢ d.clock))
        outside h = none (IsDriven.by_top_input refl h.0 h.1)

    within : IsSettledIn d registers v (alone m)
    within =
        record {
          fits = fits;
          held = held;
          assigned = settled.assigned;
          connections = subst (HasConnected d v (alone m)) (sym (unconnected d m clear own top)) tt;
          combinational = settled.combinational;
          undriven = undriven;
        }

    input-held : (n : Name) → HasPort m n input → n ≢ d.clock → v n ≡ inputs n
    input-held n port other =
        let declared = port_is_declared (alone m) n input port in
        same_values (s n) (v n) (inputs n) (fits n declared) (fit (alone m) n top port other)
        (λ k b there. settled.given n k b there (input-free n k b port there) ∙ from.inputs_held n k b declared port other)

    unset : (k b : ℕ) → value_bit (a_number 0) k b ≡ false
    unset zero b = set-none b
    unset (suc k) b = refl

    clock-low : v d.clock ≡ a_number 0
    clock-low =
        same_values (s d.clock) (v d.clock) (a_number 0) (fits d.clock declared) (not-so (is_memory (s d.clock)) (sound.input_alone (alone m) d.clock 0 0 top port).1, pow_pos (object_width (s d.clock)))
        (λ k b there.
        let free = input-free d.clock k b port there in
        settled.given d.clock k b there free
        ∙ from.unset d.clock k b declared there free (sound.input_alone (alone m) d.clock k b top port).0 (λ h. h.1 refl) ∙ sym (unset k b))
      where
        port : HasPort m d.clock input
        port = sound.clock_is_input (alone m) top

        declared : IsDeclared (alone m) d.clock
        declared = port_is_declared (alone m) d.clock input port

        not-so : (t : Bool) → t ≡ false → not t ≡ true
        not-so false e = refl
        not-so true e = absurd (true≢false e)

pub settles-with-its-module : SettlesWithItsModule
settles-with-its-module d m registers inputs u v images clear own top accepted shapely fit terms from settled =
    let sound : IsSound d = is_sound d accepted (ranges_known d accepted shapely) in
    record {
      modules = λ p at.
          subst (IsSettledIn d registers v) (sym (placed-top d m clear own top p p.path at))
          (within d m clear own top sound registers inputs u v images fit terms from settled);
      inputs_held = λ p n at port other.
          input-held d m clear own top sound registers inputs u v images fit terms from settled n
          (subst (λ (q : Placed). HasPort q.of_module n input) (placed-top d m clear own top p [] at) port) other;
      clock_low = clock-low d m clear own top sound registers inputs u v images fit terms from settled;
    }
