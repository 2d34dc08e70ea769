-- Settled cycles of an accepted design: there is one, and in each a memory holds what its register does.
use Rattle.std.proofs.Common.{◌≡◌, ◌∙◌, ℕ, true, false, refl, sym, ◌⊎◌, inl, inr, List, [], ◌∷◌, subst, Option, Some, None}
use Rattle.std.specs.Prelude.{IsTrue}
use Rattle.std.proofs.lemmas.Bool.{cases_Bool, false≢true, true≢false}
use Rattle.wb_values.specs.Value.{Name, Sort, Value, number, Valuation, HasSort}
use Rattle.verilog_trees.specs.Syntax.{Expression, Target, input}
use Rattle.verilog_meaning.specs.Expression.{Scope, is_memory, no_values}
use Rattle.verilog_meaning.specs.Register.{is_bit_of, value_bit, may_reach, combinational_blocks}
use Rattle.verilog_meaning.specs.Hierarchy.{Placed, placed_scope}
use Rattle.verilog_meaning.specs.Settled.{Design, at_path, inside, is_counted, IsValueOf, IsDriven, IsSettledIn, HasPort, assignments, one_may_reach, port_connections}
use Rattle.verilog_meaning.specs.Next.{AreRegisters, AreInputs}
use Rattle.verilog_designs.specs.Accepted.{IsAccepted}
use Rattle.verilog_unique.proofs.Descent.{IsAmong, among_contains, contains_among}
use Rattle.verilog_unique.proofs.Options.{either_true}
use Rattle.verilog_unique.proofs.Values.{same_values}
use Rattle.verilog_exists.specs.Exists.{IsOfText}
use Rattle.verilog_exists.proofs.Build.{built, built_fits}
use Rattle.verilog_exists.proofs.Declared.{assigned_name}
use Rattle.verilog_exists.proofs.Drivers.{one_assigns, is_sound}
use Rattle.verilog_exists.proofs.Exists.{settled_exists}
use Rattle.verilog_exists.proofs.Givers.{IsSound}
use Rattle.verilog_exists.proofs.Links.{Link, IsLink, output_link, assignment_link}
use Rattle.verilog_exists.proofs.Rounds.{reached_name}
use Rattle.verilog_exists.proofs.Runs.{next_exists}
use Rattle.verilog_exists.proofs.Valued.{ranges_have_values}
use Rattle.v_design.specs.Parts.{Parts, registers_of}
use Rattle.v_design.specs.Design.{IsDesignOf, FitRegisters}
use Rattle.path_terms.specs.Cycles.{IsCycle}
use Rattle.path_terms.specs.Laws.{MemoriesAreRegisters}
use Rattle.path_terms.proofs.Values.{of_value, all_sorted}

-- an assignment that reaches a bit is among those that may
one_reaches : (s : Scope) (xs : List (Target × Expression)) (n : Name) (k b : ℕ) → IsTrue (one_may_reach s xs n k b)
    → (a : Target × Expression) × IsAmong xs a × IsTrue (may_reach s a.0 n k b)
one_reaches s [] n k b h = absurd (false≢true h)
one_reaches s (x ∷ xs) n k b h =
    elim (either_true (may_reach s x.0 n k b) (one_may_reach s xs n k b) h) as (λ _. (a : Target × Expression) × IsAmong (x ∷ xs) a × IsTrue (may_reach s a.0 n k b))
    [ inl e ↦ (x, inl refl, e) | inr e ↦ let f = one_reaches s xs n k b e in (f.0, inr f.1, f.2) ]

pub memories_are_registers : MemoriesAreRegisters
memories_are_registers d registers inputs v p n accepted text c at declared memory =
    same_values (placed_scope p n) (inside v p n) (inside registers p n) (own.fits n declared) (c.are_registers.fits p n at declared)
    (λ k b h. by k b h (cases_Bool (is_counted p n k b)))
  where
    own : IsSettledIn d registers v p
    own = c.is_settled.modules p at

    sound : IsSound d
    sound = is_sound d (λ kind other. accepted kind) (ranges_have_values d accepted text.shapely)

    plain : is_memory (placed_scope p n) ≡ false → ⊥
    plain e = true≢false (sym memory ∙ e)

    by_link : (l : Link) (k b : ℕ) → IsLink d p l → IsTrue (may_reach (placed_scope p) l.target n k b) → ⊥
    by_link l k b is reaches = plain (sound.link_name p l n at is (reached_name (placed_scope p) l.target n k b reaches)).1

    no_port : HasPort p.of_module n input → ⊥
    no_port port = plain (sound.input_alone p n 0 0 at port).1

    no_driver : (k b : ℕ) → is_counted p n k b ≡ false → IsDriven d p n k b → ⊥
    no_driver k b free (IsDriven.by_clock t) = true≢false (sym t ∙ free)
    no_driver k b free (IsDriven.by_block t) =
        let f = one_assigns (placed_scope p) (combinational_blocks p.of_module.items) n k b t in
        plain (sound.block_name p f.0 n at f.1 (assigned_name (placed_scope p) f.0 n k b f.2)).1
    no_driver k b free (IsDriven.by_assignment t) =
        let f = one_reaches (placed_scope p) (assignments p.of_module.items) n k b t in
        by_link (assignment_link p f.0) k b (IsLink.of_assignment f.0 f.1) f.2
    no_driver k b free (IsDriven.by_top_input root port other) = no_port port
    no_driver k b free (IsDriven.by_input around c placed there to) = no_port to.is_port
    no_driver k b free (IsDriven.by_output c below m t there to is_target reaches) =
        by_link (output_link below m t) k b (IsLink.of_output c below m t (among_contains (port_connections p.of_module.items) c there) to is_target) reaches

    by : (k b : ℕ) → IsTrue (is_bit_of (placed_scope p n) k b) → (is_counted p n k b ≡ true) ⊎ (is_counted p n k b ≡ false)
        → value_bit (inside v p n) k b ≡ value_bit (inside registers p n) k b
    by k b h (inl e) = own.held n k b declared e
    by k b h (inr e) = own.undriven n k b declared h (no_driver k b e) ∙ sym (c.are_registers.rest_zero p n k b at declared e)

-- registers are values of their sorts
pub fit : (d : Design) (e : Parts) (registers : Valuation) → IsDesignOf d e → AreRegisters d registers → FitRegisters e registers
fit d e registers x are = all_sorted (registers_of e) registers (λ n t h. by n t h)
  where
    by : (n : Name) (t : Sort) → IsAmong (registers_of e) (n, t) → HasSort (registers n) t
    by n t h =
        let r = x.registers_are n t (contains_among (registers_of e) (n, t) h) in
        subst (λ m. HasSort (registers m) t) (sym r.2)
        (of_value (placed_scope r.0 r.1) t (inside registers r.0 r.1) r.4 (are.fits r.0 r.1 r.3.is_placed r.3.is_declared))

-- an accepted design has a settled cycle
pub record SomeCycle (d : Design) : Type 0 where
  pub registers : Valuation
  pub inputs : Valuation
  pub v : Valuation
  pub is_cycle : IsCycle d registers inputs v

pub some_cycle : (d : Design) → IsAccepted d → IsOfText d → SomeCycle d
some_cycle d accepted text =
    let next = next_exists d no_values accepted text.no_dots in
    let settled = settled_exists d next.0 inputs accepted text are in
    record { registers = next.0; inputs = inputs; v = settled.0; is_cycle = record { are_registers = next.1.registers; are_inputs = are; is_settled = settled.1 } }
  where
    zero_at : Option Placed → Name → Value
    zero_at None n = number 0
    zero_at (Some p) n = built (placed_scope p n) (λ k b. false)

    inputs : Valuation
    inputs n = zero_at (at_path d []) n

    are : AreInputs d inputs
    are p n top port other = subst (λ o. IsValueOf (placed_scope p n) (zero_at o n)) (sym top) (built_fits (placed_scope p n) (λ k b. false))
