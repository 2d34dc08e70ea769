-- All bits that are driven: the first stage.
use Rattle.std.proofs.Common.{◌≡◌, ◌∙◌, sym, subst, true, List, [], ◌∷◌}
use Rattle.std.proofs.lemmas.Bool.{true≢false, false_from_ne_true, and_parts, and_from}
use Rattle.verilog_trees.specs.Syntax.{Statement, Item}
use Rattle.verilog_meaning.specs.Expression.{Scope}
use Rattle.verilog_meaning.specs.Register.{is_bit_of, may_assign, one_may_assign}
use Rattle.verilog_unique.proofs.Descent.{IsAmong}
use Rattle.verilog_designs.specs.Reads.{BitSet}
use Rattle.verilog_designs.specs.Dependence.{Bit, is_in}
use Rattle.v_flow.specs.Spans.{existing}
use Rattle.v_drivers.specs.Premises.{AreNarrowBlocks}
use Rattle.v_paths.specs.Premises.{HasNoMemory}
use Rattle.v_depend.specs.Resting.{IsThere}
use Rattle.v_order.specs.Drivers.{drivers}
use Rattle.v_loops.specs.Turns.{AreFitToRun, IsRunnable, IsStage, AreOf}
use Rattle.v_loops.proofs.Listed.{fit-driver, fit-drivers, one-assigns, assigned-by, first-stage, stage-assigned}

-- what can be run is narrow
pub narrow-all : (s : Scope) (xs : List Statement) → AreFitToRun s xs → AreNarrowBlocks s xs
narrow-all s [] h = tt
narrow-all s (x ∷ xs) h = (h.0.narrow, narrow-all s xs h.1)

-- what a list is that is the drivers
module _ (s : Scope) (items : List Item) (runnable : IsRunnable s items) (xs : List Statement) (same : xs ≡ drivers items) where
  pub fit-of : AreFitToRun s xs
  fit-of = subst (AreFitToRun s) (sym same) (fit-drivers s items runnable)

  pub narrow-of : AreNarrowBlocks s xs
  narrow-of = narrow-all s xs fit-of

  pub are-of : AreOf s items xs
  are-of = record { same = sym same; runnable = runnable }

module _ (s : Scope) (items : List Item) (runnable : IsRunnable s items) (d : BitSet) (is_d : d ≡ existing s (one_may_assign s (drivers items))) where
  -- a driver that may assign a bit that there is
  pub record IsDrivenBy (u : Bit) : Type 0 where
    pub there : IsThere s u
    pub driver : Statement
    pub stands : IsAmong (drivers items) driver
    pub assigns : may_assign s driver u.of_name u.word u.place ≡ true

  pub in-driven : (u : Bit) → is_in d u ≡ true → IsDrivenBy u
  in-driven u h =
      let both = and_parts (is_bit_of (s u.of_name) u.word u.place) (one_may_assign s (drivers items) u.of_name u.word u.place) (subst (λ (q : BitSet). is_in q u ≡ true) is_d h) in
      let o = one-assigns s (drivers items) u.of_name u.word u.place both.1 in
      record { there = both.0; driver = o.0; stands = o.1; assigns = o.2 }

  pub driven-in : (x : Statement) (u : Bit) → IsAmong (drivers items) x → IsThere s u → may_assign s x u.of_name u.word u.place ≡ true → is_in d u ≡ true
  driven-in x u h there m =
      subst (λ (q : BitSet). is_in q u ≡ true) (sym is_d)
      (and_from (is_bit_of (s u.of_name) u.word u.place) (one_may_assign s (drivers items) u.of_name u.word u.place) there
      (assigned-by s (drivers items) x u.of_name u.word u.place h m))

  pub driven-free : HasNoMemory s d
  driven-free n k b m = false_from_ne_true (d n k b) (λ h. at (in-driven (record { of_name = n; word = k; place = b }) h))
    where
      at : IsDrivenBy (record { of_name = n; word = k; place = b }) → ⊥
      at h =
          true≢false
          (sym (and_from (is_bit_of (s n) k b) (may_assign s h.driver n k b) h.there h.assigns)
          ∙ (fit-driver s items h.driver runnable h.stands).plain n k b m)

  pub driven-stage : IsStage s items 0 d
  driven-stage u = ((λ h. let i = in-driven u h in first-stage s items i.driver u i.stands i.there i.assigns), (λ h. let g = stage-assigned s items u h in driven-in g.0 u g.1 g.2 g.3))
