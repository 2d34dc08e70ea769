-- What is left at the end tells whether there is a loop.
use Rattle.std.proofs.Common.{◌≡◌, ◌∙◌, ℕ, ◌+◌, ◌*◌, ◌≤◌, sym, subst, arith, Bool, true, false, List, length}
use Rattle.std.specs.Prelude.{IsTrue, ◌↔◌}
use Rattle.std.proofs.lemmas.Bool.{false≢true, true≢false}
use Rattle.verilog_trees.specs.Syntax.{Item}
use Rattle.verilog_meaning.specs.Expression.{Scope}
use Rattle.verilog_designs.specs.Reads.{BitSet}
use Rattle.v_value.specs.Narrow.{HasNarrowObjects}
use Rattle.v_flow.specs.declared.span.Span.{Span}
use Rattle.v_flow.specs.Spans.{bits_in}
use Rattle.v_paths.specs.Premises.{HasNoMemory}
use Rattle.v_loops.specs.OneModule.{HasLoopIn}
use Rattle.v_loops.specs.Turns.{HasFirst, IsStage, HasAllLoops, IsLeft, IsLater}
use Rattle.v_loops.proofs.Stages.{goes-on, loop-first, left-loops}
use Rattle.v_loops.proofs.Covered.{all-bits, length-all, covers-all}

after-turns : (s : Scope) (items : List Item) (lasts : Bool) (k : ℕ) (p : BitSet) → lasts ≡ false → IsLater lasts s items 128 k p → IsLeft s items (128 + k) p
after-turns s items true k p e h = absurd (false≢true (sym e))
after-turns s items false k p e h = h

pub next-turns : (s : Scope) (items : List Item) (lasts : Bool) (i : ℕ) (p : BitSet) → lasts ≡ false → IsLater lasts s items 128 (i * 128) p → IsLeft s items ((i + 1) * 128) p
next-turns s items lasts i p e h =
    let same : 128 + i * 128 ≡ (i + 1) * 128 = omega arith in
    subst (λ (j : ℕ). IsLeft s items j p) same (after-turns s items lasts (i * 128) p e h)

through : (r : Bool) (P Q : Type 0) → IsTrue r ↔ P → P ↔ Q → IsTrue r ↔ Q
through r P Q f g = ((λ h. g.0 (f.0 h)), (λ h. f.1 (g.1 h)))

-- nothing is left
pub answered-none : (s : Scope) (items : List Item) (p : BitSet) (some : Bool) → HasNoMemory s p → HasAllLoops s items p → IsTrue some ↔ HasFirst p → some ≡ false
    → IsTrue false ↔ HasLoopIn s items
answered-none s items p some none all f e = ((λ h. absurd (false≢true h)), (λ h. absurd (true≢false (sym (f.1 (loop-first s items p none all h)) ∙ e))))

module _ (s : Scope) (items : List Item) (start : List Span) (objects : HasNarrowObjects s) (free : HasNoMemory s (bits_in start)) (first : IsStage s items 0 (bits_in start)) where
  enough : (n : ℕ) → length start * 128 ≤ n → length (all-bits start) ≤ n
  enough n l = let a = length-all start in omega (arith, a, l)

  pub answered-lasting : (lasts : Bool) (k : ℕ) (p : BitSet) (r : Bool) → lasts ≡ true → HasNoMemory s p → IsLater lasts s items 128 k p → IsTrue r ↔ HasFirst p
      → IsTrue r ↔ HasLoopIn s items
  answered-lasting false k p r e none h f = absurd (false≢true e)
  answered-lasting true k p r e none h f =
      let n = length start * 128 in
      through r (HasFirst p) (HasLoopIn s items) f
      (left-loops s items (all-bits start) (covers-all s items start objects free first) p none h.1.loops n (enough n (omega arith)) (goes-on s items p h.0 h.2 h.1.chains n))

  pub answered-ended : (i : ℕ) (p : BitSet) (r : Bool) → length start ≤ i → HasNoMemory s p → IsLeft s items (i * 128) p → IsTrue r ↔ HasFirst p → IsTrue r ↔ HasLoopIn s items
  answered-ended i p r l none left f =
      through r (HasFirst p) (HasLoopIn s items) f
      (left-loops s items (all-bits start) (covers-all s items start objects free first) p none left.loops (i * 128) (enough (i * 128) (omega (arith, l))) left.chains)
