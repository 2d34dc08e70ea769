-- Assignments to names with constant selects: what they assign rests on what they read alone.
use Rattle.std.proofs.Common.{◌≡◌, ◌∙◌, ap, sym, subst, Bool, true, false, not, List}
use Rattle.std.specs.Prelude.{ℕ, ◌↔◌, IsTrue}
use Rattle.std.specs.declared.vec.Vec.{Vec}
use Rattle.std.specs.declared.alloc.Global.{Global}
use Rattle.std.specs.Borrow.{Bor}
use Rattle.std.proofs.lemmas.Bool.{false≢true, or_left}
use Rattle.verilog_trees.specs.Syntax as pure
use Rattle.verilog_trees.specs.Syntax.{place, joined, blocking}
use Rattle.verilog_meaning.specs.Expression.{Scope}
use Rattle.verilog_settled.specs.Locality.{has_constant_selects}
use Rattle.verilog_designs.specs.Reads.{BitSet, reads, target_reads}
use Rattle.verilog_designs.specs.Drivers.{statement_reads}
use Rattle.verilog_designs.specs.Dependence.{is_in}
use Rattle.v_syntax.specs.declared.tree.Target.{Target, Place, Joined}
use Rattle.v_syntax.specs.declared.tree.Selects.{Selects}
use Rattle.v_syntax.specs.Tree.{target_of, selects_of}
use Rattle.v_statement.proofs.Targets.{target_of-Joined}
use Rattle.v_flow.specs.Flow.{selects_constant_at}
use Rattle.v_flow.specs.Narrow.{IsNarrowFlow}
use Rattle.v_depend.specs.Resting.{OneIsUnsettled}
use Rattle.v_order.specs.Drivers.{Driving, by_link, by_block, statement_by}
use Rattle.v_loops.specs.Turns.{is_constant_place, is_constant_link, RestsNowhere}
use Rattle.v_loops.proofs.Steps.{RestsWhereItDepends, only-given}
use Rattle.v_loops.proofs.Local.{given-read}

-- ---- the forms of targets

module _ (s : Scope) (e : Target) where
  pub constant-Place : (m : Bor (List ℕ)) (x : Selects) → e ≡ Place m x → selects_constant_at s (selects_of x) ≡ is_constant_place s (target_of e)
  unfolding selects_constant_at
  constant-Place m x i = sym (ap (λ z. is_constant_place s (target_of z)) i)

  pub constant-Joined : (v : Vec Target Global) → e ≡ Joined v → false ≡ is_constant_place s (target_of e)
  constant-Joined v i = sym (ap (is_constant_place s) (ap target_of i ∙ target_of-Joined v))

-- ---- what they assign

constant-place : (s : Scope) (t : pure.Target) → is_constant_place s t ≡ true → has_constant_selects s t ≡ true
constant-place s (place n x) h = h
constant-place s (joined ts) h = absurd (false≢true h)

settled-reads : RestsWhereItDepends → (s : Scope) (d : Driving) (p : BitSet) → IsNarrowFlow s (statement_by d) → is_constant_link s d ≡ true
    → (OneIsUnsettled p (statement_reads s (statement_by d)) → ⊥) → RestsNowhere p s (statement_by d)
settled-reads law s (by_link t e) p narrow constant none u there may r =
    let y = (law p s (blocking t e) u there).0 r in
    let gives = only-given s t e u y.0 (constant-place s t constant) may y.2 in
    none (y.0, or_left (is_in (reads s e) y.0) (is_in (target_reads s t) y.0) (given-read s t e u y.0 narrow.1 gives), y.1)
settled-reads law s (by_block x) p narrow constant none u there may r = absurd (false≢true constant)

not-both : (b : Bool) → not b ≡ true → b ≡ true → ⊥
not-both true h g = false≢true h
not-both false h g = false≢true g

-- over what the calls answer
pub told-nowhere : RestsWhereItDepends → (s : Scope) (d : Driving) (p spans : BitSet) (link met : Bool) → IsNarrowFlow s (statement_by d)
    → link ≡ is_constant_link s d → link ≡ true → spans ≡ statement_reads s (statement_by d) → IsTrue met ↔ OneIsUnsettled p spans
    → IsTrue (not met) → RestsNowhere p s (statement_by d)
told-nowhere law s d p spans link met narrow e k reads_are f h =
    settled-reads law s d p narrow (sym e ∙ k) (λ r. not-both met h (f.1 (subst (λ (q : BitSet). OneIsUnsettled p q) (sym reads_are) r)))
