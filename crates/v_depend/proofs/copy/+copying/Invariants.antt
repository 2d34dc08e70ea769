use Rattle.std.proofs.Common.{◌≡◌, ℕ, ◌-◌, ◌<◌, cond, drop}
use Rattle.std.specs.Prelude.{nat_lt}
use Rattle.verilog_meaning.specs.Expression.{widths_of}
use Rattle.verilog_meaning.specs.Register.{is_set}
use Rattle.v_syntax.specs.Tree.{expressions_of}
use Rattle.v_value.specs.Scope.{scope_at}
use Rattle.v_value.specs.Narrow.{AreNarrow}
use Rattle.v_masks.specs.Masks.{masked}
use Rattle.v_depend.specs.Copying.{parts_copy}
use Rattle.v_depend.proofs.copy.+copying.Given as goal

abbrev pub invariant-parts_copied-loop-part : goal.invariant-parts_copied-loop-part
invariant-parts_copied-loop-part l = record {
  bits : (j : ℕ) → j < 128 → parts_copy (masked l.unsettled) (scope_at l.scope) (expressions_of l.parts) j
      ≡ cond (nat_lt j (widths_of (scope_at l.scope) (expressions_of (drop l.part-index l.parts))))
      (parts_copy (masked l.unsettled) (scope_at l.scope) (expressions_of (drop l.part-index l.parts)) j)
      (is_set l.mask (j - widths_of (scope_at l.scope) (expressions_of (drop l.part-index l.parts))));
  narrow : AreNarrow (scope_at l.scope) (expressions_of (drop l.part-index l.parts));
}
