use Rattle.std.proofs.Common.{◌∙◌, ap, sym}
use Rattle.verilog_trees.specs.Syntax.{name}
use Rattle.v_syntax.specs.Tree.{select_of, selects_of}
use Rattle.v_value.specs.Scope.{scope_at}
use Rattle.v_masks.specs.Masks.{masked}
use Rattle.v_masks.proofs.Bits.{set-none}
use Rattle.v_depend.specs.Copying.{copies_at}
use Rattle.v_depend.proofs.Copied.{two-found}
use Rattle.v_depend.proofs.copy.name_copied.Goals as goal

pub returns-in-Two : goal.returns-in-Two
returns-in-Two c = λ j l.
    set-none j
    ∙ two-found (masked c.args.unsettled.now) (scope_at c.args.scope.now) c.args.name.now (select_of c.in-Two.field-0) (select_of c.in-Two.field-1) j (c.requires.variables c.args.name.now)
    ∙ sym (ap (λ x. copies_at (masked c.args.unsettled.now) (scope_at c.args.scope.now) (name c.args.name.now (selects_of x)) j) c.in-Two.is)
