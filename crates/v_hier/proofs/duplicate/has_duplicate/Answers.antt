use Rattle.std.proofs.Common.{ap, ◌∙◌}
use Rattle.v_syntax.specs.Source.{module_of}
use Rattle.v_hier.specs.Entries.{entries_of}
use Rattle.v_hier.proofs.Counted.{duplicate-first, duplicate-rest}
use Rattle.v_hier.proofs.duplicate.has_duplicate.Goals as goal

pub returns-then-branch : goal.returns-then-branch
returns-then-branch c =
    duplicate-first (module_of c.args.within.now) (entries_of c.deref.result.now) _ (ap entries_of c.deref.ensures.value ∙ c.in_ok-entries.ensures) c.in_ok-has_clash.ensures c.if-branch.true

pub returns : goal.returns
returns c =
    duplicate-rest (module_of c.args.within.now) (entries_of c.deref.result.now) (entries_of c.deref-2.result.now) _ _ (ap entries_of c.deref.ensures.value ∙ c.in_ok-entries.ensures) c.in_ok-has_clash.ensures c.if-branch.false
    (ap entries_of c.deref-2.ensures.value ∙ c.in_ok-ports.ensures) c.in_ok-repeated.ensures
