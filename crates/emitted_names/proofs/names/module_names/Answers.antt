use Rattle.std.proofs.Common.{sym, subst}
use Rattle.emitted_names.specs.Within.{AreWithin}
use Rattle.emitted_names.proofs.Bounds.{bounds}
use Rattle.emitted_names.proofs.names.module_names.Goals as goal

pub all_ways-requires : goal.all_ways-requires
all_ways-requires c = record {
  ordered = c.check_nodes.ensures.ordered;
  within = subst (AreWithin c.args.model.now.parts.terms) (sym c.as_slice-instructions.ensures.value) (bounds c.args.model.now.parts c.args.model.now.well_sorted).instructed;
}
