use Rattle.std.proofs.Common.{map, ap, ◌∙◌}
use Rattle.verilog_designs.specs.Names.{module_names, has_repeated}
use Rattle.v_syntax.specs.Source.{module_of}
use Rattle.v_hier.specs.declared.duplicate.Standing.TheVariants.{Free}
use Rattle.v_hier.specs.Entries.{entries_of, clashes}
use Rattle.v_hier.proofs.Counted.{names-clash}
use Rattle.v_hier.proofs.duplicate.has_duplicate_module.Goals as goal

pub returns : goal.returns
returns c =
    c.in_ok-repeated.ensures
    ∙ (ap (clashes (λ q. Free)) (ap entries_of c.deref-2.ensures.value ∙ c.in_ok-entries.ensures)
    ∙ (names-clash (module_names (map module_of c.deref.result.now)) ∙ ap (λ ms. has_repeated (module_names (map module_of ms))) c.deref.ensures.value))
