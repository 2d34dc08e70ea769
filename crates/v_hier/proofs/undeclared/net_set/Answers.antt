use Rattle.std.proofs.Common.{ap, ◌∙◌, ◌++◌, List}
use Rattle.verilog_meaning.specs.Hierarchy.{declarations}
use Rattle.verilog_designs.specs.Names.{is_among}
use Rattle.v_syntax.specs.Source.{module_of}
use Rattle.v_hier.specs.declared.entry.Entry.{Entry}
use Rattle.v_hier.specs.Entries.{entries_of, entry_names, declaration_entries}
use Rattle.v_hier.proofs.Named.{among-declared}
use Rattle.v_hier.proofs.undeclared.net_set.Goals as goal

pub returns : goal.returns
returns c = λ q.
    let ds = declarations (module_of c.args.within.now) in
    c.in_ok-set.ensures q
    ∙ (ap (λ es. is_among (entry_names es) q)
    (ap entries_of c.deref.ensures.value ∙ (c.in_ok-add_nets.ensures ∙ ap (λ (es : List Entry). entries_of es ++ declaration_entries ds) c.new-entries.ensures.items))
    ∙ among-declared ds q)
