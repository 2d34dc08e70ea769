use Rattle.std.proofs.Common.{◌∙◌, ap, sym, subst, refl}
use Rattle.verilog_designs.specs.Accepted.{has_no_clock}
use Rattle.v_syntax.specs.Source.{module_of, source_of}
use Rattle.v_standing.specs.Standing.{modules_of}
use Rattle.v_named.specs.Names.{IsNamesKind}
use Rattle.v_named.proofs.Refusals.{known_top, refused_first, kind_so}
use Rattle.v_named.proofs.design.names_kind.Goals as goal

pub returns-then-lacking : goal.returns-then-lacking
returns-then-lacking c = λ d t e.
    let m = module_of c.args.top.now in
    refused_first d (source_of c.args.tree.now) m t c.in_ok-lacking.lacking (c.in_ok-lacking.ensures ∙ ap (has_no_clock (known_top m)) (sym e)) c.if-lacking.true

pub returns : goal.returns
returns c = λ d t e.
    let m = module_of c.args.top.now in
    let source = source_of c.args.tree.now in
    subst (IsNamesKind d) (sym c.in_ok-kind.ensures)
    (kind_so d source m t (modules_of c.in_ok-modules.modules.items) c.in_ok-modules.ensures c.in_ok-lacking.lacking (c.in_ok-lacking.ensures ∙ ap (has_no_clock (known_top m)) (sym e)) c.if-lacking.false _ _ refl
    refl)
