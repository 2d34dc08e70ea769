use Rattle.std.proofs.Common.{ap, sym, ◌∙◌, ◌++◌, option_map, Bor, Option}
use Rattle.v_syntax.specs.declared.module.Module.{Module as CodeModule}
use Rattle.v_syntax.specs.Source.{module_of}
use Rattle.v_standing.specs.Standing.{modules_of, one_if_any}
use Rattle.v_standing.proofs.Adding.{module_behind, none_behind}
use Rattle.v_standing.proofs.listed.add.Goals as goal

pub returns-in_ok-append-in-Some : goal.returns-in_ok-append-in-Some
returns-in_ok-append-in-Some c =
    ap modules_of c.in_ok-append-in-Some.ensures ∙ (module_behind c.args.list.now.items c.in-Some.found
    ∙ ap (λ (o : Option (Bor CodeModule)). modules_of c.args.list.now.items ++ one_if_any (option_map (λ m. module_of m.now) o)) (sym c.in-Some.is))

pub returns-in-None : goal.returns-in-None
returns-in-None c =
    none_behind (modules_of c.args.list.now.items)
    ∙ ap (λ (o : Option (Bor CodeModule)). modules_of c.args.list.now.items ++ one_if_any (option_map (λ m. module_of m.now) o)) (sym c.in-None.is)
