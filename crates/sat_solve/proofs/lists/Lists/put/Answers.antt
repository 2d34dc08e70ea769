use Rattle.std.proofs.Common.{List, Vec, Global, set, ap, ◌∙◌}
use Rattle.std.proofs.lemmas.List.{map-set}
use Rattle.sat_solve.specs.declared.lists.Watch.{Watch}
use Rattle.sat_solve.proofs.lists.Lists.put.Goals as goal

pub returns : goal.returns
returns c =
    let items : Vec Watch Global → List Watch = λ v. v.items in
    map-set items c.self.inside.lists.items c.args.code c.args.list ∙ ap (λ (ls : List (List Watch)). set ls c.args.code c.args.list.items) c.self.view_is
