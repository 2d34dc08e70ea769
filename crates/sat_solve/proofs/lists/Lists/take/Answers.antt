use Rattle.std.proofs.Common.{List, Vec, Global, set, ap, ◌∙◌}
use Rattle.std.proofs.lemmas.List.{map-set}
use Rattle.sat_solve.specs.declared.lists.Watch.{Watch}
use Rattle.sat_solve.proofs.lists.Lists.take.Goals as goal

pub returns-clause-rest : goal.returns-clause-rest
returns-clause-rest c =
    let items : Vec Watch Global → List Watch = λ v. v.items in
    map-set items c.self.inside.lists.items c.args.code c.replace.new.dest
    ∙ ap (λ (ls : List (List Watch)). set ls c.args.code c.replace.new.dest.items) c.self.view_is
    ∙ ap (λ (l : List Watch). set c.args.self.now c.args.code l) (ap items c.replace.ensures.after ∙ c.new.ensures.items)
