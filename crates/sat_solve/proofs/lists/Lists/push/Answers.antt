use Rattle.std.proofs.Common.{◌≡◌, ◌<◌, ◌∷◌, [], ◌++◌, List, Vec, Global, length, map, set, get_or, sym, ap, ◌∙◌, arith}
use Rattle.std.proofs.lemmas.List.{map-set, get_or-map, length-map}
use Rattle.sat_solve.specs.declared.lists.Watch.{Watch}
use Rattle.sat_solve.proofs.lists.Lists.push.Goals as goal

pub returns : goal.returns
returns c =
    let items : Vec Watch Global → List Watch = λ v. v.items in
    let vecs = c.self.inside.lists.items in
    let within : c.args.code < length vecs = omega (arith, c.requires, ap length c.self.view_is, length-map vecs items) in
    let old : c.index_mut-list.result.now.items ≡ get_or (map items vecs) c.args.code [] =
    sym (get_or-map items vecs c.args.code c.index_mut-list.result.now [] within ∙ ap items (sym c.index_mut-list.ensures.value)) in
    let pushed : c.push.new.self.items ≡ get_or c.args.self.now c.args.code [] ++ c.args.watch ∷ [] =
    c.in_ok-push.ensures.items ∙ ap (λ (l : List Watch). l ++ c.args.watch ∷ []) (old ∙ ap (λ (ls : List (List Watch)). get_or ls c.args.code []) c.self.view_is) in
    map-set items vecs c.args.code c.push.new.self
    ∙ ap (λ (ls : List (List Watch)). set ls c.args.code c.push.new.self.items) c.self.view_is
    ∙ ap (λ (l : List Watch). set c.args.self.now c.args.code l) pushed
