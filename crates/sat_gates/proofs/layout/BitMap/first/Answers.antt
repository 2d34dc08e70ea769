use Rattle.std.proofs.Common.{◌≡◌, ◌∙◌, ◌≤◌, None, length, get_or, ap, sym, arith}
use Rattle.std.specs.Ordering.{nat_cmp}
use Rattle.std.specs.BTreeMap.{get}
use Rattle.std.proofs.lemmas.List.{get_or_past}
use Rattle.sat_gates.specs.Used.{listed}
use Rattle.sat_gates.proofs.Using.{length-listed, first_found}
use Rattle.sat_gates.proofs.layout.BitMap.first.Goals as goal

pub returns-then-name-self : goal.returns-then-name-self
returns-then-name-self c =
    first_found (get nat_cmp c.self.inside.firsts) c.self.inside.names c.args.name.0 _ _ c.if-name-self.true c.copied.ensures c.get.ensures.value ∙ ap (λ fs. get_or fs c.args.name.0 None) c.self.view_is

pub returns : goal.returns
returns c =
    let f = get nat_cmp c.self.inside.firsts in
    sym (get_or_past (listed f 0 c.self.inside.names) c.args.name.0 None (omega (arith, c.if-name-self.false, length-listed f 0 c.self.inside.names))) ∙ ap (λ fs. get_or fs c.args.name.0 None) c.self.view_is
