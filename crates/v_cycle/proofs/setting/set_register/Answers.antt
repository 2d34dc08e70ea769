use Rattle.std.proofs.Common.{◌∙◌, get_or, set, map, sym, ap, subst, arith}
use Rattle.std.proofs.lemmas.List.{length-map}
use Rattle.wb_values.specs.Value.{number}
use Rattle.wb_terms.specs.Sort.{as_sort}
use Rattle.wb_terms.specs.Environment.{HasSortOf, as_value, value_of}
use Rattle.v_cycle.specs.declared.changes.Stored.{Stored}
use Rattle.v_cycle.proofs.Changed.{changed-set, scalar}
use Rattle.v_cycle.proofs.setting.set_register.Goals as goal

pub returns-else-is_memory-clause-values : goal.returns-else-is_memory-clause-values
returns-else-is_memory-clause-values c =
    let k = c.args.register in
    let vs = map as_value c.args.values.now in
    let x = get_or vs k (number 0) in
    let y = value_of c.args.terms.now c.args.env.now c.args.id.0 in
    let s : Stored = record { address = 0; number = c.number.result } in
    let hx = subst (HasSortOf x) c.sort.ensures.sort c.requires.sorted in
    let hy = subst (HasSortOf y) c.sort.ensures.sort c.number.ensures.sorted in
    c.make.ensures.values
    ∙ changed-set vs k s (number 0) (omega (arith, c.requires.register, length-map c.args.values.now as_value))
    ∙ ap (set vs k) (scalar (as_sort c.sort.result) x y s (sym c.if-is_memory.ensures) hx hy c.number.ensures.value)
