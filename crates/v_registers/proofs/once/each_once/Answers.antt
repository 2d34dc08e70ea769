use Rattle.std.proofs.Common.{◌∙◌, ◌++◌, ◌+◌, drop, get_or, sym, ap, arith}
use Rattle.std.specs.Prelude.{map}
use Rattle.std.proofs.lemmas.List.{drop_more}
use Rattle.v_hier.specs.Tables.{has_name}
use Rattle.v_registers.specs.Once.{each_once, outside}
use Rattle.v_registers.proofs.FirstNames.{once_turn, none_seen}
use Rattle.v_registers.proofs.once.each_once.Goals as goal

pub loop-each-init : goal.loop-each-init
loop-each-init c =
    let ns = each_once (map (λ n. n.now) c.args.list.now) in
    ap (λ xs. map (λ n. n.now) xs ++ outside (has_name c.none_seen-seen.result) ns) c.new-names.ensures.items
    ∙ none_seen (has_name c.none_seen-seen.result) c.none_seen-seen.ensures ns

pub loop-each-preserved : goal.loop-each-preserved
loop-each-preserved c =
    let ds = c.args.list.now in
    let i = c.loop-each.each-index in
    once_turn (has_name c.loop-each.seen) (has_name c.add_first.new.seen) (get_or ds i _).now (map (λ n. n.now) (drop (i + 1) ds))
    (map (λ n. n.now) c.loop-each.names.items) _ _ c.in_ok-add_first.ensures.seen c.in_ok-add_first.ensures.names
    (ap (λ xs. map (λ n. n.now) c.loop-each.names.items ++ outside (has_name c.loop-each.seen) (each_once (map (λ n. n.now) xs))) (sym (drop_more ds i _ (omega arith)))
    ∙ c.loop-each.invariant)
