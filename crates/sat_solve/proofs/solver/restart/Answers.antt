use Rattle.std.proofs.Common.{◌≡◌, ◌+◌, ◌-◌, not, drop, ap, sym, ◌∙◌, subst, arith}
use Rattle.sat_solve.specs.Kept.{TrailView}
use Rattle.sat_solve.specs.Decisions.{IsDecisionAt}
use Rattle.sat_solve.specs.Search.{IsSearch}
use Rattle.sat_solve.specs.declared.watches.Watches.{Watches}
use Rattle.sat_solve.proofs.SearchLemmas.{IsSearch-back, decided_by}
use Rattle.sat_solve.proofs.solver.restart.Goals as goal

pub returns-then-is_none : goal.returns-then-is_none
returns-then-is_none c =
    let trail = c.args.trail.now in
    let old = c.args.watches.now in
    let place = c.len-count.result - 1 - c.reused-keep.result in
    let count = c.len-count.result - c.reused-keep.result in
    let is : count ≡ place + 1 = omega (arith, c.if-keep-count.true) in
    let decided : IsDecisionAt trail.entries place = (c.newest.result, c.newest.ensures.value, decided_by c.newest.result.reason (c.is_none.ensures ∙ ap not c.if-is_none.true)) in
    let back = IsSearch-back c.args.cnf.now c.args.log.now trail old.pairs old.lists old.head count place is decided c.requires in
    subst (λ (t : TrailView). IsSearch c.args.cnf.now c.args.log.now t c.back_up.new.watches.pairs c.back_up.new.watches.lists c.back_up.new.watches.head) (sym c.back_up.ensures.trail)
    (subst (λ (w : Watches). IsSearch c.args.cnf.now c.args.log.now record { vars = trail.vars; entries = drop count trail.entries } w.pairs w.lists w.head) (sym c.back_up.ensures.watches) back)
