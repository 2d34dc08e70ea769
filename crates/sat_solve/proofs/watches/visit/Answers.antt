use Rattle.std.proofs.Common.{◌≡◌, ◌+◌, ◌-◌, ◌<◌, List, length, set, Some, inl, refl, sym, ap, ◌∙◌, subst, arith}
use Rattle.std.specs.List.{slice_get, swap_remove}
use Rattle.std.proofs.lemmas.Option.{slice_get-get_or}
use Rattle.sat_solve.specs.declared.lists.Watch.{Watch}
use Rattle.sat_solve.specs.declared.trail.Entry.{Entry}
use Rattle.sat_solve.specs.declared.watches.Outcome.{Outcome}
use Rattle.sat_solve.specs.Held.{Held}
use Rattle.sat_solve.specs.Search.{held_of}
use Rattle.sat_solve.specs.Trail.{IsConflict}
use Rattle.sat_solve.specs.Watches.{IsLooked, IsAtMostOneMore}
use Rattle.sat_solve.proofs.Visits.{IsVisiting, visit_start, visit_fitting, visit_paired, visit_stays, visit_moved, visit_end, visit_conflict, visit_same, more_length}
use Rattle.sat_solve.proofs.watches.visit.Goals as goal
use Rattle.sat_solve.proofs.watches.visit.Goals.{After-index-watch, In_ok-stays}

at_rest : (c : After-index-watch) → slice_get c.loop-rest.list.items (c.loop-rest.rest - 1) ≡ Some c.index-watch.result.now
at_rest c =
    let list = c.loop-rest.list.items in
    let w = c.index-watch.result.now in
    let inside : c.loop-rest.rest - 1 < length list = omega (arith, c.loop-rest-test.true, c.loop-rest.invariant.visiting.within) in
    slice_get-get_or list (c.loop-rest.rest - 1) w inside ∙ ap Some (sym c.index-watch.ensures)

one_less : (c : After-index-watch) → c.loop-rest.rest ≡ (c.loop-rest.rest - 1) + 1
one_less c = omega (arith, c.loop-rest-test.true)

looked_at : (c : In_ok-stays) (o : Outcome) → c.in_ok-stays.field-0 ≡ o → IsLooked c.loop-rest.trail.entries c.look.new.trail.entries (held_of c.args.cnf.now c.args.log.now c.loop-rest.watches.pairs) (held_of c.args.cnf.now c.args.log.now c.look.new.watches.pairs) c.loop-rest.watches.lists c.look.new.watches.lists c.args.code c.index-watch.result.now.clause o
looked_at c o is = subst (λ (p : Outcome). IsLooked c.loop-rest.trail.entries c.look.new.trail.entries (held_of c.args.cnf.now c.args.log.now c.loop-rest.watches.pairs) (held_of c.args.cnf.now c.args.log.now c.look.new.watches.pairs) c.loop-rest.watches.lists c.look.new.watches.lists c.args.code c.index-watch.result.now.clause p) is c.in_ok-stays.ensures.looked

pub loop-rest-init : goal.loop-rest-init
loop-rest-init c = record {
  visiting = visit_start c.args.cnf.now c.args.log.now c.args.trail.now c.args.watches.now.pairs c.args.watches.now.lists c.take-list.new.self c.args.watches.now.head c.args.code c.len-rest.result c.take-list.result.items c.requires.search c.requires.next c.requires.code c.take-list.ensures.list c.take-list.ensures.rest (c.len-rest.ensures ∙ c.take-list.result.ok.0);
  paired = c.requires.search.paired;
  head = refl;
  grown = omega arith;
}

pub look-requires-clause-fitting : goal.look-requires-clause-fitting
look-requires-clause-fitting c =
    let here = (goal.at.look-requires-clause-fitting c).After-index-watch in
    visit_fitting c.args.cnf.now c.args.log.now c.loop-rest.trail (held_of c.args.cnf.now c.args.log.now c.loop-rest.watches.pairs) c.loop-rest.watches.lists c.loop-rest.watches.head c.args.code c.loop-rest.rest c.loop-rest.list.items c.loop-rest.invariant.visiting (c.loop-rest.rest - 1) c.index-watch.result.now (at_rest here)

pub look-requires-clause-paired : goal.look-requires-clause-paired
look-requires-clause-paired c = visit_paired c.args.cnf.now c.args.log.now c.loop-rest.trail (held_of c.args.cnf.now c.args.log.now c.loop-rest.watches.pairs) c.loop-rest.watches.lists c.loop-rest.watches.head c.args.code c.loop-rest.rest c.loop-rest.list.items c.loop-rest.invariant.visiting c.index-watch.result.now.clause

pub loop-rest-preserved-in-Stays : goal.loop-rest-preserved-in-Stays
loop-rest-preserved-in-Stays c =
    let here = (goal.at.loop-rest-preserved-in-Stays c).In_ok-stays in
    let there = (goal.at.loop-rest-preserved-in-Stays c).After-index-watch in
    let f = c.args.cnf.now in
    let log = c.args.log.now in
    let old = c.loop-rest.watches in
    let v = c.loop-rest.invariant.visiting in
    let list = c.loop-rest.list.items in
    let i = c.loop-rest.rest - 1 in
    let found = looked_at here _ c.in-Stays.is in
    let next = visit_stays f log c.loop-rest.trail c.look.new.trail v.state c.in_ok-stays.ensures.state found.5 (held_of f log old.pairs) old.lists old.head c.args.code c.loop-rest.rest i list c.index-watch.result.now c.in-Stays.stays v (one_less there) (at_rest there) found.2 found.3 found.4 in
    record {
      visiting = subst (λ hs. IsVisiting f log c.look.new.trail hs c.look.new.watches.lists c.look.new.watches.head c.args.code i (set list i c.in-Stays.stays)) (sym found.0)
          (subst (λ ls. IsVisiting f log c.look.new.trail (held_of f log old.pairs) ls c.look.new.watches.head c.args.code i (set list i c.in-Stays.stays)) (sym found.1)
          (subst (λ n. IsVisiting f log c.look.new.trail (held_of f log old.pairs) old.lists n c.args.code i (set list i c.in-Stays.stays)) (sym c.in_ok-stays.ensures.head) next));
      paired = c.in_ok-stays.ensures.sized ∙ c.loop-rest.invariant.paired;
      head = c.in_ok-stays.ensures.head ∙ c.loop-rest.invariant.head;
      grown = omega (arith, c.loop-rest.invariant.grown, more_length c.loop-rest.trail.entries c.look.new.trail.entries found.5);
    }

pub loop-rest-preserved : goal.loop-rest-preserved
loop-rest-preserved c =
    let here = (goal.at.loop-rest-preserved c).In_ok-stays in
    let there = (goal.at.loop-rest-preserved c).After-index-watch in
    let f = c.args.cnf.now in
    let log = c.args.log.now in
    let old = c.loop-rest.watches in
    let v = c.loop-rest.invariant.visiting in
    let list = c.loop-rest.list.items in
    let i = c.loop-rest.rest - 1 in
    let found = looked_at here _ c.in-Moved.is in
    let more : IsAtMostOneMore c.loop-rest.trail.entries c.look.new.trail.entries = inl found.0 in
    let next = visit_moved f log c.loop-rest.trail c.look.new.trail v.state c.in_ok-stays.ensures.state more (held_of f log old.pairs) (held_of f log c.look.new.watches.pairs) old.lists c.look.new.watches.lists old.head c.args.code c.loop-rest.rest i c.index-watch.result.now.clause list c.index-watch.result.now c.swap_remove.result v (one_less there) (at_rest there) refl found.1 in
    record {
      visiting = subst (λ (l : List Watch). IsVisiting f log c.look.new.trail (held_of f log c.look.new.watches.pairs) c.look.new.watches.lists c.look.new.watches.head c.args.code i l) (sym c.swap_remove.ensures.items)
          (subst (λ n. IsVisiting f log c.look.new.trail (held_of f log c.look.new.watches.pairs) c.look.new.watches.lists n c.args.code i (swap_remove list i c.swap_remove.result)) (sym c.in_ok-stays.ensures.head) next);
      paired = c.in_ok-stays.ensures.sized ∙ c.loop-rest.invariant.paired;
      head = c.in_ok-stays.ensures.head ∙ c.loop-rest.invariant.head;
      grown = omega (arith, c.loop-rest.invariant.grown, more_length c.loop-rest.trail.entries c.look.new.trail.entries more);
    }

pub returns-in-Falsified-clause-found : goal.returns-in-Falsified-clause-found
returns-in-Falsified-clause-found c =
    let here = (goal.at.returns-in-Falsified-clause-found c).In_ok-stays in
    let there = (goal.at.returns-in-Falsified-clause-found c).After-index-watch in
    let f = c.args.cnf.now in
    let log = c.args.log.now in
    let old = c.loop-rest.watches in
    let v = c.loop-rest.invariant.visiting in
    let list = c.loop-rest.list.items in
    let i = c.loop-rest.rest - 1 in
    let found = looked_at here _ c.in-Falsified.is in
    let more : IsAtMostOneMore c.loop-rest.trail.entries c.look.new.trail.entries = inl found.2 in
    let now : IsVisiting f log c.look.new.trail (held_of f log old.pairs) old.lists old.head c.args.code c.loop-rest.rest list = visit_same f log c.loop-rest.trail c.look.new.trail v.state c.in_ok-stays.ensures.state more (held_of f log old.pairs) old.lists old.head c.args.code c.loop-rest.rest list v in
    let moved : IsVisiting f log c.look.new.trail (held_of f log c.look.new.watches.pairs) c.look.new.watches.lists c.look.new.watches.head c.args.code c.loop-rest.rest list =
    subst (λ hs. IsVisiting f log c.look.new.trail hs c.look.new.watches.lists c.look.new.watches.head c.args.code c.loop-rest.rest list) (sym found.0)
    (subst (λ ls. IsVisiting f log c.look.new.trail (held_of f log old.pairs) ls c.look.new.watches.head c.args.code c.loop-rest.rest list) (sym found.1)
    (subst (λ n. IsVisiting f log c.look.new.trail (held_of f log old.pairs) old.lists n c.args.code c.loop-rest.rest list) (sym c.in_ok-stays.ensures.head) now)) in
    let conflict : (h : Held) → slice_get (held_of f log c.look.new.watches.pairs) c.index-watch.result.now.clause ≡ Some h → IsConflict c.look.new.trail.entries h.lits = λ h at. subst (λ (es : List Entry). IsConflict es h.lits) (sym found.2) (found.3 h (ap (λ hs. slice_get hs c.index-watch.result.now.clause) (sym found.0) ∙ at)) in
    visit_conflict f log c.look.new.trail c.look.new.watches.pairs c.look.new.watches.lists c.put.new.self c.look.new.watches.head c.args.code c.loop-rest.rest i list c.index-watch.result.now moved (c.in_ok-stays.ensures.sized ∙ c.loop-rest.invariant.paired) (at_rest there) conflict c.put.ensures

pub returns-clause-found : goal.returns-clause-found
returns-clause-found c = visit_end c.args.cnf.now c.args.log.now c.loop-rest.trail c.loop-rest.watches.pairs c.loop-rest.watches.lists c.put-2.new.self c.loop-rest.watches.head c.args.code c.loop-rest.rest c.loop-rest.list.items c.loop-rest.invariant.visiting c.loop-rest.invariant.paired (omega (arith, c.loop-rest-test.false)) c.put-2.ensures
