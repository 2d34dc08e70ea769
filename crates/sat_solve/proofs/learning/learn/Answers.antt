use Rattle.std.proofs.Common.{◌≡◌, ◌<◌, ◌≤◌, ◌+◌, ◌*◌, ◌^◌, ◌∷◌, [], ◌++◌, inl, inr, length, drop, Some, sym, ap, ◌∙◌, subst, arith}
use Rattle.std.specs.List.{Contains}
use Rattle.sat_base.specs.declared.literals.Lit.{Lit}
use Rattle.sat_solve.specs.declared.watches.Watches.{Watches}
use Rattle.sat_solve.specs.Trail.{sign_at}
use Rattle.sat_solve.specs.Kept.{TrailView}
use Rattle.sat_solve.specs.State.{known_clauses}
use Rattle.sat_solve.specs.Search.{IsSearch}
use Rattle.sat_solve.specs.Watches.{IsAdded}
use Rattle.sat_solve.proofs.FoundLemmas.{literal_at}
use Rattle.sat_solve.proofs.Forced.{point_fresh}
use Rattle.sat_solve.proofs.Signs.{Contains-head}
use Rattle.sat_solve.proofs.SearchLemmas.{IsSecond, second_among, lists_hold, IsSearch-learnt}
use Rattle.sat_solve.proofs.learning.learn.Goals as goal
use Rattle.sat_solve.proofs.learning.learn.Goals.{After-back_up, then-lits-gt1, else-lits-gt1}

first_of_lemma : (c : After-back_up) → literal_at c.as_slice-lits.result.now 0 ≡ c.requires.taught.forced.point
first_of_lemma c = ap (λ ls. literal_at ls 0) (c.as_slice-lits.ensures ∙ c.requires.taught.forced.lits_are)

second_of_lemma : (c : After-back_up) → IsSecond c.args.lesson.lemma.lits (literal_at c.as_slice-lits.result.now 0) c.if-lits-gt1.second
second_of_lemma c =
    let same : length c.as_slice-lits.result.now ≡ length c.args.lesson.lemma.lits = ap length c.as_slice-lits.ensures in
    elim c.if-lits-gt1.branch [
      | then-lits-gt1 w ↦ inr (omega (arith, w.if-lits-gt1.true, same), w.second-is ∙ ap (λ ls. literal_at ls 1) c.as_slice-lits.ensures)
      | else-lits-gt1 w ↦ inl (omega (arith, w.if-lits-gt1.false, same), w.second-is)
    ]

first_in : (c : After-back_up) → Contains c.args.lesson.lemma.lits (literal_at c.as_slice-lits.result.now 0)
first_in c =
    let forced = c.requires.taught.forced in
    subst (λ x. Contains c.args.lesson.lemma.lits x) (sym (first_of_lemma c)) (subst (λ ls. Contains ls forced.point) (sym forced.lits_are) (Contains-head forced.rest forced.point))

sized : (c : After-back_up) → length c.back_up.new.watches.lists ≡ 2 * c.args.trail.now.vars
sized c = ap (λ (w : Watches). length w.lists) c.back_up.ensures.watches ∙ c.requires.search.watched.sized

pub add-requires : goal.add-requires
add-requires c =
    let here = (goal.at.add-requires c).After-back_up in
    let lits = c.args.lesson.lemma.lits in
    let vars = c.args.trail.now.vars in
    let n = length c.back_up.new.watches.lists in
    record {
      few = omega (arith, sized here, c.requires.search.small);
      first = lists_hold vars n lits c.requires.known (sized here) (literal_at c.as_slice-lits.result.now 0) (first_in here);
      second = lists_hold vars n lits c.requires.known (sized here) c.if-lits-gt1.second (second_among lits (literal_at c.as_slice-lits.result.now 0) c.if-lits-gt1.second (first_in here) (second_of_lemma here));
    }

pub push-requires-clause-fresh : goal.push-requires-clause-fresh
push-requires-clause-fresh c =
    let here = (goal.at.push-requires-clause-fresh c).After-back_up in
    let l = literal_at c.as_slice-lits.result.now 0 in
    ap (λ (t : TrailView). sign_at t.entries l.var) c.back_up.ensures.trail
    ∙ ap (λ (x : Lit). sign_at (drop c.args.lesson.back c.args.trail.now.entries) x.var) (first_of_lemma here)
    ∙ point_fresh (known_clauses c.args.cnf.now c.args.log.now) c.args.trail.now.entries c.requires.search.state.sound c.requires.taught.start c.args.lesson.back c.args.lesson.lemma.lits c.requires.taught.forced c.requires.once

pub returns-clause-search : goal.returns-clause-search
returns-clause-search c =
    let here = (goal.at.returns-clause-search c).After-back_up in
    let f = c.args.cnf.now in
    let log = c.args.log.now in
    let trail = c.args.trail.now in
    let old = c.args.watches.now in
    let back = c.args.lesson.back in
    let s = c.args.lesson.lemma in
    let l = literal_at c.as_slice-lits.result.now 0 in
    let number = length c.clauses.result.now + c.len.result in
    let behind : TrailView → TrailView = λ t. record { vars = t.vars; entries = record { lit = l; reason = Some number } ∷ t.entries } in
    let after : c.push.new.self ≡ behind record { vars = trail.vars; entries = drop back trail.entries } = c.in_ok-push.ensures.after ∙ ap behind c.back_up.ensures.trail in
    let known : number ≡ length f.clauses + length log = omega (arith, ap length c.clauses.ensures.clauses, c.len.ensures) in
    let small : number + 1 < 2 ^ 64 = omega (arith, c.if-number.false, known, c.requires.search.state.numbered) in
    let short : length (drop back trail.entries) < trail.vars = subst (λ (t : TrailView). length t.entries ≤ t.vars) after c.in_ok-push.ensures.small in
    let added : IsAdded old.pairs c.add.new.watches.pairs old.lists c.add.new.watches.lists l c.if-lits-gt1.second =
    subst (λ (w : Watches). IsAdded w.pairs c.add.new.watches.pairs w.lists c.add.new.watches.lists l c.if-lits-gt1.second) c.back_up.ensures.watches c.in_ok-add.ensures.added in
    let head : c.add.new.watches.head ≡ length (drop back trail.entries) = c.in_ok-add.ensures.head ∙ ap (λ (w : Watches). w.head) c.back_up.ensures.watches in
    subst (λ g. IsSearch f g c.push.new.self c.add.new.watches.pairs c.add.new.watches.lists c.add.new.watches.head) (sym c.in_ok-push-2.ensures.ok)
    (subst (λ n. IsSearch f (log ++ s ∷ []) c.push.new.self c.add.new.watches.pairs c.add.new.watches.lists n) (sym head)
    (subst (λ (t : TrailView). IsSearch f (log ++ s ∷ []) t c.add.new.watches.pairs c.add.new.watches.lists (length (drop back trail.entries))) (sym after)
    (IsSearch-learnt f log trail old.pairs c.add.new.watches.pairs old.lists c.add.new.watches.lists old.head s back l c.if-lits-gt1.second number c.requires.search c.requires.known c.requires.once c.requires.follows c.requires.taught (first_of_lemma here) (second_of_lemma here) added known small short)))
