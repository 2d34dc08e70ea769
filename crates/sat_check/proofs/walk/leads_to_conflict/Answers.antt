use Rattle.std.proofs.Common.{◌≡◌, ◌+◌, ℕ, Bool, List, ◌∷◌, ◌++◌, [], true, drop, get_or, subst, sym, ap, ◌∙◌}
use Rattle.std.proofs.Math.ListN.{set, drop_of_length-le}
use Rattle.std.proofs.lemmas.List.{drop_more}
use Rattle.sat_check.specs.Numbering.{opposite}
use Rattle.sat_check.proofs.Walks.{IsWalked, IsWalked-step, IsWalked-stuck, IsWalked-last}
use Rattle.sat_check.proofs.walk.leads_to_conflict.Goals as goal

pub returns-in-None-clause-decides : goal.returns-in-None-clause-decides
returns-in-None-clause-decides c =
    let others = c.in-Some.others.now in
    let i = c.loop-hint.hint-index in
    let walked = subst (λ (hs : List ℕ). IsWalked c.args.clauses.now c.args.earlier c.args.marks.now c.args.hints.now c.loop-hint.marks (hs ++ (c.in-Some.last.now ∷ [])))
    (drop_more others i 0 c.loop-hint-test.true) c.loop-hint.invariant in
    λ at numbering falsified rep. (
      λ no_conflict. cc,
      λ walk. absurd (IsWalked-stuck c.args.clauses.now c.args.earlier c.requires.earlier c.args.marks.now c.requires.places c.args.hints.now
          c.loop-hint.marks (get_or others i 0) c.in-Some.last.now (drop (i + 1) others) walked c.in-None.ensures at numbering falsified rep walk),
    )

pub loop-hint-preserved : goal.loop-hint-preserved
loop-hint-preserved c =
    let others = c.in-Some.others.now in
    let i = c.loop-hint.hint-index in
    let walked = subst (λ (hs : List ℕ). IsWalked c.args.clauses.now c.args.earlier c.args.marks.now c.args.hints.now c.loop-hint.marks (hs ++ (c.in-Some.last.now ∷ [])))
    (drop_more others i 0 c.loop-hint-test.true) c.loop-hint.invariant in
    let marked : c.insert.new.self ≡ set c.loop-hint.marks (opposite c.in-Some-forced_by.literal) true =
    c.insert.ensures ∙ ap (λ (x : ℕ). set c.loop-hint.marks x true) c.opposite_of.ensures in
    subst (λ (m : List Bool). IsWalked c.args.clauses.now c.args.earlier c.args.marks.now c.args.hints.now m (drop (i + 1) others ++ (c.in-Some.last.now ∷ [])))
    (sym marked)
    (IsWalked-step c.args.clauses.now c.args.earlier c.requires.earlier c.args.marks.now c.requires.places c.args.hints.now
    c.loop-hint.marks (get_or others i 0) c.in-Some-forced_by.literal c.in-Some.last.now (drop (i + 1) others) walked c.in-Some-forced_by.ensures)

pub returns-clause-decides : goal.returns-clause-decides
returns-clause-decides c =
    let others = c.in-Some.others.now in
    let walked = subst (λ (hs : List ℕ). IsWalked c.args.clauses.now c.args.earlier c.args.marks.now c.args.hints.now c.loop-hint.marks (hs ++ (c.in-Some.last.now ∷ [])))
    (drop_of_length-le others c.loop-hint-test.false) c.loop-hint.invariant in
    λ at numbering falsified rep.
    let ends = IsWalked-last c.args.clauses.now c.args.earlier c.requires.earlier c.args.marks.now c.requires.places c.args.hints.now
    c.loop-hint.marks c.in-Some.last.now walked at numbering falsified rep in
    (λ yes. ends.0 (c.is_falsified.ensures.0 yes), λ walk. c.is_falsified.ensures.1 (ends.1 walk))
