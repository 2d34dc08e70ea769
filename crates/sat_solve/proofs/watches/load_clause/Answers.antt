use Rattle.std.proofs.Common.{◌≡◌, ◌<◌, ◌≤◌, ◌+◌, ◌*◌, ◌^◌, ◌∷◌, [], ℕ, zero, suc, length, get_or, Some, false, not, refl, sym, ap, ◌∙◌, subst, arith}
use Rattle.std.specs.Prelude.{◌==◌}
use Rattle.std.specs.List.{Contains, slice_get}
use Rattle.std.proofs.lemmas.Bool.{false≢true, not-true, not-false}
use Rattle.std.proofs.lemmas.Option.{slice_get-get_or}
use Rattle.std.proofs.lemmas.List.Elements.{Contains-get_or}
use Rattle.sat_solve.specs.declared.trail.Entry.{Entry}
use Rattle.sat_solve.specs.Trail.{IsTrueIn, IsFalseIn}
use Rattle.sat_solve.specs.Kept.{TrailView}
use Rattle.sat_solve.specs.Search.{IsLoaded}
use Rattle.sat_solve.specs.Watches.{HasTrue}
use Rattle.sat_solve.proofs.FoundLemmas.{literal_at, beq-false, beq-true}
use Rattle.sat_solve.proofs.Signs.{sign_here}
use Rattle.sat_solve.proofs.LogLemmas.{slice_get-left}
use Rattle.sat_solve.proofs.SearchLemmas.{loaded_lists, IsLoaded-added, IsLoaded-forced}
use Rattle.sat_solve.proofs.watches.load_clause.Goals as goal
use Rattle.sat_solve.proofs.watches.load_clause.Goals.{After-other_literal}

nonempty : (n : ℕ) → false ≡ (n == 0) → 0 < n
nonempty zero h = absurd (false≢true h)
nonempty (suc n) h = omega arith

at_number : (c : After-other_literal) → slice_get c.args.cnf.now.clauses c.args.number ≡ Some c.as_slice-lits.result.now
at_number c =
    let r = c.index-clauses-number.result in
    slice_get-get_or c.args.cnf.now.clauses c.args.number r c.requires.number
    ∙ ap Some (ap (λ cs. get_or cs c.args.number r) (sym c.clauses.ensures.clauses) ∙ sym c.index-clauses-number.is ∙ sym c.as_slice-lits.ensures)

first_in : (c : After-other_literal) → Contains c.as_slice-lits.result.now (literal_at c.as_slice-lits.result.now 0)
first_in c = Contains-get_or c.as_slice-lits.result.now 0 record { var = 0; negative = false } (nonempty (length c.as_slice-lits.result.now) (c.if-is_empty.ensures))

pub returns-then-sign-first-clause-found : goal.returns-then-sign-first-clause-found
returns-then-sign-first-clause-found c =
    let here = (goal.at.returns-then-sign-first-clause-found c).After-other_literal in
    let lits = c.as_slice-lits.result.now in
    let first = literal_at lits 0 in
    let sign : c.in-Some-sign.sign ≡ not first.negative = beq-false c.in-Some-sign.sign first.negative (not-true _ c.if-sign-first.true) in
    let falsified : IsFalseIn c.args.trail.now.entries first = sym (c.in-Some-sign.ensures) ∙ ap Some sign in
    λ t. (c.requires.loaded.state, c.requires.loaded.undecided, (lits, slice_get-left c.args.cnf.now.clauses [] c.args.number lits (at_number here), λ x i. subst (λ y. IsFalseIn c.args.trail.now.entries y) (sym (c.in-None.ensures x i)) falsified))

few_lists : (vars n : ℕ) → n ≡ 2 * vars → vars < 2 ^ 31 → n ≤ 2 ^ 32
few_lists vars n is small = omega (arith, is, small)

pub add-requires : goal.add-requires
add-requires c =
    let here = (goal.at.add-requires c).After-other_literal in
    let loaded = c.requires.loaded in
    let old = c.args.watches.now in
    let lits = c.as_slice-lits.result.now in
    let listed = loaded_lists c.args.cnf.now c.args.trail.now old.pairs old.lists old.head c.args.number lits loaded (at_number here) in
    record {
      few = few_lists c.args.trail.now.vars (length old.lists) loaded.watched.sized loaded.small;
      first = listed (literal_at lits 0) (first_in here);
      second = listed c.in-Some.second (c.in-Some.ensures).0;
    }

pub add-requires-in-Some-sign : goal.add-requires-in-Some-sign
add-requires-in-Some-sign c =
    let here = (goal.at.add-requires-in-Some-sign c).After-other_literal in
    let loaded = c.requires.loaded in
    let old = c.args.watches.now in
    let lits = c.as_slice-lits.result.now in
    let listed = loaded_lists c.args.cnf.now c.args.trail.now old.pairs old.lists old.head c.args.number lits loaded (at_number here) in
    record {
      few = few_lists c.args.trail.now.vars (length old.lists) loaded.watched.sized loaded.small;
      first = listed (literal_at lits 0) (first_in here);
      second = listed (literal_at lits 0) (first_in here);
    }

pub add-requires-in-None-sign : goal.add-requires-in-None-sign
add-requires-in-None-sign c =
    let here = (goal.at.add-requires-in-None-sign c).After-other_literal in
    let loaded = c.requires.loaded in
    let old = c.args.watches.now in
    let lits = c.as_slice-lits.result.now in
    let listed = loaded_lists c.args.cnf.now c.args.trail.now old.pairs old.lists old.head c.args.number lits loaded (at_number here) in
    record {
      few = few_lists c.args.trail.now.vars (length old.lists) loaded.watched.sized loaded.small;
      first = listed (literal_at lits 0) (first_in here);
      second = listed (literal_at lits 0) (first_in here);
    }

pub returns-in_ok-add-in-Some-clause-added : goal.returns-in_ok-add-in-Some-clause-added
returns-in_ok-add-in-Some-clause-added c =
    let here = (goal.at.returns-in_ok-add-in-Some-clause-added c).After-other_literal in
    let old = c.args.watches.now in
    let lits = c.as_slice-lits.result.now in
    let first = literal_at lits 0 in
    let apart = (c.in-Some.ensures).1 in
    λ t. subst (λ n. IsLoaded c.args.cnf.now c.args.trail.now c.add.new.watches.pairs c.add.new.watches.lists n (c.args.number + 1)) (sym c.in_ok-add-in-Some.ensures.head)
    (IsLoaded-added c.args.cnf.now c.args.trail.now old.pairs c.add.new.watches.pairs old.lists c.add.new.watches.lists old.head c.args.number lits first c.in-Some.second c.requires.loaded (at_number here) c.in_ok-add-in-Some.ensures.added (first_in here) (c.in-Some.ensures).0 (λ same. absurd (apart (sym same))) (λ same. absurd (apart (sym same))))

pub returns-in_ok-add-in-Some-sign-clause-added : goal.returns-in_ok-add-in-Some-sign-clause-added
returns-in_ok-add-in-Some-sign-clause-added c =
    let here = (goal.at.returns-in_ok-add-in-Some-sign-clause-added c).After-other_literal in
    let old = c.args.watches.now in
    let lits = c.as_slice-lits.result.now in
    let first = literal_at lits 0 in
    let sign : c.in-Some-sign.sign ≡ first.negative = beq-true c.in-Some-sign.sign first.negative (not-false _ c.if-sign-first.false) in
    let holds : IsTrueIn c.args.trail.now.entries first = sym (c.in-Some-sign.ensures) ∙ ap Some sign in
    λ t. subst (λ n. IsLoaded c.args.cnf.now c.args.trail.now c.add-in-Some-sign.new.watches.pairs c.add-in-Some-sign.new.watches.lists n (c.args.number + 1)) (sym c.in_ok-add-in-Some-sign.ensures.head)
    (IsLoaded-added c.args.cnf.now c.args.trail.now old.pairs c.add-in-Some-sign.new.watches.pairs old.lists c.add-in-Some-sign.new.watches.lists old.head c.args.number lits first first c.requires.loaded (at_number here) c.in_ok-add-in-Some-sign.ensures.added (first_in here) (first_in here) (λ same. c.in-None.ensures) (λ same. (first, first_in here, holds)))

pub returns-in_ok-add-in-None-sign-clause-added : goal.returns-in_ok-add-in-None-sign-clause-added
returns-in_ok-add-in-None-sign-clause-added c =
    let here = (goal.at.returns-in_ok-add-in-None-sign-clause-added c).After-other_literal in
    let f = c.args.cnf.now in
    let trail = c.args.trail.now in
    let old = c.args.watches.now in
    let lits = c.as_slice-lits.result.now in
    let first = literal_at lits 0 in
    let entry : Entry = record { lit = first; reason = Some c.args.number } in
    let after : c.push.new.self ≡ record { vars = trail.vars; entries = entry ∷ trail.entries } = c.in_ok-push-in-None-sign.ensures.after in
    let short : length trail.entries < trail.vars = subst (λ (t : TrailView). length t.entries ≤ t.vars) after c.in_ok-push-in-None-sign.ensures.small in
    let forced = IsLoaded-forced f trail old.pairs old.lists old.head c.args.number lits first c.requires.loaded (at_number here) (first_in here) (c.in-None.ensures) (sym (c.in-None-sign.ensures)) short in
    let loaded : IsLoaded f c.push.new.self old.pairs old.lists old.head c.args.number = subst (λ (t : TrailView). IsLoaded f t old.pairs old.lists old.head c.args.number) (sym after) forced in
    let holds : HasTrue c.push.new.self.entries lits = subst (λ (t : TrailView). HasTrue t.entries lits) (sym after) (first, first_in here, sign_here entry trail.entries first.var refl) in
    λ t. subst (λ n. IsLoaded f c.push.new.self c.add-in-None-sign.new.watches.pairs c.add-in-None-sign.new.watches.lists n (c.args.number + 1)) (sym c.in_ok-add-in-None-sign.ensures.head)
    (IsLoaded-added f c.push.new.self old.pairs c.add-in-None-sign.new.watches.pairs old.lists c.add-in-None-sign.new.watches.lists old.head c.args.number lits first first loaded (at_number here) c.in_ok-add-in-None-sign.ensures.added (first_in here) (first_in here) (λ same. c.in-None.ensures) (λ same. holds))
