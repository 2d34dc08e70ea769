use Rattle.std.proofs.Common.{inl, ◌≡◌, ℕ, ◌<◌, ◌≤◌, List, ◌∷◌, inr, ⊎_elim, length, map, Some, None, refl, sym, ap, ◌∙◌, subst, arith}
use Rattle.std.specs.List.{Contains, slice_get}
use Rattle.std.proofs.lemmas.List.{length-set}
use Rattle.std.proofs.lemmas.Option.{slice_get_within}
use Rattle.sat_base.specs.declared.literals.Lit.{Lit}
use Rattle.sat_solve.specs.declared.trail.Entry.{Entry}
use Rattle.sat_solve.specs.declared.trail.Truth.{Truth}
use Rattle.sat_solve.specs.Trail.{sign_at, IsTrueIn, IsFalseIn, IsUnit}
use Rattle.sat_solve.specs.Kept.{TrailView}
use Rattle.sat_solve.specs.Truth.{IsTruth}
use Rattle.sat_solve.specs.State.{known_clauses, IsState}
use Rattle.sat_base.specs.Codes.{literal_of}
use Rattle.sat_solve.specs.Held.{Held, held_by}
use Rattle.sat_solve.specs.Search.{held_of}
use Rattle.sat_solve.specs.declared.pairs.Pair.{Pair}
use Rattle.sat_solve.specs.Watches.{IsPaired}
use Rattle.sat_solve.proofs.Signs.{sign_here}
use Rattle.sat_solve.proofs.HeldLemmas.{IsHeldAt, held_at, held_by-set}
use Rattle.sat_solve.proofs.Moves.{same_some}
use Rattle.sat_solve.proofs.SearchLemmas.{open_by, clause_of, IsState-forced}
use Rattle.sat_solve.proofs.Looks.{IsOther, other_then, other_else, in_clause, all_but, look_moved, other_in, held_known, code_known}
use Rattle.sat_solve.proofs.watches.look.Goals as goal
use Rattle.sat_solve.proofs.watches.look.Goals.{After-clause-codes, In-Some, In-None, then-pair-code, else-pair-code}

clause : (c : After-clause-codes) → Held
clause c = c.requires.fitting.0

at : (c : After-clause-codes) → slice_get (held_of c.args.cnf.now c.args.log.now c.args.watches.now.pairs) c.args.watch.clause ≡ Some (clause c)
unfolding clause
at c = c.requires.fitting.1

there : (c : After-clause-codes) → IsHeldAt c.args.watches.now.pairs (known_clauses c.args.cnf.now c.args.log.now) c.args.watch.clause (clause c)
there c = held_at c.args.watches.now.pairs (known_clauses c.args.cnf.now c.args.log.now) c.args.watch.clause (clause c) (at c)

paired : (c : After-clause-codes) → IsPaired (clause c)
paired c = c.requires.paired (clause c) (at c)

-- the pair that was read is the clause's
pair_is : (pairs : List Pair) (clauses : List (List Lit)) (k : ℕ) (h : Held) (p : Pair) → IsHeldAt pairs clauses k h → slice_get pairs k ≡ Some p → (p.first ≡ h.first) × (p.second ≡ h.second)
pair_is pairs clauses k h p held read =
    let same : p ≡ held.pair = same_some (slice_get pairs k) p held.pair read held.pair_at in
    (ap (λ (q : Pair). q.first) same ∙ held.first, ap (λ (q : Pair). q.second) same ∙ held.second)

other_is : (c : After-clause-codes) → IsOther (clause c) c.args.code c.if-pair-code.other
other_is c =
    let pair = pair_is c.args.watches.now.pairs (known_clauses c.args.cnf.now c.args.log.now) c.args.watch.clause (clause c) c.pair-pair.result (there c) c.pair-pair.ensures in
    elim c.if-pair-code.branch [
      | then-pair-code w ↦ other_then (clause c) c.args.code c.if-pair-code.other c.pair-pair.result.first c.pair-pair.result.second pair w.if-pair-code.true w.other-is
      | else-pair-code w ↦ other_else (clause c) c.args.code c.if-pair-code.other c.pair-pair.result.first c.pair-pair.result.second pair w.if-pair-code.false w.other-is
    ]

codes_are : (c : After-clause-codes) → map literal_of c.clause-codes.result.now ≡ (clause c).lits
codes_are c = same_some (slice_get (known_clauses c.args.cnf.now c.args.log.now) c.args.watch.clause) (map literal_of c.clause-codes.result.now) (clause c).lits c.clause-codes.ensures (there c).clause_at

other_among : (c : After-clause-codes) → Contains (clause c).lits (literal_of c.if-pair-code.other)
other_among c = other_in (clause c) c.args.code c.if-pair-code.other (paired c) (other_is c)

pub pair-pair-requires : goal.pair-pair-requires
pair-pair-requires c =
    let held = held_at c.args.watches.now.pairs (known_clauses c.args.cnf.now c.args.log.now) c.args.watch.clause c.requires.fitting.0 c.requires.fitting.1 in
    slice_get_within c.args.watches.now.pairs c.args.watch.clause held.pair held.pair_at

pub clause-codes-requires-clause-number : goal.clause-codes-requires-clause-number
clause-codes-requires-clause-number c =
    let held = held_at c.args.watches.now.pairs (known_clauses c.args.cnf.now c.args.log.now) c.args.watch.clause c.requires.fitting.0 c.requires.fitting.1 in
    slice_get_within (known_clauses c.args.cnf.now c.args.log.now) c.args.watch.clause c.requires.fitting.0.lits held.clause_at

pub from-from-requires : goal.from-from-requires
from-from-requires c =
    let held = held_at c.args.watches.now.pairs (known_clauses c.args.cnf.now c.args.log.now) c.args.watch.clause c.requires.fitting.0 c.requires.fitting.1 in
    slice_get_within c.args.watches.now.pairs c.args.watch.clause held.pair held.pair_at

pub push-requires : goal.push-requires
push-requires c =
    let here = (goal.at.push-requires c).After-clause-codes in
    let known = held_known c.args.cnf.now c.args.log.now c.args.trail.now (held_of c.args.cnf.now c.args.log.now c.args.watches.now.pairs) c.args.watch.clause (clause here) c.in-Some.next.code c.requires.state c.requires.lits (at here) (in_clause (clause here) c.clause-codes.result.now (codes_are here) c.in-Some.next.code (c.in-Some.ensures).0) in
    omega (arith, code_known c.in-Some.next.code c.args.trail.now.vars known, c.requires.sized)

pub watch_at-requires : goal.watch_at-requires
watch_at-requires c =
    let held = held_at c.args.watches.now.pairs (known_clauses c.args.cnf.now c.args.log.now) c.args.watch.clause c.requires.fitting.0 c.requires.fitting.1 in
    slice_get_within c.args.watches.now.pairs c.args.watch.clause held.pair held.pair_at

pub push-requires-in_default-truth-3 : goal.push-requires-in_default-truth-3
push-requires-in_default-truth-3 c =
    let here = (goal.at.push-requires-in_default-truth-3 c).After-clause-codes in
    let trail = c.args.trail.now in
    let known = held_known c.args.cnf.now c.args.log.now trail (held_of c.args.cnf.now c.args.log.now c.args.watches.now.pairs) c.args.watch.clause (clause here) c.if-pair-code.other c.requires.state c.requires.lits (at here) (other_among here) in
    record {
      known = subst (λ (x : Lit). x.var < trail.vars) (sym c.decode.ensures) known;
      fresh = subst (λ (x : Lit). sign_at trail.entries x.var ≡ None) (sym c.decode.ensures) (open_by trail.entries (literal_of c.if-pair-code.other) c.truth-truth.result c.truth-truth.ensures c.in_default-truth.not-True c.in_default-truth-3.not-False);
    }

pub returns-in_ok-push-in-Some : goal.returns-in_ok-push-in-Some
returns-in_ok-push-in-Some c =
    let here = (goal.at.returns-in_ok-push-in-Some c).After-clause-codes in
    let pairs = c.args.watches.now.pairs in
    let known = (known_clauses c.args.cnf.now c.args.log.now) in
    let held = held_by pairs known in
    let pair : Pair = record { first = c.if-pair-code.other; second = c.in-Some.next.code } in
    let held_is = ap (λ (ps : List Pair). held_by ps known) c.watch_at.ensures ∙ held_by-set pairs known c.args.watch.clause (clause here) pair (at here) in
    record {
      state = c.requires.state;
      looked = (refl, look_moved (clause here) c.clause-codes.result.now (codes_are here) c.args.trail.now.entries held (held_of c.args.cnf.now c.args.log.now c.watch_at.new.self) c.args.watches.now.lists c.push.new.self c.args.code c.args.watch.clause c.if-pair-code.other c.in-Some.next.code (at here) (paired here) (other_is here) c.in-Some.ensures held_is c.in_ok-push-in-Some.ensures);
      sized = ap (λ (ps : List Pair). length ps) c.watch_at.ensures ∙ length-set pairs c.args.watch.clause pair;
      head = refl;
    }

pub returns-in-False : goal.returns-in-False
returns-in-False c =
    let here = (goal.at.returns-in-False c).After-clause-codes in
    let trail = c.args.trail.now.entries in
    let falsified : IsFalseIn trail (literal_of c.if-pair-code.other) = subst (λ (t : Truth). IsTruth trail (literal_of c.if-pair-code.other) t) c.in-False.is c.truth-truth.ensures in
    record {
      state = c.requires.state;
      looked = (
        refl,
        refl,
        refl,
        λ h there x i.
            let same : clause here ≡ h = same_some (slice_get (held_of c.args.cnf.now c.args.log.now c.args.watches.now.pairs) c.args.watch.clause) (clause here) h (at here) there in
            ⊎_elim
            (λ (is : x ≡ literal_of c.if-pair-code.other). subst (λ y. IsFalseIn trail y) (sym is) falsified)
            (λ f. f)
            (all_but (clause here) c.clause-codes.result.now (codes_are here) trail c.if-pair-code.other c.in-None.ensures x (subst (λ (y : Held). Contains y.lits x) (sym same) i)),
      );
      sized = refl;
      head = refl;
    }

pub returns-in_ok-push-in_default-truth-3 : goal.returns-in_ok-push-in_default-truth-3
returns-in_ok-push-in_default-truth-3 c =
    let here = (goal.at.returns-in_ok-push-in_default-truth-3 c).After-clause-codes in
    let f = c.args.cnf.now in
    let log = c.args.log.now in
    let trail = c.args.trail.now in
    let k = c.args.watch.clause in
    let x = literal_of c.if-pair-code.other in
    let entry : Lit → Entry = λ l. record { lit = l; reason = Some k } in
    let after : c.push-in_default-truth-3.new.self ≡ record { vars = trail.vars; entries = entry x ∷ trail.entries } =
    c.in_ok-push-in_default-truth-3.ensures.after ∙ ap (λ (l : Lit). record { vars = trail.vars; entries = entry l ∷ trail.entries }) c.decode.ensures in
    let short : length trail.entries < trail.vars = subst (λ (t : TrailView). length t.entries ≤ t.vars) after c.in_ok-push-in_default-truth-3.ensures.small in
    let fresh : sign_at trail.entries x.var ≡ None = open_by trail.entries x c.truth-truth.result c.truth-truth.ensures c.in_default-truth.not-True c.in_default-truth-3.not-False in
    let unit : IsUnit trail.entries (clause here).lits x = record { own = other_among here; others = λ y i. all_but (clause here) c.clause-codes.result.now (codes_are here) trail.entries c.if-pair-code.other c.in-None.ensures y i } in
    let named = clause_of (held_of c.args.cnf.now c.args.log.now c.args.watches.now.pairs) (known_clauses f log) k (clause here) c.requires.lits (at here) in
    record {
      state = subst (λ (t : TrailView). IsState f log t) (sym after) (IsState-forced f log trail x k (clause here).lits c.requires.state named unit fresh short);
      looked = (
        refl,
        refl,
        refl,
        (clause here, at here, other_among here),
        λ h there.
            let same : clause here ≡ h = same_some (slice_get (held_of c.args.cnf.now c.args.log.now c.args.watches.now.pairs) k) (clause here) h (at here) there in
            (x, subst (λ (y : Held). Contains y.lits x) same (other_among here), subst (λ (t : TrailView). IsTrueIn t.entries x) (sym after) (sign_here (entry x) trail.entries x.var refl)),
        inr (x, k, ap (λ (t : TrailView). t.entries) after),
      );
      sized = refl;
      head = refl;
    }

pub returns-in-True-truth-2 : goal.returns-in-True-truth-2
returns-in-True-truth-2 c =
    let here = (goal.at.returns-in-True-truth-2 c).After-clause-codes in
    let among = in_clause (clause here) c.clause-codes.result.now (codes_are here) c.in-Some.next.code (c.in-Some.ensures).0 in
    record {
      state = c.requires.state;
      looked = (
        refl,
        refl,
        refl,
        (clause here, at here, among),
        λ h there.
            let same : clause here ≡ h = same_some (slice_get (held_of c.args.cnf.now c.args.log.now c.args.watches.now.pairs) c.args.watch.clause) (clause here) h (at here) there in
            (literal_of c.in-Some.next.code, subst (λ (y : Held). Contains y.lits (literal_of c.in-Some.next.code)) same among, c.in-True-truth-2.ensures),
        inl refl,
      );
      sized = refl;
      head = refl;
    }

pub returns-in-True-truth : goal.returns-in-True-truth
returns-in-True-truth c =
    let pairs = c.args.watches.now.pairs in
    let known = known_clauses c.args.cnf.now c.args.log.now in
    let k = c.args.watch.clause in
    let h = c.requires.fitting.0 in
    let here : slice_get (held_by pairs known) k ≡ Some h = c.requires.fitting.1 in
    let other = c.if-pair-code.other in
    let pair = pair_is pairs known k h c.pair-pair.result (held_at pairs known k h here) c.pair-pair.ensures in
    let is : IsOther h c.args.code other =
    elim c.if-pair-code.branch [
      | then-pair-code w ↦ other_then h c.args.code other c.pair-pair.result.first c.pair-pair.result.second pair w.if-pair-code.true w.other-is
      | else-pair-code w ↦ other_else h c.args.code other c.pair-pair.result.first c.pair-pair.result.second pair w.if-pair-code.false w.other-is
    ] in
    let among = other_in h c.args.code other (c.requires.paired h here) is in
    let holds : IsTrueIn c.args.trail.now.entries (literal_of other) = subst (λ (t : Truth). IsTruth c.args.trail.now.entries (literal_of other) t) c.in-True-truth.is c.truth-truth.ensures in
    record {
      state = c.requires.state;
      looked = (
        refl,
        refl,
        refl,
        (h, here, among),
        λ g at_g.
            let same : h ≡ g = same_some (slice_get (held_by pairs known) k) h g here at_g in
            (literal_of other, subst (λ (y : Held). Contains y.lits (literal_of other)) same among, holds),
        inl refl,
      );
      sized = refl;
      head = refl;
    }
