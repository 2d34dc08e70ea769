-- The state of a search with its watches, step by step.
use Rattle.std.proofs.Common.{◌≡◌, ℕ, zero, suc, ◌+◌, ◌-◌, ◌*◌, ◌<◌, ◌≤◌, ◌^◌, false, not, List, [], ◌∷◌, ◌++◌, length, drop, get_or, map, replicate, ◌⊎◌, inl, inr, ⊎_elim, Option, Some, None, IsSome, refl, sym, ap, ◌∙◌, subst, arith}
use Rattle.std.specs.List.{Contains, slice_get}
use Rattle.std.specs.Option.{option_map, is_some}
use Rattle.std.proofs.lemmas.List.{drop-drop, drop_all, length-drop, length_push, length-replicate}
use Rattle.std.proofs.lemmas.List.Elements.{All-contains, Contains-get_or}
use Rattle.std.proofs.lemmas.Option.{slice_get_within, slice_get-map}
use Rattle.sat_base.specs.declared.literals.Lit.{Lit}
use Rattle.sat_base.specs.declared.logs.Lemma.{Lemma}
use Rattle.sat_base.specs.Formula.{Formula, IsClauseOver}
use Rattle.sat_base.specs.Log.{HasEachVariableOnce}
use Rattle.sat_base.specs.Propagation.{Follows}
use Rattle.sat_solve.specs.declared.trail.Entry.{Entry}
use Rattle.sat_solve.specs.declared.trail.Truth.{Truth}
use Rattle.sat_solve.specs.declared.trail.Truth.TheVariants.{True, False, Open}
use Rattle.sat_solve.specs.declared.lists.Watch.{Watch}
use Rattle.sat_solve.specs.declared.pairs.Pair.{Pair}
use Rattle.sat_solve.specs.Trail.{sign_at, IsFalseIn, IsUnit, IsClosed, IsSound}
use Rattle.sat_solve.specs.Kept.{TrailView}
use Rattle.sat_solve.specs.State.{known_clauses, IsState}
use Rattle.sat_solve.specs.Decisions.{IsDecisionAt, IsUndecided}
use Rattle.sat_base.specs.Codes.{literal_of, code_of}
use Rattle.sat_solve.specs.Truth.{IsTruth}
use Rattle.sat_solve.specs.Held.{Held, held_by}
use Rattle.sat_solve.specs.Lesson.{IsBound, IsForcedFrom, IsLesson, IsTaught}
use Rattle.sat_solve.specs.Watches.{HasTrue, IsKept, IsPaired, oldest, IsWatched, IsAdded}
use Rattle.sat_solve.specs.Search.{held_of, IsSearch, IsLoaded}
use Rattle.sat_solve.proofs.Signs.{Contains-head, Contains-tail, Contains-cases, Contains-none, sign_here}
use Rattle.sat_base.proofs.CodeLemmas.{literal_of_code, code_below}
use Rattle.sat_solve.proofs.Places.{IsSound-drop, none_from, slice_get-drop}
use Rattle.sat_solve.proofs.LogLemmas.{slice_get-left, slice_get-push, known_clauses-push}
use Rattle.sat_solve.proofs.StateLemmas.{length-known, all_at}
use Rattle.sat_solve.proofs.HeldLemmas.{held_with, held_by-next, held_by-more}
use Rattle.sat_solve.proofs.Forced.{IsState-learnt, no_reason}
use Rattle.sat_solve.proofs.Watching.{oldest-push, oldest-all, IsWatched-push, IsWatched-back}
use Rattle.sat_solve.proofs.Moves.{IsHeldAdded, held_added, IsWatched-added}

-- a literal with a truth that is neither is over a variable without a value
pub open_by : (trail : List Entry) (x : Lit) (t : Truth) → IsTruth trail x t → (t ≡ True → ⊥) → (t ≡ False → ⊥) → sign_at trail x.var ≡ None
open_by trail x True h a b = absurd (a refl)
open_by trail x False h a b = absurd (b refl)
open_by trail x Open h a b = h

-- a clause by its number
pub clause_of : (held : List Held) (clauses : List (List Lit)) (k : ℕ) (h : Held) → map (λ (y : Held). y.lits) held ≡ clauses → slice_get held k ≡ Some h → slice_get clauses k ≡ Some h.lits
clause_of held clauses k h is at = ap (λ cs. slice_get cs k) (sym is) ∙ slice_get-map (λ (y : Held). y.lits) held k ∙ ap (λ (o : Option Held). option_map (λ (y : Held). y.lits) o) at

-- The trail goes on with what a clause forces.
pub IsState-forced : (f : Formula) (log : List Lemma) (trail : TrailView) (l : Lit) (k : ℕ) (c : List Lit) → IsState f log trail → slice_get (known_clauses f log) k ≡ Some c → IsUnit trail.entries c l → sign_at trail.entries l.var ≡ None → length trail.entries < trail.vars → IsState f log (record { vars = trail.vars; entries = record { lit = l; reason = Some k } ∷ trail.entries })
IsState-forced f log trail l k c s at unit fresh short = record {
  vars = s.vars;
  short = omega (arith, short);
  known = s.known;
  numbered = s.numbered;
  logged = s.logged;
  sound = (record { fresh = fresh; cause = (c, at, unit) }, s.sound);
}

pub IsState-back : (f : Formula) (log : List Lemma) (trail : TrailView) (back : ℕ) → IsState f log trail → IsState f log (record { vars = trail.vars; entries = drop back trail.entries })
IsState-back f log trail back s = record {
  vars = s.vars;
  short = omega (arith, s.short, length-drop back trail.entries);
  known = s.known;
  numbered = s.numbered;
  logged = s.logged;
  sound = IsSound-drop (known_clauses f log) trail.entries back s.sound;
}

-- cut below a decision
pub IsSearch-back : (f : Formula) (log : List Lemma) (trail : TrailView) (pairs : List Pair) (lists : List (List Watch)) (head back k : ℕ) → back ≡ k + 1 → IsDecisionAt trail.entries k → IsSearch f log trail pairs lists head → IsSearch f log (record { vars = trail.vars; entries = drop back trail.entries }) pairs lists (length (drop back trail.entries))
IsSearch-back f log trail pairs lists head back k is decided s = record {
  state = IsState-back f log trail back s.state;
  small = s.small;
  paired = s.paired;
  watched = IsWatched-back trail.vars trail.entries head (held_of f log pairs) lists back k is decided s.watched;
}

-- the codes of a clause's literals are within the lists
pub codes_within : (vars n : ℕ) (lits : List Lit) → IsClauseOver vars lits → n ≡ 2 * vars → (x : Lit) → Contains lits x → code_of x < n
codes_within vars n lits known is x h = omega (arith, code_below x vars (All-contains (λ (l : Lit). l.var < vars) lits x known h), is)

-- the lists of both literals of a variable
pub lists_hold : (vars n : ℕ) (lits : List Lit) → IsClauseOver vars lits → n ≡ 2 * vars → (x : Lit) → Contains lits x → 2 * x.var + 1 < n
lists_hold vars n lits known is x h = omega (arith, All-contains (λ (l : Lit). l.var < vars) lits x known h, is)

-- the literal at which a lemma is watched besides its first
abbrev pub IsSecond : List Lit → Lit → Lit → Type 0
IsSecond lits first second = ((length lits ≤ 1) × (second ≡ first)) ⊎ ((1 < length lits) × (second ≡ get_or lits 1 record { var = 0; negative = false }))

pub second_among : (lits : List Lit) (first second : Lit) → Contains lits first → IsSecond lits first second → Contains lits second
second_among lits first second in_first is = ⊎_elim
    (λ one. subst (λ x. Contains lits x) (sym one.1) in_first)
    (λ two. subst (λ x. Contains lits x) (sym two.1) (Contains-get_or lits 1 record { var = 0; negative = false } two.0))
    is

module _ (clauses : List (List Lit)) (trail : List Entry) (sound : IsSound clauses trail) (start back : ℕ) (lits : List Lit) (f : IsForcedFrom trail start back (length trail) lits) (once : HasEachVariableOnce lits) (second : Lit) (is_second : IsSecond lits f.point second) where
  point_in : Contains lits f.point
  point_in = subst (λ ls. Contains ls f.point) (sym f.lits_are) (Contains-head f.rest f.point)

  second_by : (rest : List Lit) → lits ≡ f.point ∷ rest → ((rest ≡ []) × (second ≡ f.point)) ⊎ ((y : Lit) × (more : List Lit) × (rest ≡ y ∷ more) × (second ≡ y))
  second_by [] are = inl (refl, ⊎_elim (λ one. one.1) (λ two. absurd (let n : length lits ≡ 1 = ap length are in omega (arith, n, two.0))) is_second)
  second_by (y ∷ more) are = inr (y, more, refl, ⊎_elim (λ one. absurd (let n : length lits ≡ suc (suc (length more)) = ap length are in omega (arith, n, one.0))) (λ two. two.1 ∙ ap (λ (ls : List Lit). get_or ls 1 record { var = 0; negative = false }) are) is_second)

  apart_by : (y : Lit) (more : List Lit) → f.rest ≡ y ∷ more → f.point ≡ y → ⊥
  apart_by y more is same =
      let all : lits ≡ f.point ∷ y ∷ more = f.lits_are ∙ ap (λ ls. f.point ∷ ls) is in
      let pair : HasEachVariableOnce (f.point ∷ y ∷ more) = subst HasEachVariableOnce all once in
      pair 0 1 y (omega arith) (omega arith) (ap (λ (l : Lit). l.var) same)

  second_in : Contains lits second
  second_in = ⊎_elim
      (λ one. subst (λ x. Contains lits x) (sym one.1) point_in)
      (λ two. subst (λ x. Contains lits x) (sym two.3) (subst (λ ls. Contains ls two.0) (sym (f.lits_are ∙ ap (λ ls. f.point ∷ ls) two.2)) (Contains-tail (two.0 ∷ two.1) f.point two.0 (Contains-head two.1 two.0))))
      (second_by f.rest f.lits_are)

  alone : f.point ≡ second → (x : Lit) → Contains lits x → x ≡ f.point
  alone same x h = ⊎_elim
      (λ one. ⊎_elim (λ is. is) (λ in_rest. absurd (Contains-none x (subst (λ ls. Contains ls x) one.0 in_rest))) (Contains-cases f.rest f.point x (subst (λ ls. Contains ls x) f.lits_are h)))
      (λ two. absurd (apart_by two.0 two.1 two.2 (same ∙ two.3)))
      (second_by f.rest f.lits_are)

  bound_empty : (rest : List Lit) → rest ≡ [] → IsBound trail back (length trail) rest → (k : ℕ) → back ≤ k → IsDecisionAt trail k → ⊥
  bound_empty [] is b k le d = no_reason d.0 d.0 k trail d.1 d.1 d.2 (b k d.0 le (slice_get_within trail k d.0 d.1) d.1)
  bound_empty (y ∷ more) is b k le d = cc

  bound_second : (rest : List Lit) (y : Lit) (more : List Lit) → rest ≡ y ∷ more → IsBound trail back (length trail) rest → (k : ℕ) → back ≤ k → IsDecisionAt trail k → sign_at (drop (k + 1) trail) y.var ≡ None
  bound_second [] y more is b k le d = cc
  bound_second (z ∷ rest) y more is b k le d = let same : z ≡ y = cc in subst (λ (x : Lit). sign_at (drop (k + 1) trail) x.var ≡ None) same (b k le d)

  second_open : (k : ℕ) → back ≤ k → IsDecisionAt trail k → (sign_at (drop (k + 1) trail) second.var ≡ None) × (f.point ≡ second → ⊥)
  second_open k le d = ⊎_elim
      (λ one. absurd (bound_empty f.rest one.0 f.bound k le d))
      (λ two. (subst (λ (x : Lit). sign_at (drop (k + 1) trail) x.var ≡ None) (sym two.3) (bound_second f.rest two.0 two.1 two.2 f.bound k le d), λ same. apart_by two.0 two.1 two.2 (same ∙ two.3)))
      (second_by f.rest f.lits_are)

  not_false : (t : List Entry) (x : Lit) → sign_at t x.var ≡ None → IsFalseIn t (literal_of (code_of x)) → ⊥
  not_false t x none h = let k : None ≡ Some (not x.negative) = sym none ∙ subst (λ y. IsFalseIn t y) (literal_of_code x) h in cc

  same_literal : code_of f.point ≡ code_of second → f.point ≡ second
  same_literal h = sym (literal_of_code f.point) ∙ ap literal_of h ∙ literal_of_code second

  held : Held
  held = record { lits = lits; first = code_of f.point; second = code_of second }

  pub lesson_paired : IsPaired record { lits = lits; first = code_of f.point; second = code_of second }
  lesson_paired = record {
    first_in = subst (λ x. Contains lits x) (sym (literal_of_code f.point)) point_in;
    second_in = subst (λ x. Contains lits x) (sym (literal_of_code second)) second_in;
    alone = λ same x h. alone (same_literal same) x h ∙ sym (literal_of_code f.point);
  }

  -- with the point on the trail
  module _ (n : ℕ) where
    forced_true : HasTrue (record { lit = f.point; reason = Some n } ∷ drop back trail) lits
    forced_true = (f.point, point_in, sign_here record { lit = f.point; reason = Some n } (drop back trail) f.point.var refl)

    pub lesson_kept : (done : List Entry) → done ≡ drop back trail → IsKept (record { lit = f.point; reason = Some n } ∷ drop back trail) done record { lits = lits; first = code_of f.point; second = code_of second }
    lesson_kept done is = record {
      one = λ h. forced_true;
      two = λ h. forced_true;
      single = λ h. forced_true;
    }

    kept_there : (k : ℕ) → back ≤ k → IsDecisionAt trail k → IsKept (drop (k + 1) trail) (drop (k + 1) trail) record { lits = lits; first = code_of f.point; second = code_of second }
    kept_there k le d = record {
      one = λ h. absurd (not_false (drop (k + 1) trail) f.point (none_from clauses trail start (k + 1) f.point.var sound (omega (arith, f.ordered, le)) f.point_open) h);
      two = λ h. absurd (not_false (drop (k + 1) trail) second (second_open k le d).0 h);
      single = λ same. absurd ((second_open k le d).1 (same_literal same));
    }

    pub lesson_below : (m : ℕ) → IsDecisionAt (record { lit = f.point; reason = Some n } ∷ drop back trail) m → IsKept (drop (m + 1) (record { lit = f.point; reason = Some n } ∷ drop back trail)) (drop (m + 1) (record { lit = f.point; reason = Some n } ∷ drop back trail)) record { lits = lits; first = code_of f.point; second = code_of second }
    lesson_below zero d = absurd (let same : record { lit = f.point; reason = Some n } ≡ d.0 = let e : Some record { lit = f.point; reason = Some n } ≡ Some d.0 = d.1 in cc in let k : Some n ≡ None = ap (λ (y : Entry). y.reason) same ∙ d.2 in cc)
    lesson_below (suc m) d =
        let there : IsDecisionAt trail (back + m) = (d.0, sym (slice_get-drop trail back m) ∙ d.1, d.2) in
        let one : suc (m + 1) ≡ suc m + 1 = omega arith in
        let two : back + (m + 1) ≡ (back + m) + 1 = omega arith in
        let same : drop (m + 1) (drop back trail) ≡ drop ((back + m) + 1) trail = drop-drop (m + 1) back trail ∙ ap (λ j. drop j trail) two in
        subst (λ j. IsKept (drop j (record { lit = f.point; reason = Some n } ∷ drop back trail)) (drop j (record { lit = f.point; reason = Some n } ∷ drop back trail)) record { lits = lits; first = code_of f.point; second = code_of second }) one
        (subst (λ t. IsKept t t record { lits = lits; first = code_of f.point; second = code_of second }) (sym same) (kept_there (back + m) (omega arith) there))

-- what is held with the pair of the next clause
next_held : (pairs pairs' : List Pair) (clauses : List (List Lit)) (lists lists' : List (List Watch)) (lits : List Lit) (first second : Lit) → slice_get clauses (length pairs) ≡ Some lits → IsAdded pairs pairs' lists lists' first second → held_by pairs' clauses ≡ held_by pairs clauses ++ held_with lits record { first = code_of first; second = code_of second } ∷ []
next_held pairs pairs' clauses lists lists' lits first second at added =
    ap (λ (ps : List Pair). held_by ps clauses) added.pairs_are ∙ held_by-next pairs clauses lits record { first = code_of first; second = code_of second } at

one_more_pair : (pairs pairs' : List Pair) (lists lists' : List (List Watch)) (first second : Lit) → IsAdded pairs pairs' lists lists' first second → length pairs' ≡ length pairs + 1
one_more_pair pairs pairs' lists lists' first second added = ap (λ (ps : List Pair). length ps) added.pairs_are ∙ length_push pairs record { first = code_of first; second = code_of second }

-- a lemma is added to the clauses that are held
learnt_held : (f : Formula) (log : List Lemma) (s : Lemma) (pairs pairs' : List Pair) (lists lists' : List (List Watch)) (first second : Lit) → length pairs ≡ length (known_clauses f log) → IsAdded pairs pairs' lists lists' first second → IsHeldAdded (held_of f log pairs) (held_of f (log ++ s ∷ []) pairs') lists lists' s.lits first second
learnt_held f log s pairs pairs' lists lists' first second paired added =
    let clauses = known_clauses f log in
    let clauses' = clauses ++ s.lits ∷ [] in
    let few : length pairs ≤ length clauses = omega (arith, paired) in
    let at : slice_get clauses' (length pairs) ≡ Some s.lits = ap (λ (n : ℕ). slice_get clauses' n) paired ∙ slice_get-push clauses s.lits in
    let held_is = next_held pairs pairs' clauses' lists lists' s.lits first second at added
    ∙ ap (λ (hs : List Held). hs ++ held_with s.lits record { first = code_of first; second = code_of second } ∷ []) (held_by-more pairs clauses (s.lits ∷ []) few) in
    held_added pairs pairs' clauses (known_clauses f (log ++ s ∷ [])) lists lists' s.lits first second few (ap (λ (cs : List (List Lit)). held_by pairs' cs) (known_clauses-push f log s) ∙ held_is) added

-- The search behind a lemma, which is watched at its point and at the literal of the next level.
pub IsSearch-learnt : (f : Formula) (log : List Lemma) (trail : TrailView) (pairs pairs' : List Pair) (lists lists' : List (List Watch)) (head : ℕ) (s : Lemma) (back : ℕ) (l second : Lit) (n : ℕ) → IsSearch f log trail pairs lists head → IsClauseOver trail.vars s.lits → HasEachVariableOnce s.lits → Follows (known_clauses f log) s.lits s.hints → (lesson : IsLesson (known_clauses f log) trail.entries s.lits back) → l ≡ lesson.forced.point → IsSecond s.lits l second → IsAdded pairs pairs' lists lists' l second → n ≡ length f.clauses + length log → n + 1 < 2 ^ 64 → length (drop back trail.entries) < trail.vars → IsSearch f (log ++ s ∷ []) (record { vars = trail.vars; entries = record { lit = l; reason = Some n } ∷ drop back trail.entries }) pairs' lists' (length (drop back trail.entries))
IsSearch-learnt f log trail pairs pairs' lists lists' head s back l second n search known once follows lesson is is_second added number small short =
    let held = held_of f log pairs in
    let held' = held_of f (log ++ s ∷ []) pairs' in
    let held_more : IsHeldAdded held held' lists lists' s.lits l second = learnt_held f log s pairs pairs' lists lists' l second search.paired added in
    let t = trail.entries in
    let at = lesson.forced in
    let clauses = known_clauses f log in
    let sound = search.state.sound in
    let older = drop back t in
    let sec : IsSecond s.lits at.point second = subst (λ (x : Lit). IsSecond s.lits x second) is is_second in
    let add : IsHeldAdded held held' lists lists' s.lits at.point second = subst (λ (x : Lit). IsHeldAdded held held' lists lists' s.lits x second) is held_more in
    let below : IsWatched trail.vars older (length older) held lists = IsWatched-back trail.vars t head held lists back at.decision.0 at.decision.1 at.decision.2 search.watched in
    let fresh : sign_at older at.point.var ≡ None = none_from clauses t lesson.start back at.point.var sound at.ordered at.point_open in
    let e : Entry = record { lit = at.point; reason = Some n } in
    let pushed : IsWatched trail.vars (record { lit = at.point; reason = Some n } ∷ older) (length older) held lists = IsWatched-push trail.vars record { lit = at.point; reason = Some n } older (length older) held lists fresh (λ none. cc) below in
    let done : oldest (length older) (record { lit = at.point; reason = Some n } ∷ older) ≡ older = oldest-push (length older) record { lit = at.point; reason = Some n } older (omega arith) ∙ oldest-all (length older) older refl in
    let paired = lesson_paired clauses t sound lesson.start back s.lits at once second sec in
    let in_first : code_of at.point < length lists = codes_within trail.vars (length lists) s.lits known search.watched.sized at.point (subst (λ x. Contains s.lits x) (literal_of_code at.point) paired.first_in) in
    let in_second : code_of second < length lists = codes_within trail.vars (length lists) s.lits known search.watched.sized second (subst (λ x. Contains s.lits x) (literal_of_code second) paired.second_in) in
    let watched : IsWatched trail.vars (record { lit = at.point; reason = Some n } ∷ older) (length older) held' lists' = IsWatched-added trail.vars (record { lit = at.point; reason = Some n } ∷ older) (length older) held held' lists lists' s.lits at.point second add in_first in_second paired
    (lesson_kept clauses t sound lesson.start back s.lits at once second sec n (oldest (length older) (record { lit = at.point; reason = Some n } ∷ older)) done)
    (lesson_below clauses t sound lesson.start back s.lits at once second sec n)
    pushed in
    record {
      state = IsState-learnt f log trail s back l n search.state known once follows lesson is number small short;
      small = search.small;
      paired = omega (arith, one_more_pair pairs pairs' lists lists' l second added, search.paired, ap (λ (cs : List (List Lit)). length cs) (known_clauses-push f log s), length_push (known_clauses f log) s.lits);
      watched = subst (λ (x : Lit). IsWatched trail.vars (record { lit = x; reason = Some n } ∷ older) (length older) held' lists') (sym is) watched;
    }

-- a clause that is loaded is over the formula's variables
loaded_over : (f : Formula) (trail : TrailView) (pairs : List Pair) (lists : List (List Watch)) (head number : ℕ) (lits : List Lit) → IsLoaded f trail pairs lists head number → slice_get f.clauses number ≡ Some lits → IsClauseOver trail.vars lits
loaded_over f trail pairs lists head number lits loaded at = subst (λ n. IsClauseOver n lits) (sym loaded.state.vars) (all_at (IsClauseOver f.vars) f.clauses number lits at loaded.state.known)

pub loaded_lists : (f : Formula) (trail : TrailView) (pairs : List Pair) (lists : List (List Watch)) (head number : ℕ) (lits : List Lit) → IsLoaded f trail pairs lists head number → slice_get f.clauses number ≡ Some lits → (x : Lit) → Contains lits x → 2 * x.var + 1 < length lists
loaded_lists f trail pairs lists head number lits loaded at x h = lists_hold trail.vars (length lists) lits (loaded_over f trail pairs lists head number lits loaded at) loaded.watched.sized x h

-- A clause of the formula is loaded.
pub IsLoaded-added : (f : Formula) (trail : TrailView) (pairs pairs' : List Pair) (lists lists' : List (List Watch)) (head number : ℕ) (lits : List Lit) (first second : Lit) → IsLoaded f trail pairs lists head number → slice_get f.clauses number ≡ Some lits → IsAdded pairs pairs' lists lists' first second → Contains lits first → Contains lits second → (first ≡ second → (x : Lit) → Contains lits x → x ≡ first) → (first ≡ second → HasTrue trail.entries lits) → IsLoaded f trail pairs' lists' head (number + 1)
IsLoaded-added f trail pairs pairs' lists lists' head number lits first second loaded at pair_added in_first in_second alone single =
    let known = known_clauses f [] in
    let held = held_of f [] pairs in
    let held' = held_of f [] pairs' in
    let at_known : slice_get known (length pairs) ≡ Some lits = ap (λ (n : ℕ). slice_get known n) loaded.paired ∙ slice_get-left f.clauses [] number lits at in
    let few : length pairs ≤ length known = omega (arith, slice_get_within known (length pairs) lits at_known) in
    let added : IsHeldAdded held held' lists lists' lits first second = held_added pairs pairs' known known lists lists' lits first second few (next_held pairs pairs' known lists lists' lits first second at_known pair_added) pair_added in
    let over : IsClauseOver trail.vars lits = loaded_over f trail pairs lists head number lits loaded at in
    let same : code_of first ≡ code_of second → first ≡ second = λ h. sym (literal_of_code first) ∙ ap literal_of h ∙ literal_of_code second in
    record {
      state = loaded.state;
      small = loaded.small;
      undecided = loaded.undecided;
      within = omega (arith, slice_get_within f.clauses number lits at);
      paired = omega (arith, one_more_pair pairs pairs' lists lists' first second pair_added, loaded.paired);
      start = loaded.start;
      watched = IsWatched-added trail.vars trail.entries head held held' lists lists' lits first second added
          (codes_within trail.vars (length lists) lits over loaded.watched.sized first in_first)
          (codes_within trail.vars (length lists) lits over loaded.watched.sized second in_second)
          record {
            first_in = subst (λ x. Contains lits x) (sym (literal_of_code first)) in_first;
            second_in = subst (λ x. Contains lits x) (sym (literal_of_code second)) in_second;
            alone = λ h x i. alone (same h) x i ∙ sym (literal_of_code first);
          }
          record {
            one = λ h. absurd (nothing_false head trail.entries (literal_of (code_of first)) loaded.start h);
            two = λ h. absurd (nothing_false head trail.entries (literal_of (code_of second)) loaded.start h);
            single = λ h. single (same h);
          }
          (λ m d. absurd (no_reason d.0 d.0 m trail.entries d.1 d.1 d.2 (loaded.undecided m d.0 (omega arith) (slice_get_within trail.entries m d.0 d.1) d.1)))
          loaded.watched;
    }
  where
    nothing_false : (n : ℕ) (t : List Entry) (x : Lit) → n ≡ 0 → IsFalseIn (oldest n t) x → ⊥
    nothing_false n t x is h =
        let m : length t ≤ length t - n = omega (arith, is) in
        let k : None ≡ Some (not x.negative) = ap (λ s. sign_at s x.var) (sym (drop_all (length t - n) t m)) ∙ h in
        cc

-- A clause of one literal forces it.
pub IsLoaded-forced : (f : Formula) (trail : TrailView) (pairs : List Pair) (lists : List (List Watch)) (head number : ℕ) (lits : List Lit) (first : Lit) → IsLoaded f trail pairs lists head number → slice_get f.clauses number ≡ Some lits → Contains lits first → ((x : Lit) → Contains lits x → x ≡ first) → sign_at trail.entries first.var ≡ None → length trail.entries < trail.vars → IsLoaded f (record { vars = trail.vars; entries = record { lit = first; reason = Some number } ∷ trail.entries }) pairs lists head number
IsLoaded-forced f trail pairs lists head number lits first loaded at among alone fresh short = record {
  state = IsState-forced f [] trail first number lits loaded.state (slice_get-left f.clauses [] number lits at) record { own = among; others = λ x h. inl (alone x h) } fresh short;
  small = loaded.small;
  undecided = undecided;
  within = loaded.within;
  paired = loaded.paired;
  start = loaded.start;
  watched = IsWatched-push trail.vars record { lit = first; reason = Some number } trail.entries head (held_of f [] pairs) lists fresh (λ none. cc) loaded.watched;
}
  where
    undecided : IsUndecided (record { lit = first; reason = Some number } ∷ trail.entries) 0 (suc (length trail.entries))
    undecided zero e low high here = let same : record { lit = first; reason = Some number } ≡ e = let h : Some record { lit = first; reason = Some number } ≡ Some e = here in cc in subst (λ (y : Entry). IsSome y.reason) same refl
    undecided (suc k) e low high here = loaded.undecided k e (omega arith) (omega (arith, high)) here

-- no clause has been loaded
pub IsLoaded-start : (f : Formula) (trail : TrailView) (pairs : List Pair) (lists : List (List Watch)) (head : ℕ) → IsState f [] trail → trail.vars < 2 ^ 31 → trail.entries ≡ [] → pairs ≡ [] → lists ≡ replicate (2 * trail.vars) [] → head ≡ 0 → IsLoaded f trail pairs lists head 0
IsLoaded-start f trail pairs lists head state small empty none new start = record {
  state = state;
  small = small;
  undecided = λ k e low high at. absurd (let n : length trail.entries ≡ 0 = ap (λ (es : List Entry). length es) empty in omega (arith, n, high));
  within = omega arith;
  paired = ap (λ (ps : List Pair). length ps) none;
  start = start;
  watched = record {
    sized = ap (λ (ls : List (List Watch)). length ls) new ∙ length-replicate (2 * trail.vars) [];
    within = omega (arith, start);
    each = λ k h at. absurd (not_held k h (sym (ap (λ (ps : List Pair). slice_get (held_of f [] ps) k) none) ∙ at));
    fitting = λ code w h. absurd (Contains-none w (subst (λ (l : List Watch). Contains l w) (ap (λ (ls : List (List Watch)). get_or ls code []) new ∙ empty_list (2 * trail.vars) code) h));
  };
}
  where
    not_held : (k : ℕ) (h : Held) → None ≡ Some h → ⊥
    not_held k h e = cc

    empty_list : (n code : ℕ) → ◌≡◌ {A = List Watch} (get_or (replicate n []) code []) []
    empty_list zero code = refl
    empty_list (suc n) zero = refl
    empty_list (suc n) (suc code) = empty_list n code

-- all clauses of the formula have been loaded
pub IsSearch-loaded : (f : Formula) (trail : TrailView) (pairs : List Pair) (lists : List (List Watch)) (head number : ℕ) → IsLoaded f trail pairs lists head number → number ≡ length f.clauses → IsSearch f [] trail pairs lists head
IsSearch-loaded f trail pairs lists head number loaded all = record {
  state = loaded.state;
  small = loaded.small;
  paired = let n : length (known_clauses f []) ≡ length f.clauses + 0 = length-known f [] in omega (arith, loaded.paired, all, n);
  watched = loaded.watched;
}

pub decided_by : (o : Option ℕ) → is_some o ≡ false → o ≡ None
decided_by None h = refl
decided_by (Some r) h = cc

-- a decision, where propagation has ended
pub IsSearch-decided : (f : Formula) (log : List Lemma) (trail : TrailView) (pairs : List Pair) (lists : List (List Watch)) (head : ℕ) (l : Lit) → IsSearch f log trail pairs lists head → IsClosed (known_clauses f log) trail.entries → head ≡ length trail.entries → sign_at trail.entries l.var ≡ None → length trail.entries < trail.vars → IsSearch f log (record { vars = trail.vars; entries = record { lit = l; reason = None } ∷ trail.entries }) pairs lists head
IsSearch-decided f log trail pairs lists head l s closed all fresh short = record {
  state = record {
    vars = s.state.vars;
    short = omega (arith, short);
    known = s.state.known;
    numbered = s.state.numbered;
    logged = s.state.logged;
    sound = (record { fresh = fresh; cause = closed }, s.state.sound);
  };
  small = s.small;
  paired = s.paired;
  watched = IsWatched-push trail.vars record { lit = l; reason = None } trail.entries head (held_of f log pairs) lists fresh (λ none. all) s.watched;
}

pub lesson_some : (clauses : List (List Lit)) (trail : List Entry) (lits : List Lit) (back : ℕ) → IsTaught clauses trail lits back → (lits ≡ [] → ⊥) → IsLesson clauses trail lits back
lesson_some clauses trail lits back taught some = ⊎_elim (λ none. absurd (some none)) (λ h. h) taught

suc_times : (a b : ℕ) → suc a * b ≡ a * b + b
suc_times a b = grind arith

pub measure_learnt : (budget n r vars m m' : ℕ) → n < budget → r ≤ n → m' ≤ vars → ((budget - (n + 1)) + (budget - r)) * (vars + 1) + (vars - m') < ((budget - n) + (budget - r)) * (vars + 1) + (vars - m)
measure_learnt budget n r vars m m' low few short =
    let one : (budget - n) + (budget - r) ≡ suc ((budget - (n + 1)) + (budget - r)) = omega (arith, low) in
    let more : ((budget - n) + (budget - r)) * (vars + 1) ≡ ((budget - (n + 1)) + (budget - r)) * (vars + 1) + (vars + 1) = ap (λ x. x * (vars + 1)) one ∙ suc_times ((budget - (n + 1)) + (budget - r)) (vars + 1) in
    omega (arith, more)

pub measure_restarted : (budget n r vars m m' : ℕ) → r < budget → ((budget - n) + (budget - (r + 1))) * (vars + 1) + (vars - m') < ((budget - n) + (budget - r)) * (vars + 1) + (vars - m)
measure_restarted budget n r vars m m' low =
    let one : (budget - n) + (budget - r) ≡ suc ((budget - n) + (budget - (r + 1))) = omega (arith, low) in
    let more : ((budget - n) + (budget - r)) * (vars + 1) ≡ ((budget - n) + (budget - (r + 1))) * (vars + 1) + (vars + 1) = ap (λ x. x * (vars + 1)) one ∙ suc_times ((budget - n) + (budget - (r + 1))) (vars + 1) in
    omega (arith, more)
