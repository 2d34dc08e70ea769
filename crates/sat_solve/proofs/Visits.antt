-- A visit to the clauses that are watched at a literal, watch by watch, the last one first.
use Rattle.std.proofs.Common.{◌≡◌, ◌≢◌, ℕ, suc, ◌+◌, ◌-◌, ◌*◌, ◌<◌, ◌≤◌, ◌^◌, not, List, [], ◌∷◌, ◌++◌, length, set, get_or, map, ◌⊎◌, ⊎_elim, Some, None, sym, ap, ◌∙◌, subst, arith}
use Rattle.std.specs.List.{Contains, slice_get, swap_remove}
use Rattle.std.proofs.lemmas.Bool.{cases_eq}
use Rattle.std.proofs.lemmas.List.{length-set, set-set, set-get_or, get_or-set_same, get_or-set_other}
use Rattle.std.proofs.lemmas.Option.{slice_get-get_or, slice_get_within, get_or_from_slice_get}
use Rattle.sat_base.specs.declared.literals.Lit.{Lit}
use Rattle.sat_base.specs.declared.logs.Lemma.{Lemma}
use Rattle.sat_base.specs.Literal.{negation}
use Rattle.sat_base.specs.Formula.{Formula}
use Rattle.sat_solve.specs.declared.trail.Entry.{Entry}
use Rattle.sat_solve.specs.declared.lists.Watch.{Watch}
use Rattle.sat_solve.specs.declared.pairs.Pair.{Pair}
use Rattle.sat_solve.specs.Trail.{sign_at, IsFalseIn, IsConflict, IsSound}
use Rattle.sat_solve.specs.Kept.{TrailView}
use Rattle.sat_solve.specs.State.{known_clauses, IsState}
use Rattle.sat_solve.specs.Found.{IsConflictAt}
use Rattle.sat_base.specs.Codes.{literal_of, code_of}
use Rattle.sat_solve.specs.Held.{Held}
use Rattle.sat_solve.specs.Watches.{HasTrue, IsFitting, IsPairedAt, oldest, IsWatched, HasTrueAt, IsAtMostOneMore, IsMove}
use Rattle.sat_solve.specs.Search.{held_of, IsSearch, IsNext}
use Rattle.sat_solve.proofs.Signs.{sign_kept}
use Rattle.sat_base.proofs.CodeLemmas.{literal_of_code}
use Rattle.sat_solve.proofs.Places.{negation_false}
use Rattle.sat_solve.proofs.Watching.{oldest-push, oldest-next, IsWatched-push, list_there}
use Rattle.sat_solve.proofs.Moves.{removed_at, removed_length, HasTrueAt-set, lits_kept, IsWatched-stays, IsWatched-moved, IsWatched-next}
use Rattle.sat_solve.proofs.HeldLemmas.{held_lits}
use Rattle.sat_solve.proofs.SearchLemmas.{clause_of}
use Rattle.sat_solve.proofs.Looks.{held_known, code_known}

-- the clauses of the watches from place rest on have a true literal
abbrev pub IsSeen : List Held → List Entry → List Watch → ℕ → Type 0
IsSeen held trail list rest = (j : ℕ) (w : Watch) → rest ≤ j → slice_get list j ≡ Some w → HasTrueAt held trail w.clause

-- what an entry that is still to be gone over says of a code
abbrev pub IsComing : List Entry → (head code : ℕ) → Type 0
IsComing trail head code = (e : Entry) × (oldest (head + 1) trail ≡ e ∷ oldest head trail) × (code ≡ code_of (negation e.lit))

pub record IsVisiting (f : Formula) (log : List Lemma) (trail : TrailView) (held : List Held) (lists : List (List Watch)) (head code rest : ℕ) (list : List Watch) : Type 0 where
  pub state : IsState f log trail
  pub small : trail.vars < 2 ^ 31
  pub holding : map (λ h. h.lits) held ≡ known_clauses f log
  pub inside : code < length lists
  pub watched : IsWatched trail.vars trail.entries head held (set lists code list)
  pub within : rest ≤ length list
  pub seen : IsSeen held trail.entries list rest
  pub low : head < length trail.entries
  pub coming : IsComing trail.entries head code
  pub falsified : IsFalseIn trail.entries (literal_of code)

pub visit_start : (f : Formula) (log : List Lemma) (trail : TrailView) (pairs : List Pair) (lists lists' : List (List Watch)) (head code rest : ℕ) (list : List Watch) → IsSearch f log trail pairs lists head → IsNext trail.entries head code → code < length lists → list ≡ get_or lists code [] → lists' ≡ set lists code [] → rest ≡ length list → IsVisiting f log trail (held_of f log pairs) lists' head code rest list
visit_start f log trail pairs lists lists' head code rest list s next inside is taken all =
    let whole : set lists' code list ≡ lists = ap (λ ls. set ls code list) taken ∙ set-set lists code [] list ∙ ap (λ l. set lists code l) is ∙ set-get_or lists code [] in
    record {
      state = s.state;
      small = s.small;
      holding = held_lits pairs (known_clauses f log) s.paired;
      inside = omega (arith, inside, ap length taken, length-set lists code []);
      watched = subst (λ ls. IsWatched trail.vars trail.entries head (held_of f log pairs) ls) (sym whole) s.watched;
      within = omega (arith, all);
      seen = λ j w low at. absurd (omega (arith, low, all, slice_get_within list j w at));
      low = next.within;
      coming = (next.entry, oldest-next head next.entry trail.entries next.within next.at, next.is);
      falsified = subst (λ x. IsFalseIn trail.entries x) (sym (ap literal_of next.is ∙ literal_of_code (negation next.entry.lit))) (negation_false (known_clauses f log) trail.entries 0 (length trail.entries - 1 - head) next.entry s.state.sound (omega arith) next.at);
    }

-- what a look at the clause of a watch asks for
module _ (f : Formula) (log : List Lemma) (trail : TrailView) (held : List Held) (lists : List (List Watch)) (head code rest : ℕ) (list : List Watch) (v : IsVisiting f log trail held lists head code rest list) where
  pub visit_sized : length lists ≡ 2 * trail.vars
  visit_sized = sym (length-set lists code list) ∙ v.watched.sized

  pub visit_fitting : (i : ℕ) (w : Watch) → slice_get list i ≡ Some w → IsFitting held w
  visit_fitting i w at = v.watched.fitting code w (subst (λ l. Contains l w) (sym (list_there lists code list v.inside)) (i, slice_get_within list i w at, get_or_from_slice_get list i w w at))

  pub visit_paired : (k : ℕ) → IsPairedAt held k
  visit_paired k h at = (v.watched.each k h at).paired

-- the same trail, or one more entry
module _ (f : Formula) (log : List Lemma) (trail trail' : TrailView) (state : IsState f log trail) (state' : IsState f log trail') (more : IsAtMostOneMore trail.entries trail'.entries) where
  same_vars : trail.vars ≡ trail'.vars
  same_vars = state.vars ∙ sym state'.vars

  fresh : (e : Entry) → trail'.entries ≡ e ∷ trail.entries → sign_at trail.entries e.lit.var ≡ None
  fresh e is = (subst (λ t. IsSound (known_clauses f log) t) is state'.sound).0.fresh

  more_true : (held : List Held) (k : ℕ) → HasTrueAt held trail.entries k → HasTrueAt held trail'.entries k
  more_true held k t h at = ⊎_elim
      (λ same. subst (λ es. HasTrue es h.lits) (sym same) (t h at))
      (λ one.
      let e : Entry = record { lit = one.0; reason = Some one.1 } in
      subst (λ es. HasTrue es h.lits) (sym one.2) (let x = t h at in (x.0, x.1, sign_kept record { lit = one.0; reason = Some one.1 } trail.entries x.0.var x.0.negative (fresh record { lit = one.0; reason = Some one.1 } one.2) x.2)))
      more

  more_false : (x : Lit) → IsFalseIn trail.entries x → IsFalseIn trail'.entries x
  more_false x h = ⊎_elim
      (λ same. subst (λ es. IsFalseIn es x) (sym same) h)
      (λ one. subst (λ es. IsFalseIn es x) (sym one.2) (sign_kept record { lit = one.0; reason = Some one.1 } trail.entries x.var (not x.negative) (fresh record { lit = one.0; reason = Some one.1 } one.2) h))
      more

  more_coming : (head code : ℕ) → head < length trail.entries → IsComing trail.entries head code → IsComing trail'.entries head code
  more_coming head code low c = ⊎_elim
      (λ same. subst (λ es. IsComing es head code) (sym same) c)
      (λ one. subst (λ es. IsComing es head code) (sym one.2) (
        c.0,
        oldest-push (head + 1) record { lit = one.0; reason = Some one.1 } trail.entries (omega (arith, low)) ∙ c.1 ∙ ap (λ es. c.0 ∷ es) (sym (oldest-push head record { lit = one.0; reason = Some one.1 } trail.entries (omega (arith, low)))),
        c.2,
      ))
      more

  more_low : (head : ℕ) → head < length trail.entries → head < length trail'.entries
  more_low head low = ⊎_elim
      (λ same. let n : length trail'.entries ≡ length trail.entries = ap length same in omega (arith, n, low))
      (λ one. let n : length trail'.entries ≡ suc (length trail.entries) = ap length one.2 in omega (arith, n, low))
      more

  more_watched : (head : ℕ) (held : List Held) (lists : List (List Watch)) → IsWatched trail.vars trail.entries head held lists → IsWatched trail'.vars trail'.entries head held lists
  more_watched head held lists w = subst (λ n. IsWatched n trail'.entries head held lists) same_vars (⊎_elim
      (λ same. subst (λ es. IsWatched trail.vars es head held lists) (sym same) w)
      (λ one. subst (λ es. IsWatched trail.vars es head held lists) (sym one.2) (IsWatched-push trail.vars record { lit = one.0; reason = Some one.1 } trail.entries head held lists (fresh record { lit = one.0; reason = Some one.1 } one.2) (λ none. cc) w))
      more)

  -- nothing else has changed
  pub visit_same : (held : List Held) (lists : List (List Watch)) (head code rest : ℕ) (list : List Watch) → IsVisiting f log trail held lists head code rest list → IsVisiting f log trail' held lists head code rest list
  visit_same held lists head code rest list v = record {
    state = state';
    small = subst (λ n. n < 2 ^ 31) same_vars v.small;
    holding = v.holding;
    inside = v.inside;
    watched = more_watched head held (set lists code list) v.watched;
    within = v.within;
    seen = λ j y low there. more_true held y.clause (v.seen j y low there);
    low = more_low head v.low;
    coming = more_coming head code v.low v.coming;
    falsified = more_false (literal_of code) v.falsified;
  }

  pub visit_stays : (held : List Held) (lists : List (List Watch)) (head code rest i : ℕ) (list : List Watch) (w u : Watch) → IsVisiting f log trail held lists head code rest list → rest ≡ i + 1 → slice_get list i ≡ Some w → u.clause ≡ w.clause → IsFitting held u → HasTrueAt held trail'.entries w.clause → IsVisiting f log trail' held lists head code i (set list i u)
  visit_stays held lists head code rest i list w u v is at same fits holds = record {
    state = state';
    small = subst (λ n. n < 2 ^ 31) same_vars v.small;
    holding = v.holding;
    inside = v.inside;
    watched = more_watched head held (set lists code (set list i u)) (IsWatched-stays trail.vars trail.entries head held lists code list i w u v.inside at same fits v.watched);
    within = omega (arith, v.within, is, length-set list i u);
    seen = λ j y low there.
        let inlist : j < length list = omega (arith, slice_get_within (set list i u) j y there, length-set list i u) in
        let value : get_or (set list i u) j y ≡ y = get_or_from_slice_get (set list i u) j y y there in
        ⊎_elim
        (λ (e : j ≡ i).
        let new : u ≡ y = sym (get_or-set_same list i u y (slice_get_within list i w at)) ∙ ap (λ n. get_or (set list i u) n y) (sym e) ∙ value in
        subst (λ k. HasTrueAt held trail'.entries k) (sym same ∙ ap (λ (z : Watch). z.clause) new) holds)
        (λ differ. more_true held y.clause (v.seen j y (omega (arith, low, is, differ)) (slice_get-get_or list j y inlist ∙ ap Some (sym (get_or-set_other list i j u y differ) ∙ value))))
        (cases_eq j i);
    low = more_low head v.low;
    coming = more_coming head code v.low v.coming;
    falsified = more_false (literal_of code) v.falsified;
  }

  pub visit_moved : (held held' : List Held) (lists lists' : List (List Watch)) (head code rest i k : ℕ) (list : List Watch) (w x : Watch) → IsVisiting f log trail held lists head code rest list → rest ≡ i + 1 → slice_get list i ≡ Some w → w.clause ≡ k → IsMove trail.entries held held' lists lists' code k → IsVisiting f log trail' held' lists' head code i (swap_remove list i x)
  visit_moved held held' lists lists' head code rest i k list w x v is at same move =
      let known = held_known f log trail held k move.clause move.next state v.holding move.at move.next_in in
      let next_within : move.next < length lists = omega (arith, code_known move.next trail.vars known, visit_sized f log trail held lists head code rest list v) in
      let lists_length : length lists' ≡ length lists = ap (λ ls. length ls) move.lists_are ∙ length-set lists move.next (get_or lists move.next [] ++ record { clause = k; blocker = move.other } ∷ []) in
      let inside : i < length list = slice_get_within list i w at in
      record {
        state = state';
        small = subst (λ n. n < 2 ^ 31) same_vars v.small;
        holding = ap (λ hs. map (λ (h : Held). h.lits) hs) move.held_is ∙ lits_kept held k move.clause move.other move.next move.at ∙ v.holding;
        inside = omega (arith, v.inside, lists_length);
        watched = more_watched head held' (set lists' code (swap_remove list i x)) (IsWatched-moved (known_clauses f log) trail.vars trail.entries head held held' lists lists' code k list i w x state.sound at same move v.inside next_within v.falsified v.watched);
        within = short_enough i list x inside;
        seen = λ j y low there. subst (λ hs. HasTrueAt hs trail'.entries y.clause) (sym move.held_is) (HasTrueAt-set held trail'.entries k y.clause move.clause move.other move.next move.at (more_true held y.clause (seen_before j y low inside (removed_at list i x inside j y there) is v.seen)));
        low = more_low head v.low;
        coming = more_coming head code v.low v.coming;
        falsified = more_false (literal_of code) v.falsified;
      }
    where
      short_enough : (i : ℕ) (list : List Watch) (x : Watch) → i < length list → i ≤ length (swap_remove list i x)
      short_enough i list x h = omega (arith, h, removed_length list i x h)

      seen_before : (j : ℕ) (y : Watch) → i ≤ j → i < length list → (j < length list - 1) × (((j ≡ i) × (slice_get list (length list - 1) ≡ Some y)) ⊎ ((j ≢ i) × (slice_get list j ≡ Some y))) → rest ≡ i + 1 → IsSeen held trail.entries list rest → HasTrueAt held trail.entries y.clause
      seen_before j y low inside there is seen = ⊎_elim
          (λ last. seen (length list - 1) y (omega (arith, last.0, there.0, is, low)) last.1)
          (λ old. seen j y (omega (arith, low, old.0, is)) old.1)
          there.1

pub more_length : (before after : List Entry) → IsAtMostOneMore before after → length before ≤ length after
more_length before after more = ⊎_elim
    (λ same. let n : length after ≡ length before = ap length same in omega (arith, n))
    (λ one. let n : length after ≡ suc (length before) = ap length one.2 in omega (arith, n))
    more

-- at its end
pub visit_end : (f : Formula) (log : List Lemma) (trail : TrailView) (pairs : List Pair) (lists lists' : List (List Watch)) (head code rest : ℕ) (list : List Watch) → IsVisiting f log trail (held_of f log pairs) lists head code rest list → length pairs ≡ length (known_clauses f log) → rest ≡ 0 → lists' ≡ set lists code list → IsSearch f log trail pairs lists' (head + 1)
visit_end f log trail pairs lists lists' head code rest list v paired none put = record {
  state = v.state;
  small = v.small;
  paired = paired;
  watched = subst (λ ls. IsWatched trail.vars trail.entries (head + 1) (held_of f log pairs) ls) (sym put)
      (IsWatched-next trail.vars trail.entries head (held_of f log pairs) lists code list v.coming.0 v.inside v.coming.1 v.low v.coming.2
      (λ w h. v.seen h.0 w (omega (arith, none)) (slice_get-get_or list h.0 w h.1 ∙ ap Some h.2))
      v.watched);
}

-- at a conflict
pub visit_conflict : (f : Formula) (log : List Lemma) (trail : TrailView) (pairs : List Pair) (lists lists' : List (List Watch)) (head code rest i : ℕ) (list : List Watch) (w : Watch) → IsVisiting f log trail (held_of f log pairs) lists head code rest list → length pairs ≡ length (known_clauses f log) → slice_get list i ≡ Some w → ((h : Held) → slice_get (held_of f log pairs) w.clause ≡ Some h → IsConflict trail.entries h.lits) → lists' ≡ set lists code list → IsSearch f log trail pairs lists' head × IsConflictAt (known_clauses f log) trail.entries w.clause
visit_conflict f log trail pairs lists lists' head code rest i list w v paired at conflict put =
    let fits = visit_fitting f log trail (held_of f log pairs) lists head code rest list v i w at in (
      record {
        state = v.state;
        small = v.small;
        paired = paired;
        watched = subst (λ ls. IsWatched trail.vars trail.entries head (held_of f log pairs) ls) (sym put) v.watched;
      },
      (fits.0.lits, clause_of (held_of f log pairs) (known_clauses f log) w.clause fits.0 v.holding fits.1, conflict fits.0 fits.1),
    )
