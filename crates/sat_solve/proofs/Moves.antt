-- What a look at a clause, and an added clause, change in the watches.
use Rattle.std.proofs.Common.{◌≡◌, ◌≢◌, ℕ, ◌+◌, ◌-◌, ◌<◌, ◌≤◌, Bool, not, List, [], ◌∷◌, ◌++◌, length, drop, set, get_or, map, ◌⊎◌, inl, inr, ⊎_elim, Option, Some, refl, sym, ap, ◌∙◌, subst, arith}
use Rattle.std.specs.List.{Contains, slice_get, swap_remove}
use Rattle.std.proofs.lemmas.Bool.{cases_eq, cases_lt}
use Rattle.std.proofs.lemmas.List.{get_or-set_same, get_or-set_other, get_or-take, length-set, length_push, length-take-le, map-set, set-get_or, get_or-map}
use Rattle.std.proofs.lemmas.List.Elements.{Contains-append_left, Contains-push, Contains-push_cases}
use Rattle.std.proofs.lemmas.Option.{slice_get-get_or, slice_get_within, get_or_from_slice_get}
use Rattle.sat_base.specs.declared.literals.Lit.{Lit}
use Rattle.sat_base.specs.Literal.{negation}
use Rattle.sat_solve.specs.declared.trail.Entry.{Entry}
use Rattle.sat_solve.specs.declared.lists.Watch.{Watch}
use Rattle.sat_solve.specs.declared.pairs.Pair.{Pair}
use Rattle.sat_solve.specs.Trail.{sign_at, IsFalseIn, IsSound}
use Rattle.sat_solve.specs.Decisions.{IsDecisionAt}
use Rattle.sat_base.specs.Codes.{literal_of, code_of}
use Rattle.sat_solve.specs.Held.{Held, held_by}
use Rattle.sat_solve.specs.Watches.{HasTrue, IsKept, IsPaired, HasWatch, IsFitting, oldest, IsWatchedClause, IsWatched, HasTrueAt, IsMove, IsAdded}
use Rattle.sat_solve.proofs.Signs.{sign_other, is_negation}
use Rattle.sat_base.proofs.CodeLemmas.{code_of_literal}
use Rattle.sat_solve.proofs.Places.{sign_older}
use Rattle.sat_solve.proofs.HeldLemmas.{held_with, held_length}
use Rattle.sat_solve.proofs.LogLemmas.{slice_get-left, slice_get-push}
use Rattle.sat_solve.proofs.Watching.{list_there, list_other, IsWatched-replaced}

-- an element of a list with one replaced
pub get_set : {X : Type 0} (xs : List X) (k : ℕ) (y : X) → k < length xs → slice_get (set xs k y) k ≡ Some y
get_set xs k y h = let n : k < length (set xs k y) = omega (arith, h, length-set xs k y) in slice_get-get_or (set xs k y) k y n ∙ ap Some (get_or-set_same xs k y y h)

pub get_set_other : {X : Type 0} (xs : List X) (k j : ℕ) (y x : X) → (j ≡ k → ⊥) → slice_get (set xs k y) j ≡ Some x → slice_get xs j ≡ Some x
get_set_other xs k j y x differ h =
    let n : j < length xs = omega (arith, slice_get_within (set xs k y) j x h, length-set xs k y) in
    slice_get-get_or xs j x n ∙ ap Some (sym (get_or-set_other xs k j y x differ) ∙ get_or_from_slice_get (set xs k y) j x x h)

pub get_set_kept : {X : Type 0} (xs : List X) (k j : ℕ) (y x : X) → (j ≡ k → ⊥) → slice_get xs j ≡ Some x → slice_get (set xs k y) j ≡ Some x
get_set_kept xs k j y x differ h =
    let n : j < length (set xs k y) = omega (arith, slice_get_within xs j x h, length-set xs k y) in
    slice_get-get_or (set xs k y) j x n ∙ ap Some (get_or-set_other xs k j y x differ ∙ get_or_from_slice_get xs j x x h)

pub same_some : {X : Type 0} (o : Option X) (x y : X) → o ≡ Some x → o ≡ Some y → x ≡ y
same_some o x y a b = let h : Some x ≡ Some y = sym a ∙ b in cc

-- One more watch at the end of the list of a code.
abbrev pub pushed : List (List Watch) → ℕ → Watch → List (List Watch)
pushed lists code w = set lists code (get_or lists code [] ++ w ∷ [])

module _ (lists : List (List Watch)) (code : ℕ) (w : Watch) where
  pub pushed_length : length (pushed lists code w) ≡ length lists
  pushed_length = length-set lists code (get_or lists code [] ++ w ∷ [])

  pub pushed_in : (c : ℕ) (v : Watch) → Contains (get_or lists c []) v → code < length lists → Contains (get_or (pushed lists code w) c []) v
  pushed_in c v h within = ⊎_elim
      (λ (same : c ≡ code). subst (λ l. Contains l v) (sym (ap (λ n. get_or (set lists code (get_or lists code [] ++ w ∷ [])) n []) same ∙ list_there lists code _ within)) (Contains-append_left (get_or lists code []) (w ∷ []) v (subst (λ n. Contains (get_or lists n []) v) same h)))
      (λ other. subst (λ l. Contains l v) (sym (list_other lists code c _ other)) h)
      (cases_eq c code)

  pub pushed_here : code < length lists → Contains (get_or (pushed lists code w) code []) w
  pushed_here within = subst (λ l. Contains l w) (sym (list_there lists code _ within)) (Contains-push (get_or lists code []) w)

  pub pushed_cases : (c : ℕ) (v : Watch) → code < length lists → Contains (get_or (pushed lists code w) c []) v → Contains (get_or lists c []) v ⊎ (v ≡ w)
  pushed_cases c v within h = ⊎_elim
      (λ (same : c ≡ code). ⊎_elim
      (λ old. inl (subst (λ n. Contains (get_or lists n []) v) (sym same) old))
      (λ (new : w ≡ v). inr (sym new))
      (Contains-push_cases (get_or lists code []) w v (subst (λ l. Contains l v) (ap (λ n. get_or (set lists code (get_or lists code [] ++ w ∷ [])) n []) same ∙ list_there lists code _ within) h)))
      (λ other. inl (subst (λ l. Contains l v) (list_other lists code c _ other) h))
      (cases_eq c code)

  pub pushed_watch : (c k : ℕ) → code < length lists → HasWatch lists c k → HasWatch (pushed lists code w) c k
  pushed_watch c k within h = (h.0, pushed_in c h.0 h.1 within, h.2)

-- A watched clause and the watches are still fitting where a clause gets other watched literals.
IsFitting-set : (held : List Held) (k : ℕ) (h : Held) (first second : ℕ) (w : Watch) → slice_get held k ≡ Some h → IsFitting held w → IsFitting (set held k record { lits = h.lits; first = first; second = second }) w
IsFitting-set held k h first second w at f = ⊎_elim
    (λ (same : w.clause ≡ k).
    let is : f.0 ≡ h = same_some (slice_get held k) f.0 h (ap (slice_get held) (sym same) ∙ f.1) at in
    (record { lits = h.lits; first = first; second = second }, ap (slice_get (set held k record { lits = h.lits; first = first; second = second })) same ∙ get_set held k record { lits = h.lits; first = first; second = second } (slice_get_within held k h at), subst (λ (y : Held). Contains y.lits (literal_of w.blocker)) is f.2))
    (λ differ. (f.0, get_set_kept held k w.clause record { lits = h.lits; first = first; second = second } f.0 differ f.1, f.2))
    (cases_eq w.clause k)

-- what was true of the clauses still is
pub HasTrueAt-set : (held : List Held) (trail : List Entry) (k j : ℕ) (h : Held) (first second : ℕ) → slice_get held k ≡ Some h → HasTrueAt held trail j → HasTrueAt (set held k record { lits = h.lits; first = first; second = second }) trail j
HasTrueAt-set held trail k j h first second at t y there = ⊎_elim
    (λ (same : j ≡ k).
    let is : record { lits = h.lits; first = first; second = second } ≡ y = same_some (slice_get (set held k record { lits = h.lits; first = first; second = second }) j) record { lits = h.lits; first = first; second = second } y (ap (slice_get (set held k record { lits = h.lits; first = first; second = second })) same ∙ get_set held k record { lits = h.lits; first = first; second = second } (slice_get_within held k h at)) there in
    subst (λ (z : Held). HasTrue trail z.lits) is (t h (ap (slice_get held) same ∙ at)))
    (λ differ. t y (get_set_other held k j record { lits = h.lits; first = first; second = second } y differ there))
    (cases_eq j k)

pub lits_kept : (held : List Held) (k : ℕ) (h : Held) (first second : ℕ) → slice_get held k ≡ Some h → map (λ (y : Held). y.lits) (set held k record { lits = h.lits; first = first; second = second }) ≡ map (λ (y : Held). y.lits) held
lits_kept held k h first second at =
    let within = slice_get_within held k h at in
    let own : h.lits ≡ get_or (map (λ (y : Held). y.lits) held) k [] = ap (λ (y : Held). y.lits) (sym (get_or_from_slice_get held k h h at)) ∙ sym (get_or-map (λ (y : Held). y.lits) held k h [] within) in
    map-set (λ (y : Held). y.lits) held k record { lits = h.lits; first = first; second = second }
    ∙ ap (λ ls. set (map (λ (y : Held). y.lits) held) k ls) own
    ∙ set-get_or (map (λ (y : Held). y.lits) held) k []

-- The list of a code behind the removal of the watch at place i; the last one takes its place.
module _ (list : List Watch) (i : ℕ) (x : Watch) (inside : i < length list) where
  changed : List Watch
  changed = set list i (get_or list (length list - 1) x)

  pub removed_length : length (swap_remove list i x) ≡ length list - 1
  removed_length = length-take-le (length list - 1) (set list i (get_or list (length list - 1) x)) (omega (arith, length-set list i (get_or list (length list - 1) x)))

  pub removed_at : (j : ℕ) (w : Watch) → slice_get (swap_remove list i x) j ≡ Some w → (j < length list - 1) × (((j ≡ i) × (slice_get list (length list - 1) ≡ Some w)) ⊎ ((j ≢ i) × (slice_get list j ≡ Some w)))
  removed_at j w at =
      let last = get_or list (length list - 1) x in
      let low : j < length list - 1 = omega (arith, slice_get_within (swap_remove list i x) j w at, removed_length) in
      let value : get_or (set list i last) j w ≡ w = sym (get_or-take (length list - 1) (set list i last) j w low) ∙ get_or_from_slice_get (swap_remove list i x) j w w at in (
        low,
        ⊎_elim
            (λ (same : j ≡ i).
            let is : last ≡ w = sym (get_or-set_same list i last w inside) ∙ ap (λ n. get_or (set list i last) n w) (sym same) ∙ value in
            inl (same, slice_get-get_or list (length list - 1) x (omega (arith, inside)) ∙ ap Some is))
            (λ differ. inr (differ, slice_get-get_or list j w (omega (arith, low)) ∙ ap Some (sym (get_or-set_other list i j last w differ) ∙ value)))
            (cases_eq j i),
      )

  pub removed_in : (j : ℕ) (v : Watch) → (j ≡ i → ⊥) → slice_get list j ≡ Some v → Contains (swap_remove list i x) v
  removed_in j v differ at =
      let n = length list - 1 in
      let last = get_or list n x in
      let in_list : j < length list = slice_get_within list j v at in
      ⊎_elim
      (λ (end : j ≡ n).
      let low : i < n = omega (arith, inside, in_list, end, differ) in
      let is : last ≡ v = get_or_from_slice_get list n v x (ap (slice_get list) (sym end) ∙ at) in
      (i, omega (arith, low, removed_length), get_or-take n (set list i last) i v low ∙ get_or-set_same list i last v inside ∙ is))
      (λ before.
      let low : j < n = omega (arith, in_list, before) in
      (j, omega (arith, low, removed_length), get_or-take n (set list i last) j v low ∙ get_or-set_other list i j last v differ ∙ get_or_from_slice_get list j v v at))
      (cases_eq j n)

  pub removed_from : (v : Watch) → Contains (swap_remove list i x) v → Contains list v
  removed_from v h =
      let at : slice_get (swap_remove list i x) h.0 ≡ Some v = slice_get-get_or (swap_remove list i x) h.0 v h.1 ∙ ap Some h.2 in
      let there = removed_at h.0 v at in
      ⊎_elim
      (λ last. (length list - 1, omega (arith, inside), get_or_from_slice_get list (length list - 1) v v last.1))
      (λ same. (h.0, slice_get_within list h.0 v same.1, get_or_from_slice_get list h.0 v v same.1))
      there.1

-- The watch at place i stays, perhaps with another blocker.
pub IsWatched-stays : (vars : ℕ) (trail : List Entry) (head : ℕ) (held : List Held) (lists : List (List Watch)) (code : ℕ) (list : List Watch) (i : ℕ) (w v : Watch) → code < length lists → slice_get list i ≡ Some w → v.clause ≡ w.clause → IsFitting held v → IsWatched vars trail head held (set lists code list) → IsWatched vars trail head held (set lists code (set list i v))
IsWatched-stays vars trail head held lists code list i w v within at is fits watched =
    IsWatched-replaced vars trail head held lists code list (set list i v) within
    (λ y h. ⊎_elim
    (λ (same : h.0 ≡ i).
    let was : w ≡ y = sym (get_or_from_slice_get list i w y at) ∙ ap (λ n. get_or list n y) (sym same) ∙ h.2 in
    (v, (i, omega (arith, slice_get_within list i w at, length-set list i v), get_or-set_same list i v v (slice_get_within list i w at)), is ∙ ap (λ (z : Watch). z.clause) was))
    (λ differ. (y, (h.0, omega (arith, h.1, length-set list i v), get_or-set_other list i h.0 v y differ ∙ h.2), refl))
    (cases_eq h.0 i))
    (λ y h. ⊎_elim
    (λ (same : h.0 ≡ i).
    let is_new : v ≡ y = sym (get_or-set_same list i v y (slice_get_within list i w at)) ∙ ap (λ n. get_or (set list i v) n y) (sym same) ∙ h.2 in
    subst (λ z. IsFitting held z) is_new fits)
    (λ differ. watched.fitting code y (subst (λ l. Contains l y) (sym (list_there lists code list within)) (h.0, omega (arith, h.1, length-set list i v), sym (get_or-set_other list i h.0 v y differ) ∙ h.2)))
    (cases_eq h.0 i))
    watched

-- The watch at place i goes over to another list.
module _ (clauses : List (List Lit)) (vars : ℕ) (trail : List Entry) (head : ℕ) (held held' : List Held) (lists lists' : List (List Watch)) (code k : ℕ) (list : List Watch) (i : ℕ) (w x : Watch) (sound : IsSound clauses trail) (at : slice_get list i ≡ Some w) (is : w.clause ≡ k) (move : IsMove trail held held' lists lists' code k) (within : code < length lists) (next_within : move.next < length lists) (falsified : IsFalseIn trail (literal_of code)) (watched : IsWatched vars trail head held (set lists code list)) where
  inside : i < length list
  inside = slice_get_within list i w at

  moved : Watch
  moved = record { clause = k; blocker = move.other }

  before : List (List Watch)
  before = set lists code list

  after : List (List Watch)
  after = set lists' code (swap_remove list i x)

  next_apart : move.next ≡ code → ⊥
  next_apart same = move.next_known (subst (λ c. IsFalseIn trail (literal_of c)) (sym same) falsified)

  lists_length : length lists' ≡ length lists
  lists_length = ap (λ ls. length ls) move.lists_are ∙ length-set lists move.next (get_or lists move.next [] ++ record { clause = k; blocker = move.other } ∷ [])

  after_there : get_or (set lists' code (swap_remove list i x)) code [] ≡ swap_remove list i x
  after_there = list_there lists' code (swap_remove list i x) (omega (arith, within, lists_length))

  -- each clause stays in its lists, but perhaps clause k in that of the code
  listed : (c j : ℕ) → (c ≡ code → j ≡ k → ⊥) → HasWatch (set lists code list) c j → HasWatch (set lists' code (swap_remove list i x)) c j
  listed c j apart h = ⊎_elim
      (λ (same : c ≡ code).
      let old : Contains list h.0 = subst (λ l. Contains l h.0) (ap (λ n. get_or (set lists code list) n []) same ∙ list_there lists code list within) h.1 in
      let there : slice_get list old.0 ≡ Some h.0 = slice_get-get_or list old.0 h.0 old.1 ∙ ap Some old.2 in
      let differ : old.0 ≡ i → ⊥ = λ e. apart same (sym h.2 ∙ ap (λ (y : Watch). y.clause) (same_some (slice_get list i) h.0 w (ap (slice_get list) (sym e) ∙ there) at) ∙ is) in
      (h.0, subst (λ l. Contains l h.0) (sym (ap (λ n. get_or (set lists' code (swap_remove list i x)) n []) same ∙ after_there)) (removed_in list i x inside old.0 h.0 differ there), h.2))
      (λ other.
      let old : Contains (get_or lists c []) h.0 = subst (λ l. Contains l h.0) (list_other lists code c list other) h.1 in
      let more : Contains (get_or lists' c []) h.0 = subst (λ ls. Contains (get_or ls c []) h.0) (sym move.lists_are) (pushed_in lists move.next record { clause = k; blocker = move.other } c h.0 old next_within) in
      (h.0, subst (λ l. Contains l h.0) (sym (list_other lists' code c (swap_remove list i x) other)) more, h.2))
      (cases_eq c code)

  listed_next : HasWatch (set lists' code (swap_remove list i x)) move.next k
  listed_next =
      let here : Contains (get_or lists' move.next []) record { clause = k; blocker = move.other } = subst (λ ls. Contains (get_or ls move.next []) record { clause = k; blocker = move.other }) (sym move.lists_are) (pushed_here lists move.next record { clause = k; blocker = move.other } next_within) in
      (record { clause = k; blocker = move.other }, subst (λ l. Contains l record { clause = k; blocker = move.other }) (sym (list_other lists' code move.next (swap_remove list i x) next_apart)) here, refl)

  h : Held
  h = move.clause

  own : IsWatchedClause trail head (set lists code list) k move.clause
  own = watched.each k move.clause move.at

  other_listed : HasWatch (set lists' code (swap_remove list i x)) move.other k
  other_listed = listed move.other k (λ same e. move.other_apart same) (⊎_elim
      (λ (f : move.other ≡ move.clause.first). subst (λ c. HasWatch (set lists code list) c k) (sym f) own.first_listed)
      (λ (s : move.other ≡ move.clause.second). subst (λ c. HasWatch (set lists code list) c k) (sym s) own.second_listed)
      move.other_is)

  other_in : Contains move.clause.lits (literal_of move.other)
  other_in = ⊎_elim
      (λ (f : move.other ≡ move.clause.first). subst (λ c. Contains move.clause.lits (literal_of c)) (sym f) own.paired.first_in)
      (λ (s : move.other ≡ move.clause.second). subst (λ c. Contains move.clause.lits (literal_of c)) (sym s) own.paired.second_in)
      move.other_is

  new_kept : (t done : List Entry) → ((v : ℕ) (b : Bool) → sign_at done v ≡ Some b → sign_at trail v ≡ Some b) → IsKept t done move.clause → IsKept t done record { lits = move.clause.lits; first = move.other; second = move.next }
  new_kept t done older kept = record {
    one = ⊎_elim
        (λ (f : move.other ≡ move.clause.first). subst (λ c. IsFalseIn done (literal_of c) → HasTrue t move.clause.lits) (sym f) kept.one)
        (λ (s : move.other ≡ move.clause.second). subst (λ c. IsFalseIn done (literal_of c) → HasTrue t move.clause.lits) (sym s) kept.two)
        move.other_is;
    two = λ f. absurd (move.next_known (older (literal_of move.next).var (not (literal_of move.next).negative) f));
    single = λ same. absurd (move.next_apart (sym same));
  }

  new_clause : IsWatchedClause trail head (set lists' code (swap_remove list i x)) k record { lits = move.clause.lits; first = move.other; second = move.next }
  new_clause = record {
    paired = record {
      first_in = other_in;
      second_in = move.next_in;
      alone = λ same. absurd (move.next_apart (sym same));
    };
    first_listed = other_listed;
    second_listed = listed_next;
    kept = new_kept trail (oldest head trail) (λ v b f. sign_older clauses trail (length trail - head) v b sound f) own.kept;
    below = λ m d. new_kept (drop (m + 1) trail) (drop (m + 1) trail) (λ v b f. sign_older clauses trail (m + 1) v b sound f) (own.below m d);
  }

  each_after : (j : ℕ) (y : Held) → slice_get (set held k record { lits = move.clause.lits; first = move.other; second = move.next }) j ≡ Some y → IsWatchedClause trail head (set lists' code (swap_remove list i x)) j y
  each_after j y there = ⊎_elim
      (λ (same : j ≡ k).
      let new : record { lits = move.clause.lits; first = move.other; second = move.next } ≡ y = same_some (slice_get (set held k record { lits = move.clause.lits; first = move.other; second = move.next }) j) _ y (ap (slice_get (set held k record { lits = move.clause.lits; first = move.other; second = move.next })) same ∙ get_set held k record { lits = move.clause.lits; first = move.other; second = move.next } (slice_get_within held k move.clause move.at)) there in
      subst (λ z. IsWatchedClause trail head (set lists' code (swap_remove list i x)) j z) new (subst (λ n. IsWatchedClause trail head (set lists' code (swap_remove list i x)) n record { lits = move.clause.lits; first = move.other; second = move.next }) (sym same) new_clause))
      (λ differ.
      let c = watched.each j y (get_set_other held k j record { lits = move.clause.lits; first = move.other; second = move.next } y differ there) in
      record {
        paired = c.paired;
        first_listed = listed y.first j (λ e. differ) c.first_listed;
        second_listed = listed y.second j (λ e. differ) c.second_listed;
        kept = c.kept;
        below = c.below;
      })
      (cases_eq j k)

  old_fitting : (v : Watch) → IsFitting held v → IsFitting (set held k record { lits = move.clause.lits; first = move.other; second = move.next }) v
  old_fitting v f = IsFitting-set held k move.clause move.other move.next v move.at f

  fitting_after : (c : ℕ) (v : Watch) → Contains (get_or (set lists' code (swap_remove list i x)) c []) v → IsFitting (set held k record { lits = move.clause.lits; first = move.other; second = move.next }) v
  fitting_after c v h = ⊎_elim
      (λ (same : c ≡ code). old_fitting v (watched.fitting code v (subst (λ l. Contains l v) (sym (list_there lists code list within)) (removed_from list i x inside v (subst (λ l. Contains l v) (ap (λ n. get_or (set lists' code (swap_remove list i x)) n []) same ∙ after_there) h)))))
      (λ other. ⊎_elim
      (λ old. old_fitting v (watched.fitting c v (subst (λ l. Contains l v) (sym (list_other lists code c list other)) old)))
      (λ (new : v ≡ record { clause = k; blocker = move.other }). subst (λ z. IsFitting (set held k record { lits = move.clause.lits; first = move.other; second = move.next }) z) (sym new) (record { lits = move.clause.lits; first = move.other; second = move.next }, get_set held k record { lits = move.clause.lits; first = move.other; second = move.next } (slice_get_within held k move.clause move.at), other_in))
      (pushed_cases lists move.next record { clause = k; blocker = move.other } c v next_within (subst (λ ls. Contains (get_or ls c []) v) move.lists_are (subst (λ l. Contains l v) (list_other lists' code c (swap_remove list i x) other) h))))
      (cases_eq c code)

  pub IsWatched-moved : IsWatched vars trail head held' (set lists' code (swap_remove list i x))
  IsWatched-moved = subst (λ hs. IsWatched vars trail head hs (set lists' code (swap_remove list i x))) (sym move.held_is) record {
    sized = length-set lists' code (swap_remove list i x) ∙ lists_length ∙ sym (length-set lists code list) ∙ watched.sized;
    within = watched.within;
    each = each_after;
    fitting = fitting_after;
  }

-- All clauses of a list have a true literal: the literal of its code has been gone over.
pub IsWatched-next : (vars : ℕ) (trail : List Entry) (head : ℕ) (held : List Held) (lists : List (List Watch)) (code : ℕ) (list : List Watch) (e : Entry) → code < length lists → oldest (head + 1) trail ≡ e ∷ oldest head trail → head < length trail → code ≡ code_of (negation e.lit) → ((w : Watch) → Contains list w → HasTrueAt held trail w.clause) → IsWatched vars trail head held (set lists code list) → IsWatched vars trail (head + 1) held (set lists code list)
IsWatched-next vars trail head held lists code list e within next low is seen watched = record {
  sized = watched.sized;
  within = omega (arith, low);
  each = λ k h at.
      let c = watched.each k h at in
      record {
        paired = c.paired;
        first_listed = c.first_listed;
        second_listed = c.second_listed;
        kept = subst (λ d. IsKept trail d h) (sym next) record {
          one = λ f. gone_over k h h.first at c.first_listed c.kept.one f;
          two = λ f. gone_over k h h.second at c.second_listed c.kept.two f;
          single = c.kept.single;
        };
        below = c.below;
      };
  fitting = watched.fitting;
}
  where
    gone_over : (k : ℕ) (h : Held) (x : ℕ) → slice_get held k ≡ Some h → HasWatch (set lists code list) x k → (IsFalseIn (oldest head trail) (literal_of x) → HasTrue trail h.lits) → IsFalseIn (e ∷ oldest head trail) (literal_of x) → HasTrue trail h.lits
    gone_over k h x at listed old f = ⊎_elim
        (λ (same : e.lit.var ≡ (literal_of x).var).
        let opposite : negation e.lit ≡ literal_of x = is_negation e (oldest head trail) (literal_of x) same f in
        let here : x ≡ code = sym (code_of_literal x) ∙ ap code_of (sym opposite) ∙ sym is in
        let w : Contains list listed.0 = subst (λ l. Contains l listed.0) (ap (λ n. get_or (set lists code list) n []) here ∙ list_there lists code list within) listed.1 in
        subst (λ n. HasTrueAt held trail n) listed.2 (seen listed.0 w) h at)
        (λ other. old (sym (sign_other e (oldest head trail) (literal_of x).var other) ∙ f))
        (cases_eq e.lit.var (literal_of x).var)

-- A clause is added at the end, watched at two of its literals, each in the other's list.
pub record IsHeldAdded (held held' : List Held) (lists lists' : List (List Watch)) (lits : List Lit) (first second : Lit) : Type 0 where
  pub middle : List (List Watch)
  pub held_is : held' ≡ held ++ record { lits = lits; first = code_of first; second = code_of second } ∷ []
  pub middle_is : middle ≡ set lists (code_of first) (get_or lists (code_of first) [] ++ record { clause = length held; blocker = code_of second } ∷ [])
  pub lists_are : lists' ≡ set middle (code_of second) (get_or middle (code_of second) [] ++ record { clause = length held; blocker = code_of first } ∷ [])

-- The pair of the next clause is that clause, added.
pub held_added : (pairs pairs' : List Pair) (clauses clauses' : List (List Lit)) (lists lists' : List (List Watch)) (lits : List Lit) (first second : Lit) → length pairs ≤ length clauses → held_by pairs' clauses' ≡ held_by pairs clauses ++ held_with lits record { first = code_of first; second = code_of second } ∷ [] → IsAdded pairs pairs' lists lists' first second → IsHeldAdded (held_by pairs clauses) (held_by pairs' clauses') lists lists' lits first second
held_added pairs pairs' clauses clauses' lists lists' lits first second few held_is added =
    let count = sym (held_length pairs clauses few) in
    let watch : ℕ → ℕ → Watch = λ n b. record { clause = n; blocker = b } in
    record {
      middle = added.middle;
      held_is = held_is;
      middle_is = added.middle_is ∙ ap (λ (n : ℕ). set lists (code_of first) (get_or lists (code_of first) [] ++ watch n (code_of second) ∷ [])) count;
      lists_are = added.lists_are ∙ ap (λ (n : ℕ). set added.middle (code_of second) (get_or added.middle (code_of second) [] ++ watch n (code_of first) ∷ [])) count;
    }

-- A clause is added.
module _ (vars : ℕ) (trail : List Entry) (head : ℕ) (held held' : List Held) (lists lists' : List (List Watch)) (lits : List Lit) (first second : Lit) (added : IsHeldAdded held held' lists lists' lits first second) (in_first : code_of first < length lists) (in_second : code_of second < length lists) (paired : IsPaired record { lits = lits; first = code_of first; second = code_of second }) (kept : IsKept trail (oldest head trail) record { lits = lits; first = code_of first; second = code_of second }) (below : (m : ℕ) → IsDecisionAt trail m → IsKept (drop (m + 1) trail) (drop (m + 1) trail) record { lits = lits; first = code_of first; second = code_of second }) (watched : IsWatched vars trail head held lists) where
  middle_length : length added.middle ≡ length lists
  middle_length = ap (λ ls. length ls) added.middle_is ∙ pushed_length lists (code_of first) record { clause = length held; blocker = code_of second }

  lists'_length : length lists' ≡ length lists
  lists'_length = ap (λ ls. length ls) added.lists_are ∙ pushed_length added.middle (code_of second) record { clause = length held; blocker = code_of first } ∙ middle_length

  in_middle : code_of second < length added.middle
  in_middle = omega (arith, in_second, middle_length)

  to_middle : (c : ℕ) (v : Watch) → Contains (get_or lists c []) v → Contains (get_or added.middle c []) v
  to_middle c v h = subst (λ ls. Contains (get_or ls c []) v) (sym added.middle_is) (pushed_in lists (code_of first) record { clause = length held; blocker = code_of second } c v h in_first)

  from_middle : (c : ℕ) (v : Watch) → Contains (get_or added.middle c []) v → Contains (get_or lists' c []) v
  from_middle c v h = subst (λ ls. Contains (get_or ls c []) v) (sym added.lists_are) (pushed_in added.middle (code_of second) record { clause = length held; blocker = code_of first } c v h in_middle)

  still : (c k : ℕ) → HasWatch lists c k → HasWatch lists' c k
  still c k h = (h.0, from_middle c h.0 (to_middle c h.0 h.1), h.2)

  new_first : HasWatch lists' (code_of first) (length held)
  new_first = (record { clause = length held; blocker = code_of second }, from_middle (code_of first) record { clause = length held; blocker = code_of second } (subst (λ ls. Contains (get_or ls (code_of first) []) record { clause = length held; blocker = code_of second }) (sym added.middle_is) (pushed_here lists (code_of first) record { clause = length held; blocker = code_of second } in_first)), refl)

  new_second : HasWatch lists' (code_of second) (length held)
  new_second = (record { clause = length held; blocker = code_of first }, subst (λ ls. Contains (get_or ls (code_of second) []) record { clause = length held; blocker = code_of first }) (sym added.lists_are) (pushed_here added.middle (code_of second) record { clause = length held; blocker = code_of first } in_middle), refl)

  each_added : (k : ℕ) (h : Held) → slice_get (held ++ record { lits = lits; first = code_of first; second = code_of second } ∷ []) k ≡ Some h → IsWatchedClause trail head lists' k h
  each_added k h at = ⊎_elim
      (λ (old : k < length held).
      let there : slice_get held k ≡ Some h =
      let d = get_or held k h in
      let is : slice_get held k ≡ Some (get_or held k h) = slice_get-get_or held k h old in
      is ∙ sym (slice_get-left held (record { lits = lits; first = code_of first; second = code_of second } ∷ []) k (get_or held k h) is) ∙ at in
      let c = watched.each k h there in
      record {
        paired = c.paired;
        first_listed = still h.first k c.first_listed;
        second_listed = still h.second k c.second_listed;
        kept = c.kept;
        below = c.below;
      })
      (λ (above : length held ≤ k).
      let last : k ≡ length held = omega (arith, above, slice_get_within (held ++ record { lits = lits; first = code_of first; second = code_of second } ∷ []) k h at, length_push held record { lits = lits; first = code_of first; second = code_of second }) in
      let is : record { lits = lits; first = code_of first; second = code_of second } ≡ h = same_some (slice_get (held ++ record { lits = lits; first = code_of first; second = code_of second } ∷ []) k) record { lits = lits; first = code_of first; second = code_of second } h (ap (slice_get (held ++ record { lits = lits; first = code_of first; second = code_of second } ∷ [])) last ∙ slice_get-push held record { lits = lits; first = code_of first; second = code_of second }) at in
      subst (λ n. IsWatchedClause trail head lists' n h) (sym last) (subst (λ (y : Held). IsWatchedClause trail head lists' (length held) y) is record {
        paired = paired;
        first_listed = new_first;
        second_listed = new_second;
        kept = kept;
        below = below;
      }))
      (cases_lt k (length held))

  fits_new : (b : ℕ) → Contains lits (literal_of b) → IsFitting (held ++ record { lits = lits; first = code_of first; second = code_of second } ∷ []) record { clause = length held; blocker = b }
  fits_new b h = (record { lits = lits; first = code_of first; second = code_of second }, slice_get-push held record { lits = lits; first = code_of first; second = code_of second }, h)

  fitting_added : (c : ℕ) (v : Watch) → Contains (get_or lists' c []) v → IsFitting (held ++ record { lits = lits; first = code_of first; second = code_of second } ∷ []) v
  fitting_added c v h = ⊎_elim
      (λ mid. ⊎_elim
      (λ old. let f = watched.fitting c v old in (f.0, slice_get-left held (record { lits = lits; first = code_of first; second = code_of second } ∷ []) v.clause f.0 f.1, f.2))
      (λ (new : v ≡ record { clause = length held; blocker = code_of second }). subst (λ z. IsFitting (held ++ record { lits = lits; first = code_of first; second = code_of second } ∷ []) z) (sym new) (fits_new (code_of second) paired.second_in))
      (pushed_cases lists (code_of first) record { clause = length held; blocker = code_of second } c v in_first (subst (λ ls. Contains (get_or ls c []) v) added.middle_is mid)))
      (λ (new : v ≡ record { clause = length held; blocker = code_of first }). subst (λ z. IsFitting (held ++ record { lits = lits; first = code_of first; second = code_of second } ∷ []) z) (sym new) (fits_new (code_of first) paired.first_in))
      (pushed_cases added.middle (code_of second) record { clause = length held; blocker = code_of first } c v in_middle (subst (λ ls. Contains (get_or ls c []) v) added.lists_are h))

  pub IsWatched-added : IsWatched vars trail head held' lists'
  IsWatched-added = subst (λ hs. IsWatched vars trail head hs lists') (sym added.held_is) record {
    sized = lists'_length ∙ watched.sized;
    within = watched.within;
    each = each_added;
    fitting = fitting_added;
  }
