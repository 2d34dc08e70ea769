-- Which premise fails first at a cycle.
use Rattle.std.proofs.Common.{◌≡◌, ◌∙◌, ◌↔◌, ℕ, zero, suc, ◌+◌, ◌<◌, ◌≤◌, Bool, true, false, cond, ◌&&◌, nat_lt, List, [], ◌∷◌, length, get_or, slice_get, inl, inr, Option, Some, None, option_map, refl, sym, ap, subst, arith}
use Rattle.std.specs.Prelude.{IsTrue}
use Rattle.std.proofs.lemmas.Bool.{false≢true}
use Rattle.std.proofs.lemmas.Bool.Decides.{nat_tests}
use Rattle.model_meaning.specs.Model.{Model}
use Rattle.refinement.specs.Map.{Setting}
use Rattle.refinement.specs.Run.{Run, IsResetAt, HoldsOf}
use Rattle.refinement.specs.Refinement.{StartsAt, CommitsAt}
use Rattle.watched_runs.specs.Premises.{Premise, of_reset, of_assumption, of_flight, IsStartInside, PremiseFails, IsFirstFailing, ComesBefore}
use Rattle.watch_laws.specs.Positions.{WatchPosition, in_reset, idle, running, StandsAt}
use Rattle.watch_laws.proofs.Idle.{one_command, after_reset, idle_of, cut, ended_before}
use Rattle.mapped_designs.specs.Mapped.{Mapped}
use Rattle.mapped_designs.specs.Runs.{Values}
use Rattle.run_watch.specs.declared.answers.Premise as code_premise
use Rattle.run_watch.specs.declared.standing.WatchPosition as code_position
use Rattle.run_watch.specs.declared.standing.WatchPosition.TheVariants.{Reset, Idle, Running}
use Rattle.run_watch.specs.View.{premise_of}
use Rattle.run_watch.specs.Failing.{first_broken, after_reset as failing_after_reset, failing, failing_at}
use Rattle.run_watch.specs.Watch.{IsWatchOf}
use Rattle.run_watch.specs.Turns.{NoneFails, IsFailure, position_of, is_running_in}
use Rattle.run_watch.proofs.Lists.{some_same, get_within, get_is}
use Rattle.run_watch.proofs.Linked.{shown_at, reset_shown, start_shown, assumed_shown}

below_is : (a b : ℕ) → nat_lt a b ≡ true → a < b
below_is a b h = grind (arith, nat_tests)

not_below : (a b : ℕ) → nat_lt a b ≡ false → b ≤ a
not_below a b h = grind (arith, nat_tests)

abbrev is_inside : WatchPosition → Bool
is_inside in_reset = false
is_inside (idle n q) = false
is_inside (running n b j r) = true

-- the first condition that does not hold, or none
abbrev IsBroken : (ℕ → Bool) → List ℕ → Option ℕ → Type 0
IsBroken f ids None = (k id : ℕ) → slice_get ids k ≡ Some id → f id ≡ true
IsBroken f ids (Some k) = ((id : ℕ) × (slice_get ids k ≡ Some id) × (f id ≡ false)) × ((l id : ℕ) → l < k → slice_get ids l ≡ Some id → f id ≡ true)

-- the same of what comes after so many
abbrev IsBrokenFrom : (ℕ → Bool) → ℕ → List ℕ → Option ℕ → Type 0
IsBrokenFrom f from ids None = IsBroken f ids None
IsBrokenFrom f from ids (Some k) = (j : ℕ) × (k ≡ from + j) × IsBroken f ids (Some j)

broken_from : (f : ℕ → Bool) (from : ℕ) (ids : List ℕ) → IsBrokenFrom f from ids (first_broken f from ids)
broken_from f from [] = λ k id e. absurd (let none : None ≡ Some id = e in cc)
broken_from f from (id ∷ ids) = by_test (f id) refl (first_broken f (suc from) ids) (broken_from f (suc from) ids)
  where
    here : (b : Bool) → f id ≡ b → (k other : ℕ) → slice_get (id ∷ ids) k ≡ Some other → ((l o : ℕ) → slice_get ids l ≡ Some o → f o ≡ b) → f other ≡ b
    here b e zero other at rest = let same : id ≡ other = some_same at in ap f (sym same) ∙ e
    here b e (suc k) other at rest = rest k other at

    later : (o : Option ℕ) → f id ≡ true → IsBrokenFrom f (suc from) ids o → IsBrokenFrom f from (id ∷ ids) o
    later None e h = λ k other at. here true e k other at h
    later (Some k) e h = (suc h.0, let g = h.1 in omega (arith, g), (h.2.0, before))
      where
        before : (l other : ℕ) → l < suc h.0 → slice_get (id ∷ ids) l ≡ Some other → f other ≡ true
        before zero other less at = let same : id ≡ other = some_same at in ap f (sym same) ∙ e
        before (suc l) other less at = h.2.1 l other (omega (arith, less)) at

    by_test : (b : Bool) → f id ≡ b → (o : Option ℕ) → IsBrokenFrom f (suc from) ids o → IsBrokenFrom f from (id ∷ ids) (cond b o (Some from))
    by_test true e o h = later o e h
    by_test false e o h = (0, omega arith, ((id, refl, e), λ l other less at. absurd (omega (arith, less))))

broken_is : (f : ℕ → Bool) (ids : List ℕ) (o : Option ℕ) → IsBrokenFrom f 0 ids o → IsBroken f ids o
broken_is f ids None h = h
broken_is f ids (Some k) h = let same : h.0 ≡ k = let g = h.1 in omega (arith, g) in subst (λ j. IsBroken f ids (Some j)) same h.2

not_true : (b : Bool) → b ≡ false → ¬ IsTrue b
not_true b e h = false≢true (sym e ∙ h)

module _ (s : Setting) (run : Run) where
  -- A premise that fails first, or none.
  abbrev IsFailing : ℕ → Option Premise → Type 0
  IsFailing t None = NoneFails s run t
  IsFailing t (Some p) = IsFirstFailing s run t p

  not_in_reset : (t : ℕ) → t ≤ s.map.reset_cycles → ¬ IsStartInside s run t
  not_in_reset t le x =
      let l : s.map.reset_cycles ≤ x.begun = after_reset s run t x.ended x.begun x.is_idle in
      let b : x.begun < t = x.after in
      omega (arith, le, l, b)

  module _ (t : ℕ) (active : Bool) (is_active : IsResetAt s run t ↔ IsTrue active) where
    reset_fine : t < s.map.reset_cycles → active ≡ true → ¬ PremiseFails s run t of_reset
    reset_fine less e (inl x) = x.1 (is_active.1 e)
    reset_fine less e (inr x) = let l = x.0 in omega (arith, less, l)

    past_fine : s.map.reset_cycles ≤ t → active ≡ false → ¬ PremiseFails s run t of_reset
    past_fine past e (inl x) = let l = x.0 in omega (arith, past, l)
    past_fine past e (inr x) = not_true active e (is_active.0 x.1)

    in_reset_fine : t < s.map.reset_cycles → active ≡ true → NoneFails s run t
    in_reset_fine less e of_reset x = reset_fine less e x
    in_reset_fine less e (of_assumption k) x = let l = x.0 in omega (arith, less, l)
    in_reset_fine less e of_flight x = not_in_reset t (omega (arith, less)) x

    first_of_all : PremiseFails s run t of_reset → IsFirstFailing s run t of_reset
    first_of_all x = record { fails = x; first = λ other before. by_kind other before }
      where
        by_kind : (other : Premise) → ComesBefore other of_reset → ¬ PremiseFails s run t other
        by_kind of_reset before = absurd before
        by_kind (of_assumption k) before = absurd before
        by_kind of_flight before = absurd before

    -- after the reset, by the assumptions and by whether there is a start inside a command
    module _ (past : s.map.reset_cycles ≤ t) (e : active ≡ false) (f : ℕ → Bool) (ids : List ℕ) (count : length s.map.assume ≤ length ids)
        (holds : (k id : ℕ) → slice_get ids k ≡ Some id → HoldsOf s run s.map.assume k t ↔ IsTrue (f id))
        (there : (k : ℕ) → k < length s.map.assume → (id : ℕ) × (slice_get ids k ≡ Some id)) where
      all_hold : IsBroken f ids None → (k : ℕ) → ¬ PremiseFails s run t (of_assumption k)
      all_hold each k x = let at = there k x.1 in x.2 ((holds k at.0 at.1).1 (each k at.0 at.1))

      none_fails : IsBroken f ids None → ¬ IsStartInside s run t → NoneFails s run t
      none_fails each quiet of_reset x = past_fine past e x
      none_fails each quiet (of_assumption k) x = all_hold each k x
      none_fails each quiet of_flight x = quiet x

      flight_fails : IsBroken f ids None → IsStartInside s run t → IsFirstFailing s run t of_flight
      flight_fails each x = record { fails = x; first = λ other before. by_kind other before }
        where
          by_kind : (other : Premise) → ComesBefore other of_flight → ¬ PremiseFails s run t other
          by_kind of_reset before = past_fine past e
          by_kind (of_assumption k) before = all_hold each k
          by_kind of_flight before = absurd before

      assumption_fails : (k : ℕ) → k < length s.map.assume → IsBroken f ids (Some k) → IsFirstFailing s run t (of_assumption k)
      assumption_fails k within h = record {
        fails = (past, within, λ yes_holds. not_true (f h.0.0) h.0.2 ((holds k h.0.0 h.0.1).0 yes_holds));
        first = λ other before. by_kind other before;
      }
        where
          by_kind : (other : Premise) → ComesBefore other (of_assumption k) → ¬ PremiseFails s run t other
          by_kind of_reset before = past_fine past e
          by_kind (of_assumption l) before = λ x. let at = there l x.1 in x.2 ((holds l at.0 at.1).1 (h.1 l at.0 before at.1))
          by_kind of_flight before = absurd before

      after_by : (inside : Bool) → IsStartInside s run t ↔ IsTrue inside → (o : Option ℕ) → ((k : ℕ) → o ≡ Some k → k < length s.map.assume)
          → IsBroken f ids o → IsFailing t (failing_after_reset o inside)
      after_by inside flight (Some k) within h = assumption_fails k (within k refl) h
      after_by true flight None within h = flight_fails h (flight.1 refl)
      after_by false flight None within h = none_fails h (λ x. false≢true (flight.0 x))

  -- ---- a start inside a command, by where the watch stands

  flight_told : (t : ℕ) (p : WatchPosition) → StandsAt s run t p → (starts : Bool) → StartsAt s run t ↔ IsTrue starts → IsStartInside s run t ↔ IsTrue (is_inside p && starts)
  flight_told t in_reset stands starts told = (λ x. absurd (not_in_reset t stands x), λ h. absurd (false≢true h))
  flight_told t (idle n q) stands starts told = (λ x. absurd (quiet x), λ h. absurd (false≢true h))
    where
      quiet : IsStartInside s run t → ⊥
      quiet x =
          let e = ended_before s run t t n x.ended t x.begun (idle_of s run t n t q stands.1) x.is_idle x.after x.begins in
          x.not_ended e.j e.last e.is_command e.ends.from e.before e.ends.commits
  flight_told t (running n b j r) stands starts told = (
    λ x. told.0 x.starts,
    λ h.
        let less : b < t = stands.before in
        record {
          ended = n;
          begun = b;
          is_idle = cut s run b t n b (omega (arith, less)) (idle_of s run b n b stands.q stands.is_state);
          begins = stands.starts;
          after = less;
          not_ended = λ k u is from below.
              let same : k ≡ j = one_command s.model _ _ k j is stands.is_command in
              λ commits. stands.not_ended u from below (subst (λ i. CommitsAt s run i u) same commits);
          starts = told.1 h;
        },
  )

inside_is : (m : Model) (p : code_position.WatchPosition) → is_running_in p ≡ is_inside (position_of m p)
inside_is m Reset = refl
inside_is m (Idle n q) = refl
inside_is m (Running n b j r) = refl

failure_of : (s : Setting) (run : Run) (t : ℕ) (o : Option code_premise.Premise) → IsFailing s run t (option_map premise_of o) → IsFailure s run t o
failure_of s run t None h = h
failure_of s run t (Some p) h = h

module _ (m : Model) (e : Mapped) (x : Values) (s : Setting) (run : Run) (cycles : ℕ) (w : IsWatchOf m e x s run cycles) (t : ℕ) (less : t < cycles) where
  abbrev f : ℕ → Bool
  f id = shown_at m e x s run cycles w t id

  counted : length e.assume ≡ length s.map.assume
  counted = w.counts.assume

  in_reset_or_after : (active resetting inside : Bool) (o : Option ℕ) → IsResetAt s run t ↔ IsTrue active → nat_lt t e.reset_cycles ≡ resetting
      → IsStartInside s run t ↔ IsTrue inside → f e.reset ≡ active → o ≡ first_broken f 0 e.assume → IsFailing s run t (failing active resetting o inside)
  in_reset_or_after true true inside o reset low flight e_active is =
      in_reset_fine s run t true reset (below low) refl
    where
      below : nat_lt t e.reset_cycles ≡ true → t < s.map.reset_cycles
      below h = let l = below_is t e.reset_cycles h in omega (arith, l, w.mapped.reset_cycles)
  in_reset_or_after false true inside o reset low flight e_active is =
      first_of_all s run t false reset (inl (below low, λ h. false≢true (reset.0 h)))
    where
      below : nat_lt t e.reset_cycles ≡ true → t < s.map.reset_cycles
      below h = let l = below_is t e.reset_cycles h in omega (arith, l, w.mapped.reset_cycles)
  in_reset_or_after true false inside o reset high flight e_active is =
      first_of_all s run t true reset (inr (above high, reset.1 refl))
    where
      above : nat_lt t e.reset_cycles ≡ false → s.map.reset_cycles ≤ t
      above h = let l = not_below t e.reset_cycles h in omega (arith, l, w.mapped.reset_cycles)
  in_reset_or_after false false inside o reset high flight e_active is =
      after_by s run t false reset (above high) refl f e.assume (omega (arith, counted))
      (λ k id at. assumed_shown m e x s run cycles w k t id less at)
      (λ k l. (get_or e.assume k 0, get_is e.assume k 0 (omega (arith, l, counted)))) inside flight o
      (λ k same. within k same)
      (subst (λ b. IsBroken f e.assume b) (sym is) found)
    where
      above : nat_lt t e.reset_cycles ≡ false → s.map.reset_cycles ≤ t
      above h = let l = not_below t e.reset_cycles h in omega (arith, l, w.mapped.reset_cycles)

      found : IsBroken f e.assume (first_broken f 0 e.assume)
      found = broken_is f e.assume (first_broken f 0 e.assume) (broken_from f 0 e.assume)

      within : (k : ℕ) → o ≡ Some k → k < length s.map.assume
      within k same =
          let h : IsBroken f e.assume (Some k) = subst (λ b. IsBroken f e.assume b) (sym is ∙ same) found in
          let l = get_within e.assume k h.0.0 h.0.1 in
          omega (arith, l, counted)

  -- What the code finds fails first.
  pub fails_first : (p : code_position.WatchPosition) (result : Option code_premise.Premise) → StandsAt s run t (position_of m p)
      → option_map premise_of result ≡ failing_at e f t (is_running_in p) → IsFailure s run t result
  fails_first p result stands is =
      failure_of s run t result
      (subst (λ o. IsFailing s run t o) (sym is)
      (in_reset_or_after (f e.reset) (nat_lt t e.reset_cycles) (is_running_in p && f e.start) (first_broken f 0 e.assume)
      (reset_shown m e x s run cycles w t less) refl
      (subst (λ b. IsStartInside s run t ↔ IsTrue (b && f e.start)) (sym (inside_is m p))
      (flight_told s run t (position_of m p) stands (f e.start) (start_shown m e x s run cycles w t less))) refl refl))
