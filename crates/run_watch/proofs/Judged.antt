-- What is found at a cycle: which state differs, and what the run disagrees in first.
use Rattle.std.proofs.Common.{◌≡◌, ◌≢◌, ◌∙◌, ℕ, suc, ◌+◌, ◌<◌, ◌≤◌, List, slice_get, ◌⊎◌, inl, inr, Option, Some, None, sym, ap, subst, arith}
use Rattle.wb_values.specs.Value.{Value, Valuation}
use Rattle.model_meaning.specs.Model.{Model, StateDeclaration, states_of}
use Rattle.model_meaning.specs.Instruction.{Steps}
use Rattle.refinement.specs.Map.{Setting, InstructionMap}
use Rattle.refinement.specs.Run.{Run}
use Rattle.refinement.specs.Refinement.{state_at, inputs_at, StartsAt, CommitsAt, IsMapEntry, IsCommandOf, HasState}
use Rattle.wb_terms.specs.Graph.{HasDistinctNames}
use Rattle.ila_child.specs.State.{sorts_of_states, IsStateOf, state_valuation}
use Rattle.watched_runs.specs.Disagreements.{Disagreement, initial_value, no_step, past_bound, other_state, IsOtherInitial, HasNoStep, IsPastBound, IsOtherState, DisagreesAt, StandsBefore}
use Rattle.watch_laws.specs.Positions.{IsWatchedTo, IsIdleAt, idle, running}
use Rattle.wb_laws.proofs.Sequence.{idle_state}
use Rattle.watch_laws.proofs.Idle.{state_cut}
use Rattle.watch_laws.proofs.Watching.{no_step_quiet, no_step_with, no_bound_quiet, bound_of, no_bound_committed, no_bound_far, running_first, stays_idle, ends_at_once, begins, idle_quiet_at_end}
use Rattle.run_watch.specs.Comparing.{IsFirstDifference, IsOtherStated, IsFirstOtherStated}
use Rattle.run_watch.specs.Turns.{NoneFails, IsFirstInside, IsFirstAtEnd, IsOtherAt, IsSameAt, IsFirstOther}
use Rattle.run_watch.proofs.Names.{value_at, value_of_state, state_of_value}

module _ (m : Model) (s : Setting) (run : Run) (t : ℕ) (is_model : s.model ≡ m) (apart : HasDistinctNames (sorts_of_states (states_of m.top))) where
  there : (k : ℕ) (d : StateDeclaration) → slice_get (states_of s.model.top) k ≡ Some d → slice_get (states_of m.top) k ≡ Some d
  there k d e = subst (λ (n : Model). slice_get (states_of n.top) k ≡ Some d) is_model e

  back : (k : ℕ) (d : StateDeclaration) → slice_get (states_of m.top) k ≡ Some d → slice_get (states_of s.model.top) k ≡ Some d
  back k d e = subst (λ (n : Model). slice_get (states_of n.top) k ≡ Some d) (sym is_model) e

  -- values of the mapped state are those of the run
  module _ (a : List Value) (of_model : IsStateOf m a) (shown : state_valuation m a ≡ state_at s run t) where
    mapped_value : (k : ℕ) (d : StateDeclaration) (y : Value) → slice_get (states_of m.top) k ≡ Some d → slice_get a k ≡ Some y → state_at s run t d.state_name ≡ y
    mapped_value k d y e f = sym (ap (λ (v : Valuation). v d.state_name) shown) ∙ value_at m a k d y apart e f

    -- Where two lists differ first, the run's state and the model's do.
    pub first_other : (q : List Value) (o : Option ℕ) → IsStateOf m q → IsFirstDifference a q o → IsFirstOther s run t (state_valuation m q) o
    first_other q None of_q same = λ k d e. sym (ap (λ (v : Valuation). v d.state_name) shown) ∙ ap (λ ys. state_valuation m ys d.state_name) same
    first_other q (Some k) of_q h = (
      differs,
      λ l less d e.
          let y = value_of_state m a l d of_model (there l d e) in
          mapped_value l d y.0 (there l d e) y.1 ∙ sym (value_at m q l d y.0 apart (there l d e) (sym (h.1 l less) ∙ y.1)),
    )
      where
        differs : IsOtherAt s run t (state_valuation m q) k
        differs =
            let x = h.0 in
            let d = state_of_value m a k x.one of_model x.is_one in
            record {
              state = d.0;
              is_state = back k d.0 d.1;
              differs = λ e. x.differs (sym (mapped_value k d.0 x.one d.1 x.is_one) ∙ e ∙ value_at m q k d.0 x.two apart d.1 x.is_two);
            }

    -- At the cycle after the reset, where a state is first another than stated.
    other_stated : (cycles k : ℕ) → IsOtherInitial s run cycles t k → IsOtherStated (states_of m.top) a k
    other_stated cycles k x =
        let y = value_of_state m a k x.state of_model (there k x.state x.is_state) in
        record {
          state = x.state;
          stated = x.value;
          value = y.0;
          is_state = there k x.state x.is_state;
          is_stated = x.stated;
          is_value = y.1;
          differs = λ e. x.differs (mapped_value k x.state y.0 (there k x.state x.is_state) y.1 ∙ e);
        }

    pub none_stated : IsFirstOtherStated (states_of m.top) a None → (cycles k : ℕ) → ¬ IsOtherInitial s run cycles t k
    none_stated none cycles k x = none k (other_stated cycles k x)

    pub initial_differs : (k : ℕ) → t ≡ s.map.reset_cycles → IsFirstOtherStated (states_of m.top) a (Some k) → (cycles : ℕ) → t ≤ cycles → IsOtherInitial s run cycles t k
    initial_differs k at h cycles le =
        let x = h.0 in
        record {
          state = x.state;
          value = x.stated;
          at_reset = at;
          within = le;
          is_state = back k x.state x.is_state;
          stated = x.is_stated;
          differs = λ e. x.differs (sym (mapped_value k x.state x.value x.is_state x.is_value) ∙ e);
        }

    pub initial_first : (k : ℕ) → IsFirstOtherStated (states_of m.top) a (Some k) → (cycles : ℕ) (other : Disagreement) → StandsBefore other (initial_value k)
        → ¬ DisagreesAt s run cycles t other
    initial_first k h cycles (initial_value l) before x = h.1 l before (other_stated cycles l x)
    initial_first k h cycles no_step before x = before
    initial_first k h cycles (past_bound j) before x = before
    initial_first k h cycles (other_state l) before x = before

    pub initial_inside : (k : ℕ) → t ≡ s.map.reset_cycles → IsFirstOtherStated (states_of m.top) a (Some k) → IsFirstInside s run t (initial_value k)
    initial_inside k at h = record { now = λ cycles less. initial_differs k at h cycles (omega (arith, less)); first = initial_first k h }

    pub initial_at_end : (k : ℕ) → t ≡ s.map.reset_cycles → IsFirstOtherStated (states_of m.top) a (Some k) → IsFirstAtEnd s run t (initial_value k)
    initial_at_end k at h = record { now = initial_differs k at h t (omega arith); first = initial_first k h t }

-- ---- an idle cycle

module _ (s : Setting) (run : Run) (t n : ℕ) (q : Valuation) (a : IsIdleAt s run t n q) where
  here : HasState s run t n q t
  here = a.is_state

  state_differs : (k : ℕ) → IsOtherAt s run t q k → (cycles : ℕ) → t ≤ cycles → IsOtherState s run cycles t k
  state_differs k x cycles le = record {
    state = x.state;
    ended = n;
    q = q;
    is_model_state = state_cut s run t cycles n t q le here;
    within = le;
    is_state = x.is_state;
    differs = x.differs;
  }

  same_at : (k : ℕ) → IsSameAt s run t q k → (cycles : ℕ) → ¬ IsOtherState s run cycles t k
  same_at k same cycles x =
      let y = x.is_model_state in
      x.differs (same x.state x.is_state ∙ ap (λ (v : Valuation). v x.state.state_name) (sym (one_state cycles x.ended x.q y)))
    where
      one_state : (c : ℕ) (l : ℕ) (r : Valuation) → HasState s run c l r t → r ≡ q
      one_state c l r h = (idle_state s run t l n t r q (state_cut s run c t l t r (omega arith) h) here).1

  -- A state differs first, where there is no step that is missing and no bound that is past.
  differs_first : (k : ℕ) → IsFirstOther s run t q (Some k) → ((cycles : ℕ) → ¬ HasNoStep s run cycles t) → ((cycles j : ℕ) → ¬ IsPastBound s run cycles t j)
      → (cycles : ℕ) (other : Disagreement) → StandsBefore other (other_state k) → ¬ DisagreesAt s run cycles t other
  differs_first k h step bound cycles (initial_value l) before x = a.initial cycles l x
  differs_first k h step bound cycles no_step before x = step cycles x
  differs_first k h step bound cycles (past_bound j) before x = bound cycles j x
  differs_first k h step bound cycles (other_state l) before x = same_at l (h.1 l before) cycles x

  differs_inside : (k : ℕ) → IsFirstOther s run t q (Some k) → ((cycles : ℕ) → ¬ HasNoStep s run cycles t) → ((cycles j : ℕ) → ¬ IsPastBound s run cycles t j)
      → IsFirstInside s run t (other_state k)
  differs_inside k h step bound = record {
    now = λ cycles less. state_differs k h.0 cycles (omega (arith, less));
    first = differs_first k h step bound;
  }

  -- at the end of the run
  pub differs_at_end : (k : ℕ) → IsFirstOther s run t q (Some k) → IsFirstAtEnd s run t (other_state k)
  differs_at_end k h = record { now = state_differs k h.0 t (omega arith); first = by_kind }
    where
      by_kind : (other : Disagreement) → StandsBefore other (other_state k) → ¬ DisagreesAt s run t t other
      by_kind (initial_value l) before x = a.initial t l x
      by_kind no_step before x = let l : t < t = x.within in omega (arith, l)
      by_kind (past_bound j) before x = let l : t < t = x.within in omega (arith, l)
      by_kind (other_state l) before x = same_at l (h.1 l before) t x

  pub quiet_at_end : IsFirstOther s run t q None → (which : Disagreement) → ¬ DisagreesAt s run t t which
  quiet_at_end same = idle_quiet_at_end s run t n q a same

  -- nothing disagrees
  none_disagrees : IsFirstOther s run t q None → ((cycles : ℕ) → ¬ HasNoStep s run cycles t) → ((cycles j : ℕ) → ¬ IsPastBound s run cycles t j)
      → (cycles : ℕ) (which : Disagreement) → ¬ DisagreesAt s run cycles t which
  none_disagrees same step bound cycles (initial_value k) x = a.initial cycles k x
  none_disagrees same step bound cycles no_step x = step cycles x
  none_disagrees same step bound cycles (past_bound j) x = bound cycles j x
  none_disagrees same step bound cycles (other_state k) x = same_at k (same k) cycles x

  -- ---- without a start

  pub quiet_differs : (k : ℕ) → ¬ StartsAt s run t → IsFirstOther s run t q (Some k) → IsFirstInside s run t (other_state k)
  quiet_differs k quiet h = differs_inside k h (no_step_quiet s run t n q here quiet) (no_bound_quiet s run t n q here quiet)

  pub quiet_goes : ¬ StartsAt s run t → NoneFails s run t → IsFirstOther s run t q None → IsWatchedTo s run (suc t) (idle n q)
  quiet_goes quiet none same =
      stays_idle s run t n q a none (none_disagrees same (no_step_quiet s run t n q here quiet) (no_bound_quiet s run t n q here quiet)) quiet

  -- ---- with a start

  -- no step
  pub no_step_first : StartsAt s run t → ¬ (((j : ℕ) × IsCommandOf s run t j) × ((r : Valuation) × Steps s.model q (inputs_at s run t) r)) → IsFirstInside s run t no_step
  no_step_first starts none = record {
    now = λ cycles less. record {
      ended = n;
      q = q;
      is_state = state_cut s run t cycles n t q (omega (arith, less)) here;
      within = less;
      starts = starts;
      none = none;
    };
    first = λ cycles other before. by_kind cycles other before;
  }
    where
      by_kind : (cycles : ℕ) (other : Disagreement) → StandsBefore other no_step → ¬ DisagreesAt s run cycles t other
      by_kind cycles (initial_value k) before x = a.initial cycles k x
      by_kind cycles no_step before x = before
      by_kind cycles (past_bound j) before x = before
      by_kind cycles (other_state k) before x = before

  module _ (j : ℕ) (r : Valuation) (starts : StartsAt s run t) (is : IsCommandOf s run t j) (steps : Steps s.model q (inputs_at s run t) r) where
    has_step : (cycles : ℕ) → ¬ HasNoStep s run cycles t
    has_step cycles x = no_step_with s run t n q here j r is steps cycles x

    -- the bound is past at once
    pub bound_first : (e : InstructionMap) → IsMapEntry s j e → e.bound ≡ 1 → ¬ CommitsAt s run j t → IsFirstInside s run t (past_bound j)
    bound_first e entry one open_now = record {
      now = λ cycles less. record {
        ended = n;
        begun = t;
        q = q;
        entry = e;
        is_state = state_cut s run t cycles n t q (omega (arith, less)) here;
        starts = starts;
        is_command = is;
        is_entry = entry;
        from = omega arith;
        is_last = omega (arith, one);
        within = less;
        not_ended = λ u from to. subst (λ y. ¬ CommitsAt s run j y) (only t u from to) open_now;
      };
      first = λ cycles other before. by_kind cycles other before;
    }
      where
        only : (x y : ℕ) → x ≤ y → y ≤ x → x ≡ y
        only x y le ge = omega (arith, le, ge)

        by_kind : (cycles : ℕ) (other : Disagreement) → StandsBefore other (past_bound j) → ¬ DisagreesAt s run cycles t other
        by_kind cycles (initial_value k) before x = a.initial cycles k x
        by_kind cycles no_step before x = has_step cycles x
        by_kind cycles (past_bound l) before x = let same : l ≡ j = bound_of s run t n q here j is cycles l x in omega (arith, before, same)
        by_kind cycles (other_state k) before x = before

    -- its commit is there, or its bound is not past at once
    pub started_differs : (k : ℕ) → IsFirstOther s run t q (Some k) → ((cycles l : ℕ) → ¬ IsPastBound s run cycles t l) → IsFirstInside s run t (other_state k)
    started_differs k h bound = differs_inside k h has_step bound

    pub committed : CommitsAt s run j t → (cycles l : ℕ) → ¬ IsPastBound s run cycles t l
    committed commits cycles l x = no_bound_committed s run t n q here j is commits cycles l x

    pub far : (e : InstructionMap) → IsMapEntry s j e → e.bound ≢ 1 → (cycles l : ℕ) → ¬ IsPastBound s run cycles t l
    far e entry more cycles l x = no_bound_far s run t n q here j e is entry (λ last. more (omega (arith, last))) cycles l x

    pub started_ends : NoneFails s run t → IsFirstOther s run t q None → CommitsAt s run j t → IsWatchedTo s run (suc t) (idle (suc n) r)
    started_ends none same commits =
        ends_at_once s run t n j q r a none (none_disagrees same has_step (committed commits)) starts is steps commits

    pub started_goes : (e : InstructionMap) → IsMapEntry s j e → 1 ≤ e.bound → e.bound ≢ 1 → NoneFails s run t → IsFirstOther s run t q None → ¬ CommitsAt s run j t
        → IsWatchedTo s run (suc t) (running n t j r)
    started_goes e entry above more none same open_now =
        begins s run t n j q r e a none (none_disagrees same has_step (far e entry more)) starts is steps entry above (λ last. more (omega (arith, last))) open_now

-- ---- a cycle inside a command

module _ (s : Setting) (run : Run) (t n b j : ℕ) (r : Valuation) (w : IsWatchedTo s run t (running n b j r)) where
  pub bound_passed : suc t ≡ b + w.stands.entry.bound → ¬ CommitsAt s run j t → IsFirstInside s run t (past_bound j)
  bound_passed last open_now =
      let x = w.stands in
      let before : b < t = x.before in
      record {
        now = λ cycles less. record {
          ended = n;
          begun = b;
          q = x.q;
          entry = x.entry;
          is_state = state_cut s run b cycles n b x.q (omega (arith, before, less)) x.is_state;
          starts = x.starts;
          is_command = x.is_command;
          is_entry = x.is_entry;
          from = omega (arith, before);
          is_last = last;
          within = less;
          not_ended = λ u from to. by_place u from (low_or_same u t to);
        };
        first = λ cycles other stands_before. running_first s run t n b j r x cycles 0 other stands_before;
      }
    where
      low_or_same : (u v : ℕ) → u ≤ v → (u < v) ⊎ (v ≡ u)
      low_or_same u v le = grind arith

      by_place : (u : ℕ) → b ≤ u → (u < t) ⊎ (t ≡ u) → ¬ CommitsAt s run j u
      by_place u from (inl less) = w.stands.not_ended u from less
      by_place u from (inr same) = subst (λ y. ¬ CommitsAt s run j y) same open_now
