-- A watch goes on cycle by cycle: what stands at one cycle, and what its end answers.
use Rattle.std.proofs.Common.{◌≡◌, ◌≢◌, ◌∙◌, ℕ, zero, suc, ◌+◌, ◌<◌, ◌≤◌, ◌⊎◌, inl, inr, Some, arith, subst, sym, refl, ap}
use Rattle.std.specs.Prelude.{slice_get}
use Rattle.wb_values.specs.Value.{Valuation}
use Rattle.model_meaning.specs.Model.{StateDeclaration, instruction_name, states_of}
use Rattle.model_meaning.specs.Instruction.{Steps}
use Rattle.refinement.specs.Map.{Setting, InstructionMap, instruction_map}
use Rattle.refinement.specs.Run.{Run}
use Rattle.refinement.specs.Refinement.{state_at, inputs_at, StartsAt, IsMapEntry, CommitsAt, IsCommandOf, IsIdle, HasState, Refines}
use Rattle.refinement.specs.Soundness.{IsComplete}
use Rattle.wb_laws.proofs.Sequence.{idle_count, idle_state}
use Rattle.watched_runs.specs.Premises.{Premise, PremiseFails, IsFirstFailing, HavePremises, IsPremiseEnd}
use Rattle.watched_runs.specs.Disagreements.{Disagreement, initial_value, no_step, past_bound, other_state, IsOtherInitial, HasNoStep, IsPastBound, IsOtherState, DisagreesAt, StandsBefore}
use Rattle.watched_runs.specs.Watched.{agrees, outside, disagrees, HasEnded, in_reset, at_last, IsWatched, it_disagrees, it_is_outside, it_agrees}
use Rattle.watched_runs.specs.Laws.{StatesAreNamed}
use Rattle.watched_runs.proofs.Refining.{no_disagreement}
use Rattle.watch_laws.specs.Positions.{WatchPosition, IsRunning, AgreesBefore, IsWatchedTo, IsIdleAt}
use Rattle.watch_laws.specs.Positions as position
use Rattle.watch_laws.proofs.Idle.{compared, one_command, after_reset, idle_within, cut, not_inside, ended_before, not_idle, idle_of, state_cut}
use Rattle.watch_laws.proofs.Deciding.{some_same, one_more, premise_end}
use Rattle.watch_laws.proofs.Refining.{agreeing_runs_refine}

module _ (s : Setting) (run : Run) where
  -- ---- what no cycle of the reset does

  in_reset_quiet : (cycles t : ℕ) → t < s.map.reset_cycles → (which : Disagreement) → ¬ DisagreesAt s run cycles t which
  in_reset_quiet cycles t less (initial_value k) x = let e : t ≡ s.map.reset_cycles = x.at_reset in omega (arith, less, e)
  in_reset_quiet cycles t less no_step x =
      let l : s.map.reset_cycles ≤ t = after_reset s run cycles x.ended t (idle_of s run cycles x.ended t x.q x.is_state) in omega (arith, less, l)
  in_reset_quiet cycles t less (past_bound j) x =
      let l : s.map.reset_cycles ≤ x.begun = after_reset s run cycles x.ended x.begun (idle_of s run cycles x.ended x.begun x.q x.is_state) in
      let f : x.begun ≤ t = x.from in
      omega (arith, less, l, f)
  in_reset_quiet cycles t less (other_state k) x =
      let l : s.map.reset_cycles ≤ t = after_reset s run cycles x.ended t (idle_of s run cycles x.ended t x.q x.is_model_state) in omega (arith, less, l)

  pub no_initial_after : (cycles t k : ℕ) → s.map.reset_cycles < t → ¬ IsOtherInitial s run cycles t k
  no_initial_after cycles t k more x = let e : t ≡ s.map.reset_cycles = x.at_reset in omega (arith, more, e)

  -- each instruction has one entry
  same_entry : (j : ℕ) (a b : InstructionMap) → IsMapEntry s j a → IsMapEntry s j b → b ≡ a
  same_entry j a b x y =
      let same : y.0 ≡ x.0 = some_same (sym y.1 ∙ x.1) in
      some_same (sym (subst (λ i. instruction_map s.map.instructions (instruction_name i) ≡ Some b) same y.2) ∙ x.2)

  -- ---- an idle cycle

  module _ (t n : ℕ) (q : Valuation) (h : HasState s run t n q t) where
    idle_here : IsIdle s run t n t
    idle_here = idle_of s run t n t q h

    one_state : (cycles m : ℕ) (r : Valuation) → HasState s run cycles m r t → r ≡ q
    one_state cycles m r g = (idle_state s run t m n t r q (state_cut s run cycles t m t r (omega arith) g) h).1

    pub no_step_quiet : ¬ StartsAt s run t → (cycles : ℕ) → ¬ HasNoStep s run cycles t
    no_step_quiet quiet cycles x = quiet x.starts

    pub no_step_with : (j : ℕ) (r : Valuation) → IsCommandOf s run t j → Steps s.model q (inputs_at s run t) r → (cycles : ℕ) → ¬ HasNoStep s run cycles t
    no_step_with j r is steps cycles x =
        x.none ((j, is), (r, subst (λ y. Steps s.model y (inputs_at s run t) r) (sym (one_state cycles x.ended x.q x.is_state)) steps))

    begun_now : (cycles l : ℕ) → (x : IsPastBound s run cycles t l) → x.begun ≡ t
    begun_now cycles l x = elim (compared x.begun t) [
      | inl less ↦
          absurd (not_idle s run t cycles n x.ended t x.begun l idle_here (idle_of s run cycles x.ended x.begun x.q x.is_state) less x.starts x.is_command
          (λ u from below. x.not_ended u from (omega (arith, below))))
      | inr (inl more) ↦ let f : x.begun ≤ t = x.from in absurd (omega (arith, more, f))
      | inr (inr e) ↦ e
    ]

    pub no_bound_quiet : ¬ StartsAt s run t → (cycles l : ℕ) → ¬ IsPastBound s run cycles t l
    no_bound_quiet quiet cycles l x = quiet (subst (λ y. StartsAt s run y) (begun_now cycles l x) x.starts)

    -- a command that is past its bound at once is that of the instruction that starts
    pub bound_of : (j : ℕ) → IsCommandOf s run t j → (cycles l : ℕ) → IsPastBound s run cycles t l → l ≡ j
    bound_of j is cycles l x = one_command s.model (state_at s run t) (inputs_at s run t) l j (subst (λ y. IsCommandOf s run y l) (begun_now cycles l x) x.is_command) is

    pub no_bound_committed : (j : ℕ) → IsCommandOf s run t j → CommitsAt s run j t → (cycles l : ℕ) → ¬ IsPastBound s run cycles t l
    no_bound_committed j is commits cycles l x = x.not_ended t x.from (omega arith) (subst (λ i. CommitsAt s run i t) (sym (bound_of j is cycles l x)) commits)

    pub no_bound_far : (j : ℕ) (e : InstructionMap) → IsCommandOf s run t j → IsMapEntry s j e → suc t ≢ t + e.bound → (cycles l : ℕ) → ¬ IsPastBound s run cycles t l
    no_bound_far j e is entry far cycles l x =
        let at : x.begun ≡ t = begun_now cycles l x in
        let last : suc t ≡ x.begun + x.entry.bound = x.is_last in
        let same : x.entry ≡ e = same_entry j e x.entry entry (subst (λ z. IsMapEntry s z x.entry) (bound_of j is cycles l x) x.is_entry) in
        far (subst (λ y. suc t ≡ y + e.bound) at (subst (λ (y : InstructionMap). suc t ≡ x.begun + y.bound) same last))

    pub no_other : ((k : ℕ) (d : StateDeclaration) → slice_get (states_of s.model.top) k ≡ Some d → state_at s run t d.state_name ≡ q d.state_name)
        → (cycles k : ℕ) → ¬ IsOtherState s run cycles t k
    no_other same cycles k x =
        x.differs (subst (λ (y : Valuation). state_at s run t x.state.state_name ≡ y x.state.state_name) (sym (one_state cycles x.ended x.q x.is_model_state)) (same k x.state x.is_state))

  -- ---- a cycle inside a command

  module _ (t n b j : ℕ) (r : Valuation) (x : IsRunning s run t n b j r) where
    began_idle : IsIdle s run b n b
    began_idle = idle_of s run b n b x.q x.is_state

    begun_after_reset : s.map.reset_cycles < t
    begun_after_reset = let l : s.map.reset_cycles ≤ b = after_reset s run b n b began_idle in let m : b < t = x.before in omega (arith, l, m)

    not_idle_now : (cycles m u : ℕ) → b < u → u ≤ t → IsIdle s run cycles m u → ⊥
    not_idle_now cycles m u less le g =
        not_idle s run cycles b m n u b j g began_idle less x.starts x.is_command (λ y from below. x.not_ended y from (omega (arith, below, le)))

    same_begun : (cycles l : ℕ) → (y : IsPastBound s run cycles t l) → y.begun ≡ b
    same_begun cycles l y = elim (compared y.begun b) [
      | inl less ↦
          let m : b < t = x.before in
          absurd (not_idle s run b cycles n y.ended b y.begun l began_idle (idle_of s run cycles y.ended y.begun y.q y.is_state) less y.starts y.is_command
          (λ u from below. y.not_ended u from (omega (arith, below, m))))
      | inr (inl more) ↦ absurd (not_idle_now cycles y.ended y.begun more y.from (idle_of s run cycles y.ended y.begun y.q y.is_state))
      | inr (inr e) ↦ e
    ]

    pub running_bound_of : (cycles l : ℕ) → IsPastBound s run cycles t l → l ≡ j
    running_bound_of cycles l y =
        one_command s.model (state_at s run b) (inputs_at s run b) l j (subst (λ z. IsCommandOf s run z l) (same_begun cycles l y) y.is_command) x.is_command

    no_start_disagrees : (cycles : ℕ) → ¬ HasNoStep s run cycles t
    no_start_disagrees cycles y = not_idle_now cycles y.ended t x.before (omega arith) (idle_of s run cycles y.ended t y.q y.is_state)

    no_state_disagrees : (cycles k : ℕ) → ¬ IsOtherState s run cycles t k
    no_state_disagrees cycles k y = not_idle_now cycles y.ended t x.before (omega arith) (idle_of s run cycles y.ended t y.q y.is_model_state)

    no_bound_if_committed : CommitsAt s run j t → (cycles l : ℕ) → ¬ IsPastBound s run cycles t l
    no_bound_if_committed commits cycles l y = y.not_ended t y.from (omega arith) (subst (λ i. CommitsAt s run i t) (sym (running_bound_of cycles l y)) commits)

    no_bound_before : suc t ≢ b + x.entry.bound → (cycles l : ℕ) → ¬ IsPastBound s run cycles t l
    no_bound_before far cycles l y =
        let last : suc t ≡ y.begun + y.entry.bound = y.is_last in
        let same : y.entry ≡ x.entry = same_entry j x.entry y.entry x.is_entry (subst (λ z. IsMapEntry s z y.entry) (running_bound_of cycles l y) y.is_entry) in
        far (subst (λ z. suc t ≡ z + x.entry.bound) (same_begun cycles l y) (subst (λ (z : InstructionMap). suc t ≡ y.begun + z.bound) same last))

    -- nothing but its bound disagrees inside a command
    pub running_quiet : ((cycles l : ℕ) → ¬ IsPastBound s run cycles t l) → (cycles : ℕ) (which : Disagreement) → ¬ DisagreesAt s run cycles t which
    running_quiet bound cycles (initial_value k) y = no_initial_after cycles t k begun_after_reset y
    running_quiet bound cycles no_step y = no_start_disagrees cycles y
    running_quiet bound cycles (past_bound l) y = bound cycles l y
    running_quiet bound cycles (other_state k) y = no_state_disagrees cycles k y

    -- past its bound it disagrees so first
    pub running_first : (cycles l : ℕ) (other : Disagreement) → StandsBefore other (past_bound j) → ¬ DisagreesAt s run cycles t other
    running_first cycles l (initial_value k) before y = no_initial_after cycles t k begun_after_reset y
    running_first cycles l no_step before y = no_start_disagrees cycles y
    running_first cycles l (past_bound k) before y = let e : k ≡ j = running_bound_of cycles k y in omega (arith, before, e)
    running_first cycles l (other_state k) before y = before

  -- ---- one cycle more

  pub agrees_on : (t : ℕ) → AgreesBefore s run t → ((cycles : ℕ) (which : Disagreement) → ¬ DisagreesAt s run cycles t which) → AgreesBefore s run (suc t)
  agrees_on t before now cycles u which less x = elim (compared u t) [
    | inl low ↦ before cycles u which low x
    | inr (inl high) ↦ omega (arith, less, high)
    | inr (inr e) ↦ now cycles which (subst (λ y. DisagreesAt s run cycles y which) e x)
  ]

  abbrev NoneFails : ℕ → Type 0
  NoneFails t = (which : Premise) → ¬ PremiseFails s run t which

  pub at_start : IsWatchedTo s run 0 position.in_reset
  at_start = record {
    stands = omega arith;
    premises = λ u which less. absurd (omega (arith, less));
    agrees = λ cycles u which less. absurd (omega (arith, less));
  }

  pub reset_on : (t : ℕ) → IsWatchedTo s run t position.in_reset → t < s.map.reset_cycles → NoneFails t → IsWatchedTo s run (suc t) position.in_reset
  reset_on t w less none = record {
    stands = omega (arith, less);
    premises = one_more s run t w.premises none;
    agrees = agrees_on t w.agrees (λ cycles which. in_reset_quiet cycles t less which);
  }

  -- the cycle after the reset
  pub idle_after_reset : (t : ℕ) → IsWatchedTo s run t position.in_reset → t ≡ s.map.reset_cycles → ((cycles k : ℕ) → ¬ IsOtherInitial s run cycles t k)
      → IsIdleAt s run t 0 (state_at s run t)
  idle_after_reset t w e initial = record {
    is_state = subst (λ x. HasState s run x 0 (state_at s run x) x) (sym e) (HasState.after_reset (omega arith));
    premises = w.premises;
    agrees = w.agrees;
    initial = initial;
  }

  pub idle_later : (t n : ℕ) (q : Valuation) → IsWatchedTo s run t (position.idle n q) → IsIdleAt s run t n q
  idle_later t n q w = record {
    is_state = w.stands.1;
    premises = w.premises;
    agrees = w.agrees;
    initial = λ cycles k. no_initial_after cycles t k w.stands.0;
  }

  past : (t n : ℕ) (q : Valuation) → HasState s run t n q t → s.map.reset_cycles < suc t
  past t n q h = let l : s.map.reset_cycles ≤ t = after_reset s run t n t (idle_of s run t n t q h) in omega (arith, l)

  pub stays_idle : (t n : ℕ) (q : Valuation) → IsIdleAt s run t n q → NoneFails t → ((cycles : ℕ) (which : Disagreement) → ¬ DisagreesAt s run cycles t which)
      → ¬ StartsAt s run t → IsWatchedTo s run (suc t) (position.idle n q)
  stays_idle t n q a none quiet no_start = record {
    stands = (past t n q a.is_state, HasState.after_idle (state_cut s run t (suc t) n t q (omega arith) a.is_state) (omega arith) no_start);
    premises = one_more s run t a.premises none;
    agrees = agrees_on t a.agrees quiet;
  }

  pub ends_at_once : (t n j : ℕ) (q r : Valuation) → IsIdleAt s run t n q → NoneFails t → ((cycles : ℕ) (which : Disagreement) → ¬ DisagreesAt s run cycles t which)
      → StartsAt s run t → IsCommandOf s run t j → Steps s.model q (inputs_at s run t) r → CommitsAt s run j t → IsWatchedTo s run (suc t) (position.idle (suc n) r)
  ends_at_once t n j q r a none quiet starts is steps commits = record {
    stands = (
      past t n q a.is_state,
      HasState.after_command j t r (state_cut s run t (suc t) n t q (omega arith) a.is_state) starts is
          (record { from = omega arith; commits = commits; first = λ u from below. absurd (omega (arith, from, below)) }) (omega arith) steps,
    );
    premises = one_more s run t a.premises none;
    agrees = agrees_on t a.agrees quiet;
  }

  pub begins : (t n j : ℕ) (q r : Valuation) (e : InstructionMap) → IsIdleAt s run t n q → NoneFails t
      → ((cycles : ℕ) (which : Disagreement) → ¬ DisagreesAt s run cycles t which) → StartsAt s run t → IsCommandOf s run t j
      → Steps s.model q (inputs_at s run t) r → IsMapEntry s j e → 1 ≤ e.bound → suc t ≢ t + e.bound → ¬ CommitsAt s run j t
      → IsWatchedTo s run (suc t) (position.running n t j r)
  begins t n j q r e a none quiet starts is steps entry above far open_now = record {
    stands = record {
      q = q;
      entry = e;
      is_state = a.is_state;
      starts = starts;
      is_command = is;
      leads = steps;
      is_entry = entry;
      before = omega arith;
      not_ended = λ u from below. subst (λ y. ¬ CommitsAt s run j y) (only t u from below) open_now;
      in_bound = omega (arith, above, far);
    };
    premises = one_more s run t a.premises none;
    agrees = agrees_on t a.agrees quiet;
  }
    where
      only : (x y : ℕ) → x ≤ y → y < suc x → x ≡ y
      only x y le less = omega (arith, le, less)

  pub command_ends : (t n b j : ℕ) (r : Valuation) → IsWatchedTo s run t (position.running n b j r) → NoneFails t → CommitsAt s run j t
      → IsWatchedTo s run (suc t) (position.idle (suc n) r)
  command_ends t n b j r w none commits =
      let x = w.stands in
      let m : b < t = x.before in record {
        stands = (
          let l = begun_after_reset t n b j r x in omega (arith, l),
          HasState.after_command j t r (state_cut s run b (suc t) n b x.q (omega (arith, m)) x.is_state) x.starts x.is_command
              (record { from = omega (arith, m); commits = commits; first = x.not_ended }) (omega arith) x.leads,
        );
        premises = one_more s run t w.premises none;
        agrees = agrees_on t w.agrees (running_quiet t n b j r x (no_bound_if_committed t n b j r x commits));
      }

  pub command_goes_on : (t n b j : ℕ) (r : Valuation) (w : IsWatchedTo s run t (position.running n b j r)) → NoneFails t → ¬ CommitsAt s run j t
      → suc t ≢ b + w.stands.entry.bound → IsWatchedTo s run (suc t) (position.running n b j r)
  command_goes_on t n b j r w none open_now far =
      let x = w.stands in
      let m : b < t = x.before in
      let low : t < b + x.entry.bound = x.in_bound in record {
        stands = record {
          q = x.q;
          entry = x.entry;
          is_state = x.is_state;
          starts = x.starts;
          is_command = x.is_command;
          leads = x.leads;
          is_entry = x.is_entry;
          before = omega (arith, m);
          not_ended = λ u from below. elim (compared u t) [
            | inl less ↦ x.not_ended u from less
            | inr (inl more) ↦ absurd (omega (arith, below, more))
            | inr (inr same) ↦ subst (λ y. ¬ CommitsAt s run j y) (sym same) open_now
          ];
          in_bound = omega (arith, low, far);
        };
        premises = one_more s run t w.premises none;
        agrees = agrees_on t w.agrees (running_quiet t n b j r x (no_bound_before t n b j r x far));
      }

  -- ---- answers

  -- A disagreement at cycle t, the first of those there, where a premise fails at p first.
  pub disagreeing : (cycles p t : ℕ) (which : Disagreement) → StatesAreNamed s.model → IsPremiseEnd s run cycles p → AgreesBefore s run t
      → DisagreesAt s run p t which → ((other : Disagreement) → StandsBefore other which → ¬ DisagreesAt s run p t other)
      → IsWatched s run cycles (disagrees t which)
  disagreeing cycles p t which named end before now first =
      it_disagrees p t which end (λ refines. no_disagreement s run p t which named refines now)
      (record { disagrees = now; least = λ u other less. before p u other less; first = first })

  -- the same where no premise fails at t
  pub disagreeing_inside : (cycles t : ℕ) (which : Disagreement) → StatesAreNamed s.model → t < cycles → HavePremises s run t → NoneFails t → AgreesBefore s run t
      → ((p : ℕ) → t < p → DisagreesAt s run p t which) → ((p : ℕ) (other : Disagreement) → StandsBefore other which → ¬ DisagreesAt s run p t other)
      → IsWatched s run cycles (disagrees t which)
  disagreeing_inside cycles t which named less premises none before now first =
      let e = premise_end s run cycles (suc t) (omega (arith, less)) (one_more s run t premises none) in
      let l : suc t ≤ e.0 = e.1 in
      disagreeing cycles e.0 t which named e.2 before (now e.0 (omega (arith, l))) (first e.0)

  disagrees_within : (cycles t : ℕ) (which : Disagreement) → DisagreesAt s run cycles t which → t ≤ cycles
  disagrees_within cycles t (initial_value k) x = x.within
  disagrees_within cycles t no_step x = let l : t < cycles = x.within in omega (arith, l)
  disagrees_within cycles t (past_bound j) x = let l : t < cycles = x.within in omega (arith, l)
  disagrees_within cycles t (other_state k) x = x.within

  -- the first t cycles refine the model where nothing disagrees up to t
  refining : (t : ℕ) → IsComplete s → AgreesBefore s run t → ((which : Disagreement) → ¬ DisagreesAt s run t t which) → Refines s run t
  refining t complete before now =
      agreeing_runs_refine s run t complete (λ u which x. elim (compared u t) [
        | inl less ↦ before t u which less x
        | inr (inl more) ↦ let l = disagrees_within t u which x in omega (arith, more, l)
        | inr (inr e) ↦ now which (subst (λ y. DisagreesAt s run t y which) e x)
      ])

  -- a premise fails at cycle t of the run
  pub ends_at : (cycles t : ℕ) (which : Premise) → t < cycles → HavePremises s run t → IsFirstFailing s run t which → IsPremiseEnd s run cycles t
  ends_at cycles t which less premises fails = record { within = omega (arith, less); before = premises; fails = λ l. (which, fails.fails) }

  pub ends_at_last : (cycles : ℕ) → HavePremises s run cycles → IsPremiseEnd s run cycles cycles
  ends_at_last cycles premises = record { within = omega arith; before = premises; fails = λ less. absurd (omega (arith, less)) }

  pub leaving : (cycles t : ℕ) (which : Premise) → IsComplete s → t < cycles → HavePremises s run t → IsFirstFailing s run t which → AgreesBefore s run t
      → ((d : Disagreement) → ¬ DisagreesAt s run t t d) → IsWatched s run cycles (outside t which)
  leaving cycles t which complete less premises fails before now =
      it_is_outside t which (ends_at cycles t which less premises fails) less (refining t complete before now) fails

  pub agreeing : (cycles n : ℕ) → IsComplete s → HavePremises s run cycles → AgreesBefore s run cycles → ((d : Disagreement) → ¬ DisagreesAt s run cycles cycles d)
      → HasEnded s run cycles n → IsWatched s run cycles (agrees n)
  agreeing cycles n complete premises before now ended = it_agrees n premises (refining cycles complete before now) ended

  -- What disagrees at an idle cycle where the run ends: a state alone.
  pub idle_quiet_at_end : (t n : ℕ) (q : Valuation) → IsIdleAt s run t n q
      → ((k : ℕ) (d : StateDeclaration) → slice_get (states_of s.model.top) k ≡ Some d → state_at s run t d.state_name ≡ q d.state_name)
      → (which : Disagreement) → ¬ DisagreesAt s run t t which
  idle_quiet_at_end t n q a same (initial_value k) x = a.initial t k x
  idle_quiet_at_end t n q a same no_step x = let l : t < t = x.within in omega (arith, l)
  idle_quiet_at_end t n q a same (past_bound j) x = let l : t < t = x.within in omega (arith, l)
  idle_quiet_at_end t n q a same (other_state k) x = no_other t n q a.is_state same t k x

  pub running_quiet_at_end : (t n b j : ℕ) (r : Valuation) → IsRunning s run t n b j r → (which : Disagreement) → ¬ DisagreesAt s run t t which
  running_quiet_at_end t n b j r x (initial_value k) y = no_initial_after t t k (begun_after_reset t n b j r x) y
  running_quiet_at_end t n b j r x no_step y = no_start_disagrees t n b j r x t y
  running_quiet_at_end t n b j r x (past_bound l) y = let m : t < t = y.within in omega (arith, m)
  running_quiet_at_end t n b j r x (other_state k) y = no_state_disagrees t n b j r x t k y

  pub reset_quiet_at_end : (t : ℕ) → t < s.map.reset_cycles → (which : Disagreement) → ¬ DisagreesAt s run t t which
  reset_quiet_at_end t less which = in_reset_quiet t t less which

  -- ---- how many have ended

  one_count : (c d m n u t : ℕ) → u ≡ t → IsIdle s run c m u → IsIdle s run d n t → m ≤ n
  one_count c d m n u t e g h =
      let same : m ≡ n = idle_count s run u m n u (cut s run c u m u (omega arith) g)
      (cut s run d u n u (omega arith) (subst (λ x. IsIdle s run d n x) (sym e) h)) in
      omega (arith, same)

  -- as many at least as before each idle cycle up to it
  count_above : (c d m n u t : ℕ) → u ≤ t → IsIdle s run c m u → IsIdle s run d n t → m ≤ n
  count_above c d m n u t le g (IsIdle.after_reset h) =
      let l : s.map.reset_cycles ≤ u = after_reset s run c m u g in
      let same : u ≡ s.map.reset_cycles = omega (arith, le, l) in
      let one : m ≡ 0 = idle_count s run c m 0 u g (subst (λ x. IsIdle s run c 0 x) (sym same) (IsIdle.after_reset (let w : u ≤ c = idle_within s run c m u g in omega (arith, w, same)))) in
      omega (arith, one)
  count_above c d m n u t le g (IsIdle.after_idle {n = k} {t = v} h low quiet) = elim (compared u (suc v)) [
    | inl less ↦ count_above c d m k u v (omega (arith, less)) g h
    | inr (inl more) ↦ absurd (omega (arith, le, more))
    | inr (inr e) ↦ one_count c d m k u (suc v) e g (IsIdle.after_idle h low quiet)
  ]
  count_above c d m n u t le g (IsIdle.after_command {n = k} {t = v} j last h starts is end low) = elim (compared u (suc last)) [
    | inr (inl more) ↦ absurd (omega (arith, le, more))
    | inr (inr e) ↦ one_count c d m (suc k) u (suc last) e g (IsIdle.after_command j last h starts is end low)
    | inl less ↦ elim (compared v u) [
      | inl between ↦ absurd (not_inside s run v u j last is end (omega (arith, less)) (ended_before s run c d m k u v g h between starts))
      | inr rest ↦
          let below : u ≤ v = elim rest [ inl more ↦ omega (arith, more) | inr e ↦ omega (arith, e) ] in
          let l : m ≤ k = count_above c d m k u v below g h in
          omega (arith, l)
    ]
  ]

  pub ended_in_reset : (cycles : ℕ) → cycles < s.map.reset_cycles → HasEnded s run cycles 0
  ended_in_reset cycles less = in_reset less

  pub ended_at_idle : (t n : ℕ) (q : Valuation) → HasState s run t n q t → HasEnded s run t n
  ended_at_idle t n q h =
      let here = idle_of s run t n t q h in
      at_last n t here (λ m u g. count_above t t m n u t (idle_within s run t m u g) g here)

  pub ended_running : (t n b j : ℕ) (r : Valuation) → IsRunning s run t n b j r → HasEnded s run t n
  ended_running t n b j r x =
      let m : b < t = x.before in
      let here = cut s run b t n b (omega (arith, m)) (began_idle t n b j r x) in
      at_last n b here (λ k u g. elim (compared b u) [
        | inl less ↦ absurd (not_idle_now t n b j r x t k u less (idle_within s run t k u g) g)
        | inr rest ↦ let le : u ≤ b = elim rest [ inl more ↦ omega (arith, more) | inr e ↦ omega (arith, e) ] in count_above t t k n u b le g here
      ])
