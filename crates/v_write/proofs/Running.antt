-- Effects one after the other, and effects by cases.
use Rattle.std.proofs.Common.{◌≡◌, ℕ, Bool, true, false, cond, not, ◌&&◌, List, [], ◌∷◌, ◌++◌, Option, Some, refl, ap, sym, subst, ◌∙◌}
use Rattle.wb_values.specs.Value.{truth, Valuation}
use Rattle.verilog_trees.specs.Syntax.{Target, Expression, blocking, nonblocking}
use Rattle.verilog_meaning.specs.Expression.{Scope, assigned_value}
use Rattle.verilog_meaning.specs.Statement.{Effect, Update, unchanged, followed_by, with_update, with_updates, written, target_width, run}
use Rattle.wb_terms.specs.Graph.{Graph}
use Rattle.wb_terms.specs.declared.nodes.TermId.{TermId}
use Rattle.v_operators.specs.Meaning.{Grows, IsOfSort, HasNumber, HasTruth}
use Rattle.v_operators.proofs.Growing.{Grows-refl, Grows-trans, IsOfSort-kept, truth_kept}
use Rattle.v_lower.specs.Lowered.{Images, HasImages, StandsFor}
use Rattle.v_lower.proofs.Lowering.{images_kept}
use Rattle.v_write.specs.Guard.{IsGuard, Guards}
use Rattle.v_write.specs.declared.part.Part.{Part}
use Rattle.v_write.specs.Selecting.{IsPrepared}
use Rattle.v_write.specs.Written.{ArePartsWritten}
use Rattle.v_write.specs.Running.{Runs, Always, IsWorth, IsGoing}
use Rattle.v_write.proofs.Stands.{stands_after}
use Rattle.v_write.proofs.Kept.{guard_there, guard_kept}

updates-append : (s : Scope) (u : Valuation) (us ws : List Update) → with_updates s u (us ++ ws) ≡ with_updates s (with_updates s u us) ws
updates-append s u [] ws = refl
updates-append s u (x ∷ us) ws = updates-append s (with_update s u x) us ws

either_same : {A : Type 0} (c : Bool) (x : A) → cond c x x ≡ x
either_same true x = refl
either_same false x = refl

module _ (s : Scope) (a n : Images) (g : Graph) (IsKnown : Valuation → Type 0) (guard : Option TermId) (all : Valuation → Effect) where
  -- nothing has run
  pub started : HasImages s a g → HasImages s n g → IsGuard g guard → IsGoing s a n g IsKnown guard all a n g guard all
  started known next there =
      record {
        grows = Grows-refl g;
        known = known;
        known_next = next;
        names = λ k. refl;
        names_next = λ k. refl;
        there = there;
        goes = λ p v u c is sv su is_c. record { valuation = v; updated = u; holds = c; stands = sv; stands_next = su; guards = is_c; ends = refl; ends_next = refl };
      }

  -- the store has grown
  pub going_kept : (b m : Images) (h k : Graph) (on : Option TermId) (rest : Valuation → Effect) → Grows h k → IsGoing s a n g IsKnown guard all b m h on rest → IsGoing s a n g IsKnown guard all b m k on rest
  going_kept b m h k on rest hk so =
      record {
        grows = Grows-trans so.grows hk;
        known = images_kept s b h k hk so.known;
        known_next = images_kept s m h k hk so.known_next;
        names = so.names;
        names_next = so.names_next;
        there = guard_there h k hk on so.there;
        goes = λ p v u c is sv su is_c.
            let f = so.goes p v u c is sv su is_c in
            record {
              valuation = f.valuation;
              updated = f.updated;
              holds = f.holds;
              stands = stands_after s b h k p f.valuation hk so.known f.stands;
              stands_next = stands_after s m h k p f.updated hk so.known_next f.stands_next;
              guards = guard_kept h k hk p on f.holds so.there f.guards;
              ends = f.ends;
              ends_next = f.ends_next;
            };
      }

  -- what is left is the same effect under another name
  pub going_as : (b m : Images) (h : Graph) (on : Option TermId) (rest other : Valuation → Effect) → ((v : Valuation) → rest v ≡ other v) → IsGoing s a n g IsKnown guard all b m h on rest → IsGoing s a n g IsKnown guard all b m h on other
  going_as b m h on rest other same so =
      record {
        grows = so.grows;
        known = so.known;
        known_next = so.known_next;
        names = so.names;
        names_next = so.names_next;
        there = so.there;
        goes = λ p v u c is sv su is_c.
            let f = so.goes p v u c is sv su is_c in
            record {
              valuation = f.valuation;
              updated = f.updated;
              holds = f.holds;
              stands = f.stands;
              stands_next = f.stands_next;
              guards = f.guards;
              ends = ap (λ (e : Effect). cond f.holds e.valuation f.valuation) (sym (same f.valuation)) ∙ f.ends;
              ends_next = ap (λ (e : Effect). cond f.holds (with_updates s f.updated e.updates) f.updated) (sym (same f.valuation)) ∙ f.ends_next;
            };
      }

  -- an effect ran, and another is to follow, under the same condition
  pub going_then : (b m d l : Images) (h k : Graph) (on : Option TermId) (first rest : Valuation → Effect)
      → IsGoing s a n g IsKnown guard all b m h on (λ v. followed_by (first v) rest) → Grows h k → Runs s b m h on first d l k → IsGoing s a n g IsKnown guard all d l k on rest
  going_then b m d l h k on first rest so hk r =
      record {
        grows = Grows-trans so.grows hk;
        known = r.known;
        known_next = r.known_next;
        names = λ x. r.names x ∙ so.names x;
        names_next = λ x. r.names_next x ∙ so.names_next x;
        there = guard_there h k hk on so.there;
        goes = λ p v u c is sv su is_c.
            let f = so.goes p v u c is sv su is_c in
            let e : Effect = first f.valuation in
            record {
              valuation = cond f.holds e.valuation f.valuation;
              updated = cond f.holds (with_updates s f.updated e.updates) f.updated;
              holds = f.holds;
              stands = r.stands p f.valuation f.updated f.holds f.stands f.stands_next f.guards;
              stands_next = r.stands_next p f.valuation f.updated f.holds f.stands f.stands_next f.guards;
              guards = guard_kept h k hk p on f.holds so.there f.guards;
              ends = one f.valuation f.holds ∙ f.ends;
              ends_next = two f.valuation f.updated f.holds ∙ f.ends_next;
            };
      } where
        one : (v : Valuation) (c : Bool) → cond c (rest (cond c (first v).valuation v)).valuation (cond c (first v).valuation v) ≡ cond c (followed_by (first v) rest).valuation v
        one v true = refl
        one v false = refl

        two : (v u : Valuation) (c : Bool) → cond c (with_updates s (cond c (with_updates s u (first v).updates) u) (rest (cond c (first v).valuation v)).updates) (cond c (with_updates s u (first v).updates) u)
            ≡ cond c (with_updates s u (followed_by (first v) rest).updates) u
        two v u true = sym (updates-append s u (first v).updates (rest (first v).valuation).updates)
        two v u false = refl

  -- One of two effects is to come: the first ran where the test holds, and the other is left where it doesn't.
  pub going_else : (b m d l : Images) (h i k : Graph) (on : Option TermId) (taken other : TermId) (test : Valuation → Bool) (first rest : Valuation → Effect)
      → IsGoing s a n g IsKnown guard all b m h on (λ v. cond (test v) (first v) (rest v)) → Grows h i
      → ((p v : Valuation) (c : Bool) → IsKnown p → StandsFor s b h p v → Guards h p on c → HasTruth i taken.0 p (c && test v) × HasTruth i other.0 p (c && not (test v)))
      → IsOfSort i other.0 truth → Grows i k → Runs s b m i (Some taken) first d l k → IsGoing s a n g IsKnown guard all d l k (Some other) rest
  going_else b m d l h i k on taken other test first rest so hi split sort ik r =
      record {
        grows = Grows-trans so.grows (Grows-trans hi ik);
        known = r.known;
        known_next = r.known_next;
        names = λ x. r.names x ∙ so.names x;
        names_next = λ x. r.names_next x ∙ so.names_next x;
        there = IsOfSort-kept other.0 truth ik sort;
        goes = λ p v u c is sv su is_c.
            let f = so.goes p v u c is sv su is_c in
            let parts = split p f.valuation f.holds is f.stands f.guards in
            let q : Bool = f.holds && test f.valuation in
            let e : Effect = first f.valuation in
            let sv_i = stands_after s b h i p f.valuation hi so.known f.stands in
            let su_i = stands_after s m h i p f.updated hi so.known_next f.stands_next in
            record {
              valuation = cond q e.valuation f.valuation;
              updated = cond q (with_updates s f.updated e.updates) f.updated;
              holds = f.holds && not (test f.valuation);
              stands = r.stands p f.valuation f.updated q sv_i su_i parts.0;
              stands_next = r.stands_next p f.valuation f.updated q sv_i su_i parts.0;
              guards = truth_kept other.0 p (f.holds && not (test f.valuation)) ik sort.below parts.1;
              ends = one f.valuation f.holds (test f.valuation) ∙ f.ends;
              ends_next = two f.valuation f.updated f.holds (test f.valuation) ∙ f.ends_next;
            };
      } where
        one : (v : Valuation) (c t : Bool) → cond (c && not t) (rest (cond (c && t) (first v).valuation v)).valuation (cond (c && t) (first v).valuation v) ≡ cond c (cond t (first v) (rest v)).valuation v
        one v true true = refl
        one v true false = refl
        one v false t = refl

        two : (v u : Valuation) (c t : Bool) → cond (c && not t) (with_updates s (cond (c && t) (with_updates s u (first v).updates) u) (rest (cond (c && t) (first v).valuation v)).updates) (cond (c && t) (with_updates s u (first v).updates) u)
            ≡ cond c (with_updates s u (cond t (first v) (rest v)).updates) u
        two v u true true = refl
        two v u true false = refl
        two v u false t = refl

module _ (s : Scope) (a n : Images) (g : Graph) (guard : Option TermId) (all : Valuation → Effect) where
  -- nothing is left
  pub ended : (b m : Images) (h : Graph) (on : Option TermId) (f : Valuation → Effect) → IsGoing s a n g Always guard all b m h on (λ v. unchanged v) → ((v : Valuation) → all v ≡ f v) → Runs s a n g guard f b m h
  ended b m h on f so same =
      record {
        known = so.known;
        known_next = so.known_next;
        names = so.names;
        names_next = so.names_next;
        stands = λ p v u c sv su is_c.
            let w = so.goes p v u c tt sv su is_c in
            subst (λ z. StandsFor s b h p z) (sym (either_same w.holds w.valuation) ∙ (w.ends ∙ ap (λ (e : Effect). cond c e.valuation v) (same v))) w.stands;
        stands_next = λ p v u c sv su is_c.
            let w = so.goes p v u c tt sv su is_c in
            subst (λ z. StandsFor s m h p z) (sym (either_same w.holds w.updated) ∙ (w.ends_next ∙ ap (λ (e : Effect). cond c (with_updates s u e.updates) u) (same v))) w.stands_next;
      }

  -- what was left ran
  pub ran : (b m d l : Images) (h k : Graph) (on : Option TermId) (rest f : Valuation → Effect) → IsGoing s a n g Always guard all b m h on rest → Runs s b m h on rest d l k → ((v : Valuation) → all v ≡ f v) → Runs s a n g guard f d l k
  ran b m d l h k on rest f so r same =
      record {
        known = r.known;
        known_next = r.known_next;
        names = λ x. r.names x ∙ so.names x;
        names_next = λ x. r.names_next x ∙ so.names_next x;
        stands = λ p v u c sv su is_c.
            let w = so.goes p v u c tt sv su is_c in
            subst (λ z. StandsFor s d k p z) (w.ends ∙ ap (λ (e : Effect). cond c e.valuation v) (same v)) (r.stands p w.valuation w.updated w.holds w.stands w.stands_next w.guards);
        stands_next = λ p v u c sv su is_c.
            let w = so.goes p v u c tt sv su is_c in
            subst (λ z. StandsFor s l k p z) (w.ends_next ∙ ap (λ (e : Effect). cond c (with_updates s u e.updates) u) (same v)) (r.stands_next p w.valuation w.updated w.holds w.stands w.stands_next w.guards);
      }

-- one way on, and then another, in whose environments no more is known
pub going_on : (s : Scope) (a n b m d l : Images) (g h k : Graph) (IsKnown IsKnownOn : Valuation → Type 0) (guard on over : Option TermId) (all mid rest : Valuation → Effect) → ((p : Valuation) → IsKnown p → IsKnownOn p)
    → IsGoing s a n g IsKnown guard all b m h on mid → IsGoing s b m h IsKnownOn on mid d l k over rest → IsGoing s a n g IsKnown guard all d l k over rest
going_on s a n b m d l g h k IsKnown IsKnownOn guard on over all mid rest so_known so to =
    record {
      grows = Grows-trans so.grows to.grows;
      known = to.known;
      known_next = to.known_next;
      names = λ x. to.names x ∙ so.names x;
      names_next = λ x. to.names_next x ∙ so.names_next x;
      there = to.there;
      goes = λ p v u c is sv su is_c.
          let f = so.goes p v u c is sv su is_c in
          let e = to.goes p f.valuation f.updated f.holds (so_known p is) f.stands f.stands_next f.guards in
          record {
            valuation = e.valuation;
            updated = e.updated;
            holds = e.holds;
            stands = e.stands;
            stands_next = e.stands_next;
            guards = e.guards;
            ends = e.ends ∙ f.ends;
            ends_next = e.ends_next ∙ f.ends_next;
          };
    }

-- an effect by a number, which a term is worth wherever the environment stands for a valuation
pub going_by : (s : Scope) (a n b m : Images) (g h : Graph) (guard on : Option TermId) (id w : ℕ) (number : Valuation → ℕ) (all : ℕ → Valuation → Effect) (f rest : Valuation → Effect)
    → ((x : ℕ) → IsGoing s a n g (IsWorth g id w x) guard (all x) b m h on rest) → ((p v : Valuation) → StandsFor s a g p v → HasNumber g id w p (number v)) → ((v : Valuation) → all (number v) v ≡ f v)
    → IsGoing s a n g Always guard f b m h on rest
going_by s a n b m g h guard on id w number all f rest so is_number same =
    let first = so 0 in
    record {
      grows = first.grows;
      known = first.known;
      known_next = first.known_next;
      names = first.names;
      names_next = first.names_next;
      there = first.there;
      goes = λ p v u c is sv su is_c.
          let e = (so (number v)).goes p v u c (is_number p v sv) sv su is_c in
          record {
            valuation = e.valuation;
            updated = e.updated;
            holds = e.holds;
            stands = e.stands;
            stands_next = e.stands_next;
            guards = e.guards;
            ends = e.ends ∙ ap (λ (z : Effect). cond c z.valuation v) (same v);
            ends_next = e.ends_next ∙ ap (λ (z : Effect). cond c (with_updates s u z.updates) u) (same v);
          };
    }

-- the same effect under another name
pub runs_as : (s : Scope) (a n b m : Images) (g h : Graph) (guard : Option TermId) (f e : Valuation → Effect) → ((v : Valuation) → f v ≡ e v) → Runs s a n g guard f b m h → Runs s a n g guard e b m h
runs_as s a n b m g h guard f e same r =
    record {
      known = r.known;
      known_next = r.known_next;
      names = r.names;
      names_next = r.names_next;
      stands = λ p v u c sv su is_c. subst (λ (z : Effect). StandsFor s b h p (cond c z.valuation v)) (same v) (r.stands p v u c sv su is_c);
      stands_next = λ p v u c sv su is_c. subst (λ (z : Effect). StandsFor s m h p (cond c (with_updates s u z.updates) u)) (same v) (r.stands_next p v u c sv su is_c);
    }

-- nothing ran
pub nothing_ran : (s : Scope) (a n : Images) (g : Graph) (guard : Option TermId) → HasImages s a g → HasImages s n g → Runs s a n g guard unchanged a n g
nothing_ran s a n g guard known next =
    record {
      known = known;
      known_next = next;
      names = λ k. refl;
      names_next = λ k. refl;
      stands = λ p v u c sv su is_c. subst (λ z. StandsFor s a g p z) (sym (either_same c v)) sv;
      stands_next = λ p v u c sv su is_c. subst (λ z. StandsFor s n g p z) (sym (either_same c u)) su;
    }

-- ---- assignments

module _ (s : Scope) (g f h : Graph) (guard : Option TermId) (t : Target) (e : Expression) (qs : List Part) (id w : ℕ) (gf : Grows g f) (there : IsGuard g guard) where
  pub blocking_ran : (a n b : Images) → HasImages s a g → HasImages s n g → Grows f h → IsPrepared s a f t e qs id w → ArePartsWritten s a f guard qs id w b h → Runs s a n g guard (run s (blocking t e)) b n h
  blocking_ran a n b known next fh r o =
      record {
        known = o.known;
        known_next = images_kept s n g h (Grows-trans gf fh) next;
        names = o.names;
        names_next = λ k. refl;
        stands = λ p v u c sv su is_c.
            let st = stands_after s a g f p v gf known sv in
            subst (λ z. StandsFor s b h p (cond c (written s v z (assigned_value s v (target_width s t) e)) v)) (r.places p v st)
            (o.stands p v (assigned_value s v (target_width s t) e) c st (r.indexes p v st) (r.value p v st) (guard_kept g f gf p guard c there is_c));
        stands_next = λ p v u c sv su is_c. subst (λ z. StandsFor s n h p z) (sym (either_same c u)) (stands_after s n g h p u (Grows-trans gf fh) next su);
      }

  pub nonblocking_ran : (a n m : Images) → HasImages s a g → HasImages s n g → Grows f h → IsPrepared s a f t e qs id w → ArePartsWritten s n f guard qs id w m h → Runs s a n g guard (run s (nonblocking t e)) a m h
  nonblocking_ran a n m known next fh r o =
      record {
        known = images_kept s a g h (Grows-trans gf fh) known;
        known_next = o.known;
        names = λ k. refl;
        names_next = o.names;
        stands = λ p v u c sv su is_c. subst (λ z. StandsFor s a h p z) (sym (either_same c v)) (stands_after s a g h p v (Grows-trans gf fh) known sv);
        stands_next = λ p v u c sv su is_c.
            let st = stands_after s a g f p v gf known sv in
            subst (λ z. StandsFor s m h p (cond c (written s u z (assigned_value s v (target_width s t) e)) u)) (r.places p v st)
            (o.stands p u (assigned_value s v (target_width s t) e) c (stands_after s n g f p u gf next su) (r.indexes p v st) (r.value p v st) (guard_kept g f gf p guard c there is_c));
      }

-- ---- one arm of a ladder, or one item of a case

pub arm_going : (s : Scope) (a n b m : Images) (g f i h : Graph) (IsKnown : Valuation → Type 0) (guard : Option TermId) (test : Valuation → Bool) (said : ℕ) (taken other : TermId) (x rest : Valuation → Effect)
    → HasImages s a g → HasImages s n g → IsGuard g guard → Grows g f → ((p v : Valuation) → IsKnown p → StandsFor s a f p v → HasTruth f said p (test v)) → Grows f i
    → ((p : Valuation) (k t : Bool) → Guards f p guard k → HasTruth f said p t → HasTruth i taken.0 p (k && t))
    → ((p : Valuation) (k t : Bool) → Guards f p guard k → HasTruth f said p t → HasTruth i other.0 p (k && not t))
    → IsOfSort i other.0 truth → Grows i h → Runs s a n i (Some taken) x b m h
    → IsGoing s a n g IsKnown guard (λ v. cond (test v) (x v) (rest v)) b m h (Some other) rest
arm_going s a n b m g f i h IsKnown guard test said taken other x rest known next there gf is_said fi is_taken is_other sort ih r =
    let all : Valuation → Effect = λ v. cond (test v) (x v) (rest v) in
    going_else s a n g IsKnown guard all a n b m g i h guard taken other test x rest
    (started s a n g IsKnown guard all known next there) (Grows-trans gf fi)
    (λ p v k is sv is_k.
    let t = is_said p v is (stands_after s a g f p v gf known sv) in
    let q = guard_kept g f gf p guard k there is_k in
    (is_taken p k (test v) q t, is_other p k (test v) q t))
    sort ih r
