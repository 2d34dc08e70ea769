-- The first broken rule of a list, and of two lists one after the other.
use Rattle.std.proofs.Common.{◌≡◌, ◌∙◌, ℕ, zero, suc, ◌<◌, inl, inr, refl, sym, ap, subst, List, [], ◌∷◌, ◌++◌, Bool, Option, Some, None, Result, Ok, Err, arith}
use Rattle.std.specs.Prelude.{◌↔◌, slice_get, is_some, IfOk, IsErrAnd, IsTrue}
use Rattle.verilog_trees.specs.Syntax.{Source}
use Rattle.map_file.specs.Rule.{rule_view}
use Rattle.map_file.specs.declared.stop.MapStop.{MapStop}
use Rattle.map_file.specs.declared.stop.MapStop.TheVariants.{Refused, NoMemory}
use Rattle.map_files.specs.Meaning.{MapRule, BadJson, BadShape, UnknownKey, UnknownState, StateUnmapped, UnknownInput, InputUnmapped, BadExpression, WidthMismatch, MapUsesInput, MemoryMismatch, UnknownInstruction, BoundMissing, BadBound}
use Rattle.map_rules.specs.Case.{MapCase}
use Rattle.map_rules.specs.Accepted.{rules, BreaksMapRule, IsMapRefusedBy, IsMapAccepted}
use Rattle.map_trees.specs.Trees.{IsMapRead}
use Rattle.map_reading.specs.Judged.{IsFirstRule, IsStopped, IsPassed, IsMapJudged}

module _ (c : MapCase) where
  -- the first of the first list is that of both
  pub first_of_both : (ks ls : List MapRule) (r : MapRule) → IsFirstRule c ks (Some r) → IsFirstRule c (ks ++ ls) (Some r)
  first_of_both [] ls r h = cc
  first_of_both (k ∷ ks) ls r (inl h) = inl h
  first_of_both (k ∷ ks) ls r (inr h) = inr (h.0, first_of_both ks ls r h.1)

  pub none_before : (ks ls : List MapRule) (o : Option MapRule) → IsFirstRule c ks None → IsFirstRule c ls o → IsFirstRule c (ks ++ ls) o
  none_before [] ls o h g = g
  none_before (k ∷ ks) ls o (inl h) g = let no : None ≡ Some k = h.1 in cc
  none_before (k ∷ ks) ls o (inr h) g = inr (h.0, none_before ks ls o h.1 g)

  -- one rule alone
  pub one_broken : (k : MapRule) → BreaksMapRule c k → IsFirstRule c (k ∷ []) (Some k)
  one_broken k h = inl (h, refl)

  pub one_kept : (k : MapRule) → ¬ BreaksMapRule c k → IsFirstRule c (k ∷ []) None
  one_kept k h = inr (h, refl)

  none_at : (ks : List MapRule) → IsFirstRule c ks None → (i : ℕ) (k : MapRule) → slice_get ks i ≡ Some k → ¬ BreaksMapRule c k
  none_at [] h i k e b = cc
  none_at (j ∷ ks) (inl h) i k e b = let no : None ≡ Some j = h.1 in cc
  none_at (j ∷ ks) (inr h) zero k e b = let same : j ≡ k = cc in h.0 (subst (BreaksMapRule c) (sym same) b)
  none_at (j ∷ ks) (inr h) (suc i) k e b = none_at ks h.1 i k e b

  pub accepted : IsFirstRule c rules None → IsMapAccepted c
  accepted h BadJson b = b
  accepted h BadShape b = b
  accepted h UnknownKey b = b
  accepted h UnknownState b = none_at rules h 0 UnknownState refl b
  accepted h StateUnmapped b = none_at rules h 1 StateUnmapped refl b
  accepted h UnknownInput b = none_at rules h 2 UnknownInput refl b
  accepted h InputUnmapped b = none_at rules h 3 InputUnmapped refl b
  accepted h BadExpression b = none_at rules h 4 BadExpression refl b
  accepted h WidthMismatch b = none_at rules h 5 WidthMismatch refl b
  accepted h MapUsesInput b = none_at rules h 6 MapUsesInput refl b
  accepted h MemoryMismatch b = none_at rules h 7 MemoryMismatch refl b
  accepted h UnknownInstruction b = none_at rules h 8 UnknownInstruction refl b
  accepted h BoundMissing b = none_at rules h 9 BoundMissing refl b
  accepted h BadBound b = none_at rules h 10 BadBound refl b

  -- the first that is broken stands at some place, and none before it is broken
  record Found (ks : List MapRule) (r : MapRule) : Type 0 where
    place : ℕ
    stands : slice_get ks place ≡ Some r
    breaks : BreaksMapRule c r
    before : (i : ℕ) (k : MapRule) → i < place → slice_get ks i ≡ Some k → ¬ BreaksMapRule c k

  found : (ks : List MapRule) (r : MapRule) → IsFirstRule c ks (Some r) → Found ks r
  found [] r h = cc
  found (k ∷ ks) r (inl h) =
      let same : r ≡ k = cc in
      record {
        place = 0;
        stands = ap Some (sym same);
        breaks = subst (BreaksMapRule c) (sym same) h.0;
        before = λ i j lt e. absurd (omega (arith, lt));
      }
  found (k ∷ ks) r (inr h) =
      let f = found ks r h.1 in
      record { place = suc f.place; stands = f.stands; breaks = f.breaks; before = passed f }
    where
      passed : (f : Found ks r) (i : ℕ) (j : MapRule) → i < suc f.place → slice_get (k ∷ ks) i ≡ Some j → ¬ BreaksMapRule c j
      passed f zero j lt e b = let same : k ≡ j = cc in h.0 (subst (BreaksMapRule c) (sym same) b)
      passed f (suc i) j lt e b = f.before i j (omega (arith, lt)) e b

  -- the place of a rule
  abbrev rank : MapRule → ℕ
  rank UnknownState = 0
  rank StateUnmapped = 1
  rank UnknownInput = 2
  rank InputUnmapped = 3
  rank BadExpression = 4
  rank WidthMismatch = 5
  rank MapUsesInput = 6
  rank MemoryMismatch = 7
  rank UnknownInstruction = 8
  rank BoundMissing = 9
  rank _ = 10

  ranked : (i : ℕ) (k : MapRule) → slice_get rules i ≡ Some k → rank k ≡ i
  ranked zero k e = let same : UnknownState ≡ k = cc in ap rank (sym same)
  ranked (suc zero) k e = let same : StateUnmapped ≡ k = cc in ap rank (sym same)
  ranked (suc (suc zero)) k e = let same : UnknownInput ≡ k = cc in ap rank (sym same)
  ranked (suc (suc (suc zero))) k e = let same : InputUnmapped ≡ k = cc in ap rank (sym same)
  ranked (suc (suc (suc (suc zero)))) k e = let same : BadExpression ≡ k = cc in ap rank (sym same)
  ranked (suc (suc (suc (suc (suc zero))))) k e = let same : WidthMismatch ≡ k = cc in ap rank (sym same)
  ranked (suc (suc (suc (suc (suc (suc zero)))))) k e = let same : MapUsesInput ≡ k = cc in ap rank (sym same)
  ranked (suc (suc (suc (suc (suc (suc (suc zero))))))) k e = let same : MemoryMismatch ≡ k = cc in ap rank (sym same)
  ranked (suc (suc (suc (suc (suc (suc (suc (suc zero)))))))) k e = let same : UnknownInstruction ≡ k = cc in ap rank (sym same)
  ranked (suc (suc (suc (suc (suc (suc (suc (suc (suc zero))))))))) k e = let same : BoundMissing ≡ k = cc in ap rank (sym same)
  ranked (suc (suc (suc (suc (suc (suc (suc (suc (suc (suc zero)))))))))) k e = let same : BadBound ≡ k = cc in ap rank (sym same)
  ranked (suc (suc (suc (suc (suc (suc (suc (suc (suc (suc (suc i))))))))))) k e = cc

  pub refused : (r : MapRule) → IsFirstRule c rules (Some r) → IsMapRefusedBy c r
  refused r h =
      let f = found rules r h in
      record {
        breaks = f.breaks;
        first = λ i j before e g lt b. let there : j ≡ f.place = sym (ranked j r g) ∙ ranked f.place r f.stands in f.before i before (omega (arith, lt, there)) e b;
      }

  -- the refusal by one of these rules, where none before it is broken
  pub stopped : (front ks rest : List MapRule) (s : MapStop) → IsFirstRule c front None → IsStopped c ks s → IsStopped c (front ++ (ks ++ rest)) s
  stopped front ks rest (Refused f) h g = none_before front (ks ++ rest) (Some (rule_view f.rule)) h (first_of_both ks rest (rule_view f.rule) g)
  stopped front ks rest NoMemory h g = tt

  pub all_passed : {A : Type 0} (front ks : List MapRule) (r : Result A MapStop) → IsFirstRule c front None → IsPassed c ks r → IsPassed c (front ++ ks) r
  all_passed front ks (Ok x) h g = none_before front ks None h g
  all_passed front ks (Err (Refused f)) h g = none_before front ks (Some (rule_view f.rule)) h g
  all_passed front ks (Err NoMemory) h g = tt

  -- the refusal by the first of all rules that is broken
  pub judged_stop : (s : MapStop) → IsStopped c rules s → IsMapJudged c (Err s)
  judged_stop (Refused f) h = refused (rule_view f.rule) h
  judged_stop NoMemory h = tt

  -- a text that is read as no expression
  pub unread_stop : (s : MapStop) → IsMapRead c.model c.written (Err s) → IsStopped c (BadExpression ∷ []) s
  unread_stop (Refused f) h = inl (h.1 c.source, ap Some h.0)
  unread_stop NoMemory h = tt

pub handed_up : {A : Type 0} (IsTold : Result A MapStop → Type 0) (r : Result A MapStop) (s : MapStop) → IsErrAnd r (λ t. t ≡ s) → IsTold (Err s) → IsTold r
handed_up IsTold (Ok x) s h p = absurd h
handed_up IsTold (Err t) s h p = subst (λ u. IsTold (Err u)) (sym h) p

-- a rule that is a test
pub by_test : {X E : Type 0} (test : Source → Bool) (r : Result (Option X) E) → IfOk r (λ o. (s : Source) → is_some o ≡ test s) → (s : Source)
    → IfOk r (λ o. IsTrue (is_some o) ↔ IsTrue (test s))
by_test test (Ok o) h s = ((λ t. sym (h s) ∙ t), (λ t. h s ∙ t))
by_test test (Err e) h s = tt
