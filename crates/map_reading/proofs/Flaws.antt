-- What the questions on the list of a map's expressions say of the written map.
use Rattle.std.proofs.Common.{◌≡◌, ◌∙◌, ℕ, Bool, true, false, ◌⊎◌, inl, inr, refl, sym, ap, subst, List, Option, Some, None, Result, Ok, Err}
use Rattle.std.specs.Prelude.{◌↔◌, not, is_some, IfOk, IsTrue}
use Rattle.std.proofs.lemmas.Bool.{false≢true}
use Rattle.verilog_trees.specs.Syntax.{Source}
use Rattle.verilog_meaning.specs.Settled.{Design}
use Rattle.refinement.specs.Map.{Map}
use Rattle.map_files.specs.Written.{WrittenMap}
use Rattle.map_rules.specs.Case.{MapCase, case_design}
use Rattle.map_rules.specs.Expressions.{HasBadExpression, is_reset}
use Rattle.map_rules.specs.Mapped.{HasWidthMismatch}
use Rattle.map_rules.specs.Inputs.{HasMapInput}
use Rattle.map_judged.specs.declared.expression.MapExpression.{MapExpression}
use Rattle.map_judged.specs.declared.flaw.FirstFlaw.{FirstFlaw}
use Rattle.map_judged.specs.declared.known.KnownNames.{KnownNames}
use Rattle.map_judged.specs.Asked.{asked_list, names_asked, AreNamed}
use Rattle.map_judged.specs.Flaws.{IsFirstFlaw, IsFirstMismatch}
use Rattle.map_judged.specs.Known.{AreKnown, StandsAt}
use Rattle.map_judged.specs.Whole.{FlawsAreBadExpressions, MismatchesAreWidthMismatches}
use Rattle.map_uses.specs.Users.{AreFlawlessIn, AreOfTexts, IsFirstUser}
use Rattle.map_uses.specs.Whole.{FirstUsersBreakTheRule, ReadExpressionsAreOfTexts, asked_flags}
use Rattle.ready_maps.specs.Accepted.{TextsAreShapely}
use Rattle.v_places.specs.Below.{Spot}
use Rattle.map_rules.specs.Accepted.{StandsForMap}
use Rattle.map_judged.specs.Whole.{asked_in}
use Rattle.map_reading.specs.Asked.{AreAsked, IsCaseAt}

-- what the first flaw of a list is, in any design in which its names have this meaning
abbrev pub TellsFlaw : List MapExpression → KnownNames → Option FirstFlaw → Type 0
TellsFlaw xs known o = (d : Design) → AreKnown d (names_asked (asked_list xs)) known → AreNamed xs → IsFirstFlaw d (asked_list xs) o

abbrev pub TellsMismatch : List MapExpression → KnownNames → Option ℕ → Type 0
TellsMismatch xs known o = (d : Design) → AreKnown d (names_asked (asked_list xs)) known → AreNamed xs → IsFirstMismatch d (asked_list xs) o

module _ (c : MapCase) (p : Map) (xs : List MapExpression) (known : KnownNames) (h : AreAsked c p xs known) where
  told : (o : Option FirstFlaw) → FlawsAreBadExpressions → TellsFlaw xs known o
      → HasBadExpression c ↔ (IsTrue (is_some o) ⊎ IsTrue (not (is_reset (case_design c) c.written.reset.signal)))
  told o law first = law c p o h.stands (subst (λ ys. IsFirstFlaw (case_design c) ys o) h.are_asked (first (case_design c) h.are_known h.are_named))

  pub flaw_found : (o : Option FirstFlaw) (f : FirstFlaw) → o ≡ Some f → FlawsAreBadExpressions → TellsFlaw xs known o → HasBadExpression c
  flaw_found o f is law first = (told o law first).1 (inl (ap is_some is))

  pub no_reset : (o : Option FirstFlaw) (b : Bool) → FlawsAreBadExpressions → TellsFlaw xs known o → b ≡ is_reset (case_design c) c.written.reset.signal → b ≡ false
      → HasBadExpression c
  no_reset o b law first e f = (told o law first).1 (inr (ap not (sym e ∙ f)))

  pub none_bad : (o : Option FirstFlaw) (b : Bool) → o ≡ None → FlawsAreBadExpressions → TellsFlaw xs known o
      → b ≡ is_reset (case_design c) c.written.reset.signal → b ≡ true → HasBadExpression c → ⊥
  none_bad o b is law first e t bad = by ((told o law first).0 bad) where
    by : IsTrue (is_some o) ⊎ IsTrue (not (is_reset (case_design c) c.written.reset.signal)) → ⊥
    by (inl s) = false≢true (sym (ap is_some is) ∙ s)
    by (inr s) = false≢true (sym (ap not (sym e ∙ t)) ∙ s)

  pub mismatch_told : (o : Option ℕ) → MismatchesAreWidthMismatches → TellsMismatch xs known o → HasWidthMismatch c ↔ IsTrue (is_some o)
  mismatch_told o law first = law c p o h.stands (subst (λ ys. IsFirstMismatch (case_design c) ys o) h.are_asked (first (case_design c) h.are_known h.are_named))

  pub user_told : (flags : List Bool) (o : Option ℕ) → FirstUsersBreakTheRule → flags ≡ asked_flags c.model p → IsFirstUser (case_design c) (asked_list xs) flags o
      → HasMapInput c ↔ IsTrue (is_some o)
  user_told flags o law e first =
      law c p o h.stands
      (subst (λ ys. IsFirstUser (case_design c) ys (asked_flags c.model p) o) h.are_asked (subst (λ fs. IsFirstUser (case_design c) (asked_list xs) fs o) e first))

  -- ---- in one case

  -- what is asked of the users of inputs, where no expression has a flaw
  pub flawless : (w : WrittenMap) (s : Source) (spots : List Spot) → IsCaseAt c w s spots → TextsAreShapely → ReadExpressionsAreOfTexts
      → IsFirstFlaw (case_design c) (asked_list xs) None → AreFlawlessIn (case_design c) s spots xs known
  flawless w s spots at shapely read none =
      record {
        stands = at.stands_at;
        is_source = at.is_source;
        known = h.are_known;
        named = h.are_named;
        of_texts = subst AreOfTexts (sym h.are_asked) (read c p shapely h.stands);
        flawless = none;
      }

  pub bad_told : {X E : Type 0} (r : Result (Option X) E) (w : WrittenMap) (s : Source) (spots : List Spot) → IsCaseAt c w s spots
      → IfOk r (λ o. (k : MapCase) (q : Map) → AreAsked k q xs known → k.written ≡ w → StandsAt (case_design k) spots → IsTrue (is_some o) ↔ HasBadExpression k)
      → IfOk r (λ o. IsTrue (is_some o) ↔ HasBadExpression c)
  bad_told (Ok o) w s spots at told = told c p h at.is_written at.stands_at
  bad_told (Err e) w s spots at told = tt

  pub users_told : {X E : Type 0} (r : Result (Option X) E) (flags : List Bool) (s : Source) (spots : List Spot)
      → IfOk r (λ o. (k : MapCase) (q : Map) → AreAsked k q xs known → flags ≡ asked_flags k.model q → AreFlawlessIn (case_design k) s spots xs known
      → IsTrue (is_some o) ↔ HasMapInput k)
      → flags ≡ asked_flags c.model p → AreFlawlessIn (case_design c) s spots xs known → IfOk r (λ o. IsTrue (is_some o) ↔ HasMapInput c)
  users_told (Ok o) flags s spots told are free = told c p h are free
  users_told (Err e) flags s spots told are free = tt

-- what is so where nothing was found
pub where_none : {X E P : Type 0} (r : Result (Option X) E) → r ≡ Ok None → IfOk r (λ o. o ≡ None → P) → P
where_none {P = P} r e h = subst (λ q. IfOk q (λ o. o ≡ None → P)) e h refl

-- the same list, as it is lent twice
pub asked_there : (c : MapCase) (p : Map) (v xs ys : List MapExpression) (known : KnownNames) → xs ≡ v → ys ≡ v → StandsForMap c.model c.written p
    → (asked_list v ≡ asked_in c.model p) × AreNamed v → (AreNamed xs → AreKnown (case_design c) (names_asked (asked_list xs)) known) → AreAsked c p ys known
asked_there c p v xs ys known e f stands listed means =
    subst (λ z. AreAsked c p z known) (sym f)
    (record {
      stands = stands;
      are_asked = listed.0;
      are_named = listed.1;
      are_known = subst (λ z. AreKnown (case_design c) (names_asked (asked_list z)) known) e (means (subst AreNamed (sym e) listed.1));
    })

-- what is told of the first user that was found
pub found_told : {E : Type 0} (xs : List MapExpression) (known : KnownNames) (flags : List Bool) (s : Source) (spots : List Spot) (r : Result (Option ℕ) E) (o : Option ℕ)
    → r ≡ Ok o → IfOk r (λ q. (e : Design) → AreFlawlessIn e s spots xs known → IsFirstUser e (asked_list xs) flags q) → (d : Design)
    → AreFlawlessIn d s spots xs known → IsFirstUser d (asked_list xs) flags o
found_told xs known flags s spots r o is h d free =
    subst (λ z. IfOk z (λ q. (e : Design) → AreFlawlessIn e s spots xs known → IsFirstUser e (asked_list xs) flags q)) is h d free
