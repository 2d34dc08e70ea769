-- The walk over the drivers: one of them has something of a driver before it exactly where two sets meet.
use Rattle.std.proofs.Common.{◌≡◌, ◌∙◌, ℕ, refl, ap, sym, subst, Bool, true, false, inl, inr, List, [], ◌∷◌}
use Rattle.std.specs.Prelude.{◌||◌, ◌⊎◌}
use Rattle.std.specs.List.{list_any}
use Rattle.std.proofs.lemmas.Bool.{false≢true, or_left, or_right}
use Rattle.wb_values.specs.Value.{Name}
use Rattle.verilog_meaning.specs.Expression.{Scope}
use Rattle.verilog_meaning.specs.Register.{is_set}
use Rattle.verilog_designs.specs.Reads.{BitSet}
use Rattle.v_flow.specs.declared.span.Span.{Span}
use Rattle.v_flow.specs.Spans.{bits_in}
use Rattle.v_masks.proofs.Bits.{set-none}
use Rattle.v_drivers.specs.Sets.{Meet, OneMeets, TwoMeet}
use Rattle.v_drivers.specs.Bits.{IsOfBits, AreOfBits}
use Rattle.v_drivers.specs.Tables.{Masks, spans_mask, span_meets}
use Rattle.v_drivers.proofs.Touching.{Touches, mask-bits, bits-mask, meets-both, both-meets}
use Rattle.v_drivers.proofs.Meeting.{touching-meet, meet-touching}

-- ---- sets before, and one more

abbrev pub OneMet : Scope → List BitSet → BitSet → Type 0
OneMet s [] q = ⊥
OneMet s (p ∷ ps) q = Meet s p q ⊎ OneMet s ps q

abbrev pub SomeMeet : Scope → List BitSet → List BitSet → Type 0
SomeMeet s ps [] = ⊥
SomeMeet s ps (q ∷ qs) = OneMet s ps q ⊎ SomeMeet s ps qs

abbrev pub OneTouches : Scope → List BitSet → Name → ℕ → Type 0
OneTouches s [] n b = ⊥
OneTouches s (p ∷ ps) n b = Touches s p n b ⊎ OneTouches s ps n b

-- the table has what the sets have
pub record Holds (s : Scope) (f : Masks) (ps : List BitSet) : Type 0 where
  pub there : (n : Name) (b : ℕ) → is_set (f n) b ≡ true → OneTouches s ps n b
  pub has : (n : Name) (b : ℕ) → OneTouches s ps n b → is_set (f n) b ≡ true

either-there : {A : Type 0} (p q : Bool) → (p || q) ≡ true → (p ≡ true → A) → (q ≡ true → A) → A
either-there true q h f g = f refl
either-there false q h f g = g h

more-held : (s : Scope) (f g : Masks) (ps : List BitSet) (xs : List Span) → Holds s f ps
    → ((n : Name) (b : ℕ) → is_set (g n) b ≡ (is_set (f n) b || is_set (spans_mask s xs n) b)) → Holds s g (bits_in xs ∷ ps)
more-held s f g ps xs h e = record {
  there = λ n b i. either-there (is_set (f n) b) (is_set (spans_mask s xs n) b) (sym (e n b) ∙ i)
      (λ j. inr (h.there n b j)) (λ j. inl (mask-bits s xs n b j));
  has = λ n b i. e n b ∙ in-one n b i;
}
  where
    in-one : (n : Name) (b : ℕ) → Touches s (bits_in xs) n b ⊎ OneTouches s ps n b → (is_set (f n) b || is_set (spans_mask s xs n) b) ≡ true
    in-one n b (inl t) = or_right (is_set (f n) b) (is_set (spans_mask s xs n) b) (bits-mask s xs n b t)
    in-one n b (inr t) = or_left (is_set (f n) b) (is_set (spans_mask s xs n) b) (h.has n b t)

one-met : (s : Scope) (ps : List BitSet) (q : BitSet) (n : Name) (b : ℕ) → OneTouches s ps n b → Touches s q n b → OneMet s ps q
one-met s [] q n b t u = t
one-met s (p ∷ ps) q n b (inl t) u = inl (touching-meet s p q n b t u)
one-met s (p ∷ ps) q n b (inr t) u = inr (one-met s ps q n b t u)

met-one : {A : Type 0} (s : Scope) (ps : List BitSet) (q : BitSet) → AreOfBits s ps → IsOfBits s q → OneMet s ps q
    → ((n : Name) (b : ℕ) → OneTouches s ps n b → Touches s q n b → A) → A
met-one s [] q w v m f = absurd m
met-one s (p ∷ ps) q w v (inl m) f = let t = meet-touching s p q w.0 v m in f t.name t.bit (inl t.first) t.second
met-one s (p ∷ ps) q w v (inr m) f = met-one s ps q w.1 v m (λ n b t u. f n b (inr t) u)

-- ---- from one set more to one set less

split-one : (s : Scope) (q : BitSet) (ps qs : List BitSet) → SomeMeet s (q ∷ ps) qs → OneMeets s q qs ⊎ SomeMeet s ps qs
split-one s q ps [] h = inl h
split-one s q ps (r ∷ qs) (inl (inl m)) = inl (inl m)
split-one s q ps (r ∷ qs) (inl (inr m)) = inr (inl m)
split-one s q ps (r ∷ qs) (inr m) = onward (split-one s q ps qs m)
  where
    onward : OneMeets s q qs ⊎ SomeMeet s ps qs → OneMeets s q (r ∷ qs) ⊎ SomeMeet s ps (r ∷ qs)
    onward (inl t) = inl (inr t)
    onward (inr t) = inr (inr t)

join-first : (s : Scope) (q : BitSet) (ps qs : List BitSet) → OneMeets s q qs → SomeMeet s (q ∷ ps) qs
join-first s q ps [] h = h
join-first s q ps (r ∷ qs) (inl m) = inl (inl m)
join-first s q ps (r ∷ qs) (inr m) = inr (join-first s q ps qs m)

join-rest : (s : Scope) (q : BitSet) (ps qs : List BitSet) → SomeMeet s ps qs → SomeMeet s (q ∷ ps) qs
join-rest s q ps [] h = h
join-rest s q ps (r ∷ qs) (inl m) = inl (inr m)
join-rest s q ps (r ∷ qs) (inr m) = inr (join-rest s q ps qs m)

no-sets : (s : Scope) (qs : List BitSet) → SomeMeet s [] qs ⊎ TwoMeet s qs → TwoMeet s qs
no-sets s [] (inl t) = t
no-sets s [] (inr t) = t
no-sets s (q ∷ qs) (inl (inl t)) = absurd t
no-sets s (q ∷ qs) (inl (inr t)) = inr (no-sets s qs (inl t))
no-sets s (q ∷ qs) (inr t) = t

-- ---- the walk over the drivers

-- Of all drivers some were gone through, which have what the table has, and no two of which meet.
pub record IsWalked (s : Scope) (f : Masks) (all rest : List BitSet) : Type 0 where
  pub before : List BitSet
  pub holds : Holds s f before
  pub fit : AreOfBits s before
  pub rest_fit : AreOfBits s rest
  pub forth : TwoMeet s all → SomeMeet s before rest ⊎ TwoMeet s rest
  pub back : SomeMeet s before rest ⊎ TwoMeet s rest → TwoMeet s all

pub walk-begun : (s : Scope) (f : Masks) (all : List BitSet) → ((n : Name) → f n ≡ 0) → AreOfBits s all → IsWalked s f all all
walk-begun s f all none fit = record {
  before = [];
  holds = record { there = λ n b h. false≢true (sym (ap (λ x. is_set x b) (none n) ∙ set-none b) ∙ h); has = λ n b h. absurd h };
  fit = tt;
  rest_fit = fit;
  forth = λ t. inr t;
  back = λ t. no-sets s all t;
}

pub walk-found : (s : Scope) (f : Masks) (all : List BitSet) (xs : List Span) (rest : List BitSet) → IsWalked s f all (bits_in xs ∷ rest)
    → list_any (span_meets s f) xs ≡ true → TwoMeet s all
walk-found s f all xs rest w e =
    let b = meets-both s f xs e in
    w.back (inl (inl (one-met s w.before (bits_in xs) b.name b.bit (w.holds.there b.name b.bit b.in_table) b.in_set)))

pub walk-onward : (s : Scope) (f g : Masks) (all : List BitSet) (xs : List Span) (rest : List BitSet) → IsWalked s f all (bits_in xs ∷ rest)
    → list_any (span_meets s f) xs ≡ false → ((n : Name) (b : ℕ) → is_set (g n) b ≡ (is_set (f n) b || is_set (spans_mask s xs n) b))
    → IsWalked s g all rest
walk-onward s f g all xs rest w e h = record {
  before = bits_in xs ∷ w.before;
  holds = more-held s f g w.before xs w.holds h;
  fit = (w.rest_fit.0, w.fit);
  rest_fit = w.rest_fit.1;
  forth = λ t. from (w.forth t);
  back = λ t. w.back (to t);
}
  where
    q : BitSet
    q = bits_in xs

    none : OneMet s w.before q → ⊥
    none m = met-one s w.before q w.fit w.rest_fit.0 m
        (λ n b i j. false≢true (sym e ∙ both-meets s f xs (record { name = n; bit = b; in_table = w.holds.has n b i; in_set = j })))

    from : SomeMeet s w.before (q ∷ rest) ⊎ TwoMeet s (q ∷ rest) → SomeMeet s (q ∷ w.before) rest ⊎ TwoMeet s rest
    from (inl (inl m)) = absurd (none m)
    from (inl (inr m)) = inl (join-rest s q w.before rest m)
    from (inr (inl m)) = inl (join-first s q w.before rest m)
    from (inr (inr m)) = inr m

    apart : OneMeets s q rest ⊎ SomeMeet s w.before rest → SomeMeet s w.before (q ∷ rest) ⊎ TwoMeet s (q ∷ rest)
    apart (inl m) = inr (inl m)
    apart (inr m) = inl (inr m)

    to : SomeMeet s (q ∷ w.before) rest ⊎ TwoMeet s rest → SomeMeet s w.before (q ∷ rest) ⊎ TwoMeet s (q ∷ rest)
    to (inl m) = apart (split-one s q w.before rest m)
    to (inr m) = inr (inr m)

pub walk-ended : (s : Scope) (f : Masks) (all rest : List BitSet) → rest ≡ [] → IsWalked s f all rest → TwoMeet s all → ⊥
walk-ended s f all rest e w t = at (subst (λ (qs : List BitSet). SomeMeet s w.before qs ⊎ TwoMeet s qs) e (w.forth t))
  where
    at : SomeMeet s w.before [] ⊎ TwoMeet s [] → ⊥
    at (inl h) = h
    at (inr h) = h
