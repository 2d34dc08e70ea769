-- Passes: what a driver settles is no bit of a loop, where it is the bit's one driver.
use Rattle.std.proofs.Common.{◌≡◌, ◌∙◌, ℕ, refl, ap, sym, subst, Bool, true, false, not, List, ◌⊎◌, inl, inr}
use Rattle.std.specs.Prelude.{IsTrue, ◌&&◌}
use Rattle.std.proofs.lemmas.Bool.{true≢false, false≢true, false_from_ne_true, and_parts, and_from, cases_Bool}
use Rattle.verilog_trees.specs.Syntax.{Statement, Item}
use Rattle.verilog_meaning.specs.Expression.{Scope}
use Rattle.verilog_meaning.specs.Register.{is_bit_of, may_assign}
use Rattle.verilog_unique.proofs.Descent.{IsAmong, contains_among}
use Rattle.verilog_designs.specs.Reads.{BitSet, no_bits, or_in, and_in, but_not_in}
use Rattle.verilog_designs.specs.Dependence.{Bit, is_in, at_start, After}
use Rattle.v_flow.specs.Spans.{existing}
use Rattle.v_masks.specs.Masks.{spread}
use Rattle.v_paths.specs.Premises.{HasNoMemory}
use Rattle.v_depend.specs.Resting.{IsThere, RestsAfter}
use Rattle.v_loops.specs.Turns.{RestsNowhere, TellsWhereAssigned, Settles, AreSettled, AreApartBut, IsVisited, IsPassed, AreOf, HasAllLoops}
use Rattle.v_loops.proofs.Steps.{RestsWhereItDepends, in-first}
use Rattle.v_loops.proofs.Stages.{first-step, turned}
use Rattle.v_loops.proofs.Listed.{by-driver}

both-ways : (b : Bool) → not b ≡ true → b ≡ true → ⊥
both-ways true h g = false≢true h
both-ways false h g = false≢true g

kept-out : (a b : Bool) → a ≡ true → (a && not b) ≡ false → b ≡ true
kept-out true true e f = refl
kept-out true false e f = absurd (true≢false f)
kept-out false b e f = absurd (false≢true e)

-- ---- what a driver settles

module _ (s : Scope) (x : Statement) (p spans : BitSet) (is_spans : spans ≡ existing s (may_assign s x)) where
  assigned : (u : Bit) → IsTrue (is_in spans u) → IsThere s u × IsTrue (may_assign s x u.of_name u.word u.place)
  assigned u h = and_parts (is_bit_of (s u.of_name) u.word u.place) (may_assign s x u.of_name u.word u.place) (subst (λ (q : BitSet). is_in q u ≡ true) is_spans h)

  has-assigned : (u : Bit) → IsThere s u → IsTrue (may_assign s x u.of_name u.word u.place) → IsTrue (is_in spans u)
  has-assigned u there m =
      subst (λ (q : BitSet). is_in q u ≡ true) (sym is_spans) (and_from (is_bit_of (s u.of_name) u.word u.place) (may_assign s x u.of_name u.word u.place) there m)

  -- what waits is settled, where nothing that it may assign rests on an unsettled bit
  module _ (q : BitSet) (waits : q ≡ and_in spans p) where
    all-wait : (u : Bit) → IsThere s u → IsTrue (is_in p u) → IsTrue (may_assign s x u.of_name u.word u.place) → is_in q u ≡ false → ⊥
    all-wait u there h m k =
        true≢false
        (sym (subst (λ (z : BitSet). is_in z u ≡ true) (sym waits) (and_from (is_in spans u) (is_in p u) (has-assigned u there m) h)) ∙ k)

    pub waiting-settled : RestsNowhere p s x → AreSettled p s x q
    waiting-settled nowhere = record { settled = now; rests = λ u there h m k. absurd (all-wait u there h m k) }
      where
        now : (u : Bit) → IsTrue (is_in q u) → Settles p s x u
        now u h =
            let both = and_parts (is_in spans u) (is_in p u) (subst (λ (z : BitSet). is_in z u ≡ true) waits h) in
            let a = assigned u both.0 in
            record { there = a.0; was = both.1; assigned = a.1; rests = λ r. nowhere u a.0 a.1 r }

    -- none of its bits is unsettled
    pub none-settled : ((u : Bit) → IsTrue (is_in q u) → ⊥) → AreSettled p s x q
    none-settled none = record { settled = λ u h. absurd (none u h); rests = λ u there h m k. absurd (all-wait u there h m k) }

  pub are-settled : (m unsettled start q : BitSet) → TellsWhereAssigned p s x m → unsettled ≡ and_in spans p → start ≡ no_bits → q ≡ or_in start (but_not_in unsettled m) → AreSettled p s x q
  are-settled m unsettled start q f is_open none is = record { settled = there; rests = rests }
    where
      is_q : q ≡ but_not_in (and_in spans p) m
      is_q = is ∙ ap (λ (z : BitSet). or_in z (but_not_in unsettled m)) none ∙ ap (λ (z : BitSet). but_not_in z m) is_open

      there : (u : Bit) → IsTrue (is_in q u) → Settles p s x u
      there u h =
          let all = and_parts (is_in (and_in spans p) u) (not (is_in m u)) (subst (λ (z : BitSet). is_in z u ≡ true) is_q h) in
          let both = and_parts (is_in spans u) (is_in p u) all.0 in
          let a = assigned u both.0 in
          record { there = a.0; was = both.1; assigned = a.1; rests = λ r. both-ways (is_in m u) all.1 ((f u a.0 a.1).1 r) }

      rests : (u : Bit) → IsThere s u → IsTrue (is_in p u) → IsTrue (may_assign s x u.of_name u.word u.place) → is_in q u ≡ false → RestsAfter p s x u
      rests u at h may k =
          (f u at may).0
          (kept-out (is_in (and_in spans p) u) (is_in m u)
          (and_from (is_in spans u) (is_in p u) (has-assigned u at may) h)
          (ap (λ (z : BitSet). is_in z u) (sym is_q) ∙ k))

-- ---- one driver

-- what is taken out of the table
pub visited : (s : Scope) (x : Statement) (before after shared settled own start : BitSet) → HasNoMemory s before
    → AreSettled before s x settled → ((u : Bit) (k : ℕ) → shared u.of_name k u.place ≡ is_in shared u) → start ≡ no_bits
    → own ≡ or_in start (but_not_in settled shared) → after ≡ but_not_in before (spread own) → IsVisited shared s x before after
visited s x before after shared settled own start none f wordless empty is_own is =
    record {
      fewer = λ n k b h. (and_parts (before n k b) (not (spread own n k b)) (subst (λ (z : BitSet). z n k b ≡ true) is h)).0;
      settled = now;
    }
  where
    now : (u : Bit) → IsThere s u → IsTrue (is_in before u) → is_in after u ≡ false → Settles before s x u × (is_in shared u ≡ false)
    now u there h g =
        let zero_word = in-first s before u none there u.word u.place h in
        let out = kept-out (is_in before u) (own u.of_name 0 u.place) h (ap (λ (z : BitSet). is_in z u) (sym is) ∙ g) in
        let all = and_parts (settled u.of_name 0 u.place) (not (shared u.of_name 0 u.place))
        (subst (λ (z : BitSet). z u.of_name 0 u.place ≡ true) (is_own ∙ ap (λ (z : BitSet). or_in z (but_not_in settled shared)) empty) out) in (
          f.settled u (subst (λ k. settled u.of_name k u.place ≡ true) (sym zero_word) all.0),
          sym (wordless u 0) ∙ false_from_ne_true (shared u.of_name 0 u.place) (both-ways (shared u.of_name 0 u.place) all.1),
        )

-- ---- a pass

module _ (s : Scope) (xs : List Statement) where
  pub none-passed : (a : BitSet) → IsPassed s xs a a
  none-passed a = record { fewer = λ n k b h. h; loops = λ items o all. all }

  pub passed-then : (a b c : BitSet) → IsPassed s xs a b → IsPassed s xs b c → IsPassed s xs a c
  passed-then a b c f g = record { fewer = λ n k p h. f.fewer n k p (g.fewer n k p h); loops = λ items o all. g.loops items o (f.loops items o all) }

  pub passed-free : (a b : BitSet) → IsPassed s xs a b → HasNoMemory s a → HasNoMemory s b
  passed-free a b f none n k p m = false_from_ne_true (b n k p) (λ h. true≢false (sym (f.fewer n k p h) ∙ none n k p m))

  pub visit-passes : RestsWhereItDepends → (shared : BitSet) → AreApartBut s xs shared → (x : Statement) → IsAmong xs x → (a b : BitSet) → IsVisited shared s x a b
      → IsPassed s xs a b
  visit-passes law shared apart x stands a b v = record { fewer = v.fewer; loops = loops }
    where
      loops : (items : List Item) → AreOf s items xs → HasAllLoops s items a → HasAllLoops s items b
      loops items o all u l = at (cases_Bool (is_in b u))
        where
          at : (is_in b u ≡ true) ⊎ (is_in b u ≡ false) → IsTrue (is_in b u)
          at (inl e) = e
          at (inr e) =
              let f = first-step s items u u l in
              let d = by-driver s items u f.0 f.1 in
              let r = v.settled u d.there (all u l) e in
              let same : d.driver ≡ x = apart d.driver x u (contains_among xs d.driver (subst (λ (ys : List Statement). IsAmong ys d.driver) o.same d.stands)) (contains_among xs x stands) d.there d.assigns r.0.assigned r.1 in
              absurd (r.0.rests ((law a s x u d.there).1 (f.0, all f.0 (turned s items u f.0 f.1 f.2), subst (λ (y : Statement). After s at_start y u f.0) same d.after)))
