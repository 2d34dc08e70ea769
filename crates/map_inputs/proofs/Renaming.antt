-- Spans under new names have a marked bit where the spans have one under the new name of its name.
use Rattle.std.proofs.Common.{◌≡◌, ◌∙◌, ℕ, ◌+◌, ◌<◌, refl, ap, sym, subst, true, false, List, [], ◌∷◌, ◌++◌, length, drop, get_or, ◌⊎◌, inl, inr}
use Rattle.std.specs.Prelude.{IsTrue, ◌↔◌, ◌&&◌}
use Rattle.std.proofs.lemmas.Bool.{false≢true, and_parts, and_from, or_cases, or_left, or_right}
use Rattle.std.proofs.lemmas.List.{drop_more}
use Rattle.std.proofs.lemmas.Slice.Eq.{bytes_eq-Decides}
use Rattle.wb_values.specs.Value.{Name, same_name}
use Rattle.verilog_meaning.specs.Register.{is_set}
use Rattle.verilog_designs.specs.Reads.{BitSet, no_bits, or_in}
use Rattle.verilog_designs.specs.Dependence.{Bit, is_in}
use Rattle.verilog_renamed.specs.Renamed.{renamed_bit}
use Rattle.v_flow.specs.declared.span.Span.{Span}
use Rattle.v_flow.specs.Spans.{is_between, bits_of, bits_in}
use Rattle.v_flow.proofs.Sets.{push}
use Rattle.v_depend.specs.Resting.{OneIsUnsettled}
use Rattle.map_inputs.specs.Bits.{OneIsMarked}
use Rattle.map_inputs.specs.Spans.{IsRenamedSpan, AreRenamedSpans}

-- ---- one span

pub renamed-span : (f : Name → Name) (x y : Span) → y.name.now ≡ f x.name.now → y.from_word ≡ x.from_word → y.to_word ≡ x.to_word → y.bits ≡ x.bits → IsRenamedSpan f x y
renamed-span f x y name from to bits p = (there, back)
  where
    rest : (k b : ℕ) → (is_between y.from_word y.to_word k && is_set y.bits b) ≡ (is_between x.from_word x.to_word k && is_set x.bits b)
    rest k b = λ i. is_between (from i) (to i) k && is_set (bits i) b

    there : OneIsUnsettled p (bits_of y) → OneIsMarked f p (bits_of x)
    there (z, h, m) =
        let both = and_parts (same_name y.name.now z.of_name) (is_between y.from_word y.to_word z.word && is_set y.bits z.place) h in
        let same : f x.name.now ≡ z.of_name = sym name ∙ (bytes_eq-Decides y.name.now z.of_name).0 both.0 in (
          record { of_name = x.name.now; word = z.word; place = z.place },
          and_from (same_name x.name.now x.name.now) (is_between x.from_word x.to_word z.word && is_set x.bits z.place)
              ((bytes_eq-Decides x.name.now x.name.now).1 refl) (sym (rest z.word z.place) ∙ both.1),
          subst (λ (n : Name). IsTrue (p n z.word z.place)) (sym same) m,
        )

    back : OneIsMarked f p (bits_of x) → OneIsUnsettled p (bits_of y)
    back (z, h, m) =
        let both = and_parts (same_name x.name.now z.of_name) (is_between x.from_word x.to_word z.word && is_set x.bits z.place) h in
        let same : y.name.now ≡ f z.of_name = name ∙ ap f ((bytes_eq-Decides x.name.now z.of_name).0 both.0) in (
          renamed_bit f z,
          and_from (same_name y.name.now (f z.of_name)) (is_between y.from_word y.to_word z.word && is_set y.bits z.place)
              ((bytes_eq-Decides y.name.now (f z.of_name)).1 same) (rest z.word z.place ∙ both.1),
          m,
        )

-- ---- one after the other

marked-either : (f : Name → Name) (p a b : BitSet) → OneIsMarked f p (or_in a b) → OneIsMarked f p a ⊎ OneIsMarked f p b
marked-either f p a b (z, h, m) =
    elim (or_cases (is_in a z) (is_in b z) h) as (λ _. OneIsMarked f p a ⊎ OneIsMarked f p b) [ inl k ↦ inl (z, k, m) | inr k ↦ inr (z, k, m) ]

unsettled-either : (p a b : BitSet) → OneIsUnsettled p (or_in a b) → OneIsUnsettled p a ⊎ OneIsUnsettled p b
unsettled-either p a b (z, h, m) =
    elim (or_cases (is_in a z) (is_in b z) h) as (λ _. OneIsUnsettled p a ⊎ OneIsUnsettled p b) [ inl k ↦ inl (z, k, m) | inr k ↦ inr (z, k, m) ]

-- of what is found, and of what is left, one is marked exactly where one of all is
abbrev pub AreSoFar : (Name → Name) → (whole rest found : List Span) → Type 0
AreSoFar f whole rest found = (p : BitSet) → (OneIsUnsettled p (bits_in found) ⊎ OneIsMarked f p (bits_in rest)) ↔ OneIsMarked f p (bits_in whole)

pub begun-so : (f : Name → Name) (xs found : List Span) → found ≡ [] → AreSoFar f xs xs found
begun-so f xs found e p = (there, λ h. inr h)
  where
    there : OneIsUnsettled p (bits_in found) ⊎ OneIsMarked f p (bits_in xs) → OneIsMarked f p (bits_in xs)
    there (inl h) = absurd (false≢true (subst (λ (ys : List Span). IsTrue (is_in (bits_in ys) h.0)) e h.1))
    there (inr h) = h

pub turn-so : (f : Name → Name) (whole rest found more : List Span) (x y : Span) → AreSoFar f whole (x ∷ rest) found → IsRenamedSpan f x y → more ≡ found ++ y ∷ []
    → AreSoFar f whole rest more
turn-so f whole rest found more x y h r e p = (there, λ k. back ((h p).1 k))
  where
    is_more : bits_in more ≡ or_in (bits_in found) (bits_of y)
    is_more = ap bits_in e ∙ push found y

    there : OneIsUnsettled p (bits_in more) ⊎ OneIsMarked f p (bits_in rest) → OneIsMarked f p (bits_in whole)
    there (inr (z, k, m)) = (h p).0 (inr (z, or_right (is_in (bits_of x) z) (is_in (bits_in rest) z) k, m))
    there (inl k) = at (unsettled-either p (bits_in found) (bits_of y) (subst (λ (q : BitSet). OneIsUnsettled p q) is_more k))
      where
        at : OneIsUnsettled p (bits_in found) ⊎ OneIsUnsettled p (bits_of y) → OneIsMarked f p (bits_in whole)
        at (inl l) = (h p).0 (inl l)
        at (inr l) = let o = (r p).0 l in (h p).0 (inr (o.0, or_left (is_in (bits_of x) o.0) (is_in (bits_in rest) o.0) o.1, o.2))

    more-so : (z : Bit) → IsTrue (is_in (or_in (bits_in found) (bits_of y)) z) → IsTrue (is_in p z) → OneIsUnsettled p (bits_in more)
    more-so z k m = (z, subst (λ (q : BitSet). IsTrue (is_in q z)) (sym is_more) k, m)

    back : OneIsUnsettled p (bits_in found) ⊎ OneIsMarked f p (or_in (bits_of x) (bits_in rest)) → OneIsUnsettled p (bits_in more) ⊎ OneIsMarked f p (bits_in rest)
    back (inl (z, k, m)) = inl (more-so z (or_left (is_in (bits_in found) z) (is_in (bits_of y) z) k) m)
    back (inr k) = at (marked-either f p (bits_of x) (bits_in rest) k)
      where
        at : OneIsMarked f p (bits_of x) ⊎ OneIsMarked f p (bits_in rest) → OneIsUnsettled p (bits_in more) ⊎ OneIsMarked f p (bits_in rest)
        at (inl l) = let o = (r p).1 l in inl (more-so o.0 (or_right (is_in (bits_in found) o.0) (is_in (bits_of y) o.0) o.1) o.2)
        at (inr l) = inr l

-- the turn of a loop over the spans
pub turn-at : (f : Name → Name) (xs : List Span) (i : ℕ) (d : Span) (found more : List Span) (y : Span) → i < length xs → IsRenamedSpan f (get_or xs i d) y → more ≡ found ++ y ∷ []
    → AreSoFar f xs (drop i xs) found → AreSoFar f xs (drop (i + 1) xs) more
turn-at f xs i d found more y h r e s =
    turn-so f xs (drop (i + 1) xs) found more (get_or xs i d) y (subst (λ (ys : List Span). AreSoFar f xs ys found) (drop_more xs i d h) s) r e

pub ended-so : (f : Name → Name) (whole rest found : List Span) → rest ≡ [] → AreSoFar f whole rest found → AreRenamedSpans f whole found
ended-so f whole rest found e h p = ((λ k. (h p).0 (inl k)), (λ k. at ((h p).1 k)))
  where
    at : OneIsUnsettled p (bits_in found) ⊎ OneIsMarked f p (bits_in rest) → OneIsUnsettled p (bits_in found)
    at (inl k) = k
    at (inr k) = absurd (false≢true (subst (λ (ys : List Span). IsTrue (is_in (bits_in ys) k.0)) e k.1))

-- of other bits that are the same
pub answered : (f : Name → Name) (p q : BitSet) (xs ys : List Span) (b : _) → bits_in xs ≡ q → AreRenamedSpans f xs ys → IsTrue b ↔ OneIsUnsettled p (bits_in ys)
    → IsTrue b ↔ OneIsMarked f p q
answered f p q xs ys b e h g =
    ((λ k. subst (λ (z : BitSet). OneIsMarked f p z) e ((h p).0 (g.0 k))), (λ k. g.1 ((h p).1 (subst (λ (z : BitSet). OneIsMarked f p z) (sym e) k))))
