-- The turns of loops over drivers and over spans.
use Rattle.std.proofs.Common.{◌≡◌, ◌∙◌, ℕ, zero, suc, ◌+◌, ◌<◌, refl, ap, sym, subst, arith, Bool, true, false, not, List, [], ◌∷◌, length, drop, get_or, inl, inr, Bor}
use Rattle.std.specs.Prelude.{◌||◌, ◌&&◌, ◌==◌, IsTrue}
use Rattle.std.specs.BTreeMap.{BTreeMap}
use Rattle.std.specs.declared.vec.Vec.{Vec}
use Rattle.std.specs.declared.alloc.Global.{Global}
use Rattle.std.proofs.lemmas.Bool.{true≢false, false≢true, and_parts, and_from}
use Rattle.std.proofs.lemmas.Bool.Decides.{nat_tests}
use Rattle.wb_values.specs.Value.{Name}
use Rattle.verilog_meaning.specs.Expression.{Scope}
use Rattle.verilog_meaning.specs.Register.{is_set}
use Rattle.v_flow.specs.declared.span.Span.{Span}
use Rattle.v_masks.specs.Masks.{mask_under}
use Rattle.v_masks.proofs.Bits.{set-none, set-or, some-bit}
use Rattle.v_scopes.specs.declared.table.ModuleScope.{ModuleScope}
use Rattle.v_statement.proofs.Runs.{rest_is}
use Rattle.v_drivers.specs.Tables.{Masks, span_mask, spans_mask}
use Rattle.v_drivers.proofs.Adding.{or_false, or_assoc, no-masks}
use Rattle.v_undriven.specs.Names.{needs_driver}
use Rattle.v_undriven.specs.Tables.{drivers_mask, HasMore, OneHasMore}

-- ---- the table of drivers

-- what the table has, and what the drivers that are left have
pub drivers-turn : (s : Scope) (vs : List (Vec Span Global)) (i : ℕ) (r : Vec Span Global) (n : Name) (b : ℕ) (t old new : Bool) → i < length vs → r ≡ get_or vs i r
    → new ≡ (old || is_set (spans_mask s r.items n) b) → t ≡ (old || is_set (drivers_mask s (drop i vs) n) b) → t ≡ (new || is_set (drivers_mask s (drop (i + 1) vs) n) b)
drivers-turn s vs i r n b t old new h is more same =
    let rest = drop (i + 1) vs in
    let own = is_set (spans_mask s r.items n) b in
    same ∙ ap (λ ys. old || is_set (drivers_mask s ys n) b) (rest_is vs i r h is)
    ∙ ap (λ z. old || z) (set-or (spans_mask s r.items n) (drivers_mask s rest n) b)
    ∙ sym (or_assoc old own (is_set (drivers_mask s rest n) b)) ∙ ap (λ z. z || is_set (drivers_mask s rest n) b) (sym more)

pub drivers-begun : (s : Scope) (vs : List (Vec Span Global)) (t : BTreeMap (Bor (List ℕ)) ℕ) → t.entries ≡ [] → (n : Name) (b : ℕ)
    → is_set (drivers_mask s vs n) b ≡ (is_set (mask_under t n) b || is_set (drivers_mask s vs n) b)
drivers-begun s vs t e n b = ap (λ z. z || is_set (drivers_mask s vs n) b) (sym (ap (λ x. is_set x b) (no-masks t e n) ∙ set-none b))

pub drivers-end : (x : ℕ) (b : ℕ) (t m : Bool) → t ≡ (m || is_set x b) → is_set x b ≡ is_set 0 b → m ≡ t
drivers-end x b t m g e = sym (g ∙ ap (λ z. m || z) (e ∙ set-none b) ∙ or_false m)

-- ---- a span

positive : (n : ℕ) → not (n == 0) ≡ true → 0 < n
positive zero h = absurd (false≢true h)
positive (suc n) h = omega arith

not-nothing : (n b : ℕ) → is_set n b ≡ true → not (n == 0) ≡ true
not-nothing zero b h = absurd (false≢true (sym (set-none b) ∙ h))
not-nothing (suc n) b h = let l : 0 < suc n = omega arith in grind (arith, nat_tests, l)

negated : (t : Bool) → not t ≡ true → t ≡ false
negated false h = refl
negated true h = absurd (false≢true h)

pub found-more : (s : Scope) (f : Masks) (x : Span) (m : ℕ) → ((b : ℕ) → is_set m b ≡ (is_set (span_mask s x) b && not (is_set (f x.name.now) b)))
    → not (m == 0) ≡ true → HasMore s f x
found-more s f x m is h =
    let some = some-bit m m (omega arith) (positive m h) in
    let p = and_parts (is_set (span_mask s x) some.0) (not (is_set (f x.name.now) some.0)) (sym (is some.0) ∙ some.1) in
    record { bit = some.0; in_span = p.0; lacking = negated (is_set (f x.name.now) some.0) p.1 }

pub more-found : (s : Scope) (f : Masks) (x : Span) (m : ℕ) → ((b : ℕ) → is_set m b ≡ (is_set (span_mask s x) b && not (is_set (f x.name.now) b)))
    → HasMore s f x → not (m == 0) ≡ true
more-found s f x m is h =
    not-nothing m h.bit
    (is h.bit ∙ and_from (is_set (span_mask s x) h.bit) (not (is_set (f x.name.now) h.bit)) h.in_span (ap not h.lacking))

-- ---- spans

module _ (s : Scope) (names : ModuleScope) (clock : Name) (f : Masks) where
  -- all that is found in the spans is found in those that are left
  pub record IsLeft (all rest : List Span) : Type 0 where
    pub forth : OneHasMore s names clock f all → OneHasMore s names clock f rest
    pub back : OneHasMore s names clock f rest → OneHasMore s names clock f all

  pub begun : (all : List Span) → IsLeft all all
  begun all = record { forth = λ h. h; back = λ h. h }

  passed : (x : Span) (rest : List Span) → (IsTrue (needs_driver s names clock x.name.now) → HasMore s f x → ⊥) → OneHasMore s names clock f (x ∷ rest) → OneHasMore s names clock f rest
  passed x rest none (inl (needs, more)) = absurd (none needs more)
  passed x rest none (inr h) = h

  onward : (all rest : List Span) (x : Span) → (IsTrue (needs_driver s names clock x.name.now) → HasMore s f x → ⊥) → IsLeft all (x ∷ rest) → IsLeft all rest
  onward all rest x none l = record { forth = λ h. passed x rest none (l.forth h); back = λ h. l.back (inr h) }

  pub turn-unneeded : (all : List Span) (i : ℕ) (r : Span) → i < length all → r ≡ get_or all i r → needs_driver s names clock r.name.now ≡ false
      → IsLeft all (drop i all) → IsLeft all (drop (i + 1) all)
  turn-unneeded all i r h is e l =
      onward all (drop (i + 1) all) r (λ needs more. true≢false (sym needs ∙ e)) (subst (IsLeft all) (rest_is all i r h is) l)

  pub turn-driven : (all : List Span) (i : ℕ) (r : Span) → i < length all → r ≡ get_or all i r → (HasMore s f r → ⊥) → IsLeft all (drop i all) → IsLeft all (drop (i + 1) all)
  turn-driven all i r h is none l = onward all (drop (i + 1) all) r (λ needs more. none more) (subst (IsLeft all) (rest_is all i r h is) l)

  pub found : (all : List Span) (i : ℕ) (r : Span) → i < length all → r ≡ get_or all i r → IsTrue (needs_driver s names clock r.name.now) → HasMore s f r
      → IsLeft all (drop i all) → OneHasMore s names clock f all
  found all i r h is needs more l = l.back (subst (OneHasMore s names clock f) (sym (rest_is all i r h is)) (inl (needs, more)))

  pub ended : (all rest : List Span) → rest ≡ [] → IsLeft all rest → OneHasMore s names clock f all → ⊥
  ended all rest e l h = subst (OneHasMore s names clock f) e (l.forth h)
