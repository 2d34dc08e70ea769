-- Spans that have something that a table lacks, and bits that are read and have no driver.
use Rattle.std.proofs.Common.{◌≡◌, ◌∙◌, ℕ, zero, refl, sym, subst, Bool, true, false, List, [], ◌∷◌, inl, inr}
use Rattle.std.specs.Prelude.{◌||◌, ◌↔◌, IsTrue}
use Rattle.std.specs.declared.vec.Vec.{Vec}
use Rattle.std.specs.declared.alloc.Global.{Global}
use Rattle.std.proofs.lemmas.Bool.{true≢false, false≢true, or_left, or_right}
use Rattle.wb_values.specs.Value.{Name}
use Rattle.verilog_trees.specs.Syntax.{Item}
use Rattle.verilog_meaning.specs.Expression.{Scope, is_memory}
use Rattle.verilog_meaning.specs.Register.{is_set}
use Rattle.verilog_designs.specs.Reads.{BitSet}
use Rattle.v_flow.specs.declared.span.Span.{Span}
use Rattle.v_flow.specs.Spans.{bits_of, bits_in}
use Rattle.v_masks.proofs.Bits.{set-none, set-or}
use Rattle.v_masks.proofs.Plain.{first-word}
use Rattle.v_scopes.specs.declared.table.ModuleScope.{ModuleScope}
use Rattle.v_drivers.specs.Tables.{Masks, spans_mask}
use Rattle.v_drivers.specs.Sets.{drivers}
use Rattle.v_drivers.specs.Lists.{sets_in}
use Rattle.v_drivers.proofs.Touching.{touched, Touches, case-on, touched-left, touched-right, touched-parts, same-self, span-touches, touches-span, name-of, mask-bits, bits-mask}
use Rattle.v_drivers.proofs.Meeting.{touched-memory, touched-other, memory-touched, other-touched}
use Rattle.v_drivers.proofs.Walking.{OneTouches}
use Rattle.v_undriven.specs.Names.{needs_driver}
use Rattle.v_undriven.specs.Reads.{module_reads}
use Rattle.v_undriven.specs.Tables.{drivers_mask, OneHasMore}
use Rattle.v_undriven.specs.Undriven.{OneHas, HasAnyAs, HasUndrivenBit}
use Rattle.v_undriven.proofs.Within.{module-within}

either : {A : Type 0} (p q : Bool) → (p || q) ≡ true → (p ≡ true → A) → (q ≡ true → A) → A
either true q h f g = f refl
either false q h f g = g h

-- ---- what drivers have, as masks and as sets

mask-drivers : (s : Scope) (vs : List (Vec Span Global)) (n : Name) (b : ℕ) → is_set (drivers_mask s vs n) b ≡ true → OneTouches s (sets_in vs) n b
mask-drivers s [] n b h = absurd (false≢true (sym (set-none b) ∙ h))
mask-drivers s (v ∷ vs) n b h =
    either (is_set (spans_mask s v.items n) b) (is_set (drivers_mask s vs n) b) (sym (set-or (spans_mask s v.items n) (drivers_mask s vs n) b) ∙ h)
    (λ e. inl (mask-bits s v.items n b e)) (λ e. inr (mask-drivers s vs n b e))

drivers-mask : (s : Scope) (vs : List (Vec Span Global)) (n : Name) (b : ℕ) → OneTouches s (sets_in vs) n b → is_set (drivers_mask s vs n) b ≡ true
drivers-mask s [] n b h = absurd h
drivers-mask s (v ∷ vs) n b (inl t) =
    set-or (spans_mask s v.items n) (drivers_mask s vs n) b
    ∙ or_left (is_set (spans_mask s v.items n) b) (is_set (drivers_mask s vs n) b) (bits-mask s v.items n b t)
drivers-mask s (v ∷ vs) n b (inr t) =
    set-or (spans_mask s v.items n) (drivers_mask s vs n) b
    ∙ or_right (is_set (spans_mask s v.items n) b) (is_set (drivers_mask s vs n) b) (drivers-mask s vs n b t)

-- ---- one of several sets

touching-any : (s : Scope) (ps : List BitSet) (n : Name) (b : ℕ) → is_memory (s n) ≡ true → OneTouches s ps n b → (l : ℕ) × (c : ℕ) × OneHas ps n l c
touching-any s [] n b e h = absurd h
touching-any s (p ∷ ps) n b e (inl t) = let x = touched-memory (is_memory (s n)) p n b e t in (x.1, x.2, inl x.3)
touching-any s (p ∷ ps) n b e (inr t) = let x = touching-any s ps n b e t in (x.0, x.1, inr x.2)

any-touching : (s : Scope) (ps : List BitSet) (n : Name) (l c : ℕ) → is_memory (s n) ≡ true → OneHas ps n l c → OneTouches s ps n 0
any-touching s [] n l c e h = absurd h
any-touching s (p ∷ ps) n l c e (inl t) = inl (memory-touched (is_memory (s n)) p n l c e t)
any-touching s (p ∷ ps) n l c e (inr t) = inr (any-touching s ps n l c e t)

touching-one : (s : Scope) (ps : List BitSet) (n : Name) (b : ℕ) → is_memory (s n) ≡ false → OneTouches s ps n b → OneHas ps n zero b
touching-one s [] n b e h = absurd h
touching-one s (p ∷ ps) n b e (inl t) = inl (touched-other (is_memory (s n)) p n b e t)
touching-one s (p ∷ ps) n b e (inr t) = inr (touching-one s ps n b e t)

one-touching : (s : Scope) (ps : List BitSet) (n : Name) (b : ℕ) → is_memory (s n) ≡ false → OneHas ps n zero b → OneTouches s ps n b
one-touching s [] n b e h = absurd h
one-touching s (p ∷ ps) n b e (inl t) = inl (other-touched (is_memory (s n)) p n b e t)
one-touching s (p ∷ ps) n b e (inr t) = inr (one-touching s ps n b e t)

any-as : (t m : Bool) (ps : List BitSet) (n : Name) (k b : ℕ) → t ≡ m → HasAnyAs t ps n k b → HasAnyAs m ps n k b
any-as t m ps n k b e h = subst (λ z. HasAnyAs z ps n k b) e h

not-true : (t : Bool) → (t ≡ true → ⊥) → t ≡ false
not-true true h = absurd (h refl)
not-true false h = refl

-- ---- spans and a table

module _ (s : Scope) (names : ModuleScope) (clock : Name) (f : Masks) where
  -- a name and a bit of the set that the table lacks
  record Lacks (p : BitSet) : Type 0 where
    pub name : Name
    pub bit : ℕ
    pub needs : IsTrue (needs_driver s names clock name)
    pub touches : Touches s p name bit
    pub lacking : is_set (f name) bit ≡ false

  more-lacks : (xs : List Span) → OneHasMore s names clock f xs → Lacks (bits_in xs)
  more-lacks [] h = absurd h
  more-lacks (x ∷ xs) (inl (needs, more)) =
      record {
        name = x.name.now;
        bit = more.bit;
        needs = needs;
        touches = touched-left (is_memory (s x.name.now)) (bits_of x) (bits_in xs) x.name.now more.bit
            (span-touches s x x.name.now more.bit (same-self x.name.now) more.in_span);
        lacking = more.lacking;
      }
  more-lacks (x ∷ xs) (inr h) =
      let l = more-lacks xs h in
      record {
        name = l.name;
        bit = l.bit;
        needs = l.needs;
        touches = touched-right (is_memory (s l.name)) (bits_of x) (bits_in xs) l.name l.bit l.touches;
        lacking = l.lacking;
      }

  lacks-more : (xs : List Span) (n : Name) (b : ℕ) → IsTrue (needs_driver s names clock n) → is_set (f n) b ≡ false → Touches s (bits_in xs) n b
      → OneHasMore s names clock f xs
  lacks-more [] n b needs e t = none (is_memory (s n)) t
    where
      none : (m : Bool) → touched m (bits_in []) n b → OneHasMore s names clock f []
      none false h = false≢true h
      none true (i, k, c, h) = false≢true h
  lacks-more (x ∷ xs) n b needs e t =
      touched-parts (is_memory (s n)) (bits_of x) (bits_in xs) n b t
      (λ u. let p = touches-span s x n b u in
      let same = name-of x n p.0 in
      inl (
        subst (λ m. IsTrue (needs_driver s names clock m)) (sym same) needs,
        record { bit = b; in_span = p.1; lacking = subst (λ m. is_set (f m) b ≡ false) (sym same) e },
      ))
      (λ u. inr (lacks-more xs n b needs e u))

  -- ---- and the rule

  module _ (items : List Item) (vs : List (Vec Span Global)) (are : sets_in vs ≡ drivers s items)
      (table : (n : Name) (b : ℕ) → is_set (f n) b ≡ is_set (drivers_mask s vs n) b) where
    in-table : (n : Name) (b : ℕ) → OneTouches s (drivers s items) n b → is_set (f n) b ≡ true
    in-table n b t = table n b ∙ drivers-mask s vs n b (subst (λ (ps : List BitSet). OneTouches s ps n b) (sym are) t)

    from-table : (n : Name) (b : ℕ) → is_set (f n) b ≡ true → OneTouches s (drivers s items) n b
    from-table n b h = subst (λ (ps : List BitSet). OneTouches s ps n b) are (mask-drivers s vs n b (sym (table n b) ∙ h))

    lacks-rule : Lacks (module_reads s names items) → HasUndrivenBit s names clock items
    lacks-rule l = case-on (is_memory (s l.name))
        (λ e. let x = touched-memory (is_memory (s l.name)) (module_reads s names items) l.name l.bit e l.touches in
        record {
          name = l.name;
          word = x.1;
          bit = x.2;
          needs = l.needs;
          is_read = x.3;
          undriven = λ h. let a = any-as (is_memory (s l.name)) true (drivers s items) l.name x.1 x.2 e h in
              true≢false (sym (in-table l.name 0 (any-touching s (drivers s items) l.name a.0 a.1 e a.2))
              ∙ subst (λ b. is_set (f l.name) b ≡ false) x.0 l.lacking);
        })
        (λ e. record {
          name = l.name;
          word = 0;
          bit = l.bit;
          needs = l.needs;
          is_read = touched-other (is_memory (s l.name)) (module_reads s names items) l.name l.bit e l.touches;
          undriven = λ h. true≢false
              (sym (in-table l.name l.bit (one-touching s (drivers s items) l.name l.bit e (any-as (is_memory (s l.name)) false (drivers s items) l.name 0 l.bit e h)))
              ∙ l.lacking);
        })

    rule-lacks : HasUndrivenBit s names clock items → Lacks (module_reads s names items)
    rule-lacks h = case-on (is_memory (s h.name))
        (λ e. record {
          name = h.name;
          bit = 0;
          needs = h.needs;
          touches = memory-touched (is_memory (s h.name)) (module_reads s names items) h.name h.word h.bit e h.is_read;
          lacking = not-true (is_set (f h.name) 0)
              (λ t. h.undriven (any-as true (is_memory (s h.name)) (drivers s items) h.name h.word h.bit (sym e)
              (touching-any s (drivers s items) h.name 0 e (from-table h.name 0 t))));
        })
        (λ e. let first = first-word (s h.name) h.word h.bit e (module-within s names items h.name h.word h.bit h.is_read) in
        record {
          name = h.name;
          bit = h.bit;
          needs = h.needs;
          touches = other-touched (is_memory (s h.name)) (module_reads s names items) h.name h.bit e
              (subst (λ k. module_reads s names items h.name k h.bit ≡ true) first h.is_read);
          lacking = not-true (is_set (f h.name) h.bit)
              (λ t. h.undriven (any-as false (is_memory (s h.name)) (drivers s items) h.name h.word h.bit (sym e)
              (subst (λ k. OneHas (drivers s items) h.name k h.bit) (sym first) (touching-one s (drivers s items) h.name h.bit e (from-table h.name h.bit t)))));
        })

    pub as-found : (xs : List Span) → bits_in xs ≡ module_reads s names items → OneHasMore s names clock f xs ↔ HasUndrivenBit s names clock items
    as-found xs are_read = (
      λ h. lacks-rule (subst Lacks are_read (more-lacks xs h)),
      λ h. let l = subst Lacks (sym are_read) (rule-lacks h) in lacks-more xs l.name l.bit l.needs l.lacking l.touches,
    )
