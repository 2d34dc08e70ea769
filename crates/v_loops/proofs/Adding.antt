-- Bits that are added, driver by driver.
use Rattle.std.proofs.Common.{◌≡◌, ◌∙◌, ℕ, ◌+◌, ◌<◌, refl, ap, sym, subst, Bool, true, false, List, [], ◌∷◌, ◌++◌, length, drop, get_or, ◌⊎◌, inl, inr}
use Rattle.std.specs.Prelude.{IsTrue, ◌↔◌, ◌&&◌, not}
use Rattle.std.proofs.lemmas.Bool.{false≢true, and_parts, and_from, or_cases, or_left, or_right}
use Rattle.std.proofs.lemmas.List.{drop_more}
use Rattle.wb_values.specs.Value.{Name}
use Rattle.verilog_trees.specs.Syntax as pure
use Rattle.verilog_meaning.specs.Expression.{Scope}
use Rattle.verilog_meaning.specs.Register.{is_bit_of, may_assign}
use Rattle.verilog_designs.specs.Reads.{BitSet, no_bits, or_in, and_in, but_not_in}
use Rattle.verilog_designs.specs.Dependence.{Bit, is_in}
use Rattle.v_flow.specs.declared.span.Span.{Span}
use Rattle.v_flow.specs.Spans.{bits_of, bits_in, existing}
use Rattle.v_flow.specs.Narrow.{IsNarrowFlow}
use Rattle.v_flow.proofs.Sets.{turn, push}
use Rattle.v_masks.specs.Masks.{spread}
use Rattle.v_paths.specs.Premises.{HasNoMemory}
use Rattle.v_depend.specs.Resting.{IsThere, OneIsUnsettled, RestsAfter}
use Rattle.v_loops.specs.Turns.{HasFirst, RestsBy, OneRests, Adds, TellsWhereAssigned}
use Rattle.v_loops.proofs.Steps.{RestsWhereItDepends}
use Rattle.v_loops.proofs.Local.{needs, same-rests}

-- ---- spans

pub append-turn : (xs : List Span) (i : ℕ) (d : Span) (ys zs : List Span) (t : BitSet) → i < length xs → zs ≡ ys ++ get_or xs i d ∷ []
    → t ≡ or_in (bits_in ys) (bits_in (drop i xs)) → t ≡ or_in (bits_in zs) (bits_in (drop (i + 1) xs))
append-turn xs i d ys zs t h p g =
    turn t (bits_in ys) (bits_in zs) (bits_of (get_or xs i d)) (bits_in (drop (i + 1) xs)) (g ∙ ap (λ ws. or_in (bits_in ys) (bits_in ws)) (drop_more xs i d h))
    (ap bits_in p ∙ push ys (get_or xs i d))

-- what a driver reads, and what it may assign
pub both-needed : (a b reads own all : BitSet) → a ≡ reads → b ≡ own → all ≡ or_in a b → all ≡ or_in reads own
both-needed a b reads own all e f g = g ∙ ap (λ (z : BitSet). or_in z b) e ∙ ap (or_in reads) f

-- ---- one driver

module _ (s : Scope) (x : pure.Statement) (p : BitSet) where
  -- what a table of the bits that the driver needs tells
  pub tells : RestsWhereItDepends → IsNarrowFlow s x → HasNoMemory s p → (m0 m : BitSet) → m0 ≡ spread (and_in (needs s x) p)
      → ((u : Bit) → IsThere s u → IsTrue (is_in m u) ↔ RestsAfter m0 s x u) → TellsWhereAssigned (spread p) s x m
  tells law narrow none m0 m start f u there a =
      let r = same-rests s x p m0 none start law narrow u there a in ((λ h. r.0 ((f u there).0 h)), (λ h. (f u there).1 (r.1 h)))

  pub driver-adds : (m sp old new : BitSet) → TellsWhereAssigned (spread p) s x m → sp ≡ existing s (may_assign s x) → new ≡ or_in old (and_in sp m)
      → Adds false p s (x ∷ []) old new
  driver-adds m sp old new f e is u = (there, back)
    where
      kept : IsTrue (is_in (and_in sp m) u) → RestsBy false p s x u
      kept h =
          let both = and_parts (is_in sp u) (is_in m u) h in
          let g = and_parts (is_bit_of (s u.of_name) u.word u.place) (may_assign s x u.of_name u.word u.place) (subst (λ (q : BitSet). is_in q u ≡ true) e both.0) in
          (g.0, g.1, (f u g.0 g.1).0 both.1)

      rests : RestsBy false p s x u → IsTrue (is_in (and_in sp m) u)
      rests r =
          and_from (is_in sp u) (is_in m u)
          (subst (λ (q : BitSet). is_in q u ≡ true) (sym e) (and_from (is_bit_of (s u.of_name) u.word u.place) (may_assign s x u.of_name u.word u.place) r.0 r.1))
          ((f u r.0 r.1).1 r.2)

      there : IsTrue (is_in new u) → IsTrue (is_in old u) ⊎ OneRests false p s (x ∷ []) u
      there h =
          elim (or_cases (is_in old u) (is_in (and_in sp m) u) (subst (λ (q : BitSet). is_in q u ≡ true) is h)) as (λ _. IsTrue (is_in old u) ⊎ OneRests false p s (x ∷ []) u)
          [ inl k ↦ inl k | inr k ↦ inr (inl (kept k)) ]

      back : IsTrue (is_in old u) ⊎ OneRests false p s (x ∷ []) u → IsTrue (is_in new u)
      back (inl k) = subst (λ (q : BitSet). is_in q u ≡ true) (sym is) (or_left (is_in old u) (is_in (and_in sp m) u) k)
      back (inr (inl r)) = subst (λ (q : BitSet). is_in q u ≡ true) (sym is) (or_right (is_in old u) (is_in (and_in sp m) u) (rests r))
      back (inr (inr r)) = absurd r

-- the table of a turn
pub table-free : (s : Scope) (p m : BitSet) → m ≡ spread p → HasNoMemory s p → HasNoMemory s m
table-free s p m e none n k b h = ap (λ (q : BitSet). q n k b) e ∙ none n 0 b h

-- ---- one driver after another

module _ (all : Bool) (p : BitSet) (s : Scope) where
  rests-left : (xs ys : List pure.Statement) (u : Bit) → OneRests all p s xs u → OneRests all p s (xs ++ ys) u
  rests-left [] ys u h = absurd h
  rests-left (x ∷ xs) ys u (inl r) = inl r
  rests-left (x ∷ xs) ys u (inr h) = inr (rests-left xs ys u h)

  rests-right : (xs ys : List pure.Statement) (u : Bit) → OneRests all p s ys u → OneRests all p s (xs ++ ys) u
  rests-right [] ys u h = h
  rests-right (x ∷ xs) ys u h = inr (rests-right xs ys u h)

  rests-either : (xs ys : List pure.Statement) (u : Bit) → OneRests all p s (xs ++ ys) u → OneRests all p s xs u ⊎ OneRests all p s ys u
  rests-either [] ys u h = inr h
  rests-either (x ∷ xs) ys u (inl r) = inl (inl r)
  rests-either (x ∷ xs) ys u (inr h) =
      elim (rests-either xs ys u h) as (λ _. OneRests all p s (x ∷ xs) u ⊎ OneRests all p s ys u) [ inl k ↦ inl (inr k) | inr k ↦ inr k ]

  adds-then : (xs ys : List pure.Statement) (a b c : BitSet) → Adds all p s xs a b → Adds all p s ys b c → Adds all p s (xs ++ ys) a c
  adds-then xs ys a b c f g u = (there, back)
    where
      there : IsTrue (is_in c u) → IsTrue (is_in a u) ⊎ OneRests all p s (xs ++ ys) u
      there h =
          elim ((g u).0 h) as (λ _. IsTrue (is_in a u) ⊎ OneRests all p s (xs ++ ys) u) [
            | inl k ↦ elim ((f u).0 k) as (λ _. IsTrue (is_in a u) ⊎ OneRests all p s (xs ++ ys) u) [ inl l ↦ inl l | inr l ↦ inr (rests-left xs ys u l) ]
            | inr k ↦ inr (rests-right xs ys u k)
          ]

      back : IsTrue (is_in a u) ⊎ OneRests all p s (xs ++ ys) u → IsTrue (is_in c u)
      back (inl k) = (g u).1 (inl ((f u).1 (inl k)))
      back (inr k) =
          elim (rests-either xs ys u k) as (λ _. IsTrue (is_in c u)) [ inl l ↦ (g u).1 (inl ((f u).1 (inr l))) | inr l ↦ (g u).1 (inr l) ]

  pub adds-none : (a : BitSet) → Adds all p s [] a a
  adds-none a u = ((λ h. inl h), back)
    where
      back : IsTrue (is_in a u) ⊎ OneRests all p s [] u → IsTrue (is_in a u)
      back (inl k) = k
      back (inr k) = absurd k

  -- what is still to be added, from here to the end
  abbrev pub IsLeftToAdd : (whole rest : List pure.Statement) → (before now : BitSet) → Type 0
  IsLeftToAdd whole rest before now = (end : BitSet) → Adds all p s rest now end → Adds all p s whole before end

  pub adds-turn : (whole rest xs ys : List pure.Statement) (before a b : BitSet) → rest ≡ xs ++ ys → IsLeftToAdd whole rest before a → Adds all p s xs a b
      → IsLeftToAdd whole ys before b
  adds-turn whole rest xs ys before a b e f g end h = f end (subst (λ (zs : List pure.Statement). Adds all p s zs a end) (sym e) (adds-then xs ys a b end g h))

  pub adds-end : (whole rest : List pure.Statement) (before now : BitSet) → rest ≡ [] → IsLeftToAdd whole rest before now → Adds all p s whole before now
  adds-end whole rest before now e f = f now (subst (λ (zs : List pure.Statement). Adds all p s zs now now) (sym e) (adds-none now))

  pub adds-begun : (whole : List pure.Statement) (start : List Span) → start ≡ [] → IsLeftToAdd whole whole no_bits (bits_in start)
  adds-begun whole start e = subst (λ (ys : List Span). IsLeftToAdd whole whole no_bits (bits_in ys)) (sym e) (λ end h. h)

  -- from nothing
  pub from-none : (xs : List pure.Statement) (start a : BitSet) → ((u : Bit) → IsTrue (is_in start u) → ⊥) → Adds all p s xs start a
      → (u : Bit) → IsTrue (is_in a u) ↔ OneRests all p s xs u
  from-none xs start a nothing f u =
      ((λ h. elim ((f u).0 h) as (λ _. OneRests all p s xs u) [ inl k ↦ absurd (nothing u k) | inr k ↦ k ]), (λ h. (f u).1 (inr h)))

-- what turns tell rests on the bits of the words 0 alone
one-spread : (p q : BitSet) (s : Scope) → spread p ≡ spread q → (xs : List pure.Statement) (u : Bit) → OneRests false p s xs u → OneRests false q s xs u
one-spread p q s e [] u h = h
one-spread p q s e (x ∷ xs) u (inl r) = inl (r.0, r.1, subst (λ (z : BitSet). RestsAfter z s x u) e r.2)
one-spread p q s e (x ∷ xs) u (inr h) = inr (one-spread p q s e xs u h)

pub by-spread : (p q b : BitSet) (s : Scope) (xs : List pure.Statement) → spread p ≡ spread q → ((u : Bit) → IsTrue (is_in b u) ↔ OneRests false p s xs u)
    → (u : Bit) → IsTrue (is_in b u) ↔ OneRests false q s xs u
by-spread p q b s xs e f u = ((λ h. one-spread p q s e xs u ((f u).0 h)), (λ h. (f u).1 (one-spread q p s (sym e) xs u h)))

pub no-spans : (xs : List Span) → xs ≡ [] → (u : Bit) → IsTrue (is_in (bits_in xs) u) → ⊥
no-spans xs e u h = false≢true (subst (λ (ys : List Span). is_in (bits_in ys) u ≡ true) e h)

-- ---- bits of words 0

pub met-first : (p m : BitSet) (r : Bool) → m ≡ spread p → IsTrue r ↔ OneIsUnsettled m p → IsTrue r ↔ HasFirst p
met-first p m r e f = ((λ h. there ((subst (λ (q : BitSet). IsTrue r ↔ OneIsUnsettled q p) e f).0 h)), (λ h. (subst (λ (q : BitSet). IsTrue r ↔ OneIsUnsettled q p) e f).1 (back h)))
  where
    there : OneIsUnsettled (spread p) p → HasFirst p
    there h = (h.0.of_name, h.0.place, h.2)

    back : HasFirst p → OneIsUnsettled (spread p) p
    back h = (record { of_name = h.0; word = 0; place = h.1 }, h.2, h.2)

left-out : (a b : Bool) → a ≡ true → ((a && not b) ≡ true → ⊥) → b ≡ true
left-out true true e f = refl
left-out true false e f = absurd (f refl)
left-out false b e f = absurd (false≢true e)

pub all-there : (p q m left start : BitSet) (r : Bool) → m ≡ spread p → start ≡ no_bits → left ≡ or_in start (but_not_in q m) → IsTrue r ↔ HasFirst left
    → not r ≡ true → (n : Name) (b : ℕ) → q n 0 b ≡ true → p n 0 b ≡ true
all-there p q m left start r e none is f h n b k =
    left-out (q n 0 b) (p n 0 b) k
    (λ g. both-so r h (f.1 (
      n,
      b,
      subst (λ (z : BitSet). z n 0 b ≡ true) (sym (is ∙ ap (λ (z : BitSet). or_in z (but_not_in q m)) none))
          (subst (λ (z : BitSet). (q n 0 b && not (z n 0 b)) ≡ true) (sym e) g),
    )))
  where
    both-so : (t : Bool) → not t ≡ true → t ≡ true → ⊥
    both-so true a c = false≢true a
    both-so false a c = false≢true c

-- over the lists that calls see
pub all-of : (xs ys others more : List Span) → xs ≡ ys → others ≡ more → ((n : Name) (b : ℕ) → bits_in others n 0 b ≡ true → bits_in xs n 0 b ≡ true)
    → (n : Name) (b : ℕ) → bits_in more n 0 b ≡ true → bits_in ys n 0 b ≡ true
all-of xs ys others more e g f n b h =
    subst (λ (zs : List Span). bits_in zs n 0 b ≡ true) e (f n b (subst (λ (zs : List Span). bits_in zs n 0 b ≡ true) (sym g) h))

pub rests-of : (s : Scope) (zs : List pure.Statement) (xs ys : List Span) (q : BitSet) → xs ≡ ys → ((u : Bit) → IsTrue (is_in q u) ↔ OneRests false (bits_in xs) s zs u)
    → (u : Bit) → IsTrue (is_in q u) ↔ OneRests false (bits_in ys) s zs u
rests-of s zs xs ys q e f = subst (λ (ws : List Span). (u : Bit) → IsTrue (is_in q u) ↔ OneRests false (bits_in ws) s zs u) e f
