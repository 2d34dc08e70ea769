-- Drivers that the code comes to one after the other, and spans of which a table has all bits.
use Rattle.std.proofs.Common.{◌≡◌, ◌∙◌, ◌+◌, ◌<◌, ◌≤◌, ℕ, zero, suc, refl, ap, sym, subst, Bool, true, false, List, [], ◌∷◌, ◌++◌, Contains, Option, Some, Bor, drop, length, get_or, arith, ◌⊎◌, inl, inr}
use Rattle.std.specs.Prelude.{◌||◌, ◌&&◌, ◌==◌, not, MatchOption}
use Rattle.std.specs.List.{HoldsAt}
use Rattle.std.proofs.lemmas.Bool.{false≢true, or_cases, and_parts}
use Rattle.std.proofs.lemmas.Bool.Decides.{nat_tests}
use Rattle.std.proofs.lemmas.Slice.Eq.{bytes_eq-Decides}
use Rattle.std.proofs.lemmas.List.{drop_more}
use Rattle.wb_values.specs.Value.{Name, same_name}
use Rattle.verilog_trees.specs.Syntax.{Expression, Target, Statement, Item}
use Rattle.verilog_meaning.specs.Expression.{Scope}
use Rattle.verilog_meaning.specs.Register.{is_set, combinational_blocks}
use Rattle.verilog_meaning.specs.Settled.{assignments}
use Rattle.verilog_unique.proofs.Descent.{IsAmong, among_either, contains_among, among_contains}
use Rattle.verilog_designs.specs.Reads.{BitSet}
use Rattle.v_drivers.proofs.Driving.{links-of-items, combinational-of-items}
use Rattle.v_flow.specs.declared.span.Span.{Span}
use Rattle.v_flow.specs.Spans.{is_between, bits_of, bits_in}
use Rattle.v_masks.proofs.Bits.{set-none}
use Rattle.v_order.specs.declared.driver.Driver.{Driver}
use Rattle.v_order.specs.Drivers.{Driving, all_links, all_blocks, drivings}
use Rattle.v_order.specs.Lists.{driving_in, drivings_in}
use Rattle.v_settle.specs.Drivers.{AreSoundLinks, IsSoundDriving, AreSoundDrivings}
use Rattle.v_settle.specs.OneModule.{AreSound}
use Rattle.v_settle.specs.Turns.{State, IsOpen, IsVisited, AreVisited, HasVisits}
use Rattle.v_settle.proofs.Listed.{Links}
use Rattle.v_settle.proofs.Rounds.{are-open, one-visited, visited-then, none-visited}

-- ---- lists that are walked

-- Of all drivers the rest is still to come.
abbrev pub IsLeftToVisit : Scope → (whole rest : List Statement) → (start now : State) → Type 0
IsLeftToVisit s whole rest start now = (last : State) → AreVisited s rest now last → AreVisited s whole start last

pub visits-turn : (s : Scope) (whole rest xs ys : List Statement) (start a b : State) → rest ≡ xs ++ ys → IsLeftToVisit s whole rest start a → AreVisited s xs a b
    → IsLeftToVisit s whole ys start b
visits-turn s whole rest xs ys start a b e f g last h = f last (subst (λ (zs : List Statement). AreVisited s zs a last) (sym e) (visited-then s xs ys a b last g h))

pub visits-end : (s : Scope) (whole rest : List Statement) (start now : State) → rest ≡ [] → IsLeftToVisit s whole rest start now → AreVisited s whole start now
visits-end s whole rest start now e f = f now (subst (λ (zs : List Statement). AreVisited s zs now now) (sym e) (none-visited s now))

-- ---- drivers in any order

pub none-visits : (s : Scope) (xs : List Statement) (a : State) → HasVisits s xs a a
none-visits s xs a = ([], (λ x c. absurd (contains_among-none x c)), none-visited s a)
  where
    contains_among-none : (x : Statement) → Contains [] x → ⊥
    contains_among-none x c = among_contains [] x c

pub one-visit : (s : Scope) (xs : List Statement) (x : Statement) (a b : State) → IsAmong xs x → IsVisited s x a b → HasVisits s xs a b
one-visit s xs x a b among v = (x ∷ [], (λ y c. at y (among_contains (x ∷ []) y c)), one-visited s x a b v)
  where
    at : (y : Statement) → IsAmong (x ∷ []) y → Contains xs y
    at y (inl e) = subst (Contains xs) e (contains_among xs x among)
    at y (inr h) = absurd h

pub visits-then : (s : Scope) (xs : List Statement) (a b c : State) → HasVisits s xs a b → HasVisits s xs b c → HasVisits s xs a c
visits-then s xs a b c f g = (f.0 ++ g.0, (λ x h. at x (among_either f.0 g.0 x (among_contains (f.0 ++ g.0) x h))), visited-then s f.0 g.0 a b c f.2 g.2)
  where
    at : (x : Statement) → IsAmong f.0 x ⊎ IsAmong g.0 x → Contains xs x
    at x (inl h) = f.1 x (contains_among f.0 x h)
    at x (inr h) = g.1 x (contains_among g.0 x h)

pub visits-open : (s : Scope) (xs : List Statement) (a b : State) → IsOpen s a → HasVisits s xs a b → IsOpen s b
visits-open s xs a b o h = are-open s h.0 a b o h.2

pub visits-same : (s : Scope) (xs ys : List Statement) (a b : State) → xs ≡ ys → AreVisited s xs a b → AreVisited s ys a b
visits-same s xs ys a b e h = subst (λ (zs : List Statement). AreVisited s zs a b) e h

-- ---- what is asked of each

pub sound-turn : (s : Scope) (ds : List Driver) (i : ℕ) (r : Driver) → drop i ds ≡ r ∷ drop (i + 1) ds → AreSoundDrivings s (drivings_in (drop i ds))
    → IsSoundDriving s (driving_in r) × AreSoundDrivings s (drivings_in (drop (i + 1) ds))
sound-turn s ds i r e h = subst (λ (xs : List Driver). AreSoundDrivings s (drivings_in xs)) e h

sound-at : (s : Scope) (ds : List Driver) (j : ℕ) (d : Driver) → j < length ds → AreSoundDrivings s (drivings_in ds) → IsSoundDriving s (driving_in (get_or ds j d))
sound-at s [] j d l h = absurd (omega (arith, l))
sound-at s (x ∷ ds) zero d l h = h.0
sound-at s (x ∷ ds) (suc j) d l h = sound-at s ds j d (omega (arith, l)) h.1

pub sound-got : (s : Scope) (ds : List Driver) (j : ℕ) (o : Option (Bor Driver)) (x : Bor Driver) → o ≡ Some x
    → MatchOption o (length ds ≤ j) (λ y. (j < length ds) × HoldsAt (λ z. y.now ≡ z) ds j) → AreSoundDrivings s (drivings_in ds) → IsSoundDriving s (driving_in x.now)
sound-got s ds j o x e m h = at (subst (λ (q : Option (Bor Driver)). MatchOption q (length ds ≤ j) (λ y. (j < length ds) × HoldsAt (λ z. y.now ≡ z) ds j)) e m)
  where
    at : (j < length ds) × HoldsAt (λ z. x.now ≡ z) ds j → IsSoundDriving s (driving_in x.now)
    at g = subst (λ (z : Driver). IsSoundDriving s (driving_in z)) (sym (g.1 x.now)) (sound-at s ds j x.now g.0 h)

links-both : (s : Scope) (xs ys : Links) → AreSoundLinks s (xs ++ ys) → AreSoundLinks s xs × AreSoundLinks s ys
links-both s [] ys h = (tt, h)
links-both s (x ∷ xs) ys h = let r = links-both s xs ys h.1 in ((h.0, r.0), r.1)

blocks-both : (s : Scope) (xs ys : List Statement) → AreSound s (xs ++ ys) → AreSound s xs × AreSound s ys
blocks-both s [] ys h = (tt, h)
blocks-both s (x ∷ xs) ys h = let r = blocks-both s xs ys h.1 in ((h.0, r.0), r.1)

both-sound : (s : Scope) (xs ys : List Driving) → AreSoundDrivings s xs → AreSoundDrivings s ys → AreSoundDrivings s (xs ++ ys)
both-sound s [] ys f g = g
both-sound s (x ∷ xs) ys f g = (f.0, both-sound s xs ys f.1 g)

links-sound : (s : Scope) (xs : Links) → AreSoundLinks s xs → AreSoundDrivings s (all_links xs)
links-sound s [] h = tt
links-sound s (x ∷ xs) h = (h.0, links-sound s xs h.1)

blocks-sound : (s : Scope) (xs : List Statement) → AreSound s xs → AreSoundDrivings s (all_blocks xs)
blocks-sound s [] h = tt
blocks-sound s (x ∷ xs) h = (h.0, blocks-sound s xs h.1)

pub sound-drivings : (s : Scope) (items : List Item) → AreSoundLinks s (assignments items) → AreSound s (combinational_blocks items) → AreSoundDrivings s (drivings items)
sound-drivings s [] l b = tt
sound-drivings s (i ∷ items) l b =
    let f = links-both s (assignments (i ∷ [])) (assignments items) (subst (AreSoundLinks s) (links-of-items i items) l) in
    let g = blocks-both s (combinational_blocks (i ∷ [])) (combinational_blocks items) (subst (AreSound s) (combinational-of-items i items) b) in
    both-sound s (all_links (assignments (i ∷ []))) (all_blocks (combinational_blocks (i ∷ [])) ++ drivings items) (links-sound s (assignments (i ∷ [])) f.0)
    (both-sound s (all_blocks (combinational_blocks (i ∷ []))) (drivings items) (blocks-sound s (combinational_blocks (i ∷ [])) g.0) (sound-drivings s items f.1 g.1))

-- ---- spans that have no more

zero-from : (w : ℕ) → not (w == 0) ≡ false → w ≡ 0
zero-from w h = grind (arith, nat_tests, h)

covered : (p q : Bool) → p ≡ true → (p && not q) ≡ false → q ≡ true
covered p true h g = refl
covered true false h g = absurd (false≢true (sym g))
covered false false h g = absurd (false≢true h)

pub span-covered : (x : Span) (f : Name → ℕ) (m w : ℕ) → m ≡ f x.name.now → ((b : ℕ) → is_set w b ≡ (is_set x.bits b && not (is_set m b))) → not (w == 0) ≡ false
    → (n : Name) (k b : ℕ) → bits_of x n k b ≡ true → is_set (f n) b ≡ true
span-covered x f m w is_m is_w none n k b h =
    let both = and_parts (same_name x.name.now n) (is_between x.from_word x.to_word k && is_set x.bits b) h in
    let same = (bytes_eq-Decides x.name.now n).0 both.0 in
    let bit = (and_parts (is_between x.from_word x.to_word k) (is_set x.bits b) both.1).1 in
    let empty : (is_set x.bits b && not (is_set m b)) ≡ false = sym (is_w b) ∙ ap (λ z. is_set z b) (zero-from w none) ∙ set-none b in
    subst (λ (q : Name). is_set (f q) b ≡ true) same (ap (λ z. is_set z b) (sym is_m) ∙ covered (is_set x.bits b) (is_set m b) bit empty)

pub spans-turn : (xs : List Span) (i : ℕ) (d : Span) (q : BitSet) → i < length xs
    → ((n : Name) (k b : ℕ) → bits_of (get_or xs i d) n k b ≡ true → q n k b ≡ true)
    → (((n : Name) (k b : ℕ) → bits_in (drop i xs) n k b ≡ true → q n k b ≡ true) → (n : Name) (k b : ℕ) → bits_in xs n k b ≡ true → q n k b ≡ true)
    → ((n : Name) (k b : ℕ) → bits_in (drop (i + 1) xs) n k b ≡ true → q n k b ≡ true) → (n : Name) (k b : ℕ) → bits_in xs n k b ≡ true → q n k b ≡ true
spans-turn xs i d q l here all later =
    all (λ n k b h. at n k b (or_cases (bits_of (get_or xs i d) n k b) (bits_in (drop (i + 1) xs) n k b) (subst (λ (ys : List Span). bits_in ys n k b ≡ true) (drop_more xs i d l) h)))
  where
    at : (n : Name) (k b : ℕ) → (bits_of (get_or xs i d) n k b ≡ true) ⊎ (bits_in (drop (i + 1) xs) n k b ≡ true) → q n k b ≡ true
    at n k b (inl h) = here n k b h
    at n k b (inr h) = later n k b h

pub spans-end : (rest : List Span) (q : BitSet) (A : Type 0) → rest ≡ [] → (((n : Name) (k b : ℕ) → bits_in rest n k b ≡ true → q n k b ≡ true) → A) → A
spans-end rest q A e f = f (λ n k b h. absurd (false≢true (subst (λ (ys : List Span). bits_in ys n k b ≡ true) e h)))
