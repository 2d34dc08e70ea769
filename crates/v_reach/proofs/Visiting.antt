-- What a visit to a driver marks, and what it says of itself.
use Rattle.std.proofs.Common.{◌≡◌, ◌∙◌, ℕ, refl, ap, sym, subst, Bool, true, false, not, List, [], ◌∷◌, ◌⊎◌, inl, inr, Bor}
use Rattle.std.specs.Prelude.{IsTrue, ◌↔◌, ◌&&◌}
use Rattle.std.specs.BTreeMap.{BTreeMap}
use Rattle.std.proofs.lemmas.Bool.{true≢false, false≢true, false_from_ne_true, and_parts, and_from, or_cases, or_left, or_right}
use Rattle.wb_values.specs.Value.{Name}
use Rattle.verilog_trees.specs.Syntax.{Statement}
use Rattle.verilog_meaning.specs.Expression.{Scope}
use Rattle.verilog_meaning.specs.Register.{is_bit_of, may_assign}
use Rattle.verilog_unique.proofs.Descent.{IsAmong, among_contains, contains_among}
use Rattle.verilog_designs.specs.Reads.{BitSet, no_bits, or_in, and_in, but_not_in}
use Rattle.verilog_designs.specs.Drivers.{statement_reads}
use Rattle.verilog_designs.specs.Dependence.{Bit, is_in}
use Rattle.v_flow.specs.Spans.{existing}
use Rattle.v_flow.specs.Narrow.{IsNarrowFlow}
use Rattle.v_masks.specs.Masks.{masked, spread}
use Rattle.v_paths.specs.Premises.{HasNoMemory, AssignsNoMemory}
use Rattle.v_depend.specs.Resting.{IsThere, OneIsUnsettled, RestsAfter}
use Rattle.v_loops.specs.Turns.{TellsWhereAssigned, RestsBy}
use Rattle.v_loops.proofs.Steps.{RestsWhereItDepends, in-first}
use Rattle.v_reach.specs.Marking.{HasAll, IsVisited}
use Rattle.v_reach.proofs.Local.{needs, same-rests, marks-nothing}

-- what a table of the bits that the driver needs tells
pub tells : (s : Scope) (x : Statement) (p : BitSet) → RestsWhereItDepends → IsNarrowFlow s x → HasNoMemory s p → (m0 m : BitSet) → m0 ≡ spread (and_in (needs s x) p)
    → ((u : Bit) → IsThere s u → IsTrue (is_in m u) ↔ RestsAfter m0 s x u) → TellsWhereAssigned (spread p) s x m
tells s x p law narrow none m0 m start f u there a =
    let r = same-rests s x p m0 none start law narrow u there a in ((λ h. r.0 ((f u there).0 h)), (λ h. (f u there).1 (r.1 h)))

-- ---- a driver that reads no marked bit

only-one : (x y : Statement) → IsAmong (x ∷ []) y → x ≡ y
only-one x y (inl e) = e
only-one x y (inr h) = absurd h

pub unreached-visited : RestsWhereItDepends → (s : Scope) (x : Statement) (p read : BitSet) (some : Bool) → HasNoMemory s p → IsNarrowFlow s x → read ≡ statement_reads s x
    → IsTrue some ↔ OneIsUnsettled p read → some ≡ false → IsVisited false s x p p
unreached-visited law s x p read some none narrow is f e =
    record {
      more = λ n k b h. h;
      free = λ h. h;
      rests = λ u there h. inl h;
      grown = (refl, λ y u c r. marks-nothing law s x p read some none narrow is f e u (subst (λ (z : Statement). RestsBy false p s z u) (sym (only-one x y (among_contains (x ∷ []) y c))) r));
    }

is-not : (b : Bool) → not b ≡ true → b ≡ false
is-not true h = absurd (false≢true h)
is-not false h = refl

abbrev Table : Type 0
Table = BTreeMap (Bor (List ℕ)) ℕ

-- The driver's bits that rest on a marked one and are not marked, where m has the marked bits, and t tells which rest.
abbrev unmarked : Scope → Statement → (m t : Table) → BitSet
unmarked s x m t = but_not_in (and_in (existing s (may_assign s x)) (masked t)) (masked m)

pub unmarked-is : (s : Scope) (x : Statement) (m t : Table) (d found added start : BitSet) → d ≡ existing s (may_assign s x) → found ≡ and_in d (masked t) → start ≡ no_bits
    → added ≡ or_in start (but_not_in found (masked m)) → added ≡ unmarked s x m t
unmarked-is s x m t d found added start is_d is_found empty is =
    is ∙ ap (λ (z : BitSet). or_in z (but_not_in found (masked m))) empty ∙ ap (λ (z : BitSet). but_not_in z (masked m)) (is_found ∙ ap (λ (z : BitSet). and_in z (masked t)) is_d)

module _ (s : Scope) (x : Statement) (m t : Table) (plain : AssignsNoMemory s x) (f : TellsWhereAssigned (masked m) s x (masked t)) (added : BitSet) (is : added ≡ unmarked s x m t) where
  record IsUnmarked (n : Name) (k b : ℕ) : Type 0 where
    there : is_bit_of (s n) k b ≡ true
    assigned : may_assign s x n k b ≡ true
    tells_so : masked t n k b ≡ true
    is_not : masked m n k b ≡ false

  in-unmarked : (n : Name) (k b : ℕ) → unmarked s x m t n k b ≡ true → IsUnmarked n k b
  in-unmarked n k b h =
      let all = and_parts (existing s (may_assign s x) n k b && masked t n k b) (not (masked m n k b)) h in
      let both = and_parts (existing s (may_assign s x) n k b) (masked t n k b) all.0 in
      let r = and_parts (is_bit_of (s n) k b) (may_assign s x n k b) both.0 in
      record { there = r.0; assigned = r.1; tells_so = both.1; is_not = is-not (masked m n k b) all.1 }

  -- a bit of the driver is in the word 0
  in-zero : (u : Bit) → IsThere s u → (k : ℕ) → is_bit_of (s u.of_name) k u.place ≡ true → may_assign s x u.of_name k u.place ≡ true → u.word ≡ 0
  in-zero u there k h g =
      in-first s (existing s (may_assign s x)) u plain there k u.place (and_from (is_bit_of (s u.of_name) k u.place) (may_assign s x u.of_name k u.place) h g)

  -- ---- nothing is marked

  none-left : (q : Table) (some : Bool) → masked q ≡ spread added → IsTrue some ↔ OneIsUnsettled (masked q) added → some ≡ false → (u : Bit) → RestsBy false (masked m) s x u
      → IsTrue (is_in (masked m) u)
  none-left q some is_q g e u r = by (is_in (masked m) u) refl
    where
      own : is_in (masked m) u ≡ false → is_in (unmarked s x m t) u ≡ true
      own k =
          and_from (is_in (and_in (existing s (may_assign s x)) (masked t)) u) (not (is_in (masked m) u))
          (and_from (is_in (existing s (may_assign s x)) u) (is_in (masked t) u)
          (and_from (is_bit_of (s u.of_name) u.word u.place) (may_assign s x u.of_name u.word u.place) r.0 r.1) ((f u r.0 r.1).1 r.2))
          (ap not k)

      there : is_in (masked m) u ≡ false → is_in added u ≡ true
      there k = subst (λ (z : BitSet). is_in z u ≡ true) (sym is) (own k)

      by : (b : Bool) → is_in (masked m) u ≡ b → is_in (masked m) u ≡ true
      by true h = h
      by false h =
          let first = subst (λ (w : ℕ). added u.of_name w u.place ≡ true) (in-zero u r.0 u.word r.0 r.1) (there h) in
          absurd (true≢false (sym (g.1 (u, there h, subst (λ (z : BitSet). is_in z u ≡ true) (sym is_q) first)) ∙ e))

  last-one : (y : Statement) → IsAmong (x ∷ []) y → x ≡ y
  last-one y (inl e) = e
  last-one y (inr h) = absurd h

  pub nothing-visited : (q : Table) (some : Bool) → masked q ≡ spread added → IsTrue some ↔ OneIsUnsettled (masked q) added → some ≡ false
      → IsVisited false s x (masked m) (masked m)
  nothing-visited q some is_q g e =
      record {
        more = λ n k b h. h;
        free = λ h. h;
        rests = λ u there h. inl h;
        grown = (refl, λ y u c r. none-left q some is_q g e u (subst (λ (z : Statement). RestsBy false (masked m) s z u) (sym (last-one y (among_contains (x ∷ []) y c))) r));
      }

  -- ---- something is marked

  module _ (after : BitSet) (is_after : after ≡ or_in (masked m) (spread added)) where
    rests : (u : Bit) → IsThere s u → unmarked s x m t u.of_name 0 u.place ≡ true → RestsBy false (masked m) s x u
    rests u there h =
        let o = in-unmarked u.of_name 0 u.place h in
        let may = subst (λ (w : ℕ). may_assign s x u.of_name w u.place ≡ true) (sym (in-zero u there 0 o.there o.assigned)) o.assigned in
        (there, may, (f u there may).0 o.tells_so)

    cases : (n : Name) (k b : ℕ) → after n k b ≡ true → (masked m n k b ≡ true) ⊎ (unmarked s x m t n 0 b ≡ true)
    cases n k b h =
        or_cases (masked m n k b) (unmarked s x m t n 0 b)
        (subst (λ (z : BitSet). z n k b ≡ true) (is_after ∙ ap (λ (z : BitSet). or_in (masked m) (spread z)) is) h)

    rests-now : (u : Bit) → IsThere s u → IsTrue (is_in after u) → IsTrue (is_in (masked m) u) ⊎ RestsBy false (masked m) s x u
    rests-now u there h =
        elim (cases u.of_name u.word u.place h) as (λ _. IsTrue (is_in (masked m) u) ⊎ RestsBy false (masked m) s x u) [ inl k ↦ inl k | inr k ↦ inr (rests u there k) ]

    free : HasNoMemory s (masked m) → HasNoMemory s after
    free none n k b memory = false_from_ne_true (after n k b) (λ h. at (cases n k b h))
      where
        at : (masked m n k b ≡ true) ⊎ (unmarked s x m t n 0 b ≡ true) → ⊥
        at (inl h) = true≢false (sym h ∙ none n k b memory)
        at (inr h) =
            let o = in-unmarked n 0 b h in
            true≢false (sym (and_from (is_bit_of (s n) 0 b) (may_assign s x n 0 b) o.there o.assigned) ∙ plain n 0 b memory)

    has-more : HasAll (masked m) after
    has-more n k b h = subst (λ (z : BitSet). z n k b ≡ true) (sym is_after) (or_left (masked m n k b) (added n 0 b) h)

    pub something-visited : (q : Table) (some : Bool) → masked q ≡ spread added → IsTrue some ↔ OneIsUnsettled (masked q) added → some ≡ true
        → IsVisited true s x (masked m) after
    something-visited q some is_q g e =
        let r = g.0 e in
        let o = in-unmarked r.0.of_name r.0.word r.0.place (subst (λ (z : BitSet). is_in z r.0 ≡ true) is r.1) in
        let first = subst (λ (z : BitSet). is_in z r.0 ≡ true) is_q r.2 in
        record {
          more = has-more;
          free = free;
          rests = rests-now;
          grown = record {
            driver = x;
            stands = contains_among (x ∷ []) x (inl refl);
            bit = r.0;
            there = o.there;
            assigned = o.assigned;
            marked = subst (λ (z : BitSet). is_in z r.0 ≡ true) (sym is_after) (or_right (is_in (masked m) r.0) (added r.0.of_name 0 r.0.place) first);
            was_not = o.is_not;
          };
        }
