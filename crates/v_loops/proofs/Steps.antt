-- What one turn leaves: the bits that depend on an unsettled one.
use Rattle.std.proofs.Common.{◌≡◌, ◌∙◌, ℕ, zero, suc, refl, ap, sym, subst, arith, Bool, true, false, not, List, [], ◌∷◌, inl, inr, Option, Some, None, is_some}
use Rattle.std.specs.Prelude.{IsTrue, ◌↔◌, ◌&&◌, ◌||◌, nat_lt, is_none}
use Rattle.std.proofs.lemmas.Bool.{true≢false, false≢true, and_parts, and_from, false_from_ne_true}
use Rattle.std.proofs.lemmas.Bool.Decides.{nat_tests}
use Rattle.wb_values.specs.Value.{same_name}
use Rattle.verilog_trees.specs.Syntax.{Expression, number, name, concatenation, replication, as_signed, as_unsigned, unary, reduction, binary, shift, power, comparison, logical, conditional, Expressions, no_expressions, expression, Select, index, part, part_up, part_down, Selects, whole, one, two, Target, place, joined, Targets, no_targets, target, Statement, blocking, Item}
use Rattle.verilog_meaning.specs.Expression.{Scope, is_memory}
use Rattle.verilog_meaning.specs.Register.{is_constant, are_constant, select_is_constant, selects_are_constant, may_mean, may_reach, may_reach_one, may_assign, combinational_blocks, words_between, is_bit_of}
use Rattle.verilog_meaning.specs.Settled.{assignments}
use Rattle.verilog_settled.specs.Locality.{has_constant_selects, all_have_constant_selects}
use Rattle.verilog_settled.proofs.Assigned.{takes_reach}
use Rattle.verilog_unique.proofs.Descent.{IsAmong, contains_among, among_contains}
use Rattle.verilog_unique.proofs.Reading.{after_block}
use Rattle.verilog_designs.specs.Reads.{BitSet, no_bits, or_in, name_reads, reads, reads_in_all, select_reads, selects_read, surely_reaches, one_surely_reaches}
use Rattle.verilog_designs.specs.Dependence.{Bit, is_in, index_reads, one_index_reads, IsGivenBy, copied_to, computed, at_start, AfterAssignment, kept, given, indexed, After}
use Rattle.v_flow.specs.Spans.{existing}
use Rattle.v_masks.specs.Masks.{spread}
use Rattle.v_paths.specs.Premises.{HasNoMemory}
use Rattle.v_depend.specs.Resting.{IsThere, RestsAfter}
use Rattle.v_depend.specs.Running.{IsFit}
use Rattle.v_order.specs.Drivers.{as_statements}
use Rattle.v_loops.specs.OneModule.{DependsIn}
use Rattle.v_loops.specs.Turns.{AreFitToRun, HaveConstantSelects, RestsBy, OneRests, RestsInTurn, Stage}

-- ---- constants read nothing

neither : (p q : Bool) → (p ≡ true → ⊥) → (q ≡ true → ⊥) → (p || q) ≡ true → ⊥
neither true q f g h = f refl
neither false q f g h = g h

no-parameter : (o : Option ℕ) (p : Bool) → is_some o ≡ true → (is_none o && p) ≡ true → ⊥
no-parameter (Some c) p h g = false≢true g
no-parameter None p h g = false≢true h

mutual
  nothing-read : (s : Scope) (e : Expression) (y : Bit) → is_constant s e ≡ true → is_in (reads s e) y ≡ true → ⊥
  nothing-read s (number k) y h g = false≢true g
  nothing-read s (name n x) y h g =
      let both = and_parts (is_some (s n).constant) (selects_are_constant s x) h in
      neither (is_in (name_reads s n x) y) (is_in (selects_read s x) y)
      (λ e. no-parameter (s n).constant _ both.0 (and_parts (same_name n y.of_name) _ e).1) (nothing-selected s x y both.1) g
  nothing-read s (concatenation es) y h g = nothing-read-in s es y h g
  nothing-read s (replication k es) y h g = nothing-read-in s es y h g
  nothing-read s (as_signed x) y h g = nothing-read s x y h g
  nothing-read s (as_unsigned x) y h g = nothing-read s x y h g
  nothing-read s (unary op x) y h g = nothing-read s x y h g
  nothing-read s (reduction op x) y h g = nothing-read s x y h g
  nothing-read s (binary op a b) y h g =
      let both = and_parts (is_constant s a) (is_constant s b) h in
      neither (is_in (reads s a) y) (is_in (reads s b) y) (nothing-read s a y both.0) (nothing-read s b y both.1) g
  nothing-read s (shift op a b) y h g =
      let both = and_parts (is_constant s a) (is_constant s b) h in
      neither (is_in (reads s a) y) (is_in (reads s b) y) (nothing-read s a y both.0) (nothing-read s b y both.1) g
  nothing-read s (power a b) y h g =
      let both = and_parts (is_constant s a) (is_constant s b) h in
      neither (is_in (reads s a) y) (is_in (reads s b) y) (nothing-read s a y both.0) (nothing-read s b y both.1) g
  nothing-read s (comparison op a b) y h g =
      let both = and_parts (is_constant s a) (is_constant s b) h in
      neither (is_in (reads s a) y) (is_in (reads s b) y) (nothing-read s a y both.0) (nothing-read s b y both.1) g
  nothing-read s (logical op a b) y h g =
      let both = and_parts (is_constant s a) (is_constant s b) h in
      neither (is_in (reads s a) y) (is_in (reads s b) y) (nothing-read s a y both.0) (nothing-read s b y both.1) g
  nothing-read s (conditional c a b) y h g =
      let all = and_parts (is_constant s c) (is_constant s a && is_constant s b) h in
      let both = and_parts (is_constant s a) (is_constant s b) all.1 in
      neither (is_in (reads s c) y) (is_in (or_in (reads s a) (reads s b)) y) (nothing-read s c y all.0)
      (neither (is_in (reads s a) y) (is_in (reads s b) y) (nothing-read s a y both.0) (nothing-read s b y both.1)) g

  nothing-read-in : (s : Scope) (es : Expressions) (y : Bit) → are_constant s es ≡ true → is_in (reads_in_all s es) y ≡ true → ⊥
  nothing-read-in s no_expressions y h g = false≢true g
  nothing-read-in s (expression e es) y h g =
      let both = and_parts (is_constant s e) (are_constant s es) h in
      neither (is_in (reads s e) y) (is_in (reads_in_all s es) y) (nothing-read s e y both.0) (nothing-read-in s es y both.1) g

  nothing-by : (s : Scope) (x : Select) (y : Bit) → select_is_constant s x ≡ true → is_in (select_reads s x) y ≡ true → ⊥
  nothing-by s (index i) y h g = nothing-read s i y h g
  nothing-by s (part l r) y h g = false≢true g
  nothing-by s (part_up b w) y h g = nothing-read s b y h g
  nothing-by s (part_down b w) y h g = nothing-read s b y h g

  nothing-selected : (s : Scope) (x : Selects) (y : Bit) → selects_are_constant s x ≡ true → is_in (selects_read s x) y ≡ true → ⊥
  nothing-selected s whole y h g = false≢true g
  nothing-selected s (one x) y h g = nothing-by s x y h g
  nothing-selected s (two a b) y h g =
      let both = and_parts (select_is_constant s a) (select_is_constant s b) h in
      neither (is_in (select_reads s a) y) (is_in (select_reads s b) y) (nothing-by s a y both.0) (nothing-by s b y both.1) g

-- ---- targets with constant selects

surely : (a b c : Bool) → b ≡ true → (a && c) ≡ true → (a && (b && c)) ≡ true
surely true true c h g = g
surely false b c h g = absurd (false≢true g)
surely true false c h g = absurd (false≢true h)

either-so : (p q r t : Bool) → (p ≡ true → r ≡ true) → (q ≡ true → t ≡ true) → (p || q) ≡ true → (r || t) ≡ true
either-so p q true t f g h = refl
either-so true q false t f g h = absurd (false≢true (f refl))
either-so false q false t f g h = g h

mutual
  sure : (s : Scope) (t : Target) (u : Bit) → has_constant_selects s t ≡ true → may_reach s t u.of_name u.word u.place ≡ true → is_in (surely_reaches s t) u ≡ true
  sure s (place n x) u h g = surely (same_name n u.of_name) (selects_are_constant s x) (may_mean s (s n) x u.word u.place) h g
  sure s (joined ts) u h g = one-sure s ts u h g

  one-sure : (s : Scope) (ts : Targets) (u : Bit) → all_have_constant_selects s ts ≡ true → may_reach_one s ts u.of_name u.word u.place ≡ true → is_in (one_surely_reaches s ts) u ≡ true
  one-sure s no_targets u h g = absurd (false≢true g)
  one-sure s (target t ts) u h g =
      let both = and_parts (has_constant_selects s t) (all_have_constant_selects s ts) h in
      either-so (may_reach s t u.of_name u.word u.place) (may_reach_one s ts u.of_name u.word u.place) (is_in (surely_reaches s t) u) (is_in (one_surely_reaches s ts) u)
      (sure s t u both.0) (one-sure s ts u both.1) g

mutual
  no-index : (s : Scope) (t : Target) (u y : Bit) → has_constant_selects s t ≡ true → is_in (index_reads s t u) y ≡ true → ⊥
  no-index s (place n x) u y h g = nothing-selected s x y h (and_parts (may_reach s (place n x) u.of_name u.word u.place) _ g).1
  no-index s (joined ts) u y h g = no-indexes s ts u y h g

  no-indexes : (s : Scope) (ts : Targets) (u y : Bit) → all_have_constant_selects s ts ≡ true → is_in (one_index_reads s ts u) y ≡ true → ⊥
  no-indexes s no_targets u y h g = false≢true g
  no-indexes s (target t ts) u y h g =
      let both = and_parts (has_constant_selects s t) (all_have_constant_selects s ts) h in
      neither (is_in (index_reads s t u) y) (not (is_in (surely_reaches s t) u) && is_in (one_index_reads s ts u) y) (no-index s t u y both.0)
      (λ e. no-indexes s ts u y both.1 (and_parts (not (is_in (surely_reaches s t) u)) (is_in (one_index_reads s ts u) y) e).1) g

both-ways : (b : Bool) → not b ≡ true → b ≡ true → ⊥
both-ways true h g = false≢true h
both-ways false h g = false≢true g

-- what an assignment with constant selects gives
pub only-given : (s : Scope) (t : Target) (e : Expression) (u y : Bit) → has_constant_selects s t ≡ true → may_reach s t u.of_name u.word u.place ≡ true
    → AfterAssignment s at_start t e u y → IsGivenBy s t s e u y
only-given s t e u y h m (kept n g) = absurd (both-ways (is_in (surely_reaches s t) u) n (sure s t u h m))
only-given s t e u y h m (given x i g) = subst (λ (z : Bit). IsGivenBy s t s e u z) g i
only-given s t e u y h m (indexed g) = absurd (no-index s t u g.0 h g.1)

pub given-reached : (s : Scope) (t : Target) (e : Expression) (u y : Bit) → IsGivenBy s t s e u y → IsTrue (may_reach s t u.of_name u.word u.place)
given-reached s t e u y (copied_to j p l k c) = takes_reach s t u j k
given-reached s t e u y (computed p r h) = r

-- ---- lists of drivers

pub one-here : (all : Bool) (p : BitSet) (s : Scope) (xs : List Statement) (x : Statement) (u : Bit) → IsAmong xs x → RestsBy all p s x u → OneRests all p s xs u
one-here all p s [] x u h r = absurd h
one-here all p s (y ∷ xs) x u (inl e) r = inl (subst (λ (z : Statement). RestsBy all p s z u) (sym e) r)
one-here all p s (y ∷ xs) x u (inr h) r = inr (one-here all p s xs x u h r)

pub one-there : (all : Bool) (p : BitSet) (s : Scope) (xs : List Statement) (u : Bit) → OneRests all p s xs u → (x : Statement) × IsAmong xs x × RestsBy all p s x u
one-there all p s [] u h = absurd h
one-there all p s (x ∷ xs) u (inl r) = (x, inl refl, r)
one-there all p s (x ∷ xs) u (inr h) = let o = one-there all p s xs u h in (o.0, inr o.1, o.2)

abbrev Links : Type 0
Links = List (Target × Expression)

pub as-statement : (links : Links) (a : Target × Expression) → IsAmong links a → IsAmong (as_statements links) (blocking a.0 a.1)
as-statement [] a h = absurd h
as-statement (b ∷ links) a (inl e) = inl (ap (λ (z : Target × Expression). blocking z.0 z.1) e)
as-statement (b ∷ links) a (inr h) = inr (as-statement links a h)

record IsLink (s : Scope) (links : Links) (x : Statement) : Type 0 where
  pub link : Target × Expression
  pub stands : IsAmong links link
  pub is_it : blocking link.0 link.1 ≡ x
  pub constant : IsTrue (has_constant_selects s link.0)

as-link : (s : Scope) (links : Links) (x : Statement) → HaveConstantSelects s links → IsAmong (as_statements links) x → IsLink s links x
as-link s [] x c h = absurd h
as-link s (a ∷ links) x c (inl e) = record { link = a; stands = inl refl; is_it = e; constant = c.0 }
as-link s (a ∷ links) x c (inr h) =
    let r = as-link s links x c.1 h in record { link = r.link; stands = inr r.stands; is_it = r.is_it; constant = r.constant }

-- ---- bits that are there

pub after-there : (s : Scope) (x : Statement) (u y : Bit) → IsThere s u → After s at_start x u y → IsThere s y
after-there s x u y h a = after_block s (IsThere s) x u y (λ z n. n.is_bit) h a

pub from-there : (s : Scope) (items : List Item) (u y : Bit) → DependsIn s items u y → IsThere s u
from-there s items _ _ (DependsIn.by_assignment a u y c h g) = h
from-there s items _ _ (DependsIn.by_block x u y c h m a) = h

pub to-there : (s : Scope) (items : List Item) (u y : Bit) → DependsIn s items u y → IsThere s y
to-there s items _ _ (DependsIn.by_assignment a u y c h g) = after-there s (blocking a.0 a.1) u y h (given y g refl)
to-there s items _ _ (DependsIn.by_block x u y c h m a) = after-there s x u y h a

pub turn-there : (all : Bool) (p : BitSet) (s : Scope) (items : List Item) (u : Bit) → RestsInTurn all p s items u → IsThere s u
turn-there all p s items u (inl h) = (one-there all p s (as_statements (assignments items)) u h).2.0
turn-there all p s items u (inr h) = (one-there all p s (combinational_blocks items) u h).2.0

pub stage-there : (s : Scope) (items : List Item) (k : ℕ) (u : Bit) → Stage s items k u → IsThere s u
stage-there s items zero u h = turn-there true no_bits s items u h
stage-there s items (suc k) u h = from-there s items u h.0 h.1

-- a bit that depends on one is driven
pub depends-driven : (s : Scope) (items : List Item) (u y : Bit) → DependsIn s items u y → Stage s items 0 u
depends-driven s items _ _ (DependsIn.by_assignment a u y c h g) =
    inl (one-here true no_bits s (as_statements (assignments items)) (blocking a.0 a.1) u
    (as-statement (assignments items) a (among_contains (assignments items) a c)) (h, given-reached s a.0 a.1 u y g, tt))
depends-driven s items _ _ (DependsIn.by_block x u y c h m a) =
    inr (one-here true no_bits s (combinational_blocks items) x u (among_contains (combinational_blocks items) x c) (h, m, tt))

pub stage-driven : (s : Scope) (items : List Item) (k : ℕ) (u : Bit) → Stage s items k u → Stage s items 0 u
stage-driven s items zero u h = h
stage-driven s items (suc k) u h = depends-driven s items u h.0 h.1

-- ---- words

one-word : (a : Option (ℕ × ℕ)) (k : ℕ) → (is_some a ≡ true → ⊥) → nat_lt k (words_between a) ≡ true → k ≡ 0
one-word None k f h = grind (arith, nat_tests)
one-word (Some r) k f h = absurd (f refl)

-- a bit of a name that has some bit in the set is in the word 0
pub in-first : (s : Scope) (p : BitSet) (y : Bit) → HasNoMemory s p → IsThere s y → (k b : ℕ) → p y.of_name k b ≡ true → y.word ≡ 0
in-first s p y none h k b g =
    one-word (s y.of_name).addresses y.word (λ m. true≢false (sym g ∙ none y.of_name k b m)) (and_parts (nat_lt y.word (words_between (s y.of_name).addresses)) _ h).0

pub spread-there : (s : Scope) (p : BitSet) (y : Bit) → HasNoMemory s p → IsThere s y → is_in (spread p) y ≡ true → is_in p y ≡ true
spread-there s p y none h g = subst (λ k. p y.of_name k y.place ≡ true) (sym (in-first s p y none h 0 y.place g)) g

pub there-spread : (s : Scope) (p : BitSet) (y : Bit) → HasNoMemory s p → IsThere s y → is_in p y ≡ true → is_in (spread p) y ≡ true
there-spread s p y none h g = subst (λ k. p y.of_name k y.place ≡ true) (in-first s p y none h y.word y.place g) g

-- no memory is among the bits of tables
pub spread-free : (s : Scope) (p : BitSet) → HasNoMemory s p → HasNoMemory s (existing s (spread p))
spread-free s p none n k b m = ap (λ t. is_bit_of (s n) k b && t) (none n 0 b m) ∙ and-false (is_bit_of (s n) k b)
  where
    and-false : (t : Bool) → (t && false) ≡ false
    and-false true = refl
    and-false false = refl

-- ---- one turn

abbrev pub RestsWhereItDepends : Type 0
RestsWhereItDepends =
    (unsettled : BitSet) (s : Scope) (x : Statement) (u : Bit) → IsThere s u
    → RestsAfter unsettled s x u ↔ (y : Bit) × IsTrue (is_in unsettled y) × After s at_start x u y

abbrev pub OnUnsettled : Scope → List Item → BitSet → Bit → Type 0
OnUnsettled s items p u = (y : Bit) × DependsIn s items u y × IsTrue (is_in p y)

module _ (law : RestsWhereItDepends) (s : Scope) (items : List Item) (p : BitSet) (constant : HaveConstantSelects s (assignments items)) (none : HasNoMemory s p) where
  pub turn-depends : (u : Bit) → RestsInTurn false p s items u → OnUnsettled s items p u
  turn-depends u (inl h) =
      let o = one-there false p s (as_statements (assignments items)) u h in
      let l = as-link s (assignments items) o.0 constant o.1 in
      let r = (law (spread p) s o.0 u o.2.0).0 o.2.2 in
      let there = after-there s o.0 u r.0 o.2.0 r.2 in
      let m = subst (λ (z : Statement). IsTrue (may_assign s z u.of_name u.word u.place)) (sym l.is_it) o.2.1 in
      let a = subst (λ (z : Statement). After s at_start z u r.0) (sym l.is_it) r.2 in (
        r.0,
        DependsIn.by_assignment l.link u r.0 (contains_among (assignments items) l.link l.stands) o.2.0 (only-given s l.link.0 l.link.1 u r.0 l.constant m a),
        spread-there s p r.0 none there r.1,
      )
  turn-depends u (inr h) =
      let o = one-there false p s (combinational_blocks items) u h in
      let r = (law (spread p) s o.0 u o.2.0).0 o.2.2 in
      let there = after-there s o.0 u r.0 o.2.0 r.2 in (
        r.0,
        DependsIn.by_block o.0 u r.0 (contains_among (combinational_blocks items) o.0 o.1) o.2.0 o.2.1 r.2,
        spread-there s p r.0 none there r.1,
      )

  pub depends-turn : (u y : Bit) → DependsIn s items u y → IsTrue (is_in p y) → RestsInTurn false p s items u
  depends-turn _ _ (DependsIn.by_assignment a u y c h g) k =
      let r = (law (spread p) s (blocking a.0 a.1) u h).1 (y, there-spread s p y none (after-there s (blocking a.0 a.1) u y h (given y g refl)) k, given y g refl) in
      inl (one-here false p s (as_statements (assignments items)) (blocking a.0 a.1) u
      (as-statement (assignments items) a (among_contains (assignments items) a c)) (h, given-reached s a.0 a.1 u y g, r))
  depends-turn _ _ (DependsIn.by_block x u y c h m a) k =
      let r = (law (spread p) s x u h).1 (y, there-spread s p y none (after-there s x u y h a) k, a) in
      inr (one-here false p s (combinational_blocks items) x u (among_contains (combinational_blocks items) x c) (h, m, r))

-- ---- no memory

pub fit-among : (s : Scope) (xs : List Statement) (x : Statement) → AreFitToRun s xs → IsAmong xs x → IsFit s x
fit-among s [] x f h = absurd h
fit-among s (y ∷ xs) x f (inl e) = subst (IsFit s) e f.0
fit-among s (y ∷ xs) x f (inr h) = fit-among s xs x f.1 h

no-memory-of : (all : Bool) (p : BitSet) (s : Scope) (xs : List Statement) (u : Bit) → AreFitToRun s xs → is_memory (s u.of_name) ≡ true → OneRests all p s xs u → ⊥
no-memory-of all p s xs u f m h =
    let o = one-there all p s xs u h in
    true≢false
    (sym (and_from (is_bit_of (s u.of_name) u.word u.place) (may_assign s o.0 u.of_name u.word u.place) o.2.0 o.2.1)
    ∙ (fit-among s xs o.0 f o.1).plain u.of_name u.word u.place m)

pub turn-free : (all : Bool) (p q : BitSet) (s : Scope) (xs : List Statement) → AreFitToRun s xs
    → ((u : Bit) → IsTrue (is_in q u) ↔ OneRests all p s xs u) → HasNoMemory s q
turn-free all p q s xs f g n k b m =
    false_from_ne_true (q n k b) (λ h.
    let u : Bit = record { of_name = n; word = k; place = b } in
    no-memory-of all p s xs u f m ((g u).0 h))
