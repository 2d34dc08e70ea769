-- Marked bits are counted: each turn that marks something marks one more of the bits that are driven, so the turns come to an end.
use Rattle.std.proofs.Common.{◌≡◌, ◌∙◌, ℕ, zero, suc, ◌+◌, ◌*◌, ◌<◌, ◌≤◌, refl, ap, sym, subst, arith, Bool, true, false, cond, List, [], ◌∷◌, ◌++◌, length, ◌⊎◌, inl, inr}
use Rattle.std.specs.Prelude.{IsTrue, nat_lt, Contains}
use Rattle.std.proofs.lemmas.Bool.{false≢true, true≢false, and_parts, and_from, or_cases, cases_Bool}
use Rattle.std.proofs.lemmas.Bool.Decides.{nat_tests}
use Rattle.std.proofs.lemmas.Slice.Eq.{bytes_eq-Decides}
use Rattle.wb_values.specs.Value.{Name, same_name}
use Rattle.verilog_trees.specs.Syntax.{Statement}
use Rattle.verilog_meaning.specs.Expression.{Scope, object_width}
use Rattle.verilog_meaning.specs.Register.{word_count, is_bit_of, may_assign, one_may_assign}
use Rattle.verilog_unique.proofs.Descent.{IsAmong, among_left, among_right, among_contains, contains_among}
use Rattle.verilog_designs.specs.Reads.{BitSet}
use Rattle.verilog_designs.specs.Dependence.{Bit, is_in}
use Rattle.v_value.specs.Narrow.{HasNarrowObjects}
use Rattle.v_flow.specs.declared.span.Span.{Span}
use Rattle.v_flow.specs.Spans.{bits_of, bits_in, existing}
use Rattle.v_depend.specs.Resting.{IsThere}
use Rattle.v_loops.specs.Turns.{AreFitToRun}
use Rattle.v_loops.proofs.Steps.{in-first, fit-among}
use Rattle.v_loops.proofs.Listed.{assigned-by}
use Rattle.v_reach.specs.Marking.{HasAll, IsClosed, IsMore, HasAllDriven, marked_of, AreMoreBy, IsLaterMarked}

-- ---- counting

up-one : (a b : Bool) (m n : ℕ) → (a ≡ true → b ≡ true) → m ≤ n → cond a (suc m) m ≤ cond b (suc n) n
up-one true true m n f l = omega (arith, l)
up-one true false m n f l = absurd (false≢true (f refl))
up-one false true m n f l = omega (arith, l)
up-one false false m n f l = l

up-still : (a b : Bool) (m n : ℕ) → (a ≡ true → b ≡ true) → suc m ≤ n → suc (cond a (suc m) m) ≤ cond b (suc n) n
up-still true true m n f l = omega (arith, l)
up-still true false m n f l = absurd (false≢true (f refl))
up-still false true m n f l = omega (arith, l)
up-still false false m n f l = l

up-now : (a b : Bool) (m n : ℕ) → a ≡ false → b ≡ true → m ≤ n → suc (cond a (suc m) m) ≤ cond b (suc n) n
up-now true b m n e f l = absurd (true≢false e)
up-now false true m n e f l = omega (arith, l)
up-now false false m n e f l = absurd (false≢true f)

at-most : (p : BitSet) (us : List Bit) → marked_of p us ≤ length us
at-most p [] = omega arith
at-most p (u ∷ us) = by (is_in p u) (at-most p us)
  where
    by : (b : Bool) → marked_of p us ≤ length us → cond b (suc (marked_of p us)) (marked_of p us) ≤ suc (length us)
    by true l = omega (arith, l)
    by false l = omega (arith, l)

pub no-fewer : (p q : BitSet) → HasAll p q → (us : List Bit) → marked_of p us ≤ marked_of q us
no-fewer p q f [] = omega arith
no-fewer p q f (u ∷ us) = up-one (is_in p u) (is_in q u) (marked_of p us) (marked_of q us) (f u.of_name u.word u.place) (no-fewer p q f us)

one-more : (p q : BitSet) → HasAll p q → (us : List Bit) (u : Bit) → IsAmong us u → is_in p u ≡ false → is_in q u ≡ true → suc (marked_of p us) ≤ marked_of q us
one-more p q f [] u h a b = absurd h
one-more p q f (z ∷ us) u (inl e) a b =
    up-now (is_in p z) (is_in q z) (marked_of p us) (marked_of q us) (subst (λ (y : Bit). is_in p y ≡ false) (sym e) a) (subst (λ (y : Bit). is_in q y ≡ true) (sym e) b)
    (no-fewer p q f us)
one-more p q f (z ∷ us) u (inr h) a b =
    up-still (is_in p z) (is_in q z) (marked_of p us) (marked_of q us) (f z.of_name z.word z.place) (one-more p q f us u h a b)

-- where as many are marked as there are, each is
all-marked : (p : BitSet) (us : List Bit) → length us ≤ marked_of p us → (u : Bit) → IsAmong us u → is_in p u ≡ true
all-marked p [] l u h = absurd h
all-marked p (z ∷ us) l u h = by (is_in p z) refl l (λ k g. all-marked p us k u g) h
  where
    by : (b : Bool) → is_in p z ≡ b → suc (length us) ≤ cond b (suc (marked_of p us)) (marked_of p us) → (length us ≤ marked_of p us → IsAmong us u → is_in p u ≡ true)
        → IsAmong (z ∷ us) u → is_in p u ≡ true
    by true e k f (inl g) = subst (λ (y : Bit). is_in p y ≡ true) g e
    by true e k f (inr g) = f (omega (arith, k)) g
    by false e k f g = let m = at-most p us in absurd (omega (arith, k, m))

-- ---- rounds

pub none-more : (s : Scope) (xs : List Statement) (p : BitSet) → AreMoreBy 0 s xs p p
none-more s xs p us h = omega arith

pub more-by-one : (i : ℕ) (s : Scope) (xs : List Statement) (before now mid after : BitSet) → AreMoreBy i s xs before now → HasAll now mid → HasAll mid after
    → IsMore s xs mid after → AreMoreBy (i + 1) s xs before after
more-by-one i s xs before now mid after f g h m us all =
    let a = f us all in
    let b = no-fewer now mid g us in
    let c = one-more mid after h us m.bit (among_contains us m.bit (all m.driver m.bit m.stands m.there m.assigned)) m.was_not m.marked in
    omega (arith, a, b, c)

pub more-by : (i n j : ℕ) (s : Scope) (xs : List Statement) (before now after : BitSet) → i + n ≡ j → AreMoreBy i s xs before now → AreMoreBy n s xs now after → AreMoreBy j s xs before after
more-by i n j s xs before now after e f g us all =
    let a = f us all in
    let b = g us all in
    omega (arith, a, b, e)

pub later-more : (lasts : Bool) (s : Scope) (xs : List Statement) (before after : BitSet) → lasts ≡ false → IsLaterMarked lasts s xs before after → AreMoreBy 128 s xs before after
later-more true s xs before after e f = absurd (true≢false e)
later-more false s xs before after e f = f

pub later-closed : (lasts : Bool) (s : Scope) (xs : List Statement) (before after : BitSet) → lasts ≡ true → IsLaterMarked lasts s xs before after → IsClosed after s xs
later-closed true s xs before after e f = f
later-closed false s xs before after e f = absurd (false≢true e)

-- ---- the bits of spans as a list

abbrev below : Name → ℕ → List Bit
below n zero = []
below n (suc b) = record { of_name = n; word = 0; place = b } ∷ below n b

abbrev pub all-bits : List Span → List Bit
all-bits [] = []
all-bits (x ∷ xs) = below x.name.now 128 ++ all-bits xs

length-below : (n : Name) (b : ℕ) → length (below n b) ≡ b
length-below n zero = refl
length-below n (suc b) = ap suc (length-below n b)

length-both : (xs ys : List Bit) → length (xs ++ ys) ≡ length xs + length ys
length-both [] ys = omega arith
length-both (x ∷ xs) ys = let l = length-both xs ys in omega (arith, l)

length-all : (xs : List Span) → length (all-bits xs) ≤ length xs * 128
length-all [] = omega arith
length-all (x ∷ xs) =
    let a = length-both (below x.name.now 128) (all-bits xs) in
    let b = length-below x.name.now 128 in
    let c = length-all xs in
    omega (arith, a, b, c)

at-top : (b c : ℕ) → b < suc c → nat_lt b c ≡ false → c ≡ b
at-top b c l e = grind (arith, nat_tests)

under-top : (b c : ℕ) → nat_lt b c ≡ true → b < c
under-top b c e = grind (arith, nat_tests)

among-below : (n : Name) (b c : ℕ) → b < c → IsAmong (below n c) (record { of_name = n; word = 0; place = b })
among-below n b zero l = absurd (omega (arith, l))
among-below n b (suc c) l = at (among-below n b c) (cases_Bool (nat_lt b c))
  where
    at : (b < c → IsAmong (below n c) (record { of_name = n; word = 0; place = b })) → (nat_lt b c ≡ true) ⊎ (nat_lt b c ≡ false)
        → IsAmong (below n (suc c)) (record { of_name = n; word = 0; place = b })
    at f (inl e) = inr (f (under-top b c e))
    at f (inr e) = inl (ap (λ (p : ℕ). record { of_name = n; word = 0; place = p }) (at-top b c l e))

among-all : (xs : List Span) (n : Name) (k b : ℕ) → bits_in xs n k b ≡ true → b < 128 → IsAmong (all-bits xs) (record { of_name = n; word = 0; place = b })
among-all [] n k b h l = absurd (false≢true h)
among-all (x ∷ xs) n k b h l = at (λ e. among-all xs n k b e l) (or_cases (bits_of x n k b) (bits_in xs n k b) h)
  where
    at : (bits_in xs n k b ≡ true → IsAmong (all-bits xs) (record { of_name = n; word = 0; place = b })) → (bits_of x n k b ≡ true) ⊎ (bits_in xs n k b ≡ true)
        → IsAmong (all-bits (x ∷ xs)) (record { of_name = n; word = 0; place = b })
    at f (inl e) =
        let same = (bytes_eq-Decides x.name.now n).0 (and_parts (same_name x.name.now n) _ e).0 in
        among_left (below x.name.now 128) (all-bits xs) (record { of_name = n; word = 0; place = b })
        (subst (λ (m : Name). IsAmong (below m 128) (record { of_name = n; word = 0; place = b })) (sym same) (among-below n b 128 l))
    at f (inr e) = among_right (below x.name.now 128) (all-bits xs) (record { of_name = n; word = 0; place = b }) (f e)

inside : (b w : ℕ) → nat_lt b w ≡ true → w ≤ 128 → b < 128
inside b w h l = grind (arith, nat_tests)

pub covers-driven : (s : Scope) (xs : List Statement) (spans : List Span) → HasNarrowObjects s → AreFitToRun s xs → bits_in spans ≡ existing s (one_may_assign s xs)
    → HasAllDriven s xs (all-bits spans)
covers-driven s xs spans objects fit is x u c there may =
    let among = among_contains xs x c in
    let has = subst (λ (q : BitSet). is_in q u ≡ true) (sym is)
    (and_from (is_bit_of (s u.of_name) u.word u.place) (one_may_assign s xs u.of_name u.word u.place) there (assigned-by s xs x u.of_name u.word u.place among may)) in
    let place = inside u.place (object_width (s u.of_name)) (and_parts (nat_lt u.word (word_count (s u.of_name))) (nat_lt u.place (object_width (s u.of_name))) there).1 (objects u.of_name).0 in
    let zero_word = in-first s (existing s (may_assign s x)) u (fit-among s xs x fit among).plain there u.word u.place
    (and_from (is_bit_of (s u.of_name) u.word u.place) (may_assign s x u.of_name u.word u.place) there may) in
    subst (λ (w : ℕ). Contains (all-bits spans) (record { of_name = u.of_name; word = w; place = u.place })) (sym zero_word)
    (contains_among (all-bits spans) (record { of_name = u.of_name; word = 0; place = u.place }) (among-all spans u.of_name u.word u.place has place))

-- after so many rounds all bits that are driven are marked
pub closed-at-end : (s : Scope) (xs : List Statement) (spans : List Span) (i : ℕ) (before now : BitSet) → HasNarrowObjects s → AreFitToRun s xs
    → bits_in spans ≡ existing s (one_may_assign s xs) → length spans ≤ i → AreMoreBy (i * 128) s xs before now → IsClosed now s xs
closed-at-end s xs spans i before now objects fit is l more x u c r =
    let all = covers-driven s xs spans objects fit is in
    let a = length-all spans in
    let b = more (all-bits spans) all in
    all-marked now (all-bits spans) (omega (arith, a, b, l)) u (among_contains (all-bits spans) u (all x u c r.0 r.1))
