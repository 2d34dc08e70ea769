-- The bits of spans as a list. (The same stands in the proofs of `v_loops`, where it is private.)
use Rattle.std.proofs.Common.{◌≡◌, ℕ, zero, suc, ◌+◌, ◌*◌, ◌<◌, ◌≤◌, refl, ap, sym, subst, arith, true, false, List, [], ◌∷◌, ◌++◌, length, ◌⊎◌, inl, inr}
use Rattle.std.specs.Prelude.{nat_lt}
use Rattle.std.proofs.lemmas.Bool.{false≢true, and_parts, or_cases, cases_Bool}
use Rattle.std.proofs.lemmas.Bool.Decides.{nat_tests}
use Rattle.std.proofs.lemmas.Slice.Eq.{bytes_eq-Decides}
use Rattle.wb_values.specs.Value.{Name, same_name}
use Rattle.verilog_trees.specs.Syntax.{Item}
use Rattle.verilog_meaning.specs.Expression.{Scope, object_width}
use Rattle.verilog_meaning.specs.Register.{word_count}
use Rattle.verilog_designs.specs.Dependence.{Bit}
use Rattle.verilog_unique.proofs.Descent.{IsAmong, among_left, among_right}
use Rattle.v_value.specs.Narrow.{HasNarrowObjects}
use Rattle.v_flow.specs.declared.span.Span.{Span}
use Rattle.v_flow.specs.Spans.{bits_of, bits_in}
use Rattle.v_paths.specs.Premises.{HasNoMemory}
use Rattle.v_loops.specs.Turns.{Stage, IsStage}
use Rattle.v_settle.proofs.Given.{stage-there, stage-driven, in-first}

abbrev below : Name → ℕ → List Bit
below n zero = []
below n (suc b) = record { of_name = n; word = 0; place = b } ∷ below n b

abbrev pub all-bits : List Span → List Bit
all-bits [] = []
all-bits (x ∷ xs) = below x.name.now 128 ++ all-bits xs

length-below : (n : Name) (b : ℕ) → length (below n b) ≡ b
length-below n zero = refl
length-below n (suc b) = ap suc (length-below n b)

length-both : (xs ys : List Bit) → length (xs ++ ys) ≡ length xs + length ys
length-both [] ys = omega arith
length-both (x ∷ xs) ys = let l = length-both xs ys in omega (arith, l)

pub length-all : (xs : List Span) → length (all-bits xs) ≤ length xs * 128
length-all [] = omega arith
length-all (x ∷ xs) =
    let a = length-both (below x.name.now 128) (all-bits xs) in
    let b = length-below x.name.now 128 in
    let c = length-all xs in
    omega (arith, a, b, c)

at-top : (b c : ℕ) → b < suc c → nat_lt b c ≡ false → c ≡ b
at-top b c l e = grind (arith, nat_tests)

under-top : (b c : ℕ) → nat_lt b c ≡ true → b < c
under-top b c e = grind (arith, nat_tests)

among-below : (n : Name) (b c : ℕ) → b < c → IsAmong (below n c) (record { of_name = n; word = 0; place = b })
among-below n b zero l = absurd (omega (arith, l))
among-below n b (suc c) l = at (among-below n b c) (cases_Bool (nat_lt b c))
  where
    at : (b < c → IsAmong (below n c) (record { of_name = n; word = 0; place = b })) → (nat_lt b c ≡ true) ⊎ (nat_lt b c ≡ false)
        → IsAmong (below n (suc c)) (record { of_name = n; word = 0; place = b })
    at f (inl e) = inr (f (under-top b c e))
    at f (inr e) = inl (ap (λ (p : ℕ). record { of_name = n; word = 0; place = p }) (at-top b c l e))

among-all : (xs : List Span) (n : Name) (k b : ℕ) → bits_in xs n k b ≡ true → b < 128 → IsAmong (all-bits xs) (record { of_name = n; word = 0; place = b })
among-all [] n k b h l = absurd (false≢true h)
among-all (x ∷ xs) n k b h l = at (λ e. among-all xs n k b e l) (or_cases (bits_of x n k b) (bits_in xs n k b) h)
  where
    at : (bits_in xs n k b ≡ true → IsAmong (all-bits xs) (record { of_name = n; word = 0; place = b })) → (bits_of x n k b ≡ true) ⊎ (bits_in xs n k b ≡ true) → IsAmong (all-bits (x ∷ xs)) (record { of_name = n; word = 0; place = b })
    at f (inl e) =
        let same = (bytes_eq-Decides x.name.now n).0 (and_parts (same_name x.name.now n) _ e).0 in
        among_left (below x.name.now 128) (all-bits xs) (record { of_name = n; word = 0; place = b })
        (subst (λ (m : Name). IsAmong (below m 128) (record { of_name = n; word = 0; place = b })) (sym same) (among-below n b 128 l))
    at f (inr e) = among_right (below x.name.now 128) (all-bits xs) (record { of_name = n; word = 0; place = b }) (f e)

inside : (b w : ℕ) → nat_lt b w ≡ true → w ≤ 128 → b < 128
inside b w h l = grind (arith, nat_tests)

-- each bit of each stage is one of those of the first
pub covers-all : (s : Scope) (items : List Item) (xs : List Span) → HasNarrowObjects s → HasNoMemory s (bits_in xs) → IsStage s items 0 (bits_in xs)
    → (k : ℕ) (u : Bit) → Stage s items k u → IsAmong (all-bits xs) u
covers-all s items xs objects none is k u h =
    let there = stage-there s items k u h in
    let has = (is u).1 (stage-driven s items k u h) in
    let place = inside u.place (object_width (s u.of_name)) (and_parts (nat_lt u.word (word_count (s u.of_name))) (nat_lt u.place (object_width (s u.of_name))) there).1 (objects u.of_name).0 in
    let zero_word = in-first s (bits_in xs) u none there u.word u.place has in
    subst (λ (w : ℕ). IsAmong (all-bits xs) (record { of_name = u.of_name; word = w; place = u.place })) (sym zero_word)
    (among-all xs u.of_name u.word u.place has place)
