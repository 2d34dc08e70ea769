-- Names that stand twice: by how often each stands, and by a set of those before.
use Rattle.std.proofs.Common.{◌≡◌, ◌∙◌, refl, ap, sym, subst, ℕ, ◌+◌, ◌≤◌, Bool, true, false, cond, not, ◌||◌, List, [], ◌∷◌, Bor, arith}
use Rattle.std.specs.Prelude.{nat_le}
use Rattle.std.specs.List.{list_any}
use Rattle.std.proofs.lemmas.Bool.{false≢true}
use Rattle.std.proofs.lemmas.Bool.Decides.{nat_tests}
use Rattle.std.specs.Ordering.{nat_cmp}
use Rattle.std.specs.Cmp.Lexicographic.{slice_cmp}
use Rattle.std.specs.BTreeSet as sorted
use Rattle.std.specs.BTreeSet.{BTreeSet}
use Rattle.std.specs.BTreeMap.{is_at}
use Rattle.std.proofs.lemmas.Slice.Eq.{bytes_eq-Decides}
use Rattle.wb_values.specs.Value.{Name, same_name}
use Rattle.verilog_designs.specs.Names.{is_among, count_of, has_repeated}
use Rattle.v_hier.specs.Tables.{has_name}
use Rattle.v_instances.specs.Connections.{repeats}
use Rattle.v_instances.proofs.Names.{has_more}

-- ---- by how often each stands

neither : (a b : Bool) → (a || b) ≡ false → (a ≡ false) × (b ≡ false)
neither false b h = (refl, h)
neither true b h = absurd (false≢true (sym h))

none_at : (b : Bool) (c : ℕ) (r : Bool) → (b || r) ≡ false → (r ≡ false → c ≡ 0) → cond b 1 0 + c ≡ 0
none_at true c r h f = absurd (false≢true (sym h))
none_at false c r h f = let e : c ≡ 0 = f h in omega (arith, e)

none_counted : (n : Name) (ns : List Name) → is_among ns n ≡ false → count_of n ns ≡ 0
none_counted n [] h = refl
none_counted n (m ∷ ms) h = none_at (same_name m n) (count_of n ms) (is_among ms n) h (none_counted n ms)

once_at : (b : Bool) (c : ℕ) → (b ≡ true → c ≡ 0) → c ≤ 1 → cond b 1 0 + c ≤ 1
once_at true c f h = let e : c ≡ 0 = f refl in omega (arith, e)
once_at false c f h = omega (arith, h)

once : (q : Name) (ns : List Name) → repeats ns ≡ false → count_of q ns ≤ 1
once q [] h = omega arith
once q (n ∷ ns) h =
    let p : (is_among ns n ≡ false) × (repeats ns ≡ false) = neither (is_among ns n) (repeats ns) h in
    once_at (same_name n q) (count_of q ns) (λ e. none_counted q ns (subst (λ m. is_among ns m ≡ false) ((bytes_eq-Decides n q).0 e) p.0)) (once q ns p.1)

within : (c : ℕ) → c ≤ 1 → not (nat_le c 1) ≡ false
within c h = grind (arith, nat_tests, h)

all_false : (p : Name → Bool) (ns : List Name) → ((n : Name) → p n ≡ false) → list_any p ns ≡ false
all_false p [] h = refl
all_false p (n ∷ ns) h = ap (λ b. b || list_any p ns) (h n) ∙ all_false p ns h

one_counted : (b : Bool) (c : ℕ) (r : Bool) → (b || r) ≡ true → (r ≡ true → 1 ≤ c) → 1 ≤ cond b 1 0 + c
one_counted true c r h f = omega arith
one_counted false c r h f = let e : 1 ≤ c = f h in omega (arith, e)

counted : (n : Name) (ns : List Name) → is_among ns n ≡ true → 1 ≤ count_of n ns
counted n [] h = absurd (false≢true h)
counted n (m ∷ ms) h = one_counted (same_name m n) (count_of n ms) (is_among ms n) h (counted n ms)

past_one : (k c : ℕ) → 1 ≤ k → 1 ≤ c → not (nat_le (k + c) 1) ≡ true
past_one k c h i = grind (arith, nat_tests, h, i)

more : (k c : ℕ) → not (nat_le c 1) ≡ true → not (nat_le (k + c) 1) ≡ true
more k c h = grind (arith, nat_tests, h)

any_more : (p r : Name → Bool) → ((n : Name) → p n ≡ true → r n ≡ true) → (ns : List Name) → list_any p ns ≡ true → list_any r ns ≡ true
any_more p r f [] h = h
any_more p r f (n ∷ ns) h = at (p n) (r n) (list_any p ns) (list_any r ns) (f n) (any_more p r f ns) h
  where
    at : (a b x y : Bool) → (a ≡ true → b ≡ true) → (x ≡ true → y ≡ true) → (a || x) ≡ true → (b || y) ≡ true
    at true b x y f g h = ap (λ z. z || y) (f refl)
    at false true x y f g h = refl
    at false false x y f g h = g h

self : (n : Name) → same_name n n ≡ true
self n = (bytes_eq-Decides n n).1 refl

or_true : (b : Bool) → (b || true) ≡ true
or_true true = refl
or_true false = refl

some_twice : (ns : List Name) → repeats ns ≡ true → has_repeated ns ≡ true
some_twice [] h = h
some_twice (n ∷ ns) h =
    (elim (is_among ns n) as (λ b. is_among ns n ≡ b → (b || repeats ns) ≡ true → has_repeated (n ∷ ns) ≡ true) [
      | true ↦ λ e k.
          ap (λ b. b || list_any (λ x. not (nat_le (count_of x (n ∷ ns)) 1)) ns)
          (ap (λ b. not (nat_le (cond b 1 0 + count_of n ns) 1)) (self n) ∙ past_one 1 (count_of n ns) (omega arith) (counted n ns e))
      | false ↦ λ e k.
          ap (λ b. not (nat_le (count_of n (n ∷ ns)) 1) || b)
          (any_more (λ x. not (nat_le (count_of x ns) 1)) (λ x. not (nat_le (count_of x (n ∷ ns)) 1)) (λ x. more (cond (same_name n x) 1 0) (count_of x ns)) ns (some_twice ns k))
          ∙ or_true (not (nat_le (count_of n (n ∷ ns)) 1))
    ]) refl h

pub repeated_so : (ns : List Name) → repeats ns ≡ has_repeated ns
repeated_so ns =
    (elim (repeats ns) as (λ b. repeats ns ≡ b → b ≡ has_repeated ns) [
      | true ↦ λ e. sym (some_twice ns e)
      | false ↦ λ e. sym (all_false (λ n. not (nat_le (count_of n ns) 1)) ns (λ n. within (count_of n ns) (once n ns e)))
    ]) refl

-- ---- by a set of those before

pub repeat_start : (s : BTreeSet (Bor (List ℕ))) (ns : List Name) → s.keys ≡ [] → repeats ns ≡ (list_any (has_name s) ns || repeats ns)
repeat_start s ns e =
    ap (λ b. b || repeats ns) (sym (all_false (has_name s) ns (λ n. ap (λ ks. list_any (is_at (λ k. slice_cmp nat_cmp n k.now)) ks) e)))

same_both : (m n : Name) → same_name m n ≡ true → same_name n m ≡ true
same_both m n h = subst (λ x. same_name x m ≡ true) ((bytes_eq-Decides m n).0 h) (self m)

turned : (m n : Name) → same_name m n ≡ same_name n m
turned m n = by_value (same_name m n) (same_name n m) (same_both m n) (same_both n m)
  where
    by_value : (a b : Bool) → (a ≡ true → b ≡ true) → (b ≡ true → a ≡ true) → a ≡ b
    by_value true b f g = sym (f refl)
    by_value false true f g = g refl
    by_value false false f g = refl

fresh_one : (e h a r : Bool) → (cond e true h || (a || r)) ≡ ((h || a) || (e || r))
fresh_one true true a r = refl
fresh_one true false true r = refl
fresh_one true false false r = refl
fresh_one false true a r = refl
fresh_one false false a r = refl

fresh : (h g : Name → Bool) (k : Name) → ((q : Name) → g q ≡ cond (same_name k q) true (h q)) → (ns : List Name) → list_any g ns ≡ (list_any h ns || is_among ns k)
fresh h g k e [] = refl
fresh h g k e (n ∷ ns) =
    ap (λ b. b || list_any g ns) (e n ∙ ap (λ b. cond b true (h n)) (turned k n))
    ∙ ap (λ b. cond (same_name n k) true (h n) || b) (fresh h g k e ns)
    ∙ fresh_one (same_name n k) (h n) (list_any h ns) (is_among ns k)

joined : (a b c : Bool) → (a || (b || c)) ≡ ((a || b) || c)
joined true b c = refl
joined false b c = refl

pub was_absent : (a b : Bool) → a ≡ not b → a ≡ true → b ≡ false
was_absent a true h k = sym k ∙ h
was_absent a false h k = refl

pub was_there : (a b : Bool) → a ≡ not b → a ≡ false → b ≡ true
was_there a true h k = refl
was_there a false h k = absurd (false≢true (sym k ∙ h))

-- a name that was not there
pub repeat_turn : (s n : BTreeSet (Bor (List ℕ))) (k : Bor (List ℕ)) (t : Bool) (front rest : List Name) → front ≡ k.now ∷ rest
    → sorted.Updates (λ x y. slice_cmp nat_cmp x.now y.now) s n k true → has_name s k.now ≡ false
    → t ≡ (list_any (has_name s) front || repeats front) → t ≡ (list_any (has_name n) rest || repeats rest)
repeat_turn s n k t front rest is u new h =
    h ∙ ap (λ ns. list_any (has_name s) ns || repeats ns) is
    ∙ ap (λ b. (b || list_any (has_name s) rest) || (is_among rest k.now || repeats rest)) new
    ∙ joined (list_any (has_name s) rest) (is_among rest k.now) (repeats rest)
    ∙ ap (λ b. b || repeats rest) (sym (fresh (has_name s) (has_name n) k.now (has_more s n k u) rest))

-- a name that was there
pub repeat_found : (s : BTreeSet (Bor (List ℕ))) (k : Name) (t : Bool) (front rest : List Name) → front ≡ k ∷ rest → has_name s k ≡ true
    → t ≡ (list_any (has_name s) front || repeats front) → true ≡ t
repeat_found s k t front rest is there h =
    sym (h ∙ ap (λ ns. list_any (has_name s) ns || repeats ns) is ∙ ap (λ b. (b || list_any (has_name s) rest) || (is_among rest k || repeats rest)) there)
