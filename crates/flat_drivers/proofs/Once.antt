-- Where a module declares no name twice, a net or variable is no parameter.
use Rattle.std.proofs.Common.{◌≡◌, ℕ, ◌+◌, ◌≤◌, Bool, true, false, cond, not, ◌&&◌, ◌||◌, ◌==◌, nat_le, refl, sym, ap, ◌∙◌, subst, arith, List, [], ◌∷◌, ◌++◌, inl, inr, Option, Some, None, IsTrue}
use Rattle.std.specs.Prelude.{is_some, is_none}
use Rattle.std.proofs.lemmas.Bool.{false≢true}
use Rattle.std.proofs.lemmas.Bool.Decides.{nat_tests}
use Rattle.wb_values.specs.Value.{Name, same_name}
use Rattle.verilog_trees.specs.Syntax.{Direction, NetKind, Module}
use Rattle.verilog_meaning.specs.Hierarchy.{Declaration, declarations, all_parameters}
use Rattle.verilog_meaning.specs.Settled.{is_declared_among, port_order}
use Rattle.verilog_designs.specs.Names.{is_among, count_of, parameter_names, all_instance_names, names_where, is_bare_port, is_net_alone, declared_names, is_once, has_duplicate, has_repeated}
use Rattle.verilog_unique.proofs.Options.{first_false, not_is_false, is_same, same_is}
use Rattle.verilog_unique.proofs.Descent.{IsAmong, among_left}
use Rattle.verilog_unique.proofs.Instances.{any_false}

-- ---- counts

joined_count : (n : Name) (ns ms : List Name) → count_of n (ns ++ ms) ≡ count_of n ns + count_of n ms
joined_count n [] ms = omega arith
joined_count n (k ∷ ns) ms = let e = joined_count n ns ms in omega (arith, e)

-- how often the name is declared, by all declarations and by those of a kind
abbrev share : Bool → Bool → ℕ
share a b = cond a (cond b 1 0) 0

one_share : (n : Name) (a : Bool) (m : Name) (ns : List Name) → count_of n (cond a (m ∷ []) [] ++ ns) ≡ share a (same_name m n) + count_of n ns
one_share n true m ns = refl
one_share n false m ns = omega arith

-- no declaration is of both kinds
both_shares : (x : Option Direction) (y : Option NetKind) (b : Bool) → share (is_some x && is_none y) b + share (is_none x) b ≤ share true b
both_shares None y true = omega arith
both_shares None y false = omega arith
both_shares (Some x) None true = omega arith
both_shares (Some x) None false = omega arith
both_shares (Some x) (Some y) true = omega arith
both_shares (Some x) (Some y) false = omega arith

kinds_count : (n : Name) (ds : List Declaration) → count_of n (names_where is_bare_port ds) + count_of n (names_where is_net_alone ds) ≤ count_of n (names_where (λ d. true) ds)
kinds_count n [] = omega arith
kinds_count n (d ∷ ds) =
    let bare = one_share n (is_bare_port d) d.of_name (names_where is_bare_port ds) in
    let alone = one_share n (is_net_alone d) d.of_name (names_where is_net_alone ds) in
    let all = one_share n true d.of_name (names_where (λ z. true) ds) in
    let here = both_shares d.direction d.kind (same_name d.of_name n) in
    let rest = kinds_count n ds in
    omega (arith, bare, alone, all, here, rest)

declared_count : (n : Name) (ds : List Declaration) → IsTrue (is_declared_among ds n) → 1 ≤ count_of n (names_where (λ d. true) ds)
declared_count n [] h = absurd (false≢true h)
declared_count n (d ∷ ds) h = chosen (same_name d.of_name n) (declared_count n ds) h
  where
    chosen : (b : Bool) → (IsTrue (is_declared_among ds n) → 1 ≤ count_of n (names_where (λ z. true) ds)) → IsTrue (b || is_declared_among ds n)
        → 1 ≤ cond b 1 0 + count_of n (names_where (λ z. true) ds)
    chosen true f g = omega arith
    chosen false f g = let e = f g in omega (arith, e)

among_count : (n : Name) (ns : List Name) → IsTrue (is_among ns n) → 1 ≤ count_of n ns
among_count n [] h = absurd (false≢true h)
among_count n (m ∷ ns) h = chosen (same_name m n) (among_count n ns) h
  where
    chosen : (b : Bool) → (IsTrue (is_among ns n) → 1 ≤ count_of n ns) → IsTrue (b || is_among ns n) → 1 ≤ cond b 1 0 + count_of n ns
    chosen true f g = omega arith
    chosen false f g = let e = f g in omega (arith, e)

named_among : (n : Name) (ds : List Declaration) → IsTrue (is_declared_among ds n) → IsAmong (names_where (λ d. true) ds) n
named_among n [] h = absurd (false≢true h)
named_among n (d ∷ ds) h = chosen (same_name d.of_name n) (λ e. same_is d.of_name n e) (named_among n ds) h
  where
    chosen : (b : Bool) → (b ≡ true → d.of_name ≡ n) → (IsTrue (is_declared_among ds n) → IsAmong (names_where (λ z. true) ds) n) → IsTrue (b || is_declared_among ds n)
        → IsAmong (names_where (λ z. true) (d ∷ ds)) n
    chosen true f g h = inl (f refl)
    chosen false f g h = inr (g h)

-- two at least, of which not more are told apart as a port and its net
twice : (all bare alone names : ℕ) → 1 ≤ names → bare + alone ≤ all → 1 ≤ all → all + names ≤ 2 → ((bare == 1) && (alone == 1)) ≡ true → ⊥
twice all bare alone names p q r l e = from (bare == 1) (alone == 1) refl refl e
  where
    from : (x y : Bool) → (bare == 1) ≡ x → (alone == 1) ≡ y → (x && y) ≡ true → ⊥
    from true true f g h =
        let one : bare ≡ 1 = grind (arith, nat_tests, f) in
        let two : alone ≡ 1 = grind (arith, nat_tests, g) in
        omega (arith, one, two, p, q, l)
    from true false f g h = false≢true h
    from false y f g h = false≢true h

pub net_no_parameter : (m : Module) (n : Name) → has_duplicate m ≡ false → IsTrue (is_declared_among (declarations m) n)
    → IsTrue (is_among (parameter_names (all_parameters m)) n) → ⊥
net_no_parameter m n once declared parameter =
    let all : List Name = names_where (λ d. true) (declarations m) in
    let names : List Name = parameter_names (all_parameters m) in
    let rest : List Name = all_instance_names m.items in
    let there : IsAmong (declared_names m) n = among_left (all ++ names) rest n (among_left all names n (named_among n (declarations m) declared)) in
    let is : is_once m n ≡ true =
    not_is_false (is_once m n) (any_false (λ k. not (is_once m k)) (declared_names m) n (first_false _ (has_repeated (port_order m)) once) there) in
    let one = joined_count n (all ++ names) rest in
    let two = joined_count n all names in
    let low = declared_count n (declarations m) declared in
    let more = among_count n names parameter in
    let kinds = kinds_count n (declarations m) in
    by_test (nat_le (count_of n (declared_names m)) 1) (count_of n (declared_names m) == 2) refl refl is
    (λ l. let k = l in omega (arith, k, one, two, low, more))
    (λ l e. twice (count_of n all) (count_of n (names_where is_bare_port (declarations m))) (count_of n (names_where is_net_alone (declarations m))) (count_of n names)
    more kinds low (let k = l in omega (arith, k, one, two)) e)
  where
    by_test : (x y : Bool) → nat_le (count_of n (declared_names m)) 1 ≡ x → (count_of n (declared_names m) == 2) ≡ y
        → (x || (y && ((count_of n (names_where is_bare_port (declarations m)) == 1) && (count_of n (names_where is_net_alone (declarations m)) == 1)))) ≡ true
        → (count_of n (declared_names m) ≤ 1 → ⊥)
        → (count_of n (declared_names m) ≤ 2 → ((count_of n (names_where is_bare_port (declarations m)) == 1) && (count_of n (names_where is_net_alone (declarations m)) == 1)) ≡ true → ⊥)
        → ⊥
    by_test true y e f h g k = g (grind (arith, nat_tests, e))
    by_test false true e f h g k = k (grind (arith, nat_tests, f)) h
    by_test false false e f h g k = false≢true h
