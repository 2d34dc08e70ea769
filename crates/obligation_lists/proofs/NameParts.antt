-- The parts of an obligation's name between its dots, and all obligations put together from parts that differ.
use Rattle.std.proofs.Common.{◌≡◌, ℕ, suc, ◌+◌, ◌^◌, ◌<◌, ◌≤◌, Bool, true, false, cond, ◌||◌, List, [], ◌∷◌, ◌++◌, length, map, get_or, codes, refl, sym, ap, ◌∙◌, append_assoc, subst, arith}
use Rattle.std.specs.Prelude.{decimal, ◌==◌, IsFalse}
use Rattle.std.specs.List.{list_all}
use Rattle.std.proofs.lemmas.Bool.{and_parts, false≢true, ne_eqb}
use Rattle.std.specs.Str.Parse.{AllDigits}
use Rattle.std.proofs.lemmas.Fmt.{decimal_is_IsNumeral}
use Rattle.std.proofs.lemmas.Slice.Eq.{bytes_eq-Decides}
use Rattle.std.proofs.lemmas.Str.Parse.{digit_from_value}
use Rattle.wb_values.specs.Value.{Name, same_name}
use Rattle.wb_values.specs.Names.{is_name_byte, is_model_name}
use Rattle.model_meaning.specs.Among.{is_name_in, has_twice}
use Rattle.model_meaning.specs.Model.{Model, Machine, machine, Instruction, instruction_name, Child, no_child, child, child_program, states_of, instructions_in}
use Rattle.model_meaning.specs.Invariant.{IsModel, all_machines, gathered, state_names, own_instruction_names, valued_names, instruction_names_of}
use Rattle.refinement.specs.Map.{Map}
use Rattle.refinement.specs.Obligation.{Obligation, for_each, invariant_obligations, state_obligations, child_obligations, bound_obligation, commit_obligations, instruction_obligations, all_instruction_obligations, reset_obligations, idle_obligations, decode_obligation, obligations, bound_named, with_initial_values, ended_at, result_of, initial, same, reset_active, no_start, invariants_at, premises_at, Fact}
use Rattle.obligation_lists.specs.Within.{Each}
use Rattle.obligation_lists.proofs.Growing.{each_append}
use Rattle.obligation_lists.proofs.Apart.{Distinct, Apart, each_more, apart_append, apart_for_each, each_for_each, apart_invariants, each_invariant, apart_states, each_state, names_of_states, distinct_initial}

-- ---- dots

abbrev before_dot : Name → Name
before_dot [] = []
before_dot (c ∷ cs) = cond (c == 46) [] (c ∷ before_dot cs)

abbrev after_dot : Name → Name
after_dot [] = []
after_dot (c ∷ cs) = cond (c == 46) cs (after_dot cs)

abbrev NoDot : Name → Type 0
NoDot n = Each (λ c. c ≡ 46 → ⊥) n

before_all : (n : Name) → NoDot n → before_dot n ≡ n
before_all [] h = refl
before_all (c ∷ cs) h = ap (λ b. cond b [] (c ∷ before_dot cs)) (ne_eqb c 46 h.0) ∙ ap (λ n. c ∷ n) (before_all cs h.1)

before_at : (n rest : Name) → NoDot n → before_dot (n ++ 46 ∷ rest) ≡ n
before_at [] rest h = refl
before_at (c ∷ cs) rest h = ap (λ b. cond b [] (c ∷ before_dot (cs ++ 46 ∷ rest))) (ne_eqb c 46 h.0) ∙ ap (λ n. c ∷ n) (before_at cs rest h.1)

after_at : (n rest : Name) → NoDot n → after_dot (n ++ 46 ∷ rest) ≡ rest
after_at [] rest h = refl
after_at (c ∷ cs) rest h = ap (λ b. cond b (cs ++ 46 ∷ rest) (after_dot (cs ++ 46 ∷ rest))) (ne_eqb c 46 h.0) ∙ after_at cs rest h.1

digits_no_dot : (ds : Name) → AllDigits 10 ds → NoDot ds
digits_no_dot [] h = tt
digits_no_dot (c ∷ cs) h = (λ e. omega (arith, digit_from_value c h.0, e), digits_no_dot cs h.1)

decimal_no_dot : (c : ℕ) → c < 2 ^ 64 → NoDot (decimal c)
decimal_no_dot c h = digits_no_dot (decimal c) (decimal_is_IsNumeral c h).0.1

bytes_no_dot : (n : Name) → list_all is_name_byte n ≡ true → NoDot n
bytes_no_dot [] h = tt
bytes_no_dot (c ∷ cs) h =
    let a = and_parts (is_name_byte c) _ h in
    (λ e. false≢true (sym (ap is_name_byte e) ∙ a.0), bytes_no_dot cs a.1)

name_no_dot : (n : Name) → is_model_name n ≡ true → NoDot n
name_no_dot n h = bytes_no_dot n (and_parts _ _ (and_parts _ _ (and_parts _ _ h).0).0).1

-- ---- names of commits

abbrev commit_name : Name → ℕ → Name → Name
commit_name n c tail = codes "commit." ++ (n ++ 46 ∷ (decimal c ++ 46 ∷ tail))

name_is : (n : Name) (c : ℕ) (tail : Name) → (codes "commit." ++ n ++ codes "." ++ decimal c) ++ 46 ∷ tail ≡ commit_name n c tail
name_is n c tail =
    append_assoc (codes "commit." ++ n ++ codes ".") (decimal c) (46 ∷ tail)
    ∙ append_assoc (codes "commit." ++ n) (codes ".") (decimal c ++ 46 ∷ tail)
    ∙ append_assoc (codes "commit.") n (46 ∷ (decimal c ++ 46 ∷ tail))

named : (n : Name) (c : ℕ) (kind r : Name)
    → (codes "commit." ++ n ++ codes "." ++ decimal c) ++ 46 ∷ kind ++ r ≡ commit_name n c (kind ++ r)
named n c kind r = append_assoc (codes "commit." ++ n ++ codes "." ++ decimal c) (46 ∷ kind) r ∙ name_is n c (kind ++ r)

abbrev owner : Name → Name
owner n = before_dot (after_dot n)

abbrev cycle_part : Name → Name
cycle_part n = before_dot (after_dot (after_dot n))

abbrev kind_byte : Name → ℕ
kind_byte n = get_or (after_dot (after_dot (after_dot n))) 0 0

abbrev byte : ℕ → Name → ℕ
byte k n = get_or n k 0

owner_is : (n : Name) (c : ℕ) (tail : Name) → NoDot n → owner (commit_name n c tail) ≡ n
owner_is n c tail h = before_at n (decimal c ++ 46 ∷ tail) h

cycle_is : (n : Name) (c : ℕ) (tail : Name) → NoDot n → c < 2 ^ 64 → cycle_part (commit_name n c tail) ≡ decimal c
cycle_is n c tail h low = ap before_dot (after_at n (decimal c ++ 46 ∷ tail) h) ∙ before_at (decimal c) tail (decimal_no_dot c low)

kind_is : (n : Name) (c : ℕ) (tail : Name) → NoDot n → c < 2 ^ 64 → kind_byte (commit_name n c tail) ≡ get_or tail 0 0
kind_is n c tail h low =
    ap (λ t. get_or (after_dot t) 0 0) (after_at n (decimal c ++ 46 ∷ tail) h)
    ∙ ap (λ t. get_or t 0 0) (after_at (decimal c) tail (decimal_no_dot c low))

module _ (m : Model) (p : Map) (j : ℕ) (n : Name) where
  abbrev text : ℕ → Name
  text c = codes "commit." ++ n ++ codes "." ++ decimal c

  of_invariants : (P : Name → Type 0) (c : ℕ) → ((r : Name) → P (commit_name n c (codes "inv." ++ r)))
      → Each (λ o. P o.called) (invariant_obligations p (text c ++ codes ".inv.") (suc c) (ended_at p j c) (suc c))
  of_invariants P c h =
      each_invariant P p (text c ++ codes ".inv.") (suc c) (ended_at p j c) (suc c) (λ r. subst P (sym (named n c (codes "inv.") r)) (h r))

  of_states : (P : Name → Type 0) (c : ℕ) → ((r : Name) → P (commit_name n c (codes "state." ++ r)))
      → Each (λ o. P o.called) (state_obligations (text c ++ codes ".state.") (suc c) (ended_at p j c) (λ q. result_of j q (suc c)) (states_of m.top))
  of_states P c h =
      each_state (text c ++ codes ".state.") (suc c) (ended_at p j c) (λ q. result_of j q (suc c)) P (states_of m.top)
      (λ r. subst P (sym (named n c (codes "state.") r)) (h r))

  each_commit : (P : Name → Type 0) (c : ℕ) → ((tail : Name) → P (commit_name n c tail)) → Each (λ o. P o.called) (commit_obligations m p j n c)
  each_commit P c h = each_append (λ o. P o.called) _ _ (of_invariants P c (λ r. h (codes "inv." ++ r))) (of_states P c (λ r. h (codes "state." ++ r)))

  module _ (undotted : NoDot n) (few : length p.invariants ≤ 2 ^ 64) (apart : Distinct (names_of_states (states_of m.top))) where
    apart_commit : (c : ℕ) → c < 2 ^ 64 → Apart (commit_obligations m p j n c)
    apart_commit c low =
        apart_append kind_byte 105 _ _ (of_invariants (λ q. kind_byte q ≡ 105) c (λ r. kind_is n c (codes "inv." ++ r) undotted low))
        (of_states (λ q. kind_byte q ≡ 105 → ⊥) c (λ r e. let k = kind_is n c (codes "state." ++ r) undotted low in omega (arith, k, e)))
        (apart_invariants p (text c ++ codes ".inv.") (suc c) (ended_at p j c) (suc c) few)
        (apart_states (text c ++ codes ".state.") (suc c) (ended_at p j c) (λ q. result_of j q (suc c)) (states_of m.top) apart)

    apart_commits : (b : ℕ) → b ≤ 2 ^ 64 → Apart (for_each (commit_obligations m p j n) 0 b)
    apart_commits b small =
        let all : 0 + b ≤ b = omega arith in
        apart_for_each (commit_obligations m p j n) cycle_part b small
        (λ c low. each_commit (λ q. cycle_part q ≡ decimal c) c (λ tail. cycle_is n c tail undotted (omega (arith, low, small))))
        0 b all (λ c low. apart_commit c (omega (arith, low, small)))

    child_apart : (k : Child) (b : ℕ) → b ≤ 2 ^ 64
        → Apart (child_obligations p j n k ++ bound_obligation p j n b ∷ for_each (commit_obligations m p j n) 0 b)
    child_apart k b small =
        let commits = each_for_each (λ o. byte 0 o.called ≡ 99) (commit_obligations m p j n) 0 b (λ c. each_commit (λ q. byte 0 q ≡ 99) c (λ tail. refl)) in
        let rest : Apart (bound_obligation p j n b ∷ for_each (commit_obligations m p j n) 0 b) = (
          each_more (λ o. byte 0 o.called ≡ 99) (λ q. (codes "bound." ++ n) ≡ q.called → ⊥) (for_each (commit_obligations m p j n) 0 b)
              (λ q is_c e. let same : 98 ≡ byte 0 q.called = ap (byte 0) e in omega (arith, same, is_c)) commits,
          apart_commits b small,
        ) in
        let second = each_for_each (λ o. byte 1 o.called ≡ 104 → ⊥) (commit_obligations m p j n) 0 b
        (λ c. each_commit (λ q. byte 1 q ≡ 104 → ⊥) c (λ tail e. let two : 111 ≡ 104 = e in omega (arith, two))) in
        by_child k rest ((λ e. let two : 111 ≡ 104 = e in omega (arith, two)), second)
      where
        by_child : (k : Child) → Apart (bound_obligation p j n b ∷ for_each (commit_obligations m p j n) 0 b)
            → Each (λ o. byte 1 o.called ≡ 104 → ⊥) (bound_obligation p j n b ∷ for_each (commit_obligations m p j n) 0 b)
            → Apart (child_obligations p j n k ++ bound_obligation p j n b ∷ for_each (commit_obligations m p j n) 0 b)
        by_child no_child r s = r
        by_child (child steps program) r s = apart_append (byte 1) 104 (child_obligations p j n (child steps program))
            (bound_obligation p j n b ∷ for_each (commit_obligations m p j n) 0 b) (refl, tt) s (tt, tt) r

  -- what holds of the three kinds of names
  each_of_one : (P : Name → Type 0) (k : Child) (b : ℕ) → P (codes "child." ++ n) → P (codes "bound." ++ n) → ((c : ℕ) (tail : Name) → P (commit_name n c tail))
      → Each (λ o. P o.called) (child_obligations p j n k ++ bound_obligation p j n b ∷ for_each (commit_obligations m p j n) 0 b)
  each_of_one P no_child b x y z = (y, each_for_each (λ o. P o.called) (commit_obligations m p j n) 0 b (λ c. each_commit P c (z c)))
  each_of_one P (child steps program) b x y z = (x, (y, each_for_each (λ o. P o.called) (commit_obligations m p j n) 0 b (λ c. each_commit P c (z c))))

-- ---- all obligations

module _ (m : Model) (p : Map) where
  each_of_all : (P : Name → Type 0) (j : ℕ) (is : List Instruction) → ((n : Name) → P (codes "child." ++ n)) → ((n : Name) → P (codes "bound." ++ n))
      → ((n : Name) (c : ℕ) (tail : Name) → P (commit_name n c tail)) → Each (λ o. P o.called) (all_instruction_obligations m p j is)
  each_of_all P j [] x y z = tt
  each_of_all P j (i ∷ is) x y z =
      let n = instruction_name i in
      each_append (λ o. P o.called) (instruction_obligations m p j i) (all_instruction_obligations m p (suc j) is)
      (each_of_one m p j n P (child_program i) (bound_named p n) (x n) (y n) (z n)) (each_of_all P (suc j) is x y z)

  others : (n : Name) (j : ℕ) (is : List Instruction) → Each (λ k. n ≡ k → ⊥) (map instruction_name is) → Each NoDot (map instruction_name is)
      → Each (λ o. owner o.called ≡ n → ⊥) (all_instruction_obligations m p j is)
  others n j [] h d = tt
  others n j (i ∷ is) h d =
      let k = instruction_name i in
      each_append (λ o. owner o.called ≡ n → ⊥) (instruction_obligations m p j i) (all_instruction_obligations m p (suc j) is)
      (each_of_one m p j k (λ q. owner q ≡ n → ⊥) (child_program i) (bound_named p k) (λ e. h.0 (sym e ∙ before_all k d.0)) (λ e. h.0 (sym e ∙ before_all k d.0))
      (λ c tail e. h.0 (sym e ∙ owner_is k c tail d.0)))
      (others n (suc j) is h.1 d.1)

  module _ (few : length p.invariants ≤ 2 ^ 64) (bounded : (n : Name) → bound_named p n ≤ 2 ^ 64) (apart : Distinct (names_of_states (states_of m.top))) where
    apart_all : (j : ℕ) (is : List Instruction) → Distinct (map instruction_name is) → Each NoDot (map instruction_name is)
        → Apart (all_instruction_obligations m p j is)
    apart_all j [] h d = tt
    apart_all j (i ∷ is) h d =
        let n = instruction_name i in
        apart_append owner n (instruction_obligations m p j i) (all_instruction_obligations m p (suc j) is)
        (each_of_one m p j n (λ q. owner q ≡ n) (child_program i) (bound_named p n) (before_all n d.0) (before_all n d.0) (λ c tail. owner_is n c tail d.0))
        (others n (suc j) is h.0 d.1) (child_apart m p j n d.0 few apart (child_program i) (bound_named p n) (bounded n)) (apart_all (suc j) is h.1 d.1)

    abbrev active : List Fact
    active = for_each (λ t. reset_active t ∷ []) 0 p.reset_cycles

    of_reset : (P : Name → Type 0) → ((r : Name) → P (codes "reset.inv." ++ r)) → ((r : Name) → P (codes "reset.init." ++ r))
        → Each (λ o. P o.called) (reset_obligations m p)
    of_reset P x y =
        each_append (λ o. P o.called) _ _ (each_invariant P p (codes "reset.inv.") p.reset_cycles active p.reset_cycles x)
        (each_state (codes "reset.init.") p.reset_cycles active (λ n. initial n p.reset_cycles) P (with_initial_values (states_of m.top)) y)

    apart_reset : Apart (reset_obligations m p)
    apart_reset =
        apart_append (byte 8) 118 _ _
        (each_invariant (λ q. byte 8 q ≡ 118) p (codes "reset.inv.") p.reset_cycles active p.reset_cycles (λ r. refl))
        (each_state (codes "reset.init.") p.reset_cycles active (λ n. initial n p.reset_cycles) (λ q. byte 8 q ≡ 118 → ⊥)
        (with_initial_values (states_of m.top)) (λ r e. let two : 105 ≡ 118 = e in omega (arith, two)))
        (apart_invariants p (codes "reset.inv.") p.reset_cycles active p.reset_cycles few)
        (apart_states (codes "reset.init.") p.reset_cycles active (λ n. initial n p.reset_cycles) (with_initial_values (states_of m.top))
        (distinct_initial (states_of m.top) apart))

    abbrev idle : List Fact
    idle = invariants_at p 0 ++ premises_at p 0 ++ no_start 0 ∷ []

    of_idle : (P : Name → Type 0) → ((r : Name) → P (codes "idle.inv." ++ r)) → ((r : Name) → P (codes "idle.state." ++ r))
        → Each (λ o. P o.called) (idle_obligations m p)
    of_idle P x y =
        each_append (λ o. P o.called) _ _ (each_invariant P p (codes "idle.inv.") 1 idle 1 x)
        (each_state (codes "idle.state.") 1 idle same P (states_of m.top) y)

    apart_idle : Apart (idle_obligations m p)
    apart_idle =
        apart_append (byte 5) 105 _ _ (each_invariant (λ q. byte 5 q ≡ 105) p (codes "idle.inv.") 1 idle 1 (λ r. refl))
        (each_state (codes "idle.state.") 1 idle same (λ q. byte 5 q ≡ 105 → ⊥) (states_of m.top) (λ r e. let two : 115 ≡ 105 = e in omega (arith, two)))
        (apart_invariants p (codes "idle.inv.") 1 idle 1 few) (apart_states (codes "idle.state.") 1 idle same (states_of m.top) apart)

    abbrev is_early : Name → Bool
    is_early n = (byte 0 n == 114) || (byte 0 n == 105)

    apart_obligations : Distinct (map instruction_name (instructions_in m.top)) → Each NoDot (map instruction_name (instructions_in m.top))
        → Apart (obligations m p)
    apart_obligations h d =
        let is = instructions_in m.top in
        let early : Apart (reset_obligations m p ++ idle_obligations m p) =
        apart_append (byte 0) 114 (reset_obligations m p) (idle_obligations m p) (of_reset (λ q. byte 0 q ≡ 114) (λ r. refl) (λ r. refl))
        (of_idle (λ q. byte 0 q ≡ 114 → ⊥) (λ r e. let two : 105 ≡ 114 = e in omega (arith, two)) (λ r e. let two : 105 ≡ 114 = e in omega (arith, two)))
        apart_reset apart_idle in
        let late : Apart (decode_obligation p ∷ all_instruction_obligations m p 0 is) = (
          each_of_all (λ q. codes "decode" ≡ q → ⊥) 0 is (λ n e. let two : 100 ≡ 99 = ap (byte 0) e in omega (arith, two))
              (λ n e. let two : 100 ≡ 98 = ap (byte 0) e in omega (arith, two)) (λ n c tail e. let two : 100 ≡ 99 = ap (byte 0) e in omega (arith, two)),
          apart_all 0 is h d,
        ) in
        apart_append is_early true (reset_obligations m p ++ idle_obligations m p) (decode_obligation p ∷ all_instruction_obligations m p 0 is)
        (each_append (λ o. is_early o.called ≡ true) (reset_obligations m p) (idle_obligations m p) (of_reset (λ q. is_early q ≡ true) (λ r. refl) (λ r. refl))
        (of_idle (λ q. is_early q ≡ true) (λ r. refl) (λ r. refl)))
        ((λ e. false≢true e), each_of_all (λ q. is_early q ≡ true → ⊥) 0 is (λ n e. false≢true e) (λ n e. false≢true e) (λ n c tail e. false≢true e))
        early late

-- ---- from the rules of models, and to the law

or_parts : (a b : Bool) → (a || b) ≡ false → (a ≡ false) × (b ≡ false)
or_parts false b h = (refl, h)
or_parts true b h = absurd (false≢true (sym h))

false_unless : (b : Bool) → (b ≡ true → ⊥) → b ≡ false
false_unless false h = refl
false_unless true h = absurd (h refl)

not_in : (n : Name) (ns : List Name) → is_name_in n ns ≡ false → Each (λ k. n ≡ k → ⊥) ns
not_in n [] h = tt
not_in n (k ∷ ks) h =
    let a = or_parts (same_name n k) (is_name_in n ks) h in
    ((λ e. false≢true (sym a.0 ∙ (bytes_eq-Decides n k).1 e)), not_in n ks a.1)

distinct_from : (ns : List Name) → has_twice ns ≡ false → Distinct ns
distinct_from [] h = tt
distinct_from (n ∷ ns) h =
    let a = or_parts (is_name_in n ns) (has_twice ns) h in
    (not_in n ns a.0, distinct_from ns a.1)

each_left : {A : Type 0} (P : A → Type 0) (xs ys : List A) → Each P (xs ++ ys) → Each P xs
each_left P [] ys h = tt
each_left P (x ∷ xs) ys h = (h.0, each_left P xs ys h.1)

distinct_left : (xs ys : List Name) → Distinct (xs ++ ys) → Distinct xs
distinct_left [] ys h = tt
distinct_left (x ∷ xs) ys h = (each_left (λ k. x ≡ k → ⊥) xs ys h.0, distinct_left xs ys h.1)

distinct_right : (xs ys : List Name) → Distinct (xs ++ ys) → Distinct ys
distinct_right [] ys h = h
distinct_right (x ∷ xs) ys h = distinct_right xs ys h.1

own_states : (t : Machine) → Distinct (gathered state_names (all_machines t)) → Distinct (names_of_states (states_of t))
own_states (machine states valid is) h = distinct_left (names_of_states states) _ h

own_instructions : (t : Machine) → Distinct (gathered own_instruction_names (all_machines t)) → Distinct (map instruction_name (instructions_in t))
own_instructions (machine states valid is) h = distinct_left (map instruction_name (instructions_in (machine states valid is))) _ h

no_dots : (ns : List Name) → list_all is_model_name ns ≡ true → Each NoDot ns
no_dots [] h = tt
no_dots (n ∷ ns) h =
    let a = and_parts (is_model_name n) _ h in
    (name_no_dot n a.0, no_dots ns a.1)

own_undotted : (t : Machine) → Each NoDot (gathered own_instruction_names (all_machines t)) → Each NoDot (map instruction_name (instructions_in t))
own_undotted (machine states valid is) h = each_left NoDot (map instruction_name (instructions_in (machine states valid is))) _ h

none_named : (n : Name) (os : List Obligation) → Each (λ q. n ≡ q.called → ⊥) os → is_name_in n (map (λ o. o.called) os) ≡ false
none_named n [] h = refl
none_named n (o ∷ os) h =
    ap (λ b. b || is_name_in n (map (λ o. o.called) os)) (false_unless (same_name n o.called) (λ e. h.0 ((bytes_eq-Decides n o.called).0 e)))
    ∙ none_named n os h.1

never_twice : (os : List Obligation) → Apart os → has_twice (map (λ o. o.called) os) ≡ false
never_twice [] h = refl
never_twice (o ∷ os) h = ap (λ b. b || has_twice (map (λ o. o.called) os)) (none_named o.called os h.0) ∙ never_twice os h.1

pub names_differ : (m : Model) (p : Map) → IsModel m → length p.invariants ≤ 2 ^ 64 → ((n : Name) → bound_named p n ≤ 2 ^ 64)
    → IsFalse (has_twice (map (λ o. o.called) (obligations m p)))
names_differ m p kept few bounded =
    let states = own_states m.top (distinct_right (map (λ i. i.input_name) m.inputs) (gathered state_names (all_machines m.top)) (distinct_from (valued_names m) kept.distinct_names)) in
    never_twice (obligations m p)
    (apart_obligations m p few bounded states (own_instructions m.top (distinct_from (instruction_names_of m) kept.distinct_instruction_names))
    (own_undotted m.top (no_dots (instruction_names_of m) kept.legal_instruction_names)))
