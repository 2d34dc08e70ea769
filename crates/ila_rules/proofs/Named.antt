-- What is gathered of names on the way through a model file is what the rules on names say.
use Rattle.std.proofs.Common.{◌≡◌, ℕ, ◌+◌, ◌≤◌, Bool, true, false, cond, not, ◌&&◌, ◌||◌, List, [], ◌∷◌, ◌++◌, map, sym, refl, ap, ◌∙◌, subst, arith}
use Rattle.std.specs.List.{list_all, list_any, sum_by}
use Rattle.std.specs.List.Sorted.{IsPermutation}
use Rattle.std.proofs.lemmas.List.Folds.{list_all-append}
use Rattle.std.proofs.lemmas.List.Sorted.{IsPermutation-refl, IsPermutation-trans, IsPermutation-append, IsPermutation-append_comm, IsPermutation-append_left, IsPermutation-cons, list_any-IsPermutation, sum_by-IsPermutation}
use Rattle.std.proofs.lemmas.List.Sums.{sum_by-cons}
use Rattle.std.proofs.lemmas.Slice.Eq.{bytes_eq-Decides}
use Rattle.wb_values.specs.Value.{Name, same_name}
use Rattle.model_files.specs.Written.{WrittenMachine, machine, WrittenInstruction, instruction, WrittenInstructions, no_instructions, and_then, WrittenChild, no_child, child, WrittenModel, machines_in, machines_below, machines_of_instruction, machines_of_child}
use Rattle.model_meaning.specs.Among.{is_name_in, has_twice}
use Rattle.wb_values.specs.Names.{is_model_name}
use Rattle.model_files.specs.Names.{data_names, instruction_names, instruction_names_in, joined, all_data_names, all_instruction_names}
use Rattle.model_files.specs.Rules.{has_bad_name, has_duplicate_name}
use Rattle.ila_rules.specs.NameFlaws.{NameSet, no_members, with_member}
use Rattle.ila_rules.proofs.NameFlags.{NameFlags, data_flags, instruction_flags, all_data_flags, flags_in, flags_below, flags_of_instruction, flags_of_child, named_flags, model_name_flags}

-- ---- names against a set of earlier ones

abbrev clash : NameSet → List Name → Bool
clash set ns = list_any set ns || has_twice ns

abbrev with_all : NameSet → List Name → NameSet
with_all set [] = set
with_all set (n ∷ ns) = with_all (with_member n set) ns

one_more : (e a d r : Bool) → (cond e true d || (a || r)) ≡ ((e || a) || (d || r))
one_more true a d r = refl
one_more false true true r = refl
one_more false true false r = refl
one_more false false d r = refl

any_member : (x : Name) (set : NameSet) (zs : List Name) → list_any (with_member x set) zs ≡ (is_name_in x zs || list_any set zs)
any_member x set [] = refl
any_member x set (z ∷ zs) =
    ap (λ b. cond (same_name x z) true (set z) || b) (any_member x set zs) ∙ one_more (same_name x z) (is_name_in x zs) (set z) (list_any set zs)

turned : (d r a t : Bool) → ((d || r) || (a || t)) ≡ (d || ((a || r) || t))
turned true r a t = refl
turned false true true t = refl
turned false true false t = refl
turned false false true t = refl
turned false false false t = refl

clash_step : (set : NameSet) (x : Name) (zs : List Name) → clash set (x ∷ zs) ≡ (set x || clash (with_member x set) zs)
clash_step set x zs =
    turned (set x) (list_any set zs) (is_name_in x zs) (has_twice zs) ∙ ap (λ b. set x || (b || has_twice zs)) (sym (any_member x set zs))

or_or : (a b c : Bool) → ((a || b) || c) ≡ (a || (b || c))
or_or true b c = refl
or_or false b c = refl

clash_append : (set : NameSet) (xs ys : List Name) → clash set (xs ++ ys) ≡ (clash set xs || clash (with_all set xs) ys)
clash_append set [] ys = refl
clash_append set (x ∷ xs) ys =
    clash_step set x (xs ++ ys)
    ∙ (ap (λ b. set x || b) (clash_append (with_member x set) xs ys)
    ∙ (sym (or_or (set x) (clash (with_member x set) xs) (clash (with_all (with_member x set) xs) ys))
    ∙ ap (λ b. b || clash (with_all (with_member x set) xs) ys) (sym (clash_step set x xs))))

all_append : (set : NameSet) (xs ys : List Name) → with_all (with_all set xs) ys ≡ with_all set (xs ++ ys)
all_append set [] ys = refl
all_append set (x ∷ xs) ys = all_append (with_member x set) xs ys

-- ---- what was found, and more names

abbrev names_after : (ds is : List Name) → NameFlags → NameFlags
names_after ds is s = record {
  bad = s.bad || not (list_all is_model_name ds && list_all is_model_name is);
  twice = s.twice || (clash s.data_set ds || clash s.instruction_set is);
  data_set = with_all s.data_set ds;
  instruction_set = with_all s.instruction_set is;
}

four : (a b c d e : Bool) → ((a || not (b && c)) || not (d && e)) ≡ (a || not ((b && d) && (c && e)))
four true b c d e = refl
four false true true d e = refl
four false true false true e = refl
four false true false false e = refl
four false false c d e = refl

five : (t a b c d : Bool) → ((t || (a || b)) || (c || d)) ≡ (t || ((a || c) || (b || d)))
five true a b c d = refl
five false true b c d = refl
five false false true true d = refl
five false false true false d = refl
five false false false c d = refl

after_after : (ds es is js : List Name) (s : NameFlags) → names_after es js (names_after ds is s) ≡ names_after (ds ++ es) (is ++ js) s
after_after ds es is js s = λ i. record {
  bad = (four s.bad (list_all is_model_name ds) (list_all is_model_name is) (list_all is_model_name es) (list_all is_model_name js)
      ∙ (ap (λ b. s.bad || not (b && (list_all is_model_name is && list_all is_model_name js))) (sym (list_all-append is_model_name ds es))
      ∙ ap (λ b. s.bad || not (list_all is_model_name (ds ++ es) && b)) (sym (list_all-append is_model_name is js)))) i;
  twice = (five s.twice (clash s.data_set ds) (clash s.instruction_set is) (clash (with_all s.data_set ds) es) (clash (with_all s.instruction_set is) js)
      ∙ (ap (λ b. s.twice || (b || (clash s.instruction_set is || clash (with_all s.instruction_set is) js))) (sym (clash_append s.data_set ds es))
      ∙ ap (λ b. s.twice || (clash s.data_set (ds ++ es) || b)) (sym (clash_append s.instruction_set is js)))) i;
  data_set = all_append s.data_set ds es i;
  instruction_set = all_append s.instruction_set is js i;
}

or_false : (b : Bool) → b ≡ (b || false)
or_false true = refl
or_false false = refl

and_true : (b : Bool) → b ≡ (b && true)
and_true true = refl
and_true false = refl

nothing_after : (s : NameFlags) → s ≡ names_after [] [] s
nothing_after s = λ i. record { bad = or_false s.bad i; twice = or_false s.twice i; data_set = s.data_set; instruction_set = s.instruction_set }

only : (d : Bool) → d ≡ (((d || false) || false) || false)
only true = refl
only false = refl

only_second : (d : Bool) → d ≡ ((d || false) || false)
only_second true = refl
only_second false = refl

data_after : (n : Name) (s : NameFlags) → data_flags n s ≡ names_after (n ∷ []) [] s
unfolding data_flags
data_after n s = λ i. record {
  bad = ap (λ b. s.bad || not b) (and_true (is_model_name n) ∙ and_true (is_model_name n && true)) i;
  twice = ap (λ b. s.twice || b) (only (s.data_set n)) i;
  data_set = with_member n s.data_set;
  instruction_set = s.instruction_set;
}

instruction_after : (n : Name) (s : NameFlags) → instruction_flags n s ≡ names_after [] (n ∷ []) s
unfolding instruction_flags
instruction_after n s = λ i. record {
  bad = ap (λ b. s.bad || not b) (and_true (is_model_name n)) i;
  twice = ap (λ b. s.twice || b) (only_second (s.instruction_set n)) i;
  data_set = s.data_set;
  instruction_set = with_member n s.instruction_set;
}

all_data_after : (ns : List Name) (s : NameFlags) → all_data_flags ns s ≡ names_after ns [] s
all_data_after [] s = nothing_after s
all_data_after (n ∷ ns) s = all_data_after ns (data_flags n s) ∙ (ap (names_after ns []) (data_after n s) ∙ after_after (n ∷ []) ns [] [] s)

-- ---- the names of machines, instructions in the order in which a model is gone through

append_assoc : {A : Type 0} (xs ys zs : List A) → xs ++ (ys ++ zs) ≡ (xs ++ ys) ++ zs
append_assoc [] ys zs = refl
append_assoc (x ∷ xs) ys zs = ap (λ rs. x ∷ rs) (append_assoc xs ys zs)

joined_append : (f : WrittenMachine → List Name) (ms ns : List WrittenMachine) → joined (map f ms) ++ joined (map f ns) ≡ joined (map f (ms ++ ns))
joined_append f [] ns = refl
joined_append f (m ∷ ms) ns = sym (append_assoc (f m) (joined (map f ms)) (joined (map f ns))) ∙ ap (λ rs. f m ++ rs) (joined_append f ms ns)

abbrev data_of : List WrittenMachine → List Name
data_of ms = joined (map data_names ms)

abbrev instructions_of : List WrittenMachine → List Name
instructions_of ms = joined (map instruction_names ms)

abbrev mutual
  file_in : WrittenMachine → List Name
  file_in (machine ss ds f v is) = file_below is

  file_below : WrittenInstructions → List Name
  file_below no_instructions = []
  file_below (and_then i is) = file_of i ++ file_below is

  file_of : WrittenInstruction → List Name
  file_of (instruction called d u program) = called ∷ file_child program

  file_child : WrittenChild → List Name
  file_child no_child = []
  file_child (child steps program) = file_in program

mutual
  machine_named : (m : WrittenMachine) (s : NameFlags) → flags_in m s ≡ names_after (data_of (machines_in m)) (file_in m) s
  machine_named (machine ss ds f v is) s =
      let names = map (λ d. d.state_name) ss in
      let defs = map (λ d. d.0) ds in
      below_named is (all_data_flags defs (all_data_flags names s))
      ∙ (ap (names_after (data_of (machines_below is)) (file_below is))
      (all_data_after defs (all_data_flags names s) ∙ ap (names_after defs []) (all_data_after names s))
      ∙ (after_after defs (data_of (machines_below is)) [] (file_below is) (names_after names [] s)
      ∙ (after_after names (defs ++ data_of (machines_below is)) [] (file_below is) s
      ∙ ap (λ ns. names_after ns (file_below is) s) (append_assoc names defs (data_of (machines_below is))))))

  below_named : (is : WrittenInstructions) (s : NameFlags) → flags_below is s ≡ names_after (data_of (machines_below is)) (file_below is) s
  below_named no_instructions s = nothing_after s
  below_named (and_then i is) s =
      below_named is (flags_of_instruction i s)
      ∙ (ap (names_after (data_of (machines_below is)) (file_below is)) (instruction_named i s)
      ∙ (after_after (data_of (machines_of_instruction i)) (data_of (machines_below is)) (file_of i) (file_below is) s
      ∙ ap (λ ns. names_after ns (file_of i ++ file_below is) s) (joined_append data_names (machines_of_instruction i) (machines_below is))))

  instruction_named : (i : WrittenInstruction) (s : NameFlags) → flags_of_instruction i s ≡ names_after (data_of (machines_of_instruction i)) (file_of i) s
  instruction_named (instruction called d u program) s =
      child_named program (instruction_flags called s)
      ∙ (ap (names_after (data_of (machines_of_child program)) (file_child program)) (instruction_after called s)
      ∙ after_after [] (data_of (machines_of_child program)) (called ∷ []) (file_child program) s)

  child_named : (c : WrittenChild) (s : NameFlags) → flags_of_child c s ≡ names_after (data_of (machines_of_child c)) (file_child c) s
  child_named no_child s = nothing_after s
  child_named (child steps program) s = machine_named program s

-- ---- that order against the order of the machines

moved : (xs ys zs : List Name) → IsPermutation (xs ++ (ys ++ zs)) (ys ++ (xs ++ zs))
moved xs ys zs =
    subst (λ a. IsPermutation a (ys ++ (xs ++ zs))) (sym (append_assoc xs ys zs))
    (subst (λ b. IsPermutation ((xs ++ ys) ++ zs) b) (sym (append_assoc ys xs zs))
    (IsPermutation-append_left zs (xs ++ ys) (ys ++ xs) (IsPermutation-append_comm xs ys)))

mutual
  machine_moved : (m : WrittenMachine) → IsPermutation (file_in m) (instructions_of (machines_in m))
  machine_moved (machine ss ds f v is) = below_moved is

  below_moved : (is : WrittenInstructions) → IsPermutation (file_below is) (instruction_names_in is ++ instructions_of (machines_below is))
  below_moved no_instructions = IsPermutation-refl []
  below_moved (and_then (instruction called d u program) is) =
      let below = instructions_of (machines_below is) in
      let inner = instructions_of (machines_of_child program) in
      IsPermutation-cons called (file_child program ++ file_below is) (instruction_names_in is ++ instructions_of (machines_of_child program ++ machines_below is))
      (subst (λ b. IsPermutation (file_child program ++ file_below is) (instruction_names_in is ++ b)) (joined_append instruction_names (machines_of_child program) (machines_below is))
      (IsPermutation-trans (file_child program ++ file_below is) (inner ++ (instruction_names_in is ++ below)) (instruction_names_in is ++ (inner ++ below))
      (IsPermutation-append (file_child program) inner (file_below is) (instruction_names_in is ++ below) (child_moved program) (below_moved is))
      (moved inner (instruction_names_in is) below)))

  child_moved : (c : WrittenChild) → IsPermutation (file_child c) (instructions_of (machines_of_child c))
  child_moved no_child = IsPermutation-refl []
  child_moved (child steps program) = machine_moved program

all_none : (p : Name → Bool) (ns : List Name) → list_all p ns ≡ not (list_any (λ n. not (p n)) ns)
all_none p [] = refl
all_none p (n ∷ ns) = ap (λ b. p n && b) (all_none p ns) ∙ by_value (p n) (list_any (λ k. not (p k)) ns) where
  by_value : (a b : Bool) → (a && not b) ≡ not (not a || b)
  by_value true b = refl
  by_value false b = refl

all_moved : (p : Name → Bool) (xs ys : List Name) → IsPermutation xs ys → list_all p xs ≡ list_all p ys
all_moved p xs ys h = all_none p xs ∙ (ap not (list_any-IsPermutation (λ n. not (p n)) xs ys h) ∙ sym (all_none p ys))

-- ---- a name that stands twice is counted twice

abbrev one_if : Name → Name → ℕ
one_if n k = cond (same_name n k) 1 0

count : Name → List Name → ℕ
count n [] = 0
count n (k ∷ ks) = one_if n k + count n ks

counted : (n : Name) (ks : List Name) → count n ks ≡ sum_by (one_if n) ks
unfolding count
counted n [] = refl
counted n (k ∷ ks) = ap (λ c. one_if n k + c) (counted n ks) ∙ sym (sum_by-cons (one_if n) k ks)

among_counted : (n : Name) (ks : List Name) → is_name_in n ks ≡ true → 1 ≤ count n ks
unfolding count
among_counted n [] h = cc
among_counted n (k ∷ ks) h = by_value (same_name n k) h (among_counted n ks) where
  by_value : (b : Bool) → (b || is_name_in n ks) ≡ true → (is_name_in n ks ≡ true → 1 ≤ count n ks) → 1 ≤ cond b 1 0 + count n ks
  by_value true h f = omega arith
  by_value false h f = let g = f h in omega arith

counted_among : (n : Name) (ks : List Name) → 1 ≤ count n ks → is_name_in n ks ≡ true
unfolding count
counted_among n [] h = absurd (omega arith)
counted_among n (k ∷ ks) h = by_value (same_name n k) h (counted_among n ks) where
  by_value : (b : Bool) → 1 ≤ cond b 1 0 + count n ks → (1 ≤ count n ks → is_name_in n ks ≡ true) → (b || is_name_in n ks) ≡ true
  by_value true h f = refl
  by_value false h f = f (omega arith)

same_refl : (n : Name) → same_name n n ≡ true
same_refl n = (bytes_eq-Decides n n).1 refl

more_of : (a c : ℕ) → 2 ≤ c → 2 ≤ a + c
more_of a c h = omega arith

one_and : (c : ℕ) → 1 ≤ c → 2 ≤ 1 + c
one_and c h = omega arith

twice_counted : (ns : List Name) → has_twice ns ≡ true → (n : Name) × (2 ≤ count n ns)
unfolding count
twice_counted [] h = cc
twice_counted (k ∷ ks) h = by_value (is_name_in k ks) (among_counted k ks) h (twice_counted ks) where
  by_value : (b : Bool) → (b ≡ true → 1 ≤ count k ks) → (b || has_twice ks) ≡ true → (has_twice ks ≡ true → (n : Name) × (2 ≤ count n ks)) → (n : Name) × (2 ≤ one_if n k + count n ks)
  by_value true e h f = (k, subst (λ b. 2 ≤ cond b 1 0 + count k ks) (sym (same_refl k)) (one_and (count k ks) (e refl)))
  by_value false e h f = let p = f h in (p.0, more_of (one_if p.0 k) (count p.0 ks) p.1)

or_true : (a b : Bool) → b ≡ true → (a || b) ≡ true
or_true true b h = refl
or_true false b h = h

or_first : (a b : Bool) → a ≡ true → (a || b) ≡ true
or_first true b h = refl
or_first false b h = cc

at_least : (c : ℕ) → 2 ≤ 1 + c → 1 ≤ c
at_least c h = omega arith

zero_more : (c : ℕ) → 2 ≤ 0 + c → 2 ≤ c
zero_more c h = omega arith

counted_twice : (n : Name) (ks : List Name) → 2 ≤ count n ks → has_twice ks ≡ true
unfolding count
counted_twice n [] h = absurd (omega arith)
counted_twice n (k ∷ ks) h = by_value (same_name n k) (λ e. (bytes_eq-Decides n k).0 e) h (counted_twice n ks) where
  by_value : (b : Bool) → (b ≡ true → n ≡ k) → 2 ≤ cond b 1 0 + count n ks → (2 ≤ count n ks → has_twice ks ≡ true) → (is_name_in k ks || has_twice ks) ≡ true
  by_value true e h f = or_first (is_name_in k ks) (has_twice ks) (subst (λ m. is_name_in m ks ≡ true) (e refl) (counted_among n ks (at_least (count n ks) h)))
  by_value false e h f = or_true (is_name_in k ks) (has_twice ks) (f (zero_more (count n ks) h))

equal_if : (a b : Bool) → (a ≡ true → b ≡ true) → (b ≡ true → a ≡ true) → a ≡ b
equal_if true b f g = sym (f refl)
equal_if false true f g = g refl
equal_if false false f g = refl

count_moved : (n : Name) (xs ys : List Name) → IsPermutation xs ys → count n xs ≡ count n ys
count_moved n xs ys h = counted n xs ∙ (sym (sum_by-IsPermutation (one_if n) xs ys h) ∙ sym (counted n ys))

twice_moved : (xs ys : List Name) → IsPermutation xs ys → has_twice xs ≡ has_twice ys
twice_moved xs ys h = equal_if (has_twice xs) (has_twice ys)
    (λ e. let p = twice_counted xs e in counted_twice p.0 ys (subst (λ c. 2 ≤ c) (count_moved p.0 xs ys h) p.1))
    (λ e. let p = twice_counted ys e in counted_twice p.0 xs (subst (λ c. 2 ≤ c) (sym (count_moved p.0 xs ys h)) p.1))

-- ---- the whole file

none_known : (ns : List Name) → list_any no_members ns ≡ false
none_known [] = refl
none_known (n ∷ ns) = none_known ns

not_and : (a b : Bool) → (not a || not b) ≡ not (a && b)
not_and true b = refl
not_and false b = refl

model_named : (m : WrittenModel) → model_name_flags m ≡ names_after (all_data_names m) (file_in m.top) (named_flags m.model_name)
model_named m =
    let inputs = map (λ i. i.input_name) m.inputs in
    machine_named m.top (all_data_flags inputs (named_flags m.model_name))
    ∙ (ap (names_after (data_of (machines_in m.top)) (file_in m.top)) (all_data_after inputs (named_flags m.model_name))
    ∙ after_after inputs (data_of (machines_in m.top)) [] (file_in m.top) (named_flags m.model_name))

pub bad_named : (m : WrittenModel) → (model_name_flags m).bad ≡ has_bad_name m
bad_named m =
    ap (λ (s : NameFlags). s.bad) (model_named m)
    ∙ (not_and (is_model_name m.model_name) (list_all is_model_name (all_data_names m) && list_all is_model_name (file_in m.top))
    ∙ ap (λ b. not (is_model_name m.model_name && (list_all is_model_name (all_data_names m) && b))) (all_moved is_model_name (file_in m.top) (all_instruction_names m) (machine_moved m.top)))

pub twice_named : (m : WrittenModel) → (model_name_flags m).twice ≡ has_duplicate_name m
twice_named m =
    ap (λ (s : NameFlags). s.twice) (model_named m)
    ∙ (ap (λ b. (b || has_twice (all_data_names m)) || clash no_members (file_in m.top)) (none_known (all_data_names m))
    ∙ (ap (λ b. has_twice (all_data_names m) || (b || has_twice (file_in m.top))) (none_known (file_in m.top))
    ∙ ap (λ b. has_twice (all_data_names m) || b) (twice_moved (file_in m.top) (all_instruction_names m) (machine_moved m.top))))
