-- What calls leave, one after the other: the store and the table go on from what was lent.
use Rattle.std.proofs.Common.{◌≡◌, ℕ, suc, ◌+◌, ◌<◌, ◌≤◌, false, List, [], ◌∷◌, ◌++◌, length, map, Bor, Option, Some, None, refl, sym, ap, ◌∙◌, subst, arith, length-append, append_assoc}
use Rattle.std.proofs.lemmas.List.{length-map, append-nil}
use Rattle.std.specs.Prelude.{Result, Ok, Err, OnOk, OnErr}
use Rattle.std.specs.Ordering.{nat_cmp}
use Rattle.std.specs.Cmp.Lexicographic.{slice_cmp}
use Rattle.std.specs.BTreeMap.{BTreeMap, is_at}
use Rattle.std.specs.Map.{lookup}
use Rattle.wb_values.specs.Value.{Name, Sort, Entries, same_name}
use Rattle.model_meaning.specs.Term.{Term}
use Rattle.model_meaning.specs.Model.{StateDeclaration}
use Rattle.model_meaning.specs.Among.{is_name_in}
use Rattle.model_files.specs.Names.{data_names}
use Rattle.model_files.specs.Written.{WrittenTerm, name, constant_truth, const, unary, binary, extract, widen, ite, store, WrittenInstruction, instruction, WrittenInstructions, and_then, WrittenMachine, machine, child, states_in, machines_below, machines_of_child}
use Rattle.wb_terms.specs.declared.nodes.TermId.{TermId}
use Rattle.wb_terms.specs.declared.nodes.Node.{Node}
use Rattle.wb_terms.specs.declared.store.PutStop.{PutStop}
use Rattle.wb_terms.specs.declared.store.PutStop.TheVariants.{BadSort, NoMemory}
use Rattle.wb_terms.specs.Graph.{Graph, trees_of, with_name, with_node}
use Rattle.ila_model.specs.declared.parts.Child.{Child}
use Rattle.ila_build.specs.Standing.{IsIn, AreIn, IsGrown, IsKept, IsPut, IsWider, under_name}
use Rattle.ila_build.specs.Knowing.{defined_names}
use Rattle.ila_build.specs.Declaring.{state_entry}
use Rattle.ila_build.specs.Building.{decode_in, update_in, definitions_in, fetch_in, valid_in, own_instructions}
use Rattle.ila_build.specs.Inside.{program_in}
use Rattle.ila_build.specs.Refusing.{IsBesides, entry_names, names_below, names_of_child}
use Rattle.ila_build.specs.Leaving.{IsLeft, HasInFront}
use Rattle.ila_build.specs.Sizes.{terms_of_name, terms_for, size_of, sizes_of, fetch_size, instruction_size, instruction_sizes, own_size, machine_size, machine_sizes, size_below, size_of_child}
use Rattle.ila_build.proofs.Growing.{wider, widen as onward_wider, wide_same, are_in-grown, are_in-wider}
use Rattle.ila_build.proofs.Definitions.{kept_same, kept_onward}
use Rattle.ila_build.proofs.Declared.{wide_name}
use Rattle.ila_build.proofs.Fresh.{among-append, besides_same, besides_onward, besides_one}
use Rattle.ila_build.proofs.ChildDue.{data_names_are, first_names, program_names}
use Rattle.ila_build.proofs.Sorting.{or_parts}

-- ---- how many terms

pub added_as : (g h : Graph) (n : Node) (r : Result TermId PutStop) → OnOk r (h ≡ with_node g n) → OnErr r (h ≡ g) → length h.nodes ≤ length g.nodes + 1
added_as g h n (Ok id) o e =
    let l : length h.nodes ≡ length g.nodes + 1 = ap (λ (f : Graph). length f.nodes) o ∙ length-append g.nodes (n ∷ []) in
    omega (arith, l)
added_as g h n (Err s) o e =
    let l : length h.nodes ≡ length g.nodes = ap (λ (f : Graph). length f.nodes) e in
    omega (arith, l)

one_at_most : (o : Option TermId) → terms_of_name o ≤ 1
one_at_most None = omega arith
one_at_most (Some id) = omega arith

-- whatever the names stand for
pub at_most : (at : Name → Option TermId) (w : WrittenTerm) → terms_for at w ≤ size_of w
at_most at (name n) = one_at_most (at n)
at_most at (constant_truth b) = omega arith
at_most at (const w x) = omega arith
at_most at (unary op x) = let a = at_most at x in omega (arith, a)
at_most at (binary op x y) = let a = at_most at x in let b = at_most at y in omega (arith, a, b)
at_most at (extract h l x) = let a = at_most at x in omega (arith, a)
at_most at (widen z n x) = let a = at_most at x in omega (arith, a)
at_most at (ite c x y) = let a = at_most at c in let b = at_most at x in let d = at_most at y in omega (arith, a, b, d)
at_most at (store m i x) = let a = at_most at m in let b = at_most at i in let d = at_most at x in omega (arith, a, b, d)

pub sized : (a b : ℕ) (at : Name → Option TermId) (w : WrittenTerm) → b ≤ a + terms_for at w → b ≤ a + size_of w
sized a b at w h = let m = at_most at w in omega (arith, h, m)

-- ---- what is left

pub left_same : (g : Graph) (t : BTreeMap (Bor (List ℕ)) TermId) (ns : List Name) (n : ℕ) → AreIn g t None → IsLeft g t g t ns n
left_same g t ns n i = record { wider = wide_same g; kept = kept_same t; besides = besides_same t ns; in_store = i; added = omega arith }

pub left_grown : (g h : Graph) (t : BTreeMap (Bor (List ℕ)) TermId) (ns : List Name) (n : ℕ) → AreIn g t None → IsGrown g h → length h.nodes ≤ length g.nodes + n → IsLeft g t h t ns n
left_grown g h t ns n i b a = record { wider = wider b; kept = kept_same t; besides = besides_same t ns; in_store = are_in-grown g h t None b i; added = a }

pub left_onward : (f g h : Graph) (t u v : BTreeMap (Bor (List ℕ)) TermId) (ns ms : List Name) (n m : ℕ) → IsLeft f t g u ns n → IsLeft g u h v ms m → IsLeft f t h v (ns ++ ms) (n + m)
left_onward f g h t u v ns ms n m a b = record {
  wider = onward_wider a.wider b.wider;
  kept = kept_onward t u v a.kept b.kept;
  besides = besides_onward t u v ns ms a.besides b.besides;
  in_store = b.in_store;
  added = let x = a.added in let y = b.added in omega (arith, x, y);
}

pub besides_more : (t u : BTreeMap (Bor (List ℕ)) TermId) (ns ms : List Name) → IsBesides t u ns → IsBesides t u (ns ++ ms)
unfolding IsBesides
besides_more t u ns ms b q h = b q (or_parts (is_name_in q ns) (is_name_in q ms) (sym (among-append q ns ms) ∙ h)).0

pub left_more : (g h : Graph) (t u : BTreeMap (Bor (List ℕ)) TermId) (ns ms : List Name) (n m : ℕ) → IsLeft g t h u ns n → IsLeft g t h u (ns ++ ms) (n + m)
left_more g h t u ns ms n m a = record {
  wider = a.wider;
  kept = a.kept;
  besides = besides_more t u ns ms a.besides;
  in_store = a.in_store;
  added = let x = a.added in omega (arith, x);
}

-- more terms of a grown store
pub left_behind : (f g h : Graph) (t u : BTreeMap (Bor (List ℕ)) TermId) (ns : List Name) (n m : ℕ) → IsLeft f t g u ns n → IsGrown g h → length h.nodes ≤ length g.nodes + m → IsLeft f t h u ns (n + m)
left_behind f g h t u ns n m a b d = record {
  wider = onward_wider a.wider (wider b);
  kept = a.kept;
  besides = a.besides;
  in_store = are_in-grown g h u None b a.in_store;
  added = let x = a.added in omega (arith, x, d);
}

pub left_up_to : (g h : Graph) (t u : BTreeMap (Bor (List ℕ)) TermId) (ns : List Name) (n m : ℕ) → n ≤ m → IsLeft g t h u ns n → IsLeft g t h u ns m
left_up_to g h t u ns n m l a = record { wider = a.wider; kept = a.kept; besides = a.besides; in_store = a.in_store; added = let x = a.added in omega (arith, x, l) }

-- ---- a loop: what is left of the rest is left of all

abbrev pub IsLeaving : Graph → BTreeMap (Bor (List ℕ)) TermId → Graph → BTreeMap (Bor (List ℕ)) TermId → (rest : List Name) → (left : ℕ) → (all : List Name) → (most : ℕ) → Type 0
IsLeaving f t g u ns n all m = (h : Graph) (v : BTreeMap (Bor (List ℕ)) TermId) → IsLeft g u h v ns n → IsLeft f t h v all m

pub leave_start : (g : Graph) (t : BTreeMap (Bor (List ℕ)) TermId) (ns : List Name) (n : ℕ) → IsLeaving g t g t ns n ns n
leave_start g t ns n h v l = l

pub leave_turn : (f g h : Graph) (t u v : BTreeMap (Bor (List ℕ)) TermId) (ns ms all : List Name) (n m most : ℕ) → IsLeaving f t g u (ns ++ ms) (n + m) all most → IsLeft g u h v ns n → IsLeaving f t h v ms m all most
leave_turn f g h t u v ns ms all n m most a b k w l = a k w (left_onward g h k u v w ns ms n m b l)

pub leave_lost : (f g h : Graph) (t u v : BTreeMap (Bor (List ℕ)) TermId) (ns ms all : List Name) (n m most : ℕ) → IsLeaving f t g u (ns ++ ms) (n + m) all most → IsLeft g u h v ns n → IsLeft f t h v all most
leave_lost f g h t u v ns ms all n m most a b = a h v (left_more g h u v ns ms n m b)

pub leave_end : (f g : Graph) (t u : BTreeMap (Bor (List ℕ)) TermId) (all : List Name) (most : ℕ) → AreIn g u None → IsLeaving f t g u [] 0 all most → IsLeft f t g u all most
leave_end f g t u all most i a = a g u (left_same g u [] 0 i)

-- ---- one name

pub same_under : (t u : BTreeMap (Bor (List ℕ)) TermId) → u.entries ≡ t.entries → (q : Name) → under_name u q ≡ under_name t q
same_under t u e q = ap (lookup (is_at (λ k. slice_cmp nat_cmp q k.now))) e

pub kept_if : (t u : BTreeMap (Bor (List ℕ)) TermId) → ((q : Name) → under_name u q ≡ under_name t q) → IsKept t u
unfolding IsKept
kept_if t u s n i e = s n ∙ e

pub in_if : (g : Graph) (t u : BTreeMap (Bor (List ℕ)) TermId) → ((q : Name) → under_name u q ≡ under_name t q) → AreIn g t None → AreIn g u None
unfolding AreIn
in_if g t u s i n = subst (IsIn g) (sym (s n)) (i n)

pub grown_of : (g h : Graph) (r : Result TermId PutStop) (t : Term) → IsPut g h r t → IsGrown g h
grown_of g h (Ok id) t p = p.0
grown_of g h (Err BadSort) t p = p.0
grown_of g h (Err NoMemory) t p = p

pub left_named : (g h : Graph) (t u : BTreeMap (Bor (List ℕ)) TermId) (m : Name) (n : ℕ) → IsWider g h → IsKept t u → ((q : Name) → same_name m q ≡ false → under_name u q ≡ under_name t q)
    → AreIn h u None → length h.nodes ≤ length g.nodes + n → IsLeft g t h u (m ∷ []) n
left_named g h t u m n w k a i l = record { wider = w; kept = k; besides = besides_one t u m a; in_store = i; added = l }

pub left_equal : (g h : Graph) (t : BTreeMap (Bor (List ℕ)) TermId) (ns : List Name) (n : ℕ) → AreIn g t None → h ≡ g → IsLeft g t h t ns n
left_equal g h t ns n i e = subst (λ k. IsLeft g t k t ns n) (sym e) (left_same g t ns n i)

-- a name is declared, and its term is not put
pub left_declared : (g m h : Graph) (t : BTreeMap (Bor (List ℕ)) TermId) (ns : List Name) (n : Name) (s : Sort) (most : ℕ) → AreIn g t None → m ≡ with_name g n s → trees_of m ≡ trees_of g → h ≡ m → IsLeft g t h t ns most
left_declared g m h t ns n s most i e ts f =
    let w : IsWider g m = wide_name g m n s e ts in
    let l : length m.nodes ≡ length g.nodes = ap (λ (k : Graph). length k.nodes) e in
    subst (λ k. IsLeft g t k t ns most) (sym f) (record { wider = w; kept = kept_same t; besides = besides_same t ns; in_store = are_in-wider g m t None w i; added = omega (arith, l) })

one_more : (m h : Graph) (d : Node) → h ≡ with_node m d → length h.nodes ≡ length m.nodes + 1
one_more m h d f = ap (λ (k : Graph). length k.nodes) f ∙ length-append m.nodes (d ∷ [])

pub last_in : (m h : Graph) (d : Node) (id : TermId) → h ≡ with_node m d → id.0 ≡ length m.nodes → id.0 < length h.nodes
last_in m h d id f e = let l = one_more m h d f in omega (arith, l, e)

pub one_added : (g m h : Graph) (n : Name) (s : Sort) (d : Node) → m ≡ with_name g n s → h ≡ with_node m d → length h.nodes ≤ length g.nodes + 1
one_added g m h n s d e f =
    let l = one_more m h d f in
    let k : length m.nodes ≡ length g.nodes = ap (λ (x : Graph). length x.nodes) e in
    omega (arith, l, k)

-- ---- declarations

pub leave_item : {e : Name × Sort} (f g h : Graph) (t u v : BTreeMap (Bor (List ℕ)) TermId) (rest now all : Entries Sort) → now ≡ e ∷ rest
    → IsLeaving f t g u (entry_names now) (length now) (entry_names all) (length all) → IsLeft g u h v (e.0 ∷ []) 1 → IsLeaving f t h v (entry_names rest) (length rest) (entry_names all) (length all)
leave_item {e} f g h t u v rest now all cut a b =
    let one : suc (length rest) ≡ 1 + length rest = omega arith in
    leave_turn f g h t u v (e.0 ∷ []) (entry_names rest) (entry_names all) 1 (length rest) (length all)
    (subst (λ k. IsLeaving f t g u (entry_names (e ∷ rest)) k (entry_names all) (length all)) one (subst (λ es. IsLeaving f t g u (entry_names es) (length es) (entry_names all) (length all)) cut a)) b

pub leave_item_lost : {e : Name × Sort} (f g h : Graph) (t u v : BTreeMap (Bor (List ℕ)) TermId) (rest now all : Entries Sort) → now ≡ e ∷ rest
    → IsLeaving f t g u (entry_names now) (length now) (entry_names all) (length all) → IsLeft g u h v (e.0 ∷ []) 1 → IsLeft f t h v (entry_names all) (length all)
leave_item_lost {e} f g h t u v rest now all cut a b =
    let one : suc (length rest) ≡ 1 + length rest = omega arith in
    leave_lost f g h t u v (e.0 ∷ []) (entry_names rest) (entry_names all) 1 (length rest) (length all)
    (subst (λ k. IsLeaving f t g u (entry_names (e ∷ rest)) k (entry_names all) (length all)) one (subst (λ es. IsLeaving f t g u (entry_names es) (length es) (entry_names all) (length all)) cut a)) b

pub as_many : {A B C : Type 0} (f : A → B) (k : B → C) (xs : List A) → length (map k (map f xs)) ≡ length xs
as_many f k xs = length-map (map f xs) k ∙ length-map xs f

-- ---- instructions

pub decode_added : (a b : ℕ) (w : WrittenInstruction) (at : Name → Option TermId) (d : WrittenTerm) → d ≡ decode_in w → b ≤ a + terms_for at d → b ≤ a + instruction_size w
decode_added a b (instruction n e us p) at d q h = let s = sized a b at d h in let z = ap size_of q in omega (arith, s, z)

pub updates_added : (a b c : ℕ) (w : WrittenInstruction) (at : Name → Option TermId) (d : WrittenTerm) (vs : Entries WrittenTerm) → d ≡ decode_in w → vs ≡ update_in w
    → b ≤ a + terms_for at d → c ≤ b + sizes_of vs → c ≤ a + instruction_size w
updates_added a b c (instruction n e us p) at d vs q r h k = let s = sized a b at d h in let z = ap size_of q in let y = ap sizes_of r in omega (arith, s, z, y, k)

-- ---- machines

pub fetch_added : (a b : ℕ) (at : Name → Option TermId) (w : WrittenTerm) (f : Option WrittenTerm) → f ≡ Some w → b ≤ a + terms_for at w → b ≤ a + fetch_size f
fetch_added a b at w f e h = let s = sized a b at w h in let z = ap fetch_size e in omega (arith, s, z)

machine_parts : (w : WrittenMachine) → own_size w ≡ sizes_of (definitions_in w) + (fetch_size (fetch_in w) + (size_of (valid_in w) + instruction_sizes (own_instructions w)))
machine_parts (machine ss ds f v is) = refl

pub machine_left : (g d h : Graph) (t u : BTreeMap (Bor (List ℕ)) TermId) (w : WrittenMachine) (ds : Entries WrittenTerm) (n : ℕ) → ds ≡ definitions_in w → IsLeft g t d u (defined_names ds) (sizes_of ds)
    → IsGrown d h → length h.nodes ≤ length d.nodes + n → n ≤ fetch_size (fetch_in w) + (size_of (valid_in w) + instruction_sizes (own_instructions w)) → IsLeft g t h u (defined_names (definitions_in w)) (own_size w)
machine_left g d h t u w ds n e a b l k =
    let p = machine_parts w in
    let z = ap sizes_of e in
    subst (λ xs. IsLeft g t h u (defined_names xs) (own_size w)) e
    (left_up_to g h t u (defined_names ds) (sizes_of ds + n) (own_size w) (omega (arith, p, z, k)) (left_behind g d h t u (defined_names ds) (sizes_of ds) n a b l))

-- ---- child programs

machine_size_parts : (w : WrittenMachine) → machine_size w ≡ length (states_in w) + own_size w
machine_size_parts (machine ss ds f v is) = refl

pub states_left : (g m : Graph) (t r : BTreeMap (Bor (List ℕ)) TermId) (ss : List StateDeclaration) (n : ℕ) (w : WrittenMachine) → ss ≡ states_in w → n ≡ length ss
    → IsLeft g t m r (entry_names (map state_entry ss)) n → IsLeft g t m r (data_names w) (machine_size w)
states_left g m t r ss n w e k a =
    let p = machine_size_parts w in
    let l = ap length e in
    subst (λ ns. IsLeft g t m r ns (machine_size w)) (ap (λ x. entry_names (map state_entry x) ++ defined_names (definitions_in w)) e ∙ sym (data_names_are w))
    (left_up_to g m t r _ (n + own_size w) (machine_size w) (omega (arith, p, l, k)) (left_more g m t r (entry_names (map state_entry ss)) (defined_names (definitions_in w)) n (own_size w) a))

pub child_left : (g m h : Graph) (t r u : BTreeMap (Bor (List ℕ)) TermId) (ss : List StateDeclaration) (n : ℕ) (w : WrittenMachine) → ss ≡ states_in w → n ≡ length ss
    → IsLeft g t m r (entry_names (map state_entry ss)) n → IsLeft m r h u (defined_names (definitions_in w)) (own_size w) → IsLeft g t h u (data_names w) (machine_size w)
child_left g m h t r u ss n w e k a b =
    let p = machine_size_parts w in
    let l = ap length e in
    subst (λ ns. IsLeft g t h u ns (machine_size w)) (ap (λ x. entry_names (map state_entry x) ++ defined_names (definitions_in w)) e ∙ sym (data_names_are w))
    (left_up_to g h t u _ (n + own_size w) (machine_size w) (omega (arith, p, l, k)) (left_onward g m h t r u (entry_names (map state_entry ss)) (defined_names (definitions_in w)) n (own_size w) a b))

-- ---- with those inside them

sizes-append : (xs ys : List WrittenMachine) → machine_sizes (xs ++ ys) ≡ machine_sizes xs + machine_sizes ys
sizes-append [] ys = omega arith
sizes-append (x ∷ xs) ys = let e = sizes-append xs ys in omega (arith, e)

first_size : (i : WrittenInstruction) (is : WrittenInstructions) → size_below (and_then i is) ≡ size_of_child (program_in i) + size_below is
first_size (instruction n d u p) is = sizes-append (machines_of_child p) (machines_below is)

program_size : (steps : ℕ) (m : WrittenMachine) → size_of_child (child steps m) ≡ machine_size m + size_below (own_instructions m)
program_size steps (machine ss ds f v is) = refl

pub leave_below : (f g h : Graph) (t u v : BTreeMap (Bor (List ℕ)) TermId) (i : WrittenInstruction) (now rest all : WrittenInstructions) → now ≡ and_then i rest
    → IsLeaving f t g u (names_below now) (size_below now) (names_below all) (size_below all) → IsLeft g u h v (names_of_child (program_in i)) (size_of_child (program_in i))
    → IsLeaving f t h v (names_below rest) (size_below rest) (names_below all) (size_below all)
leave_below f g h t u v i now rest all cut a b =
    leave_turn f g h t u v (names_of_child (program_in i)) (names_below rest) (names_below all) (size_of_child (program_in i)) (size_below rest) (size_below all)
    (subst (λ n. IsLeaving f t g u (names_of_child (program_in i) ++ names_below rest) n (names_below all) (size_below all)) (ap size_below cut ∙ first_size i rest)
    (subst (λ ns. IsLeaving f t g u ns (size_below now) (names_below all) (size_below all)) (ap names_below cut ∙ first_names i rest) a)) b

pub leave_below_lost : (f g h : Graph) (t u v : BTreeMap (Bor (List ℕ)) TermId) (i : WrittenInstruction) (now rest all : WrittenInstructions) → now ≡ and_then i rest
    → IsLeaving f t g u (names_below now) (size_below now) (names_below all) (size_below all) → IsLeft g u h v (names_of_child (program_in i)) (size_of_child (program_in i))
    → IsLeft f t h v (names_below all) (size_below all)
leave_below_lost f g h t u v i now rest all cut a b =
    leave_lost f g h t u v (names_of_child (program_in i)) (names_below rest) (names_below all) (size_of_child (program_in i)) (size_below rest) (size_below all)
    (subst (λ n. IsLeaving f t g u (names_of_child (program_in i) ++ names_below rest) n (names_below all) (size_below all)) (ap size_below cut ∙ first_size i rest)
    (subst (λ ns. IsLeaving f t g u ns (size_below now) (names_below all) (size_below all)) (ap names_below cut ∙ first_names i rest) a)) b

pub own_left : (g h : Graph) (t u : BTreeMap (Bor (List ℕ)) TermId) (steps : ℕ) (m : WrittenMachine) → IsLeft g t h u (data_names m) (machine_size m) → IsLeft g t h u (names_of_child (child steps m)) (size_of_child (child steps m))
own_left g h t u steps m a =
    subst (λ ns. IsLeft g t h u ns (size_of_child (child steps m))) (sym (program_names steps m))
    (subst (λ n. IsLeft g t h u (data_names m ++ names_below (own_instructions m)) n) (sym (program_size steps m)) (left_more g h t u (data_names m) (names_below (own_instructions m)) (machine_size m) (size_below (own_instructions m)) a))

pub program_left : (f g h : Graph) (t u v : BTreeMap (Bor (List ℕ)) TermId) (steps : ℕ) (m : WrittenMachine) → IsLeft f t g u (data_names m) (machine_size m) → IsLeft g u h v (names_below (own_instructions m)) (size_below (own_instructions m))
    → IsLeft f t h v (names_of_child (child steps m)) (size_of_child (child steps m))
program_left f g h t u v steps m a b =
    subst (λ ns. IsLeft f t h v ns (size_of_child (child steps m))) (sym (program_names steps m))
    (subst (λ n. IsLeft f t h v (data_names m ++ names_below (own_instructions m)) n) (sym (program_size steps m)) (left_onward f g h t u v (data_names m) (names_below (own_instructions m)) (machine_size m) (size_below (own_instructions m)) a b))

-- ---- the children

pub front_same : (cs : List Child) → HasInFront cs cs
front_same cs = ([], sym (append-nil cs))

pub front_equal : (cs ds : List Child) → ds ≡ cs → HasInFront cs ds
front_equal cs ds e = ([], e ∙ sym (append-nil cs))

pub front_onward : (cs ds es : List Child) → HasInFront cs ds → HasInFront ds es → HasInFront cs es
front_onward cs ds es a b = (a.0 ++ b.0, b.1 ∙ (ap (λ x. x ++ b.0) a.1 ∙ append_assoc cs a.0 b.0))

pub front_pushed : (cs ds es : List Child) (c : Child) → ds ≡ cs ++ c ∷ [] → HasInFront ds es → HasInFront cs es
front_pushed cs ds es c e b = front_onward cs ds es (c ∷ [], e) b
