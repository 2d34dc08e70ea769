-- Loops over parts, ways and instructions.
use Rattle.std.proofs.Common.{◌≡◌, ℕ, zero, suc, ◌+◌, ◌-◌, ◌<◌, ◌≤◌, Bool, true, false, cond, ◌&&◌, List, [], ◌∷◌, ◌++◌, map, length, drop, Option, Some, None, option_map, slice_get, Vec, Global, refl, sym, ◌∙◌, ap, subst, arith}
use Rattle.std.specs.Prelude.{slice_index_or}
use Rattle.std.proofs.lemmas.List.{append_assoc, append-nil, map-append, at_drop_all}
use Rattle.std.proofs.lemmas.Option.{same_Some, none-some, slice_get_within}
use Rattle.wb_values.specs.Value.{Name}
use Rattle.verilog_trees.specs.Syntax.{Expression, binary, bitwise_or, Statement, Item}
use Rattle.wb_terms.specs.declared.nodes.TermId.{TermId}
use Rattle.wb_terms.specs.declared.nodes.Node.{Node}
use Rattle.wb_terms.specs.declared.nodes.Node.TheVariants.{Truth, Load}
use Rattle.wb_terms.specs.Graph.{Graph}
use Rattle.ila_model.specs.declared.parts.Instruction.{Instruction}
use Rattle.term_expressions.specs.Expressions.{sized}
use Rattle.emitted_modules.specs.Rtl.{Stored, Wire, wire_item, writes, guarded_statements, all_guarded}
use Rattle.emitted_modules.specs.Nodes.{node_at, operand, has_wire, word_wire, words_for, wire_for, node_wires}
use Rattle.emitted_modules.specs.Stores.{MemoryUpdate, or_more, any_of, ways_from, ways_to, via_wire, via_wires, stores_at, stores_of}
use Rattle.emitted_modules.specs.Module.{all_ways, all_stores, memories_for, memories_from, guarded_for, guarded_from}
use Rattle.emitted_names.specs.Ids.{ids_of, ids_from}
use Rattle.emitted_names.specs.declared.words.PartName.{PartName}
use Rattle.emitted_names.specs.declared.ways.Way.{Way}
use Rattle.emitted_names.specs.Parts.{parts_of, named_by, parts_named, update_of, IsWay, AreAllWays, AreWaysFor, AreWaysTo}
use Rattle.emitted_names.proofs.Turns.{ap2, drop_is, last_drop, head_at, tail_at}
use Rattle.emitted_trees.specs.Words.{all_at, all_back, if_changed, wires_at, any_so_far}
use Rattle.emitted_trees.proofs.Gathered.{words_are, vias_are, ways_are, stores_are}

-- ---- from the last element on

module _ {A C : Type 0} (F : List A → List C) (one : A → List C) (none : F [] ≡ []) (split : (x : A) (xs : List A) → F (x ∷ xs) ≡ F xs ++ one x) where
  pub back_start : (xs : List A) (front : List C) → front ≡ front ++ F (drop (length xs - 0) xs)
  back_start xs front =
      sym (append-nil front) ∙ ap (λ ys. front ++ ys) (sym none) ∙ sym (at_drop_all (λ ys. front ++ F ys) xs (length xs - 0) (omega arith))

  pub back_more : (xs : List A) (done place : ℕ) (x : A) (front old new : List C) → place ≡ length xs - 1 - done → done < length xs → slice_get xs place ≡ Some x
      → old ≡ front ++ F (drop (length xs - done) xs) → new ≡ old ++ one x → new ≡ front ++ F (drop (length xs - (done + 1)) xs)
  back_more xs done place x front old new z l at before made =
      let rest = drop (length xs - done) xs in
      made
      ∙ ap (λ ys. ys ++ one x) before
      ∙ append_assoc front (F rest) (one x)
      ∙ ap (λ ys. front ++ ys) (sym (split x rest))
      ∙ ap (λ ys. front ++ F ys) (sym (last_drop xs done place x z l at))

  pub back_all : (xs : List A) (done : ℕ) (front new : List C) → length xs ≤ done → new ≡ front ++ F (drop (length xs - done) xs) → new ≡ front ++ F xs
  back_all xs done front new l e =
      let over : length xs - done ≡ 0 = omega (arith, l) in
      e ∙ ap (λ k. front ++ F (drop k xs)) over

-- ---- parts

abbrev pub part_ids : List PartName → List ℕ
part_ids ps = map (λ p. p.id.0) ps

pub ids_named : (name : ℕ → Name) (ps : List PartName) (ks : List ℕ) → parts_named ps ≡ named_by name ks → part_ids ps ≡ ks
ids_named name [] [] e = refl
ids_named name [] (k ∷ ks) e = cc
ids_named name (p ∷ ps) [] e = cc
ids_named name (p ∷ ps) (k ∷ ks) e =
    ap2 (λ x xs. x ∷ xs) (ap (λ (xs : List (ℕ × Name)). (slice_index_or xs 0 (0, [])).0) e) (ids_named name ps ks (ap (drop 1) e))

map_at : {A B : Type 0} (h : A → B) (f : ℕ → List A) (ks : List ℕ) → map h (all_at f ks) ≡ all_at (λ k. map h (f k)) ks
map_at h f [] = refl
map_at h f (k ∷ ks) = map-append h (f k) (all_at f ks) ∙ ap (λ ys. map h (f k) ++ ys) (map_at h f ks)

map_back : {A B : Type 0} (h : A → B) (f : ℕ → List A) (ks : List ℕ) → map h (all_back f ks) ≡ all_back (λ k. map h (f k)) ks
map_back h f [] = refl
map_back h f (k ∷ ks) = map-append h (all_back f ks) (f k) ∙ ap (λ ys. ys ++ map h (f k)) (map_back h f ks)

pub all_words : (g : Graph) (l : ℕ) (m i : TermId) (name : ℕ → Name) (ps : List PartName) → parts_named ps ≡ named_by name (parts_of g m.0 l)
    → all_at (wires_at g (word_wire g l (operand g i.0))) (part_ids ps) ≡ map wire_item (words_for g l (Load m i))
all_words g l m i name ps e =
    let w : ℕ → Wire = word_wire g l (operand g i.0) in
    ap (all_at (wires_at g w)) (ids_named name ps (parts_of g m.0 l) e)
    ∙ sym (map_at wire_item (if_changed g (λ k. w k ∷ [])) (parts_of g m.0 l))
    ∙ ap (map wire_item) (sym (words_are g l (operand g i.0) m.0 l))

pub all_vias : (g : Graph) (u : MemoryUpdate) (name : ℕ → Name) (ps : List PartName) → parts_named ps ≡ named_by name (parts_of g u.term (suc u.term))
    → all_back (wires_at g (via_wire g u)) (part_ids ps) ≡ map wire_item (via_wires g u (suc u.term))
all_vias g u name ps e =
    ap (all_back (wires_at g (via_wire g u))) (ids_named name ps (parts_of g u.term (suc u.term)) e)
    ∙ sym (map_back wire_item (if_changed g (λ k. via_wire g u k ∷ [])) (parts_of g u.term (suc u.term)))
    ∙ ap (map wire_item) (sym (vias_are g u (suc u.term)))

abbrev pub stores_made : Graph → MemoryUpdate → ℕ → List Statement
stores_made g u k = map writes (stores_at g u k (node_at g k))

pub stores_all : (g : Graph) (u : MemoryUpdate) (name : ℕ → Name) (ps : List PartName) → parts_named ps ≡ named_by name (parts_of g u.term (suc u.term))
    → all_at (stores_made g u) (part_ids ps) ≡ map writes (stores_of g u (suc u.term))
stores_all g u name ps e =
    ap (all_at (stores_made g u)) (ids_named name ps (parts_of g u.term (suc u.term)) e)
    ∙ sym (map_at writes (λ k. stores_at g u k (node_at g k)) (parts_of g u.term (suc u.term)))
    ∙ ap (map writes) (sym (stores_are g u (suc u.term)))

-- ---- ways to a node

or_more_end : (e f : Expression) (es : List Expression) → or_more e (es ++ f ∷ []) ≡ binary bitwise_or (or_more e es) f
or_more_end e f [] = refl
or_more_end e f (x ∷ es) = or_more_end (binary bitwise_or e x) f es

pub first_of : (o : Option Expression) (e : Expression) (es : List Expression) → o ≡ None → o ≡ any_so_far es → Some e ≡ any_so_far (es ++ e ∷ [])
first_of o e [] a b = refl
first_of o e (x ∷ es) a b = let s = sym a ∙ b in cc

pub one_more : (o : Option Expression) (a e new : Expression) (es : List Expression) → o ≡ Some a → o ≡ any_so_far es → new ≡ binary bitwise_or a e
    → Some new ≡ any_so_far (es ++ e ∷ [])
one_more o a e new [] is b made = let s = sym is ∙ b in cc
one_more o a e new (x ∷ es) is b made =
    let same : Some a ≡ Some (or_more x es) = sym is ∙ b in
    ap Some made
    ∙ ap (option_map (λ y. binary bitwise_or y e)) same
    ∙ ap Some (sym (or_more_end x e es))

abbrev pub ways_of_parts : Graph → MemoryUpdate → ℕ → List PartName → List Expression
ways_of_parts g u k ps = all_back (λ p. ways_from g u p k (node_at g p)) (part_ids ps)

pub ways_start : (g : Graph) (u : MemoryUpdate) (k : ℕ) (ps : List PartName) (o : Option Expression) → o ≡ None
    → o ≡ any_so_far (ways_of_parts g u k (drop (length ps - 0) ps))
ways_start g u k ps o e = e ∙ sym (at_drop_all (λ qs. any_so_far (ways_of_parts g u k qs)) ps (length ps - 0) (omega arith))

pub ways_more : (g : Graph) (u : MemoryUpdate) (k : ℕ) (ps : List PartName) (done place : ℕ) (p : PartName) (new : Option Expression) → place ≡ length ps - 1 - done
    → done < length ps → slice_get ps place ≡ Some p
    → new ≡ any_so_far (ways_of_parts g u k (drop (length ps - done) ps) ++ ways_from g u p.id.0 k (node_at g p.id.0))
    → new ≡ any_so_far (ways_of_parts g u k (drop (length ps - (done + 1)) ps))
ways_more g u k ps done place p new z l at made = made ∙ ap (λ qs. any_so_far (ways_of_parts g u k qs)) (sym (last_drop ps done place p z l at))

pub ways_end : (g : Graph) (u : MemoryUpdate) (k : ℕ) (ps : List PartName) (done : ℕ) (name : ℕ → Name) (o : Option Expression) → length ps ≤ done
    → parts_named ps ≡ named_by name (parts_of g u.term (suc u.term)) → o ≡ any_so_far (ways_of_parts g u k (drop (length ps - done) ps))
    → o ≡ any_so_far (ways_to g u (suc u.term) k)
ways_end g u k ps done name o l named e =
    let over : length ps - done ≡ 0 = omega (arith, l) in
    e
    ∙ ap (λ n. any_so_far (ways_of_parts g u k (drop n ps))) over
    ∙ ap (λ ks. any_so_far (all_back (λ p. ways_from g u p k (node_at g p)) ks)) (ids_named name ps (parts_of g u.term (suc u.term)) named)
    ∙ ap any_so_far (sym (ways_are g u (suc u.term) k))

-- ---- updates of memories

pub way_there : (g : Graph) (ws : List Way) (k : ℕ) (w : Way) → AreAllWays g ws → slice_get ws k ≡ Some w → IsWay g w
way_there g [] k w h e = absurd (none-some w e)
way_there g (x ∷ ws) zero w h e = subst (IsWay g) (same_Some x w e) h.0
way_there g (x ∷ ws) (suc k) w h e = way_there g ws k w h.1 e

ways-append : (g : Graph) (xs ys : List MemoryUpdate) → all_ways g (xs ++ ys) ≡ all_ways g xs ++ all_ways g ys
ways-append g [] ys = refl
ways-append g (x ∷ xs) ys =
    ap (λ zs. via_wires g x (suc x.term) ++ zs) (ways-append g xs ys) ∙ sym (append_assoc (via_wires g x (suc x.term)) (all_ways g xs) (all_ways g ys))

abbrev pub ways_from_instruction : Graph → (j : ℕ) → List Instruction → List Item
ways_from_instruction g j is = map wire_item (all_ways g (memories_from g j is))

pub instruction_ways : (g : Graph) (is : List Instruction) (n : ℕ) (i : Instruction) (us : List MemoryUpdate) (all old new : List Item) → slice_get is n ≡ Some i
    → us ≡ memories_for g n i → old ++ ways_from_instruction g n (drop n is) ≡ all → new ≡ old ++ map wire_item (all_ways g us)
    → new ++ ways_from_instruction g (n + 1) (drop (n + 1) is) ≡ all
instruction_ways g is n i us all old new at same before made =
    let rest = drop (n + 1) is in
    let next : suc n ≡ n + 1 = omega arith in
    ap (λ xs. xs ++ ways_from_instruction g (n + 1) rest) (made ∙ ap (λ vs. old ++ map wire_item (all_ways g vs)) same)
    ∙ append_assoc old (map wire_item (all_ways g (memories_for g n i))) (ways_from_instruction g (n + 1) rest)
    ∙ ap (λ k. old ++ (map wire_item (all_ways g (memories_for g n i)) ++ ways_from_instruction g k rest)) (sym next)
    ∙ ap (λ xs. old ++ xs) (sym (map-append wire_item (all_ways g (memories_for g n i)) (all_ways g (memories_from g (suc n) rest))))
    ∙ ap (λ ws. old ++ map wire_item ws) (sym (ways-append g (memories_for g n i) (memories_from g (suc n) rest)))
    ∙ ap (λ xs. old ++ ways_from_instruction g n xs) (sym (drop_is is n i at))
    ∙ before

abbrev pub statements_from : Graph → (j : ℕ) → List Instruction → List Statement
statements_from g j is = all_guarded (guarded_from g j is)

pub instruction_guarded : (g : Graph) (is : List Instruction) (n : ℕ) (i : Instruction) (all old new : List Statement) → slice_get is n ≡ Some i
    → old ++ statements_from g n (drop n is) ≡ all → new ≡ old ++ guarded_statements (guarded_for g n i)
    → new ++ statements_from g (n + 1) (drop (n + 1) is) ≡ all
instruction_guarded g is n i all old new at before made =
    let rest = drop (n + 1) is in
    let next : suc n ≡ n + 1 = omega arith in
    ap (λ xs. xs ++ statements_from g (n + 1) rest) made
    ∙ append_assoc old (guarded_statements (guarded_for g n i)) (statements_from g (n + 1) rest)
    ∙ ap (λ k. old ++ (guarded_statements (guarded_for g n i) ++ statements_from g k rest)) (sym next)
    ∙ ap (λ xs. old ++ statements_from g n xs) (sym (drop_is is n i at))
    ∙ before

pub nothing_left : {A C : Type 0} (F : ℕ → List A → List C) (none : (k : ℕ) → F k [] ≡ []) (xs : List A) (n : ℕ) (all done : List C) → length xs ≤ n
    → done ++ F n (drop n xs) ≡ all → done ≡ all
nothing_left F none xs n all done l e =
    sym (append-nil done) ∙ ap (λ ys. done ++ ys) (sym (none n)) ∙ sym (at_drop_all (λ ys. done ++ F n ys) xs n l) ∙ e

-- ---- wires of kept terms

abbrev pub node_items : Graph → ℕ → List Item
node_items g k = map wire_item (words_for g k (node_at g k) ++ wire_for g k (node_at g k) ∷ [])

items_of_ids : (g : Graph) (keep : ℕ → Bool) (k : ℕ) (ns : List Node) → drop k g.nodes ≡ ns → map wire_item (node_wires g keep k ns) ≡ all_at (node_items g) (ids_from g keep k ns)
items_of_ids g keep k [] e = refl
items_of_ids g keep k (n ∷ ns) e =
    by_test (keep k && has_wire g k n) (items_of_ids g keep (suc k) ns (tail_at g.nodes k n ns e)) (head_at g.nodes k n ns (Truth false) e)
  where
    by_test : (b : Bool) → map wire_item (node_wires g keep (suc k) ns) ≡ all_at (node_items g) (ids_from g keep (suc k) ns) → node_at g k ≡ n
        → map wire_item (cond b (words_for g k n ++ wire_for g k n ∷ []) [] ++ node_wires g keep (suc k) ns)
        ≡ all_at (node_items g) (cond b (k ∷ ids_from g keep (suc k) ns) (ids_from g keep (suc k) ns))
    by_test true rest here =
        map-append wire_item (words_for g k n ++ wire_for g k n ∷ []) (node_wires g keep (suc k) ns)
        ∙ ap2 (λ xs ys. xs ++ ys) (ap (λ m. map wire_item (words_for g k m ++ wire_for g k m ∷ [])) (sym here)) rest
    by_test false rest here = rest

pub kept_items : (g : Graph) (keep : ℕ → Bool) (ids : List TermId) → ids_of ids ≡ ids_from g keep 0 g.nodes
    → all_at (node_items g) (ids_of ids) ≡ map wire_item (node_wires g keep 0 g.nodes)
kept_items g keep ids e = ap (all_at (node_items g)) e ∙ sym (items_of_ids g keep 0 g.nodes refl)

-- ---- what is at a place, and the end of a list of ways

pub same_default : {A : Type 0} (xs : List A) (k : ℕ) (a b : A) → k < length xs → slice_index_or xs k a ≡ slice_index_or xs k b
same_default [] k a b low = absurd (omega (arith, low))
same_default (x ∷ xs) zero a b low = refl
same_default (x ∷ xs) (suc k) a b low = same_default xs k a b (omega (arith, low))

-- the row of an instruction
pub row_for : (g : Graph) (is : List Instruction) (k : ℕ) (i : Instruction) (rows : List (Vec Way Global)) (ws : List Way) → AreWaysTo g is (length is) rows
    → slice_get is k ≡ Some i → ((d : Vec Way Global) → ws ≡ (slice_index_or rows k d).items) → AreWaysFor g k i ws
row_for g is k i rows ws a at e =
    let low : k < length is = slice_get_within is k i at in
    let there : k < length rows = omega (arith, low, a.many) in
    let x = row_at rows k there in
    subst (λ (vs : List Way). AreWaysFor g k i vs) (sym (e x)) (a.each k i x low at)
  where
    row_at : (vs : List (Vec Way Global)) (j : ℕ) → j < length vs → Vec Way Global
    row_at [] j h = absurd (omega (arith, h))
    row_at (v ∷ vs) zero h = v
    row_at (v ∷ vs) (suc j) h = row_at vs j (omega (arith, h))

pub some_of : (o : Option Expression) (a : Expression) (es : List Expression) → o ≡ Some a → o ≡ any_so_far es → a ≡ any_of es
some_of o a [] is e = let s = sym is ∙ e in cc
some_of o a (x ∷ es) is e = same_Some a (or_more x es) (sym is ∙ e)

pub none_of : (o : Option Expression) (es : List Expression) → o ≡ None → o ≡ any_so_far es → sized 1 0 ≡ any_of es
none_of o [] is e = refl
none_of o (x ∷ es) is e = let s = sym is ∙ e in cc
