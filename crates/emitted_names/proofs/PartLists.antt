-- Lists of parts, and of rows of parts.
use Rattle.std.proofs.Common.{◌≡◌, ℕ, zero, suc, ◌+◌, ◌<◌, ◌≤◌, Bool, true, false, cond, ◌==◌, inl, inr, List, [], ◌∷◌, ◌++◌, map, length, get_or, drop, Some, slice_get, IsTrue, Vec, Global, refl, sym, ◌∙◌, ap, subst, arith}
use Rattle.std.specs.Prelude.{slice_index_or}
use Rattle.std.specs.String.{string_bytes}
use Rattle.std.proofs.lemmas.Bool.{cases_lt, eq-eqb, false≢true}
use Rattle.std.proofs.lemmas.List.{append-nil, get_or_append_left, get_or_push, length_push}
use Rattle.std.proofs.lemmas.Option.{get_or_from_slice_get}
use Rattle.wb_values.specs.Value.{Name}
use Rattle.wb_terms.specs.declared.nodes.TermId.{TermId}
use Rattle.wb_terms.specs.declared.nodes.Node.{Node}
use Rattle.wb_terms.specs.declared.nodes.Node.TheVariants.{Load}
use Rattle.wb_terms.specs.Graph.{Graph}
use Rattle.ila_model.specs.declared.parts.Update.{Update}
use Rattle.ila_model.specs.declared.parts.Instruction.{Instruction}
use Rattle.emitted_modules.specs.Nodes.{operand}
use Rattle.emitted_modules.specs.Stores.{MemoryUpdate}
use Rattle.emitted_modules.specs.Module.{is_of_memory, memory_update, memory_updates}
use Rattle.emitted_names.specs.Ids.{ids_of}
use Rattle.emitted_names.specs.declared.words.PartName.{PartName}
use Rattle.emitted_names.specs.declared.ways.Way.{Way}
use Rattle.emitted_names.specs.Parts.{is_other_part, parts_of, named_by, parts_named, words_at, AreWordNames, AreWords, update_of, IsWay, AreAllWays, AreWaysFor, AreWaysTo}
use Rattle.emitted_names.proofs.Turns.{map_map, pushed_view, onward, ended, onward_by, ended_by}

-- ---- parts by their ids

pub one_part : (g : Graph) (m place : ℕ) (ids more : List TermId) (id : TermId) → id.0 ≡ place → is_other_part g m place ≡ true → more ≡ ids ++ id ∷ []
    → ids_of ids ≡ parts_of g m place → ids_of more ≡ parts_of g m (place + 1)
one_part g m place ids more id z e pushed a =
    let next : suc place ≡ place + 1 = omega arith in
    pushed_view (λ (d : TermId). d.0) ids more id pushed
    ∙ ap (λ k. ids_of ids ++ k ∷ []) z
    ∙ ap (λ xs. xs ++ place ∷ []) a
    ∙ ap (λ b. parts_of g m place ++ cond b (place ∷ []) []) (sym e)
    ∙ ap (parts_of g m) next

pub no_part : (g : Graph) (m place : ℕ) (ids more : List TermId) → is_other_part g m place ≡ false → more ≡ ids → ids_of ids ≡ parts_of g m place
    → ids_of more ≡ parts_of g m (place + 1)
no_part g m place ids more e same a =
    let next : suc place ≡ place + 1 = omega arith in
    ap ids_of same
    ∙ a
    ∙ sym (append-nil (parts_of g m place))
    ∙ ap (λ b. parts_of g m place ++ cond b (place ∷ []) []) (sym e)
    ∙ ap (parts_of g m) next

-- ---- their names

abbrev pub called : (ℕ → Name) → TermId → ℕ × Name
called name d = (d.0, name d.0)

pub part_pushed : (name : ℕ → Name) (ids : List TermId) (place : ℕ) (id : TermId) (all : List (ℕ × Name)) (ps qs : List PartName) (p : PartName)
    → slice_get ids place ≡ Some id → parts_named ps ++ map (called name) (drop place ids) ≡ all → p.id ≡ id → string_bytes p.name ≡ name id.0
    → qs ≡ ps ++ p ∷ [] → parts_named qs ++ map (called name) (drop (place + 1) ids) ≡ all
part_pushed name ids place id all ps qs p at before same is pushed =
    onward (called name) ids place id all (parts_named ps) (parts_named qs) (p.id.0, string_bytes p.name) at before (λ i. ((same i).0, is i))
    (pushed_view (λ (x : PartName). (x.id.0, string_bytes x.name)) ps qs p pushed)

pub parts_all : (name : ℕ → Name) (ids : List TermId) (place : ℕ) (ps : List PartName) → length ids ≤ place
    → parts_named ps ++ map (called name) (drop place ids) ≡ map (called name) ids → parts_named ps ≡ named_by name (ids_of ids)
parts_all name ids place ps l e =
    ended (called name) ids place (map (called name) ids) (parts_named ps) l e ∙ sym (map_map (λ k. (k, name k)) (λ (d : TermId). d.0) ids)

pub named_at : (name : ℕ → Name) (ps : List PartName) (ks : List ℕ) (j : ℕ) (d : PartName) → parts_named ps ≡ named_by name ks → j < length ps
    → string_bytes (slice_index_or ps j d).name ≡ name (slice_index_or ps j d).id.0
named_at name [] ks j d e low = absurd (omega (arith, low))
named_at name (p ∷ ps) [] j d e low = cc
named_at name (p ∷ ps) (k ∷ ks) zero d e low =
    let h : (p.id.0, string_bytes p.name) ≡ (k, name k) = ap (λ xs. get_or xs 0 (0, [])) e in
    ap (λ z. z.1) h ∙ ap name (sym (ap (λ z. z.0) h))
named_at name (p ∷ ps) (k ∷ ks) (suc j) d e low = named_at name ps ks j d (ap (drop 1) e) (omega (arith, low))

-- ---- the part for a node

abbrev pub IsNotBefore : ℕ → List PartName → (place : ℕ) → Type 0
IsNotBefore k ps place = (j : ℕ) → j < place → ((d : PartName) → (slice_index_or ps j d).id.0 ≡ k) → ⊥

pub not_here : (k : ℕ) (ps : List PartName) (place : ℕ) (p : PartName) (b : Bool) → slice_get ps place ≡ Some p → b ≡ (p.id.0 == k) → b ≡ false
    → IsNotBefore k ps place → IsNotBefore k ps (place + 1)
not_here k ps place p b at is off before = λ j low f. elim (cases_lt j place) [
  | inl less ↦ before j less f
  | inr high ↦
      let here : place ≡ j = omega (arith, low, high) in
      let e : p.id.0 ≡ k = ap (λ (x : PartName). x.id.0) (sym (get_or_from_slice_get ps place p p at)) ∙ ap (λ i. (slice_index_or ps i p).id.0) here ∙ f p in
      absurd (false≢true (sym off ∙ is ∙ eq-eqb p.id.0 k e))
]

pub named_here : (name : ℕ → Name) (ps : List PartName) (ks : List ℕ) (place : ℕ) (p : PartName) (k : ℕ) → slice_get ps place ≡ Some p → place < length ps
    → p.id.0 ≡ k → parts_named ps ≡ named_by name ks → string_bytes p.name ≡ name k
named_here name ps ks place p k at low is e =
    let h = get_or_from_slice_get ps place p p at in
    ap (λ (x : PartName). string_bytes x.name) (sym h) ∙ named_at name ps ks place p e low ∙ ap (λ (x : PartName). name x.id.0) h ∙ ap name is

-- ---- rows of words

pub no_words : (g : Graph) (l : ℕ) (n : Node) → ((m i : TermId) → n ≡ Load m i → ⊥) → words_at g l n ≡ []
no_words g l (Load m i) f = absurd (f m i refl)
no_words g l _ f = refl

pub no_rows : (g : Graph) (keep : ℕ → Bool) (rows : List (Vec PartName Global)) → rows ≡ [] → AreWords g keep 0 rows
no_rows g keep rows e = subst (AreWords g keep 0) (sym e) (record { many = refl; each = λ l d h kept. absurd (omega (arith, h)) })

pub one_row : (g : Graph) (keep : ℕ → Bool) (n : ℕ) (rows more : List (Vec PartName Global)) (x : Vec PartName Global) → AreWords g keep n rows
    → (IsTrue (keep n) → AreWordNames g n x.items) → more ≡ rows ++ x ∷ [] → AreWords g keep (n + 1) more
one_row g keep n rows more x a f pushed = subst (AreWords g keep (n + 1)) (sym pushed) (record {
  many = length_push rows x ∙ ap (λ k. k + 1) a.many;
  each = λ l d low kept. elim (cases_lt l n) [
    | inl before ↦ subst (λ (v : Vec PartName Global). AreWordNames g l v.items) (sym (get_or_append_left rows (x ∷ []) d l (omega (arith, before, a.many))))
        (a.each l d before kept)
    | inr high ↦
        let here : n ≡ l = omega (arith, low, high) in
        subst (λ (v : Vec PartName Global). AreWordNames g l v.items) (sym (get_or_push rows x d l (a.many ∙ here)))
        (subst (λ i. AreWordNames g i x.items) here (f (subst (λ i. IsTrue (keep i)) (sym here) kept)))
  ];
})

pub all_rows : (g : Graph) (keep : ℕ → Bool) (n m : ℕ) (rows : List (Vec PartName Global)) → n ≡ m → AreWords g keep n rows → AreWords g keep m rows
all_rows g keep n m rows e a = subst (λ k. AreWords g keep k rows) e a

-- ---- updates of memories

pub ways_pushed : (g : Graph) (ws : List Way) (w : Way) → AreAllWays g ws → IsWay g w → AreAllWays g (ws ++ w ∷ [])
ways_pushed g [] w h is = (is, tt)
ways_pushed g (x ∷ ws) w h is = (h.0, ways_pushed g ws w h.1 is)

-- those that are made, and what the updates that are left make
pub record AreWaysSo (g : Graph) (j : ℕ) (d : ℕ) (us : List Update) (place : ℕ) (ws : List Way) : Type 0 where
  pub each : AreAllWays g ws
  pub rest : map (update_of g) ws ++ memory_updates g j (operand g d) (drop place us) ≡ memory_updates g j (operand g d) us

pub no_ways : (g : Graph) (j d : ℕ) (us : List Update) (ws : List Way) → ws ≡ [] → AreWaysSo g j d us 0 ws
no_ways g j d us ws e = subst (AreWaysSo g j d us 0) (sym e) (record { each = tt; rest = refl })

abbrev if_memory : Graph → ℕ → ℕ → Update → List MemoryUpdate
if_memory g j d u = cond (is_of_memory g u) (memory_update g j (operand g d) u ∷ []) []

pub one_way : (g : Graph) (j d : ℕ) (us : List Update) (place : ℕ) (u : Update) (ws more : List Way) (w : Way) → slice_get us place ≡ Some u
    → is_of_memory g u ≡ true → IsWay g w → update_of g w ≡ memory_update g j (operand g d) u → more ≡ ws ++ w ∷ [] → AreWaysSo g j d us place ws
    → AreWaysSo g j d us (place + 1) more
one_way g j d us place u ws more w at e is made pushed a = record {
  each = subst (AreAllWays g) (sym pushed) (ways_pushed g ws w a.each is);
  rest =
      onward_by (memory_updates g j (operand g d)) (if_memory g j d) (λ x xs. refl) us place u (memory_updates g j (operand g d) us) (map (update_of g) ws) (map (update_of g) more)
      at a.rest
      (pushed_view (update_of g) ws more w pushed
      ∙ ap (λ m. map (update_of g) ws ++ m ∷ []) made
      ∙ ap (λ b. map (update_of g) ws ++ cond b (memory_update g j (operand g d) u ∷ []) []) (sym e));
}

pub way_passed : (g : Graph) (j d : ℕ) (us : List Update) (place : ℕ) (u : Update) (ws more : List Way) → slice_get us place ≡ Some u
    → is_of_memory g u ≡ false → more ≡ ws → AreWaysSo g j d us place ws → AreWaysSo g j d us (place + 1) more
way_passed g j d us place u ws more at e same a = record {
  each = subst (AreAllWays g) (sym same) a.each;
  rest =
      onward_by (memory_updates g j (operand g d)) (if_memory g j d) (λ x xs. refl) us place u (memory_updates g j (operand g d) us) (map (update_of g) ws) (map (update_of g) more)
      at a.rest
      (ap (map (update_of g)) same
      ∙ sym (append-nil (map (update_of g) ws))
      ∙ ap (λ b. map (update_of g) ws ++ cond b (memory_update g j (operand g d) u ∷ []) []) (sym e));
}

pub ways_done : (g : Graph) (j d : ℕ) (us : List Update) (place : ℕ) (ws : List Way) → length us ≤ place → AreWaysSo g j d us place ws
    → map (update_of g) ws ≡ memory_updates g j (operand g d) us
ways_done g j d us place ws l a =
    ended_by (memory_updates g j (operand g d)) refl us place (memory_updates g j (operand g d) us) (map (update_of g) ws) l a.rest

-- ---- rows of ways

pub no_way_rows : (g : Graph) (is : List Instruction) (rows : List (Vec Way Global)) → rows ≡ [] → AreWaysTo g is 0 rows
no_way_rows g is rows e = subst (AreWaysTo g is 0) (sym e) (record { many = refl; each = λ j i d h at. absurd (omega (arith, h)) })

same_instruction : (is : List Instruction) (k : ℕ) (x y : Instruction) → slice_get is k ≡ Some x → slice_get is k ≡ Some y → x ≡ y
same_instruction is k x y e f = let s = sym e ∙ f in cc

pub one_way_row : (g : Graph) (is : List Instruction) (n : ℕ) (i : Instruction) (rows more : List (Vec Way Global)) (x : Vec Way Global)
    → slice_get is n ≡ Some i → AreWaysTo g is n rows → AreWaysFor g n i x.items → more ≡ rows ++ x ∷ [] → AreWaysTo g is (n + 1) more
one_way_row g is n i rows more x at a f pushed = subst (AreWaysTo g is (n + 1)) (sym pushed) (record {
  many = length_push rows x ∙ ap (λ k. k + 1) a.many;
  each = λ j y d low there. elim (cases_lt j n) [
    | inl before ↦ subst (λ (v : Vec Way Global). AreWaysFor g j y v.items) (sym (get_or_append_left rows (x ∷ []) d j (omega (arith, before, a.many))))
        (a.each j y d before there)
    | inr high ↦
        let here : n ≡ j = omega (arith, low, high) in
        let same : i ≡ y = same_instruction is n i y at (subst (λ (k : ℕ). slice_get is k ≡ Some y) (sym here) there) in
        subst (λ (v : Vec Way Global). AreWaysFor g j y v.items) (sym (get_or_push rows x d j (a.many ∙ here)))
        (subst (λ k. AreWaysFor g k y x.items) here (subst (λ (z : Instruction). AreWaysFor g n z x.items) same f))
  ];
})

pub way_rows_done : (g : Graph) (is : List Instruction) (n m : ℕ) (rows : List (Vec Way Global)) → n ≡ m → AreWaysTo g is n rows → AreWaysTo g is m rows
way_rows_done g is n m rows e a = subst (λ k. AreWaysTo g is k rows) e a
