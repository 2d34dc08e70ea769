-- Programs in terms: their lists of terms, their starts and their ends.
use Rattle.std.proofs.Common.{◌≡◌, ℕ, zero, suc, ◌+◌, ◌-◌, ◌<◌, ◌≤◌, Bool, true, false, cond, ◌&&◌, List, [], ◌∷◌, ◌++◌, map, length, get_or, drop, Option, Some, None, append_assoc, refl, sym, ap, ◌∙◌, subst, arith}
use Rattle.std.specs.Prelude.{not, nat_lt, nat_le}
use Rattle.std.proofs.lemmas.Bool.{and_parts, and_from, ltb-true, false≢true}
use Rattle.std.proofs.lemmas.List.{drop_more, append-nil}
use Rattle.wb_values.specs.Value as meaning
use Rattle.wb_values.specs.Value.{truth, Entries, Sort, Valuation}
use Rattle.model_meaning.specs.Model as pure
use Rattle.model_meaning.specs.Term.{sort_of}
use Rattle.model_meaning.specs.Model.{holds, entered, left_behind, states_of, valid_of}
use Rattle.model_results.specs.Results.{Result, ended_at, iterated, out_of, child_result, stepped, one_result}
use Rattle.wb_terms.specs.declared.nodes.TermId.{TermId}
use Rattle.wb_terms.specs.Graph.{Graph, tree}
use Rattle.term_copies.specs.Copies.{IsExtended, AreLeaves, IsCopy, copy_of, id_at}
use Rattle.term_copies.proofs.Extending.{extended_trans}
use Rattle.term_copies.proofs.Copying.{leaves_kept}
use Rattle.wanted_terms.specs.Wanted.{IsListed, AreListed, AreBelow, AreCopied}
use Rattle.wanted_terms.proofs.Wanted.{listed_copy}
use Rattle.ila_model.specs.declared.parts.ChildId.{ChildId}
use Rattle.ila_model.specs.declared.parts.Child.{Child}
use Rattle.ila_model.specs.declared.parts.Instruction.{Instruction}
use Rattle.ila_model.specs.declared.parts.Update.{Update}
use Rattle.ila_model.specs.declared.parts.Parts.{Parts}
use Rattle.ila_model.specs.Scope.{nesting, around, may_read, term_scope}
use Rattle.ila_model.specs.Sorted.{is_term_of, is_read_at, is_state_at, is_condition, sort_at, are_updates, is_instruction, is_link, child_after, are_instructions, is_machine}
use Rattle.ila_model.specs.Meaning.{privates_of, machine_of, program_of}
use Rattle.ila_model.proofs.Declarations.{AreSorted}
use Rattle.ila_child.specs.Running.{point_at, HasDepth, program_in}
use Rattle.ila_child.specs.Updating.{with_initial}
use Rattle.ila_child.proofs.Points.{entered_point, left_point}
use Rattle.ila_child.proofs.Programs.{IsSortedChild, program_child, low_enough}
use Rattle.model_terms.specs.Symbolic.{worths, sees, is_true, IsCondition, IsTest, IsReached}
use Rattle.model_terms.specs.Copied.{HasCopies, terms_of_instruction, terms_of_instructions}
use Rattle.model_terms.specs.Programs.{IsTaken, pure_instructions}
use Rattle.model_terms.proofs.Choosing.{true_kept, test_kept, length-worths}
use Rattle.model_terms.proofs.Pointing.{condition_sees, sort-from}
use Rattle.model_terms.proofs.Turning.{worths_leaves, step_at}

-- ---- lists of terms

pub listed_copies : (g source : Graph) (point wanted copies : List TermId) (ts : List TermId) → AreCopied g source point wanted (length wanted) copies → AreListed wanted ts → HasCopies g source point copies ts
listed_copies g source point wanted copies [] a h = tt
listed_copies g source point wanted copies (t ∷ ts) a h = (listed_copy g source point wanted copies (length wanted) (length wanted) t.0 (omega arith) a h.0, listed_copies g source point wanted copies ts a h.1)

pub instructions_turn : (is : List Instruction) (k : ℕ) (d : Instruction) (ids more : List TermId) → k < length is → more ≡ ids ++ terms_of_instruction (get_or is k d) → more ++ terms_of_instructions (drop (k + 1) is) ≡ ids ++ terms_of_instructions (drop k is)
instructions_turn is k d ids more l e =
    ap (λ xs. xs ++ terms_of_instructions (drop (k + 1) is)) e
    ∙ append_assoc ids (terms_of_instruction (get_or is k d)) (terms_of_instructions (drop (k + 1) is))
    ∙ ap (λ xs. ids ++ terms_of_instructions xs) (sym (drop_more is k d l))

pub no_instructions_left : (is : List Instruction) (k : ℕ) → length is ≤ k → drop k is ≡ []
no_instructions_left [] zero l = refl
no_instructions_left [] (suc k) l = refl
no_instructions_left (i ∷ is) zero l = absurd (omega (arith, l))
no_instructions_left (i ∷ is) (suc k) l = no_instructions_left is k (omega (arith, l))

pub instructions_end : (is : List Instruction) (k : ℕ) (ids all : List TermId) → length is ≤ k → ids ++ terms_of_instructions (drop k is) ≡ all → ids ≡ all
instructions_end is k ids all l e = sym (ap (λ xs. ids ++ terms_of_instructions xs) (no_instructions_left is k l) ∙ append-nil ids) ∙ e

abbrev pub terms_of_updates : List Update → List TermId
terms_of_updates us = map (λ (u : Update). u.term) us

pub updates_turn : (us : List Update) (k : ℕ) (d : Update) (ids more : List TermId) → k < length us → more ≡ ids ++ (get_or us k d).term ∷ [] → more ++ terms_of_updates (drop (k + 1) us) ≡ ids ++ terms_of_updates (drop k us)
updates_turn us k d ids more l e =
    ap (λ xs. xs ++ terms_of_updates (drop (k + 1) us)) e
    ∙ append_assoc ids ((get_or us k d).term ∷ []) (terms_of_updates (drop (k + 1) us))
    ∙ ap (λ xs. ids ++ terms_of_updates xs) (sym (drop_more us k d l))

no_updates : (us : List Update) (k : ℕ) → length us ≤ k → drop k us ≡ []
no_updates [] zero l = refl
no_updates [] (suc k) l = refl
no_updates (i ∷ us) zero l = absurd (omega (arith, l))
no_updates (i ∷ us) (suc k) l = no_updates us k (omega (arith, l))

pub updates_end : (us : List Update) (k : ℕ) (ids all : List TermId) → length us ≤ k → ids ++ terms_of_updates (drop k us) ≡ all → ids ≡ all
updates_end us k ids all l e = sym (ap (λ xs. ids ++ terms_of_updates xs) (no_updates us k l) ∙ append-nil ids) ∙ e

-- ---- the terms of a machine are terms of the store

pub read_below : (p : Parts) (at : Option ℕ) (s : Sort) (k : ℕ) → is_read_at p at s k ≡ true → k < length p.terms.nodes
read_below p at s k h =
    let a = and_parts (is_term_of p.terms s k) _ h in
    let b = and_parts (nat_lt k (length p.terms.nodes)) _ a.0 in
    ltb-true k (length p.terms.nodes) b.0

below_append : (n : ℕ) (xs ys : List TermId) → AreBelow n xs → AreBelow n ys → AreBelow n (xs ++ ys)
below_append n [] ys a b = b
below_append n (x ∷ xs) ys a b = (a.0, below_append n xs ys a.1 b)

updates_below : (p : Parts) (at : Option ℕ) (from : ℕ) (us : List Update) → are_updates p at from us ≡ true → AreBelow (length p.terms.nodes) (terms_of_updates us)
updates_below p at from [] h = tt
updates_below p at from (u ∷ us) h =
    let a = and_parts (nat_le from u.state.0) _ h in
    let b = and_parts (is_state_at p at u.state.0) _ a.1 in
    let c = and_parts (is_read_at p at (sort_at p.terms.names u.state.0) u.term.0) _ b.1 in
    (read_below p at (sort_at p.terms.names u.state.0) u.term.0 c.0, updates_below p at (suc u.state.0) us c.1)

instructions_below : (p : Parts) (at : Option ℕ) (from : ℕ) (is : List Instruction) → are_instructions p at from is ≡ true → AreBelow (length p.terms.nodes) (terms_of_instructions is)
instructions_below p at from [] h = tt
instructions_below p at from (i ∷ is) h =
    let x = and_parts (is_instruction p at i) _ h in
    let y = and_parts (is_condition p at i.decode.0) _ x.0 in
    let z = and_parts (is_link p.children.items at from i.child) _ x.1 in
    below_append (length p.terms.nodes) (terms_of_instruction i) (terms_of_instructions is)
    (read_below p at truth i.decode.0 y.0, updates_below p at 0 i.updates.items y.1)
    (instructions_below p at (child_after from i.child) is z.1)

pub machine_below : (p : Parts) (at : Option ℕ) (valid : TermId) (is : List Instruction) → is_machine p at valid.0 is ≡ true → AreBelow (length p.terms.nodes) (valid ∷ terms_of_instructions is)
machine_below p at valid is h =
    let m = and_parts (is_condition p at valid.0) _ h in
    (read_below p at truth valid.0 m.0, instructions_below p at 0 is m.1)

-- ---- copies and conditions of one instruction of a list

has_parts : (g source : Graph) (point copies : List TermId) (xs ys : List TermId) → HasCopies g source point copies (xs ++ ys) → HasCopies g source point copies xs × HasCopies g source point copies ys
has_parts g source point copies [] ys h = (tt, h)
has_parts g source point copies (x ∷ xs) ys h = let r = has_parts g source point copies xs ys h.1 in ((h.0, r.0), r.1)

pub has_at : (g source : Graph) (point copies : List TermId) (is : List Instruction) (k : ℕ) (d : Instruction) → HasCopies g source point copies (terms_of_instructions is) → k < length is → HasCopies g source point copies (terms_of_instruction (get_or is k d))
has_at g source point copies [] k d h l = absurd (omega (arith, l))
has_at g source point copies (i ∷ is) zero d h l = (has_parts g source point copies (terms_of_instruction i) (terms_of_instructions is) h).0
has_at g source point copies (i ∷ is) (suc k) d h l = has_at g source point copies is k d (has_parts g source point copies (terms_of_instruction i) (terms_of_instructions is) h).1 (omega (arith, l))

pub decode_at : (p : Parts) (at : Option ℕ) (from : ℕ) (is : List Instruction) (k : ℕ) (d : Instruction) → are_instructions p at from is ≡ true → k < length is → is_condition p at (get_or is k d).decode.0 ≡ true
decode_at p at from [] k d h l = absurd (omega (arith, l))
decode_at p at from (i ∷ is) zero d h l =
    let x = and_parts (is_instruction p at i) _ h in
    (and_parts (is_condition p at i.decode.0) _ x.0).0
decode_at p at from (i ∷ is) (suc k) d h l =
    let x = and_parts (is_instruction p at i) _ h in
    let z = and_parts (is_link p.children.items at from i.child) _ x.1 in
    decode_at p at (child_after from i.child) is k d z.1 (omega (arith, l))

-- ---- starts and ends

-- no program
pub nothing_reached : {g h : Graph} (p : Parts) (at : Option ℕ) (d : ℕ) (o : Option ChildId) (ended : ℕ) (point ids : List TermId) → o ≡ None → IsExtended g h → AreLeaves g p.terms.names point → ids ≡ point → IsTest h ended → ((v : Valuation) → is_true h ended v ≡ true)
    → IsReached h p at ended ids (λ v. child_result (program_in p d o) (sees g p at point v))
nothing_reached {g} {h} p at d o ended point ids e x leaves same t tv =
    subst (λ q. IsReached h p at ended ids (λ v. child_result (program_in p d q) (sees g p at point v))) (sym e) (by_depth (nesting - d))
  where
    by_depth : (l : ℕ) → IsReached h p at ended ids (λ v. child_result (program_of p.terms p.children.items l None) (sees g p at point v))
    by_depth zero = record { test = t; leaves = subst (λ (r : List TermId). AreLeaves h p.terms.names r) (sym same) (leaves_kept p.terms.names point x leaves); is_ended = tv; at_point = λ v q. ap (λ (r : List TermId). sees h p at r v) same ∙ ap (point_at p at) (worths_leaves p.terms.names point v x leaves) }
    by_depth (suc l) = record { test = t; leaves = subst (λ (r : List TermId). AreLeaves h p.terms.names r) (sym same) (leaves_kept p.terms.names point x leaves); is_ended = tv; at_point = λ v q. ap (λ (r : List TermId). sees h p at r v) same ∙ ap (point_at p at) (worths_leaves p.terms.names point v x leaves) }

-- a program at its start
pub start_reached : {g h : Graph} (p : Parts) (s : AreSorted p) (at : Option ℕ) (c d : ℕ) (x : Child) (ended : ℕ) (point ids : List TermId) → around p.children.items c ≡ at → IsSortedChild p c d x → AreLeaves g p.terms.names point → AreLeaves h p.terms.names ids → IsTest h ended → ((v : Valuation) → is_true h ended v ≡ true) → ((v : Valuation) → worths h ids v ≡ with_initial p.terms.names x.first.0 x.initial_values.items (worths g point v))
    → IsReached h p (Some c) ended ids (λ v. iterated (step_at p (suc d) x.valid.0 x.instructions.items) 0 (entered (privates_of p.terms x) (sees g p at point v)))
start_reached {g} {h} p s at c d x ended point ids run child leaves leaves_h t tv f = record {
  test = t;
  leaves = leaves_h;
  is_ended = tv;
  at_point = λ v q.
      ap (point_at p (Some c)) (f v)
      ∙ sym (subst (λ a. entered (privates_of p.terms x) (point_at p a (worths g point v)) ≡ point_at p (Some c) (with_initial p.terms.names x.first.0 x.initial_values.items (worths g point v))) run
      (entered_point p s c d x (worths g point v) child.inside (length-worths g point v ∙ leaves.count)));
}

end_bool : (e b : Bool) (A B : Bool) → e ≡ A → (A ≡ true → b ≡ B) → cond b false e ≡ (A && not B)
end_bool e b true true f g = ap (λ z. cond z false e) (g refl)
end_bool e b true false f g = ap (λ z. cond z false e) (g refl) ∙ f
end_bool e true false B f g = refl
end_bool e false false B f g = f

-- and at its end
pub end_reached : {g0 g1 g2 h : Graph} (p : Parts) (s : AreSorted p) (at : Option ℕ) (i : ChildId) (d n : ℕ) (x : Child) (valid ended after : ℕ) (before point ids : List TermId) → around p.children.items i.0 ≡ at → IsSortedChild p i.0 d x → n ≡ x.steps → is_condition p (Some i.0) x.valid.0 ≡ true
    → HasDepth p.children.items (suc d) (Some i.0) → suc d ≤ nesting
    → AreLeaves g0 p.terms.names before
    → IsReached g1 p (Some i.0) ended point (λ v. iterated (step_at p (suc d) x.valid.0 x.instructions.items) n (entered (privates_of p.terms x) (sees g0 p at before v)))
    → IsExtended g1 g2 → IsCopy g2 p.terms point valid x.valid.0 → IsExtended g2 h → ids ≡ point
    → IsTest h after → ((v : Valuation) → is_true h after v ≡ cond (is_true g2 valid v) false (is_true g2 ended v))
    → IsReached h p at after ids (λ v. child_result (program_in p d (Some i)) (sees g0 p at before v))
end_reached {g0} {g1} {g2} {h} p s at i d n x valid ended after before point ids run child steps cond_is deep low leaves reached e1 copied e2 same t f =
    let M = machine_of p.terms (program_in p (suc d)) x in
    let start : Valuation → Valuation = λ v. entered (privates_of p.terms x) (sees g0 p at before v) in
    let r : Valuation → Result = λ v. iterated (step_at p (suc d) x.valid.0 x.instructions.items) x.steps (start v) in
    let got = subst (λ m. IsReached g1 p (Some i.0) ended point (λ v. iterated (step_at p (suc d) x.valid.0 x.instructions.items) m (start v))) steps reached in
    let leaves2 = leaves_kept p.terms.names point e1 got.leaves in
    let last : (v : Valuation) → (r v).ended ≡ true → sees g2 p (Some i.0) point v ≡ (r v).point = λ v q. ap (point_at p (Some i.0)) (worths_leaves p.terms.names point v e1 got.leaves) ∙ got.at_point v q in
    subst (λ y. IsReached h p at after ids (λ v. child_result y (sees g0 p at before v))) (sym (program_child p i d x child.inside.within child.inside.is_child child.low)) (record {
      test = t;
      leaves = subst (λ (z : List TermId). AreLeaves h p.terms.names z) (sym same) (leaves_kept p.terms.names point e2 leaves2);
      is_ended = λ v.
          f v ∙ end_bool (is_true g2 ended v) (is_true g2 valid v) (r v).ended (holds (tree p.terms x.valid.0) (r v).point)
          (true_kept ended v e1 got.test.below ∙ got.is_ended v)
          (λ q. condition_sees p s (Some i.0) (suc d) g2 point valid x.valid.0 v deep low cond_is leaves2 copied ∙ ap (holds (tree p.terms x.valid.0)) (last v q));
      at_point = λ v q.
          (let both = and_parts (r v).ended _ q in
          ap (λ (z : List TermId). sees h p at z v) same
          ∙ ap (point_at p at) (worths_leaves p.terms.names point v e2 leaves2)
          ∙ sym (ap (left_behind (privates_of p.terms x) (sees g0 p at before v)) (sym (last v both.0))
          ∙ subst (λ a. left_behind (privates_of p.terms x) (point_at p a (worths g0 before v)) (point_at p (Some i.0) (worths g2 point v)) ≡ point_at p a (worths g2 point v)) run
          (left_point p s i.0 d x (worths g0 before v) (worths g2 point v) child.inside (length-worths g0 before v ∙ leaves.count) (length-worths g2 point v ∙ leaves2.count))));
    })

-- the copy of the first of the listed terms
pub first_copy : (g source : Graph) (point copies read listed more : List TermId) (valid copy : TermId) → read ≡ copies → listed ≡ valid ∷ more → HasCopies g source point copies listed → copy ≡ copy_of read valid → IsCopy g source point copy.0 valid.0
first_copy g source point copies read listed more valid copy r l h e =
    let has = (subst (λ (ts : List TermId). HasCopies g source point copies ts) l h).0 in
    subst (λ (x : TermId). IsCopy g source point x.0 valid.0) (sym (e ∙ ap (λ (ids : List TermId). copy_of ids valid) r)) has

pub copy_condition : (g source : Graph) (point copies read listed more : List TermId) (valid copy : TermId) → read ≡ copies → listed ≡ valid ∷ more → HasCopies g source point copies listed → copy ≡ copy_of read valid → sort_of (tree source valid.0) ≡ Some truth → IsCondition g copy.0
copy_condition g source point copies read listed more valid copy r l h e s =
    let c = first_copy g source point copies read listed more valid copy r l h e in
    record { below = c.below; sort = c.sort ∙ s }

-- the valid condition of a machine has its sort
pub condition_sort : (p : Parts) (at : Option ℕ) (k : ℕ) → is_condition p at k ≡ true → sort_of (tree p.terms k) ≡ Some truth
condition_sort p at k h =
    let a = and_parts (is_term_of p.terms truth k) _ h in
    let b = and_parts (nat_lt k (length p.terms.nodes)) _ a.0 in
    sort-from (sort_of (tree p.terms k)) truth b.1

-- the copies of the instructions of a machine, as the code reads its lists
pub instructions_copied : (g source : Graph) (point point2 copies copies2 listed : List TermId) (valid : TermId) (is is2 : List Instruction) → listed ≡ valid ∷ terms_of_instructions is → point ≡ point2 → copies2 ≡ copies → is2 ≡ is → HasCopies g source point copies listed → HasCopies g source point2 copies2 (terms_of_instructions is2)
instructions_copied g source point point2 copies copies2 listed valid is is2 l e f h has =
    subst (λ (js : List Instruction). HasCopies g source point2 copies2 (terms_of_instructions js)) (sym h)
    (subst (λ (cs : List TermId). HasCopies g source point2 cs (terms_of_instructions is)) (sym f)
    (subst (λ (ids : List TermId). HasCopies g source ids copies (terms_of_instructions is)) e
    (subst (λ (ts : List TermId). HasCopies g source point copies ts) l has).1))

-- what is taken, as the code reads its lists
pub taken_read : (g h : Graph) (p : Parts) (at : Option ℕ) (d d2 : ℕ) (is is2 : List Instruction) (none ended : ℕ) (point ids ids2 : List TermId) → d2 ≡ d → is2 ≡ is → ids2 ≡ ids → IsTaken h p at d2 is2 none ended point (λ v. sees g p at ids2 v) → IsTaken h p at d is none ended point (λ v. sees g p at ids v)
taken_read g h p at d d2 is is2 none ended point ids ids2 e f i taken =
    subst (λ (xs : List TermId). IsTaken h p at d is none ended point (λ v. sees g p at xs v)) i
    (subst (λ (js : List Instruction). IsTaken h p at d js none ended point (λ v. sees g p at ids2 v)) f
    (subst (λ k. IsTaken h p at k is2 none ended point (λ v. sees g p at ids2 v)) e taken))
