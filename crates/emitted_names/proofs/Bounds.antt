-- The terms of a well sorted model's top stand in its store, and the states that it updates in its table.
use Rattle.std.proofs.Common.{◌≡◌, ℕ, zero, suc, ◌+◌, ◌<◌, ◌≤◌, true, List, [], ◌∷◌, ◌++◌, length, drop, Option, Some, None, slice_get, IsTrue, sym, ◌∙◌, ap, subst}
use Rattle.std.proofs.lemmas.List.{append_assoc, append-nil, at_drop_all}
use Rattle.std.specs.Prelude.{nat_le, nat_lt}
use Rattle.std.proofs.lemmas.Bool.{and_parts, ltb-true}
use Rattle.wb_values.specs.Value.{Sort, truth}
use Rattle.wb_terms.specs.declared.nodes.TermId.{TermId}
use Rattle.wb_terms.specs.Graph.{Graph}
use Rattle.ila_model.specs.declared.parts.Update.{Update}
use Rattle.ila_model.specs.declared.parts.Instruction.{Instruction}
use Rattle.ila_model.specs.declared.parts.Parts.{Parts}
use Rattle.ila_model.specs.Sorted.{is_well_sorted, are_distinct, are_declarations, is_machine, is_condition, is_term_of, is_read_at, is_state_at, sort_at, are_updates, is_instruction, is_link, child_after, are_instructions}
use Rattle.wanted_terms.specs.Wanted.{AreBelow}
use Rattle.emitted_names.specs.Within.{AreUpdatesWithin, IsWithin, AreWithin, HasBounds}
use Rattle.emitted_names.specs.Keeping.{updated_by, roots_among, roots_of}
use Rattle.emitted_names.proofs.Turns.{drop_is}
use Rattle.std.proofs.lemmas.Option.{same_Some, none-some}

read_below : (p : Parts) (at : Option ℕ) (s : Sort) (k : ℕ) → is_read_at p at s k ≡ true → k < length p.terms.nodes
read_below p at s k h =
    let a = and_parts (is_term_of p.terms s k) _ h in
    let b = and_parts (nat_lt k (length p.terms.nodes)) _ a.0 in ltb-true k (length p.terms.nodes) b.0

updates_within : (p : Parts) (at : Option ℕ) (from : ℕ) (us : List Update) → are_updates p at from us ≡ true → AreUpdatesWithin p.terms us
updates_within p at from [] h = tt
updates_within p at from (u ∷ us) h =
    let a = and_parts (nat_le from u.state.0) _ h in
    let b = and_parts (is_state_at p at u.state.0) _ a.1 in
    let c = and_parts (is_read_at p at (sort_at p.terms.names u.state.0) u.term.0) _ b.1 in
    let s = and_parts (nat_lt u.state.0 (length p.terms.names)) _ b.0 in
    (ltb-true u.state.0 (length p.terms.names) s.0, read_below p at (sort_at p.terms.names u.state.0) u.term.0 c.0, updates_within p at (suc u.state.0) us c.1)

instructions_within : (p : Parts) (at : Option ℕ) (from : ℕ) (is : List Instruction) → are_instructions p at from is ≡ true → AreWithin p.terms is
instructions_within p at from [] h = tt
instructions_within p at from (i ∷ is) h =
    let x = and_parts (is_instruction p at i) _ h in
    let y = and_parts (is_condition p at i.decode.0) _ x.0 in
    let z = and_parts (is_link p.children.items at from i.child) _ x.1 in (
      record { condition = read_below p at truth i.decode.0 y.0; updated = updates_within p at 0 i.updates.items y.1 },
      instructions_within p at (child_after from i.child) is z.1,
    )

pub bounds : (p : Parts) → IsTrue (is_well_sorted p) → HasBounds p
bounds p h =
    let a = and_parts (are_distinct p.terms.names) _ h in
    let b = and_parts (are_declarations p) _ a.1 in
    let c = and_parts (is_machine p None p.valid.0 p.instructions.items) _ b.1 in
    let d = and_parts (is_condition p None p.valid.0) _ c.0 in
    record { condition = read_below p None truth p.valid.0 d.0; instructed = instructions_within p None 0 p.instructions.items d.1 }

-- ---- what is known of one of a list

pub update_within : (g : Graph) (us : List Update) (k : ℕ) (u : Update) → AreUpdatesWithin g us → slice_get us k ≡ Some u
    → (u.state.0 < length g.names) × (u.term.0 < length g.nodes)
update_within g [] k u h e = absurd (none-some u e)
update_within g (v ∷ us) zero u h e = subst (λ (w : Update). (w.state.0 < length g.names) × (w.term.0 < length g.nodes)) (same_Some v u e) (h.0, h.1)
update_within g (v ∷ us) (suc k) u h e = update_within g us k u h.2 e

pub instruction_within : (g : Graph) (is : List Instruction) (k : ℕ) (i : Instruction) → AreWithin g is → slice_get is k ≡ Some i → IsWithin g i
instruction_within g [] k i h e = absurd (none-some i e)
instruction_within g (j ∷ is) zero i h e = subst (IsWithin g) (same_Some j i e) h.0
instruction_within g (j ∷ is) (suc k) i h e = instruction_within g is k i h.1 e

pub id_below : (n : ℕ) (ids : List TermId) (k : ℕ) (d : TermId) → AreBelow n ids → slice_get ids k ≡ Some d → d.0 < n
id_below n [] k d h e = absurd (none-some d e)
id_below n (x ∷ ids) zero d h e = subst (λ (y : TermId). y.0 < n) (same_Some x d e) h.0
id_below n (x ∷ ids) (suc k) d h e = id_below n ids k d h.1 e

-- ---- lists of terms

pub both_below : (n : ℕ) (xs ys : List TermId) → AreBelow n xs → AreBelow n ys → AreBelow n (xs ++ ys)
both_below n [] ys h k = k
both_below n (x ∷ xs) ys h k = (h.0, both_below n xs ys h.1 k)

updated_below : (g : Graph) (us : List Update) → AreUpdatesWithin g us → AreBelow (length g.nodes) (updated_by us)
updated_below g [] h = tt
updated_below g (u ∷ us) h = (h.1, updated_below g us h.2)

among_below : (g : Graph) (is : List Instruction) → AreWithin g is → AreBelow (length g.nodes) (roots_among is)
among_below g [] h = tt
among_below g (i ∷ is) h =
    (h.0.condition, both_below (length g.nodes) (updated_by i.updates.items) (roots_among is) (updated_below g i.updates.items h.0.updated) (among_below g is h.1))

pub roots_below : (p : Parts) → IsTrue (is_well_sorted p) → AreBelow (length p.terms.nodes) (roots_of p)
roots_below p h = let b = bounds p h in (b.condition, among_below p.terms p.instructions.items b.instructed)

-- ---- the roots, instruction by instruction

pub roots_more : (is : List Instruction) (k : ℕ) (i : Instruction) (us : List Update) (all done mid new : List TermId) → slice_get is k ≡ Some i → us ≡ i.updates.items
    → done ++ roots_among (drop k is) ≡ all → mid ≡ done ++ i.decode ∷ [] → new ≡ mid ++ updated_by us → new ++ roots_among (drop (k + 1) is) ≡ all
roots_more is k i us all done mid new at same before one more =
    let rest = roots_among (drop (k + 1) is) in
    ap (λ xs. xs ++ rest) (more ∙ ap (λ xs. xs ++ updated_by us) one ∙ ap (λ vs. done ++ i.decode ∷ [] ++ updated_by vs) same)
    ∙ append_assoc (done ++ i.decode ∷ []) (updated_by i.updates.items) rest
    ∙ append_assoc done (i.decode ∷ []) (updated_by i.updates.items ++ rest)
    ∙ ap (λ js. done ++ roots_among js) (sym (drop_is is k i at))
    ∙ before

pub roots_done : (is : List Instruction) (k : ℕ) (all done : List TermId) → length is ≤ k → done ++ roots_among (drop k is) ≡ all → done ≡ all
roots_done is k all done l before = sym (append-nil done) ∙ sym (at_drop_all (λ js. done ++ roots_among js) is k l) ∙ before
