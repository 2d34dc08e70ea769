-- The updates of memories by the instructions of well sorted parts.
use Rattle.std.proofs.Common.{◌≡◌, ℕ, zero, suc, ◌+◌, ◌<◌, ◌≤◌, Bool, true, false, cond, ◌⊎◌, inl, inr, List, [], ◌∷◌, ◌++◌, length, Some, None, refl, sym, ◌∙◌, ap, subst, arith}
use Rattle.std.specs.Prelude.{slice_get}
use Rattle.std.proofs.lemmas.Bool.{false≢true, and_parts}
use Rattle.verilog_trees.specs.Syntax.{Expression}
use Rattle.wb_terms.specs.Graph.{Graph}
use Rattle.ila_model.specs.declared.parts.Update.{Update}
use Rattle.ila_model.specs.declared.parts.Instruction.{Instruction}
use Rattle.ila_model.specs.declared.parts.Parts.{Parts}
use Rattle.ila_model.specs.Sorted.{are_distinct, name_at, sort_at, is_condition, are_updates, is_instruction, is_link, child_after, are_instructions}
use Rattle.emitted_designs.proofs.Named.{same_of}
use Rattle.emitted_modules.specs.Rtl.{Stored, Guarded}
use Rattle.emitted_modules.specs.Nodes.{operand}
use Rattle.emitted_modules.specs.Stores.{MemoryUpdate, stores_of}
use Rattle.emitted_modules.specs.Module.{is_of_memory, memory_update, memory_updates, all_stores, memories_for, memories_from, guarded_for, guarded_from}
use Rattle.emitted_modules.proofs.Names.{Among, AreDistinct, among_left, among_right, among_either, among_map, differs_in}
use Rattle.emitted_modules.proofs.WireNames.{AreOther, AreAllOther}
use Rattle.emitted_modules.proofs.Stores.{stores_named}
use Rattle.emitted_modules.proofs.Sorts.{term_of, update_sorted, update_names, updates_distinct}

-- ---- of one instruction

-- an update of a memory is one of the instruction's updates
pub memory_from : (g : Graph) (j : ℕ) (d : Expression) (us : List Update) (m : MemoryUpdate) → Among m (memory_updates g j d us)
    → (u : Update) × Among u us × (is_of_memory g u ≡ true) × (memory_update g j d u ≡ m)
memory_from g j d [] m at = absurd at
memory_from g j d (u ∷ us) m at =
    by_place (is_of_memory g u) refl (among_either m (cond (is_of_memory g u) (memory_update g j d u ∷ []) []) (memory_updates g j d us) at)
    (memory_from g j d us m)
  where
    by_place : (b : Bool) → is_of_memory g u ≡ b → Among m (cond b (memory_update g j d u ∷ []) []) ⊎ Among m (memory_updates g j d us)
        → (Among m (memory_updates g j d us) → (x : Update) × Among x us × (is_of_memory g x ≡ true) × (memory_update g j d x ≡ m))
        → (x : Update) × Among x (u ∷ us) × (is_of_memory g x ≡ true) × (memory_update g j d x ≡ m)
    by_place true e (inl (inl q)) more = (u, inl refl, e, q)
    by_place true e (inl (inr h)) more = absurd h
    by_place false e (inl h) more = absurd h
    by_place b e (inr h) more = let x = more h in (x.0, inr x.1, x.2, x.3)

-- and the other way
pub memory_there : (g : Graph) (j : ℕ) (d : Expression) (us : List Update) (u : Update) → Among u us → is_of_memory g u ≡ true
    → Among (memory_update g j d u) (memory_updates g j d us)
memory_there g j d [] u at e = absurd at
memory_there g j d (x ∷ us) u (inl q) e =
    subst (λ (y : Update). Among (memory_update g j d y) (memory_updates g j d (x ∷ us))) q
    (subst (λ b. Among (memory_update g j d x) (cond b (memory_update g j d x ∷ []) [] ++ memory_updates g j d us)) (sym (ap (is_of_memory g) q ∙ e)) (inl refl))
memory_there g j d (x ∷ us) u (inr h) e = by_test (is_of_memory g x) (memory_there g j d us u h e)
  where
    by_test : (b : Bool) → Among (memory_update g j d u) (memory_updates g j d us)
        → Among (memory_update g j d u) (cond b (memory_update g j d x ∷ []) [] ++ memory_updates g j d us)
    by_test true k = inr k
    by_test false k = k

pub other_memories : (p : Parts) (j : ℕ) (d : Expression) (us : List Update) → AreDistinct (update_names p us) → AreAllOther (memory_updates p.terms j d us)
other_memories p j d [] apart = tt
other_memories p j d (u ∷ us) apart = by_test (is_of_memory p.terms u) (other_memories p j d us apart.1)
  where
    first : (w : MemoryUpdate) → Among w (memory_updates p.terms j d us) → AreOther (memory_update p.terms j d u) w
    first w at same named =
        let x = memory_from p.terms j d us w at in
        false≢true
        (sym (differs_in (name_at p.terms.names u.state.0) (name_at p.terms.names x.0.state.0) (update_names p us) apart.0
        (among_map (λ (y : Update). name_at p.terms.names y.state.0) x.0 us x.1))
        ∙ same_of (name_at p.terms.names u.state.0) (name_at p.terms.names x.0.state.0) (named ∙ ap (λ (y : MemoryUpdate). y.memory_name) (sym x.3)))

    by_test : (b : Bool) → AreAllOther (memory_updates p.terms j d us)
        → AreAllOther (cond b (memory_update p.terms j d u ∷ []) [] ++ memory_updates p.terms j d us)
    by_test true e = (first, e)
    by_test false e = e

-- a store is of an update of its memory
pub store_from : (p : Parts) (j : ℕ) (d : Expression) (us : List Update) (w : Stored) → Among w (all_stores p.terms (memory_updates p.terms j d us))
    → (u : Update) × Among u us × (is_of_memory p.terms u ≡ true) × (w.memory_name ≡ name_at p.terms.names u.state.0)
store_from p j d us w at =
    let x = of_some (memory_updates p.terms j d us) at in
    let y = memory_from p.terms j d us x.0 x.1 in
    (y.0, y.1, y.2, x.2 ∙ ap (λ (z : MemoryUpdate). z.memory_name) (sym y.3))
  where
    of_some : (ms : List MemoryUpdate) → Among w (all_stores p.terms ms) → (m : MemoryUpdate) × Among m ms × (w.memory_name ≡ m.memory_name)
    of_some [] h = absurd h
    of_some (m ∷ ms) h = by_place (among_either w (stores_of p.terms m (suc m.term)) (all_stores p.terms ms) h) (of_some ms)
      where
        by_place : Among w (stores_of p.terms m (suc m.term)) ⊎ Among w (all_stores p.terms ms)
            → (Among w (all_stores p.terms ms) → (z : MemoryUpdate) × Among z ms × (w.memory_name ≡ z.memory_name))
            → (z : MemoryUpdate) × Among z (m ∷ ms) × (w.memory_name ≡ z.memory_name)
        by_place (inl k) more = (m, inl refl, stores_named p.terms m (suc m.term) w k)
        by_place (inr k) more = let z = more k in (z.0, inr z.1, z.2)

-- ---- of all instructions

-- what an instruction becomes
pub guarded_got : (g : Graph) (from : ℕ) (is : List Instruction) (k : ℕ) (c : Instruction) → slice_get is k ≡ Some c
    → slice_get (guarded_from g from is) k ≡ Some (guarded_for g (from + k) c)
guarded_got g from [] k c e = cc
guarded_got g from (i ∷ is) zero c e =
    let same : i ≡ c = cc in ap (λ (x : Instruction). Some (guarded_for g from x)) same ∙ ap (λ n. Some (guarded_for g n c)) (none_more from)
  where
    none_more : (n : ℕ) → n ≡ n + 0
    none_more n = omega arith
guarded_got g from (i ∷ is) (suc k) c e = guarded_got g (suc from) is k c e ∙ ap (λ n. Some (guarded_for g n c)) (one_more from k)
  where
    one_more : (n m : ℕ) → suc n + m ≡ n + suc m
    one_more n m = omega arith

pub got_guarded : (g : Graph) (from : ℕ) (is : List Instruction) (k : ℕ) (z : Guarded) → slice_get (guarded_from g from is) k ≡ Some z
    → (c : Instruction) × (slice_get is k ≡ Some c) × (guarded_for g (from + k) c ≡ z)
got_guarded g from [] k z e = cc
got_guarded g from (i ∷ is) zero z e =
    let same : guarded_for g from i ≡ z = cc in (i, refl, ap (λ n. guarded_for g n i) (none_more from) ∙ same)
  where
    none_more : (n : ℕ) → n + 0 ≡ n
    none_more n = omega arith
got_guarded g from (i ∷ is) (suc k) z e =
    let x = got_guarded g (suc from) is k z e in (x.0, x.1, ap (λ n. guarded_for g n x.0) (one_more from k) ∙ x.2)
  where
    one_more : (n m : ℕ) → n + suc m ≡ suc n + m
    one_more n m = omega arith

-- the updates of one instruction are among those of all
pub memories_there : (g : Graph) (from : ℕ) (is : List Instruction) (k : ℕ) (c : Instruction) → slice_get is k ≡ Some c → (m : MemoryUpdate)
    → Among m (memories_for g (from + k) c) → Among m (memories_from g from is)
memories_there g from [] k c e m at = cc
memories_there g from (i ∷ is) zero c e m at =
    let same : i ≡ c = cc in
    among_left m (memories_for g from i) (memories_from g (suc from) is)
    (subst (λ (x : Instruction). Among m (memories_for g from x)) (sym same) (subst (λ n. Among m (memories_for g n c)) (none_more from) at))
  where
    none_more : (n : ℕ) → n + 0 ≡ n
    none_more n = omega arith
memories_there g from (i ∷ is) (suc k) c e m at =
    among_right m (memories_for g from i) (memories_from g (suc from) is)
    (memories_there g (suc from) is k c e m (subst (λ n. Among m (memories_for g n c)) (one_more from k) at))
  where
    one_more : (n m : ℕ) → n + suc m ≡ suc n + m
    one_more n m = omega arith

-- the updates of an instruction are sorted, and the rest is
first_sorted : (p : Parts) (from : ℕ) (i : Instruction) (is : List Instruction) → are_instructions p None from (i ∷ is) ≡ true
    → (are_updates p None 0 i.updates.items ≡ true) × (are_instructions p None (child_after from i.child) is ≡ true)
first_sorted p from i is e =
    let a = and_parts (is_instruction p None i) _ e in
    let b = and_parts (is_link p.children.items None from i.child) _ a.1 in
    ((and_parts (is_condition p None i.decode.0) (are_updates p None 0 i.updates.items) a.0).1, b.1)

-- one is of an instruction with its number
pub numbered_memory : (g : Graph) (j : ℕ) (is : List Instruction) (m : MemoryUpdate) → Among m (memories_from g j is)
    → (j ≤ m.instruction) × (m.instruction < j + length is)
numbered_memory g j [] m at = absurd at
numbered_memory g j (i ∷ is) m at = by_place (among_either m (memories_for g j i) (memories_from g (suc j) is) at) (numbered_memory g (suc j) is m)
  where
    first : (n : ℕ) → j ≡ n → (j ≤ n) × (n < j + suc (length is))
    first n e = (omega (arith, e), omega (arith, e))

    by_place : Among m (memories_for g j i) ⊎ Among m (memories_from g (suc j) is)
        → (Among m (memories_from g (suc j) is) → (suc j ≤ m.instruction) × (m.instruction < suc j + length is))
        → (j ≤ m.instruction) × (m.instruction < j + suc (length is))
    by_place (inl h) more =
        let x = memory_from g j (operand g i.decode.0) i.updates.items m h in first m.instruction (ap (λ (z : MemoryUpdate). z.instruction) x.3)
    by_place (inr h) more = let z = more h in (omega (arith, z.0), omega (arith, z.1))

pub memories_low : (p : Parts) (j from : ℕ) (is : List Instruction) → are_instructions p None from is ≡ true → (m : MemoryUpdate)
    → Among m (memories_from p.terms j is) → (m.instruction < j + length is) × (m.term < length p.terms.nodes)
memories_low p j from is e m at = ((numbered_memory p.terms j is m at).1, term_low j from is e at)
  where
    term_low : (k start : ℕ) (xs : List Instruction) → are_instructions p None start xs ≡ true → Among m (memories_from p.terms k xs)
        → m.term < length p.terms.nodes
    term_low k start [] f h = absurd h
    term_low k start (x ∷ xs) f h =
        by_place (among_either m (memories_for p.terms k x) (memories_from p.terms (suc k) xs) h)
        (term_low (suc k) (child_after start x.child) xs (first_sorted p start x xs f).1)
      where
        by_place : Among m (memories_for p.terms k x) ⊎ Among m (memories_from p.terms (suc k) xs)
            → (Among m (memories_from p.terms (suc k) xs) → m.term < length p.terms.nodes) → m.term < length p.terms.nodes
        by_place (inl g) more =
            let u = memory_from p.terms k (operand p.terms x.decode.0) x.updates.items m g in
            subst (λ n. n < length p.terms.nodes) (ap (λ (z : MemoryUpdate). z.term) u.3)
            (term_of p (sort_at p.terms.names u.0.state.0) u.0.term.0 (update_sorted p 0 x.updates.items u.0 (first_sorted p start x xs f).0 u.1).read).0
        by_place (inr g) more = more g

other_joined : (xs ys : List MemoryUpdate) → AreAllOther xs → AreAllOther ys → ((x y : MemoryUpdate) → Among x xs → Among y ys → AreOther x y)
    → AreAllOther (xs ++ ys)
other_joined [] ys d e h = e
other_joined (x ∷ xs) ys d e h =
    (λ w at. by_place w (among_either w xs ys at), other_joined xs ys d.1 e (λ a b p q. h a b (inr p) q))
  where
    by_place : (w : MemoryUpdate) → Among w xs ⊎ Among w ys → AreOther x w
    by_place w (inl at) = d.0 w at
    by_place w (inr at) = h x w (inl refl) at

pub all_memories_other : (p : Parts) (j from : ℕ) (is : List Instruction) → are_distinct p.terms.names ≡ true → are_instructions p None from is ≡ true
    → AreAllOther (memories_from p.terms j is)
all_memories_other p j from [] d e = tt
all_memories_other p j from (i ∷ is) d e =
    let parts = first_sorted p from i is e in
    other_joined (memories_for p.terms j i) (memories_from p.terms (suc j) is)
    (other_memories p j (operand p.terms i.decode.0) i.updates.items (updates_distinct p 0 i.updates.items d parts.0))
    (all_memories_other p (suc j) (child_after from i.child) is d parts.1)
    (λ x y at there same named. later x y at there same)
  where
    no_earlier : (a b : ℕ) → j ≡ a → suc j ≤ b → a ≡ b → ⊥
    no_earlier a b q l r = omega (arith, q, l, r)

    later : (x y : MemoryUpdate) → Among x (memories_for p.terms j i) → Among y (memories_from p.terms (suc j) is) → x.instruction ≡ y.instruction → ⊥
    later x y at there same =
        let u = memory_from p.terms j (operand p.terms i.decode.0) i.updates.items x at in
        no_earlier x.instruction y.instruction (ap (λ (z : MemoryUpdate). z.instruction) u.3) (numbered_memory p.terms (suc j) is y there).0 same
