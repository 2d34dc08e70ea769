-- Instructions: what was put stays as it is while the store grows, and one instruction after another makes the list.
use Rattle.std.proofs.Common.{◌≡◌, ℕ, suc, ◌<◌, true, List, [], ◌∷◌, ◌++◌, length, map, Bor, Option, sym, ap, ◌∙◌, subst, arith, append_assoc, length-append}
use Rattle.std.specs.Prelude.{Ok}
use Rattle.std.proofs.Math.ListN.{get_or-append}
use Rattle.std.proofs.lemmas.List.{append-nil}
use Rattle.std.specs.BTreeMap.{BTreeMap}
use Rattle.std.specs.String.{string_bytes}
use Rattle.std.proofs.lemmas.Bool.{and_parts}
use Rattle.wb_values.specs.Value.{Name, Sort, Entries}
use Rattle.model_meaning.specs.Term.{Term}
use Rattle.model_meaning.specs.Model.{StateDeclaration}
use Rattle.model_files.specs.Written.{WrittenTerm, WrittenInstruction, WrittenInstructions, no_instructions, and_then}
use Rattle.model_files.specs.Scope.{Visible, placed, of_condition, term_of, placed_updates}
use Rattle.model_files.specs.Meaning.{updates_for_states}
use Rattle.wb_terms.specs.declared.nodes.TermId.{TermId}
use Rattle.wb_terms.specs.Graph.{Graph, tree}
use Rattle.ila_model.specs.declared.parts.Instruction.{Instruction}
use Rattle.ila_model.specs.declared.parts.ChildId.{ChildId}
use Rattle.ila_build.specs.Standing.{seen_by, term_by, IsGrown, IsWider, IsPut}
use Rattle.ila_build.specs.Knowing.{Knows, is_right, are_right}
use Rattle.ila_build.specs.Updating.{entry_at, StandAt, AreUpdates, AreUpdated}
use Rattle.ila_build.specs.Building.{called_in, decode_in, update_in, pair_of, link_at, AreOwnRight, IsInstruction, AreInstructions, IsInstructionPut, AreInstructionsPut}
use Rattle.ila_build.proofs.Growing.{wider, widen, wide_same}
use Rattle.ila_build.proofs.Definitions.{right_put, IsTermOf, knows_grown}
use Rattle.ila_build.proofs.Chosen.{stand_moved}

entry_wider : (g h : Graph) (k : ℕ) → IsWider g h → k < length g.names → entry_at h.names k ≡ entry_at g.names k
entry_wider g h k b w = ap (λ ns. entry_at ns k) b.names ∙ get_or-append g.names b.more _ k w

names_within : (g h : Graph) (k : ℕ) → IsWider g h → k < length g.names → k < length h.names
names_within g h k b w = subst (λ (ns : Entries Sort). k < length ns) (sym b.names) (longer g.names b.more w) where
  longer : (ns more : Entries Sort) → k < length ns → k < length (ns ++ more)
  longer ns more w = omega (arith, w, length-append ns more)

pub updates_wider : (g h : Graph) (us : List (ℕ × TermId)) (ts : Entries Term) → IsWider g h → AreUpdates g us ts → AreUpdates h us ts
updates_wider g h [] [] b a = tt
updates_wider g h [] (t ∷ ts) b a = absurd a
updates_wider g h (u ∷ us) [] b a = absurd a
updates_wider g h (u ∷ us) (t ∷ ts) b a =
    (names_within g h u.0 b a.0, omega (arith, b.longer, a.1), ap (λ (x : Name × Sort). x.0) (entry_wider g h u.0 b a.0) ∙ a.2, b.trees u.1.0 a.1 ∙ a.3, updates_wider g h us ts b a.4)

pub instruction_wider : (g h : Graph) (names : Entries Visible) (ss : List StateDeclaration) (link : Option ChildId) (i : WrittenInstruction) (x : Instruction) → IsWider g h → IsInstruction g names ss link i x → IsInstruction h names ss link i x
instruction_wider g h names ss link i x b a =
    (a.0, omega (arith, b.longer, a.1), b.trees x.decode.0 a.1 ∙ a.2, updates_wider g h (map pair_of x.updates.items) (updates_for_states names ss (update_in i)) b a.3, a.4)

pub instructions_wider : (g h : Graph) (names : Entries Visible) (ss : List StateDeclaration) (links : List (Option ChildId)) (k : ℕ) (is : WrittenInstructions) (xs : List Instruction) → IsWider g h → AreInstructions g names ss links k is xs → AreInstructions h names ss links k is xs
instructions_wider g h names ss links k no_instructions [] b a = tt
instructions_wider g h names ss links k no_instructions (x ∷ xs) b a = absurd a
instructions_wider g h names ss links k (and_then i is) [] b a = absurd a
instructions_wider g h names ss links k (and_then i is) (x ∷ xs) b a =
    (instruction_wider g h names ss (link_at links k) i x b a.0, instructions_wider g h names ss links (suc k) is xs b a.1)

-- the decode condition is put, and then the updates
pub instruction_put : (g m h : Graph) (t : BTreeMap (Bor (List ℕ)) TermId) (f : Option TermId) (link : Option ChildId) (w : WrittenInstruction) (d : WrittenTerm) (us : Entries WrittenTerm) (id : TermId) (pairs : List (ℕ × TermId)) (x : Instruction)
    → d ≡ decode_in w → us ≡ update_in w → IsPut g m (Ok id) (term_by (seen_by g t f) d) → IsGrown m h → AreUpdated m t f h pairs us
    → string_bytes x.name ≡ called_in w → x.decode ≡ id → map pair_of x.updates.items ≡ pairs → x.child ≡ link → IsInstructionPut g t f h link w x
unfolding IsInstructionPut AreUpdated are_right
instruction_put g m h t f link w d us id pairs x e1 e2 put b ups en ed eu el names ks ss k s r =
    let d' = decode_in w in
    let us' = update_in w in
    let parts = and_parts (is_right (placed names d' of_condition)) (are_right (placed_updates names ss us')) r in
    let put' = subst (λ v. IsPut g m (Ok id) (term_by (seen_by g t f) v)) e1 put in
    let ups' = subst (λ v. are_right (placed_updates names ss v) ≡ true → AreUpdates h pairs (updates_for_states names ss v)) e2 (ups names ks ss (knows_grown g m t f names (wider put.0) k) (stand_moved g m 0 ks ss put.0.names s)) in
    let it : IsTermOf m id names d' = right_put g m t f names d' of_condition (Ok id) k parts.0 put' in
    let there : (x.decode.0 < length h.nodes) × (tree h x.decode.0 ≡ term_of names d') =
    subst (λ (i : TermId). (i.0 < length h.nodes) × (tree h i.0 ≡ term_of names d')) (sym ed) (omega (arith, it.within, b.longer), b.trees id.0 it.within ∙ it.tree) in
    (en, there.0, there.1, subst (λ ps. AreUpdates h ps (updates_for_states names ss us')) (sym eu) (ups' parts.1), el)

-- ---- the loop: the instructions that are left, put into any later store, complete the list

unfoldable pub AreToPut : Graph → BTreeMap (Bor (List ℕ)) TermId → Option TermId → Graph → List (Option ChildId) → (put : List Instruction) → ℕ → (rest all : WrittenInstructions) → Type 0
AreToPut g t f h links put i rest all = (names : Entries Visible) (ks : List ℕ) (ss : List StateDeclaration)
    → Knows g t f names → StandAt g 0 ks ss → AreOwnRight names ss all
    → AreOwnRight names ss rest × ((k : Graph) (ys : List Instruction) → IsWider h k → AreInstructions k names ss links i rest ys → AreInstructions k names ss links 0 all (put ++ ys))

pub put_start : (g : Graph) (t : BTreeMap (Bor (List ℕ)) TermId) (f : Option TermId) (links : List (Option ChildId)) (is : WrittenInstructions) → AreToPut g t f g links [] 0 is is
unfolding AreToPut
put_start g t f links is names ks ss k s r = (r, λ h ys b a. a)

pub put_turn : (g h m : Graph) (t : BTreeMap (Bor (List ℕ)) TermId) (f : Option TermId) (links : List (Option ChildId)) (put now : List Instruction) (i : ℕ) (link : Option ChildId) (w : WrittenInstruction) (rest all : WrittenInstructions) (x : Instruction)
    → now ≡ put ++ x ∷ [] → link ≡ link_at links i → IsGrown g h → IsGrown h m → AreToPut g t f h links put i (and_then w rest) all → IsInstructionPut h t f m link w x → AreToPut g t f m links now (suc i) rest all
unfolding AreToPut IsInstructionPut
put_turn g h m t f links put now i link w rest all x e el b c a one names ks ss k s r =
    let at = a names ks ss k s r in
    let it : IsInstruction m names ss (link_at links i) w x = subst (λ l. IsInstruction m names ss l w x) el (one names ks ss (knows_grown g h t f names (wider b) k) (stand_moved g h 0 ks ss b.names s) at.0.0) in (
      at.0.1,
      λ n ys d z.
          subst (AreInstructions n names ss links 0 all) (sym (ap (λ xs. xs ++ ys) e ∙ append_assoc put (x ∷ []) ys))
          (at.1 n (x ∷ ys) (widen (wider c) d) (instruction_wider m n names ss (link_at links i) w x d it, z)),
    )

pub put_end : (g h : Graph) (t : BTreeMap (Bor (List ℕ)) TermId) (f : Option TermId) (links : List (Option ChildId)) (put : List Instruction) (i : ℕ) (all : WrittenInstructions) → AreToPut g t f h links put i no_instructions all → AreInstructionsPut g t f h links all put
unfolding AreToPut AreInstructionsPut
put_end g h t f links put i all a names ks ss k s r =
    subst (AreInstructions h names ss links 0 all) (append-nil put) ((a names ks ss k s r).1 h [] (wide_same h) tt)
