-- Terms of entries and ends of instructions, one after the other.
use Rattle.std.proofs.Common.{◌≡◌, ℕ, ◌+◌, ◌<◌, sym, subst, List, [], ◌∷◌, ◌++◌, map, take, drop, length, get_or}
use Rattle.std.proofs.lemmas.List.{take_more, drop_more, map-append}
use Rattle.wb_values.specs.Value.{Name, Sort, truth, Entries}
use Rattle.verilog_trees.specs.Syntax.{Expression}
use Rattle.verilog_meaning.specs.Expression.{Scope}
use Rattle.refinement.specs.Map.{InstructionMap}
use Rattle.wb_terms.specs.Graph.{Graph}
use Rattle.v_operators.specs.Meaning.{Grows}
use Rattle.v_lower.specs.Lowered.{Images, HasImages}
use Rattle.path_terms.proofs.Made.{term_kept}
use Rattle.mapped_designs.specs.Mapped.{MappedInstruction}
use Rattle.map_terms.specs.Terms.{IsEntryTerm, AreEntryTerms, IsEnd, AreEnds}
use Rattle.map_terms.specs.Ready.{AreReadable, HasReadableEntry, HaveReadableEntries, HasEnd, HaveEnds}
use Rattle.path_terms.specs.Mapped.{AreFit}

pub fits_of : (s m : Scope) (es : List Expression) → AreReadable s m es → AreFit s es
fits_of s m [] h = tt
fits_of s m (e ∷ es) h = (h.0.fit, fits_of s m es h.1)

module _ (s : Scope) (a : Images) where
  pub entry_kept : (g h : Graph) (es : Entries Expression) (n : Name × Sort) (id : ℕ) → Grows g h → HasImages s a g → IsEntryTerm s a g es n id → IsEntryTerm s a h es n id
  entry_kept g h es n id grows known t =
      record { expression = t.expression; is_entry = t.is_entry; is_term = term_kept s a g h n.1 t.expression id grows known t.is_term }

  pub entries_kept : (g h : Graph) (es : Entries Expression) (ns : Entries Sort) (ids : List ℕ) → Grows g h → HasImages s a g → AreEntryTerms s a g es ns ids
      → AreEntryTerms s a h es ns ids
  entries_kept g h es [] [] grows known t = tt
  entries_kept g h es [] (id ∷ ids) grows known t = absurd t
  entries_kept g h es (n ∷ ns) [] grows known t = absurd t
  entries_kept g h es (n ∷ ns) (id ∷ ids) grows known t = (entry_kept g h es n id grows known t.0, entries_kept g h es ns ids grows known t.1)

  pub entry_more : (g : Graph) (es : Entries Expression) (ns : Entries Sort) (ids : List ℕ) (n : Name × Sort) (id : ℕ) → AreEntryTerms s a g es ns ids
      → IsEntryTerm s a g es n id → AreEntryTerms s a g es (ns ++ n ∷ []) (ids ++ id ∷ [])
  entry_more g es [] [] n id t k = (k, tt)
  entry_more g es [] (i ∷ ids) n id t k = absurd t
  entry_more g es (m ∷ ns) [] n id t k = absurd t
  entry_more g es (m ∷ ns) (i ∷ ids) n id t k = (t.0, entry_more g es ns ids n id t.1 k)

  pub end_kept : (g h : Graph) (is : List InstructionMap) (n : Name) (x : MappedInstruction) → Grows g h → HasImages s a g → IsEnd s a g is n x → IsEnd s a h is n x
  end_kept g h is n x grows known t =
      record { entry = t.entry; is_entry = t.is_entry; is_term = term_kept s a g h truth t.entry.commit x.commit grows known t.is_term; bound = t.bound }

  pub ends_kept : (g h : Graph) (is : List InstructionMap) (ns : List Name) (xs : List MappedInstruction) → Grows g h → HasImages s a g → AreEnds s a g is ns xs
      → AreEnds s a h is ns xs
  ends_kept g h is [] [] grows known t = tt
  ends_kept g h is [] (x ∷ xs) grows known t = absurd t
  ends_kept g h is (n ∷ ns) [] grows known t = absurd t
  ends_kept g h is (n ∷ ns) (x ∷ xs) grows known t = (end_kept g h is n x grows known t.0, ends_kept g h is ns xs grows known t.1)

  pub end_more : (g : Graph) (is : List InstructionMap) (ns : List Name) (xs : List MappedInstruction) (n : Name) (x : MappedInstruction) → AreEnds s a g is ns xs
      → IsEnd s a g is n x → AreEnds s a g is (ns ++ n ∷ []) (xs ++ x ∷ [])
  end_more g is [] [] n x t k = (k, tt)
  end_more g is [] (y ∷ xs) n x t k = absurd t
  end_more g is (m ∷ ns) [] n x t k = absurd t
  end_more g is (m ∷ ns) (y ∷ xs) n x t k = (t.0, end_more g is ns xs n x t.1 k)

  -- ---- lists of the code's

  pub none_entered : {B : Type 0} (k : B → ℕ) (g : Graph) (es : Entries Expression) (ids : List B) → ids ≡ [] → AreEntryTerms s a g es [] (map k ids)
  none_entered {B} k g es ids is = subst (λ (xs : List B). AreEntryTerms s a g es [] (map k xs)) (sym is) tt

  pub none_ended : {B : Type 0} (k : B → MappedInstruction) (g : Graph) (is : List InstructionMap) (ys : List B) → ys ≡ [] → AreEnds s a g is [] (map k ys)
  none_ended {B} k g is ys e = subst (λ (xs : List B). AreEnds s a g is [] (map k xs)) (sym e) tt

  module _ {A B : Type 0} (f : A → Name × Sort) (k : B → ℕ) where
    pub entry_turn : (g h : Graph) (es : Entries Expression) (xs : List A) (i : ℕ) (d : A) → i < length xs → (ids new : List B) (id : B) → Grows g h → HasImages s a g
        → AreEntryTerms s a g es (map f (take i xs)) (map k ids) → IsEntryTerm s a h es (f (get_or xs i d)) (k id) → new ≡ ids ++ id ∷ []
        → AreEntryTerms s a h es (map f (take (i + 1) xs)) (map k new)
    entry_turn g h es xs i d l ids new id grows known made term is =
        subst (λ (ys : List A). AreEntryTerms s a h es (map f ys) (map k new)) (sym (take_more xs i d l))
        (subst (λ (ks : List B). AreEntryTerms s a h es (map f (take i xs ++ get_or xs i d ∷ [])) (map k ks)) (sym is)
        (subst (λ ns. AreEntryTerms s a h es ns (map k (ids ++ id ∷ []))) (sym (map-append f (take i xs) (get_or xs i d ∷ [])))
        (subst (AreEntryTerms s a h es (map f (take i xs) ++ f (get_or xs i d) ∷ [])) (sym (map-append k ids (id ∷ [])))
        (entry_more h es (map f (take i xs)) (map k ids) (f (get_or xs i d)) (k id) (entries_kept g h es (map f (take i xs)) (map k ids) grows known made) term))))

  module _ {A B : Type 0} (f : A → Name) (k : B → MappedInstruction) where
    pub end_turn : (g h : Graph) (is : List InstructionMap) (xs : List A) (i : ℕ) (d : A) → i < length xs → (ys new : List B) (y : B) → Grows g h → HasImages s a g
        → AreEnds s a g is (map f (take i xs)) (map k ys) → IsEnd s a h is (f (get_or xs i d)) (k y) → new ≡ ys ++ y ∷ []
        → AreEnds s a h is (map f (take (i + 1) xs)) (map k new)
    end_turn g h is xs i d l ys new y grows known made term e =
        subst (λ (zs : List A). AreEnds s a h is (map f zs) (map k new)) (sym (take_more xs i d l))
        (subst (λ (ks : List B). AreEnds s a h is (map f (take i xs ++ get_or xs i d ∷ [])) (map k ks)) (sym e)
        (subst (λ ns. AreEnds s a h is ns (map k (ys ++ y ∷ []))) (sym (map-append f (take i xs) (get_or xs i d ∷ [])))
        (subst (AreEnds s a h is (map f (take i xs) ++ f (get_or xs i d) ∷ [])) (sym (map-append k ys (y ∷ [])))
        (end_more h is (map f (take i xs)) (map k ys) (f (get_or xs i d)) (k y) (ends_kept g h is (map f (take i xs)) (map k ys) grows known made) term))))

-- what is asked of the rest of a list
module _ {A : Type 0} (s m : Scope) (f : A → Name × Sort) (es : Entries Expression) where
  pub entry_first : (xs : List A) (i : ℕ) (d : A) → i < length xs → HaveReadableEntries s m es (map f (drop i xs)) → HasReadableEntry s m es (f (get_or xs i d))
  entry_first xs i d l h = (subst (λ (ys : List A). HaveReadableEntries s m es (map f ys)) (drop_more xs i d l) h).0

  pub entry_rest : (xs : List A) (i : ℕ) (d : A) → i < length xs → HaveReadableEntries s m es (map f (drop i xs)) → HaveReadableEntries s m es (map f (drop (i + 1) xs))
  entry_rest xs i d l h = (subst (λ (ys : List A). HaveReadableEntries s m es (map f ys)) (drop_more xs i d l) h).1

module _ {A : Type 0} (s m : Scope) (f : A → Name) (is : List InstructionMap) where
  pub end_first : (xs : List A) (i : ℕ) (d : A) → i < length xs → HaveEnds s m is (map f (drop i xs)) → HasEnd s m is (f (get_or xs i d))
  end_first xs i d l h = (subst (λ (ys : List A). HaveEnds s m is (map f ys)) (drop_more xs i d l) h).0

  pub end_rest : (xs : List A) (i : ℕ) (d : A) → i < length xs → HaveEnds s m is (map f (drop i xs)) → HaveEnds s m is (map f (drop (i + 1) xs))
  end_rest xs i d l h = (subst (λ (ys : List A). HaveEnds s m is (map f ys)) (drop_more xs i d l) h).1

-- what is asked of the code's lists, and told of them
module _ {A B : Type 0} (s m : Scope) (f : A → Name × Expression) (k : B → Name × Sort) where
  pub readable_here : (xs ys : List A) (ns : Entries Sort) (ws : List B) → xs ≡ ys → ns ≡ map k ws → HaveReadableEntries s m (map f xs) ns
      → HaveReadableEntries s m (map f ys) (map k ws)
  readable_here xs ys ns ws e h r =
      subst (λ (zs : List A). HaveReadableEntries s m (map f zs) (map k ws)) e (subst (λ ps. HaveReadableEntries s m (map f xs) ps) h r)

module _ {A B : Type 0} (s m : Scope) (f : A → InstructionMap) (k : B → Name) where
  pub ends_here : (xs ys : List A) (ns : List Name) (ws : List B) → xs ≡ ys → ns ≡ map k ws → HaveEnds s m (map f xs) ns → HaveEnds s m (map f ys) (map k ws)
  ends_here xs ys ns ws e h r = subst (λ (zs : List A). HaveEnds s m (map f zs) (map k ws)) e (subst (λ ps. HaveEnds s m (map f xs) ps) h r)

module _ {A B : Type 0} (s : Scope) (a : Images) (g h : Graph) (f : A → Name × Expression) (k : B → Name × Sort) (grows : Grows g h) (known : HasImages s a g) where
  pub entries_told_here : (xs ys : List A) (ns : Entries Sort) (ws : List B) (ids : List ℕ) → xs ≡ ys → map k ws ≡ ns → AreEntryTerms s a g (map f xs) (map k ws) ids
      → AreEntryTerms s a h (map f ys) ns ids
  entries_told_here xs ys ns ws ids e is t =
      subst (λ (zs : List A). AreEntryTerms s a h (map f zs) ns ids) e
      (subst (λ ps. AreEntryTerms s a h (map f xs) ps ids) is (entries_kept s a g h (map f xs) (map k ws) ids grows known t))

module _ {A B : Type 0} (s : Scope) (a : Images) (g : Graph) (f : A → InstructionMap) (k : B → Name) where
  pub ends_told_here : (xs ys : List A) (ns : List Name) (ws : List B) (is : List MappedInstruction) → xs ≡ ys → map k ws ≡ ns → AreEnds s a g (map f xs) (map k ws) is
      → AreEnds s a g (map f ys) ns is
  ends_told_here xs ys ns ws is e h t = subst (λ (zs : List A). AreEnds s a g (map f zs) ns is) e (subst (λ ps. AreEnds s a g (map f xs) ps is) h t)
