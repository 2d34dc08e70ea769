-- The update of a name, and the sort of a state.
use Rattle.std.proofs.Common.{◌≡◌, ◌≢◌, ℕ, zero, suc, ◌<◌, Bool, true, false, cond, ◌⊎◌, inl, inr, List, [], ◌∷◌, map, length, Option, Some, None, refl, sym, ◌∙◌, ap, subst, arith}
use Rattle.std.specs.Prelude.{slice_get}
use Rattle.std.proofs.lemmas.Bool.{false≢true, cases_eq}
use Rattle.wb_values.specs.Value.{Name, same_name, Sort, Entries, entry_of}
use Rattle.model_meaning.specs.Term.{Term}
use Rattle.model_meaning.specs.Model.{StateDeclaration}
use Rattle.wb_terms.specs.Graph.{tree}
use Rattle.wb_terms.specs.declared.values.Value.{Value as CodeValue}
use Rattle.ila_model.specs.declared.parts.Update.{Update}
use Rattle.ila_model.specs.declared.parts.Instruction.{Instruction}
use Rattle.ila_model.specs.declared.parts.Parts.{Parts}
use Rattle.ila_model.specs.Sorted.{are_distinct, name_at, sort_at}
use Rattle.ila_model.specs.Meaning.{update_of, declared_states}
use Rattle.emitted_designs.proofs.Named.{same_if, same_of}
use Rattle.emitted_modules.specs.Kept.{AreKept, AreRead, updated_terms}
use Rattle.emitted_modules.proofs.Names.{Among, names_apart}
use Rattle.emitted_modules.proofs.Sorts.{update_names}

-- ---- lists

pub got_mapped : {A : Type 0} {B : Type 0} (f : A → B) (xs : List A) (k : ℕ) (x : A) → slice_get xs k ≡ Some x → slice_get (map f xs) k ≡ Some (f x)
got_mapped f [] k x e = cc
got_mapped {A} {B} f (y ∷ xs) zero x e = let same : y ≡ x = cc in ap (λ (z : A). Some (f z)) same
got_mapped f (y ∷ xs) (suc k) x e = got_mapped f xs k x e

pub mapped_got : {A : Type 0} {B : Type 0} (f : A → B) (xs : List A) (k : ℕ) (z : B) → slice_get (map f xs) k ≡ Some z → (x : A) × (slice_get xs k ≡ Some x) × (f x ≡ z)
mapped_got f [] k z e = cc
mapped_got f (y ∷ xs) zero z e = let same : f y ≡ z = cc in (y, refl, same)
mapped_got f (y ∷ xs) (suc k) z e = mapped_got f xs k z e

pub read_at : (keep : ℕ → Bool) (is : List Instruction) (c : Instruction) → AreRead keep is → Among c is
    → (keep c.decode.0 ≡ true) × AreKept keep (updated_terms c.updates.items)
read_at keep [] c read h = absurd h
read_at keep (x ∷ is) c read (inl e) =
    subst (λ (y : Instruction). (keep y.decode.0 ≡ true) × AreKept keep (updated_terms y.updates.items)) e (read.0, read.1)
read_at keep (x ∷ is) c read (inr h) = read_at keep is c read.2 h

pub kept_term : (keep : ℕ → Bool) (us : List Update) (u : Update) → AreKept keep (updated_terms us) → Among u us → keep u.term.0 ≡ true
kept_term keep [] u all h = absurd h
kept_term keep (x ∷ us) u all (inl e) = subst (λ (y : Update). keep y.term.0 ≡ true) e all.0
kept_term keep (x ∷ us) u all (inr h) = kept_term keep us u all.1 h

-- ---- the update of a name

-- the update of a name, if it has one
pub data IsUpdated (p : Parts) (us : List Update) (n : Name) : Option Term → Type 0 where
  by_none : ((k : Name) → Among k (update_names p us) → same_name k n ≡ false) → IsUpdated p us n None
  by_one : (u : Update) → Among u us → name_at p.terms.names u.state.0 ≡ n → IsUpdated p us n (Some (tree p.terms u.term.0))

pub update_there : (p : Parts) (us : List Update) (n : Name) → IsUpdated p us n (entry_of (map (update_of p.terms) us) n)
update_there p [] n = IsUpdated.by_none (λ k h. absurd h)
update_there p (u ∷ us) n = by_test (same_name (name_at p.terms.names u.state.0) n) refl (entry_of (map (update_of p.terms) us) n) (update_there p us n)
  where
    widened : (o : Option Term) → same_name (name_at p.terms.names u.state.0) n ≡ false → IsUpdated p us n o → IsUpdated p (u ∷ us) n o
    widened None other (IsUpdated.by_none none) = IsUpdated.by_none (λ k at. by_place k at)
      where
        by_place : (k : Name) → Among k (update_names p (u ∷ us)) → same_name k n ≡ false
        by_place k (inl e) = subst (λ j. same_name j n ≡ false) e other
        by_place k (inr at) = none k at
    widened (Some _) other (IsUpdated.by_one x at e) = IsUpdated.by_one x (inr at) e

    by_test : (b : Bool) → same_name (name_at p.terms.names u.state.0) n ≡ b → (o : Option Term) → IsUpdated p us n o
        → IsUpdated p (u ∷ us) n (cond b (Some (tree p.terms u.term.0)) o)
    by_test true same o more = IsUpdated.by_one u (inl refl) (same_if (name_at p.terms.names u.state.0) n same)
    by_test false other o more = widened o other more

-- ---- the sort of a state

pub state_place : (ns : Entries Sort) (is : List (Option CodeValue)) (d : StateDeclaration) → Among d (declared_states ns is)
    → (k : ℕ) × (k < length ns) × (name_at ns k ≡ d.state_name) × (sort_at ns k ≡ d.sort)
state_place [] is d h = absurd h
state_place (n ∷ ns) [] d h = absurd h
state_place (n ∷ ns) (i ∷ is) d (inl e) =
    (0, omega arith, ap (λ (x : StateDeclaration). x.state_name) e, ap (λ (x : StateDeclaration). x.sort) e)
state_place (n ∷ ns) (i ∷ is) d (inr h) = let more = state_place ns is d h in (suc more.0, omega (arith, more.1), more.2, more.3)

-- It is that of each place of the table with its name.
pub sort_there : (ns : Entries Sort) (is : List (Option CodeValue)) (d : StateDeclaration) (k : ℕ) → are_distinct ns ≡ true → Among d (declared_states ns is)
    → k < length ns → name_at ns k ≡ d.state_name → sort_at ns k ≡ d.sort
sort_there ns is d k apart at low e = by_place (cases_eq k place.0)
  where
    place : (j : ℕ) × (j < length ns) × (name_at ns j ≡ d.state_name) × (sort_at ns j ≡ d.sort)
    place = state_place ns is d at

    by_place : (k ≡ place.0) ⊎ (k ≢ place.0) → sort_at ns k ≡ d.sort
    by_place (inl same) = ap (sort_at ns) same ∙ place.3
    by_place (inr other) =
        absurd
        (false≢true
        (sym (names_apart ns k place.0 apart low place.1 other) ∙ same_of (name_at ns k) (name_at ns place.0) (e ∙ sym place.2)))
