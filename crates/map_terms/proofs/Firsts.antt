-- The first place of a name in a list, and the entry there.
use Rattle.std.proofs.Common.{◌≡◌, ◌∙◌, ℕ, suc, ◌+◌, ◌<◌, ◌≤◌, Bor, Bool, true, false, cond, refl, ap, sym, subst, List, [], ◌∷◌, ◌++◌, map, take, length, get_or, Option, Some, None, option_map, arith}
use Rattle.std.specs.Prelude.{is_some, MatchOption}
use Rattle.std.specs.List.{HoldsAt}
use Rattle.std.proofs.lemmas.Bool.{false≢true}
use Rattle.std.proofs.lemmas.List.{take_more, map-append, length-map, length-take-le}
use Rattle.wb_values.specs.Value.{Name, same_name, Sort, truth, entry_of}
use Rattle.verilog_unique.proofs.Options.{same_is}
use Rattle.verilog_trees.specs.Syntax.{Expression}
use Rattle.verilog_meaning.specs.Expression.{Scope}
use Rattle.refinement.specs.Map.{InstructionMap, instruction_map}
use Rattle.wb_terms.specs.Graph.{Graph}
use Rattle.v_lower.specs.Lowered.{Images}
use Rattle.path_terms.specs.Mapped.{IsFit, Gives, IsTermFor}
use Rattle.mapped_designs.specs.Mapped.{MappedInstruction}
use Rattle.map_terms.specs.Places.{first_place}
use Rattle.map_terms.specs.Terms.{IsEntryTerm, IsEnd}
use Rattle.map_terms.specs.Ready.{HasReadableEntry, HasEnd}
use Rattle.map_terms.proofs.Distinct.{first_of_name}

abbrev first_or : Option ℕ → Option ℕ → Option ℕ
first_or None o = o
first_or (Some k) o = Some k

first_more : (ns : List Name) (m n : Name) → first_place (ns ++ m ∷ []) n ≡ first_or (first_place ns n) (cond (same_name m n) (Some (length ns)) None)
first_more [] m n = refl
first_more (x ∷ ns) m n = by (same_name x n) (first_more ns m n)
  where
    later : (a : Option ℕ) (t : Bool) (k : ℕ) → option_map suc (first_or a (cond t (Some k) None)) ≡ first_or (option_map suc a) (cond t (Some (suc k)) None)
    later None true k = refl
    later None false k = refl
    later (Some j) t k = refl

    by : (b : Bool) → first_place (ns ++ m ∷ []) n ≡ first_or (first_place ns n) (cond (same_name m n) (Some (length ns)) None)
        → cond b (Some 0) (option_map suc (first_place (ns ++ m ∷ []) n)) ≡ first_or (cond b (Some 0) (option_map suc (first_place ns n))) (cond (same_name m n) (Some (suc (length ns))) None)
    by true h = refl
    by false h = ap (option_map suc) h ∙ later (first_place ns n) (same_name m n) (length ns)

-- a name that stands there already
pub first_kept : (old : Name → Option ℕ) (ns : List Name) (m : Name) → is_some (old m) ≡ true → ((n : Name) → old n ≡ first_place ns n)
    → (n : Name) → old n ≡ first_place (ns ++ m ∷ []) n
first_kept old ns m there h n = h n ∙ by (same_name m n) refl (first_place ns n) refl ∙ sym (first_more ns m n)
  where
    by : (t : Bool) → same_name m n ≡ t → (o : Option ℕ) → first_place ns n ≡ o → o ≡ first_or o (cond t (Some (length ns)) None)
    by t e (Some k) f = refl
    by false e None f = refl
    by true e None f = absurd (false≢true (sym (ap is_some (ap old (same_is m n e) ∙ h n ∙ f)) ∙ there))

-- one that is new
pub first_added : (old new : Name → Option ℕ) (ns : List Name) (m : Name) (place : ℕ) → is_some (old m) ≡ false → ((n : Name) → old n ≡ first_place ns n) → place ≡ length ns
    → ((n : Name) → new n ≡ cond (same_name m n) (Some place) (old n)) → (n : Name) → new n ≡ first_place (ns ++ m ∷ []) n
first_added old new ns m place gone h count added n = added n ∙ by (same_name m n) refl (first_place ns n) refl ∙ sym (first_more ns m n)
  where
    by : (t : Bool) → same_name m n ≡ t → (o : Option ℕ) → first_place ns n ≡ o → cond t (Some place) (old n) ≡ first_or o (cond t (Some (length ns)) None)
    by false e None f = h n ∙ f
    by false e (Some k) f = h n ∙ f
    by true e None f = ap Some count
    by true e (Some k) f = absurd (false≢true (sym gone ∙ ap is_some (ap old (same_is m n e) ∙ h n ∙ f)))

-- one entry more
module _ {A : Type 0} (f : A → Name) where
  pub first_turn : (xs : List A) (i : ℕ) (d : A) (old new : Name → Option ℕ) (m : Name) → i < length xs → m ≡ f (get_or xs i d)
      → ((ns : List Name) → ((n : Name) → old n ≡ first_place ns n) → i ≡ length ns → (n : Name) → new n ≡ first_place (ns ++ m ∷ []) n)
      → ((n : Name) → old n ≡ first_place (map f (take i xs)) n) → (n : Name) → new n ≡ first_place (map f (take (i + 1) xs)) n
  first_turn xs i d old new m l is added h n =
      added (map f (take i xs)) h (sym (length-map (take i xs) f ∙ length-take-le i xs (omega (arith, l)))) n
      ∙ ap (λ k. first_place (map f (take i xs) ++ k ∷ []) n) is
      ∙ ap (λ ns. first_place ns n) (sym (map-append f (take i xs) (get_or xs i d ∷ [])) ∙ ap (map f) (sym (take_more xs i d l)))

-- ---- the entry at the first place

abbrev IsBelow : ℕ → Option ℕ → Type 0
IsBelow n None = Unit {0}
IsBelow n (Some k) = k < n

module _ {A : Type 0} (f : A → Name) where
  stands_first : (xs : List A) (n : Name) (d : A) → option_map (λ k. get_or xs k d) (first_place (map f xs) n) ≡ first_of_name f xs n
  stands_first [] n d = refl
  stands_first (x ∷ xs) n d = by (same_name (f x) n) (stands_first xs n d)
    where
      later : (o : Option ℕ) → option_map (λ k. get_or (x ∷ xs) k d) (option_map suc o) ≡ option_map (λ k. get_or xs k d) o
      later None = refl
      later (Some k) = refl

      by : (t : Bool) → option_map (λ k. get_or xs k d) (first_place (map f xs) n) ≡ first_of_name f xs n
          → option_map (λ k. get_or (x ∷ xs) k d) (cond t (Some 0) (option_map suc (first_place (map f xs) n))) ≡ cond t (Some x) (first_of_name f xs n)
      by true h = refl
      by false h = later (first_place (map f xs) n) ∙ h

  stands_below : (xs : List A) (n : Name) → IsBelow (length xs) (first_place (map f xs) n)
  stands_below [] n = tt
  stands_below (x ∷ xs) n = by (same_name (f x) n) (stands_below xs n)
    where
      later : (o : Option ℕ) → IsBelow (length xs) o → IsBelow (suc (length xs)) (option_map suc o)
      later None h = tt
      later (Some k) h = omega (arith, h)

      by : (t : Bool) → IsBelow (length xs) (first_place (map f xs) n) → IsBelow (suc (length xs)) (cond t (Some 0) (option_map suc (first_place (map f xs) n)))
      by true h = omega arith
      by false h = later (first_place (map f xs) n) h

  -- what is got at the first place
  pub first_got : (xs : List A) (n : Name) (k : ℕ) (o : Option (Bor A)) (x : Bor A) → Some k ≡ first_place (map f xs) n → o ≡ Some x
      → MatchOption o (length xs ≤ k) (λ y. (k < length xs) × HoldsAt (λ z. y.now ≡ z) xs k) → first_of_name f xs n ≡ Some x.now
  first_got xs n k o x place is got =
      sym (stands_first xs n x.now) ∙ ap (option_map (λ j. get_or xs j x.now)) (sym place)
      ∙ ap Some (sym (at (subst (λ (q : Option (Bor A)). MatchOption q (length xs ≤ k) (λ y. (k < length xs) × HoldsAt (λ z. y.now ≡ z) xs k)) is got)))
    where
      at : (k < length xs) × HoldsAt (λ z. x.now ≡ z) xs k → x.now ≡ get_or xs k x.now
      at h = h.1 x.now

  -- something stands there
  pub first_not_got : (xs : List A) (n : Name) (k : ℕ) (o : Option (Bor A)) → Some k ≡ first_place (map f xs) n → o ≡ None
      → MatchOption o (length xs ≤ k) (λ y. (k < length xs) × HoldsAt (λ z. y.now ≡ z) xs k) → ⊥
  first_not_got xs n k o place is got =
      both (subst (IsBelow (length xs)) (sym place) (stands_below xs n))
      (subst (λ (q : Option (Bor A)). MatchOption q (length xs ≤ k) (λ y. (k < length xs) × HoldsAt (λ z. y.now ≡ z) xs k)) is got)
    where
      both : k < length xs → length xs ≤ k → ⊥
      both h g = omega (arith, h, g)

  pub first_missing : (xs : List A) (n : Name) → None ≡ first_place (map f xs) n → first_of_name f xs n ≡ None
  first_missing [] n h = refl
  first_missing (x ∷ xs) n h = sym (stands_first (x ∷ xs) n x) ∙ ap (option_map (λ j. get_or (x ∷ xs) j x)) (sym h)

first_entry : {A X : Type 0} (f : A → Name × X) (xs : List A) (n : Name) → entry_of (map f xs) n ≡ option_map (λ x. (f x).1) (first_of_name (λ x. (f x).0) xs n)
first_entry f [] n = refl
first_entry f (x ∷ xs) n = by (same_name (f x).0 n) (first_entry f xs n)
  where
    by : (t : Bool) → entry_of (map f xs) n ≡ option_map (λ y. (f y).1) (first_of_name (λ y. (f y).0) xs n)
        → cond t (Some (f x).1) (entry_of (map f xs) n) ≡ option_map (λ y. (f y).1) (cond t (Some x) (first_of_name (λ y. (f y).0) xs n))
    by true h = refl
    by false h = h

first_instruction : {A : Type 0} (f : A → InstructionMap) (xs : List A) (n : Name) → instruction_map (map f xs) n ≡ option_map f (first_of_name (λ x. (f x).called) xs n)
first_instruction f [] n = refl
first_instruction f (x ∷ xs) n = by (same_name (f x).called n) (first_instruction f xs n)
  where
    by : (t : Bool) → instruction_map (map f xs) n ≡ option_map f (first_of_name (λ y. (f y).called) xs n)
        → cond t (Some (f x)) (instruction_map (map f xs) n) ≡ option_map f (cond t (Some x) (first_of_name (λ y. (f y).called) xs n))
    by true h = refl
    by false h = h

one_value : {X : Type 0} {x y : X} → Some x ≡ Some y → x ≡ y
one_value h = cc

no_value : {X : Type 0} {x : X} → None ≡ Some x → ⊥
no_value h = cc

-- ---- entries of states and inputs

module _ {A : Type 0} (view : A → Name × Expression) (s m : Scope) (xs : List A) (n : Name × Sort) (r : HasReadableEntry s m (map view xs) n) where
  pub entry_there : (x : A) → first_of_name (λ y. (view y).0) xs n.0 ≡ Some x → Gives s n.1 (view x).1
  entry_there x h = subst (Gives s n.1) (one_value (sym r.is_entry ∙ first_entry view xs n.0 ∙ ap (option_map (λ y. (view y).1)) h)) r.gives

  pub entry_not_missing : first_of_name (λ y. (view y).0) xs n.0 ≡ None → ⊥
  entry_not_missing h = no_value (sym (first_entry view xs n.0 ∙ ap (option_map (λ y. (view y).1)) h) ∙ r.is_entry)

  pub entry_made : (a : Images) (g : Graph) (x : A) (id : ℕ) → first_of_name (λ y. (view y).0) xs n.0 ≡ Some x → IsTermFor s a g n.1 (view x).1 id
      → IsEntryTerm s a g (map view xs) n id
  entry_made a g x id h t = record { expression = (view x).1; is_entry = first_entry view xs n.0 ∙ ap (option_map (λ y. (view y).1)) h; is_term = t }

-- ---- entries of instructions

module _ {A : Type 0} (view : A → InstructionMap) (s m : Scope) (xs : List A) (n : Name) (r : HasEnd s m (map view xs) n) where
  pub end_there : (x : A) → first_of_name (λ y. (view y).called) xs n ≡ Some x → IsFit s (view x).commit
  end_there x h =
      subst (λ (y : InstructionMap). IsFit s y.commit) (one_value (sym r.is_entry ∙ first_instruction view xs n ∙ ap (option_map view) h)) r.commit.fit

  pub end_not_missing : first_of_name (λ y. (view y).called) xs n ≡ None → ⊥
  end_not_missing h = no_value (sym (first_instruction view xs n ∙ ap (option_map view) h) ∙ r.is_entry)

  pub end_made : (a : Images) (g : Graph) (x : A) (y : MappedInstruction) → first_of_name (λ z. (view z).called) xs n ≡ Some x
      → IsTermFor s a g truth (view x).commit y.commit → y.bound ≡ (view x).bound → IsEnd s a g (map view xs) n y
  end_made a g x y h t b = record { entry = view x; is_entry = first_instruction view xs n ∙ ap (option_map view) h; is_term = t; bound = b }
