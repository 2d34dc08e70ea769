-- Names that are gathered into a list, one after the other.
use Rattle.std.proofs.Common.{◌≡◌, ◌∙◌, ℕ, zero, suc, ◌+◌, ◌≤◌, refl, sym, ap, List, [], ◌∷◌, ◌++◌, length, drop, map, Bor, Option, Some, None, option_map, add-one, arith}
use Rattle.std.specs.Prelude.{slice_get}
use Rattle.std.specs.String.{string_bytes}
use Rattle.std.proofs.lemmas.List.{append-nil}
use Rattle.wb_values.specs.Value.{Name}
use Rattle.model_meaning.specs.Model as pure
use Rattle.model_meaning.specs.Model.{instruction_list, instruction_name}
use Rattle.wb_terms.specs.Graph.{Graph}
use Rattle.ila_model.specs.declared.parts.ChildId.{ChildId}
use Rattle.ila_model.specs.declared.parts.Instruction.{Instruction}
use Rattle.ila_model.specs.Meaning.{instructions_of}
use Rattle.map_names.specs.Texts.{texts}

texts_pushed : (xs : List (Bor (List ℕ))) (y : Bor (List ℕ)) (rest : List Name) → texts (xs ++ y ∷ []) ++ rest ≡ texts xs ++ (y.now ∷ rest)
texts_pushed [] y rest = refl
texts_pushed (x ∷ xs) y rest = ap (λ ns. x.now ∷ ns) (texts_pushed xs y rest)

-- one name more, with which what is left begins
pub name_turn : (xs ys : List (Bor (List ℕ))) (y : Bor (List ℕ)) (left more all : List Name) → ys ≡ xs ++ y ∷ [] → left ≡ y.now ∷ more
    → texts xs ++ left ≡ all → texts ys ++ more ≡ all
name_turn xs ys y left more all p q h = ap (λ zs. texts zs ++ more) p ∙ (texts_pushed xs y more ∙ (ap (λ ns. texts xs ++ ns) (sym q) ∙ h))

-- nothing is left
pub name_end : (xs : List (Bor (List ℕ))) (left all : List Name) → left ≡ [] → texts xs ++ left ≡ all → texts xs ≡ all
name_end xs left all e h = sym (append-nil (texts xs)) ∙ (ap (λ ns. texts xs ++ ns) (sym e) ∙ h)

pub drop_past : {A : Type 0} (xs : List A) (n : ℕ) → length xs ≤ n → drop n xs ≡ []
drop_past [] zero h = refl
drop_past [] (suc n) h = refl
drop_past (x ∷ xs) zero h = absurd (omega (arith, h))
drop_past (x ∷ xs) (suc n) h = drop_past xs n (omega (arith, h))

some_name : (x y : Name) → Some x ≡ Some y → x ≡ y
some_name x y e = cc

begins : {A : Type 0} (f : A → Name) (ss : List A) (i : ℕ) (x : Name) → option_map f (slice_get ss i) ≡ Some x → map f (drop i ss) ≡ x ∷ map f (drop (suc i) ss)
begins f [] i x e = cc
begins f (s ∷ ss) zero x e = ap (λ n. n ∷ map f ss) (some_name (f s) x e)
begins f (s ∷ ss) (suc i) x e = begins f ss i x e

-- what is left begins with the name at its place
pub drop_named : {A : Type 0} (f : A → Name) (ss : List A) (i : ℕ) (x : Name) → option_map f (slice_get ss i) ≡ Some x
    → map f (drop i ss) ≡ x ∷ map f (drop (i + 1) ss)
drop_named f ss i x e = begins f ss i x e ∙ ap (λ k. x ∷ map f (drop k ss)) (sym (add-one i))

-- the names of the instructions of a machine are those of the code's
pub instructions_called : (g : Graph) (inner : Option ChildId → pure.Child) (is : List Instruction)
    → map (λ i. string_bytes i.name) is ≡ map instruction_name (instruction_list (instructions_of g inner is))
instructions_called g inner [] = refl
instructions_called g inner (i ∷ is) = ap (λ ns. string_bytes i.name ∷ ns) (instructions_called g inner is)
