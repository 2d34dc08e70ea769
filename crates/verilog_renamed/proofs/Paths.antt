-- What is made of equal parts is equal; tests that rest on names; and what is seen through a function of names.
use Rattle.std.proofs.Common.{◌≡◌, Bool, true, false, ◌&&◌, ◌||◌, refl, ap, ◌∙◌}
use Rattle.std.proofs.lemmas.Bool.{and_parts}
use Rattle.std.proofs.lemmas.Slice.Eq.{bytes_eq-Decides}
use Rattle.wb_values.specs.Value.{Name, same_name}

pub ap2 : {A B C : Type 0} (g : A → B → C) {a b : A} {c d : B} → a ≡ b → c ≡ d → g a c ≡ g b d
ap2 g {a} {b} {c} {d} e h = ap (λ x. g x c) e ∙ ap (g b) h

pub ap3 : {A B C D : Type 0} (g : A → B → C → D) {a b : A} {c d : B} {x y : C} → a ≡ b → c ≡ d → x ≡ y → g a c x ≡ g b d y
ap3 g {a} {b} {c} {d} {x} {y} e h k = ap (λ z. g z c x) e ∙ ap (λ z. g b z x) h ∙ ap (g b d) k

-- what a function of names says of the new name, as one of the old name
abbrev pub through : {A : Type 0} → (Name → Name) → (Name → A) → Name → A
through f t n = t (f n)

-- names that are the same are equal
pub is_name : (m n : Name) → same_name m n ≡ true → m ≡ n
is_name m n h = (bytes_eq-Decides m n).0 h

pub name_itself : (n : Name) → same_name n n ≡ true
name_itself n = (bytes_eq-Decides n n).1 refl

-- one of two tests holds
pub either_way : {P : Type 0} (a b : Bool) → (a || b) ≡ true → (a ≡ true → P) → (b ≡ true → P) → P
either_way true b h f g = f refl
either_way false b h f g = g h

pub first_of_both : (a b : Bool) → (a && b) ≡ true → a ≡ true
first_of_both a b h = (and_parts a b h).0

pub second_of_both : (a b : Bool) → (a && b) ≡ true → b ≡ true
second_of_both a b h = (and_parts a b h).1
