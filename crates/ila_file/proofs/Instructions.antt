-- A list of instructions that is read item by item: what was read so far, and what the rest gives behind it.
use Rattle.std.proofs.Common.{◌≡◌, List, [], ◌∷◌, ◌++◌, Option, Some, None, option_map, refl, sym, ap, ◌∙◌, map}
use Rattle.std.proofs.lemmas.List.{map-append}
use Rattle.model_files.specs.Written.{WrittenInstruction, WrittenInstructions, no_instructions, and_then}
use Rattle.model_files.specs.Shape.{with_instruction}
use Rattle.ila_file.specs.View.{instructions_from}

abbrev pub in_front_of : List WrittenInstruction → WrittenInstructions → WrittenInstructions
in_front_of [] js = js
in_front_of (i ∷ is) js = and_then i (in_front_of is js)

abbrev pub before : List WrittenInstruction → Option WrittenInstructions → Option WrittenInstructions
before is r = option_map (in_front_of is) r

in_front_of_push : (is : List WrittenInstruction) (i : WrittenInstruction) (js : WrittenInstructions) → in_front_of is (and_then i js) ≡ in_front_of (is ++ i ∷ []) js
in_front_of_push [] i js = refl
in_front_of_push (j ∷ is) i js = ap (and_then j) (in_front_of_push is i js)

in_front_of_none : (is : List WrittenInstruction) → in_front_of is no_instructions ≡ instructions_from is
in_front_of_none [] = refl
in_front_of_none (i ∷ is) = ap (and_then i) (in_front_of_none is)

pub before_end : (is : List WrittenInstruction) → before is (Some no_instructions) ≡ Some (instructions_from is)
before_end is = ap Some (in_front_of_none is)

next : (is : List WrittenInstruction) (i : WrittenInstruction) (r : Option WrittenInstructions) → before is (with_instruction (Some i) r) ≡ before (is ++ i ∷ []) r
next is i None = refl
next is i (Some js) = ap Some (in_front_of_push is i js)

pub before_pushed : {A : Type 0} (f : A → WrittenInstruction) (kept new : List A) (x : A) (o : Option WrittenInstruction) (r : Option WrittenInstructions) → o ≡ Some (f x) → new ≡ kept ++ x ∷ []
    → before (map f kept) (with_instruction o r) ≡ before (map f new) r
before_pushed f kept new x o r e pushed =
    ap (λ p. before (map f kept) (with_instruction p r)) e ∙ (next (map f kept) (f x) r
    ∙ ap (λ is. before is r) (sym (map-append f kept (x ∷ [])) ∙ ap (map f) (sym pushed)))
