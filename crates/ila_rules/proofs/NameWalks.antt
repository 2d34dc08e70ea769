-- The names of one instruction and of its child, over plain values.
use Rattle.std.proofs.Common.{◌≡◌, ℕ, Some, None, Box, sym, refl, ap, ◌∙◌}
use Rattle.std.specs.Global.{Global}
use Rattle.ila_file.specs.View.{instruction_view, child_view, held_child_view}
use Rattle.ila_file.specs.declared.written.WrittenChild.{WrittenChild}
use Rattle.ila_file.specs.declared.written.WrittenInstruction.{WrittenInstruction, out-WrittenInstruction}
use Rattle.model_places.specs.Sites.{Spot, instruction_spot}
use Rattle.ila_rules.specs.NameFlaws.{NameFlaws, with_instruction, names_of_instruction, names_of_child}
use Rattle.ila_rules.proofs.Parts.{instruction_is}

name_parts : (k : ℕ) (i : WrittenInstruction) (s : NameFlaws)
    → names_of_child k (held_child_view (out-WrittenInstruction i).child) (with_instruction (instruction_spot k (out-WrittenInstruction i).name.now) (out-WrittenInstruction i).name.now s)
    ≡ names_of_instruction k (instruction_view i) s
name_parts k i s = sym (ap (λ w. names_of_instruction k w s) (instruction_is i (out-WrittenInstruction i).child refl))

named_at : (k : ℕ) (i : WrittenInstruction) (spot : Spot) (s0 s1 : NameFlaws) → spot ≡ instruction_spot k (out-WrittenInstruction i).name.now
    → s1 ≡ with_instruction spot (out-WrittenInstruction i).name.now s0
    → names_of_child k (held_child_view (out-WrittenInstruction i).child) s1 ≡ names_of_instruction k (instruction_view i) s0
named_at k i spot s0 s1 at named =
    ap (λ (s : NameFlaws). names_of_child k (held_child_view (out-WrittenInstruction i).child) s)
    (named ∙ ap (λ (p : Spot). with_instruction p (out-WrittenInstruction i).name.now s0) at)
    ∙ name_parts k i s0

pub with_child : (k : ℕ) (i : WrittenInstruction) (b : Box WrittenChild Global) (x : WrittenChild) (spot : Spot) (s0 s1 s2 : NameFlaws)
    → (out-WrittenInstruction i).child ≡ Some b → x ≡ b.value → spot ≡ instruction_spot k (out-WrittenInstruction i).name.now
    → s1 ≡ with_instruction spot (out-WrittenInstruction i).name.now s0
    → s2 ≡ names_of_child k (child_view x) s1
    → s2 ≡ names_of_instruction k (instruction_view i) s0
with_child k i b x spot s0 s1 s2 is value at named below =
    below
    ∙ (ap (λ (y : WrittenChild). names_of_child k (child_view y) s1) value
    ∙ (sym (ap (λ c. names_of_child k (held_child_view c) s1) is) ∙ named_at k i spot s0 s1 at named))

pub without_child : (k : ℕ) (i : WrittenInstruction) (spot : Spot) (s0 s1 : NameFlaws)
    → (out-WrittenInstruction i).child ≡ None → spot ≡ instruction_spot k (out-WrittenInstruction i).name.now
    → s1 ≡ with_instruction spot (out-WrittenInstruction i).name.now s0
    → s1 ≡ names_of_instruction k (instruction_view i) s0
without_child k i spot s0 s1 is at named =
    sym (ap (λ c. names_of_child k (held_child_view c) s1) is) ∙ named_at k i spot s0 s1 at named
