-- A model whose parts have no child programs has none.
use Rattle.std.proofs.Common.{◌≡◌, ℕ, zero, suc, max, List, [], ◌∷◌, Option, Some, None, refl, ap, arith}
use Rattle.wb_values.specs.Value.{Name}
use Rattle.model_meaning.specs.Model as pure
use Rattle.model_meaning.specs.Model.{no_child}
use Rattle.wb_terms.specs.Graph.{Graph}
use Rattle.ila_model.specs.declared.parts.Instruction.{Instruction}
use Rattle.ila_model.specs.declared.parts.ChildId.{ChildId}
use Rattle.ila_model.specs.declared.parts.Child.{Child}
use Rattle.ila_model.specs.declared.parts.Parts.{Parts}
use Rattle.ila_model.specs.Scope.{nesting}
use Rattle.ila_model.specs.Meaning.{instructions_of, program_of}
use Rattle.emitted_designs.specs.Bounds.{nesting_among, nesting_of_child}
use Rattle.emitted_modules.specs.Laws.{IsFlatModel}
use Rattle.emitted_texts.specs.Fitting.{IsPlainModel}

some_there : (c : Child) (cs : List Child) → c ∷ cs ≡ [] → ⊥
some_there c cs e = cc

no_program : (g : Graph) (cs : List Child) → cs ≡ [] → (levels : ℕ) (o : Option ChildId) → program_of g cs levels o ≡ no_child
no_program g [] e zero o = refl
no_program g [] e (suc l) None = refl
no_program g [] e (suc l) (Some i) = refl
no_program g (c ∷ cs) e levels o = absurd (some_there c cs e)

none_of_both : (x y : ℕ) → x ≡ 0 → y ≡ 0 → max x y ≡ 0
none_of_both x y e f = omega (arith, e, f)

none_nested : (g : Graph) (inner : Option ChildId → pure.Child) → ((o : Option ChildId) → inner o ≡ no_child) → (is : List Instruction)
    → nesting_among (instructions_of g inner is) ≡ 0
none_nested g inner h [] = refl
none_nested g inner h (i ∷ is) =
    none_of_both (nesting_of_child (inner i.child)) (nesting_among (instructions_of g inner is)) (ap nesting_of_child (h i.child)) (none_nested g inner h is)

pub flat : (name : Name) (p : Parts) → IsPlainModel name p → IsFlatModel name p
flat name p h = record {
  sorted = h.sorted;
  stored = h.stored;
  few = h.few;
  is_model = h.is_model;
  childless =
      none_nested p.terms (program_of p.terms p.children.items nesting) (λ o. no_program p.terms p.children.items h.childless nesting o) p.instructions.items;
}
