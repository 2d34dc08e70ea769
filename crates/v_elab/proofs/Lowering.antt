-- What stands when the tables are filled; and the same inputs and outputs, told in two ways.
use Rattle.std.proofs.Common.{◌≡◌, ◌∙◌, sym, subst, Bool, List}
use Rattle.wb_values.specs.Value.{Name}
use Rattle.verilog_meaning.specs.Register.{clocked_blocks}
use Rattle.wb_terms.specs.Graph.{Graph}
use Rattle.v_lower.specs.Lowered.{Images, HasImages}
use Rattle.v_design.specs.Parts.{Parts}
use Rattle.v_registers.specs.Registers.{Counted}
use Rattle.v_elab.specs.Elaborable.{IsElaborable}
use Rattle.v_elab.specs.Elaborated.{Body, IsElaborated}
use Rattle.v_elab.specs.Begun.{HasBegun}

-- ---- inputs and outputs

pub elaborable_in : (b : Body) (f g : Name → Bool) → f ≡ g → IsElaborable b g → IsElaborable b f
elaborable_in b f g h x = subst (IsElaborable b) (sym h) x

pub elaborated_in : (b : Body) (f g : Name → Bool) (os ps : List Name) (e : Parts) → f ≡ g → os ≡ ps → IsElaborated b f os e → IsElaborated b g ps e
elaborated_in b f g os ps e h o x = subst (λ z. IsElaborated b g z e) o (subst (λ z. IsElaborated b z os e) h x)

-- ---- what has begun

module _ (b : Body) (f : Name → Bool) (cs : List Counted) (g : Graph) (a n : Images) (can : IsElaborable b f)
    (x : HasBegun b.scope (clocked_blocks b.items) f b.declared cs g a n) where
  pub known : HasImages b.scope a g
  known =
      record {
        some = λ k h c. x.all_given k ∙ can.all_declared k h c;
        image = λ k id at. (x.is_start.image k id at).0;
      }

  pub known_next : HasImages b.scope n g
  known_next =
      record {
        some = λ k h c. x.all_first k ∙ can.all_declared k h c;
        image = λ k id at. (x.is_start.next_image k id at).0;
      }
