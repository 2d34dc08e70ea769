-- Which kind the modules of a list break first, one after the other.
use Rattle.std.proofs.Common.{◌≡◌, ◌∙◌, refl, sym, ap, ap₂, Bool, true, false, ◌||◌, List, [], ◌∷◌, Bor}
use Rattle.std.specs.List.{list_any}
use Rattle.verilog_trees.specs.Syntax.{Source}
use Rattle.verilog_designs.specs.Names.{has_undeclared, has_duplicate}
use Rattle.v_syntax.specs.declared.module.Module.{Module}
use Rattle.v_syntax.specs.Source.{module_of}
use Rattle.v_standing.specs.Standing.{modules_of}
use Rattle.v_named.specs.Names.{modules_kind}

abbrev unknown : Source → List (Bor Module) → Bool
unknown source ms = list_any (has_undeclared source) (modules_of ms)

abbrev repeated : Bool → List (Bor Module) → Bool
repeated twice ms = twice || list_any has_duplicate (modules_of ms)

-- The kind of all is that of the rest, where a name was declared twice before if that is said.
abbrev pub IsAsked : Source → (all : List (Bor Module)) → (shared : Bool) → (rest : List (Bor Module)) → (twice : Bool) → Type 0
IsAsked source all shared rest twice = modules_kind (unknown source all) (repeated shared all) ≡ modules_kind (unknown source rest) (repeated twice rest)

or_assoc : (a b c : Bool) → (a || (b || c)) ≡ ((a || b) || c)
or_assoc true b c = refl
or_assoc false b c = refl

or_none : (b : Bool) → (b || false) ≡ b
or_none true = refl
or_none false = refl

module _ (source : Source) (all : List (Bor Module)) (shared : Bool) (m : Bor Module) (rest : List (Bor Module)) (twice : Bool)
    (so_far : IsAsked source all shared (m ∷ rest) twice) (b : Bool) (asked : b ≡ has_undeclared source (module_of m.now)) where
  pub asked_on : b ≡ false → (t : Bool) → t ≡ (twice || has_duplicate (module_of m.now)) → IsAsked source all shared rest t
  asked_on e t f =
      so_far
      ∙ ap₂ modules_kind (ap (λ c. c || unknown source rest) (sym asked ∙ e))
      (or_assoc twice (has_duplicate (module_of m.now)) (list_any has_duplicate (modules_of rest)) ∙ ap (λ c. c || list_any has_duplicate (modules_of rest)) (sym f))

  pub asked_found : b ≡ true → modules_kind true (repeated twice (m ∷ rest)) ≡ modules_kind (unknown source all) (repeated shared all)
  asked_found e = ap (λ c. modules_kind (c || unknown source rest) (repeated twice (m ∷ rest))) (sym e ∙ asked) ∙ sym so_far

pub asked_ended : (source : Source) (all : List (Bor Module)) (shared twice : Bool) → IsAsked source all shared [] twice → modules_kind false twice ≡ modules_kind (unknown source all) (repeated shared all)
asked_ended source all shared twice h = ap (modules_kind false) (sym (or_none twice)) ∙ sym h
