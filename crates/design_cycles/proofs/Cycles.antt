-- An accepted design has cycles.
use Rattle.std.proofs.Common.{◌≡◌, ◌∙◌, [], Option, Some, None, option_map, refl, sym, ap}
use Rattle.wb_values.specs.Value.{Name}
use Rattle.verilog_trees.specs.Syntax.{Module}
use Rattle.verilog_meaning.specs.Hierarchy.{Placed, module_named, constants_of, no_overrides, dotted}
use Rattle.verilog_meaning.specs.Settled.{Design, at_path, IsPlacedIn, IsDeclared}
use Rattle.verilog_designs.specs.Accepted.{no_top, no_module}
use Rattle.verilog_exists.specs.Exists.{IsOfText}
use Rattle.verilog_exists.proofs.Dots.{dots_tell}
use Rattle.verilog_exists.proofs.Spots.{plain_declared, plain_path}
use Rattle.verilog_exists.proofs.Exists.{settled_exists}
use Rattle.verilog_exists.proofs.Runs.{next_exists}
use Rattle.design_cycles.specs.Cycles.{AcceptedDesignHasCycles}

some_same : {A : Type 0} {x y : A} → Some x ≡ Some y → x ≡ y
some_same e = cc

there : (o : Option Module) → (o ≡ None → ⊥) → (p : Placed) × (option_map (λ m. record { path = []; of_module = m; constants = constants_of m no_overrides }) o ≡ Some p)
there None h = absurd (h refl)
there (Some m) h = (record { path = []; of_module = m; constants = constants_of m no_overrides }, refl)

one_net : (d : Design) → IsOfText d → (p q : Placed) (m n : Name) → IsPlacedIn d p → IsPlacedIn d q → IsDeclared p m → IsDeclared q n
    → dotted p.path m ≡ dotted q.path n → (p ≡ q) × (m ≡ n)
one_net d text p q m n at to is_there is_here e =
    let r = dots_tell p.path q.path m n (plain_path d text.no_dots p.path p at) (plain_path d text.no_dots q.path q to)
    (plain_declared d text.no_dots p m at is_there) (plain_declared d text.no_dots q n to is_here) e in
    (some_same (sym at ∙ ap (at_path d) r.0 ∙ to), r.1)

pub has_cycles : AcceptedDesignHasCycles
has_cycles d accepted text =
    let top = there (module_named d.source d.top) (λ e. accepted no_top (no_module e)) in record {
      top = top.0;
      is_top = top.1;
      apart = one_net d text;
      settles = λ registers inputs h. settled_exists d registers inputs accepted text h;
      steps = λ v. next_exists d v accepted text.no_dots;
    }
