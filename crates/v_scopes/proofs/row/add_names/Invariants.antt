use Rattle.std.proofs.Common.{◌≡◌, ◌++◌, drop, map, Bor, List, ℕ}
use Rattle.v_scopes.specs.Rows.{rows_of, named}
use Rattle.v_scopes.proofs.row.add_names.Given as goal

abbrev pub invariant-loop-name : goal.invariant-loop-name
invariant-loop-name l =
    rows_of l.list.items ++ named l.form (map (λ (n : Bor (List ℕ)). n.now) (drop l.name-index l.names)) ≡ rows_of l.initial.list.items ++ named l.form (map (λ (n : Bor (List ℕ)). n.now) l.names)
