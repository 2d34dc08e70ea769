use Rattle.std.proofs.Common.{◌≡◌, IsTrue, length, drop, map}
use Rattle.std.specs.List.{list_all}
use Rattle.scripts.specs.Script.{sets_name}
use Rattle.ila_sim.specs.Lines.{sets_view}
use Rattle.ila_sim.specs.Names.{settable_of}
use Rattle.ila_sim.specs.Sets.{are_within}
use Rattle.ila_sim.proofs.missing.all_set.Given as goal

abbrev pub invariant-loop-line : goal.invariant-loop-line
invariant-loop-line l = record {
  read : list_all (λ ss. list_all (sets_name ss) (map settable_of l.inputs)) (map (λ s. sets_view (map settable_of l.inputs) s.items) l.lines)
      ≡ list_all (λ ss. list_all (sets_name ss) (map settable_of l.inputs)) (map (λ s. sets_view (map settable_of l.inputs) s.items) (drop l.line-index l.lines));
  places : IsTrue (list_all (λ s. are_within (length (map settable_of l.inputs)) s.items) (drop l.line-index l.lines));
}
