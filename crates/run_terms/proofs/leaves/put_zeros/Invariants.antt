use Rattle.std.proofs.Common.{◌≤◌, ◌-◌, map, take}
use Rattle.term_copies.specs.Copies.{IsExtended}
use Rattle.ila_model.specs.Meaning.{zero_of}
use Rattle.v_design.specs.Seen.{parts_of}
use Rattle.v_design.specs.Parts.{inputs_of}
use Rattle.run_terms.specs.Worth.{AreWorth}
use Rattle.run_terms.proofs.leaves.put_zeros.Given as goal

abbrev pub invariant-loop-place : goal.invariant-loop-place
invariant-loop-place l =
    IsExtended l.fn.terms l.terms × (l.design.register_count ≤ l.place)
    × AreWorth l.terms (take (l.place - l.design.register_count) (inputs_of (parts_of l.design))) l.ids.items
    (λ v. map (λ n. zero_of n.1) (take (l.place - l.design.register_count) (inputs_of (parts_of l.design))))
