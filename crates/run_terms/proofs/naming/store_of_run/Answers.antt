use Rattle.std.proofs.Common.{◌≡◌, ◌∙◌, ◌-◌, ◌++◌, take, ap, arith}
use Rattle.wb_values.specs.Value.{Sort, Entries}
use Rattle.wb_terms.specs.Graph.{Graph}
use Rattle.v_design.specs.Seen.{parts_of}
use Rattle.v_design.specs.Parts.{registers_of, inputs_of}
use Rattle.run_terms.specs.Names.{numbered, repeated}
use Rattle.run_terms.proofs.Numbers.{idempotent, repeated_none, repeated_more, whole_part}
use Rattle.run_terms.proofs.naming.store_of_run.Goals as goal

pub loop-cycle-init : goal.loop-cycle-init
loop-cycle-init c =
    let d = parts_of c.args.design.now in
    let all : c.register_count-registers.result - 0 ≡ c.args.design.now.register_count = omega (arith, c.register_count-registers.ensures) in
    repeated_none c.declare_part.new.terms.names (registers_of d) (inputs_of d)
    (c.in_ok-declare_part.ensures.names
    ∙ (λ i. numbered 0 ((ap (λ (g : Graph). g.names) c.in_ok-terms.ensures) i ++ take (all i) c.args.design.now.terms.names)))

pub declare_part-requires-in-loop-cycle-clause-names : goal.declare_part-requires-in-loop-cycle-clause-names
declare_part-requires-in-loop-cycle-clause-names c =
    let d = parts_of c.args.design.now in
    idempotent c.loop-cycle.terms.names (registers_of d ++ repeated c.loop-cycle._cycle (inputs_of d)) c.loop-cycle.invariant

pub loop-cycle-preserved : goal.loop-cycle-preserved
loop-cycle-preserved c =
    let d = parts_of c.args.design.now in
    repeated_more c.loop-cycle.terms.names c.declare_part-in-loop-cycle.new.terms.names (registers_of d) (inputs_of d) c.loop-cycle._cycle c.loop-cycle.invariant
    (c.in_ok-declare_part-2.ensures.names
    ∙ ap (λ (es : Entries Sort). numbered 0 (c.loop-cycle.terms.names ++ es))
    (whole_part c.args.design.now.terms.names c.args.design.now.register_count c.register_count-registers.result c.name_count-count.result
    c.register_count-registers.ensures c.name_count-count.ensures.names))
