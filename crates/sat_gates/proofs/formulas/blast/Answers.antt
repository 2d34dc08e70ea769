use Rattle.std.proofs.Common.{◌≡◌, ◌∙◌, ◌≤◌, ◌∷◌, [], List, ap, sym, subst, arith}
use Rattle.std.proofs.lemmas.List.Elements.{All-head}
use Rattle.wb_terms.specs.Graph.{tree}
use Rattle.gate_base.specs.Circuit.{Circuit, size, IsKnown}
use Rattle.sat_gates.specs.Layout.{firsts_of, end_of}
use Rattle.std.specs.Ordering.{nat_cmp}
use Rattle.std.specs.BTreeSet as set
use Rattle.wb_terms.specs.declared.nodes.TermId.{TermId}
use Rattle.sat_gates.specs.Cone.{IsCone, places}
use Rattle.sat_gates.specs.Used.{flags_of}
use Rattle.sat_gates.proofs.Encoding.{IsLaid, has_variables, encoded, numbered}
use Rattle.sat_gates.proofs.formulas.blast.Goals as goal

pub used_names-requires-clause-cone : goal.used_names-requires-clause-cone
used_names-requires-clause-cone c = subst (λ (ids : List TermId). IsCone c.args.terms.now c.args.id.0 (places ids)) (sym c.deref.ensures.value) c.in_ok-ids.ensures.exact

pub put_term-requires-clause-cone : goal.put_term-requires-clause-cone
put_term-requires-clause-cone c = subst (λ (ids : List TermId). IsCone c.args.terms.now c.args.id.0 (places ids)) (sym c.deref-2.ensures.value) c.in_ok-ids.ensures.exact

pub put_term-requires-clause-variables : goal.put_term-requires-clause-variables
put_term-requires-clause-variables c =
    let g = c.args.terms.now in
    let id = c.args.id.0 in
    let used = flags_of (set.contains nat_cmp c.in_ok-used.used) g.names in
    let firsts = c.in_ok-layout.layout.map in
    let are_firsts : firsts ≡ firsts_of 0 g.names used = c.in_ok-layout.ensures.firsts in
    let end : c.in_ok-layout.layout.inputs ≡ end_of 0 g.names used = c.in_ok-layout.ensures.inputs in
    let start : c.new-circuit.result.inputs ≡ c.in_ok-layout.layout.inputs = ap (λ (x : Circuit). x.inputs) c.new-circuit.ensures in
    let laid : IsLaid g id used firsts c.new-circuit.result.inputs = record { distinct = c.lay_out.ensures.distinct; are_used = c.in_ok-used.ensures.used; are_firsts = are_firsts; end = start ∙ end } in
    has_variables g id used firsts c.new-circuit.result.inputs laid

pub assumed-requires : goal.assumed-requires
assumed-requires c = c.negated-wanted.ensures.known (size c.put_term.new.circuit) (All-head (IsKnown c.put_term.new.circuit) c.in_ok-bit.bit [] c.in_ok-bit.ensures.bit.known)

pub returns-clause-encodes : goal.returns-clause-encodes
returns-clause-encodes c =
    let g = c.args.terms.now in
    let id = c.args.id.0 in
    let used = flags_of (set.contains nat_cmp c.in_ok-used.used) g.names in
    let firsts = c.in_ok-layout.layout.map in
    let are_firsts : firsts ≡ firsts_of 0 g.names used = c.in_ok-layout.ensures.firsts in
    let end : c.in_ok-layout.layout.inputs ≡ end_of 0 g.names used = c.in_ok-layout.ensures.inputs in
    let start : c.new-circuit.result.inputs ≡ c.in_ok-layout.layout.inputs = ap (λ (x : Circuit). x.inputs) c.new-circuit.ensures in
    let after : c.in_ok-asked.asked.circuit.inputs ≡ end_of 0 g.names used = c.in_ok-asked.ensures.inputs ∙ (c.in_ok-bit.ensures.grows.inputs ∙ (start ∙ end)) in
    let laid : IsLaid g id used firsts c.in_ok-asked.asked.circuit.inputs = record { distinct = c.lay_out.ensures.distinct; are_used = c.in_ok-used.ensures.used; are_firsts = are_firsts; end = after } in
    encoded g id used firsts c.put_term.new.circuit c.in_ok-asked.asked.circuit c.in_ok-bit.bit c.negated-wanted.result c.in_ok-asked.asked.wanted c.in_ok-cnf.cnf (record {
      laid = laid;
      truth_sort = c.requires.sort;
      blastable = c.requires.blastable;
      bits = c.in_ok-bit.ensures.bit;
      negated = c.negated-wanted.ensures.value;
      asked = c.in_ok-asked.ensures;
      formula = c.in_ok-cnf.ensures.formula;
      determined = c.in_ok-cnf.ensures.determined;
    })

pub returns-clause-numbered : goal.returns-clause-numbered
returns-clause-numbered c =
    let g = c.args.terms.now in
    let id = c.args.id.0 in
    let used = flags_of (set.contains nat_cmp c.in_ok-used.used) g.names in
    let firsts = c.in_ok-layout.layout.map in
    let are_firsts : firsts ≡ firsts_of 0 g.names used = c.in_ok-layout.ensures.firsts in
    let end : c.in_ok-layout.layout.inputs ≡ end_of 0 g.names used = c.in_ok-layout.ensures.inputs in
    let start : c.new-circuit.result.inputs ≡ c.in_ok-layout.layout.inputs = ap (λ (x : Circuit). x.inputs) c.new-circuit.ensures in
    let after : c.in_ok-asked.asked.circuit.inputs ≡ end_of 0 g.names used = c.in_ok-asked.ensures.inputs ∙ (c.in_ok-bit.ensures.grows.inputs ∙ (start ∙ end)) in
    let laid : IsLaid g id used firsts c.in_ok-asked.asked.circuit.inputs = record { distinct = c.lay_out.ensures.distinct; are_used = c.in_ok-used.ensures.used; are_firsts = are_firsts; end = after } in
    let fits : c.in_ok-asked.asked.circuit.inputs ≤ c.in_ok-cnf.cnf.vars = omega (arith, c.in_ok-cnf.ensures.formula.vars) in
    numbered g id used firsts c.in_ok-asked.asked.circuit.inputs c.in_ok-cnf.cnf.vars laid fits
