use Rattle.std.proofs.lemmas.Simd.{map-map}
use Rattle.std.proofs.Common.{◌≡◌, ◌∙◌, ◌++◌, length, map, take, sym, ap, ap₂, subst, arith}
use Rattle.std.specs.Vec.{with_items}
use Rattle.std.proofs.lemmas.List.{length-map}
use Rattle.wb_values.specs.Value.{number, valuation_of}
use Rattle.model_meaning.specs.Term.{val}
use Rattle.wb_terms.specs.declared.values.Env.{Env}
use Rattle.wb_terms.specs.Graph.{tree}
use Rattle.wb_terms.specs.Environment.{AreOfSorts, as_value, values_by_name}
use Rattle.v_design.specs.Parts.{value_in}
use Rattle.v_design.specs.Seen.{parts_of, register_values, input_values}
use Rattle.v_cycle.specs.Alike.{AreAlike}
use Rattle.v_cycle.specs.Changing.{changed_by}
use Rattle.v_cycle.specs.Next.{values_of_terms}
use Rattle.v_cycle.specs.Setting.{AreOfTerms}
use Rattle.v_cycle.proofs.Sorts.{of_terms}
use Rattle.v_cycle.proofs.Cycles.{written, next_sorts, inputs_set, total, alike, names_at, names_fit, names_of_registers}
use Rattle.v_cycle.proofs.cycle.Cycle.cycle.Goals as goal
use Rattle.v_cycle.proofs.cycle.Cycle.cycle.Goals.{After-set_numbers}

pub follow-requires-clause-alike : goal.follow-requires-clause-alike
follow-requires-clause-alike c =
    let r = c.requires in
    let d = c.args.design.now in
    let s = c.args.self.now in
    subst (λ l. AreAlike (take (length l) (map as_value c.deref_mut.result.now)) (map as_value l)) (sym c.deref.ensures.value)
    (subst (λ l. AreAlike (take (length s.registers.values.items) (map as_value l)) (map as_value s.registers.values.items)) (sym c.deref_mut.ensures.value)
    (alike d.terms d.register_count s.env.values s.registers.values c.args.inputs.now.numbers.items r.made.registers r.inputs r.made.names d.counted))

pub set_numbers-requires : goal.set_numbers-requires
set_numbers-requires c =
    let r = c.requires in
    let d = c.args.design.now in
    let s = c.args.self.now in
    let long : length c.follow.new.values ≡ length s.env.values.items = omega (arith, c.follow.auto.values, ap length c.deref_mut.ensures.value) in
    let t = total d.terms d.register_count s.env.values s.registers.values c.args.inputs.now.numbers.items r.made.registers r.inputs r.made.names in
    omega (arith, t, long, s.registers.values.ok.0, c.len-first.ensures, ap length c.deref_mut-2.ensures.value, ap length (written s.env.values c.follow.new.values long), ap length c.deref-2.ensures.value)

long : (c : After-set_numbers) → length c.follow.new.values ≡ length c.args.self.now.env.values.items
long c = omega (arith, c.follow.auto.values, ap length c.deref_mut.ensures.value)

are : (c : After-set_numbers) → map as_value c.set_numbers.new.values ≡ map as_value c.args.self.now.registers.values.items ++ map number c.args.inputs.now.numbers.items
are c =
    let s = c.args.self.now in
    inputs_set s.registers.values c.args.inputs.now.numbers.items c.deref.result.now c.follow.new.values c.deref_mut-2.result.now c.set_numbers.new.values c.deref-2.result.now c.len-first.result
    c.deref.ensures.value (c.deref_mut-2.ensures.value ∙ written s.env.values c.follow.new.values (long c)) c.deref-2.ensures.value (omega (arith, s.registers.values.ok.0, c.len-first.ensures))
    c.follow.ensures c.set_numbers.ensures

fit : (c : After-set_numbers) → AreOfSorts c.args.design.now.terms.names (map as_value (with_items (with_items c.args.self.now.env.values c.follow.new.values) c.set_numbers.new.values).items)
fit c =
    let r = c.requires in
    let d = c.args.design.now in
    let s = c.args.self.now in
    names_fit d.terms d.register_count s.env.values s.registers.values c.args.inputs.now.numbers.items r.made.registers r.inputs r.made.names c.follow.new.values c.set_numbers.new.values (long c) (are c)

pub evaluate-requires-clause-fits : goal.evaluate-requires-clause-fits
evaluate-requires-clause-fits c = fit (goal.at.evaluate-requires-clause-fits c).After-set_numbers

pub set_next-requires-clause-fits : goal.set_next-requires-clause-fits
set_next-requires-clause-fits c = fit (goal.at.set_next-requires-clause-fits c).After-set_numbers

pub set_next-requires-clause-sorted : goal.set_next-requires-clause-sorted
set_next-requires-clause-sorted c =
    let d = c.args.design.now in
    let s = c.args.self.now in
    subst (λ ids. AreOfTerms d.terms ids (map as_value c.deref_mut-3.result.now)) (sym c.deref-3.ensures.value)
    (subst (λ l. AreOfTerms d.terms d.next.items (map as_value l)) (sym c.deref_mut-3.ensures.value)
    (of_terms d.terms (take d.register_count d.terms.names) d.next.items (map as_value s.registers.values.items) d.sorted c.requires.made.registers))

pub returns-clause-made : goal.returns-clause-made
returns-clause-made c =
    let r = c.requires in
    let d = c.args.design.now in
    let s = c.args.self.now in
    let old = s.registers.values.items in
    let xs = c.set_next.new.values in
    let e : Env = record { values = with_items (with_items s.env.values c.follow.new.values) c.set_numbers.new.values } in
    let place = (goal.at.returns-clause-made c).After-set_numbers in
    let so_many : length xs ≡ length old = omega (arith, c.set_next.auto.values, ap length c.deref_mut-3.ensures.value) in
    let items = written s.registers.values xs so_many in
    let now = ap (map as_value) items ∙ c.set_next.ensures.values ∙ ap (values_of_terms d.terms e) c.deref-3.ensures.value in
    let terms = of_terms d.terms (take d.register_count d.terms.names) d.next.items (map as_value old) d.sorted r.made.registers in
    let before = names_of_registers d.terms d.register_count s.env.values s.registers.values c.args.inputs.now.numbers.items r.made.registers r.inputs r.made.names
    c.follow.new.values c.set_numbers.new.values (long place) (are place) (length (map as_value (with_items s.registers.values xs).items))
    (length-map (with_items s.registers.values xs).items as_value ∙ ap length items ∙ so_many) in
    let none = ap (map as_value) c.deref_mut-3.ensures.value ∙ sym (ap (changed_by (map as_value old)) c.clear.ensures) in
    record {
      registers = next_sorts d.terms d.register_count e c.evaluate.new.self d.next.items (map as_value old) _ d.sorted c.evaluate.ensures.holds terms now;
      names = fit place;
      room = omega (arith, r.made.room, c.evaluate.ensures.room);
      listed = λ complete.
          ap (map as_value) items ∙ c.set_next.ensures.listed (map as_value old) (λ _. none) complete
          ∙ ap (λ l. changed_by l c.set_next.new.changes.list.items) (sym before);
    }

pub returns-clause-registers : goal.returns-clause-registers
returns-clause-registers c =
    let r = c.requires in
    let d = c.args.design.now in
    let g = d.terms in
    let s = c.args.self.now in
    let xs = c.set_next.new.values in
    let place = (goal.at.returns-clause-registers c).After-set_numbers in
    let so_many : length xs ≡ length s.registers.values.items = omega (arith, c.set_next.auto.values, ap length c.deref_mut-3.ensures.value) in
    ap (map as_value) (written s.registers.values xs so_many)
    ∙ c.set_next.ensures.values
    ∙ ap₂ (λ ids ws. map (λ id. val (tree g id.0) (valuation_of (values_by_name g.names ws))) ids) c.deref-3.ensures.value
    (names_at g d.register_count s.env.values s.registers.values c.args.inputs.now.numbers.items r.made.registers r.inputs r.made.names
    c.follow.new.values c.set_numbers.new.values (long place) (are place))
    ∙ sym (map-map (value_in (parts_of d) (register_values s.registers) (input_values c.args.inputs.now)) (λ id. id.0) d.next.items)
