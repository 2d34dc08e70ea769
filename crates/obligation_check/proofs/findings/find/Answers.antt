-- What settling the term without memories says of the term.
use Rattle.std.proofs.Common.{◌≡◌, ◌∙◌, ℕ, ◌+◌, ◌-◌, ◌*◌, ◌<◌, ◌≤◌, length, map, take, vec_len, ap, sym, refl, subst}
use Rattle.v_design.specs.Seen.{parts_of}
use Rattle.sat_settle.specs.Settled.{IsSettled}
use Rattle.wb_terms.specs.Environment.{as_value}
use Rattle.ob_mem.specs.Words.{listed}
use Rattle.obligation_check.specs.Gathered.{number_at, gathered_values, words_in}
use Rattle.obligation_check.specs.Found.{numbers_at}
use Rattle.obligation_check.proofs.Expanding.{IsExpanded, is_expanded, encodes_spread, never_false, IsPlainDesign, names_counted, room, told_by, told_fits, told_breaks, are_values}
use Rattle.obligation_check.proofs.findings.find.Goals as goal

pub returns-in-Ok-Holds : goal.returns-in-Ok-Holds
returns-in-Ok-Holds c =
    let g = c.args.terms.now in
    let e = c.in_ok-expanded.expanded in
    let x : IsExpanded g c.args.id.0 e.terms e.goal.0 =
    is_expanded g c.args.id.0 e.terms e.goal.0 e.list.items c.in_ok-expanded.ensures.list c.in_ok-expanded.ensures.names c.name_count-names.ensures.distinct
    c.in_ok-expanded.ensures.blastable c.in_ok-expanded.ensures.value c.in_ok-expanded.ensures.spread c.in_ok-expanded.ensures.gathered in
    record { found = never_false g c.args.id.0 e.terms e.goal.0 x (subst (IsSettled e.terms e.goal.0 c.args.budget) c.in-Ok-Holds.field-0-is c.in-Ok-Holds.ensures.settled) }

pub run_values-requires-clause-names : goal.run_values-requires-clause-names
run_values-requires-clause-names c =
    let g = c.args.terms.now in
    let d = parts_of c.args.design.now in
    let e = c.in_ok-expanded.expanded in
    let x : IsExpanded g c.args.id.0 e.terms e.goal.0 =
    is_expanded g c.args.id.0 e.terms e.goal.0 e.list.items c.in_ok-expanded.ensures.list c.in_ok-expanded.ensures.names c.name_count-names.ensures.distinct
    c.in_ok-expanded.ensures.blastable c.in_ok-expanded.ensures.value c.in_ok-expanded.ensures.spread c.in_ok-expanded.ensures.gathered in
    let design : IsPlainDesign d = record { counted = c.args.design.now.counted; counting = c.args.design.now.counting; words = c.args.design.now.words } in
    let s = subst (IsSettled e.terms e.goal.0 c.args.budget) c.in-Ok-Breaks.field-0-is c.in-Ok-Breaks.ensures.settled in
    let own = names_counted d c.args.cycles g c.args.id.0 e.terms e.goal.0 c.in-Ok-Breaks.values design c.requires.names x s.0 in
    ap (λ k. k + c.args.cycles * c.input_count-inputs.result) c.register_count-registers.ensures
    ∙ (ap (λ k. d.register_count + c.args.cycles * k) c.input_count-inputs.ensures ∙ own)

pub run_values-requires-clause-words : goal.run_values-requires-clause-words
run_values-requires-clause-words c =
    let g = c.args.terms.now in
    let d = parts_of c.args.design.now in
    let e = c.in_ok-expanded.expanded in
    let x : IsExpanded g c.args.id.0 e.terms e.goal.0 =
    is_expanded g c.args.id.0 e.terms e.goal.0 e.list.items c.in_ok-expanded.ensures.list c.in_ok-expanded.ensures.names c.name_count-names.ensures.distinct
    c.in_ok-expanded.ensures.blastable c.in_ok-expanded.ensures.value c.in_ok-expanded.ensures.spread c.in_ok-expanded.ensures.gathered in
    let design : IsPlainDesign d = record { counted = c.args.design.now.counted; counting = c.args.design.now.counting; words = c.args.design.now.words } in
    let s = subst (IsSettled e.terms e.goal.0 c.args.budget) c.in-Ok-Breaks.field-0-is c.in-Ok-Breaks.ensures.settled in
    subst (λ k. length g.names + words_in (take k g.names) ≤ vec_len c.in-Ok-Breaks.values.values) (sym c.register_count-registers.ensures)
    (room d c.args.cycles g c.args.id.0 e.terms e.goal.0 c.in-Ok-Breaks.values design c.requires.names x s.0)

pub returns-in-Ok-Breaks : goal.returns-in-Ok-Breaks
returns-in-Ok-Breaks c =
    let g = c.args.terms.now in
    let d = parts_of c.args.design.now in
    let n = c.args.cycles in
    let e = c.in_ok-expanded.expanded in
    let x : IsExpanded g c.args.id.0 e.terms e.goal.0 =
    is_expanded g c.args.id.0 e.terms e.goal.0 e.list.items c.in_ok-expanded.ensures.list c.in_ok-expanded.ensures.names c.name_count-names.ensures.distinct
    c.in_ok-expanded.ensures.blastable c.in_ok-expanded.ensures.value c.in_ok-expanded.ensures.spread c.in_ok-expanded.ensures.gathered in
    let design : IsPlainDesign d = record { counted = c.args.design.now.counted; counting = c.args.design.now.counting; words = c.args.design.now.words } in
    let s = subst (IsSettled e.terms e.goal.0 c.args.budget) c.in-Ok-Breaks.field-0-is c.in-Ok-Breaks.ensures.settled in
    let env = c.in-Ok-Breaks.values in
    let y = c.in_ok-values-in-Ok-Breaks.values in
    let count = length d.graph.names - d.register_count in
    let first = subst (λ k. map as_value y.registers.items ≡ gathered_values env 0 (length g.names) (take k g.names)) c.register_count-registers.ensures
    c.in_ok-values-in-Ok-Breaks.ensures.registers in
    let inputs = subst (λ k. (t : ℕ) → t < n → numbers_at y.inputs.items t ≡ listed (number_at env (k + t * count)) count) c.register_count-registers.ensures
    (subst (λ k. (t : ℕ) → t < n → numbers_at y.inputs.items t ≡ listed (number_at env (c.register_count-registers.result + t * k)) k) c.input_count-inputs.ensures
    c.in_ok-values-in-Ok-Breaks.ensures.inputs) in
    record {
      found = (
        told_by d n g c.args.id.0 e.terms e.goal.0 env design c.requires.names x s.0,
        told_fits d n g c.args.id.0 e.terms e.goal.0 env design c.requires.names x s.0,
        told_breaks d n g c.args.id.0 e.terms e.goal.0 env design c.requires.names x s.0 s.1,
        are_values d n g c.args.id.0 e.terms e.goal.0 env design c.requires.names x s.0 y first c.in_ok-values-in-Ok-Breaks.ensures.count inputs,
      );
    }

pub returns-in-Ok-Spent : goal.returns-in-Ok-Spent
returns-in-Ok-Spent c =
    let g = c.args.terms.now in
    let e = c.in_ok-expanded.expanded in
    let x : IsExpanded g c.args.id.0 e.terms e.goal.0 =
    is_expanded g c.args.id.0 e.terms e.goal.0 e.list.items c.in_ok-expanded.ensures.list c.in_ok-expanded.ensures.names c.name_count-names.ensures.distinct
    c.in_ok-expanded.ensures.blastable c.in_ok-expanded.ensures.value c.in_ok-expanded.ensures.spread c.in_ok-expanded.ensures.gathered in
    let s = subst (IsSettled e.terms e.goal.0 c.args.budget) c.in-Ok-Spent.field-0-is c.in-Ok-Spent.ensures.settled in
    record { found = (encodes_spread g c.args.id.0 e.terms e.goal.0 c.in-Ok-Spent.formula.map c.in-Ok-Spent.formula.cnf x s.0 s.1, s.2, refl) }
