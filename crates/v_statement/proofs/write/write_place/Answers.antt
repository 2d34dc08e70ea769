use Rattle.std.proofs.Common.{◌∙◌, ap, sym, refl, not, length, arith}
use Rattle.v_value.specs.Scope.{scope_at, valuation_at}
use Rattle.v_statement.specs.Places.{index_from}
use Rattle.v_statement.proofs.Writing.{found, absent, written_found, written_absent, entry_fits}
use Rattle.v_statement.proofs.write.write_place.Goals as goal

pub index_mut-entry-requires : goal.index_mut-entry-requires
index_mut-entry-requires c =
    let n = c.args.place.now.name.now in
    let k = sym c.in-Some.is ∙ c.index_of.ensures ∙ ap (λ es. index_from 0 es n) c.deref.ensures.value in
    let f = found c.in-Some.index c.args.values.now.entries.items n k in
    omega (arith, f.within, ap length c.deref.ensures.value, c.deref.ensures.len)

pub write_cell-requires-clause-fits : goal.write_cell-requires-clause-fits
write_cell-requires-clause-fits c =
    let n = c.args.place.now.name.now in
    let k = sym c.in-Some.is ∙ c.index_of.ensures ∙ ap (λ es. index_from 0 es n) c.deref.ensures.value in
    let f = found c.in-Some.index c.args.values.now.entries.items n k in
    entry_fits (scope_at c.args.scope.now) c.args.values.now.entries.items n c.in-Some.index c.index_mut-entry.result.now _
    f c.index_mut-entry.ensures.value c.object-object.ensures c.requires.fits

pub returns-in-Some-clause-written : goal.returns-in-Some-clause-written
returns-in-Some-clause-written c =
    let n = c.args.place.now.name.now in
    let k = sym c.in-Some.is ∙ c.index_of.ensures ∙ ap (λ es. index_from 0 es n) c.deref.ensures.value in
    let f = found c.in-Some.index c.args.values.now.entries.items n k in
    written_found (scope_at c.args.scope.now) c.args.values.now.entries.items n c.in-Some.index c.index_mut-entry.result.now
    c.write_cell.new.value _ _ c.args.number _ f c.index_mut-entry.ensures.value c.object-object.ensures c.write_cell.ensures

pub returns-else-is_err-clause-written : goal.returns-else-is_err-clause-written
returns-else-is_err-clause-written c =
    let n = c.args.place.now.name.now in
    let es = c.args.values.now.entries.items in
    let k = sym c.in-None.is ∙ c.index_of.ensures ∙ ap (λ es. index_from 0 es n) c.deref.ensures.value in
    let ok = c.is_err.ensures.negation ∙ ap not c.if-is_err.false in
    let pushed = rw ok at c.push.ensures.items in
    ap valuation_at pushed
    ∙ written_absent (scope_at c.args.scope.now) es n (record { name = c.args.place.now.name; value = c.write_cell-in-None.new.value }) _ _ c.args.number _
    (absent 0 es n (record { name = c.args.place.now.name; value = c.write_cell-in-None.new.value }) refl k) c.object-object.ensures c.write_cell-in-None.ensures
