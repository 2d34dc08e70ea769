use Rattle.std.proofs.Common.{◌+◌, map, None, ap, arith}
use Rattle.ila_file.specs.View.{definition_view, fetch_view, term_view, instructions_view, machine_view}
use Rattle.ila_build.proofs.Growing.{same, onward, wider, are_in-grown}
use Rattle.ila_build.proofs.Declared.{in_table, table_grown}
use Rattle.ila_build.proofs.MachineLemmas.{machine_put}
use Rattle.std.proofs.lemmas.Result.{err_from_is_err_and}
use Rattle.std.specs.Prelude.{Err}
use Rattle.ila_build.specs.Standing.{seen_by, term_by}
use Rattle.ila_build.specs.Sizes.{size_of, fetch_size, instruction_sizes}
use Rattle.ila_build.proofs.LeavingLemmas.{sized, grown_of, machine_left}
use Rattle.ila_build.proofs.Unrefused.{definitions_lost, fetch_lost, valid_lost, own_lost}
use Rattle.ila_build.proofs.machine.put_machine.Goals as goal

pub put_definitions-requires : goal.put_definitions-requires
put_definitions-requires c = in_table c.args.terms.now c.args.known.now c.requires

pub put_instructions-requires-clause-table : goal.put_instructions-requires-clause-table
put_instructions-requires-clause-table c =
    let one = c.in_ok-put_definitions.ensures.grown in
    let two = onward c.in_ok-fetch.ensures.grown c.in_ok-valid.ensures.put.0 in
    let all = onward one two in
    table_grown c.args.terms.now c.put_term.new.terms c.args.known.now c.put_definitions.new.known (wider all) all.names c.in_ok-put_definitions.ensures.left.kept (are_in-grown c.put_definitions.new.terms c.put_term.new.terms c.put_definitions.new.known None two c.in_ok-put_definitions.ensures.left.in_store) c.requires

pub put_instructions-requires-clause-in_store : goal.put_instructions-requires-clause-in_store
put_instructions-requires-clause-in_store c = are_in-grown c.put_fetch.new.terms c.put_term.new.terms c.put_definitions.new.known c.in_ok-fetch.fetch c.in_ok-valid.ensures.put.0 c.in_ok-fetch.ensures.in_store

pub returns-clause-table : goal.returns-clause-table
returns-clause-table c =
    let one = c.in_ok-put_definitions.ensures.grown in
    let two = onward c.in_ok-fetch.ensures.grown (onward c.in_ok-valid.ensures.put.0 c.in_ok-instructions.ensures.grown) in
    let all = onward one two in
    table_grown c.args.terms.now c.put_instructions.new.terms c.args.known.now c.put_definitions.new.known (wider all) all.names c.in_ok-put_definitions.ensures.left.kept (are_in-grown c.put_definitions.new.terms c.put_instructions.new.terms c.put_definitions.new.known None two c.in_ok-put_definitions.ensures.left.in_store) c.requires

pub returns-clause-put : goal.returns-clause-put
returns-clause-put c =
    machine_put c.args.terms.now c.put_definitions.new.terms c.put_fetch.new.terms c.put_term.new.terms c.put_instructions.new.terms c.args.known.now c.put_definitions.new.known c.args.links.now (machine_view c.args.machine.now)
    (map definition_view c.definitions_of.result.now) (fetch_view c.fetch_of.result.now) (term_view c.valid_of.result.now) (instructions_view c.instructions_of.result.now) c.in_ok-fetch.fetch c.in_ok-valid.valid c.in_ok-instructions.instructions.items
    c.definitions_of.ensures c.fetch_of.ensures c.valid_of.ensures c.instructions_of.ensures
    c.in_ok-put_definitions.ensures.grown c.in_ok-put_definitions.ensures.defined c.in_ok-fetch.ensures.grown c.in_ok-fetch.ensures.fetched c.in_ok-valid.ensures.put c.in_ok-instructions.ensures.grown c.in_ok-instructions.ensures.put

pub returns-in_err-put_definitions-clause-unrefused : goal.returns-in_err-put_definitions-clause-unrefused
returns-in_err-put_definitions-clause-unrefused c =
    let p = err_from_is_err_and c.from_residual.result c.from_residual.ensures.1 in
    rw (p.1, p.2) (definitions_lost c.args.terms.now c.put_definitions.new.terms c.args.known.now c.put_definitions.new.known (map definition_view c.definitions_of.result.now) (machine_view c.args.machine.now) c.in_err-put_definitions.field-0.0 c.definitions_of.ensures c.in_err-put_definitions.ensures.defined)

pub returns-in_err-fetch-clause-unrefused : goal.returns-in_err-fetch-clause-unrefused
returns-in_err-fetch-clause-unrefused c =
    let p = err_from_is_err_and c.from_residual-in_err-fetch.result c.from_residual-in_err-fetch.ensures.1 in
    rw (p.1, p.2) (fetch_lost c.args.terms.now c.put_definitions.new.terms c.args.known.now c.put_definitions.new.known (map definition_view c.definitions_of.result.now) (fetch_view c.fetch_of.result.now) (machine_view c.args.machine.now) c.in_err-fetch.field-0.0
    c.definitions_of.ensures c.fetch_of.ensures c.in_ok-put_definitions.ensures.grown c.in_ok-put_definitions.ensures.defined c.in_err-fetch.ensures.unrefused)

pub returns-in_err-valid-clause-unrefused : goal.returns-in_err-valid-clause-unrefused
returns-in_err-valid-clause-unrefused c =
    let p = err_from_is_err_and c.from_residual-in_err-valid.result c.from_residual-in_err-valid.ensures.1 in
    rw (p.1, p.2) (valid_lost c.args.terms.now c.put_definitions.new.terms c.put_fetch.new.terms c.put_term.new.terms c.args.known.now c.put_definitions.new.known (map definition_view c.definitions_of.result.now) (fetch_view c.fetch_of.result.now) (term_view c.valid_of.result.now) c.in_ok-fetch.fetch (machine_view c.args.machine.now) c.in_err-valid.field-0.0
    c.definitions_of.ensures c.fetch_of.ensures c.valid_of.ensures c.in_ok-put_definitions.ensures.grown c.in_ok-put_definitions.ensures.defined c.in_ok-fetch.ensures.grown c.in_ok-fetch.ensures.fetched c.in_err-valid.ensures.put)

pub returns-in_err-instructions-clause-unrefused : goal.returns-in_err-instructions-clause-unrefused
returns-in_err-instructions-clause-unrefused c =
    let p = err_from_is_err_and c.from_residual-in_err-instructions.result c.from_residual-in_err-instructions.ensures.1 in
    rw (p.1, p.2) (own_lost c.args.terms.now c.put_definitions.new.terms c.put_fetch.new.terms c.put_term.new.terms c.args.known.now c.put_definitions.new.known (map definition_view c.definitions_of.result.now) (fetch_view c.fetch_of.result.now) (instructions_view c.instructions_of.result.now) c.in_ok-fetch.fetch (machine_view c.args.machine.now) c.in_err-instructions.field-0.0
    c.definitions_of.ensures c.fetch_of.ensures c.instructions_of.ensures c.in_ok-put_definitions.ensures.grown c.in_ok-put_definitions.ensures.defined c.in_ok-fetch.ensures.grown c.in_ok-fetch.ensures.fetched c.in_ok-valid.ensures.put.0 c.in_err-instructions.ensures.unrefused)

pub returns-in_err-put_definitions-clause-grown : goal.returns-in_err-put_definitions-clause-grown
returns-in_err-put_definitions-clause-grown c = c.in_err-put_definitions.ensures.grown

pub returns-in_err-fetch-clause-grown : goal.returns-in_err-fetch-clause-grown
returns-in_err-fetch-clause-grown c = onward c.in_ok-put_definitions.ensures.grown c.in_err-fetch.ensures.grown

pub returns-in_err-valid-clause-grown : goal.returns-in_err-valid-clause-grown
returns-in_err-valid-clause-grown c = onward c.in_ok-put_definitions.ensures.grown (onward c.in_ok-fetch.ensures.grown (grown_of c.put_fetch.new.terms c.put_term.new.terms (Err c.in_err-valid.field-0.0) (term_by (seen_by c.put_fetch.new.terms c.put_definitions.new.known c.in_ok-fetch.fetch) (term_view c.valid_of.result.now)) c.in_err-valid.ensures.put))

pub returns-in_err-instructions-clause-grown : goal.returns-in_err-instructions-clause-grown
returns-in_err-instructions-clause-grown c = onward c.in_ok-put_definitions.ensures.grown (onward c.in_ok-fetch.ensures.grown (onward c.in_ok-valid.ensures.put.0 c.in_err-instructions.ensures.grown))

pub returns-in_err-put_definitions-clause-left : goal.returns-in_err-put_definitions-clause-left
returns-in_err-put_definitions-clause-left c =
    machine_left c.args.terms.now c.put_definitions.new.terms c.put_definitions.new.terms c.args.known.now c.put_definitions.new.known (machine_view c.args.machine.now) (map definition_view c.definitions_of.result.now) 0 c.definitions_of.ensures c.in_err-put_definitions.ensures.left
    (same c.put_definitions.new.terms)
    (omega arith)
    (omega arith)

pub returns-in_err-fetch-clause-left : goal.returns-in_err-fetch-clause-left
returns-in_err-fetch-clause-left c =
    let f = ap fetch_size c.fetch_of.ensures in
    machine_left c.args.terms.now c.put_definitions.new.terms c.put_fetch.new.terms c.args.known.now c.put_definitions.new.known (machine_view c.args.machine.now) (map definition_view c.definitions_of.result.now) (fetch_size (fetch_view c.fetch_of.result.now)) c.definitions_of.ensures c.in_ok-put_definitions.ensures.left
    c.in_err-fetch.ensures.grown
    c.in_err-fetch.ensures.added
    (omega (arith, f))

pub returns-in_err-valid-clause-left : goal.returns-in_err-valid-clause-left
returns-in_err-valid-clause-left c =
    let f = ap fetch_size c.fetch_of.ensures in
    let v = ap size_of c.valid_of.ensures in
    let x = c.in_ok-fetch.ensures.added in
    let y = sized _ _ _ (term_view c.valid_of.result.now) c.in_err-valid.ensures.added in
    machine_left c.args.terms.now c.put_definitions.new.terms c.put_term.new.terms c.args.known.now c.put_definitions.new.known (machine_view c.args.machine.now) (map definition_view c.definitions_of.result.now) (fetch_size (fetch_view c.fetch_of.result.now) + size_of (term_view c.valid_of.result.now)) c.definitions_of.ensures c.in_ok-put_definitions.ensures.left
    (onward c.in_ok-fetch.ensures.grown (grown_of c.put_fetch.new.terms c.put_term.new.terms (Err c.in_err-valid.field-0.0) (term_by (seen_by c.put_fetch.new.terms c.put_definitions.new.known c.in_ok-fetch.fetch) (term_view c.valid_of.result.now)) c.in_err-valid.ensures.put))
    (omega (arith, x, y))
    (omega (arith, f, v))

pub returns-in_err-instructions-clause-left : goal.returns-in_err-instructions-clause-left
returns-in_err-instructions-clause-left c =
    let f = ap fetch_size c.fetch_of.ensures in
    let v = ap size_of c.valid_of.ensures in
    let s = ap instruction_sizes c.instructions_of.ensures in
    let x = c.in_ok-fetch.ensures.added in
    let y = sized _ _ _ (term_view c.valid_of.result.now) c.in_ok-valid.ensures.added in
    let z = c.in_err-instructions.ensures.added in
    machine_left c.args.terms.now c.put_definitions.new.terms c.put_instructions.new.terms c.args.known.now c.put_definitions.new.known (machine_view c.args.machine.now) (map definition_view c.definitions_of.result.now) (fetch_size (fetch_view c.fetch_of.result.now) + size_of (term_view c.valid_of.result.now) + instruction_sizes (instructions_view c.instructions_of.result.now)) c.definitions_of.ensures c.in_ok-put_definitions.ensures.left
    (onward c.in_ok-fetch.ensures.grown (onward c.in_ok-valid.ensures.put.0 c.in_err-instructions.ensures.grown))
    (omega (arith, x, y, z))
    (omega (arith, f, v, s))

pub returns-clause-left : goal.returns-clause-left
returns-clause-left c =
    let f = ap fetch_size c.fetch_of.ensures in
    let v = ap size_of c.valid_of.ensures in
    let s = ap instruction_sizes c.instructions_of.ensures in
    let x = c.in_ok-fetch.ensures.added in
    let y = sized _ _ _ (term_view c.valid_of.result.now) c.in_ok-valid.ensures.added in
    let z = c.in_ok-instructions.ensures.added in
    machine_left c.args.terms.now c.put_definitions.new.terms c.put_instructions.new.terms c.args.known.now c.put_definitions.new.known (machine_view c.args.machine.now) (map definition_view c.definitions_of.result.now) (fetch_size (fetch_view c.fetch_of.result.now) + size_of (term_view c.valid_of.result.now) + instruction_sizes (instructions_view c.instructions_of.result.now)) c.definitions_of.ensures c.in_ok-put_definitions.ensures.left
    (onward c.in_ok-fetch.ensures.grown (onward c.in_ok-valid.ensures.put.0 c.in_ok-instructions.ensures.grown))
    (omega (arith, x, y, z))
    (omega (arith, f, v, s))
