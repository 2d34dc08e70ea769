use Rattle.std.proofs.Common.{◌≤◌, arith}
use Rattle.wb_values.specs.Value.{memory}
use Rattle.v_operators.proofs.Growing.{IsOfSort-kept}
use Rattle.v_operators.proofs.Forms.{some}
use Rattle.v_bits.proofs.Stores.{some_address, few_addresses}
use Rattle.v_write.proofs.Replaced.{load_sort_of, read_made}
use Rattle.v_write.proofs.changing.word_read.Goals as goal

pub overflow_sub-shape : goal.overflow_sub-shape
overflow_sub-shape c = some_address c.args.terms.now c.args.old.0 c.args.shape.address_width c.args.shape.width c.requires.old

pub part-requires-clause-within : goal.part-requires-clause-within
part-requires-clause-within c =
    let l : c.args.shape.address_width ≤ 16 = few_addresses c.args.terms.now c.args.old.0 c.args.shape.address_width c.args.shape.width c.requires.old in
    omega (arith, l)

pub put-requires-clause-sorted : goal.put-requires-clause-sorted
put-requires-clause-sorted c =
    some _ _
    (load_sort_of c.part.new.terms c.args.old.0 c.in_ok-address.address.0 c.args.shape.address_width c.args.shape.width
    (IsOfSort-kept c.args.old.0 (memory c.args.shape.address_width c.args.shape.width) c.in_ok-address.ensures.grows c.requires.old) c.in_ok-address.ensures.made.of_sort)

pub returns-clause-read : goal.returns-clause-read
returns-clause-read c =
    read_made c.args.terms.now c.part.new.terms c.put.new.terms c.args.old.0 c.args.place.0 c.in_ok-address.address.0 c.in_ok-id.id.0 c.args.shape.address_width c.args.shape.width
    c.requires.old c.requires.place c.in_ok-address.ensures.grows c.in_ok-address.ensures.made c.in_ok-id.ensures.grows c.in_ok-id.ensures.below c.in_ok-id.ensures.tree
