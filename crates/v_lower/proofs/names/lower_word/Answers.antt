use Rattle.std.proofs.Common.{◌<◌, ◌^◌, ◌≡◌, min, subst}
use Rattle.std.specs.Prelude.{IfSome}
use Rattle.wb_values.specs.Value.{memory}
use Rattle.v_value.specs.Scope.{scope_at}
use Rattle.v_operators.proofs.Growing.{Grows-trans, IsOfSort-kept}
use Rattle.v_lower.specs.Table.{images_at}
use Rattle.v_lower.proofs.Named.{memory_without_number}
use Rattle.v_lower.proofs.Loading.{image_memory, word_read}
use Rattle.v_lower.proofs.names.lower_word.Goals as goal

pub named-memory-requires-clause-no_number : goal.named-memory-requires-clause-no_number
named-memory-requires-clause-no_number c = memory_without_number (scope_at c.args.names.scope.now c.args.name.now) c.requires.memory

pub measured-shape-requires : goal.measured-shape-requires
measured-shape-requires c =
    image_memory (scope_at c.args.names.scope.now) (images_at c.args.names.table.now) c.args.terms.now c.args.name.now c.named-memory.result.0 c.requires.known c.requires.memory c.named-memory.ensures

pub loaded-requires-clause-memory : goal.loaded-requires-clause-memory
loaded-requires-clause-memory c =
    IsOfSort-kept c.named-memory.result.0 (memory c.measured-shape.result.address_width c.measured-shape.result.width) (Grows-trans c.in_ok-close.ensures.grows c.in_ok-place.ensures.grows) c.measured-shape.ensures

pub returns-clause-read : goal.returns-clause-read
returns-clause-read c e alone is_sign =
    word_read (scope_at c.args.names.scope.now) (images_at c.args.names.table.now) c.args.terms.now c.near.new.terms c.less_by.new.terms c.loaded.new.terms c.args.name.now c.named-memory.result.0
    c.args.address.id.0 c.in_ok-close.close.0 c.in_ok-place.place.0 c.in_ok-id.id.0 c.measured-shape.result.address_width c.measured-shape.result.width c.args.address.signed c.args.address.width c.least_address.result
    c.requires.known c.requires.memory c.named-memory.ensures c.measured-shape.ensures c.requires.address
    c.in_ok-close.ensures.grows c.in_ok-close.ensures.made c.in_ok-place.ensures.grows c.in_ok-place.ensures.made c.in_ok-id.ensures.grows c.in_ok-id.ensures.made
    (subst (λ o. IfSome o.addresses (λ x. (c.least_address.result ≡ min x.0 x.1) × (x.0 < 2 ^ 32) × (x.1 < 2 ^ 32))) c.object-object.ensures c.least_address.ensures.least) e alone is_sign
