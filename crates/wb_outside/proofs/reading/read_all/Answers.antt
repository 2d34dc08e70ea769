use Rattle.std.proofs.Common.{arith, ◌≡◌, [], ◌∷◌, ◌++◌, ◌≤◌, ◌+◌, length, map, string_bytes, OnErr, Ok, Err, ◌∙◌}
use Rattle.std.proofs.lemmas.List.{map-append}
use Rattle.std.proofs.lemmas.List.Elements.{All-push}
use Rattle.std.proofs.lemmas.Grind.{common_steps}
use Rattle.wb_outside.specs.Outside.{GrewByPrefix}
use Rattle.wb_outside.proofs.Told.{take_named, appended_more, grew_at_read, starts_more}
use Rattle.wb_outside.proofs.reading.read_all.Goals as goal

pub returns-in_err-bytes-clause-err_asked : goal.returns-in_err-bytes-clause-err_asked
returns-in_err-bytes-clause-err_asked g c =
    let next = take_named c.args.names.now c.loop-name.name-index c.name-item.result c.as_str.result.now
    (omega arith) c.name-item.is c.as_str.ensures.value in
    let grew = grew_at_read c.read.result _ _ _ _ _ _ c.loop-name.invariant.asked next
    c.read.ensures.ok_asked c.read.ensures.failed_asked c.read.ensures.no_memory_asked in
    elim c.from_residual.result as (λ answer. OnErr answer (GrewByPrefix (g.S.Shelf.asked c.args.shelf.now)
    (g.S.Shelf.asked c.read.new.self) (map string_bytes c.args.names.now)))
    [ Ok _ ↦ tt | Err _ ↦ grew ]

pub returns-then-is_err-clause-err_asked : goal.returns-then-is_err-clause-err_asked
returns-then-is_err-clause-err_asked g c =
    let next = take_named c.args.names.now c.loop-name.name-index c.name-item.result c.as_str.result.now
    (omega arith) c.name-item.is c.as_str.ensures.value in
    grew_at_read c.read.result _ _ _ _ _ _ c.loop-name.invariant.asked next
    c.read.ensures.ok_asked c.read.ensures.failed_asked c.read.ensures.no_memory_asked

pub loop-name-preserved : goal.loop-name-preserved
loop-name-preserved g c =
    let next = take_named c.args.names.now c.loop-name.name-index c.name-item.result c.as_str.result.now
    (omega arith) c.name-item.is c.as_str.ensures.value in
    let one_more : c.push.new.self.items ≡ c.loop-name.contents.items ++ c.in_ok-bytes.bytes ∷ []
    = grind (arith, common_steps) in
    let pushed : map (λ bytes. bytes.items) c.push.new.self.items
    ≡ map (λ bytes. bytes.items) c.loop-name.contents.items ++ c.in_ok-bytes.bytes.items ∷ []
    = grind (arith, common_steps, map-append) in
    record {
      keeps = c.in_ok-bytes.ensures.keeps ∙ c.loop-name.invariant.keeps;
      asked = appended_more _ _ _ _ _ _ c.loop-name.invariant.asked next c.in_ok-bytes.ensures.ok_asked;
      counted = grind (arith, common_steps);
      stays = c.in_ok-bytes.ensures.ok_stays ∙ c.loop-name.invariant.stays;
      last = c.in_ok-bytes.ensures.ok_last ∙ c.loop-name.invariant.last;
      bounded = rw one_more (All-push (λ bytes. length bytes.items ≤ c.args.limit + 1) c.loop-name.contents.items c.in_ok-bytes.bytes c.loop-name.invariant.bounded c.in_ok-bytes.ensures.bounded);
      starts = starts_more _ _ _ _ _ _ _ _ _ c.loop-name.invariant.keeps next pushed c.loop-name.invariant.starts
          c.in_ok-bytes.ensures.first_bytes;
    }
