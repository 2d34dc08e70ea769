use Rattle.std.proofs.Common.{◌≡◌, ◌∙◌, ◌++◌, ◌∷◌, ◌<◌, [], map, length, get_or, drop, sym, ap, arith, length-append}
use Rattle.std.specs.String.{string_bytes}
use Rattle.wb_terms.specs.declared.store.Declared.{Declared}
use Rattle.wb_terms.specs.Entries.{name_of}
use Rattle.wb_terms.specs.Renamed.{renamed}
use Rattle.wb_terms.proofs.Renamed.{renamed-push}
use Rattle.wb_terms.proofs.store.Declared.renamed.Goals as goal

pub loop-name-preserved : goal.loop-name-preserved
loop-name-preserved c =
    let olds = c.args.olds.now in
    let news = c.loop-name.news.items in
    let old = c.index-olds-len.result in
    let new : Declared = record { name = c.in-Some.name; sort = (get_or olds c.len.result old).sort } in
    let steps = c.in-Some.ensures.steps.0 in
    let below : length news < length olds = omega (arith, ap length steps, c.loop-name.invariant.count) in
    let many : c.len.result ≡ length news = omega (arith, c.len.ensures, c.loop-name.news.ok.0) in
    let place : old ≡ get_or olds (length news) old = c.index-olds-len.is ∙ ap (λ k. get_or olds k old) many in
    record {
      count = rw c.in_ok-push.ensures.items (omega (arith, length-append news (new ∷ []), ap length steps, c.loop-name.invariant.count));
      table = rw c.in_ok-push.ensures.items
          (renamed-push olds news old new (map string_bytes c.next.new.self.rest.items) below place (ap (λ (d : Declared). d.sort) (sym c.index-olds-len.is))
          ∙ ap (λ names. map name_of news ++ renamed (map string_bytes names) (drop (length news) (map name_of olds))) (sym steps)
          ∙ c.loop-name.invariant.table);
    }
