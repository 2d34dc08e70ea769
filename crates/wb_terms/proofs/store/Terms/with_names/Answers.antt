use Rattle.std.proofs.Common.{◌≡◌, ◌∙◌, ap, length, map}
use Rattle.std.specs.String.{string_bytes}
use Rattle.std.proofs.lemmas.List.{length-map}
use Rattle.wb_terms.specs.Entries.{name_of}
use Rattle.wb_terms.specs.Renamed.{renamed}
use Rattle.wb_terms.proofs.Renamed.{IsWellSorted-renamed, sorts-renamed, values-renamed}
use Rattle.wb_terms.proofs.store.Terms.with_names.Goals as goal

pub invariant_of-result : goal.invariant_of-result
invariant_of-result c =
    let xs = map string_bytes c.args.names.items in
    let count : length xs ≡ length c.args.self.names = length-map c.args.names.items string_bytes ∙ c.requires.count in
    IsWellSorted-renamed c.self.inside.names.items c.in_ok-news.news.items c.self.inside.terms.items c.args.self xs c.self.view_is c.self.invariant count c.requires.distinct
    (c.in_ok-news.ensures ∙ ap (λ ds. renamed xs (map name_of ds)) c.deref.ensures.value)

pub returns-clause-sorts : goal.returns-clause-sorts
returns-clause-sorts c =
    let xs = map string_bytes c.args.names.items in
    let count : length xs ≡ length c.args.self.names = length-map c.args.names.items string_bytes ∙ c.requires.count in
    sorts-renamed c.self.inside.names.items c.in_ok-news.news.items c.self.inside.terms.items c.args.self xs c.self.view_is c.self.invariant count
    (c.in_ok-news.ensures ∙ ap (λ ds. renamed xs (map name_of ds)) c.deref.ensures.value)

pub returns-clause-values : goal.returns-clause-values
returns-clause-values c =
    let xs = map string_bytes c.args.names.items in
    let count : length xs ≡ length c.args.self.names = length-map c.args.names.items string_bytes ∙ c.requires.count in
    values-renamed c.self.inside.names.items c.in_ok-news.news.items c.self.inside.terms.items c.args.self xs c.self.view_is c.self.invariant count c.requires.distinct
    (c.in_ok-news.ensures ∙ ap (λ ds. renamed xs (map name_of ds)) c.deref.ensures.value)
