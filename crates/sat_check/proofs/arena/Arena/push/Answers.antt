use Rattle.std.proofs.Common.{◌++◌, ◌∙◌, [], ◌∷◌, ℕ, List, ap, map, length, Result, Ok, Err}
use Rattle.std.specs.Prelude.{OnErr}
use Rattle.sat_check.specs.declared.arena.Span.{Span}
use Rattle.sat_check.proofs.Parts.{part, parts-append, parts-push}
use Rattle.sat_check.proofs.arena.Arena.push.Goals as goal

on_err : {T E : Type 0} (r : Result T E) (P : Type 0) → P → OnErr r P
on_err (Ok x) P p = tt
on_err (Err e) P p = p

pub returns-in_err-push-clause-err : goal.returns-in_err-push-clause-err
returns-in_err-push-clause-err c =
    on_err c.from_residual-in_err-push.result _
    (ap (λ (n : List ℕ). map (part n) c.push.new.self.items) c.in_ok-extend_from_slice.ensures.items
    ∙ ap (λ (s : List Span). map (part (c.self.inside.numbers.items ++ c.args.list.now)) s) c.in_err-push.ensures.items
    ∙ parts-append c.self.inside.numbers.items c.args.list.now c.self.inside.spans.items c.self.invariant
    ∙ c.self.view_is)

pub returns-clause-ok : goal.returns-clause-ok
returns-clause-ok c =
    let numbers = c.self.inside.numbers.items in
    let list = c.args.list.now in
    let spans = c.self.inside.spans.items in
    let span : Span = record { start = c.len-start.result; end = c.len-end.result } in
    ap (λ (n : List ℕ). map (part n) c.push.new.self.items) c.in_ok-extend_from_slice.ensures.items
    ∙ ap (λ (s : List Span). map (part (numbers ++ list)) s) c.in_ok-push.ensures.items
    ∙ parts-push numbers list spans span c.self.invariant (c.len-start.ensures ∙ c.self.inside.numbers.ok.0)
    (c.len-end.ensures ∙ c.extend_from_slice.new.self.ok.0 ∙ ap (λ (n : List ℕ). length n) c.in_ok-extend_from_slice.ensures.items)
    ∙ ap (λ (v : List (List ℕ)). v ++ (list ∷ [])) c.self.view_is
