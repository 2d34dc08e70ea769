use Rattle.std.proofs.Common.{◌++◌, ◌∙◌, [], ◌∷◌, ℕ, List, ap, map, length}
use Rattle.sat_base.specs.declared.literals.Lit.{Lit}
use Rattle.sat_base.specs.Codes.{code_of}
use Rattle.sat_solve.specs.declared.arena.Span.{Span}
use Rattle.sat_solve.specs.Spans.{lits_in}
use Rattle.sat_solve.proofs.Parts.{parts-push}
use Rattle.sat_solve.proofs.arena.Arena.push.Goals as goal

pub returns : goal.returns
returns c =
    let codes = c.self.inside.codes.items in
    let lits = c.args.lits.now in
    let spans = c.self.inside.spans.items in
    let span : Span = record { start = c.len-start.result; end = c.len-end.result } in
    ap (λ (cs : List ℕ). map (lits_in cs) c.push.new.self.items) c.in_ok-push_codes.ensures.codes
    ∙ ap (λ (s : List Span). map (lits_in (codes ++ map code_of lits)) s) c.in_ok-push.ensures.items
    ∙ parts-push codes lits spans span c.self.invariant (c.len-start.ensures ∙ c.self.inside.codes.ok.0)
    (c.len-end.ensures ∙ c.push_codes.new.codes.ok.0 ∙ ap (λ (cs : List ℕ). length cs) c.in_ok-push_codes.ensures.codes)
    ∙ ap (λ (ls : List (List Lit)). ls ++ lits ∷ []) c.self.view_is
