use Rattle.std.proofs.Common.{◌≡◌, ◌∙◌, ◌++◌, [], ◌∷◌, codes, sym, subst}
use Rattle.std.specs.Prelude.{IfOk, string_bytes}
use Rattle.std.proofs.lemmas.List.{append_assoc}
use Rattle.std.proofs.lemmas.Result.{IfOk-weaker}
use Rattle.trace_files.specs.Replay.{replay_line}
use Rattle.trace_replay.specs.declared.replaying.Replayed.{Replayed}
use Rattle.trace_replay.specs.Replayed.{replayed_view}
use Rattle.trace_replay.proofs.text.replay_text.Goals as goal

pub returns-in-Falsifies : goal.returns-in-Falsifies
returns-in-Falsifies c =
    let n = c.args.name.now in
    subst (λ (q : Replayed). IfOk c.line.result (λ t. string_bytes t ≡ replay_line n (replayed_view q))) (sym c.in-Falsifies.is)
    (IfOk-weaker c.line.result (λ t. string_bytes t ≡ n ++ codes " falsifies\n") (λ t. string_bytes t ≡ n ++ codes " falsifies" ++ 10 ∷ [])
    (λ t h. h ∙ sym (append_assoc n (codes " falsifies") (10 ∷ []))) c.line.ensures)

pub returns-in-HypothesisFails : goal.returns-in-HypothesisFails
returns-in-HypothesisFails c =
    subst (λ (q : Replayed). IfOk c.hypothesis_line.result (λ t. string_bytes t ≡ replay_line c.args.name.now (replayed_view q))) (sym c.in-HypothesisFails.is) c.hypothesis_line.ensures

pub returns-in-Holds : goal.returns-in-Holds
returns-in-Holds c =
    let n = c.args.name.now in
    subst (λ (q : Replayed). IfOk c.line-in-Holds.result (λ t. string_bytes t ≡ replay_line n (replayed_view q))) (sym c.in-Holds.is)
    (IfOk-weaker c.line-in-Holds.result (λ t. string_bytes t ≡ n ++ codes " holds\n") (λ t. string_bytes t ≡ n ++ codes " holds" ++ 10 ∷ [])
    (λ t h. h ∙ sym (append_assoc n (codes " holds") (10 ∷ []))) c.line-in-Holds.ensures)
