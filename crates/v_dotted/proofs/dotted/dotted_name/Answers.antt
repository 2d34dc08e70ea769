use Rattle.std.proofs.Common.{◌≡◌, ◌<◌, ◌∙◌, ◌∷◌, [], ◌++◌, Some, None, sym, ap, length, append_assoc, arith}
use Rattle.std.specs.String.{string_bytes}
use Rattle.verilog_text.specs.Grammar.{dotted_from}
use Rattle.v_token.specs.View.{tokens_of}
use Rattle.v_dotted.proofs.Joined.{goes_on, ends, further_smaller}
use Rattle.v_dotted.proofs.dotted.dotted_name.Goals as goal

pub loop-text-init : goal.loop-text-init
loop-text-init c =
    let same : length (tokens_of c.in_ok-rest.rest.now) ≡ length (tokens_of c.args.tokens.now) = ap (λ ts. length (tokens_of ts)) c.in_ok-rest.ensures.same in (
      ap (λ n. dotted_from (Some n) (tokens_of c.args.tokens.now)) (sym c.in_ok-text.ensures.ok)
          ∙ ap (λ ts. dotted_from (Some (string_bytes c.in_ok-text.text)) (tokens_of ts)) (sym c.in_ok-rest.ensures.same),
      omega (arith, same),
    )

pub returns-in-None-clause-joined : goal.returns-in-None-clause-joined
returns-in-None-clause-joined c = c.loop-text.invariant.0 ∙ ends (string_bytes c.loop-text.text) (tokens_of c.loop-text.rest.now) (sym c.in-None.ensures)

pub returns-in-None-clause-shorter : goal.returns-in-None-clause-shorter
returns-in-None-clause-shorter c = c.loop-text.invariant.1

pub loop-text-smaller : goal.loop-text-smaller
loop-text-smaller c = further_smaller (tokens_of c.loop-text.rest.now) c.in-Some.name.now (tokens_of c.in-Some.after.now) (sym c.in-Some.ensures)

pub loop-text-preserved : goal.loop-text-preserved
loop-text-preserved c =
    let e : string_bytes c.push_str-in-Some.new.self ≡ string_bytes c.loop-text.text ++ 46 ∷ c.in-Some.name.now =
    c.in_ok-push_str-in-Some-2.ensures.bytes ∙ ap (λ x. x ++ c.in-Some.name.now) c.in_ok-push_str-in-Some.ensures.bytes
    ∙ append_assoc (string_bytes c.loop-text.text) (46 ∷ []) c.in-Some.name.now in
    let smaller : length (tokens_of c.in-Some.after.now) < length (tokens_of c.loop-text.rest.now) =
    further_smaller (tokens_of c.loop-text.rest.now) c.in-Some.name.now (tokens_of c.in-Some.after.now) (sym c.in-Some.ensures) in (
      c.loop-text.invariant.0 ∙ goes_on (string_bytes c.loop-text.text) (tokens_of c.loop-text.rest.now) c.in-Some.name.now (tokens_of c.in-Some.after.now) (sym c.in-Some.ensures)
          ∙ ap (λ n. dotted_from (Some n) (tokens_of c.in-Some.after.now)) (sym e),
      omega (arith, smaller, c.loop-text.invariant.1),
    )
