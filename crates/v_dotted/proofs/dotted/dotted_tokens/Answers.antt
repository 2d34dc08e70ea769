use Rattle.std.proofs.Common.{◌≡◌, ◌∙◌, ◌∷◌, [], ◌++◌, None, sym, ap}
use Rattle.std.proofs.lemmas.List.{map_push}
use Rattle.verilog_text.specs.Grammar.{dotted_from}
use Rattle.v_token.specs.View.{tokens_of}
use Rattle.v_dotted.specs.Dotted.{owned_of, owned_tokens_of}
use Rattle.v_dotted.proofs.Joined.{joined_over, joined_on}
use Rattle.v_dotted.proofs.dotted.dotted_tokens.Goals as goal

pub loop-rest-init : goal.loop-rest-init
loop-rest-init c =
    ap (λ xs. owned_tokens_of xs ++ dotted_from None (tokens_of c.in_ok-rest.rest.now)) c.new-list.ensures.items ∙ ap (λ ts. dotted_from None (tokens_of ts)) c.in_ok-rest.ensures.same

pub returns-in_default-clause-joined : goal.returns-in_default-clause-joined
returns-in_default-clause-joined c =
    joined_over (owned_tokens_of c.loop-rest.list.items) c.loop-rest.rest.now (dotted_from None (tokens_of c.args.tokens.now)) c.in_default.len_below c.loop-rest.invariant

pub loop-rest-smaller : goal.loop-rest-smaller
loop-rest-smaller c = c.in_ok-next.ensures.shorter

pub loop-rest-preserved : goal.loop-rest-preserved
loop-rest-preserved c =
    let e : owned_tokens_of c.push.new.self.items ≡ owned_tokens_of c.loop-rest.list.items ++ owned_of c.in_ok-next.next ∷ [] =
    ap owned_tokens_of c.in_ok-push.ensures.items ∙ map_push owned_of c.loop-rest.list.items c.in_ok-next.next in
    ap (λ xs. xs ++ dotted_from None (tokens_of c.in_ok-next.after.now)) e
    ∙ joined_on (owned_tokens_of c.loop-rest.list.items) (owned_of c.in_ok-next.next) (tokens_of c.loop-rest.rest.now) (tokens_of c.in_ok-next.after.now)
    (dotted_from None (tokens_of c.args.tokens.now)) c.in_ok-next.ensures.joined c.loop-rest.invariant
