use Rattle.std.proofs.Common.{map}
use Rattle.std.proofs.lemmas.Result.{err_from_is_err_and}
use Rattle.v_token.specs.View.{tokens_of}
use Rattle.v_parse.specs.Lists.{before_name}
use Rattle.v_body.specs.Words.{name_at}
use Rattle.v_parse.specs.Reading.{names_at}
use Rattle.v_parse.proofs.Lists.{keeps, list_begins, list_is_none, list_goes_on, list_shrinks, list_ends, list_fails, name_read}
use Rattle.verilog_text.specs.Grammar.{IsName}
use Rattle.v_parse.proofs.Spelled.{before_name_advances}
use Rattle.v_parse.proofs.declaration.names.Goals as goal

pub returns-in_err-first : goal.returns-in_err-first
unfolding names_at
returns-in_err-first c =
    let p = err_from_is_err_and c.from_residual.result c.from_residual.ensures.1 in
    rw (p.1, p.2) (list_is_none before_name name_at c.in_err-first.field-0.0 (tokens_of c.args.tokens.now) c.in_err-first.ensures)

pub loop-names-init : goal.loop-names-init
unfolding names_at
loop-names-init c =
    list_begins (λ n. n.now) before_name name_at (tokens_of c.args.tokens.now) c.in_ok-first.first (tokens_of c.in_ok-first.rest.now) c.in_ok-names.names.items c.in_ok-names.ensures c.in_ok-first.ensures

pub returns-in-None : goal.returns-in-None
returns-in-None c = list_ends before_name name_at (map (λ n. n.now) c.loop-names.names.items) (tokens_of c.loop-names.rest.now) (names_at (tokens_of c.args.tokens.now)) c.in-None.ensures c.loop-names.invariant

pub returns-in_err-next-in-Some : goal.returns-in_err-next-in-Some
returns-in_err-next-in-Some c =
    let p = err_from_is_err_and c.from_residual-in_err-next-in-Some.result c.from_residual-in_err-next-in-Some.ensures.1 in
    rw (p.1, p.2) (list_fails before_name name_at c.in_err-next-in-Some.field-0.0 (map (λ n. n.now) c.loop-names.names.items) (tokens_of c.loop-names.rest.now) (tokens_of c.in-Some.more.now) (names_at (tokens_of c.args.tokens.now)) c.in-Some.ensures c.in_err-next-in-Some.ensures c.loop-names.invariant)

pub loop-names-smaller : goal.loop-names-smaller
loop-names-smaller c =
    list_shrinks before_name name_at before_name_advances (keeps IsName name_read) (tokens_of c.loop-names.rest.now) (tokens_of c.in-Some.more.now) _ (tokens_of c.in_ok-next-in-Some.after.now) c.in-Some.ensures c.in_ok-next-in-Some.ensures

pub loop-names-preserved : goal.loop-names-preserved
loop-names-preserved c =
    list_goes_on (λ n. n.now) before_name name_at before_name_advances (keeps IsName name_read) c.loop-names.names.items c.push.new.self.items (tokens_of c.loop-names.rest.now) (tokens_of c.in-Some.more.now) c.in_ok-next-in-Some.next (tokens_of c.in_ok-next-in-Some.after.now)
    (names_at (tokens_of c.args.tokens.now)) c.in_ok-push-in-Some.ensures.items c.in-Some.ensures c.in_ok-next-in-Some.ensures c.loop-names.invariant
