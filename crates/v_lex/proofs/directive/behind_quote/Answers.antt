use Rattle.std.proofs.Common.{◌≡◌, ◌∷◌, ℕ, List, Option, true, false, length, drop, sym, ap, subst}
use Rattle.verilog_text.specs.Lexical.{or_zero, string_length}
use Rattle.v_lex.specs.Quotes.{are_alone}
use Rattle.v_lex.proofs.Texts.{some_rest, no_rest}
use Rattle.v_lex.proofs.Quotes.{alone, skipped, alone_on_line}
use Rattle.v_lex.proofs.directive.behind_quote.Goals as goal

pub returns-then-alone-more-clause-rest : goal.returns-then-alone-more-clause-rest
returns-then-alone-more-clause-rest c =
    sym (ap (λ (o : Option ℕ). drop (or_zero o) c.args.more.now) (alone c.args.alone c.args.more.now c.requires c.if-alone-more.true))

pub returns-then-alone-more-clause-alone : goal.returns-then-alone-more-clause-alone
returns-then-alone-more-clause-alone c = skipped c.args.alone 1 (34 ∷ c.args.more.now) c.requires

pub returns-in-Some-clause-alone : goal.returns-in-Some-clause-alone
returns-in-Some-clause-alone c =
    let n = some_rest c.args.more.now c.in-Some.rest.now (string_length false c.args.more.now) c.in-Some.ensures in
    subst (λ (r : List ℕ). are_alone c.args.alone r ≡ true) (sym n.2)
    (skipped c.args.alone n.0 c.args.more.now (skipped c.args.alone 1 (34 ∷ c.args.more.now) c.requires))

pub returns-in-None-clause-alone : goal.returns-in-None-clause-alone
returns-in-None-clause-alone c =
    subst (λ (r : List ℕ). are_alone (length r) c.args.more.now ≡ true) (sym c.split_run.ensures.rest)
    (alone_on_line false c.args.more.now (no_rest c.args.more.now (string_length false c.args.more.now) c.in-None.ensures))
