-- What is read of the tokens of a text, and that it is one expression.
use Rattle.std.proofs.Common.{◌≡◌, List, [], ◌∷◌, Ok, Err, sym, ap, ◌∙◌, subst}
use Rattle.verilog_trees.specs.Syntax.{Expression}
use Rattle.verilog_text.specs.Token.{Token}
use Rattle.verilog_text.specs.Text.{tokens_in, Refusal}
use Rattle.verilog_text.specs.Grammar.{IsWhole, with_dotted_names}
use Rattle.std.specs.Prelude.{Result}
use Rattle.map_files.specs.Written.{Text}
use Rattle.map_rules.specs.Expressions.{ReadsAs}
use Rattle.map_expressions.specs.Reading.{AreTokensOf}
use Rattle.v_expr.proofs.Again.{one_expression}

abbrev the_tokens : Result (List Token) Refusal → List Token
the_tokens (Ok ts) = ts
the_tokens (Err r) = []

-- the tokens of a text are one list
same_tokens : (t : Text) (us vs : List Token) → tokens_in (t ∷ []) ≡ Ok us → tokens_in (t ∷ []) ≡ Ok vs → us ≡ vs
same_tokens t us vs h k = ap the_tokens (sym h ∙ k)

pub spelled_reads : (t : Text) (joined : List Token) (e : Expression) → AreTokensOf (t ∷ []) joined → IsWhole e joined [] → ReadsAs t e
spelled_reads t joined e a s =
    record { tokens = a.tokens; are_tokens = a.are_tokens; is_spelled = subst (λ ts. IsWhole e ts []) a.are_joined s }

pub read_is_spelled : (t : Text) (joined : List Token) (e : Expression) → AreTokensOf (t ∷ []) joined → ReadsAs t e → IsWhole e joined []
read_is_spelled t joined e a r =
    subst (λ ts. IsWhole e ts []) (ap with_dotted_names (same_tokens t r.tokens a.tokens r.are_tokens a.are_tokens) ∙ sym a.are_joined) r.is_spelled

-- a text is read as one expression at most
pub one_reading : (t : Text) (e f : Expression) → ReadsAs t e → ReadsAs t f → e ≡ f
one_reading t e f r q =
    let s : IsWhole f (with_dotted_names r.tokens) [] =
    subst (λ ts. IsWhole f (with_dotted_names ts) []) (same_tokens t q.tokens r.tokens q.are_tokens r.are_tokens) q.is_spelled in
    (one_expression e f (with_dotted_names r.tokens) [] [] r.is_spelled tt s tt).0

-- a text without tokens is read as nothing
pub no_tokens : (t : Text) → ((ts : List Token) → ¬ (tokens_in (t ∷ []) ≡ Ok ts)) → (e : Expression) → ¬ ReadsAs t e
no_tokens t h e r = h r.tokens r.are_tokens
