-- Tokens spell at most one target, assignment and statement, and it ends at one place.
use Rattle.std.proofs.Common.{◌≡◌, List, Some, sym, ap, ◌∙◌}
use Rattle.verilog_text.specs.Token.{Token}
use Rattle.verilog_trees.specs.Syntax.{Statement}
use Rattle.verilog_text.specs.Grammar.{IsStatement}
use Rattle.v_expr.specs.Repeat.{Read}
use Rattle.v_expr.proofs.Repeat.{some_is}
use Rattle.v_body.specs.Statements.{IsNearest, statement_at}
use Rattle.v_body.proofs.StatementsAgain.{statement_again}

one_reading : {A : Type 0} (r : Read Token A) (x y : A) (rest other : List Token) → r ≡ Some (x, rest) → r ≡ Some (y, other) → (x ≡ y) × (rest ≡ other)
one_reading {A = A} r x y rest other e f =
    let same : (x, rest) ≡ (y, other) = some_is (x, rest) (y, other) (sym e ∙ f) in
    (ap (λ (z : A × List Token). z.0) same, ap (λ (z : A × List Token). z.1) same)

pub one_statement : (s t : Statement) (text rest other : List Token) → IsStatement s text rest → IsNearest s rest → IsStatement t text other → IsNearest t other → (s ≡ t) × (rest ≡ other)
one_statement s t text rest other d near e nearest = one_reading (statement_at text) s t rest other (statement_again s text rest d near) (statement_again t text other e nearest)
