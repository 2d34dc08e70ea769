-- What the reader chooses by single tokens.
use Rattle.std.proofs.Common.{◌≡◌, List, ◌∷◌, Some, None, refl}
use Rattle.verilog_text.specs.Token.{right_parenthesis, left_parenthesis, mark, Token}
use Rattle.verilog_trees.specs.Syntax.{Expression}
use Rattle.v_expr.specs.Repeat.{◌>>=◌, Read}
use Rattle.v_expr.specs.Reading.{Reader, inside_at, alone_at}
use Rattle.v_expr.specs.Starting.{closed_at}

as_read : (r : Read Token Expression) → r ≡ (r >>= λ x. Some (x.0, x.1))
as_read None = refl
as_read (Some x) = refl

-- brackets leave no trace
inside-unchanged : (whole_at : Reader) (ts : List Token) → inside_at whole_at ts ≡ (closed_at right_parenthesis whole_at ts >>= λ x. Some (x.0, x.1))
unfolding inside_at closed_at
inside-unchanged whole_at ts = as_read (closed_at right_parenthesis whole_at ts)

pub alone-parenthesis : (whole_at : Reader) (ts : List Token) → alone_at whole_at (mark left_parenthesis ∷ ts) ≡ (closed_at right_parenthesis whole_at ts >>= λ x. Some (x.0, x.1))
unfolding alone_at
alone-parenthesis whole_at ts = inside-unchanged whole_at ts
