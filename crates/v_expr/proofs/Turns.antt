-- The turns of the reader's loops.
use Rattle.std.proofs.Common.{◌≡◌, List, [], ◌∷◌, ◌++◌, Option, Some, None, refl, sym, ap, ◌∙◌}
use Rattle.verilog_text.specs.Token.{Token}
use Rattle.verilog_trees.specs.Syntax.{Expression}
use Rattle.v_syntax.specs.declared.tree.PrefixOperator.{PrefixOperator}
use Rattle.v_syntax.specs.Tree.{prefixed, all_prefixed}
use Rattle.v_expr.specs.Repeat.{◌>>=◌, Read}
use Rattle.v_expr.specs.Reading.{Reader, alone_at, prefix_at, prefix_from, prefixed_at}
use Rattle.v_expr.specs.View.{after_prefixes}
use Rattle.v_expr.proofs.Repeat.{some, some_is}

abbrev with_rest : List Token → (Expression → Expression) → Read Token (Expression → Expression)
with_rest ts f = Some (f, ts)

abbrev applied : (Expression → Expression) → Expression × List Token → Read Token Expression
applied f e = Some (f e.0, e.1)

no_prefix_by : (whole_at : Reader) (t : Token) (ts : List Token) (o : Option (Expression → Expression)) → prefix_from t ≡ o → (o >>= with_rest ts) ≡ None → prefixed_at whole_at (t ∷ ts) ≡ alone_at whole_at (t ∷ ts)
unfolding prefixed_at
no_prefix_by whole_at t ts (Some f) e h = absurd cc
no_prefix_by whole_at t ts None e h = rw e refl

nothing_alone : (whole_at : Reader) → prefixed_at whole_at [] ≡ alone_at whole_at []
unfolding prefixed_at alone_at
nothing_alone whole_at = refl

-- no operator stands in front
pub no_prefix : (whole_at : Reader) (ts : List Token) → prefix_at ts ≡ None → prefixed_at whole_at ts ≡ alone_at whole_at ts
no_prefix whole_at [] h = nothing_alone whole_at
no_prefix whole_at (t ∷ ts) h = no_prefix_by whole_at t ts (prefix_from t) refl h

one_prefix_by : (whole_at : Reader) (t : Token) (ts : List Token) (o : Option (Expression → Expression)) (f : Expression → Expression) (rest : List Token)
    → prefix_from t ≡ o → (o >>= with_rest ts) ≡ Some (f, rest) → prefixed_at whole_at (t ∷ ts) ≡ (prefixed_at whole_at rest >>= applied f)
unfolding prefixed_at
one_prefix_by whole_at t ts (Some g) f rest e h =
    let same : (g, ts) ≡ (f, rest) = some_is (g, ts) (f, rest) h in
    let now : prefixed_at whole_at (t ∷ ts) ≡ (prefixed_at whole_at ts >>= applied g) = rw e refl in
    now ∙ ap (λ (p : (Expression → Expression) × List Token). prefixed_at whole_at p.1 >>= applied p.0) same
one_prefix_by whole_at t ts None f rest e h = absurd cc

-- an operator stands in front
pub one_prefix : (whole_at : Reader) (ts : List Token) (o : PrefixOperator) (rest : List Token) → prefix_at ts ≡ Some (prefixed o, rest) → prefixed_at whole_at ts ≡ after_prefixes (o ∷ []) (prefixed_at whole_at rest)
one_prefix whole_at [] o rest h = absurd cc
one_prefix whole_at (t ∷ ts) o rest h = one_prefix_by whole_at t ts (prefix_from t) (prefixed o) rest refl h

all_prefixed-push : (os : List PrefixOperator) (o : PrefixOperator) (e : Expression) → all_prefixed (os ++ o ∷ []) e ≡ all_prefixed os (prefixed o e)
all_prefixed-push [] o e = refl
all_prefixed-push (p ∷ os) o e = ap (prefixed p) (all_prefixed-push os o e)

-- one operator more
pub after_prefixes-push : (os : List PrefixOperator) (o : PrefixOperator) (r : Read Token Expression) → after_prefixes os (after_prefixes (o ∷ []) r) ≡ after_prefixes (os ++ o ∷ []) r
after_prefixes-push os o None = refl
after_prefixes-push os o (Some e) = ap (λ (a : Expression). some (a, e.1)) (sym (all_prefixed-push os o e.0))
