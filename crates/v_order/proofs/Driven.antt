-- The bits that are driven, driver by driver.
use Rattle.std.proofs.Common.{◌≡◌, ◌∙◌, ◌+◌, ℕ, ap, sym, refl, Bool, true, false, List, [], ◌∷◌, drop}
use Rattle.std.specs.Prelude.{◌||◌, ◌&&◌}
use Rattle.verilog_trees.specs.Syntax.{Statement}
use Rattle.verilog_meaning.specs.Expression.{Scope}
use Rattle.verilog_meaning.specs.Register.{is_bit_of, may_assign, one_may_assign}
use Rattle.verilog_designs.specs.Reads.{BitSet, no_bits, or_in}
use Rattle.v_flow.specs.declared.span.Span.{Span}
use Rattle.v_flow.specs.Spans.{bits_in, existing}
use Rattle.v_flow.proofs.Sets.{or-none, turn, end}
use Rattle.v_order.specs.declared.driver.Driver.{Driver}
use Rattle.v_order.specs.Lists.{statement_in, statements_in}

over-or : (t p q : Bool) → (t && (p || q)) ≡ ((t && p) || (t && q))
over-or true p q = refl
over-or false p q = refl

abbrev pub driven-set : Scope → List Statement → BitSet
driven-set s xs = existing s (one_may_assign s xs)

driven-more : (s : Scope) (x : Statement) (xs : List Statement) → driven-set s (x ∷ xs) ≡ or_in (existing s (may_assign s x)) (driven-set s xs)
driven-more s x xs = λ i n k b. over-or (is_bit_of (s n) k b) (may_assign s x n k b) (one_may_assign s xs n k b) i

none-driven : (s : Scope) → driven-set s [] ≡ no_bits
none-driven s = λ i n k b. and-false (is_bit_of (s n) k b) i
  where
    and-false : (t : Bool) → (t && false) ≡ false
    and-false true = refl
    and-false false = refl

pub driven-turn : (s : Scope) (ds : List Driver) (i : ℕ) (r : Driver) (whole a b : BitSet) → drop i ds ≡ r ∷ drop (i + 1) ds
    → whole ≡ or_in a (driven-set s (statements_in (drop i ds))) → b ≡ or_in a (existing s (may_assign s (statement_in r)))
    → whole ≡ or_in b (driven-set s (statements_in (drop (i + 1) ds)))
driven-turn s ds i r whole a b e f h =
    let x = statement_in r in
    let more = statements_in (drop (i + 1) ds) in
    turn whole a b (existing s (may_assign s x)) (driven-set s more)
    (f ∙ ap (or_in a) (ap (λ (xs : List Driver). driven-set s (statements_in xs)) e ∙ driven-more s x more)) h

pub driven-end : (s : Scope) (rest : List Statement) (whole a : BitSet) → rest ≡ [] → whole ≡ or_in a (driven-set s rest) → a ≡ whole
driven-end s rest whole a e f = end whole a (driven-set s rest) f (ap (driven-set s) e ∙ none-driven s)

pub driven-begun : (s : Scope) (xs : List Statement) (start : List Span) → start ≡ [] → driven-set s xs ≡ or_in (bits_in start) (driven-set s xs)
driven-begun s xs start e = ap (λ zs. or_in (bits_in zs) (driven-set s xs)) (sym e)
