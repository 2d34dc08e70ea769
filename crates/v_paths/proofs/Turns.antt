-- Turns of the walk's loops.
use Rattle.std.proofs.Common.{◌≡◌, ◌∙◌, ◌+◌, ℕ, ap, sym, Bool, true, false, List, [], ◌∷◌, drop}
use Rattle.verilog_trees.specs.Syntax as pure
use Rattle.verilog_meaning.specs.Expression.{Scope}
use Rattle.verilog_designs.specs.Reads.{BitSet, or_in, and_in, but_not_in}
use Rattle.v_syntax.specs.declared.tree.Statement.{Statement}
use Rattle.v_syntax.specs.Tree.{statement_of}
use Rattle.v_flow.specs.declared.span.Span.{Span}
use Rattle.v_flow.specs.Spans.{bits_in}
use Rattle.v_flow.specs.Flow.{assigned_at}
use Rattle.v_masks.specs.Masks.{spread}
use Rattle.v_paths.specs.Premises.{HasNoMemory}
use Rattle.v_paths.specs.Walks.{sure_at, outside_at, all_outside, met}
use Rattle.v_paths.proofs.Within.{IsWithin, outside-within}
use Rattle.v_paths.proofs.Plain.{IsPlain, plain-is, plain-sure, spread-left-out, spread-met}
use Rattle.v_paths.proofs.Walked.{nothing-done, block-turn}

-- before the first statement
pub outside-start : (o a : BitSet) (xs : List Span) → xs ≡ [] → or_in o a ≡ or_in o (but_not_in a (bits_in xs))
outside-start o a xs e = ap (or_in o) (sym (nothing-done a) ∙ ap (λ ys. but_not_in a (bits_in ys)) (sym e))

outside_at-within : (s : Scope) (x : pure.Statement) → IsWithin s (outside_at s x)
unfolding outside_at
outside_at-within s x = outside-within s x

-- A statement of a block: t is what all read from outside, o what was read so far, done what is assigned so far, d its table.
pub read-turn : (s : Scope) (x : Statement) (xs : List Statement) (i : ℕ) (t o p done more read d : BitSet)
    → drop i xs ≡ x ∷ drop (i + 1) xs
    → t ≡ or_in o (but_not_in (all_outside s (drop i xs)) done) → d ≡ spread done → IsPlain s done
    → read ≡ outside_at s (statement_of x) → p ≡ or_in o (but_not_in read d) → more ≡ or_in done (sure_at s (statement_of x))
    → t ≡ or_in p (but_not_in (all_outside s (drop (i + 1) xs)) more)
read-turn s x xs i t o p done more read d rest e table plain is f g =
    let here = outside_at s (statement_of x) in
    let later = all_outside s (drop (i + 1) xs) in
    block-turn t o p here later done more (sure_at s (statement_of x)) (spread done) (spread-left-out s here done (outside_at-within s (statement_of x)) plain)
    (e ∙ ap (λ ys. or_in o (but_not_in (all_outside s ys) done)) rest)
    (f ∙ ap (λ (z : BitSet). or_in o (but_not_in z d)) is ∙ ap (λ (z : BitSet). or_in o (but_not_in here z)) table) g

pub done-turn : (old new done more a : BitSet) → old ≡ spread done → new ≡ or_in old (spread a) → more ≡ or_in done a → new ≡ spread more
done-turn old new done more a e f g = f ∙ ap (λ (z : BitSet). or_in z (spread a)) e ∙ ap spread (sym g)

-- An arm or an item: what it assigns is plain, so its word is 0.
pub met-turn : (s : Scope) (first : Bool) (x : pure.Statement) (assigned seen before new : BitSet) → HasNoMemory s (assigned_at s x) → assigned ≡ sure_at s x
    → new ≡ met first assigned (spread seen) → seen ≡ before → met first (sure_at s x) before ≡ new
met-turn s true x assigned seen before new free is e h = sym is ∙ sym e
met-turn s false x assigned seen before new free is e h =
    ap (λ (z : BitSet). and_in z before) (sym is) ∙ ap (and_in assigned) (sym h)
    ∙ sym (spread-met s assigned seen (plain-is s assigned (sure_at s x) is (plain-sure s x free))) ∙ sym e
