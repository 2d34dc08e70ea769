-- Sets of bits: their union, and lists of spans that grow.
use Rattle.std.proofs.Common.{◌≡◌, ◌∙◌, refl, ap, sym, Bool, true, false, List, [], ◌∷◌, ◌++◌}
use Rattle.std.specs.Prelude.{◌||◌}
use Rattle.verilog_designs.specs.Reads.{BitSet, no_bits, or_in}
use Rattle.v_flow.specs.declared.span.Span.{Span}
use Rattle.v_flow.specs.Spans.{bits_of, bits_in}

pub or_assoc : (a b c : Bool) → (a || b) || c ≡ a || (b || c)
or_assoc true b c = refl
or_assoc false b c = refl

pub or_false : (a : Bool) → a || false ≡ a
or_false true = refl
or_false false = refl

pub or-assoc : (p q r : BitSet) → or_in (or_in p q) r ≡ or_in p (or_in q r)
or-assoc p q r = λ i n k b. or_assoc (p n k b) (q n k b) (r n k b) i

pub or-none : (p : BitSet) → or_in p no_bits ≡ p
or-none p = λ i n k b. or_false (p n k b) i

-- one part after another
pub joins : (o a b p q r : BitSet) → a ≡ or_in o p → b ≡ or_in a q → or_in p q ≡ r → b ≡ or_in o r
joins o a b p q r e f g = f ∙ ap (λ (z : BitSet). or_in z q) e ∙ or-assoc o p q ∙ ap (or_in o) g

-- the turn of a loop
pub turn : (t a b p rest : BitSet) → t ≡ or_in a (or_in p rest) → b ≡ or_in a p → t ≡ or_in b rest
turn t a b p rest e h = e ∙ sym (or-assoc a p rest) ∙ ap (λ (z : BitSet). or_in z rest) (sym h)

-- the turn of a loop with two calls
pub turn-two : (t a m b p q rest : BitSet) → t ≡ or_in a (or_in p (or_in q rest)) → m ≡ or_in a p → b ≡ or_in m q → t ≡ or_in b rest
turn-two t a m b p q rest e h g = turn t m b q rest (turn t a m p (or_in q rest) e h) g

-- the end of a loop
pub end : (t a p : BitSet) → t ≡ or_in a p → p ≡ no_bits → a ≡ t
end t a p e h = sym (e ∙ ap (or_in a) h ∙ or-none a)

-- nothing is added
pub nothing : (o p : BitSet) → no_bits ≡ p → o ≡ or_in o p
nothing o p h = sym (or-none o) ∙ ap (or_in o) h

pub push : (xs : List Span) (x : Span) → bits_in (xs ++ x ∷ []) ≡ or_in (bits_in xs) (bits_of x)
push [] x = or-none (bits_of x)
push (y ∷ xs) x = ap (or_in (bits_of y)) (push xs x) ∙ sym (or-assoc (bits_of y) (bits_in xs) (bits_of x))

pub joins-three : (o m a b p q r w : BitSet) → m ≡ or_in o p → a ≡ or_in m q → b ≡ or_in a r → or_in p (or_in q r) ≡ w → b ≡ or_in o w
joins-three o m a b p q r w e f g h =
    joins o m b p (or_in q r) w e (joins m a b q r (or_in q r) f g (λ i. or_in q r)) h
