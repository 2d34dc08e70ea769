-- A bit that was found: one of a kind at which two valuations differ. What is made of several things is the same, or a bit is found
-- for one of them.
use Rattle.std.proofs.Common.{◌≡◌, ◌⊎◌, inl, inr, ap, ap₂, ◌∙◌, IsTrue}
use Rattle.std.proofs.lemmas.Bool.{or_left, or_right}
use Rattle.wb_values.specs.Value.{Name, Valuation}
use Rattle.verilog_designs.specs.Reads.{BitSet, or_in}
use Rattle.verilog_designs.specs.Dependence.{Bit, is_in}
use Rattle.verilog_settled.specs.Locality.{IsSame, DifferAt}

-- The kind may rest on the bit, and its name is one of which more is known.
pub record Found (v w : Valuation) (HasValue : Name → Type 0) (IsSo : Bit → Type 0) : Type 0 where
  pub bit : Bit
  pub is_so : IsSo bit
  pub has_value : HasValue bit.of_name
  pub differs : ¬ IsSame v w bit

abbrev pub In : BitSet → Bit → Type 0
In bits y = IsTrue (is_in bits y)

pub found_so : (v w : Valuation) (HasValue : Name → Type 0) (P Q : Bit → Type 0) → ((y : Bit) → P y → Q y) → Found v w HasValue P → Found v w HasValue Q
found_so v w HasValue P Q k f = record { bit = f.bit; is_so = k f.bit f.is_so; has_value = f.has_value; differs = f.differs }

pub differ_at : (v w : Valuation) (HasValue : Name → Type 0) (P : Bit → Type 0) → Found v w HasValue P → DifferAt v w P
differ_at v w HasValue P f = record { bit = f.bit; is_so = f.is_so; differs = f.differs }

pub found_left : (v w : Valuation) (HasValue : Name → Type 0) (p q : BitSet) → Found v w HasValue (In p) → Found v w HasValue (In (or_in p q))
found_left v w HasValue p q f =
    found_so v w HasValue (In p) (In (or_in p q)) (λ y h. or_left (p y.of_name y.word y.place) (q y.of_name y.word y.place) h) f

pub found_right : (v w : Valuation) (HasValue : Name → Type 0) (p q : BitSet) → Found v w HasValue (In q) → Found v w HasValue (In (or_in p q))
found_right v w HasValue p q f =
    found_so v w HasValue (In q) (In (or_in p q)) (λ y h. or_right (p y.of_name y.word y.place) (q y.of_name y.word y.place) h) f

-- what is the same, or else a bit of these
abbrev pub SameOr : {A : Type 0} → (a b : A) → Valuation → Valuation → (Name → Type 0) → BitSet → Type 0
SameOr a b v w HasValue bits = (a ≡ b) ⊎ Found v w HasValue (In bits)

pub one_part : {A B : Type 0} (f : A → B) {a b : A} (v w : Valuation) (HasValue : Name → Type 0) (p : BitSet)
    → SameOr a b v w HasValue p → SameOr (f a) (f b) v w HasValue p
one_part f v w HasValue p (inl e) = inl (ap f e)
one_part f v w HasValue p (inr x) = inr x

pub two_parts : {A B C : Type 0} (f : A → B → C) {a b : A} {c d : B} (v w : Valuation) (HasValue : Name → Type 0) (p q : BitSet)
    → SameOr a b v w HasValue p → SameOr c d v w HasValue q → SameOr (f a c) (f b d) v w HasValue (or_in p q)
two_parts f v w HasValue p q (inl e) (inl g) = inl (ap₂ f e g)
two_parts f v w HasValue p q (inr x) y = inr (found_left v w HasValue p q x)
two_parts f v w HasValue p q (inl e) (inr y) = inr (found_right v w HasValue p q y)

pub then_same : {A : Type 0} {a b c : A} (v w : Valuation) (HasValue : Name → Type 0) (p : BitSet) → SameOr a b v w HasValue p → b ≡ c
    → SameOr a c v w HasValue p
then_same v w HasValue p (inl e) g = inl (e ∙ g)
then_same v w HasValue p (inr x) g = inr x

-- what the second part leaves open, after the first was the same
pub and_then : {A B : Type 0} {a b : A} {c d : B} (v w : Valuation) (HasValue : Name → Type 0) (p q : BitSet) → SameOr a b v w HasValue q
    → (a ≡ b → SameOr c d v w HasValue (or_in p q)) → SameOr c d v w HasValue (or_in p q)
and_then v w HasValue p q (inl e) k = k e
and_then v w HasValue p q (inr x) k = inr (found_right v w HasValue p q x)
