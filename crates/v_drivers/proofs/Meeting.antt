-- Two sets meet exactly where both have something of one name: of a memory anything, of anything else one bit.
use Rattle.std.proofs.Common.{◌≡◌, ℕ, zero, refl, sym, subst, Bool, true, false, Option, Some, None}
use Rattle.std.specs.Prelude.{is_some}
use Rattle.std.proofs.lemmas.Bool.{true≢false, false≢true}
use Rattle.wb_values.specs.Value.{Name}
use Rattle.verilog_meaning.specs.Expression.{Object, Scope, is_memory}
use Rattle.verilog_designs.specs.Reads.{BitSet}
use Rattle.verilog_designs.specs.Drivers.{IsSameDriven}
use Rattle.v_masks.proofs.Plain.{first-word}
use Rattle.v_drivers.specs.Sets.{Meet}
use Rattle.v_drivers.specs.Bits.{IsOfBits}
use Rattle.v_drivers.proofs.Touching.{touched, Touches, case-on}

-- ---- two sets

abbrev with_addresses : Object → Option (ℕ × ℕ) → Object
with_addresses o a = record { is_declared = o.is_declared; signed = o.signed; has_range = o.has_range; left = o.left; right = o.right; addresses = a; constant = o.constant }

same-in-memory : (o : Object) (a : Option (ℕ × ℕ)) (k b l c : ℕ) → is_some a ≡ true → IsSameDriven (with_addresses o a) k b l c
same-in-memory o None k b l c e = absurd (false≢true e)
same-in-memory o (Some a) k b l c e = tt

same-outside : (o : Object) (a : Option (ℕ × ℕ)) (k b : ℕ) → is_some a ≡ false → IsSameDriven (with_addresses o a) k b k b
same-outside o None k b e = (refl, refl)
same-outside o (Some a) k b e = absurd (true≢false e)

outside-same : (o : Object) (a : Option (ℕ × ℕ)) (k b l c : ℕ) → is_some a ≡ false → IsSameDriven (with_addresses o a) k b l c → b ≡ c
outside-same o None k b l c e h = h.1
outside-same o (Some a) k b l c e h = absurd (true≢false e)

pub touched-memory : (m : Bool) (p : BitSet) (n : Name) (b : ℕ) → m ≡ true → touched m p n b → (b ≡ 0) × (k : ℕ) × (c : ℕ) × (p n k c ≡ true)
touched-memory true p n b e h = h
touched-memory false p n b e h = absurd (false≢true e)

pub touched-other : (m : Bool) (p : BitSet) (n : Name) (b : ℕ) → m ≡ false → touched m p n b → p n zero b ≡ true
touched-other true p n b e h = absurd (true≢false e)
touched-other false p n b e h = h

pub memory-touched : (m : Bool) (p : BitSet) (n : Name) (k c : ℕ) → m ≡ true → p n k c ≡ true → touched m p n 0
memory-touched true p n k c e h = (refl, k, c, h)
memory-touched false p n k c e h = absurd (false≢true e)

pub other-touched : (m : Bool) (p : BitSet) (n : Name) (b : ℕ) → m ≡ false → p n zero b ≡ true → touched m p n b
other-touched true p n b e h = absurd (true≢false e)
other-touched false p n b e h = h

pub touching-meet : (s : Scope) (p q : BitSet) (n : Name) (b : ℕ) → Touches s p n b → Touches s q n b → Meet s p q
touching-meet s p q n b f g = case-on (is_memory (s n))
    (λ e. let x = touched-memory (is_memory (s n)) p n b e f in
    let y = touched-memory (is_memory (s n)) q n b e g in
    record {
      name = n;
      word = x.1;
      bit = x.2;
      word2 = y.1;
      bit2 = y.2;
      in_first = x.3;
      in_second = y.3;
      is_same = same-in-memory (s n) (s n).addresses x.1 x.2 y.1 y.2 e;
    })
    (λ e. record {
      name = n;
      word = 0;
      bit = b;
      word2 = 0;
      bit2 = b;
      in_first = touched-other (is_memory (s n)) p n b e f;
      in_second = touched-other (is_memory (s n)) q n b e g;
      is_same = same-outside (s n) (s n).addresses 0 b e;
    })

-- a name and a bit that both have
pub record Touching (s : Scope) (p q : BitSet) : Type 0 where
  pub name : Name
  pub bit : ℕ
  pub first : Touches s p name bit
  pub second : Touches s q name bit

pub meet-touching : (s : Scope) (p q : BitSet) → IsOfBits s p → IsOfBits s q → Meet s p q → Touching s p q
meet-touching s p q f g m = case-on (is_memory (s m.name))
    (λ e. record {
      name = m.name;
      bit = 0;
      first = memory-touched (is_memory (s m.name)) p m.name m.word m.bit e m.in_first;
      second = memory-touched (is_memory (s m.name)) q m.name m.word2 m.bit2 e m.in_second;
    })
    (λ e. let k = first-word (s m.name) m.word m.bit e (f m.name m.word m.bit m.in_first) in
    let l = first-word (s m.name) m.word2 m.bit2 e (g m.name m.word2 m.bit2 m.in_second) in
    let b = outside-same (s m.name) (s m.name).addresses m.word m.bit m.word2 m.bit2 e m.is_same in
    record {
      name = m.name;
      bit = m.bit;
      first = other-touched (is_memory (s m.name)) p m.name m.bit e (subst (λ z. p m.name z m.bit ≡ true) k m.in_first);
      second = other-touched (is_memory (s m.name)) q m.name m.bit e
          (subst (λ z. q m.name 0 z ≡ true) (sym b) (subst (λ z. q m.name z m.bit2 ≡ true) l m.in_second));
    })

-- ---- which of the two is first does not matter

turned-same : (o : Object) (a : Option (ℕ × ℕ)) (k b l c : ℕ) → IsSameDriven (with_addresses o a) k b l c → IsSameDriven (with_addresses o a) l c k b
turned-same o None k b l c h = (sym h.0, sym h.1)
turned-same o (Some a) k b l c h = tt

pub turned : (s : Scope) (p q : BitSet) → Meet s p q → Meet s q p
turned s p q m = record {
  name = m.name;
  word = m.word2;
  bit = m.bit2;
  word2 = m.word;
  bit2 = m.bit;
  in_first = m.in_second;
  in_second = m.in_first;
  is_same = turned-same (s m.name) (s m.name).addresses m.word m.bit m.word2 m.bit2 m.is_same;
}
