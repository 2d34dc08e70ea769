-- Registers count with the bits that their source declares.
use Rattle.std.proofs.Common.{◌≡◌, ℕ, zero, suc, ◌*◌, Bool, true, false, cond, not, List, [], ◌∷◌, length, Some, refl, sym, ap, ◌∙◌, subst}
use Rattle.std.specs.Prelude.{IsTrue, Contains, slice_get, unwrap_or}
use Rattle.std.proofs.lemmas.Bool.{false≢true}
use Rattle.std.proofs.lemmas.Option.{slice_get_within, get_or_from_slice_get}
use Rattle.wb_values.specs.Value.{Name, Sort, truth, word, memory, Entries}
use Rattle.verilog_meaning.specs.Expression.{Object, object_width, is_memory}
use Rattle.verilog_meaning.specs.Register.{word_count}
use Rattle.verilog_meaning.specs.Hierarchy.{placed_scope}
use Rattle.verilog_meaning.specs.Settled.{Design}
use Rattle.v_design.specs.Registers.{CountedBits}
use Rattle.v_design.specs.Parts.{Parts, registers_of, under_names, bits_by_name}
use Rattle.v_design.specs.Design.{IsSortOf, IsDesignOf}
use Rattle.check_limits.specs.Limits.{register_bits_of}
use Rattle.check_limits.specs.Sources.{declared_bits, DeclaresBits}

some_same : {A : Type 0} (x y : A) → Some x ≡ Some y → x ≡ y
some_same x y e = ap (λ o. unwrap_or o x) e

contained : {A : Type 0} (xs : List A) (k : ℕ) (x : A) → slice_get xs k ≡ Some x → Contains xs x
contained xs k x e = (k, slice_get_within xs k x e, get_or_from_slice_get xs k x x e)

under_at : (ns : Entries Sort) (cs : List CountedBits) (k : ℕ) (n : Name) (s : Sort) (c : CountedBits) → slice_get ns k ≡ Some (n, s) → slice_get cs k ≡ Some c
    → slice_get (under_names ns cs) k ≡ Some (n, c)
under_at [] cs k n s c e i = absurd (cc)
under_at (m ∷ ns) [] k n s c e i = absurd (cc)
under_at (m ∷ ns) (b ∷ cs) zero n s c e i = (λ j. Some ((some_same m (n, s) e j).0, some_same b c i j))
under_at (m ∷ ns) (b ∷ cs) (suc k) n s c e i = under_at ns cs k n s c e i

no_memory : (b : Bool) → IsTrue (not b) → b ≡ false
no_memory true h = absurd (false≢true h)
no_memory false h = refl

bits_as_declared : (o : Object) (s : Sort) (c : CountedBits) → IsSortOf o s → length c.masks ≡ word_count o → register_bits_of s c ≡ declared_bits o
bits_as_declared o truth c h w = absurd h
bits_as_declared o (word v) c h w = sym (ap (λ t. cond t (word_count o * object_width o) 0) (no_memory (is_memory o) h.0))
bits_as_declared o (memory a v) c h w = (λ j. w j * h.2 j) ∙ sym (ap (λ t. cond t (word_count o * object_width o) 0) h.0)

pub as_declared : (d : Design) (e : Parts) (k : ℕ) (n : Name) (s : Sort) (c : CountedBits) → IsDesignOf d e → slice_get (registers_of e) k ≡ Some (n, s) → slice_get e.bits k ≡ Some c
    → DeclaresBits d n (register_bits_of s c)
as_declared d e k n s c w a b =
    let r = w.registers_are n s (contained (registers_of e) k (n, s) a) in
    let under : Contains (bits_by_name e) (n, c) = contained (bits_by_name e) k (n, c) (under_at (registers_of e) e.bits k n s c a b) in
    let bits = w.bits_are r.0 r.1 c r.3 (subst (λ (x : Name). Contains (bits_by_name e) (x, c)) r.2 under) in
    record {
      placed = r.0;
      name = r.1;
      is_name = r.2;
      is_register = r.3;
      has_bits = bits_as_declared (placed_scope r.0 r.1) s c r.4 bits.each_word;
    }
