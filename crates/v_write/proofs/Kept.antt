-- Parts, their places and conditions in a store that has grown.
use Rattle.std.proofs.Common.{◌≡◌, ◌+◌, ℕ, Bool, List, [], ◌∷◌, Option, Some, None, refl, ap, sym, subst}
use Rattle.wb_values.specs.Value.{word, truth, as_number, Valuation}
use Rattle.model_meaning.specs.Term.{Term, val}
use Rattle.verilog_meaning.specs.Expression.{Object, Scope, integer_from}
use Rattle.verilog_meaning.specs.Statement.{indexed_cell, places_width}
use Rattle.wb_terms.specs.Graph.{Graph}
use Rattle.wb_terms.specs.declared.nodes.TermId.{TermId}
use Rattle.v_bits.specs.declared.operand.Operand.{Operand}
use Rattle.v_operators.specs.Meaning.{Grows, IsOfSort, HasNumber}
use Rattle.v_operators.proofs.Growing.{IsOfSort-kept, number_kept, truth_kept, tree_kept}
use Rattle.v_write.specs.declared.part.Part.{Part}
use Rattle.v_write.specs.declared.part.PartBits.{PartBits}
use Rattle.v_write.specs.declared.part.PartBits.TheVariants.{All, Known, Moving}
use Rattle.v_write.specs.Parts.{worth, cell_meant, bits_meant, place_meant, places_meant, counts, IsAddress, AreBits, IsPart, IsPartOf, AreParts, HasAddress, HasIndexes, HaveIndexes}
use Rattle.v_write.specs.Guard.{IsGuard, Guards}
use Rattle.v_write.proofs.Replaced.{bits_before}

module _ (g h : Graph) (grows : Grows g h) where
  address_kept : (a : Option Operand) → IsAddress g a → IsAddress h a
  address_kept None k = tt
  address_kept (Some a) k = IsOfSort-kept a.id.0 (word a.width) grows k

  pub bits_kept : (o : Object) (n : ℕ) (q : PartBits) → AreBits o g n q → AreBits o h n q
  bits_kept o n All k = k
  bits_kept o n (Known b) k = k
  bits_kept o n (Moving w i) k = (k.0, k.1, k.2, IsOfSort-kept i.id.0 (word i.width) grows k.3)

  pub part_kept : (o : Object) (q : Part) → IsPartOf o g q → IsPartOf o h q
  part_kept o q k =
      record { sort = k.sort; variable = k.variable; memory = k.memory; address = address_kept q.address k.address; bits = bits_kept o q.count q.bits k.bits; width = k.width }

  pub parts_kept : (s : Scope) (qs : List Part) → AreParts s g qs → AreParts s h qs
  parts_kept s [] k = tt
  parts_kept s (q ∷ qs) k = (part_kept (s q.name.now) q k.0, parts_kept s qs k.1)

  pub guard_there : (c : Option TermId) → IsGuard g c → IsGuard h c
  guard_there None k = tt
  guard_there (Some c) k = IsOfSort-kept c.0 truth grows k

  pub guard_kept : (p : Valuation) (c : Option TermId) (b : Bool) → IsGuard g c → Guards g p c b → Guards h p c b
  guard_kept p None b k e = e
  guard_kept p (Some c) b k e = truth_kept c.0 p b grows k.below e

  -- what an index is worth
  worth_kept : (p : Valuation) (i : Operand) → IsOfSort g i.id.0 (word i.width) → worth h p i.id.0 ≡ worth g p i.id.0
  worth_kept p i k = ap (λ (t : Term). as_number (val t p)) (tree_kept i.id.0 grows k.below)

  pub address_there : (o : Object) (p : Valuation) (a : Option Operand) → IsAddress g a → HasAddress g p a → HasAddress h p a × (cell_meant o h p a ≡ cell_meant o g p a)
  address_there o p None k f = (tt, refl)
  address_there o p (Some a) k f =
      let e = worth_kept p a k in (
        subst (λ z. HasNumber h a.id.0 a.width p z) (sym e) (number_kept a.id.0 a.width p (worth g p a.id.0) grows k.below f),
        ap (λ z. indexed_cell o (integer_from a.signed a.width z)) e,
      )

  pub place_kept : (s : Scope) (q : Part) (p : Valuation) → IsPart s g q → HasIndexes g p q → HasIndexes h p q × (place_meant s h p q ≡ place_meant s g p q)
  place_kept s q p k f =
      let a = address_there (s q.name.now) p q.address k.address f.0 in
      let b = bits_before (s q.name.now) g h q.bits q.count grows k.bits p f.1 in
      ((a.0, b.0), λ i. record { of_name = q.name.now; cell = a.1 i; bits = b.1 i })

  pub places_kept : (s : Scope) (qs : List Part) (p : Valuation) → AreParts s g qs → HaveIndexes g p qs → HaveIndexes h p qs × (places_meant s h p qs ≡ places_meant s g p qs)
  places_kept s [] p k f = (tt, refl)
  places_kept s (q ∷ qs) p k f =
      let a = place_kept s q p k.0 f.0 in
      let b = places_kept s qs p k.1 f.1 in
      ((a.0, b.0), λ i. a.1 i ∷ b.1 i)

-- how many bits the places of parts have
bits_count : (o : Object) (g : Graph) (p : Valuation) (n : ℕ) (q : PartBits) → AreBits o g n q → n ≡ (bits_meant o g p q).count
bits_count o g p n All k = k
bits_count o g p n (Known b) k = k
bits_count o g p n (Moving w i) k = k.0

pub part_count : (s : Scope) (g : Graph) (p : Valuation) (q : Part) → IsPart s g q → q.count ≡ (place_meant s g p q).bits.count
part_count s g p q k = bits_count (s q.name.now) g p q.count q.bits k.bits

pub parts_count : (s : Scope) (g : Graph) (p : Valuation) (qs : List Part) → AreParts s g qs → counts qs ≡ places_width (places_meant s g p qs)
parts_count s g p [] k = refl
parts_count s g p (q ∷ qs) k = λ i. part_count s g p q k.0 i + parts_count s g p qs k.1 i
