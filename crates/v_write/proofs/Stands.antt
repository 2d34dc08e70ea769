-- Images and environments after one name was given another term.
use Rattle.std.proofs.Common.{◌≡◌, ℕ, Bool, true, false, cond, Option, Some, None, refl, ap, sym, subst, ◌∙◌}
use Rattle.std.specs.Prelude.{IsTrue, is_some}
use Rattle.std.proofs.lemmas.Slice.Eq.{bytes_eq-Decides}
use Rattle.wb_values.specs.Value.{Name, Value, Valuation, same_name, with_value}
use Rattle.model_meaning.specs.Term.{Term, val}
use Rattle.verilog_meaning.specs.Expression.{Scope, is_memory}
use Rattle.verilog_meaning.specs.Statement.{written_cell, written_place}
use Rattle.verilog_meaning.specs.Settled.{IsValueOf}
use Rattle.wb_terms.specs.Graph.{Graph, tree}
use Rattle.wb_terms.specs.declared.nodes.TermId.{TermId}
use Rattle.v_bits.specs.declared.operand.Operand.{Operand}
use Rattle.v_operators.specs.Meaning.{Grows, IsOfSort, HasNumber}
use Rattle.v_operators.proofs.Growing.{tree_kept, IsOfSort-kept, Grows-trans}
use Rattle.v_lower.specs.Lowered.{Images, HasImages, IsImage, StandsFor}
use Rattle.v_lower.proofs.Lowering.{images_kept}
use Rattle.v_write.specs.declared.part.Part.{Part}
use Rattle.v_write.specs.Parts.{cell_meant, bits_meant, place_meant, HasIndexes, IsPart, index_meant}
use Rattle.v_write.specs.Guard.{Guards}
use Rattle.v_write.specs.Changed.{IsTermOf}
use Rattle.v_write.specs.Written.{AreOfNames, Changes, IsPartWritten}
use Rattle.v_write.proofs.Cells.{memory_fits, number_fits}

-- an environment that stands under images stands under them in a store that has grown
pub stands_after : (s : Scope) (im : Images) (g h : Graph) (p v : Valuation) → Grows g h → HasImages s im g → StandsFor s im g p v → StandsFor s im h p v
stands_after s im g h p v a k st =
    record { fits = st.fits; same = λ n id i. ap (λ (t : Term). val t p) (tree_kept id a (k.image n id i).of_sort.below) ∙ st.same n id i }

same_is : (m n : Name) → same_name m n ≡ true → m ≡ n
same_is m n h = (bytes_eq-Decides m n).0 h

some-is : (a b : ℕ) → Some a ≡ Some b → a ≡ b
some-is a b e = ap first e where
  first : Option ℕ → ℕ
  first (Some x) = x
  first None = 0

-- the term of a name is of the sort of its object
pub term_there : (s : Scope) (im : Images) (g : Graph) (n : Name) (id : ℕ) → HasImages s im g → im n ≡ Some id → IsTermOf (s n) g id
term_there s im g n id k e = let i = k.image n id e in record { sort = i.sort; of_name = i.of_name; of_sort = i.of_sort }

-- ---- one name is given another term

module _ (s : Scope) (a b : Images) (g h : Graph) (n : Name) (id old : ℕ) (grows : Grows g h) (known : HasImages s a g) (had : a n ≡ Some old) (is_b : (m : Name) → b m ≡ cond (same_name n m) (Some id) (a m)) where
  given : (m : Name) (k : ℕ) → same_name n m ≡ true → b m ≡ Some k → (n ≡ m) × (id ≡ k)
  given m k t e = (same_is n m t, some-is id k (sym (ap (λ c. cond c (Some id) (a m)) t) ∙ (sym (is_b m) ∙ e)))

  left : (m : Name) (k : ℕ) → same_name n m ≡ false → b m ≡ Some k → a m ≡ Some k
  left m k t e = sym (ap (λ c. cond c (Some id) (a m)) t) ∙ (sym (is_b m) ∙ e)

  pub names_kept : AreOfNames a b
  names_kept m = ap is_some (is_b m) ∙ by (same_name n m) refl where
    by : (c : Bool) → same_name n m ≡ c → is_some (cond c (Some id) (a m)) ≡ is_some (a m)
    by true t = ap is_some (sym had) ∙ ap (λ k. is_some (a k)) (same_is n m t)
    by false t = refl

  pub images_written : IsImage s h n id → HasImages s b h
  images_written i =
      record {
        some = λ m t u. subst (λ c. IsTrue c) (sym (names_kept m)) (known.some m t u);
        image = λ m k e. by m k e (same_name n m) refl;
      } where
        by : (m : Name) (k : ℕ) → b m ≡ Some k → (c : Bool) → same_name n m ≡ c → IsImage s h m k
        by m k e true t = let q = given m k t e in subst (λ z. IsImage s h z k) q.0 (subst (λ z. IsImage s h n z) q.1 i)
        by m k e false t = (images_kept s a g h grows known).image m k (left m k t e)

  pub stands_written : (p v : Valuation) (y : Value) → StandsFor s a g p v → IsValueOf (s n) y → val (tree h id) p ≡ y → StandsFor s b h p (with_value v n y)
  stands_written p v y st f e =
      record { fits = λ m k i. fits m k i (same_name n m) refl; same = λ m k i. same m k i (same_name n m) refl } where
        fits : (m : Name) (k : ℕ) → b m ≡ Some k → (c : Bool) → same_name n m ≡ c → IsValueOf (s m) (cond c y (v m))
        fits m k i true t = subst (λ z. IsValueOf (s z) y) (same_is n m t) f
        fits m k i false t = st.fits m k (left m k t i)

        same : (m : Name) (k : ℕ) → b m ≡ Some k → (c : Bool) → same_name n m ≡ c → val (tree h k) p ≡ cond c y (v m)
        same m k i true t = ap (λ z. val (tree h z) p) (sym (given m k t i).1) ∙ e
        same m k i false t = (stands_after s a g h p v grows known st).same m k (left m k t i)

  -- the term is worth what the name had
  pub stands_kept : (p v : Valuation) → StandsFor s a g p v → val (tree h id) p ≡ v n → StandsFor s b h p v
  stands_kept p v st e =
      subst (λ u. StandsFor s b h p u) same (stands_written p v (v n) st (st.fits n old had) e) where
        same_at : (m : Name) (c : Bool) → same_name n m ≡ c → cond c (v n) (v m) ≡ v m
        same_at m true t = ap v (same_is n m t)
        same_at m false t = refl

        same : with_value v n (v n) ≡ v
        same = λ i m. same_at m (same_name n m) refl i

-- ---- a part is written, where a condition holds

module _ (s : Scope) (a b : Images) (g i h : Graph) (q : Part) (guard : Option TermId) (number old new id : ℕ) (grows : Grows g i) (on : Grows i h) (known : HasImages s a g) (part : IsPart s g q)
    (had : a q.name.now ≡ Some old) (changed : Changes (s q.name.now) g i q old number new) where
  cell_fits : (p v : Valuation) (x : ℕ) → IsValueOf (s q.name.now) (v q.name.now)
      → IsValueOf (s q.name.now) (written_cell (s q.name.now) (v q.name.now) (cell_meant (s q.name.now) g p q.address) (bits_meant (s q.name.now) g p q.bits) x)
  cell_fits p v x f = by q.address part.memory where
    by : (o : Option Operand) → is_memory (s q.name.now) ≡ is_some o
        → IsValueOf (s q.name.now) (written_cell (s q.name.now) (v q.name.now) (cell_meant (s q.name.now) g p o) (bits_meant (s q.name.now) g p q.bits) x)
    by None m = number_fits (s q.name.now) (v q.name.now) (bits_meant (s q.name.now) g p q.bits) x m f
    by (Some k) m = memory_fits (s q.name.now) (v q.name.now) (index_meant g p k) (bits_meant (s q.name.now) g p q.bits) x m f

  abbrev new_image : IsImage s i q.name.now new
  new_image = let o = known.image q.name.now old had in record { sort = o.sort; of_name = o.of_name; of_sort = changed.of_sort o.sort o.of_name o.of_sort }

  pub part_written : ((m : Name) → b m ≡ cond (same_name q.name.now m) (Some id) (a m))
      → ((t : _) → IsOfSort i new t → IsOfSort i old t → IsOfSort h id t)
      → ((p : Valuation) (c : Bool) → Guards g p guard c → val (tree h id) p ≡ cond c (val (tree i new) p) (val (tree i old) p))
      → IsPartWritten s a g guard q number b h
  part_written is_b sorted chosen =
      let all : Grows g h = Grows-trans grows on in
      let o = known.image q.name.now old had in
      let image : IsImage s h q.name.now id = record { sort = o.sort; of_name = o.of_name; of_sort = sorted o.sort new_image.of_sort (IsOfSort-kept old o.sort grows o.of_sort) } in
      record {
        known = images_written s a b g h q.name.now id old all known had is_b image;
        names = names_kept s a b g h q.name.now id old all known had is_b;
        stands = λ p v x c st indexes is_x is_c. by p v x st indexes is_x c (chosen p c is_c);
      } where
        by : (p v : Valuation) (x : ℕ) → StandsFor s a g p v → HasIndexes g p q → HasNumber g number q.count p x → (c : Bool)
            → val (tree h id) p ≡ cond c (val (tree i new) p) (val (tree i old) p) → StandsFor s b h p (cond c (written_place s v (place_meant s g p q) x) v)
        by p v x st indexes is_x true e =
            let all : Grows g h = Grows-trans grows on in
            let was : IsValueOf (s q.name.now) (v q.name.now) = st.fits q.name.now old had in
            stands_written s a b g h q.name.now id old all known had is_b p v _ st (cell_fits p v x was)
            (e ∙ changed.value p (v q.name.now) x indexes (st.same q.name.now old had) was is_x)
        by p v x st indexes is_x false e =
            let all : Grows g h = Grows-trans grows on in
            stands_kept s a b g h q.name.now id old all known had is_b p v st
            (e ∙ (ap (λ (t : Term). val t p) (tree_kept old grows (known.image q.name.now old had).of_sort.below) ∙ st.same q.name.now old had))
