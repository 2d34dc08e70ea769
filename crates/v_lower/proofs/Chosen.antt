-- What is known of the selects after a name, and of what stands in them: y is the select, e and f what stands in it as calls
-- were given it.
use Rattle.std.proofs.Common.{◌≡◌, ◌∙◌, ◌≤◌, ◌-◌, ℕ, refl, sym, ap, subst, Bool, true, false, cond, nat_le, pos, ◌-ℤ◌}
use Rattle.std.specs.declared.boxed.Box.{Box}
use Rattle.std.specs.declared.alloc.Global.{Global}
use Rattle.wb_values.specs.Value.{Name, word}
use Rattle.verilog_trees.specs.Syntax as pure
use Rattle.verilog_trees.specs.Syntax.{index, part, part_up, part_down, whole, one, two}
use Rattle.verilog_meaning.specs.Expression.{Object, Scope, is_memory, place_of_bit, integer_of, integer_from}
use Rattle.wb_terms.specs.Graph.{Graph}
use Rattle.v_syntax.specs.declared.tree.Expression.{Expression}
use Rattle.v_syntax.specs.declared.tree.Select.{Select, Index, Part, PartUp, PartDown}
use Rattle.v_syntax.specs.declared.tree.Selects.{Selects, Whole, One, Two}
use Rattle.v_syntax.specs.Tree.{tree_of, select_of, selects_of}
use Rattle.v_value.specs.Narrow.{IsWidth, IsNarrow, IsSelectNarrow}
use Rattle.v_value.specs.Evaluation.{sign_at, count_at, taken_at}
use Rattle.v_value.proofs.Selected as selected
use Rattle.v_operators.specs.Meaning.{Grows, IsOfSort, Joins}
use Rattle.v_lower.specs.Lowered.{Images, HasImages, IsLoweredAlone, has_sort}
use Rattle.v_bits.specs.Moving.{taken_from}
use Rattle.v_lower.specs.Reading.{IsRead, IsWordRead, TakesBits}
use Rattle.v_lower.specs.Walking.{IsSound, IsNameSound, IsIndex, IsBounded}
use Rattle.v_lower.specs.Contexts.{IsAddressed, IsTaken}
use Rattle.v_lower.proofs.Taken.{takes_by, index-bits, up-bits, down-bits}

module _ (s : Scope) (n : Name) where
  -- one select
  module _ (x : pure.Select) (h : IsNameSound s n (one x)) where
    pub one-word : is_memory (s n) ≡ true → IsAddressed s n x
    one-word m = record { sort = h.sort; memory = m; index = h.sound.1 m; sound = h.sound.0 }

    pub one-bits : is_memory (s n) ≡ false → IsTaken s x
    one-bits m = record { sound = h.sound.0; narrow = h.narrow; width = subst IsWidth (selected.one-taken s (s n) x m) h.width }

  module _ (x : Selects) (h : IsNameSound s n (selects_of x)) where
    pub whole-of : x ≡ Whole → is_memory (s n) ≡ false
    whole-of i = (subst (λ y. IsNameSound s n (selects_of y)) i h).sound

    pub one-of : (y : Select) → x ≡ One y → IsNameSound s n (one (select_of y))
    one-of y i = subst (λ z. IsNameSound s n (selects_of z)) i h

    pub two-word : (z y : Select) → x ≡ Two z y → IsAddressed s n (select_of z)
    two-word z y i = let k = subst (λ a. IsNameSound s n (selects_of a)) i h in record { sort = k.sort; memory = k.sound.0; index = k.sound.1; sound = k.sound.2 }

    pub two-bits : (z y : Select) → x ≡ Two z y → IsTaken s (select_of y)
    two-bits z y i =
        let k = subst (λ a. IsNameSound s n (selects_of a)) i h in
        record { sound = k.sound.3; narrow = k.narrow.1; width = subst IsWidth (selected.two-taken s (s n) (select_of z) (select_of y)) k.width }

-- what is read by selects that are these
module _ (s : Scope) (im : Images) (g : Graph) (n : Name) (x : Selects) (w id : ℕ) where
  pub whole-read : x ≡ Whole → IsRead s im g n whole w id → IsRead s im g n (selects_of x) w id
  whole-read i r = subst (λ y. IsRead s im g n (selects_of y) w id) (sym i) r

  pub one-read : (y : Select) → x ≡ One y → IsRead s im g n (one (select_of y)) w id → IsRead s im g n (selects_of x) w id
  one-read y i r = subst (λ z. IsRead s im g n (selects_of z) w id) (sym i) r

  pub two-read : (z y : Select) → x ≡ Two z y → IsRead s im g n (two (select_of z) (select_of y)) w id → IsRead s im g n (selects_of x) w id
  two-read z y i r = subst (λ a. IsRead s im g n (selects_of a) w id) (sym i) r

-- an index of a memory
module _ (s : Scope) (n : Name) (y : Select) (h : IsAddressed s n (select_of y)) where
  pub address-sound : (a : Box Expression Global) → y ≡ Index a → (e : Expression) → e ≡ a.value → IsSound s (tree_of e)
  address-sound a i e j = subst (λ z. IsSound s (tree_of z)) (sym j) (subst (λ z. IsAddressed s n (select_of z)) i h).sound

  pub no-part : (a b : Box Expression Global) → y ≡ Part a b → ⊥
  no-part a b i = (subst (λ z. IsAddressed s n (select_of z)) i h).index

  pub no-part_up : (a b : Box Expression Global) → y ≡ PartUp a b → ⊥
  no-part_up a b i = (subst (λ z. IsAddressed s n (select_of z)) i h).index

  pub no-part_down : (a b : Box Expression Global) → y ≡ PartDown a b → ⊥
  no-part_down a b i = (subst (λ z. IsAddressed s n (select_of z)) i h).index

pub address-read : (s : Scope) (im : Images) (g : Graph) (n : Name) (y : Select) (w id : ℕ) (a : Box Expression Global) → y ≡ Index a → (e : Expression) → e ≡ a.value → IsWordRead s im g n (index (tree_of e)) w id → IsWordRead s im g n (select_of y) w id
address-read s im g n y w id a i e j r =
    subst (λ z. IsWordRead s im g n (select_of z) w id) (sym i) (subst (λ z. IsWordRead s im g n (index (tree_of z)) w id) j r)

-- bits of an operand
module _ (s : Scope) (y : Select) (h : IsTaken s (select_of y)) where
  pub index-sound : (a : Box Expression Global) → y ≡ Index a → (e : Expression) → e ≡ a.value → IsSound s (tree_of e)
  index-sound a i e j = subst (λ z. IsSound s (tree_of z)) (sym j) (subst (λ z. IsTaken s (select_of z)) i h).sound

  pub part-bounded : (a b : Box Expression Global) → y ≡ Part a b → IsBounded (select_of y)
  part-bounded a b i = subst (λ z. IsBounded (select_of z)) (sym i) tt

  pub up-sound : (a b : Box Expression Global) → y ≡ PartUp a b → (e : Expression) → e ≡ a.value → IsSound s (tree_of e)
  up-sound a b i e j = subst (λ z. IsSound s (tree_of z)) (sym j) (subst (λ z. IsTaken s (select_of z)) i h).sound

  pub up-narrow : (a b : Box Expression Global) → y ≡ PartUp a b → (f : Expression) → f ≡ b.value → IsNarrow s (tree_of f)
  up-narrow a b i f j = subst (λ z. IsNarrow s (tree_of z)) (sym j) (subst (λ z. IsTaken s (select_of z)) i h).narrow.2

  pub up-count : (a b : Box Expression Global) → y ≡ PartUp a b → (f : Expression) → f ≡ b.value → IsWidth (count_at s (tree_of f))
  unfolding count_at taken_at
  up-count a b i f j = subst (λ z. IsWidth (count_at s (tree_of z))) (sym j) (subst (λ z. IsTaken s (select_of z)) i h).width

  pub down-sound : (a b : Box Expression Global) → y ≡ PartDown a b → (e : Expression) → e ≡ a.value → IsSound s (tree_of e)
  down-sound a b i e j = subst (λ z. IsSound s (tree_of z)) (sym j) (subst (λ z. IsTaken s (select_of z)) i h).sound

  pub down-narrow : (a b : Box Expression Global) → y ≡ PartDown a b → (f : Expression) → f ≡ b.value → IsNarrow s (tree_of f)
  down-narrow a b i f j = subst (λ z. IsNarrow s (tree_of z)) (sym j) (subst (λ z. IsTaken s (select_of z)) i h).narrow.2

  pub down-count : (a b : Box Expression Global) → y ≡ PartDown a b → (f : Expression) → f ≡ b.value → IsWidth (count_at s (tree_of f))
  unfolding count_at taken_at
  down-count a b i f j = subst (λ z. IsWidth (count_at s (tree_of z))) (sym j) (subst (λ z. IsTaken s (select_of z)) i h).width

-- Bits that are taken: the index or base is put first, and then the bits are taken; q, b and n are the object, how far back, and
-- how many, as calls were given them.
module _ (s : Scope) (im : Images) (g h k : Graph) (o : Object) (y : Select) (e : Expression) (a w base u id r : ℕ) (t : Bool) (q : Object) (b n : ℕ) (known : HasImages s im g) (gh : Grows g h) (hk : Grows h k)
    (sort : IsOfSort g a (word w)) (alone : IsLoweredAlone s im h (tree_of e) u base) (is_t : t ≡ sign_at s (tree_of e)) (is_q : q ≡ o) (is_r : r ≡ n) (j : Joins h k a w base u id n (λ y i. taken_from q b n (integer_from t u i) y)) where
  at-object : Joins h k a w base u id n (λ y i. taken_from o b n (integer_from t u i) y)
  at-object = subst (λ z. Joins h k a w base u id n (λ y i. taken_from z b n (integer_from t u i) y)) is_q j

  pub index-taken : (c : Box Expression Global) → y ≡ Index c → e ≡ c.value → b ≡ 0 → n ≡ 1 → TakesBits s im g k o (select_of y) a w r id
  index-taken c i l is_b is_n =
      subst (λ z. TakesBits s im g k o (select_of y) a w z id) (sym is_r)
      (subst (λ z. TakesBits s im g k o (select_of z) a w n id) (sym i) (subst (λ z. TakesBits s im g k o (index (tree_of z)) a w n id) l
      (takes_by s im g h k o (index (tree_of e)) (tree_of e) a w base u id n b t known gh hk sort alone is_t at-object
      (λ v. index-bits s v o (tree_of e) ∙ (λ z. record { low = place_of_bit o (integer_of s v (tree_of e)) -ℤ pos (sym is_b z); count = sym is_n z })))))

  pub up-taken : (c d : Box Expression Global) → y ≡ PartUp c d → e ≡ c.value → (f : Expression) → f ≡ d.value → n ≡ count_at s (tree_of f) → 1 ≤ n → b ≡ cond (nat_le o.right o.left) 0 (n - 1) → TakesBits s im g k o (select_of y) a w r id
  up-taken c d i l f m is_n some is_b =
      subst (λ z. TakesBits s im g k o (select_of y) a w z id) (sym is_r)
      (subst (λ z. TakesBits s im g k o (select_of z) a w n id) (sym i) (subst (λ z. TakesBits s im g k o (part_up (tree_of c.value) (tree_of z)) a w n id) m (subst (λ z. TakesBits s im g k o (part_up (tree_of z) (tree_of f)) a w n id) l
      (takes_by s im g h k o (part_up (tree_of e) (tree_of f)) (tree_of e) a w base u id n b t known gh hk sort alone is_t at-object
      (λ v. up-bits s v o (tree_of e) (tree_of f) n b is_n some is_b)))))

  pub down-taken : (c d : Box Expression Global) → y ≡ PartDown c d → e ≡ c.value → (f : Expression) → f ≡ d.value → n ≡ count_at s (tree_of f) → 1 ≤ n → b ≡ cond (nat_le o.right o.left) (n - 1) 0 → TakesBits s im g k o (select_of y) a w r id
  down-taken c d i l f m is_n some is_b =
      subst (λ z. TakesBits s im g k o (select_of y) a w z id) (sym is_r)
      (subst (λ z. TakesBits s im g k o (select_of z) a w n id) (sym i) (subst (λ z. TakesBits s im g k o (part_down (tree_of c.value) (tree_of z)) a w n id) m (subst (λ z. TakesBits s im g k o (part_down (tree_of z) (tree_of f)) a w n id) l
      (takes_by s im g h k o (part_down (tree_of e) (tree_of f)) (tree_of e) a w base u id n b t known gh hk sort alone is_t at-object
      (λ v. down-bits s v o (tree_of e) (tree_of f) n b is_n some is_b)))))
