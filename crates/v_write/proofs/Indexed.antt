-- Parts of targets: what their selects mean, by the terms of their indexes.
use Rattle.std.proofs.Common.{◌≡◌, ◌+◌, ◌-◌, ◌≤◌, ℕ, true, false, cond, nat_le, List, [], ◌∷◌, ◌++◌, Some, None, refl, ap, sym, subst, ◌∙◌, arith, append_assoc, append-nil, pos, ◌-ℤ◌}
use Rattle.std.specs.declared.boxed.Box.{Box}
use Rattle.std.specs.declared.alloc.Global.{Global}
use Rattle.wb_values.specs.Value.{Name, word, as_number, Valuation}
use Rattle.verilog_trees.specs.Syntax as pure
use Rattle.verilog_trees.specs.Syntax.{index, part, part_up, part_down, whole, one, two, place, no_targets, target}
use Rattle.verilog_meaning.specs.Expression.{Object, Scope, Bits, is_memory, object_width, no_values, integer_from, integer_of, place_of_bit, value_of, sign_of, select_bits, select_index, selects_width, assigned_value}
use Rattle.verilog_meaning.specs.Statement.{variable_cell, indexed_cell, all_bits, places, all_places, target_width}
use Rattle.wb_terms.specs.Graph.{Graph}
use Rattle.v_syntax.specs.declared.tree.Expression.{Expression}
use Rattle.v_syntax.specs.declared.tree.Select.{Select, Index, Part, PartUp, PartDown}
use Rattle.v_syntax.specs.declared.tree.Selects.{Selects, Whole, Two}
use Rattle.v_syntax.specs.Tree.{tree_of, select_of, selects_of}
use Rattle.v_value.specs.Narrow.{IsWidth}
use Rattle.v_value.specs.Evaluation.{sign_at, count_at}
use Rattle.v_value.specs.Scope.{object_of}
use Rattle.v_value.specs.Index.{span_of}
use Rattle.v_value.specs.declared.scope.Object.{Object as CodeObject}
use Rattle.v_value.specs.declared.select.Span.{Span}
use Rattle.v_bits.specs.declared.operand.Operand.{Operand}
use Rattle.v_operators.specs.Meaning.{Grows, IsOfSort, HasNumber}
use Rattle.v_operators.proofs.Growing.{Grows-refl, Grows-trans, IsOfSort-kept}
use Rattle.v_lower.specs.Lowered.{Images, HasImages, StandsFor, IsLoweredAlone, has_sort}
use Rattle.v_lower.specs.Walking.{IsSound, IsNameSound, IsSelectSound, IsBounded}
use Rattle.v_lower.proofs.Lowering.{stands_before}
use Rattle.v_lower.proofs.Taken.{index-bits, up-bits, down-bits}
use Rattle.v_lower.proofs.Contextual.{few_up, few_down}
use Rattle.v_write.specs.declared.part.Part.{Part as CodePart}
use Rattle.v_write.specs.declared.part.PartBits.{PartBits}
use Rattle.v_write.specs.declared.part.PartBits.TheVariants.{All, Known, Moving}
use Rattle.v_write.specs.Parts.{index_meant, place_meant, places_meant, counts, IsNumber, HasAddress, HaveIndex, HaveIndexes, IsPart, AreParts}
use Rattle.v_write.specs.Selecting.{IsIndexOf, IsTakenBy, IsSelectedBy, ArePrepared, ArePreparing, IsPrepared}
use Rattle.v_write.proofs.Kept.{address_there, parts_kept, places_kept}

-- ---- the term of an index

module _ (s : Scope) (im : Images) (g : Graph) (e : pure.Expression) (i : Operand) (l : IsLoweredAlone s im g e i.width i.id.0) (is_t : i.signed ≡ sign_at s e) where
  pub index_number : (p v : Valuation) → StandsFor s im g p v → IsNumber g p i
  index_number p v st =
      let h : HasNumber g i.id.0 i.width p (value_of s v e i.width (sign_of s e)) = l.lowered.value p v st in
      subst (λ z. HasNumber g i.id.0 i.width p z) (sym (ap as_number h.value)) h

  pub index_is : (p v : Valuation) → StandsFor s im g p v → index_meant g p i ≡ integer_of s v e
  unfolding sign_at
  index_is p v st =
      let h : HasNumber g i.id.0 i.width p (value_of s v e i.width (sign_of s e)) = l.lowered.value p v st in
      ap (λ z. integer_from i.signed i.width z) (ap as_number h.value)
      ∙ (ap (λ z. integer_from z i.width (value_of s v e i.width (sign_of s e))) is_t ∙ ap (λ z. integer_from (sign_of s e) z (value_of s v e z (sign_of s e))) l.width)

pub an_index : (s : Scope) (im : Images) (g : Graph) (y : Select) (a : Box Expression Global) → y ≡ Index a → (e : Expression) → e ≡ a.value → (i : Operand)
    → IsLoweredAlone s im g (tree_of e) i.width i.id.0 → i.signed ≡ sign_at s (tree_of e) → IsIndexOf s im g (select_of y) i
an_index s im g y a is e j i l t =
    subst (λ z. IsIndexOf s im g (select_of z) i) (sym is) (subst (λ z. IsIndexOf s im g (index (tree_of z)) i) j
    (record { of_sort = l.lowered.of_sort; number = index_number s im g (tree_of e) i l t; meant = index_is s im g (tree_of e) i l t }))

pub index_sound : (s : Scope) (y : Select) → IsSelectSound s (select_of y) → (a : Box Expression Global) → y ≡ Index a → (e : Expression) → e ≡ a.value → IsSound s (tree_of e)
index_sound s y h a is e j = subst (λ z. IsSound s (tree_of z)) (sym j) (subst (λ z. IsSelectSound s (select_of z)) is h)

-- ---- bits by the term of an index

module _ (s : Scope) (im : Images) (g : Graph) (ob : CodeObject) (x : pure.Select) (e : pure.Expression) (i : Operand) (b n : ℕ) (q : PartBits) (k : ℕ) where
  pub taken_moving : IsLoweredAlone s im g e i.width i.id.0 → i.signed ≡ sign_at s e → b ≤ 128 → IsWidth n → q ≡ Moving (record { object = ob; back = b; count = n }) i → k ≡ n
      → ((v : Valuation) → select_bits s v (object_of ob) x ≡ record { low = place_of_bit (object_of ob) (integer_of s v e) -ℤ pos b; count = n }) → IsTakenBy s im g (object_of ob) x q k
  taken_moving l t small width is_q is_k bits =
      subst (λ z. IsTakenBy s im g (object_of ob) x z k) (sym is_q) (subst (λ z. IsTakenBy s im g (object_of ob) x (Moving (record { object = ob; back = b; count = n }) i) z) (sym is_k)
      (record {
        bits = (refl, refl, small, l.lowered.of_sort);
        width = width;
        count = sym (ap (λ (z : Bits). z.count) (bits no_values));
        index = index_number s im g e i l t;
        meant = λ p v st. ap (λ z. record { low = place_of_bit (object_of ob) z -ℤ pos b; count = n }) (index_is s im g e i l t p v st) ∙ sym (bits v);
      }))

one_width : IsWidth 1
one_width = (omega arith, omega arith)

module _ (s : Scope) (im : Images) (g : Graph) (ob : CodeObject) (y : Select) (e : Expression) (i : Operand) (q : PartBits) (k : ℕ) (l : IsLoweredAlone s im g (tree_of e) i.width i.id.0) (t : i.signed ≡ sign_at s (tree_of e)) where
  pub index_taken : (a : Box Expression Global) → y ≡ Index a → e ≡ a.value → q ≡ Moving (record { object = ob; back = 0; count = 1 }) i → k ≡ 1 → IsTakenBy s im g (object_of ob) (select_of y) q k
  index_taken a is j is_q is_k =
      subst (λ z. IsTakenBy s im g (object_of ob) (select_of z) q k) (sym is) (subst (λ z. IsTakenBy s im g (object_of ob) (index (tree_of z)) q k) j
      (taken_moving s im g ob (index (tree_of e)) (tree_of e) i 0 1 q k l t (omega arith) one_width is_q is_k (λ v. index-bits s v (object_of ob) (tree_of e))))

  pub up_taken : (a d : Box Expression Global) → y ≡ PartUp a d → e ≡ a.value → (f : Expression) → f ≡ d.value → (n : ℕ) → n ≡ count_at s (tree_of f) → IsWidth n
      → q ≡ Moving (record { object = ob; back = cond (nat_le ob.right ob.left) 0 (n - 1); count = n }) i → k ≡ n → IsTakenBy s im g (object_of ob) (select_of y) q k
  up_taken a d is j f m n is_n width is_q is_k =
      let b : ℕ = cond (nat_le ob.right ob.left) 0 (n - 1) in
      subst (λ z. IsTakenBy s im g (object_of ob) (select_of z) q k) (sym is)
      (subst (λ z. IsTakenBy s im g (object_of ob) (part_up (tree_of a.value) (tree_of z)) q k) m (subst (λ z. IsTakenBy s im g (object_of ob) (part_up (tree_of z) (tree_of f)) q k) j
      (taken_moving s im g ob (part_up (tree_of e) (tree_of f)) (tree_of e) i b n q k l t (few_up (nat_le ob.right ob.left) b n refl width.1) width is_q is_k
      (λ v. up-bits s v (object_of ob) (tree_of e) (tree_of f) n b is_n width.0 refl))))

  pub down_taken : (a d : Box Expression Global) → y ≡ PartDown a d → e ≡ a.value → (f : Expression) → f ≡ d.value → (n : ℕ) → n ≡ count_at s (tree_of f) → IsWidth n
      → q ≡ Moving (record { object = ob; back = cond (nat_le ob.right ob.left) (n - 1) 0; count = n }) i → k ≡ n → IsTakenBy s im g (object_of ob) (select_of y) q k
  down_taken a d is j f m n is_n width is_q is_k =
      let b : ℕ = cond (nat_le ob.right ob.left) (n - 1) 0 in
      subst (λ z. IsTakenBy s im g (object_of ob) (select_of z) q k) (sym is)
      (subst (λ z. IsTakenBy s im g (object_of ob) (part_down (tree_of a.value) (tree_of z)) q k) m (subst (λ z. IsTakenBy s im g (object_of ob) (part_down (tree_of z) (tree_of f)) q k) j
      (taken_moving s im g ob (part_down (tree_of e) (tree_of f)) (tree_of e) i b n q k l t (few_down (nat_le ob.right ob.left) b n refl width.1) width is_q is_k
      (λ v. down-bits s v (object_of ob) (tree_of e) (tree_of f) n b is_n width.0 refl))))

-- between two bounds, which are constants
bounded_meant : (s : Scope) (o : Object) (x : pure.Select) → IsBounded x → (v : Valuation) → select_bits s no_values o x ≡ select_bits s v o x
bounded_meant s o (part h l) i v = refl
bounded_meant s o (index j) i v = absurd i
bounded_meant s o (part_up h l) i v = absurd i
bounded_meant s o (part_down h l) i v = absurd i

pub known_taken : (s : Scope) (im : Images) (g : Graph) (o : Object) (y : Select) (a d : Box Expression Global) (b : Span) (q : PartBits) (k : ℕ) → y ≡ Part a d → span_of b ≡ select_bits s no_values o (select_of y) → IsWidth b.count → q ≡ Known b → k ≡ b.count
    → IsTakenBy s im g o (select_of y) q k
known_taken s im g o y a d b q k is e width is_q is_k =
    subst (λ z. IsTakenBy s im g o (select_of y) z k) (sym is_q) (subst (λ z. IsTakenBy s im g o (select_of y) (Known b) z) (sym is_k)
    (record {
      bits = refl;
      width = width;
      count = ap (λ (z : Bits). z.count) e;
      index = λ p v st. tt;
      meant = λ p v st. e ∙ bounded_meant s o (select_of y) (subst (λ z. IsBounded (select_of z)) (sym is) tt) v;
    }))

-- ---- a name with selects

module _ (s : Scope) (im : Images) (n : Name) where
  pub whole_selected : (g : Graph) (x : Selects) (k : ℕ) → x ≡ Whole → IsNameSound s n (selects_of x) → k ≡ object_width (s n) → IsSelectedBy s im g n (selects_of x) None All k
  whole_selected g x k is h e =
      subst (λ z. IsSelectedBy s im g n (selects_of z) None All k) (sym is)
      (let f = subst (λ z. IsNameSound s n (selects_of z)) is h in
      record { memory = f.sound; address = tt; bits = e; width = subst IsWidth (sym e) f.width; count = e; indexes = λ p v st. (tt, tt); meant = λ p v st. refl })

  pub word_selected : (g : Graph) (x : pure.Select) (a : Operand) (k : ℕ) → IsNameSound s n (one x) → is_memory (s n) ≡ true → IsIndexOf s im g x a → k ≡ object_width (s n) → IsSelectedBy s im g n (one x) (Some a) All k
  word_selected g x a k h m i e =
      let w : selects_width s (s n) (one x) ≡ object_width (s n) = ap (λ b. cond b (object_width (s n)) (select_bits s no_values (s n) x).count) m in
      record {
        memory = m;
        address = i.of_sort;
        bits = e;
        width = subst IsWidth (w ∙ sym e) h.width;
        count = e ∙ sym w;
        indexes = λ p v st. (i.number p v st, tt);
        meant = λ p v st.
            ap (λ b. cond b (record { of_name = n; cell = indexed_cell (s n) (select_index s v x); bits = all_bits (s n) }) (record { of_name = n; cell = variable_cell; bits = select_bits s v (s n) x })) m
            ∙ ap (λ z. record { of_name = n; cell = indexed_cell (s n) z; bits = all_bits (s n) }) (sym (i.meant p v st));
      }

  pub bits_selected : (g : Graph) (x : pure.Select) (o : Object) (q : PartBits) (k : ℕ) → o ≡ s n → is_memory (s n) ≡ false → IsTakenBy s im g o x q k → IsSelectedBy s im g n (one x) None q k
  bits_selected g x o q k e m t0 =
      let t = subst (λ z. IsTakenBy s im g z x q k) e t0 in
      record {
        memory = m;
        address = tt;
        bits = t.bits;
        width = t.width;
        count = t.count ∙ sym (ap (λ b. cond b (object_width (s n)) (select_bits s no_values (s n) x).count) m);
        indexes = λ p v st. (tt, t.index p v st);
        meant = λ p v st.
            ap (λ b. cond b (record { of_name = n; cell = indexed_cell (s n) (select_index s v x); bits = all_bits (s n) }) (record { of_name = n; cell = variable_cell; bits = select_bits s v (s n) x })) m
            ∙ ap (λ z. record { of_name = n; cell = variable_cell; bits = z }) (sym (t.meant p v st));
      }

  pub both_selected : (g h : Graph) (x : Selects) (y z : Select) (o : Object) (a : Operand) (q : PartBits) (k : ℕ) → x ≡ Two y z → IsNameSound s n (selects_of x) → o ≡ s n → HasImages s im g → Grows g h
      → IsIndexOf s im g (select_of y) a → IsTakenBy s im h o (select_of z) q k → IsSelectedBy s im h n (selects_of x) (Some a) q k
  both_selected g h x y z o a q k is sound e known gh i t0 =
      subst (λ w. IsSelectedBy s im h n (selects_of w) (Some a) q k) (sym is)
      (let f = subst (λ w. IsNameSound s n (selects_of w)) is sound in
      let t = subst (λ w. IsTakenBy s im h w (select_of z) q k) e t0 in
      record {
        memory = f.sound.0;
        address = IsOfSort-kept a.id.0 (word a.width) gh i.of_sort;
        bits = t.bits;
        width = t.width;
        count = t.count;
        indexes = λ p v st. ((address_there g h gh (s n) p (Some a) i.of_sort (i.number p v (stands_before s im g h p v gh known st))).0, t.index p v st);
        meant = λ p v st.
            let st0 = stands_before s im g h p v gh known st in
            let c = (address_there g h gh (s n) p (Some a) i.of_sort (i.number p v st0)).1 in
            (λ j. record { of_name = n; cell = (ap (indexed_cell (s n)) (sym (i.meant p v st0)) ∙ sym c) j; bits = sym (t.meant p v st) j });
      })

-- ---- parts that are added

counts-append : (qs rs : List CodePart) → counts (qs ++ rs) ≡ counts qs + counts rs
counts-append [] rs = omega arith
counts-append (q ∷ qs) rs = let e = counts-append qs rs in omega (arith, e)

parts-append : (s : Scope) (g : Graph) (qs : List CodePart) (q : CodePart) → AreParts s g qs → IsPart s g q → AreParts s g (qs ++ q ∷ [])
parts-append s g [] q h k = (k, tt)
parts-append s g (r ∷ qs) q h k = (h.0, parts-append s g qs q h.1 k)

indexes-append : (g : Graph) (p : Valuation) (qs : List CodePart) (q : CodePart) → HaveIndexes g p qs → HasAddress g p q.address × HaveIndex g p q.bits → HaveIndexes g p (qs ++ q ∷ [])
indexes-append g p [] q h k = (k, tt)
indexes-append g p (r ∷ qs) q h k = (h.0, indexes-append g p qs q h.1 k)

places-append : (s : Scope) (g : Graph) (p : Valuation) (qs rs : List CodePart) → places_meant s g p (qs ++ rs) ≡ places_meant s g p qs ++ places_meant s g p rs
places-append s g p [] rs = refl
places-append s g p (q ∷ qs) rs = ap (λ z. place_meant s g p q ∷ z) (places-append s g p qs rs)

pub one_prepared : (s : Scope) (im : Images) (g h : Graph) (old new : List CodePart) (q : CodePart) (x : pure.Selects) → HasImages s im g → Grows g h → AreParts s g old → has_sort (s q.name.now) ≡ true → (s q.name.now).constant ≡ None
    → IsSelectedBy s im h q.name.now x q.address q.bits q.count → new ≡ old ++ q ∷ [] → ArePrepared s im g old (place q.name.now x) h new
one_prepared s im g h old new q x known gh parts sort variable f is_new =
    subst (λ z. ArePrepared s im g old (place q.name.now x) h z) (sym is_new)
    (record {
      parts = parts-append s h old q (parts_kept g h gh s old parts) (record { sort = sort; variable = variable; memory = f.memory; address = f.address; bits = f.bits; width = f.width });
      width = (let e = counts-append old (q ∷ []) in omega (arith, e, f.count));
      indexes = λ p v st k. indexes-append h p old q (places_kept g h gh s old p parts k).0 (f.indexes p v st);
      places = λ p v st k.
          places-append s h p old (q ∷ []) ∙ (λ i. (places_kept g h gh s old p parts k).1 i ++ sym (f.meant p v st) i ∷ []);
    })

-- ---- targets one after the other

module _ (s : Scope) (im : Images) (g : Graph) (old : List CodePart) (all : pure.Targets) where
  pub preparing_begun : AreParts s g old → ArePreparing s im g old all g old all
  preparing_begun parts = record { grows = Grows-refl g; parts = parts; width = refl; indexes = λ p v st k. k; places = λ p v st k. refl }

  pub preparing_more : (h k : Graph) (mid new : List CodePart) (t : pure.Target) (rest : pure.Targets) → HasImages s im h → ArePreparing s im g old all h mid (target t rest) → Grows h k → ArePrepared s im h mid t k new
      → ArePreparing s im g old all k new rest
  preparing_more h k mid new t rest known so hk a =
      record {
        grows = Grows-trans so.grows hk;
        parts = a.parts;
        width = (let e = so.width in let f = a.width in omega (arith, e, f));
        indexes = λ p v st i. a.indexes p v st (so.indexes p v (stands_before s im h k p v hk known st) i);
        places = λ p v st i.
            let st0 = stands_before s im h k p v hk known st in
            ap (λ z. z ++ all_places s v rest) (a.places p v st (so.indexes p v st0 i))
            ∙ (append_assoc (places_meant s h p mid) (places s v t) (all_places s v rest) ∙ so.places p v st0 i);
      }

  pub preparing_ended : (h : Graph) (new : List CodePart) (rest : pure.Targets) → rest ≡ no_targets → ArePreparing s im g old all h new rest → ArePrepared s im g old (pure.joined all) h new
  preparing_ended h new rest is so0 =
      let so = subst (λ z. ArePreparing s im g old all h new z) is so0 in
      record {
        parts = so.parts;
        width = (let e = so.width in omega (arith, e));
        indexes = so.indexes;
        places = λ p v st i. sym (append-nil (places_meant s h p new)) ∙ so.places p v st i;
      }

-- ---- an assignment

pub assignment_prepared : (s : Scope) (im : Images) (f g h : Graph) (t : pure.Target) (e : pure.Expression) (qs : List CodePart) (id w : ℕ) → HasImages s im g → Grows g h → w ≡ counts qs → ArePrepared s im f [] t g qs
    → IsOfSort h id (word w) → ((p v : Valuation) → StandsFor s im h p v → HasNumber h id w p (assigned_value s v w e)) → IsPrepared s im h t e qs id w
assignment_prepared s im f g h t e qs id w known gh is_w a sort worth_of =
    let more = a.width in
    let wide : w ≡ target_width s t = omega (arith, is_w, more) in
    record {
      parts = parts_kept g h gh s qs a.parts;
      width = is_w;
      of_sort = sort;
      indexes = λ p v st. (places_kept g h gh s qs p a.parts (a.indexes p v (stands_before s im g h p v gh known st) tt)).0;
      places = λ p v st.
          let st0 = stands_before s im g h p v gh known st in
          (places_kept g h gh s qs p a.parts (a.indexes p v st0 tt)).1 ∙ a.places p v st0 tt;
      value = λ p v st. subst (λ z. HasNumber h id w p (assigned_value s v z e)) wide (worth_of p v st);
    }

pub assignment_width : (s : Scope) (im : Images) (g h : Graph) (t : pure.Target) (qs : List CodePart) → ArePrepared s im g [] t h qs → counts qs ≡ target_width s t
assignment_width s im g h t qs a = let e = a.width in omega (arith, e)
