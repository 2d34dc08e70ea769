-- Entries under dotted names in place of what they are called in one scope.
use Rattle.std.proofs.Common.{◌≡◌, ◌∙◌, ℕ, zero, suc, refl, ap, sym, subst, Bool, true, false, cond, take, drop, length, map, List, [], ◌∷◌, inl, inr, Some, None, is_some}
use Rattle.std.proofs.lemmas.Bool.{false≢true, true≢false}
use Rattle.wb_values.specs.Value.{Name, same_name, Sort, Value, Entries, entry_of, Valuation, value_or_zero, valuation_of}
use Rattle.wb_terms.specs.Graph.{HasDistinctNames}
use Rattle.wb_terms.specs.Renamed.{renamed}
use Rattle.wb_terms.specs.Environment.{AreOfSorts, values_by_name}
use Rattle.verilog_meaning.specs.Hierarchy.{Placed, dotted}
use Rattle.verilog_meaning.specs.Settled.{Design, IsPlacedIn, IsDeclared, names_of}
use Rattle.verilog_unique.proofs.Options.{same_is, is_same, not_true}
use Rattle.verilog_unique.proofs.Descent.{IsAmong}
use Rattle.flat_designs.specs.Flat.{Naming, IsNaming}
use Rattle.v_design.specs.Registers.{CountedBits}
use Rattle.v_design.specs.Parts.{under_names}
use Rattle.v_elab.specs.Told.{AreToldBy, AreCalledNets}
use Rattle.v_elab.proofs.FlatNames.{IsNetOf}

-- ---- parts of lists

pub take_renamed : (k : ℕ) (ns : List Name) (es : Entries Sort) → length ns ≡ length es → take k (renamed ns es) ≡ renamed (take k ns) (take k es)
take_renamed zero ns es h = refl
take_renamed (suc k) [] es h = refl
take_renamed (suc k) (n ∷ ns) [] h = cc
take_renamed (suc k) (n ∷ ns) (e ∷ es) h = ap (λ xs. (n, e.1) ∷ xs) (take_renamed k ns es (one h))
  where
    one : suc (length ns) ≡ suc (length es) → length ns ≡ length es
    one q = cc

pub drop_renamed : (k : ℕ) (ns : List Name) (es : Entries Sort) → length ns ≡ length es → drop k (renamed ns es) ≡ renamed (drop k ns) (drop k es)
drop_renamed zero ns es h = refl
drop_renamed (suc k) [] es h = refl
drop_renamed (suc k) (n ∷ ns) [] h = cc
drop_renamed (suc k) (n ∷ ns) (e ∷ es) h = drop_renamed k ns es (one h)
  where
    one : suc (length ns) ≡ suc (length es) → length ns ≡ length es
    one q = cc

pub names_renamed : (ns : List Name) (es : Entries Sort) → length ns ≡ length es → names_of (renamed ns es) ≡ ns
names_renamed [] es h = refl
names_renamed (n ∷ ns) [] h = cc
names_renamed (n ∷ ns) (e ∷ es) h = ap (λ xs. n ∷ xs) (names_renamed ns es (one h))
  where
    one : suc (length ns) ≡ suc (length es) → length ns ≡ length es
    one q = cc

-- values for the sorts of one table are values for those of the other
pub sorts_renamed : (ns : List Name) (es : Entries Sort) (xs : List Value) → length ns ≡ length es → AreOfSorts (renamed ns es) xs → AreOfSorts es xs
sorts_renamed [] [] xs h k = k
sorts_renamed [] (e ∷ es) xs h k = cc
sorts_renamed (n ∷ ns) [] xs h k = cc
sorts_renamed (n ∷ ns) (e ∷ es) [] h k = absurd k
sorts_renamed (n ∷ ns) (e ∷ es) (x ∷ xs) h k = (k.0, sorts_renamed ns es xs (one h) k.1)
  where
    one : suc (length ns) ≡ suc (length es) → length ns ≡ length es
    one q = cc

module _ (d : Design) (called : Naming) where
  -- what is called so has this dotted name
  abbrev pub IsTold : Name → Name → Type 0
  IsTold n m = (p : Placed) (k : Name) → IsPlacedIn d p → IsDeclared p k → called p.path k ≡ n → m ≡ dotted p.path k

  pub told_length : (ns ms : List Name) → AreToldBy d called ns ms → length ms ≡ length ns
  told_length [] [] h = refl
  told_length [] (m ∷ ms) h = absurd h
  told_length (n ∷ ns) [] h = absurd h
  told_length (n ∷ ns) (m ∷ ms) h = ap suc (told_length ns ms h.1)

  pub take_told : (k : ℕ) (es : Entries Sort) (ms : List Name) → AreToldBy d called (names_of es) ms → AreToldBy d called (names_of (take k es)) (take k ms)
  take_told zero es ms h = tt
  take_told (suc k) [] [] h = tt
  take_told (suc k) [] (m ∷ ms) h = absurd h
  take_told (suc k) (e ∷ es) [] h = absurd h
  take_told (suc k) (e ∷ es) (m ∷ ms) h = (h.0, take_told k es ms h.1)

  pub drop_told : (k : ℕ) (es : Entries Sort) (ms : List Name) → AreToldBy d called (names_of es) ms → AreToldBy d called (names_of (drop k es)) (drop k ms)
  drop_told zero es ms h = h
  drop_told (suc k) [] [] h = tt
  drop_told (suc k) [] (m ∷ ms) h = absurd h
  drop_told (suc k) (e ∷ es) [] h = absurd h
  drop_told (suc k) (e ∷ es) (m ∷ ms) h = drop_told k es ms h.1

  -- ---- from one table to the other

  pub from_renamed : (ns : List Name) (es : Entries Sort) → AreToldBy d called (names_of es) ns → (n : Name) (t : Sort) → IsAmong (renamed ns es) (n, t)
      → (m : Name) × IsAmong es (m, t) × IsTold m n
  from_renamed [] [] h n t g = absurd g
  from_renamed [] (e ∷ es) h n t g = absurd h
  from_renamed (x ∷ ns) [] h n t g = absurd h
  from_renamed (x ∷ ns) (e ∷ es) h n t (inl q) =
      (e.0, inl (ap (λ (s : Sort). (e.0, s)) (ap (λ (z : Name × Sort). z.1) q)), subst (IsTold e.0) (ap (λ (z : Name × Sort). z.0) q) h.0)
  from_renamed (x ∷ ns) (e ∷ es) h n t (inr g) = let r = from_renamed ns es h.1 n t g in (r.0, inr r.1, r.2)

  pub to_renamed : (ns : List Name) (es : Entries Sort) → AreToldBy d called (names_of es) ns → (m : Name) (t : Sort) → IsAmong es (m, t)
      → (n : Name) × IsAmong (renamed ns es) (n, t) × IsTold m n
  to_renamed ns [] h m t g = absurd g
  to_renamed [] (e ∷ es) h m t g = absurd h
  to_renamed (x ∷ ns) (e ∷ es) h m t (inl q) =
      (x, inl (ap (λ (s : Sort). (x, s)) (ap (λ (z : Name × Sort). z.1) q)), subst (λ k. IsTold k x) (ap (λ (z : Name × Sort). z.0) q) h.0)
  to_renamed (x ∷ ns) (e ∷ es) h m t (inr g) = let r = to_renamed ns es h.1 m t g in (r.0, inr r.1, r.2)

  pub bits_renamed : (ns : List Name) (es : Entries Sort) (cs : List CountedBits) → AreToldBy d called (names_of es) ns → (n : Name) (c : CountedBits)
      → IsAmong (under_names (renamed ns es) cs) (n, c) → (m : Name) × (t : Sort) × IsAmong es (m, t) × IsAmong (under_names es cs) (m, c) × IsTold m n
  bits_renamed [] [] cs h n c g = absurd g
  bits_renamed [] (e ∷ es) cs h n c g = absurd h
  bits_renamed (x ∷ ns) [] cs h n c g = absurd h
  bits_renamed (x ∷ ns) (e ∷ es) [] h n c g = absurd g
  bits_renamed (x ∷ ns) (e ∷ es) (b ∷ cs) h n c (inl q) = (
    e.0,
    e.1,
    inl refl,
    inl (ap (λ (k : CountedBits). (e.0, k)) (ap (λ (z : Name × CountedBits). z.1) q)),
    subst (IsTold e.0) (ap (λ (z : Name × CountedBits). z.0) q) h.0,
  )
  bits_renamed (x ∷ ns) (e ∷ es) (b ∷ cs) h n c (inr g) = let r = bits_renamed ns es cs h.1 n c g in (r.0, r.1, inr r.2, inr r.3, r.4)

  -- ---- nets

  abbrev pub AreNets : Entries Sort → Type 0
  AreNets es = (m : Name) (t : Sort) → IsAmong es (m, t) → IsNetOf d called m

  pub called_nets : (es : Entries Sort) → AreNets es → AreCalledNets d called es
  called_nets [] nets = tt
  called_nets (e ∷ es) nets =
      let n = nets e.0 e.1 (inl refl) in
      ((n.place, n.of_name, n.is_placed, n.is_declared, n.same), called_nets es (λ m t g. nets m t (inr g)))

  pub nets_called : (es : Entries Sort) → AreCalledNets d called es → AreNets es
  nets_called [] h m t g = absurd g
  nets_called (e ∷ es) h m t (inl q) =
      record {
        place = h.0.0;
        of_name = h.0.1;
        is_placed = h.0.2;
        is_declared = h.0.3;
        same = h.0.4 ∙ ap (λ (z : Name × Sort). z.0) q;
      }
  nets_called (e ∷ es) h m t (inr g) = nets_called es h.1 m t g

  -- ---- values

  -- Under r each net has what it has under v by its dotted name.
  abbrev pub IsSeen : (v r : Valuation) → Type 0
  IsSeen v r = (p : Placed) (k : Name) → IsPlacedIn d p → r (called p.path k) ≡ v (dotted p.path k)

  told_value : (v r : Valuation) → IsSeen v r → (m n : Name) → IsNetOf d called m → IsTold m n → v n ≡ r m
  told_value v r seen m n net told =
      ap v (told net.place net.of_name net.is_placed net.is_declared net.same) ∙ sym (seen net.place net.of_name net.is_placed) ∙ ap r net.same

  pub values_told : (v r : Valuation) → IsSeen v r → (ns : List Name) (es : Entries Sort) → AreToldBy d called (names_of es) ns → AreNets es
      → map (λ e. v e.0) (renamed ns es) ≡ map (λ e. r e.0) es
  values_told v r seen [] [] h nets = refl
  values_told v r seen [] (e ∷ es) h nets = absurd h
  values_told v r seen (n ∷ ns) [] h nets = absurd h
  values_told v r seen (n ∷ ns) (e ∷ es) h nets =
      let first : v n ≡ r e.0 = told_value v r seen e.0 n (nets e.0 e.1 (inl refl)) h.0 in
      let rest = values_told v r seen ns es h.1 (λ m t g. nets m t (inr g)) in
      λ i. first i ∷ rest i

  module _ (naming : IsNaming d called) (dots : IsNaming d dotted) where
    -- two nets are called alike exactly where they have one dotted name
    called_alike : (p q : Placed) (n m : Name) → IsPlacedIn d p → IsPlacedIn d q → IsDeclared p n → IsDeclared q m
        → same_name (called p.path n) (called q.path m) ≡ same_name (dotted p.path n) (dotted q.path m)
    called_alike p q n m at to is it = by (same_name (called p.path n) (called q.path m)) refl
      where
        by : (t : Bool) → same_name (called p.path n) (called q.path m) ≡ t → same_name (called p.path n) (called q.path m) ≡ same_name (dotted p.path n) (dotted q.path m)
        by true e =
            let r = naming.tells p q n m at to (inl is) (inl it) (same_is (called p.path n) (called q.path m) e) in
            let one : dotted p.path n ≡ dotted q.path m = λ i. dotted (r.0 i) (r.1 i) in
            e ∙ sym (ap (same_name (dotted p.path n)) (sym one) ∙ is_same (dotted p.path n))
        by false e = e ∙ sym (not_true (same_name (dotted p.path n) (dotted q.path m)) (λ t.
            let r = dots.tells p q n m at to (inl is) (inl it) (same_is (dotted p.path n) (dotted q.path m) t) in
            let one : called p.path n ≡ called q.path m = λ i. called (r.0 i) (r.1 i) in
            true≢false (sym (ap (same_name (called p.path n)) (sym one) ∙ is_same (called p.path n)) ∙ e)))

    -- what stands under the dotted name in the one table is what stands in the other under what it is called
    pub found_told : (ns : List Name) (es : Entries Sort) (xs : List Value) → AreToldBy d called (names_of es) ns → AreNets es → (p : Placed) (n : Name) → IsPlacedIn d p
        → IsDeclared p n → entry_of (values_by_name (renamed ns es) xs) (dotted p.path n) ≡ entry_of (values_by_name es xs) (called p.path n)
    found_told [] [] xs h nets p n at is = refl
    found_told [] (e ∷ es) xs h nets p n at is = absurd h
    found_told (x ∷ ns) [] xs h nets p n at is = absurd h
    found_told (x ∷ ns) (e ∷ es) [] h nets p n at is = refl
    found_told (x ∷ ns) (e ∷ es) (y ∷ xs) h nets p n at is =
        let net = nets e.0 e.1 (inl refl) in
        let told : x ≡ dotted net.place.path net.of_name = h.0 net.place net.of_name net.is_placed net.is_declared net.same in
        let test : same_name x (dotted p.path n) ≡ same_name e.0 (called p.path n) =
        ap (λ k. same_name k (dotted p.path n)) told ∙ sym (called_alike net.place p net.of_name n net.is_placed at net.is_declared is)
        ∙ ap (λ k. same_name k (called p.path n)) net.same in
        let rest = found_told ns es xs h.1 (λ m t g. nets m t (inr g)) p n at is in
        λ i. cond (test i) (Some y) (rest i)

    pub value_told : (ns : List Name) (es : Entries Sort) (xs : List Value) → AreToldBy d called (names_of es) ns → AreNets es → (p : Placed) (n : Name) → IsPlacedIn d p
        → IsDeclared p n → valuation_of (values_by_name (renamed ns es) xs) (dotted p.path n) ≡ valuation_of (values_by_name es xs) (called p.path n)
    value_told ns es xs h nets p n at is = ap value_or_zero (found_told ns es xs h nets p n at is)

    -- ---- names

    none_told : (ns : List Name) (es : Entries Sort) → AreToldBy d called (names_of es) ns → AreNets es → (p : Placed) (n : Name) → IsPlacedIn d p → IsDeclared p n
        → entry_of es (called p.path n) ≡ None → entry_of (renamed ns es) (dotted p.path n) ≡ None
    none_told [] [] h nets p n at is free = refl
    none_told [] (e ∷ es) h nets p n at is free = absurd h
    none_told (x ∷ ns) [] h nets p n at is free = absurd h
    none_told (x ∷ ns) (e ∷ es) h nets p n at is free =
        let net = nets e.0 e.1 (inl refl) in
        let told : x ≡ dotted net.place.path net.of_name = h.0 net.place net.of_name net.is_placed net.is_declared net.same in
        let test : same_name x (dotted p.path n) ≡ same_name e.0 (called p.path n) =
        ap (λ k. same_name k (dotted p.path n)) told ∙ sym (called_alike net.place p net.of_name n net.is_placed at net.is_declared is)
        ∙ ap (λ k. same_name k (called p.path n)) net.same in
        by (same_name e.0 (called p.path n)) test free (none_told ns es h.1 (λ m t g. nets m t (inr g)) p n at is)
      where
        by : (t : Bool) → same_name x (dotted p.path n) ≡ t → cond t (Some e.1) (entry_of es (called p.path n)) ≡ None
            → (entry_of es (called p.path n) ≡ None → entry_of (renamed ns es) (dotted p.path n) ≡ None)
            → cond (same_name x (dotted p.path n)) (Some e.1) (entry_of (renamed ns es) (dotted p.path n)) ≡ None
        by true test g later = absurd (false≢true (sym (ap is_some g)))
        by false test g later = ap (λ t. cond t (Some e.1) (entry_of (renamed ns es) (dotted p.path n))) test ∙ later g

    -- what has different names has different dotted names
    pub distinct_told : (ns : List Name) (es : Entries Sort) → AreToldBy d called (names_of es) ns → AreNets es → HasDistinctNames es → HasDistinctNames (renamed ns es)
    distinct_told [] [] h nets k = tt
    distinct_told [] (e ∷ es) h nets k = absurd h
    distinct_told (x ∷ ns) [] h nets k = absurd h
    distinct_told (x ∷ ns) (e ∷ es) h nets k =
        let net = nets e.0 e.1 (inl refl) in
        let told : dotted net.place.path net.of_name ≡ x = sym (h.0 net.place net.of_name net.is_placed net.is_declared net.same) in (
          subst (λ z. entry_of (renamed ns es) z ≡ None) told
              (none_told ns es h.1 (λ m t g. nets m t (inr g)) net.place net.of_name net.is_placed net.is_declared (subst (λ z. entry_of es z ≡ None) (sym net.same) k.0)),
          distinct_told ns es h.1 (λ m t g. nets m t (inr g)) k.1,
        )
