-- Parts of a target, written from the right.
use Rattle.std.proofs.Common.{◌≡◌, ℕ, zero, suc, ◌+◌, ◌-◌, ◌/◌, ◌%◌, ◌^◌, ◌<◌, ◌≤◌, Bool, true, false, cond, List, [], ◌∷◌, length, drop, get_or, Option, refl, ap, sym, subst, ◌∙◌, arith, add_comm}
use Rattle.std.proofs.Math.Seq.{drop-cons}
use Rattle.std.proofs.Math.Nat.{mod-eq_of_lt, div-one}
use Rattle.wb_values.specs.Value.{word, Valuation}
use Rattle.wb_values.specs.Number.{word_extract}
use Rattle.verilog_meaning.specs.Expression.{Scope}
use Rattle.verilog_meaning.specs.Statement.{written, written_place, places_width}
use Rattle.wb_terms.specs.Graph.{Graph}
use Rattle.wb_terms.specs.declared.nodes.TermId.{TermId}
use Rattle.v_operators.specs.Meaning.{Grows, IsOfSort, HasNumber, Makes}
use Rattle.v_operators.proofs.Growing.{Grows-refl, Grows-trans, number_kept}
use Rattle.v_lower.specs.Lowered.{Images, HasImages, StandsFor}
use Rattle.v_write.specs.declared.part.Part.{Part}
use Rattle.v_write.specs.Parts.{place_meant, places_meant, counts, IsPart, AreParts, HasIndexes, HaveIndexes}
use Rattle.v_write.specs.Guard.{IsGuard, Guards}
use Rattle.v_write.specs.Written.{IsPartWritten, ArePartsWritten}
use Rattle.v_write.specs.Turns.{IsWriting}
use Rattle.v_write.proofs.Written.{written_more, written_all}
use Rattle.v_write.proofs.Stands.{stands_after}
use Rattle.v_write.proofs.Kept.{guard_kept, place_kept, part_count, parts_count}

-- ---- pieces of a number

pub piece_made : (g h : Graph) (x w id low n : ℕ) → 1 ≤ n → Makes g h x w id (low + n - 1 + 1 - low) (word_extract (low + n - 1) low) → Makes g h x w id n (λ a. a / 2 ^ low % 2 ^ n)
piece_made g h x w id low n some m =
    let e : low + n - 1 + 1 - low ≡ n = omega (arith, some) in
    subst (λ k. Makes g h x w id k (λ a. a / 2 ^ low % 2 ^ k)) e m

pub piece_whole : (g : Graph) (x w low n : ℕ) → IsOfSort g x (word w) → n ≡ w → low + n ≤ w → Makes g g x w x n (λ a. a / 2 ^ low % 2 ^ n)
piece_whole g x w low n o e l =
    let z : low ≡ 0 = omega (arith, e, l) in
    subst (λ k. Makes g g x w x k (λ a. a / 2 ^ low % 2 ^ k)) (sym e)
    (subst (λ k. Makes g g x w x w (λ a. a / 2 ^ k % 2 ^ w)) (sym z)
    (record {
      of_sort = o;
      value = λ p a is_a. subst (λ k. HasNumber g x w p k) (sym (ap (λ k. k % 2 ^ w) (div-one a) ∙ mod-eq_of_lt {n = a} {m = 2 ^ w} is_a.fits)) is_a;
    }))

-- ---- the parts of a list

pub part_at : (s : Scope) (g : Graph) (qs : List Part) (d : Part) (i : ℕ) → i < length qs → AreParts s g qs → IsPart s g (get_or qs i d)
part_at s g [] d i h k = absurd (omega (arith, h))
part_at s g (q ∷ qs) d zero h k = k.0
part_at s g (q ∷ qs) d (suc i) h k = part_at s g qs d i (omega (arith, h)) k.1

pub indexes_at : (g : Graph) (p : Valuation) (qs : List Part) (d : Part) (i : ℕ) → i < length qs → HaveIndexes g p qs → HasIndexes g p (get_or qs i d)
indexes_at g p [] d i h k = absurd (omega (arith, h))
indexes_at g p (q ∷ qs) d zero h k = k.0
indexes_at g p (q ∷ qs) d (suc i) h k = indexes_at g p qs d i (omega (arith, h)) k.1

parts_from : (s : Scope) (g : Graph) (qs : List Part) (i : ℕ) → AreParts s g qs → AreParts s g (drop i qs)
parts_from s g qs zero k = k
parts_from s g [] (suc i) k = k
parts_from s g (q ∷ qs) (suc i) k = parts_from s g qs i k.1

counts_from : (qs : List Part) (i : ℕ) → counts (drop i qs) ≤ counts qs
counts_from qs zero = omega arith
counts_from [] (suc i) = omega arith
counts_from (q ∷ qs) (suc i) = let l = counts_from qs i in omega (arith, l)

counts_more : (qs : List Part) (d : Part) (m : ℕ) → m < length qs → counts (drop m qs) ≡ (get_or qs m d).count + counts (drop (suc m) qs)
counts_more qs d m h = ap counts (drop-cons qs m d h)

-- the piece that comes next is within the number
pub next_within : (qs : List Part) (d : Part) (m i j low w : ℕ) → m < length qs → i ≡ suc m → j ≡ m → low ≡ counts (drop i qs) → w ≡ counts qs → low + (get_or qs j d).count ≤ w
next_within qs d m i j low w h is_i is_j is_low is_w =
    let e = counts_more qs d m h in
    let l = counts_from qs m in
    let a : (get_or qs j d).count ≡ (get_or qs m d).count = ap (λ k. (get_or qs k d).count) is_j in
    let b : low ≡ counts (drop (suc m) qs) = is_low ∙ ap (λ k. counts (drop k qs)) is_i in
    omega (arith, e, l, a, b, is_w)

-- ---- one turn

module _ (s : Scope) (a : Images) (g : Graph) (guard : Option TermId) (qs : List Part) (number w : ℕ) (parts : AreParts s g qs) (there : IsGuard g guard) (sort : IsOfSort g number (word w)) where
  pub begun : HasImages s a g → (i : ℕ) → i ≡ length qs → (low : ℕ) → low ≡ 0 → IsWriting s a g guard qs number w (drop i qs) low a g
  begun known i is_i low is_low =
      let none : drop i qs ≡ [] = ap (λ k. drop k qs) is_i ∙ gone qs in
      record {
        grows = Grows-refl g;
        known = known;
        names = λ n. refl;
        lowest = is_low ∙ sym (ap counts none);
        stands = λ p v x c st indexes is_x is_c. subst (λ z. StandsFor s a g p z) (sym (nothing p v x c low none)) st;
      } where
        gone : (rs : List Part) → drop (length rs) rs ≡ []
        gone [] = refl
        gone (r ∷ rs) = gone rs

        same : (v : Valuation) (c : Bool) → cond c v v ≡ v
        same v true = refl
        same v false = refl

        nothing : (p v : Valuation) (x : ℕ) (c : Bool) (low : ℕ) → drop i qs ≡ [] → cond c (written s v (places_meant s g p (drop i qs)) (x % 2 ^ low)) v ≡ v
        nothing p v x c low none = ap (λ rs. cond c (written s v (places_meant s g p rs) (x % 2 ^ low)) v) none ∙ same v c

  pub turned : (b e : Images) (h k l : Graph) (d : Part) (m i j low next bits : ℕ) → m < length qs → i ≡ suc m → j ≡ m → IsWriting s a g guard qs number w (drop i qs) low b h
      → Grows h k → Makes h k number w bits (get_or qs j d).count (λ x. x / 2 ^ low % 2 ^ (get_or qs j d).count)
      → Grows k l → IsPartWritten s b k guard (get_or qs j d) bits e l → next ≡ low + (get_or qs j d).count
      → IsWriting s a g guard qs number w (drop m qs) next e l
  turned b e h k l d m i j low next bits within is_i is_j so hk piece kl part is_next =
      record {
        grows = Grows-trans gk kl;
        known = part.known;
        names = λ n. part.names n ∙ so.names n;
        lowest = is_next ∙ (ap (λ z. z + (get_or qs j d).count) is_rest ∙ (add_comm (counts (drop (suc m) qs)) (get_or qs j d).count ∙ sym more));
        stands = λ p v x c st indexes is_x is_c. by p v x c st indexes is_x is_c;
      } where
        gh : Grows g h
        gh = so.grows

        gk : Grows g k
        gk = Grows-trans so.grows hk

        is_rest : low ≡ counts (drop (suc m) qs)
        is_rest = so.lowest ∙ ap (λ z. counts (drop z qs)) is_i

        more : counts (drop m qs) ≡ (get_or qs j d).count + counts (drop (suc m) qs)
        more = counts_more qs d m within ∙ ap (λ z. (get_or qs z d).count + counts (drop (suc m) qs)) (sym is_j)

        is_part : IsPart s g (get_or qs j d)
        is_part = part_at s g qs d j (subst (λ z. z < length qs) (sym is_j) within) parts

        shown : (p : Valuation) → drop m qs ≡ get_or qs j d ∷ drop (suc m) qs
        shown p = drop-cons qs m d within ∙ ap (λ z. get_or qs z d ∷ drop (suc m) qs) (sym is_j)

        after : (p v : Valuation) (x : ℕ) → written_place s (written s v (places_meant s g p (drop i qs)) (x % 2 ^ low)) (place_meant s g p (get_or qs j d)) (x / 2 ^ low % 2 ^ (get_or qs j d).count)
            ≡ written s v (places_meant s g p (drop m qs)) (x % 2 ^ next)
        after p v x =
            let pl = place_meant s g p (get_or qs j d) in
            let pls = places_meant s g p (drop (suc m) qs) in
            let wide : low ≡ places_width pls = is_rest ∙ parts_count s g p (drop (suc m) qs) (parts_from s g qs (suc m) parts) in
            let n : (get_or qs j d).count ≡ pl.bits.count = part_count s g p (get_or qs j d) is_part in
            let all : next ≡ places_width (pl ∷ pls) = is_next ∙ (add_comm low (get_or qs j d).count ∙ (λ z. n z + wide z)) in
            ap (λ z. written_place s (written s v (places_meant s g p (drop z qs)) (x % 2 ^ low)) pl (x / 2 ^ low % 2 ^ (get_or qs j d).count)) is_i
            ∙ (ap (λ z. written_place s (written s v pls (x % 2 ^ z)) pl (x / 2 ^ z % 2 ^ (get_or qs j d).count)) wide
            ∙ (ap (λ z. written_place s (written s v pls (x % 2 ^ places_width pls)) pl (x / 2 ^ places_width pls % 2 ^ z)) n
            ∙ (sym (written_more s v pl pls x)
            ∙ (ap (λ z. written s v (pl ∷ pls) (x % 2 ^ z)) (sym all)
            ∙ ap (λ rs. written s v (places_meant s g p rs) (x % 2 ^ next)) (sym (shown p))))))

        by : (p v : Valuation) (x : ℕ) (c : Bool) → StandsFor s a g p v → HaveIndexes g p qs → HasNumber g number w p x → Guards g p guard c
            → StandsFor s e l p (cond c (written s v (places_meant s g p (drop m qs)) (x % 2 ^ next)) v)
        by p v x c st indexes is_x is_c =
            let was = so.stands p v x c st indexes is_x is_c in
            let u : Valuation = cond c (written s v (places_meant s g p (drop i qs)) (x % 2 ^ low)) v in
            let own = indexes_at g p qs d j (subst (λ z. z < length qs) (sym is_j) within) indexes in
            let f = place_kept g k gk s (get_or qs j d) p is_part own in
            let y : ℕ = x / 2 ^ low % 2 ^ (get_or qs j d).count in
            let at : HasNumber k bits (get_or qs j d).count p y = piece.value p x (number_kept number w p x gh sort.below is_x) in
            let got : StandsFor s e l p (cond c (written_place s u (place_meant s k p (get_or qs j d)) y) u) =
            part.stands p u y c (stands_after s b h k p u hk so.known was) f.0 at (guard_kept g k gk p guard c there is_c) in
            let here : StandsFor s e l p (cond c (written_place s u (place_meant s g p (get_or qs j d)) y) u) = subst (λ z. StandsFor s e l p (cond c (written_place s u z y) u)) f.1 got in
            chosen c here where
              chosen : (t : Bool) → StandsFor s e l p (cond t (written_place s (cond t (written s v (places_meant s g p (drop i qs)) (x % 2 ^ low)) v) (place_meant s g p (get_or qs j d)) (x / 2 ^ low % 2 ^ (get_or qs j d).count)) (cond t (written s v (places_meant s g p (drop i qs)) (x % 2 ^ low)) v))
                  → StandsFor s e l p (cond t (written s v (places_meant s g p (drop m qs)) (x % 2 ^ next)) v)
              chosen true st = subst (λ z. StandsFor s e l p z) (after p v x) st
              chosen false st = st

  pub finished : (b : Images) (h : Graph) (i low : ℕ) → i ≡ 0 → w ≡ counts qs → IsWriting s a g guard qs number w (drop i qs) low b h → ArePartsWritten s a g guard qs number w b h
  finished b h i low is_i is_w so =
      record {
        known = so.known;
        names = so.names;
        stands = λ p v x c st indexes is_x is_c. subst (λ z. StandsFor s b h p (cond c z v)) (whole p v x is_x.fits) (so.stands p v x c st indexes is_x is_c);
      } where
        all : low ≡ w
        all = so.lowest ∙ (ap (λ z. counts (drop z qs)) is_i ∙ sym is_w)

        whole : (p v : Valuation) (x : ℕ) → x < 2 ^ w → written s v (places_meant s g p (drop i qs)) (x % 2 ^ low) ≡ written s v (places_meant s g p qs) x
        whole p v x l =
            ap (λ z. written s v (places_meant s g p (drop z qs)) (x % 2 ^ low)) is_i
            ∙ (ap (λ z. written s v (places_meant s g p qs) (x % 2 ^ z)) all
            ∙ written_all s v (places_meant s g p qs) x w (is_w ∙ parts_count s g p qs parts) l)
