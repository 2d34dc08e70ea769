-- A list grows by what stands below one more of it.
use Rattle.std.proofs.Common.{◌≡◌, ℕ, zero, suc, ◌+◌, ◌<◌, ◌≤◌, List, [], ◌∷◌, ◌++◌, append_assoc, append-nil, length, take, refl, sym, ap, ◌∙◌, subst, Some, inl, inr, arith}
use Rattle.std.specs.Prelude.{slice_get, Option, None, true, false}
use Rattle.std.proofs.lemmas.List.{length-append}
use Rattle.verilog_trees.specs.Syntax.{Module, Source}
use Rattle.verilog_unique.proofs.Descent.{IsAmong}
use Rattle.v_places.specs.Below.{Spot, top_spot, spots_below, all_below}
use Rattle.v_places.specs.Added.{IsAdded}
use Rattle.v_places.specs.Walk.{AreBefore, IsWalked, IsWalk}
use Rattle.v_places.proofs.Spots.{get_within, same_some, parent_of}

pub begun : (source : Source) (top : Module) (spots : List Spot) → spots ≡ top_spot top ∷ [] → IsWalked source top 0 spots
begun source top spots e = record { rest = []; is = e; whole = refl; ordered = tt }

below_more : (source : Source) (xs more : List Spot) (n b : ℕ) (x : Spot) → slice_get xs n ≡ Some x
    → all_below source b (take (suc n) (xs ++ more)) ≡ all_below source b (take n xs) ++ spots_below source (n + b) x
below_more source [] more n b x e = cc
below_more source (y ∷ xs) more zero b x e =
    let number : b ≡ 0 + b = omega arith in
    append-nil (spots_below source b y) ∙ (ap (spots_below source b) (same_some y x e) ∙ ap (λ k. spots_below source k x) number)
below_more source (y ∷ xs) more (suc n) b x e =
    let number : n + suc b ≡ suc n + b = omega arith in
    ap (λ zs. spots_below source b y ++ zs) (below_more source xs more n (suc b) x e)
    ∙ (sym (append_assoc (spots_below source b y) (all_below source (suc b) (take n xs)) (spots_below source (n + suc b) x))
    ∙ ap (λ k. (spots_below source b y ++ all_below source (suc b) (take n xs)) ++ spots_below source k x) number)

before_more : (b : ℕ) (xs ys : List Spot) → AreBefore b xs → ((k : ℕ) (z : Spot) → IsAmong ys z → length xs + b ≤ k + b → z.parent < k + b) → AreBefore b (xs ++ ys)
before_more b [] ys h f = all b ys (λ k z m l. f k z m (omega (arith, l)))
  where
    all : (c : ℕ) (zs : List Spot) → ((k : ℕ) (z : Spot) → IsAmong zs z → 0 ≤ k → z.parent < k + c) → AreBefore c zs
    all c [] g = tt
    all c (z ∷ zs) g =
        let first : z.parent < 0 + c = g 0 z (inl refl) (omega arith) in
        (omega (arith, first), all (suc c) zs (λ k w m l. let r : w.parent < suc k + c = g (suc k) w (inr m) (omega arith) in omega (arith, r)))
before_more b (x ∷ xs) ys h f =
    (h.0, before_more (suc b) xs ys h.1 (λ k z m l. let r : z.parent < suc k + b = f (suc k) z m (omega (arith, l)) in omega (arith, r)))

pub turn : (source : Source) (top : Module) (n : ℕ) (spots : List Spot) (x : Spot) → IsWalked source top n spots → slice_get spots n ≡ Some x
    → IsWalked source top (suc n) (spots ++ spots_below source n x)
turn source top n spots x w e =
    let more : List Spot = spots_below source n x in
    let number : n + 0 ≡ n = omega arith in
    let within : n < length spots = get_within spots n x e in
    let long : length spots ≡ suc (length w.rest) = ap length w.is in
    record {
      rest = w.rest ++ more;
      is = ap (λ xs. xs ++ more) w.is;
      whole = ap (λ xs. xs ++ more) w.whole
          ∙ (ap (λ k. all_below source 0 (take n spots) ++ spots_below source k x) (sym number)
          ∙ sym (below_more source spots more n 0 x e));
      ordered = before_more 1 w.rest more w.ordered (λ k z m l. let p : z.parent ≡ n = parent_of source n x z m in omega (arith, p, l, within, long));
    }

-- ---- what the walk does

get_middle : (done rest : List Spot) (x : Spot) → slice_get (done ++ x ∷ rest) (length done) ≡ Some x
get_middle [] rest x = refl
get_middle (y ∷ done) rest x = get_middle done rest x

regroup : (done rest part : List Spot) (x : Spot) → (done ++ x ∷ rest) ++ part ≡ (done ++ x ∷ []) ++ (rest ++ part)
regroup done rest part x = append_assoc done (x ∷ rest) part ∙ sym (append_assoc done (x ∷ []) (rest ++ part))

-- a place is taken from the queue, and what stands below it is put there
module _ (source : Source) (top : Module) (n count : ℕ) (done waiting rest : List Spot) (x : Spot) (number : n ≡ length done) (popped : waiting ≡ x ∷ rest)
    (walked : IsWalked source top n (done ++ waiting)) (queue part : List Spot) (o : Option ℕ) (is_part : part ≡ spots_below source n x) (added : IsAdded count o queue rest part) where
  at_x : slice_get (done ++ waiting) n ≡ Some x
  at_x = ap (λ w. slice_get (done ++ w) n) popped ∙ (ap (slice_get (done ++ x ∷ rest)) number ∙ get_middle done rest x)

  whole : IsWalked source top (suc n) ((done ++ waiting) ++ spots_below source n x)
  whole = turn source top n (done ++ waiting) x walked at_x

  pub walk_on : (more m : ℕ) → o ≡ Some more → m ≡ n + 1 → IsWalked source top m ((done ++ x ∷ []) ++ queue)
  walk_on more m t i =
      let a : IsAdded count (Some more) queue rest part = subst (λ p. IsAdded count p queue rest part) t added in
      let next : suc n ≡ m = omega (arith, i) in
      let same : (done ++ waiting) ++ spots_below source n x ≡ (done ++ x ∷ []) ++ queue
      = ap (λ w. (done ++ w) ++ spots_below source n x) popped
      ∙ (regroup done rest (spots_below source n x) x ∙ ap (λ q. (done ++ x ∷ []) ++ q) (ap (λ s. rest ++ s) (sym is_part) ∙ sym a.0)) in
      subst (λ k. IsWalked source top k ((done ++ x ∷ []) ++ queue)) next (subst (IsWalked source top (suc n)) same whole)

  pub walk_off : (new : List Spot) → o ≡ None → count ≡ length (done ++ waiting) → IsWalk source top false new
  walk_off new t c =
      let full : 65537 < count + length part = subst (λ p. IsAdded count p queue rest part) t added in
      let long : length ((done ++ waiting) ++ spots_below source n x) ≡ length (done ++ waiting) + length (spots_below source n x)
      = length-append (done ++ waiting) (spots_below source n x) in
      let same : length part ≡ length (spots_below source n x) = ap length is_part in
      (suc n, (done ++ waiting) ++ spots_below source n x, whole, omega (arith, full, c, long, same))

pub walk_end : (source : Source) (top : Module) (n : ℕ) (done waiting : List Spot) → n ≡ length done → waiting ≡ [] → length done ≤ 65537 → IsWalked source top n (done ++ waiting) → IsWalk source top true done
walk_end source top n done waiting e w l h =
    let same : done ++ waiting ≡ done = ap (λ q. done ++ q) w ∙ append-nil done in
    (subst (λ k. IsWalked source top k done) e (subst (IsWalked source top n) same h), l)

pub walk_begun : (source : Source) (top : Module) (done waiting : List Spot) → done ≡ [] → waiting ≡ top_spot top ∷ [] → IsWalked source top 0 (done ++ waiting)
walk_begun source top done waiting d e = begun source top (done ++ waiting) (ap (λ xs. xs ++ waiting) d ∙ e)
