-- How a list of modules that stand in a design grows.
use Rattle.std.proofs.Common.{◌≡◌, ◌∙◌, refl, ap, sym, subst, ℕ, ◌+◌, ◌<◌, ◌≤◌, Bool, true, false, cond, List, [], ◌∷◌, ◌++◌, ◌⊎◌, inl, inr, append_assoc, append-nil, add-one, drop-cons, drop, map, Bor, length, get_or, Option, Some, None}
use Rattle.std.proofs.lemmas.Bool.{false≢true}
use Rattle.std.proofs.lemmas.List.{drop_all}
use Rattle.std.proofs.lemmas.Slice.Eq.{bytes_eq-Decides}
use Rattle.wb_values.specs.Value.{Name, same_name}
use Rattle.verilog_trees.specs.Syntax.{Module, Source}
use Rattle.verilog_meaning.specs.Hierarchy.{module_named}
use Rattle.v_syntax.specs.declared.module.Module.{Module as CodeModule}
use Rattle.v_syntax.specs.declared.module.Item.{Item as CodeItem}
use Rattle.v_syntax.specs.Source.{item_of, module_of}
use Rattle.v_standing.specs.Standing.{modules_of, numbered, module_at, IsAmong, IsBelow, IsBelowOne, AreLeft, AreAdded}

-- ---- elements of lists

pub among_left : (xs ys : List Module) (m : Module) → IsAmong xs m → IsAmong (xs ++ ys) m
among_left [] ys m h = absurd h
among_left (x ∷ xs) ys m (inl e) = inl e
among_left (x ∷ xs) ys m (inr h) = inr (among_left xs ys m h)

pub among_right : (xs ys : List Module) (m : Module) → IsAmong ys m → IsAmong (xs ++ ys) m
among_right [] ys m h = h
among_right (x ∷ xs) ys m h = inr (among_right xs ys m h)

pub among_either : (xs ys : List Module) (m : Module) → IsAmong (xs ++ ys) m → IsAmong xs m ⊎ IsAmong ys m
among_either [] ys m h = inr h
among_either (x ∷ xs) ys m (inl e) = inl (inl e)
among_either (x ∷ xs) ys m (inr h) =
    elim (among_either xs ys m h) as (λ _. IsAmong (x ∷ xs) m ⊎ IsAmong ys m) [ inl k ↦ inl (inr k) | inr k ↦ inr k ]

-- ---- nothing is added

pub none_added : (source : Source) (IsSo : Module → Type 0) (l : Name → Option Module) (ms : List Module) → ((n : Module) → ¬ IsSo n) → AreAdded source IsSo l ms l ms
none_added source IsSo l ms never =
    record {
      added = [];
      behind = sym (append-nil ms);
      are_so = λ f n h. absurd h;
      keeps = λ f. f;
      all = λ f n h. absurd (never n h);
    }

some_is : (m n : Module) → Some m ≡ Some n → m ≡ n
some_is m n e = ap from e
  where
    from : Option Module → Module
    from None = m
    from (Some x) = x

none_is : (n : Module) → None ≡ Some n → ⊥
none_is n e = false≢true (ap is e)
  where
    is : Option Module → Bool
    is None = false
    is (Some x) = true

-- ---- a name is taken out

module _ (source : Source) (k : Name) (l r : Name → Option Module) (ms : List Module) (taken : (q : Name) → r q ≡ cond (same_name k q) None (l q)) where
  -- what is left was left before, and under another name
  still : (q : Name) (n : Module) → r q ≡ Some n → l q ≡ Some n
  still q n h = by (same_name k q) refl
    where
      by : (b : Bool) → same_name k q ≡ b → l q ≡ Some n
      by true w = absurd (none_is n (sym (taken q ∙ ap (λ c. cond c None (l q)) w) ∙ h))
      by false w = sym (taken q ∙ ap (λ c. cond c None (l q)) w) ∙ h

  -- what is not left is of this name, or was not left before
  gone : (q : Name) → r q ≡ None → (k ≡ q) ⊎ (l q ≡ None)
  gone q h = by (same_name k q) refl
    where
      by : (b : Bool) → same_name k q ≡ b → (k ≡ q) ⊎ (l q ≡ None)
      by true w = inl ((bytes_eq-Decides k q).0 w)
      by false w = inr (sym (taken q ∙ ap (λ c. cond c None (l q)) w) ∙ h)

  -- Its module is put behind.
  pub one_added : (ns : List Module) (m : Module) → l k ≡ Some m → ns ≡ ms ++ m ∷ [] → AreAdded source (λ n. module_named source k ≡ Some n) l ms r ns
  one_added ns m e b =
      record {
        added = m ∷ [];
        behind = b;
        are_so = λ f n h. is_so f n h;
        keeps = λ f. record { left_are = λ q n h. f.left_are q n (still q n h); found_are = λ q n h w. subst (λ xs. IsAmong xs n) (sym b) (kept f q n w (gone q h)) };
        all = λ f n h. subst (λ xs. IsAmong xs n) (sym b) (here f n h);
      }
    where
      is_so : AreLeft source l ms → (n : Module) → IsAmong (m ∷ []) n → module_named source k ≡ Some n
      is_so f n (inl p) = f.left_are k m e ∙ ap Some p
      is_so f n (inr h) = absurd h

      here : AreLeft source l ms → (n : Module) → module_named source k ≡ Some n → IsAmong (ms ++ m ∷ []) n
      here f n h = among_right ms (m ∷ []) n (inl (some_is m n (sym (f.left_are k m e) ∙ h)))

      kept : AreLeft source l ms → (q : Name) (n : Module) → module_named source q ≡ Some n → (k ≡ q) ⊎ (l q ≡ None) → IsAmong (ms ++ m ∷ []) n
      kept f q n w (inl p) = here f n (ap (module_named source) p ∙ w)
      kept f q n w (inr h) = among_left ms (m ∷ []) n (f.found_are q n h w)

  -- It was not left.
  pub not_left : l k ≡ None → AreAdded source (λ n. module_named source k ≡ Some n) l ms r ms
  not_left e =
      record {
        added = [];
        behind = sym (append-nil ms);
        are_so = λ f n h. absurd h;
        keeps = λ f. record { left_are = λ q n h. f.left_are q n (still q n h); found_are = λ q n h w. kept f q n w (gone q h) };
        all = λ f n h. f.found_are k n e h;
      }
    where
      kept : AreLeft source l ms → (q : Name) (n : Module) → module_named source q ≡ Some n → (k ≡ q) ⊎ (l q ≡ None) → IsAmong ms n
      kept f q n w (inl p) = f.found_are k n e (ap (module_named source) p ∙ w)
      kept f q n w (inr h) = f.found_are q n h w

-- ---- one after the other

pub then_added : (source : Source) (A B : Module → Type 0) (l m r : Name → Option Module) (ms ns os : List Module)
    → AreAdded source A l ms m ns → AreAdded source B m ns r os → AreAdded source (λ n. A n ⊎ B n) l ms r os
then_added source A B l m r ms ns os x y =
    record {
      added = x.added ++ y.added;
      behind = y.behind ∙ (ap (λ z. z ++ y.added) x.behind ∙ append_assoc ms x.added y.added);
      are_so = λ f n h. elim (among_either x.added y.added n h) as (λ _. A n ⊎ B n) [ inl k ↦ inl (x.are_so f n k) | inr k ↦ inr (y.are_so (x.keeps f) n k) ];
      keeps = λ f. y.keeps (x.keeps f);
      all = λ f n h. by f n h;
    }
  where
    by : AreLeft source l ms → (n : Module) → A n ⊎ B n → IsAmong os n
    by f n (inl a) = subst (λ z. IsAmong z n) (sym y.behind) (among_left ns y.added n (x.all f n a))
    by f n (inr b) = y.all (x.keeps f) n b

-- the same modules said in another way
pub said_so : (source : Source) (A B : Module → Type 0) (l r : Name → Option Module) (ms ns : List Module) → ((n : Module) → A n → B n) → ((n : Module) → B n → A n)
    → AreAdded source A l ms r ns → AreAdded source B l ms r ns
said_so source A B l r ms ns f g x =
    record {
      added = x.added;
      behind = x.behind;
      are_so = λ k n h. f n (x.are_so k n h);
      keeps = x.keeps;
      all = λ k n h. x.all k n (g n h);
    }

-- ---- the code's lists

pub behind_one : (source : Source) (ks : List ℕ) (k : ℕ) → numbered source (ks ++ k ∷ []) ≡ numbered source ks ++ module_at source k ∷ []
behind_one source [] k = refl
behind_one source (j ∷ ks) k = ap (λ z. module_at source j ∷ z) (behind_one source ks k)

pub module_behind : (ms : List (Bor CodeModule)) (m : Bor CodeModule) → modules_of (ms ++ m ∷ []) ≡ modules_of ms ++ module_of m.now ∷ []
module_behind [] m = refl
module_behind (x ∷ ms) m = ap (λ z. module_of x.now ∷ z) (module_behind ms m)

pub none_behind : (ms : List Module) → ms ≡ ms ++ []
none_behind ms = sym (append-nil ms)

items_drop : (items : List CodeItem) (i : ℕ) (d : CodeItem) → i < length items → map item_of (drop i items) ≡ item_of (get_or items i d) ∷ map item_of (drop (i + 1) items)
items_drop items i d h = rw (add-one, drop-cons items i d h) refl

-- What an item adds, and then the items after it.
pub with_rest : (source : Source) (items : List CodeItem) (i : ℕ) (d : CodeItem) (l m r : Name → Option Module) (ms ns os : List Module) → i < length items
    → AreAdded source (IsBelow source (item_of (get_or items i d))) l ms m ns
    → AreAdded source (IsBelowOne source (map item_of (drop (i + 1) items))) m ns r os
    → AreAdded source (IsBelowOne source (map item_of (drop i items))) l ms r os
with_rest source items i d l m r ms ns os h x y =
    subst (λ z. AreAdded source (IsBelowOne source z) l ms r os) (sym (items_drop items i d h))
    (then_added source (IsBelow source (item_of (get_or items i d))) (IsBelowOne source (map item_of (drop (i + 1) items))) l m r ms ns os x y)

-- No item is left.
pub no_rest : (source : Source) (items : List CodeItem) (i : ℕ) (l : Name → Option Module) (ms : List Module) → length items ≤ i
    → AreAdded source (IsBelowOne source (map item_of (drop i items))) l ms l ms
no_rest source items i l ms h =
    subst (λ z. AreAdded source (IsBelowOne source (map item_of z)) l ms l ms) (sym (drop_all i items h)) (none_added source (IsBelowOne source []) l ms (λ n k. k))
