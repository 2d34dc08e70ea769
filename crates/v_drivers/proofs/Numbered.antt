-- That the entries of a module are its drivers as the rule numbers them, no two of which are the same.
use Rattle.std.proofs.Common.{◌≡◌, ℕ, suc, ◌≤◌, refl, sym, subst, arith, inl, inr, List, [], ◌∷◌, ◌++◌}
use Rattle.std.specs.Prelude.{◌⊎◌}
use Rattle.verilog_trees.specs.Syntax.{Expression, Target, Statement, Item}
use Rattle.verilog_meaning.specs.Expression.{Scope}
use Rattle.verilog_meaning.specs.Register.{clocked_blocks, combinational_blocks}
use Rattle.verilog_meaning.specs.Settled.{assignments}
use Rattle.verilog_designs.specs.Drivers.{Driver, assigned, connected, clocked, combinational, parts_of}
use Rattle.v_drivers.proofs.Numbering.{Entry, part_entries, link_entries, block_entries, entries, In, in-parts, AreApart, apart-append}

-- ---- drivers by their numbers

-- a part of the assignment i, from the part j on
abbrev IsPart : (i j : ℕ) → Driver → Type 0
IsPart i j (assigned x y) = (x ≡ i) × (j ≤ y)
IsPart i j (connected x y) = ⊥
IsPart i j (clocked x) = ⊥
IsPart i j (combinational x) = ⊥

-- a part of an assignment from i on
abbrev IsLink : ℕ → Driver → Type 0
IsLink i (assigned x y) = i ≤ x
IsLink i (connected x y) = ⊥
IsLink i (clocked x) = ⊥
IsLink i (combinational x) = ⊥

abbrev IsClocked : ℕ → Driver → Type 0
IsClocked i (assigned x y) = ⊥
IsClocked i (connected x y) = ⊥
IsClocked i (clocked x) = i ≤ x
IsClocked i (combinational x) = ⊥

abbrev IsCombinational : ℕ → Driver → Type 0
IsCombinational i (assigned x y) = ⊥
IsCombinational i (connected x y) = ⊥
IsCombinational i (clocked x) = ⊥
IsCombinational i (combinational x) = i ≤ x

later-part : (i j : ℕ) (d : Driver) → IsPart i (suc j) d → IsPart i j d
later-part i j (assigned x y) h = (h.0, omega (arith, h.1))
later-part i j (connected x y) h = h
later-part i j (clocked x) h = h
later-part i j (combinational x) h = h

part-is-link : (i j : ℕ) (d : Driver) → IsPart i j d → IsLink i d
part-is-link i j (assigned x y) h = omega (arith, h.0)
part-is-link i j (connected x y) h = h
part-is-link i j (clocked x) h = h
part-is-link i j (combinational x) h = h

later-link : (i : ℕ) (d : Driver) → IsLink (suc i) d → IsLink i d
later-link i (assigned x y) h = omega (arith, h)
later-link i (connected x y) h = h
later-link i (clocked x) h = h
later-link i (combinational x) h = h

parts-are : (s : Scope) (i j : ℕ) (ts : List Target) (e : Entry) → In (part_entries s i j ts) e → IsPart i j e.0
parts-are s i j [] e h = absurd h
parts-are s i j (t ∷ ts) e (inl h) = subst (λ (g : Entry). IsPart i j g.0) h (refl, omega arith)
parts-are s i j (t ∷ ts) e (inr h) = later-part i j e.0 (parts-are s i (suc j) ts e h)

links-are : (s : Scope) (i : ℕ) (links : List (Target × Expression)) (e : Entry) → In (link_entries s i links) e → IsLink i e.0
links-are s i [] e h = absurd h
links-are s i (a ∷ links) e h =
    in-parts (part_entries s i 0 (parts_of a.0)) (link_entries s (suc i) links) e h
    (λ l. part-is-link i 0 e.0 (parts-are s i 0 (parts_of a.0) e l)) (λ r. later-link i e.0 (links-are s (suc i) links e r))

clocked-are : (s : Scope) (i : ℕ) (xs : List Statement) (e : Entry) → In (block_entries s clocked i xs) e → IsClocked i e.0
clocked-are s i [] e h = absurd h
clocked-are s i (x ∷ xs) e (inl h) = subst (λ (g : Entry). IsClocked i g.0) h (omega arith)
clocked-are s i (x ∷ xs) e (inr h) = earlier e.0 (clocked-are s (suc i) xs e h)
  where
    earlier : (d : Driver) → IsClocked (suc i) d → IsClocked i d
    earlier (assigned x y) g = g
    earlier (connected x y) g = g
    earlier (clocked y) g = omega (arith, g)
    earlier (combinational y) g = g

combinational-are : (s : Scope) (i : ℕ) (xs : List Statement) (e : Entry) → In (block_entries s combinational i xs) e → IsCombinational i e.0
combinational-are s i [] e h = absurd h
combinational-are s i (x ∷ xs) e (inl h) = subst (λ (g : Entry). IsCombinational i g.0) h (omega arith)
combinational-are s i (x ∷ xs) e (inr h) = earlier e.0 (combinational-are s (suc i) xs e h)
  where
    earlier : (d : Driver) → IsCombinational (suc i) d → IsCombinational i d
    earlier (assigned x y) g = g
    earlier (connected x y) g = g
    earlier (clocked y) g = g
    earlier (combinational y) g = omega (arith, g)

-- ---- no two are the same

parts-apart : (s : Scope) (i j : ℕ) (ts : List Target) → AreApart (part_entries s i j ts)
parts-apart s i j [] = tt
parts-apart s i j (t ∷ ts) = ((λ f h k. itself (subst (IsPart i (suc j)) (sym k) (parts-are s i (suc j) ts f h))), parts-apart s i (suc j) ts)
  where
    itself : IsPart i (suc j) (assigned i j) → ⊥
    itself h = omega (arith, h.1)

links-apart : (s : Scope) (i : ℕ) (links : List (Target × Expression)) → AreApart (link_entries s i links)
links-apart s i [] = tt
links-apart s i (a ∷ links) =
    apart-append (part_entries s i 0 (parts_of a.0)) (link_entries s (suc i) links) (parts-apart s i 0 (parts_of a.0)) (links-apart s (suc i) links)
    (λ e f h g. apart e.0 f.0 (parts-are s i 0 (parts_of a.0) e h) (links-are s (suc i) links f g))
  where
    itself : (d : Driver) → IsPart i 0 d → IsLink (suc i) d → ⊥
    itself (assigned x y) h g = omega (arith, h.0, g)
    itself (connected x y) h g = h
    itself (clocked x) h g = h
    itself (combinational x) h g = h

    apart : (d e : Driver) → IsPart i 0 d → IsLink (suc i) e → ¬ (d ≡ e)
    apart d e h g = λ k. itself d h (subst (IsLink (suc i)) (sym k) g)

clocked-apart : (s : Scope) (i : ℕ) (xs : List Statement) → AreApart (block_entries s clocked i xs)
clocked-apart s i [] = tt
clocked-apart s i (x ∷ xs) = ((λ f h k. itself (subst (IsClocked (suc i)) (sym k) (clocked-are s (suc i) xs f h))), clocked-apart s (suc i) xs)
  where
    itself : IsClocked (suc i) (clocked i) → ⊥
    itself h = omega (arith, h)

combinational-apart : (s : Scope) (i : ℕ) (xs : List Statement) → AreApart (block_entries s combinational i xs)
combinational-apart s i [] = tt
combinational-apart s i (x ∷ xs) =
    ((λ f h k. itself (subst (IsCombinational (suc i)) (sym k) (combinational-are s (suc i) xs f h))), combinational-apart s (suc i) xs)
  where
    itself : IsCombinational (suc i) (combinational i) → ⊥
    itself h = omega (arith, h)

no-link-block : (d e : Driver) → IsLink 0 d → (IsClocked 0 e ⊎ IsCombinational 0 e) → ¬ (d ≡ e)
no-link-block d e h (inl g) = λ k. at d h (subst (IsClocked 0) (sym k) g)
  where
    at : (d : Driver) → IsLink 0 d → IsClocked 0 d → ⊥
    at (assigned x y) h g = g
    at (connected x y) h g = g
    at (clocked x) h g = h
    at (combinational x) h g = h
no-link-block d e h (inr g) = λ k. at d h (subst (IsCombinational 0) (sym k) g)
  where
    at : (d : Driver) → IsLink 0 d → IsCombinational 0 d → ⊥
    at (assigned x y) h g = g
    at (connected x y) h g = g
    at (clocked x) h g = h
    at (combinational x) h g = h

no-clocked-combinational : (d e : Driver) → IsClocked 0 d → IsCombinational 0 e → ¬ (d ≡ e)
no-clocked-combinational d e h g = λ k. at d h (subst (IsCombinational 0) (sym k) g)
  where
    at : (d : Driver) → IsClocked 0 d → IsCombinational 0 d → ⊥
    at (assigned x y) h g = g
    at (connected x y) h g = g
    at (clocked x) h g = g
    at (combinational x) h g = h

pub entries-apart : (s : Scope) (items : List Item) → AreApart (entries s items)
entries-apart s items =
    let links = assignments items in
    let cs = clocked_blocks items in
    let ms = combinational_blocks items in
    apart-append (link_entries s 0 links) (block_entries s clocked 0 cs ++ block_entries s combinational 0 ms) (links-apart s 0 links)
    (apart-append (block_entries s clocked 0 cs) (block_entries s combinational 0 ms) (clocked-apart s 0 cs) (combinational-apart s 0 ms)
    (λ e f h g. no-clocked-combinational e.0 f.0 (clocked-are s 0 cs e h) (combinational-are s 0 ms f g)))
    (λ e f h g. no-link-block e.0 f.0 (links-are s 0 links e h)
    (in-parts (block_entries s clocked 0 cs) (block_entries s combinational 0 ms) f g
    (λ l. inl (clocked-are s 0 cs f l)) (λ r. inr (combinational-are s 0 ms f r))))
