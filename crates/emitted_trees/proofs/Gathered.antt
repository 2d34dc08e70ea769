-- What is made for each of the nodes that a memory is made of.
use Rattle.std.proofs.Common.{◌≡◌, ℕ, zero, suc, Bool, true, false, cond, not, ◌&&◌, List, [], ◌∷◌, ◌++◌, refl, sym, ◌∙◌, ap}
use Rattle.std.proofs.lemmas.Bool.{false≢true}
use Rattle.std.proofs.lemmas.List.{append_assoc, append-nil}
use Rattle.verilog_trees.specs.Syntax.{Expression}
use Rattle.wb_terms.specs.declared.nodes.NameId.{NameId}
use Rattle.wb_terms.specs.declared.nodes.Node.{Node}
use Rattle.wb_terms.specs.declared.nodes.Node.TheVariants.{Name as Named, Ite, Store}
use Rattle.wb_terms.specs.Graph.{Graph}
use Rattle.emitted_modules.specs.Rtl.{Stored, Wire}
use Rattle.emitted_modules.specs.Nodes.{node_at, is_changed, is_part, has_part, word_wire, word_wires}
use Rattle.emitted_modules.specs.Stores.{MemoryUpdate, ways_from, ways_to, via_wire, via_wires, stores_at, stores_of}
use Rattle.emitted_names.specs.Parts.{is_name, is_other_part, parts_of}
use Rattle.emitted_names.proofs.Turns.{ap2}
use Rattle.emitted_trees.specs.Words.{all_at, all_back, if_changed}

at-append : {A : Type 0} (f : ℕ → List A) (xs ys : List ℕ) → all_at f (xs ++ ys) ≡ all_at f xs ++ all_at f ys
at-append f [] ys = refl
at-append f (x ∷ xs) ys = ap (λ zs. f x ++ zs) (at-append f xs ys) ∙ sym (append_assoc (f x) (all_at f xs) (all_at f ys))

back-append : {A : Type 0} (f : ℕ → List A) (xs ys : List ℕ) → all_back f (xs ++ ys) ≡ all_back f ys ++ all_back f xs
back-append f [] ys = sym (append-nil (all_back f ys))
back-append f (x ∷ xs) ys = ap (λ zs. zs ++ f x) (back-append f xs ys) ∙ append_assoc (all_back f ys) (all_back f xs) (f x)

pub same_at : {A : Type 0} (f h : ℕ → List A) (ks : List ℕ) → ((k : ℕ) → f k ≡ h k) → all_at f ks ≡ all_at h ks
same_at f h [] e = refl
same_at f h (k ∷ ks) e = ap2 (λ xs ys. xs ++ ys) (e k) (same_at f h ks e)

pub same_back : {A : Type 0} (f h : ℕ → List A) (ks : List ℕ) → ((k : ℕ) → f k ≡ h k) → all_back f ks ≡ all_back h ks
same_back f h [] e = refl
same_back f h (k ∷ ks) e = ap2 (λ xs ys. xs ++ ys) (same_back f h ks e) (e k)

-- ---- one node

changed_is_no_name : (n : Node) → is_changed n ≡ true → is_name n ≡ false
changed_is_no_name (Named x) e = absurd (false≢true e)
changed_is_no_name _ e = refl

one_at : {A : Type 0} (f : ℕ → List A) (b : Bool) (k : ℕ) → all_at f (cond b (k ∷ []) []) ≡ cond b (f k) []
one_at f true k = append-nil (f k)
one_at f false k = refl

one_back : {A : Type 0} (f : ℕ → List A) (b : Bool) (k : ℕ) → all_back f (cond b (k ∷ []) []) ≡ cond b (f k) []
one_back f true k = refl
one_back f false k = refl

by_tests : {A : Type 0} (xs : List A) (c n p : Bool) → (c ≡ true → n ≡ false) → cond (c && p) xs [] ≡ cond (not n && p) (cond c xs []) []
by_tests xs true true p h = absurd (false≢true (sym (h refl)))
by_tests xs true false true h = refl
by_tests xs true false false h = refl
by_tests xs false true true h = refl
by_tests xs false true false h = refl
by_tests xs false false true h = refl
by_tests xs false false false h = refl

turn : {A : Type 0} (g : Graph) (f : ℕ → List A) (m k : ℕ) → cond (has_part g m k) (f k) [] ≡ cond (is_other_part g m k) (if_changed g f k) []
turn g f m k = by_tests (f k) (is_changed (node_at g k)) (is_name (node_at g k)) (is_part g (suc m) m k) (changed_is_no_name (node_at g k))

-- ---- all of them

pub words_are : (g : Graph) (l : ℕ) (e : Expression) (m n : ℕ) → word_wires g l e m n ≡ all_at (if_changed g (λ k. word_wire g l e k ∷ [])) (parts_of g m n)
words_are g l e m zero = refl
words_are g l e m (suc k) =
    let f : ℕ → List Wire = λ j. word_wire g l e j ∷ [] in
    ap2 (λ xs ys. xs ++ ys) (words_are g l e m k) (turn g f m k ∙ sym (one_at (if_changed g f) (is_other_part g m k) k))
    ∙ sym (at-append (if_changed g f) (parts_of g m k) (cond (is_other_part g m k) (k ∷ []) []))

pub vias_are : (g : Graph) (u : MemoryUpdate) (n : ℕ) → via_wires g u n ≡ all_back (if_changed g (λ k. via_wire g u k ∷ [])) (parts_of g u.term n)
vias_are g u zero = refl
vias_are g u (suc k) =
    let f : ℕ → List Wire = λ j. via_wire g u j ∷ [] in
    ap2 (λ xs ys. xs ++ ys) (turn g f u.term k ∙ sym (one_back (if_changed g f) (is_other_part g u.term k) k)) (vias_are g u k)
    ∙ sym (back-append (if_changed g f) (parts_of g u.term k) (cond (is_other_part g u.term k) (k ∷ []) []))

ways_if : (g : Graph) (u : MemoryUpdate) (p k : ℕ) (n : Node) → cond (is_changed n) (ways_from g u p k n) [] ≡ ways_from g u p k n
ways_if g u p k (Store m i x) = refl
ways_if g u p k (Ite c x y) = refl
ways_if g u p k _ = refl

ways_changed : (g : Graph) (u : MemoryUpdate) (n k : ℕ) → ways_to g u n k ≡ all_back (if_changed g (λ p. ways_from g u p k (node_at g p))) (parts_of g u.term n)
ways_changed g u zero k = refl
ways_changed g u (suc p) k =
    let f : ℕ → List Expression = λ j. ways_from g u j k (node_at g j) in
    ap2 (λ xs ys. xs ++ ys) (turn g f u.term p ∙ sym (one_back (if_changed g f) (is_other_part g u.term p) p)) (ways_changed g u p k)
    ∙ sym (back-append (if_changed g f) (parts_of g u.term p) (cond (is_other_part g u.term p) (p ∷ []) []))

pub ways_are : (g : Graph) (u : MemoryUpdate) (n k : ℕ) → ways_to g u n k ≡ all_back (λ p. ways_from g u p k (node_at g p)) (parts_of g u.term n)
ways_are g u n k =
    ways_changed g u n k
    ∙ same_back (if_changed g (λ p. ways_from g u p k (node_at g p))) (λ p. ways_from g u p k (node_at g p)) (parts_of g u.term n) (λ p. ways_if g u p k (node_at g p))

stores_if : (g : Graph) (u : MemoryUpdate) (k : ℕ) (n : Node) → cond (is_changed n) (stores_at g u k n) [] ≡ stores_at g u k n
stores_if g u k (Store m i x) = refl
stores_if g u k (Ite c x y) = refl
stores_if g u k _ = refl

stores_changed : (g : Graph) (u : MemoryUpdate) (n : ℕ) → stores_of g u n ≡ all_at (if_changed g (λ k. stores_at g u k (node_at g k))) (parts_of g u.term n)
stores_changed g u zero = refl
stores_changed g u (suc k) =
    let f : ℕ → List Stored = λ j. stores_at g u j (node_at g j) in
    ap2 (λ xs ys. xs ++ ys) (stores_changed g u k) (turn g f u.term k ∙ sym (one_at (if_changed g f) (is_other_part g u.term k) k))
    ∙ sym (at-append (if_changed g f) (parts_of g u.term k) (cond (is_other_part g u.term k) (k ∷ []) []))

pub stores_are : (g : Graph) (u : MemoryUpdate) (n : ℕ) → stores_of g u n ≡ all_at (λ k. stores_at g u k (node_at g k)) (parts_of g u.term n)
stores_are g u n =
    stores_changed g u n
    ∙ same_at (if_changed g (λ k. stores_at g u k (node_at g k))) (λ k. stores_at g u k (node_at g k)) (parts_of g u.term n) (λ k. stores_if g u k (node_at g k))
