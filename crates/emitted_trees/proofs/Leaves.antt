-- What stands for a name, a constant or a wire, and which bits there are.
use Rattle.std.proofs.Common.{◌≡◌, ℕ, suc, ◌+◌, ◌-◌, ◌<◌, ◌≤◌, Bool, true, false, cond, ◌&&◌, List, [], ◌∷◌, Option, Some, None, slice_get, IsTrue, IsSome, refl, sym, ◌∙◌, ap, subst, arith}
use Rattle.std.specs.Prelude.{nat_le, nat_lt}
use Rattle.std.proofs.lemmas.Bool.{and_parts, false≢true}
use Rattle.std.proofs.lemmas.Bool.Decides.{nat_tests}
use Rattle.wb_values.specs.Value.{Name, Sort, truth, word, memory, Entries}
use Rattle.verilog_trees.specs.Syntax.{Expression}
use Rattle.wb_values.specs.Choice.{some_if}
use Rattle.model_meaning.specs.Term.{is_sort, is_width, extract_sort}
use Rattle.verilog_meaning.specs.Settled.{whole_name}
use Rattle.term_expressions.specs.Expressions.{sized, bits_of}
use Rattle.wb_terms.specs.declared.nodes.NameId.{NameId}
use Rattle.wb_terms.specs.declared.nodes.TermId.{TermId}
use Rattle.wb_terms.specs.declared.nodes.Node.{Node}
use Rattle.wb_terms.specs.declared.nodes.Node.TheVariants.{Name as Named, Truth, Const, Ite, Load, Store}
use Rattle.wb_terms.specs.Graph.{Graph}
use Rattle.emitted_modules.specs.Nodes.{wire_name_of, leaf_or_wire, bits_of_leaf_or_wire, word_name, word_or_wire, word_of_node, words_for}
use Rattle.emitted_modules.specs.Stores.{MemoryUpdate, ways_from, stores_at}

pub other_leaf : (ns : Entries Sort) (k : ℕ) (n : Node) → ((x : NameId) → n ≡ Named x → ⊥) → ((b : Bool) → n ≡ Truth b → ⊥) → ((w x : ℕ) → n ≡ Const w x → ⊥)
    → leaf_or_wire ns k n ≡ whole_name (wire_name_of k)
other_leaf ns k (Named x) f g h = absurd (f x refl)
other_leaf ns k (Truth b) f g h = absurd (g b refl)
other_leaf ns k (Const w x) f g h = absurd (h w x refl)
other_leaf ns k _ f g h = refl

pub other_bits : (ns : Entries Sort) (k high low : ℕ) (n : Node) → ((x : NameId) → n ≡ Named x → ⊥) → ((w x : ℕ) → n ≡ Const w x → ⊥)
    → bits_of_leaf_or_wire ns k n high low ≡ bits_of (wire_name_of k) high low
other_bits ns k high low (Named x) f h = absurd (f x refl)
other_bits ns k high low (Const w x) f h = absurd (h w x refl)
other_bits ns k high low _ f h = refl

-- ---- bits of a word

test_of : (b : Bool) (s : Sort) → IsSome (some_if b s) → b ≡ true
test_of true s h = refl
test_of false s h = absurd (false≢true h)

at_most : (a b : ℕ) → nat_le a b ≡ true → a ≤ b
at_most a b h = grind (arith, nat_tests, h)

below : (a b : ℕ) → nat_lt a b ≡ true → a < b
below a b h = grind (arith, nat_tests, h)

bits_there : (high low : ℕ) (s : Sort) → IsTrue (is_sort s) → IsSome (extract_sort high low (Some s)) → (low ≤ high) × (high < 128)
bits_there high low truth r h = absurd (false≢true h)
bits_there high low (memory a d) r h = absurd (false≢true h)
bits_there high low (word w) r h =
    let p = and_parts (nat_le low high) (nat_lt high w) (test_of (nat_le low high && nat_lt high w) (word (high + 1 - low)) h) in
    let q = and_parts (nat_le 1 w) (nat_le w 128) r in
    (at_most low high p.0, omega (arith, below high w p.1, at_most w 128 q.1))

pub bits_within : (high low : ℕ) (o : Option Sort) (s : Sort) → o ≡ Some s → IsTrue (is_sort s) → IsSome (extract_sort high low o) → (low ≤ high) × (high < 128)
bits_within high low o s e r h = bits_there high low s r (subst (λ (p : Option Sort). IsSome (extract_sort high low p)) e h)

pub few_address_bits : (a d : ℕ) → IsTrue (is_sort (memory a d)) → a ≤ 128
few_address_bits a d r =
    let p = and_parts (nat_le 1 a && nat_le a 16) (is_width d) r in
    let q = and_parts (nat_le 1 a) (nat_le a 16) p.0 in omega (arith, at_most a 16 q.1)

-- ---- words of memories

pub other_word : (ns : Entries Sort) (l : ℕ) (e : Expression) (k : ℕ) (n : Node) → ((x : NameId) → n ≡ Named x → ⊥) → word_or_wire ns l e k n ≡ whole_name (word_name l k)
other_word ns l e k (Named x) f = absurd (f x refl)
other_word ns l e k _ f = refl

pub no_word : (g : Graph) (l : ℕ) (e : Expression) (n : Node) → ((m i x : TermId) → n ≡ Store m i x → ⊥) → ((c x y : TermId) → n ≡ Ite c x y → ⊥)
    → word_of_node g l e n ≡ sized 1 0
no_word g l e (Store m i x) s h = absurd (s m i x refl)
no_word g l e (Ite c x y) s h = absurd (h c x y refl)
no_word g l e _ s h = refl

pub no_loaded : (g : Graph) (k : ℕ) (n : Node) → ((m i : TermId) → n ≡ Load m i → ⊥) → words_for g k n ≡ []
no_loaded g k (Load m i) f = absurd (f m i refl)
no_loaded g k _ f = refl

-- ---- ways

pub no_ways : (g : Graph) (u : MemoryUpdate) (p k : ℕ) (n : Node) → ((m i x : TermId) → n ≡ Store m i x → ⊥) → ((c x y : TermId) → n ≡ Ite c x y → ⊥)
    → ways_from g u p k n ≡ []
no_ways g u p k (Store m i x) s h = absurd (s m i x refl)
no_ways g u p k (Ite c x y) s h = absurd (h c x y refl)
no_ways g u p k _ s h = refl

pub no_store : (g : Graph) (u : MemoryUpdate) (k : ℕ) (n : Node) → ((m i x : TermId) → n ≡ Store m i x → ⊥) → stores_at g u k n ≡ []
no_store g u k (Store m i x) s = absurd (s m i x refl)
no_store g u k _ s = refl
