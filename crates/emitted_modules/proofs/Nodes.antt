-- Each node that is kept is computed: by induction over the nodes.
use Rattle.std.proofs.Common.{◌≡◌, ℕ, zero, suc, ◌+◌, ◌-◌, ◌/◌, ◌<◌, ◌^◌, Bool, true, false, ◌&&◌, nat_lt, List, [], ◌∷◌, length, Some, refl, sym, ◌∙◌, ap, subst, arith}
use Rattle.std.specs.Prelude.{IsTrue}
use Rattle.std.proofs.lemmas.Bool.{false≢true}
use Rattle.std.proofs.Math.Nat.{mod-lt}
use Rattle.std.proofs.Math.Pow.{pow_pos}
use Rattle.wb_values.specs.Value.{Valuation, Value, number, Sort, word, Entries}
use Rattle.wb_values.specs.Choice.{some_if}
use Rattle.wb_values.specs.Number.{word_extract}
use Rattle.model_meaning.specs.Term.{sort_of, val, is_width}
use Rattle.verilog_trees.specs.Syntax.{Expression}
use Rattle.verilog_meaning.specs.Expression.{Scope}
use Rattle.verilog_meaning.specs.Settled.{whole_name}
use Rattle.term_expressions.specs.Expressions.{sized, bits_of, word_at}
use Rattle.term_expressions.proofs.Joined.{sized_is_const}
use Rattle.wb_terms.specs.declared.nodes.NameId.{NameId}
use Rattle.wb_terms.specs.declared.nodes.Node.{Node}
use Rattle.wb_terms.specs.declared.nodes.Node.TheVariants.{Name as Named, Truth, Const}
use Rattle.wb_terms.specs.Graph.{Graph, tree, tree_of_node, leaf_at, operands_of, AllBelow}
use Rattle.emitted_modules.specs.Nodes.{node_at, called_at, leaf_or_wire, operand, bits_of_leaf_or_wire, bits_of_operand, expression_of, is_leaf, wire_name_of}
use Rattle.emitted_modules.specs.Kept.{IsOrdered, AreKept}
use Rattle.emitted_modules.proofs.Trees.{tree_is}
use Rattle.emitted_modules.proofs.Computed.{Worth}
use Rattle.emitted_modules.proofs.Joined.{Given, SlicedBy, of_truth, of_const}
use Rattle.emitted_modules.proofs.WordReads.{ReadBy}
use Rattle.emitted_modules.proofs.Formed.{IsDone, AreDone, IsLoaded, formed}
use Rattle.emitted_modules.proofs.Parts.{its_own_part}
use Rattle.emitted_modules.proofs.Loaded.{WordsAreRead, words_done}

wire_operand : (ns : Entries Sort) (k : ℕ) (n : Node) → is_leaf n ≡ false → leaf_or_wire ns k n ≡ whole_name (wire_name_of k)
wire_operand ns k (Named i) h = absurd (false≢true (sym h))
wire_operand ns k (Truth b) h = absurd (false≢true (sym h))
wire_operand ns k (Const w x) h = absurd (false≢true (sym h))
wire_operand ns k _ h = refl

wire_bits : (ns : Entries Sort) (k : ℕ) (n : Node) → is_leaf n ≡ false → bits_of_leaf_or_wire ns k n ≡ bits_of (wire_name_of k)
wire_bits ns k (Named i) h = absurd (false≢true (sym h))
wire_bits ns k (Truth b) h = absurd (false≢true (sym h))
wire_bits ns k (Const w x) h = absurd (false≢true (sym h))
wire_bits ns k _ h = refl

-- an expression and its bits have a value
abbrev pub HasValue : Scope → Valuation → Expression → (ℕ → ℕ → Expression) → Sort → Value → Type 0
HasValue s v e f t y = Worth s v e (Some t) y × SlicedBy s v f (Some t) y

module _ (s : Scope) (v : Valuation) (g : Graph) (point : Valuation) (keep : ℕ → Bool) where
  -- a name that is a leaf
  abbrev pub IsNamed : ℕ → Type 0
  IsNamed i =
      Worth s v (whole_name (called_at g.names i)) (sort_of (leaf_at g.names i)) (val (leaf_at g.names i) point)
      × SlicedBy s v (bits_of (called_at g.names i)) (sort_of (leaf_at g.names i)) (val (leaf_at g.names i) point)
      × ReadBy s v (λ e. word_at (called_at g.names i) e) (sort_of (leaf_at g.names i)) (val (leaf_at g.names i) point)

  abbrev pub NamesAreRead : Type 0
  NamesAreRead = (k : ℕ) (n : NameId) → k < length g.nodes → IsTrue (keep k) → node_at g k ≡ Named n → IsNamed n.0

  -- What a wire is given it has.
  abbrev pub WiresAreRead : Type 0
  WiresAreRead =
      (k : ℕ) (y : Value) → k < length g.nodes → IsTrue (keep k) → is_leaf (node_at g k) ≡ false
      → Given s v (expression_of g k (node_at g k)) (sort_of (tree g k)) y
      → Worth s v (whole_name (wire_name_of k)) (sort_of (tree g k)) y × SlicedBy s v (bits_of (wire_name_of k)) (sort_of (tree g k)) y

  abbrev pub OperandsAreKept : Type 0
  OperandsAreKept = (k : ℕ) → k < length g.nodes → IsTrue (keep k) → AreKept keep (operands_of (node_at g k))

  abbrev NodeIsDone : ℕ → Node → Type 0
  NodeIsDone k n =
      Worth s v (leaf_or_wire g.names k n) (sort_of (tree_of_node g n)) (val (tree_of_node g n) point)
      × SlicedBy s v (bits_of_leaf_or_wire g.names k n) (sort_of (tree_of_node g n)) (val (tree_of_node g n) point)

  const_sliced : (b : Bool) (w x : ℕ) → SlicedBy s v (λ h l. sized (h + 1 - l) (word_extract h l x)) (some_if b (word w)) (number x)
  const_sliced true w x = (x, refl, λ h l le low. sized_is_const s v (h + 1 - l) (word_extract h l x) (mod-lt (x / 2 ^ l) (pow_pos (h + 1 - l))))
  const_sliced false w x = tt

  leaf_done : NamesAreRead → (k : ℕ) (n : Node) → k < length g.nodes → IsTrue (keep k) → node_at g k ≡ n → is_leaf n ≡ true → NodeIsDone k n
  leaf_done named k (Named i) low kept e h = let all = named k i low kept e in (all.0, all.1)
  leaf_done named k (Truth b) low kept e h = (of_truth s v b, tt)
  leaf_done named k (Const w x) low kept e h = (of_const s v w x, const_sliced (is_width w && nat_lt x (2 ^ w)) w x)
  leaf_done named k _ low kept e h = absurd (false≢true h)

  wire_done : IsOrdered g → WiresAreRead → (k : ℕ) (n : Node) → k < length g.nodes → IsTrue (keep k) → node_at g k ≡ n → is_leaf n ≡ false
      → IsLoaded s v g point k n → AreDone s v g point (operands_of n) → NodeIsDone k n
  wire_done ordered wired k n low kept e h loaded d =
      let same : tree g k ≡ tree_of_node g n = tree_is g k ordered low ∙ ap (tree_of_node g) e in
      let given : Given s v (expression_of g k (node_at g k)) (sort_of (tree g k)) (val (tree_of_node g n) point) =
      subst (λ t. Given s v (expression_of g k (node_at g k)) (sort_of t) (val (tree_of_node g n) point)) (sym same)
      (subst (λ m. Given s v (expression_of g k m) (sort_of (tree_of_node g n)) (val (tree_of_node g n) point)) (sym e) (formed s v g point k n h loaded d)) in
      let read = wired k (val (tree_of_node g n) point) low kept (ap is_leaf e ∙ h) given in (
        subst (λ x. Worth s v x (sort_of (tree_of_node g n)) (val (tree_of_node g n) point)) (sym (wire_operand g.names k n h))
            (subst (λ t. Worth s v (whole_name (wire_name_of k)) (sort_of t) (val (tree_of_node g n) point)) same read.0),
        subst (λ f. SlicedBy s v f (sort_of (tree_of_node g n)) (val (tree_of_node g n) point)) (sym (wire_bits g.names k n h))
            (subst (λ t. SlicedBy s v (bits_of (wire_name_of k)) (sort_of t) (val (tree_of_node g n) point)) same read.1),
      )

  node_done : IsOrdered g → NamesAreRead → WiresAreRead → (k : ℕ) (n : Node) → k < length g.nodes → IsTrue (keep k) → node_at g k ≡ n
      → IsLoaded s v g point k n → AreDone s v g point (operands_of n) → NodeIsDone k n
  node_done ordered named wired k n low kept e loaded d = by_test (is_leaf n) refl
    where
      by_test : (b : Bool) → is_leaf n ≡ b → NodeIsDone k n
      by_test true h = leaf_done named k n low kept e h
      by_test false h = wire_done ordered wired k n low kept e h loaded d

  each_done : (k : ℕ) (js : List ℕ) → ((j : ℕ) → j < k → IsTrue (keep j) → IsDone s v g point j) → AllBelow k js → AreKept keep js → AreDone s v g point js
  each_done k [] h below kept = tt
  each_done k (j ∷ js) h below kept = (h j below.0 kept.0, each_done k js h below.1 kept.1)

  -- what is given of names and wires, and which nodes are kept
  pub record AreGiven : Type 0 where
    pub ordered : IsOrdered g
    pub named : NamesAreRead
    pub wired : WiresAreRead
    pub words : WordsAreRead s v g point keep
    pub closed : OperandsAreKept

  load_done : AreGiven → (k : ℕ) → k < length g.nodes → IsTrue (keep k) → ((j : ℕ) → j < k → IsTrue (keep j) → IsDone s v g point j)
      → IsLoaded s v g point k (node_at g k)
  load_done h k low kept done m i e a d x of_memory of_address there =
      let below : AllBelow k (m.0 ∷ i.0 ∷ []) = subst (λ n. AllBelow k (operands_of n)) e (h.ordered k low) in
      let also_kept : AreKept keep (m.0 ∷ i.0 ∷ []) = subst (λ n. AreKept keep (operands_of n)) e (h.closed k low kept) in
      let before : m.0 < length g.nodes = omega (arith, below.0, low) in
      words_done s v g point keep h.ordered (λ j n l q f. (h.named j n l q f).2) h.words k m i a d x low kept e of_memory of_address before there h.closed
      done (suc m.0) m.0 (next m.0)
      (record { known = before; within = below.0; kept = also_kept.0; sorted = of_memory; part = its_own_part g (suc m.0) m.0 (next m.0) })
    where
      next : (n : ℕ) → n < suc n
      next n = omega arith

  done_below : AreGiven → (b k : ℕ) → k < b → k < length g.nodes → IsTrue (keep k) → IsDone s v g point k
  done_below h zero k less low kept = absurd (omega (arith, less))
  done_below h (suc b) k less low kept =
      let before : (j : ℕ) → j < k → IsTrue (keep j) → IsDone s v g point j =
      λ j l q. done_below h b j (omega (arith, l, less)) (omega (arith, l, low)) q in
      subst (λ t. Worth s v (operand g k) (sort_of t) (val t point) × SlicedBy s v (bits_of_operand g k) (sort_of t) (val t point))
      (sym (tree_is g k h.ordered low))
      (node_done h.ordered h.named h.wired k (node_at g k) low kept refl (load_done h k low kept before)
      (each_done k (operands_of (node_at g k)) before (h.ordered k low) (h.closed k low kept)))

  pub done : AreGiven → (k : ℕ) → k < length g.nodes → IsTrue (keep k) → IsDone s v g point k
  done h k low kept = done_below h (suc k) k (omega arith) low kept
