-- The names of each term of a store have values of their sorts, so the term's value is of its sort.
use Rattle.std.proofs.Common.{◌≡◌, ℕ, ◌+◌, ◌<◌, ◌≤◌, length, sym, subst, arith, inl, inr}
use Rattle.std.proofs.lemmas.Bool.{cases_lt}
use Rattle.wb_values.specs.Value.{Valuation}
use Rattle.wb_terms.specs.declared.nodes.Node.{Node}
use Rattle.wb_terms.specs.declared.nodes.Node.TheVariants.{Name as NameNode, Truth, Const, Not, And, Or, Xor, Neg, Add, Sub, Mul, Shl, Lshr, Ashr, Eq, Ult, Ule, Slt, Sle, Concat, Extract, Zext, Sext, Ite, Load, Store}
use Rattle.wb_terms.specs.Graph.{Graph, tree, tree_of_node, IsOver}
use Rattle.wb_terms.proofs.ValueSorts.{NamesFit, HasSort-val}
use Rattle.run_terms.specs.Names.{FitsNames}
use Rattle.condition_terms.specs.Told.{AreAllOfSorts}

-- names of the trees of the first so many terms
abbrev pub AllFit : Graph → ℕ → Type 0
AllFit g n = (id : ℕ) (v : Valuation) → id < n → FitsNames g.names v → NamesFit v (tree g id)

node_fits : (g : Graph) (n : Node) (count : ℕ) (v : Valuation) → IsOver g count n → ((id : ℕ) → id < count → NamesFit v (tree g id)) → FitsNames g.names v → NamesFit v (tree_of_node g n)
node_fits g (NameNode n) c v o h f = f n.0 o.names.0
node_fits g (Truth b) c v o h f = tt
node_fits g (Const w x) c v o h f = tt
node_fits g (Not x) c v o h f = h x.0 o.operands.0
node_fits g (And x y) c v o h f = (h x.0 o.operands.0, h y.0 o.operands.1.0)
node_fits g (Or x y) c v o h f = (h x.0 o.operands.0, h y.0 o.operands.1.0)
node_fits g (Xor x y) c v o h f = (h x.0 o.operands.0, h y.0 o.operands.1.0)
node_fits g (Neg x) c v o h f = h x.0 o.operands.0
node_fits g (Add x y) c v o h f = (h x.0 o.operands.0, h y.0 o.operands.1.0)
node_fits g (Sub x y) c v o h f = (h x.0 o.operands.0, h y.0 o.operands.1.0)
node_fits g (Mul x y) c v o h f = (h x.0 o.operands.0, h y.0 o.operands.1.0)
node_fits g (Shl x y) c v o h f = (h x.0 o.operands.0, h y.0 o.operands.1.0)
node_fits g (Lshr x y) c v o h f = (h x.0 o.operands.0, h y.0 o.operands.1.0)
node_fits g (Ashr x y) c v o h f = (h x.0 o.operands.0, h y.0 o.operands.1.0)
node_fits g (Eq x y) c v o h f = (h x.0 o.operands.0, h y.0 o.operands.1.0)
node_fits g (Ult x y) c v o h f = (h x.0 o.operands.0, h y.0 o.operands.1.0)
node_fits g (Ule x y) c v o h f = (h x.0 o.operands.0, h y.0 o.operands.1.0)
node_fits g (Slt x y) c v o h f = (h x.0 o.operands.0, h y.0 o.operands.1.0)
node_fits g (Sle x y) c v o h f = (h x.0 o.operands.0, h y.0 o.operands.1.0)
node_fits g (Concat x y) c v o h f = (h x.0 o.operands.0, h y.0 o.operands.1.0)
node_fits g (Extract a b x) c v o h f = h x.0 o.operands.0
node_fits g (Zext n x) c v o h f = h x.0 o.operands.0
node_fits g (Sext n x) c v o h f = h x.0 o.operands.0
node_fits g (Ite p x y) c v o h f = (h p.0 o.operands.0, h x.0 o.operands.1.0, h y.0 o.operands.1.1.0)
node_fits g (Load m i) c v o h f = (h m.0 o.operands.0, h i.0 o.operands.1.0)
node_fits g (Store m i x) c v o h f = (h m.0 o.operands.0, h i.0 o.operands.1.0, h x.0 o.operands.1.1.0)

pub none_fit : (g : Graph) → AllFit g 0
none_fit g id v b f = absurd (omega (arith, b))

pub fit_more : (g : Graph) (n : ℕ) (node : Node) → AllFit g n → tree g n ≡ tree_of_node g node → IsOver g n node → AllFit g (n + 1)
fit_more g n node h e o id v b f =
    elim (cases_lt id n) as (λ _. NamesFit v (tree g id)) [
      | inl l ↦ h id v l f
      | inr l ↦ (let same : n ≡ id = omega (arith, b, l) in
          subst (λ j. NamesFit v (tree g j)) same (subst (NamesFit v) (sym e) (node_fits g node n v o (λ k c. h k v c f) f)))
    ]

pub all_of_sorts : (g : Graph) (n : ℕ) → AllFit g n → length g.nodes ≤ n → AreAllOfSorts g
all_of_sorts g n h l id s b e = record { below = b; sort = e; is_of = λ v f. HasSort-val v (tree g id) s (h id v (omega (arith, b, l)) f) e }
