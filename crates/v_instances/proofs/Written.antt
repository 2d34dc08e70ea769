-- Expressions that are targets as well, and what the rules say of them.
use Rattle.std.proofs.Common.{◌≡◌, ◌∙◌, refl, ap, sym, ℕ, ◌+◌, min, Bool, true, false, ◌&&◌, ◌||◌, nat_le, List, [], ◌∷◌, Option, Some, None, option_map, arith}
use Rattle.std.specs.Prelude.{is_some, unwrap_or, option_and_then}
use Rattle.std.proofs.lemmas.Bool.{false≢true}
use Rattle.std.specs.declared.boxed.Box.{Box}
use Rattle.std.specs.declared.vec.Vec.{Vec}
use Rattle.std.specs.declared.alloc.Global.{Global}
use Rattle.std.specs.Borrow.{Bor}
use Rattle.wb_values.specs.Value.{Name}
use Rattle.wb_values.specs.Choice.{some_if}
use Rattle.verilog_trees.specs.Syntax as pure
use Rattle.verilog_trees.specs.Syntax.{Target, Targets, no_targets, target}
use Rattle.verilog_meaning.specs.Expression.{Scope, Object, object_width, is_memory, selects_width}
use Rattle.verilog_meaning.specs.Statement.{target_width, targets_width}
use Rattle.verilog_meaning.specs.Settled.{as_target, all_as_targets}
use Rattle.verilog_rules.specs.Expression as rules
use Rattle.verilog_designs.specs.Expressions as designs
use Rattle.v_syntax.specs.declared.tree.Number.{Number as CodeNumber}
use Rattle.v_syntax.specs.declared.tree.PrefixOperator.{PrefixOperator}
use Rattle.v_syntax.specs.declared.tree.BinaryLink.{BinaryLink}
use Rattle.v_syntax.specs.declared.tree.TestLink.{TestLink}
use Rattle.v_syntax.specs.declared.tree.Choice.{Choice}
use Rattle.v_syntax.specs.declared.tree.Selects.{Selects}
use Rattle.v_syntax.specs.declared.tree.Expression.{Expression, Number, Name as NameOf, Concatenation, Replication, AsSigned, AsUnsigned, Prefix, Binary, Test, Conditional}
use Rattle.v_syntax.specs.Tree.{tree_of, selects_of, all_prefixed, prefixed, combined, tested, expressions_of}
use Rattle.v_syntax.specs.Chain.{linked, test_linked, chosen}
use Rattle.v_syntax.proofs.Trees.{tree_of-Concatenation, tree_of-Binary, tree_of-Test, tree_of-Conditional}
use Rattle.v_size.specs.declared.rule.Broken.{Broken}
use Rattle.v_size.specs.Rule.{coded, both}
use Rattle.v_size.specs.Judged.{capped, added}
use Rattle.v_size.proofs.Chains.{both-none, both-assoc, total-capped}
use Rattle.v_instances.specs.declared.output.Written.{Written}
use Rattle.v_instances.specs.Connections.{are_none}
use Rattle.v_instances.specs.Outputs.{written_at, no_part, with_part, whole, found_at, with_found, found_from, found_alone, in_net, output_at}
use Rattle.v_instances.proofs.Shapes.{prefixed-none, combined-none, tested-none, linked-none, test_linked-none}

abbrev made : Broken → Option ℕ → Bool → Written
made b w m = record { broken = b; width = w; memory = m }

pub place-by : (s : Scope) (n : Name) (x : pure.Selects) (o : Object) → o ≡ s n
    → (b : Broken) → b ≡ coded (rules.also (rules.by_name rules.anywhere o x) (rules.broken_selects s designs.by_constants o x))
    → (w : Option ℕ) → w ≡ some_if ((o.is_declared && nat_le (object_width o) 128) && rules.selects_have_width s o x) (selects_width s o x)
    → (v : Option ℕ) → v ≡ capped w → (m : Bool) → m ≡ is_memory o → made b v m ≡ written_at s (pure.place n x)
unfolding written_at
place-by s n x o is_o b is_b w is_w v is_v m is_m = λ i. record {
  broken = (is_b ∙ ap (λ a. coded (rules.also (rules.by_name rules.anywhere a x) (rules.broken_selects s designs.by_constants a x))) is_o) i;
  width = (is_v ∙ ap capped (is_w ∙ ap (λ (a : Object). some_if ((a.is_declared && nat_le (object_width a) 128) && rules.selects_have_width s a x) (selects_width s a x)) is_o)) i;
  memory = (is_m ∙ ap is_memory is_o) i;
}

-- ---- targets side by side

or-assoc : (a b c : Bool) → (a || b) || c ≡ a || (b || c)
or-assoc true b c = refl
or-assoc false b c = refl

or-none : (a : Bool) → a ≡ a || false
or-none true = refl
or-none false = refl

added-turn : (v : Option ℕ) (h k : Bool) (w x : ℕ) → added (added v (capped (some_if h w))) (capped (some_if k x)) ≡ added v (capped (some_if (h && k) (w + x)))
added-turn None h k w x = refl
added-turn (Some u) true true w x = let e : min (min (u + min w 129) 129 + min x 129) 129 ≡ min (u + min (w + x) 129) 129 = omega arith in ap Some e
added-turn (Some u) true false w x = refl
added-turn (Some u) false k w x = refl

added-end : (v : Option ℕ) → capped v ≡ added v (Some 0)
added-end None = refl
added-end (Some u) = let e : min u 129 ≡ min (u + 0) 129 = omega arith in ap Some e

added-begin : (v : Option ℕ) → added (Some 0) v ≡ capped v
added-begin None = refl
added-begin (Some u) = let e : min (0 + u) 129 ≡ min u 129 = omega arith in ap Some e

capped-twice : (v : Option ℕ) → capped (capped v) ≡ capped v
capped-twice None = refl
capped-twice (Some u) = let e : min (min u 129) 129 ≡ min u 129 = omega arith in ap Some e

none-some : {A : Type 0} (t : A) → None ≡ Some t → ⊥
none-some t h = false≢true (ap is_some h)

abbrev after : Scope → Written → Targets → Written
after s a no_targets = a
after s a (target t ts) = after s (with_part a (written_at s t)) ts

module _ (s : Scope) where
  after-broken : (ts : Targets) (a : Written) → (after s a ts).broken ≡ both a.broken (coded (designs.broken_targets s designs.by_constants ts))
  unfolding written_at
  after-broken no_targets a = both-none a.broken
  after-broken (target t ts) a =
      after-broken ts (with_part a (written_at s t))
      ∙ sym (both-assoc a.broken (coded (designs.broken_target s designs.by_constants t)) (coded (designs.broken_targets s designs.by_constants ts)))

  after-sized : (ts : Targets) (a : Written) → capped (after s a ts).width ≡ added a.width (capped (some_if (designs.targets_have_width s ts) (targets_width s ts)))
  unfolding written_at
  after-sized no_targets a = added-end a.width
  after-sized (target t ts) a =
      after-sized ts (with_part a (written_at s t))
      ∙ added-turn a.width (designs.target_has_width s t) (designs.targets_have_width s ts) (target_width s t) (targets_width s ts)

  after-memory : (ts : Targets) (a : Written) → (after s a ts).memory ≡ a.memory || designs.one_writes_memory s ts
  unfolding written_at
  after-memory no_targets a = or-none a.memory
  after-memory (target t ts) a =
      after-memory ts (with_part a (written_at s t)) ∙ or-assoc a.memory (designs.writes_memory s t) (designs.one_writes_memory s ts)

  whole-so : (ts : Targets) → whole (after s no_part ts) ≡ written_at s (pure.joined ts)
  unfolding written_at
  whole-so ts =
      let u : Option ℕ = some_if (designs.targets_have_width s ts) (targets_width s ts) in
      let w : capped (after s no_part ts).width ≡ capped u = after-sized ts no_part ∙ added-begin (capped u) ∙ capped-twice u in
      λ i. record {
        broken = both ((ap (λ z. coded (rules.by_total z)) w ∙ total-capped u) i) (after-broken ts no_part i);
        width = w i;
        memory = after-memory ts no_part i;
      }

  -- ---- expressions side by side

  none-from : (es : List Expression) → found_from s None es ≡ None
  none-from [] = refl
  none-from (e ∷ es) = none-from es

  part-mapped : (a : Written) (t : Target) (o : Option Targets) → option_map (after s (with_part a (written_at s t))) o ≡ option_map (after s a) (option_map (target t) o)
  part-mapped a t None = refl
  part-mapped a t (Some ts) = refl

  part-step : (a : Written) (es : List Expression) (rest : Option Targets) (o : Option Target) → ((b : Written) → found_from s (Some b) es ≡ option_map (after s b) rest)
      → found_from s (with_found (Some a) (option_map (written_at s) o)) es ≡ option_map (after s a) (option_and_then (λ t. option_map (target t) rest) o)
  part-step a es rest None ih = none-from es
  part-step a es rest (Some t) ih = ih (with_part a (written_at s t)) ∙ part-mapped a t rest

  parts-found : (es : List Expression) (a : Written) → found_from s (Some a) es ≡ option_map (after s a) (all_as_targets (expressions_of es))
  unfolding found_at
  parts-found [] a = refl
  parts-found (e ∷ es) a = part-step a es (all_as_targets (expressions_of es)) (as_target (tree_of e)) (parts-found es)

  whole-mapped : (o : Option Targets) → option_map whole (option_map (after s no_part) o) ≡ option_map (written_at s) (option_map pure.joined o)
  whole-mapped None = refl
  whole-mapped (Some ts) = ap Some (whole-so ts)

  joined-found : (es : List Expression) → option_map whole (found_from s (Some no_part) es) ≡ found_at s (pure.concatenation (expressions_of es))
  unfolding found_at
  joined-found es = ap (option_map whole) (parts-found es no_part) ∙ whole-mapped (all_as_targets (expressions_of es))

  -- ---- chains

  none-found : (e : pure.Expression) → as_target e ≡ None → None ≡ found_at s e
  unfolding found_at
  none-found e h = sym (ap (option_map (written_at s)) h)

  found-prefixed : (os : List PrefixOperator) (x : pure.Expression) → found_alone (are_none os) (found_at s x) ≡ found_at s (all_prefixed os x)
  found-prefixed [] x = refl
  found-prefixed (o ∷ os) x = none-found (prefixed o (all_prefixed os x)) (prefixed-none o (all_prefixed os x))

  found-linked : (ls : List BinaryLink) (x : pure.Expression) → found_alone (are_none ls) (found_at s x) ≡ found_at s (linked ls x)
  found-linked [] x = refl
  found-linked (l ∷ ls) x =
      none-found (linked ls (combined l.operator x (tree_of l.operand))) (linked-none ls (combined l.operator x (tree_of l.operand)) (combined-none l.operator x (tree_of l.operand)))

  found-test_linked : (ls : List TestLink) (x : pure.Expression) → found_alone (are_none ls) (found_at s x) ≡ found_at s (test_linked ls x)
  found-test_linked [] x = refl
  found-test_linked (l ∷ ls) x =
      none-found (test_linked ls (tested l.operator x (tree_of l.operand))) (test_linked-none ls (tested l.operator x (tree_of l.operand)) (tested-none l.operator x (tree_of l.operand)))

  found-chosen : (cs : List Choice) (x : pure.Expression) → found_alone (are_none cs) (found_at s x) ≡ found_at s (chosen cs x)
  found-chosen [] x = refl
  found-chosen (c ∷ cs) x = none-found (chosen (c ∷ cs) x) refl

  -- ---- e is the expression, and r what is found

  module _ (e : Expression) (r : Option Written) where
    pub at-Name : (m : Bor (List ℕ)) (x : Selects) → e ≡ NameOf m x → (t : Written) → t ≡ written_at s (pure.place m.now (selects_of x)) → r ≡ Some t → r ≡ found_at s (tree_of e)
    unfolding found_at
    at-Name m x i t is_t h = h ∙ ap Some is_t ∙ sym (ap (λ z. found_at s (tree_of z)) i)

    pub at-Concatenation : (v : Vec Expression Global) → e ≡ Concatenation v → (es : List Expression) → es ≡ v.items → (a : Option Written) → a ≡ found_from s (Some no_part) es
        → r ≡ option_map whole a → r ≡ found_at s (tree_of e)
    at-Concatenation v i es j a is_a h =
        h ∙ ap (option_map whole) (is_a ∙ ap (found_from s (Some no_part)) j) ∙ joined-found v.items ∙ sym (ap (found_at s) (ap tree_of i ∙ tree_of-Concatenation v))

    module _ (h : r ≡ None) where
      pub at-Number : (k : CodeNumber) → e ≡ Number k → r ≡ found_at s (tree_of e)
      unfolding found_at
      at-Number k i = h ∙ sym (ap (λ z. found_at s (tree_of z)) i)

      pub at-Replication : (b : Box Expression Global) (v : Vec Expression Global) → e ≡ Replication b v → r ≡ found_at s (tree_of e)
      unfolding found_at
      at-Replication b v i = h ∙ sym (ap (λ z. found_at s (tree_of z)) i)

      pub at-AsSigned : (b : Box Expression Global) → e ≡ AsSigned b → r ≡ found_at s (tree_of e)
      unfolding found_at
      at-AsSigned b i = h ∙ sym (ap (λ z. found_at s (tree_of z)) i)

      pub at-AsUnsigned : (b : Box Expression Global) → e ≡ AsUnsigned b → r ≡ found_at s (tree_of e)
      unfolding found_at
      at-AsUnsigned b i = h ∙ sym (ap (λ z. found_at s (tree_of z)) i)

    -- x is the operand, and k what is found of it
    module _ (b : Box Expression Global) (x : Expression) (j : x ≡ b.value) (k : Option Written) (is_k : k ≡ found_at s (tree_of x)) where
      operand : k ≡ found_at s (tree_of b.value)
      operand = is_k ∙ ap (λ z. found_at s (tree_of z)) j

      pub at-Prefix : (v : Vec PrefixOperator Global) → e ≡ Prefix v b → (os : List PrefixOperator) → os ≡ v.items → r ≡ found_alone (are_none os) k → r ≡ found_at s (tree_of e)
      at-Prefix v i os l h =
          h ∙ ap (λ z. found_alone (are_none z) k) l ∙ ap (found_alone (are_none v.items)) operand ∙ found-prefixed v.items (tree_of b.value) ∙ sym (ap (λ z. found_at s (tree_of z)) i)

      pub at-Binary : (v : Vec BinaryLink Global) → e ≡ Binary b v → (ls : List BinaryLink) → ls ≡ v.items → r ≡ found_alone (are_none ls) k → r ≡ found_at s (tree_of e)
      at-Binary v i ls l h =
          h ∙ ap (λ z. found_alone (are_none z) k) l ∙ ap (found_alone (are_none v.items)) operand ∙ found-linked v.items (tree_of b.value) ∙ sym (ap (found_at s) (ap tree_of i ∙ tree_of-Binary b v))

      pub at-Test : (v : Vec TestLink Global) → e ≡ Test b v → (ls : List TestLink) → ls ≡ v.items → r ≡ found_alone (are_none ls) k → r ≡ found_at s (tree_of e)
      at-Test v i ls l h =
          h ∙ ap (λ z. found_alone (are_none z) k) l ∙ ap (found_alone (are_none v.items)) operand ∙ found-test_linked v.items (tree_of b.value) ∙ sym (ap (found_at s) (ap tree_of i ∙ tree_of-Test b v))

      pub at-Conditional : (v : Vec Choice Global) → e ≡ Conditional v b → (cs : List Choice) → cs ≡ v.items → r ≡ found_alone (are_none cs) k → r ≡ found_at s (tree_of e)
      at-Conditional v i cs l h =
          h ∙ ap (λ z. found_alone (are_none z) k) l ∙ ap (found_alone (are_none v.items)) operand ∙ found-chosen v.items (tree_of b.value) ∙ sym (ap (found_at s) (ap tree_of i ∙ tree_of-Conditional v b))

  -- ---- what is connected to an output

  net-of : (e : pure.Expression) (o : Option Target) (t : Written) → option_map (written_at s) o ≡ Some t → in_net t ≡ coded (designs.broken_output s e o)
  unfolding written_at
  net-of e None t h = absurd (none-some t h)
  net-of e (Some u) t h = ap in_net (sym (ap (λ z. unwrap_or z t) h))

  pub output-target : (e : pure.Expression) (t : Written) → found_at s e ≡ Some t → in_net t ≡ output_at s e
  unfolding found_at output_at
  output-target e t h = net-of e (as_target e) t h

  read-of : (e : pure.Expression) (o : Option Target) → option_map (written_at s) o ≡ None → coded (rules.broken s rules.anywhere e) ≡ coded (designs.broken_output s e o)
  read-of e None h = refl
  read-of e (Some u) h = absurd (none-some (written_at s u) (sym h))

  pub output-other : (e : pure.Expression) → found_at s e ≡ None → coded (rules.broken s rules.anywhere e) ≡ output_at s e
  unfolding found_at output_at
  output-other e h = read-of e (as_target e) h
