-- What the rules say of targets, from what they say of their parts.
use Rattle.std.proofs.Common.{◌≡◌, ◌∙◌, refl, ap, sym, ℕ, ◌+◌, min, Bool, true, false, ◌&&◌, ◌||◌, nat_le, List, Option, Some, None, arith}
use Rattle.std.specs.declared.vec.Vec.{Vec}
use Rattle.std.specs.declared.alloc.Global.{Global}
use Rattle.std.specs.Borrow.{Bor}
use Rattle.wb_values.specs.Value.{Name}
use Rattle.wb_values.specs.Choice.{some_if}
use Rattle.verilog_trees.specs.Syntax as pure
use Rattle.verilog_meaning.specs.Expression.{Scope, Object, object_width, is_memory, selects_width}
use Rattle.verilog_meaning.specs.Statement.{target_width, targets_width}
use Rattle.verilog_rules.specs.Expression as rules
use Rattle.verilog_designs.specs.Expressions as designs
use Rattle.v_syntax.specs.declared.tree.Selects.{Selects}
use Rattle.v_syntax.specs.declared.tree.Target.{Target, Place, Joined, Row_of-Target, end_of-Target, more_of-Target, items-the_row-Target, items_hidden-the_row-Target-0}
use Rattle.v_syntax.specs.declared.tree.Target.TheBlock.{hidden-the_row-Target-0}
use Rattle.v_syntax.specs.Tree.{selects_of, target_of, targets_of}
use Rattle.v_size.specs.declared.rule.Broken.{Broken}
use Rattle.v_size.specs.Rule.{coded, both}
use Rattle.v_size.specs.Judged.{capped, added}
use Rattle.v_size.proofs.Chains.{both-none, both-assoc, total-capped}
use Rattle.v_rules.specs.declared.target.Written.{Written}
use Rattle.v_rules.specs.Targets.{target_at, no_part, with_part, targets_from, whole, in_net, in_block, net_target_at, block_target_at}
use mathlib.Core.Former as Former

abbrev made : Broken → Option ℕ → Bool → Written
made b w m = record { broken = b; width = w; memory = m }

pub place-by : (s : Scope) (p : rules.Position) (n : Name) (x : pure.Selects) (o : Object) → o ≡ s n
    → (b : Broken) → b ≡ coded (rules.also (rules.by_name rules.anywhere o x) (rules.broken_selects s p o x))
    → (w : Option ℕ) → w ≡ some_if ((o.is_declared && nat_le (object_width o) 128) && rules.selects_have_width s o x) (selects_width s o x)
    → (v : Option ℕ) → v ≡ capped w → (m : Bool) → m ≡ is_memory o → made b v m ≡ target_at s p (pure.place n x)
unfolding target_at
place-by s p n x o is_o b is_b w is_w v is_v m is_m = λ i. record {
  broken = (is_b ∙ ap (λ a. coded (rules.also (rules.by_name rules.anywhere a x) (rules.broken_selects s p a x))) is_o) i;
  width = (is_v ∙ ap capped (is_w ∙ ap (λ (a : Object). some_if ((a.is_declared && nat_le (object_width a) 128) && rules.selects_have_width s a x) (selects_width s a x)) is_o)) i;
  memory = (is_m ∙ ap is_memory is_o) i;
}

-- ---- targets side by side

or-assoc : (a b c : Bool) → (a || b) || c ≡ a || (b || c)
or-assoc true b c = refl
or-assoc false b c = refl

or-none : (a : Bool) → a ≡ a || false
or-none true = refl
or-none false = refl

added-turn : (v : Option ℕ) (h k : Bool) (w x : ℕ) → added (added v (capped (some_if h w))) (capped (some_if k x)) ≡ added v (capped (some_if (h && k) (w + x)))
added-turn None h k w x = refl
added-turn (Some u) true true w x = let e : min (min (u + min w 129) 129 + min x 129) 129 ≡ min (u + min (w + x) 129) 129 = omega arith in ap Some e
added-turn (Some u) true false w x = refl
added-turn (Some u) false k w x = refl

added-end : (v : Option ℕ) → capped v ≡ added v (Some 0)
added-end None = refl
added-end (Some u) = let e : min u 129 ≡ min (u + 0) 129 = omega arith in ap Some e

added-begin : (v : Option ℕ) → added (Some 0) v ≡ capped v
added-begin None = refl
added-begin (Some u) = let e : min (0 + u) 129 ≡ min u 129 = omega arith in ap Some e

capped-twice : (v : Option ℕ) → capped (capped v) ≡ capped v
capped-twice None = refl
capped-twice (Some u) = let e : min (min u 129) 129 ≡ min u 129 = omega arith in ap Some e

module _ (s : Scope) (p : rules.Position) where
  targets-broken : (n : Former.Count) (r : Row_of-Target n) (a : Written) → (targets_from s p a (items-the_row-Target n r)).broken ≡ both a.broken (coded (designs.broken_targets s p (targets_of r)))
  unfolding target_at
  targets-broken n end_of-Target a = both-none a.broken
  targets-broken n (more_of-Target t r) a =
      targets-broken _ r (with_part a (target_at s p (target_of t)))
      ∙ sym (both-assoc a.broken (coded (designs.broken_target s p (target_of t))) (coded (designs.broken_targets s p (targets_of r))))

  targets-sized : (n : Former.Count) (r : Row_of-Target n) (a : Written)
      → capped (targets_from s p a (items-the_row-Target n r)).width ≡ added a.width (capped (some_if (designs.targets_have_width s (targets_of r)) (targets_width s (targets_of r))))
  unfolding target_at
  targets-sized n end_of-Target a = added-end a.width
  targets-sized n (more_of-Target t r) a =
      targets-sized _ r (with_part a (target_at s p (target_of t)))
      ∙ added-turn a.width (designs.target_has_width s (target_of t)) (designs.targets_have_width s (targets_of r)) (target_width s (target_of t)) (targets_width s (targets_of r))

  targets-written : (n : Former.Count) (r : Row_of-Target n) (a : Written) → (targets_from s p a (items-the_row-Target n r)).memory ≡ a.memory || designs.one_writes_memory s (targets_of r)
  unfolding target_at
  targets-written n end_of-Target a = or-none a.memory
  targets-written n (more_of-Target t r) a =
      targets-written _ r (with_part a (target_at s p (target_of t))) ∙ or-assoc a.memory (designs.writes_memory s (target_of t)) (designs.one_writes_memory s (targets_of r))

  whole-row : (n : Former.Count) (r : Row_of-Target n) → whole (targets_from s p no_part (items-the_row-Target n r)) ≡ target_at s p (pure.joined (targets_of r))
  unfolding target_at
  whole-row n r =
      let u : Option ℕ = some_if (designs.targets_have_width s (targets_of r)) (targets_width s (targets_of r)) in
      let w : capped (targets_from s p no_part (items-the_row-Target n r)).width ≡ capped u = targets-sized n r no_part ∙ added-begin (capped u) ∙ capped-twice u in
      λ i. record {
        broken = both ((ap (λ z. coded (rules.by_total z)) w ∙ total-capped u) i) (targets-broken n r no_part i);
        width = w i;
        memory = targets-written n r no_part i;
      }

  -- t is the target, and r the result
  module _ (t : Target) (r : Written) where
    pub at-Place : (m : Bor (List ℕ)) (x : Selects) → t ≡ Place m x → r ≡ target_at s p (pure.place m.now (selects_of x)) → r ≡ target_at s p (target_of t)
    at-Place m x i h = h ∙ sym (ap (λ z. target_at s p (target_of z)) i)

    pub at-Joined : (v : Vec Target Global) → t ≡ Joined v → (ts : List Target) → ts ≡ v.items → (a : Written) → a ≡ targets_from s p no_part ts → r ≡ whole a → r ≡ target_at s p (target_of t)
    at-Joined v i ts j a is_a h =
        h ∙ ap whole (is_a ∙ ap (targets_from s p no_part) (j ∙ sym (items_hidden-the_row-Target-0 v))) ∙ whole-row _ (hidden-the_row-Target-0 v)
        ∙ sym (ap (λ z. target_at s p (target_of z)) i)

  pub net-by : (t : pure.Target) (a : Written) → a ≡ target_at s p t → in_net a ≡ net_target_at s p t
  unfolding target_at net_target_at
  net-by t a is_a = ap in_net is_a

block-at : (s : Scope) (c : Bool) (t : pure.Target) → in_block c (target_at s rules.anywhere t) ≡ block_target_at s c t
unfolding target_at block_target_at
block-at s true t = refl
block-at s false t = refl

pub block-by : (s : Scope) (c : Bool) (t : pure.Target) (a : Written) → a ≡ target_at s rules.anywhere t → in_block c a ≡ block_target_at s c t
block-by s c t a is_a = ap (in_block c) is_a ∙ block-at s c t
