-- The drivers of a module, list by list.
use Rattle.std.proofs.Common.{◌≡◌, ◌∙◌, ℕ, refl, ap, sym, subst, cond, Bool, true, false, List, [], ◌∷◌, ◌++◌}
use Rattle.std.specs.Prelude.{map}
use Rattle.std.specs.declared.vec.Vec.{Vec}
use Rattle.std.specs.declared.alloc.Global.{Global}
use Rattle.std.specs.Borrow.{Bor}
use Rattle.std.proofs.lemmas.Bool.{and_parts}
use Rattle.std.proofs.lemmas.List.{append_assoc, append-nil, map-append}
use Rattle.verilog_trees.specs.Syntax as pure
use Rattle.verilog_meaning.specs.Expression.{Scope}
use Rattle.verilog_meaning.specs.Register.{is_bit_of, is_clocked, clocked_blocks, combinational_blocks}
use Rattle.verilog_meaning.specs.Settled.{wire_assignments, assignments}
use Rattle.verilog_designs.specs.Reads.{BitSet, or_in}
use Rattle.verilog_designs.specs.Drivers.{parts_of, all_parts_of}
use Rattle.v_syntax.specs.declared.tree.Target.{Target, Place, Joined}
use Rattle.v_syntax.specs.declared.tree.Selects.{Selects}
use Rattle.v_syntax.specs.Tree.{target_of}
use Rattle.v_statement.specs.Statements.{target_list}
use Rattle.v_statement.proofs.Targets.{target_of-Joined}
use Rattle.v_flow.specs.declared.span.Span.{Span}
use Rattle.v_flow.specs.Spans.{bits_in}
use Rattle.v_drivers.specs.Sets.{reached_by, target_drivers, targets_drivers, assignments_drivers, blocks_drivers, drivers}
use Rattle.v_drivers.specs.Bits.{AreOfBits}
use Rattle.v_drivers.specs.Premises.{HaveNarrowTargets, AreNarrowBlocks}
use Rattle.v_drivers.specs.Lists.{sets_in}

-- ---- lists that grow

pub turn : (t a b p rest : List BitSet) → t ≡ a ++ (p ++ rest) → b ≡ a ++ p → t ≡ b ++ rest
turn t a b p rest e h = e ∙ sym (append_assoc a p rest) ∙ ap (λ z. z ++ rest) (sym h)

pub end : (t a p : List BitSet) → t ≡ a ++ p → p ≡ [] → a ≡ t
end t a p e h = sym (e ∙ ap (λ z. a ++ z) h ∙ append-nil a)

-- one driver more, gathered from nothing
pub one-more : (old : List (Vec Span Global)) (new : List (Vec Span Global)) (v : Vec Span Global) (start : List Span) (p : BitSet)
    → start ≡ [] → bits_in v.items ≡ or_in (bits_in start) p → new ≡ old ++ v ∷ [] → sets_in new ≡ sets_in old ++ p ∷ []
one-more old new v start p none bits is =
    ap sets_in is ∙ map-append (λ (x : Vec Span Global). bits_in x.items) old (v ∷ [])
    ∙ ap (λ (q : BitSet). sets_in old ++ q ∷ []) (bits ∙ ap (λ xs. or_in (bits_in xs) p) none)

-- ---- targets

pub no-targets : (s : Scope) → targets_drivers s pure.no_targets ≡ []
unfolding targets_drivers
no-targets s = refl

pub more-targets : (s : Scope) (t : pure.Target) (ts : pure.Targets) → targets_drivers s (pure.target t ts) ≡ target_drivers s t ++ targets_drivers s ts
unfolding target_drivers targets_drivers
more-targets s t ts = map-append (reached_by s) (parts_of t) (all_parts_of ts)

module _ (s : Scope) (e : Target) where
  pub of-Place : (m : Bor (List ℕ)) (x : Selects) → e ≡ Place m x → reached_by s (target_of e) ∷ [] ≡ target_drivers s (target_of e)
  unfolding target_drivers
  of-Place m x i = subst (λ z. reached_by s (target_of z) ∷ [] ≡ map (reached_by s) (parts_of (target_of z))) (sym i) refl

  pub of-Joined : (v : Vec Target Global) → e ≡ Joined v → (ts : List Target) → ts ≡ v.items → targets_drivers s (target_list ts) ≡ target_drivers s (target_of e)
  unfolding target_drivers targets_drivers
  of-Joined v i ts j =
      ap (λ l. map (reached_by s) (all_parts_of (target_list l))) j
      ∙ sym (ap (λ t. map (reached_by s) (parts_of t)) (ap target_of i ∙ target_of-Joined v))

-- ---- assignments

pub drivers-append : (s : Scope) (xs ys : List (pure.Target × pure.Expression))
    → assignments_drivers s (xs ++ ys) ≡ assignments_drivers s xs ++ assignments_drivers s ys
drivers-append s [] ys = refl
drivers-append s (x ∷ xs) ys =
    ap (λ z. target_drivers s x.0 ++ z) (drivers-append s xs ys)
    ∙ sym (append_assoc (target_drivers s x.0) (assignments_drivers s xs) (assignments_drivers s ys))

pub narrow-append : (s : Scope) (xs ys : List (pure.Target × pure.Expression)) → HaveNarrowTargets s (xs ++ ys) → HaveNarrowTargets s xs × HaveNarrowTargets s ys
narrow-append s [] ys h = (tt, h)
narrow-append s (x ∷ xs) ys h = let r = narrow-append s xs ys h.1 in ((h.0, r.0), r.1)

-- ---- each set has bits of its names alone

bits-append : (s : Scope) (ps qs : List BitSet) → AreOfBits s ps → AreOfBits s qs → AreOfBits s (ps ++ qs)
bits-append s [] qs h g = g
bits-append s (p ∷ ps) qs h g = (h.0, bits-append s ps qs h.1 g)

parts-bits : (s : Scope) (ts : List pure.Target) → AreOfBits s (map (reached_by s) ts)
parts-bits s [] = tt
parts-bits s (t ∷ ts) = ((λ n k b h. (and_parts (is_bit_of (s n) k b) _ h).0), parts-bits s ts)

target-bits : (s : Scope) (t : pure.Target) → AreOfBits s (target_drivers s t)
unfolding target_drivers
target-bits s t = parts-bits s (parts_of t)

assignments-bits : (s : Scope) (xs : List (pure.Target × pure.Expression)) → AreOfBits s (assignments_drivers s xs)
assignments-bits s [] = tt
assignments-bits s (x ∷ xs) = bits-append s (target_drivers s x.0) (assignments_drivers s xs) (target-bits s x.0) (assignments-bits s xs)

blocks-bits : (s : Scope) (xs : List pure.Statement) → AreOfBits s (blocks_drivers s xs)
blocks-bits s [] = tt
blocks-bits s (x ∷ xs) = ((λ n k b h. (and_parts (is_bit_of (s n) k b) _ h).0), blocks-bits s xs)

pub drivers-bits : (s : Scope) (items : List pure.Item) → AreOfBits s (drivers s items)
drivers-bits s items =
    bits-append s (assignments_drivers s (assignments items)) (blocks_drivers s (clocked_blocks items) ++ blocks_drivers s (combinational_blocks items))
    (assignments-bits s (assignments items))
    (bits-append s (blocks_drivers s (clocked_blocks items)) (blocks_drivers s (combinational_blocks items))
    (blocks-bits s (clocked_blocks items)) (blocks-bits s (combinational_blocks items)))

-- ---- items

pub links-of-items : (i : pure.Item) (items : List pure.Item) → assignments (i ∷ items) ≡ assignments (i ∷ []) ++ assignments items
links-of-items (pure.port d) items = refl
links-of-items (pure.parameter d) items = refl
links-of-items (pure.wires signed r ws) items = ap (λ z. z ++ assignments items) (sym (append-nil (wire_assignments ws)))
links-of-items (pure.variables signed r vs) items = refl
links-of-items (pure.assign ts) items = ap (λ z. z ++ assignments items) (sym (append-nil ts))
links-of-items (pure.always es x) items = refl
links-of-items (pure.instances m given is) items = refl

chosen : (t : Bool) (x : pure.Statement) (xs : List pure.Statement) → cond t (x ∷ xs) xs ≡ cond t (x ∷ []) [] ++ xs
chosen true x xs = refl
chosen false x xs = refl

not-chosen : (t : Bool) (x : pure.Statement) (xs : List pure.Statement) → cond t xs (x ∷ xs) ≡ cond t [] (x ∷ []) ++ xs
not-chosen true x xs = refl
not-chosen false x xs = refl

pub clocked-of-items : (i : pure.Item) (items : List pure.Item) → clocked_blocks (i ∷ items) ≡ clocked_blocks (i ∷ []) ++ clocked_blocks items
clocked-of-items (pure.port d) items = refl
clocked-of-items (pure.parameter d) items = refl
clocked-of-items (pure.wires signed r ws) items = refl
clocked-of-items (pure.variables signed r vs) items = refl
clocked-of-items (pure.assign ts) items = refl
clocked-of-items (pure.always es x) items = chosen (is_clocked es) x (clocked_blocks items)
clocked-of-items (pure.instances m given is) items = refl

pub combinational-of-items : (i : pure.Item) (items : List pure.Item)
    → combinational_blocks (i ∷ items) ≡ combinational_blocks (i ∷ []) ++ combinational_blocks items
combinational-of-items (pure.port d) items = refl
combinational-of-items (pure.parameter d) items = refl
combinational-of-items (pure.wires signed r ws) items = refl
combinational-of-items (pure.variables signed r vs) items = refl
combinational-of-items (pure.assign ts) items = refl
combinational-of-items (pure.always es x) items = not-chosen (is_clocked es) x (combinational_blocks items)
combinational-of-items (pure.instances m given is) items = refl

pub narrow-blocks-append : (s : Scope) (xs ys : List pure.Statement) → AreNarrowBlocks s (xs ++ ys) → AreNarrowBlocks s xs × AreNarrowBlocks s ys
narrow-blocks-append s [] ys h = (tt, h)
narrow-blocks-append s (x ∷ xs) ys h = let r = narrow-blocks-append s xs ys h.1 in ((h.0, r.0), r.1)
