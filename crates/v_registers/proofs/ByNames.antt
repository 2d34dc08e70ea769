-- Tables of spans by their names: one span more.
use Rattle.std.proofs.Common.{◌≡◌, ◌∙◌, ℕ, ◌+◌, ◌<◌, ap, sym, Bool, true, false, cond, List, [], ◌∷◌, ◌++◌, length, drop, get_or, Bor, Some, None}
use Rattle.std.specs.Prelude.{◌&&◌, ◌||◌}
use Rattle.std.specs.Global.{Global}
use Rattle.std.specs.declared.vec.Vec.{Vec}
use Rattle.std.specs.Ordering.{nat_cmp}
use Rattle.std.specs.Cmp.Lexicographic.{slice_cmp}
use Rattle.std.specs.BTreeMap as tree
use Rattle.std.specs.BTreeMap.{BTreeMap, is_at}
use Rattle.std.specs.Map.{lookup}
use Rattle.std.proofs.lemmas.Slice.Eq.{bytes_eq-Decides}
use Rattle.std.proofs.lemmas.Map.Text.{btree_map_updates_str}
use Rattle.std.proofs.lemmas.List.{drop_more}
use Rattle.wb_values.specs.Value.{Name, same_name}
use Rattle.verilog_designs.specs.Reads.{BitSet, no_bits, or_in}
use Rattle.v_flow.specs.declared.span.Span.{Span}
use Rattle.v_flow.specs.Spans.{is_between, bits_of, bits_in}
use Rattle.v_flow.proofs.Sets.{or_false, push, turn}
use Rattle.verilog_meaning.specs.Register.{is_set}
use Rattle.v_hier.specs.Tables.{under_name}
use Rattle.v_registers.specs.Groups.{items_of, spans_under, bits_under}

abbrev Table : Type 0
Table = BTreeMap (Bor (List ℕ)) (Vec Span Global)

pub other_kept : (old new : Table) (bs : Name) → tree.UpdatesBy (λ a b. slice_cmp nat_cmp a.now b.now) (λ k. slice_cmp nat_cmp bs k.now) old new None
    → (q : Name) → same_name bs q ≡ false → under_name new q ≡ under_name old q
other_kept old new bs u q e = btree_map_updates_str bs old new None u q ∙ ap (λ t. cond t None (under_name old q)) e

module _ (old mid new : Table) (x : Span) (v : Vec Span Global) (items : v.items ≡ spans_under old x.name.now ++ x ∷ [])
    (others : (q : Name) → same_name x.name.now q ≡ false → under_name mid q ≡ under_name old q)
    (u : tree.Updates (λ a b. slice_cmp nat_cmp a.now b.now) mid new x.name (Some v)) where
  at : (q : Name) (k b : ℕ) (t : Bool) → same_name x.name.now q ≡ t
      → bits_in (items_of (cond t (Some v) (under_name mid q))) q k b ≡ or_in (bits_under old) (bits_of x) q k b
  at q k b true e =
      ap (λ xs. bits_in xs q k b) items ∙ ap (λ (f : BitSet). f q k b) (push (spans_under old x.name.now) x)
      ∙ ap (λ n. bits_in (spans_under old n) q k b || bits_of x q k b) ((bytes_eq-Decides x.name.now q).0 e)
  at q k b false e =
      ap (λ o. bits_in (items_of o) q k b) (others q e) ∙ sym (or_false (bits_in (spans_under old q) q k b))
      ∙ ap (λ t. bits_in (spans_under old q) q k b || t) (sym (ap (λ t. t && (is_between x.from_word x.to_word k && is_set x.bits b)) e))

  pub span_added : bits_under new ≡ or_in (bits_under old) (bits_of x)
  span_added =
      λ i q k b. (ap (λ o. bits_in (items_of o) q k b) (btree_map_updates_str x.name.now mid new (Some v) u q) ∙ at q k b (same_name x.name.now q) (λ j. same_name x.name.now q)) i

pub spans_turn : (xs : List Span) (i : ℕ) (d : Span) (t m n : BitSet) → i < length xs → n ≡ or_in m (bits_of (get_or xs i d))
    → t ≡ or_in m (bits_in (drop i xs)) → t ≡ or_in n (bits_in (drop (i + 1) xs))
spans_turn xs i d t m n h e g =
    turn t m n (bits_of (get_or xs i d)) (bits_in (drop (i + 1) xs)) (g ∙ ap (λ ys. or_in m (bits_in ys)) (drop_more xs i d h)) e

pub none_grouped : (t : Table) → t.entries ≡ [] → bits_under t ≡ no_bits
none_grouped t e = λ i q k b. (at q k b) i
  where
    at : (q : Name) (k b : ℕ) → bits_under t q k b ≡ false
    at q k b = ap (λ (es : List (Bor (List ℕ) × Vec Span Global)). bits_in (items_of (lookup (is_at (λ (c : Bor (List ℕ)). slice_cmp nat_cmp q c.now)) es)) q k b) e

pub nothing_before : (m p : BitSet) → m ≡ no_bits → p ≡ or_in m p
nothing_before m p e = ap (λ (z : BitSet). or_in z p) (sym e)
