-- The names of events, and what they cover.
use Rattle.std.proofs.Common.{◌≡◌, ◌∙◌, ℕ, ◌+◌, ◌<◌, refl, ap, sym, Bool, true, false, cond, not, List, [], length, drop, get_or, Bor}
use Rattle.std.specs.Prelude.{◌||◌, ◌↔◌, IsTrue}
use Rattle.std.specs.Ordering.{nat_cmp}
use Rattle.std.specs.Cmp.Lexicographic.{slice_cmp}
use Rattle.std.specs.BTreeMap.{is_at}
use Rattle.std.specs.BTreeSet as sorted
use Rattle.std.specs.BTreeSet.{BTreeSet}
use Rattle.std.specs.List.{list_any}
use Rattle.std.proofs.lemmas.Bool.{false≢true, false_from_ne_true, true_from_ne_false}
use Rattle.std.proofs.lemmas.List.{drop_more}
use Rattle.std.proofs.lemmas.Map.Text.{is_eq-slice_cmp}
use Rattle.wb_values.specs.Value.{Name, same_name}
use Rattle.verilog_trees.specs.Syntax as pure
use Rattle.verilog_trees.specs.Syntax.{Event}
use Rattle.verilog_meaning.specs.Expression.{Scope}
use Rattle.verilog_designs.specs.Names.{is_among}
use Rattle.verilog_designs.specs.Reads.{reads_outside}
use Rattle.verilog_designs.specs.Paths.{signals}
use Rattle.v_syntax.specs.declared.module.Event.{Event as CodeEvent}
use Rattle.v_statement.specs.Registers.{events_list}
use Rattle.v_flow.specs.declared.span.Span.{Span}
use Rattle.v_flow.specs.Spans.{bits_in}
use Rattle.v_hier.specs.Tables.{has_name}
use Rattle.v_paths.specs.Walks.{outside_at}
use Rattle.v_paths.specs.Latches.{one_has_bit}
use Rattle.v_paths.specs.Events.{CoversIn}
use Rattle.v_paths.proofs.Plain.{point}
use Rattle.v_paths.proofs.Found.{IsThere, one-has, has-there}

-- ---- the names of events

has-more : (s n : BTreeSet (Bor (List ℕ))) (k : Bor (List ℕ)) → sorted.Updates (λ x y. slice_cmp nat_cmp x.now y.now) s n k true → (q : Name)
    → has_name n q ≡ cond (same_name k.now q) true (has_name s q)
has-more s n k u q =
    let at_q : Bor (List ℕ) = record { ref_ptr = (0, 0); now = q } in
    u.0 at_q ∙ ap (λ t. cond t true (has_name s q)) (is_eq-slice_cmp k.now q)

moved : (e h r : Bool) → (cond e true h || r) ≡ (h || (e || r))
moved true true r = refl
moved true false r = refl
moved false h r = refl

-- a turn that puts a name into the set
pub name-turn : (es : List CodeEvent) (i : ℕ) (d : CodeEvent) (s n : BTreeSet (Bor (List ℕ))) (t : Bool) (q : Name) → i < length es
    → sorted.Updates (λ x y. slice_cmp nat_cmp x.now y.now) s n (get_or es i d).signal true
    → (has_name s q || is_among (signals (events_list (drop i es))) q) ≡ t → (has_name n q || is_among (signals (events_list (drop (i + 1) es))) q) ≡ t
name-turn es i d s n t q h u e =
    ap (λ b. b || is_among (signals (events_list (drop (i + 1) es))) q) (has-more s n (get_or es i d).signal u q)
    ∙ moved (same_name (get_or es i d).signal.now q) (has_name s q) (is_among (signals (events_list (drop (i + 1) es))) q)
    ∙ ap (λ ys. has_name s q || is_among (signals (events_list ys)) q) (sym (drop_more es i d h)) ∙ e

pub no-name : (t : BTreeSet (Bor (List ℕ))) → t.keys ≡ [] → (q : Name) → has_name t q ≡ false
no-name t e q = ap (λ (ks : List (Bor (List ℕ))). list_any (is_at (λ (c : Bor (List ℕ)). slice_cmp nat_cmp q c.now)) ks) e

-- ---- what they cover

module _ (s : Scope) (x : pure.Statement) (es : List Event) (outside : List Span) (t : BTreeSet (Bor (List ℕ))) (u r : Bool)
    (is_read : bits_in outside ≡ outside_at s x) (named : (q : Name) → has_name t q ≡ is_among (signals es) q)
    (left : u ≡ one_has_bit (λ n. not (has_name t n)) outside) (answer : r ≡ not u) where
  abbrev unnamed : Name → Bool
  unnamed n = not (has_name t n)

  covered : r ≡ true → CoversIn s es x
  unfolding outside_at
  covered h = λ n k b i.
      true_from_ne_false (is_among (signals es) n) (λ f.
      let there : IsThere (bits_in outside) unnamed = record {
        name = n;
        word = k;
        bit = b;
        is_in = point (bits_in outside) (reads_outside s x) is_read n k b ∙ i;
        so = ap not (named n ∙ f);
      } in
      false≢true (sym (answer ∙ ap not (left ∙ has-there unnamed outside there)) ∙ h))

  none-left : CoversIn s es x → u ≡ true → ⊥
  unfolding outside_at
  none-left c v =
      let w = one-has unnamed outside (sym left ∙ v) in
      let among = c w.name w.word w.bit (sym (point (bits_in outside) (reads_outside s x) is_read w.name w.word w.bit) ∙ w.is_in) in
      false≢true (sym (ap not (named w.name ∙ among)) ∙ w.so)

  pub covers-so : IsTrue r ↔ CoversIn s es x
  covers-so = (covered, (λ c. answer ∙ ap not (false_from_ne_true u (none-left c))))
