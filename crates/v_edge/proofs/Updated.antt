-- Images after the updates of blocks, one after the other.
use Rattle.std.proofs.Common.{◌≡◌, ◌∙◌, refl, ap, sym, subst, arith, ℕ, suc, ◌+◌, ◌<◌, false, List, [], ◌∷◌, ◌++◌, append-nil, length, drop, get_or, drop-cons}
use Rattle.std.specs.Prelude.{◌||◌}
use Rattle.std.specs.List.{list_any}
use Rattle.std.proofs.lemmas.Bool.{or_parts}
use Rattle.wb_values.specs.Value.{Valuation}
use Rattle.verilog_trees.specs.Syntax.{Statement}
use Rattle.verilog_meaning.specs.Expression.{Scope}
use Rattle.verilog_meaning.specs.Statement.{Update, run, with_update, with_updates}
use Rattle.verilog_meaning.specs.Register.{updates_of_blocks}
use Rattle.verilog_designs.specs.Paths.{has_blocking}
use Rattle.wb_terms.specs.Graph.{Graph}
use Rattle.v_lower.specs.Lowered.{Images, HasImages, StandsFor}
use Rattle.v_write.specs.Blocks.{IsStatementLowered}
use Rattle.v_statement.proofs.Edges.{updates-more}
use Rattle.v_edge.specs.Edge.{AreSound, AreUpdated}
use Rattle.v_edge.proofs.Waiting.{run_waits}

-- ---- blocks in their order

pub rest_is : {A : Type 0} (xs : List A) (i : ℕ) (r : A) → i < length xs → r ≡ get_or xs i r → drop i xs ≡ r ∷ drop (i + 1) xs
rest_is xs i r h is =
    let e : suc i ≡ i + 1 = omega arith in
    drop-cons xs i r h ∙ ap (λ a. a ∷ drop (suc i) xs) (sym is) ∙ ap (λ k. r ∷ drop k xs) e

pub sound_first : (s : Scope) (xs ys : List Statement) → AreSound s (xs ++ ys) → AreSound s xs × AreSound s ys
sound_first s [] ys h = (tt, h)
sound_first s (x ∷ xs) ys h = let r = sound_first s xs ys h.1 in ((h.0, r.0), r.1)

pub waits_first : (xs ys : List Statement) → list_any has_blocking (xs ++ ys) ≡ false → (list_any has_blocking xs ≡ false) × (list_any has_blocking ys ≡ false)
waits_first [] ys h = (refl, h)
waits_first (x ∷ xs) ys h =
    let f = or_parts (has_blocking x) (list_any has_blocking (xs ++ ys)) h in
    let r = waits_first xs ys f.1 in
    (ap (λ b. b || list_any has_blocking xs) f.0 ∙ r.0, r.1)

-- ---- updates

updates-append : (s : Scope) (u : Valuation) (us ws : List Update) → with_updates s u (us ++ ws) ≡ with_updates s (with_updates s u us) ws
updates-append s u [] ws = refl
updates-append s u (x ∷ us) ws = updates-append s (with_update s u x) us ws

pub none_updated : (s : Scope) (a n : Images) (g : Graph) → HasImages s a g → HasImages s n g → AreUpdated s a n g [] a n g
none_updated s a n g known next =
    record { known = known; known_next = next; names = λ k. refl; names_next = λ k. refl; stands = λ p v u sv su. sv; stands_next = λ p v u sv su. su }

pub one_updated : (s : Scope) (a n : Images) (g : Graph) (x : Statement) (b m : Images) (h : Graph) → has_blocking x ≡ false
    → IsStatementLowered s a n g x b m h → AreUpdated s a n g (x ∷ []) b m h
one_updated s a n g x b m h waits l =
    record {
      known = l.known;
      known_next = l.known_next;
      names = l.names;
      names_next = l.names_next;
      stands = λ p v u sv su. subst (StandsFor s b h p) (run_waits s x v waits) (l.stands p v u sv su);
      stands_next = λ p v u sv su.
          subst (λ us. StandsFor s m h p (with_updates s u us)) (sym (append-nil (run s x v).updates)) (l.stands_next p v u sv su);
    }

pub more_updated : (s : Scope) (a n : Images) (g : Graph) (xs : List Statement) (b m : Images) (h : Graph) (ys : List Statement) (c l : Images) (k : Graph)
    → AreUpdated s a n g xs b m h → AreUpdated s b m h ys c l k → AreUpdated s a n g (xs ++ ys) c l k
more_updated s a n g xs b m h ys c l k f r =
    record {
      known = r.known;
      known_next = r.known_next;
      names = λ q. r.names q ∙ f.names q;
      names_next = λ q. r.names_next q ∙ f.names_next q;
      stands = λ p v u sv su. r.stands p v (with_updates s u (updates_of_blocks s v xs)) (f.stands p v u sv su) (f.stands_next p v u sv su);
      stands_next = λ p v u sv su.
          subst (StandsFor s l k p)
          (sym (updates-append s u (updates_of_blocks s v xs) (updates_of_blocks s v ys)) ∙ ap (with_updates s u) (sym (updates-more s v xs ys)))
          (r.stands_next p v (with_updates s u (updates_of_blocks s v xs)) (f.stands p v u sv su) (f.stands_next p v u sv su));
    }

-- the block of an item
pub item_updated : (s : Scope) (a n : Images) (g : Graph) (xs : List Statement) (x : Statement) (b m : Images) (h : Graph) → x ∷ [] ≡ xs
    → list_any has_blocking xs ≡ false → IsStatementLowered s a n g x b m h → AreUpdated s a n g xs b m h
item_updated s a n g xs x b m h e waits l =
    subst (λ ys. AreUpdated s a n g ys b m h) e
    (one_updated s a n g x b m h (or_parts (has_blocking x) false (subst (λ ys. list_any has_blocking ys ≡ false) (sym e) waits)).0 l)
