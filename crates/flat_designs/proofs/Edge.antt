-- What the flat clocked blocks leave at the clock's edge.
use Rattle.std.proofs.Common.{◌≡◌, ℕ, Bool, true, false, cond, List, [], ◌∷◌, ◌++◌, inl, inr, refl, sym, ap, ◌∙◌, subst}
use Rattle.std.specs.List.{Contains}
use Rattle.std.specs.Prelude.{◌≢◌, ◌/◌, ◌%◌, ◌^◌}
use Rattle.wb_values.specs.Value.{Name, same_name, Valuation}
use Rattle.verilog_trees.specs.Syntax.{Expression, Target, Statement}
use Rattle.verilog_meaning.specs.Expression.{Scope}
use Rattle.verilog_meaning.specs.Statement.{Place, places_width, written_cell, written_place, written, Update, run, with_updates}
use Rattle.verilog_meaning.specs.Register.{clocked_blocks, updates_of_blocks}
use Rattle.verilog_meaning.specs.Hierarchy.{Placed, placed_scope}
use Rattle.verilog_meaning.specs.Settled.{Design, IsPlacedIn, inside, IsDeclared}
use Rattle.verilog_designs.specs.Accepted.{HasUndeclared}
use Rattle.verilog_unique.proofs.Options.{same_is}
use Rattle.verilog_unique.proofs.Descent.{IsAmong, among_left, among_right, among_either, contains_among, among_contains}
use Rattle.verilog_renamed.specs.Renamed.{renamed_statement, renamed_blocks, renamed_places, renamed_updates}
use Rattle.verilog_renamed.specs.EachName.{EachPlaced, EachUpdated}
use Rattle.verilog_renamed.specs.KnownNames.{IsRenamed}
use Rattle.verilog_renamed.proofs.EachName.{statement_follows, each_updated}
use Rattle.verilog_renamed.proofs.KnownNames.{known_updates, known_runs}
use Rattle.flat_designs.specs.Flat.{IsNameOf, Naming, IsNaming, IsSeenAs, IsFlatClocked, of_clocked, IsFlat}
use Rattle.flat_designs.specs.Edge.{StandInOrder, EdgeLeavesTheSame, clocked_in_turn, StandApart, ModulesInTurnAreInTextOrder}
use Rattle.flat_designs.proofs.Known.{in_clocked, one_place}
use Rattle.flat_designs.proofs.Settled.{statement_known}

-- ---- updates, at one name

with_two : (s : Scope) (v : Valuation) (us ws : List Update) → with_updates s v (us ++ ws) ≡ with_updates s (with_updates s v us) ws
with_two s v [] ws = refl
with_two s v (u ∷ us) ws = with_two s (written s v u.places u.value) us ws

-- what is written at a name rests on what was there alone
written_at : (s : Scope) (v w : Valuation) (ps : List Place) (x : ℕ) (n : Name) → v n ≡ w n → written s v ps x n ≡ written s w ps x n
written_at s v w [] x n e = e
written_at s v w (p ∷ ps) x n e =
    one (written s v ps (x % 2 ^ places_width ps)) (written s w ps (x % 2 ^ places_width ps)) (x / 2 ^ places_width ps)
    (written_at s v w ps (x % 2 ^ places_width ps) n e)
  where
    one : (a b : Valuation) (y : ℕ) → a n ≡ b n → written_place s a p y n ≡ written_place s b p y n
    one a b y h = chosen (same_name p.of_name n) (λ t. same_is p.of_name n t)
      where
        chosen : (c : Bool) → (c ≡ true → p.of_name ≡ n)
            → cond c (written_cell (s p.of_name) (a p.of_name) p.cell p.bits y) (a n) ≡ cond c (written_cell (s p.of_name) (b p.of_name) p.cell p.bits y) (b n)
        chosen true f = ap (λ z. written_cell (s p.of_name) z p.cell p.bits y) (subst (λ m. a m ≡ b m) (sym (f refl)) h)
        chosen false f = h

updated_at : (s : Scope) (v w : Valuation) (us : List Update) (n : Name) → v n ≡ w n → with_updates s v us n ≡ with_updates s w us n
updated_at s v w [] n e = e
updated_at s v w (u ∷ us) n e =
    updated_at s (written s v u.places u.value) (written s w u.places u.value) us n (written_at s v w u.places u.value n e)

-- a name that is none of those written keeps its value
abbrev Misses : (Name → Name) → Name → Name → Type 0
Misses f n m = f m ≡ n → ⊥

written_apart : (f : Name → Name) (s : Scope) (v : Valuation) (ps : List Place) (x : ℕ) (n : Name) → EachPlaced (Misses f n) ps
    → written s v (renamed_places f ps) x n ≡ v n
written_apart f s v [] x n a = refl
written_apart f s v (p ∷ ps) x n a =
    one (written s v (renamed_places f ps) (x % 2 ^ places_width (renamed_places f ps))) (x / 2 ^ places_width (renamed_places f ps))
    ∙ written_apart f s v ps (x % 2 ^ places_width (renamed_places f ps)) n a.1
  where
    one : (w : Valuation) (y : ℕ) → written_place s w (record { of_name = f p.of_name; cell = p.cell; bits = p.bits }) y n ≡ w n
    one w y = chosen (same_name (f p.of_name) n) (λ t. same_is (f p.of_name) n t)
      where
        chosen : (c : Bool) → (c ≡ true → f p.of_name ≡ n) → cond c (written_cell (s (f p.of_name)) (w (f p.of_name)) p.cell p.bits y) (w n) ≡ w n
        chosen true g = absurd (a.0 (g refl))
        chosen false g = refl

updated_apart : (f : Name → Name) (s : Scope) (v : Valuation) (us : List Update) (n : Name) → EachUpdated (Misses f n) us
    → with_updates s v (renamed_updates f us) n ≡ v n
updated_apart f s v [] n a = refl
updated_apart f s v (u ∷ us) n a =
    updated_apart f s (written s v (renamed_places f u.places) u.value) us n a.1 ∙ written_apart f s v u.places u.value n a.0

-- ---- all blocks

module _ (d : Design) (called : Naming) (good : ¬ HasUndeclared d) (naming : IsNaming d called) (s : Scope) (links : List (Target × Expression)) (blocks clocked : List Statement) (flat : IsFlat d called s links blocks clocked) (v v_flat : Valuation) (seen : IsSeenAs d called v v_flat) (p : Placed) (n : Name) (at : IsPlacedIn d p) (declared : IsDeclared p n) where
  same_updates : (q : Placed) (x : Statement) → IsPlacedIn d q → IsAmong (clocked_blocks q.of_module.items) x
      → (run s (renamed_statement (called q.path) x) v_flat).updates ≡ renamed_updates (called q.path) (run (placed_scope q) x (inside v q)).updates
  same_updates q x at_q h =
      (known_runs (called q.path) (placed_scope q) s (inside v q) v_flat x (naming.apart q at_q)
      (statement_known d called good s links blocks clocked flat q x at_q (in_clocked d good q at_q x h)) (λ m. seen q m at_q)).updates

  -- updates of another module
  other_kept : (q : Placed) (y : Statement) (w : Valuation) → IsPlacedIn d q → q.path ≢ p.path → IsAmong (clocked_blocks q.of_module.items) y
      → with_updates s w (run s (renamed_statement (called q.path) y) v_flat).updates (called p.path n) ≡ w (called p.path n)
  other_kept q y w at_q other h =
      ap (λ us. with_updates s w us (called p.path n)) (same_updates q y at_q h)
      ∙ updated_apart (called q.path) s w (run (placed_scope q) y (inside v q)).updates (called p.path n)
      (each_updated (Misses (called q.path) (called p.path n)) (placed_scope q) (inside v q) y
      (statement_follows (IsNameOf q) (Misses (called q.path) (called p.path n)) misses y (in_clocked d good q at_q y h)))
    where
      misses : (m : Name) → IsNameOf q m → Misses (called q.path) (called p.path n) m
      misses m is_m e = other (ap (λ (z : Placed). z.path) (one_place d called naming q p m n at_q at is_m (inl declared) e).0)

  -- and of the module itself
  own_done : (x : Statement) (w u : Valuation) → IsAmong (clocked_blocks p.of_module.items) x → w (called p.path n) ≡ u n
      → with_updates s w (run s (renamed_statement (called p.path) x) v_flat).updates (called p.path n)
      ≡ with_updates (placed_scope p) u (run (placed_scope p) x (inside v p)).updates n
  own_done x w u h e =
      ap (λ us. with_updates s w us (called p.path n)) (same_updates p x at h)
      ∙ (known_updates (called p.path) (placed_scope p) s (λ m. w (called p.path m)) w (run (placed_scope p) x (inside v p)).updates (naming.apart p at)
      (each_updated (IsRenamed (called p.path) (placed_scope p) s) (placed_scope p) (inside v p) x
      (statement_known d called good s links blocks clocked flat p x at (in_clocked d good p at x h))) (λ m. refl)).valuation n
      ∙ updated_at (placed_scope p) (λ m. w (called p.path m)) u (run (placed_scope p) x (inside v p)).updates n e

  all_done : (xs ys : List Statement) (w u : Valuation) → StandInOrder d called p xs ys → ((x : Statement) → IsAmong xs x → IsAmong (clocked_blocks p.of_module.items) x)
      → w (called p.path n) ≡ u n
      → with_updates s w (updates_of_blocks s v_flat ys) (called p.path n) ≡ with_updates (placed_scope p) u (updates_of_blocks (placed_scope p) (inside v p) xs) n
  all_done _ _ w u StandInOrder.nothing f e = e
  all_done _ _ w u (StandInOrder.own_block x xs ys h) f e =
      let us = (run s (renamed_statement (called p.path) x) v_flat).updates in
      let ws = (run (placed_scope p) x (inside v p)).updates in
      ap (λ (z : Valuation). z (called p.path n)) (with_two s w us (updates_of_blocks s v_flat ys))
      ∙ all_done xs ys (with_updates s w us) (with_updates (placed_scope p) u ws) h (λ z k. f z (inr k)) (own_done x w u (f x (inl refl)) e)
      ∙ ap (λ (z : Valuation). z n) (sym (with_two (placed_scope p) u ws (updates_of_blocks (placed_scope p) (inside v p) xs)))
  all_done _ _ w u (StandInOrder.other_block q y xs ys at_q other c h) f e =
      let us = (run s (renamed_statement (called q.path) y) v_flat).updates in
      ap (λ (z : Valuation). z (called p.path n)) (with_two s w us (updates_of_blocks s v_flat ys))
      ∙ all_done xs ys (with_updates s w us) u h f (other_kept q y w at_q other (among_contains (clocked_blocks q.of_module.items) y c) ∙ e)

pub edge_leaves_the_same : EdgeLeavesTheSame
edge_leaves_the_same d called s links blocks clocked v w p n good naming flat seen ordered at declared =
    all_done d called good naming s links blocks clocked flat v w seen p n at declared (clocked_blocks p.of_module.items) clocked w (inside v p) (ordered p at)
    (λ x h. h) (seen p n at)

-- ---- one module after the other

module _ (d : Design) (called : Naming) (p : Placed) where
  after_others : (q : Placed) (zs xs ys : List Statement) → IsPlacedIn d q → q.path ≢ p.path → ((z : Statement) → IsAmong zs z → IsAmong (clocked_blocks q.of_module.items) z)
      → StandInOrder d called p xs ys → StandInOrder d called p xs (renamed_blocks (called q.path) zs ++ ys)
  after_others q [] xs ys at other f h = h
  after_others q (z ∷ zs) xs ys at other f h =
      StandInOrder.other_block q z xs (renamed_blocks (called q.path) zs ++ ys) at other (contains_among (clocked_blocks q.of_module.items) z (f z (inl refl)))
      (after_others q zs xs ys at other (λ y k. f y (inr k)) h)

  own_first : (zs ys : List Statement) → StandInOrder d called p [] ys → StandInOrder d called p zs (renamed_blocks (called p.path) zs ++ ys)
  own_first [] ys h = h
  own_first (z ∷ zs) ys h = StandInOrder.own_block z zs (renamed_blocks (called p.path) zs ++ ys) (own_first zs ys h)

  only_others : (ps : List Placed) → ((q : Placed) → IsAmong ps q → IsPlacedIn d q) → ((q : Placed) → IsAmong ps q → q.path ≢ p.path)
      → StandInOrder d called p [] (clocked_in_turn called ps)
  only_others [] f g = StandInOrder.nothing
  only_others (q ∷ ps) f g =
      after_others q (clocked_blocks q.of_module.items) [] (clocked_in_turn called ps) (f q (inl refl)) (g q (inl refl)) (λ z h. h)
      (only_others ps (λ z h. f z (inr h)) (λ z h. g z (inr h)))

  in_turn : (ps : List Placed) → ((q : Placed) → IsAmong ps q → IsPlacedIn d q) → StandApart ps → IsAmong ps p
      → StandInOrder d called p (clocked_blocks p.of_module.items) (clocked_in_turn called ps)
  in_turn [] f apart h = absurd h
  in_turn (q ∷ ps) f apart (inl e) =
      subst (λ (z : Placed). StandInOrder d called p (clocked_blocks p.of_module.items) (renamed_blocks (called z.path) (clocked_blocks z.of_module.items) ++ clocked_in_turn called ps)) (sym e)
      (own_first (clocked_blocks p.of_module.items) (clocked_in_turn called ps)
      (only_others ps (λ z h. f z (inr h)) (λ z h. subst (λ (y : Placed). z.path ≢ y.path) e (apart.0 z (contains_among ps z h)))))
  in_turn (q ∷ ps) f apart (inr h) =
      after_others q (clocked_blocks q.of_module.items) (clocked_blocks p.of_module.items) (clocked_in_turn called ps) (f q (inl refl))
      (λ e. apart.0 p (contains_among ps p h) (sym e)) (λ z k. k) (in_turn ps (λ z k. f z (inr k)) apart.1 h)

-- what stands among renamed blocks
record IsRenamedFrom (called : Naming) (q : Placed) (zs : List Statement) (x : Statement) : Type 0 where
  old : Statement
  is_old : IsAmong zs old
  is_new : renamed_statement (called q.path) old ≡ x

renamed_from : (called : Naming) (q : Placed) (zs : List Statement) (x : Statement) → IsAmong (renamed_blocks (called q.path) zs) x → IsRenamedFrom called q zs x
renamed_from called q [] x h = absurd h
renamed_from called q (z ∷ zs) x (inl e) = record { old = z; is_old = inl refl; is_new = e }
renamed_from called q (z ∷ zs) x (inr h) = let f = renamed_from called q zs x h in record { old = f.old; is_old = inr f.is_old; is_new = f.is_new }

renamed_among : (called : Naming) (q : Placed) (zs : List Statement) (x : Statement) → IsAmong zs x → IsAmong (renamed_blocks (called q.path) zs) (renamed_statement (called q.path) x)
renamed_among called q [] x h = absurd h
renamed_among called q (z ∷ zs) x (inl e) = inl (ap (renamed_statement (called q.path)) e)
renamed_among called q (z ∷ zs) x (inr h) = inr (renamed_among called q zs x h)

turn_sound : (d : Design) (called : Naming) (ps : List Placed) → ((q : Placed) → IsAmong ps q → IsPlacedIn d q) → (x : Statement) → IsAmong (clocked_in_turn called ps) x → IsFlatClocked d called x
turn_sound d called [] f x h = absurd h
turn_sound d called (q ∷ ps) f x h =
    elim (among_either (renamed_blocks (called q.path) (clocked_blocks q.of_module.items)) (clocked_in_turn called ps) x h) as (λ _. IsFlatClocked d called x) [
      | inl k ↦ let g = renamed_from called q (clocked_blocks q.of_module.items) x k in
          subst (IsFlatClocked d called) g.is_new (of_clocked q g.old (f q (inl refl)) (contains_among (clocked_blocks q.of_module.items) g.old g.is_old))
      | inr k ↦ turn_sound d called ps (λ z g. f z (inr g)) x k
    ]

turn_complete : (called : Naming) (q : Placed) (x : Statement) (ps : List Placed) → IsAmong ps q → IsAmong (clocked_blocks q.of_module.items) x
    → IsAmong (clocked_in_turn called ps) (renamed_statement (called q.path) x)
turn_complete called q x [] h k = absurd h
turn_complete called q x (r ∷ ps) (inl e) k =
    among_left (renamed_blocks (called r.path) (clocked_blocks r.of_module.items)) (clocked_in_turn called ps) (renamed_statement (called q.path) x)
    (subst (λ (z : Placed). IsAmong (renamed_blocks (called z.path) (clocked_blocks z.of_module.items)) (renamed_statement (called q.path) x)) (sym e)
    (renamed_among called q (clocked_blocks q.of_module.items) x k))
turn_complete called q x (r ∷ ps) (inr h) k =
    among_right (renamed_blocks (called r.path) (clocked_blocks r.of_module.items)) (clocked_in_turn called ps) (renamed_statement (called q.path) x)
    (turn_complete called q x ps h k)

pub modules_in_turn_are_in_order : ModulesInTurnAreInTextOrder
modules_in_turn_are_in_order d called ps placed = (
  λ p at. in_turn d called p ps stand placed.apart (among_contains ps p ((placed.are_placed p).1 at)),
  λ x. (λ c. turn_sound d called ps stand x (among_contains (clocked_in_turn called ps) x c), complete x),
)
  where
    stand : (q : Placed) → IsAmong ps q → IsPlacedIn d q
    stand q h = (placed.are_placed q).0 (contains_among ps q h)

    complete : (x : Statement) → IsFlatClocked d called x → Contains (clocked_in_turn called ps) x
    complete _ (of_clocked q x at c) =
        contains_among (clocked_in_turn called ps) (renamed_statement (called q.path) x)
        (turn_complete called q x ps (among_contains ps q ((placed.are_placed q).1 at)) (among_contains (clocked_blocks q.of_module.items) x c))
