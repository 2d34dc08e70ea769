-- The arms of a ladder, read one after the other.
use Rattle.std.proofs.Common.{◌≡◌, ℕ, zero, suc, ◌<◌, List, [], ◌∷◌, ◌++◌, length, Option, Some, None, refl, sym, ap, ◌∙◌, arith}
use Rattle.std.specs.Prelude.{codes}
use Rattle.verilog_text.specs.Token.{Token}
use Rattle.verilog_trees.specs.Syntax as tree
use Rattle.verilog_trees.specs.Syntax.{Expression, Statement}
use Rattle.v_expr.specs.Repeat.{◌>>=◌, choose, Read}
use Rattle.v_expr.specs.View.{Fails}
use Rattle.v_expr.specs.declared.stop.ExpressionStop.{ExpressionStop}
use Rattle.v_expr.specs.declared.stop.ExpressionStop.TheVariants.{NoMemory, Refused}
use Rattle.v_expr.proofs.Repeat.{some, Shrinks}
use Rattle.v_body.specs.Words.{after_word}
use Rattle.v_body.specs.Statements.{Reader, guarded_at, ladder_at, conditional_at}
use Rattle.v_syntax.specs.Tree.{arm_before, or_empty}
use Rattle.v_body.specs.View.{ladder_of}
use Rattle.v_body.proofs.Words.{word_spelled}

abbrev pub Guarded : Type 0
Guarded = Expression × Statement

-- arms in front of what stands behind the last else
abbrev pub in_front : List Guarded → Statement → Statement
in_front [] t = t
in_front (g ∷ gs) t = tree.if_else g.0 g.1 (in_front gs t)

in_front-push : (gs : List Guarded) (g : Guarded) (t : Statement) → in_front gs (tree.if_else g.0 g.1 t) ≡ in_front (gs ++ g ∷ []) t
in_front-push [] g t = refl
in_front-push (h ∷ gs) g t = ap (tree.if_else h.0 h.1) (in_front-push gs g t)

-- the arms that were read, and what is still read
abbrev pub with_arms : List Guarded → Read Token Statement → Read Token Statement
with_arms gs r = r >>= λ t. Some (in_front gs t.0, t.1)

abbrev guarding : Guarded → Read Token Statement → Read Token Statement
guarding g r = r >>= λ t. Some (tree.if_else g.0 g.1 t.0, t.1)

regroup : (gs : List Guarded) (g : Guarded) (r : Read Token Statement) → with_arms (gs ++ g ∷ []) r ≡ with_arms gs (guarding g r)
regroup gs g None = refl
regroup gs g (Some t) = ap (λ (s : Statement). some (s, t.1)) (sym (in_front-push gs g t.0))

-- ---- more turns than tokens change nothing

arm_turns : (one : Reader) (n m : ℕ) (g : Guarded × List Token) → length g.1 < n → length g.1 < m
    → ((us : List Token) → length us < n → length us < m → ladder_at one n us ≡ ladder_at one m us)
    → (o : Option (List Token)) → after_word (codes "else") g.1 ≡ o
    → choose o (λ other. guarding g.0 (choose (after_word (codes "if") other) (ladder_at one n) (one other))) (Some (tree.if_then g.0.0 g.0.1, g.1))
    ≡ choose o (λ other. guarding g.0 (choose (after_word (codes "if") other) (ladder_at one m) (one other))) (Some (tree.if_then g.0.0 g.0.1, g.1))
arm_turns one n m g lt below hyp None e = refl
arm_turns one n m g lt below hyp (Some other) e = ap (guarding g.0) (by_if (after_word (codes "if") other) refl)
  where
    by_if : (p : Option (List Token)) → after_word (codes "if") other ≡ p → choose p (ladder_at one n) (one other) ≡ choose p (ladder_at one m) (one other)
    by_if None f = refl
    by_if (Some next) f =
        let first : length g.1 ≡ suc (length other) = ap (λ (us : List Token). length us) (word_spelled (codes "else") e) in
        let second : length other ≡ suc (length next) = ap (λ (us : List Token). length us) (word_spelled (codes "if") f) in
        hyp next (omega (arith, first, second, lt)) (omega (arith, first, second, below))

turns_by : (one : Reader) → Shrinks (guarded_at one) → (n m : ℕ) (ts : List Token) → length ts < suc n → length ts < suc m
    → ((us : List Token) → length us < n → length us < m → ladder_at one n us ≡ ladder_at one m us)
    → (r : Read Token Guarded) → guarded_at one ts ≡ r
    → (r >>= λ g. choose (after_word (codes "else") g.1) (λ other. guarding g.0 (choose (after_word (codes "if") other) (ladder_at one n) (one other))) (Some (tree.if_then g.0.0 g.0.1, g.1)))
    ≡ (r >>= λ g. choose (after_word (codes "else") g.1) (λ other. guarding g.0 (choose (after_word (codes "if") other) (ladder_at one m) (one other))) (Some (tree.if_then g.0.0 g.0.1, g.1)))
turns_by one small n m ts lt below hyp None e = refl
turns_by one small n m ts lt below hyp (Some g) e =
    let shorter : length g.1 < length ts = small ts g.0 g.1 e in
    arm_turns one n m g (omega (arith, shorter, lt)) (omega (arith, shorter, below)) hyp (after_word (codes "else") g.1) refl

ladder-turns : (one : Reader) → Shrinks (guarded_at one) → (n m : ℕ) (ts : List Token) → length ts < n → length ts < m → ladder_at one n ts ≡ ladder_at one m ts
unfolding ladder_at
ladder-turns one small zero m ts lt below = absurd (omega (arith, lt))
ladder-turns one small (suc n) zero ts lt below = absurd (omega (arith, below))
ladder-turns one small (suc n) (suc m) ts lt below = turns_by one small n m ts lt below (ladder-turns one small n m) (guarded_at one ts) refl

-- ---- one turn

pub goes_up : (one : Reader) → Shrinks (guarded_at one) → (gs : List Guarded) (ts : List Token) (g : Guarded) (after other next : List Token) (total : Read Token Statement)
    → guarded_at one ts ≡ Some (g, after) → after_word (codes "else") after ≡ Some other → after_word (codes "if") other ≡ Some next
    → with_arms gs (conditional_at one ts) ≡ total → with_arms (gs ++ g ∷ []) (conditional_at one next) ≡ total
unfolding conditional_at ladder_at
goes_up one small gs ts g after other next total at_arm at_else at_if so_far =
    let shorter : length after < length ts = small ts g after at_arm in
    let first : length after ≡ suc (length other) = ap (λ (us : List Token). length us) (word_spelled (codes "else") at_else) in
    let second : length other ≡ suc (length next) = ap (λ (us : List Token). length us) (word_spelled (codes "if") at_if) in
    let now : conditional_at one ts ≡ guarding g (ladder_at one (length ts) next) = rw (at_arm, at_else, at_if) refl in
    let turns : ladder_at one (length ts) next ≡ conditional_at one next = ladder-turns one small (length ts) (suc (length next)) next (omega (arith, shorter, first, second)) (omega arith) in
    regroup gs g (conditional_at one next) ∙ ap (λ (r : Read Token Statement). with_arms gs (guarding g r)) (sym turns) ∙ ap (with_arms gs) (sym now) ∙ so_far

-- no else stands behind the arm
pub ends_alone : (one : Reader) (gs : List Guarded) (ts : List Token) (g : Guarded) (after : List Token) (total : Read Token Statement)
    → guarded_at one ts ≡ Some (g, after) → after_word (codes "else") after ≡ None → with_arms gs (conditional_at one ts) ≡ total → total ≡ Some (in_front gs (tree.if_then g.0 g.1), after)
unfolding conditional_at ladder_at
ends_alone one gs ts g after total at_arm at_else so_far =
    let now : conditional_at one ts ≡ Some (tree.if_then g.0 g.1, after) = rw (at_arm, at_else) refl in
    sym so_far ∙ ap (with_arms gs) now

-- an else with no if stands behind the arm
last_now : (one : Reader) (ts : List Token) (g : Guarded) (after other : List Token)
    → guarded_at one ts ≡ Some (g, after) → after_word (codes "else") after ≡ Some other → after_word (codes "if") other ≡ None → conditional_at one ts ≡ guarding g (one other)
unfolding conditional_at ladder_at
last_now one ts g after other at_arm at_else at_if = rw (at_arm, at_else, at_if) refl

pub ends_with_else : (one : Reader) (gs : List Guarded) (ts : List Token) (g : Guarded) (after other : List Token) (t : Statement) (rest : List Token) (total : Read Token Statement)
    → guarded_at one ts ≡ Some (g, after) → after_word (codes "else") after ≡ Some other → after_word (codes "if") other ≡ None → one other ≡ Some (t, rest)
    → with_arms gs (conditional_at one ts) ≡ total → total ≡ Some (in_front gs (tree.if_else g.0 g.1 t), rest)
ends_with_else one gs ts g after other t rest total at_arm at_else at_if at_last so_far =
    sym so_far ∙ ap (with_arms gs) (last_now one ts g after other at_arm at_else at_if ∙ ap (guarding g) at_last)

-- ---- what fails

pub no_arm : (one : Reader) (e : ExpressionStop) (gs : List Guarded) (ts : List Token) (total : Read Token Statement) → Fails e (guarded_at one ts) → with_arms gs (conditional_at one ts) ≡ total → Fails e total
unfolding conditional_at ladder_at
no_arm one NoMemory gs ts total f so_far = tt
no_arm one (Refused left) gs ts total f so_far =
    let now : conditional_at one ts ≡ None = rw f refl in
    sym so_far ∙ ap (with_arms gs) now

pub no_last : (one : Reader) (e : ExpressionStop) (gs : List Guarded) (ts : List Token) (g : Guarded) (after other : List Token) (total : Read Token Statement)
    → guarded_at one ts ≡ Some (g, after) → after_word (codes "else") after ≡ Some other → after_word (codes "if") other ≡ None → Fails e (one other)
    → with_arms gs (conditional_at one ts) ≡ total → Fails e total
no_last one NoMemory gs ts g after other total at_arm at_else at_if f so_far = tt
no_last one (Refused left) gs ts g after other total at_arm at_else at_if f so_far =
    sym so_far ∙ ap (with_arms gs) (last_now one ts g after other at_arm at_else at_if ∙ ap (guarding g) f)

-- nothing was read yet
pub no_arms_yet : (r : Read Token Statement) → with_arms [] r ≡ r
no_arms_yet None = refl
no_arms_yet (Some t) = refl

pub no_arms_start : (one : Reader) (gs : List Guarded) (ts us : List Token) → gs ≡ [] → ts ≡ us → with_arms gs (conditional_at one ts) ≡ conditional_at one us
no_arms_start one gs ts us e f = ap (λ (hs : List Guarded). with_arms hs (conditional_at one ts)) e ∙ no_arms_yet (conditional_at one ts) ∙ ap (conditional_at one) f

pub ladder_shrinks : (one : Reader) → Shrinks (guarded_at one) → (ts : List Token) (g : Guarded) (after other next : List Token)
    → guarded_at one ts ≡ Some (g, after) → after_word (codes "else") after ≡ Some other → after_word (codes "if") other ≡ Some next → length next < length ts
ladder_shrinks one small ts g after other next at_arm at_else at_if =
    let shorter : length after < length ts = small ts g after at_arm in
    let first : length after ≡ suc (length other) = ap (λ (us : List Token). length us) (word_spelled (codes "else") at_else) in
    let second : length other ≡ suc (length next) = ap (λ (us : List Token). length us) (word_spelled (codes "if") at_if) in
    omega (arith, shorter, first, second)

-- ---- the trees of ladders

ladder-alone : (gs : List Guarded) (g : Guarded) → ladder_of (gs ++ g ∷ []) None ≡ Some (in_front gs (tree.if_then g.0 g.1))
ladder-alone [] g = refl
ladder-alone (h ∷ gs) g = ap (λ (o : Option Statement). Some (arm_before h.0 h.1 o)) (ladder-alone gs g)

ladder-with_else : (gs : List Guarded) (g : Guarded) (t : Statement) → ladder_of (gs ++ g ∷ []) (Some t) ≡ Some (in_front gs (tree.if_else g.0 g.1 t))
ladder-with_else [] g t = refl
ladder-with_else (h ∷ gs) g t = ap (λ (o : Option Statement). Some (arm_before h.0 h.1 o)) (ladder-with_else gs g t)

-- what the code makes where no else stands behind the last arm
pub made_alone : (one : Reader) (gs all : List Guarded) (ts : List Token) (g : Guarded) (after : List Token) (total : Read Token Statement) (s : Statement)
    → guarded_at one ts ≡ Some (g, after) → after_word (codes "else") after ≡ None → with_arms gs (conditional_at one ts) ≡ total
    → all ≡ gs ++ g ∷ [] → s ≡ or_empty (ladder_of all None) → total ≡ Some (s, after)
made_alone one gs all ts g after total s at_arm at_else so_far pushed made =
    let tree_is : s ≡ in_front gs (tree.if_then g.0 g.1) = made ∙ ap (λ (hs : List Guarded). or_empty (ladder_of hs None)) pushed ∙ ap or_empty (ladder-alone gs g) in
    ends_alone one gs ts g after total at_arm at_else so_far ∙ ap (λ (t : Statement). some (t, after)) (sym tree_is)

-- and where one does
pub made_with_else : (one : Reader) (gs all : List Guarded) (ts : List Token) (g : Guarded) (after other : List Token) (t : Statement) (rest : List Token) (total : Read Token Statement) (s : Statement)
    → guarded_at one ts ≡ Some (g, after) → after_word (codes "else") after ≡ Some other → after_word (codes "if") other ≡ None → one other ≡ Some (t, rest)
    → with_arms gs (conditional_at one ts) ≡ total → all ≡ gs ++ g ∷ [] → s ≡ or_empty (ladder_of all (Some t)) → total ≡ Some (s, rest)
made_with_else one gs all ts g after other t rest total s at_arm at_else at_if at_last so_far pushed made =
    let tree_is : s ≡ in_front gs (tree.if_else g.0 g.1 t) = made ∙ ap (λ (hs : List Guarded). or_empty (ladder_of hs (Some t))) pushed ∙ ap or_empty (ladder-with_else gs g t) in
    ends_with_else one gs ts g after other t rest total at_arm at_else at_if at_last so_far ∙ ap (λ (u : Statement). some (u, rest)) (sym tree_is)
