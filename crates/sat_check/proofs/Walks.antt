-- The walk on marked numbers is the walk on sets of literals.
use Rattle.std.proofs.Common.{◌≡◌, ◌↔◌, ℕ, suc, ◌<◌, ◌≤◌, ◌+◌, ◌%◌, Bool, true, false, ◌⊎◌, inl, inr, List, [], ◌∷◌, ◌++◌, length, take, map, slice_get, Some, All, Contains, arith, refl, sym, ap, ◌∙◌, subst, get_or, get_or-set_other, get_or-set_same, replicate}
use Rattle.std.proofs.Math.ListN.{set, length-set}
use Rattle.std.proofs.lemmas.List.{get_or-map, length-map, get_or-take, length-take-le, get_or_past, map_more, get_or-replicate}
use Rattle.std.proofs.lemmas.List.Elements.{Contains-push, Contains-append_left, Contains-push_cases}
use Rattle.std.proofs.lemmas.Option.{slice_get-get_or, slice_get_within}
use Rattle.std.proofs.lemmas.Bool.{cases_eq, cases_lt}
use Rattle.std.proofs.lemmas.Bool.Decides.{nat_tests}
use Rattle.sat_base.specs.declared.literals.Lit.{Lit}
use Rattle.sat_base.specs.Literal.{negation}
use Rattle.sat_base.specs.Propagation.{IsUnitUnder, IsFalsifiedUnder, IsConflictBy}
use Rattle.sat_base.proofs.Implied.{Contains-cons_cases}
use Rattle.sat_check.specs.Numbering.{opposite, IsNumbering}
use Rattle.sat_check.specs.Walk.{IsMarked, AreMarked, IsOnlyLeft, IsForced, IsFalsified, Represents, ArePlaces}

-- the opposite of a number below an even bound is below it
pub opposite-below : (n x : ℕ) → n % 2 ≡ 0 → x < n → opposite x < n
opposite-below n x even below = grind (arith, nat_tests)

-- a marked number is one of the list's
pub marked_below : (marks : List Bool) (x : ℕ) → IsMarked marks x → x < length marks
marked_below marks x marked =
    elim (cases_lt x (length marks)) [ inl below ↦ below | inr past ↦ absurd (off (get_or_past marks x false past)) ]
  where
    off : get_or marks x false ≡ false → ⊥
    off e = cc

-- a truth value, either way
either : (b : Bool) → (b ≡ true) ⊎ (b ≡ false)
either true = inl refl
either false = inr refl

differ : {b : Bool} → b ≡ true → b ≡ false → ⊥
differ p q = cc

-- the members of a list seen by a function
pub Contains-map : {X Y : Type 0} (f : X → Y) (xs : List X) (k : ℕ) (d : X) → k < length xs → Contains (map f xs) (f (get_or xs k d))
Contains-map f xs k d below = (k, omega (arith, length-map xs f), get_or-map f xs k d (f (get_or xs k d)) below)

pub Contains-from_map : {X Y : Type 0} (f : X → Y) (xs : List X) (y : Y) (d : X) → Contains (map f xs) y
    → (k : ℕ) × (k < length xs) × (f (get_or xs k d) ≡ y)
Contains-from_map f xs y d (k, below, found) =
    let within : k < length xs = omega (arith, length-map xs f) in
    (k, within, sym (get_or-map f xs k d y within) ∙ found)

pub Contains-cons_head : {X : Type 0} (x : X) (xs : List X) → Contains (x ∷ xs) x
Contains-cons_head x xs = (0, omega arith, refl)

pub Contains-cons_tail : {X : Type 0} (x : X) (xs : List X) (y : X) → Contains xs y → Contains (x ∷ xs) y
Contains-cons_tail x xs y (k, below, found) = (suc k, omega arith, found)

module _ (at : ℕ → Lit) (n : ℕ) (numbering : IsNumbering n at) where
  -- a set of literals gains the literal of a number that is marked
  pub Represents-insert : (marks : List Bool) (old new : List Lit) (x : ℕ) → length marks ≡ n → Represents at marks old → x < n
      → Contains new (at x) → ((l : Lit) → Contains old l → Contains new l)
      → ((l : Lit) → Contains new l → (at x ≡ l) ⊎ Contains old l)
      → Represents at (set marks x true) new
  Represents-insert marks old new x size rep below has keeps only =
      record {
        members = λ y marked.
            elim (cases_eq y x) [
              | inl e ↦ subst (λ (z : ℕ). Contains new (at z)) (sym e) has
              | inr differs ↦ keeps (at y) (rep.members y (sym (get_or-set_other marks x y true false differs) ∙ marked))
            ];
        marked = λ y within member.
            let same : length (set marks x true) ≡ length marks = length-set marks x true in
            let y_below : y < n = omega arith in
            let x_within : x < length marks = omega arith in
            elim (cases_eq y x) [
              | inl e ↦ subst (λ (z : ℕ). IsMarked (set marks x true) z) (sym e) (get_or-set_same marks x true false x_within)
              | inr differs ↦ get_or-set_other marks x y true false differs
                  ∙ elim (only (at y) member) [
                    | inl e ↦ absurd (differs (sym (numbering.apart x y below y_below e)))
                    | inr before ↦ rep.marked y (omega arith) before
                  ]
            ];
      }

  module _ (marks : List Bool) (falsified : List Lit) (size : length marks ≡ n) (rep : Represents at marks falsified) where
    -- an unmarked number stands for a literal that is not a member
    unmarked_out : (x : ℕ) → x < n → get_or marks x false ≡ false → ¬ Contains falsified (at x)
    unmarked_out x below unmarked member = differ (rep.marked x (omega arith) member) unmarked

    module _ (clause : List ℕ) (range : All (λ x. x < n) clause) where
      left_below : (x : ℕ) → IsOnlyLeft marks clause (length clause) x → x < n
      left_below x left =
          let own = left.own in
          subst (λ (z : ℕ). z < n) own.2 (range own.0 0 own.1)

      -- what is left of the clause is its unit
      unit_from_left : (x : ℕ) → IsOnlyLeft marks clause (length clause) x → IsUnitUnder falsified (map at clause) (at x)
      unit_from_left x left =
          let own = left.own in
          record {
            own = subst (λ (z : ℕ). Contains (map at clause) (at z)) own.2 (Contains-map at clause own.0 0 own.1);
            unfalsified = unmarked_out x (left_below x left) left.unmarked;
            others = λ m member.
                let found = Contains-from_map at clause m 0 member in
                elim (left.others found.0 found.1) [
                  | inl e ↦ inl (sym found.2 ∙ ap at e)
                  | inr marked ↦ inr (subst (Contains falsified) found.2 (rep.members (get_or clause found.0 0) marked))
                ];
          }

      -- a unit of the clause is what is left of it
      left_from_unit : (l : Lit) → IsUnitUnder falsified (map at clause) l
          → (x : ℕ) × IsOnlyLeft marks clause (length clause) x × (at x ≡ l)
      left_from_unit l unit =
          let found = Contains-from_map at clause l 0 unit.own in
          let x : ℕ = get_or clause found.0 0 in
          let x_below : x < n = range found.0 0 found.1 in (
            x,
            record {
              own = (found.0, found.1, refl);
              unmarked = elim (either (get_or marks x false)) [
                | inl marked ↦ absurd (unit.unfalsified (subst (Contains falsified) found.2 (rep.members x marked)))
                | inr unmarked ↦ unmarked
              ];
              others = λ k below.
                  elim (unit.others (at (get_or clause k 0)) (Contains-map at clause k 0 below)) [
                    | inl e ↦ inl (numbering.apart (get_or clause k 0) x (range k 0 below) x_below (e ∙ sym found.2))
                    | inr member ↦ inr (rep.marked (get_or clause k 0) (size_below k below) member)
                  ];
            },
            found.2,
          )
        where
          size_below : (k : ℕ) → k < length clause → get_or clause k 0 < length marks
          size_below k below = omega (arith, size, range k 0 below)

      falsified_from_marked : AreMarked marks clause (length clause) → IsFalsifiedUnder falsified (map at clause)
      falsified_from_marked marked m member =
          let found = Contains-from_map at clause m 0 member in
          subst (Contains falsified) found.2 (rep.members (get_or clause found.0 0) (marked found.0 found.1))

      marked_from_falsified : IsFalsifiedUnder falsified (map at clause) → AreMarked marks clause (length clause)
      marked_from_falsified inside k below =
          rep.marked (get_or clause k 0) (omega (arith, size, range k 0 below)) (inside (at (get_or clause k 0)) (Contains-map at clause k 0 below))

-- only one number can be what is left
left_unique : (marks : List Bool) (clause : List ℕ) (m x y : ℕ) → IsOnlyLeft marks clause m x → IsOnlyLeft marks clause m y → x ≡ y
left_unique marks clause m x y left_x left_y =
    let own = left_x.own in
    elim (left_y.others own.0 own.1) [
      | inl e ↦ sym own.2 ∙ e
      | inr marked ↦ absurd (differ (subst (IsMarked marks) own.2 marked) left_x.unmarked)
    ]

module _ (at : ℕ → Lit) (clauses : List (List ℕ)) (earlier : ℕ) (bound : earlier ≤ length clauses) where
  -- the clauses that a hint may name
  abbrev pub named : List (List Lit)
  named = map (map at) (take earlier clauses)

  length-named : length named ≡ earlier
  length-named = length-map (take earlier clauses) (map at) ∙ length-take-le earlier clauses bound

  named_at : (h : ℕ) → h < earlier → slice_get named h ≡ Some (map at (get_or clauses h []))
  named_at h below =
      slice_get-get_or named h [] (omega (arith, length-named))
      ∙ ap (λ (c : List Lit). Some c)
      (get_or-map (map at) (take earlier clauses) h [] [] (omega (arith, length-take-le earlier clauses bound))
      ∙ ap (map at) (get_or-take earlier clauses h [] below))

  named_below : (h : ℕ) (c : List Lit) → slice_get named h ≡ Some c → h < earlier
  named_below h c found = omega (arith, slice_get_within named h c found, length-named)

  named_is : (h : ℕ) (c : List Lit) → slice_get named h ≡ Some c → c ≡ map at (get_or clauses h [])
  named_is h c found = let there = named_at h (named_below h c found) in cc

  module _ (n : ℕ) (numbering : IsNumbering n at) (places : ArePlaces n clauses)
      (marks : List Bool) (falsified : List Lit) (size : length marks ≡ n) (rep : Represents at marks falsified) where
    range_at : (h : ℕ) → h < earlier → All (λ x. x < n) (get_or clauses h [])
    range_at h below = places.range h [] (omega (arith, bound))

    -- the unit of the named clause, as a number
    unit_number : (h : ℕ) (c : List Lit) (l : Lit) → slice_get named h ≡ Some c → IsUnitUnder falsified c l
        → (x : ℕ) × IsOnlyLeft marks (get_or clauses h []) (length (get_or clauses h [])) x × (at x ≡ l)
    unit_number h c l found unit =
        left_from_unit at n numbering marks falsified size rep (get_or clauses h []) (range_at h (named_below h c found)) l
        (subst (λ (d : List Lit). IsUnitUnder falsified d l) (named_is h c found) unit)

    forced_below : (h x : ℕ) → IsForced marks clauses earlier h x → x < n
    forced_below h x forced =
        left_below at n numbering marks falsified size rep (get_or clauses h []) (range_at h forced.within) x forced.only

    opposite_out : (h x : ℕ) → IsForced marks clauses earlier h x → ¬ Contains falsified (negation (at x))
    opposite_out h x forced =
        let below = forced_below h x forced in
        subst (λ (l : Lit). ¬ Contains falsified l) (numbering.negated x below)
        (unmarked_out at n numbering marks falsified size rep (opposite x) (opposite-below n x places.even below) forced.unmarked)

    advance_to : (h x : ℕ) → IsForced marks clauses earlier h x → (next : ℕ) (hints : List ℕ)
        → IsConflictBy named falsified (h ∷ next ∷ hints) → IsConflictBy named (negation (at x) ∷ falsified) (next ∷ hints)
    advance_to h x forced next hints (c, found, l, unit, apart, walk) =
        let number = unit_number h c l found unit in
        let same : number.0 ≡ x = left_unique marks (get_or clauses h []) _ number.0 x number.1 forced.only in
        subst (λ (m : Lit). IsConflictBy named (negation m ∷ falsified) (next ∷ hints)) (sym number.2 ∙ ap at same) walk

    advance_back : (h x : ℕ) → IsForced marks clauses earlier h x → (next : ℕ) (hints : List ℕ)
        → IsConflictBy named (negation (at x) ∷ falsified) (next ∷ hints) → IsConflictBy named falsified (h ∷ next ∷ hints)
    advance_back h x forced next hints walk = (
      map at (get_or clauses h []),
      named_at h forced.within,
      at x,
      unit_from_left at n numbering marks falsified size rep (get_or clauses h []) (range_at h forced.within) x forced.only,
      opposite_out h x forced,
      walk,
    )

    -- the walk goes on where a literal is forced
    pub step_to : (h x : ℕ) → IsForced marks clauses earlier h x → (rest : List ℕ) (last : ℕ)
        → IsConflictBy named falsified (h ∷ (rest ++ (last ∷ []))) → IsConflictBy named (negation (at x) ∷ falsified) (rest ++ (last ∷ []))
    step_to h x forced [] last walk = advance_to h x forced last [] walk
    step_to h x forced (r ∷ rest) last walk = advance_to h x forced r (rest ++ (last ∷ [])) walk

    pub step_back : (h x : ℕ) → IsForced marks clauses earlier h x → (rest : List ℕ) (last : ℕ)
        → IsConflictBy named (negation (at x) ∷ falsified) (rest ++ (last ∷ [])) → IsConflictBy named falsified (h ∷ (rest ++ (last ∷ [])))
    step_back h x forced [] last walk = advance_back h x forced last [] walk
    step_back h x forced (r ∷ rest) last walk = advance_back h x forced r (rest ++ (last ∷ [])) walk

    stuck : (h : ℕ) → ((x : ℕ) → ¬ IsForced marks clauses earlier h x) → (next : ℕ) (hints : List ℕ)
        → IsConflictBy named falsified (h ∷ next ∷ hints) → ⊥
    stuck h none next hints (c, found, l, unit, apart, walk) =
        let number = unit_number h c l found unit in
        let x = number.0 in
        let x_below : x < n =
        left_below at n numbering marks falsified size rep (get_or clauses h []) (range_at h (named_below h c found)) x number.1 in
        none x (record {
          within = named_below h c found;
          only = number.1;
          unmarked = elim (either (get_or marks (opposite x) false)) [
            | inl marked ↦ absurd (apart (subst (Contains falsified) (numbering.negated x x_below ∙ ap negation number.2)
                (rep.members (opposite x) marked)))
            | inr unmarked ↦ unmarked
          ];
        })

    -- the walk ends where none is
    pub no_step : (h : ℕ) → ((x : ℕ) → ¬ IsForced marks clauses earlier h x) → (rest : List ℕ) (last : ℕ)
        → IsConflictBy named falsified (h ∷ (rest ++ (last ∷ []))) → ⊥
    no_step h none [] last walk = stuck h none last [] walk
    no_step h none (r ∷ rest) last walk = stuck h none r (rest ++ (last ∷ [])) walk

    pub last_step : (h : ℕ) → IsFalsified marks clauses earlier h ↔ IsConflictBy named falsified (h ∷ [])
    last_step h = (
      λ falsified_h. (
        map at (get_or clauses h []),
        named_at h falsified_h.0,
        falsified_from_marked at n numbering marks falsified size rep (get_or clauses h []) (range_at h falsified_h.0) falsified_h.1,
      ),
      λ walk. (
        named_below h walk.0 walk.1,
        marked_from_falsified at n numbering marks falsified size rep (get_or clauses h []) (range_at h (named_below h walk.0 walk.1))
            (subst (λ (d : List Lit). IsFalsifiedUnder falsified d) (named_is h walk.0 walk.1) walk.2),
      ),
    )

    -- the marks after a step
    pub Represents-step : (h x : ℕ) → IsForced marks clauses earlier h x
        → Represents at (set marks (opposite x) true) (negation (at x) ∷ falsified)
    Represents-step h x forced =
        let below = forced_below h x forced in
        let negated = numbering.negated x below in
        Represents-insert at n numbering marks falsified (negation (at x) ∷ falsified) (opposite x) size rep
        (opposite-below n x places.even below)
        (subst (Contains (negation (at x) ∷ falsified)) (sym negated) (Contains-cons_head (negation (at x)) falsified))
        (λ l member. Contains-cons_tail (negation (at x)) falsified l member)
        (λ l member. elim (Contains-cons_cases (negation (at x)) falsified l member) [
          | inl e ↦ inl (negated ∙ e)
          | inr before ↦ inr before
        ])

-- Where the walk stands before the hints that are left: the marks are those of a set from which these
-- lead to a conflict exactly where all hints do from the set at the start.
pub record IsWalked (clauses : List (List ℕ)) (earlier : ℕ) (start : List Bool) (hints : List ℕ) (marks : List Bool) (rest : List ℕ) : Type 0 where
  pub size : length marks ≡ length start
  pub reach : (at : ℕ → Lit) → IsNumbering (length start) at → (falsified : List Lit) → Represents at start falsified
      → (now : List Lit) × Represents at marks now
      × (IsConflictBy (map (map at) (take earlier clauses)) falsified hints → IsConflictBy (map (map at) (take earlier clauses)) now rest)
      × (IsConflictBy (map (map at) (take earlier clauses)) now rest → IsConflictBy (map (map at) (take earlier clauses)) falsified hints)

pub IsWalked-start : (clauses : List (List ℕ)) (earlier : ℕ) (start : List Bool) (hints rest : List ℕ) → hints ≡ rest
    → IsWalked clauses earlier start hints start rest
IsWalked-start clauses earlier start hints rest same = record {
  size = refl;
  reach = λ at numbering falsified rep. (
    falsified,
    rep,
    λ walk. subst (λ (hs : List ℕ). IsConflictBy (map (map at) (take earlier clauses)) falsified hs) same walk,
    λ walk. subst (λ (hs : List ℕ). IsConflictBy (map (map at) (take earlier clauses)) falsified hs) (sym same) walk,
  );
}

module _ (clauses : List (List ℕ)) (earlier : ℕ) (bound : earlier ≤ length clauses) (start : List Bool) (places : ArePlaces (length start) clauses)
    (hints : List ℕ) (marks : List Bool) where
  pub IsWalked-step : (h x last : ℕ) (rest : List ℕ) → IsWalked clauses earlier start hints marks (h ∷ (rest ++ (last ∷ [])))
      → IsForced marks clauses earlier h x → IsWalked clauses earlier start hints (set marks (opposite x) true) (rest ++ (last ∷ []))
  IsWalked-step h x last rest walked forced = record {
    size = length-set marks (opposite x) true ∙ walked.size;
    reach = λ at numbering falsified rep.
        let before = walked.reach at numbering falsified rep in (
          negation (at x) ∷ before.0,
          Represents-step at clauses earlier bound (length start) numbering places marks before.0 walked.size before.1 h x forced,
          λ walk. step_to at clauses earlier bound (length start) numbering places marks before.0 walked.size before.1 h x forced rest last (before.2 walk),
          λ walk. before.3 (step_back at clauses earlier bound (length start) numbering places marks before.0 walked.size before.1 h x forced rest last walk),
        );
  }

  -- no conflict where a hint forces nothing
  pub IsWalked-stuck : (h last : ℕ) (rest : List ℕ) → IsWalked clauses earlier start hints marks (h ∷ (rest ++ (last ∷ [])))
      → ((x : ℕ) → ¬ IsForced marks clauses earlier h x)
      → (at : ℕ → Lit) → IsNumbering (length start) at → (falsified : List Lit) → Represents at start falsified
      → IsConflictBy (map (map at) (take earlier clauses)) falsified hints → ⊥
  IsWalked-stuck h last rest walked none at numbering falsified rep walk =
      let before = walked.reach at numbering falsified rep in
      no_step at clauses earlier bound (length start) numbering places marks before.0 walked.size before.1 h none rest last (before.2 walk)

  -- a conflict exactly where the last clause is falsified
  pub IsWalked-last : (last : ℕ) → IsWalked clauses earlier start hints marks (last ∷ [])
      → (at : ℕ → Lit) → IsNumbering (length start) at → (falsified : List Lit) → Represents at start falsified
      → IsFalsified marks clauses earlier last ↔ IsConflictBy (map (map at) (take earlier clauses)) falsified hints
  IsWalked-last last walked at numbering falsified rep =
      let before = walked.reach at numbering falsified rep in
      let ends = last_step at clauses earlier bound (length start) numbering places marks before.0 walked.size before.1 last in
      (λ f. before.3 (ends.0 f), λ walk. ends.1 (before.2 walk))

module _ (at : ℕ → Lit) (start : List Bool) (numbering : IsNumbering (length start) at) where
  -- no number is marked in a list of falses
  pub Represents-none : start ≡ replicate (length start) false → Represents at start []
  Represents-none clean =
      record {
        members = λ x marked. absurd (differ marked (unmarked x (marked_below start x marked)));
        marked = λ x below member. absurd (nothing x member);
      }
    where
      unmarked : (x : ℕ) → x < length start → get_or start x false ≡ false
      unmarked x below = ap (λ (m : List Bool). get_or m x false) clean ∙ get_or-replicate (length start) x false false below

      nothing : (x : ℕ) → Contains [] (at x) → ⊥
      nothing x (k, below, found) = omega arith

  -- one more literal of a list is marked
  pub Represents-push : (marks : List Bool) (literals : List ℕ) (i : ℕ) → length marks ≡ length start → i < length literals
      → All (λ x. x < length start) literals → Represents at marks (map at (take i literals))
      → Represents at (set marks (get_or literals i 0) true) (map at (take (i + 1) literals))
  Represents-push marks literals i size below range rep =
      let x = get_or literals i 0 in
      subst (Represents at (set marks x true)) (sym (map_more at literals i 0 below))
      (Represents-insert at (length start) numbering marks (map at (take i literals)) (map at (take i literals) ++ (at x ∷ [])) x size rep (range i 0 below)
      (Contains-push (map at (take i literals)) (at x))
      (λ l member. Contains-append_left (map at (take i literals)) (at x ∷ []) l member)
      (λ l member. elim (Contains-push_cases (map at (take i literals)) (at x) l member) [ inl before ↦ inr before | inr e ↦ inl e ]))
