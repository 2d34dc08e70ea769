-- Continuous assignments that break no rule are sound, where their targets are nets.
use Rattle.std.proofs.Common.{◌≡◌, ◌≤◌, ℕ, refl, ap, arith, Bool, true, false, not, ◌&&◌, nat_le, List, inl, Option, Some, None, is_some}
use Rattle.std.specs.Prelude.{IsTrue, ◌||◌}
use Rattle.std.proofs.lemmas.Bool.{false≢true, true≢false, and_parts, and_from}
use Rattle.std.proofs.lemmas.Bool.Decides.{nat_tests}
use Rattle.wb_values.specs.Value.{Name}
use Rattle.wb_values.specs.Choice.{some_if}
use Rattle.verilog_trees.specs.Syntax.{Expression, Selects, whole, one, two, Target, place, joined, Targets, no_targets, target}
use Rattle.verilog_meaning.specs.Expression.{Object, Scope, object_width, is_memory}
use Rattle.verilog_meaning.specs.Statement.{targets_width}
use Rattle.verilog_settled.specs.Locality.{has_constant_selects}
use Rattle.verilog_rules.specs.Expression.{Broken, is_unbroken, anywhere, by_name, by_total, broken, broken_selects, has_many_words}
use Rattle.verilog_designs.specs.Drivers.{target_names, targets_names}
use Rattle.verilog_designs.specs.Expressions.{memory_if, by_constants, targets_have_width, writes_memory, broken_target, broken_targets}
use Rattle.verilog_unique.proofs.Descent.{IsAmong, among_left, among_right}
use Rattle.v_value.specs.Narrow.{HasNarrowObjects}
use Rattle.v_size.proofs.Unbroken.{unbroken-also}
use Rattle.v_sound.proofs.Within.{net-target-narrow}
use Rattle.flat_rules.specs.Drivers.{LinkBreaksNothing}
use Rattle.v_lower.specs.Lowered.{has_sort}
use Rattle.v_lower.specs.Walking.{IsSound, sound_at}
use Rattle.v_settle.specs.Drivers.{IsNet, HasOneSelect, IsNetTarget, AreNetTargets, IsSoundLink}

few_bits : (w : ℕ) → w ≤ 128 → nat_le w 128 ≡ true
few_bits w h = grind (arith, nat_tests, h)

few_words : (a : Option (ℕ × ℕ)) → is_some a ≡ false → has_many_words a ≡ false
few_words None h = refl
few_words (Some a) h = absurd (true≢false h)

sort_of : (o : Object) → o.is_declared ≡ true → object_width o ≤ 128 → is_memory o ≡ false → has_sort o ≡ true
sort_of o d w m =
    and_from o.is_declared (nat_le (object_width o) 128 && not (has_many_words o.addresses)) d
    (and_from (nat_le (object_width o) 128) (not (has_many_words o.addresses)) (few_bits (object_width o) w) (ap not (few_words o.addresses m)))

-- a second select is of a memory
bad_second : (d m r : Bool) → d ≡ true → m ≡ false → not (d && (not m || not r)) ≡ true → ⊥
bad_second true false r e f h = false≢true h
bad_second true true r e f h = true≢false f
bad_second false m r e f h = false≢true e

one_select : (o : Object) (x : Selects) → o.is_declared ≡ true → is_memory o ≡ false → is_unbroken (by_name anywhere o x) ≡ true → HasOneSelect x
one_select o whole d m h = tt
one_select o (one x) d m h = tt
one_select o (two x y) d m h =
    let b : Broken = by_name anywhere o (two x y) in
    let a1 = and_parts (not b.undeclared) _ h in
    let a2 = and_parts (not b.has_xz) _ a1.1 in
    let a3 = and_parts (not b.bad_constant) _ a2.1 in
    let a4 = and_parts (not b.width_over_128) _ a3.1 in
    let a5 = and_parts (not b.bad_select) _ a4.1 in
    bad_second o.is_declared (is_memory o) o.has_range d m a5.0

sound_so : (s : Scope) (e : Expression) → is_unbroken (broken s anywhere e) ≡ true → IsSound s e
unfolding sound_at
sound_so s e h = h

-- a declared name without a number that is no memory
pub record IsNetThere (o : Object) : Type 0 where
  pub declared : o.is_declared ≡ true
  pub plain : is_memory o ≡ false
  pub variable : o.constant ≡ None

module _ (s : Scope) (objects : HasNarrowObjects s) where
  abbrev AreNets : List Name → Type 0
  AreNets ns = (n : Name) → IsAmong ns n → IsNetThere (s n)

  net : (n : Name) → IsNetThere (s n) → IsNet s n
  net n h = record { sort = sort_of (s n) h.declared (objects n).0 h.plain; variable = h.variable; plain = h.plain }

  mutual
    target_nets : (t : Target) → AreNets (target_names t) → is_unbroken (broken_target s by_constants t) ≡ true → IsNetTarget s t
    target_nets (place n x) f h =
        let q = f n (inl refl) in
        (net n q, one_select (s n) x q.declared q.plain (unbroken-also (by_name anywhere (s n) x) (broken_selects s by_constants (s n) x) h).0)
    target_nets (joined ts) f h =
        targets_nets ts f (unbroken-also (by_total (some_if (targets_have_width s ts) (targets_width s ts))) (broken_targets s by_constants ts) h).1

    targets_nets : (ts : Targets) → AreNets (targets_names ts) → is_unbroken (broken_targets s by_constants ts) ≡ true → AreNetTargets s ts
    targets_nets no_targets f h = tt
    targets_nets (target t ts) f h =
        let q = unbroken-also (broken_target s by_constants t) (broken_targets s by_constants ts) h in (
          target_nets t (λ n k. f n (among_left (target_names t) (targets_names ts) n k)) q.0,
          targets_nets ts (λ n k. f n (among_right (target_names t) (targets_names ts) n k)) q.1,
        )

  pub link_sound : (a : Target × Expression) → AreNets (target_names a.0) → IsTrue (has_constant_selects s a.0) → LinkBreaksNothing s a → IsSoundLink s a.0 a.1
  link_sound a f c h =
      let t = net-target-narrow s by_constants a.0 objects h.target in
      let b = unbroken-also (memory_if (writes_memory s a.0)) (broken_target s by_constants a.0) h.target in
      record { nets = target_nets a.0 f b.1; constant = c; some_bits = t.1; at_most_128 = t.2; value = sound_so s a.1 h.value }
