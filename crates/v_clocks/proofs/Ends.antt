-- Numbers past the end of a list of sets: there are no clock nets.
use Rattle.std.proofs.Common.{◌≡◌, ◌∙◌, ◌≤◌, ◌<◌, refl, ap, sym, ℕ, zero, suc, false, List, [], ◌∷◌, length, Bor, arith}
use Rattle.std.specs.Prelude.{nat_lt, ◌==◌}
use Rattle.std.specs.List.{list_any}
use Rattle.std.specs.BTreeSet.{BTreeSet}
use Rattle.std.proofs.lemmas.Bool.Decides.{nat_tests}
use Rattle.wb_values.specs.Value.{Name}
use Rattle.verilog_meaning.specs.Settled.{instance_connections}
use Rattle.v_places.specs.Below.{Spot}
use Rattle.v_clocks.specs.Uses.{spot_uses}
use Rattle.v_clocks.specs.Nets.{gives, nets_at, nets_next}
use Rattle.v_clocks.specs.Data.{is_data}
use Rattle.v_clocks.specs.Views.{sets_of}
use Rattle.v_clocks.proofs.Given.{nothing_in, nothing_given, nothing_as_data}

abbrev pub Sets : Type 0
Sets = List (BTreeSet (Bor (List ℕ)))

not_less : (k n : ℕ) → false ≡ nat_lt k n → n ≤ k
not_less k n h = grind (arith, nat_tests, h)

past_end : (ss : Sets) (k : ℕ) → length ss ≤ k → nets_at (sets_of ss) k ≡ (λ n. false)
past_end [] k h = refl
past_end (s ∷ ss) zero h = absurd (omega (arith, h))
past_end (s ∷ ss) (suc k) h = past_end ss k (omega (arith, h))

pub past : (ss : Sets) (k : ℕ) → false ≡ nat_lt k (length ss) → nets_at (sets_of ss) k ≡ (λ n. false)
past ss k h = past_end ss k (not_less k (length ss) h)

pub none_in : (ss : Sets) (k : ℕ) (ns : List Name) → false ≡ nat_lt k (length ss) → false ≡ list_any (nets_at (sets_of ss) k) ns
none_in ss k ns h = nothing_in ns ∙ sym (ap (λ p. list_any p ns) (past ss k h))

pub none_connected : (ss : Sets) (x : Spot) → false ≡ nat_lt x.parent (length ss) → false ≡ list_any is_data (spot_uses (nets_at (sets_of ss) x.parent) x)
none_connected ss x h =
    sym (nothing_as_data x.of_module (instance_connections x.instance x.connections)) ∙ sym (ap (λ p. list_any is_data (spot_uses p x)) (past ss x.parent h))

pub some_there : (n : ℕ) → false ≡ (n == 0) → 0 < n
some_there n h = grind (arith, nat_tests, h)

pub none_next : (clock : Name) (ss : Sets) (x : Spot) (q : Name) → 0 < length ss → false ≡ nat_lt x.parent (length ss) → false ≡ nets_next clock (sets_of ss) x q
none_next clock [] x q some h = absurd (omega (arith, some))
none_next clock (s ∷ ss) x q some h =
    sym (nothing_given x.of_module (instance_connections x.instance x.connections) q)
    ∙ sym (ap (λ p. list_any (gives q) (spot_uses p x)) (past (s ∷ ss) x.parent h))
