-- Names and wires as operands: what nets and memories hold is what the model's terms mean at a point.
use Rattle.std.proofs.Common.{◌≡◌, ℕ, ◌<◌, ◌≤◌, ◌^◌, Bool, true, false, List, Option, Some, refl, sym, ◌∙◌, subst, arith}
use Rattle.std.specs.Prelude.{slice_index}
use Rattle.std.proofs.lemmas.Bool.Decides.{nat_tests}
use Rattle.wb_values.specs.Value.{Name, Sort, truth, word, memory, Value, number, words, as_words, Valuation}
use Rattle.wb_values.specs.Choice.{some_if}
use Rattle.model_meaning.specs.Term.{is_sort, is_width}
use Rattle.verilog_meaning.specs.Expression.{bit, is_nonzero}
use Rattle.verilog_meaning.specs.Settled.{whole_name}
use Rattle.term_expressions.specs.Expressions.{IsWorth, bits_of, word_at}
use Rattle.term_expressions.specs.Laws.{IsMemory}
use Rattle.term_expressions.proofs.Names.{name_is_its_value, bits_are_extract, word_is_load}
use Rattle.emitted_modules.specs.Rtl.{Rtl, bits_of_sort}
use Rattle.emitted_modules.proofs.Words.{IsMemoryOf}
use Rattle.emitted_modules.proofs.Declared.{scope_in}
use Rattle.emitted_modules.proofs.Nets.{IsPlain, plain_net}
use Rattle.emitted_modules.proofs.NetWidths.{IsBitsSort}
use Rattle.emitted_modules.proofs.Computed.{Worth}
use Rattle.emitted_modules.proofs.Joined.{SlicedBy}
use Rattle.emitted_modules.proofs.WordReads.{ReadBy, IsNoMemory}
use Rattle.emitted_modules.proofs.Reading.{sort_value}

-- A net has a number, and the point has the value that the number stands for.
pub record IsHeldAs (r : Rtl) (v : Valuation) (n : Name) (t : Sort) (y : Value) : Type 0 where
  pub bits : IsBitsSort t
  pub plain : IsPlain r n t
  pub held : ℕ
  pub has : v n ≡ number held
  pub fits : held < 2 ^ bits_of_sort t
  pub means : y ≡ sort_value t held

-- A memory has words, and the point has them.
pub record IsMemoryHeld (r : Rtl) (v : Valuation) (n : Name) (a d : ℕ) (y : Value) : Type 0 where
  pub is_memory : IsMemory (scope_in r) n a d
  pub held : List ℕ
  pub has : v n ≡ words held
  pub fits : IsMemoryOf a d held
  pub means : y ≡ words held

abbrev pub IsNameHeld : Rtl → Valuation → Name → Sort → Value → Type 0
IsNameHeld r v n truth y = IsHeldAs r v n truth y
IsNameHeld r v n (word w) y = IsHeldAs r v n (word w) y
IsNameHeld r v n (memory a d) y = IsMemoryHeld r v n a d y

pub bit_of_nonzero : (x : ℕ) → x < 2 → x ≡ bit (is_nonzero x)
bit_of_nonzero x low = by_test (is_nonzero x) refl
  where
    by_test : (b : Bool) → is_nonzero x ≡ b → x ≡ bit b
    by_test true e = grind (arith, nat_tests, low, e)
    by_test false e = grind (arith, nat_tests, low, e)

at_most : (w : ℕ) → is_width w ≡ true → w ≤ 128
at_most w h = grind (arith, nat_tests, h)

bits_unread : (t : Sort) → IsBitsSort t → IsNoMemory (Some t)
bits_unread truth h = tt
bits_unread (word w) h = tt
bits_unread (memory a d) h = absurd h

module _ (r : Rtl) (v : Valuation) where
  -- a net as an operand, of its sort
  pub net_worth : (n : Name) (t : Sort) (y : Value) → IsHeldAs r v n t y → Worth (scope_in r) v (whole_name n) (Some t) y
  net_worth n truth y h =
      let same : h.held ≡ bit (is_nonzero h.held) = bit_of_nonzero h.held h.fits in (
        is_nonzero h.held,
        h.means,
        subst (IsWorth (scope_in r) v (whole_name n) 1) same
            (name_is_its_value (scope_in r) v n 1 h.held (plain_net r n truth h.plain) h.has h.fits),
      )
  net_worth n (word w) y h =
      (h.held, h.means, name_is_its_value (scope_in r) v n w h.held (plain_net r n (word w) h.plain) h.has h.fits)
  net_worth n (memory a d) y h = absurd h.bits

  pub net_sliced : (n : Name) (t : Sort) (y : Value) → IsHeldAs r v n t y → SlicedBy (scope_in r) v (bits_of n) (Some t) y
  net_sliced n truth y h = tt
  net_sliced n (word w) y h = (
    h.held,
    h.means,
    λ i l le low. bits_are_extract (scope_in r) v n w i l h.held (plain_net r n (word w) h.plain) h.plain.lowest h.has le low (at_most w h.bits),
  )
  net_sliced n (memory a d) y h = absurd h.bits

  memory_read : (n : Name) (a d : ℕ) (y : Value) → IsMemoryHeld r v n a d y → ReadBy (scope_in r) v (λ e. word_at n e) (Some (memory a d)) y
  memory_read n a d y h e i worth =
      subst (λ z. IsWorth (scope_in r) v (word_at n e) d (slice_index (as_words z) i)) (h.has ∙ sym h.means)
      (word_is_load (scope_in r) v n e a d i h.is_memory worth (subst (λ z. slice_index (as_words z) i < 2 ^ d) (sym h.has) (h.fits.narrow i)))

  -- all three, of a name of a sort
  abbrev IsRead : Name → Option Sort → Value → Type 0
  IsRead n o y =
      Worth (scope_in r) v (whole_name n) o y × SlicedBy (scope_in r) v (bits_of n) o y × ReadBy (scope_in r) v (λ e. word_at n e) o y

  name_read : (n : Name) (t : Sort) (y : Value) → IsNameHeld r v n t y → IsRead n (Some t) y
  name_read n truth y h = (net_worth n truth y h, tt, tt)
  name_read n (word w) y h = (net_worth n (word w) y h, net_sliced n (word w) y h, tt)
  name_read n (memory a d) y h = ((h.held, h.means, h.fits), tt, memory_read n a d y h)

  pub net_read : (n : Name) (t : Sort) (y : Value) → IsNameHeld r v n t y → IsRead n (some_if (is_sort t) t) y
  net_read n t y h = by_test (is_sort t)
    where
      by_test : (b : Bool) → IsRead n (some_if b t) y
      by_test true = name_read n t y h
      by_test false = (tt, tt, tt)
