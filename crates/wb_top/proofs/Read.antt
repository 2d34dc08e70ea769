-- Verilog files without tokens, or whose tokens have no tree, are refused by that.
use Rattle.std.proofs.Common.{◌≡◌, ℕ, List, Result, Ok, Err, Some, refl, sym, subst}
use Rattle.wb_values.specs.Value.{Name}
use Rattle.verilog_trees.specs.Syntax.{Source}
use Rattle.verilog_text.specs.Token.{Token}
use Rattle.verilog_text.specs.Text.{Refusal, tokens_in}
use Rattle.verilog_text.specs.Grammar.{IsSource}
use Rattle.check_cases.specs.Kinds.{text_kind, tree_kind}
use Rattle.wb_top.specs.Files.{IsKindOfText}
use Rattle.wb_top.specs.Texts.{IsRefusalBy}
use Rattle.wb_top.specs.SimulatedRtl.{IsSimulatedText, IsRtlSimulated}
use Rattle.wb_top.specs.declared.status.Status.{Status}
use Rattle.wb_top.specs.declared.status.Status.TheVariants.{Refused}

kind_of_text : (ds : List (List ℕ)) (o : Result (List Token) Refusal) (kind : _) → tokens_in ds ≡ o → IsKindOfText o kind → IsKindOfText (tokens_in ds) kind
kind_of_text ds o kind is h = subst (λ (t : Result (List Token) Refusal). IsKindOfText t kind) (sym is) h

module _ (top clock : Name) (script : List ℕ) (ds : List (List ℕ)) where
  refused_by : (kind text : List ℕ) (status : Status) → IsKindOfText (tokens_in ds) (Some kind) → status ≡ Refused → IsRefusalBy kind text
      → IsRtlSimulated top clock script ds status text
  refused_by kind text status is refused h = record {
    kind = Some kind;
    is_kind = is;
    is_simulated = subst (λ s. IsSimulatedText top clock script ds (Some kind) s text) (sym refused) h;
  }

  pub text_refused : (r : Refusal) (text : List ℕ) (status : Status) → tokens_in ds ≡ Err r → status ≡ Refused → IsRefusalBy (text_kind r) text
      → IsRtlSimulated top clock script ds status text
  text_refused r text status is refused h =
      refused_by (text_kind r) text status (kind_of_text ds (Err r) (Some (text_kind r)) is refl) refused h

  pub tree_refused : (tokens : List Token) (text : List ℕ) (status : Status) → tokens_in ds ≡ Ok tokens → ((ms : Source) → ¬ IsSource ms tokens)
      → status ≡ Refused → IsRefusalBy tree_kind text → IsRtlSimulated top clock script ds status text
  tree_refused tokens text status is none refused h =
      refused_by tree_kind text status (kind_of_text ds (Ok tokens) (Some tree_kind) is (refl, none)) refused h
