-- Files are refused by at most one kind, and those of a setting by none.
use Rattle.std.proofs.Common.{◌≡◌, ◌∙◌, ℕ, List, Option, Some, None, Result, Ok, Err, ◌⊎◌, inl, inr, refl, sym, ap, subst}
use Rattle.model_meaning.specs.Model.{Model}
use Rattle.model_files.specs.Meaning as models
use Rattle.model_files.specs.Meaning.{ModelReading, stands_for, model_reading}
use Rattle.ila_rules.specs.Rule as model_rules
use Rattle.map_files.specs.Written.{WrittenMap}
use Rattle.map_files.specs.Meaning as maps
use Rattle.map_files.specs.Meaning.{MapRule, MapReading, says, map_reading}
use Rattle.map_file.specs.Rule as map_rules
use Rattle.map_rules.specs.Case.{MapCase, case_design}
use Rattle.map_rules.specs.Accepted.{IsMapRefusedBy, IsMapAccepted, case_of}
use Rattle.verilog_text.specs.Token.{Token}
use Rattle.verilog_text.specs.Text.{Refusal, tokens_in}
use Rattle.verilog_text.specs.Grammar.{IsSource}
use Rattle.verilog_trees.specs.Syntax.{Source}
use Rattle.verilog_designs.specs.Accepted.{DesignKind, IsAccepted, IsRefusedBy}
use Rattle.refinement.specs.Map.{design_of}
use Rattle.check_cases.specs.Kinds.{text_kind, tree_kind, kind_name}
use Rattle.check_cases.specs.Files.{IsKindOfFiles}
use Rattle.check_cases.specs.Laws.{FilesHaveOneKind, SettingsAreNotRefused}
use Rattle.check_cases.proofs.Firsts.{one_design_kind, one_map_rule}

abbrev pub OneSource : Type 0
OneSource = (ms ns : Source) (text : List Token) → IsSource ms text → IsSource ns text → ms ≡ ns

-- what is told of a design with its map
data ToldOfCase (c : MapCase) : Option (List ℕ) → Type 0 where
  by_design : (k : DesignKind) → IsRefusedBy (case_design c) k → ToldOfCase c (Some (kind_name k))
  by_map : (rule : MapRule) → IsAccepted (case_design c) → IsMapRefusedBy c rule → ToldOfCase c (Some (map_rules.rule_name rule))
  by_none : IsAccepted (case_design c) → IsMapAccepted c → ToldOfCase c None

case_once : (c : MapCase) (k l : Option (List ℕ)) → ToldOfCase c k → ToldOfCase c l → k ≡ l
case_once c _ _ (by_design k h) (by_design l g) = ap (λ x. Some (kind_name x)) (one_design_kind (case_design c) k l h g)
case_once c _ _ (by_design k h) (by_map rule a g) = absurd (a k h.breaks)
case_once c _ _ (by_design k h) (by_none a b) = absurd (a k h.breaks)
case_once c _ _ (by_map rule a h) (by_design l g) = absurd (a l g.breaks)
case_once c _ _ (by_map rule a h) (by_map other b g) = ap (λ x. Some (map_rules.rule_name x)) (one_map_rule c rule other h g)
case_once c _ _ (by_map rule a h) (by_none b n) = absurd (n rule h.breaks)
case_once c _ _ (by_none a b) (by_design l g) = absurd (a l g.breaks)
case_once c _ _ (by_none a b) (by_map rule n g) = absurd (b rule g.breaks)
case_once c _ _ (by_none a b) (by_none m n) = refl

-- what is told of tokens
abbrev ToldOfTree : Model → WrittenMap → List Token → Option (List ℕ) → Type 0
ToldOfTree q w text kind = (((ms : Source) → ¬ IsSource ms text) × (kind ≡ Some tree_kind)) ⊎ ((ms : Source) × IsSource ms text × ToldOfCase (case_of w q ms) kind)

tree_once : OneSource → (q : Model) (w : WrittenMap) (text : List Token) (k l : Option (List ℕ)) → ToldOfTree q w text k → ToldOfTree q w text l → k ≡ l
tree_once one q w text k l (inl h) (inl g) = h.1 ∙ sym g.1
tree_once one q w text k l (inl h) (inr g) = absurd (h.0 g.0 g.1)
tree_once one q w text k l (inr h) (inl g) = absurd (g.0 h.0 h.1)
tree_once one q w text k l (inr h) (inr g) =
    case_once (case_of w q h.0) k l h.2 (subst (λ ms. ToldOfCase (case_of w q ms) l) (one g.0 h.0 text g.1 h.1) g.2)

-- what is told of files, by what their bytes are read as
abbrev Told : ModelReading → MapReading → Result (List Token) Refusal → Option (List ℕ) → Type 0
Told (models.refused_by rule) r t kind = kind ≡ Some (model_rules.rule_name rule)
Told (stands_for q) (maps.refused_by rule) t kind = kind ≡ Some (map_rules.rule_name rule)
Told (stands_for q) (says w) (Err e) kind = kind ≡ Some (text_kind e)
Told (stands_for q) (says w) (Ok text) kind = ToldOfTree q w text kind

once : OneSource → (m : ModelReading) (p : MapReading) (t : Result (List Token) Refusal) (k l : Option (List ℕ)) → Told m p t k → Told m p t l → k ≡ l
once one (models.refused_by rule) p t k l h g = h ∙ sym g
once one (stands_for q) (maps.refused_by rule) t k l h g = h ∙ sym g
once one (stands_for q) (says w) (Err e) k l h g = h ∙ sym g
once one (stands_for q) (says w) (Ok text) k l h g = tree_once one q w text k l h g

moved : (a b : ModelReading) (c d : MapReading) (t u : Result (List Token) Refusal) (kind : Option (List ℕ)) → a ≡ b → c ≡ d → t ≡ u → Told b d u kind → Told a c t kind
moved a b c d t u kind e f g h = subst (λ z. Told z c t kind) (sym e) (subst (λ z. Told b z t kind) (sym f) (subst (λ z. Told b d z kind) (sym g) h))

told : (m p : List ℕ) (ds : List (List ℕ)) (kind : Option (List ℕ)) → IsKindOfFiles m p ds kind → Told (model_reading m) (map_reading p) (tokens_in ds) kind
told m p ds _ (IsKindOfFiles.of_model rule e) =
    moved (model_reading m) (models.refused_by rule) (map_reading p) (map_reading p) (tokens_in ds) (tokens_in ds) (Some (model_rules.rule_name rule)) e refl refl refl
told m p ds _ (IsKindOfFiles.of_map_file q rule e f) =
    moved (model_reading m) (stands_for q) (map_reading p) (maps.refused_by rule) (tokens_in ds) (tokens_in ds) (Some (map_rules.rule_name rule)) e f refl refl
told m p ds _ (IsKindOfFiles.of_text q w r h e) =
    moved (model_reading m) (stands_for q) (map_reading p) (says w) (tokens_in ds) (Err r) (Some (text_kind r)) h.is_model h.says e refl
told m p ds _ (IsKindOfFiles.of_tokens q w text h e none) =
    moved (model_reading m) (stands_for q) (map_reading p) (says w) (tokens_in ds) (Ok text) (Some tree_kind) h.is_model h.says e (inl (none, refl))
told m p ds _ (IsKindOfFiles.of_design q w ms k h r) =
    moved (model_reading m) (stands_for q) (map_reading p) (says w) (tokens_in ds) (Ok h.is_tree.tokens) (Some (kind_name k)) h.are_said.is_model h.are_said.says h.is_tree.are_tokens
    (inr (ms, h.is_tree.is_source, by_design k r))
told m p ds _ (IsKindOfFiles.of_map q w ms rule h a r) =
    moved (model_reading m) (stands_for q) (map_reading p) (says w) (tokens_in ds) (Ok h.is_tree.tokens) (Some (map_rules.rule_name rule)) h.are_said.is_model h.are_said.says
    h.is_tree.are_tokens (inr (ms, h.is_tree.is_source, by_map rule a r))
told m p ds _ (IsKindOfFiles.of_none s h) =
    let w : WrittenMap = h.is_map.written in
    let c : MapCase = case_of w s.model s.source in
    let same : design_of s ≡ case_design c =
    let t = h.is_map.stands_for.top in let k = h.is_map.stands_for.clock in λ i. record { source = s.source; top = t i; clock = k i } in
    moved (model_reading m) (stands_for s.model) (map_reading p) (says w) (tokens_in ds) (Ok h.is_tree.tokens) None h.is_model h.is_map.says h.is_tree.are_tokens
    (inr (s.source, h.is_tree.is_source, by_none (subst IsAccepted same h.is_accepted) h.is_map.is_accepted))

pub one_kind : OneSource → FilesHaveOneKind
one_kind one m p ds k l h g = once one (model_reading m) (map_reading p) (tokens_in ds) k l (told m p ds k h) (told m p ds l g)

pub settings_unrefused : OneSource → SettingsAreNotRefused
settings_unrefused one m p ds s kind h g =
    let same : None ≡ Some kind = one_kind one m p ds None (Some kind) (IsKindOfFiles.of_none s h) g in
    cc
