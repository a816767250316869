-- What a token is refused for where it is read, which tokens make nothing, and which words are made.
use Rattle.std.proofs.Common.{◌≡◌, ℕ, suc, Bool, true, false, not, ◌||◌, List, [], ◌∷◌, ◌++◌, length, drop, Option, Some, None, Ok, Err, is_some, refl, ap, ◌∙◌, ◌+◌, cond}
use Rattle.std.specs.Prelude.{Result, if◌then◌else◌, nat_lt, position}
use Rattle.std.specs.List.{position_or_len}
use Rattle.std.specs.Str.{bytes_eq}
use Rattle.std.proofs.lemmas.List.Folds.{list_any-append}
use lib.Dec.{leb-suc-suc, leb-zero}
use Rattle.lg_base.specs.HostNames.{host_by_name}
use Rattle.lg_base.specs.declared.host_name.HostName.{HostName}
use Rattle.lg_base.specs.declared.refusal.Refusal.{Refusal}
use Rattle.lg_base.specs.declared.refusal.RefusalKind.{RefusalKind}
use Rattle.lg_base.specs.declared.refusal.RefusalKind.TheVariants.{BadOperand, DataFull, FloatRefused, LabelTwice, TooManyNodes, UnknownName}
use Rattle.lg_lex.specs.declared.token.TokenKind.{TokenKind}
use Rattle.lg_lex.specs.declared.token.TokenKind.TheVariants.{Word, Directive, LabelMark, Register, Number, Character, Expression, Name, Host, Str}
use Rattle.lg_op.specs.Forms.{admits}
use Rattle.lg_op.specs.declared.form.Form.{Form}
use Rattle.lg_op.specs.declared.operand.Operand.{Operand}
use Rattle.lg_op.specs.declared.operand.Operand.TheVariants as operand
use Rattle.lg_op.specs.declared.operand.Reg.{Reg}
use Rattle.lg_operand.specs.Operands.{admitted, argument_named, host_misfit, host_operand, local_named, misfit, register_at, register_operand}
use Rattle.lg_operand.specs.Registers.{is_float_register, register_of}
use Rattle.lg_tst.specs.Names.{FunctionNames, no_names, meaning_of}
use Rattle.lg_tst.specs.Names as names_spec
use Rattle.lg_tst.specs.Statements.{is_number, is_value}
use Rattle.lg_tst.specs.Units.{is_digits, is_string}
use Rattle.lg_tst.specs.declared.statement.ItemSize.{ItemSize}
use Rattle.lg_tst.specs.declared.statement.ItemSize.TheVariants.{One}
use Rattle.lg_explain.specs.Twice.{again, forms_after, is_made, labels_after, made_again, names_after, with_word}
use Rattle.lg_explain.proofs.BoundLemmas.{one_more}

-- ---- refusals for another reason
abbrev pub IsOther : RefusalKind → Type 0
IsOther kind = kind ≡ LabelTwice → ⊥

-- a fault after the tokens is for another reason
abbrev pub NoTwice : Option Refusal → Type 0
NoTwice None = Unit {0}
NoTwice (Some refusal) = IsOther refusal.kind

pub bad_operand : IsOther BadOperand
bad_operand e = cc

pub unknown_name : IsOther UnknownName
unknown_name e = cc

pub float_refused : IsOther FloatRefused
float_refused e = cc

pub data_full : IsOther DataFull
data_full e = cc

pub too_many : IsOther TooManyNodes
too_many e = cc

-- a token that is misplaced
pub misfit_other : (kind : TokenKind) (word : List ℕ) → IsOther (misfit kind word)
misfit_other Register word = by (is_float_register word)
  where
    by : (b : Bool) → IsOther (if b then FloatRefused else BadOperand)
    by true = float_refused
    by false = bad_operand
misfit_other Host word = by (host_by_name (drop 1 word))
  where
    by : (o : Option HostName) → IsOther (host_misfit o)
    by (Some h) = bad_operand
    by None = λ e. cc
misfit_other _ word = bad_operand

-- ---- operands that are refused for another reason
abbrev pub IsMild : Result Operand RefusalKind → Type 0
IsMild (Ok x) = Unit {0}
IsMild (Err kind) = IsOther kind

pub admitted_mild : (form : Form) (x : Operand) → IsMild (admitted form x)
admitted_mild form x = by (admits form x)
  where
    by : (b : Bool) → IsMild (if b then Ok x else Err BadOperand)
    by true = tt
    by false = bad_operand

pub register_mild : (form : Form) (word : List ℕ) → IsMild (register_operand form word)
register_mild form word = by (is_float_register word) (register_of word)
  where
    by : (b : Bool) (o : Option Reg) → IsMild (if b then Err FloatRefused else register_at form o)
    by true o = float_refused
    by false None = bad_operand
    by false (Some r) = admitted_mild form (operand.Reg r)

pub host_mild : (form : Form) (o : Option HostName) → IsMild (host_operand form o)
host_mild form None = λ e. cc
host_mild form (Some h) = admitted_mild form (operand.Host h)

pub argument_mild : (o : Option Operand) → IsMild (argument_named o)
argument_mild (Some (operand.Slot n)) = tt
argument_mild _ = λ e. cc

pub local_mild : (o : Option Operand) → IsMild (local_named o)
local_mild (Some (operand.Number n)) = tt
local_mild _ = λ e. cc

-- ---- words that are made
pub made_none : (words : List (List ℕ)) (word : List ℕ) → is_made words word ≡ false → made_again words word ≡ None
made_none words word e = ap (λ b. if b then Some word else None) e

pub made_some : (words : List (List ℕ)) (word : List ℕ) → is_made words word ≡ true → made_again words word ≡ Some word
made_some words word e = ap (λ b. if b then Some word else None) e

pub with_new : (words : List (List ℕ)) (word : List ℕ) → is_made words word ≡ false → with_word words word ≡ words ++ word ∷ []
with_new words word e = ap (λ b. if b then words else words ++ word ∷ []) e

pub or_turned : (a b : Bool) → (a || (b || false)) ≡ (b || a)
or_turned true true = refl
or_turned false true = refl
or_turned _ _ = refl

pub made_with : (words : List (List ℕ)) (word other : List ℕ) → is_made (words ++ word ∷ []) other ≡ (bytes_eq other word || is_made words other)
made_with words word other = list_any-append (bytes_eq other) words (word ∷ []) ∙ or_turned (is_made words other) (bytes_eq other word)

-- the place of a name among those that are made
pub place_made : (words : List (List ℕ)) (word : List ℕ) → is_some (position (bytes_eq word) words) ≡ is_made words word
place_made [] word = refl
place_made (x ∷ words) word = by (bytes_eq word x) (place_made words word)
  where
    by : (b : Bool) → is_some (position (bytes_eq word) words) ≡ is_made words word
        → is_some (if nat_lt (cond (not b) (1 + position_or_len (bytes_eq word) words) 0) (suc (length words)) then Some (cond (not b) (1 + position_or_len (bytes_eq word) words) 0) else None)
        ≡ (b || is_made words word)
    by true e = ap (λ c. is_some (if◌then◌else◌ {A = Option ℕ} c (Some 0) None)) (leb-suc-suc 0 (length words) ∙ leb-zero (length words))
    by false e =
        let n = position_or_len (bytes_eq word) words in
        ap (λ k. is_some (if nat_lt k (suc (length words)) then Some k else None)) (one_more n)
        ∙ (ap (λ c. is_some (if c then Some (suc n) else None)) (leb-suc-suc (suc n) (length words)) ∙ later (nat_lt (position_or_len (bytes_eq word) words) (length words)) e)
      where
        later : (c : Bool) → is_some (if c then Some (position_or_len (bytes_eq word) words) else None) ≡ is_made words word
            → is_some (if c then Some (suc (position_or_len (bytes_eq word) words)) else None) ≡ is_made words word
        later true f = f
        later false f = f

pub is_name_made : (names : FunctionNames) (words : List (List ℕ)) (word : List ℕ) → names.words ≡ words → names_spec.is_made names word ≡ is_made words word
is_name_made names words word e = place_made names.words word ∙ ap (λ ws. is_made ws word) e

-- ---- tokens that make nothing and begin no instruction
abbrev pub is_quiet : TokenKind → Bool
is_quiet Word = false
is_quiet LabelMark = false
is_quiet kind = true

-- nothing changes at such a token
abbrev pub Passed : TokenKind → List ℕ → (labels names : List (List ℕ)) → Type 0
Passed kind word labels names =
    (again [] kind word labels names ≡ None) × (labels_after [] kind word labels ≡ labels) × (names_after [] kind word names ≡ names) × (forms_after [] kind word ≡ [])

pub quiet_passed : (kind : TokenKind) (word : List ℕ) (labels names : List (List ℕ)) → is_quiet kind ≡ true → Passed kind word labels names
quiet_passed Word word labels names e = cc
quiet_passed LabelMark word labels names e = cc
quiet_passed _ word labels names e = (refl, refl, refl, refl)

pub number_quiet : (kind : TokenKind) → is_number kind ≡ true → is_quiet kind ≡ true
number_quiet Word e = cc
number_quiet LabelMark e = cc
number_quiet _ e = refl

pub value_quiet : (size : ItemSize) (kind : TokenKind) → is_value size kind ≡ true → is_quiet kind ≡ true
value_quiet One Word e = cc
value_quiet size Directive e = refl
value_quiet size Register e = refl
value_quiet size Number e = refl
value_quiet size Character e = refl
value_quiet size Expression e = refl
value_quiet size Name e = refl
value_quiet size Host e = refl
value_quiet size Str e = refl
value_quiet _ _ e = cc

pub string_quiet : (kind : TokenKind) → is_string kind ≡ true → is_quiet kind ≡ true
string_quiet Word e = cc
string_quiet LabelMark e = cc
string_quiet _ e = refl

pub digits_quiet : (kind : TokenKind) → is_digits kind ≡ true → is_quiet kind ≡ true
digits_quiet Word e = cc
digits_quiet LabelMark e = cc
digits_quiet _ e = refl
