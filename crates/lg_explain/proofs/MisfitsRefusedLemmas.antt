-- Tokens that are no operand of a form, kind by kind.
use Rattle.std.proofs.Common.{◌≡◌, ℕ, Bool, true, false, List, Option, Some, None, Ok, Err, drop, refl, ap, ◌∙◌}
use Rattle.std.specs.Prelude.{not, if◌then◌else◌}
use Rattle.lg_base.specs.declared.refusal.RefusalKind.TheVariants.{BadOperand}
use Rattle.lg_lex.specs.declared.token.TokenKind.TheVariants.{Word, Number, Character, Expression, Name}
use Rattle.lg_node.specs.Nodes.{number_of}
use Rattle.lg_op.specs.Forms.{admits}
use Rattle.lg_op.specs.declared.form.Form.{Form}
use Rattle.lg_op.specs.declared.form.Form.TheVariants.{Write, Immediate, NewArgument, Argument, NewLocal}
use Rattle.lg_op.specs.declared.operand.Label.{Label}
use Rattle.lg_op.specs.declared.operand.Operand.{Operand}
use Rattle.lg_op.specs.declared.operand.Operand.TheVariants as operand
use Rattle.lg_operand.specs.Operands.{argument_named, local_named}
use Rattle.lg_tst.specs.Names.{FunctionNames, is_made, meaning_of}
use Rattle.lg_tst.specs.Operands.{name_operand, new_name}
use Rattle.lg_explain.specs.Misfits.{is_bad, takes_name}
use Rattle.lg_explain.specs.MisfitsRefused.{MisfitsAreRefused}

by_test : (b : Bool) (x : Operand) → not b ≡ is_bad (if b then Ok x else Err BadOperand)
by_test true x = refl
by_test false x = refl

-- which label it is makes no difference
any_label : (form : Form) (l m : Label) → admits form (operand.Label l) ≡ admits form (operand.Label m)
any_label Write l m = refl
any_label _ l m = refl

-- names are refused for other reasons
made : (b : Bool) (n : ℕ) → false ≡ is_bad (new_name b n)
made true n = refl
made false n = refl

argument : (o : Option Operand) → false ≡ is_bad (argument_named o)
argument None = refl
argument (Some (operand.Reg r)) = refl
argument _ = refl

local : (o : Option Operand) → false ≡ is_bad (local_named o)
local None = refl
local (Some (operand.Reg r)) = refl
local _ = refl

name : (form : Form) (names : FunctionNames) (word : List ℕ) → not (takes_name form) ≡ is_bad (name_operand form names word)
name Immediate names word = local (meaning_of names word)
name NewArgument names word = made (is_made names word) names.arguments
name Argument names word = argument (meaning_of names word)
name NewLocal names word = made (is_made names word) names.locals
name _ names word = refl

pub misfits : MisfitsAreRefused
misfits words names form Word text value =
    let label : Label = record { 0 = number_of words text } in
    ap not (any_label form (record { 0 = 0 }) label) ∙ by_test (admits form (operand.Label label)) (operand.Label label)
misfits words names form Number text value = by_test (admits form (operand.Number value)) (operand.Number value)
misfits words names form Character text value = by_test (admits form (operand.Number value)) (operand.Number value)
misfits words names form Expression text value = by_test (admits form (operand.Number value)) (operand.Number value)
misfits words names form Name text value = name form names (drop 1 text)
misfits words names form _ text value = refl
