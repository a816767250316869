-- The statement that binds a label begins with a label definition.
use Rattle.std.proofs.Common.{◌≡◌, ℕ, Bool, true, false, cond, List, Option, Some, None, Result, Ok, refl, subst, codes}
use Rattle.std.specs.Str.{bytes_eq}
use Rattle.lg_base.specs.declared.refusal.RefusalKind.{RefusalKind}
use Rattle.lg_lex.specs.declared.token.TokenKind.{TokenKind}
use Rattle.lg_lex.specs.declared.token.TokenKind.TheVariants.{Word, Directive, LabelMark, Register}
use Rattle.lg_op.specs.declared.op.Op.{Op}
use Rattle.lg_tst.specs.Statements.{instruction_or, word_in, word_statement, directive_statement, statement_of}
use Rattle.lg_operand.specs.Registers.{is_float_register}
use Rattle.lg_tst.specs.Words.{is_float_word, directive_of, op_of}
use Rattle.lg_tst.specs.declared.words.Directive.{Directive as DirectiveName}
use Rattle.lg_tst.specs.declared.words.Directive.TheVariants as directive
use Rattle.lg_tst.specs.declared.statement.Section.{Section}
use Rattle.lg_tst.specs.declared.statement.Section.TheVariants as section
use Rattle.lg_tst.specs.declared.statement.Statement.{Statement}
use Rattle.lg_tst.specs.declared.statement.Statement.TheVariants as statement

abbrev IsOther : Result Statement RefusalKind → Type 0
IsOther (Ok statement.Label) = ⊥
IsOther r = Unit {0}

other_cond : (b : Bool) (x y : Result Statement RefusalKind) → IsOther x → IsOther y → IsOther (cond b x y)
other_cond true x y first second = first
other_cond false x y first second = second

instruction_other : (op : Option Op) → IsOther (instruction_or op)
instruction_other None = tt
instruction_other (Some op) = tt

word_in_other : (here : Section) (word : List ℕ) → IsOther (word_in here word)
word_in_other section.Code word = other_cond (bytes_eq word (codes "name")) _ _ tt (instruction_other (op_of word))
word_in_other section.Data word = tt

word_other : (here : Section) (word : List ℕ) → IsOther (word_statement here word)
word_other here word = other_cond (is_float_word word) _ _ tt (other_cond (bytes_eq word (codes "note")) _ _ tt (word_in_other here word))

directive_other : (here : Section) (d : Option DirectiveName) → IsOther (directive_statement here d)
directive_other here (Some directive.Data) = tt
directive_other here (Some directive.Code) = tt
directive_other here (Some directive.Float) = tt
directive_other here (Some directive.Double) = tt
directive_other section.Code _ = tt
directive_other section.Data _ = tt

no_label : {A : Type 0} (r : Result Statement RefusalKind) → IsOther r → r ≡ Ok statement.Label → A
no_label r other e = absurd (subst IsOther e other)

pub label_mark : (here : Section) (kind : TokenKind) (text : List ℕ) → statement_of here kind text ≡ Ok statement.Label → kind ≡ LabelMark
label_mark here LabelMark text e = refl
label_mark here Word text e = no_label _ (word_other here text) e
label_mark here Directive text e = no_label _ (directive_other here (directive_of text)) e
label_mark here Register text e = no_label _ (other_cond (is_float_register text) _ _ tt tt) e
label_mark here _ text e = cc
