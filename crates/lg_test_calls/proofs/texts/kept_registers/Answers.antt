use Rattle.std.proofs.Common.{List, [], ℕ, refl}
use Rattle.std.specs.Prelude.{codes, Result, Ok, Err}
use Rattle.lg_base.specs.Arguments.{words_before_zero}
use Rattle.lg_base.specs.Runs.{iter}
use Rattle.lg_base.specs.declared.refusal.Refusal.{Refusal}
use Rattle.lg_lex.specs.Blanks.{block_rest, comment_at, blank_at, after_most_blanks, after_blanks}
use Rattle.lg_lex.specs.Fronts.{word_len, word_at, marked_at, marker_at, dollar_at, mark_at, token_at, front_at}
use Rattle.lg_lex.specs.Numbers.{narrowed, digits_at, magnitude_at, suffix_at, unsigned_at, negated, number_at}
use Rattle.lg_lex.specs.Tokens.{with_front, tokens_from, tokens_at}
use Rattle.lg_node.specs.Functions.{open_before, home, functions_before}
use Rattle.lg_node.specs.declared.unit.Unit.{Unit as TextUnit}
use Rattle.lg_tst.specs.Units.{operands, statements, unit_of}
use Rattle.lg_tst.specs.Words.{is_float_word}
use Rattle.lg_test_calls.proofs.texts.kept_registers.Goals as goal

abbrev text : List ℕ
text = codes ".code\n\tprolog\n\tmovi\t%v0 72\n\tmovi\t%v1 33\n\tprepare\n\t\tpushargr\t%v0\n\tfinishi\t@putchar\n\taddi\t%v0 %v0 33\n\tprepare\n\t\tpushargr\t%v0\n\tfinishi\t@putchar\n\tprepare\n\t\tpushargr\t%v1\n\tfinishi\t@putchar\n\tmovi\t%r0 10\n\tprepare\n\t\tpushargr\t%r0\n\tfinishi\t@putchar\n\tret\n\tepilog\n"

abbrev read : Result TextUnit Refusal → TextUnit
read (Ok unit) = unit
read (Err refusal) = record { nodes = record { nodes = []; words = []; places = [] }; image = [] }

pub returns : goal.returns
unfolding iter words_before_zero open_before home functions_before block_rest comment_at blank_at after_most_blanks after_blanks word_len word_at marked_at marker_at dollar_at mark_at token_at front_at narrowed digits_at magnitude_at suffix_at unsigned_at negated number_at with_front tokens_from tokens_at operands statements is_float_word
returns c = record { means = (read (unit_of text), refl, refl, refl) }
