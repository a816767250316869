-- How the tokens that are left are held: one may be read ahead of the others.
use Rattle.std.specs.Prelude.{List, ◌++◌, option_to_list}
use Rattle.std.specs.List.{All}
use Rattle.lg_lex.specs.declared.token.Token.{Token}
use Rattle.lg_tst.specs.Streams.{Stream, IsToken}
use Rattle.lg_tst.specs.declared.source.Source.TheInside.{Inside}

abbrev pub left_of : Inside → List Token
left_of s = option_to_list s.ahead ++ s.lexer.0

abbrev pub view_of : Inside → Stream
view_of s = record { text = s.text.now; left = left_of s; fault = s.lexer.1 }

abbrev pub IsSource : Inside → Type 0
IsSource s = All (IsToken s.text.now) (left_of s)
