-- The names of directives.
use Rattle.std.specs.Prelude.{ℕ, ◌==◌, true, false, if◌then◌else◌, List, length, codes}
use Rattle.std.specs.Str.{bytes_eq}
use Rattle.lg_macro.specs.Pieces.{Piece, piece_at}
use Rattle.lg_pre.specs.declared.directive.Directive.{Directive}
use Rattle.lg_pre.specs.declared.directive.Directive.TheVariants.{Nothing, Define, Undefine, IfDefined, If, Else, EndIf, Unknown}
use Rattle.lg_macro.specs.declared.pieces.PieceKind.{PieceKind}
use Rattle.lg_macro.specs.declared.pieces.PieceKind.TheVariants.{Word}

abbrev pub by_name : List ℕ → Directive
by_name name = if bytes_eq name (codes "define") then Define
    else (if bytes_eq name (codes "undef") then Undefine
    else (if bytes_eq name (codes "ifdef") then IfDefined true
    else (if bytes_eq name (codes "ifndef") then IfDefined false
    else (if bytes_eq name (codes "if") then If
    else (if bytes_eq name (codes "else") then Else
    else (if bytes_eq name (codes "endif") then EndIf else Unknown))))))

abbrev pub by_kind : List ℕ → PieceKind → Directive
by_kind text Word = by_name text
by_kind text kind = Unknown

-- the directive of the pieces after a #
abbrev pub directive_of : List Piece → Directive
directive_of body = if length body == 0 then Nothing else by_kind (piece_at body 0).text (piece_at body 0).kind
