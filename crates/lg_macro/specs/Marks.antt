-- The marks of a body.
use Rattle.std.specs.Prelude.{◌-◌, true, false, List, [], ◌∷◌, ◌++◌, length, take, slice_get, Option, Some, None}
use Rattle.lg_macro.specs.declared.macros.Mark.{Mark}

-- the mark of a piece that is no parameter and has no ## beside it
abbrev pub plain : Mark
plain = record { parameter = None; glued = false; glues = false }

abbrev pub glued_after : List Mark → Option Mark → List Mark
glued_after marks None = marks
glued_after marks (Some m) = take (length marks - 1) marks ++ record { parameter = m.parameter; glued = m.glued; glues = true } ∷ []

-- marks whose last one says that ## is after
abbrev pub glue_last : List Mark → List Mark
glue_last marks = glued_after marks (slice_get marks (length marks - 1))
