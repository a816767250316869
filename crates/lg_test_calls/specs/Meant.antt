-- What a text without labels means, where its one argument word is `t.tst`.
use Rattle.std.specs.Prelude.{◌≡◌, ℕ, List, [], ◌∷◌, Ok, codes}
use Rattle.lg_base.specs.Arguments.{args_of}
use Rattle.lg_base.specs.Runs.{Ended}
use Rattle.lg_carry.specs.Agreement.{shape_of_unit}
use Rattle.lg_meaning.specs.Means.{Run, mean}
use Rattle.lg_node.specs.declared.unit.Unit.{Unit as TextUnit}
use Rattle.lg_tst.specs.Units.{unit_of}

abbrev pub meant : TextUnit → ℕ → Run
meant unit k = mean unit.nodes (shape_of_unit unit) [] unit.image (args_of (codes "t.tst" ∷ [])) k

-- the text has a unit, whose meaning has written these bytes and ended with this status after this many steps
abbrev pub Means : List ℕ → (steps status : ℕ) → (out : List ℕ) → Type 0
Means text steps status out =
    (unit : TextUnit) × (unit_of text ≡ Ok unit) × ((meant unit steps).status ≡ Ended status) × ((meant unit steps).out ≡ out)
