-- Open conditions, the innermost at the end.
use Rattle.std.specs.Prelude.{ℕ, ◌-◌, ◌==◌, nat_le, Bool, true, false, not, ◌&&◌, if◌then◌else◌, List, [], ◌∷◌, ◌++◌, length, take, slice_get, Option, Some, None, Result, Ok}
use Rattle.lg_base.specs.Refusals.{refuse}
use Rattle.lg_pre.specs.declared.conditions.Condition.{Condition}
use Rattle.lg_pre.specs.declared.directive.Directive.{Directive}
use Rattle.lg_pre.specs.declared.directive.Directive.TheVariants.{If, IfDefined, Else, EndIf}
use Rattle.lg_base.specs.declared.refusal.Refusal.{Refusal}
use Rattle.lg_base.specs.declared.refusal.RefusalKind.TheVariants.{BadDirective}
use Rattle.lg_macro.specs.Pieces.{Piece}

abbrev pub innermost : List Condition → Option Condition
innermost conditions = slice_get conditions (length conditions - 1)

abbrev pub outer : List Condition → List Condition
outer conditions = take (length conditions - 1) conditions

abbrev pub skips : Option Condition → Bool
skips None = false
skips (Some c) = not c.chosen

-- whether the group is not chosen
abbrev pub skipping : List Condition → Bool
skipping conditions = skips (innermost conditions)

-- whether no further condition may be open
abbrev pub is_full : List Condition → Bool
is_full conditions = nat_le 64 (length conditions)

-- a further condition (at most 64 may be open)
abbrev pub opens : List Condition → ℕ → Bool → Bool → Result (List Condition) Refusal
opens conditions line around chosen = if is_full conditions then refuse BadDirective line
    else Ok (conditions ++ record { line = line; chosen = chosen; around = around; other = false } ∷ [])

abbrev pub closes_by : List Condition → ℕ → Option Condition → Result (List Condition) Refusal
closes_by conditions line None = refuse BadDirective line
closes_by conditions line (Some c) = Ok (outer conditions)

abbrev pub turned : Condition → Condition
turned c = record { line = c.line; chosen = c.around && not c.chosen; around = c.around; other = true }

-- the other group of a condition: the second of them is none
abbrev pub turns_by : List Condition → ℕ → Option Condition → Result (List Condition) Refusal
turns_by conditions line None = refuse BadDirective line
turns_by conditions line (Some c) = if c.other then refuse BadDirective line else Ok (outer conditions ++ turned c ∷ [])

abbrev pub is_around : Option Condition → Bool
is_around None = true
is_around (Some c) = c.around

-- whether something is after the name that may not: in a skipped group it may
abbrev pub is_crowded : List Condition → List Piece → Bool
is_crowded conditions rest = is_around (innermost conditions) && not (length rest == 0)

-- #else and #endif
abbrev pub turns_at : List Condition → ℕ → List Piece → Result (List Condition) Refusal
turns_at conditions line rest = if is_crowded conditions rest then refuse BadDirective line else turns_by conditions line (innermost conditions)

abbrev pub closes_at : List Condition → ℕ → List Piece → Result (List Condition) Refusal
closes_at conditions line rest = if is_crowded conditions rest then refuse BadDirective line else closes_by conditions line (innermost conditions)

-- what a skipped group reads: conditional directives by their names
abbrev pub skipped : List Condition → ℕ → List Piece → Directive → Result (List Condition) Refusal
skipped conditions line rest If = opens conditions line false false
skipped conditions line rest (IfDefined wanted) = opens conditions line false false
skipped conditions line rest Else = turns_at conditions line rest
skipped conditions line rest EndIf = closes_at conditions line rest
skipped conditions line rest directive = Ok conditions
