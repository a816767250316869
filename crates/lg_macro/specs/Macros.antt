-- Macros, and the sum of replacements.
use Rattle.std.specs.Prelude.{ℕ, ◌+◌, ◌≡◌, nat_lt, if◌then◌else◌, List, [], ◌∷◌, ◌++◌, Option, Some, None, Result, Ok, Err, position}
use Rattle.std.specs.List.{remove}
use Rattle.std.specs.Str.{bytes_eq}
use Rattle.lg_base.specs.Refusals.{refuse}
use Rattle.lg_base.specs.declared.refusal.Refusal.{Refusal}
use Rattle.lg_base.specs.declared.refusal.RefusalKind.TheVariants.{ExpandTooMuch}
use Rattle.lg_base.specs.declared.refusal.Stop.{Stop}
use Rattle.lg_base.specs.declared.refusal.Stop.TheVariants.{Refused, OutOfMemory}
use Rattle.lg_macro.specs.declared.macros.Macro.{Macro}

-- the place of the macro of a name
abbrev pub place_in : List Macro → List ℕ → Option ℕ
place_in table name = position (λ m. bytes_eq name m.name) table

abbrev pub without_at : List Macro → Option ℕ → List Macro
without_at table None = table
without_at table (Some place) = remove table place

-- the table without the macro of a name
abbrev pub without : List Macro → List ℕ → List Macro
without table name = without_at table (place_in table name)

-- the table with a macro in place of the one that had its name
abbrev pub with_macro : List Macro → Macro → List Macro
with_macro table m = without table m.name ++ m ∷ []

abbrev pub most : ℕ
most = 16777216

-- the sum with the share of one more replacement: 1 and the bytes of the body
abbrev pub counted : ℕ → Macro → ℕ → Result ℕ Refusal
counted line m sum = if nat_lt most (sum + 1 + m.size) then refuse ExpandTooMuch line else Ok (sum + 1 + m.size)

-- a call that leaves a value, or refuses, as a definition says; where memory ran out nothing is said
abbrev pub CountsAs : {A : Type 0} → Result (Unit {0}) Stop → A → Result A Refusal → Type 0
CountsAs (Ok u) new read = read ≡ Ok new
CountsAs (Err OutOfMemory) new read = Unit {0}
CountsAs (Err (Refused fault)) new read = read ≡ Err fault

-- the same of a call that gives a number besides
abbrev pub StepsAs : {A : Type 0} → Result ℕ Stop → A → Result (ℕ × A) Refusal → Type 0
StepsAs (Ok n) new read = read ≡ Ok (n, new)
StepsAs (Err OutOfMemory) new read = Unit {0}
StepsAs (Err (Refused fault)) new read = read ≡ Err fault

-- the same of a call that gives what it read
abbrev pub Reads : {A : Type 0} → Result A Stop → Result A Refusal → Type 0
Reads (Ok x) read = read ≡ Ok x
Reads (Err OutOfMemory) read = Unit {0}
Reads (Err (Refused fault)) read = read ≡ Err fault

-- the same of a call that gives something besides
abbrev pub GivesAs : {R A : Type 0} → Result R Stop → A → Result (R × A) Refusal → Type 0
GivesAs (Ok x) new read = read ≡ Ok (x, new)
GivesAs (Err OutOfMemory) new read = Unit {0}
GivesAs (Err (Refused fault)) new read = read ≡ Err fault
