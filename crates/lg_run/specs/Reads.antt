-- Reading a text.
use Rattle.std.specs.Prelude.{◌≡◌, ◌⊎◌, ◌<◌, ◌≤◌, ◌+◌, ℕ, List, Option, Result, Ok, Err, length}
use Rattle.std.specs.Io.KnownBytes.{Consumes}
use Rattle.lg_command.specs.Commands.{Command, IsCommand}
use Rattle.lg_io.specs.Counts.{Rose}
use Rattle.lg_io.specs.NamedTexts.{NamedTexts, Selects}
use Rattle.lg_run.specs.Refused.{IsTextUnder, most_text}
use Rattle.lg_run.specs.declared.source.ReadStop.{ReadStop}
use Rattle.lg_run.specs.declared.source.ReadStop.TheVariants.{ReadFault, TooLong, OutOfMemory}

-- the text of a name is too long
abbrev pub IsLongText : Option NamedTexts → List ℕ → Type 0
IsLongText held name = (text : List ℕ) × IsTextUnder held name text × (most_text < length text)

-- the count of faults rose exactly where that is said
abbrev pub ReadTells : {T : Type 0} → (before now : ℕ) → Result T ReadStop → Type 0
ReadTells before now (Ok text) = now ≡ before
ReadTells before now (Err ReadFault) = Rose before now
ReadTells before now (Err TooLong) = now ≡ before
ReadTells before now (Err OutOfMemory) = now ≡ before

-- how many bytes are read at a time
abbrev pub most_piece : ℕ
most_piece = 65536

-- of what is left to be read bytes were taken from the front: at most as many as a text may have, and those of one piece
abbrev pub ReadsFew : Option (List ℕ) → Option (List ℕ) → Type 0
ReadsFew first left = (bytes : List ℕ) × Consumes first left bytes × (length bytes ≤ most_text + most_piece)

-- nothing was selected and read, or the text of the name was selected, and so few bytes of it were read
abbrev pub ReadsFewOf : Option NamedTexts → List ℕ → Option (List ℕ) → Option (List ℕ) → Type 0
ReadsFewOf held name before left = (left ≡ before) ⊎ ((first : Option (List ℕ)) × Selects held first name × ReadsFew first left)

-- the same where the words ask for a command: nothing was read, or the text of the command's file
abbrev pub ReadsFewAsked : List (List ℕ) → Option NamedTexts → Option (List ℕ) → Option (List ℕ) → Type 0
ReadsFewAsked words held before left = (left ≡ before) ⊎ ((c : Command) × IsCommand words c × ReadsFewOf held c.file before left)
