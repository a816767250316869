-- The lines on err, each as its pieces in a row.
use Rattle.std.specs.Prelude.{ℕ, Bool, true, false, not, ◌&&◌, if◌then◌else◌, List, [], ◌∷◌, length, Option, Some, None, codes}
use Rattle.lg_asm.specs.Assembled.{Assembled}
use Rattle.lg_io.specs.Wrote.{row}
use Rattle.lg_io.specs.Radixes.{digits_in}
use Rattle.lg_io.specs.declared.digits.Radix.TheVariants.{Decimal, Hexadecimal}
use Rattle.lg_base.specs.Refusals.{number_of_kind, name_of_kind}
use Rattle.lg_base.specs.Faults.{name_of_fault}
use Rattle.lg_run.specs.declared.answer.Answer.{Answer}
use Rattle.lg_run.specs.declared.answer.Answer.TheVariants.{Ended, Listed, Undefined, Refused, Usage, ReadFault, WriteFault, StepsOut, Fault, OutOfMemory}

-- of a refusal in a file, at a line, by the number and the name of its kind
abbrev pub refusal_line : (file line number name : List ℕ) → List ℕ
refusal_line file line number name = row (codes "lightning: " ∷ file ∷ codes ":" ∷ line ∷ codes ": refused " ∷ number ∷ codes " " ∷ name ∷ codes "\n" ∷ [])

abbrev pub line_of : List ℕ → ℕ → Answer → List ℕ
line_of file steps (Ended status) = []
line_of file steps Listed = []
line_of file steps (Undefined line) = row (codes "lightning: undefined at line " ∷ digits_in Decimal line ∷ codes " after " ∷ digits_in Decimal steps
    ∷ codes "\n" ∷ [])
line_of file steps (Refused refusal) =
    refusal_line file (digits_in Decimal refusal.line) (digits_in Decimal (number_of_kind refusal.kind)) (name_of_kind refusal.kind)
line_of file steps Usage = row (codes "lightning: usage: lightning [--mode M] [--target T] [--steps N] [--code N] [--seed N] [--stats] [FILE [ARG]...]\n" ∷ [])
line_of file steps ReadFault = row (codes "lightning: read fault\n" ∷ [])
line_of file steps WriteFault = row (codes "lightning: write fault\n" ∷ [])
line_of file steps StepsOut = row (codes "lightning: steps out after " ∷ digits_in Decimal steps ∷ codes "\n" ∷ [])
line_of file steps (Fault kind pc) =
    row (codes "lightning: fault " ∷ name_of_fault kind ∷ codes " at 0x" ∷ digits_in Hexadecimal pc ∷ codes " after " ∷ digits_in Decimal steps
    ∷ codes "\n" ∷ [])
line_of file steps OutOfMemory = row (codes "lightning: out of memory\n" ∷ [])

-- the statistics: bytes of code, final nodes, registers that are saved for temporaries, and steps of the run
abbrev pub stats_line : (bytes nodes spills steps : ℕ) → List ℕ
stats_line bytes nodes spills steps =
    row (codes "bytes " ∷ digits_in Decimal bytes ∷ codes " nodes " ∷ digits_in Decimal nodes ∷ codes " spills " ∷ digits_in Decimal spills
    ∷ codes " steps " ∷ digits_in Decimal steps ∷ codes "\n" ∷ [])

abbrev pub is_write_fault : Answer → Bool
is_write_fault (Ended status) = false
is_write_fault Listed = false
is_write_fault (Undefined line) = false
is_write_fault (Refused refusal) = false
is_write_fault Usage = false
is_write_fault ReadFault = false
is_write_fault WriteFault = true
is_write_fault StepsOut = false
is_write_fault (Fault kind pc) = false
is_write_fault OutOfMemory = false

abbrev pub code_stats : Option Assembled → (steps : ℕ) → List ℕ
code_stats None steps = []
code_stats (Some code) steps = stats_line (length code.bytes) (length code.nodes.nodes) code.spills steps

-- they are reported where that is asked for, there is code, and out did not fail
abbrev pub stats_of : Bool → Option Assembled → (steps : ℕ) → Answer → List ℕ
stats_of told code steps answer = if told && not (is_write_fault answer) then code_stats code steps else []
