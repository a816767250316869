-- What a call leaves of the objects that it is given.
use Rattle.std.specs.Prelude.{◌≡◌, ℕ, Bool, true, List, Option}
use Rattle.lg_io.specs.Counts.{Rose}
use Rattle.lg_io.specs.NamedTexts.{IsHeld, NamedTexts}
use Rattle.lg_io.specs.SinkChanges.{SinkChange}
use Rattle.lg_run.specs.declared.answer.Answer.{Answer}
use Rattle.lg_run.specs.declared.answer.Answer.TheVariants.{ReadFault, WriteFault}

-- the texts that are shown, the count of faults before and after, and whether the source was sure before
pub record TextsChange : Type 0 where
  pub held : Option NamedTexts
  pub faults : ℕ
  pub faults' : ℕ
  pub sure : Bool

abbrev pub on_texts : {T : Type 0} → (T → Option NamedTexts) → (T → ℕ) → (T → Bool) → T → T → TextsChange
on_texts held faults sure old new = record { held = held old; faults = faults old; faults' = faults new; sure = sure old }

-- of a sure source that holds a text of this name no call failed
abbrev pub IsReadSurely : TextsChange → List ℕ → Type 0
IsReadSurely t name = t.sure ≡ true → IsHeld t.held name → t.faults' ≡ t.faults

-- a fault of the texts came exactly where that is the answer
abbrev pub TellsReads : Answer → TextsChange → Type 0
TellsReads ReadFault t = Rose t.faults t.faults'
TellsReads answer t = t.faults' ≡ t.faults

-- and a fault of out
abbrev pub TellsWrites : Answer → SinkChange → Type 0
TellsWrites WriteFault s = Rose s.faults s.faults'
TellsWrites answer s = s.faults' ≡ s.faults
