-- What is seen of a sink over a writer, and of texts from files and the standard input.
use Rattle.std.specs.Prelude.{ℕ, List, [], Option, Some, codes, if◌then◌else◌}
use Rattle.std.specs.Str.{bytes_eq}
use Rattle.lg_io.specs.declared.reading.Reading.{Reading}
use Rattle.lg_io.specs.declared.standard.Selected.{Selected}
use Rattle.lg_io.specs.declared.standard.Selected.TheVariants as selected

-- the bytes that the writer holds, where it shows them, and how often a write failed
pub record WriterState : Type 0 where
  pub held : Option (List ℕ)
  pub faults : ℕ

-- where a text comes from
pub data Source : Type 0 where
  NoText : Source
  FileText : Source
  InputText : Source

-- what is left to be read of the selected text, where its reader shows it, where the text comes from, how far it is read, and how often a call failed
pub record ReaderState : Type 0 where
  pub left : Option (List ℕ)
  pub source : Source
  pub reading : Reading
  pub faults : ℕ

abbrev pub left_of : {F I : Type 0} → (F → Option (List ℕ)) → (I → Option (List ℕ)) → Selected F I → Option (List ℕ)
left_of file input selected.Nothing = Some []
left_of file input (selected.File f) = file f
left_of file input (selected.Input i) = input i

abbrev pub source_of : {F I : Type 0} → Selected F I → Source
source_of selected.Nothing = Source.NoText
source_of (selected.File f) = Source.FileText
source_of (selected.Input i) = Source.InputText

-- what is seen of texts, by what a file and the standard input shows that is left of them
abbrev pub seen_texts : {F I : Type 0} → (F → Option (List ℕ)) → (I → Option (List ℕ)) → Selected F I → Reading → ℕ → ReaderState
seen_texts file input selected reading faults =
    record { left = left_of file input selected; source = source_of selected; reading = reading; faults = faults }

-- the standard input has the name `-`, and every other name is that of a file
abbrev pub source_under : List ℕ → Source
source_under name = if bytes_eq name (codes "-") then Source.InputText else Source.FileText
