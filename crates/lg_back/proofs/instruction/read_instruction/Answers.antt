use Rattle.std.proofs.Common.{◌≡◌, ◌<◌, ◌++◌, length, drop, ap, sym, ◌∙◌, arith}
use Rattle.std.proofs.lemmas.Option.{none-some}
use Rattle.lg_list.specs.Instructions.{spelling}
use Rattle.lg_list.specs.Lines.{instruction_line}
use Rattle.lg_list.proofs.SpellingLemmas.{spelling-short}
use Rattle.lg_back.specs.Digits.{hex_front}
use Rattle.lg_back.proofs.InstructionLemmas.{bytes-in-line, read-in-line, starts-again, starts-front, same-first, not-both}
use Rattle.lg_back.proofs.instruction.read_instruction.Goals as goal

pub returns-then-not-read_hex-clause-none : goal.returns-then-not-read_hex-clause-none
returns-then-not-read_hex-clause-none c i h =
    let over : 16 < length (hex_front (drop 10 c.args.text.now)) = rw c.behind.ensures at (c.read_hex.ensures.over c.if-not-read_hex.true) in
    let same : length (hex_front (drop 10 c.args.text.now)) ≡ length (spelling i) = ap length (bytes-in-line c.args.target c.args.at i c.args.text.now h.rest h.form h.text_is) in
    omega (arith, over, same, spelling-short i)

pub returns-in-None-clause-none : goal.returns-in-None-clause-none
returns-in-None-clause-none c i h =
    let bytes = c.as_slice.ensures.value ∙ c.read_hex.ensures.all c.if-not-read_hex.false ∙ ap hex_front c.behind.ensures in
    none-some (i, length (spelling i)) (sym c.in-None.is ∙ c.decode.ensures.value ∙ read-in-line c.args.target c.args.at i c.args.text.now h.rest c.as_slice.result.now h.form h.text_is bytes)

pub returns-then-starts_with-clause-found : goal.returns-then-starts_with-clause-found
returns-then-starts_with-clause-found c =
    let i = c.in-Some.instruction in
    let line : c.as_slice-line.result.now ≡ instruction_line c.args.at i = c.as_slice-line.ensures.value ∙ c.write_line.ensures in
    let front : c.args.text.now ≡ c.as_slice-line.result.now ++ drop (length c.as_slice-line.result.now) c.args.text.now = starts-front c.args.text.now c.as_slice-line.result.now (sym c.starts_with.ensures.value ∙ c.if-starts_with.true) in
    let whole : c.args.text.now ≡ instruction_line c.args.at i ++ drop (length c.as_slice-line.result.now) c.args.text.now = front ∙ ap (λ x. x ++ drop (length c.as_slice-line.result.now) c.args.text.now) line in
    let f = rw c.in-Some.is at c.decode.ensures.front in
    let bytes : c.read_hex.new.bytes ≡ spelling i = c.read_hex.ensures.all c.if-not-read_hex.false ∙ ap hex_front c.behind.ensures ∙ bytes-in-line c.args.target c.args.at i c.args.text.now (drop (length c.as_slice-line.result.now) c.args.text.now) (f.0.0, f.0.1) whole in
    (i, record { form = (f.0.0, f.0.1); rest = drop (length c.as_slice-line.result.now) c.args.text.now; text_is = whole }, bytes, ap length line)

pub returns-else-starts_with-clause-none : goal.returns-else-starts_with-clause-none
returns-else-starts_with-clause-none c i h =
    let bytes = c.as_slice.ensures.value ∙ c.read_hex.ensures.all c.if-not-read_hex.false ∙ ap hex_front c.behind.ensures in
    let read = read-in-line c.args.target c.args.at i c.args.text.now h.rest c.as_slice.result.now h.form h.text_is bytes in
    let same : c.in-Some.instruction ≡ i = same-first _ _ _ _ _ _ c.in-Some.is c.decode.ensures.value read in
    let line : c.as_slice-line.result.now ≡ instruction_line c.args.at i = c.as_slice-line.ensures.value ∙ c.write_line.ensures ∙ ap (instruction_line c.args.at) same in
    not-both _ _ c.if-starts_with.false c.starts_with.ensures.value (starts-again c.args.text.now c.as_slice-line.result.now h.rest (h.text_is ∙ ap (λ x. x ++ h.rest) (sym line)))
