use Rattle.std.proofs.Common.{◌≡◌, ◌++◌, take}
use Rattle.lg_io.specs.Wrote.{joined}
use Rattle.lg_run.proofs.code_text.CodeText.push_row.Given as goal

abbrev pub invariant-loop-part : goal.invariant-loop-part
invariant-loop-part l = l.self ≡ l.fn.self ++ joined (take l.part-index l.parts)
