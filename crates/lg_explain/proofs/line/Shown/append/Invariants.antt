use Rattle.std.proofs.Common.{◌≡◌, ◌++◌, map, take}
use Rattle.lg_explain.specs.Lines.{most_shown, shown_byte}
use Rattle.lg_explain.proofs.line.Shown.append.Given as goal

abbrev pub invariant-loop-byte : goal.invariant-loop-byte
invariant-loop-byte l = l.self ≡ take most_shown (l.fn.self ++ map shown_byte (take l.byte-index l.bytes))
