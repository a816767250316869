use Rattle.std.proofs.Common.{◌≡◌, length, map, take}
use Rattle.lg_explain.specs.Lines.{shown_byte}
use Rattle.lg_explain.proofs.line.Shown.of.Given as goal

abbrev pub invariant-loop-byte : goal.invariant-loop-byte
invariant-loop-byte l = record {
  told : l.shown ≡ map shown_byte (take l.byte-index l.byte-items);
  count : length l.shown ≡ l.byte-index;
}
