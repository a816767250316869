-- What code is made of.
use Rattle.std.specs.Prelude.{ℕ, Bool, List}
use Rattle.lg_base.specs.declared.target.Target.{Target}
use Rattle.lg_asm.specs.Assembled.{Assembled}
use Rattle.lg_live.specs.Liveness.{LiveSets}
use Rattle.lg_asm.specs.declared.counts.Counts.{Counts}
use Rattle.lg_asm.specs.declared.parts.TextBytes.{TextBytes}
use Rattle.lg_opt.specs.declared.rewritten.Rewritten.{Rewritten}

-- what is kept of code with these parts
abbrev pub kept_of : Target → ℕ → List Bool → TextBytes → List ℕ → Rewritten → LiveSets → Counts → Assembled
kept_of target size outward text labels list live counts = record {
  target = target;
  size = size;
  outward = outward;
  bytes = text.bytes.items;
  nodes = list.nodes;
  shape = list.shape;
  live = live;
  places = text.places.items;
  labels = labels;
  origin = list.origin.items;
  spills = counts.spills;
}
