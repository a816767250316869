use Rattle.std.proofs.Common.{length, sym, ap, ◌∙◌, subst, arith}
use Rattle.lg_opt.specs.Goals.{AreEnds}
use Rattle.lg_opt.specs.Hops.{AreWithin}
use Rattle.lg_opt.specs.Targets.{AreLabelsAt}
use Rattle.lg_opt.proofs.TargetLemmas.{jumps-within}
use Rattle.lg_opt.proofs.threading.led.Goals as goal

pub ends-requires : goal.ends-requires
ends-requires c = record { within = jumps-within c.args.nodes.now c.requires c.what_holds.ensures.formed }

pub targets-requires : goal.targets-requires
targets-requires c = record {
  accepted = c.requires;
  ends_count = ap length c.deref-2.ensures.value ∙ c.in_ok-ends.ensures.0;
  within = subst AreWithin (sym c.deref-2.ensures.value) c.in_ok-ends.ensures.1;
  ends = subst (AreEnds c.args.nodes.now) (sym c.deref-2.ensures.value) c.in_ok-ends.ensures.2;
  labels_count = ap length c.deref-3.ensures.value ∙ c.in_ok-labels.ensures.count;
  labels = subst (AreLabelsAt c.args.nodes.now) (sym c.deref-3.ensures.value) c.in_ok-labels.ensures.labels;
}

pub returns : goal.returns
returns c = record {
  count = c.in_ok-stays.ensures.0;
  stays = λ i lt. c.in_ok-stays.ensures.1 i (omega arith) (omega (arith, lt, c.in_ok-stays.ensures.0));
  targets_are = c.in_ok-targets.ensures;
}
