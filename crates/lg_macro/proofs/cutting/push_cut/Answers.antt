use Rattle.std.proofs.Common.{ap, length-drop, ◌∙◌, ◌-◌, sym, refl, length, arith}
use Rattle.lg_macro.proofs.CutLemmas.{cut_begun, cut_more, cut_done}
use Rattle.lg_macro.proofs.cutting.push_cut.Goals as goal

pub pieces-init : goal.pieces-init
pieces-init c = (refl, omega arith, (length c.args.bytes.now, omega arith, cut_begun c.args.line c.args.bytes.now c.args.out.now))

pub pieces-preserved : goal.pieces-preserved
pieces-preserved c = (refl, omega (arith, c.front_of-kind.ensures.inside, ap length c.behind-rest.ensures, length-drop c.pieces.at c.args.bytes.now), (c.pieces.invariant.2.0 - 1, omega (arith, c.front_of-kind.ensures.some), cut_more c.pieces.invariant.2.0 c.args.line c.pieces.at c.args.bytes.now c.behind-rest.result.now c.ahead.result.now c.front_of-kind.result c.pieces.out c.push.new.self (omega arith) (omega arith) c.behind-rest.ensures c.front_of-kind.ensures.value c.front_of-kind.ensures.some c.ahead.ensures c.in_ok-push.ensures ∙ c.pieces.invariant.2.2))

pub returns : goal.returns
returns c = sym (cut_done c.pieces.invariant.2.0 c.args.line c.pieces.at c.args.bytes.now c.pieces.out (omega arith)) ∙ c.pieces.invariant.2.2
