use Rattle.std.proofs.Common.{arith}
use Rattle.lg_macro.proofs.CutLemmas.{joined_none, joined_alone, joined_first, joined_last}
use Rattle.lg_macro.proofs.substitution.push_joined.Goals as goal

pub returns-then-n-eq0 : goal.returns-then-n-eq0
returns-then-n-eq0 c = joined_first c.append.result c.append.new.self c.args.out.now c.args.part.now _ c.requires (joined_none c.args.line c.args.now.now c.args.part.now (omega arith)) c.append.ensures

pub returns-then-m-eq0 : goal.returns-then-m-eq0
returns-then-m-eq0 c = joined_first c.append-then-m-eq0.result c.append-then-m-eq0.new.self c.args.out.now c.args.now.now _ c.requires (joined_alone c.args.line c.args.now.now c.args.part.now (omega arith)) c.append-then-m-eq0.ensures

pub returns : goal.returns
returns c = joined_last c.args.line c.len-n.result c.len-m.result c.args.now.now c.args.part.now c.args.out.now c.append_between.new.self c.push_glued.new.out c.append_between-2.result c.append_between-2.new.self c.text.result.now c.text-2.result.now
    c.requires c.len-n.ensures c.len-m.ensures (omega arith) (omega arith) c.in_ok-append_between.ensures c.text.ensures c.text-2.ensures c.in_ok-push_glued.ensures c.append_between-2.ensures
