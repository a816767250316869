use Rattle.std.proofs.Common.{◌≡◌, arith, ap, length, rules}
use Rattle.lg_base.specs.Arguments.{texts_of, args_of}
use Rattle.lg_base.proofs.ArgumentLemmas.{length-args_of}
use Rattle.lg_base.proofs.args.build.Goals as goal

pub from_vec-requires : goal.from_vec-requires
from_vec-requires c =
    let texts = texts_of c.args.words.now.items in
    let all : c.push_strings.new.bytes.items ≡ args_of texts = search rules in
    omega (arith, ap length all, length-args_of texts)
