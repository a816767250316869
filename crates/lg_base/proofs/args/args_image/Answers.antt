use Rattle.std.proofs.Common.{◌≤◌, arith, ap, length, refl}
use Rattle.lg_base.proofs.ArgumentLemmas.{length-args_of}
use Rattle.lg_base.specs.Lengths.{args_len}
use Rattle.lg_base.specs.Arguments.{texts_of, most_args}
use Rattle.lg_base.proofs.args.args_image.Goals as goal

pub returns-then-not-fits-clause-refused : goal.returns-then-not-fits-clause-refused
returns-then-not-fits-clause-refused c r e =
    let texts = texts_of c.args.words.now.items in
    let long : args_len texts ≤ most_args → ⊥ = λ h. let f = c.if-not-fits.ensures.1 h in cc in
    (cc, omega (arith, length-args_of texts))

pub returns-clause-size : goal.returns-clause-size
returns-clause-size c =
    let texts = texts_of c.args.words.now.items in
    omega (arith, ap length c.in_ok-image.ensures, length-args_of texts, c.if-not-fits.ensures.0 refl)

pub returns-clause-long : goal.returns-clause-long
returns-clause-long c long =
    let texts = texts_of c.args.words.now.items in
    absurd (omega (arith, length-args_of texts, c.if-not-fits.ensures.0 refl))

pub returns-in_err-image-clause-long : goal.returns-in_err-image-clause-long
returns-in_err-image-clause-long c long =
    let texts = texts_of c.args.words.now.items in
    absurd (omega (arith, length-args_of texts, c.if-not-fits.ensures.0 refl))
