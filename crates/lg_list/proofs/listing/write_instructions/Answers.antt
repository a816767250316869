use Rattle.std.proofs.Common.{◌≡◌, ℕ, suc, ◌+◌, length, map, ap, sym, ◌∙◌, arith}
use Rattle.std.proofs.lemmas.List.{drop_all, take_rest, length-drop}
use Rattle.lg_list.specs.Instructions.{first_instructions}
use Rattle.lg_list.specs.Lines.{rendered}
use Rattle.lg_list.specs.Lines.Entry.{Code}
use Rattle.lg_list.proofs.WriteLemmas.{begun, went, stopped, ended}
use Rattle.lg_list.proofs.ListingLemmas.{instructions-nil, instructions-none, code-step}
use Rattle.lg_list.proofs.listing.write_instructions.Goals as goal

pub loop-done-init : goal.loop-done-init
loop-done-init g c =
    let e : c.args.at + 0 ≡ c.args.at = omega arith in
    record {
      fuel = length c.args.bytes.now;
      enough = omega arith;
      within = omega arith;
      written = rw e (begun _ _ _);
    }

pub returns-in-None : goal.returns-in-None
returns-in-None g c =
    ended _ _ _ _ _ _ _ c.loop-done.invariant.written (ap (λ is. rendered (c.args.at + c.loop-done.done) (map Code is)) (instructions-none c.loop-done.invariant.fuel _ _ (sym (rw take_rest at c.decode.ensures.value) ∙ c.in-None.is)))

pub returns : goal.returns
returns g c =
    ended _ _ _ _ _ _ _ c.loop-done.invariant.written (ap (λ bs. rendered (c.args.at + c.loop-done.done) (map Code (first_instructions c.loop-done.invariant.fuel c.args.target bs))) (drop_all c.loop-done.done c.args.bytes.now (omega arith)) ∙ ap (λ is. rendered (c.args.at + c.loop-done.done) (map Code is)) (instructions-nil c.loop-done.invariant.fuel c.args.target))

pub returns-in-Err : goal.returns-in-Err
returns-in-Err g c =
    let s = code-step c.loop-done.invariant.fuel c.args.at c.loop-done.done c.args.target c.args.bytes.now c.in-Some.instruction c.in-Some.length (omega arith) (sym (rw take_rest at c.decode.ensures.value) ∙ c.in-Some.is) c.in-Some.ensures.front.1 in
    stopped _ _ _ _ _ _ _ _ _ _ _ c.in-Err.fault c.loop-done.invariant.written s.2 (c.as_slice.ensures.value ∙ c.write_line.ensures) c.in-Err.ensures.err c.in-Err.ensures.cause.later c.in-Err.ensures.cause.failed

pub loop-done-preserved : goal.loop-done-preserved
loop-done-preserved g c =
    let s = code-step c.loop-done.invariant.fuel c.args.at c.loop-done.done c.args.target c.args.bytes.now c.in-Some.instruction c.in-Some.length (omega arith) (sym (rw take_rest at c.decode.ensures.value) ∙ c.in-Some.is) c.in-Some.ensures.front.1 in
    let fuel : c.loop-done.invariant.fuel ≡ suc s.0 = s.1 in
    let k : ℕ = s.0 in
    record {
      fuel = s.0;
      enough = omega (arith, fuel, c.in-Some.ensures.within.0, c.loop-done.invariant.enough);
      within = omega (arith, rw take_rest at c.in-Some.ensures.within.1, length-drop c.loop-done.done c.args.bytes.now);
      written = went _ _ _ _ _ _ _ _ _ _ _ c.loop-done.invariant.written s.2 (c.as_slice.ensures.value ∙ c.write_line.ensures) c.in-Ok.ensures.ok c.in-Ok.ensures.cause.kept;
    }
