-- Instructions that are in the code, and runs over them.
use Rattle.std.proofs.Common.{◌≡◌, ◌≢◌, ℕ, ◌+◌, ◌%◌, ◌<◌, ◌≤◌, Bool, true, false, List, [], ◌∷◌, ◌++◌, Some, refl, sym, ap, ◌∙◌, subst, arith, length, append-nil, drop, ◌-◌}
use Rattle.std.specs.Prelude.{◌==◌, slice_index}
use Rattle.std.proofs.lemmas.Bool.{false_from_ne_true}
use Rattle.lg_carry.proofs.TurnLemmas.{block-sinks, block-rises, still-lowers}
use Rattle.lg_carry.proofs.BlockLemmas.{blocks-run}
use Rattle.lg_carry.specs.Outside.{calls_move}
use Rattle.lg_carry.specs.Carries.{Sinks, Rises}
use Rattle.lg_base.specs.Conventions.{argument_registers, portable_register, frame_register, stack_register, link_register}
use Rattle.lg_base.specs.Layout.{code_base, most_code}
use Rattle.lg_base.specs.Runs.{Running}
use Rattle.lg_carry.specs.Blocks.{spellings, done, GoesThrough, IsBlock, IsAbove, RunsBlock, Along, Lowers, Raises}
use Rattle.lg_carry.specs.Frames.{arriving, IsLinked}
use Rattle.lg_carry.specs.Processors.{Processor}
use Rattle.lg_carry.specs.RegistersApart.{IsApart}
use Rattle.lg_carry.specs.Rows.{Rows, AreRows}
use Rattle.lg_carry.proofs.RegistersApartLemmas.{conventions-apart}
use Rattle.lg_carry.specs.Nodes.Stretches.{StandsAt, behind, PassesIn, Arrival}
use Rattle.lg_carry.proofs.OfNodes.StraightLemmas.{in-room}
use Rattle.lg_carry.proofs.OfNodes.StretchLemmas.{part-passes, part-run}
use Rattle.lg_sel.specs.Control.Walks.{Walk}

pub aligned : (pc : ℕ) → (pc % 4 == 0) ≡ true → pc % 4 ≡ 0
aligned pc h = grind (arith, h)

module _ {Q I : Type 0} (R : Rows Q I) (fits : I → Type 0) (ok : AreRows R fits) where
  -- instructions that are in the code lie in the code part
  pub stands-high : (moves : Bool) (from : ℕ) (is : List I) → 0 < length (spellings R.spelling is) → StandsAt R moves fits from is → behind R from is ≤ code_base + most_code
  stands-high moves from is some k = in-room R.code (spellings R.spelling is) k.more from k.low some k.stands ok.small

  -- one of them is passed
  pub one-passed : (moves : Bool) (from : ℕ) (front : List I) (x : I) (back : List I) (q u : Q) → StandsAt R moves fits from (front ++ (x ∷ [] ++ back))
      → R.processor.machine.status q ≡ Running → IsAbove R x q → (R.processor.seen q).pc ≡ from + length (spellings R.spelling front) → R.does x q ≡ u
      → PassesIn R.processor moves from (behind R from (front ++ (x ∷ [] ++ back))) 1 q u
  one-passed moves from front x back q u k runs high at e =
      subst (λ z. PassesIn R.processor moves from (behind R from (front ++ (x ∷ [] ++ back))) 1 q z) e
      (part-passes R fits ok moves from front (x ∷ []) back q k at tt (runs, high, tt))

  -- and all of them
  pub all-passed : (moves : Bool) (from : ℕ) (is : List I) (q u : Q) → StandsAt R moves fits from is → (R.processor.seen q).pc ≡ from → IsBlock R.is_straight is
      → GoesThrough R.does R.processor.machine.status (IsAbove R) is q → done R.does is q ≡ u → PassesIn R.processor moves from (behind R from is) (length is) q u
  all-passed moves from is q u k at block through leads =
      subst (λ z. PassesIn R.processor moves from (behind R from z) (length is) q u) (append-nil is)
      (subst (λ z. PassesIn R.processor moves from (behind R from (is ++ [])) (length is) q z) leads
      (part-passes R fits ok moves from [] is [] q (subst (StandsAt R moves fits from) (sym (append-nil is)) k) (at ∙ omega arith) block through))

  -- where they are in the code, their run is known
  run-of : (moves : Bool) (from : ℕ) (is : List I) (q : Q) → StandsAt R moves fits from is → (R.processor.seen q).pc ≡ from → IsBlock R.is_straight is
      → GoesThrough R.does R.processor.machine.status (IsAbove R) is q → RunsBlock R is q
  run-of moves from is q k at block through =
      blocks-run R fits ok is q k.more k.fit block through (omega (arith, at, k.low)) (ap R.is_place at ∙ k.place) (ap (λ p. drop (p - code_base) R.code) at ∙ k.stands)

  -- and where none of them lets the stack pointer rise, they sink
  pub all-sunk : (moves : Bool) (from : ℕ) (is : List I) (q : Q) → StandsAt R moves fits from is → (R.processor.seen q).pc ≡ from → IsBlock R.is_straight is
      → GoesThrough R.does R.processor.machine.status (IsAbove R) is q → Along R.does (Lowers R) is q → Sinks R.processor from (length is) q
  all-sunk moves from is q k at block through along = block-sinks R is q from (run-of moves from is q k at block through) along at

  -- so does a part of them
  pub part-risen : (moves : Bool) (from : ℕ) (front part back : List I) (q : Q) → StandsAt R moves fits from (front ++ (part ++ back))
      → (R.processor.seen q).pc ≡ from + length (spellings R.spelling front) → IsBlock R.is_straight part
      → GoesThrough R.does R.processor.machine.status (IsAbove R) part q → Along R.does (Raises R) part q → Rises R.processor (length part) q
  part-risen moves from front part back q k at block through along = block-rises R part q (part-run R fits ok moves from front part back q k at block through) along

  -- those that move no stack pointer sink
  pub still-sunk : (from : ℕ) (is : List I) (q : Q) → StandsAt R false fits from is → (R.processor.seen q).pc ≡ from → IsBlock R.is_straight is
      → GoesThrough R.does R.processor.machine.status (IsAbove R) is q → Sinks R.processor from (length is) q
  still-sunk from is q k at block through = all-sunk false from is q k at block through (still-lowers R is q k.outside)

-- ---- where no register of the conventions changes, the code walks

module _ {Q : Type 0} (P : Processor Q) where
  pub walked : (spoilt : ℕ → Bool) → ((x : ℕ) → spoilt x ≡ true → IsApart P.target x × (link_register P.target ≢ Some x))
      → (from high to steps : ℕ) (q u : Q) → PassesIn P false from high steps q u → steps ≤ 64 → (from < high → 0 < steps) → P.machine.status u ≡ Running
      → (P.seen u).pc ≡ to → ((x : ℕ) → spoilt x ≡ false → (P.seen u).registers x ≡ (P.seen q).registers x) → (P.seen u).bytes ≡ (P.seen q).bytes
      → (P.seen u).mark ≡ (P.seen q).mark → Walk P from high to q
  walked spoilt apart from high to steps q u passes few some runs here same bytes-are mark-is = record {
    end = u;
    steps = steps;
    passes = passes;
    few = few;
    some = some;
    runs = runs;
    here = here;
    portable = λ r lt. same (portable_register P.target r) (false_from_ne_true (spoilt (portable_register P.target r)) (λ e. (apart _ e).0.portable r lt refl));
    arguments = λ j lt. same (slice_index (argument_registers P.target) j)
        (false_from_ne_true (spoilt (slice_index (argument_registers P.target) j)) (λ e. (apart _ e).0.argument j lt refl));
    pointer = same (frame_register P.target) (false_from_ne_true (spoilt (frame_register P.target)) (λ e. (apart _ e).0.pointer refl));
    stack = same (stack_register P.target) (false_from_ne_true (spoilt (stack_register P.target)) (λ e. (apart _ e).0.stack refl));
    link = λ x l. same x (false_from_ne_true (spoilt x) (λ e. (apart x e).1 l));
    bytes = bytes-are;
    mark = mark-is;
  }

  -- ---- where none but the link changes, and that is the address to which a call returns, the code arrives
  pub arrived-with : (link : ℕ) → link_register P.target ≡ Some link → (from high back to steps : ℕ) (q u : Q) → PassesIn P (calls_move P.target) from high steps q u
      → Sinks P from steps q → steps < 64 → 0 < steps → P.machine.status u ≡ Running → (P.seen u).pc ≡ to → (P.seen u).registers link ≡ back
      → ((x : ℕ) → x ≢ link → (P.seen u).registers x ≡ (P.seen q).registers x) → (P.seen u).bytes ≡ (P.seen q).bytes → (P.seen u).mark ≡ (P.seen q).mark
      → Arrival P from high ((P.seen q).registers (stack_register P.target)) back to q
  arrived-with link is from high back to steps q u passes sinks few some runs here linked same bytes-are mark-is =
      let apart : IsApart P.target link = (conventions-apart P.target).link link is in
      let stack : ℕ = (P.seen q).registers (stack_register P.target) in record {
        end = u;
        steps = steps;
        passes = passes;
        sinks = sinks;
        few = few;
        some = some;
        runs = runs;
        here = here;
        pointer = same (stack_register P.target) apart.stack ∙ ap (λ o. arriving o stack) (sym is);
        link = subst (λ o. IsLinked o (P.seen u).bytes (P.seen u).registers stack back) (sym is) linked;
        kept = λ v lt. same (portable_register P.target (v + 3)) (apart.portable (v + 3) (omega (arith, lt)));
        frame = same (frame_register P.target) apart.pointer;
        arguments = λ j lt. same (slice_index (argument_registers P.target) j) (apart.argument j lt);
        bytes = λ a off. ap (λ m. m a) bytes-are;
        mark = mark-is;
      }
