-- A `prolog` makes the frame where it stores the registers below the stack pointer, sets FP, and lets the stack pointer fall.
use Rattle.std.proofs.Common.{◌≡◌, ◌≢◌, ℕ, zero, suc, ◌+◌, ◌-◌, ◌*◌, ◌^◌, ◌<◌, ◌≤◌, ◌⊎◌, inl, inr, List, [], ◌∷◌, Option, Some, refl, sym, ap, ◌∙◌, subst, arith, length, true}
use Rattle.std.specs.Prelude.{min, slice_index, take}
use Rattle.std.proofs.lemmas.List.{length-take}
use Rattle.lg_carry.specs.Carries.{Sinks}
use Rattle.lg_base.specs.Conventions.{argument_registers, portable_register, frame_register, stack_register, link_register}
use Rattle.lg_base.specs.Layout.{frame_pointer, return_word, saved_word, home_word}
use Rattle.lg_base.specs.Runs.{Running}
use Rattle.lg_carry.specs.Frames.{IsLinked}
use Rattle.lg_carry.specs.Processors.{Processor}
use Rattle.lg_carry.specs.Registers.{HasWord}
use Rattle.lg_carry.specs.RegistersApart.{AreApart}
use Rattle.lg_carry.proofs.RegistersApartLemmas.{conventions-apart}
use Rattle.lg_carry.proofs.WordLemmas.{word-kept}
use Rattle.lg_carry.specs.Nodes.Stretches.{PassesIn}
use Rattle.lg_sel.specs.Control.Prologs.{Entrance}
use Rattle.lg_sel.specs.Control.Stores.{first_registers, home_registers}
use Rattle.lg_sel.proofs.OfControl.StoreLemmas.{word_below, with_stored, stored-off, stored-word}

-- what such code leaves of the caller's stack pointer, with eight arguments in registers: the link, FP and this many of V0 to V2, and the homes
pub record IsEntered {Q : Type 0} (P : Processor Q) (link size homes kept sp : ℕ) (q u : Q) : Type 0 where
  pub bytes : (P.seen u).bytes ≡ with_stored (with_stored (P.seen q).bytes (P.seen q).registers sp (first_registers P.target link kept) 0)
      (P.seen q).registers sp (home_registers P.target homes) 5
  pub pointer : (P.seen u).registers (frame_register P.target) ≡ sp - 16
  pub stack : (P.seen u).registers (stack_register P.target) ≡ sp - size
  pub others : (r : ℕ) → r ≢ link → r ≢ stack_register P.target → r ≢ frame_register P.target → (P.seen u).registers r ≡ (P.seen q).registers r
  pub mark : (P.seen u).mark ≡ (P.seen q).mark

-- the first of a list
pub taken-at : (rs : List ℕ) (n j : ℕ) → j < n → slice_index (take n rs) j ≡ slice_index rs j
taken-at rs zero j lt = absurd (omega (arith, lt))
taken-at [] (suc n) j lt = refl
taken-at (r ∷ rs) (suc n) zero lt = refl
taken-at (r ∷ rs) (suc n) (suc j) lt = taken-at rs n j (omega (arith, lt))

module _ {Q : Type 0} (P : Processor Q) (link size homes kept sp : ℕ) (linked : link_register P.target ≡ Some link)
    (eight : length (argument_registers P.target) ≡ 8)
    (room : 0x3FF00010 + 272 ≤ sp) (q u : Q) (words : (r : ℕ) → (P.seen q).registers r < 2 ^ 64) (is : IsEntered P link size homes kept sp q u) where
  apart : AreApart P.target
  apart = conventions-apart P.target

  abbrev w : ℕ → ℕ
  w = (P.seen q).registers

  abbrev first : List ℕ
  first = first_registers P.target link kept

  abbrev places : List ℕ
  places = home_registers P.target homes

  abbrev front : ℕ → Option ℕ
  front = with_stored (P.seen q).bytes w sp first 0

  -- V0, V1 and V2
  abbrev kept-all : List ℕ
  kept-all = portable_register P.target 3 ∷ portable_register P.target 4 ∷ portable_register P.target 5 ∷ []

  first-are : length first ≡ 2 + min kept 3
  first-are = let e = length-take kept kept-all in omega (arith, e)

  places-are : length places ≡ min homes 8
  places-are = let e = length-take homes (argument_registers P.target) in omega (arith, e, eight)

  -- the words of the first ones lie above the homes
  first-word : (j : ℕ) → j < length first → HasWord (P.seen u).bytes (word_below sp j) (w (slice_index first j))
  first-word j lt =
      let z : 0 + j ≡ j = omega arith in
      let held : HasWord front (word_below sp j) (w (slice_index first j)) =
      subst (λ x. HasWord front (word_below sp x) (w (slice_index first j))) z
      (stored-word sp room first 0 j (P.seen q).bytes w (omega (arith, first-are)) words lt) in
      subst (λ m. HasWord m (word_below sp j) (w (slice_index first j))) (sym is.bytes)
      (word-kept front (with_stored front w sp places 5) (word_below sp j) (w (slice_index first j))
      (λ a le l. stored-off sp room places 5 front w a (omega (arith, places-are)) (inr (omega (arith, le, lt, first-are, room)))) held)

  saved : (v : ℕ) → v < kept → v < 3 → HasWord (P.seen u).bytes (saved_word (frame_pointer sp) v) (w (portable_register P.target (v + 3)))
  saved v few lt =
      let word = first-word (suc (suc v)) (omega (arith, few, lt, first-are)) in
      subst (λ r. HasWord (P.seen u).bytes (saved_word (frame_pointer sp) v) (w r)) (taken-at kept-all kept v few ∙ kept-is v lt)
      (subst (λ a. HasWord (P.seen u).bytes a (w (slice_index (take kept kept-all) v))) (omega (arith, room, lt)) word)
    where
      kept-is : (j : ℕ) → j < 3 → slice_index kept-all j ≡ portable_register P.target (j + 3)
      kept-is (suc (suc (suc j))) l = absurd (omega (arith, l))
      kept-is j l = refl

  home : (j : ℕ) → j < homes → j < length (argument_registers P.target)
      → HasWord (P.seen u).bytes (home_word (frame_pointer sp) j) (w (slice_index (argument_registers P.target) j))
  home j read lt =
      subst (λ a. HasWord (P.seen u).bytes a (w (slice_index (argument_registers P.target) j))) (omega (arith, room, lt, eight))
      (subst (λ r. HasWord (P.seen u).bytes (word_below sp (5 + j)) (w r)) (taken-at (argument_registers P.target) homes j read)
      (subst (λ m. HasWord m (word_below sp (5 + j)) (w (slice_index places j))) (sym is.bytes)
      (stored-word sp room places 5 j front w (omega (arith, places-are)) words (omega (arith, places-are, read, lt, eight)))))

  off-homes : (a : ℕ) → (a + 144 < sp) ⊎ (sp ≤ a) → (a + 8 * (5 + length places) < sp) ⊎ (sp ≤ a + 8 * 5)
  off-homes a (inl h) = inl (omega (arith, h, places-are))
  off-homes a (inr h) = inr (omega (arith, h))

  off-first : (a : ℕ) → (a + 144 < sp) ⊎ (sp ≤ a) → (a + 8 * (0 + length first) < sp) ⊎ (sp ≤ a + 8 * 0)
  off-first a (inl h) = inl (omega (arith, h, first-are))
  off-first a (inr h) = inr (omega (arith, h))

  pub entrance : (low high steps : ℕ) → PassesIn P true low high steps q u → Sinks P low steps q → steps ≤ 64 → 0 < steps → P.machine.status u ≡ Running → (P.seen u).pc ≡ high
      → Entrance P low high sp size homes kept q
  entrance low high steps passes sinks few some runs here = record {
    end = u;
    steps = steps;
    passes = passes;
    sinks = sinks;
    few = few;
    some = some;
    runs = runs;
    here = here;
    back = λ address e. subst (HasWord (P.seen u).bytes (return_word sp))
        (subst (λ o. IsLinked o (P.seen q).bytes (P.seen q).registers sp address) linked e) (first-word 0 (omega (arith, first-are)));
    caller = first-word 1 (omega (arith, first-are));
    saved = saved;
    homes = home;
    pointer = is.pointer;
    stack_is = is.stack;
    portable = λ r lt. is.others (portable_register P.target r) ((apart.link link linked).portable r lt) (apart.portable_stack r lt) (apart.portable_pointer r lt);
    arguments = λ j lt. is.others (slice_index (argument_registers P.target) j) ((apart.link link linked).argument j lt) (apart.argument_stack j lt)
        (apart.argument_pointer j lt);
    bytes = λ a h. ap (λ m. m a) is.bytes
        ∙ stored-off sp room places 5 front w a (omega (arith, places-are)) (off-homes a h)
        ∙ stored-off sp room first 0 (P.seen q).bytes w a (omega (arith, first-are)) (off-first a h);
    mark = is.mark;
  }
