-- Instructions that stand somewhere in the code are passed, one run after the other.
use Rattle.std.proofs.Common.{◌≡◌, ℕ, zero, suc, ◌+◌, ◌-◌, ◌<◌, ◌≤◌, Bool, true, ⊎_elim, List, [], ◌∷◌, ◌++◌, refl, sym, ap, ◌∙◌, subst, arith, length, drop, append_assoc, length-append}
use Rattle.std.proofs.lemmas.Bool.{cases_lt}
use Rattle.std.specs.List.{All}
use Rattle.lg_base.specs.Layout.{code_base}
use Rattle.lg_base.specs.Runs.{iter}
use Rattle.lg_temp.proofs.Steps.{iter-plus, iter-zero}
use Rattle.lg_carry.specs.Processors.{Processor, TouchesAbove}
use Rattle.lg_carry.specs.Rows.{Rows, AreRows}
use Rattle.lg_carry.specs.Blocks.{spellings, StaysOutside, done, RunsBlock, IsBlock, GoesThrough, IsAbove}
use Rattle.lg_carry.specs.Carries.{KeepsOutside}
use Rattle.lg_carry.proofs.BlockLemmas.{blocks-run, stay-outside}
use Rattle.lg_carry.proofs.BlockLemmas.{behind as behind-front}
use Rattle.lg_carry.specs.Nodes.Stretches.{StandsAt, behind, PassesIn}

pub spelled-append : {I : Type 0} (spelling : I → List ℕ) (xs ys : List I) → spellings spelling (xs ++ ys) ≡ spellings spelling xs ++ spellings spelling ys
spelled-append spelling [] ys = refl
spelled-append spelling (x ∷ xs) ys = ap (λ z. spelling x ++ z) (spelled-append spelling xs ys) ∙ sym (append_assoc (spelling x) (spellings spelling xs) (spellings spelling ys))

pub spelled-size : {I : Type 0} (spelling : I → List ℕ) (xs ys : List I) → length (spellings spelling (xs ++ ys)) ≡ length (spellings spelling xs) + length (spellings spelling ys)
spelled-size spelling xs ys = ap length (spelled-append spelling xs ys) ∙ length-append (spellings spelling xs) (spellings spelling ys)

pub all-front : {I : Type 0} (fits : I → Type 0) (xs ys : List I) → All fits (xs ++ ys) → All fits xs
all-front fits [] ys h = λ k d lt. absurd (omega (arith, lt))
all-front fits (x ∷ xs) ys h = by (all-front fits xs ys (λ j e l. h (suc j) e (omega (arith, l))))
  where
    by : All fits xs → All fits (x ∷ xs)
    by rest zero d lt = h 0 d (omega arith)
    by rest (suc k) d lt = rest k d (omega (arith, lt))

pub all-back : {I : Type 0} (fits : I → Type 0) (xs ys : List I) → All fits (xs ++ ys) → All fits ys
all-back fits [] ys h = h
all-back fits (x ∷ xs) ys h = all-back fits xs ys (λ k d lt. h (suc k) d (omega (arith, lt)))

module _ {Q I : Type 0} (R : Rows Q I) (fits : I → Type 0) (ok : AreRows R fits) where
  -- after instructions another one may be
  pub places-after : (xs : List I) (pc : ℕ) → All fits xs → R.is_place pc ≡ true → R.is_place (pc + length (spellings R.spelling xs)) ≡ true
  places-after [] pc all at = subst (λ n. R.is_place n ≡ true) (omega arith) at
  places-after (x ∷ xs) pc all at =
      let size = length-append (R.spelling x) (spellings R.spelling xs) in
      let e : pc + length (R.spelling x) + length (spellings R.spelling xs) ≡ pc + length (spellings R.spelling (x ∷ xs)) = omega (arith, size) in
      subst (λ n. R.is_place n ≡ true) e (places-after xs (pc + length (R.spelling x)) (λ k d lt. all (suc k) d (omega (arith, lt))) (ok.places pc x (all 0 x (omega arith)) at))

  -- a part of instructions that are in the code is run
  module _ (moves : Bool) (from : ℕ) (front part back : List I) (q : Q) (k : StandsAt R moves fits from (front ++ (part ++ back)))
      (at : (R.processor.seen q).pc ≡ from + length (spellings R.spelling front)) (block : IsBlock R.is_straight part)
      (through : GoesThrough R.does R.processor.machine.status (IsAbove R) part q) where
    abbrev front-bytes : List ℕ
    front-bytes = spellings R.spelling front

    abbrev part-bytes : List ℕ
    part-bytes = spellings R.spelling part

    abbrev back-bytes : List ℕ
    back-bytes = spellings R.spelling back

    split : spellings R.spelling (front ++ (part ++ back)) ≡ front-bytes ++ (part-bytes ++ back-bytes)
    split = spelled-append R.spelling front (part ++ back) ∙ ap (λ z. front-bytes ++ z) (spelled-append R.spelling part back)

    size : length (spellings R.spelling (front ++ (part ++ back))) ≡ length front-bytes + (length part-bytes + length back-bytes)
    size = ap length split ∙ length-append front-bytes (part-bytes ++ back-bytes) ∙ ap (λ z. length front-bytes + z) (length-append part-bytes back-bytes)

    here : drop (from - code_base) R.code ≡ front-bytes ++ ((part-bytes ++ back-bytes) ++ k.more)
    here = k.stands ∙ ap (λ z. z ++ k.more) split ∙ append_assoc front-bytes (part-bytes ++ back-bytes) k.more

    there : drop ((R.processor.seen q).pc - code_base) R.code ≡ part-bytes ++ (back-bytes ++ k.more)
    there = behind-front R (from - code_base) ((R.processor.seen q).pc - code_base) front-bytes ((part-bytes ++ back-bytes) ++ k.more) here (omega (arith, at, k.low))
        ∙ append_assoc part-bytes back-bytes k.more

    pub part-run : RunsBlock R part q
    part-run = blocks-run R fits ok part q (back-bytes ++ k.more) (all-front fits part back (all-back fits front (part ++ back) k.fit)) block through (omega (arith, at, k.low))
        (subst (λ n. R.is_place n ≡ true) (sym at) (places-after front from (all-front fits front (part ++ back) k.fit) k.place)) there

    pub part-passes : PassesIn R.processor moves from (behind R from (front ++ (part ++ back))) (length part) q (done R.does part q)
    part-passes =
        let run = part-run in
        let part-stays = all-front (StaysOutside R moves) part back (all-back (StaysOutside R moves) front (part ++ back) k.outside) in
        record {
          leads = run.leads;
          inside = λ j lt. let w = run.inside j lt in (omega (arith, w.0, at), omega (arith, w.1, at, size));
          outside = stay-outside R moves part q run part-stays;
          above = run.above;
          silent = run.silent;
          keeps = run.keeps;
        }

-- ---- one after the other
module _ {Q : Type 0} (P : Processor Q) where
  pub none-passed : (moves : Bool) (low high : ℕ) (q : Q) → PassesIn P moves low high 0 q q
  none-passed moves low high q = record {
    leads = iter-zero P.machine.step q;
    inside = λ j lt. absurd (omega (arith, lt));
    outside = λ j lt. absurd (omega (arith, lt));
    above = λ j lt. absurd (omega (arith, lt));
    silent = λ j le. let z : j ≡ 0 = omega (arith, le) in ap (λ x. P.machine.out (iter P.machine.step x q)) z ∙ ap P.machine.out (iter-zero P.machine.step q);
    keeps = λ h. h;
  }

  pub passages-join : (moves : Bool) (low high m n : ℕ) (q u v : Q) → PassesIn P moves low high m q u → PassesIn P moves low high n u v → PassesIn P moves low high (m + n) q v
  passages-join moves low high m n q u v h k = record {
    leads = steps-add ∙ ap (iter P.machine.step n) h.leads ∙ k.leads;
    inside = λ j lt. ⊎_elim (λ (l : j < m). h.inside j l) (λ (g : m ≤ j). subst (λ x. (low ≤ (P.seen x).pc) × ((P.seen x).pc < high)) (sym (later j g)) (k.inside (j - m) (omega (arith, lt, g)))) (cases_lt j m);
    outside = λ j lt. ⊎_elim (λ (l : j < m). h.outside j l) (λ (g : m ≤ j). subst (KeepsOutside P moves) (sym (later j g)) (k.outside (j - m) (omega (arith, lt, g)))) (cases_lt j m);
    above = λ j lt. ⊎_elim (λ (l : j < m). h.above j l) (λ (g : m ≤ j). subst (λ x. TouchesAbove P x) (sym (later j g)) (k.above (j - m) (omega (arith, lt, g)))) (cases_lt j m);
    silent = λ j le. ⊎_elim (λ (l : j < m). h.silent j (omega (arith, l))) (λ (g : m ≤ j). ap P.machine.out (later j g) ∙ k.silent (j - m) (omega (arith, le, g)) ∙ ap P.machine.out (sym h.leads) ∙ h.silent m (omega arith)) (cases_lt j m);
    keeps = λ s. k.keeps (h.keeps s);
  }
    where
      steps-add : iter P.machine.step (m + n) q ≡ iter P.machine.step n (iter P.machine.step m q)
      steps-add = iter-plus P.machine.step (m + n) m n q refl

      later : (j : ℕ) → m ≤ j → iter P.machine.step j q ≡ iter P.machine.step (j - m) u
      later j g = iter-plus P.machine.step j m (j - m) q (omega (arith, g)) ∙ ap (iter P.machine.step (j - m)) h.leads
