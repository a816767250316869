-- One more byte of a format.
use Rattle.std.proofs.Common.{◌≡◌, ℕ, ◌+◌, ◌%◌, ◌^◌, ◌<◌, ◌≤◌, true, false, List, [], ◌∷◌, ◌++◌, length, drop, Option, Some, None, refl, sym, ap, ap₂, ◌∙◌, subst, arith, append_assoc, length-append}
use Rattle.std.specs.Prelude.{Result, IfSome, IfOk, OnErr, Ok, Err, option_and_then}
use Rattle.std.specs.Io.KnownBytes.{Appends}
use Rattle.std.specs.Option.{option_map}
use Rattle.std.proofs.lemmas.Bool.{ne_eqb, eq-eqb}
use Rattle.std.proofs.lemmas.List.{append-nil}
use Rattle.lg_io.specs.Counts.{Rose, HasCause}
use Rattle.lg_io.specs.Wrote.{AppendsPrefix}
use Rattle.lg_io.specs.declared.sink.SinkFault.{SinkFault}
use Rattle.lg_host.specs.Runs.{Bytes, run}
use Rattle.lg_host.specs.Strings.{string_in}
use Rattle.lg_host.specs.Formats.{is_plain}
use Rattle.lg_host.specs.Printed.{Effect, step_of, followed_by, printed, printed_at}
use Rattle.lg_host.specs.Output.{Output, PassesOn, IsAfter, IsTold, Told, Prints}
use Rattle.lg_host.proofs.RunLemmas.{run-end, run-some, run-none}
use Rattle.lg_host.proofs.OutputLemmas.{PassesOn-trans, PassesOn-prefix, PassesOn-flushed, PassesOn-cut}
use Rattle.lg_host.specs.declared.format.Reading.{Reading}
use Rattle.lg_host.specs.declared.format_place.FormatPlace.{FormatPlace}

-- bytes before others that may be undefined
abbrev pub onto : List ℕ → Option (List ℕ) → Option (List ℕ)
onto done rest = option_map (λ bytes. done ++ bytes) rest

pub printed-none : (m : Bytes) (r : Reading) (a : ℕ) (args : List ℕ) → None ≡ m a → printed_at m r a args ≡ None
printed-none m r a args is = rw (run-none m a is) refl

pub printed-top : (m : Bytes) (r : Reading) (a : ℕ) (args : List ℕ) → 2 ^ 64 ≤ a → printed_at m r a args ≡ None
printed-top m r a args le = rw (run-end m a le) refl

pub printed-end : (m : Bytes) (r : Reading) (a b : ℕ) (args : List ℕ) → a < 2 ^ 64 → Some b ≡ m a → b ≡ 0 → is_plain r ≡ true → printed_at m r a args ≡ Some []
printed-end m r a b args lt is z p = let t = eq-eqb b 0 z in rw (run-some m a b lt is, t, p) refl

pub printed-open : (m : Bytes) (r : Reading) (a b : ℕ) (args : List ℕ) → a < 2 ^ 64 → Some b ≡ m a → b ≡ 0 → is_plain r ≡ false → printed_at m r a args ≡ None
printed-open m r a b args lt is z p = let t = eq-eqb b 0 z in rw (run-some m a b lt is, t, p) refl

follow-none : (eff : Option Effect) → None ≡ followed_by eff (λ _. None)
follow-none None = refl
follow-none (Some e) = refl

-- the rest of the format is a string
follow-string : (m : Bytes) (eff : Option Effect) (b : ℕ) (o : Option (List ℕ)) → option_and_then (λ format. followed_by eff (λ e. printed m e.reading format e.left)) o ≡ followed_by eff (λ e. option_and_then (λ format. printed m e.reading format e.left) o)
follow-string m eff b None = follow-none eff
follow-string m eff b (Some format) = refl

cons-string : (m : Bytes) (r : Reading) (b : ℕ) (args : List ℕ) (o : Option (List ℕ)) → option_and_then (λ format. printed m r format args) (option_map (λ string. b ∷ string) o) ≡ option_and_then (λ format. followed_by (step_of m r b args) (λ e. printed m e.reading format e.left)) o
cons-string m r b args None = refl
cons-string m r b args (Some format) = refl

pub printed-step : (m : Bytes) (r : Reading) (a b : ℕ) (args : List ℕ) → a < 2 ^ 64 → Some b ≡ m a → (b ≡ 0 → ⊥) → printed_at m r a args ≡ followed_by (step_of m r b args) (λ e. printed_at m e.reading (a + 1) e.left)
printed-step m r a b args lt is ne =
    let t = ne_eqb b 0 ne in
    rw (run-some m a b lt is, t) (cons-string m r b args (string_in (run m (a + 1))) ∙ follow-string m (step_of m r b args) b (string_in (run m (a + 1))))

pub printed-stop : (m : Bytes) (r : Reading) (a b : ℕ) (args : List ℕ) → a < 2 ^ 64 → Some b ≡ m a → (b ≡ 0 → ⊥) → step_of m r b args ≡ None → printed_at m r a args ≡ None
printed-stop m r a b args lt is ne stop = printed-step m r a b args lt is ne ∙ ap (λ o. followed_by o (λ e. printed_at m e.reading (a + 1) e.left)) stop

pub onto-nil : (o : Option (List ℕ)) → o ≡ onto [] o
onto-nil None = refl
onto-nil (Some x) = refl

onto-onto : (xs ys : List ℕ) (o : Option (List ℕ)) → onto xs (onto ys o) ≡ onto (xs ++ ys) o
onto-onto xs ys None = refl
onto-onto xs ys (Some z) = ap Some (sym (append_assoc xs ys z))

-- ---- what the calls answer
pub Told-none : (o : Option (List ℕ)) (old new : Output) → o ≡ None → new.faults ≡ old.faults → Told {E = SinkFault} o old new (Ok None)
Told-none o old new e le = subst (λ (p : Option (List ℕ)). Told {E = SinkFault} p old new (Ok None)) (sym e) record { ok = refl; err = tt; cause = record { later = omega (arith, le); kept = le; failed = tt } }

pub Told-end : (o : Option (List ℕ)) (old new : Output) (count : ℕ) (done : List ℕ) → o ≡ onto done (Some []) → PassesOn old new done → count ≡ length done % 2 ^ 64 → new.faults ≡ old.faults → Told {E = SinkFault} o old new (Ok (Some count))
Told-end o old new count done e told is le =
    let f : o ≡ Some done = e ∙ ap Some (append-nil done) in
    subst (λ (p : Option (List ℕ)). Told {E = SinkFault} p old new (Ok (Some count))) (sym f) record { ok = (ap Some is, told); err = tt; cause = record { later = omega (arith, le); kept = le; failed = tt } }

pub after-none : (eff : Option Effect) (count : ℕ) (args : List ℕ) (old new : Output) → IsAfter eff count args old new None → eff ≡ None
after-none None count args old new h = refl
after-none (Some e) count args old new h = absurd h

prefix-by : (old mid new : Output) (done : List ℕ) (eff : Option Effect) (rest : Effect → Option (List ℕ)) → PassesOn old mid done → IfSome eff (λ e. AppendsPrefix mid.taken new.taken (mid.waiting ++ e.bytes)) → IfSome (onto done (followed_by eff rest)) (λ all. AppendsPrefix old.taken new.taken (old.waiting ++ all))
prefix-by old mid new done None rest told h = tt
prefix-by old mid new done (Some e) rest told h = by (rest e)
  where
    by : (o : Option (List ℕ)) → IfSome (onto done (onto e.bytes o)) (λ all. AppendsPrefix old.taken new.taken (old.waiting ++ all))
    by None = tt
    by (Some bs) = PassesOn-prefix old mid new done e.bytes bs (done ++ (e.bytes ++ bs)) refl told h

pub Told-err : (o : Option (List ℕ)) (old mid new : Output) (fault : SinkFault) (done : List ℕ) (eff : Option Effect) (rest : Effect → Option (List ℕ)) → o ≡ onto done (followed_by eff rest) → PassesOn old mid done → IfSome eff (λ e. AppendsPrefix mid.taken new.taken (mid.waiting ++ e.bytes)) → mid.faults ≡ old.faults → mid.faults ≤ new.faults → Rose mid.faults new.faults → Told {E = SinkFault} o old new (Err fault)
Told-err o old mid new fault done eff rest e told h le later rose =
    subst (λ (p : Option (List ℕ)). Told {E = SinkFault} p old new (Err fault)) (sym e) record { ok = tt; err = prefix-by old mid new done eff rest told h; cause = record { later = omega arith; kept = tt; failed = omega (arith, rose) } }

pub record More (m : Bytes) (eff : Option Effect) (w : FormatPlace) (args : List ℕ) (count a : ℕ) (mid new : Output) : Type 0 where
  pub bytes : List ℕ
  pub told : PassesOn mid new bytes
  pub count_is : w.count ≡ (count + length bytes) % 2 ^ 64
  pub is : followed_by eff (λ e. printed_at m e.reading a e.left) ≡ onto bytes (printed_at m w.reading a (drop w.used args))

more : (m : Bytes) (eff : Option Effect) (w : FormatPlace) (args : List ℕ) (count a : ℕ) (mid new : Output) → IsAfter eff count args mid new (Some w) → More m eff w args count a mid new
more m None w args count a mid new h = absurd h
more m (Some e) w args count a mid new h = record {
  bytes = e.bytes;
  told = h.3;
  count_is = h.2;
  is = ap (onto e.bytes) (ap₂ (λ r x. printed_at m r a x) (sym h.0) (sym h.1));
}

count-more : (c n x : ℕ) → c ≡ n % 2 ^ 64 → (c + x) % 2 ^ 64 ≡ (n + x) % 2 ^ 64
count-more c n x e = grind arith

-- ---- the bytes so far and what is left
pub record SoFar (all : Option (List ℕ)) (m : Bytes) (w : FormatPlace) (args : List ℕ) (a : ℕ) (old new : Output) : Type 0 where
  pub done : List ℕ
  pub told : PassesOn old new done
  pub count_is : w.count ≡ length done % 2 ^ 64
  pub is : all ≡ onto done (printed_at m w.reading a (drop w.used args))

pub SoFar-more : (all : Option (List ℕ)) (m : Bytes) (w v : FormatPlace) (b a : ℕ) (args : List ℕ) (old mid new : Output) → a < 2 ^ 64 → Some b ≡ m a → (b ≡ 0 → ⊥) → SoFar all m w args a old mid → IsAfter (step_of m w.reading b (drop w.used args)) w.count args mid new (Some v) → SoFar all m v args (a + 1) old new
SoFar-more all m w v b a args old mid new lt is ne s h =
    let k = more m (step_of m w.reading b (drop w.used args)) v args w.count (a + 1) mid new h in
    record {
      done = s.done ++ k.bytes;
      told = PassesOn-trans old mid new s.done k.bytes s.told k.told;
      count_is = k.count_is ∙ count-more w.count (length s.done) (length k.bytes) s.count_is ∙ ap (λ n. n % 2 ^ 64) (sym (length-append s.done k.bytes));
      is = s.is ∙ ap (onto s.done) (printed-step m w.reading a b (drop w.used args) lt is ne ∙ k.is) ∙ onto-onto s.done k.bytes (printed_at m v.reading (a + 1) (drop v.used args));
    }

-- ---- bytes none of which waits before or after
pub Prints-flushed : (bytes : Option (List ℕ)) (a b : Output) (new : Option (List ℕ)) (now count : ℕ) (result : Result (Option ℕ) SinkFault) → a.waiting ≡ [] → IsTold bytes a b (Some count) → b.faults ≡ a.faults → IfOk result (λ answer. (answer ≡ Some count) × Appends b.taken new b.waiting) → OnErr result (AppendsPrefix b.taken new b.waiting) → HasCause b.faults now result → Prints {E = SinkFault} bytes a.taken new a.faults now result
Prints-flushed None a b new now count result e told le ok err cause = let no : ⊥ = cc in absurd no
Prints-flushed (Some bs) a b new now count (Ok answer) e told le ok err cause = record { ok = (ok.0 ∙ told.0, PassesOn-flushed a b new bs e told.1 ok.1); err = tt; cause = record { later = omega (arith, le, cause.later); kept = cause.kept ∙ le; failed = tt } }
Prints-flushed (Some bs) a b new now count (Err fault) e told le ok err cause = record { ok = tt; err = PassesOn-cut a b new bs e told.1 err; cause = record { later = omega (arith, le, cause.later); kept = tt; failed = omega (arith, le, cause.failed) } }

pub Prints-none : (bytes : Option (List ℕ)) (a b : Output) → IsTold bytes a b None → b.faults ≡ a.faults → Prints {E = SinkFault} bytes a.taken b.taken a.faults b.faults (Ok None)
Prints-none None a b told le = record { ok = told; err = tt; cause = record { later = omega (arith, le); kept = le; failed = tt } }
Prints-none (Some bs) a b told le = let no : ⊥ = cc in absurd no

pub Prints-err : (bytes : Option (List ℕ)) (a b : Output) (fault : SinkFault) → a.waiting ≡ [] → Told {E = SinkFault} bytes a b (Err fault) → Prints {E = SinkFault} bytes a.taken b.taken a.faults b.faults (Err fault)
Prints-err None a b fault e told = record { ok = tt; err = tt; cause = told.cause }
Prints-err (Some bs) a b fault e told = record { ok = tt; err = subst (λ (w : List ℕ). AppendsPrefix a.taken b.taken (w ++ bs)) e told.err; cause = told.cause }
