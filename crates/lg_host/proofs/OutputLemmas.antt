-- Output that was passed on in pieces, and prefixes of it.
use Rattle.std.proofs.Common.{◌≡◌, ℕ, zero, suc, ◌+◌, ◌-◌, ◌%◌, ◌^◌, ◌<◌, ◌≤◌, List, [], ◌∷◌, ◌++◌, length, take, drop, get_or, Option, refl, sym, ap, ap₂, ◌∙◌, subst, arith, append_assoc, drop-cons}
use Rattle.std.specs.Prelude.{replicate, slice_index, unwrap_or, Result, Ok, Err, Some, OnOk, OnErr}
use Rattle.std.specs.Io.KnownBytes.{Appends}
use Rattle.std.proofs.KnownBytes.{Appends-nil, Appends-trans}
use Rattle.std.proofs.lemmas.List.{take-append-drop, append-nil, take_more, replicate-append-replicate, replicate_more}
use Rattle.lg_base.specs.Spaces.{HasBytes}
use Rattle.lg_io.specs.Counts.{HasCause}
use Rattle.lg_io.specs.Wrote.{AppendsPrefix, Wrote}
use Rattle.lg_io.proofs.WroteLemmas.{AppendsPrefix-after}
use Rattle.lg_host.specs.Host.{int_answer}
use Rattle.lg_host.specs.Runs.{Bytes}
use Rattle.lg_host.specs.Output.{Output, PassesOn, Passed, output, bytes_from, part_bytes, parts_bytes}
use Rattle.lg_host.specs.declared.parts.Part.{Part}

-- ---- passing on
pub PassesOn-nil : (a : Output) → PassesOn a a []
PassesOn-nil a = ([], Appends-nil a.taken, append-nil a.waiting)

-- bytes that only wait
pub PassesOn-stored : (a b : Output) (bytes : List ℕ) → b.taken ≡ a.taken → b.waiting ≡ a.waiting ++ bytes → PassesOn a b bytes
PassesOn-stored a b bytes e f = ([], subst (λ (o : Option (List ℕ)). Appends a.taken o []) (sym e) (Appends-nil a.taken), sym f)

pub PassesOn-trans : (a b c : Output) (xs ys : List ℕ) → PassesOn a b xs → PassesOn b c ys → PassesOn a c (xs ++ ys)
PassesOn-trans a b c xs ys p q = (
  p.0 ++ q.0,
  Appends-trans a.taken b.taken c.taken p.0 q.0 p.1 q.1,
  sym (append_assoc a.waiting xs ys) ∙ ap (λ x. x ++ ys) p.2 ∙ append_assoc p.0 b.waiting ys ∙ ap (λ x. p.0 ++ x) q.2 ∙ sym (append_assoc p.0 q.0 c.waiting),
)

-- all of xs was passed on, and then a part of ys went to the sink
pub PassesOn-prefix : (a b c : Output) (xs ys zs all : List ℕ) → all ≡ xs ++ (ys ++ zs) → PassesOn a b xs → AppendsPrefix b.taken c.taken (b.waiting ++ ys) → AppendsPrefix a.taken c.taken (a.waiting ++ all)
PassesOn-prefix a b c xs ys zs all e p h =
    AppendsPrefix-after a.taken b.taken c.taken p.0 (b.waiting ++ ys) zs (a.waiting ++ all)
    (ap (λ x. a.waiting ++ x) e ∙ sym (append_assoc a.waiting xs (ys ++ zs)) ∙ ap (λ x. x ++ (ys ++ zs)) p.2 ∙ append_assoc p.0 b.waiting (ys ++ zs) ∙ ap (λ x. p.0 ++ x) (sym (append_assoc b.waiting ys zs)))
    p.1 h

-- ---- bytes that begin and end with none that waits
pub PassesOn-flushed : (a b : Output) (new : Option (List ℕ)) (bytes : List ℕ) → a.waiting ≡ [] → PassesOn a b bytes → Appends b.taken new b.waiting → Appends a.taken new bytes
PassesOn-flushed a b new bytes e p h = subst (Appends a.taken new) (sym p.2 ∙ ap (λ x. x ++ bytes) e) (Appends-trans a.taken b.taken new p.0 b.waiting p.1 h)

pub PassesOn-cut : (a b : Output) (new : Option (List ℕ)) (bytes : List ℕ) → a.waiting ≡ [] → PassesOn a b bytes → AppendsPrefix b.taken new b.waiting → AppendsPrefix a.taken new bytes
PassesOn-cut a b new bytes e p h = AppendsPrefix-after a.taken b.taken new p.0 b.waiting [] bytes (sym (sym p.2 ∙ ap (λ x. x ++ bytes) e) ∙ ap (λ x. p.0 ++ x) (sym (append-nil b.waiting))) p.1 h

pub Wrote-flushed : {T E : Type 0} (a b : Output) (new : Option (List ℕ)) (now : ℕ) (result : Result T E) (bytes : List ℕ) → a.waiting ≡ [] → PassesOn a b bytes → b.faults ≡ a.faults → Wrote b.taken new b.faults now result b.waiting → Wrote a.taken new a.faults now result bytes
Wrote-flushed a b new now (Ok x) bytes e p le h = record { ok = PassesOn-flushed a b new bytes e p h.ok; err = tt; cause = record { later = omega (arith, le, h.cause.later); kept = h.cause.kept ∙ le; failed = tt } }
Wrote-flushed a b new now (Err x) bytes e p le h = record { ok = tt; err = PassesOn-cut a b new bytes e p h.err; cause = record { later = omega (arith, le, h.cause.later); kept = tt; failed = omega (arith, le, h.cause.failed) } }

-- those that waited went to the sink, and then others were written at once
pub Passed-written : {T E : Type 0} (a : Output) (mid new : Option (List ℕ)) (between now : ℕ) (result : Result T E) (bytes : List ℕ) → Appends a.taken mid a.waiting → between ≡ a.faults
    → OnOk result (Appends mid new bytes) → OnErr result (AppendsPrefix mid new bytes) → HasCause between now result → Passed a (output new [] now) result bytes
Passed-written a mid new between now (Ok x) bytes p same ok err cause = record {
  ok = (a.waiting ++ bytes, Appends-trans a.taken mid new a.waiting bytes p ok, sym (append-nil (a.waiting ++ bytes)));
  err = tt;
  cause = record { later = omega (arith, same, cause.later); kept = cause.kept ∙ same; failed = tt };
}
Passed-written a mid new between now (Err x) bytes p same ok err cause = record {
  ok = tt;
  err = AppendsPrefix-after a.taken mid new a.waiting bytes [] (a.waiting ++ bytes) (ap (λ x. a.waiting ++ x) (sym (append-nil bytes))) p err;
  cause = record { later = omega (arith, same, cause.later); kept = tt; failed = omega (arith, same, cause.failed) };
}

-- ---- pieces
pub parts_bytes-append : (m : Bytes) (ps qs : List Part) → parts_bytes m (ps ++ qs) ≡ parts_bytes m ps ++ parts_bytes m qs
parts_bytes-append m [] qs = refl
parts_bytes-append m (p ∷ ps) qs = ap (λ x. part_bytes m p ++ x) (parts_bytes-append m ps qs) ∙ sym (append_assoc (part_bytes m p) (parts_bytes m ps) (parts_bytes m qs))

pub parts_bytes-split : (m : Bytes) (ps : List Part) (i : ℕ) (d : Part) → i < length ps → parts_bytes m ps ≡ parts_bytes m (take i ps) ++ (part_bytes m (get_or ps i d) ++ parts_bytes m (drop (suc i) ps))
parts_bytes-split m ps i d lt = ap (parts_bytes m) (sym (take-append-drop i ps)) ∙ parts_bytes-append m (take i ps) (drop i ps) ∙ ap (λ x. parts_bytes m (take i ps) ++ parts_bytes m x) (drop-cons ps i d lt)

pub parts_bytes-more : (m : Bytes) (ps : List Part) (i : ℕ) (d : Part) → i < length ps → parts_bytes m (take (i + 1) ps) ≡ parts_bytes m (take i ps) ++ part_bytes m (get_or ps i d)
parts_bytes-more m ps i d lt = ap (parts_bytes m) (take_more ps i d lt) ∙ parts_bytes-append m (take i ps) (get_or ps i d ∷ []) ∙ ap (λ x. parts_bytes m (take i ps) ++ x) (append-nil (part_bytes m (get_or ps i d)))

-- ---- bytes of a list
pub list-split : (xs : List ℕ) (i d : ℕ) → i < length xs → xs ≡ take i xs ++ ((get_or xs i d ∷ []) ++ drop (suc i) xs)
list-split xs i d lt = sym (take-append-drop i xs) ∙ ap (λ x. take i xs ++ x) (drop-cons xs i d lt)

-- ---- a byte this many times
pub replicate-split : (n i b : ℕ) → i < n → replicate n b ≡ replicate i b ++ ((b ∷ []) ++ replicate (n - (i + 1)) b)
replicate-split n i b lt =
    let e : n ≡ i + 1 + (n - (i + 1)) = omega arith in
    ap (λ k. replicate k b) e ∙ sym (replicate-append-replicate (i + 1) (n - (i + 1)) b) ∙ ap (λ x. x ++ replicate (n - (i + 1)) b) (sym (replicate_more i b)) ∙ append_assoc (replicate i b) (b ∷ []) (replicate (n - (i + 1)) b)

-- ---- bytes of memory
pub bytes_from-add : (i k : ℕ) (m : Bytes) (a : ℕ) → bytes_from (i + k) m a ≡ bytes_from i m a ++ bytes_from k m (a + i)
bytes_from-add zero k m a = let e : 0 + k ≡ k = omega arith in let f : a ≡ a + 0 = omega arith in ap (λ n. bytes_from n m a) e ∙ ap (bytes_from k m) f
bytes_from-add (suc i) k m a = let e : suc i + k ≡ suc (i + k) = omega arith in let f : a + 1 + i ≡ a + suc i = omega arith in ap (λ n. bytes_from n m a) e ∙ ap (λ x. unwrap_or (m a) 0 ∷ x) (bytes_from-add i k m (a + 1) ∙ ap (λ x. bytes_from i m (a + 1) ++ bytes_from k m x) f)

pub bytes_from-more : (m : Bytes) (a at : ℕ) → a ≤ at → bytes_from (at + 1 - a) m a ≡ bytes_from (at - a) m a ++ (unwrap_or (m at) 0 ∷ [])
bytes_from-more m a at le =
    let e : at + 1 - a ≡ at - a + 1 = omega arith in
    let f : a + (at - a) ≡ at = omega arith in
    ap (λ n. bytes_from n m a) e ∙ bytes_from-add (at - a) 1 m a ∙ ap (λ x. bytes_from (at - a) m a ++ (unwrap_or (m x) 0 ∷ [])) f

pub bytes_from-split : (m : Bytes) (a at to : ℕ) → a ≤ at → at < to → bytes_from (to - a) m a ≡ bytes_from (at - a) m a ++ ((unwrap_or (m at) 0 ∷ []) ++ bytes_from (to - (at + 1)) m (at + 1))
bytes_from-split m a at to le lt =
    let e : to - a ≡ at + 1 - a + (to - (at + 1)) = omega arith in
    let f : a + (at + 1 - a) ≡ at + 1 = omega arith in
    ap (λ n. bytes_from n m a) e ∙ bytes_from-add (at + 1 - a) (to - (at + 1)) m a ∙ ap₂ (λ x y. x ++ bytes_from (to - (at + 1)) m y) (bytes_from-more m a at le) f ∙ append_assoc (bytes_from (at - a) m a) (unwrap_or (m at) 0 ∷ []) (bytes_from (to - (at + 1)) m (at + 1))

-- those that a list has
pub bytes_from-list : (m : Bytes) (a n : ℕ) (list : List ℕ) → HasBytes m a n list → bytes_from n m a ≡ list
bytes_from-list m a n list h = ap (λ k. bytes_from k m a) (sym h.0) ∙ each list a (λ k lt. h.1 k (omega (arith, lt, h.0)))
  where
    each : (xs : List ℕ) (b : ℕ) → ((k : ℕ) → k < length xs → m (b + k) ≡ Some (slice_index xs k)) → bytes_from (length xs) m b ≡ xs
    each [] b at = refl
    each (x ∷ xs) b at =
        let first : b ≡ b + 0 = omega arith in
        ap₂ (λ u v. u ∷ v) (ap (λ i. unwrap_or (m i) 0) first ∙ ap (λ o. unwrap_or o 0) (at 0 (omega arith)))
        (each xs (b + 1) (λ k lt. let next : b + 1 + k ≡ b + suc k = omega arith in ap m next ∙ at (suc k) (omega (arith, lt))))

-- an int looks at the low bits alone
pub int_answer-low : (n : ℕ) → int_answer (n % 2 ^ 64) ≡ int_answer n
int_answer-low n = let e : n % 2 ^ 64 % 2 ^ 32 ≡ n % 2 ^ 32 = omega arith in rw e refl
