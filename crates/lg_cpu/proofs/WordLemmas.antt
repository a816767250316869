-- Words stay words: what the processors share.
use Rattle.std.proofs.Common.{◌≡◌, ℕ, zero, suc, ◌+◌, ◌-◌, ◌/◌, ◌%◌, ◌^◌, ◌<◌, Bool, true, false, List, [], ◌∷◌, ◌++◌, length, drop, map, Option, Some, None, refl, arith}
use Rattle.std.specs.Prelude.{◌==◌, ◌&&◌, not, nat_lt, slice_index, is_some, unwrap_or, if◌then◌else◌}
use Rattle.std.proofs.lemmas.List.{get_or-drop}
use Rattle.lg_base.specs.Words.{add_words}
use Rattle.lg_base.specs.Spaces.{put_some, mapped, number_at, byte_or_zero, loaded, stored, readable}
use Rattle.lg_base.specs.Conventions.{is_kept, argument_registers, result_register}
use Rattle.lg_base.specs.declared.flags.Flags.{Flags}
use Rattle.lg_base.specs.declared.host_name.HostName.{HostName}
use Rattle.lg_base.specs.declared.target.Target.{Target}
use Rattle.lg_base.proofs.SpaceLemmas.{number_at-lt}
use Rattle.lg_host.specs.Host.{Host as Answer, Gives, Exits, Undefined, Mem, memory}
use Rattle.lg_host.specs.HostLaws.{OnGives, IsAllowed}
use Rattle.lg_host.specs.HostLaws as host
use Rattle.lg_host.proofs.HostLawLemmas.{host_of-allowed}
use Rattle.lg_cpu.specs.Steps.{Effect}
use Rattle.lg_cpu.specs.HostSteps.{stack_words, read_before, arguments_of, answer_at, returned, put, clobbered, after_call}
use Rattle.lg_cpu.specs.States.{CpuState, arrives}
use Rattle.lg_cpu.specs.Laws.{IsSound, AreBytes}
use Rattle.lg_cpu.proofs.OperatorLemmas.{choice_word}

-- ---- bytes
abbrev pub Sound : (ℕ → Option ℕ) → Type 0
Sound bytes = (a b : ℕ) → bytes a ≡ Some b → b < 256

byte_is : (o : Option ℕ) → ((b : ℕ) → o ≡ Some b → b < 256) → unwrap_or o 0 < 256
byte_is None h = omega arith
byte_is (Some b) h = h b refl

pub loaded_lt : (bytes : ℕ → Option ℕ) (a w v : ℕ) → Sound bytes → loaded bytes a w ≡ Some v → v < 256 ^ w
loaded_lt bytes a w v h e = by (mapped bytes a w) e
  where
    by : (b : Bool) → (if b then Some (number_at (byte_or_zero bytes) a w) else None) ≡ Some v → v < 256 ^ w
    by true e = let same : number_at (byte_or_zero bytes) a w ≡ v = cc in let lt = number_at-lt (byte_or_zero bytes) a w (λ j. byte_is (bytes j) (h j)) in omega (arith, same, lt)
    by false e = absurd (let never : ⊥ = cc in never)

put_sound : (m : ℕ → Option ℕ) (a v : ℕ) → v < 256 → Sound m → Sound (put_some m a v)
put_sound m a v fits h j b e = by (j == a) e
  where
    by : (t : Bool) → (if t then Some v else m j) ≡ Some b → b < 256
    by true e = let same : v ≡ b = cc in omega (arith, same, fits)
    by false e = h j b e

pub stored_sound : (m : ℕ → Option ℕ) (a w v : ℕ) → Sound m → Sound (stored m a w v)
unfolding stored
stored_sound m a zero v h = h
stored_sound m a (suc w) v h = stored_sound (put_some m a (v % 256)) (a + 1) w (v / 256) (put_sound m a (v % 256) (omega arith) h)

over_sound : (o p : Option ℕ) (b : ℕ) → ((x : ℕ) → o ≡ Some x → x < 256) → ((x : ℕ) → p ≡ Some x → x < 256) → (if is_some o then o else p) ≡ Some b → b < 256
over_sound None p b h k e = k b e
over_sound (Some x) p b h k e = h b e

-- ---- registers
abbrev pub AreWords : (ℕ → ℕ) → Type 0
AreWords f = (r : ℕ) → f r < 2 ^ 64

pub put_words : (f : ℕ → ℕ) (to value : ℕ) → AreWords f → value < 2 ^ 64 → AreWords (put f to value)
put_words f to value h k r = choice_word (r == to) value (f r) k (h r)

-- ---- effects
pub sound_arrives : (q : CpuState) (pc : ℕ) (registers : ℕ → ℕ) (flags : Flags) (bytes : ℕ → Option ℕ) → IsSound q → pc < 2 ^ 64 → AreWords registers → Sound bytes → IsSound (arrives pc registers flags bytes q.mark).to
sound_arrives q pc registers flags bytes s p r b = record { pc = p; words = r; bytes = b; mark = s.mark }

pub sound_goes_on : (q : CpuState) (pc : ℕ) → IsSound q → pc < 2 ^ 64 → IsSound (arrives pc q.registers q.flags q.bytes q.mark).to
sound_goes_on q pc s p = sound_arrives q pc q.registers q.flags q.bytes s p s.words s.bytes

pub sound_choice : (b : Bool) (e f : Effect CpuState) → IsSound e.to → IsSound f.to → IsSound (if b then e else f).to
sound_choice true e f h k = h
sound_choice false e f h k = k

pub drop_bytes : (code : List ℕ) (p : ℕ) → AreBytes code → AreBytes (drop p code)
drop_bytes code p h k = let e : slice_index (drop p code) k ≡ slice_index code (p + k) = get_or-drop p code k 0 in omega (arith, e, h (p + k))

-- ---- host functions
words_append : (xs ys : List ℕ) → AreWords (slice_index xs) → AreWords (slice_index ys) → AreWords (slice_index (xs ++ ys))
words_append [] ys h k r = k r
words_append (x ∷ xs) ys h k zero = h 0
words_append (x ∷ xs) ys h k (suc r) = words_append xs ys (λ i. h (suc i)) k r

map_words : (f : ℕ → ℕ) (xs : List ℕ) → AreWords f → AreWords (slice_index (map f xs))
map_words f [] h r = omega arith
map_words f (x ∷ xs) h zero = h x
map_words f (x ∷ xs) h (suc r) = map_words f xs h r

before_words : (o : Option ℕ) (more : List ℕ) → ((v : ℕ) → o ≡ Some v → v < 2 ^ 64) → AreWords (slice_index more) → AreWords (slice_index (read_before o more))
before_words None more h k r = omega arith
before_words (Some v) more h k zero = h v refl
before_words (Some v) more h k (suc r) = k r

stack_word : (bytes : ℕ → Option ℕ) (a n : ℕ) → Sound bytes → AreWords (slice_index (stack_words bytes a n))
unfolding stack_words
stack_word bytes a zero h r = omega arith
stack_word bytes a (suc n) h r =
    before_words (loaded bytes a 8) (stack_words bytes (add_words a 8) n) (λ v e. let lt : v < 256 ^ 8 = loaded_lt bytes a 8 v h e in omega (arith, lt)) (stack_word bytes (add_words a 8) n h) r

pub after_words : (t : Target) (n : ℕ) (f : ℕ → ℕ) (trash value : ℕ) → AreWords f → trash < 2 ^ 64 → value < 2 ^ 64 → AreWords (after_call t n f trash value)
after_words t n f trash value h small v = put_words (clobbered t n f trash) (result_register t) value (λ r. choice_word (nat_lt r n && not (is_kept t r)) trash (f r) small (h r)) v

sound_returned : (h : Answer) (m : Mem) (back : ℕ) (registers : ℕ → ℕ → ℕ) (flags : Flags) (q : CpuState) → OnGives h (IsAllowed m) → back < 2 ^ 64 → ((v : ℕ) → v < 2 ^ 64 → AreWords (registers v)) → IsSound q → IsSound (returned h back registers flags q).to
sound_returned (Gives value changes mark bytes) m back registers flags q ok b r s = record {
  pc = b;
  words = r value ok.word;
  bytes = λ a x e. over_sound (changes a) (q.bytes a) x (λ y f. (ok.written a y f).0) (s.bytes a) e;
  mark = ok.within;
}
sound_returned (Exits status) m back registers flags q ok b r s = s
sound_returned Undefined m back registers flags q ok b r s = s

-- a host function, whose stack arguments lie from an address on, and the return from it
pub sound_host_step : (t : Target) (name : HostName) (stack : ℕ) (q : CpuState) (back : ℕ) (registers : ℕ → ℕ → ℕ) (flags : Flags) → back < 2 ^ 64 → ((v : ℕ) → v < 2 ^ 64 → AreWords (registers v)) → IsSound q → IsSound (returned (answer_at t name stack q) back registers flags q).to
sound_host_step t name stack q back registers flags b r s =
    let args = arguments_of t stack q in
    let m = memory q.bytes (readable q.bytes) q.mark in
    let count = 16 - length (argument_registers t) in
    let sound : host.IsSound m args = record {
      words = words_append (map q.registers (argument_registers t)) (stack_words q.bytes stack count) (map_words q.registers (argument_registers t) s.words) (stack_word q.bytes stack count s.bytes);
      bytes = s.bytes;
      mark = s.mark;
    } in
    sound_returned (answer_at t name stack q) m back registers flags q (host_of-allowed name args true m sound) b r s
