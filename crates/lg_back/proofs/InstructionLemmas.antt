-- The lines of instructions, read back.
use Rattle.std.proofs.Common.{◌≡◌, ℕ, zero, suc, ◌+◌, ◌*◌, ◌/◌, ◌%◌, ◌<◌, Bool, true, false, List, [], ◌∷◌, ◌++◌, length, drop, Option, Some, refl, sym, ap, ap₂, ◌∙◌, arith, append_assoc, nat_eq, codes}
use Rattle.std.specs.List.{All, starts_with}
use Rattle.std.specs.Fmt.{digit_glyph}
use Rattle.std.specs.Int.{w32, to_le_bytes}
use Rattle.std.proofs.lemmas.Slice.Eq.{starts_is}
use Rattle.std.proofs.lemmas.Bool.Decides.{Decides-eqb}
use Rattle.std.proofs.lemmas.List.{append-nil}
use Rattle.std.proofs.lemmas.List.Elements.{All-head, All-tail, All-nil, All-cons, All-append}
use Rattle.lg_base.specs.declared.target.Target.{Target}
use Rattle.lg_rv.specs.Spelling as rv_spelling
use Rattle.lg_a64.specs.Spelling as a64_spelling
use Rattle.lg_x86.proofs.ByteLemmas as x86_bytes
use Rattle.lg_list.specs.declared.instruction.Instruction.{Instruction}
use Rattle.lg_list.specs.declared.instruction.Instruction.TheVariants as instruction
use Rattle.lg_list.specs.Texts.{hex}
use Rattle.lg_list.specs.Instructions.{front, spelling, text_of}
use Rattle.lg_list.specs.Lines.{instruction_line}
use Rattle.lg_back.specs.Digits.{digit_value, byte_value, with_low, before_rest, hex_front}
use Rattle.lg_list.specs.Back.{IsOf}
use Rattle.lg_list.proofs.BackLemmas.{front-again}

digit-again : (d : ℕ) → d < 16 → digit_value (digit_glyph false d) ≡ Some d
digit-again zero lt = refl
digit-again (suc (suc (suc (suc (suc (suc (suc (suc (suc (suc (suc (suc (suc (suc (suc (suc d)))))))))))))))) lt = absurd (omega arith)
digit-again (suc _) lt = refl

byte-again : (b : ℕ) → b < 256 → byte_value (digit_glyph false (b / 16)) (digit_glyph false (b % 16)) ≡ Some b
byte-again b lt =
    let high : digit_value (digit_glyph false (b / 16)) ≡ Some (b / 16) = digit-again (b / 16) (omega arith) in
    let low : digit_value (digit_glyph false (b % 16)) ≡ Some (b % 16) = digit-again (b % 16) (omega arith) in
    let whole : b / 16 * 16 + b % 16 ≡ b = omega arith in
    ap (λ o. with_low o (digit_glyph false (b % 16))) high ∙ rw low (ap (λ n. Some n) whole)

space : (more : List ℕ) → hex_front (32 ∷ more) ≡ []
space [] = refl
space (l ∷ more) = refl

pub hex_front-again : (bs more : List ℕ) → All (λ b. b < 256) bs → hex_front (hex bs ++ 32 ∷ more) ≡ bs
hex_front-again [] more ok = space more
hex_front-again (b ∷ bs) more ok =
    ap₂ before_rest (byte-again b (All-head (λ x. x < 256) b bs ok)) (hex_front-again bs more (All-tail (λ x. x < 256) b bs ok))

-- a list that is known member by member
some : (b : ℕ) (bs : List ℕ) → b < 256 → All (λ x. x < 256) bs → All (λ x. x < 256) (b ∷ bs)
some b bs lt ok = All-cons (λ x. x < 256) b bs lt ok

none : All (λ x. x < 256) []
none = All-nil (λ x. x < 256)

two : (xs ys : List ℕ) → All (λ x. x < 256) xs → All (λ x. x < 256) ys → All (λ x. x < 256) (xs ++ ys)
two xs ys a b = All-append (λ x. x < 256) xs ys a b

four-bytes : (w : ℕ) → All (λ b. b < 256) (to_le_bytes w32 w)
four-bytes w = some (w % 256) (w / 256 % 256 ∷ w / 65536 % 256 ∷ w / 16777216 % 256 ∷ []) (omega arith) (some (w / 256 % 256) (w / 65536 % 256 ∷ w / 16777216 % 256 ∷ []) (omega arith) (some (w / 65536 % 256) (w / 16777216 % 256 ∷ []) (omega arith) (some (w / 16777216 % 256) [] (omega arith) none)))

pub spelling-bytes : (i : Instruction) (t : Target) → IsOf t i → All (λ b. b < 256) (spelling i)
spelling-bytes (instruction.X86_64 i) t of = x86_bytes.spelling-bytes i of.1
spelling-bytes (instruction.Aarch64 i) t of = four-bytes (a64_spelling.word_of i)
spelling-bytes (instruction.Riscv64 i) t of = four-bytes (rv_spelling.word_of i)

regroup : (a b c d more : List ℕ) → (a ++ b ++ c ++ d) ++ more ≡ a ++ (b ++ (c ++ (d ++ more)))
regroup a b c d more = simp append_assoc

-- the digits after the address are those of the instruction's bytes
pub bytes-in-line : (t : Target) (at : ℕ) (i : Instruction) (text more : List ℕ) → IsOf t i → text ≡ instruction_line at i ++ more → hex_front (drop 10 text) ≡ spelling i
bytes-in-line t at i text more of e =
    ap (λ x. hex_front (drop 10 x)) e ∙ ap hex_front (regroup (hex (spelling i)) (codes "  ") (text_of at i) (codes "\n") more) ∙ hex_front-again (spelling i) _ (spelling-bytes i t of)

-- what is read from them is the instruction
pub read-in-line : (t : Target) (at : ℕ) (i : Instruction) (text more bytes : List ℕ) → IsOf t i → text ≡ instruction_line at i ++ more → bytes ≡ hex_front (drop 10 text) → front t bytes ≡ Some (i, length (spelling i))
read-in-line t at i text more bytes of e b = ap (front t) (b ∙ bytes-in-line t at i text more of e ∙ sym (append-nil (spelling i))) ∙ front-again t i [] of

pub starts-again : (text line more : List ℕ) → text ≡ line ++ more → starts_with nat_eq text line ≡ true
starts-again text line more e = (starts_is Decides-eqb text line (starts_with nat_eq text line) refl).1 more e

pub starts-front : (text line : List ℕ) → starts_with nat_eq text line ≡ true → text ≡ line ++ drop (length line) text
starts-front text line e = (starts_is Decides-eqb text line (starts_with nat_eq text line) refl).0 e

pub same-first : (a b : Instruction) (n m : ℕ) (r f : Option (Instruction × ℕ)) → r ≡ Some (a, n) → r ≡ f → f ≡ Some (b, m) → a ≡ b
same-first a b n m r f e g h = let pair : (a, n) ≡ (b, m) = cc in ap (λ (x : Instruction × ℕ). x.0) pair

pub not-both : (r t : Bool) → r ≡ false → r ≡ t → t ≡ true → ⊥
not-both r t e f g = cc

-- two instructions whose lines begin a text are one
pub code-unique : (t : Target) (at : ℕ) (i j : Instruction) (text more rest : List ℕ) → IsOf t i → IsOf t j → text ≡ instruction_line at i ++ more → text ≡ instruction_line at j ++ rest → i ≡ j
code-unique t at i j text more rest of jf e f =
    same-first i j (length (spelling i)) (length (spelling j)) (front t (hex_front (drop 10 text))) (front t (hex_front (drop 10 text))) (read-in-line t at i text more (hex_front (drop 10 text)) of e refl) refl (read-in-line t at j text rest (hex_front (drop 10 text)) jf f refl)
