-- Rows of two registers, loads, stores, lea and rows without operands: what was read is a spelling exactly where the tests say so.
use Rattle.std.proofs.Common.{◌≡◌, ℕ, ◌+◌, ◌/◌, ◌%◌, ◌≤◌, Bool, true, false, List, [], ◌∷◌, ◌++◌, drop, length, append_assoc, slice_index, Some, refl, sym, ap, subst, ◌∙◌, arith, lit<, nat_eq}
use Rattle.std.specs.Prelude.{◌==◌, ◌&&◌, ◌||◌, not, if◌then◌else◌}
use Rattle.std.specs.List.{starts_with}
use Rattle.std.proofs.lemmas.Bool.Decides.{nat_tests}
use Rattle.std.proofs.lemmas.Bool.{and_parts, eqb-true, ne_eqb}
use Rattle.lg_x86.specs.declared.rows.Mark.{Mark}
use Rattle.lg_x86.specs.declared.rows.Mark.TheVariants.{Wide, Low, Plain}
use Rattle.lg_x86.specs.declared.instruction.Instr.TheVariants.{RmReg, RegRm, Load, Store, Lea2, Bare}
use Rattle.lg_x86.specs.Rows.{PrefixRow, rm_reg_row, rm_reg_ops, reg_rm_row, reg_rm_ops, load_row, load_ops, store_row, store_ops, bare_row, bare_ops}
use Rattle.lg_x86.specs.Spelling.{rex, extension, size_prefix, opcode_bytes, modrm, sib, memory}
use Rattle.lg_x86.specs.Reading.{same_bool, same_mark, checked, front_bytes, front_length, accepted, is_wide, is_marked, has_bytes, is_memory, memory_length, is_sum, read_reg, read_rm, read_lea, is_prefix_row, mark_in, has_registers, reg_in, rm_in, index_in, base_in, disp_in}
use Rattle.lg_x86.specs.Reading.{rm_reg_by_opcode, reg_rm_by_prefixes, load_by_prefixes, store_by_prefixes, bare_by_prefixes, rm_reg_of, reg_rm_of, load_of, store_of, lea_of, bare_of}
use Rattle.lg_x86.specs.declared.instruction.BareOp.{BareOp}
use Rattle.lg_x86.specs.declared.instruction.BareOp.TheVariants.{Cqo}
use Rattle.lg_x86.specs.declared.instruction.LoadOp.TheVariants.{Lea}
use Rattle.lg_x86.proofs.AgainLemmas.{joined_3, rm_reg_opcode, reg_rm_opcode, load_opcode, store_opcode}
use Rattle.lg_x86.proofs.FieldLemmas.{extension_fits}
use Rattle.lg_x86.proofs.NumberLemmas.{AreBytes}
use Rattle.lg_x86.proofs.FrontLemmas.{rex_value, IsOpcode}
use Rattle.lg_x86.proofs.AcceptLemmas.{turned, same_is, accepts, with_found, found, true_is, decided, unsized, IsRex, none, some, Same}
use Rattle.lg_x86.proofs.PrefixLemmas.{wide_is, end_of, or_none, marked_is}
use Rattle.lg_x86.proofs.TailLemmas.{tail_of, registers_tail, and_false, memory_tail, memory_long, plain_opcode, no_tail, accepts_bare}

pub rm_reg_same : (s : Bool) (r : ℕ) → IsRex r → (o : ℕ) (t : List ℕ) (len : ℕ) → len ≡ front_length s r false → Same s r false o t ((not s && is_wide r) && has_registers t) (len + 1) (rm_reg_of r o t)
unfolding rm_reg_of rm_reg_by_opcode
rm_reg_same s r rex_is o t len at =
    let reg = reg_in r t in
    let rm = rm_in r t in
    with_found (rm_reg_by_opcode o) (λ op. RmReg op rm reg) s r false o t ((not s && is_wide r) && has_registers t) (len + 1)
    (λ op e.
    let row : o ≡ (rm_reg_row op).number = eqb-true o _ (found (λ op. o == (rm_reg_row op).number) rm_reg_ops op e) in
    accepts s r rex_is false o t (RmReg op rm reg) (not s && is_wide r) (has_registers t) len 1 at
    (record {
      z = false;
      mark = Wide;
      bits = extension reg 0 rm;
      fits = extension_fits reg 0 rm (omega arith) (lit< tt) (omega arith);
      p = (rm_reg_row op).number;
      is = subst IsOpcode (sym row) (rm_reg_opcode op);
      ip = rm_reg_opcode op;
      u = modrm 3 reg rm ∷ [];
      spelled = refl;
      front_is = unsized s _ ∙ ap (λ b. not s && b) (wide_is r reg rm rex_is (omega arith) (omega arith));
      tail_is = tail_of o _ _ _ (sym row) (registers_tail t [] reg rm (omega arith) (omega arith) ∙ end_of (has_registers t));
      long = λ _. refl;
    }))

-- rows with prefixes of their own
pub marks_same : (a b : Mark) → same_mark a b ≡ true → a ≡ b
marks_same Wide Wide e = refl
marks_same Low Low e = refl
marks_same Plain Plain e = refl
marks_same _ _ e = absurd (let none : ⊥ = cc in none)

pub record IsRow (s : Bool) (mark : Mark) (e : Bool) (o : ℕ) (row : PrefixRow) : Type 0 where
  pub sized : s ≡ row.word_sized
  pub marked : mark ≡ row.mark
  pub escaped : e ≡ row.escaped
  pub opcode : o ≡ row.opcode

pub row_is : (s : Bool) (mark : Mark) (e : Bool) (o : ℕ) (row : PrefixRow) → is_prefix_row s mark e o row ≡ true → IsRow s mark e o row
row_is s mark e o row holds =
    let rest = (and_parts (same_bool s row.word_sized) _ holds).1 in
    let last = (and_parts (same_mark mark row.mark) _ rest).1 in
    record {
      sized = same_is s row.word_sized (and_parts (same_bool s row.word_sized) _ holds).0;
      marked = marks_same mark row.mark (and_parts (same_mark mark row.mark) _ rest).0;
      escaped = same_is e row.escaped (and_parts (same_bool e row.escaped) _ last).0;
      opcode = eqb-true o row.opcode (and_parts (same_bool e row.escaped) _ last).1;
    }

pub mark_front : (s : Bool) (r reg rm : ℕ) → IsRex r → reg / 8 ≡ r / 4 % 2 → rm / 8 ≡ r % 2 → (mark : Mark) → mark_in r ≡ mark → (same_bool s false && (r == rex_value mark (extension reg 0 rm))) ≡ (not s && is_marked r)
mark_front s r reg rm rex_is a b mark e = unsized s _ ∙ ap (λ c. not s && c) (ap (λ m. r == rex_value m (extension reg 0 rm)) (sym e) ∙ marked_is r reg rm rex_is a b)

pub reg_rm_same : (s : Bool) (r : ℕ) → IsRex r → (e : Bool) (o : ℕ) (t : List ℕ) (len : ℕ) → len ≡ front_length s r e → has_registers t ≡ true → Same s r e o t (not s && is_marked r) (len + 1) (reg_rm_of (mark_in r) e r o t)
unfolding reg_rm_of reg_rm_by_prefixes
reg_rm_same s r rex_is e o t len at two =
    let reg = reg_in r t in
    let rm = rm_in r t in
    with_found (reg_rm_by_prefixes false (mark_in r) e o) (λ op. RegRm op reg rm) s r e o t (not s && is_marked r) (len + 1)
    (λ op f.
    let row = row_is false (mark_in r) e o (reg_rm_row op) (found (λ op. is_prefix_row false (mark_in r) e o (reg_rm_row op)) reg_rm_ops op f) in
    let p = (reg_rm_row op).opcode in
    ap (λ b. accepted b (len + 1) (Some (RegRm op reg rm))) (sym (end_of (not s && is_marked r)))
    ∙ accepts s r rex_is e o t (RegRm op reg rm) (not s && is_marked r) true len 1 at
    (record {
      z = false;
      mark = (reg_rm_row op).mark;
      bits = extension reg 0 rm;
      fits = extension_fits reg 0 rm (omega arith) (lit< tt) (omega arith);
      p = p;
      is = subst IsOpcode (sym row.opcode) (reg_rm_opcode op);
      ip = reg_rm_opcode op;
      u = modrm 3 reg rm ∷ [];
      spelled = append_assoc (rex (reg_rm_row op).mark (extension reg 0 rm)) (opcode_bytes (reg_rm_row op).escaped p) (modrm 3 reg rm ∷ []) ∙ ap (λ x. rex (reg_rm_row op).mark (extension reg 0 rm) ++ (opcode_bytes x p ++ (modrm 3 reg rm ∷ []))) (sym row.escaped);
      front_is = mark_front s r reg rm rex_is (omega arith) (omega arith) (reg_rm_row op).mark row.marked;
      tail_is = tail_of o p _ _ (sym row.opcode) (registers_tail t [] reg rm (omega arith) (omega arith) ∙ end_of (has_registers t) ∙ two);
      long = λ _. refl;
    }))

pub load_same : (s : Bool) (r : ℕ) → IsRex r → (e : Bool) (o : ℕ) (t : List ℕ) → AreBytes t → (len : ℕ) → len ≡ front_length s r e → Same s r e o t ((not s && is_marked r) && is_memory t) (len + memory_length t) (load_of (mark_in r) e r o t)
unfolding load_of load_by_prefixes
load_same s r rex_is e o t h len at =
    let reg = reg_in r t in
    let rm = rm_in r t in
    let z = disp_in t in
    with_found (load_by_prefixes false (mark_in r) e o) (λ op. Load op reg rm z) s r e o t ((not s && is_marked r) && is_memory t) (len + memory_length t)
    (λ op f.
    let row = row_is false (mark_in r) e o (load_row op) (found (λ op. is_prefix_row false (mark_in r) e o (load_row op)) load_ops op f) in
    let p = (load_row op).opcode in
    accepts s r rex_is e o t (Load op reg rm z) (not s && is_marked r) (is_memory t) len (memory_length t) at
    (record {
      z = false;
      mark = (load_row op).mark;
      bits = extension reg 0 rm;
      fits = extension_fits reg 0 rm (omega arith) (lit< tt) (omega arith);
      p = p;
      is = subst IsOpcode (sym row.opcode) (load_opcode op);
      ip = load_opcode op;
      u = memory reg rm z;
      spelled = append_assoc (rex (load_row op).mark (extension reg 0 rm)) (opcode_bytes (load_row op).escaped p) (memory reg rm z) ∙ ap (λ x. rex (load_row op).mark (extension reg 0 rm) ++ (opcode_bytes x p ++ memory reg rm z)) (sym row.escaped);
      front_is = mark_front s r reg rm rex_is (omega arith) (omega arith) (load_row op).mark row.marked;
      tail_is = tail_of o p _ _ (sym row.opcode) (memory_tail t reg rm h (omega arith) (omega arith));
      long = memory_long t reg rm (omega arith);
    }))

pub same_self : (s : Bool) → same_bool s s ≡ true
same_self true = refl
same_self false = refl

pub store_same : (s : Bool) (r : ℕ) → IsRex r → (m : Mark) (front : Bool) → (r == rex_value m (extension (reg_in r []) 0 (rm_in r []))) ≡ front → (o : ℕ) (t : List ℕ) → AreBytes t → (len : ℕ) → len ≡ front_length s r false → Same s r false o t (front && is_memory t) (len + memory_length t) (store_of s m r o t)
unfolding store_of store_by_prefixes
store_same s r rex_is m front front_is o t h len at =
    let reg = reg_in r t in
    let rm = rm_in r t in
    let z = disp_in t in
    let bits : extension (reg_in r []) 0 (rm_in r []) ≡ extension reg 0 rm = omega arith in
    with_found (store_by_prefixes s m false o) (λ op. Store op rm z reg) s r false o t (front && is_memory t) (len + memory_length t)
    (λ op f.
    let row = row_is s m false o (store_row op) (found (λ op. is_prefix_row s m false o (store_row op)) store_ops op f) in
    let p = (store_row op).opcode in
    accepts s r rex_is false o t (Store op rm z reg) front (is_memory t) len (memory_length t) at
    (record {
      z = (store_row op).word_sized;
      mark = (store_row op).mark;
      bits = extension reg 0 rm;
      fits = extension_fits reg 0 rm (omega arith) (lit< tt) (omega arith);
      p = p;
      is = subst IsOpcode (sym row.opcode) (store_opcode op);
      ip = store_opcode op;
      u = memory reg rm z;
      spelled = joined_3 (size_prefix (store_row op).word_sized) (rex (store_row op).mark (extension reg 0 rm)) (p ∷ []) (memory reg rm z);
      front_is = ap (λ b. same_bool s b && (r == rex_value (store_row op).mark (extension reg 0 rm))) (sym row.sized) ∙ ap (λ b. b && (r == rex_value (store_row op).mark (extension reg 0 rm))) (same_self s) ∙ ap (λ x. r == rex_value x (extension reg 0 rm)) (sym row.marked) ∙ ap (λ n. r == rex_value m n) (sym bits) ∙ front_is;
      tail_is = tail_of o p _ _ (sym row.opcode) (memory_tail t reg rm h (omega arith) (omega arith));
      long = memory_long t reg rm (omega arith);
    }))

pub reg_same : (s : Bool) (r : ℕ) → IsRex r → (e : Bool) (o : ℕ) (t : List ℕ) → AreBytes t → (len : ℕ) → len ≡ front_length s r e → (registers : Bool) → has_registers t ≡ registers → read_reg s r len (mark_in r) registers e o t ≡ checked (front_bytes s r e o t) (if registers then reg_rm_of (mark_in r) e r o t else load_of (mark_in r) e r o t)
unfolding read_reg
reg_same s r rex_is e o t h len at true two = reg_rm_same s r rex_is e o t len at two
reg_same s r rex_is e o t h len at false two = load_same s r rex_is e o t h len at

pub moved_same : (s : Bool) (r : ℕ) → IsRex r → (o : ℕ) (t : List ℕ) (len : ℕ) → len ≡ front_length s r false → has_registers t ≡ true → Same s r false o t (not s && is_wide r) (len + 1) (rm_reg_of r o t)
moved_same s r rex_is o t len at two =
    ap (λ b. accepted b (len + 1) (rm_reg_of r o t)) (sym (ap (λ b. (not s && is_wide r) && b) two ∙ end_of (not s && is_wide r))) ∙ rm_reg_same s r rex_is o t len at

pub rm_same : (s : Bool) (r : ℕ) → IsRex r → (o : ℕ) (t : List ℕ) → AreBytes t → (len : ℕ) → len ≡ front_length s r false → (registers : Bool) → has_registers t ≡ registers → read_rm s r len (mark_in r) registers o t ≡ checked (front_bytes s r false o t) (if registers then rm_reg_of r o t else store_of s (mark_in r) r o t)
unfolding read_rm
rm_same s r rex_is o t h len at true two = moved_same s r rex_is o t len at two
rm_same s r rex_is o t h len at false two = store_same s r rex_is (mark_in r) (is_marked r) (marked_is r (reg_in r []) (rm_in r []) rex_is (omega arith) (omega arith)) o t h len at

pub bare_opcode : (op : BareOp) → IsOpcode (bare_row op).opcode
bare_opcode Cqo = record { no_rex = refl; no_size = refl; no_escape = refl }
bare_opcode _ = record { no_rex = refl; no_size = refl; no_escape = refl }

pub bare_escaped : (op : BareOp) → (bare_row op).escaped ≡ false
bare_escaped Cqo = refl
bare_escaped _ = refl

pub bare_front : (r : ℕ) (m : Mark) → mark_in r ≡ m → (r == rex_value m 0) ≡ ((r == 0) || (r == 0x48))
bare_front r m e = by (r / 8 % 2 == 1) refl m e
  where
    by : (b : Bool) → (r / 8 % 2 == 1) ≡ b → (m : Mark) → (if b then Wide else Plain) ≡ m → (r == rex_value m 0) ≡ ((r == 0) || (r == 0x48))
    by true f Wide g = let w = eqb-true (r / 8 % 2) 1 f in rw (ne_eqb r 0 (λ is. omega (arith, is, w))) refl
    by true f Plain g = absurd (let none : ⊥ = cc in none)
    by true f Low g = absurd (let none : ⊥ = cc in none)
    by false f Plain g = rw (ne_eqb r 0x48 (λ is. let t = true_is (r / 8 % 2) 1 (omega (arith, is)) in absurd (let none : ⊥ = cc in none))) (sym (or_none (r == 0)))
    by false f Wide g = absurd (let none : ⊥ = cc in none)
    by false f Low g = absurd (let none : ⊥ = cc in none)

pub bare_same : (s : Bool) (r : ℕ) → IsRex r → (o : ℕ) (t : List ℕ) (len : ℕ) → len ≡ front_length s r false → Same s r false o t (not s && ((r == 0) || (r == 0x48))) len (bare_of (mark_in r) o)
unfolding bare_of bare_by_prefixes
bare_same s r rex_is o t len at =
    with_found (bare_by_prefixes false (mark_in r) false o) (λ op. Bare op) s r false o t (not s && ((r == 0) || (r == 0x48))) len
    (λ op f.
    let row = row_is false (mark_in r) false o (bare_row op) (found (λ op. is_prefix_row false (mark_in r) false o (bare_row op)) bare_ops op f) in
    let p = (bare_row op).opcode in
    accepts_bare s r rex_is false o t (Bare op) (not s && ((r == 0) || (r == 0x48))) len at
    (record {
      z = false;
      mark = (bare_row op).mark;
      bits = 0;
      fits = lit< tt;
      p = p;
      is = subst IsOpcode (sym row.opcode) (bare_opcode op);
      ip = bare_opcode op;
      u = [];
      spelled = refl;
      front_is = unsized s _ ∙ ap (λ b. not s && b) (bare_front r (bare_row op).mark row.marked);
      tail_is = no_tail p o (sym row.opcode) t;
      long = λ _. refl;
    }))

pub three_read : (t : List ℕ) → 3 ≤ length t → t ≡ (slice_index t 0 ∷ slice_index t 1 ∷ slice_index t 2 ∷ []) ++ drop 3 t
three_read (a ∷ b ∷ c ∷ t) le = refl
three_read _ le = absurd (omega (arith, le))

pub all_four : (a b c d e f g : Bool) → (a ≡ e) → (b ≡ f) → (c ≡ g) → (a && (b && (c && d))) ≡ (e && (f && (g && d)))
all_four a b c d e f g x y z = rw (x, y, z) refl

pub sum_tail : (t : List ℕ) (r reg base index : ℕ) → slice_index t 0 % 8 ≡ 4 → reg % 8 ≡ slice_index t 0 / 8 % 8 → base % 8 ≡ slice_index t 1 % 8 → index % 8 ≡ slice_index t 1 / 8 % 8 → starts_with nat_eq t (modrm 1 reg 4 ∷ sib index base ∷ 0 ∷ []) ≡ is_sum t
sum_tail [] r reg base index four x y z = refl
sum_tail (a ∷ []) r reg base index four x y z = rw (and_false (modrm 1 reg 4 == a), and_false (a / 64 == 1)) refl
sum_tail (a ∷ b ∷ []) r reg base index four x y z = rw (and_false (sib index base == b), and_false (modrm 1 reg 4 == a), and_false (b / 64 == 0), and_false (a / 64 == 1)) refl
sum_tail (a ∷ b ∷ c ∷ t) r reg base index four x y z =
    let long : has_bytes 3 (a ∷ b ∷ c ∷ t) ≡ true = grind (arith, nat_tests) in
    all_four (modrm 1 reg 4 == a) (sib index base == b) (0 == c) true (a / 64 == 1) (b / 64 == 0) (c == 0)
    (decided (modrm 1 reg 4 == a) (a / 64 == 1) (λ e. let is = eqb-true (modrm 1 reg 4) a e in true_is (a / 64) 1 (omega (arith, is, x, four))) (λ e. let is = eqb-true (a / 64) 1 e in true_is (modrm 1 reg 4) a (omega (arith, is, x, four))))
    (decided (sib index base == b) (b / 64 == 0) (λ e. let is = eqb-true (sib index base) b e in true_is (b / 64) 0 (omega (arith, is, y, z))) (λ e. let is = eqb-true (b / 64) 0 e in true_is (sib index base) b (omega (arith, is, y, z))))
    (turned 0 c)
    ∙ ap (λ d. (a / 64 == 1) && ((b / 64 == 0) && ((c == 0) && d))) (sym long)

pub sum_front : (r reg base index : ℕ) → IsRex r → reg / 8 ≡ r / 4 % 2 → index / 8 ≡ r / 2 % 2 → base / 8 ≡ r % 2 → (r == rex_value Wide (extension reg index base)) ≡ (r / 8 % 2 == 1)
sum_front r reg base index rex_is a b c =
    decided (r == rex_value Wide (extension reg index base)) (r / 8 % 2 == 1)
    (λ e. let is : r ≡ 0x48 + extension reg index base = eqb-true r (0x48 + extension reg index base) e in true_is (r / 8 % 2) 1 (omega (arith, is, a, b, c)))
    (λ e. let w = eqb-true (r / 8 % 2) 1 e in true_is r (0x48 + extension reg index base) (ranged rex_is w))
  where
    ranged : IsRex r → r / 8 % 2 ≡ 1 → r ≡ 0x48 + extension reg index base
    ranged (none naught) w = omega (arith, naught, w)
    ranged (some over under) w = omega (arith, over, under, w, a, b, c)

pub lea_same : (s : Bool) (r : ℕ) → IsRex r → (t : List ℕ) → AreBytes t → (len : ℕ) → len ≡ front_length s r false → read_lea s r len t ≡ checked (front_bytes s r false 0x8d t) (lea_of r t)
unfolding read_lea lea_of
lea_same s r rex_is t h len at = by (slice_index t 0 % 8 == 4 && not (index_in r t == 4)) refl
  where
    reg : ℕ
    reg = reg_in r t

    rm : ℕ
    rm = rm_in r t

    by : (b : Bool) → (slice_index t 0 % 8 == 4 && not (index_in r t == 4)) ≡ b → (if b then accepted ((not s && (r / 8 % 2 == 1)) && is_sum t) (len + 3) (if b then Some (Lea2 reg (base_in r t) (index_in r t)) else Some (Load Lea reg rm (disp_in t))) else accepted ((not s && is_wide r) && is_memory t) (len + memory_length t) (if b then Some (Lea2 reg (base_in r t) (index_in r t)) else Some (Load Lea reg rm (disp_in t)))) ≡ checked (front_bytes s r false 0x8d t) (if b then Some (Lea2 reg (base_in r t) (index_in r t)) else Some (Load Lea reg rm (disp_in t)))
    by true e =
        let four = eqb-true (slice_index t 0 % 8) 4 (and_parts (slice_index t 0 % 8 == 4) _ e).0 in
        accepts s r rex_is false 0x8d t (Lea2 reg (base_in r t) (index_in r t)) (not s && (r / 8 % 2 == 1)) (is_sum t) len 3 at
        (record {
          z = false;
          mark = Wide;
          bits = extension reg (index_in r t) (base_in r t);
          fits = extension_fits reg (index_in r t) (base_in r t) (omega arith) (omega arith) (omega arith);
          p = 0x8d;
          is = plain_opcode 0x8d refl refl refl;
          ip = plain_opcode 0x8d refl refl refl;
          u = modrm 1 reg 4 ∷ sib (index_in r t) (base_in r t) ∷ 0 ∷ [];
          spelled = refl;
          front_is = unsized s _ ∙ ap (λ b. not s && b) (sum_front r reg (base_in r t) (index_in r t) rex_is (omega arith) (omega arith) (omega arith));
          tail_is = sum_tail t r reg (base_in r t) (index_in r t) four (omega arith) (omega arith) (omega arith);
          long = λ _. refl;
        })
    by false e =
        accepts s r rex_is false 0x8d t (Load Lea reg rm (disp_in t)) (not s && is_wide r) (is_memory t) len (memory_length t) at
        (record {
          z = false;
          mark = Wide;
          bits = extension reg 0 rm;
          fits = extension_fits reg 0 rm (omega arith) (lit< tt) (omega arith);
          p = 0x8d;
          is = plain_opcode 0x8d refl refl refl;
          ip = plain_opcode 0x8d refl refl refl;
          u = memory reg rm (disp_in t);
          spelled = append_assoc (rex Wide (extension reg 0 rm)) (0x8d ∷ []) (memory reg rm (disp_in t));
          front_is = unsized s _ ∙ ap (λ b. not s && b) (wide_is r reg rm rex_is (omega arith) (omega arith));
          tail_is = memory_tail t reg rm h (omega arith) (omega arith);
          long = memory_long t reg rm (omega arith);
        })
