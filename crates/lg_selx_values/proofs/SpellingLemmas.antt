-- The items of a node are spelled in at most 10 bytes each.
use Rattle.std.proofs.Common.{ℕ, ◌-◌, ◌*◌, ◌≤◌, List, [], ◌∷◌, length, length-append, arith}
use Rattle.std.specs.Prelude.{⊤, pos}
use Rattle.lg_base.specs.Words.{signed_view}
use Rattle.lg_x86.specs.Spelling.{spelling}
use Rattle.lg_x86.specs.declared.instruction.BareOp.TheVariants as bare
use Rattle.lg_x86.specs.declared.instruction.LoadOp.TheVariants as load
use Rattle.lg_x86.specs.declared.instruction.Instr.{Instr}
use Rattle.lg_x86.specs.declared.instruction.Instr.TheVariants.{RmReg, Imm, RegRm, Load, Lea2, Movi32, Unary, Shift, Bswap, Set, Bare}
use Rattle.lg_x86.proofs.SizeLemmas.{sized}
use Rattle.lg_selx_values.specs.Processor.Numbers.{number_row}
use Rattle.lg_sel.specs.Holes.{Each}
use Rattle.lg_selx_values.specs.declared.items.Item.{Item}
use Rattle.lg_selx_values.specs.declared.items.Item.TheVariants.{One, Address}
use Rattle.lg_selx_values.specs.Items.{blank, words_in, blanks}
use Rattle.lg_selx_values.specs.ValueItems.{save, restore}
use Rattle.lg_selx_values.proofs.RowLemmas.{HoldsOfRows}

abbrev pub IsShort : Item → Type 0
IsShort x = length (spelling (blank x)) ≤ 10

few : (i : Instr) → length (spelling i) ≤ 10
few i = (sized i).short

pub rows-short : (frame : ℕ) → HoldsOfRows frame (λ i. length (spelling i) ≤ 10) (λ v. ⊤)
rows-short frame = record {
  two = λ o rm reg f l. few (RmReg o rm reg);
  half = λ o rm v f small e. few (Imm o rm (signed_view v));
  near = λ reg base v f l small e. few (Load load.Lea reg base (signed_view v));
  sum = λ reg base index f l k ne. few (Lea2 reg base index);
  turned = λ v small. tt;
  ext = λ o reg rm f l. few (RegRm o reg rm);
  number = λ r v f small. few (number_row r v);
  zero = few (Movi32 2 0);
  one = λ o rm f. few (Unary o rm);
  shift = λ o rm count f l. few (Shift o rm count);
  turn = λ r f. few (Bswap r);
  set = λ c r f. few (Set c r);
  sign = few (Bare bare.Cqo);
  again = few (Load load.Lea 5 4 (pos (frame - 16)));
}

pub address-short : (t l : ℕ) → IsShort (Address t l)
address-short t l = few (blank (Address t l))

pub save-short : (r k : ℕ) → IsShort (One (save r k))
save-short r k = few (save r k)

pub restore-short : (r k : ℕ) → IsShort (One (restore r k))
restore-short r k = few (restore r k)

pub bytes-few : (xs : List Item) → Each IsShort xs → length (blanks xs) ≤ 10 * words_in xs
bytes-few [] h = omega arith
bytes-few (x ∷ xs) h = let s = h.0 in let l = length-append (spelling (blank x)) (blanks xs) in let m = bytes-few xs h.1 in omega (arith, s, l, m)
